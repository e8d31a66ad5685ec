use Rattle.std.proofs.Common.{arith, subst}
use Rattle.p8_fold.specs.ConstantEntries.{setting_of}
use Rattle.p8_constants.specs.Rules.{HasFaultInCount, FaultInCount}
use Rattle.p8_constants.specs.Standing.{IsFirstOf}
use Rattle.p8_constants.proofs.FirstFaults.{so_far_begin}
use Rattle.p8_constants.proofs.Walking.{any_more, any_end}
use Rattle.p8_constants.proofs.rules.first_count_fault.Goals as goal

pub loop-item-init : goal.loop-item-init
loop-item-init c = so_far_begin _

pub loop-item-preserved : goal.loop-item-preserved
loop-item-preserved c =
    any_more (HasFaultInCount (setting_of c.args.consts.now)) c.args.items.now c.loop-item.item-index c.item-item.result c.loop-item.first c.count_fault.result (omega arith) c.item-item.is c.loop-item.invariant
    (subst (λ count. IsFirstOf c.count_fault.result (FaultInCount (setting_of c.args.consts.now) count)) c.count.ensures c.count_fault.ensures) c.first_of_two-first.ensures

pub returns : goal.returns
returns c = any_end (HasFaultInCount (setting_of c.args.consts.now)) c.args.items.now c.loop-item.item-index c.loop-item.first (omega arith) c.loop-item.invariant
