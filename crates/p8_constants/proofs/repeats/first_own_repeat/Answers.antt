use Rattle.std.proofs.Common.{arith}
use Rattle.p8_constants.specs.Repeats.{HasOwnRepeat}
use Rattle.p8_constants.proofs.FirstFaults.{so_far_begin}
use Rattle.p8_constants.proofs.Walking.{any_more, any_end}
use Rattle.p8_constants.proofs.repeats.first_own_repeat.Goals as goal

pub loop-item-init : goal.loop-item-init
loop-item-init c = λ names h. so_far_begin _

pub loop-item-preserved : goal.loop-item-preserved
loop-item-preserved c = λ names h.
    any_more (HasOwnRepeat names) c.args.items.now c.loop-item.item-index c.item-item.result c.loop-item.first c.in_ok-own_repeated.field-0 (omega arith) c.item-item.is
    (c.loop-item.invariant names h) (c.in_ok-own_repeated.ensures names h) c.first_of_two-first.ensures

pub returns : goal.returns
returns c = λ names h. any_end (HasOwnRepeat names) c.args.items.now c.loop-item.item-index c.loop-item.first (omega arith) (c.loop-item.invariant names h)
