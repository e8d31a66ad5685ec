use Rattle.std.proofs.Common.{◌+◌, map, drop, subst, arith}
use Rattle.p8_tree.specs.Views.{declared_of}
use Rattle.p8_fold.specs.ConstantEntries.{setting_of}
use Rattle.p8_constants.specs.Rules.{FaultInCount}
use Rattle.p8_constants.proofs.Listed.{rest_is, rest_is_empty}
use Rattle.p8_constants.proofs.FirstFaults.{IsSoFar, so_far_begin, so_far_then, so_far_end}
use Rattle.p8_names.specs.Faults.{FaultInLocals}
use Rattle.p8_names.proofs.method_faults.first_local_fault.Goals as goal

pub loop-local-init : goal.loop-local-init
loop-local-init c = so_far_begin _

pub loop-local-preserved : goal.loop-local-preserved
loop-local-preserved c =
    let s = setting_of c.args.consts.now in
    let ls = c.args.locals.now in
    let i = c.loop-local.local-index in
    let x = c.local-item.result in
    let here = subst (λ ys. IsSoFar (FaultInLocals s (map declared_of ls)) c.loop-local.first (FaultInLocals s (map declared_of ys))) (rest_is ls i x (omega arith) c.local-item.is) c.loop-local.invariant in
    so_far_then {Own = FaultInCount s (declared_of x).count} {Left = FaultInLocals s (map declared_of (drop (i + 1) ls))} c.loop-local.first c.local_fault.result here c.local_fault.ensures c.first_of_two-first.ensures

pub returns : goal.returns
returns c = so_far_end c.loop-local.first (λ g r. subst (λ ys. FaultInLocals (setting_of c.args.consts.now) (map declared_of ys) g) (rest_is_empty c.args.locals.now c.loop-local.local-index (omega arith)) r) c.loop-local.invariant
