use Rattle.std.proofs.Common.{◌+◌, drop, subst, arith}
use Rattle.p8_fold.specs.ConstantEntries.{setting_of}
use Rattle.p8_constants.specs.Rules.{instances_behind, HasWrongInstances, WrongInstancesIn}
use Rattle.p8_constants.specs.Standing.{item_of, items_of}
use Rattle.p8_constants.proofs.FirstFaults.{IsSoFar, so_far_then}
use Rattle.p8_constants.proofs.Walking.{rest_of}
use Rattle.p8_constants.proofs.instances.first_instance_fault.Goals as goal

pub loop-item-preserved : goal.loop-item-preserved
loop-item-preserved c =
    let s = setting_of c.args.consts.now in
    let xs = c.args.items.now in
    let i = c.loop-item.item-index in
    let x = item_of c.item-item.result in
    let all = c.loop-item.invariant.1.0 in
    let capped = c.loop-item.invariant.1.1 in
    let here = subst (λ ys. IsSoFar (WrongInstancesIn s 0 (items_of xs)) c.loop-item.first (WrongInstancesIn s all ys)) (rest_of xs i c.item-item.result (omega arith) c.item-item.is) c.loop-item.invariant.1.2 in (
      c.behind-before.ensures.bound,
      (
        instances_behind s all x,
        c.behind-before.ensures.counted all capped,
        so_far_then {Own = HasWrongInstances s all x} {Left = WrongInstancesIn s (instances_behind s all x) (items_of (drop (i + 1) xs))} c.loop-item.first c.instance_fault.result here (c.instance_fault.ensures all capped) c.first_of_two-first.ensures,
      ),
    )
