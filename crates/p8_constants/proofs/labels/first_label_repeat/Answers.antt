use Rattle.std.proofs.Common.{[], ◌+◌, drop, subst, arith}
use Rattle.p8_constants.specs.Names.{place_of}
use Rattle.p8_constants.specs.Repeats.{label_of, region_behind, LabelRepeats, LabelRepeatIn}
use Rattle.p8_constants.specs.Standing.{item_of, items_of, IsFirstOf, Holds}
use Rattle.p8_constants.proofs.FirstFaults.{IsSoFar, so_far_then}
use Rattle.p8_constants.proofs.Walking.{rest_of}
use Rattle.p8_constants.proofs.labels.first_label_repeat.Goals as goal

pub loop-item-preserved : goal.loop-item-preserved
loop-item-preserved c =
    let xs = c.args.items.now in
    let i = c.loop-item.item-index in
    let x = item_of c.item-item.result in
    let names = c.loop-item.invariant.0 in
    let holds = c.loop-item.invariant.1 in
    let here = subst (λ ys. IsSoFar (LabelRepeatIn [] (items_of xs)) c.loop-item.first (LabelRepeatIn names ys)) (rest_of xs i c.item-item.result (omega arith) c.item-item.is) c.loop-item.invariant.2 in
    let own = subst (λ p. IsFirstOf c.label_repeated.result (LabelRepeats names (label_of x) p)) c.place.ensures
    (subst (λ o. IsFirstOf c.label_repeated.result (LabelRepeats names o c.place.result)) c.label.ensures (c.label_repeated.ensures names holds)) in (
      region_behind names (label_of x),
      subst (λ o. Holds c.go_behind.new.region (region_behind names o)) c.label-in-loop-item.ensures (c.in_ok-go_behind.ensures names holds),
      so_far_then {Own = LabelRepeats names (label_of x) (place_of x)} {Left = LabelRepeatIn (region_behind names (label_of x)) (items_of (drop (i + 1) xs))} c.loop-item.first c.label_repeated.result here own c.first_of_two-first.ensures,
    )
