use Rattle.std.proofs.Common.{◌≡◌, ◌++◌, take}
use Rattle.p8_tree.specs.Views.{statements_of, arms_of}
use Rattle.p8_hint.specs.Spots.{in_block, in_arms, in_cases}
use Rattle.p8_hint.specs.SpotViews.{place_at, spots_of}
use Rattle.p8_hint.proofs.statements.+statements.Given as goal

abbrev pub invariant-put_block-loop-index : goal.invariant-put_block-loop-index
invariant-put_block-loop-index l = spots_of l.spots.items ≡ spots_of l.initial.spots.items ++ in_block (statements_of (take l.index l.statements)) (place_at l.statements l.index)

abbrev pub invariant-put_arms-loop-arm : goal.invariant-put_arms-loop-arm
invariant-put_arms-loop-arm l = spots_of l.spots.items ≡ spots_of l.initial.spots.items ++ in_arms (arms_of (take l.arm-index l.arms))

abbrev pub invariant-put_cases-loop-arm : goal.invariant-put_cases-loop-arm
invariant-put_cases-loop-arm l = spots_of l.spots.items ≡ spots_of l.initial.spots.items ++ in_cases (arms_of (take l.arm-index l.arms))
