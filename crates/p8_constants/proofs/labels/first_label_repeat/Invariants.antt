use Rattle.std.proofs.Common.{ℕ, List, [], drop}
use Rattle.p8_constants.specs.Repeats.{LabelRepeatIn}
use Rattle.p8_constants.specs.Standing.{items_of, Holds}
use Rattle.p8_constants.proofs.FirstFaults.{IsSoFar}
use Rattle.p8_constants.proofs.labels.first_label_repeat.Given as goal

abbrev pub invariant-loop-item : goal.invariant-loop-item
invariant-loop-item l = (names : List (List ℕ)) × Holds l.region names × IsSoFar (LabelRepeatIn [] (items_of l.items)) l.first (LabelRepeatIn names (items_of (drop l.item-index l.items)))
