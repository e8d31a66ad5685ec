use Rattle.std.proofs.Common.{ℕ, List, drop}
use Rattle.p8_constants.specs.Rules.{InAny}
use Rattle.p8_constants.specs.Repeats.{HasOwnRepeat}
use Rattle.p8_constants.specs.Standing.{items_of, Holds}
use Rattle.p8_constants.proofs.FirstFaults.{IsSoFar}
use Rattle.p8_constants.proofs.repeats.first_own_repeat.Given as goal

abbrev pub invariant-loop-item : goal.invariant-loop-item
invariant-loop-item l = (names : List (List ℕ)) → Holds l.shared names → IsSoFar (InAny (HasOwnRepeat names) (items_of l.items)) l.first (InAny (HasOwnRepeat names) (items_of (drop l.item-index l.items)))
