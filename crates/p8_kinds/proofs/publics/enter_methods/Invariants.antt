use Rattle.std.proofs.Common.{◌≡◌, ℕ, List, take}
use Rattle.p8_kinds.specs.Kinds.{own}
use Rattle.p8_kinds.specs.Publics.{method_among}
use Rattle.p8_kinds.proofs.publics.enter_methods.Given as goal

abbrev pub invariant-loop-index : goal.invariant-loop-index
invariant-loop-index l =
    ((name : List ℕ) → own l.kinds l.item name ≡ method_among 1 (take l.index l.methods) name)
    × ((other : ℕ) (name : List ℕ) → ¬ (other ≡ l.item) → own l.kinds other name ≡ own l.initial.kinds other name)
