use Rattle.std.proofs.Common.{◌≡◌, ℕ, List, take}
use Rattle.std.specs.Prelude.{slice_get}
use Rattle.p8_kinds.specs.Kinds.{own}
use Rattle.p8_kinds.specs.Publics.{method_in}
use Rattle.p8_kinds.proofs.publics.publics_of.Given as goal

abbrev pub invariant-loop-index : goal.invariant-loop-index
invariant-loop-index l = (item : ℕ) (name : List ℕ) → own l.kinds item name ≡ method_in (slice_get (take l.index l.children.items) item) name
