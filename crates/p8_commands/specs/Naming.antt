-- internal
-- Names that are borrowed.
use Rattle.std.specs.Prelude.{ℕ, List, Option, Some, None}
use Rattle.std.specs.Borrow.{Bor}

-- a name that is borrowed
abbrev pub name_of : Option (Bor (List ℕ)) → Option (List ℕ)
name_of None = None
name_of (Some name) = Some name.now
