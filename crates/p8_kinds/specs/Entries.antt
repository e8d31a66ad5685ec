-- What a map of maps holds: internal.
use Rattle.std.specs.Prelude.{ℕ, List, Option, Some, None, Vec}
use Rattle.std.specs.BTreeMap.{BTreeMap, get}
use Rattle.std.specs.Ordering.{nat_cmp}
use Rattle.std.specs.declared.alloc.Global.{Global}
use Rattle.p8_fold.specs.ConstantEntries as entries
use Rattle.p8_kinds.specs.declared.name_kinds.NameKind.{NameKind}

abbrev pub Names : Type 0
Names = BTreeMap (Vec ℕ Global) NameKind

-- the kind of the name with these bytes
abbrev pub at_bytes : List ℕ → Names → Option NameKind
at_bytes name names = entries.at_bytes name names

-- the names at a number
abbrev pub names_at : ℕ → BTreeMap ℕ Names → Option Names
names_at number scopes = get nat_cmp scopes number

abbrev pub in_names : List ℕ → Option Names → Option NameKind
in_names name None = None
in_names name (Some names) = at_bytes name names

-- the kind of a name at a number
abbrev pub at_number : ℕ → List ℕ → BTreeMap ℕ Names → Option NameKind
at_number number name scopes = in_names name (names_at number scopes)
