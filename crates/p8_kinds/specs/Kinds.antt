-- The kinds of a file's names. Names of the whole file stand at number 0; those of one method, its parameters, its result and
-- its locals, at the method's number: `PUB`s in order and then `PRI`s, from 1 (Propeller Manual v1.2, "PUB" and "PRI").
use Rattle.std.specs.Prelude.{ℕ, List, Option, Some, None}
use Rattle.p8_kinds.specs.declared.kinds.Kinds.{Kinds}
use Rattle.p8_kinds.specs.declared.name_kinds.NameKind.{NameKind}
use Rattle.p8_kinds.specs.Entries.{at_number}

-- what a name of this method alone is, or at 0 one of the whole file
abbrev pub own : Kinds → ℕ → List ℕ → Option NameKind
own kinds method name = at_number method name kinds.scopes

-- the first, or else the second
abbrev pub or_else : Option NameKind → Option NameKind → Option NameKind
or_else (Some kind) other = Some kind
or_else None other = other

-- what a name is in a method: a name of its own, or else one of the whole file
abbrev pub kind_of : Kinds → ℕ → List ℕ → Option NameKind
kind_of kinds method name = or_else (own kinds method name) (own kinds 0 name)
