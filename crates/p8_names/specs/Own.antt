-- What a name of a method's own is.
use Rattle.p8_kinds.specs.declared.name_kinds.NameKind.{NameKind}
use Rattle.p8_kinds.specs.declared.name_kinds.NameKind.TheVariants as kind

-- a long of the frame
abbrev pub IsLocal : NameKind → Type 0
IsLocal (kind.Local offset) = Unit {0}
IsLocal k = ⊥
