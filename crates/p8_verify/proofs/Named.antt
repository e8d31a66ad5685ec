-- Accesses whose halts name registers of a cog, wrapped so that they are found.
use Rattle.std.proofs.Common.{Bool, true, false, if◌then◌else◌, Option, Some, None}
use Rattle.p8_access.specs.declared.kinds.Access.{Access}
use Rattle.p8_verify.specs.Halts.{IsProperHalt}

pub record Named (access : Access) : Type 0 where
  pub halts : IsProperHalt access

pub if-named : (b : Bool) {x y : Access} → Named x → Named y → Named (if b then x else y)
if-named true h k = h
if-named false h k = k

-- an access that may be asked
abbrev pub NamedIf : Option Access → Type 0
NamedIf None = Unit {0}
NamedIf (Some access) = IsProperHalt access

pub record OptionNamed (o : Option Access) : Type 0 where
  pub some : NamedIf o

pub none-named : OptionNamed None
none-named = record { some = tt }

pub if-option : (b : Bool) {x y : Option Access} → OptionNamed x → OptionNamed y → OptionNamed (if b then x else y)
if-option true h k = h
if-option false h k = k
