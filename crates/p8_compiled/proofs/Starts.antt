-- What a cog may be started with.
use Rattle.std.proofs.Common.{ℕ}
use Rattle.p8_access.specs.declared.kinds.Origin.{Origin}
use Rattle.p8_access.specs.declared.kinds.Origin.TheVariants.{Pasm, Spin}
use Rattle.p8_access.specs.declared.kinds.Access.{Access}
use Rattle.p8_access.specs.declared.kinds.Access.TheVariants.{Begin, Load, CogInit}
use Rattle.p8_access.specs.Proper.{IsNumber}
use Rattle.p8_meaning.specs.Programs.{Program, Addresses, Target}
use Rattle.p8_meaning.specs.Lives.{IsMethodOrigin}

-- the origin of a method of the project
pub record IsNamed (program : Program) (addresses : Addresses) (origin : Origin) : Type 0 where
  pub target : Target
  pub frame : ℕ
  pub is_method : IsMethodOrigin program addresses origin target frame

-- Propeller Assembly, or a method
abbrev pub IsOfProject : Program → Addresses → Origin → Type 0
IsOfProject program addresses (Pasm code par) = Unit {0}
IsOfProject program addresses (Spin entry pbase vbase frame size) = IsNamed program addresses (Spin entry pbase vbase frame size)

-- What a life may ask: no begin of its own, and a start of a cog, if it names one of a cog below 8, with Propeller Assembly or a method.
abbrev pub StaysInProject : Program → Addresses → Access → Type 0
StaysInProject program addresses Begin = ⊥
StaysInProject program addresses Load = ⊥
StaysInProject program addresses (CogInit target origin) = IsNumber target × IsOfProject program addresses origin
StaysInProject program addresses _ = Unit {0}
