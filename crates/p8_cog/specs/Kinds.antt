-- What is told of the life that runs, whichever kind it is.
use Rattle.std.specs.Prelude.{ℕ, Option}
use Rattle.p8_access.specs.declared.kinds.Access.{Access}
use Rattle.p8_cog.specs.declared.life_kind.LifeKind.{LifeKind}
use Rattle.p8_cog.specs.declared.life_kind.LifeKind.TheVariants.{Pasm, Spin}

-- a number
abbrev pub number_of : LifeKind → (pasm spin : ℕ) → ℕ
number_of Pasm pasm spin = pasm
number_of Spin pasm spin = spin

-- an access with a clock, or none
abbrev pub access_of : LifeKind → (pasm spin : Option (ℕ × Access)) → Option (ℕ × Access)
access_of Pasm pasm spin = pasm
access_of Spin pasm spin = spin

-- a fact
abbrev pub fact_of : LifeKind → (pasm spin : Type 0) → Type 0
fact_of Pasm pasm spin = pasm
fact_of Spin pasm spin = spin
