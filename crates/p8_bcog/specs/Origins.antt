-- Which origins begin a life of Spin.
use Rattle.p8_access.specs.declared.kinds.Origin.{Origin}
use Rattle.p8_access.specs.declared.kinds.Origin.TheVariants.{Pasm, Spin}

abbrev pub IsSpin : Origin → Type 0
IsSpin (Spin entry pbase vbase frame size) = Unit {0}
IsSpin (Pasm code par) = ⊥
