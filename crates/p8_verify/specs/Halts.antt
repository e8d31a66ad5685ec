-- What a halt by a register names. A cog's registers are numbered from 0 to 511.
use Rattle.std.specs.Prelude.{◌<◌}
use Rattle.p8_access.specs.declared.kinds.Reason.{Reason}
use Rattle.p8_access.specs.declared.kinds.Reason.TheVariants.{Register}
use Rattle.p8_access.specs.declared.kinds.Access.{Access}
use Rattle.p8_access.specs.declared.kinds.Access.TheVariants.{Halt}
use Rattle.p8_access.specs.declared.order.Turn.{Turn}

-- where a halt's reason is a register, it is one of the 512
abbrev pub IsProperReason : Reason → Type 0
IsProperReason (Register register) = register < 512
IsProperReason _ = Unit {0}

-- where an access is a halt, its reason is so
abbrev pub IsProperHalt : Access → Type 0
IsProperHalt (Halt reason) = IsProperReason reason
IsProperHalt _ = Unit {0}

-- where the access of a turn is a halt by a register, it names one of the 512
abbrev pub NamesRegister : Turn → Type 0
NamesRegister turn = IsProperHalt turn.access
