-- Turns as a ledger makes them.
use Rattle.std.specs.Prelude.{ℕ, ◌<◌, Option, Some, None, List, [], ◌∷◌}
use Rattle.std.proofs.Props.{props}
use Rattle.p8_access.specs.declared.kinds.Origin.{Origin}
use Rattle.p8_access.specs.declared.kinds.Origin.TheVariants.{Pasm, Spin}
use Rattle.p8_access.specs.declared.kinds.Access.{Access}
use Rattle.p8_access.specs.declared.kinds.Access.TheVariants.{CogInit}
use Rattle.p8_access.specs.declared.kinds.Answer.{Answer}
use Rattle.p8_access.specs.declared.kinds.Answer.TheVariants.{Done, Value, Number, Was}
use Rattle.p8_access.specs.declared.order.Turn.{Turn}
use Rattle.p8_access.specs.Proper.{IsNumber, IsProperOrigin, IsProper}

-- a number in an answer names one of the eight cogs or locks
abbrev pub HasNumber : Answer → Type 0
HasNumber Done = Unit {0}
HasNumber (Value value) = Unit {0}
HasNumber (Number number) = IsNumber number
HasNumber (Was set) = Unit {0}

-- a turn is that of one of the eight cogs, with an access that is well formed
abbrev pub IsProperTurn : Turn → Type 0
IsProperTurn turn = (turn.key.cog < 8) × IsProper turn.access × HasNumber turn.answer

abbrev pub AreProper : List Turn → Type 0
AreProper [] = Unit {0}
AreProper (turn ∷ turns) = IsProperTurn turn × AreProper turns

-- such a fact has one proof
is_prop-IsNumber : (n : Option ℕ) → IsProp (IsNumber n)
is_prop-IsNumber None = hlevel props
is_prop-IsNumber (Some n) = hlevel props

is_prop-IsProperOrigin : (origin : Origin) → IsProp (IsProperOrigin origin)
is_prop-IsProperOrigin (Pasm code par) = hlevel props
is_prop-IsProperOrigin (Spin entry pbase vbase frame size) = hlevel props

is_prop-IsProper : (access : Access) → IsProp (IsProper access)
is_prop-IsProper (CogInit target origin) = hlevel (props, is_prop-IsNumber target, is_prop-IsProperOrigin origin)
is_prop-IsProper _ = hlevel props

is_prop-HasNumber : (answer : Answer) → IsProp (HasNumber answer)
is_prop-HasNumber (Number number) = is_prop-IsNumber number
is_prop-HasNumber _ = hlevel props

pub is_prop-AreProper : (turns : List Turn) → IsProp (AreProper turns)
is_prop-AreProper [] = hlevel props
is_prop-AreProper (turn ∷ turns) = hlevel (props, is_prop-IsProper turn.access, is_prop-HasNumber turn.answer, is_prop-AreProper turns)
