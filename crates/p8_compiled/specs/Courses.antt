-- What the bytecodes of a compiler do, by what they take from the operand stack and where they go on.
use Rattle.std.specs.Prelude.{Contains, ℕ, ◌+◌, ◌-◌, ◌≡◌, Bool, true, false, List, length, drop, Option, Some, None, if◌then◌else◌}
use Rattle.p8_access.specs.Courses.{Course, Finish}
use Rattle.p8_tree.specs.declared.places.Place.{Place}
use Rattle.p8_bytecode.specs.declared.op.Op.{Op}
use Rattle.p8_bcog.specs.declared.state.SpinState.{SpinState}
use Rattle.p8_bcog.specs.declared.variable_place.VariablePlace as place
use Rattle.p8_bcog.specs.declared.variable_place.VariablePlace.TheVariants as place_case
use Rattle.p8_bcog.specs.Operands.{operand, taken, pushed, tested}
use Rattle.p8_bcog.specs.Code.{fetched}
use Rattle.p8_bcog.specs.Bytecodes.{row}
use Rattle.p8_meaning.specs.Variables.{Location, Hub, Pins}

-- at p stands a bytecode that does this, and that is made from the statement at hand; q is the place after it
abbrev pub Does : (memory : List ℕ) (cog : ℕ) (table : List (ℕ × Place)) (hand : Place) (p : ℕ) → (SpinState → Course SpinState) → (q : ℕ) → Type 0
Does memory cog table hand p course q = (op : Op) × (fetched memory p ≡ Some (op, q)) × ((s : SpinState) → s.at ≡ q → row memory cog op s ≡ course s) ×
    Contains table (p, hand)

abbrev pub goes_to : (p : ℕ) → SpinState → SpinState
goes_to p s = record s { at = p }

abbrev pub goes_if : Bool → (p : ℕ) → SpinState → SpinState
goes_if jumps p s = if jumps then goes_to p s else s

-- a value is left
abbrev pub gives : (value : ℕ) → SpinState → Course SpinState
gives value s = tested 0 1 s (Finish (pushed value s))

-- one to four operands are taken, the last one from the top, and then so many longs may be left
-- nothing is taken
abbrev pub takes_none : (leaves : ℕ) → (SpinState → Course SpinState) → SpinState → Course SpinState
takes_none leaves go s = tested 0 leaves s (go s)

abbrev pub takes_one : (leaves : ℕ) → (ℕ → SpinState → Course SpinState) → SpinState → Course SpinState
takes_one leaves go s = tested 1 leaves s (go (operand s 0) (taken 1 s))

abbrev pub takes_two : (leaves : ℕ) → (ℕ → ℕ → SpinState → Course SpinState) → SpinState → Course SpinState
takes_two leaves go s = tested 2 leaves s (go (operand s 1) (operand s 0) (taken 2 s))

abbrev pub takes_three : (leaves : ℕ) → (ℕ → ℕ → ℕ → SpinState → Course SpinState) → SpinState → Course SpinState
takes_three leaves go s = tested 3 leaves s (go (operand s 2) (operand s 1) (operand s 0) (taken 3 s))

abbrev pub takes_four : (leaves : ℕ) → (ℕ → ℕ → ℕ → ℕ → SpinState → Course SpinState) → SpinState → Course SpinState
takes_four leaves go s = tested 4 leaves s (go (operand s 3) (operand s 2) (operand s 1) (operand s 0) (taken 4 s))

-- all operands that name a variable are taken, so many
abbrev pub tops : (count : ℕ) → SpinState → List ℕ
tops count s = drop (length s.stack - count) s.stack

abbrev pub takes_names : (named leaves : ℕ) → (List ℕ → SpinState → Course SpinState) → SpinState → Course SpinState
takes_names named leaves go s = tested named leaves s (go (tops named s) (taken named s))

-- and a value below them
abbrev pub takes_value : (named leaves : ℕ) → (List ℕ → ℕ → SpinState → Course SpinState) → SpinState → Course SpinState
takes_value named leaves go s = tested (named + 1) leaves s (go (tops named s) (operand s named) (taken (named + 1) s))

-- a variable, as the cog sees it
abbrev pub place_of : Location → place.VariablePlace
place_of (Hub width address) = place_case.Memory width address
place_of (Pins register high low) = place_case.Pins register high low

-- the value is left where it is used
abbrev pub leaves_if : (used : Bool) → ℕ
leaves_if used = if used then 1 else 0

abbrev pub if_used : (used : Bool) → ℕ → Option ℕ
if_used used value = if used then Some value else None

-- a value on the stack that isn't used
abbrev pub drops : (a : ℕ) → SpinState → Course SpinState
drops a st = Finish st

-- one of two facts
abbrev pub WhereSo : Bool → Type 0 → Type 0 → Type 0
WhereSo true fact other = fact
WhereSo false fact other = other
