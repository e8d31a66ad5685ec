-- The operands of a bytecode, and what is tested of them before anything else.
use Rattle.std.specs.Prelude.{ℕ, ◌+◌, ◌-◌, ◌%◌, ◌^◌, nat_lt, [], ◌∷◌, ◌++◌, length, take, slice_index, if◌then◌else◌, Bool}
use Rattle.std.specs.Prelude.{Option, Some, None}
use Rattle.p8_access.specs.declared.kinds.Reason.{Reason}
use Rattle.p8_access.specs.declared.kinds.Reason.TheVariants as Why
use Rattle.p8_access.specs.Courses.{Course, Stop}
use Rattle.p8_bcog.specs.declared.state.SpinState.{SpinState}
pub use Rattle.p8_words.specs.Fields.{is_at_most, is_between, sum_of, difference, distance}

-- how many operands there are
abbrev pub operands : SpinState → ℕ
operands s = length s.stack - s.base

-- the operand so many places below the top, 0 for the top itself
abbrev pub operand : SpinState → (below : ℕ) → ℕ
operand s below = slice_index s.stack (length s.stack - 1 - below)

-- so many operands are taken
abbrev pub taken : (count : ℕ) → SpinState → SpinState
taken count s = record s { stack = take (length s.stack - count) s.stack }

-- a value is left
abbrev pub pushed : (value : ℕ) → SpinState → SpinState
pushed value s = record s { stack = s.stack ++ value ∷ [] }

-- a value is left, if there is one
abbrev pub left_by : Option ℕ → SpinState → SpinState
left_by None s = s
left_by (Some value) s = pushed value s

-- so many operands are taken, and then a value is left
abbrev pub replaced : (count value : ℕ) → SpinState → SpinState
replaced count value s = pushed value (taken count s)

-- a bytecode that takes and leaves so many longs halts where there are too few operands, and else where the stack
-- would hold more than 16,384 longs
abbrev pub refusal : (takes leaves : ℕ) → SpinState → Option Reason
refusal takes leaves s =
    if nat_lt (operands s) takes then Some Why.Under
    else if nat_lt 16384 (length s.stack - takes + leaves) then Some Why.Stack
    else None

abbrev pub stopped_by : Option Reason → Course SpinState → Course SpinState
stopped_by None course = course
stopped_by (Some reason) course = Stop reason

abbrev pub tested : (takes leaves : ℕ) → SpinState → Course SpinState → Course SpinState
tested takes leaves s course = stopped_by (refusal takes leaves s) course

-- a jump counts from the byte after it; an offset is a word in two's complement
abbrev pub jumped : (offset : ℕ) → SpinState → SpinState
jumped offset s = record s { at = (s.at + offset) % 2 ^ 16 }

abbrev pub jumped_if : Bool → (offset : ℕ) → SpinState → SpinState
jumped_if jumps offset s = if jumps then jumped offset s else s

-- ---- signed values
