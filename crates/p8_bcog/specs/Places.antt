-- Variables: hub memory, and pins of a register.
use Rattle.std.specs.Prelude.{ℕ, ◌+◌, ◌%◌, ◌^◌, ◌==◌, not, ◌&&◌, ◌||◌, Bool, nat_lt, nat_le, bit_and, Option, Some, None}
use Rattle.std.specs.Prelude.{if◌then◌else◌}
use Rattle.p8_access.specs.declared.kinds.Reason.TheVariants as Why
use Rattle.p8_access.specs.declared.kinds.Access.{Access}
use Rattle.p8_access.specs.declared.kinds.Access.TheVariants.{PinsIn, OutSet, DirSet, Clock}
use Rattle.p8_access.specs.Proper.{bytes_in}
use Rattle.p8_access.specs.Courses.{Course, Finish, Stop, Ask}
use Rattle.p8_bcog.specs.declared.state.SpinState.{SpinState}
use Rattle.p8_bcog.specs.declared.variable_place.VariablePlace.{VariablePlace}
use Rattle.p8_bcog.specs.declared.variable_place.VariablePlace.TheVariants.{Memory, Pins}
use Rattle.p8_bcog.specs.declared.step.Wanted.{Wanted}
use Rattle.p8_bcog.specs.declared.step.Wanted.TheVariants.{Pushed, Changed, Replaced, Stepped}
use Rattle.p8_bcog.specs.Operands.{pushed, left_by, is_between, sum_of, difference}
use Rattle.p8_words.specs.Operators.{is_unary, unary_value, binary_value}
use Rattle.p8_bcog.specs.Accesses.{word_in, ends, read_of, is_readable, rom_halt, write_of}
pub use Rattle.p8_words.specs.Fields.{extended, stepped, pins_in, ones, ordered, pins_of, mask_of, with_pins}

-- ---- registers by their addresses

-- what a register has that is read without an access: PAR is the life's first frame; OUTA, OUTB, DIRA and DIRB
-- are the cog's own; all others read 0
abbrev pub register_value : (register : ℕ) → SpinState → ℕ
register_value register s =
    if register == 0x1F0 then s.par
    else if register == 0x1F4 then s.outa
    else if register == 0x1F5 then s.outb
    else if register == 0x1F6 then s.dira
    else if register == 0x1F7 then s.dirb
    else 0

-- CNT and INA are read by an access
abbrev pub register_access : (register : ℕ) → Option Access
register_access register = if register == 0x1F1 then Some Clock else if register == 0x1F2 then Some PinsIn else None

-- OUTA and DIRA are written by an access; PAR, CNT, INA and INB can't be written; a value other than 0 halts the
-- cog in the registers of the counters and the video generator
unfoldable pub writes_register : (register value : ℕ) → (left : Option ℕ) → SpinState → Course SpinState
writes_register register value left s =
    if register == 0x1F4 then ends (OutSet value) left (record s { outa = value })
    else if register == 0x1F6 then ends (DirSet value) left (record s { dira = value })
    else if register == 0x1F5 then Finish (left_by left (record s { outb = value }))
    else if register == 0x1F7 then Finish (left_by left (record s { dirb = value }))
    else if nat_le 0x1F8 register && not (value == 0) then Stop (Why.Register register)
    else Finish (left_by left s)

-- ---- both

-- the value of a place, by the word that was read there
abbrev pub value_in : VariablePlace → (word : ℕ) → ℕ
value_in (Memory width address) word = word
value_in (Pins register high low) word = pins_of high low word

-- a value reduced to a place's size
abbrev pub reduced : VariablePlace → (value : ℕ) → ℕ
reduced (Memory width address) value = value % 256 ^ bytes_in width
reduced (Pins register high low) value = bit_and value (ones (pins_in high low))

-- a write, with which the bytecode is done and leaves this value, if there is one
unfoldable pub writes_place : VariablePlace → (value : ℕ) → (left : Option ℕ) → SpinState → Course SpinState
writes_place (Memory width address) value left s = ends (write_of width address value) left s
writes_place (Pins register high low) value left s =
    writes_register register (with_pins high low value (register_value register s)) left s

-- ---- effects

-- the new value by an effect, whose bit 7 doesn't matter, and its right side
abbrev pub updated : (effect value right : ℕ) → ℕ
updated effect value right =
    if effect == 0x10 then extended 8 value
    else if effect == 0x14 then extended 16 value
    else if nat_lt effect 0x30 then sum_of value 1
    else if nat_lt effect 0x40 then difference value 1
    else if is_unary (effect + 0xA0) then unary_value (effect + 0xA0) value
    else binary_value (effect + 0xA0) value right

-- `++` and `--` after a variable leave the old value
abbrev pub leaves_old : (effect : ℕ) → Bool
leaves_old effect = (nat_le 0x28 effect && nat_lt effect 0x30) || (nat_le 0x38 effect && nat_lt effect 0x40)

-- bit 7 leaves a value
abbrev pub left_of : (effect value : ℕ) → Option ℕ
left_of effect value = if nat_le 128 effect then Some value else None

-- ---- what a value is read for

-- what follows by the value of a place
unfoldable pub uses : Wanted → VariablePlace → (value : ℕ) → SpinState → Course SpinState
uses Pushed place value s = Finish (pushed value s)
uses (Replaced new) place value s = writes_place place new (Some value) s
uses (Changed effect right) place value s =
    writes_place place (updated (effect % 128) value right)
    (left_of effect (reduced place (if leaves_old (effect % 128) then value else updated (effect % 128) value right)))
    s
uses (Stepped by from to target) place value s =
    writes_place place (stepped value by from to) None
    (if is_between (stepped value by from to) from to then record s { at = target } else s)

-- a read of a place, and what follows by its word
unfoldable pub asks_for : Access → Wanted → VariablePlace → SpinState → Course SpinState
asks_for access wanted place s = Ask access (λ answer. uses wanted place (value_in place (word_in answer)) s)

abbrev pub reads_pins : Option Access → Wanted → (register high low : ℕ) → SpinState → Course SpinState
reads_pins (Some access) wanted register high low s = asks_for access wanted (Pins register high low) s
reads_pins None wanted register high low s =
    uses wanted (Pins register high low) (pins_of high low (register_value register s)) s

unfoldable pub reads_place : Wanted → VariablePlace → SpinState → Course SpinState
reads_place wanted (Memory width address) s =
    if is_readable width address then asks_for (read_of width address) wanted (Memory width address) s
    else rom_halt width address
reads_place wanted (Pins register high low) s =
    reads_pins (register_access register) wanted register high low s
