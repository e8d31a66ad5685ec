-- The bytecodes of variables and registers: where their variable is.
use Rattle.std.specs.Prelude.{ℕ, ◌+◌, ◌*◌, ◌/◌, ◌%◌, ◌^◌, ◌==◌, nat_lt, Bool, if◌then◌else◌}
use Rattle.p8_access.specs.declared.kinds.Width.{Width}
use Rattle.p8_access.specs.declared.kinds.Width.TheVariants.{Byte, Word, Long}
use Rattle.p8_access.specs.declared.kinds.Access.TheVariants.{CogId}
use Rattle.p8_access.specs.Proper.{bytes_in}
use Rattle.p8_access.specs.Courses.{Course, Finish}
use Rattle.p8_bytecode.specs.declared.op.Op.{Op}
use Rattle.p8_bcog.specs.declared.state.SpinState.{SpinState}
use Rattle.p8_bcog.specs.declared.variable_place.VariablePlace.{VariablePlace}
use Rattle.p8_bcog.specs.declared.variable_place.VariablePlace.TheVariants.{Memory, Pins}
use Rattle.p8_bcog.specs.Operands.{operand, replaced, tested}
use Rattle.p8_bcog.specs.Cogs.{asks_word}
use Rattle.p8_bcog.specs.Changes.{pushes, pops, changes}

-- ---- memory

-- bits 1 and 0 say what is done: push, pop, change, push the address
unfoldable pub acts : (action named : ℕ) → Op → (width : Width) (address : ℕ) → SpinState → Course SpinState
acts action named op width address s =
    if action == 0 then pushes named (Memory width address) s
    else if action == 1 then pops named (Memory width address) s
    else if action == 2 then changes named op (Memory width address) s
    else tested named 1 s (Finish (replaced named address s))

-- 40 to 7F: bit 5 is 0 for a long of VAR, 1 for one of LOC; bits 4 to 2 say which
abbrev pub short_address : (code : ℕ) → SpinState → ℕ
short_address code s = ((if code / 32 % 2 == 0 then s.vbase else s.frame) + code / 4 % 8 * 4) % 2 ^ 16

unfoldable pub short_variable : Op → SpinState → Course SpinState
short_variable op s = acts (op.code % 4) 0 op Long (short_address op.code s) s

-- 80 to DF: bits 6 and 5 are the size
abbrev pub width_of : (code : ℕ) → Width
width_of code = if nat_lt code 0xA0 then Byte else if nat_lt code 0xC0 then Word else Long

-- bit 4 says that there is an index, which is popped
abbrev pub is_indexed : (code : ℕ) → Bool
is_indexed code = code / 16 % 2 == 1

abbrev pub indexes : (code : ℕ) → ℕ
indexes code = if is_indexed code then 1 else 0

-- bits 3 and 2 are the base: a popped address below the index, OBJ, VAR, LOC
abbrev pub base_of : (code : ℕ) → SpinState → ℕ
base_of code s =
    if code / 4 % 4 == 0 then operand s (indexes code)
    else if code / 4 % 4 == 1 then s.pbase
    else if code / 4 % 4 == 2 then s.vbase
    else s.frame

-- how many operands name the variable
abbrev pub names : (code : ℕ) → ℕ
names code = indexes code + (if code / 4 % 4 == 0 then 1 else 0)

abbrev pub index_of : (code : ℕ) → SpinState → ℕ
index_of code s = if is_indexed code then operand s 0 * bytes_in (width_of code) else 0

-- the address is base + offset + index times size
abbrev pub address_of : Op → SpinState → ℕ
address_of op s = (base_of op.code s + op.first + index_of op.code s) % 2 ^ 16

unfoldable pub variable : Op → SpinState → Course SpinState
variable op s = acts (op.code % 4) (names op.code) op (width_of op.code) (address_of op s) s

-- ---- registers

-- the register's byte: from $80 push, from $A0 pop, from $C0 change, plus the register's address less $1E0
abbrev pub register_of : (byte : ℕ) → ℕ
register_of byte = 0x1E0 + byte % 32

unfoldable pub acts_on_pins : (named : ℕ) → Op → VariablePlace → SpinState → Course SpinState
acts_on_pins named op place s =
    if nat_lt op.first 0xA0 then pushes named place s
    else if nat_lt op.first 0xC0 then pops named place s
    else changes named op place s

-- 3D: one pin, which is popped
unfoldable pub one_pin : Op → SpinState → Course SpinState
one_pin op s = acts_on_pins 1 op (Pins (register_of op.first) (operand s 0 % 32) (operand s 0 % 32)) s

-- 3E: the pins from a to b, which are popped
unfoldable pub some_pins : Op → SpinState → Course SpinState
some_pins op s = acts_on_pins 2 op (Pins (register_of op.first) (operand s 1 % 32) (operand s 0 % 32)) s

-- 3F: the whole register; 89 is COGID
unfoldable pub all_pins : Op → SpinState → Course SpinState
all_pins op s = acts_on_pins 0 op (Pins (register_of op.first) 31 0) s

unfoldable pub whole_register : Op → SpinState → Course SpinState
whole_register op s = if op.first == 0x89 then asks_word 0 CogId s else all_pins op s
