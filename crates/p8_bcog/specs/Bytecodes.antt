-- The table of Spin's bytecodes: what each one does, in the order of the table. The numbers are those of the public
-- Spin bytecode listing; what a byte does is this project's profile. Each row first makes its tests, in the order `under`,
-- `stack`, `table`, `deep`, and then asks its accesses. Of the bytes that have no row none is ever read.
use Rattle.std.specs.Prelude.{ℕ, ◌-◌, ◌/◌, ◌%◌, ◌^◌, ◌==◌, ◌&&◌, nat_lt, nat_le, Bool, true, false, List, Option, Some, None, if◌then◌else◌}
use Rattle.p8_access.specs.declared.kinds.Width.TheVariants.{Byte, Word, Long}
use Rattle.p8_access.specs.declared.kinds.Test.TheVariants.{Count, PinsEqual, PinsDiffer}
use Rattle.p8_access.specs.declared.kinds.Reason.TheVariants as Why
use Rattle.p8_access.specs.declared.kinds.Access.TheVariants.{CogStop, LockNew, LockRet, LockSet, LockClr, Wait}
use Rattle.p8_words.specs.Words.{rotated_left}
use Rattle.p8_access.specs.Courses.{Course, Finish, Stop}
use Rattle.p8_bytecode.specs.declared.op.Op.{Op}
use Rattle.p8_bcog.specs.declared.state.SpinState.{SpinState}
use Rattle.p8_bcog.specs.Code.{fetched}
use Rattle.p8_bcog.specs.Operands.{operand, pushed, replaced, tested, difference}
use Rattle.p8_words.specs.Operators.{is_unary, unary_value, binary_value}
use Rattle.p8_bcog.specs.Variables.{short_variable, variable, one_pin, some_pins, whole_register}
use Rattle.p8_bcog.specs.Control.{jump, loop_begins, loop_ends, jump_if_zero, jump_unless_zero, drops, case_value, case_range, look_fails}
use Rattle.p8_bcog.specs.Control.{lookup_value, lookdown_value, lookup_range, lookdown_range}
use Rattle.p8_bcog.specs.Calls.{opens, call_own, call_object, call_indexed, return_result, return_value, abort_result, abort_value}
use Rattle.p8_bcog.specs.Moves.{fill, move_elements, text_size, text_compare}
use Rattle.p8_bcog.specs.Cogs.{tells, asks_word, start_method, pasm_start, waits_for_pins}

-- 00 to 07
unfoldable pub call_row : (memory : List ℕ) → Op → SpinState → Course SpinState
call_row memory op s =
    if nat_lt op.code 0x04 then opens op.code s
    else if op.code == 0x04 then jump op.first s
    else if op.code == 0x05 then call_own memory op.first s
    else if op.code == 0x06 then call_object memory op.first op.second s
    else call_indexed memory op.first op.second op.third s

-- 08 to 0F
unfoldable pub test_row : Op → SpinState → Course SpinState
test_row op s =
    if op.code == 0x08 then loop_begins op.first s
    else if op.code == 0x09 then loop_ends op.first s
    else if op.code == 0x0A then jump_if_zero op.first s
    else if op.code == 0x0B then jump_unless_zero op.first s
    else if op.code == 0x0C then drops s
    else if op.code == 0x0D then case_value op.first s
    else if op.code == 0x0E then case_range op.first s
    else look_fails s

-- 10 to 15
unfoldable pub look_row : (memory : List ℕ) → Op → SpinState → Course SpinState
look_row memory op s =
    if op.code == 0x10 then lookup_value op.first s
    else if op.code == 0x11 then lookdown_value op.first s
    else if op.code == 0x12 then lookup_range op.first s
    else if op.code == 0x13 then lookdown_range op.first s
    else if op.code == 0x14 then drops s
    else start_method memory op.first op.second s

-- 1B, 1F ( state mask port -- ) WAITPEQ, WAITPNE
unfoldable pub wait_row : (equal : Bool) → SpinState → Course SpinState
wait_row equal s =
    if equal then waits_for_pins (PinsEqual (operand s 2) (operand s 1)) s
    else waits_for_pins (PinsDiffer (operand s 2) (operand s 1)) s

-- 16 to 1F
unfoldable pub move_row : Op → SpinState → Course SpinState
move_row op s =
    if op.code == 0x16 then text_size s
    else if op.code == 0x17 then text_compare s
    else if op.code == 0x18 then fill Byte s
    else if op.code == 0x19 then fill Word s
    else if op.code == 0x1A then fill Long s
    else if op.code == 0x1B then wait_row true s
    else if op.code == 0x1C then move_elements Byte s
    else if op.code == 0x1D then move_elements Word s
    else if op.code == 0x1E then move_elements Long s
    else wait_row false s

-- 21 to 2F: ( id -- ) COGSTOP and LOCKRET, ( t -- ) WAITCNT; COGINIT of PASM; and LOCKNEW, LOCKSET and LOCKCLR,
-- each with its word left, and 4 more without
unfoldable pub cog_row : Op → SpinState → Course SpinState
cog_row op s =
    if op.code == 0x21 then tells 1 (CogStop (operand s 0 % 8)) s
    else if op.code == 0x22 then tells 1 (LockRet (operand s 0 % 8)) s
    else if op.code == 0x23 then tells 1 (Wait (Count (operand s 0))) s
    else if op.code == 0x28 then asks_word 3 (pasm_start s) s
    else if op.code == 0x29 then asks_word 0 LockNew s
    else if op.code == 0x2A then asks_word 1 (LockSet (operand s 0 % 8)) s
    else if op.code == 0x2B then asks_word 1 (LockClr (operand s 0 % 8)) s
    else if op.code == 0x2C then tells 3 (pasm_start s) s
    else if op.code == 0x2D then tells 0 LockNew s
    else if op.code == 0x2E then tells 1 (LockSet (operand s 0 % 8)) s
    else tells 1 (LockClr (operand s 0 % 8)) s

-- 37: 2 rotated left by the low five bits; bit 5: minus 1; bit 6: then inverted
abbrev pub less_one_if : Bool → ℕ → ℕ
less_one_if flag value = if flag then difference value 1 else value

abbrev pub inverted_if : Bool → ℕ → ℕ
inverted_if flag value = if flag then 2 ^ 32 - 1 - value else value

abbrev pub packed : (byte : ℕ) → ℕ
packed byte = inverted_if (byte / 64 % 2 == 1) (less_one_if (byte / 32 % 2 == 1) (rotated_left 2 (byte % 32)))

-- 34 to 3B: -1, 0, 1; a packed constant; and constants of one to four bytes
abbrev pub constant : Op → ℕ
constant op =
    if op.code == 0x34 then 2 ^ 32 - 1
    else if op.code == 0x35 then 0
    else if op.code == 0x36 then 1
    else if op.code == 0x37 then packed op.first
    else op.first

unfoldable pub constant_row : Op → SpinState → Course SpinState
constant_row op s = tested 0 1 s (Finish (pushed (constant op) s))

-- 30 to 3F
unfoldable pub return_row : (cog : ℕ) → Op → SpinState → Course SpinState
return_row cog op s =
    if op.code == 0x30 then abort_result cog s
    else if op.code == 0x31 then abort_value cog s
    else if op.code == 0x32 then return_result cog s
    else if op.code == 0x33 then return_value cog s
    else if nat_lt op.code 0x3C then constant_row op s
    else if op.code == 0x3D then one_pin op s
    else if op.code == 0x3E then some_pins op s
    else whole_register op s

-- E0 to FF ( a -- x ) or ( a b -- x )
unfoldable pub operator_row : Op → SpinState → Course SpinState
operator_row op s =
    if is_unary op.code then tested 1 1 s (Finish (replaced 1 (unary_value op.code (operand s 0)) s))
    else tested 2 1 s (Finish (replaced 2 (binary_value op.code (operand s 1) (operand s 0)) s))

unfoldable pub row : (memory : List ℕ) (cog : ℕ) → Op → SpinState → Course SpinState
row memory cog op s =
    if nat_lt op.code 0x08 then call_row memory op s
    else if nat_lt op.code 0x10 then test_row op s
    else if nat_lt op.code 0x16 then look_row memory op s
    else if nat_lt op.code 0x20 then move_row op s
    else if nat_lt op.code 0x30 then cog_row op s
    else if nat_lt op.code 0x40 then return_row cog op s
    else if nat_lt op.code 0x80 then short_variable op s
    else if nat_lt op.code 0xE0 then variable op s
    else operator_row op s

-- ---- a bytecode

abbrev pub does_found : (memory : List ℕ) (cog : ℕ) → Option (Op × ℕ) → SpinState → Course SpinState
does_found memory cog None s = Stop (Why.Byte s.at)
does_found memory cog (Some found) s = row memory cog found.0 (record s { at = found.1 })

-- the bytecode that stands where the cog is; where none stands there whole, the cog halts with that address
abbrev pub bytecode : (memory : List ℕ) (cog : ℕ) → SpinState → Course SpinState
bytecode memory cog s = does_found memory cog (fetched memory s.at) s

-- the operators `*`, `**`, `/`, `//` and `^^`, also as effects, take 544 clocks, and all others 32
abbrev pub is_slow : Op → Bool
is_slow op = if nat_lt op.code 0xE0 then nat_le 0x54 (op.effect % 128) && nat_le (op.effect % 128) 0x58 else nat_le 0xF4 op.code && nat_le op.code 0xF8

abbrev pub clocks_of : Option (Op × ℕ) → ℕ
clocks_of None = 32
clocks_of (Some found) = if is_slow found.0 then 544 else 32

-- the clocks from the begin of a bytecode up to where its first access counts
abbrev pub clocks : (memory : List ℕ) → SpinState → ℕ
clocks memory s = clocks_of (fetched memory s.at)
