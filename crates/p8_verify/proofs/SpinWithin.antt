-- What bytecodes of Spin ask is within the limits of a record.
use Rattle.std.proofs.Common.{◌≡◌, arith, ℕ, zero, suc, ◌+◌, ◌-◌, ◌%◌, ◌^◌, ◌<◌, ◌==◌, ◌&&◌, not, nat_le, nat_lt, Bool}
use Rattle.std.proofs.Common.{true, false, if◌then◌else◌, List, [], ◌∷◌, length, Option, Some, None}
use Rattle.p8_access.specs.declared.kinds.Width.{Width}
use Rattle.p8_access.specs.declared.kinds.Width.TheVariants.{Byte, Word, Long}
use Rattle.p8_access.specs.declared.kinds.Test.{Test}
use Rattle.p8_access.specs.declared.kinds.Test.TheVariants.{Count}
use Rattle.p8_access.specs.declared.kinds.Reason.TheVariants as Why
use Rattle.p8_access.specs.declared.kinds.Access.{Access}
use Rattle.p8_access.specs.declared.kinds.Access.TheVariants.{CogStop, LockNew, LockRet, LockSet, LockClr, Wait}
use Rattle.p8_access.specs.declared.order.Turn.{Turn}
use Rattle.p8_access.specs.Lives.{Entered}
use Rattle.p8_access.specs.Timing.{Asks}
use Rattle.p8_bytecode.specs.declared.op.Op.{Op}
use Rattle.p8_bcog.specs.declared.state.SpinState.{SpinState}
use Rattle.p8_bcog.specs.declared.calls.Call.{Call}
use Rattle.p8_bcog.specs.declared.variable_place.VariablePlace.{VariablePlace}
use Rattle.p8_bcog.specs.declared.variable_place.VariablePlace.TheVariants.{Memory, Pins}
use Rattle.p8_bcog.specs.declared.step.Callee.{Callee}
use Rattle.p8_bcog.specs.declared.step.Given.{Given}
use Rattle.p8_bcog.specs.declared.step.Given.TheVariants.{Called, Started}
use Rattle.p8_bcog.specs.declared.step.Wanted.{Wanted}
use Rattle.p8_bcog.specs.declared.step.Wanted.TheVariants.{Pushed, Changed, Replaced, Stepped}
use Rattle.p8_bcog.specs.Operands.{operand}
use Rattle.p8_bcog.specs.Accesses.{ends, gets, stops, is_readable, rom_halt, word_in}
use Rattle.p8_bcog.specs.Places.{writes_register, writes_place, uses, asks_for, reads_pins, reads_place, register_access, value_in}
use Rattle.p8_bcog.specs.Changes.{pushes, pops, stores, sets, steps_by_one, steps, changes_alone, changes_by, changes}
use Rattle.p8_bcog.specs.Variables.{acts, short_variable, variable, register_of, acts_on_pins, one_pin, some_pins, all_pins, whole_register}
use Rattle.p8_bcog.specs.Control.{loop_begins, loop_ends, jump_if_zero, jump_unless_zero, drops, case_value, case_range}
use Rattle.p8_bcog.specs.Control.{look_fails, lookup_value, lookdown_value, lookup_range, lookdown_range}
use Rattle.p8_bcog.specs.Calls.{opens, frame_end, arguments, given_to, gives, calls, calls_method, call_own, calls_object, call_object, call_indexed}
use Rattle.p8_bcog.specs.Calls.{leaves_value, goes_back, returns, return_result, return_value, aborts, abort_result, abort_value}
use Rattle.p8_bcog.specs.Newest.{trapping}
use Rattle.p8_bcog.specs.Moves.{fills, fill, moves, move_elements, counts, text_size, compares, text_compare}
use Rattle.p8_bcog.specs.Cogs.{tells, asks_word, start_method, pasm_start, waits_for_pins}
use Rattle.p8_bcog.specs.Code.{fetched}
use Rattle.p8_bcog.specs.Bytecodes.{call_row, test_row, look_row, wait_row, move_row, cog_row, constant_row}
use Rattle.p8_bcog.specs.Bytecodes.{return_row, operator_row, row, does_found, bytecode}
use Rattle.p8_bcog.specs.Replay.{enters_at, engine_of, first_of, entry_of, lived}
use Rattle.std.specs.List.{All}
use Rattle.std.proofs.lemmas.List.Elements.{All-nil, All-take}
use Rattle.std.proofs.Common.{refl}
use Rattle.std.proofs.lemmas.Bool.{ltb-true}
use Rattle.p8_access.specs.declared.kinds.Origin.{Origin}
use Rattle.p8_access.specs.declared.kinds.Origin.TheVariants.{Pasm, Spin}
use Rattle.p8_access.specs.Proper.{IsNumber}
use Rattle.p8_words.specs.Words.{reversed}
use Rattle.p8_bcog.specs.declared.marks.CallMark.{CallMark}
use Rattle.p8_bcog.specs.Code.{method_at}
use Rattle.p8_bcog.specs.Operands.{taken, replaced, jumped, difference, is_between}
use Rattle.p8_bcog.specs.Accesses.{aligned}
use Rattle.p8_bcog.specs.Places.{pins_in, ones, ordered, pins_of, mask_of, with_pins, extended, updated, stepped, reduced}
use Rattle.p8_bcog.specs.Cogs.{long_address, target_of, spin_origin}
use Rattle.p8_bcog.specs.Calls.{entered, returned}
use Rattle.p8_bcog.specs.Bytecodes.{constant, packed, less_one_if, inverted_if}
use Rattle.p8_verify.specs.Table.{IsOriginWithin, IsTestWithin, IsAccessWithin}
use Rattle.p8_verify.proofs.Words as words
use Rattle.p8_verify.proofs.Words.{if-word, mod-word, and-word-right, or-word, right-word}
use Rattle.p8_verify.proofs.Operators.{unary-word, binary-word}
use Rattle.p8_verify.proofs.Decoded.{IsByte, IsFound, fetched-found}
use Rattle.p8_verify.proofs.Limits.{IsWord, reduced-word, aligned-below, OptionWithin, none-within, if-option, AreAnswered}
use Rattle.p8_verify.proofs.SpinStates as so
use Rattle.p8_verify.proofs.SpinStates.{AreSound, IsSound, IsLeft, operand-word, pushed-sound, taken-sound, at-sound, replaced-sound}
use Rattle.p8_verify.proofs.SpinStates.{jumped-sound, jumped_if-sound, if-sound, left-sound}
use Rattle.p8_verify.proofs.SpinStates.{Holds, finishes, asks, either, tests, finishes-if, word-in, course-holds}

-- ---- accesses

ends-hold : (access : Access) (left : Option ℕ) (s : SpinState) → IsAccessWithin access → IsLeft left → IsSound s → Holds (ends access left s)
unfolding ends
ends-hold access left s h low sound = asks access _ h (λ answer within. finishes _ (left-sound left s low sound))

gets-hold : (access : Access) (s : SpinState) → IsAccessWithin access → IsSound s → Holds (gets access s)
unfolding gets
gets-hold access s h sound = asks access _ h (λ answer within. finishes _ (pushed-sound _ s (word-in answer within) sound))

rom-holds : (width : Width) (address : ℕ) → Holds (rom_halt width address)
rom-holds width address = so.stops (Why.Rom (aligned width address)) (aligned-below width address)

-- ---- places

abbrev HasRegister : VariablePlace → Type 0
HasRegister (Memory width address) = Unit {0}
HasRegister (Pins register high low) = register < 512

-- a register's byte has five bits that say which
register-below : (byte : ℕ) → register_of byte < 512
register-below byte = omega arith

ones-word : (count : ℕ) → ones count < 2 ^ 32
ones-word count = right-word (2 ^ 32 - 1) (32 - count) (omega arith)

ordered-word : (high low n : ℕ) → n < 2 ^ 32 → ordered high low n < 2 ^ 32
ordered-word high low n h = if-word (nat_le low high) h (right-word (reversed n) _ (words.reversed-word n))

pins-word : (high low word : ℕ) → pins_of high low word < 2 ^ 32
pins-word high low word = ordered-word high low _ (and-word-right _ _ (ones-word (pins_in high low)))

less-word : (n : ℕ) → 2 ^ 32 - 1 - n < 2 ^ 32
less-word n = omega arith

with-word : (high low value word : ℕ) → with_pins high low value word < 2 ^ 32
with-word high low value word = or-word _ _ (and-word-right word _ (less-word (mask_of high low))) (mod-word _)

in-word : (place : VariablePlace) (word : ℕ) → word < 2 ^ 32 → value_in place word < 2 ^ 32
in-word (Memory width address) word h = h
in-word (Pins register high low) word h = pins-word high low word

place-word : (place : VariablePlace) (value : ℕ) → reduced place value < 2 ^ 32
place-word (Memory width address) value = reduced-word width value
place-word (Pins register high low) value = and-word-right value _ (ones-word (pins_in high low))

read-holds : (register : ℕ) → OptionWithin (register_access register)
read-holds register = if-option (register == 0x1F1) (record { some = tt }) (if-option (register == 0x1F2) (record { some = tt }) none-within)

writes_register-hold : (register value : ℕ) (left : Option ℕ) (s : SpinState) → value < 2 ^ 32 → IsLeft left → IsSound s → register < 512 →
    Holds (writes_register register value left s)
unfolding writes_register
writes_register-hold register value left s low leaves sound below =
    either (register == 0x1F4) (ends-hold _ left _ low leaves sound)
    (either (register == 0x1F6) (ends-hold _ left _ low leaves sound)
    (either (register == 0x1F5) (finishes _ (left-sound left (record s { outb = value }) leaves sound))
    (either (register == 0x1F7) (finishes _ (left-sound left (record s { dirb = value }) leaves sound))
    (either (nat_le 0x1F8 register && not (value == 0)) (so.stops (Why.Register register) below) (finishes _ (left-sound left s leaves sound))))))

writes_place-hold : (place : VariablePlace) (value : ℕ) (left : Option ℕ) (s : SpinState) → IsLeft left → IsSound s → HasRegister place →
    Holds (writes_place place value left s)
unfolding writes_place
writes_place-hold (Memory width address) value left s leaves sound h = ends-hold _ left s (aligned-below width address, reduced-word width value) leaves sound
writes_place-hold (Pins register high low) value left s leaves sound h = writes_register-hold register _ left s (with-word high low value _) leaves sound h

extended-byte : (value : ℕ) → extended 8 value < 2 ^ 32
extended-byte value = if-word (nat_lt (value % 2 ^ 8) (2 ^ (8 - 1))) (omega arith) (omega arith)

extended-half : (value : ℕ) → extended 16 value < 2 ^ 32
extended-half value = if-word (nat_lt (value % 2 ^ 16) (2 ^ (16 - 1))) (omega arith) (omega arith)

updated-word : (effect value right : ℕ) → value < 2 ^ 32 → right < 2 ^ 32 → updated effect value right < 2 ^ 32
updated-word effect value right h k =
    if-word (effect == 0x10) (extended-byte value)
    (if-word (effect == 0x14) (extended-half value)
    (if-word (nat_lt effect 0x30) (mod-word _)
    (if-word (nat_lt effect 0x40) (mod-word _)
    (if-word _ (unary-word _ value h) (binary-word _ value right h k)))))

left-if : (b : Bool) (value : ℕ) → value < 2 ^ 32 → IsLeft (if b then Some value else None)
left-if true value h = h
left-if false value h = tt

-- what a value is read for
abbrev IsWanted : Wanted → Type 0
IsWanted Pushed = Unit {0}
IsWanted (Replaced new) = new < 2 ^ 32
IsWanted (Changed effect right) = right < 2 ^ 32
IsWanted (Stepped by from to target) = target < 65536

uses-hold : (wanted : Wanted) (place : VariablePlace) (value : ℕ) (s : SpinState) → IsWanted wanted → value < 2 ^ 32 → IsSound s → HasRegister place →
    Holds (uses wanted place value s)
unfolding uses
uses-hold Pushed place value s want low sound h = finishes _ (pushed-sound value s low sound)
uses-hold (Replaced new) place value s want low sound h = writes_place-hold place new (Some value) s low sound h
uses-hold (Changed effect right) place value s want low sound h = writes_place-hold place _ _ s (left-if (nat_le 128 effect) _ (place-word place _)) sound h
uses-hold (Stepped by from to target) place value s want low sound h =
    writes_place-hold place _ None _ tt (if-sound (is_between (stepped value by from to) from to) (record s {
      at =
          target;
    }) s (at-sound target s want sound) sound) h

asks_for-hold : (access : Access) (wanted : Wanted) (place : VariablePlace) (s : SpinState) → IsAccessWithin access → IsWanted wanted → IsSound s →
    HasRegister place → Holds (asks_for access wanted place s)
unfolding asks_for
asks_for-hold access wanted place s within want sound h =
    asks access _ within (λ answer is. uses-hold wanted place (value_in place (word_in answer)) s want
    (in-word place (word_in answer) (word-in answer is)) sound h)

reads_pins-hold : (o : Option Access) (wanted : Wanted) (register high low : ℕ) (s : SpinState) → OptionWithin o → IsWanted wanted → IsSound s →
    register < 512 → Holds (reads_pins o wanted register high low s)
reads_pins-hold (Some access) wanted register high low s within want sound below =
    asks_for-hold access wanted (Pins register high low) s within.some want sound below
reads_pins-hold None wanted register high low s within want sound below =
    uses-hold wanted (Pins register high low) _ s want (pins-word high low _) sound below

reads_place-hold : (wanted : Wanted) (place : VariablePlace) (s : SpinState) → IsWanted wanted → IsSound s → HasRegister place → Holds (reads_place wanted place s)
unfolding reads_place
reads_place-hold wanted (Memory width address) s want sound h =
    either (is_readable width address) (asks_for-hold _ wanted (Memory width address) s (aligned-below width address) want sound tt) (rom-holds width address)
reads_place-hold wanted (Pins register high low) s want sound h =
    reads_pins-hold (register_access register) wanted register high low s (read-holds register) want sound h

-- ---- changes

pushes-hold : (named : ℕ) (place : VariablePlace) (s : SpinState) → IsSound s → HasRegister place → Holds (pushes named place s)
unfolding pushes
pushes-hold named place s sound h = tests named 1 s (reads_place-hold Pushed place _ tt (taken-sound named s sound) h)

pops-hold : (named : ℕ) (place : VariablePlace) (s : SpinState) → IsSound s → HasRegister place → Holds (pops named place s)
unfolding pops
pops-hold named place s sound h = tests (named + 1) 0 s (writes_place-hold place _ None _ tt (taken-sound (named + 1) s sound) h)

stores-hold : (named effect : ℕ) (place : VariablePlace) (s : SpinState) → IsSound s → HasRegister place → Holds (stores named effect place s)
unfolding stores
stores-hold named effect place s sound h =
    tests (named + 1) _ s
    (writes_place-hold place _ _ _ (left-if (nat_le 128 effect) (operand s named) (operand-word s named sound)) (taken-sound (named + 1) s sound) h)

sets-hold : (named effect value : ℕ) (place : VariablePlace) (s : SpinState) → value < 2 ^ 32 → IsSound s → HasRegister place → Holds (sets named effect value place s)
unfolding sets
sets-hold named effect value place s low sound h =
    tests named _ s (either (nat_le 128 effect) (reads_place-hold (Replaced value) place _ low (taken-sound named s sound) h)
    (writes_place-hold place value None _ tt (taken-sound named s sound) h))

steps_by_one-hold : (named : ℕ) (op : Op) (place : VariablePlace) (s : SpinState) → IsSound s → HasRegister place → Holds (steps_by_one named op place s)
unfolding steps_by_one
steps_by_one-hold named op place s sound h = tests (named + 2) 0 s (reads_place-hold _ place _ (target-below s op) (taken-sound (named + 2) s sound) h)
  where
    target-below : (s : SpinState) (op : Op) → (s.at + op.second) % 2 ^ 16 < 65536
    target-below s op = omega arith

steps-hold : (named : ℕ) (op : Op) (place : VariablePlace) (s : SpinState) → IsSound s → HasRegister place → Holds (steps named op place s)
unfolding steps
steps-hold named op place s sound h = tests (named + 3) 0 s (reads_place-hold _ place _ (target-below s op) (taken-sound (named + 3) s sound) h)
  where
    target-below : (s : SpinState) (op : Op) → (s.at + op.second) % 2 ^ 16 < 65536
    target-below s op = omega arith

changes_alone-hold : (named effect : ℕ) (place : VariablePlace) (s : SpinState) → IsSound s → HasRegister place → Holds (changes_alone named effect place s)
unfolding changes_alone
changes_alone-hold named effect place s sound h = tests named _ s (reads_place-hold (Changed effect 0) place _ (omega arith) (taken-sound named s sound) h)

changes_by-hold : (named effect : ℕ) (place : VariablePlace) (s : SpinState) → IsSound s → HasRegister place → Holds (changes_by named effect place s)
unfolding changes_by
changes_by-hold named effect place s sound h =
    tests (named + 1) _ s (reads_place-hold (Changed effect (operand s named)) place _ (operand-word s named sound) (taken-sound (named + 1) s sound) h)

changes-hold : (named : ℕ) (op : Op) (place : VariablePlace) (s : SpinState) → IsSound s → HasRegister place → Holds (changes named op place s)
unfolding changes
changes-hold named op place s sound h =
    either _ (stores-hold named op.effect place s sound h)
    (either _ (steps_by_one-hold named op place s sound h)
    (either _ (steps-hold named op place s sound h)
    (either _ (sets-hold named op.effect 0 place s (omega arith) sound h)
    (either _ (sets-hold named op.effect (2 ^ 32 - 1) place s (omega arith) sound h)
    (either _ (changes_by-hold named op.effect place s sound h) (changes_alone-hold named op.effect place s sound h))))))

-- ---- variables and registers

acts-hold : (action named : ℕ) (op : Op) (width : Width) (address : ℕ) (s : SpinState) → address < 65536 → IsSound s →
    Holds (acts action named op width address s)
unfolding acts
acts-hold action named op width address s low sound =
    either (action == 0) (pushes-hold named (Memory width address) s sound tt)
    (either (action == 1) (pops-hold named (Memory width address) s sound tt)
    (either (action == 2) (changes-hold named op (Memory width address) s sound tt)
    (finishes-if named 1 s _ (replaced-sound named address s (omega (arith, low)) sound))))

half : (n : ℕ) → n % 2 ^ 16 < 65536
half n = omega arith

short_variable-hold : (op : Op) (s : SpinState) → IsSound s → Holds (short_variable op s)
unfolding short_variable
short_variable-hold op s sound = acts-hold _ 0 op Long _ s (half _) sound

variable-hold : (op : Op) (s : SpinState) → IsSound s → Holds (variable op s)
unfolding variable
variable-hold op s sound = acts-hold _ _ op _ _ s (half _) sound

acts_on_pins-hold : (named : ℕ) (op : Op) (place : VariablePlace) (s : SpinState) → IsSound s → HasRegister place → Holds (acts_on_pins named op place s)
unfolding acts_on_pins
acts_on_pins-hold named op place s sound h =
    either (nat_lt op.first 0xA0) (pushes-hold named place s sound h)
    (either (nat_lt op.first 0xC0) (pops-hold named place s sound h) (changes-hold named op place s sound h))

one_pin-hold : (op : Op) (s : SpinState) → IsSound s → Holds (one_pin op s)
unfolding one_pin
one_pin-hold op s sound = acts_on_pins-hold 1 op _ s sound (register-below op.first)

some_pins-hold : (op : Op) (s : SpinState) → IsSound s → Holds (some_pins op s)
unfolding some_pins
some_pins-hold op s sound = acts_on_pins-hold 2 op _ s sound (register-below op.first)

all_pins-hold : (op : Op) (s : SpinState) → IsSound s → Holds (all_pins op s)
unfolding all_pins
all_pins-hold op s sound = acts_on_pins-hold 0 op _ s sound (register-below op.first)

asks_word-hold : (takes : ℕ) (access : Access) (s : SpinState) → IsAccessWithin access → IsSound s → Holds (asks_word takes access s)
unfolding asks_word
asks_word-hold takes access s h sound = tests takes 1 s (gets-hold access _ h (taken-sound takes s sound))

whole_register-hold : (op : Op) (s : SpinState) → IsSound s → Holds (whole_register op s)
unfolding whole_register
whole_register-hold op s sound = either (op.first == 0x89) (asks_word-hold 0 _ s tt sound) (all_pins-hold op s sound)

-- ---- jumps, and the tests of loops, of CASE and of the LOOK functions

loop_begins-hold : (offset : ℕ) (s : SpinState) → IsSound s → Holds (loop_begins offset s)
unfolding loop_begins
loop_begins-hold offset s sound = finishes-if 1 1 s _ (if-sound (operand s 0 == 0) _ s (jumped-sound offset (taken 1 s) (taken-sound 1 s sound)) sound)

loop_ends-hold : (offset : ℕ) (s : SpinState) → IsSound s → Holds (loop_ends offset s)
unfolding loop_ends
loop_ends-hold offset s sound =
    finishes-if 1 1 s _
    (if-sound (difference (operand s 0) 1 == 0) (taken 1 s) _ (taken-sound 1 s sound)
    (jumped-sound offset (replaced 1 (difference (operand s 0) 1) s) (replaced-sound 1 (difference (operand s 0) 1) s (mod-word _) sound)))

jump_if_zero-hold : (offset : ℕ) (s : SpinState) → IsSound s → Holds (jump_if_zero offset s)
unfolding jump_if_zero
jump_if_zero-hold offset s sound = finishes-if 1 0 s _ (jumped_if-sound _ offset (taken 1 s) (taken-sound 1 s sound))

jump_unless_zero-hold : (offset : ℕ) (s : SpinState) → IsSound s → Holds (jump_unless_zero offset s)
unfolding jump_unless_zero
jump_unless_zero-hold offset s sound = finishes-if 1 0 s _ (jumped_if-sound _ offset (taken 1 s) (taken-sound 1 s sound))

drops-hold : (s : SpinState) → IsSound s → Holds (drops s)
unfolding drops
drops-hold s sound = finishes-if 1 0 s _ (taken-sound 1 s sound)

case_value-hold : (offset : ℕ) (s : SpinState) → IsSound s → Holds (case_value offset s)
unfolding case_value
case_value-hold offset s sound = finishes-if 2 1 s _ (jumped_if-sound _ offset (taken 1 s) (taken-sound 1 s sound))

case_range-hold : (offset : ℕ) (s : SpinState) → IsSound s → Holds (case_range offset s)
unfolding case_range
case_range-hold offset s sound = finishes-if 3 1 s _ (jumped_if-sound _ offset (taken 2 s) (taken-sound 2 s sound))

look_fails-hold : (s : SpinState) → IsSound s → Holds (look_fails s)
unfolding look_fails
look_fails-hold s sound = finishes-if 2 1 s _ (replaced-sound 2 0 s (omega arith) sound)

-- an item of a LOOK function: a value is left and the rest jumped over, or the count goes on
found-or : (b : Bool) (offset takes value other left : ℕ) (s : SpinState) → value < 2 ^ 32 → left < 2 ^ 32 → IsSound s →
    IsSound (if b then jumped offset (replaced takes value s) else replaced other left s)
found-or b offset takes value other left s low less sound =
    if-sound b _ _ (jumped-sound offset (replaced takes value s) (replaced-sound takes value s low sound)) (replaced-sound other left s less sound)

lookup_value-hold : (offset : ℕ) (s : SpinState) → IsSound s → Holds (lookup_value offset s)
unfolding lookup_value
lookup_value-hold offset s sound = finishes-if 3 2 s _ (found-or _ offset 3 (operand s 0) 2 _ s (operand-word s 0 sound) (mod-word _) sound)

lookdown_value-hold : (offset : ℕ) (s : SpinState) → IsSound s → Holds (lookdown_value offset s)
unfolding lookdown_value
lookdown_value-hold offset s sound = finishes-if 3 2 s _ (found-or _ offset 3 (operand s 1) 2 _ s (operand-word s 1 sound) (mod-word _) sound)

lookup_range-hold : (offset : ℕ) (s : SpinState) → IsSound s → Holds (lookup_range offset s)
unfolding lookup_range
lookup_range-hold offset s sound = finishes-if 4 2 s _ (found-or _ offset 4 _ 3 _ s (if-word _ (mod-word _) (mod-word _)) (mod-word _) sound)

lookdown_range-hold : (offset : ℕ) (s : SpinState) → IsSound s → Holds (lookdown_range offset s)
unfolding lookdown_range
lookdown_range-hold offset s sound = finishes-if 4 2 s _ (found-or _ offset 4 _ 3 _ s (mod-word _) (mod-word _) sound)

-- ---- marks, calls, returns and aborts

opens-hold : (code : ℕ) (s : SpinState) → IsSound s → Holds (opens code s)
unfolding opens
opens-hold code s sound =
    either (nat_le 16384 (length s.marks)) (so.stops Why.Stack tt)
    (finishes _ (record {
      at_below =
          sound.at_below;
      pbase_below = sound.pbase_below;
      vbase_below = sound.vbase_below;
      words = sound.words;
      callers = sound.callers;
    }))

record IsCallee (callee : Callee) : Type 0 where
  entry : callee.entry < 65536
  pbase : callee.pbase < 65536
  vbase : callee.vbase < 65536

method-callee : (memory : List ℕ) (pbase vbase m : ℕ) → pbase < 65536 → vbase < 65536 → IsCallee (method_at memory pbase vbase m)
method-callee memory pbase vbase m p v = record { entry = half _; pbase = p; vbase = v }

entered-sound : (callee : Callee) (marks : List CallMark) (s : SpinState) → IsCallee callee → IsSound s → IsSound (entered callee marks s)
entered-sound callee [] s c sound = sound
entered-sound callee (mark ∷ marks) s c sound = record {
  at_below = c.entry;
  pbase_below = c.pbase;
  vbase_below = c.vbase;
  words = All-take IsWord s.base s.stack sound.words;
  callers = ((sound.at_below, sound.pbase_below, sound.vbase_below), sound.callers);
}

abbrev IsGiven : Given → Type 0
IsGiven (Called callee) = IsCallee callee
IsGiven (Started target origin count) = IsNumber target × IsOriginWithin origin

given-hold : (given : Given) (s : SpinState) → IsGiven given → IsSound s → Holds (given_to given s)
given-hold (Called callee) s is sound = finishes _ (entered-sound callee s.marks s is sound)
given-hold (Started target origin count) s is sound = gets-hold _ _ is (taken-sound count s sound)

gives-hold : (values : List ℕ) (address : ℕ) (given : Given) (s : SpinState) → IsGiven given → IsSound s → Holds (gives address values given s)
unfolding gives
gives-hold [] address given s is sound = given-hold given s is sound
gives-hold (value ∷ values) address given s is sound =
    asks _ _ (aligned-below Long address, reduced-word Long value) (λ answer within. gives-hold values _ given s is sound)

calls-hold : (callee : Callee) (s : SpinState) → IsCallee callee → IsSound s → Holds (calls callee s)
unfolding calls
calls-hold callee s c sound = gives-hold (0 ∷ arguments s) (frame_end s) (Called callee) s c sound

calls_method-hold : (memory : List ℕ) (pbase vbase m : ℕ) (s : SpinState) → pbase < 65536 → vbase < 65536 → IsSound s →
    Holds (calls_method memory pbase vbase m s)
unfolding calls_method
calls_method-hold memory pbase vbase m s p v sound =
    either _ (so.stops Why.Table tt)
    (either (nat_le 127 (length s.calls)) (so.stops Why.Deep tt) (calls-hold _ s (method-callee memory pbase vbase m p v) sound))

call_own-hold : (memory : List ℕ) (m : ℕ) (s : SpinState) → IsSound s → Holds (call_own memory m s)
unfolding call_own
call_own-hold memory m s sound = either _ (so.stops Why.Under tt) (calls_method-hold memory s.pbase s.vbase m s sound.pbase_below sound.vbase_below sound)

calls_object-hold : (memory : List ℕ) (o m : ℕ) (s : SpinState) → IsSound s → Holds (calls_object memory o m s)
unfolding calls_object
calls_object-hold memory o m s sound = calls_method-hold memory _ _ m s (half _) (half _) sound

call_object-hold : (memory : List ℕ) (o m : ℕ) (s : SpinState) → IsSound s → Holds (call_object memory o m s)
unfolding call_object
call_object-hold memory o m s sound =
    either _ (so.stops Why.Under tt) (either _ (so.stops Why.Table tt) (calls_object-hold memory o m s sound))

call_indexed-hold : (memory : List ℕ) (o n m : ℕ) (s : SpinState) → IsSound s → Holds (call_indexed memory o n m s)
unfolding call_indexed
call_indexed-hold memory o n m s sound =
    either _ (so.stops Why.Under tt) (tests 1 0 s (either _ (so.stops Why.Table tt) (calls_object-hold memory _ m _ (taken-sound 1 s sound))))

leaves_value-hold : (value : Option ℕ) (frame : ℕ) (s : SpinState) → IsLeft value → IsSound s → Holds (leaves_value value frame s)
leaves_value-hold (Some value) frame s low sound = finishes _ (pushed-sound value s low sound)
leaves_value-hold None frame s low sound = either (is_readable Long frame) (gets-hold _ s (aligned-below Long frame) sound) (rom-holds Long frame)

abbrev IsCall : Call → Type 0
IsCall call = (call.at < 65536) × (call.pbase < 65536) × (call.vbase < 65536)

returned-sound : (call : Call) (older : List Call) (s : SpinState) → IsCall call → AreSound older → IsSound s → IsSound (returned call older s)
returned-sound call older s c are sound = record {
  at_below = c.0;
  pbase_below = c.1;
  vbase_below = c.2;
  words = All-take IsWord call.height s.stack sound.words;
  callers = are;
}

goes_back-hold : (value : Option ℕ) (call : Call) (older : List Call) (s : SpinState) → IsLeft value → IsCall call → AreSound older → IsSound s →
    Holds (goes_back value call older s)
unfolding goes_back
goes_back-hold value call older s low c are sound =
    either call.unused (finishes _ (returned-sound call older s c are sound))
    (either (nat_lt 16384 (call.height + 1)) (so.stops Why.Stack tt) (leaves_value-hold value s.frame _ low (returned-sound call older s c are sound)))

stops-hold : (cog : ℕ) (s : SpinState) → cog < 8 → IsSound s → Holds (stops cog s)
stops-hold cog s eight sound =
    ends-hold _ None _ eight tt (record {
      at_below =
          sound.at_below;
      pbase_below = sound.pbase_below;
      vbase_below = sound.vbase_below;
      words = sound.words;
      callers = tt;
    })

returns-hold : (cog : ℕ) (value : Option ℕ) (to : List Call) (s : SpinState) → cog < 8 → IsLeft value → AreSound to → IsSound s → Holds (returns cog value to s)
unfolding returns
returns-hold cog value [] s eight low are sound = stops-hold cog s eight sound
returns-hold cog value (call ∷ older) s eight low are sound = goes_back-hold value call older s low are.0 are.1 sound

return_result-hold : (cog : ℕ) (s : SpinState) → cog < 8 → IsSound s → Holds (return_result cog s)
unfolding return_result
return_result-hold cog s eight sound = returns-hold cog None s.calls s eight tt sound.callers sound

return_value-hold : (cog : ℕ) (s : SpinState) → cog < 8 → IsSound s → Holds (return_value cog s)
unfolding return_value
return_value-hold cog s eight sound = tests 1 0 s (returns-hold cog _ s.calls s eight (operand-word s 0 sound) sound.callers sound)

-- a call that stops aborts, and those before it
abbrev IsTrapping : Option (Call × List Call) → Type 0
IsTrapping None = Unit {0}
IsTrapping (Some found) = IsCall found.0 × AreSound found.1

trapping-if : (b : Bool) (x y : Option (Call × List Call)) → IsTrapping x → IsTrapping y → IsTrapping (if b then x else y)
trapping-if true x y h k = h
trapping-if false x y h k = k

trapping-sound : (calls : List Call) → AreSound calls → IsTrapping (trapping calls)
trapping-sound [] are = tt
trapping-sound (call ∷ older) are = trapping-if call.traps (Some (call, older)) (trapping older) are (trapping-sound older are.1)

aborts-hold : (cog : ℕ) (value : Option ℕ) (to : Option (Call × List Call)) (s : SpinState) → cog < 8 → IsLeft value → IsTrapping to → IsSound s →
    Holds (aborts cog value to s)
unfolding aborts
aborts-hold cog value None s eight low is sound = stops-hold cog s eight sound
aborts-hold cog value (Some found) s eight low is sound = goes_back-hold value found.0 found.1 s low is.0 is.1 sound

abort_result-hold : (cog : ℕ) (s : SpinState) → cog < 8 → IsSound s → Holds (abort_result cog s)
unfolding abort_result
abort_result-hold cog s eight sound = aborts-hold cog None (trapping s.calls) s eight tt (trapping-sound s.calls sound.callers) sound

abort_value-hold : (cog : ℕ) (s : SpinState) → cog < 8 → IsSound s → Holds (abort_value cog s)
unfolding abort_value
abort_value-hold cog s eight sound =
    tests 1 0 s (aborts-hold cog _ (trapping s.calls) s eight (operand-word s 0 sound) (trapping-sound s.calls sound.callers) sound)

-- ---- fills, moves and texts

fills-hold : (width : Width) (left address value : ℕ) (s : SpinState) → IsSound s → Holds (fills width address value left s)
unfolding fills
fills-hold width zero address value s sound = finishes s sound
fills-hold width (suc left) address value s sound =
    asks _ _ (aligned-below width address, reduced-word width value) (λ answer within. fills-hold width left _ value s sound)

fill-hold : (width : Width) (s : SpinState) → IsSound s → Holds (fill width s)
unfolding fill
fill-hold width s sound = tests 3 0 s (fills-hold width _ _ _ _ (taken-sound 3 s sound))

moves-hold : (width : Width) (left to from : ℕ) (s : SpinState) → IsSound s → Holds (moves width to from left s)
unfolding moves
moves-hold width zero to from s sound = finishes s sound
moves-hold width (suc left) to from s sound =
    either (is_readable width from)
    (asks _ _ (aligned-below width from)
    (λ element is. asks _ _ (aligned-below width to, reduced-word width (word_in element)) (λ answer within. moves-hold width left _ _ s sound)))
    (rom-holds width from)

move_elements-hold : (width : Width) (s : SpinState) → IsSound s → Holds (move_elements width s)
unfolding move_elements
move_elements-hold width s sound = tests 3 0 s (moves-hold width _ _ _ _ (taken-sound 3 s sound))

counts-hold : (room address count : ℕ) (s : SpinState) → count + room < 2 ^ 32 → IsSound s → Holds (counts room address count s)
unfolding counts
counts-hold zero address count s low sound = rom-holds Byte address
counts-hold (suc room) address count s low sound =
    asks _ _ (aligned-below Byte address)
    (λ answer is. either (word_in answer == 0) (finishes _ (pushed-sound count s (omega (arith, low)) sound))
    (counts-hold room (address + 1) (count + 1) s (omega (arith, low)) sound))

text_size-hold : (s : SpinState) → IsSound s → Holds (text_size s)
unfolding text_size
text_size-hold s sound = tests 1 1 s (counts-hold _ _ 0 _ (room-low (operand s 0 % 2 ^ 16)) (taken-sound 1 s sound))
  where
    room-low : (address : ℕ) → 0 + (32768 - address) < 2 ^ 32
    room-low address = omega arith

compares-hold : (room first second : ℕ) (s : SpinState) → IsSound s → Holds (compares room first second s)
unfolding compares
compares-hold zero first second s sound = rom-holds Byte first
compares-hold (suc room) first second s sound =
    asks _ _ (aligned-below Byte first) (λ one is. either (is_readable Byte second)
    (asks _ _ (aligned-below Byte second) (λ other also. either (word_in one == word_in other)
    (either (word_in one == 0) (finishes _ (pushed-sound (2 ^ 32 - 1) s (omega arith) sound)) (compares-hold room (first + 1) (second + 1) s sound))
    (finishes _ (pushed-sound 0 s (omega arith) sound))))
    (rom-holds Byte second))

text_compare-hold : (s : SpinState) → IsSound s → Holds (text_compare s)
unfolding text_compare
text_compare-hold s sound = tests 2 1 s (compares-hold _ _ _ _ (taken-sound 2 s sound))

-- ---- cogs, locks and waits

tells-hold : (takes : ℕ) (access : Access) (s : SpinState) → IsAccessWithin access → IsSound s → Holds (tells takes access s)
unfolding tells
tells-hold takes access s h sound = tests takes 0 s (ends-hold access None _ h tt (taken-sound takes s sound))

number-if : (n : ℕ) (b : Bool) → nat_lt n 8 ≡ b → IsNumber (if b then Some n else None)
number-if n true e = ltb-true n 8 e
number-if n false e = tt

target-number : (n : ℕ) → IsNumber (target_of n)
target-number n = number-if n (nat_lt n 8) refl

long-below : (n : ℕ) → long_address n < 65536
long-below n = omega arith

origin-within : (callee : Callee) (count frame : ℕ) → IsCallee callee → IsOriginWithin (spin_origin callee count frame)
origin-within callee count frame c = (c.entry, c.pbase, c.vbase, long-below frame, half _)

start_method-hold : (memory : List ℕ) (m count : ℕ) (s : SpinState) → IsSound s → Holds (start_method memory m count s)
unfolding start_method
start_method-hold memory m count s sound =
    tests (count + 2) 1 s (either _ (so.stops Why.Table tt)
    (gives-hold _ _ _ s (target-number _, origin-within _ count _ (method-callee memory s.pbase s.vbase m sound.pbase_below sound.vbase_below)) sound))

waits_for_pins-hold : (test : Test) (s : SpinState) → IsTestWithin test → IsSound s → Holds (waits_for_pins test s)
unfolding waits_for_pins
waits_for_pins-hold test s h sound = tests 3 0 s (either _ (ends-hold _ None _ h tt (taken-sound 3 s sound)) (so.stops Why.Port tt))

-- ---- the table

call_row-hold : (memory : List ℕ) (op : Op) (s : SpinState) → IsSound s → Holds (call_row memory op s)
unfolding call_row
call_row-hold memory op s sound =
    either _ (opens-hold op.code s sound)
    (either _ (finishes _ (jumped-sound op.first s sound))
    (either _ (call_own-hold memory op.first s sound)
    (either _ (call_object-hold memory op.first op.second s sound) (call_indexed-hold memory op.first op.second op.third s sound))))

test_row-hold : (op : Op) (s : SpinState) → IsSound s → Holds (test_row op s)
unfolding test_row
test_row-hold op s sound =
    either _ (loop_begins-hold op.first s sound)
    (either _ (loop_ends-hold op.first s sound)
    (either _ (jump_if_zero-hold op.first s sound)
    (either _ (jump_unless_zero-hold op.first s sound)
    (either _ (drops-hold s sound)
    (either _ (case_value-hold op.first s sound)
    (either _ (case_range-hold op.first s sound) (look_fails-hold s sound)))))))

look_row-hold : (memory : List ℕ) (op : Op) (s : SpinState) → IsSound s → Holds (look_row memory op s)
unfolding look_row
look_row-hold memory op s sound =
    either _ (lookup_value-hold op.first s sound)
    (either _ (lookdown_value-hold op.first s sound)
    (either _ (lookup_range-hold op.first s sound)
    (either _ (lookdown_range-hold op.first s sound)
    (either _ (drops-hold s sound) (start_method-hold memory op.first op.second s sound)))))

wait_row-hold : (equal : Bool) (s : SpinState) → IsSound s → Holds (wait_row equal s)
unfolding wait_row
wait_row-hold equal s sound =
    either equal (waits_for_pins-hold _ s (operand-word s 2 sound, operand-word s 1 sound) sound)
    (waits_for_pins-hold _ s (operand-word s 2 sound, operand-word s 1 sound) sound)

move_row-hold : (op : Op) (s : SpinState) → IsSound s → Holds (move_row op s)
unfolding move_row
move_row-hold op s sound =
    either _ (text_size-hold s sound)
    (either _ (text_compare-hold s sound)
    (either _ (fill-hold Byte s sound)
    (either _ (fill-hold Word s sound)
    (either _ (fill-hold Long s sound)
    (either _ (wait_row-hold true s sound)
    (either _ (move_elements-hold Byte s sound)
    (either _ (move_elements-hold Word s sound)
    (either _ (move_elements-hold Long s sound) (wait_row-hold false s sound)))))))))

eighth : (n : ℕ) → n % 8 < 8
eighth n = omega arith

cog_row-hold : (op : Op) (s : SpinState) → IsSound s → Holds (cog_row op s)
unfolding cog_row
cog_row-hold op s sound =
    either _ (tells-hold 1 (CogStop (operand s 0 % 8)) s (eighth _) sound)
    (either _ (tells-hold 1 (LockRet (operand s 0 % 8)) s (eighth _) sound)
    (either _ (tells-hold 1 (Wait (Count (operand s 0))) s (operand-word s 0 sound) sound)
    (either _ (asks_word-hold 3 (pasm_start s) s (target-number _, (long-below _, long-below _)) sound)
    (either _ (asks_word-hold 0 LockNew s tt sound)
    (either _ (asks_word-hold 1 (LockSet (operand s 0 % 8)) s (eighth _) sound)
    (either _ (asks_word-hold 1 (LockClr (operand s 0 % 8)) s (eighth _) sound)
    (either _ (tells-hold 3 (pasm_start s) s (target-number _, (long-below _, long-below _)) sound)
    (either _ (tells-hold 0 LockNew s tt sound)
    (either _ (tells-hold 1 (LockSet (operand s 0 % 8)) s (eighth _) sound) (tells-hold 1 (LockClr (operand s 0 % 8)) s (eighth _) sound))))))))))

inverted-word : (flag : Bool) (n : ℕ) → n < 2 ^ 32 → inverted_if flag n < 2 ^ 32
inverted-word true n h = less-word n
inverted-word false n h = h

lessened-word : (flag : Bool) (n : ℕ) → n < 2 ^ 32 → less_one_if flag n < 2 ^ 32
lessened-word true n h = mod-word _
lessened-word false n h = h

packed-word : (byte : ℕ) → packed byte < 2 ^ 32
packed-word byte = inverted-word _ _ (lessened-word _ _ (words.rotated_left-word 2 (byte % 32) (omega arith) (omega arith)))

constant-word : (op : Op) → op.first < 2 ^ 32 → constant op < 2 ^ 32
constant-word op h =
    if-word (op.code == 0x34) (omega arith)
    (if-word (op.code == 0x35) (omega arith)
    (if-word (op.code == 0x36) (omega arith)
    (if-word (op.code == 0x37) (packed-word op.first) h)))

constant_row-hold : (op : Op) (s : SpinState) → op.first < 2 ^ 32 → IsSound s → Holds (constant_row op s)
unfolding constant_row
constant_row-hold op s low sound = finishes-if 0 1 s _ (pushed-sound (constant op) s (constant-word op low) sound)

return_row-hold : (cog : ℕ) (op : Op) (s : SpinState) → cog < 8 → op.first < 2 ^ 32 → IsSound s → Holds (return_row cog op s)
unfolding return_row
return_row-hold cog op s eight low sound =
    either _ (abort_result-hold cog s eight sound)
    (either _ (abort_value-hold cog s eight sound)
    (either _ (return_result-hold cog s eight sound)
    (either _ (return_value-hold cog s eight sound)
    (either _ (constant_row-hold op s low sound)
    (either _ (one_pin-hold op s sound)
    (either _ (some_pins-hold op s sound) (whole_register-hold op s sound)))))))

operator_row-hold : (op : Op) (s : SpinState) → IsSound s → Holds (operator_row op s)
unfolding operator_row
operator_row-hold op s sound =
    either _ (finishes-if 1 1 s _ (replaced-sound 1 _ s (unary-word op.code (operand s 0) (operand-word s 0 sound)) sound))
    (finishes-if 2 1 s _ (replaced-sound 2 _ s (binary-word op.code (operand s 1) (operand s 0) (operand-word s 1 sound) (operand-word s 0 sound)) sound))

row-hold : (memory : List ℕ) (cog : ℕ) (op : Op) (s : SpinState) → cog < 8 → op.first < 2 ^ 32 → IsSound s → Holds (row memory cog op s)
unfolding row
row-hold memory cog op s eight low sound =
    either _ (call_row-hold memory op s sound)
    (either _ (test_row-hold op s sound)
    (either _ (look_row-hold memory op s sound)
    (either _ (move_row-hold op s sound)
    (either _ (cog_row-hold op s sound)
    (either _ (return_row-hold cog op s eight low sound)
    (either _ (short_variable-hold op s sound)
    (either _ (variable-hold op s sound) (operator_row-hold op s sound))))))))

-- ---- a life

found-holds : (memory : List ℕ) (cog : ℕ) (found : Option (Op × ℕ)) (s : SpinState) → cog < 8 → IsFound found → IsSound s → Holds (does_found memory cog found s)
found-holds memory cog None s eight is sound = so.stops (Why.Byte s.at) sound.at_below
found-holds memory cog (Some found) s eight is sound = row-hold memory cog found.0 (record s { at = found.1 }) eight is.0 (at-sound found.1 s is.1 sound)

bytecode-holds : (memory : List ℕ) (cog : ℕ) → All IsByte memory → cog < 8 → (s : SpinState) → IsSound s → Holds (bytecode memory cog s)
bytecode-holds memory cog are eight s sound = found-holds memory cog (fetched memory s.at) s eight (fetched-found memory s.at are) sound

first-sound : (origin : Origin) → IsOriginWithin origin → IsSound (first_of origin)
first-sound (Spin entry pbase vbase frame size) h = record { at_below = h.0; pbase_below = h.1; vbase_below = h.2; words = All-nil IsWord; callers = tt }
first-sound (Pasm code par) h = record { at_below = omega arith; pbase_below = omega arith; vbase_below = omega arith; words = All-nil IsWord; callers = tt }

enters-hold : (s : SpinState) → IsSound s → Holds (enters_at s)
enters-hold s sound = ends-hold _ None s (aligned-below Long s.frame, reduced-word Long 0) tt sound

-- whatever it asks, where what it was told is within its limits
pub bytecodes-within : (e : Entered) → All IsByte e.memory → e.cog < 8 → IsOriginWithin e.origin → (turns : List Turn) → AreAnswered turns →
    (n clock : ℕ) (access : Access) → lived n e turns ≡ Asks clock access → IsAccessWithin access
bytecodes-within e are eight within turns answered n clock access same =
    course-holds (engine_of e.memory e.cog) (bytecode-holds e.memory e.cog are eight) (e.begin + 8192) (entry_of e)
    (enters-hold (first_of e.origin) (first-sound e.origin within)) n turns answered clock access same
