-- What bytecodes of Spin ask: their halts by a register name one from $1E0 to $1FF.
use Rattle.std.proofs.Common.{◌≡◌, arith, ℕ, zero, suc, ◌+◌, ◌-◌, ◌%◌, ◌^◌, ◌<◌, ◌==◌, ◌&&◌, not, nat_le, nat_lt, Bool}
use Rattle.std.proofs.Common.{true, false, if◌then◌else◌, List, [], ◌∷◌, length, Option, Some, None}
use Rattle.p8_access.specs.declared.kinds.Width.{Width}
use Rattle.p8_access.specs.declared.kinds.Width.TheVariants.{Byte, Word, Long}
use Rattle.p8_access.specs.declared.kinds.Test.{Test}
use Rattle.p8_access.specs.declared.kinds.Test.TheVariants.{Count}
use Rattle.p8_access.specs.declared.kinds.Reason.TheVariants as Why
use Rattle.p8_access.specs.declared.kinds.Access.{Access}
use Rattle.p8_access.specs.declared.kinds.Access.TheVariants.{CogStop, LockNew, LockRet, LockSet, LockClr, Wait}
use Rattle.p8_access.specs.declared.order.Turn.{Turn}
use Rattle.p8_access.specs.Lives.{Entered}
use Rattle.p8_access.specs.Courses.{Course, Finish}
use Rattle.p8_access.specs.Timing.{Asks}
use Rattle.p8_bytecode.specs.declared.op.Op.{Op}
use Rattle.p8_bcog.specs.declared.state.SpinState.{SpinState}
use Rattle.p8_bcog.specs.declared.calls.Call.{Call}
use Rattle.p8_bcog.specs.declared.variable_place.VariablePlace.{VariablePlace}
use Rattle.p8_bcog.specs.declared.variable_place.VariablePlace.TheVariants.{Memory, Pins}
use Rattle.p8_bcog.specs.declared.step.Callee.{Callee}
use Rattle.p8_bcog.specs.declared.step.Given.{Given}
use Rattle.p8_bcog.specs.declared.step.Given.TheVariants.{Called, Started}
use Rattle.p8_bcog.specs.declared.step.Wanted.{Wanted}
use Rattle.p8_bcog.specs.declared.step.Wanted.TheVariants.{Pushed, Changed, Replaced, Stepped}
use Rattle.p8_bcog.specs.Operands.{operand, operands, stopped_by, tested}
use Rattle.p8_bcog.specs.Accesses.{ends, gets, stops, is_readable, rom_halt, word_in}
use Rattle.p8_bcog.specs.Places.{writes_register, writes_place, uses, asks_for, reads_pins, reads_place, register_access, value_in}
use Rattle.p8_bcog.specs.Changes.{pushes, pops, stores, sets, steps_by_one, steps, changes_alone, changes_by, changes}
use Rattle.p8_bcog.specs.Variables.{acts, short_variable, variable, register_of, acts_on_pins, one_pin, some_pins, all_pins, whole_register}
use Rattle.p8_bcog.specs.Control.{loop_begins, loop_ends, jump_if_zero, jump_unless_zero, drops, case_value, case_range}
use Rattle.p8_bcog.specs.Control.{look_fails, lookup_value, lookdown_value, lookup_range, lookdown_range}
use Rattle.p8_bcog.specs.Calls.{opens, frame_end, arguments, given_to, gives, calls, calls_method, call_own, calls_object, call_object, call_indexed}
use Rattle.p8_bcog.specs.Calls.{leaves_value, goes_back, returns, return_result, return_value, aborts, abort_result, abort_value}
use Rattle.p8_bcog.specs.Newest.{trapping}
use Rattle.p8_bcog.specs.Moves.{fills, fill, moves, move_elements, counts, text_size, compares, text_compare}
use Rattle.p8_bcog.specs.Cogs.{tells, asks_word, start_method, pasm_start, waits_for_pins}
use Rattle.p8_bcog.specs.Code.{fetched}
use Rattle.p8_bcog.specs.Bytecodes.{call_row, test_row, look_row, wait_row, move_row, cog_row, constant_row}
use Rattle.p8_bcog.specs.Bytecodes.{return_row, operator_row, row, does_found, bytecode}
use Rattle.p8_bcog.specs.Replay.{enters_at, engine_of, first_of, entry_of, lived}
use Rattle.p8_verify.specs.Halts.{IsProperHalt}
use Rattle.p8_verify.proofs.Named.{OptionNamed, none-named, if-option}
use Rattle.p8_verify.proofs.Courses as so
use Rattle.p8_verify.proofs.Courses.{Names, finishes, asks, either, course-named}

-- ---- tests and accesses

refused : (under full : Bool) {course : Course SpinState} → Names course →
    Names (stopped_by (if under then Some Why.Under else if full then Some Why.Stack else None) course)
refused true full h = so.stops Why.Under tt
refused false true h = so.stops Why.Stack tt
refused false false h = h

tests : (takes leaves : ℕ) (s : SpinState) {course : Course SpinState} → Names course → Names (tested takes leaves s course)
tests takes leaves s h = refused (nat_lt (operands s) takes) (nat_lt 16384 (length s.stack - takes + leaves)) h

-- the last test of a row, and what it does where that is passed
finishes-if : (takes leaves : ℕ) (s next : SpinState) → Names (tested takes leaves s (Finish next))
finishes-if takes leaves s next = tests takes leaves s (finishes next)

ends-named : (access : Access) (left : Option ℕ) (s : SpinState) → IsProperHalt access → Names (ends access left s)
unfolding ends
ends-named access left s h = asks access _ h (λ answer. finishes _)

gets-named : (access : Access) (s : SpinState) → IsProperHalt access → Names (gets access s)
unfolding gets
gets-named access s h = asks access _ h (λ answer. finishes _)

rom-named : (width : Width) (address : ℕ) → Names (rom_halt width address)
rom-named width address = so.stops _ tt

-- ---- places

abbrev HasRegister : VariablePlace → Type 0
HasRegister (Memory width address) = Unit {0}
HasRegister (Pins register high low) = register < 512

-- a register's byte has five bits that say which
register-below : (byte : ℕ) → register_of byte < 512
register-below byte = omega arith

read-named : (register : ℕ) → OptionNamed (register_access register)
read-named register = if-option (register == 0x1F1) (record { some = tt }) (if-option (register == 0x1F2) (record { some = tt }) none-named)

writes_register-named : (register value : ℕ) (left : Option ℕ) (s : SpinState) → register < 512 → Names (writes_register register value left s)
unfolding writes_register
writes_register-named register value left s below =
    either (register == 0x1F4) (ends-named _ left _ tt)
    (either (register == 0x1F6) (ends-named _ left _ tt)
    (either (register == 0x1F5) (finishes _)
    (either (register == 0x1F7) (finishes _)
    (either (nat_le 0x1F8 register && not (value == 0)) (so.stops (Why.Register register) below) (finishes _)))))

writes_place-named : (place : VariablePlace) (value : ℕ) (left : Option ℕ) (s : SpinState) → HasRegister place → Names (writes_place place value left s)
unfolding writes_place
writes_place-named (Memory width address) value left s h = ends-named _ left s tt
writes_place-named (Pins register high low) value left s h = writes_register-named register _ left s h

uses-named : (wanted : Wanted) (place : VariablePlace) (value : ℕ) (s : SpinState) → HasRegister place → Names (uses wanted place value s)
unfolding uses
uses-named Pushed place value s h = finishes _
uses-named (Replaced new) place value s h = writes_place-named place new (Some value) s h
uses-named (Changed effect right) place value s h = writes_place-named place _ _ s h
uses-named (Stepped by from to target) place value s h = writes_place-named place _ None _ h

asks_for-named : (access : Access) (wanted : Wanted) (place : VariablePlace) (s : SpinState) →
    IsProperHalt access → HasRegister place → Names (asks_for access wanted place s)
unfolding asks_for
asks_for-named access wanted place s halts h = asks access _ halts (λ answer. uses-named wanted place (value_in place (word_in answer)) s h)

reads_pins-named : (o : Option Access) (wanted : Wanted) (register high low : ℕ) (s : SpinState) →
    OptionNamed o → register < 512 → Names (reads_pins o wanted register high low s)
reads_pins-named (Some access) wanted register high low s named below = asks_for-named access wanted (Pins register high low) s named.some below
reads_pins-named None wanted register high low s named below = uses-named wanted (Pins register high low) _ s below

reads_place-named : (wanted : Wanted) (place : VariablePlace) (s : SpinState) → HasRegister place → Names (reads_place wanted place s)
unfolding reads_place
reads_place-named wanted (Memory width address) s h =
    either (is_readable width address) (asks_for-named _ wanted (Memory width address) s tt tt) (rom-named width address)
reads_place-named wanted (Pins register high low) s h =
    reads_pins-named (register_access register) wanted register high low s (read-named register) h

-- ---- changes

pushes-named : (named : ℕ) (place : VariablePlace) (s : SpinState) → HasRegister place → Names (pushes named place s)
unfolding pushes
pushes-named named place s h = tests named 1 s (reads_place-named Pushed place _ h)

pops-named : (named : ℕ) (place : VariablePlace) (s : SpinState) → HasRegister place → Names (pops named place s)
unfolding pops
pops-named named place s h = tests (named + 1) 0 s (writes_place-named place _ None _ h)

stores-named : (named effect : ℕ) (place : VariablePlace) (s : SpinState) → HasRegister place → Names (stores named effect place s)
unfolding stores
stores-named named effect place s h = tests (named + 1) _ s (writes_place-named place _ _ _ h)

sets-named : (named effect value : ℕ) (place : VariablePlace) (s : SpinState) → HasRegister place → Names (sets named effect value place s)
unfolding sets
sets-named named effect value place s h =
    tests named _ s (either (nat_le 128 effect) (reads_place-named (Replaced value) place _ h) (writes_place-named place value None _ h))

steps_by_one-named : (named : ℕ) (op : Op) (place : VariablePlace) (s : SpinState) → HasRegister place → Names (steps_by_one named op place s)
unfolding steps_by_one
steps_by_one-named named op place s h = tests (named + 2) 0 s (reads_place-named _ place _ h)

steps-named : (named : ℕ) (op : Op) (place : VariablePlace) (s : SpinState) → HasRegister place → Names (steps named op place s)
unfolding steps
steps-named named op place s h = tests (named + 3) 0 s (reads_place-named _ place _ h)

changes_alone-named : (named effect : ℕ) (place : VariablePlace) (s : SpinState) → HasRegister place → Names (changes_alone named effect place s)
unfolding changes_alone
changes_alone-named named effect place s h = tests named _ s (reads_place-named (Changed effect 0) place _ h)

changes_by-named : (named effect : ℕ) (place : VariablePlace) (s : SpinState) → HasRegister place → Names (changes_by named effect place s)
unfolding changes_by
changes_by-named named effect place s h = tests (named + 1) _ s (reads_place-named _ place _ h)

changes-named : (named : ℕ) (op : Op) (place : VariablePlace) (s : SpinState) → HasRegister place → Names (changes named op place s)
unfolding changes
changes-named named op place s h =
    either _ (stores-named named op.effect place s h)
    (either _ (steps_by_one-named named op place s h)
    (either _ (steps-named named op place s h)
    (either _ (sets-named named op.effect 0 place s h)
    (either _ (sets-named named op.effect (2 ^ 32 - 1) place s h)
    (either _ (changes_by-named named op.effect place s h) (changes_alone-named named op.effect place s h))))))

-- ---- variables and registers

acts-named : (action named : ℕ) (op : Op) (width : Width) (address : ℕ) (s : SpinState) → Names (acts action named op width address s)
unfolding acts
acts-named action named op width address s =
    either (action == 0) (pushes-named named (Memory width address) s tt)
    (either (action == 1) (pops-named named (Memory width address) s tt)
    (either (action == 2) (changes-named named op (Memory width address) s tt) (finishes-if named 1 s _)))

short_variable-named : (op : Op) (s : SpinState) → Names (short_variable op s)
unfolding short_variable
short_variable-named op s = acts-named _ 0 op Long _ s

variable-named : (op : Op) (s : SpinState) → Names (variable op s)
unfolding variable
variable-named op s = acts-named _ _ op _ _ s

acts_on_pins-named : (named : ℕ) (op : Op) (place : VariablePlace) (s : SpinState) → HasRegister place → Names (acts_on_pins named op place s)
unfolding acts_on_pins
acts_on_pins-named named op place s h =
    either (nat_lt op.first 0xA0) (pushes-named named place s h)
    (either (nat_lt op.first 0xC0) (pops-named named place s h) (changes-named named op place s h))

one_pin-named : (op : Op) (s : SpinState) → Names (one_pin op s)
unfolding one_pin
one_pin-named op s = acts_on_pins-named 1 op _ s (register-below op.first)

some_pins-named : (op : Op) (s : SpinState) → Names (some_pins op s)
unfolding some_pins
some_pins-named op s = acts_on_pins-named 2 op _ s (register-below op.first)

all_pins-named : (op : Op) (s : SpinState) → Names (all_pins op s)
unfolding all_pins
all_pins-named op s = acts_on_pins-named 0 op _ s (register-below op.first)

asks_word-named : (takes : ℕ) (access : Access) (s : SpinState) → IsProperHalt access → Names (asks_word takes access s)
unfolding asks_word
asks_word-named takes access s h = tests takes 1 s (gets-named access _ h)

whole_register-named : (op : Op) (s : SpinState) → Names (whole_register op s)
unfolding whole_register
whole_register-named op s = either (op.first == 0x89) (asks_word-named 0 _ s tt) (all_pins-named op s)

-- ---- jumps, and the tests of loops, of CASE and of the LOOK functions

loop_begins-named : (offset : ℕ) (s : SpinState) → Names (loop_begins offset s)
unfolding loop_begins
loop_begins-named offset s = finishes-if 1 1 s _

loop_ends-named : (offset : ℕ) (s : SpinState) → Names (loop_ends offset s)
unfolding loop_ends
loop_ends-named offset s = finishes-if 1 1 s _

jump_if_zero-named : (offset : ℕ) (s : SpinState) → Names (jump_if_zero offset s)
unfolding jump_if_zero
jump_if_zero-named offset s = finishes-if 1 0 s _

jump_unless_zero-named : (offset : ℕ) (s : SpinState) → Names (jump_unless_zero offset s)
unfolding jump_unless_zero
jump_unless_zero-named offset s = finishes-if 1 0 s _

drops-named : (s : SpinState) → Names (drops s)
unfolding drops
drops-named s = finishes-if 1 0 s _

case_value-named : (offset : ℕ) (s : SpinState) → Names (case_value offset s)
unfolding case_value
case_value-named offset s = finishes-if 2 1 s _

case_range-named : (offset : ℕ) (s : SpinState) → Names (case_range offset s)
unfolding case_range
case_range-named offset s = finishes-if 3 1 s _

look_fails-named : (s : SpinState) → Names (look_fails s)
unfolding look_fails
look_fails-named s = finishes-if 2 1 s _

lookup_value-named : (offset : ℕ) (s : SpinState) → Names (lookup_value offset s)
unfolding lookup_value
lookup_value-named offset s = finishes-if 3 2 s _

lookdown_value-named : (offset : ℕ) (s : SpinState) → Names (lookdown_value offset s)
unfolding lookdown_value
lookdown_value-named offset s = finishes-if 3 2 s _

lookup_range-named : (offset : ℕ) (s : SpinState) → Names (lookup_range offset s)
unfolding lookup_range
lookup_range-named offset s = finishes-if 4 2 s _

lookdown_range-named : (offset : ℕ) (s : SpinState) → Names (lookdown_range offset s)
unfolding lookdown_range
lookdown_range-named offset s = finishes-if 4 2 s _

-- ---- marks, calls, returns and aborts

opens-named : (code : ℕ) (s : SpinState) → Names (opens code s)
unfolding opens
opens-named code s = either (nat_le 16384 (length s.marks)) (so.stops Why.Stack tt) (finishes _)

given-named : (given : Given) (s : SpinState) → Names (given_to given s)
given-named (Called callee) s = finishes _
given-named (Started target origin count) s = gets-named _ _ tt

gives-named : (values : List ℕ) (address : ℕ) (given : Given) (s : SpinState) → Names (gives address values given s)
unfolding gives
gives-named [] address given s = given-named given s
gives-named (value ∷ values) address given s = asks _ _ tt (λ answer. gives-named values _ given s)

calls-named : (callee : Callee) (s : SpinState) → Names (calls callee s)
unfolding calls
calls-named callee s = gives-named (0 ∷ arguments s) (frame_end s) (Called callee) s

calls_method-named : (memory : List ℕ) (pbase vbase m : ℕ) (s : SpinState) → Names (calls_method memory pbase vbase m s)
unfolding calls_method
calls_method-named memory pbase vbase m s =
    either _ (so.stops Why.Table tt) (either (nat_le 127 (length s.calls)) (so.stops Why.Deep tt) (calls-named _ s))

call_own-named : (memory : List ℕ) (m : ℕ) (s : SpinState) → Names (call_own memory m s)
unfolding call_own
call_own-named memory m s = either _ (so.stops Why.Under tt) (calls_method-named memory s.pbase s.vbase m s)

calls_object-named : (memory : List ℕ) (o m : ℕ) (s : SpinState) → Names (calls_object memory o m s)
unfolding calls_object
calls_object-named memory o m s = calls_method-named memory _ _ m s

call_object-named : (memory : List ℕ) (o m : ℕ) (s : SpinState) → Names (call_object memory o m s)
unfolding call_object
call_object-named memory o m s =
    either _ (so.stops Why.Under tt) (either _ (so.stops Why.Table tt) (calls_object-named memory o m s))

call_indexed-named : (memory : List ℕ) (o n m : ℕ) (s : SpinState) → Names (call_indexed memory o n m s)
unfolding call_indexed
call_indexed-named memory o n m s =
    either _ (so.stops Why.Under tt) (tests 1 0 s (either _ (so.stops Why.Table tt) (calls_object-named memory _ m _)))

leaves_value-named : (value : Option ℕ) (frame : ℕ) (s : SpinState) → Names (leaves_value value frame s)
leaves_value-named (Some value) frame s = finishes _
leaves_value-named None frame s = either (is_readable Long frame) (gets-named _ s tt) (rom-named Long frame)

goes_back-named : (value : Option ℕ) (call : Call) (older : List Call) (s : SpinState) → Names (goes_back value call older s)
unfolding goes_back
goes_back-named value call older s =
    either call.unused (finishes _) (either (nat_lt 16384 (call.height + 1)) (so.stops Why.Stack tt) (leaves_value-named value s.frame _))

stops-named : (cog : ℕ) (s : SpinState) → Names (stops cog s)
stops-named cog s = ends-named _ None _ tt

returns-named : (cog : ℕ) (value : Option ℕ) (to : List Call) (s : SpinState) → Names (returns cog value to s)
unfolding returns
returns-named cog value [] s = stops-named cog s
returns-named cog value (call ∷ older) s = goes_back-named value call older s

return_result-named : (cog : ℕ) (s : SpinState) → Names (return_result cog s)
unfolding return_result
return_result-named cog s = returns-named cog None s.calls s

return_value-named : (cog : ℕ) (s : SpinState) → Names (return_value cog s)
unfolding return_value
return_value-named cog s = tests 1 0 s (returns-named cog _ s.calls s)

aborts-named : (cog : ℕ) (value : Option ℕ) (to : Option (Call × List Call)) (s : SpinState) → Names (aborts cog value to s)
unfolding aborts
aborts-named cog value None s = stops-named cog s
aborts-named cog value (Some found) s = goes_back-named value found.0 found.1 s

abort_result-named : (cog : ℕ) (s : SpinState) → Names (abort_result cog s)
unfolding abort_result
abort_result-named cog s = aborts-named cog None (trapping s.calls) s

abort_value-named : (cog : ℕ) (s : SpinState) → Names (abort_value cog s)
unfolding abort_value
abort_value-named cog s = tests 1 0 s (aborts-named cog _ (trapping s.calls) s)

-- ---- fills, moves and texts

fills-named : (width : Width) (left address value : ℕ) (s : SpinState) → Names (fills width address value left s)
unfolding fills
fills-named width zero address value s = finishes s
fills-named width (suc left) address value s = asks _ _ tt (λ answer. fills-named width left _ value s)

fill-named : (width : Width) (s : SpinState) → Names (fill width s)
unfolding fill
fill-named width s = tests 3 0 s (fills-named width _ _ _ _)

moves-named : (width : Width) (left to from : ℕ) (s : SpinState) → Names (moves width to from left s)
unfolding moves
moves-named width zero to from s = finishes s
moves-named width (suc left) to from s =
    either (is_readable width from) (asks _ _ tt (λ element. asks _ _ tt (λ answer. moves-named width left _ _ s))) (rom-named width from)

move_elements-named : (width : Width) (s : SpinState) → Names (move_elements width s)
unfolding move_elements
move_elements-named width s = tests 3 0 s (moves-named width _ _ _ _)

counts-named : (room address count : ℕ) (s : SpinState) → Names (counts room address count s)
unfolding counts
counts-named zero address count s = rom-named Byte address
counts-named (suc room) address count s =
    asks _ _ tt (λ answer. either (word_in answer == 0) (finishes _) (counts-named room (address + 1) (count + 1) s))

text_size-named : (s : SpinState) → Names (text_size s)
unfolding text_size
text_size-named s = tests 1 1 s (counts-named _ _ 0 _)

compares-named : (room first second : ℕ) (s : SpinState) → Names (compares room first second s)
unfolding compares
compares-named zero first second s = rom-named Byte first
compares-named (suc room) first second s =
    asks _ _ tt (λ one. either (is_readable Byte second)
    (asks _ _ tt (λ other. either (word_in one == word_in other)
    (either (word_in one == 0) (finishes _) (compares-named room (first + 1) (second + 1) s)) (finishes _)))
    (rom-named Byte second))

text_compare-named : (s : SpinState) → Names (text_compare s)
unfolding text_compare
text_compare-named s = tests 2 1 s (compares-named _ _ _ _)

-- ---- cogs, locks and waits

tells-named : (takes : ℕ) (access : Access) (s : SpinState) → IsProperHalt access → Names (tells takes access s)
unfolding tells
tells-named takes access s h = tests takes 0 s (ends-named access None _ h)

start_method-named : (memory : List ℕ) (m count : ℕ) (s : SpinState) → Names (start_method memory m count s)
unfolding start_method
start_method-named memory m count s = tests (count + 2) 1 s (either _ (so.stops Why.Table tt) (gives-named _ _ _ s))

waits_for_pins-named : (test : Test) (s : SpinState) → Names (waits_for_pins test s)
unfolding waits_for_pins
waits_for_pins-named test s = tests 3 0 s (either _ (ends-named _ None _ tt) (so.stops Why.Port tt))

-- ---- the table

call_row-named : (memory : List ℕ) (op : Op) (s : SpinState) → Names (call_row memory op s)
unfolding call_row
call_row-named memory op s =
    either _ (opens-named op.code s)
    (either _ (finishes _)
    (either _ (call_own-named memory op.first s)
    (either _ (call_object-named memory op.first op.second s) (call_indexed-named memory op.first op.second op.third s))))

test_row-named : (op : Op) (s : SpinState) → Names (test_row op s)
unfolding test_row
test_row-named op s =
    either _ (loop_begins-named op.first s)
    (either _ (loop_ends-named op.first s)
    (either _ (jump_if_zero-named op.first s)
    (either _ (jump_unless_zero-named op.first s)
    (either _ (drops-named s)
    (either _ (case_value-named op.first s)
    (either _ (case_range-named op.first s) (look_fails-named s)))))))

look_row-named : (memory : List ℕ) (op : Op) (s : SpinState) → Names (look_row memory op s)
unfolding look_row
look_row-named memory op s =
    either _ (lookup_value-named op.first s)
    (either _ (lookdown_value-named op.first s)
    (either _ (lookup_range-named op.first s)
    (either _ (lookdown_range-named op.first s)
    (either _ (drops-named s) (start_method-named memory op.first op.second s)))))

wait_row-named : (equal : Bool) (s : SpinState) → Names (wait_row equal s)
unfolding wait_row
wait_row-named equal s = either equal (waits_for_pins-named _ s) (waits_for_pins-named _ s)

move_row-named : (op : Op) (s : SpinState) → Names (move_row op s)
unfolding move_row
move_row-named op s =
    either _ (text_size-named s)
    (either _ (text_compare-named s)
    (either _ (fill-named Byte s)
    (either _ (fill-named Word s)
    (either _ (fill-named Long s)
    (either _ (wait_row-named true s)
    (either _ (move_elements-named Byte s)
    (either _ (move_elements-named Word s)
    (either _ (move_elements-named Long s) (wait_row-named false s)))))))))

cog_row-named : (op : Op) (s : SpinState) → Names (cog_row op s)
unfolding cog_row
cog_row-named op s =
    either _ (tells-named 1 (CogStop (operand s 0 % 8)) s tt)
    (either _ (tells-named 1 (LockRet (operand s 0 % 8)) s tt)
    (either _ (tells-named 1 (Wait (Count (operand s 0))) s tt)
    (either _ (asks_word-named 3 (pasm_start s) s tt)
    (either _ (asks_word-named 0 LockNew s tt)
    (either _ (asks_word-named 1 (LockSet (operand s 0 % 8)) s tt)
    (either _ (asks_word-named 1 (LockClr (operand s 0 % 8)) s tt)
    (either _ (tells-named 3 (pasm_start s) s tt)
    (either _ (tells-named 0 LockNew s tt)
    (either _ (tells-named 1 (LockSet (operand s 0 % 8)) s tt) (tells-named 1 (LockClr (operand s 0 % 8)) s tt))))))))))

constant_row-named : (op : Op) (s : SpinState) → Names (constant_row op s)
unfolding constant_row
constant_row-named op s = finishes-if 0 1 s _

return_row-named : (cog : ℕ) (op : Op) (s : SpinState) → Names (return_row cog op s)
unfolding return_row
return_row-named cog op s =
    either _ (abort_result-named cog s)
    (either _ (abort_value-named cog s)
    (either _ (return_result-named cog s)
    (either _ (return_value-named cog s)
    (either _ (constant_row-named op s)
    (either _ (one_pin-named op s)
    (either _ (some_pins-named op s) (whole_register-named op s)))))))

operator_row-named : (op : Op) (s : SpinState) → Names (operator_row op s)
unfolding operator_row
operator_row-named op s = either _ (finishes-if 1 1 s _) (finishes-if 2 1 s _)

row-named : (memory : List ℕ) (cog : ℕ) (op : Op) (s : SpinState) → Names (row memory cog op s)
unfolding row
row-named memory cog op s =
    either _ (call_row-named memory op s)
    (either _ (test_row-named op s)
    (either _ (look_row-named memory op s)
    (either _ (move_row-named op s)
    (either _ (cog_row-named op s)
    (either _ (return_row-named cog op s)
    (either _ (short_variable-named op s)
    (either _ (variable-named op s) (operator_row-named op s))))))))

-- ---- a life

found-named : (memory : List ℕ) (cog : ℕ) (found : Option (Op × ℕ)) (s : SpinState) → Names (does_found memory cog found s)
found-named memory cog None s = so.stops (Why.Byte s.at) tt
found-named memory cog (Some found) s = row-named memory cog found.0 (record s { at = found.1 })

bytecode-named : (memory : List ℕ) (cog : ℕ) (s : SpinState) → Names (bytecode memory cog s)
bytecode-named memory cog s = found-named memory cog (fetched memory s.at) s

enters-named : (s : SpinState) → Names (enters_at s)
enters-named s = ends-named _ None s tt

-- whatever it asks
pub bytecodes-named : (e : Entered) (turns : List Turn) (n clock : ℕ) (access : Access) → lived n e turns ≡ Asks clock access → IsProperHalt access
bytecodes-named e turns n clock access same =
    course-named (engine_of e.memory e.cog) (bytecode-named e.memory e.cog) (e.begin + 8192) (entry_of e)
    (enters-named (first_of e.origin)) n turns clock access same
