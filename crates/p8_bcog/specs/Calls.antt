-- Marks, calls, returns and aborts. A frame is a result and what is after it, parameters and locals, each a long.
use Rattle.std.specs.Prelude.{ℕ, ◌+◌, ◌-◌, ◌*◌, ◌/◌, ◌%◌, ◌^◌, ◌==◌, nat_lt, nat_le, not, ◌&&◌, Bool, List, [], ◌∷◌, length, take, drop, Option}
use Rattle.std.specs.Prelude.{Some, None, if◌then◌else◌}
use Rattle.p8_access.specs.declared.kinds.Width.TheVariants.{Long}
use Rattle.p8_access.specs.declared.kinds.Reason.TheVariants as Why
use Rattle.p8_access.specs.declared.kinds.Access.TheVariants.{CogInit}
use Rattle.p8_access.specs.Courses.{Course, Finish, Stop, Ask}
use Rattle.p8_bcog.specs.declared.marks.CallMark.{CallMark}
use Rattle.p8_bcog.specs.declared.calls.Call.{Call}
use Rattle.p8_bcog.specs.declared.step.Callee.{Callee}
use Rattle.p8_bcog.specs.declared.step.Given.{Given}
use Rattle.p8_bcog.specs.declared.step.Given.TheVariants.{Called, Started}
use Rattle.p8_bcog.specs.declared.state.SpinState.{SpinState}
use Rattle.p8_bcog.specs.Newest.{trapping}
use Rattle.p8_bcog.specs.Code.{is_method, is_object, object_base, object_variables, method_at}
use Rattle.p8_bcog.specs.Operands.{operand, taken, pushed, tested}
use Rattle.p8_bcog.specs.Accesses.{gets, stops, read_of, is_readable, rom_halt, write_of, next_address}

-- ---- marks

-- how many marks are open besides those of the method at hand
abbrev pub marks_below : List Call → ℕ
marks_below [] = 0
marks_below (call ∷ calls) = call.marks

abbrev pub has_mark : SpinState → Bool
has_mark s = nat_lt (marks_below s.calls) (length s.marks)

-- 00 to 03 ( -- ) open a mark; bit 0: the value isn't used; bit 1: the call stops aborts
abbrev pub mark_of : (code base : ℕ) → CallMark
mark_of code base = record { outer = base; unused = code % 2 == 1; traps = code / 2 % 2 == 1 }

unfoldable pub opens : (code : ℕ) → SpinState → Course SpinState
opens code s =
    if nat_le 16384 (length s.marks) then Stop Why.Stack
    else Finish (record s { marks = mark_of code s.base ∷ s.marks; base = length s.stack })

-- ---- calls

-- where the frame at hand ends
abbrev pub frame_end : SpinState → ℕ
frame_end s = (s.frame + 4 + s.size) % 2 ^ 16

-- what a caller gets back: its operands are counted as before the mark
abbrev pub call_of : CallMark → (open_marks : ℕ) → SpinState → Call
call_of mark open_marks s = record {
  at = s.at;
  pbase = s.pbase;
  vbase = s.vbase;
  frame = s.frame;
  size = s.size;
  base = mark.outer;
  height = s.base;
  marks = open_marks;
  unused = mark.unused;
  traps = mark.traps;
}

-- the method begins at the height of the mark, which is closed; its frame begins where the caller's ends, and has
-- its parameters and locals
abbrev pub enters : Callee → CallMark → List CallMark → SpinState → SpinState
enters callee mark marks s = record s {
  at = callee.entry;
  pbase = callee.pbase;
  vbase = callee.vbase;
  frame = frame_end s;
  size = (4 * (length s.stack - s.base) + callee.locals) % 2 ^ 16;
  stack = take s.base s.stack;
  marks = marks;
  calls = call_of mark (length marks) s ∷ s.calls;
}

abbrev pub entered : Callee → List CallMark → SpinState → SpinState
entered callee [] s = s
entered callee (mark ∷ marks) s = enters callee mark marks s

-- what longs are written for
abbrev pub given_to : Given → SpinState → Course SpinState
given_to (Called callee) s = Finish (entered callee s.marks s)
given_to (Started target origin count) s = gets (CogInit target origin) (taken count s)

-- these longs are written, one after the other, and then what they are for follows
unfoldable pub gives : (address : ℕ) → List ℕ → Given → SpinState → Course SpinState
gives address [] given s = given_to given s
gives address (value ∷ values) given s =
    Ask (write_of Long address value) (λ answer. gives (next_address Long address) values given s)

-- a call writes 0 to the new result, and then its arguments, the longs above the mark, in order
abbrev pub arguments : SpinState → List ℕ
arguments s = drop s.base s.stack

unfoldable pub calls : Callee → SpinState → Course SpinState
calls callee s = gives (frame_end s) (0 ∷ arguments s) (Called callee) s

-- 128 methods are active at most, the first counted
unfoldable pub calls_method : (memory : List ℕ) (pbase vbase m : ℕ) → SpinState → Course SpinState
calls_method memory pbase vbase m s =
    if not (is_method memory pbase m) then Stop Why.Table
    else if nat_le 127 (length s.calls) then Stop Why.Deep
    else calls (method_at memory pbase vbase m) s

-- 05 m: a method of the same object
unfoldable pub call_own : (memory : List ℕ) (m : ℕ) → SpinState → Course SpinState
call_own memory m s =
    if not (has_mark s) then Stop Why.Under
    else calls_method memory s.pbase s.vbase m s

-- 06 o m: a method of the object at o
unfoldable pub calls_object : (memory : List ℕ) (o m : ℕ) → SpinState → Course SpinState
calls_object memory o m s =
    calls_method memory (object_base memory s.pbase o) (object_variables memory s.pbase s.vbase o) m s

unfoldable pub call_object : (memory : List ℕ) (o m : ℕ) → SpinState → Course SpinState
call_object memory o m s =
    if not (has_mark s) then Stop Why.Under
    else if not (is_object memory s.pbase o) then Stop Why.Table
    else calls_object memory o m s

-- 07 o n m ( i -- ): a method of the object at o + i, where i is below n
unfoldable pub call_indexed : (memory : List ℕ) (o n m : ℕ) → SpinState → Course SpinState
call_indexed memory o n m s =
    if not (has_mark s) then Stop Why.Under
    else tested 1 0 s
    (if not (is_object memory s.pbase o && nat_lt (operand s 0) n && is_object memory s.pbase (o + operand s 0)) then Stop Why.Table
    else calls_object memory (o + operand s 0) m (taken 1 s))

-- ---- returns

-- the stack is lowered to the mark's height, and the caller's marks alone are left
abbrev pub returned : Call → (older : List Call) → SpinState → SpinState
returned call older s = record s {
  at = call.at;
  pbase = call.pbase;
  vbase = call.vbase;
  frame = call.frame;
  size = call.size;
  base = call.base;
  stack = take call.height s.stack;
  marks = drop (length s.marks - call.marks) s.marks;
  calls = older;
}

-- the value of a return or an abort: one that is given, or that of the result in a frame, which is read only where it is used
abbrev pub leaves_value : Option ℕ → (frame : ℕ) → SpinState → Course SpinState
leaves_value (Some value) frame s = Finish (pushed value s)
leaves_value None frame s =
    if is_readable Long frame then gets (read_of Long frame) s else rom_halt Long frame

unfoldable pub goes_back : Option ℕ → Call → (older : List Call) → SpinState → Course SpinState
goes_back value call older s =
    if call.unused then Finish (returned call older s)
    else if nat_lt 16384 (call.height + 1) then Stop Why.Stack
    else leaves_value value s.frame (returned call older s)

-- with no caller the cog stops itself
unfoldable pub returns : (cog : ℕ) → Option ℕ → List Call → SpinState → Course SpinState
returns cog value [] s = stops cog s
returns cog value (call ∷ older) s = goes_back value call older s

-- 32 ( -- ) RETURN, with the value of RESULT; 33 ( v -- ) RETURN v
unfoldable pub return_result : (cog : ℕ) → SpinState → Course SpinState
return_result cog s = returns cog None s.calls s

unfoldable pub return_value : (cog : ℕ) → SpinState → Course SpinState
return_value cog s = tested 1 0 s (returns cog (Some (operand s 0)) s.calls s)

-- an abort ends methods up to the nearest call that stops it, and with none the cog stops itself
unfoldable pub aborts : (cog : ℕ) → Option ℕ → Option (Call × List Call) → SpinState → Course SpinState
aborts cog value None s = stops cog s
aborts cog value (Some found) s = goes_back value found.0 found.1 s

-- 30 ( -- ) ABORT, with the value of RESULT; 31 ( v -- ) ABORT v
unfoldable pub abort_result : (cog : ℕ) → SpinState → Course SpinState
abort_result cog s = aborts cog None (trapping s.calls) s

unfoldable pub abort_value : (cog : ℕ) → SpinState → Course SpinState
abort_value cog s = tested 1 0 s (aborts cog (Some (operand s 0)) (trapping s.calls) s)
