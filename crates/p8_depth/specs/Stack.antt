-- What each bytecode takes from the operand stack of its method, and what it leaves there.
-- Source: the public Spin bytecode listing of the Propeller P8X32A.
use Rattle.std.specs.Prelude.{ℕ, ◌+◌, ◌-◌, ◌/◌, ◌%◌, ◌≤◌, ◌==◌, nat_le, nat_lt, Bool, true, false, not, if◌then◌else◌, List, [], ◌∷◌}
use Rattle.p8_words.specs.Operators.{is_unary}
use Rattle.p8_bytecode.specs.declared.op.Op.{Op}
use Rattle.p8_bytecode.specs.Table.{is_within}

-- what a bytecode does with the stack
pub data Column : Type 0 where
  -- it opens the mark of a call, whose value is used or isn't
  Opens : (used : Bool) → Column
  -- a method is called and comes back: all longs above the newest mark are taken, the mark is closed, and the call's value is left
  -- where it is used
  Calls : Column
  -- so many longs are taken, and then so many are left
  Works : (takes leaves : ℕ) → Column
  -- the same, or else a jump, which leaves so many
  Jumps : (takes leaves jumping : ℕ) → Column
  -- a jump in every case
  Goes : Column
  -- so many longs are taken, and the method ends
  Ends : (takes : ℕ) → Column

-- ---- the columns, in the order of the bytecodes

-- those below 3D; a row has a first and a last bytecode
unfoldable pub rows : List (ℕ × ℕ × Column)
rows =
    (0x00, 0x00, Opens true) ∷ (0x01, 0x01, Opens false) ∷ (0x02, 0x02, Opens true) ∷ (0x03, 0x03, Opens false) ∷  -- marks of a call
    (0x04, 0x04, Goes) ∷  -- jump
    (0x05, 0x07, Calls) ∷  -- calls
    (0x08, 0x08, Jumps 1 1 0) ∷ (0x09, 0x09, Jumps 1 0 1) ∷  -- a count: begin of a loop, end of its pass
    (0x0A, 0x0B, Jumps 1 0 0) ∷  -- jumps by a test
    (0x0C, 0x0C, Works 1 0) ∷ (0x0D, 0x0D, Jumps 2 1 1) ∷ (0x0E, 0x0E, Jumps 3 1 1) ∷  -- CASE: end of tests, a value, a range
    (0x0F, 0x0F, Works 2 1) ∷ (0x10, 0x11, Jumps 3 2 1) ∷ (0x12, 0x13, Jumps 4 2 1) ∷  -- LOOK: end of items, values, ranges
    (0x14, 0x14, Works 1 0) ∷  -- a value dropped
    (0x16, 0x16, Works 1 1) ∷ (0x17, 0x17, Works 2 1) ∷  -- STRSIZE, STRCOMP
    (0x18, 0x1F, Works 3 0) ∷  -- fills, moves, WAITPEQ, WAITPNE
    (0x21, 0x23, Works 1 0) ∷  -- COGSTOP, LOCKRET, WAITCNT
    (0x28, 0x28, Works 3 1) ∷ (0x29, 0x29, Works 0 1) ∷ (0x2A, 0x2B, Works 1 1) ∷  -- COGINIT, LOCKNEW, LOCKSET, LOCKCLR
    (0x2C, 0x2C, Works 3 0) ∷ (0x2D, 0x2D, Works 0 0) ∷ (0x2E, 0x2F, Works 1 0) ∷  -- the same, whose values aren't used
    (0x30, 0x30, Ends 0) ∷ (0x31, 0x31, Ends 1) ∷ (0x32, 0x32, Ends 0) ∷ (0x33, 0x33, Ends 1) ∷  -- ABORT, RETURN
    (0x34, 0x3B, Works 0 1) ∷  -- constants
    []

-- what is no bytecode goes nowhere
abbrev pub in_rows : List (ℕ × ℕ × Column) → ℕ → Column
in_rows [] code = Ends 0
in_rows (row ∷ rows) code = if is_within row.0 row.1 code then row.2 else in_rows rows code

-- an effect that writes what is popped, or what a binary operator gives of it
abbrev pub takes_value : (effect : ℕ) → Bool
takes_value effect = if nat_le 0x40 effect then not (is_unary (effect + 0xA0)) else effect == 0

-- by an effect; 02 and 06 end a pass of REPEAT, with both ends and a step on the stack; bit 7 leaves a value
abbrev pub changed : (named effect : ℕ) → Column
changed named effect =
    if effect == 0x02 then Jumps (named + 2) 0 0
    else if effect == 0x06 then Jumps (named + 3) 0 0
    else Works (named + (if takes_value (effect % 128) then 1 else 0)) (if nat_le 128 effect then 1 else 0)

-- a variable that so many longs name: 0 pushes its value, 1 pops one into it, 2 changes it by an effect, 3 pushes its address
abbrev pub on_variable : (named action effect : ℕ) → Column
on_variable named action effect =
    if action == 1 then Works (named + 1) 0
    else if action == 2 then changed named effect
    else Works named 1

-- bit 4 of memory's bytecodes says that there is an index; bits 3 and 2 are 0 where the address is popped
abbrev pub named_by : (code : ℕ) → ℕ
named_by code = (if code / 16 % 2 == 1 then 1 else 0) + (if code / 4 % 4 == 0 then 1 else 0)

-- 3D names one pin of a register, 3E the first and the last of some, 3F them all
abbrev pub pins_by : (code : ℕ) → ℕ
pins_by code = if code == 0x3D then 1 else if code == 0x3E then 2 else 0

-- the byte of a register: from 80 on push, from A0 on pop, from C0 on change
abbrev pub done_by : (byte : ℕ) → ℕ
done_by byte = if nat_lt byte 0xA0 then 0 else if nat_lt byte 0xC0 then 1 else 2

abbrev pub column : Op → Column
column op =
    if nat_le 0xE0 op.code then Works (if is_unary op.code then 1 else 2) 1
    else if nat_le 0x80 op.code then on_variable (named_by op.code) (op.code % 4) op.effect
    else if nat_le 0x40 op.code then on_variable 0 (op.code % 4) op.effect
    else if nat_le 0x3D op.code then on_variable (pins_by op.code) (done_by op.first) op.effect
    else if op.code == 0x15 then Works (op.second + 2) 1
    else in_rows rows op.code

-- ---- the stack

-- an open mark of a call: how many longs lie below it, and whether the call's value is used
pub record Mark : Type 0 where
  pub below : ℕ
  pub used : Bool

-- how many longs a method holds, and its open marks, the newest first
pub record Stack : Type 0 where
  pub longs : ℕ
  pub marks : List Mark

abbrev pub holds : (longs : ℕ) → (marks : List Mark) → Stack
holds longs marks = record { longs = longs; marks = marks }

abbrev pub replaced : (takes leaves : ℕ) → Stack → Stack
replaced takes leaves s = holds (s.longs - takes + leaves) s.marks

abbrev pub called : List Mark → Stack → Stack
called [] s = s
called (mark ∷ marks) s = holds (mark.below + (if mark.used then 1 else 0)) marks

-- The places, with their stacks, to which a bytecode leads: the one behind it, the one to which it jumps, or both.
abbrev pub onward : Column → (behind target : ℕ) → Stack → List (ℕ × Stack)
onward (Opens used) behind target s = (behind, holds s.longs (record { below = s.longs; used = used } ∷ s.marks)) ∷ []
onward Calls behind target s = (behind, called s.marks s) ∷ []
onward (Works takes leaves) behind target s = (behind, replaced takes leaves s) ∷ []
onward (Jumps takes leaves jumping) behind target s = (behind, replaced takes leaves s) ∷ (target, replaced takes jumping s) ∷ []
onward Goes behind target s = (target, s) ∷ []
onward (Ends takes) behind target s = []

-- ---- what a bytecode needs

-- the longs that no bytecode takes: those below the newest mark
abbrev pub below_all : List Mark → ℕ
below_all [] = 0
below_all (mark ∷ marks) = mark.below

abbrev pub IsOpen : List Mark → Type 0
IsOpen [] = ⊥
IsOpen (mark ∷ marks) = Unit {0}

-- there are as many longs above the newest mark as a bytecode takes, and a mark where it calls
abbrev pub IsEnough : Column → Stack → Type 0
IsEnough (Opens used) s = Unit {0}
IsEnough Calls s = IsOpen s.marks
IsEnough (Works takes leaves) s = below_all s.marks + takes ≤ s.longs
IsEnough (Jumps takes leaves jumping) s = below_all s.marks + takes ≤ s.longs
IsEnough Goes s = Unit {0}
IsEnough (Ends takes) s = below_all s.marks + takes ≤ s.longs
