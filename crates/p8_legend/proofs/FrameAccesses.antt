-- What a bytecode asks that names a variable of the frame by itself, without an index: accesses on that variable, and halts.
use Rattle.std.proofs.Common.{◌≡◌, ◌∙◌, refl, sym, ap, subst, arith, ℕ, ◌+◌, ◌-◌, ◌*◌, ◌/◌, ◌%◌, ◌^◌, ◌<◌, ◌≤◌, ◌==◌, ◌&&◌, nat_le, nat_lt, Bool, true, false, if◌then◌else◌, List, [], ◌∷◌, length, Option, Some, None}
use Rattle.p8_access.specs.declared.kinds.Width.{Width}
use Rattle.p8_access.specs.declared.kinds.Width.TheVariants.{Long}
use Rattle.p8_access.specs.declared.kinds.Reason.{Reason}
use Rattle.p8_access.specs.declared.kinds.Reason.TheVariants as Why
use Rattle.p8_access.specs.declared.kinds.Access.{Access}
use Rattle.p8_access.specs.declared.kinds.Answer.{Answer}
use Rattle.p8_access.specs.declared.order.Turn.{Turn}
use Rattle.p8_access.specs.Courses.{Course, Finish, Stop, Ask}
use Rattle.p8_access.specs.Lives.{is_last}
use Rattle.p8_access.specs.Proper.{bytes_in}
use Rattle.p8_access.specs.Timing.{Outcome, Asks, Goes, Ends, behind, played}
use Rattle.p8_bytecode.specs.declared.op.Op.{Op}
use Rattle.p8_bcog.specs.declared.state.SpinState.{SpinState}
use Rattle.p8_bcog.specs.declared.variable_place.VariablePlace.TheVariants.{Memory}
use Rattle.p8_bcog.specs.declared.step.Wanted.{Wanted}
use Rattle.p8_bcog.specs.declared.step.Wanted.TheVariants.{Pushed, Changed, Replaced, Stepped}
use Rattle.p8_bcog.specs.Operands.{operand, operands, stopped_by, tested}
use Rattle.p8_bcog.specs.Accesses.{aligned, ends, is_readable, read_of, word_in, write_of}
use Rattle.p8_bcog.specs.Places.{writes_place, uses, asks_for, reads_place, value_in}
use Rattle.p8_bcog.specs.Changes.{pushes, pops, stores, sets, steps_by_one, steps, changes_alone, changes_by, changes}
use Rattle.p8_bcog.specs.Variables.{acts, short_variable, short_address, variable, names, width_of, index_of, is_indexed, base_of, address_of}
use Rattle.p8_bcog.specs.Bytecodes.{row, does_found}
use Rattle.p8_compiled.proofs.Truths.{below, equal, at-most, if-no, if-yes, less, not-less, first-true, second-true}
use Rattle.p8_legend.specs.Frames.{frame_offset, is_local}
use Rattle.p8_legend.specs.Framing.{IsOn}

-- ---- courses whose accesses are on a variable

module _ (width : Width) (address : ℕ) where
  abbrev At : Access → Type 0
  At access = IsOn access width (aligned width address)

  -- each access that a course may ask, whatever is answered
  abbrev AllOn : Course SpinState → Type 0
  AllOn (Finish s) = Unit {0}
  AllOn (Stop reason) = Unit {0}
  AllOn (Ask access go) = At access × ((answer : Answer) → AllOn (go answer))

  record Stays (course : Course SpinState) : Type 0 where
    all : AllOn course

  finishes : (s : SpinState) → Stays (Finish s)
  finishes s = record { all = tt }

  stops : (reason : Reason) → Stays (Stop reason)
  stops reason = record { all = tt }

  asks : (access : Access) (go : Answer → Course SpinState) → At access → ((answer : Answer) → Stays (go answer)) → Stays (Ask access go)
  asks access go h k = record { all = (h, λ answer. (k answer).all) }

  either : (b : Bool) {x y : Course SpinState} → Stays x → Stays y → Stays (if b then x else y)
  either true h k = h
  either false h k = k

  refused : (under full : Bool) {course : Course SpinState} → Stays course → Stays (stopped_by (if under then Some Why.Under else if full then Some Why.Stack else None) course)
  refused true full h = stops Why.Under
  refused false true h = stops Why.Stack
  refused false false h = h

  tests : (takes leaves : ℕ) (s : SpinState) {course : Course SpinState} → Stays course → Stays (tested takes leaves s course)
  tests takes leaves s h = refused (nat_lt (operands s) takes) (nat_lt 16384 (length s.stack - takes + leaves)) h

  -- ---- a variable of memory

  ends-on : (access : Access) (left : Option ℕ) (s : SpinState) → At access → Stays (ends access left s)
  unfolding ends
  ends-on access left s h = asks access _ h (λ answer. finishes _)

  writes-on : (value : ℕ) (left : Option ℕ) (s : SpinState) → Stays (writes_place (Memory width address) value left s)
  unfolding writes_place
  writes-on value left s = ends-on (write_of width address value) left s (refl, refl)

  uses-on : (wanted : Wanted) (value : ℕ) (s : SpinState) → Stays (uses wanted (Memory width address) value s)
  unfolding uses
  uses-on Pushed value s = finishes _
  uses-on (Replaced new) value s = writes-on new (Some value) s
  uses-on (Changed effect right) value s = writes-on _ _ s
  uses-on (Stepped by from to target) value s = writes-on _ None _

  asks_for-on : (wanted : Wanted) (s : SpinState) → Stays (asks_for (read_of width address) wanted (Memory width address) s)
  unfolding asks_for
  asks_for-on wanted s = asks (read_of width address) _ (refl, refl) (λ answer. uses-on wanted (value_in (Memory width address) (word_in answer)) s)

  reads-on : (wanted : Wanted) (s : SpinState) → Stays (reads_place wanted (Memory width address) s)
  unfolding reads_place
  reads-on wanted s = either (is_readable width address) (asks_for-on wanted s) (stops _)

  pushes-on : (named : ℕ) (s : SpinState) → Stays (pushes named (Memory width address) s)
  unfolding pushes
  pushes-on named s = tests named 1 s (reads-on Pushed _)

  pops-on : (named : ℕ) (s : SpinState) → Stays (pops named (Memory width address) s)
  unfolding pops
  pops-on named s = tests (named + 1) 0 s (writes-on _ None _)

  stores-on : (named effect : ℕ) (s : SpinState) → Stays (stores named effect (Memory width address) s)
  unfolding stores
  stores-on named effect s = tests (named + 1) _ s (writes-on _ _ _)

  sets-on : (named effect value : ℕ) (s : SpinState) → Stays (sets named effect value (Memory width address) s)
  unfolding sets
  sets-on named effect value s = tests named _ s (either (nat_le 128 effect) (reads-on (Replaced value) _) (writes-on value None _))

  steps_by_one-on : (named : ℕ) (op : Op) (s : SpinState) → Stays (steps_by_one named op (Memory width address) s)
  unfolding steps_by_one
  steps_by_one-on named op s = tests (named + 2) 0 s (reads-on _ _)

  steps-on : (named : ℕ) (op : Op) (s : SpinState) → Stays (steps named op (Memory width address) s)
  unfolding steps
  steps-on named op s = tests (named + 3) 0 s (reads-on _ _)

  changes_alone-on : (named effect : ℕ) (s : SpinState) → Stays (changes_alone named effect (Memory width address) s)
  unfolding changes_alone
  changes_alone-on named effect s = tests named _ s (reads-on (Changed effect 0) _)

  changes_by-on : (named effect : ℕ) (s : SpinState) → Stays (changes_by named effect (Memory width address) s)
  unfolding changes_by
  changes_by-on named effect s = tests (named + 1) _ s (reads-on _ _)

  changes-on : (named : ℕ) (op : Op) (s : SpinState) → Stays (changes named op (Memory width address) s)
  unfolding changes
  changes-on named op s =
      either _ (stores-on named op.effect s)
      (either _ (steps_by_one-on named op s)
      (either _ (steps-on named op s)
      (either _ (sets-on named op.effect 0 s)
      (either _ (sets-on named op.effect (2 ^ 32 - 1) s)
      (either _ (changes_by-on named op.effect s) (changes_alone-on named op.effect s))))))

  acts-on : (action named : ℕ) (op : Op) (s : SpinState) → Stays (acts action named op width address s)
  unfolding acts
  acts-on action named op s =
      either (action == 0) (pushes-on named s)
      (either (action == 1) (pops-on named s)
      (either (action == 2) (changes-on named op s) (tests named 1 s (finishes _))))

  -- ---- what is asked

  abbrev AskedOn : Outcome SpinState → Type 0
  AskedOn (Asks clock access) = At access
  AskedOn (Goes s clock left) = Unit {0}
  AskedOn Ends = Unit {0}

  if-asked : (b : Bool) (o : Outcome SpinState) → AskedOn o → AskedOn (if b then Ends else o)
  if-asked true o h = tt
  if-asked false o h = h

  played-on : (cog p : ℕ) (course : Course SpinState) → AllOn course → (turns : List Turn) → AskedOn (played cog p course turns)
  played-on cog p (Finish s) h turns = tt
  played-on cog p (Stop reason) h [] = tt
  played-on cog p (Stop reason) h (turn ∷ left) = tt
  played-on cog p (Ask access go) h [] = h.0
  played-on cog p (Ask access go) h (turn ∷ left) = if-asked (is_last cog access) _ (played-on cog (behind p access turn.key.clock) (go turn.answer) (h.1 turn.answer) left)

-- ---- the bytecodes

short-row : (memory : List ℕ) (cog : ℕ) (op : Op) (s : SpinState) → 0x40 ≤ op.code → op.code < 0x80 → row memory cog op s ≡ short_variable op s
unfolding row
short-row memory cog op s least most =
    if-no (nat_lt op.code 0x08) _ _ (not-less op.code 0x08 (omega (arith, least)))
    ∙ if-no (nat_lt op.code 0x10) _ _ (not-less op.code 0x10 (omega (arith, least)))
    ∙ if-no (nat_lt op.code 0x16) _ _ (not-less op.code 0x16 (omega (arith, least)))
    ∙ if-no (nat_lt op.code 0x20) _ _ (not-less op.code 0x20 (omega (arith, least)))
    ∙ if-no (nat_lt op.code 0x30) _ _ (not-less op.code 0x30 (omega (arith, least)))
    ∙ if-no (nat_lt op.code 0x40) _ _ (not-less op.code 0x40 least)
    ∙ if-yes (nat_lt op.code 0x80) _ _ (less op.code 0x80 most)

long-row : (memory : List ℕ) (cog : ℕ) (op : Op) (s : SpinState) → 0x80 ≤ op.code → op.code < 0xE0 → row memory cog op s ≡ variable op s
unfolding row
long-row memory cog op s least most =
    if-no (nat_lt op.code 0x08) _ _ (not-less op.code 0x08 (omega (arith, least)))
    ∙ if-no (nat_lt op.code 0x10) _ _ (not-less op.code 0x10 (omega (arith, least)))
    ∙ if-no (nat_lt op.code 0x16) _ _ (not-less op.code 0x16 (omega (arith, least)))
    ∙ if-no (nat_lt op.code 0x20) _ _ (not-less op.code 0x20 (omega (arith, least)))
    ∙ if-no (nat_lt op.code 0x30) _ _ (not-less op.code 0x30 (omega (arith, least)))
    ∙ if-no (nat_lt op.code 0x40) _ _ (not-less op.code 0x40 (omega (arith, least)))
    ∙ if-no (nat_lt op.code 0x80) _ _ (not-less op.code 0x80 least)
    ∙ if-yes (nat_lt op.code 0xE0) _ _ (less op.code 0xE0 most)

-- an address is taken mod 65,536 but once
once : (width : Width) (n : ℕ) → aligned width (n % 2 ^ 16) ≡ aligned width n
once width n = ap (λ a. a / bytes_in width * bytes_in width) (let e : n % 65536 % 65536 ≡ n % 65536 = omega arith in e)

-- a bytecode's course stays on a variable of the frame at this offset, of some width
pub record StaysIn (course : Course SpinState) (frame offset : ℕ) : Type 0 where
  pub width : Width
  pub stays : AllOn width (frame + offset) course

moved : (width : Width) (a b : ℕ) (course : Course SpinState) → aligned width a ≡ aligned width b → AllOn width a course → AllOn width b course
moved width a b (Finish s) same all = tt
moved width a b (Stop reason) same all = tt
moved width a b (Ask access go) same all = (subst (IsOn access width) same all.0, λ answer. moved width a b (go answer) same (all.1 answer))

short-offset : (code : ℕ) (s : SpinState) → 0x60 ≤ code → code < 0x80 → short_address code s ≡ (s.frame + code / 4 % 8 * 4) % 2 ^ 16
short-offset code s least most =
    let bit : code / 32 % 2 ≡ 1 = omega (arith, least, most) in
    ap (λ b. ((if b == 0 then s.vbase else s.frame) + code / 4 % 8 * 4) % 2 ^ 16) bit

short-stays : (op : Op) (s : SpinState) → 0x60 ≤ op.code → op.code < 0x80 → StaysIn (short_variable op s) s.frame (op.code / 4 % 8 * 4)
unfolding short_variable
short-stays op s least most = record {
  width = Long;
  stays = moved Long (short_address op.code s) (s.frame + op.code / 4 % 8 * 4) _ (ap (aligned Long) (short-offset op.code s least most) ∙ once Long (s.frame + op.code / 4 % 8 * 4))
      (acts-on Long (short_address op.code s) (op.code % 4) 0 op s).all;
}

own-address : (op : Op) (s : SpinState) → op.code / 4 % 4 ≡ 3 → (op.code / 16 % 2 == 1) ≡ false → address_of op s ≡ (s.frame + op.first) % 2 ^ 16
own-address op s base plain =
    let begins : base_of op.code s ≡ s.frame = ap (λ n. if n == 0 then operand s (if is_indexed op.code then 1 else 0) else if n == 1 then s.pbase else if n == 2 then s.vbase else s.frame) base in
    let alone : index_of op.code s ≡ 0 = ap (λ b. if b then operand s 0 * bytes_in (width_of op.code) else 0) plain in
    ap (λ n. (n + op.first + index_of op.code s) % 2 ^ 16) begins ∙ ap (λ n. (s.frame + op.first + n) % 2 ^ 16) alone ∙ ap (λ n. n % 2 ^ 16) (let e : s.frame + op.first + 0 ≡ s.frame + op.first = omega arith in e)

long-stays : (op : Op) (s : SpinState) → op.code / 4 % 4 ≡ 3 → (op.code / 16 % 2 == 1) ≡ false → StaysIn (variable op s) s.frame op.first
unfolding variable
long-stays op s base plain = record {
  width = width_of op.code;
  stays = moved (width_of op.code) (address_of op s) (s.frame + op.first) _ (ap (aligned (width_of op.code)) (own-address op s base plain) ∙ once (width_of op.code) (s.frame + op.first))
      (acts-on (width_of op.code) (address_of op s) (op.code % 4) (names op.code) op s).all;
}

-- ---- a bytecode that names a variable of the frame

low : (a b : ℕ) (code : ℕ) → (nat_le a code && nat_lt code b) ≡ true → a ≤ code
low a b code is = at-most a code (first-true (nat_le a code) (nat_lt code b) is)

high : (a b : ℕ) (code : ℕ) → (nat_le a code && nat_lt code b) ≡ true → code < b
high a b code is = below code b (second-true (nat_le a code) (nat_lt code b) is)

none-some : {X : Type 0} (x : X) → None ≡ Some x → ⊥
none-some x is = cc

inner : (a b : ℕ) → Some a ≡ Some b → a ≡ b
inner a b is = ap (λ (o : Option ℕ). get a o) is
  where
    get : ℕ → Option ℕ → ℕ
    get a None = a
    get a (Some n) = n

-- of the bytecodes 80 to DF
record IsLong (code : ℕ) : Type 0 where
  least : 0x80 ≤ code
  most : code < 0xE0
  base : code / 4 % 4 ≡ 3
  plain : (code / 16 % 2 == 1) ≡ false

long-is : (code : ℕ) → is_local code ≡ true → IsLong code
long-is code is =
    let first = first-true (nat_le 0x80 code && nat_lt code 0xE0 && code / 4 % 4 == 3) (code / 16 % 2 == 0) is in
    let ends = first-true (nat_le 0x80 code && nat_lt code 0xE0) (code / 4 % 4 == 3) first in
    let bit : code / 16 % 2 ≡ 0 = equal (code / 16 % 2) 0 (second-true (nat_le 0x80 code && nat_lt code 0xE0 && code / 4 % 4 == 3) (code / 16 % 2 == 0) is) in
    record {
      least = low 0x80 0xE0 code ends;
      most = high 0x80 0xE0 code ends;
      base = equal (code / 4 % 4) 3 (second-true (nat_le 0x80 code && nat_lt code 0xE0) (code / 4 % 4 == 3) first);
      plain = ap (λ n. n == 1) bit;
    }

by-test : (memory : List ℕ) (cog : ℕ) (op : Op) (s : SpinState) (offset : ℕ) (short long : Bool) → (nat_le 0x60 op.code && nat_lt op.code 0x80) ≡ short → is_local op.code ≡ long
    → (if short then Some (op.code / 4 % 8 * 4) else if long then Some op.first else None) ≡ Some offset → StaysIn (row memory cog op s) s.frame offset
by-test memory cog op s offset true long first second is =
    let least = low 0x60 0x80 op.code first in
    subst (StaysIn (row memory cog op s) s.frame) (inner (op.code / 4 % 8 * 4) offset is)
    (subst (λ course. StaysIn course s.frame (op.code / 4 % 8 * 4)) (sym (short-row memory cog op s (omega (arith, least)) (high 0x60 0x80 op.code first))) (short-stays op s least (high 0x60 0x80 op.code first)))
by-test memory cog op s offset false true first second is =
    let l = long-is op.code second in
    subst (StaysIn (row memory cog op s) s.frame) (inner op.first offset is)
    (subst (λ course. StaysIn course s.frame op.first) (sym (long-row memory cog op s l.least l.most)) (long-stays op s l.base l.plain))
by-test memory cog op s offset false false first second is = absurd (none-some offset is)

pub frame-stays : (memory : List ℕ) (cog : ℕ) (op : Op) (s : SpinState) (offset : ℕ) → frame_offset op ≡ Some offset → StaysIn (row memory cog op s) s.frame offset
frame-stays memory cog op s offset is = by-test memory cog op s offset (nat_le 0x60 op.code && nat_lt op.code 0x80) (is_local op.code) refl refl is

-- so does what a cog does at an address where this bytecode is fetched, if any is
pub found-stays : (memory : List ℕ) (cog : ℕ) (op : Op) (after offset : ℕ) (s : SpinState) (none : Bool) → frame_offset op ≡ Some offset → StaysIn (does_found memory cog (if none then None else Some (op, after)) s) s.frame offset
found-stays memory cog op after offset s true is = record { width = Long; stays = tt }
found-stays memory cog op after offset s false is = let h = frame-stays memory cog op (record s { at = after }) offset is in record { width = h.width; stays = h.stays }

-- what is asked then is on the variable
pub asked-on : (cog p : ℕ) (course : Course SpinState) (frame offset : ℕ) (h : StaysIn course frame offset) (turns : List Turn) (clock : ℕ) (access : Access) → played cog p course turns ≡ Asks clock access → IsOn access h.width (aligned h.width (frame + offset))
asked-on cog p course frame offset h turns clock access is = subst (AskedOn h.width (frame + offset)) is (played-on h.width (frame + offset) cog p course h.stays turns)
