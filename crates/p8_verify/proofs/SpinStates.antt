-- Where a Spin cog is within limits: its places are below 65,536, and what lies on its stack are words.
use Rattle.std.proofs.Common.{◌≡◌, subst, arith, ℕ, zero, suc, ◌+◌, ◌-◌, ◌%◌, ◌^◌, ◌<◌, nat_lt, Bool, true, false, if◌then◌else◌, List, [], ◌∷◌}
use Rattle.std.proofs.Common.{length, Option, Some, None}
use Rattle.std.specs.List.{All}
use Rattle.std.proofs.lemmas.List.Elements.{All-push, All-take}
use Rattle.p8_access.specs.declared.kinds.Reason.{Reason}
use Rattle.p8_access.specs.declared.kinds.Reason.TheVariants as Why
use Rattle.p8_access.specs.declared.kinds.Access.{Access}
use Rattle.p8_access.specs.declared.kinds.Answer.{Answer}
use Rattle.p8_access.specs.declared.kinds.Answer.TheVariants.{Done, Value, Number, Was}
use Rattle.p8_access.specs.declared.order.Turn.{Turn}
use Rattle.p8_access.specs.Lives.{is_last}
use Rattle.p8_access.specs.Courses.{Course, Finish, Stop, Ask}
use Rattle.p8_access.specs.Timing.{Outcome, Asks, Goes, Ends, behind, played}
use Rattle.p8_access.specs.Replays.{Engine, step, after, replayed}
use Rattle.p8_bcog.specs.declared.state.SpinState.{SpinState}
use Rattle.p8_bcog.specs.declared.calls.Call.{Call}
use Rattle.p8_bcog.specs.Operands.{operand, operands, taken, pushed, left_by, replaced, jumped, jumped_if, stopped_by, tested}
use Rattle.p8_bcog.specs.Accesses.{word_in}
use Rattle.p8_verify.specs.Table.{IsReasonWithin, IsAccessWithin, IsAnswerWithin}
use Rattle.p8_verify.proofs.Limits.{IsWord, index-word, AreAnswered}

abbrev pub AreSound : List Call → Type 0
AreSound [] = Unit {0}
AreSound (call ∷ calls) = ((call.at < 65536) × (call.pbase < 65536) × (call.vbase < 65536)) × AreSound calls

pub record Sound (at pbase vbase : ℕ) (stack : List ℕ) (calls : List Call) : Type 0 where
  pub at_below : at < 65536
  pub pbase_below : pbase < 65536
  pub vbase_below : vbase < 65536
  pub words : All IsWord stack
  pub callers : AreSound calls

abbrev pub IsSound : SpinState → Type 0
IsSound s = Sound s.at s.pbase s.vbase s.stack s.calls

abbrev pub IsLeft : Option ℕ → Type 0
IsLeft None = Unit {0}
IsLeft (Some value) = value < 2 ^ 32

-- ---- operands

pub operand-word : (s : SpinState) (below : ℕ) → IsSound s → operand s below < 2 ^ 32
operand-word s below h = index-word s.stack (length s.stack - 1 - below) h.words

pub pushed-sound : (value : ℕ) (s : SpinState) → value < 2 ^ 32 → IsSound s → IsSound (pushed value s)
pushed-sound value s low h = record {
  at_below = h.at_below;
  pbase_below = h.pbase_below;
  vbase_below = h.vbase_below;
  words = All-push IsWord s.stack value h.words low;
  callers = h.callers;
}

pub taken-sound : (count : ℕ) (s : SpinState) → IsSound s → IsSound (taken count s)
taken-sound count s h = record {
  at_below = h.at_below;
  pbase_below = h.pbase_below;
  vbase_below = h.vbase_below;
  words = All-take IsWord (length s.stack - count) s.stack h.words;
  callers = h.callers;
}

pub at-sound : (at : ℕ) (s : SpinState) → at < 65536 → IsSound s → IsSound (record s { at = at })
at-sound at s low h = record { at_below = low; pbase_below = h.pbase_below; vbase_below = h.vbase_below; words = h.words; callers = h.callers }

pub left-sound : (left : Option ℕ) (s : SpinState) → IsLeft left → IsSound s → IsSound (left_by left s)
left-sound None s low h = h
left-sound (Some value) s low h = pushed-sound value s low h

pub replaced-sound : (count value : ℕ) (s : SpinState) → value < 2 ^ 32 → IsSound s → IsSound (replaced count value s)
replaced-sound count value s low h = pushed-sound value (taken count s) low (taken-sound count s h)

pub jumped-sound : (offset : ℕ) (s : SpinState) → IsSound s → IsSound (jumped offset s)
jumped-sound offset s h = at-sound ((s.at + offset) % 2 ^ 16) s (omega arith) h

pub jumped_if-sound : (jumps : Bool) (offset : ℕ) (s : SpinState) → IsSound s → IsSound (jumped_if jumps offset s)
jumped_if-sound true offset s h = jumped-sound offset s h
jumped_if-sound false offset s h = h

pub if-sound : (b : Bool) (s t : SpinState) → IsSound s → IsSound t → IsSound (if b then s else t)
if-sound true s t h k = h
if-sound false s t h k = k

-- ---- courses

-- each access that a course may ask, and what it leaves, whatever is answered
abbrev pub AllHold : Course SpinState → Type 0
AllHold (Finish s) = IsSound s
AllHold (Stop reason) = IsReasonWithin reason
AllHold (Ask access go) = IsAccessWithin access × ((answer : Answer) → IsAnswerWithin answer → AllHold (go answer))

pub record Holds (course : Course SpinState) : Type 0 where
  pub all : AllHold course

pub finishes : (s : SpinState) → IsSound s → Holds (Finish s)
finishes s h = record { all = h }

pub stops : (reason : Reason) → IsReasonWithin reason → Holds (Stop reason)
stops reason h = record { all = h }

pub asks : (access : Access) (go : Answer → Course SpinState) → IsAccessWithin access → ((answer : Answer) → IsAnswerWithin answer → Holds (go answer)) →
    Holds (Ask access go)
asks access go h k = record { all = (h, λ answer within. (k answer within).all) }

pub either : (b : Bool) {x y : Course SpinState} → Holds x → Holds y → Holds (if b then x else y)
either true h k = h
either false h k = k

pub word-in : (answer : Answer) → IsAnswerWithin answer → word_in answer < 2 ^ 32
word-in Done h = omega arith
word-in (Value value) h = h
word-in (Number None) h = omega arith
word-in (Number (Some n)) h = omega (arith, h)
word-in (Was true) h = omega arith
word-in (Was false) h = omega arith

refused : (under full : Bool) {course : Course SpinState} → Holds course →
    Holds (stopped_by (if under then Some Why.Under else if full then Some Why.Stack else None) course)
refused true full h = stops Why.Under tt
refused false true h = stops Why.Stack tt
refused false false h = h

pub tests : (takes leaves : ℕ) (s : SpinState) {course : Course SpinState} → Holds course → Holds (tested takes leaves s course)
tests takes leaves s h = refused (nat_lt (operands s) takes) (nat_lt 16384 (length s.stack - takes + leaves)) h

-- the last test of a row, and what it does where that is passed
pub finishes-if : (takes leaves : ℕ) (s next : SpinState) → IsSound next → Holds (tested takes leaves s (Finish next))
finishes-if takes leaves s next h = tests takes leaves s (finishes next h)

-- ---- a life

abbrev pub AskedHold : Outcome SpinState → Type 0
AskedHold (Asks clock access) = IsAccessWithin access
AskedHold (Goes s clock left) = IsSound s × AreAnswered left
AskedHold Ends = Unit {0}

if-asked : (b : Bool) (o : Outcome SpinState) → AskedHold o → AskedHold (if b then Ends else o)
if-asked true o h = tt
if-asked false o h = h

played-hold : (cog p : ℕ) (course : Course SpinState) → AllHold course → (turns : List Turn) → AreAnswered turns → AskedHold (played cog p course turns)
played-hold cog p (Finish s) h turns are = (h, are)
played-hold cog p (Stop reason) h [] are = h
played-hold cog p (Stop reason) h (turn ∷ left) are = tt
played-hold cog p (Ask access go) h [] are = h.0
played-hold cog p (Ask access go) h (turn ∷ left) are =
    if-asked (is_last cog access) _ (played-hold cog (behind p access turn.key.clock) (go turn.answer) (h.1 turn.answer are.0) left are.1)

step-hold : (e : Engine SpinState) → ((s : SpinState) → IsSound s → Holds (e.next s)) → (o : Outcome SpinState) → AskedHold o → AskedHold (step e o)
step-hold e each (Asks clock access) h = h
step-hold e each (Goes s clock left) h = played-hold e.cog (clock + e.cost s) (e.next s) (each s h.0).all left h.1
step-hold e each Ends h = tt

after-hold : (e : Engine SpinState) → ((s : SpinState) → IsSound s → Holds (e.next s)) → (n : ℕ) (o : Outcome SpinState) → AskedHold o → AskedHold (after e n o)
unfolding after
after-hold e each zero o h = h
after-hold e each (suc n) o h = step-hold e each (after e n o) (after-hold e each n o h)

-- whatever is asked
pub course-holds : (e : Engine SpinState) → ((s : SpinState) → IsSound s → Holds (e.next s)) → (start : ℕ) (first : Course SpinState) → Holds first →
    (count : ℕ) (turns : List Turn) → AreAnswered turns → (clock : ℕ) (access : Access) → replayed e start first count turns ≡ Asks clock access
    → IsAccessWithin access
course-holds e each start first h count turns are clock access same =
    subst AskedHold same (after-hold e each count (played e.cog start first turns) (played-hold e.cog start first h.all turns are))
