-- Courses whose halts name registers of a cog, and what a life of such courses asks.
use Rattle.std.proofs.Common.{◌≡◌, subst, ℕ, zero, suc, ◌+◌, Bool, true, false, if◌then◌else◌, List, [], ◌∷◌}
use Rattle.p8_access.specs.declared.kinds.Reason.{Reason}
use Rattle.p8_access.specs.declared.kinds.Access.{Access}
use Rattle.p8_access.specs.declared.kinds.Answer.{Answer}
use Rattle.p8_access.specs.declared.order.Turn.{Turn}
use Rattle.p8_access.specs.Lives.{is_last}
use Rattle.p8_access.specs.Courses.{Course, Finish, Stop, Ask}
use Rattle.p8_access.specs.Timing.{Outcome, Asks, Goes, Ends, behind, played}
use Rattle.p8_access.specs.Replays.{Engine, step, after, replayed}
use Rattle.p8_verify.specs.Halts.{IsProperReason, IsProperHalt}

-- each access that a course may ask, whatever is answered
abbrev pub AllNamed : {S : Type 0} → Course S → Type 0
AllNamed (Finish s) = Unit {0}
AllNamed (Stop reason) = IsProperReason reason
AllNamed (Ask access go) = IsProperHalt access × ((answer : Answer) → AllNamed (go answer))

pub record Names {S : Type 0} (course : Course S) : Type 0 where
  pub all : AllNamed course

-- ---- courses

pub finishes : {S : Type 0} (s : S) → Names (Finish s)
finishes s = record { all = tt }

pub stops : {S : Type 0} (reason : Reason) → IsProperReason reason → Names {S = S} (Stop reason)
stops reason h = record { all = h }

pub asks : {S : Type 0} (access : Access) (go : Answer → Course S) → IsProperHalt access → ((answer : Answer) → Names (go answer)) → Names (Ask access go)
asks access go h k = record { all = (h, λ answer. (k answer).all) }

pub either : {S : Type 0} (b : Bool) {x y : Course S} → Names x → Names y → Names (if b then x else y)
either true h k = h
either false h k = k

-- ---- a life

abbrev pub AskedNamed : {S : Type 0} → Outcome S → Type 0
AskedNamed (Asks clock access) = IsProperHalt access
AskedNamed (Goes s clock left) = Unit {0}
AskedNamed Ends = Unit {0}

if-asked : {S : Type 0} (b : Bool) (o : Outcome S) → AskedNamed o → AskedNamed (if b then Ends else o)
if-asked true o h = tt
if-asked false o h = h

played-named : {S : Type 0} (cog p : ℕ) (course : Course S) → AllNamed course → (turns : List Turn) → AskedNamed (played cog p course turns)
played-named cog p (Finish s) h turns = tt
played-named cog p (Stop reason) h [] = h
played-named cog p (Stop reason) h (turn ∷ left) = tt
played-named cog p (Ask access go) h [] = h.0
played-named cog p (Ask access go) h (turn ∷ left) =
    if-asked (is_last cog access) _ (played-named cog (behind p access turn.key.clock) (go turn.answer) (h.1 turn.answer) left)

step-named : {S : Type 0} (e : Engine S) → ((s : S) → Names (e.next s)) → (o : Outcome S) → AskedNamed o → AskedNamed (step e o)
step-named e each (Asks clock access) h = h
step-named e each (Goes s clock left) h = played-named e.cog (clock + e.cost s) (e.next s) (each s).all left
step-named e each Ends h = tt

after-named : {S : Type 0} (e : Engine S) → ((s : S) → Names (e.next s)) → (n : ℕ) (o : Outcome S) → AskedNamed o → AskedNamed (after e n o)
unfolding after
after-named e each zero o h = h
after-named e each (suc n) o h = step-named e each (after e n o) (after-named e each n o h)

-- whatever is asked
pub course-named : {S : Type 0} (e : Engine S) → ((s : S) → Names (e.next s)) → (start : ℕ) (first : Course S) → Names first →
    (count : ℕ) (turns : List Turn) (clock : ℕ) (access : Access) → replayed e start first count turns ≡ Asks clock access → IsProperHalt access
course-named e each start first h count turns clock access same =
    subst AskedNamed same (after-named e each count (played e.cog start first turns) (played-named e.cog start first h.all turns))
