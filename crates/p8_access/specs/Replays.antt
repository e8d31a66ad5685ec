-- A life that goes course by course: what it does next is a course of where it stands.
use Rattle.std.specs.Prelude.{ℕ, zero, suc, ◌+◌, ◌≡◌, List, [], map}
use Rattle.p8_access.specs.declared.kinds.Answer.{Answer}
use Rattle.p8_access.specs.declared.order.Turn.{Turn}
use Rattle.p8_access.specs.Courses.{Course, Told, Wants, Leaves, Closes, told}
use Rattle.p8_access.specs.Timing.{Outcome, Asks, Goes, Ends, played}

-- the cog, the course that follows where the life stands, and the clocks before the first access of that
pub record Engine (S : Type 0) : Type 0 where
  pub cog : ℕ
  pub next : S → Course S
  pub cost : S → ℕ

-- ---- with clocks

-- one more course, where there is one
abbrev pub step : {S : Type 0} → Engine S → Outcome S → Outcome S
step e (Goes s clock left) = played e.cog (clock + e.cost s) (e.next s) left
step e (Asks clock access) = Asks clock access
step e Ends = Ends

-- so many courses more
unfoldable pub after : {S : Type 0} → Engine S → (count : ℕ) → Outcome S → Outcome S
after e zero o = o
after e (suc n) o = step e (after e n o)

-- a life that begins with this course at this clock, with these turns, and so many courses after the first
abbrev pub replayed : {S : Type 0} → Engine S → (start : ℕ) → (first : Course S) → (count : ℕ) → List Turn → Outcome S
replayed e start first count turns = after e count (played e.cog start first turns)

-- ---- without clocks

abbrev pub told_step : {S : Type 0} → Engine S → Told S → Told S
told_step e (Leaves made s left) = told e.cog made (e.next s) left
told_step e (Wants made access) = Wants made access
told_step e (Closes made) = Closes made

unfoldable pub told_after : {S : Type 0} → Engine S → (count : ℕ) → Told S → Told S
told_after e zero t = t
told_after e (suc n) t = told_step e (told_after e n t)

abbrev pub retold : {S : Type 0} → Engine S → (first : Course S) → (count : ℕ) → List Answer → Told S
retold e first count answers = told_after e count (told e.cog [] first answers)

-- ---- both

abbrev pub answer_of : Turn → Answer
answer_of turn = turn.answer

-- the two readings stand alike: they ask the same access next, leave the same with the same answers to come,
-- or both are over
abbrev pub StandAlike : {S : Type 0} → Outcome S → Told S → Type 0
StandAlike (Asks clock access) (Wants made wanted) = access ≡ wanted
StandAlike (Goes s clock turns) (Leaves made t answers) = (s ≡ t) × (map answer_of turns ≡ answers)
StandAlike Ends (Closes made) = Unit {0}
StandAlike _ _ = ⊥
