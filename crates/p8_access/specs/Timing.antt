-- When a course's accesses come (this project's profile). A course is at a clock p from which its next
-- access counts, as that of an instruction of Propeller Assembly which begins at p.
use Rattle.std.specs.Prelude.{ℕ, ◌+◌, if◌then◌else◌, List, [], ◌∷◌}
use Rattle.p8_access.specs.declared.kinds.Access.{Access}
use Rattle.p8_access.specs.declared.kinds.Access.TheVariants.{PinsIn, OutSet, DirSet, Wait, Clock, Halt}
use Rattle.p8_access.specs.declared.order.Turn.{Turn}
use Rattle.p8_access.specs.Windows.{window_of}
use Rattle.p8_access.specs.Lives.{is_last}
use Rattle.p8_access.specs.Courses.{Course, Finish, Stop, Ask}

-- the earliest clock of an access that is asked at p: the pins and the counter are read 2 clocks later, OUTA
-- and DIRA written 3 clocks later, a wait begins 4 clocks later, a halt comes at once, and each access of
-- the hub at the cog's first window after p
abbrev pub earliest : (cog p : ℕ) → Access → ℕ
earliest cog p PinsIn = p + 2
earliest cog p Clock = p + 2
earliest cog p (OutSet value) = p + 3
earliest cog p (DirSet value) = p + 3
earliest cog p (Wait test) = p + 4
earliest cog p (Halt reason) = p
earliest cog p _ = window_of cog (p + 1)

-- where the course is after the turn of an access that was asked at p: 4 clocks after p, 2 after the end of
-- a wait, 7 after a window
abbrev pub behind : (p : ℕ) → Access → (turn : ℕ) → ℕ
behind p PinsIn turn = p + 4
behind p Clock turn = p + 4
behind p (OutSet value) turn = p + 4
behind p (DirSet value) turn = p + 4
behind p (Wait test) turn = turn + 2
behind p _ turn = turn + 7

-- how it stands with a course, where some of its accesses have had their turns
pub data Outcome (S : Type 0) : Type 0 where
  -- this access is the first that has none, and this is its earliest clock
  Asks : (clock : ℕ) (access : Access) → Outcome S
  -- it is done and leaves this at this clock, and these turns are left for what comes after it
  Goes : (state : S) (clock : ℕ) (left : List Turn) → Outcome S
  -- a halt, or the cog's stop of itself, had its turn, and nothing comes after that
  Ends : Outcome S

-- a course from this clock on with these turns: each access takes the first that is left
abbrev pub played : {S : Type 0} → (cog p : ℕ) → Course S → List Turn → Outcome S
played cog p (Finish s) turns = Goes s p turns
played cog p (Stop reason) [] = Asks p (Halt reason)
played cog p (Stop reason) (turn ∷ left) = Ends
played cog p (Ask access go) [] = Asks (earliest cog p access) access
played cog p (Ask access go) (turn ∷ left) =
    if is_last cog access then Ends else played cog (behind p access turn.key.clock) (go turn.answer) left
