-- The verdict on a history file, by the world that its head bounds.
use Rattle.std.specs.Prelude.{ℕ, ◌+◌, ◌≡◌, ◌⊎◌, List, [], ◌∷◌, length}
use Rattle.p8_access.specs.declared.memory.Boot.{Boot}
use Rattle.p8_access.specs.declared.order.Turn.{Turn}
use Rattle.p8_access.specs.Worlds.{World, Line}
use Rattle.p8_access.specs.Histories.{Extends, IsOver, Ended}
use Rattle.p8_cog.specs.Lives.{asks}
use Rattle.p8_ledger.specs.declared.outcome.Limits.{Limits}
use Rattle.p8_ledger.specs.Worlds.{world_of}
use Rattle.p8_verify.specs.declared.head.HistoryHead.{HistoryHead}
use Rattle.p8_verify.specs.declared.verdicts.Cause.{Cause}
use Rattle.p8_verify.specs.declared.verdicts.Cause.TheVariants.{Form, Extra, Key, Access, Answer, More}
use Rattle.p8_verify.specs.declared.verdicts.Verdict.{Verdict}
use Rattle.p8_verify.specs.declared.verdicts.Verdict.TheVariants.{Good, Bad}
use Rattle.p8_verify.specs.Files.{IsFile, IsFormed, IsMalformed}

-- the first respect in which a turn of a file differs from the one that comes next
abbrev pub Differs : (turn next : Turn) → Cause → Type 0
Differs turn next Key = turn.key ≡ next.key → ⊥
Differs turn next Access = (turn.key ≡ next.key) × (turn.access ≡ next.access → ⊥)
Differs turn next Answer = (turn.key ≡ next.key) × (turn.access ≡ next.access) × (turn.answer ≡ next.answer → ⊥)
Differs turn next Form = ⊥
Differs turn next Extra = ⊥
Differs turn next More = ⊥

module _ (w : World) where
  -- why a turn of a file doesn't come after a past: no turn does, or it isn't the one that does
  abbrev pub IsWrong : List Turn → Turn → Cause → Type 0
  IsWrong past turn cause =
      ((cause ≡ Extra) × IsOver asks w past)
      ⊎ ((next : Turn) × Extends asks w past next × Differs turn next cause)

  -- the verdict on the turns of a file that are left, turn by turn, after those that were as they should be
  abbrev pub Judged : (past left : List Turn) → Verdict → Type 0
  Judged past [] (Good count) = (count ≡ length past) × IsOver asks w past
  Judged past [] (Bad n cause) = (n ≡ length past + 1) × (cause ≡ More) × (IsOver asks w past → ⊥)
  Judged past (turn ∷ left) (Good count) = Extends asks w past turn × Judged (turn ∷ past) left (Good count)
  Judged past (turn ∷ left) (Bad n cause) =
      ((n ≡ length past + 1) × IsWrong past turn cause)
      ⊎ (Extends asks w past turn × Judged (turn ∷ past) left (Bad n cause))

-- the world of a boot and a script within the limits of a head
abbrev pub world_by : Boot → List Line → HistoryHead → World
world_by boot script head = world_of boot script (record { clocks = head.clocks; turns = head.turns })

-- a file that is formed is judged by its turns
abbrev pub IsJudged : Boot → List Line → List ℕ → Verdict → Type 0
IsJudged boot script bytes verdict =
    (head : HistoryHead) × (turns : List Turn) × IsFormed bytes head turns × Judged (world_by boot script head) [] turns verdict

-- the verdict on a file: its form is looked at as a whole before its first turn is
abbrev pub IsVerdict : Boot → List Line → List ℕ → Verdict → Type 0
IsVerdict boot script bytes (Good count) = IsJudged boot script bytes (Good count)
IsVerdict boot script bytes (Bad n cause) =
    ((cause ≡ Form) × IsMalformed bytes n) ⊎ IsJudged boot script bytes (Bad n cause)

-- the bytes are the file of the ended history, of so many turns, of a world within limits
abbrev pub IsEndedFile : Boot → List Line → List ℕ → ℕ → Type 0
IsEndedFile boot script bytes count =
    (limits : Limits) × (past : List Turn) × IsFile (world_of boot script limits) past bytes
    × Ended asks (world_of boot script limits) past × (count ≡ length past)
