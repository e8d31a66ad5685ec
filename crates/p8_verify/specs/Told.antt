-- internal
-- What is told of the records of a file that are left, beside a machine.
use Rattle.std.specs.Prelude.{ℕ, ◌≡◌, ◌⊎◌, List, Option, Some, None}
use Rattle.p8_access.specs.declared.order.Turn.{Turn}
use Rattle.p8_access.specs.Worlds.{World}
use Rattle.p8_access.specs.Histories.{Extends, IsOver}
use Rattle.p8_cog.specs.Lives.{asks}
use Rattle.p8_verify.specs.declared.verdicts.Cause.TheVariants.{Form}
use Rattle.p8_verify.specs.declared.verdicts.Verdict.{Verdict}
use Rattle.p8_verify.specs.declared.verdicts.Verdict.TheVariants.{Good, Bad}
use Rattle.p8_verify.specs.Files.{AreRecords, BreaksAt}
use Rattle.p8_verify.specs.Verdicts.{Judged}

-- this turn comes after a past, or none does
abbrev pub IsNext : World → List Turn → Option Turn → Type 0
IsNext w past None = IsOver asks w past
IsNext w past (Some turn) = Extends asks w past turn

-- the verdict where so many records are to come after a past, of the turns from the n-th on: their form is looked at first
abbrev pub IsTold : World → (past : List Turn) → (left n : ℕ) → List ℕ → Verdict → Type 0
IsTold w past left n bytes (Good count) = (turns : List Turn) × AreRecords left bytes turns × Judged w past turns (Good count)
IsTold w past left n bytes (Bad turn cause) =
    ((cause ≡ Form) × BreaksAt left n bytes turn)
    ⊎ ((turns : List Turn) × AreRecords left bytes turns × Judged w past turns (Bad turn cause))
