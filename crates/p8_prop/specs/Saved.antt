-- A history that is saved, and checked later (this project's profile).
use Rattle.std.specs.Prelude.{ℕ, ◌≡◌, ◌⊎◌, Bool, List, Option, Some}
use Rattle.p8_io.specs.Counts.{Rose}
use Rattle.p8_io.specs.Shelves.{Files, IsRead}
use Rattle.p8_finish.specs.Checks.{good_line}
use Rattle.p8_inputs.specs.declared.program.Format.{Format}
use Rattle.p8_inputs.specs.Asks.{Given, Give, run_asks}
use Rattle.p8_inputs.specs.Programs.{format_for}
use Rattle.p8_commands.specs.Commands.{Running, Save, Check}
use Rattle.p8_prop.specs.declared.status.Status.{Status}
use Rattle.p8_prop.specs.declared.status.Status.TheVariants as status
use Rattle.p8_prop.specs.Headline.{IsHeadline}
use Rattle.p8_prop.specs.Texts.{IsAskedFor}
use Rattle.p8_prop.specs.Verdicts.{Outside, Verdict, written}
use Rattle.p8_prop.specs.Promises.{Keeps}

-- a later shelf has for a run what an earlier one had: its program, and its pin script where one is named
abbrev pub HasAsBefore : (before later : Files) → Format → Running → Type 0
HasAsBefore before later format run =
    (given : List Given) → Give before (run_asks format run.file run.script) given → Give later (run_asks format run.file run.script) given

-- What is the text of a save, a check finds good: it asks for the line of a good history, with the number of its turns.
abbrev pub SavedIsGood : Type 0
SavedIsGood =
    (before later : Files) (raw : Bool) (run : Running) (history text : List ℕ)
    → IsHeadline before (Save raw run) text → HasAsBefore before later (format_for raw run.file) run → IsRead later history text
    → (count : ℕ) × IsAskedFor later (Check raw run.file history run.script) (good_line count)

-- a call with `save` has ended with status 0, and what it wrote stands on the shelf of a later call under the name of a history file, beside what the
-- save has read
pub record IsSaved (o later : Outside) (raw : Bool) (run : Running) (history : List ℕ) : Type 0 where
  pub kept : Keeps o (Some (Save raw run)) status.Ok
  pub text : List ℕ
  pub wrote : kept.verdict ≡ written text
  pub files : List ℕ → Option (List ℕ)
  pub tells : later.shelf.files ≡ Some files
  pub stands : files history ≡ Some text
  pub same : HasAsBefore o.shelf.files later.shelf.files (format_for raw run.file) run

-- a call has found a history good, and said so
abbrev pub IsFoundGood : Verdict → Type 0
IsFoundGood verdict = (count : ℕ) × (verdict ≡ written (good_line count))

-- What a call of `save` wrote, a later call of `check` finds good, with status 0, where its shelf and its output count no fault, but for want of memory.
abbrev pub CheckFindsGood : Type 0
CheckFindsGood =
    (o later : Outside) (raw : Bool) (run : Running) (history : List ℕ) → IsSaved o later raw run history
    → (answer : Status) (checked : Keeps later (Some (Check raw run.file history run.script)) answer)
    → ¬ Rose later.shelf.before later.shelf.now → ¬ Rose later.out.before later.out.now
    → ((answer ≡ status.Ok) × IsFoundGood checked.verdict) ⊎ (answer ≡ status.NoMemory)
