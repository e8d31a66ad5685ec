-- internal
-- What a command comes to once its files are read.
use Rattle.std.specs.Prelude.{ℕ, ◌+◌, ◌≡◌, ◌≤◌, List, Option}
use Rattle.std.specs.Option.{ForSome}
use Rattle.p8_access.specs.declared.memory.Boot.{Boot}
use Rattle.p8_access.specs.Proper.{IsProperOrigin}
use Rattle.p8_access.specs.declared.order.Turn.{Turn}
use Rattle.p8_access.specs.Worlds.{Line, World}
use Rattle.p8_access.specs.Histories.{Ended}
use Rattle.p8_cog.specs.Lives.{asks}
use Rattle.p8_ledger.specs.Worlds as machine
use Rattle.p8_ledger.specs.declared.start.Start.{Start}
use Rattle.p8_io.specs.Shelves.{Files}
use Rattle.p8_verify.specs.declared.verdicts.Verdict.TheVariants as verdict
use Rattle.p8_verify.specs.Verdicts.{IsVerdict}
use Rattle.p8_finish.specs.declared.finish.Finish.{Finish}
use Rattle.p8_finish.specs.Finishes.{told_by, CanBeTold, IsWhole}
use Rattle.p8_finish.specs.Checks.{good_line}
use Rattle.p8_view.specs.declared.turns.ViewOptions.{ViewOptions}
use Rattle.p8_inputs.specs.declared.program.Format.{Format}
use Rattle.p8_inputs.specs.Asks.{Given, Give, run_asks, view_asks, page_asks}
use Rattle.p8_commands.specs.Commands.{Command, Dump, Running}
use Rattle.p8_prop.specs.declared.work.Answer.{Answer}
use Rattle.p8_prop.specs.declared.work.Answer.TheVariants.{Text, Bad}
use Rattle.p8_prop.specs.declared.work.Work.{Work}
use Rattle.p8_prop.specs.declared.work.Work.TheVariants.{Done, Run, View, Page}
use Rattle.p8_prop.specs.declared.view.Viewing.{Viewing}
use Rattle.p8_prop.specs.declared.page.Paging.{Paging}
use Rattle.p8_page.specs.Page.{Block, blocks_text}
use Rattle.p8_prop.specs.Headline.{IsRun, IsView, IsPage, IsHeadline}
use Rattle.p8_prop.specs.Texts.{name_in, IsToldOfRun, IsViewed, IsViewOfRun, IsPaged, IsPageOfRun, IsAskedFor, IsBadHistory}

abbrev pub world_in : Start → World
world_in start = machine.world_of start.boot start.script start.limits

-- a run can be made, and what is told of it
pub record IsRunnable (start : Start) (finish : Finish) : Type 0 where
  pub clocks : start.limits.clocks ≤ 4000000000
  pub turns : start.limits.turns ≤ 1000000
  pub first : IsProperOrigin start.boot.first
  pub can_be_told : CanBeTold finish start.limits.clocks start.limits.turns

-- what is made of a run: what is told of its ended history, whole
abbrev pub IsMadeOf : Start → Finish → List ℕ → Type 0
IsMadeOf start finish text =
    (past : List Turn) × Ended asks (world_in start) past × IsWhole finish (world_in start) past × (text ≡ told_by finish (world_in start) past)

-- a run can be made, and its view told
pub record IsViewable (start : Start) (view : Viewing) : Type 0 where
  pub clocks : start.limits.clocks ≤ 4000000000
  pub turns : start.limits.turns ≤ 1000000
  pub first : IsProperOrigin start.boot.first
  pub dump : ForSome view.dump (λ range. range.0 + range.1 ≤ 32768)

-- a run can be made, and its page told: the first clock that is shown is one of the run's, or its end
pub record IsPageable (start : Start) (page : Paging) : Type 0 where
  pub clocks : start.limits.clocks ≤ 4000000000
  pub turns : start.limits.turns ≤ 1000000
  pub first : IsProperOrigin start.boot.first
  pub from : page.from ≤ 4000000000

-- this is the text of a command
abbrev pub IsText : Files → Command → List ℕ → Type 0
IsText files command text = IsAskedFor files command text × IsHeadline files command text

-- this is what comes of a command
abbrev pub IsAnswerTo : Files → Command → Answer → Type 0
IsAnswerTo files command (Text text) = IsText files command text.items
IsAnswerTo files command (Bad history turn cause) = IsBadHistory files command history turn cause

-- this is what a command comes to: what comes of it, or a run, of each ended history of which its text is told, or is a view
abbrev pub IsWork : Files → Command → Work → Type 0
IsWork files command (Done answer) = IsAnswerTo files command answer
IsWork files command (Run start finish) =
    IsRunnable start finish × ((past : List Turn) → Ended asks (world_in start) past → IsWhole finish (world_in start) past →
    IsText files command (told_by finish (world_in start) past))
IsWork files command (View start view) =
    IsViewable start view × ((text : List ℕ) → IsViewed (world_in start) view.options view.legend view.dump text → IsText files command text)
IsWork files command (Page start page) =
    IsPageable start page × ((blocks : List Block) × (page.project.items ≡ blocks_text blocks)
    × ((text : List ℕ) → IsPaged (world_in start) page.file.items page.from page.to page.legend blocks text → IsText files command text))

-- this is the text of a run of a file, by what the file is taken for and what is told
abbrev pub IsTextOfRun : Files → Format → Running → Finish → List ℕ → Type 0
IsTextOfRun files format run finish text =
    ((given : List Given) × Give files (run_asks format run.file run.script) given × IsToldOfRun format run finish given text)
    × IsRun files format run finish text

-- this is what a run of a file comes to
abbrev pub IsRunWork : Files → Format → Running → Finish → Work → Type 0
IsRunWork files format run finish (Done answer) = ⊥
IsRunWork files format run finish (Run start other) =
    IsRunnable start other
    × ((past : List Turn) → Ended asks (world_in start) past → IsWhole other (world_in start) past →
    IsTextOfRun files format run finish (told_by other (world_in start) past))
IsRunWork files format run finish (View start view) = ⊥
IsRunWork files format run finish (Page start page) = ⊥

-- this is the view of a run of a file
abbrev pub IsTextOfView : Files → Format → Running → ViewOptions → Option Dump → List ℕ → Type 0
IsTextOfView files format run options dump text =
    ((given : List Given) × Give files (view_asks format run.file (name_in dump) run.script) given × IsViewOfRun format run options dump given text)
    × IsView files format run options dump text

-- this is what a view of it comes to
abbrev pub IsViewWork : Files → Format → Running → ViewOptions → Option Dump → Work → Type 0
IsViewWork files format run options dump (Done answer) = ⊥
IsViewWork files format run options dump (Run start finish) = ⊥
IsViewWork files format run options dump (View start view) =
    IsViewable start view
    × ((text : List ℕ) → IsViewed (world_in start) view.options view.legend view.dump text → IsTextOfView files format run options dump text)
IsViewWork files format run options dump (Page start page) = ⊥

-- this is the page of a run of a file
abbrev pub IsTextOfPage : Files → Format → Running → (from to : ℕ) → List ℕ → Type 0
IsTextOfPage files format run from to text =
    ((given : List Given) × Give files (page_asks format run.file run.script) given × IsPageOfRun format run from to given text)
    × IsPage files format run from to text

-- this is what a page of it comes to
abbrev pub IsPageWork : Files → Format → Running → (from to : ℕ) → Work → Type 0
IsPageWork files format run from to (Done answer) = ⊥
IsPageWork files format run from to (Run start finish) = ⊥
IsPageWork files format run from to (View start view) = ⊥
IsPageWork files format run from to (Page start page) =
    IsPageable start page × ((blocks : List Block) × (page.project.items ≡ blocks_text blocks)
    × ((text : List ℕ) → IsPaged (world_in start) page.file.items page.from page.to page.legend blocks text → IsTextOfPage files format run from to text))

-- this is the verdict on a history file of this name, with these bytes, by what a run of it begins with
abbrev pub IsCheckedBy : Boot → List Line → (bytes name : List ℕ) → Answer → Type 0
IsCheckedBy boot script bytes name (Text text) = (count : ℕ) × IsVerdict boot script bytes (verdict.Good count) × (text.items ≡ good_line count)
IsCheckedBy boot script bytes name (Bad history turn cause) = (history ≡ name) × IsVerdict boot script bytes (verdict.Bad turn cause)
