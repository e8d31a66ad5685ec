-- internal
-- What is made of the work of a command, and what is answered of it.
use Rattle.std.specs.Prelude.{ℕ, ◌≡◌, ◌⊎◌, List, Option, Some, None, Result, Ok, Err}
use Rattle.p8_io.specs.Counts.{Rose}
use Rattle.std.specs.declared.vec.Vec.{Vec}
use Rattle.std.specs.declared.alloc.Global.{Global}
use Rattle.p8_inputs.specs.declared.stop.Stop.{Stop}
use Rattle.p8_inputs.specs.declared.stop.Stop.TheVariants.{NoMemory}
use Rattle.p8_commands.specs.Commands.{Command}
use Rattle.p8_prop.specs.declared.work.Answer.{Answer}
use Rattle.p8_prop.specs.declared.work.Answer.TheVariants.{Text, Bad}
use Rattle.p8_prop.specs.declared.work.Work.{Work}
use Rattle.p8_prop.specs.declared.work.Work.TheVariants.{Done, Run, View, Page}
use Rattle.p8_page.specs.Page.{Block, blocks_text}
use Rattle.p8_prop.specs.Texts.{IsViewed, IsPaged}
use Rattle.p8_prop.specs.Works.{IsRunnable, IsViewable, IsPageable, IsMadeOf, world_in}
use Rattle.p8_prop.specs.declared.status.Status.{Status}
use Rattle.p8_inputs.specs.Seen.{SinkSeen}
use Rattle.p8_prop.specs.Verdicts.{Verdict, stopped, unexplained, bad, written, unwritten, explained_by, status_of, IsOut, IsTold}

-- the work can be done
abbrev pub CanBeDone : Work → Type 0
CanBeDone (Done answer) = Unit {0}
CanBeDone (Run start finish) = IsRunnable start finish
CanBeDone (View start view) = IsViewable start view
CanBeDone (Page start page) = IsPageable start page

-- this comes of the work
abbrev pub IsDone : Work → Answer → Type 0
IsDone (Done answer) other = other ≡ answer
IsDone (Run start finish) (Text text) = IsMadeOf start finish text.items
IsDone (Run start finish) (Bad history turn cause) = ⊥
IsDone (View start view) (Text text) = IsViewed (world_in start) view.options view.legend view.dump text.items
IsDone (View start view) (Bad history turn cause) = ⊥
IsDone (Page start page) (Text text) =
    (blocks : List Block) → page.project.items ≡ blocks_text blocks → IsPaged (world_in start) page.file.items page.from page.to page.legend blocks text.items
IsDone (Page start page) (Bad history turn cause) = ⊥

-- the verdict on what came of a command: its text may not be written
abbrev pub IsFrom : Answer → SinkSeen → Verdict → Type 0
IsFrom (Text text) out (written other) = other ≡ text.items
IsFrom (Text text) out (unwritten other) = (other ≡ text.items) × Rose out.before out.now
IsFrom (Bad history turn cause) out verdict = verdict ≡ bad history turn cause
IsFrom _ out _ = ⊥

-- what is answered of what came of a command, whichever that is, and what was told and written
pub record IsGiven (answer : Answer) (out faults : SinkSeen) (status : Status) : Type 0 where
  pub verdict : Verdict
  pub from : IsFrom answer out verdict
  pub answered : status ≡ status_of verdict
  pub told : (command : Option Command) → IsTold faults command verdict
  pub written_out : (command : Option Command) → IsOut out command verdict

-- the bytes of a text, where there is one
abbrev pub text_if_any : Option (Vec ℕ Global) → Option (List ℕ)
text_if_any None = None
text_if_any (Some text) = Some text.items

-- the verdict on why nothing came of a command: it is told, or want of memory is, or its explanation may not be written
abbrev pub IsEnding : Command → Stop → SinkSeen → Verdict → Type 0
IsEnding command reason out (stopped stop) = (stop ≡ reason) ⊎ (stop ≡ NoMemory)
IsEnding command reason out (unexplained stop) =
    (stop ≡ reason) × ((text : List ℕ) × (explained_by (Some command) stop ≡ Some text)) × Rose out.before out.now
IsEnding command reason out _ = ⊥

-- what is answered of why nothing came of a command, and what was told and written
pub record IsEnded (command : Command) (reason : Stop) (out faults : SinkSeen) (status : Status) : Type 0 where
  pub verdict : Verdict
  pub ending : IsEnding command reason out verdict
  pub answered : status ≡ status_of verdict
  pub told : IsTold faults (Some command) verdict
  pub written_out : IsOut out (Some command) verdict

-- what is answered, where anything came of a command, and else of why nothing did
abbrev pub IsAnswer : Command → Result Answer Stop → (out faults : SinkSeen) → Status → Type 0
IsAnswer command (Ok answer) out faults status = IsGiven answer out faults status
IsAnswer command (Err reason) out faults status = IsEnded command reason out faults status
