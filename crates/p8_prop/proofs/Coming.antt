-- What a command comes to is what comes of it.
use Rattle.std.proofs.Common.{◌≡◌, ◌∙◌, sym, ap, subst, refl, Bool, false, ℕ, List, [], ◌∷◌, ◌++◌, length, ◌≤◌, Option, Some, None}
use Rattle.p8_access.specs.declared.memory.Boot.{Boot}
use Rattle.p8_access.specs.declared.order.Turn.{Turn}
use Rattle.p8_access.specs.Worlds.{Line, World}
use Rattle.p8_access.specs.Histories.{Ended}
use Rattle.p8_access.proofs.OneHistory.{one-history}
use Rattle.p8_access.proofs.Rising.{rises}
use Rattle.p8_io.specs.Shelves.{Files, IsRead}
use Rattle.p8_cog.specs.Lives.{asks}
use Rattle.p8_cog.specs.Laws.{one-asked, asked-first, asked-later}
use Rattle.p8_ledger.specs.Worlds as machine
use Rattle.p8_legend.specs.declared.legend.Legend.{Legend}
use Rattle.p8_finish.specs.Summary.{made_world}
use Rattle.p8_verify.specs.declared.verdicts.Verdict as checking
use Rattle.p8_verify.specs.declared.verdicts.Verdict.TheVariants as verdict
use Rattle.p8_verify.specs.declared.verdicts.Verdict.TheVariants.{Good}
use Rattle.p8_verify.specs.Verdicts.{IsVerdict}
use Rattle.p8_finish.specs.declared.finish.Finish.{Finish}
use Rattle.p8_finish.specs.declared.finish.Finish.TheVariants.{Summary}
use Rattle.p8_finish.specs.Finishes.{told_by, IsWhole}
use Rattle.p8_view.specs.declared.turns.ViewOptions.{ViewOptions}
use Rattle.p8_code.specs.Images.{image_code}
use Rattle.p8_serial.specs.Typed.{typed_text}
use Rattle.p8_inputs.specs.declared.inputs.Inputs.{Inputs}
use Rattle.p8_inputs.specs.declared.inputs.Recorded.{Recorded}
use Rattle.p8_inputs.specs.declared.program.Format.{Format}
use Rattle.p8_inputs.specs.Asks.{most_sent, Given, bytes, viewed, paged, lines, Give, history, script_ask, check_asks, bytes_in, lines_in}
use Rattle.p8_inputs.specs.Inputs.{IsProgram, IsScriptFor}
use Rattle.p8_inputs.specs.Legends.{HasName, IsLegendFrom}
use Rattle.p8_inputs.specs.Pages.{AreBlocksFrom}
use Rattle.p8_page.specs.Page.{Block}
use Rattle.p8_inputs.specs.Programs.{format_for, world_of, memory_by, first_by, boot_by, format_of, binary_by, other_file}
use Rattle.p8_inputs.specs.Runs.{Begins, HasProperTrees}
use Rattle.p8_inputs.specs.Sources.{IsImageFrom, IsListingFrom, IsCodeFrom, IsMapFrom, IsHintsFrom}
use Rattle.p8_commands.specs.declared.image_kind.ImageKind.{ImageKind}
use Rattle.p8_commands.specs.Commands.{Command, Dump, Running, BuildSource, ListSource, CodeSource, CodeImage, MapSource, HintSource, ExplainFile, Check, TypeFile, Convert, Make}
use Rattle.p8_prop.specs.declared.work.Answer.{Answer}
use Rattle.p8_prop.specs.declared.work.Answer.TheVariants.{Text, Bad}
use Rattle.p8_prop.specs.declared.work.Work.{Work}
use Rattle.p8_prop.specs.declared.work.Work.TheVariants.{Done, Run, View, Page}
use Rattle.p8_prop.specs.Headline.{IsToldBySource, IsHistoryOf, IsBuild}
use Rattle.p8_prop.specs.Texts.{accepted_line, dumped_range, name_in, HasVerdict, IsViewed, IsPaged}
use Rattle.p8_prop.specs.Works.{IsAnswerTo, IsCheckedBy, IsRunWork, IsText, IsTextOfRun, IsTextOfView, IsViewWork, IsTextOfPage, IsPageWork, IsWork}

-- an image and a listing are what is given
pub built : (files : Files) (short : Bool) (file text : List ℕ) → IsImageFrom files short file text → IsBuild files short file text → IsText files (BuildSource short file) text
built files short file text is keeps = ((bytes text ∷ [], (is, tt), refl), keeps)

pub listed : (files : Files) (short : Bool) (file text : List ℕ) → IsListingFrom files short file text → IsText files (ListSource short file) text
listed files short file text is = ((bytes text ∷ [], (is, tt), refl), tt)

-- so is the code of a source, and that of an image is by its bytes
pub coded : (files : Files) (short : Bool) (file text : List ℕ) → IsCodeFrom files short file text → IsText files (CodeSource short file) text
coded files short file text is = ((bytes text ∷ [], (is, tt), refl), tt)

pub image-coded : (files : Files) (kind : ImageKind) (file text : List ℕ) → ((xs : List ℕ) × IsProgram files (format_of kind) file xs × (text ≡ image_code (binary_by kind xs))) → IsText files (CodeImage kind file) text
image-coded files kind file text is = ((bytes is.0 ∷ [], (is.1, tt), is.2), tt)

-- so is a map
pub mapped : (files : Files) (file text : List ℕ) → IsMapFrom files file text → IsText files (MapSource file) text
mapped files file text is = ((bytes text ∷ [], (is, tt), refl), tt)

-- so are hints
pub hinted : (files : Files) (file text : List ℕ) → IsHintsFrom files file text → IsText files (HintSource file) text
hinted files file text is = ((bytes text ∷ [], (is, tt), refl), tt)

-- a source with an image is accepted
pub accepted : (files : Files) (file image text : List ℕ) → IsImageFrom files false file image → text ≡ accepted_line file → IsText files (ExplainFile file) text
accepted files file image text is same = ((bytes image ∷ [], (is, tt), same), tt)

-- so is an image as the other kind of file
pub converted : (files : Files) (kind : ImageKind) (file text : List ℕ) → ((xs : List ℕ) × IsProgram files (format_of kind) file xs × (text ≡ other_file kind xs)) → IsText files (Convert kind file) text
converted files kind file text is = ((bytes is.0 ∷ [], (is.1, tt), is.2), tt)

-- so is a script that sends a message
pub typed-told : (files : Files) (file xs text : List ℕ) (pin bits start : ℕ) → IsRead files file xs → length xs ≤ most_sent → text ≡ typed_text xs pin bits start → IsText files (TypeFile file pin bits start) text
typed-told files file xs text pin bits start read few is = ((bytes xs ∷ [], ((read, few), tt), is), tt)

-- ---- a run

-- what is given for the pin script
pub given-for : (files : Files) (named : Option (List ℕ)) (script : List Line) → IsScriptFor files named script → (given : List Given) × Give files (script_ask named) given × (lines_in given ≡ script)
given-for files None script is = ([], tt, sym is)
given-for files (Some file) script is = (lines script ∷ [], (is, tt), refl)

-- the law of runs that are made of a source
abbrev pub RunsAreTold : Type 0
RunsAreTold = (files : Files) (format : Format) (file xs : List ℕ) → HasProperTrees files format file xs → (w : World) → w.memory ≡ memory_by format xs → w.first ≡ first_by format xs → (past : List Turn) → Ended asks w past → IsToldBySource files format file xs w past

module _ (told : RunsAreTold) (files : Files) (format : Format) (run : Running) (inputs : Inputs) (begins : Begins files format run.file run.script inputs) where
  -- the world of the run
  abbrev pub begun : World
  begun = machine.world_of inputs.boot inputs.script (record { clocks = run.clocks; turns = run.turns })

  abbrev world_by : List Line → World
  world_by script = world_of format begins.0 script run.clocks run.turns

  same-world : begun ≡ world_by inputs.script
  same-world = λ i. record { memory = begins.3 i; first = begins.4 i; script = inputs.script; clocks = run.clocks; turns = run.turns }

  abbrev scripted : (given : List Given) × Give files (script_ask run.script) given × (lines_in given ≡ inputs.script)
  scripted = given-for files run.script inputs.script begins.5

  given-world : begun ≡ world_by (lines_in scripted.0)
  given-world = same-world ∙ ap world_by (sym scripted.2)

  history-of : (past : List Turn) → Ended asks begun past → IsHistoryOf files format run begun past
  history-of past ended = record {
    bytes = begins.0;
    script = inputs.script;
    program = begins.1;
    pins = begins.5;
    world = same-world;
    history = record { ended = ended; rises = rises asks begun one-asked asked-first asked-later past ended.legal; only = λ other other-ended. one-history asks begun one-asked other past other-ended ended };
    source = told files format run.file begins.0 begins.2 begun begins.3 begins.4 past ended;
  }

  pub run-told : (finish : Finish) (past : List Turn) → Ended asks begun past → IsWhole finish begun past → IsTextOfRun files format run finish (told_by finish begun past)
  run-told finish past ended whole = (
    (bytes begins.0 ∷ scripted.0, (begins.1, scripted.1), (past, subst (λ (w : World). Ended asks w past) given-world ended, ap (λ (w : World). told_by finish w past) given-world)),
    (begun, past, history-of past ended, whole, refl),
  )

  pub view-told : (options : ViewOptions) (dump : Option Dump) (legend : Legend) → IsLegendFrom files format run.file legend → HasName legend (name_in dump)
      → (text : List ℕ) → IsViewed begun options legend (dumped_range legend dump) text → IsTextOfView files format run options dump text
  view-told options dump legend from named text is = (
    (viewed begins.0 legend ∷ scripted.0, ((begins.1, from, named), scripted.1), (legend, refl, subst (λ (w : World). IsViewed w options legend (dumped_range legend dump) text) given-world is)),
    (begun, is.0, legend, history-of is.0 is.1, from, is.2),
  )

  pub page-told : (from to : ℕ) (legend : Legend) (blocks : List Block) → IsLegendFrom files format run.file legend → AreBlocksFrom files format run.file blocks
      → (text : List ℕ) → IsPaged begun run.file from to legend blocks text → IsTextOfPage files format run from to text
  page-told from to legend blocks of_legend of_blocks text is = (
    (paged begins.0 legend blocks ∷ scripted.0, ((begins.1, of_legend, of_blocks), scripted.1), (legend, refl, blocks, refl, subst (λ (w : World). IsPaged w run.file from to legend blocks text) given-world is)),
    (begun, is.0, legend, blocks, history-of is.0 is.1, of_legend, of_blocks, is.2),
  )

-- ---- a made program

pub made-told : (files : Files) (alone : Bool) (seed : ℕ) (w : World) → w ≡ made_world seed → (past : List Turn) → Ended asks w past → IsWhole (Summary seed) w past → IsText files (Make alone seed) (told_by (Summary seed) w past)
made-told files alone seed w same =
    subst (λ (v : World). (past : List Turn) → Ended asks v past → IsWhole (Summary seed) v past → IsText files (Make alone seed) (told_by (Summary seed) v past)) (sym same) (λ past ended whole. (([], tt, (past, ended, refl)), tt))

-- ---- a history that is checked

-- what is given for a pin script and a history file
checked-given : (files : Files) (named : Option (List ℕ)) (recorded xs : List ℕ) (script : List Line) → IsScriptFor files named script → IsRead files recorded xs
    → (given : List Given) × Give files (script_ask named ++ history recorded ∷ []) given × (lines_in given ≡ script) × (bytes_in given ≡ xs)
checked-given files None recorded xs script is read = (bytes xs ∷ [], (read, tt), sym is, refl)
checked-given files (Some file) recorded xs script is read = (lines script ∷ bytes xs ∷ [], (is, (read, tt)), refl, refl)

module _ (files : Files) (raw : Bool) (file recorded : List ℕ) (named : Option (List ℕ)) (read : Recorded) (begins : Begins files (format_for raw file) file named read.inputs) (is_read : IsRead files recorded read.history.items) where
  abbrev taken : Format
  taken = format_for raw file

  abbrev behind : (given : List Given) × Give files (script_ask named ++ history recorded ∷ []) given × (lines_in given ≡ read.inputs.script) × (bytes_in given ≡ read.history.items)
  behind = checked-given files named recorded read.history.items read.inputs.script begins.5 is_read

  abbrev given : List Given
  given = bytes begins.0 ∷ behind.0

  gives : Give files (check_asks taken file named recorded) given
  gives = (begins.1, behind.1)

  same-boot : read.inputs.boot ≡ boot_by taken begins.0
  same-boot = λ i. record { ram = begins.3 i; first = begins.4 i }

  -- the verdict on what was read is that on what is given
  has-verdict : (v : checking.Verdict) → IsVerdict read.inputs.boot read.inputs.script read.history.items v → HasVerdict taken given v
  has-verdict v is =
      subst (λ (xs : List ℕ). IsVerdict (boot_by taken begins.0) (lines_in behind.0) xs v) (sym behind.3)
      (subst (λ (script : List Line). IsVerdict (boot_by taken begins.0) script read.history.items v) (sym behind.2)
      (subst (λ (boot : Boot). IsVerdict boot read.inputs.script read.history.items v) same-boot is))

  pub checked-answer : (answer : Answer) → IsCheckedBy read.inputs.boot read.inputs.script read.history.items recorded answer → IsAnswerTo files (Check raw file recorded named) answer
  checked-answer (Text text) is = ((given, gives, (is.0, has-verdict (Good is.0) is.1, is.2)), tt)
  checked-answer (Bad name turn cause) is = (given, gives, (is.0, has-verdict (verdict.Bad turn cause) is.1))

-- ---- what a command comes to

-- the text of a run is that of a command
pub run-work : (files : Files) (command : Command) (format : Format) (run : Running) (finish : Finish) → ((text : List ℕ) → IsTextOfRun files format run finish text → IsText files command text)
    → (work : Work) → IsRunWork files format run finish work → IsWork files command work
run-work files command format run finish is (Done answer) work = absurd work
run-work files command format run finish is (Run start other) work = (work.0, λ past ended whole. is _ (work.1 past ended whole))
run-work files command format run finish is (View start view) work = absurd work
run-work files command format run finish is (Page start page) work = absurd work

-- and so is a view
pub view-work : (files : Files) (command : Command) (format : Format) (run : Running) (options : ViewOptions) (dump : Option Dump) → ((text : List ℕ) → IsTextOfView files format run options dump text → IsText files command text)
    → (work : Work) → IsViewWork files format run options dump work → IsWork files command work
view-work files command format run options dump is (Done answer) work = absurd work
view-work files command format run options dump is (Run start finish) work = absurd work
view-work files command format run options dump is (View start view) work = (work.0, λ text seen. is text (work.1 text seen))
view-work files command format run options dump is (Page start page) work = absurd work

-- and a page
pub page-work : (files : Files) (command : Command) (format : Format) (run : Running) (from to : ℕ) → ((text : List ℕ) → IsTextOfPage files format run from to text → IsText files command text)
    → (work : Work) → IsPageWork files format run from to work → IsWork files command work
page-work files command format run from to is (Done answer) work = absurd work
page-work files command format run from to is (Run start finish) work = absurd work
page-work files command format run from to is (View start view) work = absurd work
page-work files command format run from to is (Page start page) work = (work.0, (work.1.0, work.1.1, λ text seen. is text (work.1.2 text seen)))
