-- What a call with the words of `raw` or `run` has written.
use Rattle.std.proofs.Common.{◌≡◌, ◌∙◌, ◌⊎◌, sym, ap, subst, refl, inl, inr, Bool, true, false, List, [], ◌∷◌, Option, Some, None, ℕ}
use Rattle.std.specs.Prelude.{codes}
use Rattle.std.specs.Str.{bytes_eq}
use Rattle.clap.specs.Walk.{Text}
use Rattle.std.proofs.lemmas.Option.{same_Some}
use Rattle.p8_io.specs.Shelves.{Files}
use Rattle.p8_io.specs.Sinks.{Appended}
use Rattle.p8_access.specs.declared.order.Turn.{Turn}
use Rattle.p8_access.specs.Worlds.{World}
use Rattle.p8_finish.specs.declared.finish.Finish.TheVariants.{Trace}
use Rattle.p8_inputs.specs.declared.program.Format.{Format}
use Rattle.p8_inputs.specs.declared.program.Format.TheVariants.{Memory}
use Rattle.p8_inputs.specs.Inputs.{IsProgram}
use Rattle.p8_inputs.specs.Programs.{format_by, format_named}
use Rattle.p8_commands.specs.declared.image_kind.ImageKind.{ImageKind}
use Rattle.p8_commands.specs.declared.image_kind.ImageKind.TheVariants.{Binary, Eeprom}
use Rattle.p8_commands.specs.Kinds.{kind_named}
use Rattle.p8_inputs.specs.declared.stop.Stop.{Stop}
use Rattle.p8_inputs.specs.declared.stop.Stop.TheVariants as stop
use Rattle.p8_commands.specs.declared.table.Subcommand.TheVariants as named
use Rattle.p8_commands.specs.Commands.{Command, Running, BuildSource, ListSource, CodeSource, CodeImage, MapSource, HintSource, ExplainFile, ExplainNumber, RunMemory, RunProgram, Save, Check, Serial as ReadPin, TypeFile, Wave as ShowWave, Plot as DrawPins, ViewRun, PageRun, Convert, Make, Help, has_flag, said_to, command_of, alone_of}
use Rattle.p8_prop.specs.declared.status.Status.{Status}
use Rattle.p8_prop.specs.declared.status.Status.TheVariants as status
use Rattle.p8_prop.specs.Headline as whole
use Rattle.p8_prop.specs.Headline.{IsRun, IsHeadline}
use Rattle.p8_prop.specs.Verdicts.{Outside, Verdict, unsaid, stopped, unexplained, bad, written, unwritten, stop_status, status_of, IsVerdict, IsOut}
use Rattle.p8_prop.specs.Promises.{HasHeadline, Keeps}
use Rattle.p8_prop.specs.Images.{Coding, Plain}
use Rattle.p8_prop.specs.Runs as sentence
use Rattle.p8_prop.specs.Runs.{SayRun, raw_app, run_app, value_in, IsRunOf, IsTraceOf, PrintsRaw, PrintsRun}
use Rattle.p8_prop.specs.Shorts.{Short}
use Rattle.p8_prop.specs.RunLaws.{AreOfRun, IsCommandOf, Prints, RunsPrintTheirHistory}
use Rattle.p8_prop.proofs.Imaging.{coding, told-by}
use Rattle.p8_prop.proofs.OneProject.{one-start}
use Rattle.p8_prop.proofs.OneTrace.{script-of, from-file, one-trace}
use Rattle.p8_prop.proofs.SaidRuns.{one-run, format-same, said-raw, said-run, command-raw, command-run}

-- ---- status 0 tells that a text was written

abbrev is-ok : Status → Bool
is-ok status.Ok = true
is-ok _ = false

stop-not_ok : (reason : Stop) → is-ok (stop_status reason) ≡ false
stop-not_ok (stop.Unread file) = refl
stop-not_ok (stop.Missing file mention) = refl
stop-not_ok stop.NoMemory = refl
stop-not_ok (stop.Refused source f size) = refl
stop-not_ok (stop.BadProgram file fault) = refl
stop-not_ok (stop.BadScript file line) = refl
stop-not_ok (stop.Unnamed file name) = refl

true-not_false : true ≡ false → ⊥
true-not_false e = cc

ok-written : (verdict : Verdict) → status.Ok ≡ status_of verdict → (text : List ℕ) × (verdict ≡ written text)
ok-written unsaid e = absurd (true-not_false (ap is-ok e))
ok-written (stopped reason) e = absurd (true-not_false (ap is-ok e ∙ stop-not_ok reason))
ok-written (unexplained reason) e = absurd (true-not_false (ap is-ok e))
ok-written (bad history turn cause) e = absurd (true-not_false (ap is-ok e))
ok-written (written text) e = (text, refl)
ok-written (unwritten text) e = absurd (true-not_false (ap is-ok e))

done : (o : Outside) (command : Option Command) → Keeps o command status.Ok
    → (is : Command) × (text : List ℕ) × (command ≡ Some is) × Appended o.out.taken o.out.taken_now text × IsHeadline o.shelf.files is text
done o None keeps =
    let wrote = ok-written keeps.verdict keeps.answered in
    absurd (subst (IsVerdict o None) wrote.1 keeps.is_verdict)
done o (Some is) keeps =
    let wrote = ok-written keeps.verdict keeps.answered in
    let out : Appended o.out.taken o.out.taken_now wrote.0 = subst (IsOut o.out (Some is)) wrote.1 keeps.out in
    let headline : IsHeadline o.shelf.files is wrote.0 = subst (HasHeadline o.shelf.files (Some is)) wrote.1 keeps.headline in
    (is, wrote.0, refl, out, headline)

-- ---- a command of one thread alone is the command of the words

alone-some : (said : Option Command) (is : Command) → alone_of said ≡ Some is → said ≡ Some is
alone-some None is e = e
alone-some (Some (BuildSource short file)) is e = e
alone-some (Some (ListSource short file)) is e = e
alone-some (Some (CodeSource short file)) is e = e
alone-some (Some (CodeImage kind file)) is e = e
alone-some (Some (MapSource file)) is e = e
alone-some (Some (HintSource file)) is e = e
alone-some (Some (ExplainFile file)) is e = e
alone-some (Some (ExplainNumber number)) is e = e
alone-some (Some (RunMemory run)) is e = e
alone-some (Some (RunProgram false short run)) is e = absurd cc
alone-some (Some (RunProgram true short run)) is e = e
alone-some (Some (Save raw run)) is e = e
alone-some (Some (Check raw file history script)) is e = e
alone-some (Some (ReadPin raw run pin bits)) is e = e
alone-some (Some (TypeFile file pin bits start)) is e = e
alone-some (Some (ShowWave false raw all pins_only run)) is e = absurd cc
alone-some (Some (ShowWave true raw all pins_only run)) is e = e
alone-some (Some (DrawPins false raw ascii run pins from to columns)) is e = absurd cc
alone-some (Some (DrawPins true raw ascii run pins from to columns)) is e = e
alone-some (Some (ViewRun raw pins_only quiet run cog from to dump)) is e = e
alone-some (Some (PageRun raw run from to)) is e = e
alone-some (Some (Convert kind file)) is e = e
alone-some (Some (Make false seed)) is e = absurd cc
alone-some (Some (Make true seed)) is e = e
alone-some (Some (Help topic)) is e = e

said-some : (words : List Text) (command : Option Command) (is : Command) → IsCommandOf words command → command ≡ Some is → command_of words ≡ Some is
said-some words command is (inl same) e = sym same ∙ e
said-some words command is (inr same) e = alone-some (command_of words) is (sym same ∙ e)

-- ---- and its text is the trace of its history

-- what is run, by the ending of a file's name
run-of : (short : Bool) (files : Files) (kind : Option ImageKind) (file bytes : List ℕ) (w : World) (past : List Turn)
    → IsProgram files (format_by short kind) file bytes → whole.IsToldBySource files (format_by short kind) file bytes w past
    → IsRunOf (coding short) files (format_by short kind) file bytes w past
run-of short files None file bytes w past program told = told-by files short file bytes w past told
run-of short files (Some Binary) file bytes w past program told = program.0
run-of short files (Some Eeprom) file bytes w past program told = program.0

traced : (Coded : Coding) (files : Files) (format : Format) (run : Running) (text : List ℕ)
    → ((bytes : List ℕ) (w : World) (past : List Turn) → IsProgram files format run.file bytes → whole.IsToldBySource files format run.file bytes w past
    → IsRunOf Coded files format run.file bytes w past) → IsRun files format run (Trace run.dump) text → IsTraceOf Coded files format run text
traced Coded files format run text runs (w, past, is, complete, told) = record {
  world = w;
  past = past;
  bytes = is.bytes;
  script = is.script;
  program = runs is.bytes w past is.program is.source;
  pins = script-of files run.script is.script is.pins;
  begins = is.world;
  history = is.history;
  told = told;
}

prints-raw : (files : Files) (words : List Text) (is : Command) (text : List ℕ) → said_to named.Raw words ≡ Some is → IsHeadline files is text
    → PrintsRaw files words text
prints-raw files words is text said headline =
    let it = said-raw words is said in
    let run = it.0 in
    let printed : IsHeadline files (RunMemory run) text = subst (λ (c : Command). IsHeadline files c text) (sym (same_Some _ _ it.2)) headline in
    (run, it.1, traced Plain files Memory run text (λ bytes w past program told. program.0) printed)

-- by the ending of its name
named-so : (Coded : Coding) (files : Files) (short : Bool) (run : Running) (text : List ℕ)
    → IsTraceOf Coded files (format_named short run.file) run text → IsTraceOf Coded files (sentence.format_named short run.file) run text
named-so Coded files short run text is =
    subst (λ (format : Format). IsTraceOf Coded files format run text) (sym (format-same short run.file)) is

-- with `--short` or without
by-flag : (files : Files) (words : List Text) (run : Running) (text : List ℕ) → SayRun run_app words run → (short : Bool)
    → has_flag (codes "short") (value_in run_app words) ≡ short → IsRun files (format_named short run.file) run (Trace run.dump) text
    → PrintsRun false Plain files words text ⊎ PrintsRun true Short files words text
by-flag files words run text say false flag printed =
    inl (run, say, flag, named-so Plain files false run text (traced Plain files (format_named false run.file) run text (run-of false files (kind_named run.file) run.file) printed))
by-flag files words run text say true flag printed =
    inr (run, say, flag, named-so Short files true run text (traced Short files (format_named true run.file) run text (run-of true files (kind_named run.file) run.file) printed))

prints-run : (files : Files) (words : List Text) (is : Command) (text : List ℕ) → said_to named.Run words ≡ Some is → IsHeadline files is text
    → PrintsRun false Plain files words text ⊎ PrintsRun true Short files words text
prints-run files words is text said headline =
    let it = said-run words is said in
    let run = it.0 in
    let alone = has_flag (codes "alone") (value_in run_app words) in
    let short = has_flag (codes "short") (value_in run_app words) in
    let printed : IsHeadline files (RunProgram alone short run) text = subst (λ (c : Command). IsHeadline files c text) (sym (same_Some _ _ it.2)) headline in
    by-flag files words run text it.1 short refl printed

either : (files : Files) (word : Text) (words : List Text) (text : List ℕ) → word ≡ codes "run"
    → PrintsRun false Plain files (word ∷ words) text ⊎ PrintsRun true Short files (word ∷ words) text
    → Prints files (word ∷ words) text
either files word words text is (inl plain) = inl (inr (is, plain))
either files word words text is (inr short) = inr (is, short)

prints : (files : Files) (words : List Text) (is : Command) (text : List ℕ) → AreOfRun words → command_of words ≡ Some is → IsHeadline files is text
    → Prints files words text
prints files [] is text run said headline = absurd run
prints files (word ∷ words) is text (inl raw) said headline =
    let same : command_of (codes "raw" ∷ words) ≡ Some is = ap (λ (w : Text). command_of (w ∷ words)) (sym raw) ∙ said in
    let told = prints-raw files (codes "raw" ∷ words) is text (sym (command-raw words) ∙ same) headline in
    inl (inl (raw, subst (λ (w : Text). PrintsRaw files (w ∷ words) text) (sym raw) told))
prints files (word ∷ words) is text (inr run) said headline =
    let same : command_of (codes "run" ∷ words) ≡ Some is = ap (λ (w : Text). command_of (w ∷ words)) (sym run) ∙ said in
    let told = prints-run files (codes "run" ∷ words) is text (sym (command-run words) ∙ same) headline in
    either files word words text run
    (subst (λ (w : Text). PrintsRun false Plain files (w ∷ words) text ⊎ PrintsRun true Short files (w ∷ words) text) (sym run) told)

-- ---- and they print nothing else

apart : codes "raw" ≡ codes "run" → ⊥
apart e = true-not_false (ap (λ (w : Text). bytes_eq w (codes "raw")) e)

module _ (files : List ℕ → Option (List ℕ)) where
  only-raw : (words : List Text) (is : Command) (text other : List ℕ) → said_to named.Raw words ≡ Some is → IsHeadline (Some files) is text
      → PrintsRaw (Some files) words other → other ≡ text
  only-raw words is text other said headline (run, says, traced) =
      let it = said-raw words is said in
      let printed : IsHeadline (Some files) (RunMemory it.0) text =
      subst (λ (c : Command). IsHeadline (Some files) c text) (sym (same_Some _ _ it.2)) headline in
      let same : run ≡ it.0 = one-run raw_app words it.0 run it.1 says in
      one-trace files Plain Memory it.0 text other
      (λ bytes more w v past late program told is. one-start (files it.0.file) bytes more program.0 is) printed
      (subst (λ (run : Running). IsTraceOf Plain (Some files) Memory run other) same traced)

  -- with this choice of codes
  only-run : (short : Bool) (words : List Text) (is : Command) (text other : List ℕ) → said_to named.Run words ≡ Some is → IsHeadline (Some files) is text
      → PrintsRun short (coding short) (Some files) words other → other ≡ text
  only-run short words is text other said headline (run, says, flag, traced) =
      let it = said-run words is said in
      let alone = has_flag (codes "alone") (value_in run_app words) in
      let printed : IsHeadline (Some files) (RunProgram alone (has_flag (codes "short") (value_in run_app words)) it.0) text =
      subst (λ (c : Command). IsHeadline (Some files) c text) (sym (same_Some _ _ it.2)) headline in
      let so : IsRun (Some files) (format_named short it.0.file) it.0 (Trace it.0.dump) text =
      subst (λ (short : Bool). IsRun (Some files) (format_named short it.0.file) it.0 (Trace it.0.dump) text) flag printed in
      let same : run ≡ it.0 = one-run run_app words it.0 run it.1 says in
      let taken : IsTraceOf (coding short) (Some files) (format_named short run.file) run other =
      subst (λ (format : Format). IsTraceOf (coding short) (Some files) format run other) (format-same short run.file) traced in
      one-trace files (coding short) (format_named short it.0.file) it.0 text other (from-file files short (kind_named it.0.file) it.0.file) so
      (subst (λ (run : Running). IsTraceOf (coding short) (Some files) (format_named short run.file) run other) same taken)

  only : (words : List Text) (is : Command) (text other : List ℕ) → AreOfRun words → command_of words ≡ Some is → IsHeadline (Some files) is text
      → Prints (Some files) words other → other ≡ text
  only [] is text other run said headline printed = absurd run
  only (word ∷ words) is text other (inl raw) said headline (inl (inl (again, printed))) =
      let same : command_of (codes "raw" ∷ words) ≡ Some is = ap (λ (w : Text). command_of (w ∷ words)) (sym raw) ∙ said in
      only-raw (codes "raw" ∷ words) is text other (sym (command-raw words) ∙ same) headline
      (subst (λ (w : Text). PrintsRaw (Some files) (w ∷ words) other) raw printed)
  only (word ∷ words) is text other (inl raw) said headline (inl (inr (run, printed))) = absurd (apart (sym raw ∙ run))
  only (word ∷ words) is text other (inl raw) said headline (inr (run, printed)) = absurd (apart (sym raw ∙ run))
  only (word ∷ words) is text other (inr run) said headline (inl (inl (raw, printed))) = absurd (apart (sym raw ∙ run))
  only (word ∷ words) is text other (inr run) said headline (inl (inr (again, printed))) =
      let same : command_of (codes "run" ∷ words) ≡ Some is = ap (λ (w : Text). command_of (w ∷ words)) (sym run) ∙ said in
      only-run false (codes "run" ∷ words) is text other (sym (command-run words) ∙ same) headline
      (subst (λ (w : Text). PrintsRun false Plain (Some files) (w ∷ words) other) run printed)
  only (word ∷ words) is text other (inr run) said headline (inr (again, printed)) =
      let same : command_of (codes "run" ∷ words) ≡ Some is = ap (λ (w : Text). command_of (w ∷ words)) (sym run) ∙ said in
      only-run true (codes "run" ∷ words) is text other (sym (command-run words) ∙ same) headline
      (subst (λ (w : Text). PrintsRun true Short (Some files) (w ∷ words) other) run printed)

pub runs-print : RunsPrintTheirHistory
runs-print o words command run said keeps =
    let it = done o command keeps in
    let is = said-some words command it.0 said it.2 in (
      it.1,
      it.3,
      prints o.shelf.files words it.0 it.1 run is it.4,
      λ files other tells printed. only files words it.0 it.1 other run is (subst (λ (shelf : Files). IsHeadline shelf it.0 it.1) tells it.4)
          (subst (λ (shelf : Files). Prints shelf words other) tells printed),
    )
