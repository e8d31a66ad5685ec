-- Where the shelf tells its files, there is one verdict.
use Rattle.std.proofs.Common.{◌≡◌, ◌∙◌, ap, sym, subst, refl, Bool, true, false, if◌then◌else◌, ℕ, inl, inr, List, [], ◌∷◌, ◌++◌, Option, Some, None, reverse}
use Rattle.std.proofs.lemmas.List.{reverse-reverse}
use Rattle.p8_access.specs.declared.memory.Boot.{Boot}
use Rattle.p8_access.specs.declared.order.Turn.{Turn}
use Rattle.p8_access.specs.Worlds.{Line, World}
use Rattle.p8_access.proofs.OneHistory.{one-history}
use Rattle.p8_cog.specs.Lives.{asks}
use Rattle.p8_cog.specs.Laws.{one-asked}
use Rattle.p8_legend.specs.declared.legend.Legend.{Legend}
use Rattle.p8_pins.specs.Levels.{pins_when, end_of}
use Rattle.p8_page.specs.Page.{Block, changes_by, page_of, run_blocks}
use Rattle.p8_verify.specs.declared.verdicts.Cause.{Cause}
use Rattle.p8_verify.specs.declared.verdicts.Cause.TheVariants.{Form}
use Rattle.p8_verify.specs.declared.verdicts.Verdict as checking
use Rattle.p8_verify.specs.declared.verdicts.Verdict.TheVariants.{Good, Bad}
use Rattle.p8_verify.specs.Verdicts as checks
use Rattle.p8_finish.specs.declared.finish.Finish.{Finish}
use Rattle.p8_finish.specs.declared.finish.Finish.TheVariants.{Trace, Summary, Saved, Serial, Wave, Plot}
use Rattle.p8_finish.specs.Finishes.{told_by}
use Rattle.p8_finish.specs.Checks.{good_line}
use Rattle.p8_io.specs.Counts.{Rose}
use Rattle.p8_io.specs.Shelves.{Files}
use Rattle.p8_inputs.specs.declared.stop.Stop.{Stop}
use Rattle.p8_inputs.specs.declared.stop.Stop.TheVariants as stop
use Rattle.p8_inputs.specs.Asks.{Given, bytes, viewed, paged, lines, bytes_in, lines_in, HasOneReading, IsLegendIn, AreBlocksIn}
use Rattle.p8_inputs.specs.Programs.{format_for, world_of}
use Rattle.p8_inputs.proofs.Deciding.{unread-rose}
use Rattle.p8_commands.specs.Commands.{Command, explains, BuildSource, ListSource, CodeSource, CodeImage, MapSource, HintSource, ExplainFile, ExplainNumber, RunMemory, RunProgram, Save, Check, Serial as ReadPin, TypeFile, Wave as ShowWave, Plot as DrawPins, ViewRun, PageRun, Convert, Make, Help}
use Rattle.p8_view.specs.declared.turns.ViewOptions.{ViewOptions}
use Rattle.p8_view.specs.Ending.{view_of}
use Rattle.p8_prop.specs.Texts.{selection_of, picture_of, options_of, dumped_range, asks_of, IsToldOf, IsViewOf, IsViewed, IsPageOf, IsPaged, IsTextOf, IsAskedFor, IsBadBy, IsBadHistory}
use Rattle.p8_prop.proofs.OneCount.{asked-one, counters-one}
use Rattle.p8_prop.specs.Verdicts.{Outside, Verdict, unsaid, stopped, unexplained, bad, written, unwritten, explanation, explained_by, StopsCommand, IsVerdict, IsCertain, IsForOutput, HasOneVerdict, IsComplete}

some-not_none : {A : Type 0} {a : A} → Some a ≡ None → ⊥
some-not_none e = cc

-- what is nowhere explained
abbrev no-text : Option (List ℕ)
no-text = None

either-none : (b : Bool) → (if b then no-text else no-text) ≡ no-text
either-none true = refl
either-none false = refl

-- ---- one verdict on a history file

-- the law that there is one
abbrev pub HasOneCheck : Type 0
HasOneCheck = (boot : Boot) (script : List Line) (xs : List ℕ) (v u : checking.Verdict) → checks.IsVerdict boot script xs v → checks.IsVerdict boot script xs u → v ≡ u

abbrev number-of : checking.Verdict → ℕ
number-of (Good count) = count
number-of (Bad turn cause) = turn

abbrev cause-of : checking.Verdict → Cause
cause-of (Good count) = Form
cause-of (Bad turn cause) = cause

good-not_bad : {count turn : ℕ} {cause : Cause} → Good count ≡ Bad turn cause → ⊥
good-not_bad e = cc

-- ---- one text

told-one : (w : World) (finish : Finish) (a b : List ℕ) → IsToldOf w finish a → IsToldOf w finish b → a ≡ b
told-one w finish a b p q =
    let past : p.0 ≡ q.0 = one-history asks w one-asked p.0 q.0 p.1 q.1 in
    p.2 ∙ ap (told_by finish w) past ∙ sym q.2

-- and one view
view-one : (w : World) (past : List Turn) (options : ViewOptions) (legend : Legend) (dump : Option (ℕ × ℕ)) (a b : List ℕ)
    → IsViewOf w past options legend dump a → IsViewOf w past options legend dump b → a ≡ b
view-one w past options legend dump a b (counters, asked, are, ask, is) (others, other, are', ask', is') =
    let turned : reverse counters ≡ reverse others = counters-one w past (reverse counters) (reverse others) are are' in
    let same : counters ≡ others = sym (reverse-reverse counters) ∙ ap reverse turned ∙ reverse-reverse others in
    let next : asked ≡ other = asked-one w past asked other ask ask' in
    is ∙ (λ i. view_of options legend w (same i) (next i) past dump) ∙ sym is'

viewed-one : (w : World) (options : ViewOptions) (legend : Legend) (dump : Option (ℕ × ℕ)) (a b : List ℕ)
    → IsViewed w options legend dump a → IsViewed w options legend dump b → a ≡ b
viewed-one w options legend dump a b p q =
    let past : p.0 ≡ q.0 = one-history asks w one-asked p.0 q.0 p.1 q.1 in
    view-one w q.0 options legend dump a b (subst (λ (past : List Turn). IsViewOf w past options legend dump a) past p.2) q.2

-- and one page
paged-one : (w : World) (file : List ℕ) (from to : ℕ) (legend : Legend) (blocks : List Block) (a b : List ℕ)
    → IsPaged w file from to legend blocks a → IsPaged w file from to legend blocks b → a ≡ b
paged-one w file from to legend blocks a b p q =
    let past : p.0 ≡ q.0 = one-history asks w one-asked p.0 q.0 p.1 q.1 in
    let is : IsPageOf w q.0 file from to legend blocks a = subst (λ (past : List Turn). IsPageOf w past file from to legend blocks a) past p.2 in
    let view : is.0 ≡ q.2.0 = view-one w q.0 (options_of false false None from to) legend None is.0 q.2.0 is.1 q.2.1 in
    is.2 ∙ ap (λ (text : List ℕ). page_of (run_blocks file from to text (changes_by (pins_when w q.0) (end_of w q.0)) ++ blocks)) view ∙ sym q.2.2

legend-one : (given : List Given) (a b : Legend) → IsLegendIn given a → IsLegendIn given b → a ≡ b
legend-one [] a b p q = absurd p
legend-one (bytes xs ∷ given) a b p q = legend-one given a b p q
legend-one (viewed xs legend ∷ given) a b p q = p ∙ sym q
legend-one (paged xs legend blocks ∷ given) a b p q = p ∙ sym q
legend-one (lines xs ∷ given) a b p q = legend-one given a b p q

blocks-one : (given : List Given) (a b : List Block) → AreBlocksIn given a → AreBlocksIn given b → a ≡ b
blocks-one [] a b p q = absurd p
blocks-one (bytes xs ∷ given) a b p q = blocks-one given a b p q
blocks-one (viewed xs legend ∷ given) a b p q = blocks-one given a b p q
blocks-one (paged xs legend blocks ∷ given) a b p q = p ∙ sym q
blocks-one (lines xs ∷ given) a b p q = blocks-one given a b p q

module _ (one_check : HasOneCheck) where
  text-one : (command : Command) (given : List Given) (a b : List ℕ) → IsTextOf command given a → IsTextOf command given b → a ≡ b
  text-one (BuildSource short file) given a b p q = p ∙ sym q
  text-one (ListSource short file) given a b p q = p ∙ sym q
  text-one (CodeSource short file) given a b p q = p ∙ sym q
  text-one (CodeImage kind file) given a b p q = p ∙ sym q
  text-one (MapSource file) given a b p q = p ∙ sym q
  text-one (HintSource file) given a b p q = p ∙ sym q
  text-one (ExplainFile file) given a b p q = p ∙ sym q
  text-one (ExplainNumber number) given a b p q = p ∙ sym q
  text-one (RunMemory run) given a b p q = told-one _ (Trace run.dump) a b p q
  text-one (RunProgram alone short run) given a b p q = told-one _ (Trace run.dump) a b p q
  text-one (Save raw run) given a b p q = told-one _ Saved a b p q
  text-one (Check raw file history script) given a b p q =
      let same : Good p.0 ≡ Good q.0 = one_check _ _ _ (Good p.0) (Good q.0) p.1 q.1 in
      p.2 ∙ ap good_line (ap number-of same) ∙ sym q.2
  text-one (ReadPin raw run pin bits) given a b p q = told-one _ (Serial pin bits) a b p q
  text-one (ShowWave alone raw all pins_only run) given a b p q = told-one _ (Wave (selection_of all pins_only)) a b p q
  text-one (DrawPins alone raw ascii run pins from to columns) given a b p q = told-one _ (Plot (picture_of pins from to columns ascii)) a b p q
  text-one (ViewRun raw pins_only quiet run cog from to dump) given a b p q =
      let options = options_of pins_only quiet cog from to in
      let legend : p.0 ≡ q.0 = legend-one given p.0 q.0 p.1 q.1 in
      viewed-one _ options q.0 (dumped_range q.0 dump) a b (subst (λ (l : Legend). IsViewed _ options l (dumped_range l dump) a) legend p.2) q.2
  text-one (PageRun raw run from to) given a b p q =
      let w = world_of (format_for raw run.file) (bytes_in given) (lines_in given) run.clocks run.turns in
      let legend : p.0 ≡ q.0 = legend-one given p.0 q.0 p.1 q.1 in
      let blocks : p.2 ≡ q.2 = blocks-one given p.2 q.2 p.3 q.3 in
      paged-one w run.file from to q.0 q.2 a b
      (subst (λ (l : Legend). IsPaged w run.file from to l q.2 a) legend (subst (λ (bs : List Block). IsPaged w run.file from to p.0 bs a) blocks p.4)) q.4
  text-one (TypeFile file pin bits start) given a b p q = p ∙ sym q
  text-one (Convert kind file) given a b p q = p ∙ sym q
  text-one (Make alone seed) given a b p q = told-one _ (Summary seed) a b p q
  text-one (Help topic) given a b p q = p ∙ sym q

  -- a history that isn't good is so at one turn, for one cause
  bad-one : (command : Command) (given : List Given) (a b : List ℕ) (m n : ℕ) (x y : Cause) → IsBadBy command given a m x → IsBadBy command given b n y → bad a m x ≡ bad b n y
  bad-one (Check raw file history script) given a b m n x y p q =
      let same : Bad m x ≡ Bad n y = one_check _ _ _ (Bad m x) (Bad n y) p.1 q.1 in
      λ i. bad ((p.0 ∙ sym q.0) i) (number-of (same i)) (cause-of (same i))
  bad-one _ given a b m n x y p q = absurd p

  -- and then there is no text
  bad-or_text : (command : Command) (given : List Given) (text name : List ℕ) (turn : ℕ) (cause : Cause) → IsTextOf command given text → IsBadBy command given name turn cause → ⊥
  bad-or_text (Check raw file history script) given text name turn cause p q =
      good-not_bad (one_check _ _ _ (Good p.0) (Bad turn cause) p.1 q.1)
  bad-or_text _ given text name turn cause p q = q

-- ---- one verdict

-- the call, where its shelf has these files
abbrev with_files : Outside → Files → Outside
with_files o files = record o { shelf = record o.shelf { files = files } }

module _ (one_check : HasOneCheck) (files : List ℕ → Option (List ℕ)) (one : HasOneReading files) where
  text-asked : (command : Command) (a b : List ℕ) → IsAskedFor (Some files) command a → IsAskedFor (Some files) command b → a ≡ b
  text-asked command a b p q =
      let same : p.0 ≡ q.0 = one.one_given (asks_of command) p.0 q.0 p.1 q.1 in
      text-one one_check command q.0 a b (subst (λ (given : List Given). IsTextOf command given a) same p.2) q.2

  history-one : (command : Command) (a b : List ℕ) (m n : ℕ) (x y : Cause) → IsBadHistory (Some files) command a m x → IsBadHistory (Some files) command b n y → bad a m x ≡ bad b n y
  history-one command a b m n x y p q =
      let same : p.0 ≡ q.0 = one.one_given (asks_of command) p.0 q.0 p.1 q.1 in
      bad-one one_check command q.0 a b m n x y (subst (λ (given : List Given). IsBadBy command given a m x) same p.2) q.2

  history-or_text : (command : Command) (text name : List ℕ) (turn : ℕ) (cause : Cause) → IsAskedFor (Some files) command text → IsBadHistory (Some files) command name turn cause → ⊥
  history-or_text command text name turn cause p q =
      let same : p.0 ≡ q.0 = one.one_given (asks_of command) p.0 q.0 p.1 q.1 in
      bad-or_text one_check command q.0 text name turn cause (subst (λ (given : List Given). IsTextOf command given text) same p.2) q.2

  verdict-one : (o : Outside) (command : Command) (a b : Verdict) → IsCertain a → IsCertain b → IsVerdict (with_files o (Some files)) (Some command) a → IsVerdict (with_files o (Some files)) (Some command) b → a ≡ b
  verdict-one o command (stopped x) (stopped y) s t p q = ap stopped (one.one_stop o.shelf.before o.shelf.now (asks_of command) x y s t p q)
  verdict-one o command (stopped x) (bad b n y) s t p q = absurd (one.never_both o.shelf.before o.shelf.now (asks_of command) q.0 x s q.1 p)
  verdict-one o command (stopped x) (written y) s t p q = absurd (one.never_both o.shelf.before o.shelf.now (asks_of command) q.0 x s q.1 p)
  verdict-one o command (bad a m x) (stopped y) s t p q = absurd (one.never_both o.shelf.before o.shelf.now (asks_of command) p.0 y t p.1 q)
  verdict-one o command (bad a m x) (bad b n y) s t p q = history-one command a b m n x y p q
  verdict-one o command (bad a m x) (written y) s t p q = absurd (history-or_text command y a m x q p)
  verdict-one o command (written x) (stopped y) s t p q = absurd (one.never_both o.shelf.before o.shelf.now (asks_of command) p.0 y t p.1 q)
  verdict-one o command (written x) (bad b n y) s t p q = absurd (history-or_text command x b n y p q)
  verdict-one o command (written x) (written y) s t p q = ap written (text-asked command x y p q)
  verdict-one o command unsaid b s t p q = absurd (some-not_none p)
  verdict-one o command (unwritten x) b s t p q = absurd s
  verdict-one o command (unexplained x) b s t p q = absurd s
  verdict-one o command a unsaid s t p q = absurd (some-not_none q)
  verdict-one o command a (unwritten y) s t p q = absurd t
  verdict-one o command a (unexplained y) s t p q = absurd t

-- no words but those of a command are stopped by what lies in files
none-stopped : (o : Outside) (reason : Stop) → IsCertain (stopped reason) → StopsCommand o None reason → ⊥
none-stopped o (stop.Unread name) s p = p
none-stopped o (stop.Missing name mention) s p = p
none-stopped o stop.NoMemory s p = s
none-stopped o (stop.Refused name f size) s p = p
none-stopped o (stop.BadProgram name fault) s p = p
none-stopped o (stop.BadScript name line) s p = p
none-stopped o (stop.Unnamed file name) s p = p

none-one : (o : Outside) (a : Verdict) → IsCertain a → IsVerdict o None a → a ≡ unsaid
none-one o unsaid s p = refl
none-one o (stopped reason) s p = absurd (none-stopped o reason s p)
none-one o (bad history turn cause) s p = absurd p
none-one o (written text) s p = absurd p
none-one o (unwritten text) s p = absurd s
none-one o (unexplained reason) s p = absurd s

module _ (one_check : HasOneCheck) (one : (files : List ℕ → Option (List ℕ)) → HasOneReading files) where
  pub one-verdict : (o : Outside) (command : Option Command) → HasOneVerdict o command
  one-verdict o None files a b told s t p q = none-one o a s p ∙ sym (none-one o b t q)
  one-verdict o (Some command) files a b told s t p q =
      subst (λ (f : Files). IsVerdict (with_files o f) (Some command) a → IsVerdict (with_files o f) (Some command) b → a ≡ b) (sym told)
      (verdict-one one_check files (one files) o command a b s t) p q

  -- a file that could not be read is one that the shelf has counted
  unread-risen : (o : Outside) (command : Option Command) (name : List ℕ) → IsVerdict o command (stopped (stop.Unread name)) → Rose o.shelf.before o.shelf.now
  unread-risen o None name p = absurd p
  unread-risen o (Some command) name p = unread-rose o.shelf.files o.shelf.before o.shelf.now (asks_of command) name p

  -- what is explained lies in the files
  explained-certain : (command : Option Command) (reason : Stop) (text : List ℕ) → explained_by command reason ≡ Some text → IsCertain (stopped reason)
  unfolding explanation
  explained-certain None reason text is = absurd (some-not_none (sym is))
  explained-certain (Some command) (stop.Unread name) text is = absurd (some-not_none (sym is ∙ either-none (explains command)))
  explained-certain (Some command) stop.NoMemory text is = absurd (some-not_none (sym is ∙ either-none (explains command)))
  explained-certain (Some command) (stop.Missing name mention) text is = tt
  explained-certain (Some command) (stop.Refused source f size) text is = tt
  explained-certain (Some command) (stop.BadProgram name fault) text is = tt
  explained-certain (Some command) (stop.BadScript name line) text is = tt
  explained-certain (Some command) (stop.Unnamed file name) text is = tt

  -- what comes is due, or a count rose, or there was no memory
  pub complete : (o : Outside) (command : Option Command) (verdict : Verdict) → IsVerdict o command verdict → IsComplete o command verdict
  complete o command unsaid p files due told certain is quiet out_quiet = inl (one-verdict o command files unsaid due told tt certain p is)
  complete o command (bad history turn cause) p files due told certain is quiet out_quiet = inl (one-verdict o command files (bad history turn cause) due told tt certain p is)
  complete o command (written text) p files due told certain is quiet out_quiet = inl (one-verdict o command files (written text) due told tt certain p is)
  complete o command (unwritten text) p files due told certain is quiet out_quiet =
      let same : written text ≡ due = one-verdict o command files (written text) due told tt certain p.0 is in
      absurd (out_quiet (subst (IsForOutput command) same tt) p.1)
  complete o command (unexplained reason) p files due told certain is quiet out_quiet =
      let same : stopped reason ≡ due = one-verdict o command files (stopped reason) due told (explained-certain command reason p.1.0 p.1.1) certain p.0 is in
      absurd (out_quiet (subst (IsForOutput command) same p.1) p.2)
  complete o command (stopped (stop.Unread name)) p files due told certain is quiet out_quiet = absurd (quiet (unread-risen o command name p))
  complete o command (stopped (stop.Missing name mention)) p files due told certain is quiet out_quiet = inl (one-verdict o command files (stopped (stop.Missing name mention)) due told tt certain p is)
  complete o command (stopped stop.NoMemory) p files due told certain is quiet out_quiet = inr refl
  complete o command (stopped (stop.Refused name f size)) p files due told certain is quiet out_quiet = inl (one-verdict o command files (stopped (stop.Refused name f size)) due told tt certain p is)
  complete o command (stopped (stop.BadProgram name fault)) p files due told certain is quiet out_quiet = inl (one-verdict o command files (stopped (stop.BadProgram name fault)) due told tt certain p is)
  complete o command (stopped (stop.BadScript name line)) p files due told certain is quiet out_quiet = inl (one-verdict o command files (stopped (stop.BadScript name line)) due told tt certain p is)
  complete o command (stopped (stop.Unnamed file name)) p files due told certain is quiet out_quiet = inl (one-verdict o command files (stopped (stop.Unnamed file name)) due told tt certain p is)
