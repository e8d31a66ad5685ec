-- What is saved, is found good.
use Rattle.std.proofs.Common.{◌≡◌, ◌∙◌, sym, ap, subst, refl, arith, inl, inr, ℕ, ◌+◌, ◌*◌, ◌≤◌, List, [], ◌∷◌, ◌++◌, length, take, reverse, Option, Some, None}
use Rattle.std.proofs.lemmas.List.{take_all, length-reverse}
use Rattle.std.specs.Prelude.{◌↔◌}
use Rattle.p8_access.specs.declared.memory.Boot.{Boot}
use Rattle.p8_access.specs.declared.order.Turn.{Turn}
use Rattle.p8_access.specs.Worlds.{Line, World}
use Rattle.p8_access.specs.Histories.{Ended}
use Rattle.p8_cog.specs.Lives.{asks}
use Rattle.p8_io.specs.Shelves.{Files, AreStartOf, IsRead, read_limit}
use Rattle.p8_verify.specs.declared.verdicts.Verdict.TheVariants.{Good}
use Rattle.p8_verify.specs.Files.{IsFile, records, file_of}
use Rattle.p8_verify.specs.Verdicts as checks
use Rattle.p8_verify.specs.Verdicts.{IsEndedFile}
use Rattle.p8_finish.specs.Checks.{good_line}
use Rattle.p8_inputs.specs.declared.program.Format.{Format}
use Rattle.p8_inputs.specs.Asks.{Given, bytes, viewed, paged, lines, Give, history, script_ask, bytes_in, lines_in}
use Rattle.p8_inputs.specs.Programs.{format_for, world_of, boot_by}
use Rattle.p8_commands.specs.Commands.{Save}
use Rattle.p8_prop.specs.Headline.{IsHeadline}
use Rattle.p8_prop.specs.Verdicts.{written, status_of}
use Rattle.p8_prop.specs.Promises.{HasHeadline}
use Rattle.p8_prop.specs.Saved.{SavedIsGood, CheckFindsGood}
use Rattle.p8_prop.proofs.Coming.{given-for}

-- the law of good files
abbrev pub GoodFiles : Type 0
GoodFiles = (boot : Boot) (script : List Line) (xs : List ℕ) (count : ℕ) → checks.IsVerdict boot script xs (Good count) ↔ IsEndedFile boot script xs count

-- a history file is given behind the pin script
behind : (files : Files) (named : Option (List ℕ)) (given : List Given) (recorded xs : List ℕ) → Give files (script_ask named) given → IsRead files recorded xs
    → (more : List Given) × Give files (script_ask named ++ history recorded ∷ []) more × (lines_in more ≡ lines_in given) × (bytes_in more ≡ xs)
behind files None [] recorded xs give read = (bytes xs ∷ [], (read, tt), refl, refl)
behind files None (first ∷ given) recorded xs give read = absurd give
behind files (Some file) [] recorded xs give read = absurd give
behind files (Some file) (lines script ∷ []) recorded xs give read = (lines script ∷ bytes xs ∷ [], (give.0, (read, tt)), refl, refl)
behind files (Some file) (lines script ∷ next ∷ given) recorded xs give read = absurd give.1
behind files (Some file) (bytes ys ∷ given) recorded xs give read = absurd give.0
behind files (Some file) (viewed ys legend ∷ given) recorded xs give read = absurd give.0
behind files (Some file) (paged ys legend blocks ∷ given) recorded xs give read = absurd give.0

-- the file of an ended history is that of the boot and script of its world
ended-file : (format : Format) (program : List ℕ) (script : List Line) (clocks turns : ℕ) (w : World) (past : List Turn) (text : List ℕ)
    → w ≡ world_of format program script clocks turns
    → Ended asks w past → IsFile w past text → IsEndedFile (boot_by format program) script text (length past)
ended-file format program script clocks turns w past text same ended file = (
  record { clocks = clocks; turns = turns },
  past,
  subst (λ (v : World). IsFile v past text) same file,
  subst (λ (v : World). Ended asks v past) same ended,
  refl,
)

pub saved-good : GoodFiles → SavedIsGood
saved-good good before later raw run recorded text (w, past, is, whole, told) same read =
    let format = format_for raw run.file in
    let scripted = given-for before run.script is.script is.pins in
    let again = same (bytes is.bytes ∷ scripted.0) (is.program, scripted.1) in
    let more = behind later run.script scripted.0 recorded text again.1 read in
    let file : IsFile w past text = subst (IsFile w past) (sym told) whole in
    let found : checks.IsVerdict (boot_by format is.bytes) is.script text (Good (length past)) =
    (good (boot_by format is.bytes) is.script text (length past)).1
    (ended-file format is.bytes is.script run.clocks run.turns w past text is.world is.history.ended file) in
    let script : lines_in more.0 ≡ is.script = more.2 ∙ scripted.2 in (
      length past,
      (
        bytes is.bytes ∷ more.0,
        (again.0, more.1),
        (
          length past,
          subst (λ (xs : List ℕ). checks.IsVerdict (boot_by format is.bytes) (lines_in more.0) xs (Good (length past))) (sym more.3)
              (subst (λ (ls : List Line). checks.IsVerdict (boot_by format is.bytes) ls text (Good (length past))) (sym script) found),
          refl,
        ),
      ),
    )

-- a history file is short enough to be read whole
records-long : (turns : List Turn) → length (records turns) ≡ 24 * length turns
records-long [] = refl
records-long (turn ∷ turns) = let rest = records-long turns in omega (arith, rest)

file-long : (w : World) (past : List Turn) → length (file_of w past) ≡ 16 + 24 * length past
file-long w past =
    let turns = records-long (reverse past) in
    let same : length (reverse past) ≡ length past = length-reverse past in
    omega (arith, turns, same)

within-limit : (text : List ℕ) → length text ≤ 1000000 → text ≡ take read_limit text
unfolding read_limit
within-limit text short = sym (take_all 1048577 text (omega (arith, short)))

read-whole : (w : World) (past : List Turn) (text : List ℕ) → IsFile w past text → text ≡ take read_limit text
read-whole w past text file =
    let long : length text ≡ 16 + 24 * length past = ap length file.bytes_are ∙ file-long w past in
    let few : length past ≤ 40000 = file.head.count in
    within-limit text (omega (arith, long, few))

stands-whole : (w : World) (past : List Turn) (text : List ℕ) → IsFile w past text → (files : Files) (tells : List ℕ
    → Option (List ℕ)) (recorded : List ℕ) → files ≡ Some tells → tells recorded ≡ Some text → IsRead files recorded text
stands-whole w past text file files tells recorded told stands =
    subst (λ (f : Files). IsRead f recorded text) (sym told) (subst (λ (o : Option (List ℕ)). AreStartOf o text) (sym stands) (read-whole w past text file))

pub check-good : GoodFiles → CheckFindsGood
check-good good o later raw run recorded saved answer checked shelf-quiet out-quiet =
    let headline : IsHeadline o.shelf.files (Save raw run) saved.text = subst
    (HasHeadline o.shelf.files (Some (Save raw run))) saved.wrote saved.kept.headline in
    let file : IsFile headline.0 headline.1 saved.text = subst (IsFile headline.0 headline.1) (sym headline.4) headline.3 in
    let read : IsRead later.shelf.files recorded saved.text = stands-whole headline.0 headline.1 saved.text file later.shelf.files saved.files recorded saved.tells saved.stands in
    let due = saved-good good o.shelf.files later.shelf.files raw run recorded saved.text headline saved.same read in
    elim (checked.complete saved.files (written (good_line due.0)) saved.tells tt due.1 shelf-quiet (λ _. out-quiet)) [
      | inl is ↦ inl (checked.answered ∙ ap status_of is, (due.0, is))
      | inr none ↦ inr (checked.answered ∙ ap status_of none)
    ]
