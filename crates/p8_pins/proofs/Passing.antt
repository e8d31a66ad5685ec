-- Lists of changes, and the levels after some of them.
use Rattle.std.proofs.Common.{◌≡◌, ◌∙◌, ap, sym, refl, subst, append_assoc, length, ℕ, ◌+◌, ◌<◌, ◌≤◌, Bool, nat_le, if◌then◌else◌, List, [], ◌∷◌, ◌++◌, arith}
use Rattle.std.proofs.lemmas.Bool.Decides.{nat_tests}
use Rattle.p8_access.specs.Worlds.{Line, levels_after}
use Rattle.p8_pins.specs.declared.change.Change.{Change}
use Rattle.p8_pins.specs.LevelChanges.{line_of, lines_of, RiseFrom, Within, IsLater, Ahead, pins_from, pins_after, HasPassed}

pub passes : (before t : ℕ) (line : Line) (lines : List Line) → line.clock ≤ t → levels_after before (line ∷ lines) t ≡ levels_after line.levels lines t
passes before t line lines h = grind (arith, nat_tests)

pub waits : (before t : ℕ) (line : Line) (lines : List Line) → t < line.clock → levels_after before (line ∷ lines) t ≡ before
waits before t line lines h = grind (arith, nat_tests)

if-same : {A : Type 0} (b : Bool) (x y z : A) → x ≡ y → (if b then x else z) ≡ (if b then y else z)
if-same b x y z e = ap (λ v. if b then v else z) e

-- a change at the end, seen before it and from it on
pub more-before : (before t : ℕ) (lines : List Line) (line : Line) → t < line.clock → levels_after before (lines ++ line ∷ []) t ≡ levels_after before lines t
more-before before t [] line h = waits before t line [] h
more-before before t (first ∷ lines) line h = if-same (nat_le first.clock t) _ _ before (more-before first.levels t lines line h)

pub more-from : (before t : ℕ) (lines : List Line) (line : Line) → Within t lines → line.clock ≤ t → levels_after before (lines ++ line ∷ []) t ≡ line.levels
more-from before t [] line within h = passes before t line [] h
more-from before t (first ∷ lines) line within h = passes before t first (lines ++ line ∷ []) within.0 ∙ more-from first.levels t lines line within.1 h

pub within-more : (t u : ℕ) (lines : List Line) (line : Line) → t ≤ u → line.clock ≤ u → Within t lines → Within u (lines ++ line ∷ [])
within-more t u [] line le h within = (h, tt)
within-more t u (first ∷ lines) line le h within = (omega (arith, within.0), within-more t u lines line le h within.1)

pub rise-more : (from t : ℕ) (lines : List Line) (line : Line) → from ≤ line.clock → t < line.clock → Within t lines → RiseFrom from lines → RiseFrom from (lines ++ line ∷ [])
rise-more from t [] line le later within rise = (le, tt)
rise-more from t (first ∷ lines) line le later within rise = (rise.0, rise-more (first.clock + 1) t lines line (omega (arith, within.0)) later within.1 rise.1)

-- passing nothing, one change, and some more
pub passed-none : (clock : ℕ) (ahead : Ahead) → HasPassed clock ahead ahead
passed-none clock ahead = record { passed = []; parts = refl; within = tt; pins = refl }

pub passed-one : (clock : ℕ) (line : Line) (old new : Ahead) → old.changes ≡ line ∷ new.changes → line.clock ≤ clock → new.pins ≡ line.levels → HasPassed clock old new
passed-one clock line old new parts le pins = record { passed = line ∷ []; parts = parts; within = (le, tt); pins = pins }

within-later : (early late : ℕ) (lines : List Line) → early ≤ late → Within early lines → Within late lines
within-later early late [] le within = tt
within-later early late (line ∷ lines) le within = (omega (arith, within.0, le), within-later early late lines le within.1)

within-both : (clock : ℕ) (one two : List Line) → Within clock one → Within clock two → Within clock (one ++ two)
within-both clock [] two a b = b
within-both clock (line ∷ one) two a b = (a.0, within-both clock one two a.1 b)

pins_after-both : (pins : ℕ) (one two : List Line) → pins_after pins (one ++ two) ≡ pins_after (pins_after pins one) two
pins_after-both pins [] two = refl
pins_after-both pins (line ∷ one) two = pins_after-both line.levels one two

pub passed-both : (early late : ℕ) (one two three : Ahead) → early ≤ late → HasPassed early one two → HasPassed late two three → HasPassed late one three
passed-both early late one two three le a b = record {
  passed = a.passed ++ b.passed;
  parts = a.parts ∙ ap (λ (lines : List Line). a.passed ++ lines) b.parts ∙ sym (append_assoc a.passed b.passed three.changes);
  within = within-both late a.passed b.passed (within-later early late a.passed le a.within) b.within;
  pins = b.pins ∙ ap (λ (pins : ℕ). pins_after pins b.passed) a.pins ∙ sym (pins_after-both one.pins a.passed b.passed);
}

-- what is told from there on is the same
after-within : (pins t : ℕ) (passed lines : List Line) → Within t passed → levels_after pins (passed ++ lines) t ≡ levels_after (pins_after pins passed) lines t
after-within pins t [] lines within = refl
after-within pins t (line ∷ passed) lines within = passes pins t line (passed ++ lines) within.0 ∙ after-within line.levels t passed lines within.1

pub passed-agrees : (clock t : ℕ) (old new : Ahead) → HasPassed clock old new → clock ≤ t → pins_from new t ≡ pins_from old t
passed-agrees clock t old new h le =
    ap (λ (pins : ℕ). levels_after pins new.changes t) h.pins
    ∙ sym (after-within old.pins t h.passed new.changes (within-later clock t h.passed le h.within))
    ∙ ap (λ (lines : List Line). levels_after old.pins lines t) (sym h.parts)

-- before the next change the pins stay so
pub stays : (pins t : ℕ) (lines : List Line) → IsLater t lines → levels_after pins lines t ≡ pins
stays pins t [] later = refl
stays pins t (line ∷ lines) later = waits pins t line lines later

pub rise-later : (clock : ℕ) (lines : List Line) → IsLater clock lines → RiseFrom 0 lines → RiseFrom (clock + 1) lines
rise-later clock [] later rise = tt
rise-later clock (line ∷ lines) later rise = (omega (arith, later), rise.1)

pub rise-from : (early late : ℕ) (lines : List Line) → early ≤ late → RiseFrom late lines → RiseFrom early lines
rise-from early late [] le rise = tt
rise-from early late (line ∷ lines) le rise = (omega (arith, rise.0, le), rise.1)

rise-behind : (passed lines : List Line) (from : ℕ) → RiseFrom from (passed ++ lines) → RiseFrom 0 lines
rise-behind [] lines from rise = rise-from 0 from lines (omega arith) rise
rise-behind (line ∷ passed) lines from rise = rise-behind passed lines (line.clock + 1) rise.1

pub passed-rise : (clock : ℕ) (old new : Ahead) → HasPassed clock old new → RiseFrom 0 old.changes → RiseFrom 0 new.changes
passed-rise clock old new h rise = rise-behind h.passed new.changes 0 (subst (RiseFrom 0) h.parts rise)

later-none : (clock : ℕ) (changes : List Change) → length changes ≡ 0 → IsLater clock (lines_of changes)
later-none clock [] none = tt
later-none clock (change ∷ changes) none = absurd (omega (arith, none))

-- where all up to a clock have been passed
pub at-clock : (clock : ℕ) (old new : Ahead) → HasPassed clock old new → IsLater clock new.changes → new.pins ≡ pins_from old clock
at-clock clock old new h later = sym (stays new.pins clock new.changes later) ∙ passed-agrees clock clock old new h (omega arith)

pub at-last : (clock pins : ℕ) (old : Ahead) (changes : List Change) → HasPassed clock old (record { pins = pins; changes = lines_of changes }) → length changes ≡ 0 → pins ≡ pins_from old clock
at-last clock pins old changes h none = at-clock clock old (record { pins = pins; changes = lines_of changes }) h (later-none clock changes none)

pub at-next : (clock pins : ℕ) (old : Ahead) (changes rest : List Change) (next : Change) → HasPassed clock old (record { pins = pins; changes = lines_of changes }) → changes ≡ next ∷ rest → clock < next.clock → pins ≡ pins_from old clock
at-next clock pins old changes rest next h is later =
    at-clock clock old (record { pins = pins; changes = lines_of changes }) h (subst (λ (cs : List Change). IsLater clock (lines_of cs)) (sym is) later)

pub passes-change : (clock pins : ℕ) (old : Ahead) (changes rest : List Change) (next : Change) → HasPassed clock old (record { pins = pins; changes = lines_of changes }) → changes ≡ next ∷ rest → next.clock ≤ clock → HasPassed clock old (record { pins = next.pins; changes = lines_of rest })
passes-change clock pins old changes rest next h is le =
    let now : Ahead = record { pins = pins; changes = lines_of changes } in let new : Ahead = record { pins = next.pins; changes = lines_of rest } in
    passed-both clock clock old now new (omega arith) h (passed-one clock (line_of next) now new (ap lines_of is) le refl)
