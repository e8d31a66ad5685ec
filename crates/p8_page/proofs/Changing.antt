-- The pins of a run at each clock, from a list of changes.
use Rattle.std.proofs.Common.{◌≡◌, ◌∙◌, ap, sym, refl, subst, ℕ, zero, suc, ◌+◌, ◌<◌, ◌≤◌, inl, inr, ◌⊎◌, Bool, true, false, List, [], ◌∷◌, ◌++◌, arith}
use Rattle.std.specs.Prelude.{◌==◌, ◌&&◌, not, nat_le, nat_lt, if◌then◌else◌}
use Rattle.std.proofs.lemmas.Bool.{cases_lt}
use Rattle.std.proofs.lemmas.Bool.Decides.{nat_tests}
use Rattle.p8_access.specs.Worlds.{Line, levels_after, level_at}
use Rattle.p8_pins.specs.LevelChanges.{RiseFrom}
use Rattle.p8_page.specs.Page.{changes_from, changes_by}
use Rattle.p8_page.specs.Kept.{kept}

if_le : (a b : ℕ) → a ≤ b → nat_le a b ≡ true
if_le a b h = grind (arith, nat_tests)

if_later : (a b : ℕ) → b < a → nat_le a b ≡ false
if_later a b h = grind (arith, nat_tests)

if_before : (a b : ℕ) → a < b → nat_lt a b ≡ true
if_before a b h = grind (arith, nat_tests)

if_behind : (a b : ℕ) → b ≤ a → nat_lt a b ≡ false
if_behind a b h = grind (arith, nat_tests)

if_same : (a b : ℕ) → a ≡ b → (a == b) ≡ true
if_same a b h = grind (arith, nat_tests)

earlier : (a b : ℕ) (lines : List Line) → a ≤ b → RiseFrom b lines → RiseFrom a lines
earlier a b [] le rise = tt
earlier a b (line ∷ lines) le rise = (omega (arith, rise.0), rise.1)

-- changes from an end on are none before it
late : (before end : ℕ) (lines : List Line) → RiseFrom end lines → kept before end lines ≡ []
late before end [] rise = refl
late before end (line ∷ lines) rise =
    ap (λ (is : Bool). (if is && not (line.levels == before) then line ∷ [] else []) ++ kept line.levels end lines) (if_behind line.clock end rise.0)
    ∙ late line.levels end lines (earlier end (line.clock + 1) lines (omega (arith, rise.0)) rise.1)

-- before the first change the levels stay
not_yet : (before t : ℕ) (lines : List Line) → RiseFrom (t + 1) lines → levels_after before lines t ≡ before
not_yet before t [] rise = refl
not_yet before t (line ∷ lines) rise =
    ap (λ (is : Bool). if is then levels_after line.levels lines t else before) (if_later line.clock t (omega (arith, rise.0)))

behind : (before t : ℕ) (line : Line) (lines : List Line) → line.clock ≤ t → levels_after before (line ∷ lines) t ≡ levels_after line.levels lines t
behind before t line lines le = ap (λ (is : Bool). if is then levels_after line.levels lines t else before) (if_le line.clock t le)

-- a clock at which nothing changes adds nothing
still : (pins : ℕ → ℕ) (before clock count : ℕ) (out : List Line) → pins clock ≡ before → changes_from pins before (clock + 1) count ≡ out → changes_from pins before clock (suc count) ≡ out
still pins before clock count out same rest =
    ap (λ (is : Bool). (if is then [] else record { clock = clock; levels = pins clock } ∷ []) ++ changes_from pins (pins clock) (clock + 1) count) (if_same (pins clock) before same)
    ∙ ap (λ (level : ℕ). changes_from pins level (clock + 1) count) same ∙ rest

choice : (same : Bool) (line : Line) → (if same then [] else line ∷ []) ≡ (if true && not same then line ∷ [] else [])
choice true line = refl
choice false line = refl

-- at a clock before the first change
before_change : (count clock end before : ℕ) (line : Line) (lines : List Line) (pins : ℕ → ℕ) → RiseFrom clock (line ∷ lines) → clock < line.clock
    → pins clock ≡ levels_after before (line ∷ lines) clock
    → changes_from pins before (clock + 1) count ≡ kept before end (line ∷ lines)
    → changes_from pins before clock (suc count) ≡ kept before end (line ∷ lines)
before_change count clock end before line lines pins rise later is rest =
    still pins before clock count _ (is ∙ not_yet before clock (line ∷ lines) (omega (arith, later), rise.1)) rest

-- at the clock of the first change
at_change : (count clock end before : ℕ) (line : Line) (lines : List Line) (pins : ℕ → ℕ) → RiseFrom (line.clock + 1) lines → line.clock ≡ clock → clock < end
    → pins clock ≡ levels_after before (line ∷ lines) clock
    → changes_from pins line.levels (clock + 1) count ≡ kept line.levels end lines
    → changes_from pins before clock (suc count) ≡ kept before end (line ∷ lines)
at_change count clock end before line lines pins rise here inside is rest =
    let rise_on : RiseFrom (clock + 1) lines = subst (λ (c : ℕ). RiseFrom (c + 1) lines) here rise in
    let level : pins clock ≡ line.levels =
    is ∙ behind before clock line lines (omega (arith, here)) ∙ not_yet line.levels clock lines rise_on in
    ap (λ (level : ℕ). (if level == before then [] else record { clock = clock; levels = level } ∷ []) ++ changes_from pins level (clock + 1) count) level
    ∙ ap (λ (c : ℕ). (if line.levels == before then [] else record { clock = c; levels = line.levels } ∷ []) ++ changes_from pins line.levels (clock + 1) count) (sym here)
    ∙ ap (λ (tail : List Line). (if line.levels == before then [] else line ∷ []) ++ tail) rest
    ∙ ap (λ (first : List Line). first ++ kept line.levels end lines) (choice (line.levels == before) line)
    ∙ ap (λ (is : Bool). (if is && not (line.levels == before) then line ∷ [] else []) ++ kept line.levels end lines)
    (sym (if_before line.clock end (omega (arith, here, inside))))

-- the changes by clocks of pins that some changes leave
walked : (count clock end before : ℕ) (lines : List Line) (pins : ℕ → ℕ) → clock + count ≡ end → RiseFrom clock lines
    → ((t : ℕ) → clock ≤ t → pins t ≡ levels_after before lines t)
    → changes_from pins before clock count ≡ kept before end lines
walked zero clock end before lines pins ends rise are = sym (late before end lines (earlier end clock lines (omega (arith, ends)) rise))
walked (suc count) clock end before [] pins ends rise are =
    still pins before clock count [] (are clock (omega arith))
    (walked count (clock + 1) end before [] pins (omega (arith, ends)) tt (λ t le. are t (omega (arith, le))))
walked (suc count) clock end before (line ∷ lines) pins ends rise are =
    by_order (walked count (clock + 1) end before (line ∷ lines) pins (omega (arith, ends))) (walked count (clock + 1) end line.levels lines pins (omega (arith, ends)))
    (cases_lt clock line.clock)
  where
    by_order : (RiseFrom (clock + 1) (line ∷ lines) → ((t : ℕ) → clock + 1 ≤ t → pins t ≡ levels_after before (line ∷ lines) t)
        → changes_from pins before (clock + 1) count ≡ kept before end (line ∷ lines))
        → (RiseFrom (clock + 1) lines → ((t : ℕ) → clock + 1 ≤ t → pins t ≡ levels_after line.levels lines t)
        → changes_from pins line.levels (clock + 1) count ≡ kept line.levels end lines)
        → (clock < line.clock) ⊎ (line.clock ≤ clock) → changes_from pins before clock (suc count) ≡ kept before end (line ∷ lines)
    by_order same next (inl later) =
        before_change count clock end before line lines pins rise later (are clock (omega arith))
        (same (omega (arith, later), rise.1) (λ t le. are t (omega (arith, le))))
    by_order same next (inr now) =
        let here : line.clock ≡ clock = omega (arith, now, rise.0) in
        at_change count clock end before line lines pins rise.1 here (omega (arith, ends)) (are clock (omega arith))
        (next (subst (λ (c : ℕ). RiseFrom (c + 1) lines) here rise.1)
        (λ t le. are t (omega (arith, le)) ∙ behind before t line lines (omega (arith, le, now))))

-- of changes that rise those are kept that the pins have by clocks
pub all_kept : (end : ℕ) (lines : List Line) → RiseFrom 0 lines → kept 0 end lines ≡ changes_by (level_at lines) end
all_kept end lines rise = sym (walked end 0 end 0 lines (level_at lines) (omega arith) rise (λ t le. refl))
