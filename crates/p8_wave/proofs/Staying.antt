-- A pin along the changes of a run, from one clock to another.
use Rattle.std.proofs.Common.{◌≡◌, ◌∙◌, ap, sym, refl, ℕ, zero, suc, ◌+◌, ◌-◌, ◌<◌, ◌≤◌, ◌&&◌, inl, inr, Bool, true, false, not, List, [], ◌∷◌, length, arith}
use Rattle.std.specs.List.{list_all, range_with_len}
use Rattle.std.proofs.lemmas.Bool.{cases_lt, and_parts, and_cases, and_from, and_left, and_right, cond-true, cond-false}
use Rattle.std.proofs.lemmas.Bool.Decides.{nat_tests}
use Rattle.p8_access.specs.Worlds.{Line, levels_after}
use Rattle.p8_pins.specs.declared.change.Change.{Change}
use Rattle.p8_pins.specs.Levels.{is_high}
use Rattle.p8_pins.specs.LevelChanges.{line_of, lines_of, Ahead, RiseFrom, IsLater, HasPassed}
use Rattle.p8_pins.proofs.Passing.{passes, waits, stays as settled, rise-later, passed-agrees, passed-rise}
use Rattle.p8_wave.specs.declared.grid.Column.{Column}
use Rattle.p8_wave.specs.declared.pin_level.PinLevel.TheVariants.{Low, High, Changing}
use Rattle.p8_wave.specs.Plot.{clocks_of, mark_of}
use Rattle.p8_wave.specs.Tracing.{same, stays, IsFrom}

module _ (pin : ℕ) (high : Bool) (clock : ℕ) where
  stays-passed : (line : Line) (lines : List Line) → line.clock ≤ clock → stays pin high clock (line ∷ lines) ≡ (same high (is_high pin line.levels) && stays pin high clock lines)
  stays-passed line lines h = grind (arith, nat_tests)

  stays-later : (line : Line) (lines : List Line) → clock < line.clock → stays pin high clock (line ∷ lines) ≡ true
  stays-later line lines h = grind (arith, nat_tests)

  and-both : (a b c : Bool) → ((a && b) && c) ≡ (a && (b && c))
  and-both true b c = refl
  and-both false b c = refl

  and-true : (a : Bool) → a ≡ (a && true)
  and-true true = refl
  and-true false = refl

  -- along the changes: one more is passed, or the next is later, or there is none
  module _ (stayed all : Bool) (changes : List Change) (so_far : (stayed && stays pin high clock (lines_of changes)) ≡ all) where
    pub goes-on : (next : Change) (rest : List Change) (now : Bool) → changes ≡ next ∷ rest → next.clock ≤ clock → now ≡ same high (is_high pin next.pins) → ((stayed && now) && stays pin high clock (lines_of rest)) ≡ all
    goes-on next rest now is h told =
        and-both stayed now (stays pin high clock (lines_of rest))
        ∙ ap (λ (b : Bool). stayed && (b && stays pin high clock (lines_of rest))) told
        ∙ ap (λ (b : Bool). stayed && b) (sym (stays-passed (line_of next) (lines_of rest) h))
        ∙ ap (λ (cs : List Change). stayed && stays pin high clock (lines_of cs)) (sym is)
        ∙ so_far

    pub ends-later : (next : Change) (rest : List Change) → changes ≡ next ∷ rest → clock < next.clock → stayed ≡ all
    ends-later next rest is h =
        and-true stayed
        ∙ ap (λ (b : Bool). stayed && b) (sym (stays-later (line_of next) (lines_of rest) h))
        ∙ ap (λ (cs : List Change). stayed && stays pin high clock (lines_of cs)) (sym is)
        ∙ so_far

    pub ends-last : length changes ≡ 0 → stayed ≡ all
    ends-last none = and-true stayed ∙ ap (λ (b : Bool). stayed && b) (sym (none-left changes none)) ∙ so_far
      where
        none-left : (cs : List Change) → length cs ≡ 0 → stays pin high clock (lines_of cs) ≡ true
        none-left [] none = refl
        none-left (c ∷ cs) none = absurd (omega (arith, none))

  same-true : (a b : Bool) → same a b ≡ true → b ≡ a
  same-true true b e = e
  same-true false true e = sym e
  same-true false false e = refl

  same-false : (a b : Bool) → same a b ≡ false → b ≡ not a
  same-false true b e = e
  same-false false true e = refl
  same-false false false e = sym e

  -- where the pin stays, it is so at each clock, and else it is not at some clock
  stays-all : (pins : ℕ) (lines : List Line) → is_high pin pins ≡ high → stays pin high clock lines ≡ true → (t : ℕ) → t ≤ clock → is_high pin (levels_after pins lines t) ≡ high
  stays-all pins [] is all t le = is
  stays-all pins (line ∷ lines) is all t le = elim (cases_lt t line.clock) [
    | inl before ↦ ap (is_high pin) (waits pins t line lines before) ∙ is
    | inr here ↦
        let parts = and_parts (same high (is_high pin line.levels)) (stays pin high clock lines) (sym (stays-passed line lines (omega (arith, here, le))) ∙ all) in
        ap (is_high pin) (passes pins t line lines here) ∙ stays-all line.levels lines (same-true high (is_high pin line.levels) parts.0) parts.1 t le
  ]

  pub record Differs (from pins : ℕ) (lines : List Line) : Type 0 where
    pub at : ℕ
    pub not_before : from ≤ at
    pub within : at ≤ clock
    pub level : is_high pin (levels_after pins lines at) ≡ not high

  stays-not : (from pins : ℕ) (lines : List Line) → RiseFrom from lines → stays pin high clock lines ≡ false → Differs from pins lines
  stays-not from pins [] rise e = absurd (cc)
  stays-not from pins (line ∷ lines) rise e = elim (cases_lt clock line.clock) [
    | inl later ↦ let at = stays-later line lines later in absurd (cc)
    | inr here ↦ elim (and_cases (same high (is_high pin line.levels)) (stays pin high clock lines) (sym (stays-passed line lines here) ∙ e)) [
      | inl differs ↦ record {
        at = line.clock;
        not_before = rise.0;
        within = here;
        level = ap (is_high pin) (passes pins line.clock line lines (omega arith) ∙ still lines rise.1) ∙ same-false high (is_high pin line.levels) differs;
      }
      | inr more ↦
          let d = stays-not (line.clock + 1) line.levels lines rise.1 more in
          record {
            at = d.at;
            not_before = omega (arith, d.not_before, rise.0);
            within = d.within;
            level = ap (is_high pin) (passes pins d.at line lines (omega (arith, d.not_before))) ∙ d.level;
          }
    ]
  ]
    where
      still : (ls : List Line) → RiseFrom (line.clock + 1) ls → levels_after line.levels ls line.clock ≡ line.levels
      still [] r = refl
      still (l ∷ ls) r = waits line.levels line.clock l ls (omega (arith, r.0))

-- the test of a list of clocks, one after the other
all-of : (test : ℕ → Bool) (from n : ℕ) → ((t : ℕ) → from ≤ t → t < from + n → test t ≡ true) → list_all test (range_with_len from n) ≡ true
all-of test from zero each = refl
all-of test from (suc n) each =
    and_from (test from) (list_all test (range_with_len (from + 1) n)) (each from (omega arith) (omega arith)) (all-of test (from + 1) n (λ t le lt. each t (omega (arith, le)) (omega (arith, lt))))

not-all : (test : ℕ → Bool) (from n t : ℕ) → from ≤ t → t < from + n → test t ≡ false → list_all test (range_with_len from n) ≡ false
not-all test from zero t le lt fails = absurd (omega (arith, le, lt))
not-all test from (suc n) t le lt fails = elim (cases_lt from t) [
  | inl later ↦ and_right (test from) (list_all test (range_with_len (from + 1) n)) (not-all test (from + 1) n t (omega (arith, later)) (omega (arith, lt)) fails)
  | inr here ↦ and_left (test from) (list_all test (range_with_len (from + 1) n)) (ap test (omega (arith, here, le)) ∙ fails)
]

-- the mark of a column
module _ (whole : ℕ → Bool) (column : Column) (clocks : column.first < column.end) where
  abbrev Within : ℕ → Type 0
  Within t = (column.first ≤ t) × (t < column.end)

  high-fails : (t : ℕ) → Within t → whole t ≡ false → list_all whole (clocks_of column) ≡ false
  high-fails t within is = not-all whole column.first (column.end - column.first) t within.0 (omega (arith, within.1)) is

  low-fails : (t : ℕ) → Within t → whole t ≡ true → list_all (λ u. not (whole u)) (clocks_of column) ≡ false
  low-fails t within is = not-all (λ u. not (whole u)) column.first (column.end - column.first) t within.0 (omega (arith, within.1)) (ap not is)

  mark-high : ((t : ℕ) → Within t → whole t ≡ true) → High ≡ mark_of whole column
  mark-high each =
      sym (cond-true (list_all whole (clocks_of column)) High _ (all-of whole column.first (column.end - column.first) (λ t le lt. each t (le, omega (arith, lt)))))

  mark-low : ((t : ℕ) → Within t → whole t ≡ false) → Low ≡ mark_of whole column
  mark-low each =
      sym (
      cond-false (list_all whole (clocks_of column)) High _ (high-fails column.first (omega arith, clocks) (each column.first (omega arith, clocks)))
      ∙ cond-true (list_all (λ t. not (whole t)) (clocks_of column)) Low Changing
      (all-of (λ t. not (whole t)) column.first (column.end - column.first) (λ t le lt. ap not (each t (le, omega (arith, lt)))))
      )

  mark-changing : (t u : ℕ) → Within t → Within u → whole t ≡ false → whole u ≡ true → Changing ≡ mark_of whole column
  mark-changing t u at_t at_u low high =
      sym (
      cond-false (list_all whole (clocks_of column)) High _ (high-fails t at_t low)
      ∙ cond-false (list_all (λ v. not (whole v)) (clocks_of column)) Low Changing (low-fails u at_u high)
      )

  mark-differs : (t u : ℕ) (high : Bool) → Within t → Within u → whole t ≡ high → whole u ≡ not high → Changing ≡ mark_of whole column
  mark-differs t u true at_t at_u is other = mark-changing u t at_u at_t other is
  mark-differs t u false at_t at_u is other = mark-changing t u at_t at_u is other

-- a trace goes on
goes-to : (whole : ℕ → Bool) (pin from clock : ℕ) (old new : Ahead) → from ≤ clock → IsFrom whole pin from old → HasPassed clock old new → IsFrom whole pin clock new
goes-to whole pin from clock old new le at passed = record {
  levels = λ t h. ap (is_high pin) (passed-agrees clock t old new passed h) ∙ at.levels t (omega (arith, h, le));
  rise = passed-rise clock old new passed at.rise;
}

module _ (pin : ℕ) (column : Column) (clocks : column.first < column.end) (old mid new : Ahead)
    (first : HasPassed column.first old mid) (later : IsLater column.first mid.changes) (last : HasPassed (column.end - 1) mid new)
    (whole : ℕ → Bool) (from : ℕ) (le : from ≤ column.first) (at : IsFrom whole pin from old) where
  at-first : IsFrom whole pin column.first mid
  at-first = goes-to whole pin from column.first old mid le at first

  pub after-column : IsFrom whole pin column.end new
  after-column =
      let at_last : IsFrom whole pin (column.end - 1) new = goes-to whole pin column.first (column.end - 1) mid new (omega (arith, clocks)) at-first last in
      record { levels = λ t h. at_last.levels t (omega (arith, h)); rise = at_last.rise }

  level-first : whole column.first ≡ is_high pin mid.pins
  level-first = sym (at-first.levels column.first (omega arith)) ∙ ap (is_high pin) (settled mid.pins column.first mid.changes later)

  each-level : (stayed : stays pin (is_high pin mid.pins) (column.end - 1) mid.changes ≡ true) (t : ℕ) → (column.first ≤ t) × (t < column.end) → whole t ≡ is_high pin mid.pins
  each-level stayed t within = sym (at-first.levels t within.0) ∙ stays-all pin (is_high pin mid.pins) (column.end - 1) mid.pins mid.changes refl stayed t (omega (arith, within.1))

  module _ (high stayed : Bool) (is : high ≡ is_high pin mid.pins) (told : stayed ≡ stays pin (is_high pin mid.pins) (column.end - 1) mid.changes) where
    pub shows-high : stayed ≡ true → high ≡ true → High ≡ mark_of whole column
    shows-high so up = mark-high whole column clocks (λ t within. each-level (sym told ∙ so) t within ∙ sym is ∙ up)

    pub shows-low : stayed ≡ true → high ≡ false → Low ≡ mark_of whole column
    shows-low so down = mark-low whole column clocks (λ t within. each-level (sym told ∙ so) t within ∙ sym is ∙ down)

    pub shows-changing : stayed ≡ false → Changing ≡ mark_of whole column
    shows-changing so =
        let d = stays-not pin (is_high pin mid.pins) (column.end - 1) (column.first + 1) mid.pins mid.changes (rise-later column.first mid.changes later at-first.rise) (sym told ∙ so) in
        mark-differs whole column clocks column.first d.at (is_high pin mid.pins) (omega arith, clocks) (omega (arith, d.not_before), omega (arith, d.within, clocks)) level-first
        (sym (at-first.levels d.at (omega (arith, d.not_before))) ∙ d.level)
