-- A walk over the lines of a script, up to the first at which a test of pins holds.
use Rattle.std.proofs.Common.{◌≡◌, ◌∙◌, ap, sym, subst, ℕ, suc, ◌+◌, ◌<◌, ◌≤◌, inl, inr, List, length, arith}
use Rattle.std.specs.List.Sorted.{IsStrictlyIncreasing}
use Rattle.std.proofs.lemmas.Bool.{cases_lt}
use Rattle.p8_access.specs.declared.kinds.Test.{Test}
use Rattle.p8_access.specs.declared.kinds.Test.TheVariants.{Count, PinsEqual, PinsDiffer}
use Rattle.p8_access.specs.Worlds.{Line, level_at}
use Rattle.p8_access.specs.Pins.{pins_with, Holds}
use Rattle.p8_pins.specs.declared.line_text.Change.{Change}
use Rattle.p8_pins.specs.Scripts.{clocks_of}
use Rattle.p8_pins.specs.Matches.{HoldsAt}
use Rattle.p8_pins.specs.Changes.{clock_of, levels_by, IsOfPins}
use Rattle.p8_pins.proofs.Rising.{clock_of-lt, clock_of-le}
use Rattle.p8_pins.proofs.Levels.{SplitsAt, IsKeptAt, levels_after-is, level_at-is}

-- a test of pins doesn't look at the clock
holds-at_any : (test : Test) (pins u v : ℕ) → IsOfPins test → Holds test pins u → Holds test pins v
holds-at_any (Count target) pins u v of h = absurd of
holds-at_any (PinsEqual state mask) pins u v of h = h
holds-at_any (PinsDiffer state mask) pins u v of h = h

-- no clock from a clock on up to the line at a place matches
pub record IsClear (lines : List Line) (directions outs : ℕ) (test : Test) (from n : ℕ) : Type 0 where
  pub none : (u : ℕ) → from ≤ u → (n < length lines → u < clock_of lines n) → HoldsAt lines directions outs test u → ⊥

module _ (lines : List Line) (directions outs : ℕ) (test : Test) (of : IsOfPins test) where
  -- what holds at one clock with the levels of another
  moved : (u v n : ℕ) → level_at lines u ≡ levels_by 0 lines n → HoldsAt lines directions outs test u → Holds test (pins_with directions outs (levels_by 0 lines n)) v
  moved u v n same h = holds-at_any test _ u v of (subst (λ levels. Holds test (pins_with directions outs levels) u) same h)

  -- the pins as the code has them
  to_pins : (u n levels pins : ℕ) → levels ≡ levels_by 0 lines n → pins ≡ pins_with directions outs levels → Holds test (pins_with directions outs (levels_by 0 lines n)) u → Holds test pins u
  to_pins u n levels pins same is h = subst (λ p. Holds test p u) (ap (pins_with directions outs) (sym same) ∙ sym is) h

  from_pins : (u n levels pins : ℕ) → levels ≡ levels_by 0 lines n → pins ≡ pins_with directions outs levels → Holds test pins u → Holds test (pins_with directions outs (levels_by 0 lines n)) u
  from_pins u n levels pins same is h = subst (λ p. Holds test p u) (is ∙ ap (pins_with directions outs) same) h

  -- the test holds at the clock where the walk begins
  pub holds-first : (from n levels pins : ℕ) → SplitsAt lines n from → levels ≡ levels_by 0 lines n → pins ≡ pins_with directions outs levels → Holds test pins from → HoldsAt lines directions outs test from
  holds-first from n levels pins s same is h =
      subst (λ l. Holds test (pins_with directions outs l) from) (sym (level_at-is lines n from s)) (from_pins from n levels pins same is h)

  -- it doesn't, and so at no clock before the next line
  pub clear-first : (from n levels pins : ℕ) → SplitsAt lines n from → levels ≡ levels_by 0 lines n → pins ≡ pins_with directions outs levels → (Holds test pins from → ⊥) → IsClear lines directions outs test from n
  clear-first from n levels pins s same is not = record {
    none = λ u le below holds.
        not (to_pins from n levels pins same is (moved u from n (levels_after-is 0 lines n u s.within (λ k h. omega (arith, s.before k h)) below) holds));
  }

  module _ (rising : IsStrictlyIncreasing (clocks_of lines)) (n : ℕ) (change : Change) (kept : IsKeptAt lines n change) where
    here : level_at lines change.clock ≡ levels_by 0 lines (suc n)
    here =
        levels_after-is 0 lines (suc n) change.clock kept.inside
        (λ k m. omega (arith, clock_of-le lines k n rising (omega arith) kept.inside, kept.clock))
        (λ more. omega (arith, clock_of-lt lines n (suc n) rising (omega arith) more, kept.clock))

    -- the test doesn't hold with the levels of one more line
    pub clear-more : (from pins : ℕ) → IsClear lines directions outs test from n → pins ≡ pins_with directions outs change.levels → (Holds test pins change.clock → ⊥) → IsClear lines directions outs test from (n + 1)
    clear-more from pins clear is not = subst (IsClear lines directions outs test from) next (record {
      none = λ u le below holds.
          elim (cases_lt u (clock_of lines n)) [
            | inl before ↦ clear.none u le (λ _. before) holds
            | inr later ↦
                not (to_pins change.clock (suc n) change.levels pins kept.levels is
                (moved u change.clock (suc n)
                (levels_after-is 0 lines (suc n) u kept.inside (λ k m. omega (arith, clock_of-le lines k n rising (omega arith) kept.inside)) below)
                holds))
          ];
    })
      where
        next : suc n ≡ n + 1
        next = omega arith

    -- it does
    pub holds-here : (pins : ℕ) → pins ≡ pins_with directions outs change.levels → Holds test pins change.clock → HoldsAt lines directions outs test change.clock
    holds-here pins is h =
        subst (λ l. Holds test (pins_with directions outs l) change.clock) (sym here) (from_pins change.clock (suc n) change.levels pins kept.levels is h)

    -- and at no earlier clock
    pub least-here : (from u : ℕ) → IsClear lines directions outs test from n → from ≤ u → HoldsAt lines directions outs test u → change.clock ≤ u
    least-here from u clear le holds =
        elim (cases_lt u (clock_of lines n)) [
          | inl before ↦ absurd (clear.none u le (λ _. before) holds)
          | inr later ↦ omega (arith, kept.clock)
        ]
