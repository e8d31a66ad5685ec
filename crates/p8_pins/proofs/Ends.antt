-- Where a run ends.
use Rattle.std.proofs.Common.{◌≡◌, ◌∙◌, ap, sym, refl, ℕ, ◌==◌, if◌then◌else◌, List, [], ◌∷◌, ◌++◌, length, reverse, arith}
use Rattle.std.proofs.lemmas.List.{reverse-append, length-reverse}
use Rattle.std.proofs.lemmas.Bool.Decides.{nat_tests}
use Rattle.p8_access.specs.declared.order.Turn.{Turn}
use Rattle.p8_access.specs.Worlds.{World}
use Rattle.p8_pins.specs.Levels.{end_of, last_clock}

if-other : (a b x y : ℕ) → (a ≡ b → ⊥) → (if a == b then x else y) ≡ y
if-other a b x y h = grind (arith, nat_tests)

if-equal : (a b x y : ℕ) → a ≡ b → (if a == b then x else y) ≡ x
if-equal a b x y h = grind (arith, nat_tests)

module _ (w : World) (turns : List Turn) (limit : ℕ) (most : w.turns ≡ limit) where
  so-many : length (reverse turns) ≡ length turns
  so-many = length-reverse turns

  pub end-clocks : (clocks : ℕ) → w.clocks ≡ clocks → (length turns ≡ limit → ⊥) → clocks ≡ end_of w (reverse turns)
  unfolding end_of
  end-clocks clocks is fewer = sym (if-other (length (reverse turns)) w.turns _ w.clocks (λ e. fewer (sym so-many ∙ e ∙ most)) ∙ is)

  pub end-turns : length turns ≡ limit → last_clock (reverse turns) ≡ end_of w (reverse turns)
  unfolding end_of
  end-turns all = sym (if-equal (length (reverse turns)) w.turns (last_clock (reverse turns)) w.clocks (so-many ∙ all ∙ sym most))

pub last-of : (turns rest : List Turn) (turn : Turn) → turns ≡ rest ++ turn ∷ [] → turn.key.clock ≡ last_clock (reverse turns)
last-of turns rest turn is = sym (ap (λ (ts : List Turn). last_clock (reverse ts)) is ∙ ap last_clock (reverse-append rest (turn ∷ [])))

pub last-none : (turns : List Turn) → length turns ≡ 0 → 0 ≡ last_clock (reverse turns)
last-none [] none = refl
last-none (turn ∷ turns) none = absurd (omega (arith, none))
