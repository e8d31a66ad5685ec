-- The numbers of texts, place by place.
use Rattle.std.proofs.Common.{◌≡◌, ℕ, ◌+◌, ◌≤◌, map, drop, Bool, true, false, if◌then◌else◌, List, ◌∷◌, length, Option, Some, None, inl, inr, refl, ap, sym, ◌∙◌, arith}
use Rattle.std.specs.Prelude.{is_some, ◌&&◌, ◌==◌}
use Rattle.std.specs.Option.{option_or}
use Rattle.std.specs.BTreeMap.{BTreeMap, Updates, is_at}
use Rattle.std.specs.Ordering.{nat_cmp, ordering_then, is_eq}
use Rattle.std.specs.Cmp.{unsigned_tied}
use Rattle.std.specs.declared.cmp.Ordering.{Ordering}
use Rattle.std.specs.declared.cmp.Ordering.TheVariants.{Less, Equal, Greater}
use Rattle.std.proofs.lemmas.Bool.{cases_Bool}
use Rattle.std.proofs.lemmas.Bool.Decides.{nat_tests}
use Rattle.p8_tree.specs.declared.places.Place.{Place}
use Rattle.p8_tree.specs.Faults.{is_same_place}
use Rattle.p8_tree.specs.Expressions.{Form}
use Rattle.p8_build.specs.declared.string_texts.StringText.{StringText}
use Rattle.p8_constants.proofs.Listed.{rest_is_empty}
use Rattle.p8_build.specs.Strings.{Texts}
use Rattle.p8_build.specs.Numbers.{text_of, place_cmp, at_place, number_in}

or_none : (o : Option ℕ) → o ≡ option_or o None
or_none None = refl
or_none (Some k) = refl

or_some : (o r : Option ℕ) → is_some o ≡ true → o ≡ option_or o r
or_some None r e = absurd cc
or_some (Some k) r e = refl

tied_then : (a b : Ordering) → is_eq (ordering_then a b) ≡ (is_eq a && is_eq b)
tied_then Less b = refl
tied_then Equal b = refl
tied_then Greater b = refl

both_same : (a b c d : Bool) → a ≡ c → b ≡ d → (a && b) ≡ (c && d)
both_same a b c d e f = ap (λ x. x && b) e ∙ ap (λ y. c && y) f

tied : (q p : Place) → is_at (place_cmp (q.line, q.column)) (p.line, p.column) ≡ is_same_place q p
tied q p =
    tied_then (nat_cmp q.line p.line) (nat_cmp q.column p.column)
    ∙ both_same (is_eq (nat_cmp q.line p.line)) (is_eq (nat_cmp q.column p.column)) (q.line == p.line) (q.column == p.column) (unsigned_tied q.line p.line) (unsigned_tied q.column p.column)

places_are : (q p : Place) → is_same_place q p ≡ true → q ≡ p
places_are q p e =
    let lines : q.line ≡ p.line = grind (arith, nat_tests) in
    let columns : q.column ≡ p.column = grind (arith, nat_tests) in
    λ i. record { line = lines i; column = columns i }

-- a place that has a number keeps it
pub entered_kept : (m : BTreeMap (ℕ × ℕ) ℕ) (q p : Place) (number : ℕ) → is_some (at_place q m) ≡ true → at_place p m ≡ option_or (at_place p m) (if is_same_place q p then Some number else None)
entered_kept m q p number there =
    elim (cases_Bool (is_same_place q p)) [
      | inl same ↦ or_some (at_place p m) _ (ap (λ x. is_some (at_place x m)) (sym (places_are q p same)) ∙ there)
      | inr apart ↦ or_none (at_place p m) ∙ ap (λ b. option_or (at_place p m) (if b then Some number else None)) (sym apart)
    ]

is_none : (o : Option ℕ) → is_some o ≡ false → o ≡ None
is_none None e = refl
is_none (Some k) e = absurd cc

-- a place that has none gets one
pub entered_new : (m n : BTreeMap (ℕ × ℕ) ℕ) (q p : Place) (number : ℕ) → Updates place_cmp m n (q.line, q.column) (Some number) → is_some (at_place q m) ≡ false → at_place p n ≡ option_or (at_place p m) (if is_same_place q p then Some number else None)
entered_new m n q p number h free =
    let now : at_place p n ≡ (if is_same_place q p then Some number else at_place p m) = h.0 (p.line, p.column) ∙ ap (λ b. if b then Some number else at_place p m) (tied q p) in
    elim (cases_Bool (is_same_place q p)) [
      | inl same ↦
          let none : at_place p m ≡ None = ap (λ x. at_place x m) (sym (places_are q p same)) ∙ is_none (at_place q m) free in
          now ∙ ap (λ b. if b then Some number else at_place p m) same ∙ sym (ap (λ b. option_or (at_place p m) (if b then Some number else None)) same ∙ ap (λ o. option_or o (Some number)) none)
      | inr apart ↦ now ∙ ap (λ b. if b then Some number else at_place p m) apart ∙ or_none (at_place p m) ∙ ap (λ b. option_or (at_place p m) (if b then Some number else None)) (sym apart)
    ]

-- one text more
pub number_more : (a b : Option ℕ) (i : ℕ) (x : Place × Form) (rest : Texts) (p : Place) → b ≡ option_or a (if is_same_place x.0 p then Some i else None) → option_or b (number_in (i + 1) rest p) ≡ option_or a (number_in i (x ∷ rest) p)
number_more a b i x rest p e = ap (λ o. option_or o (number_in (i + 1) rest p)) e ∙ by a (is_same_place x.0 p)
  where
    by : (o : Option ℕ) (same : Bool) → option_or (option_or o (if same then Some i else None)) (number_in (i + 1) rest p) ≡ option_or o (if same then Some i else number_in (i + 1) rest p)
    by None true = refl
    by None false = refl
    by (Some k) same = refl

-- no text is left
pub numbers_end : (a : Option ℕ) (k : ℕ) (ss : List StringText) (i : ℕ) (p : Place) (all : Option ℕ) → length ss ≤ i → option_or a (number_in k (map text_of (drop i ss)) p) ≡ all → a ≡ all
numbers_end a k ss i p all l h = or_none a ∙ ap (λ ys. option_or a (number_in k (map text_of ys) p)) (sym (rest_is_empty ss i l)) ∙ h
