-- Small files and their constants: one that uses itself, one before its line, a counter, a division by 0.
use Rattle.std.proofs.Common.{◌≡◌, inl, ℕ, false, true, List, [], ◌∷◌, Some, None, refl, sym, ap, subst, arith}
use Rattle.std.specs.Prelude.{codes, Contains}
use Rattle.std.proofs.Math.Logic.{⊎_elim}
use Rattle.p8_tree.specs.declared.places.Place.{Place}
use Rattle.p8_tree.specs.Expressions.{Tree, node, Number, Var, Binary, Named, no_index}
use Rattle.p8_tree.specs.Sources.{Constant, Source, Con}
use Rattle.p8_tree.specs.Faults.{fault}
use Rattle.p8_tree.specs.declared.refusal.Refusal.TheVariants.{NotConstant, ZeroDivisor}
use Rattle.p8_fold.specs.declared.meanings.Meaning.TheVariants as meaning_case
use Rattle.p8_fold.specs.Meanings.{Setting}
use Rattle.p8_constants.specs.Constants.{scope_of, Needs, itself, through, Means, circular, constant, IsRightFor, right, none, further, Has, has, IsConstantFault}
use Rattle.p8_constants.specs.Items.{Term, Sum, value_term}
use Rattle.p8_constants.specs.Mentions.{Mentions}

abbrev named : List ℕ → Place → Tree
named n p = node p (Var (Named n no_index p))

abbrev number : ℕ → Place → Tree
number v p = node p (Number v)

-- name = e
abbrev given : List ℕ → Place → Tree → Constant
given n p e = record { place = p; name = Some n; value = Some e; step = None; sets = false }

-- Q = Q
module _ (outside : Setting) (free : outside.name (codes "Q") ≡ None) (p q : Place) where
  abbrev circle : Source
  circle = Con (given (codes "Q") p (named (codes "Q") q) ∷ []) ∷ []

  circle_needs : Needs (scope_of outside circle) (codes "Q") (value_term 0 (named (codes "Q") q))
  circle_needs = itself free refl (0, omega arith, refl)

  abbrev nothing_constant : Setting
  nothing_constant = record outside { name = λ n. Some meaning_case.Other }

  circle_right : IsRightFor (scope_of outside circle) (value_term 0 (named (codes "Q") q)) nothing_constant
  circle_right =
      right (λ n m. ⊎_elim (λ same. subst (λ n. Means (scope_of outside circle) (value_term 0 (named (codes "Q") q)) n (Some meaning_case.Other)) (sym same) (circular circle_needs free)) (λ b. absurd b) m) (λ object name. refl) refl

  -- counts as 0, and is 12 at the name
  circle_value : Has (scope_of outside circle) (codes "Q") 0
  circle_value = has refl (further circle_right none)

  circle_fault : IsConstantFault outside circle (fault NotConstant q)
  circle_fault = record {
    expression = value_term 0 (named (codes "Q") q);
    stands = (0, omega arith, refl);
    setting = nothing_constant;
    right = circle_right;
    fault = inl refl;
  }

-- A = 1 / 0
module _ (outside : Setting) (p q : Place) where
  abbrev divided : Tree
  divided = node q (Binary 0xF6 (number 1 p) (number 0 p))

  division_fault : IsConstantFault outside (Con (given (codes "A") p divided ∷ []) ∷ []) (fault ZeroDivisor q)
  division_fault = record {
    expression = value_term 0 divided;
    stands = (0, omega arith, refl);
    setting = outside;
    right = right (λ n m. absurd (⊎_elim (λ b. b) (λ b. b) m)) (λ object name. refl) refl;
    fault = inl refl;
  }

-- #5, X, Y
module _ (outside : Setting) (p : Place) where
  abbrev bare : List ℕ → Constant
  bare n = record { place = p; name = Some n; value = None; step = None; sets = false }

  abbrev counted_file : Source
  counted_file = Con (record { place = p; name = None; value = Some (number 5 p); step = None; sets = true } ∷ bare (codes "X") ∷ bare (codes "Y") ∷ []) ∷ []

  counted_value : Has (scope_of outside counted_file) (codes "Y") 6
  counted_value = has refl (further (right {s = outside} (λ n m. absurd m) (λ object name. refl) refl) none)

one_term : (d e : Term) → Contains (d ∷ []) e → e ≡ d
one_term d e (k, lt, is) = let first : k ≡ 0 = omega arith in sym (rw first at is)

-- A = B, B = 7
module _ (outside : Setting) (free_a : outside.name (codes "A") ≡ None) (free_b : outside.name (codes "B") ≡ None) (p q : Place) where
  abbrev forward : Source
  forward = Con (given (codes "A") p (named (codes "B") q) ∷ given (codes "B") p (number 7 p) ∷ []) ∷ []

  number_right : IsRightFor (scope_of outside forward) (value_term 1 (number 7 p)) outside
  number_right = right (λ n m. absurd m) (λ object name. refl) refl

  seven : Has (scope_of outside forward) (codes "B") 7
  seven = has refl (further number_right none)

  -- the value of B needs its number alone
  only_number : (e : Term) → Needs (scope_of outside forward) (codes "B") e → e ≡ value_term 1 (number 7 p)
  only_number e (itself {sum = sum} free d term) =
      let written : Sum = record { whole = 0; terms = value_term 1 (number 7 p) ∷ [] } in
      let same : written ≡ sum = cc in
      one_term (value_term 1 (number 7 p)) e (subst (λ s. Contains s.terms e) (sym same) term)
  only_number e (through {m = m} {d = d} first mention second) = absurd (subst (λ d. Mentions d.tree m → ⊥) (sym (only_number d first)) (λ b. b) mention)

  -- so B is no name that needs the expression in which it stands, and A has its value
  not_circular : ¬ Needs (scope_of outside forward) (codes "B") (value_term 0 (named (codes "B") q))
  not_circular needs = let same : named (codes "B") q ≡ number 7 p = ap (λ d. d.tree) (only_number (value_term 0 (named (codes "B") q)) needs) in cc

  abbrev sevens : Setting
  sevens = record outside { name = λ n. Some (meaning_case.Value 7) }

  name_right : IsRightFor (scope_of outside forward) (value_term 0 (named (codes "B") q)) sevens
  name_right =
      right (λ n m. ⊎_elim (λ same. subst (λ n. Means (scope_of outside forward) (value_term 0 (named (codes "B") q)) n (Some (meaning_case.Value 7))) (sym same) (constant not_circular free_b seven)) (λ b. absurd b) m) (λ object name. refl) refl

  seven_too : Has (scope_of outside forward) (codes "A") 7
  seven_too = has refl (further name_right none)
