-- A set of names with one name more.
use Rattle.std.proofs.Common.{◌≡◌, inl, inr, ℕ, List, [], ◌∷◌, ◌++◌, Some, refl, sym, subst, arith}
use Rattle.std.proofs.lemmas.Bool.{cases_Bool}
use Rattle.std.proofs.lemmas.List.Elements.{Contains-append_left, Contains-append_right, Contains-append_cases}
use Rattle.std.proofs.lemmas.Slice.Eq.{bytes_eq-Decides}
use Rattle.std.specs.Prelude.{Contains, IsTrue, is_some, ◌↔◌}
use Rattle.std.specs.Str.{bytes_eq}
use Rattle.std.specs.BTreeMap.{BTreeMap}
use Rattle.p8_fold.specs.ConstantEntries.{at_bytes}
use Rattle.p8_fold.proofs.Bytes.{Key}

one_name : (n m : List ℕ) → Contains (n ∷ []) m → m ≡ n
one_name n m (k, lt, is) = let first : k ≡ 0 = omega arith in sym (rw first at is)

itself : (n m : List ℕ) → m ≡ n → Contains (n ∷ []) m
itself n m e = (0, omega arith, sym e)

module _ {X : Type 0} (old new : BTreeMap Key X) (name : List ℕ) (x : X) (names : List (List ℕ)) (here : at_bytes name new ≡ Some x) (others : (n : List ℕ) → ¬ (n ≡ name) → at_bytes n new ≡ at_bytes n old) (each : (n : List ℕ) → IsTrue (is_some (at_bytes n old)) ↔ Contains names n) where
  -- it is there
  at_name : (n : List ℕ) → n ≡ name → IsTrue (is_some (at_bytes n new))
  at_name n e = subst (λ m. IsTrue (is_some (at_bytes m new))) (sym e) (subst (λ o. IsTrue (is_some o)) (sym here) refl)

  to_list : (n : List ℕ) → IsTrue (is_some (at_bytes n new)) → Contains (names ++ name ∷ []) n
  to_list n h =
      elim (cases_Bool (bytes_eq n name)) [
        | inl same ↦ Contains-append_right names (name ∷ []) n (itself name n ((bytes_eq-Decides n name).0 same))
        | inr apart ↦ Contains-append_left names (name ∷ []) n ((each n).0 (subst (λ o. IsTrue (is_some o)) (others n (λ e. let so = (bytes_eq-Decides n name).1 e in absurd cc)) h))
      ]

  from_list : (n : List ℕ) → Contains (names ++ name ∷ []) n → IsTrue (is_some (at_bytes n new))
  from_list n c =
      elim (cases_Bool (bytes_eq n name)) [
        | inl same ↦ at_name n ((bytes_eq-Decides n name).0 same)
        | inr apart ↦ elim (Contains-append_cases names (name ∷ []) n c) [
          | inl there ↦ subst (λ o. IsTrue (is_some o)) (sym (others n (λ e. let so = (bytes_eq-Decides n name).1 e in absurd cc))) ((each n).1 there)
          | inr is ↦ at_name n (one_name name n is)
        ]
      ]

  pub one_more : (n : List ℕ) → IsTrue (is_some (at_bytes n new)) ↔ Contains (names ++ name ∷ []) n
  one_more n = (to_list n, from_list n)
