-- Lemmas on rows of places whose first ones hold values.
use Rattle.std.proofs.Common.{◌≡◌, ℕ, zero, suc, ◌+◌, ◌<◌, ◌≤◌, List, [], ◌∷◌, ◌++◌, map, length, take, set, Option, Some, None, refl, ap, ◌∙◌, arith, length-append, length-take}
use Rattle.p8_region.specs.Places.{somes, IsFilled}

module _ {X : Type 0} where
  pub somes_map : (xs : List X) → somes (map Some xs) ≡ xs
  somes_map [] = refl
  somes_map (x ∷ xs) = ap (λ l. x ∷ l) (somes_map xs)

  few_somes : (cs : List (Option X)) → length (somes cs) ≤ length cs
  few_somes [] = omega arith
  few_somes (None ∷ cs) = omega (arith, few_somes cs)
  few_somes (Some x ∷ cs) = omega (arith, few_somes cs)

  all_somes : (cs : List (Option X)) → length (somes cs) ≡ length cs → cs ≡ map Some (somes cs)
  all_somes [] e = refl
  all_somes (None ∷ cs) e = absurd (omega (arith, few_somes cs))
  all_somes (Some x ∷ cs) e = ap (λ l. Some x ∷ l) (all_somes cs (omega arith))

  -- the first n places hold values where there are as many
  pub front_filled : (cs : List (Option X)) (n : ℕ) → n ≤ length cs → length (somes (take n cs)) ≡ n → take n cs ≡ map Some (somes (take n cs))
  front_filled cs n le e = all_somes (take n cs) (omega (arith, length-take n cs))

  pub filled : (cs : List (Option X)) (n : ℕ) → n ≤ length cs → length (somes (take n cs)) ≡ n → IsFilled cs n
  filled cs n le e = (somes (take n cs), e, front_filled cs n le e)

  -- a value after the first n is one more
  pub somes-pushed : (cs : List (Option X)) (n : ℕ) (x : X) → n < length cs → somes (take (suc n) (set cs n (Some x))) ≡ somes (take n cs) ++ x ∷ []
  somes-pushed [] n x lt = absurd (omega arith)
  somes-pushed (c ∷ cs) zero x lt = refl
  somes-pushed (None ∷ cs) (suc n) x lt = somes-pushed cs n x (omega arith)
  somes-pushed (Some y ∷ cs) (suc n) x lt = ap (λ l. y ∷ l) (somes-pushed cs n x (omega arith))

  pub pushed : (cs ds : List (Option X)) (n : ℕ) (x : X) → n < length cs → ds ≡ set cs n (Some x) → somes (take (n + 1) ds) ≡ somes (take n cs) ++ x ∷ []
  pushed cs ds n x lt is = let more : n + 1 ≡ suc n = omega arith in (λ i. somes (take (more i) (is i))) ∙ somes-pushed cs n x lt

  pub length-pushed : (cs ds : List (Option X)) (n : ℕ) (x : X) → n < length cs → length (somes (take n cs)) ≡ n → ds ≡ set cs n (Some x) → length (somes (take (n + 1) ds)) ≡ n + 1
  length-pushed cs ds n x lt e is = ap length (pushed cs ds n x lt is) ∙ omega (arith, length-append (somes (take n cs)) (x ∷ []))

  -- a value over the i-th of the first n
  pub somes-set : (cs : List (Option X)) (n i : ℕ) (x : X) → n ≤ length cs → length (somes (take n cs)) ≡ n → i < n → somes (take n (set cs i (Some x))) ≡ set (somes (take n cs)) i x
  somes-set cs zero i x le e lt = absurd (omega arith)
  somes-set [] (suc n) i x le e lt = absurd (omega arith)
  somes-set (None ∷ cs) (suc n) i x le e lt = absurd (omega (arith, few_somes (take n cs), length-take n cs))
  somes-set (Some y ∷ cs) (suc n) zero x le e lt = refl
  somes-set (Some y ∷ cs) (suc n) (suc i) x le e lt = ap (λ l. y ∷ l) (somes-set cs n i x (omega arith) (omega arith) (omega arith))
