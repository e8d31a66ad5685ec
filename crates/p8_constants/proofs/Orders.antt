-- Places that are sorted, and their nodes.
use Rattle.std.proofs.Common.{◌≡◌, ◌⊎◌, ◌↔◌, inl, inr, ℕ, zero, suc, ◌+◌, ◌<◌, ◌≤◌, false, List, length, map, get_or, sym, ap, ◌∙◌, subst, arith, add-one}
use Rattle.std.specs.Prelude.{Contains}
use Rattle.std.specs.Ordering.{ordering_then, is_lt, nat_cmp}
use Rattle.std.specs.List.Sorted.{IsSorted, IsPermutation}
use Rattle.std.proofs.lemmas.Bool.{cases_eq}
use Rattle.std.proofs.lemmas.Bool.Decides.{nat_tests}
use Rattle.std.proofs.lemmas.List.{length-map, get_or-map, get_or_default}
use Rattle.std.proofs.lemmas.List.Elements.{Contains-get_or}
use Rattle.std.proofs.lemmas.List.Sorted.{Contains-permutation, IsPermutation-sym, length_permutation}
use Rattle.p8_constants.specs.Orders.{ComesNoLater, pair_at}

abbrev Before : ℕ × ℕ → ℕ × ℕ → Type 0
Before x y = (x.0 < y.0) ⊎ ((x.0 ≡ y.0) × (x.1 ≤ y.1))

by_tests : (a b x y : ℕ) → is_lt (ordering_then (nat_cmp a x) (nat_cmp b y)) ≡ false → (x < a) ⊎ ((x ≡ a) × (y ≤ b))
by_tests a b x y e = grind (arith, nat_tests)

before_itself : (x y : ℕ × ℕ) → x ≡ y → Before x y
before_itself x y e = inr (ap (λ p. p.0) e, omega (arith, ap (λ p. p.1) e))

before_both : (x y z : ℕ × ℕ) → Before x y → Before y z → Before x z
before_both x y z (inl a) (inl b) = inl (omega arith)
before_both x y z (inl a) (inr b) = inl (omega (arith, b.0))
before_both x y z (inr a) (inl b) = inl (omega (arith, a.0))
before_both x y z (inr a) (inr b) = inr (a.0 ∙ b.0, omega (arith, a.1, b.1))

sorted_pairs : (xs : List (ℕ × ℕ)) → IsSorted (λ x y. ordering_then (nat_cmp x.0 y.0) (nat_cmp x.1 y.1)) xs → (i j : ℕ) → i ≤ j → j < length xs → Before (pair_at xs i) (pair_at xs j)
sorted_pairs xs s i zero le lt = let same : i ≡ 0 = omega arith in before_itself (pair_at xs i) (pair_at xs 0) (ap (pair_at xs) same)
sorted_pairs xs s i (suc j) le lt = elim (cases_eq i (suc j)) [
  | inl same ↦ before_itself (pair_at xs i) (pair_at xs (suc j)) (ap (pair_at xs) same)
  | inr differs ↦
      let first = sorted_pairs xs s i j (omega arith) (omega arith) in
      let next : Before (pair_at xs j) (pair_at xs (j + 1)) = by_tests (pair_at xs (j + 1)).0 (pair_at xs (j + 1)).1 (pair_at xs j).0 (pair_at xs j).1 (s j (0, 0) (omega arith) (omega arith)) in
      before_both (pair_at xs i) (pair_at xs j) (pair_at xs (suc j)) first (subst (λ n. Before (pair_at xs j) (pair_at xs n)) (add-one j) next)
]

module _ (numbers : List ℕ) (places sorted : List (ℕ × ℕ)) (nodes : List ℕ) (size : length places ≡ length numbers) (each : (k : ℕ) → k < length numbers → pair_at places k ≡ (get_or numbers k 0, k)) (moved : IsPermutation places sorted) (nodes_are : nodes ≡ map (λ p. p.1) sorted) where
  count : length nodes ≡ length sorted
  count = ap length nodes_are ∙ length-map sorted (λ p. p.1)

  pub each_once : length nodes ≡ length numbers
  each_once = omega (arith, count, size, length_permutation places sorted moved)

  node_is : (i : ℕ) → i < length sorted → get_or nodes i 0 ≡ (pair_at sorted i).1
  node_is i lt = ap (λ ns. get_or ns i 0) nodes_are ∙ get_or-map (λ p. p.1) sorted i (0, 0) 0 lt

  place_of : (p : ℕ × ℕ) → Contains places p → (p.1 < length numbers) × (p.0 ≡ get_or numbers p.1 0)
  place_of p (k, lt, is) =
      let at : pair_at places k ≡ p = get_or_default places k (0, 0) p lt ∙ is in
      let pair : (get_or numbers k 0, k) ≡ p = sym (each k (omega arith)) ∙ at in
      let second : k ≡ p.1 = ap (λ q. q.1) pair in
      (omega (arith, size), sym (ap (λ q. q.0) pair) ∙ ap (λ n. get_or numbers n 0) second)

  sorted_place : (i : ℕ) → i < length sorted → ((pair_at sorted i).1 < length numbers) × ((pair_at sorted i).0 ≡ get_or numbers (pair_at sorted i).1 0)
  sorted_place i lt = place_of (pair_at sorted i) (Contains-permutation sorted places (pair_at sorted i) (IsPermutation-sym places sorted moved) (Contains-get_or sorted i (0, 0) lt))

  pub all_nodes : (a : ℕ) → Contains nodes a ↔ (a < length numbers)
  all_nodes a = (
    λ (i, lt, is).
        let within : i < length sorted = omega (arith, count) in
        let at : get_or nodes i 0 ≡ a = get_or_default nodes i 0 a lt ∙ is in
        omega (arith, (sorted_place i within).0, node_is i within),
    λ lt.
        let here : Contains places (get_or numbers a 0, a) = subst (Contains places) (each a lt) (Contains-get_or places a (0, 0) (omega (arith, size))) in
        let (i, within, is) = Contains-permutation places sorted (get_or numbers a 0, a) moved here in
        let at : pair_at sorted i ≡ (get_or numbers a 0, a) = get_or_default sorted i (0, 0) (get_or numbers a 0, a) within ∙ is in
        let node : get_or nodes i 0 ≡ a = node_is i within ∙ ap (λ p. p.1) at in
        subst (Contains nodes) node (Contains-get_or nodes i 0 (omega (arith, count))),
  )

  pub in_this_order : IsSorted (λ x y. ordering_then (nat_cmp x.0 y.0) (nat_cmp x.1 y.1)) sorted → (i j : ℕ) → i ≤ j → j < length nodes → ComesNoLater numbers (get_or nodes i 0) (get_or nodes j 0)
  in_this_order s i j le lt =
      let lj : j < length sorted = omega (arith, count) in
      let li : i < length sorted = omega arith in
      let ni = node_is i li in
      let nj = node_is j lj in
      let first : (pair_at sorted i).0 ≡ get_or numbers (get_or nodes i 0) 0 = (sorted_place i li).1 ∙ ap (λ n. get_or numbers n 0) (sym ni) in
      let second : (pair_at sorted j).0 ≡ get_or numbers (get_or nodes j 0) 0 = (sorted_place j lj).1 ∙ ap (λ n. get_or numbers n 0) (sym nj) in
      elim (sorted_pairs sorted s i j le lj) [
        | inl less ↦ inl (omega (arith, first, second))
        | inr same ↦ inr (sym first ∙ (same.0 ∙ second), omega (arith, ni, nj, same.1))
      ]
