-- The first of eight clocks.
use Rattle.std.proofs.Common.{◌≡◌, sym, subst, refl, ℕ, zero, suc, ◌+◌, ◌<◌, ◌≤◌, List, length, slice_index, slice_set, arith, inl, inr, ◌⊎◌, ap}
use Rattle.std.proofs.lemmas.List.{get_or-set_other}
use Rattle.std.proofs.lemmas.Grind.{get_or-set_at}
use Rattle.p8_access.specs.Windows.{Before}
use Rattle.p8_ledger.specs.Fronts.{IsFirstOf}

-- a number is below another or not
pub near-far : (n m : ℕ) → (n < m) ⊎ (m ≤ n)
near-far zero zero = inr (omega arith)
near-far zero (suc m) = inl (omega arith)
near-far (suc n) zero = inr (omega arith)
near-far (suc n) (suc m) = elim (near-far n m) [ inl l ↦ inl (omega arith) | inr l ↦ inr (omega arith) ]

-- what is below the next number is below, or the number itself
below-next : (n bound : ℕ) → n < bound + 1 → (n < bound) ⊎ (n ≡ bound)
below-next n bound below = elim (near-far n bound) [ inl l ↦ inl l | inr l ↦ inr (omega arith) ]

-- the first of the clocks of the cogs below a number
pub record IsFirstBelow (clocks : List ℕ) (bound clock cog : ℕ) : Type 0 where
  pub near : cog < 8
  pub low : cog < bound
  pub there : clock ≡ slice_index clocks cog
  pub first : (n : ℕ) → n < bound → Before (record { clock = slice_index clocks n; cog = n }) (record { clock = clock; cog = cog }) → ⊥

module _ (clocks : List ℕ) where
  pub one-first : IsFirstBelow clocks 1 (slice_index clocks 0) 0
  one-first = record {
    near = omega arith;
    low = omega arith;
    there = refl;
    first = λ n below before.
        let none : n ≡ 0 = omega arith in
        let same : slice_index clocks n ≡ slice_index clocks 0 = ap (λ (m : ℕ). slice_index clocks m) none in
        elim before [ inl less ↦ omega arith | inr less ↦ (let l : n < 0 = less.1 in omega arith) ];
  }

  module _ (bound clock cog : ℕ) (so_far : IsFirstBelow clocks bound clock cog) where
    pub kept-first : clock ≤ slice_index clocks bound → IsFirstBelow clocks (bound + 1) clock cog
    kept-first late = record {
      near = so_far.near;
      low = omega arith;
      there = so_far.there;
      first = λ n below before. elim (below-next n bound below) [
        | inl less ↦ so_far.first n less before
        | inr own ↦
            (let same : slice_index clocks n ≡ slice_index clocks bound = ap (λ (m : ℕ). slice_index clocks m) own in
            elim before [ inl less ↦ omega arith | inr less ↦ (let l : n < cog = less.1 in let low : cog < bound = so_far.low in omega arith) ])
      ];
    }

    pub new-first : bound < 8 → slice_index clocks bound < clock → IsFirstBelow clocks (bound + 1) (slice_index clocks bound) bound
    new-first near early = record {
      near = near;
      low = omega arith;
      there = refl;
      first = λ n below before. elim (below-next n bound below) [
        | inl less ↦
            (let late : slice_index clocks n < clock → ⊥ = λ l. so_far.first n less (inl l) in
            elim before [ inl l ↦ omega arith | inr l ↦ (let e : slice_index clocks n ≡ slice_index clocks bound = l.0 in omega arith) ])
        | inr own ↦
            (let same : slice_index clocks n ≡ slice_index clocks bound = ap (λ (m : ℕ). slice_index clocks m) own in
            elim before [ inl less ↦ omega arith | inr less ↦ (let l : n < bound = less.1 in omega arith) ])
      ];
    }

  pub all-first : (clock cog : ℕ) → IsFirstBelow clocks 8 clock cog → IsFirstOf clocks (record { clock = clock; cog = cog })
  all-first clock cog first = record { near = first.near; there = first.there; first = first.first }

-- what holds of the clocks below a number holds of one more that is written there
pub one-more : (P : ℕ → ℕ → Type 0) (clocks : List ℕ) (k v : ℕ) → k < length clocks → ((n : ℕ) → n < k → P n (slice_index clocks n)) → P k v → (n : ℕ) → n < k + 1 → P n (slice_index (slice_set clocks k v) n)
one-more P clocks k v within each here n below =
    elim (below-next n k below) [
      | inl less ↦ subst (λ (x : ℕ). P n x) (sym (get_or-set_other clocks k n v 0 (λ e. omega arith))) (each n less)
      | inr own ↦ subst (λ (x : ℕ). P n x) (sym (get_or-set_at clocks k n v 0 own within)) (subst (λ (m : ℕ). P m v) (sym own) here)
    ]
