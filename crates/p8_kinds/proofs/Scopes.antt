-- Maps of maps: one name of one number changes, and all others stay.
use Rattle.std.proofs.Common.{◌≡◌, ℕ, List, Option, Some, inl, inr, sym, ◌∙◌, ap}
use Rattle.std.specs.BTreeMap.{BTreeMap, UpdatesBy}
use Rattle.std.specs.Ordering.{nat_cmp}
use Rattle.std.specs.Cmp.{unsigned_tied}
use Rattle.std.proofs.lemmas.Bool.{cases_eq}
use Rattle.std.proofs.lemmas.Bool.Decides.{nat_tests}
use Rattle.p8_kinds.specs.Entries.{Names, at_bytes, names_at, in_names, at_number}
use Rattle.std.proofs.Common.{arith}

-- a change at one number leaves what stands at other numbers
pub at_other_numbers : (number : ℕ) (m n : BTreeMap ℕ Names) (w : Option Names) → UpdatesBy nat_cmp (nat_cmp number) m n w → (k : ℕ) → ¬ (k ≡ number) → names_at k n ≡ names_at k m
at_other_numbers number m n w h k ne =
    h.2 k (unsigned_tied number k ∙ (grind (arith, nat_tests)))

module _ (old new : BTreeMap ℕ Names) (number : ℕ) (after : Names) (here : names_at number new ≡ Some after) (others : (k : ℕ) → ¬ (k ≡ number) → names_at k new ≡ names_at k old) where
  at_this_number : (k : ℕ) (name : List ℕ) → k ≡ number → at_bytes name after ≡ at_number number name old → at_number k name new ≡ at_number k name old
  at_this_number k name same e = ap (λ k. at_number k name new) same ∙ ap (in_names name) here ∙ e ∙ ap (λ k. at_number k name old) (sym same)

  -- where the names at this number have changed at one name
  pub at_other_names : (name : List ℕ) → ((n : List ℕ) → ¬ (n ≡ name) → at_bytes n after ≡ at_number number n old) → (k : ℕ) (n : List ℕ) → ¬ ((k ≡ number) × (n ≡ name)) → at_number k n new ≡ at_number k n old
  at_other_names name same_names k n ne =
      elim (cases_eq k number) [
        | inl same ↦ at_this_number k n same (same_names n (λ e. ne (same, e)))
        | inr apart ↦ ap (in_names n) (others k apart)
      ]

  -- where they have stayed
  pub at_all_names : ((n : List ℕ) → at_bytes n after ≡ at_number number n old) → (k : ℕ) (n : List ℕ) → at_number k n new ≡ at_number k n old
  at_all_names same_names k n =
      elim (cases_eq k number) [
        | inl same ↦ at_this_number k n same (same_names n)
        | inr apart ↦ ap (in_names n) (others k apart)
      ]
