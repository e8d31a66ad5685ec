-- The row of an address among rows that hold no address twice.
use Rattle.std.proofs.Common.{◌≡◌, inl, inr, ℕ, ◌<◌, ◌≤◌, nat_le, true, false, List, length, slice_get, get_or, Some, ap, sym, ◌∙◌, subst, arith}
use Rattle.std.specs.List.Sorted.{IsPartitionPoint, IsNonDecreasingBy}
use Rattle.std.proofs.lemmas.Bool.{cases_lt}
use Rattle.std.proofs.lemmas.Bool.Decides.{nat_tests}
use Rattle.std.proofs.lemmas.Option.{slice_get_within, same_Some, get_or_from_slice_get}
use Rattle.p8_build.proofs.Lists.{element}
use Rattle.p8_legend.specs.declared.table.LineRow.{LineRow}
use Rattle.p8_legend.specs.Rows.{AreApart}
use Rattle.p8_legend.specs.Steps.{Splits}

module _ (rows : List LineRow) (apart : AreApart rows) where
  later : (i j : ℕ) (a b : LineRow) → i ≤ j → slice_get rows i ≡ Some a → slice_get rows j ≡ Some b → a.address ≤ b.address
  later i j a b le at_a at_b = elim (cases_lt i j) [
    | inl lt ↦ let some = apart.some i a at_a in let behind = apart.behind i j a b lt at_a at_b in omega (arith, some, behind)
    | inr past ↦
        let same : i ≡ j = omega (arith, le, past) in
        let one : a ≡ b = same_Some a b (sym at_a ∙ ap (slice_get rows) same ∙ at_b) in
        subst (λ (z : LineRow). a.address ≤ z.address) one (omega arith)
  ]

  -- the addresses rise
  pub rising : IsNonDecreasingBy (λ (row : LineRow). row.address) rows
  rising i j d le lt =
      let a = element rows i (omega (arith, le, lt)) in
      let b = element rows j lt in
      subst (λ (z : LineRow). z.address ≤ (get_or rows j d).address) (sym (get_or_from_slice_get rows i a.0 d a.1))
      (subst (λ (z : LineRow). a.0.address ≤ z.address) (sym (get_or_from_slice_get rows j b.0 d b.1)) (later i j a.0 b.0 le a.1 b.1))

-- where the rows are parted
less : (a b : ℕ) → nat_le a b ≡ true → a ≤ b
less a b h = grind (arith, nat_tests)

more : (a b : ℕ) → nat_le a b ≡ false → b < a
more a b h = grind (arith, nat_tests)

pub splits-at : (rows : List LineRow) (address count : ℕ) → count ≤ length rows → IsPartitionPoint (λ (row : LineRow). nat_le row.address address ≡ true) (λ (row : LineRow). nat_le row.address address ≡ false) rows count → Splits rows address count
splits-at rows address count within parts = record {
  before = λ k row lt at.
      less row.address address (subst (λ (z : LineRow). nat_le z.address address ≡ true) (get_or_from_slice_get rows k row row at) (parts.0 k row (omega arith) lt));
  after = λ k row le at.
      more row.address address (subst (λ (z : LineRow). nat_le z.address address ≡ false) (get_or_from_slice_get rows k row row at) (parts.1 k row le (slice_get_within rows k row at)));
}
