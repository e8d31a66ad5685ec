-- Ranges that are apart: one more behind them, and a search among them.
use Rattle.std.proofs.Common.{◌≡◌, ◌⊎◌, inl, inr, refl, ℕ, zero, suc, ◌-◌, ◌<◌, ◌≤◌, nat_le, nat_lt, true, false, if◌then◌else◌, Option, List, [], ◌∷◌, ◌++◌, length, slice_get, get_or, Some, None, ap, sym, ◌∙◌, subst, arith}
use Rattle.std.specs.Prelude.{option_map, Result, Ok, Err, OnOk, OnErr}
use Rattle.std.specs.List.Sorted.{IsPartitionPoint, IsNonDecreasingBy}
use Rattle.std.proofs.lemmas.Bool.{cases_lt}
use Rattle.std.proofs.lemmas.Bool.Decides.{nat_tests}
use Rattle.std.proofs.lemmas.Option.{slice_get_within, same_Some, none-some, get_or_from_slice_get}
use Rattle.p8_legend.specs.declared.ranges.FoundRange.{FoundRange}
use Rattle.p8_legend.specs.declared.ranges.Range.{Range}
use Rattle.p8_legend.specs.Ranges.{AreApart, last_end, holds, behind_one, found_at}
use Rattle.p8_legend.specs.Finding.{Splits}

-- ---- one more

pub grown : (lowest : ℕ) (ranges : List Range) (r : Range) → AreApart lowest ranges → last_end lowest ranges ≤ r.address → r.address ≤ r.end → AreApart lowest (ranges ++ r ∷ [])
grown lowest [] r apart after some = (after, some, tt)
grown lowest (x ∷ ranges) r apart after some = (apart.0, apart.1, grown x.end ranges r apart.2 after some)

pub after_push : {X E : Type 0} (o : Result X E) (ranges new : List Range) (r : Range) → AreApart 0 ranges → last_end 0 ranges ≤ r.address → r.address ≤ r.end → OnOk o (new ≡ ranges ++ r ∷ []) → OnErr o (new ≡ ranges) → AreApart 0 new
after_push (Ok x) ranges new r apart after some ok err = subst (AreApart 0) (sym ok) (grown 0 ranges r apart after some)
after_push (Err e) ranges new r apart after some ok err = subst (AreApart 0) (sym err) apart

pub last_is : (lowest : ℕ) (ranges : List Range) (r : Range) → slice_get ranges (length ranges - 1) ≡ Some r → last_end lowest ranges ≡ r.end
last_is lowest [] r last = absurd (none-some r last)
last_is lowest (x ∷ []) r last = ap (λ (z : Range). z.end) (same_Some x r last)
last_is lowest (x ∷ y ∷ ranges) r last =
    let e : length (x ∷ y ∷ ranges) - 1 ≡ suc (length (y ∷ ranges) - 1) = omega arith in
    last_is x.end (y ∷ ranges) r (subst (λ n. slice_get (x ∷ y ∷ ranges) n ≡ Some r) e last)

-- ---- the addresses rise

above : (lowest : ℕ) (ranges : List Range) (j : ℕ) (d : Range) → AreApart lowest ranges → j < length ranges → lowest ≤ (get_or ranges j d).address
above lowest [] j d apart lt = absurd (omega arith)
above lowest (x ∷ ranges) zero d apart lt = apart.0
above lowest (x ∷ ranges) (suc j) d apart lt =
    let from = apart.0 in
    let some = apart.1 in
    let rest = above x.end ranges j d apart.2 (omega (arith, lt)) in
    omega (arith, from, some, rest)

pub rising : (lowest : ℕ) (ranges : List Range) → AreApart lowest ranges → IsNonDecreasingBy (λ (r : Range). r.address) ranges
rising lowest [] apart i j d le lt = absurd (omega arith)
rising lowest (x ∷ ranges) apart zero zero d le lt = omega arith
rising lowest (x ∷ ranges) apart zero (suc j) d le lt =
    let some = apart.1 in
    let rest = above x.end ranges j d apart.2 (omega (arith, lt)) in
    omega (arith, some, rest)
rising lowest (x ∷ ranges) apart (suc i) zero d le lt = absurd (omega (arith, le))
rising lowest (x ∷ ranges) apart (suc i) (suc j) d le lt = rising x.end ranges apart.2 i j d (omega (arith, le)) (omega (arith, lt))

-- where they are parted
less : (a b : ℕ) → nat_le a b ≡ true → a ≤ b
less a b h = grind (arith, nat_tests)

more : (a b : ℕ) → nat_le a b ≡ false → b < a
more a b h = grind (arith, nat_tests)

pub splits-at : (ranges : List Range) (address count : ℕ) → count ≤ length ranges → IsPartitionPoint (λ (r : Range). nat_le r.address address ≡ true) (λ (r : Range). nat_le r.address address ≡ false) ranges count → Splits ranges address count
splits-at ranges address count within parts = record {
  before = λ k r lt at.
      less r.address address (subst (λ (z : Range). nat_le z.address address ≡ true) (get_or_from_slice_get ranges k r r at) (parts.0 k r (omega arith) lt));
  after = λ k r le at.
      more r.address address (subst (λ (z : Range). nat_le z.address address ≡ false) (get_or_from_slice_get ranges k r r at) (parts.1 k r le (slice_get_within ranges k r at)));
}

-- ---- a search

outside : (address : ℕ) (r : Range) {X : Type 0} (x y : X) → (address < r.address) ⊎ (r.end ≤ address) → (if holds address r then x else y) ≡ y
outside address r x y (inl h) = grind (arith, nat_tests)
outside address r x y (inr h) = grind (arith, nat_tests)

-- the first range doesn't count
behind : (x : Range) (ranges : List Range) (address count : ℕ) → Splits (x ∷ ranges) address (suc count) → Splits ranges address count
behind x ranges address count parts = record {
  before = λ k r lt at. parts.before (suc k) r (omega (arith, lt)) at;
  after = λ k r le at. parts.after (suc k) r (omega (arith, le)) at;
}

behind_none : (x : Range) (ranges : List Range) (address : ℕ) → Splits (x ∷ ranges) address 0 → Splits ranges address 0
behind_none x ranges address parts = record {
  before = λ k r lt at. absurd (omega (arith, lt));
  after = λ k r le at. parts.after (suc k) r (omega arith) at;
}

pub found-none : (ranges : List Range) (address : ℕ) → Splits ranges address 0 → found_at ranges address ≡ None
found-none [] address parts = refl
found-none (x ∷ ranges) address parts =
    outside address x (Some (record { number = 0; offset = address - x.address })) (option_map behind_one (found_at ranges address)) (inl (parts.after 0 x (omega arith) refl))
    ∙ ap (option_map behind_one) (found-none ranges address (behind_none x ranges address parts))

-- what is found, where so many ranges and one more begin at or before the address
abbrev pub found_by : (count address : ℕ) → Range → Option FoundRange
found_by count address r = if nat_lt address r.end then Some (record { number = count; offset = address - r.address }) else None

inside : (address : ℕ) (r : Range) → r.address ≤ address → (if holds address r then Some (record { number = 0; offset = address - r.address }) else None) ≡ found_by 0 address r
inside address r le = grind (arith, nat_tests)

one_more : (count address : ℕ) (r : Range) → option_map behind_one (found_by count address r) ≡ found_by (suc count) address r
one_more count address r = elim (cases_lt address r.end) [
  | inl h ↦ grind (arith, nat_tests)
  | inr h ↦ grind (arith, nat_tests)
]

pub found-some : (lowest : ℕ) (ranges : List Range) (address count : ℕ) (r : Range) → AreApart lowest ranges → Splits ranges address (suc count) → slice_get ranges count ≡ Some r → found_at ranges address ≡ found_by count address r
found-some lowest [] address count r apart parts at = absurd (none-some r at)
found-some lowest (x ∷ ranges) address zero r apart parts at =
    let none = found-none ranges address (behind x ranges address 0 parts) in
    ap (λ (rest : Option FoundRange). if holds address x then Some (record { number = 0; offset = address - x.address }) else option_map behind_one rest) none
    ∙ inside address x (parts.before 0 x (omega arith) refl)
    ∙ ap (found_by 0 address) (same_Some x r at)
found-some lowest (x ∷ []) address (suc count) r apart parts at = absurd (none-some r at)
found-some lowest (x ∷ y ∷ ranges) address (suc count) r apart parts at =
    let from = apart.2.0 in
    let begun = parts.before 1 y (omega arith) refl in
    outside address x (Some (record { number = 0; offset = address - x.address })) (option_map behind_one (found_at (y ∷ ranges) address)) (inr (omega (arith, from, begun)))
    ∙ ap (option_map behind_one) (found-some x.end (y ∷ ranges) address count r apart.2 (behind x (y ∷ ranges) address (suc count) parts) at)
    ∙ one_more count address r
