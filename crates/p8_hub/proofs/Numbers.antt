-- Numbers as bytes of a list.
use Rattle.std.proofs.Common.{◌≡◌, ◌∙◌, refl, ℕ, zero, suc, ◌+◌, ◌-◌, ◌/◌, ◌%◌, ◌^◌, ◌<◌, ◌≤◌, List, [], ◌∷◌, ◌++◌, length, slice_index, get_or, take, drop, nat_lt, arith, Some, None, if◌then◌else◌, inl, inr}
use Rattle.std.proofs.lemmas.Grind.{common_steps}
use Rattle.std.proofs.lemmas.Bool.{cases_lt}
use Rattle.std.proofs.lemmas.Bool.Decides.{nat_tests}
use borrow.Rule.Slice.PartMut.{put_mid, post_of}
use Rattle.p8_access.specs.declared.kinds.Access.TheVariants.{Write}
use Rattle.p8_access.specs.declared.kinds.Width.TheVariants.{Word, Long}
use Rattle.p8_access.specs.Hub.{or_else, put_by}

-- what stands after a part that reaches to the end
whole : (xs : List ℕ) (at k n : ℕ) → k ≡ length xs - at → drop n (take k (drop at xs)) ++ post_of at k xs ≡ drop n (drop at xs)
whole xs at k n rest = grind (arith, common_steps)

module _ (xs bs : List ℕ) (at k a : ℕ) (room : at + length bs ≤ length xs) (rest : k ≡ length xs - at) where
  -- the list with some bytes put over those from a place on
  abbrev over : List ℕ
  over = put_mid at k xs (bs ++ drop (length bs) (take k (drop at xs)))

  before : a < at → get_or over a 0 ≡ get_or xs a 0
  before h = grind (arith, common_steps)

  inside : at ≤ a → a < at + length bs → get_or over a 0 ≡ get_or bs (a - at) 0
  inside g h = grind (arith, common_steps)

  behind : at + length bs ≤ a → get_or over a 0 ≡ get_or xs a 0
  behind h = grind (arith, common_steps, whole xs at k (length bs) rest)

-- a byte of a number of two bytes
byte_of_two : (value i : ℕ) → i < 2 → slice_index (value % 256 ∷ value / 256 % 256 ∷ []) i ≡ value / 256 ^ i % 256
byte_of_two value zero h = grind (arith, common_steps)
byte_of_two value (suc zero) h = grind (arith, common_steps)
byte_of_two value (suc (suc i)) h = absurd (omega arith)

byte_of_four : (value i : ℕ) → i < 4 → slice_index (value % 256 ∷ value / 256 % 256 ∷ value / 256 ^ 2 % 256 ∷ value / 256 ^ 3 % 256 ∷ []) i ≡ value / 256 ^ i % 256
byte_of_four value zero h = grind (arith, common_steps)
byte_of_four value (suc zero) h = grind (arith, common_steps)
byte_of_four value (suc (suc zero)) h = refl
byte_of_four value (suc (suc (suc zero))) h = refl
byte_of_four value (suc (suc (suc (suc i)))) h = absurd (omega arith)

-- a read of a list in which some bytes were put, told by what an access puts there
put_there : (a at n put old new : ℕ) → (a < at → new ≡ old) → (at ≤ a → a < at + n → new ≡ put) → (at + n ≤ a → new ≡ old) → new ≡ or_else (if nat_lt a at then None else (if nat_lt a (at + n) then Some put else None)) old
put_there a at n put old new before inside behind =
    elim (cases_lt a at) [
      | inl h ↦ let e = before h in grind (arith, nat_tests)
      | inr g ↦ elim (cases_lt a (at + n)) [
        | inl h ↦ let e = inside g h in grind (arith, nat_tests)
        | inr h ↦ let e = behind h in grind (arith, nat_tests)
      ]
    ]

module _ (xs : List ℕ) (at k value a : ℕ) (rest : k ≡ length xs - at) where
  pub written_word : at + 2 ≤ length xs → slice_index (put_mid at k xs (value % 256 ∷ value / 256 % 256 ∷ drop 2 (take k (drop at xs)))) a ≡ or_else (put_by (Write Word at value) a) (slice_index xs a)
  written_word room =
      let bs : List ℕ = value % 256 ∷ value / 256 % 256 ∷ [] in
      put_there a at 2 _ (slice_index xs a) _ (before xs bs at k a room rest) (λ g h. inside xs bs at k a room rest g h ∙ byte_of_two value (a - at) (omega arith)) (behind xs bs at k a room rest)

  pub written_long : at + 4 ≤ length xs → slice_index (put_mid at k xs (value % 256 ∷ value / 256 % 256 ∷ value / 256 ^ 2 % 256 ∷ value / 256 ^ 3 % 256 ∷ drop 4 (take k (drop at xs)))) a ≡ or_else (put_by (Write Long at value) a) (slice_index xs a)
  written_long room =
      let bs : List ℕ = value % 256 ∷ value / 256 % 256 ∷ value / 256 ^ 2 % 256 ∷ value / 256 ^ 3 % 256 ∷ [] in
      put_there a at 4 _ (slice_index xs a) _ (before xs bs at k a room rest) (λ g h. inside xs bs at k a room rest g h ∙ byte_of_four value (a - at) (omega arith)) (behind xs bs at k a room rest)
