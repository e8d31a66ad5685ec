-- The bytecodes that compare, and those of operators.
use Rattle.std.proofs.Common.{◌≡◌, refl, sym, ap, ◌∙◌, arith, ℕ, ◌+◌, ◌%◌, ◌^◌, ◌≤◌, ◌==◌, not, ◌&&◌, ◌||◌, Bool, true, false, if◌then◌else◌, nat_lt, nat_le, List, [], ◌∷◌, Option, Some, IsTrue}
use Rattle.p8_tree.specs.declared.places.Place.{Place}
use Rattle.p8_tree.specs.Proper as proper
use Rattle.p8_access.specs.Courses.{Finish}
use Rattle.p8_bytecode.specs.declared.operands.Operands.{Operands}
use Rattle.p8_bytecode.specs.declared.operands.Operands.TheVariants.{Nothing}
use Rattle.p8_bytecode.specs.Table.{rows, operands_of}
use Rattle.p8_bytecode.specs.Reading.{bare}
use Rattle.p8_words.specs.Operators.{is_unary}
use Rattle.p8_bcog.specs.declared.state.SpinState.{SpinState}
use Rattle.p8_bcog.specs.Operands.{operand, pushed, replaced, jumped, is_between, sum_of, distance, difference}
use Rattle.p8_bcog.specs.Control as control
use Rattle.p8_bcog.specs.Bytecodes.{row, test_row, look_row, operator_row}
use Rattle.p8_gen.specs.Pieces.{byte, jump}
use Rattle.p8_compiled.specs.Courses.{takes_one, takes_two, takes_three, takes_four}
use Rattle.p8_compiled.specs.Standing.{tries_item, tries_both, look_fails, applies_one, applies_two}
use Rattle.p8_compiled.specs.Bodies.{fits_value, fits_range}
use Rattle.p8_compiled.proofs.Standing.{jump-stand}
use Rattle.p8_compiled.proofs.Bytecodes.{Stands, DoesAt, byte-stand}
use Rattle.p8_compiled.proofs.Choices.{each, all_from, within-row}
use Rattle.p8_compiled.proofs.Operands.{tested-same, pushed-taken, stays}
use Rattle.p8_compiled.proofs.Truths.{at-most, both-true, if-no, implied, is-no, not-less}

else-same : (b : Bool) (x y z : SpinState) → y ≡ z → (if b then x else y) ≡ (if b then x else z)
else-same b x y z is = ap (λ st. if b then x else st) is

-- ---- operators between their operands

abbrev has_nothing : Option Operands → Bool
has_nothing (Some Nothing) = true
has_nothing found = false

nothing-there : (found : Option Operands) → has_nothing found ≡ true → found ≡ Some Nothing
nothing-there (Some Nothing) is = refl
nothing-there _ is = absurd (cc)

-- each has two operands, and stands alone
abbrev two_operands : ℕ → Bool
two_operands k = not (proper.is_binary k) || (not (is_unary k) && has_nothing (operands_of k))

all-have-two : all_from two_operands 0xE0 32 ≡ true
unfolding rows
all-have-two = refl

pub record IsBetween (k : ℕ) : Type 0 where
  pub least : 0xE0 ≤ k
  pub most : k ≤ 0xFF
  pub two : is_unary k ≡ false
  pub alone : operands_of k ≡ Some Nothing

pub is-between : (k : ℕ) → IsTrue (proper.is_binary k) → IsBetween k
is-between k is =
    let p : (nat_le 0xE0 k ≡ true) × _ = both-true _ _ is in
    let q : (nat_le k 0xFF ≡ true) × _ = both-true _ _ p.1 in
    let least : 0xE0 ≤ k = at-most _ _ p.0 in
    let most : k ≤ 0xFF = at-most _ _ q.0 in
    let r = both-true (not (is_unary k)) _ (implied (proper.is_binary k) _ (within-row two_operands 0xE0 32 all-have-two k least (omega (arith, most))) is) in
    record { least = least; most = most; two = is-no (is_unary k) r.0; alone = nothing-there (operands_of k) r.1 }

module _ (memory : List ℕ) (cog base : ℕ) (table : List (ℕ × Place)) (hand : Place) where
  -- ---- CASE

  pub value-test-stand : (wide : ℕ → Bool) (statement : Place) (to : ℕ) → Stands memory cog base table hand (jump wide statement 0x0D to) (DoesAt memory cog base table hand (takes_two 1 (fits_value (base + to))))
  unfolding rows row test_row control.case_value
  value-test-stand wide statement to =
      jump-stand memory cog base table hand wide statement 0x0D to (λ target. takes_two 1 (fits_value target)) refl
      (λ form off s. tested-same 2 1 s _ _ (λ le. ap Finish (stays (operand s 1 == operand s 0) ((s.at + off) % 2 ^ 16) s 1 le)))

  pub range-test-stand : (wide : ℕ → Bool) (statement : Place) (to : ℕ) → Stands memory cog base table hand (jump wide statement 0x0E to) (DoesAt memory cog base table hand (takes_three 1 (fits_range (base + to))))
  unfolding rows row test_row control.case_range
  range-test-stand wide statement to =
      jump-stand memory cog base table hand wide statement 0x0E to (λ target. takes_three 1 (fits_range target)) refl
      (λ form off s. tested-same 3 1 s _ _ (λ le. ap Finish (stays (is_between (operand s 2) (operand s 1) (operand s 0)) ((s.at + off) % 2 ^ 16) s 2 le)))

  -- ---- LOOK functions

  pub item-stand : (down : Bool) (wide : ℕ → Bool) (statement : Place) (to : ℕ) → Stands memory cog base table hand (jump wide statement (if down then 0x11 else 0x10) to) (DoesAt memory cog base table hand (takes_three 2 (tries_item (not down) (base + to))))
  unfolding rows row look_row control.lookup_value control.lookdown_value
  item-stand false wide statement to =
      jump-stand memory cog base table hand wide statement 0x10 to (λ target. takes_three 2 (tries_item true target)) refl
      (λ form off s. tested-same 3 2 s _ _ (λ le. ap Finish (else-same (operand s 2 == operand s 1) (jumped off (replaced 3 (operand s 0) s)) _ _ (ap (pushed (sum_of (operand s 1) 1)) (sym (pushed-taken s 2 le))))))
  item-stand true wide statement to =
      jump-stand memory cog base table hand wide statement 0x11 to (λ target. takes_three 2 (tries_item false target)) refl
      (λ form off s. tested-same 3 2 s _ _ (λ le. ap Finish (else-same (operand s 2 == operand s 0) (jumped off (replaced 3 (operand s 1) s)) _ _ (ap (pushed (sum_of (operand s 1) 1)) (sym (pushed-taken s 2 le))))))

  pub both-stand : (down : Bool) (wide : ℕ → Bool) (statement : Place) (to : ℕ) → Stands memory cog base table hand (jump wide statement (if down then 0x13 else 0x12) to) (DoesAt memory cog base table hand (takes_four 2 (tries_both (not down) (base + to))))
  unfolding rows row look_row control.lookup_range control.lookdown_range
  both-stand false wide statement to =
      jump-stand memory cog base table hand wide statement 0x12 to (λ target. takes_four 2 (tries_both true target)) refl
      (λ form off s. tested-same 4 2 s _ _ (λ le. ap Finish (else-same (nat_le (difference (operand s 3) (operand s 2)) (distance (operand s 1) (operand s 0))) (jumped off (replaced 4 (control.toward (operand s 1) (operand s 0) (difference (operand s 3) (operand s 2))) s)) _ _ (ap (pushed (sum_of (sum_of (operand s 2) (distance (operand s 1) (operand s 0))) 1)) (sym (pushed-taken s 3 le))))))
  both-stand true wide statement to =
      jump-stand memory cog base table hand wide statement 0x13 to (λ target. takes_four 2 (tries_both false target)) refl
      (λ form off s. tested-same 4 2 s _ _ (λ le. ap Finish (else-same (is_between (operand s 3) (operand s 1) (operand s 0)) (jumped off (replaced 4 (sum_of (operand s 2) (distance (operand s 3) (operand s 1))) s)) _ _ (ap (pushed (sum_of (sum_of (operand s 2) (distance (operand s 1) (operand s 0))) 1)) (sym (pushed-taken s 3 le))))))

  pub look-fails-stand : Stands memory cog base table hand (byte 0x0F) (DoesAt memory cog base table hand (takes_two 1 look_fails))
  unfolding rows row test_row control.look_fails
  look-fails-stand = byte-stand memory cog base table hand 0x0F _ refl (λ s. refl)

  -- ---- operators

  pub unary-stand : (operator : ℕ) → IsTrue (proper.is_unary operator) → (operator == 0xEC) ≡ false → Stands memory cog base table hand (byte operator) (DoesAt memory cog base table hand (takes_one 1 (applies_one operator)))
  unfolding rows row operator_row
  unary-stand operator is plus =
      each (λ k. (k == 0xEC) ≡ false → Stands memory cog base table hand (byte k) (DoesAt memory cog base table hand (takes_one 1 (applies_one k)))) (0xE6 ∷ 0xE7 ∷ 0xE9 ∷ 0xEC ∷ 0xF1 ∷ 0xF3 ∷ 0xF8 ∷ 0xFF ∷ []) (
        λ _. byte-stand memory cog base table hand 0xE6 _ refl (λ s. refl),
        (
          λ _. byte-stand memory cog base table hand 0xE7 _ refl (λ s. refl),
          (
            λ _. byte-stand memory cog base table hand 0xE9 _ refl (λ s. refl),
            (
              λ sign. absurd (cc),
              (
                λ _. byte-stand memory cog base table hand 0xF1 _ refl (λ s. refl),
                (
                  λ _. byte-stand memory cog base table hand 0xF3 _ refl (λ s. refl),
                  (
                    λ _. byte-stand memory cog base table hand 0xF8 _ refl (λ s. refl),
                    (
                      λ _. byte-stand memory cog base table hand 0xFF _ refl (λ s. refl),
                      tt,
                    ),
                  ),
                ),
              ),
            ),
          ),
        ),
      ) operator is plus

  operator-row : (k : ℕ) (s : SpinState) → 0xE0 ≤ k → row memory cog (bare k) s ≡ operator_row (bare k) s
  unfolding row
  operator-row k s le =
      if-no (nat_lt k 0x08) _ _ (not-less k 0x08 (omega (arith, le)))
      ∙ if-no (nat_lt k 0x10) _ _ (not-less k 0x10 (omega (arith, le)))
      ∙ if-no (nat_lt k 0x16) _ _ (not-less k 0x16 (omega (arith, le)))
      ∙ if-no (nat_lt k 0x20) _ _ (not-less k 0x20 (omega (arith, le)))
      ∙ if-no (nat_lt k 0x30) _ _ (not-less k 0x30 (omega (arith, le)))
      ∙ if-no (nat_lt k 0x40) _ _ (not-less k 0x40 (omega (arith, le)))
      ∙ if-no (nat_lt k 0x80) _ _ (not-less k 0x80 (omega (arith, le)))
      ∙ if-no (nat_lt k 0xE0) _ _ (not-less k 0xE0 le)

  pub binary-stand : (operator : ℕ) → IsTrue (proper.is_binary operator) → Stands memory cog base table hand (byte operator) (DoesAt memory cog base table hand (takes_two 1 (applies_two operator)))
  unfolding operator_row
  binary-stand operator is =
      let b : IsBetween operator = is-between operator is in
      byte-stand memory cog base table hand operator _ b.alone (λ s. operator-row operator s b.least ∙ if-no (is_unary operator) _ _ b.two)
