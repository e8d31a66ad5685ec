-- The number of decimal digits, read digit by digit.
use Rattle.std.proofs.Common.{◌≡◌, ◌∙◌, ap, refl, ℕ, ◌+◌, ◌-◌, ◌*◌, ◌<◌, ◌≤◌, ◌&&◌, Bool, true, false, nat_le, List, [], ◌∷◌, Option, Some, None, arith, if◌then◌else◌}
use Rattle.std.proofs.lemmas.Bool.Decides.{nat_tests}
use Rattle.std.specs.List.{list_all}
use Rattle.p8_commands.specs.Numbers.{is_digit, value_from}

-- what is read on is at least what was read
pub grows : (digits : List ℕ) (number : ℕ) → number ≤ value_from number digits
grows [] number = omega arith
grows (digit ∷ digits) number =
    let more : 10 * number + (digit - 48) ≤ value_from (10 * number + (digit - 48)) digits = grows digits (10 * number + (digit - 48)) in
    omega arith

-- reading on from a number within the limit
abbrev pub value_on : ℕ → ℕ → List ℕ → Option ℕ
value_on limit number digits =
    if list_all is_digit digits && nat_le (value_from number digits) limit then Some (value_from number digits) else None

and-false : (b : Bool) → (b && false) ≡ false
and-false true = refl
and-false false = refl

above-test : (a b : ℕ) → b < a → nat_le a b ≡ false
above-test a b above = grind (arith, nat_tests)

pub too-great : (limit number code : ℕ) (digits : List ℕ) → limit < 10 * number + (code - 48) → value_on limit number (code ∷ digits) ≡ None
too-great limit number code digits above =
    let more : 10 * number + (code - 48) ≤ value_from number (code ∷ digits) = grows digits (10 * number + (code - 48)) in
    let test : nat_le (value_from number (code ∷ digits)) limit ≡ false = above-test _ limit (omega arith) in
    ap (λ (b : Bool). if list_all is_digit (code ∷ digits) && b then Some (value_from number (code ∷ digits)) else None) test
    ∙ ap (λ (b : Bool). if b then Some (value_from number (code ∷ digits)) else None) (and-false (list_all is_digit (code ∷ digits)))
