-- The values of operators: 32-bit words, by formulas over whole numbers, each reduced mod 2 ^ 32 before the next operation.
-- An operator is numbered by the bytecode that carries it out. Sources: the Propeller Manual v1.2, "Operators" of the Spin
-- chapter; the results of a zero divisor and of `><` are this project's profile.
use Rattle.std.specs.Prelude.{ℕ, ◌-◌, ◌*◌, ◌%◌, ◌^◌, Bool, not, ◌&&◌, ◌||◌, pos, neg_ℤ, ◌-ℤ◌, unsigned_abs, int_lt, ◌==◌, if◌then◌else◌, bit_and}
use Rattle.std.specs.Prelude.{bit_or, bit_xor, List, [], ◌∷◌, Option, Some, None}
use Rattle.p8_words.specs.Words.{word_of, signed_value, wrapped_sum, high_product, signed_quotient, signed_remainder, square_root, shifted_left}
use Rattle.p8_words.specs.Words.{shifted_right, shifted_right_signed, rotated_left, rotated_right, reversed, highest_one, power_of_two}

-- true is -1 and false 0
abbrev pub truth : Bool → ℕ
truth b = if b then 2 ^ 32 - 1 else 0

-- all but 0 counts as true
abbrev pub is_true : ℕ → Bool
is_true a = not (a == 0)

-- the signed reading of a is below that of b
abbrev pub is_below : ℕ → ℕ → Bool
is_below a b = int_lt (signed_value a) (signed_value b)

-- an operator's value, by the operator's number in a table of values
abbrev pub beside : ℕ → List (ℕ × ℕ) → Option ℕ
beside operator [] = None
beside operator (line ∷ lines) = if line.0 == operator then Some line.1 else beside operator lines

-- operators before their operand
unfoldable pub unary_values : ℕ → List (ℕ × ℕ)
unary_values a =
    -- `-`, `!`, `||`, the sign `+`
    (0xE6, word_of (neg_ℤ (pos a))) ∷
    (0xE7, 2 ^ 32 - 1 - a) ∷
    (0xE9, unsigned_abs (signed_value a)) ∷
    (0xEC, a) ∷
    -- `>|`, `|<`, `^^`, NOT
    (0xF1, highest_one a) ∷
    (0xF3, power_of_two a) ∷
    (0xF8, square_root a) ∷
    (0xFF, truth (a == 0)) ∷
    []

-- operators between their operands
unfoldable pub binary_values : ℕ → ℕ → List (ℕ × ℕ)
binary_values a b =
    -- `->`, `<-`, `>>`, `<<`
    (0xE0, rotated_right a (b % 32)) ∷
    (0xE1, rotated_left a (b % 32)) ∷
    (0xE2, shifted_right a (b % 32)) ∷
    (0xE3, shifted_left a (b % 32)) ∷
    -- `#>`, the greater, and `<#`, the lesser
    (0xE4, if is_below a b then b else a) ∷
    (0xE5, if is_below b a then b else a) ∷
    -- `&`, `|`, `^`, `+`, `-`
    (0xE8, bit_and a b) ∷
    (0xEA, bit_or a b) ∷
    (0xEB, bit_xor a b) ∷
    (0xEC, wrapped_sum a b) ∷
    (0xED, word_of (pos a -ℤ pos b)) ∷
    -- `~>`, `><`
    (0xEE, shifted_right_signed a (b % 32)) ∷
    (0xEF, shifted_right (reversed a) ((32 - b % 32) % 32)) ∷
    -- AND, OR
    (0xF0, truth (is_true a && is_true b)) ∷
    (0xF2, truth (is_true a || is_true b)) ∷
    -- `*`, `**`, `/`, `//`
    (0xF4, a * b % 2 ^ 32) ∷
    (0xF5, high_product a b) ∷
    (0xF6, signed_quotient a b) ∷
    (0xF7, signed_remainder a b) ∷
    -- `<`, `>`, `<>`, `==`, `=<`, `=>`
    (0xF9, truth (is_below a b)) ∷
    (0xFA, truth (is_below b a)) ∷
    (0xFB, truth (not (a == b))) ∷
    (0xFC, truth (a == b)) ∷
    (0xFD, truth (not (is_below b a))) ∷
    (0xFE, truth (not (is_below a b))) ∷
    []

-- none where it is no such operator
abbrev pub unary_result : (operator a : ℕ) → Option ℕ
unary_result operator a = beside operator (unary_values a)

abbrev pub binary_result : (operator a b : ℕ) → Option ℕ
binary_result operator a b = beside operator (binary_values a b)

-- of the operators among the bytecodes these have one operand
abbrev pub is_unary : (operator : ℕ) → Bool
is_unary operator =
    operator == 0xE6 || operator == 0xE7 || operator == 0xE9 || operator == 0xF1 || operator == 0xF3 || operator == 0xF8 || operator == 0xFF

-- the value, and 0 where it is no such operator
abbrev pub or_zero : Option ℕ → ℕ
or_zero None = 0
or_zero (Some value) = value

abbrev pub unary_value : (operator a : ℕ) → ℕ
unary_value operator a = or_zero (unary_result operator a)

abbrev pub binary_value : (operator a b : ℕ) → ℕ
binary_value operator a b = or_zero (binary_result operator a b)

-- `/` and `//`
abbrev pub divides : ℕ → Bool
divides operator = (operator == 0xF6) || (operator == 0xF7)
