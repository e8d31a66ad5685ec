-- The lines of a text, and what one of them carries.
use Rattle.std.proofs.Common.{◌≡◌, ◌∙◌, ap, sym, refl, subst, ℕ, zero, suc, ◌+◌, ◌-◌, ◌*◌, ◌^◌, ◌<◌, ◌≤◌, ◌==◌, Bool, true, false, not, cond, List, [], ◌∷◌, length, take, drop, get_or, Some, None, lit<, arith, length-append, length-drop}
use Rattle.std.specs.List.{slice_split, onto_first, position_or_len, position}
use Rattle.std.specs.Str.Lines.{lines, lines_of_parts, strip_carriage_return}
use Rattle.std.specs.Str.Parse.{AllDigits, digits_value}
use Rattle.std.specs.Char.{digit_value}
use Rattle.std.proofs.Math.Seq.{take-append_seam, drop-append-add, get_or-append_seam, take-length}
use Rattle.std.proofs.Math.Nat.{pow-le-pow_left, pow-le-pow_right, mul-le-mul_left}
use Rattle.std.proofs.lemmas.Bool.Decides.{nat_tests}
use Rattle.std.proofs.lemmas.Int.Digits.{digits_value-lt, digits_value_more, digits_more}
use Rattle.std.proofs.lemmas.List.Splits.{slice_split_first, length-slice_split}
use Rattle.p8_access.specs.Worlds.{Line}
use Rattle.p8_pins.specs.Scripts.{Carries}

abbrev is_feed : ℕ → Bool
is_feed byte = byte == 10

-- a slice up to the end of what is sliced
pub drop-whole : (n : ℕ) (xs : List ℕ) → take (length xs - n) (drop n xs) ≡ drop n xs
drop-whole n xs = subst (λ k. take k (drop n xs) ≡ drop n xs) (length-drop n xs) (take-length (drop n xs))

none-cons : (b : Bool) (x : ℕ) (xs : List ℕ) (parts : List (List ℕ)) (n : ℕ) → suc (length xs) ≤ cond (not b) (1 + n) 0 → (length xs ≤ n → parts ≡ xs ∷ []) → cond b ([] ∷ parts) (onto_first x parts) ≡ (x ∷ xs) ∷ []
none-cons true x xs parts n h rest = absurd (omega arith)
none-cons false x xs parts n h rest = ap (onto_first x) (rest (omega arith))

-- a text without a line feed is one part
slice_split-none : (xs : List ℕ) → length xs ≤ position_or_len is_feed xs → slice_split is_feed xs ≡ xs ∷ []
slice_split-none [] h = refl
slice_split-none (x ∷ xs) h =
    none-cons (is_feed x) x xs (slice_split is_feed xs) (position_or_len is_feed xs) h (slice_split-none xs)

some-is : (b : Bool) (m n : ℕ) → cond b (Some m) None ≡ Some n → (b ≡ true) × (m ≡ n)
some-is true m n e = (refl, (cc))
some-is false m n e = (cc)

none-is : (b : Bool) (m : ℕ) → cond b (Some m) None ≡ None → b ≡ false
none-is true m e = (cc)
none-is false m e = refl

lines_of_parts-one : (x : List ℕ) → 0 < length x → lines_of_parts (x ∷ []) ≡ x ∷ []
lines_of_parts-one x h = grind (arith, nat_tests)

lines_of_parts-cons : (x : List ℕ) (parts : List (List ℕ)) → 0 < length parts → lines_of_parts (x ∷ parts) ≡ strip_carriage_return x ∷ lines_of_parts parts
lines_of_parts-cons x [] h = absurd (omega arith)
lines_of_parts-cons x (y ∷ more) h = refl

-- a text without a line feed is one line
pub lines-last : (text : List ℕ) → position is_feed text ≡ None → 0 < length text → lines text ≡ text ∷ lines (take (length text - length text) (drop (length text) text))
lines-last text none h =
    let beyond : length text ≤ position_or_len is_feed text = grind (arith, nat_tests, none-is _ _ none) in
    let none_left : length text - length text ≡ 0 = omega arith in
    let nothing : take (length text - length text) (drop (length text) text) ≡ [] = ap (λ n. take n (drop (length text) text)) none_left in
    ap lines_of_parts (slice_split-none text beyond) ∙ lines_of_parts-one text h ∙ ap (λ rest. text ∷ lines rest) (sym nothing)

-- the first line of a text with a line feed
pub lines-first : (text line : List ℕ) (end : ℕ) → position is_feed text ≡ Some end → line ≡ strip_carriage_return (take end text) → lines text ≡ line ∷ lines (take (length text - (end + 1)) (drop (end + 1) text))
lines-first text line end some is =
    let (found, place) = some-is _ _ _ some in
    let inside : position_or_len is_feed text < length text = grind (arith, nat_tests) in
    let parts = slice_split_first is_feed text 0 inside in
    ap lines_of_parts parts
    ∙ lines_of_parts-cons _ (slice_split is_feed (drop (position_or_len is_feed text + 1) text)) (omega (arith, length-slice_split is_feed (drop (position_or_len is_feed text + 1) text)))
    ∙ ap (λ n. strip_carriage_return (take n text) ∷ lines (drop (n + 1) text)) place
    ∙ ap (λ first. first ∷ lines (drop (end + 1) text)) (sym is)
    ∙ ap (λ rest. line ∷ lines rest) (sym (drop-whole (end + 1) text))

-- a number of few digits is small
pub value-small : (base : ℕ) (digits : List ℕ) → 2 ≤ base → base ≤ 16 → length digits ≤ 10 → AllDigits base digits → digits_value base digits < 2 ^ 40
value-small base digits low high few all =
    omega (arith, digits_value-lt base digits all, pow-le-pow_left high (length digits), pow-le-pow_right {n = 16} (lit< tt) few)

pub value-fits : (base value digit : ℕ) → value < 2 ^ 40 → base ≤ 16 → digit < base → value * base + digit < 2 ^ 45
value-fits base value digit small high less = omega (arith, mul-le-mul_left value high)

-- one more digit
pub number-more : (base : ℕ) (digits : List ℕ) (k value factor digit byte : ℕ) → k < length digits → AllDigits base (take k digits) × (value ≡ digits_value base (take k digits)) → byte ≡ get_or digits k 0 → (digit_value byte < base) × (digit ≡ digit_value byte) → factor ≡ base → AllDigits base (take (k + 1) digits) × (value * factor + digit ≡ digits_value base (take (k + 1) digits))
number-more base digits k value factor digit byte h so_far at one same =
    let here = subst (λ b. digit_value b < base) at one.0 in
    let all : AllDigits base (take (k + 1) digits) = digits_more base digits k h so_far.0 here in
    let sum : value * factor + digit ≡ digits_value base (take k digits) * base + digit_value (get_or digits k 0) =
    (λ i. so_far.1 i * same i + (one.1 ∙ ap digit_value at) i) in
    (all, sum ∙ sym (digits_value_more base digits k h))

-- ten decimal digits
decimal-small : (digits : List ℕ) → length digits ≤ 10 → AllDigits 10 digits → digits_value 10 digits < 10 ^ 10
decimal-small digits few all = omega (arith, digits_value-lt 10 digits all, pow-le-pow_right {n = 10} (lit< tt) few)

-- the digit at a place
pub AllDigits-at : (base : ℕ) (digits : List ℕ) (k : ℕ) → AllDigits base digits → k < length digits → digit_value (get_or digits k 0) < base
AllDigits-at base [] k all h = absurd (omega arith)
AllDigits-at base (digit ∷ digits) zero all h = all.0
AllDigits-at base (digit ∷ digits) (suc k) all h = AllDigits-at base digits k all.1 (omega arith)

-- where the parts of a line stand
pub record Stands (text : List ℕ) (line : Line) : Type 0 where
  pub long : 10 ≤ length text
  pub short : length text ≤ 19
  pub space : get_or text (length text - 9) 0 ≡ 32
  pub clock_digits : AllDigits 10 (take (length text - 9) text)
  pub clock : line.clock ≡ digits_value 10 (take (length text - 9) text)
  pub levels_digits : AllDigits 16 (drop (length text - 9 + 1) text)
  pub levels : line.levels ≡ digits_value 16 (drop (length text - 9 + 1) text)

pub stands-of : (text : List ℕ) (line : Line) → Carries text line → Stands text line
stands-of text line c = record {
  long = omega (arith, len, c.decimal_length.0);
  short = omega (arith, len, c.decimal_length.1);
  space = rw at_space (rw c.parts (get_or-append_seam c.decimal 32 c.hexadecimal 0));
  clock_digits = rw front c.decimal_digits;
  clock = rw front c.clock;
  levels_digits = rw back c.hexadecimal_digits;
  levels = rw back c.levels;
}
  where
    len : length text ≡ length c.decimal + 9
    len = ap length c.parts ∙ length-append c.decimal (32 ∷ c.hexadecimal) ∙ omega (arith, c.hexadecimal_length)

    at_space : length text - 9 ≡ length c.decimal
    at_space = omega (arith, len)

    front : take (length text - 9) text ≡ c.decimal
    front = ap (λ n. take n text) at_space ∙ ap (take (length c.decimal)) c.parts ∙ take-append_seam c.decimal (32 ∷ c.hexadecimal)

    back : drop (length text - 9 + 1) text ≡ c.hexadecimal
    back = ap (λ n. drop (n + 1) text) at_space ∙ ap (drop (length c.decimal + 1)) c.parts ∙ drop-append-add c.decimal (32 ∷ c.hexadecimal) 1

-- a text carries one line
pub carried-one : (text : List ℕ) (a b : Line) → Carries text a → Carries text b → a ≡ b
carried-one text a b p q =
    let s = stands-of text a p in
    let t = stands-of text b q in
    λ i. record { clock = (s.clock ∙ sym t.clock) i; levels = (s.levels ∙ sym t.levels) i }

-- the clock of a carried line is short
pub carried-short : (text : List ℕ) (line : Line) → Carries text line → line.clock < 10 ^ 10
carried-short text line c = omega (arith, decimal-small c.decimal c.decimal_length.1 c.decimal_digits, c.clock)
