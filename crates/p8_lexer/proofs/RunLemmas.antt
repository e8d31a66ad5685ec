-- Runs of characters of a class, and digits.
use Rattle.std.proofs.Common.{◌≡◌, ℕ, ◌+◌, ◌<◌, ◌≤◌, Bool, true, false, List, length, get_or, arith}
use Rattle.std.specs.Prelude.{IsTrue}
use Rattle.p8_lexer.specs.declared.piece.Radix.{Radix}
use Rattle.p8_lexer.specs.declared.piece.Class.{Class}
use Rattle.p8_lexer.specs.declared.piece.Class.TheVariants as class
use Rattle.p8_lexer.specs.Lexing.{is_digit, is_in, AllIn, AreDigits}
use Rattle.p8_lexer.specs.Cutting.{IsGreatest}

pub not_both : (b : Bool) → b ≡ false → IsTrue b → ⊥
not_both true e h = cc
not_both false e h = cc

-- a run that stops can't go on
pub run_stops : (k : Class) (text : List ℕ) (from end : ℕ) → from ≤ end → (end < length text → is_in k (get_or text end 0) ≡ false) → (m : ℕ) → end < m → m ≤ length text → AllIn k text from m → ⊥
run_stops k text from end le stops m above within all = not_both (is_in k (get_or text end 0)) (stops (omega arith)) (all end le above)

pub digits_longest : (r : Radix) (text : List ℕ) (from end : ℕ) → IsTrue (is_digit r (get_or text from 0)) → from + 1 ≤ end → end ≤ length text → AllIn (class.Digits r) text (from + 1) end → (end < length text → is_in (class.Digits r) (get_or text end 0) ≡ false) → IsGreatest (AreDigits r text from) (length text) end
digits_longest r text from end digit after within all stops =
    record {
      within = within;
      holds = (omega arith, digit, all);
      greatest = λ m above w d. run_stops (class.Digits r) text (from + 1) end after stops m above w d.2;
    }

pub no_digits : (r : Radix) (text : List ℕ) (from : ℕ) → (from < length text → is_digit r (get_or text from 0) ≡ false) → (n : ℕ) → n ≤ length text → AreDigits r text from n → ⊥
no_digits r text from h n within d = not_both (is_digit r (get_or text from 0)) (h (omega (arith, d.0))) d.1
