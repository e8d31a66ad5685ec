-- Hexadecimal digits, two at a time.
use Rattle.std.proofs.Common.{◌≡◌, ℕ, suc, ◌/◌, [], ◌∷◌, ◌++◌, drop, refl, ap, ◌∙◌, arith, append_assoc}
use Rattle.p8_instr.specs.Numerals.{hex}

-- the last two digits after the others
last_two : (width n : ℕ) → hex (suc (suc width)) n ≡ hex width (n / 256) ++ hex 2 n
unfolding hex
last_two width n =
    let e : n / 16 / 16 ≡ n / 256 = omega arith in
    rw (e, append_assoc) refl

pub word_digits : (n a b c d : ℕ) → a ∷ b ∷ [] ≡ hex 2 (n / 256) → c ∷ d ∷ [] ≡ hex 2 n → a ∷ b ∷ c ∷ d ∷ [] ≡ hex 4 n
word_digits n a b c d first second = rw (last_two 2 n, ← first, ← second) refl

pub long_digits : (n a b c d e f g h : ℕ) → a ∷ b ∷ [] ≡ hex 2 (n / 16777216) → c ∷ d ∷ [] ≡ hex 2 (n / 65536) → e ∷ f ∷ [] ≡ hex 2 (n / 256) → g ∷ h ∷ [] ≡ hex 2 n → a ∷ b ∷ c ∷ d ∷ e ∷ f ∷ g ∷ h ∷ [] ≡ hex 8 n
long_digits n a b c d e f g h first second third fourth =
    let two : n / 256 / 256 ≡ n / 65536 = omega arith in
    let three : n / 65536 / 256 ≡ n / 16777216 = omega arith in
    rw (last_two 6 n, last_two 4 (n / 256), two, last_two 2 (n / 65536), three, ← first, ← second, ← third, ← fourth) refl

-- a register's three digits are the last ones of a word
word_end : (n : ℕ) → drop 1 (hex 4 n) ≡ hex 3 n
unfolding hex
word_end n = refl

pub register_digits : (n a b c d : ℕ) → a ∷ b ∷ [] ≡ hex 2 (n / 256) → c ∷ d ∷ [] ≡ hex 2 n → b ∷ c ∷ d ∷ [] ≡ hex 3 n
register_digits n a b c d first second = ap (drop 1) (word_digits n a b c d first second) ∙ word_end n
