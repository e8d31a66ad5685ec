-- The eight digits of a long, two at a time.
use Rattle.std.proofs.Common.{◌≡◌, ℕ, suc, ◌/◌, List, ◌++◌, refl, ap, ◌∙◌, arith, append_assoc}
use Rattle.p8_instr.specs.Numerals.{hex}

-- the last two digits after the others
last_two : (width n : ℕ) → hex (suc (suc width)) n ≡ hex width (n / 256) ++ hex 2 n
unfolding hex
last_two width n =
    let e : n / 16 / 16 ≡ n / 256 = omega arith in
    rw (e, append_assoc) refl

by_twos : (n : ℕ) → ((hex 2 (n / 16777216) ++ hex 2 (n / 65536)) ++ hex 2 (n / 256)) ++ hex 2 n ≡ hex 8 n
by_twos n =
    let two : n / 256 / 256 ≡ n / 65536 = omega arith in
    let three : n / 65536 / 256 ≡ n / 16777216 = omega arith in
    rw (last_two 6 n, last_two 4 (n / 256), two, last_two 2 (n / 65536), three) refl

pieces : (before text a b c d : List ℕ) → (((before ++ (text ++ a)) ++ b) ++ c) ++ d ≡ before ++ (text ++ (((a ++ b) ++ c) ++ d))
pieces before text a b c d = simp append_assoc

pub long_text : (n : ℕ) (before text one two three four : List ℕ) → one ≡ before ++ (text ++ hex 2 (n / 16777216)) → two ≡ one ++ hex 2 (n / 65536) → three ≡ two ++ hex 2 (n / 256) → four ≡ three ++ hex 2 n → four ≡ before ++ (text ++ hex 8 n)
long_text n before text one two three four first second third fourth =
    fourth
    ∙ ap (λ (xs : List ℕ). xs ++ hex 2 n) (third ∙ ap (λ (xs : List ℕ). xs ++ hex 2 (n / 256)) (second ∙ ap (λ (xs : List ℕ). xs ++ hex 2 (n / 65536)) first))
    ∙ pieces before text _ _ _ _
    ∙ ap (λ (xs : List ℕ). before ++ (text ++ xs)) (by_twos n)
