-- That nothing of a block is markup, and that its text stands for its bytes.
use Rattle.std.proofs.Common.{◌≡◌, ◌∙◌, ap, ap₂, refl, ℕ, ◌+◌, ◌*◌, ◌/◌, ◌%◌, ◌<◌, Bool, true, false, List, [], ◌∷◌, ◌++◌, codes, flat_map, arith}
use Rattle.std.specs.Prelude.{◌==◌, ◌&&◌, not, if◌then◌else◌}
use Rattle.std.proofs.lemmas.Bool.Decides.{nat_tests}
use Rattle.p8_instr.specs.Numerals.{glyph, hex}
use Rattle.p8_page.specs.Blocks.{is_inert, are_inert, is_plain, escaped, digit_of, unescaped, behind_sign, AreBytes}

hex_two : (n : ℕ) → hex 2 n ≡ glyph (n / 16 % 16) ∷ glyph (n % 16) ∷ []
unfolding hex
hex_two n = refl

glyph_inert : (d : ℕ) → d < 16 → is_inert (glyph d) ≡ true
glyph_inert d lt = grind (arith, nat_tests)

glyph_back : (d : ℕ) → d < 16 → digit_of (glyph d) ≡ d
glyph_back d lt = grind (arith, nat_tests)

both_first : (a b : Bool) → a && b ≡ true → a ≡ true
both_first true b e = refl
both_first false b e = e

not_second : (a b : Bool) → a && not b ≡ true → b ≡ false
not_second a false e = refl
not_second true true e = grind (arith, nat_tests)
not_second false true e = grind (arith, nat_tests)

low_digit : (c : ℕ) → c % 16 < 16
low_digit c = omega arith

both : (first : Bool) (xs ys : List ℕ) → (are_inert xs ≡ true → are_inert (xs ++ ys) ≡ true) → first && are_inert xs ≡ true → first && are_inert (xs ++ ys) ≡ true
both true xs ys rest e = rest e
both false xs ys rest e = e

joined : (xs ys : List ℕ) → are_inert xs ≡ true → are_inert ys ≡ true → are_inert (xs ++ ys) ≡ true
joined [] ys a b = b
joined (x ∷ xs) ys a b = both (is_inert x) xs ys (λ e. joined xs ys e b) a

escape_inert : (plain : Bool) (c : ℕ) → is_plain c ≡ plain → are_inert (if plain then c ∷ [] else codes "%" ++ hex 2 c) ≡ true
escape_inert true c is = ap (λ b. b && true) (both_first (is_inert c) (not (c == 37)) is)
escape_inert false c is =
    ap (λ digits. are_inert (37 ∷ digits)) (hex_two c)
    ∙ ap₂ (λ a b. a && (b && true)) (glyph_inert (c / 16 % 16) (low_digit (c / 16))) (glyph_inert (c % 16) (low_digit c))

pub all_inert : (bytes : List ℕ) → are_inert (flat_map escaped bytes) ≡ true
all_inert [] = refl
all_inert (c ∷ cs) = joined (escaped c) (flat_map escaped cs) (escape_inert (is_plain c) c refl) (all_inert cs)

put_back : (c : ℕ) → c < 256 → 16 * (c / 16 % 16) + c % 16 ≡ c
put_back c lt = omega arith

escape_back : (plain : Bool) (c : ℕ) (rest : List ℕ) → is_plain c ≡ plain → c < 256 → unescaped ((if plain then c ∷ [] else codes "%" ++ hex 2 c) ++ rest) ≡ c ∷ unescaped rest
escape_back true c rest is lt = ap (λ sign. if sign then behind_sign rest else c ∷ unescaped rest) (not_second (is_inert c) (c == 37) is)
escape_back false c rest is lt =
    ap (λ digits. unescaped (37 ∷ (digits ++ rest))) (hex_two c)
    ∙ ap₂ (λ high low. (16 * high + low) ∷ unescaped rest) (glyph_back (c / 16 % 16) (low_digit (c / 16))) (glyph_back (c % 16) (low_digit c))
    ∙ ap (λ n. n ∷ unescaped rest) (put_back c lt)

pub all_back : (bytes : List ℕ) → AreBytes bytes → unescaped (flat_map escaped bytes) ≡ bytes
all_back [] are = refl
all_back (c ∷ cs) are = escape_back (is_plain c) c (flat_map escaped cs) refl are.0 ∙ ap (λ rest. c ∷ rest) (all_back cs are.1)
