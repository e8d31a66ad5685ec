-- The pieces of the text of a long: what is cut off in front of what.
use Rattle.std.proofs.Common.{◌≡◌, ◌≢◌, ℕ, zero, suc, ◌+◌, ◌*◌, ◌/◌, ◌%◌, ◌<◌, ◌≤◌, true, false, List, [], ◌∷◌, ◌++◌, length, get_or, Some, refl, sym, ap, ◌∙◌, subst, arith}
use Rattle.std.specs.Prelude.{◌==◌, not, if◌then◌else◌, IsTrue, slice_get}
use Rattle.std.specs.List.{list_all}
use Rattle.std.proofs.lemmas.Bool.Decides.{nat_tests}
use Rattle.std.proofs.lemmas.List.{length-append, get_or_append_left, get_or-take}
use denote.Enum.Declared.{tag_of}
use Rattle.p8_lexer.specs.contracts.word.Word.{the_type}
use Rattle.p8_lexer.specs.declared.word.Word.TheVariants as word
use Rattle.p8_lexer.specs.declared.piece.PieceKind.TheVariants.{Token as TokenOf}
use Rattle.p8_lexer.specs.declared.piece.Radix.TheVariants as radix
use Rattle.p8_lexer.specs.declared.piece.Class.{Class}
use Rattle.p8_lexer.specs.declared.piece.Class.TheVariants as class
use Rattle.p8_lexer.specs.declared.token.TokenKind.TheVariants.{Name, Number, Symbol}
use Rattle.p8_lexer.specs.Lexing.{is_letter, is_digit, is_in, digit_value, value_behind, AllIn, Is, Cuts}
use Rattle.p8_lexer.specs.Words.{spelling, symbols}
use Rattle.p8_lexer.proofs.RunLemmas.{digits_longest}
use Rattle.p8_lexer.proofs.Pieces.{number_cut}
use Rattle.p8_lexer.proofs.Symbols.{passes_at, at_tag}
use Rattle.p8_lexer.proofs.Cuts.{name_cut, no_float_at, other_only, symbol_cut}
use Rattle.p8_instr.specs.Numerals.{glyph}

-- names

behind_all : (cs rest : List ℕ) → get_or (cs ++ rest) (length cs) 0 ≡ get_or rest 0 0
behind_all [] rest = refl
behind_all (c ∷ cs) rest = behind_all cs rest

module _ (cs rest : List ℕ) where
  inside : (i : ℕ) → i < length cs → get_or (cs ++ rest) i 0 ≡ get_or cs i 0
  inside i lt = get_or_append_left cs rest 0 i lt

  within : length cs ≤ length (cs ++ rest)
  within = omega (arith, length-append cs rest)

  in_class : (k : Class) (from : ℕ) → AllIn k cs from (length cs) → AllIn k (cs ++ rest) from (length cs)
  in_class k from all i le lt = subst (λ c. IsTrue (is_in k c)) (sym (inside i lt)) (all i le lt)

  -- letters and digits, the first of which is a letter, in front of what is neither
  pub name_piece : 0 < length cs → IsTrue (is_letter (get_or cs 0 0)) → AllIn class.Name cs 1 (length cs) → is_in class.Name (get_or rest 0 0) ≡ false → Cuts (TokenOf Name) (cs ++ rest) (length cs)
  name_piece some letter all stops =
      name_cut (cs ++ rest) (length cs) some within (subst (λ c. IsTrue (is_letter c)) (sym (inside 0 some)) letter) (in_class class.Name 1 all)
      (λ lt. ap (is_in class.Name) (behind_all cs rest) ∙ stops)

-- numbers of three hexadecimal digits

glyph_is : (d : ℕ) → d < 16 → IsTrue (is_digit radix.Hexadecimal (glyph d))
glyph_is d lt = grind (arith, nat_tests)

glyph_adds : (d v : ℕ) → d < 16 → (if glyph d == 95 then v else 16 * v + digit_value (glyph d)) ≡ 16 * v + d
glyph_adds d v lt = grind (arith, nat_tests)

digit_in : (c : ℕ) → IsTrue (is_digit radix.Hexadecimal c) → IsTrue (is_in (class.Digits radix.Hexadecimal) c)
digit_in c h = grind (arith, nat_tests)

no_digit : (c : ℕ) → is_in class.Name c ≡ false → is_in (class.Digits radix.Hexadecimal) c ≡ false
no_digit c h = grind (arith, nat_tests)

module _ (a b c : ℕ) (rest : List ℕ) (first : IsTrue (is_digit radix.Hexadecimal a)) (second : IsTrue (is_digit radix.Hexadecimal b)) (third : IsTrue (is_digit radix.Hexadecimal c)) (stops : is_in class.Name (get_or rest 0 0) ≡ false) where
  digits : AllIn (class.Digits radix.Hexadecimal) (36 ∷ a ∷ b ∷ c ∷ rest) 2 4
  digits zero le lt = absurd (omega arith)
  digits (suc zero) le lt = absurd (omega arith)
  digits (suc (suc zero)) le lt = digit_in b second
  digits (suc (suc (suc zero))) le lt = digit_in c third
  digits (suc (suc (suc (suc i)))) le lt = absurd (omega arith)

  pub three_digits : (v : ℕ) → v ≡ value_behind 16 0 (a ∷ b ∷ c ∷ []) → Cuts (TokenOf (Number v)) (36 ∷ a ∷ b ∷ c ∷ rest) 4
  three_digits v e =
      number_cut (36 ∷ a ∷ b ∷ c ∷ rest) radix.Hexadecimal 4 refl
      (digits_longest radix.Hexadecimal (36 ∷ a ∷ b ∷ c ∷ rest) 1 4 first (omega arith) (omega arith) digits (λ lt. no_digit (get_or rest 0 0) stops))
      (no_float_at (36 ∷ a ∷ b ∷ c ∷ rest) 36 refl refl) v e

pub hexadecimal_piece : (n : ℕ) (rest : List ℕ) → n < 4096 → is_in class.Name (get_or rest 0 0) ≡ false → Cuts (TokenOf (Number n)) (36 ∷ glyph (n / 16 / 16 % 16) ∷ glyph (n / 16 % 16) ∷ glyph (n % 16) ∷ rest) 4
hexadecimal_piece n rest small stops =
    let x = n / 16 / 16 % 16 in
    let y = n / 16 % 16 in
    let z = n % 16 in
    let x_small : n / 16 / 16 % 16 < 16 = omega arith in
    let y_small : n / 16 % 16 < 16 = omega arith in
    let z_small : n % 16 < 16 = omega arith in
    let first : value_behind 16 0 (glyph x ∷ []) ≡ x = glyph_adds x 0 x_small ∙ (let e : 16 * 0 + x ≡ x = omega arith in e) in
    let two : value_behind 16 0 (glyph x ∷ glyph y ∷ []) ≡ 16 * x + y = glyph_adds y (value_behind 16 0 (glyph x ∷ [])) y_small ∙ ap (λ v. 16 * v + y) first in
    let three : value_behind 16 0 (glyph x ∷ glyph y ∷ glyph z ∷ []) ≡ 16 * (16 * x + y) + z = glyph_adds z (value_behind 16 0 (glyph x ∷ glyph y ∷ [])) z_small ∙ ap (λ v. 16 * v + z) two in
    let whole : n ≡ 16 * (16 * (n / 16 / 16 % 16) + n / 16 % 16) + n % 16 = omega arith in
    three_digits (glyph x) (glyph y) (glyph z) rest (glyph_is x x_small) (glyph_is y y_small) (glyph_is z z_small) stops n (whole ∙ sym three)

-- `#` in front of a number

no_dollars : list_all (λ v. not (get_or (spelling v) 1 0 == 36)) symbols ≡ true
unfolding symbols
no_dollars = refl

no_dollar : (c : ℕ) → not (c == 36) ≡ true → c ≢ 36
no_dollar c h e = grind (arith, nat_tests)

pub hash_symbol : slice_get symbols (tag_of the_type word.Hash) ≡ Some word.Hash
hash_symbol = at_tag word.Hash (omega arith)

pub hash_piece : (rest : List ℕ) → Cuts (TokenOf (Symbol (tag_of the_type word.Hash))) (35 ∷ 36 ∷ rest) 1
hash_piece rest = symbol_cut text 1 (tag_of the_type word.Hash) (other_only text refl) (omega arith) longer (word.Hash, hash_symbol, refl)
  where
    text : List ℕ
    text = 35 ∷ 36 ∷ rest

    longer : (s m : ℕ) → 1 < m → m ≤ length text → Is (TokenOf (Symbol s)) text m → ⊥
    longer s m above le (v, at, is) =
        no_dollar (get_or (spelling v) 1 0) (passes_at (λ v. not (get_or (spelling v) 1 0 == 36)) symbols no_dollars s v at)
        (ap (λ t. get_or t 1 0) (sym is) ∙ get_or-take m text 1 0 above)
