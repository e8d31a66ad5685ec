-- A word with a blank after it is cut off as it was written.
use Rattle.std.proofs.Common.{◌≡◌, ℕ, zero, suc, ◌+◌, ◌<◌, ◌≤◌, ◌⊎◌, inl, inr, Bool, true, false, List, [], ◌∷◌, ◌++◌, length, take, get_or, replicate, Some, refl, sym, ap, ◌∙◌, subst, arith}
use Rattle.std.specs.Prelude.{◌==◌, ◌||◌, not, IsTrue, slice_get, unwrap_or}
use Rattle.std.specs.Fmt.{decimal}
use Rattle.std.proofs.lemmas.Bool.Decides.{nat_tests}
use Rattle.std.proofs.lemmas.Bool.{cases_lt}
use Rattle.std.proofs.lemmas.List.{length-append, length-replicate, get_or_append_left, get_or_at, get_or-take, get_or-replicate, take_at, append_assoc}
use denote.Enum.Declared.{tag_of}
use Rattle.p8_lexer.specs.contracts.word.Word.{the_type}
use Rattle.p8_lexer.specs.declared.word.Word.{Word}
use Rattle.p8_lexer.specs.declared.word.Word.TheVariants as word
use Rattle.p8_lexer.specs.declared.piece.PieceKind.TheVariants.{Blank, Token as TokenOf}
use Rattle.p8_lexer.specs.declared.piece.Radix.TheVariants as radix
use Rattle.p8_lexer.specs.declared.piece.Class.{Class}
use Rattle.p8_lexer.specs.declared.piece.Class.TheVariants as class
use Rattle.p8_lexer.specs.declared.token.TokenKind.{TokenKind}
use Rattle.p8_lexer.specs.declared.token.TokenKind.TheVariants.{Name, Number, Float, Str, Symbol, LineEnd}
use Rattle.p8_lexer.specs.Lexing.{is_letter, is_digit, is_in, value_behind, AllIn, Is, Cuts, IsGood}
use Rattle.p8_lexer.specs.Cutting.{OnlySymbols}
use Rattle.p8_lexer.specs.Words.{spelling, symbols, word_of_kind}
use Rattle.p8_lexer.proofs.RunLemmas.{digits_longest, no_digits}
use Rattle.p8_lexer.proofs.Pieces.{class_of, may, begins, number_cut, no_float, after_mark}
use Rattle.p8_lexer.proofs.Symbols.{symbol_first, symbol_length, is_symbol_first, dollar_alone}
use Rattle.p8_lexer.proofs.Cuts.{blank_cut, one_cut, name_cut, string_cut, symbol_cut, dollar_only, other_only}
use Rattle.p8_print.specs.Spelled.{Spelled, reserved, name, label, number, string, IsReadable, spell}
use Rattle.p8_printed.specs.Reading.{IsKind, word_read}
use Rattle.p8_printed.proofs.SpelledWords.{HasLetters, IsReserved, reserved_is, spelled_back, no_blank_inside, AreDigitsOf, decimal_digits}

-- characters with a blank after them
module _ (cs rest : List ℕ) where
  at_end : get_or (cs ++ 32 ∷ rest) (length cs) 0 ≡ 32
  at_end = get_or_at cs 32 rest 0 (length cs) refl

  inside : (i : ℕ) → i < length cs → get_or (cs ++ 32 ∷ rest) i 0 ≡ get_or cs i 0
  inside i lt = get_or_append_left cs (32 ∷ rest) 0 i lt

  within : length cs ≤ length (cs ++ 32 ∷ rest)
  within = omega (arith, length-append cs (32 ∷ rest))

  front : take (length cs) (cs ++ 32 ∷ rest) ≡ cs
  front = take_at cs (32 ∷ rest) (length cs) refl

  in_class : (k : Class) (from : ℕ) → AllIn k cs from (length cs) → AllIn k (cs ++ 32 ∷ rest) from (length cs)
  in_class k from all i le lt = subst (λ c. IsTrue (is_in k c)) (sym (inside i lt)) (all i le lt)

  stops_at : (k : Class) → is_in k 32 ≡ false → is_in k (get_or (cs ++ 32 ∷ rest) (length cs) 0) ≡ false
  stops_at k h = ap (is_in k) at_end ∙ h

  -- names, and reserved words of letters

  name_piece : 0 < length cs → IsTrue (is_letter (get_or cs 0 0)) → AllIn class.Name cs 1 (length cs) → Cuts (TokenOf Name) (cs ++ 32 ∷ rest) (length cs)
  name_piece some letter all =
      name_cut (cs ++ 32 ∷ rest) (length cs) some within (subst (λ c. IsTrue (is_letter c)) (sym (inside 0 some)) letter) (in_class class.Name 1 all) (λ lt. stops_at class.Name refl)

  -- symbols

  longer : (w : Word) (s m : ℕ) → length cs < m → m ≤ length (cs ++ 32 ∷ rest) → Is (TokenOf (Symbol s)) (cs ++ 32 ∷ rest) m → ⊥
  longer w s m above le (v, at, is) =
      no_blank_inside s (length cs) v at (omega (arith, symbol_length (cs ++ 32 ∷ rest) s m v at is le))
      (ap (λ t. get_or t (length cs) 0) (sym is) ∙ get_or-take m (cs ++ 32 ∷ rest) (length cs) 0 above ∙ at_end)

  two_classes : (c : ℕ) → is_symbol_first c ≡ true → (c ≡ 36) ⊎ IsTrue ((class_of c == 9) || (class_of c == 10))
  two_classes c h = go (c == 36) refl
    where
      go : (b : Bool) → (c == 36) ≡ b → (c ≡ 36) ⊎ IsTrue ((class_of c == 9) || (class_of c == 10))
      go true e = inl (grind (arith, nat_tests))
      go false e = inr (grind (arith, nat_tests))

  symbol_piece : (w : Word) (s : ℕ) → cs ≡ spelling w → slice_get symbols s ≡ Some w → Cuts (TokenOf (Symbol s)) (cs ++ 32 ∷ rest) (length cs)
  symbol_piece w s e at = symbol_cut text (length cs) s (only (two_classes (get_or text 0 0) (symbol_first text s (length cs) w at is))) within (longer w) (w, at, is)
    where
      text : List ℕ
      text = cs ++ 32 ∷ rest

      is : take (length cs) (cs ++ 32 ∷ rest) ≡ spelling w
      is = front ∙ e

      no_digit : length cs ≡ 1 → is_digit radix.Hexadecimal (get_or (cs ++ 32 ∷ rest) 1 0) ≡ false
      no_digit one = ap (λ n. is_digit radix.Hexadecimal (get_or (cs ++ 32 ∷ rest) n 0)) (sym one) ∙ ap (is_digit radix.Hexadecimal) at_end

      only : (get_or (cs ++ 32 ∷ rest) 0 0 ≡ 36) ⊎ IsTrue ((class_of (get_or (cs ++ 32 ∷ rest) 0 0) == 9) || (class_of (get_or (cs ++ 32 ∷ rest) 0 0) == 10)) → OnlySymbols (cs ++ 32 ∷ rest)
      only (inl d) = dollar_only (cs ++ 32 ∷ rest) d (no_digits radix.Hexadecimal (cs ++ 32 ∷ rest) 1 (λ lt. no_digit (dollar_alone (cs ++ 32 ∷ rest) s (length cs) w at is within d)))
      only (inr o) = other_only (cs ++ 32 ∷ rest) o

  -- numbers

  no_tail_at : (c : ℕ) → c ≡ 32 → (c ≡ 46) ⊎ ((c ≡ 69) ⊎ (c ≡ 101)) → ⊥
  no_tail_at c e h = grind (arith, nat_tests)

  digit_in : (c : ℕ) → IsTrue (is_digit radix.Decimal c) → IsTrue (is_in (class.Digits radix.Decimal) c)
  digit_in c h = grind (arith, nat_tests)

  number_piece : (v : ℕ) → AreDigitsOf v cs → Cuts (TokenOf (Number v)) (cs ++ 32 ∷ rest) (length cs)
  number_piece v d =
      let digits = digits_longest radix.Decimal (cs ++ 32 ∷ rest) 0 (length cs) (subst (λ c. IsTrue (is_digit radix.Decimal c)) (sym (inside 0 d.some)) (d.digits 0 d.some)) d.some within
      (in_class (class.Digits radix.Decimal) 1 (λ i le lt. digit_in (get_or cs i 0) (d.digits i lt))) (λ lt. stops_at (class.Digits radix.Decimal) refl) in
      number_cut (cs ++ 32 ∷ rest) radix.Decimal (length cs) refl digits
      (no_float (cs ++ 32 ∷ rest) (length cs) digits (λ n le t. no_tail_at (get_or (cs ++ 32 ∷ rest) (length cs) 0) at_end (after_mark (cs ++ 32 ∷ rest) (length cs) n t).0))
      v (sym d.value ∙ ap (value_behind 10 0) (sym front))

-- strings

module _ (s rest : List ℕ) (all : AllIn class.Quoted s 0 (length s)) where
  quoted : List ℕ
  quoted = 34 ∷ (s ++ 34 ∷ [])

  behind_quote : (34 ∷ (s ++ 34 ∷ [])) ++ 32 ∷ rest ≡ 34 ∷ (s ++ 34 ∷ (32 ∷ rest))
  behind_quote = ap (λ t. 34 ∷ t) (append_assoc s (34 ∷ []) (32 ∷ rest))

  between_quotes : AllIn class.Quoted (34 ∷ (s ++ 34 ∷ (32 ∷ rest))) 1 (length s + 1)
  between_quotes zero le lt = absurd (omega arith)
  between_quotes (suc i) le lt = subst (λ c. IsTrue (is_in class.Quoted c)) (sym (get_or_append_left s (34 ∷ (32 ∷ rest)) 0 i (omega arith))) (all i (omega arith) (omega arith))

  closing : get_or (34 ∷ (s ++ 34 ∷ (32 ∷ rest))) (length s + 1) 0 ≡ 34
  closing = let e : length s + 1 ≡ suc (length s) = omega arith in ap (λ n. get_or (34 ∷ (s ++ 34 ∷ (32 ∷ rest))) n 0) e ∙ get_or_at s 34 (32 ∷ rest) 0 (length s) refl

  pub string_piece : Cuts (TokenOf Str) ((34 ∷ (s ++ 34 ∷ [])) ++ 32 ∷ rest) (length (34 ∷ (s ++ 34 ∷ [])))
  string_piece =
      let long : length s + 1 ≤ length (34 ∷ (s ++ 34 ∷ (32 ∷ rest))) = omega (arith, length-append s (34 ∷ (32 ∷ rest))) in
      let above : length s + 1 < length (34 ∷ (s ++ 34 ∷ (32 ∷ rest))) = omega (arith, length-append s (34 ∷ (32 ∷ rest))) in
      let cut = string_cut (34 ∷ (s ++ 34 ∷ (32 ∷ rest))) (length s + 1) (omega arith) long refl between_quotes above closing in
      let size : length s + 1 + 1 ≡ length (34 ∷ (s ++ 34 ∷ [])) = omega (arith, length-append s (34 ∷ [])) in
      subst (λ t. Cuts (TokenOf Str) t (length (34 ∷ (s ++ 34 ∷ [])))) (sym behind_quote) (subst (Cuts (TokenOf Str) (34 ∷ (s ++ 34 ∷ (32 ∷ rest)))) size cut)

quoted_line : (c : ℕ) → IsTrue (is_in class.Quoted c) → IsTrue (is_in class.Line c)
quoted_line c h = grind (arith, nat_tests)

string_line : (s : List ℕ) → AllIn class.Quoted s 0 (length s) → AllIn class.Line (34 ∷ (s ++ 34 ∷ [])) 0 (length (34 ∷ (s ++ 34 ∷ [])))
string_line s all zero le lt = refl
string_line s all (suc i) le lt = go (cases_lt i (length s))
  where
    go : (i < length s) ⊎ (length s ≤ i) → IsTrue (is_in class.Line (get_or (s ++ 34 ∷ []) i 0))
    go (inl small) = subst (λ c. IsTrue (is_in class.Line c)) (sym (get_or_append_left s (34 ∷ []) 0 i small)) (quoted_line (get_or s i 0) (all i (omega arith) small))
    go (inr large) =
        let e : length s ≡ i = omega (arith, length-append s (34 ∷ [])) in
        subst (λ c. IsTrue (is_in class.Line c)) (sym (ap (λ i. get_or (s ++ 34 ∷ []) i 0) (sym e) ∙ get_or_at s 34 [] 0 (length s) refl)) refl

-- all that is known of a word that is written
pub record IsCutOff (w : Spelled) (rest : List ℕ) : Type 0 where
  pub kind : TokenKind
  pub cut : Cuts (TokenOf kind) (spell w ++ 32 ∷ rest) (length (spell w))
  pub good : IsGood (TokenOf kind) (spell w ++ 32 ∷ rest) (length (spell w))
  pub is_kind : IsKind w kind
  pub word : word_of_kind (spell w) kind ≡ word_read w
  pub on_a_line : AllIn class.Line (spell w) 0 (length (spell w))

name_line : (c : ℕ) → IsTrue (is_in class.Name c) → IsTrue (is_in class.Line c)
name_line c h = grind (arith, nat_tests)

letter_name : (c : ℕ) → IsTrue (is_letter c) → IsTrue (is_in class.Name c)
letter_name c h = grind (arith, nat_tests)

digit_line : (c : ℕ) → IsTrue (is_digit radix.Decimal c) → IsTrue (is_in class.Line c)
digit_line c h = grind (arith, nat_tests)

name_on_line : (n : List ℕ) → IsTrue (is_letter (get_or n 0 0)) → AllIn class.Name n 1 (length n) → AllIn class.Line n 0 (length n)
name_on_line n letter all zero le lt = name_line (get_or n 0 0) (letter_name (get_or n 0 0) letter)
name_on_line n letter all (suc i) le lt = name_line (get_or n (suc i) 0) (all (suc i) (omega arith) lt)

reserved_cut : (w : Word) (rest : List ℕ) → IsReserved w → IsCutOff (reserved w) rest
unfolding spell
reserved_cut w rest r = go r.kind
  where
    go : (slice_get symbols (tag_of the_type w) ≡ Some w) ⊎ HasLetters w → IsCutOff (reserved w) rest
    go (inl at) =
        record {
          kind = Symbol (tag_of the_type w);
          cut = symbol_piece (spelling w) rest w (tag_of the_type w) refl at;
          good = tt;
          is_kind = inr (tag_of the_type w, refl, at);
          word = ap (λ r. unwrap_or r word.Name) at;
          on_a_line = λ i le lt. r.on_a_line i lt;
        }
    go (inr h) =
        record {
          kind = Name;
          cut = name_piece (spelling w) rest r.some h.first (λ i le lt. h.all i lt);
          good = h.short;
          is_kind = inl (refl, h.first);
          word = ap (λ r. unwrap_or r word.Name) (spelled_back w r);
          on_a_line = λ i le lt. r.on_a_line i lt;
        }

pub cut_off : (w : Spelled) (rest : List ℕ) → IsReadable w → IsCutOff w rest
unfolding spell
cut_off (reserved w) rest h = reserved_cut w rest (reserved_is w h)
cut_off (name n) rest (some, short, letter, all, free) =
    record {
      kind = Name;
      cut = name_piece n rest some letter all;
      good = short;
      is_kind = refl;
      word = ap (λ r. unwrap_or r word.Name) free;
      on_a_line = name_on_line n letter all;
    }
cut_off (label n) rest (some, short, letter, all) =
    record {
      kind = Name;
      cut = name_piece n rest some letter all;
      good = short;
      is_kind = refl;
      word = refl;
      on_a_line = name_on_line n letter all;
    }
cut_off (number v) rest h =
    let d = decimal_digits v (omega arith) in
    record {
      kind = Number v;
      cut = number_piece (decimal v) rest v d;
      good = (h, stops_at (decimal v) rest class.Name refl);
      is_kind = refl;
      word = refl;
      on_a_line = λ i le lt. digit_line (get_or (decimal v) i 0) (d.digits i lt);
    }
cut_off (string s) rest (all, small) =
    record {
      kind = Str;
      cut = string_piece s rest all;
      good = tt;
      is_kind = refl;
      word = refl;
      on_a_line = string_line s all;
    }

-- what a word begins with is no blank, and of ASCII, so that it is no mark of an encoding

first_class : (k : TokenKind) (c : ℕ) → IsTrue (may (TokenOf k) c) → IsTrue (not ((c == 1) || (c == 10)))
first_class Name c h = grind (arith, nat_tests)
first_class (Number v) c h = grind (arith, nat_tests)
first_class Float c h = grind (arith, nat_tests)
first_class Str c h = grind (arith, nat_tests)
first_class (Symbol s) c h = grind (arith, nat_tests)
first_class LineEnd c h = grind (arith, nat_tests)

class_not_blank : (c : ℕ) → IsTrue (not ((class_of c == 1) || (class_of c == 10))) → is_in class.Blank c ≡ false
class_not_blank c h = grind (arith, nat_tests)

class_small : (c : ℕ) → IsTrue (not ((class_of c == 1) || (class_of c == 10))) → c < 128
class_small c h = grind (arith, nat_tests)

module _ (w : Spelled) (rest : List ℕ) (cut : IsCutOff w rest) where
  first_is : IsTrue (not ((class_of (get_or (spell w ++ 32 ∷ rest) 0 0) == 1) || (class_of (get_or (spell w ++ 32 ∷ rest) 0 0) == 10)))
  first_is = first_class cut.kind (class_of (get_or (spell w ++ 32 ∷ rest) 0 0)) (begins (TokenOf cut.kind) (spell w ++ 32 ∷ rest) (length (spell w)) cut.cut.is)

  pub begins_no_blank : is_in class.Blank (get_or (spell w ++ 32 ∷ rest) 0 0) ≡ false
  begins_no_blank = class_not_blank (get_or (spell w ++ 32 ∷ rest) 0 0) first_is

  pub begins_small : get_or (spell w ++ 32 ∷ rest) 0 0 < 128
  begins_small = class_small (get_or (spell w ++ 32 ∷ rest) 0 0) first_is

-- blanks, and the end of a line

blanks_in : (n : ℕ) (rest : List ℕ) (i : ℕ) → i < n → get_or (replicate n 32 ++ rest) i 0 ≡ 32
blanks_in n rest i lt = get_or_append_left (replicate n 32) rest 0 i (omega (arith, length-replicate {A = ℕ} n 32)) ∙ get_or-replicate n i 32 0 lt

is_blank : (c : ℕ) → c ≡ 32 → IsTrue (is_in class.Blank c)
is_blank c e = grind (arith, nat_tests)

behind_blanks : (n : ℕ) (rest : List ℕ) → get_or (replicate n 32 ++ rest) n 0 ≡ get_or rest 0 0
behind_blanks zero rest = refl
behind_blanks (suc n) rest = behind_blanks n rest

pub blanks_piece : (n : ℕ) (rest : List ℕ) → 0 < n → is_in class.Blank (get_or rest 0 0) ≡ false → Cuts Blank (replicate n 32 ++ rest) n
blanks_piece n rest some stop =
    blank_cut (replicate n 32 ++ rest) n some (omega (arith, length-append (replicate n 32) rest, length-replicate {A = ℕ} n 32)) (is_blank (get_or (replicate n 32 ++ rest) 0 0) (blanks_in n rest 0 some))
    (λ i le lt. is_blank (get_or (replicate n 32 ++ rest) i 0) (blanks_in n rest i lt)) (λ lt. ap (is_in class.Blank) (behind_blanks n rest) ∙ stop)

pub line_end_piece : (rest : List ℕ) → Cuts (TokenOf LineEnd) (10 ∷ rest) 1
line_end_piece rest = one_cut (10 ∷ rest) (omega arith) refl (λ e. absurd (omega arith))
