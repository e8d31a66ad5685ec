-- The tokens of a file are tokens that a source can have.
use Rattle.std.proofs.Common.{◌≡◌, ℕ, zero, suc, ◌+◌, ◌-◌, ◌*◌, ◌<◌, ◌≤◌, Bool, true, false, List, [], ◌∷◌, length, map, take, drop, get_or, Option, Some, None, refl, sym, ap, ◌∙◌, subst, arith}
use Rattle.std.specs.Prelude.{◌==◌, not, if◌then◌else◌, IsTrue, All, filter_map, slice_get, unwrap_or}
use Rattle.std.specs.List.{list_all}
use Rattle.std.proofs.lemmas.Bool.Decides.{nat_tests}
use Rattle.std.proofs.lemmas.List.{length-map, length-drop, length-take-le, drop-drop, get_or-map, get_or-take, get_or-drop}
use Rattle.std.proofs.lemmas.List.Elements.{All-nil, All-cons}
use Rattle.p8_lexer.specs.declared.piece.PieceKind.{PieceKind}
use Rattle.p8_lexer.specs.declared.piece.PieceKind.TheVariants.{Blank, LineComment, Comment, DocComment, Token as TokenOf}
use Rattle.p8_lexer.specs.declared.piece.Class.TheVariants as class
use Rattle.p8_lexer.specs.declared.token.Token as lexer_token
use Rattle.p8_lexer.specs.declared.token.TokenKind.{TokenKind}
use Rattle.p8_lexer.specs.declared.token.TokenKind.TheVariants as kind
use Rattle.p8_lexer.specs.declared.word.Word.{Word}
use Rattle.p8_lexer.specs.declared.word.Word.TheVariants as word_case
use Rattle.p8_lexer.specs.Characters.{is_utf16, mark_length, units, decoded, text_of, offset_of}
use Rattle.p8_lexer.specs.Places.{place_of}
use Rattle.p8_lexer.specs.Lexing.{is_letter, is_in, AllIn, Is, Cuts, IsGood, Piece, CutsUpTo, token_of as token_of_piece}
use Rattle.p8_lexer.specs.Words.{symbols, every_word, capital, is_spelled, first_spelled, word_spelled, word_of_kind}
use Rattle.p8_lexer.proofs.Units.{units-drop, units-take}
use Rattle.p8_lexer.proofs.Symbols.{passes_at}
use Rattle.p8_lexer.proofs.Searches.{spells}
use Rattle.p8_grammar.specs.Lexemes.{Lexeme, number, name, string, mark, sign, assigns, object_address, reserved}
use Rattle.p8_expr.specs.Words.{lexeme_of_word, between_quotes, lexeme_by_word, reserved_as, lexeme_by_kind, lexeme_of_token, token_of}
use Rattle.p8_expr.specs.Sources.{IsOfLetters, IsLexeme, AreLexemes}
use Rattle.p8_grammar.specs.Proper.{lexeme_in}

-- symbols and reserved words

-- neither a symbol nor a reserved word
abbrev is_free : Word → Bool
is_free word_case.Name = true
is_free word_case.Number = true
is_free word_case.FloatNumber = true
is_free word_case.Str = true
is_free word_case.LineEnd = true
is_free _ = false

no_name : (text : List ℕ) (w : Word) → is_free w ≡ false → lexeme_by_word text w ≡ lexeme_of_word w
no_name text word_case.Name h = absurd cc
no_name text _ h = refl

-- neither a number nor a name nor a string, and without characters of its own
abbrev is_plain : Lexeme → Bool
is_plain (number n) = false
is_plain (name n) = false
is_plain (string s) = false
is_plain (reserved n x) = false
is_plain _ = true

words_plain : (w : Word) → is_plain (lexeme_of_word w) ≡ true
unfolding lexeme_of_word
words_plain word_case.PlusPlus = refl
words_plain _ = refl

plain_is : (x : Lexeme) → is_plain x ≡ true → (w : Word) → lexeme_of_word w ≡ x → IsLexeme x
plain_is (number n) h w e = absurd cc
plain_is (name n) h w e = absurd cc
plain_is (string s) h w e = absurd cc
plain_is (reserved n x) h w e = absurd cc
plain_is x h w e = (w, e)

word_is : (w : Word) → IsLexeme (lexeme_of_word w)
word_is w = plain_is (lexeme_of_word w) (words_plain w) w refl

by_word_is : (text : List ℕ) (w : Word) → is_free w ≡ false → IsLexeme (lexeme_by_word text w)
by_word_is text w h = subst IsLexeme (sym (no_name text w h)) (word_is w)

no_symbol_free : list_all (λ w. not (is_free w)) symbols ≡ true
unfolding symbols
no_symbol_free = refl

negated : (b : Bool) → not b ≡ true → b ≡ false
negated true h = absurd cc
negated false h = refl

symbol_not_free : (s : ℕ) (w : Word) → slice_get symbols s ≡ Some w → is_free w ≡ false
symbol_not_free s w at = negated (is_free w) (passes_at (λ w. not (is_free w)) symbols no_symbol_free s w at)

symbol_is : (text : List ℕ) (s : ℕ) (w : Word) → slice_get symbols s ≡ Some w → IsLexeme (lexeme_by_word text (word_of_kind text (kind.Symbol s)))
symbol_is text s w at = subst (λ r. IsLexeme (lexeme_by_word text (unwrap_or r word_case.Name))) (sym at) (by_word_is text w (symbol_not_free s w at))

-- names

no_empty : (w : Word) (text : List ℕ) → is_free w ≡ true → 0 < length text → is_spelled w text ≡ false
no_empty word_case.Name (c ∷ cs) h some = refl
no_empty word_case.Number (c ∷ cs) h some = refl
no_empty word_case.FloatNumber (c ∷ cs) h some = refl
no_empty word_case.Str (c ∷ cs) h some = refl
no_empty word_case.LineEnd (c ∷ cs) h some = refl
no_empty w [] h some = absurd (omega arith)
no_empty _ (c ∷ cs) h some = absurd cc

spelled_not_free : (text : List ℕ) (w : Word) → 0 < length text → word_spelled text ≡ Some w → is_free w ≡ false
spelled_not_free text w some e = go (is_free w) refl
  where
    go : (b : Bool) → is_free w ≡ b → is_free w ≡ false
    go false h = h
    go true h =
        let is : is_spelled w (map capital text) ≡ true = spells (map capital text) every_word w e in
        let isnt : is_spelled w (map capital text) ≡ false = no_empty w (map capital text) h (omega (arith, length-map text capital)) in
        absurd cc

capital_again : (c : ℕ) → capital (capital c) ≡ capital c
capital_again c = grind (arith, nat_tests)

capitals_again : (cs : List ℕ) → map capital (map capital cs) ≡ map capital cs
capitals_again [] = refl
capitals_again (c ∷ cs) = let e = capital_again c in let es = capitals_again cs in cc

capital_letter : (c : ℕ) → IsTrue (is_letter c) → IsTrue (is_letter (capital c))
capital_letter c h = grind (arith, nat_tests)

capital_name : (c : ℕ) → IsTrue (is_in class.Name c) → IsTrue (is_in class.Name (capital c))
capital_name c h = grind (arith, nat_tests)

in_capitals : (text : List ℕ) → IsOfLetters text → IsOfLetters (map capital text)
in_capitals text (some, short, letter, all) = (
  omega (arith, length-map text capital),
  omega (arith, length-map text capital),
  subst (λ c. IsTrue (is_letter c)) (sym (get_or-map capital text 0 0 0 some)) (capital_letter (get_or text 0 0) letter),
  in_class,
)
  where
    in_class : AllIn class.Name (map capital text) 1 (length (map capital text))
    in_class i le lt =
        let small : i < length text = omega (arith, length-map text capital) in
        subst (λ c. IsTrue (is_in class.Name c)) (sym (get_or-map capital text i 0 0 small)) (capital_name (get_or text i 0) (all i le small))

name_is : (text : List ℕ) → IsOfLetters text → word_spelled text ≡ None → IsLexeme (name (map capital text))
name_is text letters free = ((of_letters.0, of_letters.1, of_letters.2, of_letters.3, ap (λ t. first_spelled t every_word) (capitals_again text) ∙ free), capitals_again text)
  where
    of_letters : IsOfLetters (map capital text)
    of_letters = in_capitals text letters

reserved_is : (text : List ℕ) (x : Lexeme) → IsOfLetters text → is_plain x ≡ true → (w : Word) → word_spelled text ≡ Some w → lexeme_of_word w ≡ x → IsLexeme (reserved_as (map capital text) x)
reserved_is text (number m) letters plain w s e = absurd cc
reserved_is text (name m) letters plain w s e = absurd cc
reserved_is text (string m) letters plain w s e = absurd cc
reserved_is text (reserved m x) letters plain w s e = absurd cc
reserved_is text (mark m) letters plain w s e = (w, e)
reserved_is text (sign k j) letters plain w s e = (w, e)
reserved_is text (assigns o) letters plain w s e = (w, e)
reserved_is text object_address letters plain w s e = (w, e)
reserved_is text x letters plain w s e = (in_capitals text letters, capitals_again text, (w, ap (λ t. first_spelled t every_word) (capitals_again text) ∙ s, e))

word_as : (text : List ℕ) (w : Word) → is_free w ≡ false → word_spelled text ≡ Some w → IsOfLetters text → IsLexeme (reserved_as (map capital text) (lexeme_by_word text w))
word_as text w h s letters = subst (λ x. IsLexeme (reserved_as (map capital text) x)) (sym (no_name text w h)) (reserved_is text (lexeme_of_word w) letters (words_plain w) w s refl)

name_or_word : (text : List ℕ) → IsOfLetters text → IsLexeme (lexeme_by_kind text (word_of_kind text kind.Name) kind.Name)
name_or_word text letters = go (word_spelled text) refl
  where
    go : (r : Option Word) → word_spelled text ≡ r → IsLexeme (reserved_as (map capital text) (lexeme_by_word text (unwrap_or r word_case.Name)))
    go None h = name_is text letters h
    go (Some w) h = word_as text w (spelled_not_free text w letters.0 h) h letters

-- strings

-- each of them is a byte
abbrev pub AreBytes : List ℕ → Type 0
AreBytes cs = (i : ℕ) → i < length cs → get_or cs i 0 < 256

string_is : (text : List ℕ) → 1 < length text → AllIn class.Quoted text 1 (length text - 1) → AreBytes text → IsLexeme (string (between_quotes text))
string_is text some all small = (quoted, below)
  where
    long : length (between_quotes text) ≡ length text - 2
    long = length-take-le (length text - 2) (drop 1 text) (omega (arith, length-drop 1 text))

    inside : (i : ℕ) → i < length text - 2 → get_or (between_quotes text) i 0 ≡ get_or text (1 + i) 0
    inside i lt = get_or-take (length text - 2) (drop 1 text) i 0 lt ∙ get_or-drop 1 text i 0

    quoted : AllIn class.Quoted (between_quotes text) 0 (length (between_quotes text))
    quoted i le lt =
        let within : i < length text - 2 = omega (arith, long) in
        subst (λ c. IsTrue (is_in class.Quoted c)) (sym (inside i within)) (all (1 + i) (omega arith) (omega arith))

    below : (i : ℕ) → i < length (between_quotes text) → get_or (between_quotes text) i 0 < 256
    below i lt =
        let within : i < length text - 2 = omega (arith, long) in
        subst (λ c. c < 256) (sym (inside i within)) (small (1 + i) (omega arith))

-- the first characters of a text

module _ (text : List ℕ) (n : ℕ) (within : n ≤ length text) where
  front_length : length (take n text) ≡ n
  front_length = length-take-le n text within

  front_at : (i : ℕ) → i < n → get_or (take n text) i 0 ≡ get_or text i 0
  front_at i lt = get_or-take n text i 0 lt

  front_small : AreBytes text → AreBytes (take n text)
  front_small small i lt = subst (λ c. c < 256) (sym (front_at i (omega (arith, front_length)))) (small i (omega (arith, front_length)))

  front_in : (k : _) (from to : ℕ) → to ≤ n → AllIn k text from to → AllIn k (take n text) from to
  front_in k from to le all i above below = subst (λ c. IsTrue (is_in k c)) (sym (front_at i (omega arith))) (all i above below)

  pub kind_is : (k : TokenKind) → Is (TokenOf k) text n → IsGood (TokenOf k) text n → AreBytes text → IsLexeme (lexeme_by_kind (take n text) (word_of_kind (take n text) k) k)
  kind_is kind.Name is good small =
      name_or_word (take n text) (
        omega (arith, front_length, is.0),
        omega (arith, front_length, good),
        subst (λ c. IsTrue (is_letter c)) (sym (front_at 0 is.0)) is.1,
        subst (AllIn class.Name (take n text) 1) (sym front_length) (front_in class.Name 1 n (omega arith) is.2),
      )
  kind_is (kind.Number v) is good small = good.0
  kind_is kind.Float is good small = word_is word_case.FloatNumber
  kind_is kind.Str is good small =
      string_is (take n text) (omega (arith, front_length, is.0)) (subst (λ m. AllIn class.Quoted (take n text) 1 (m - 1)) (sym front_length) (front_in class.Quoted 1 (n - 1) (omega arith) is.2)) (front_small small)
  kind_is (kind.Symbol s) (w, at, is) good small = symbol_is (take n text) s w at
  kind_is kind.LineEnd is good small = word_is word_case.LineEnd

-- the characters of a file's tokens

unit_small : (b : Bool) (low : ℕ) → low < 256 → (if b then low else 63) < 256
unit_small true low h = h
unit_small false low h = omega arith

units_small : (bytes : List ℕ) → AreBytes bytes → AreBytes (units bytes)
units_small [] h i lt = absurd (omega arith)
units_small (low ∷ []) h i lt = absurd (omega arith)
units_small (low ∷ high ∷ bytes) h zero lt = unit_small (high == 0) low (h 0 (omega arith))
units_small (low ∷ high ∷ bytes) h (suc i) lt = units_small bytes (λ i lt. h (suc (suc i)) (omega arith)) i (omega arith)

behind_small : (n : ℕ) (cs : List ℕ) → AreBytes cs → AreBytes (drop n cs)
behind_small n cs h i lt = subst (λ c. c < 256) (sym (get_or-drop n cs i 0)) (h (n + i) (omega (arith, length-drop n cs)))

text_small : (bytes : List ℕ) → AreBytes bytes → AreBytes (text_of bytes)
text_small bytes h = go (is_utf16 bytes) (mark_length bytes)
  where
    go : (u : Bool) (m : ℕ) → AreBytes (decoded u (drop m bytes))
    go true m = units_small (drop m bytes) (behind_small m bytes h)
    go false m = behind_small m bytes h

units_between : (bytes : List ℕ) (m b n : ℕ) → units (take (m + 2 * (b + n) - (m + 2 * b)) (drop (m + 2 * b) bytes)) ≡ take n (drop b (units (drop m bytes)))
units_between bytes m b n =
    let long : m + 2 * (b + n) - (m + 2 * b) ≡ 2 * n = omega arith in
    ap (λ k. units (take k (drop (m + 2 * b) bytes))) long
    ∙ units-take n (drop (m + 2 * b) bytes)
    ∙ ap (λ cs. take n (units cs)) (sym (drop-drop (2 * b) m bytes))
    ∙ ap (take n) (units-drop b (drop m bytes))

-- those of a token between two places of a text that stands behind a mark
characters_between : (u : Bool) (bytes : List ℕ) (m b n : ℕ) →
    decoded u (take (m + (if u then 2 * (b + n) else b + n) - (m + (if u then 2 * b else b))) (drop (m + (if u then 2 * b else b)) bytes)) ≡ take n (drop b (decoded u (drop m bytes)))
characters_between true bytes m b n = units_between bytes m b n
characters_between false bytes m b n = let long : m + (b + n) - (m + b) ≡ n = omega arith in ap (λ k. take k (drop (m + b) bytes)) long ∙ ap (take n) (sym (drop-drop b m bytes))

-- files

module _ (bytes : List ℕ) (small : AreBytes bytes) where
  made : (k : TokenKind) (b e : ℕ) → b ≤ e → Cuts (TokenOf k) (drop b (text_of bytes)) (e - b) → IsGood (TokenOf k) (drop b (text_of bytes)) (e - b)
      → IsLexeme (lexeme_of_token bytes (record { place = place_of (text_of bytes) b; kind = k; begin = offset_of bytes b; end = offset_of bytes e }))
  unfolding lexeme_of_token
  made k b e le cut good =
      let end : b + (e - b) ≡ e = omega arith in
      subst (λ cs. IsLexeme (lexeme_by_kind cs (word_of_kind cs k) k)) (sym (ap (λ e. decoded (is_utf16 bytes) (take (offset_of bytes e - offset_of bytes b) (drop (offset_of bytes b) bytes))) (sym end) ∙ characters_between (is_utf16 bytes) bytes (mark_length bytes) b (e - b)))
      (kind_is (drop b (text_of bytes)) (e - b) cut.within k cut.is good (behind_small b (text_of bytes) (text_small bytes small)))

  AreAll : List Piece → Type 0
  AreAll ps = All (λ t. IsLexeme (lexeme_in t)) (map (token_of bytes) (filter_map (token_of_piece bytes) ps))

  one_more : (k : PieceKind) (b e : ℕ) (ps : List Piece) → b ≤ e → Cuts k (drop b (text_of bytes)) (e - b) → IsGood k (drop b (text_of bytes)) (e - b) → AreAll ps → AreAll (record { kind = k; begin = b; end = e } ∷ ps)
  unfolding AreAll token_of
  one_more Blank b e ps le cut good h = h
  one_more LineComment b e ps le cut good h = h
  one_more Comment b e ps le cut good h = h
  one_more DocComment b e ps le cut good h = h
  one_more (TokenOf k) b e ps le cut good h =
      All-cons (λ t. IsLexeme (lexeme_in t)) (token_of bytes (record { place = place_of (text_of bytes) b; kind = k; begin = offset_of bytes b; end = offset_of bytes e })) (map (token_of bytes) (filter_map (token_of_piece bytes) ps)) (made k b e le cut good) h

  pieces_are : (at end : ℕ) (ps : List Piece) → CutsUpTo (text_of bytes) at ps end → AreAll ps
  unfolding AreAll
  pieces_are at end [] h = All-nil (λ t. IsLexeme (lexeme_in t))
  pieces_are at end (p ∷ ps) (b, le, cut, good, rest) =
      one_more p.kind p.begin p.end ps (omega arith) (subst (λ m. Cuts p.kind (drop m (text_of bytes)) (p.end - m)) (sym b) cut) (subst (λ m. IsGood p.kind (drop m (text_of bytes)) (p.end - m)) (sym b) good) (pieces_are p.end end ps rest)

  pub tokens_are : (tokens : List lexer_token.Token) (ps : List Piece) (end : ℕ) → CutsUpTo (text_of bytes) 0 ps end → tokens ≡ filter_map (token_of_piece bytes) ps → AreLexemes (map (token_of bytes) tokens)
  unfolding AreAll
  tokens_are tokens ps end cut e = subst (λ ts. AreLexemes (map (token_of bytes) ts)) (sym e) (pieces_are 0 end ps cut)
