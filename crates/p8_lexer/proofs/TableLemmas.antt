-- The table of the words: how many rows it has, and which row is whose.
use Rattle.std.proofs.Common.{◌≡◌, ℕ, zero, suc, ◌<◌, List, [], ◌∷◌, length, map, take, get_or, true, Some, refl, sym, ap, ◌∙◌, arith}
use Rattle.std.specs.Prelude.{nat_lt, slice_get, option_map, Bool, None, if◌then◌else◌}
use Rattle.std.proofs.lemmas.Bool.Decides.{nat_tests}
use Rattle.std.proofs.lemmas.List.{length-map, take-map}
use Rattle.std.proofs.lemmas.Option.{slice_get-map}
use denote.Enum.Declared.{tag_of}
use Rattle.p8_lexer.specs.contracts.word.Word.{the_type}
use Rattle.p8_lexer.specs.declared.word.Word.{Word}
use Rattle.p8_lexer.specs.declared.word.Word.TheVariants as word
use Rattle.p8_lexer.specs.Words.{spelling, symbols, reserved_words, every_word, same}
use Rattle.p8_lexer.specs.declared.meaning.Meaning.{Meaning}
use Rattle.p8_lexer.specs.declared.meaning.Sought.{Sought}
use Rattle.p8_lexer.specs.Meanings.{meaning, first_by, word_by}
use Rattle.p8_lexer.specs.Table.{Row, CodeRow, row_of, word_of_row, rows, symbol_rows}

row_count : length rows ≡ 267
unfolding rows every_word symbols reserved_words
row_count = refl

pub code_count : (rs : List CodeRow) → map row_of rs ≡ rows → length rs ≡ 267
code_count rs e = sym (length-map rs row_of) ∙ ap length e ∙ row_count

pub first_rows : (rs : List CodeRow) → map row_of rs ≡ rows → map row_of (take 71 rs) ≡ symbol_rows
first_rows rs e = sym (take-map row_of 71 rs) ∙ ap (take 71) e

symbols_are : map (λ r. r.1) symbol_rows ≡ symbols
unfolding rows every_word symbols reserved_words
symbols_are = refl

pub words_in : (rs : List CodeRow) → map (λ r. r.1) (map row_of rs) ≡ map (λ r. r.1) rs
words_in [] = refl
words_in (r ∷ rs) = ap (λ ws. r.1 ∷ ws) (words_in rs)

pub symbol_at : (rs : List CodeRow) (n : ℕ) → map row_of rs ≡ symbol_rows → option_map (λ r. r.1) (slice_get rs n) ≡ slice_get symbols n
symbol_at rs n e = sym (slice_get-map (λ r. r.1) rs n) ∙ ap (λ ws. slice_get ws n) (sym (words_in rs) ∙ ap (map (λ r. r.1)) e ∙ symbols_are)

-- each word stands at its number
row_at : (w : Word) → slice_get rows (tag_of the_type w) ≡ Some (spelling w, w)
unfolding rows every_word symbols reserved_words
row_at word.PlusPlus = refl
row_at _ = refl

meant_at : (w : Word) → slice_get (map (λ r. meaning r.1) rows) (tag_of the_type w) ≡ Some (meaning w)
unfolding rows every_word symbols reserved_words
meant_at word.PlusPlus = refl
meant_at _ = refl

tag_small : (w : Word) → nat_lt (tag_of the_type w) 267 ≡ true
tag_small word.PlusPlus = refl
tag_small _ = refl

below : (a b : ℕ) → nat_lt a b ≡ true → a < b
below a b h = grind (arith, nat_tests)

row_there : (rs : List CodeRow) (i : ℕ) (r : Row) (d : CodeRow) → slice_get (map row_of rs) i ≡ Some r → (get_or rs i d).0.now ≡ r.0
row_there [] i r d h = absurd cc
row_there (x ∷ rs) zero r d h = let same : row_of x ≡ r = cc in ap (λ r. r.0) same
row_there (x ∷ rs) (suc i) r d h = row_there rs i r d h

meant_in : (rs : List CodeRow) (i : ℕ) (m : Meaning) (d : CodeRow) → slice_get (map (λ r. r.2) rs) i ≡ Some m → (get_or rs i d).2 ≡ m
meant_in [] i m d h = absurd cc
meant_in (x ∷ rs) zero m d h = let same : x.2 ≡ m = cc in same
meant_in (x ∷ rs) (suc i) m d h = meant_in rs i m d h

pub meant_there : (rs : List CodeRow) (w : Word) (d : CodeRow) → map (λ r. r.2) rs ≡ map (λ r. meaning r.1) rows → (get_or rs (tag_of the_type w) d).2 ≡ meaning w
meant_there rs w d e = meant_in rs (tag_of the_type w) (meaning w) d (ap (λ l. slice_get l (tag_of the_type w)) e ∙ meant_at w)

pub by_there : (rs : List CodeRow) (s : Sought) → map row_of rs ≡ rows → first_by s (map (λ r. r.1) rs) ≡ word_by s
unfolding word_by
by_there rs s e = ap (first_by s) (sym (words_in rs) ∙ ap (map (λ r. r.1)) e)

module _ (rs : List CodeRow) (e : map row_of rs ≡ rows) (w : Word) where
  pub in_table : tag_of the_type w < length rs
  in_table = omega (arith, below (tag_of the_type w) 267 (tag_small w), code_count rs e)

  pub spelled_there : (d : CodeRow) → (get_or rs (tag_of the_type w) d).0.now ≡ spelling w
  spelled_there d = row_there rs (tag_of the_type w) (spelling w, w) d (ap (λ l. slice_get l (tag_of the_type w)) e ∙ row_at w)

-- the word of a row of the code, where it is spelled so
pub row_word : (rs : List CodeRow) (n : ℕ) (r : CodeRow) (text : List ℕ) (b : Bool) → slice_get rs n ≡ Some r → b ≡ same r.0.now text →
    word_of_row (slice_get (map row_of rs) n) text ≡ (if b then Some r.1 else None)
row_word rs n r text b at is =
    ap (λ o. word_of_row o text) (slice_get-map row_of rs n ∙ ap (option_map row_of) at) ∙ ap (λ b. if b then Some r.1 else None) (sym is)
