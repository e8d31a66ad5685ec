-- What the code writes, piece by piece.
use Rattle.std.proofs.Common.{◌≡◌, ℕ, ◌+◌, ◌<◌, List, [], ◌∷◌, ◌++◌, map, length, take, get_or, refl, sym, ap, ◌∙◌, append_assoc, append-nil}
use Rattle.std.specs.Prelude.{◌==◌, ◌&&◌, bytes_eq}
use Rattle.std.proofs.lemmas.List.{take_more, map-append}
use Rattle.p8_tree.specs.declared.sources.DatItem.{DatItem}
use Rattle.p8_tree.specs.Sources.{Datum}
use Rattle.p8_tree.specs.Views.{datum_of}
use Rattle.p8_lexer.specs.declared.word.Word.TheVariants as word
use Rattle.p8_lexer.specs.Words.{same}
use Rattle.p8_print.specs.Spelled.{reserved, text_of_words}
use Rattle.p8_print.specs.DataWords.{words_of_datum, more_data}
use Rattle.p8_print.proofs.Appending.{and_written}

-- the test of two slices is that of two texts
pub bytes_same : (s t : List ℕ) → bytes_eq s t ≡ same s t
bytes_same [] [] = refl
bytes_same [] (y ∷ ys) = refl
bytes_same (x ∷ xs) [] = refl
bytes_same (x ∷ xs) (y ∷ ys) = ap (λ b. (x == y) && b) (bytes_same xs ys)

-- items, one after the other

one_more : (xs : List Datum) (x : Datum) → more_data (xs ++ x ∷ []) ≡ more_data xs ++ reserved word.Comma ∷ words_of_datum x
one_more [] x = ap (λ ws. reserved word.Comma ∷ ws) (append-nil (words_of_datum x))
one_more (y ∷ xs) x = ap (λ ws. reserved word.Comma ∷ ws) (ap (λ ws. words_of_datum y ++ ws) (one_more xs x) ∙ sym (append_assoc (words_of_datum y) (more_data xs) (reserved word.Comma ∷ words_of_datum x)))

more_next : (xs : List DatItem) (i : ℕ) (d : DatItem) → i < length xs → more_data (map datum_of (take (i + 1) xs)) ≡ more_data (map datum_of (take i xs)) ++ reserved word.Comma ∷ words_of_datum (datum_of (get_or xs i d))
more_next xs i d lt =
    ap (λ xs. more_data (map datum_of xs)) (take_more xs i d lt) ∙ (ap more_data (map-append datum_of (take i xs) (get_or xs i d ∷ [])) ∙ one_more (map datum_of (take i xs)) (datum_of (get_or xs i d)))

-- a further item is written
pub item_written : (xs : List DatItem) (i : ℕ) (d : DatItem) (a b : List ℕ) {c e : List ℕ} → i < length xs → d ≡ get_or xs i d → b ≡ a ++ text_of_words (more_data (map datum_of (take i xs)))
    → c ≡ b ++ text_of_words (reserved word.Comma ∷ []) → e ≡ c ++ text_of_words (words_of_datum (datum_of d)) → e ≡ a ++ text_of_words (more_data (map datum_of (take (i + 1) xs)))
item_written xs i d a b lt at h k l =
    and_written a (more_data (map datum_of (take i xs))) (reserved word.Comma ∷ words_of_datum (datum_of d)) h (and_written b (reserved word.Comma ∷ []) (words_of_datum (datum_of d)) k l)
    ∙ (ap (λ d. a ++ text_of_words (more_data (map datum_of (take i xs)) ++ reserved word.Comma ∷ words_of_datum (datum_of d))) at
    ∙ ap (λ ws. a ++ text_of_words ws) (sym (more_next xs i d lt)))
