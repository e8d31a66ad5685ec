-- Names and locals written one after the other.
use Rattle.std.proofs.Common.{◌≡◌, ℕ, ◌+◌, ◌<◌, List, [], ◌∷◌, ◌++◌, length, map, take, get_or, refl, sym, ap, ◌∙◌, append_assoc, append-nil}
use Rattle.std.proofs.lemmas.List.{map-append, take_more}
use Rattle.p8_tree.specs.declared.sources.VarItem.{VarItem}
use Rattle.p8_tree.specs.Sources.{Declared}
use Rattle.p8_tree.specs.Views.{declared_of}
use Rattle.p8_print.specs.Spelled.{name, text_of_words}
use Rattle.p8_print.specs.DeclarationWords.{words_of_name_and_count, more_names, more_locals}
use Rattle.p8_print.proofs.Appending.{comma, and_written}

one_name_more : (ns : List (List ℕ)) (n : List ℕ) → more_names (ns ++ n ∷ []) ≡ more_names ns ++ comma ∷ name n ∷ []
one_name_more [] n = refl
one_name_more (k ∷ ks) n = ap (λ ws. comma ∷ name k ∷ ws) (one_name_more ks n)

-- a further name is written
pub name_written : (ns : List (List ℕ)) (i : ℕ) (n : List ℕ) (a : List ℕ) {b c d : List ℕ} → i < length ns → n ≡ get_or ns i n → b ≡ a ++ text_of_words (more_names (take i ns)) → c ≡ b ++ text_of_words (comma ∷ []) → d ≡ c ++ text_of_words (name n ∷ [])
    → d ≡ a ++ text_of_words (more_names (take (i + 1) ns))
name_written ns i n a lt at h k l =
    and_written a (more_names (take i ns)) (comma ∷ name n ∷ []) h (and_written _ (comma ∷ []) (name n ∷ []) k l)
    ∙ ap (λ ws. a ++ text_of_words ws) (ap (λ m. more_names (take i ns) ++ comma ∷ name m ∷ []) at ∙ sym (ap more_names (take_more ns i n lt) ∙ one_name_more (take i ns) (get_or ns i n)))

one_local_more : (xs : List Declared) (x : Declared) → more_locals (xs ++ x ∷ []) ≡ more_locals xs ++ comma ∷ words_of_name_and_count x
one_local_more [] x = ap (λ ws. comma ∷ ws) (append-nil (words_of_name_and_count x))
one_local_more (y ∷ ys) x = ap (λ ws. comma ∷ (words_of_name_and_count y ++ ws)) (one_local_more ys x) ∙ ap (λ ws. comma ∷ ws) (sym (append_assoc (words_of_name_and_count y) (more_locals ys) (comma ∷ words_of_name_and_count x)))

locals_next : (xs : List VarItem) (i : ℕ) (x : VarItem) → i < length xs → more_locals (map declared_of (take (i + 1) xs)) ≡ more_locals (map declared_of (take i xs)) ++ comma ∷ words_of_name_and_count (declared_of (get_or xs i x))
locals_next xs i x lt =
    ap (λ xs. more_locals (map declared_of xs)) (take_more xs i x lt) ∙ ap more_locals (map-append declared_of (take i xs) (get_or xs i x ∷ []))
    ∙ one_local_more (map declared_of (take i xs)) (declared_of (get_or xs i x))

-- a further local is written
pub local_written : (xs : List VarItem) (i : ℕ) (x : VarItem) (a : List ℕ) {b c d : List ℕ} → i < length xs → x ≡ get_or xs i x → b ≡ a ++ text_of_words (more_locals (map declared_of (take i xs))) → c ≡ b ++ text_of_words (comma ∷ [])
    → d ≡ c ++ text_of_words (words_of_name_and_count (declared_of x)) → d ≡ a ++ text_of_words (more_locals (map declared_of (take (i + 1) xs)))
local_written xs i x a lt at h k l =
    and_written a (more_locals (map declared_of (take i xs))) (comma ∷ words_of_name_and_count (declared_of x)) h (and_written _ (comma ∷ []) (words_of_name_and_count (declared_of x)) k l)
    ∙ ap (λ ws. a ++ text_of_words ws) (ap (λ y. more_locals (map declared_of (take i xs)) ++ comma ∷ words_of_name_and_count (declared_of y)) at ∙ sym (locals_next xs i x lt))
