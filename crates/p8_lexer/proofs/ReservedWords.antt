-- The reserved words are the texts that no name of a tree may be.
use Rattle.std.proofs.Common.{◌≡◌, ℕ, Bool, true, false, List, [], ◌∷◌, map, Option, Some, None, refl, sym, ap, ◌∙◌}
use Rattle.std.specs.Prelude.{◌&&◌, ◌||◌, not, IsTrue}
use Rattle.std.specs.List.{list_all}
use Rattle.p8_tree.specs.Names.{begins_name, two_operands, on_memory, one_operand, mnemonics, result_word, spin_words, condition_words, is_reserved}
use Rattle.p8_lexer.specs.declared.word.Word.{Word}
use Rattle.p8_lexer.specs.declared.word.Word.TheVariants as word
use Rattle.p8_lexer.specs.Words.{entry, symbols, reserved_words, every_word, capital, same, is_among, is_spelled, first_spelled, word_spelled}
use Rattle.p8_lexer.proofs.Searches.{same-true, spells}

both : (a b : Bool) → a && b ≡ true → (a ≡ true) × (b ≡ true)
both true b h = (refl, h)
both false b h = absurd cc

abbrev is_some : Option Word → Bool
is_some None = false
is_some (Some w) = true

-- a text that is among others passes what they all pass
among_passes : (p : List ℕ → Bool) (ts : List (List ℕ)) (t : List ℕ) → list_all p ts ≡ true → is_among ts t ≡ true → p t ≡ true
among_passes p [] t all h = absurd cc
among_passes p (s ∷ ss) t all h = go (same s t) refl (both (p s) (list_all p ss) all) (among_passes p ss t)
  where
    go : (b : Bool) → same s t ≡ b → (p s ≡ true) × (list_all p ss ≡ true) → (list_all p ss ≡ true → is_among ss t ≡ true → p t ≡ true) → p t ≡ true
    go true e passes later = ap p (sym (same-true s t e)) ∙ passes.0
    go false e passes later = later passes.1 (sym (ap (λ b. b || is_among ss t) e) ∙ h)

-- each text that is reserved in trees is a word

abbrev is_word : List ℕ → Bool
is_word t = is_some (first_spelled t every_word)

results_are : list_all is_word (result_word ∷ []) ≡ true
unfolding every_word symbols reserved_words
results_are = refl

mnemonics_are : list_all is_word mnemonics ≡ true
unfolding two_operands on_memory one_operand every_word symbols reserved_words
mnemonics_are = refl

spin_words_are : list_all is_word spin_words ≡ true
unfolding spin_words every_word symbols reserved_words
spin_words_are = refl

conditions_are : list_all is_word condition_words ≡ true
unfolding condition_words every_word symbols reserved_words
conditions_are = refl

none_among : (ts : List (List ℕ)) (t : List ℕ) → list_all is_word ts ≡ true → first_spelled t every_word ≡ None → is_among ts t ≡ false
none_among ts t all none = go (is_among ts t) refl
  where
    go : (b : Bool) → is_among ts t ≡ b → is_among ts t ≡ false
    go false e = e
    go true e = let wrong = among_passes is_word ts t all e in let free = ap is_some none in absurd cc

pub free_name : (n : List ℕ) → map capital n ≡ n → word_spelled n ≡ None → is_reserved n ≡ false
free_name n c h =
    let none : first_spelled n every_word ≡ None = ap (λ t. first_spelled t every_word) (sym c) ∙ h in
    ap (λ b. b || (is_among mnemonics n || (is_among spin_words n || is_among condition_words n))) (none_among (result_word ∷ []) n results_are none)
    ∙ ap (λ b. b || (is_among spin_words n || is_among condition_words n)) (none_among mnemonics n mnemonics_are none)
    ∙ ap (λ b. b || is_among condition_words n) (none_among spin_words n spin_words_are none)
    ∙ none_among condition_words n conditions_are none

-- each word that begins with a letter is reserved in trees

is_name_reserved : List ℕ → Bool
is_name_reserved t = not (begins_name t) || is_reserved t

spellings_reserved : (w : Word) → list_all is_name_reserved (entry w).spellings ≡ true
unfolding is_name_reserved two_operands on_memory one_operand spin_words condition_words
spellings_reserved word.PlusPlus = refl
spellings_reserved _ = refl

word_reserved : (w : Word) (t : List ℕ) → is_spelled w t ≡ true → is_name_reserved t ≡ true
word_reserved w t h = among_passes is_name_reserved (entry w).spellings t (spellings_reserved w) h

reserved_if : (t : List ℕ) → IsTrue (begins_name t) → is_name_reserved t ≡ true → is_reserved t ≡ true
unfolding is_name_reserved
reserved_if t begins h = sym (ap (λ b. not b || is_reserved t) begins) ∙ h

pub name_free : (n : List ℕ) → IsTrue (begins_name n) → map capital n ≡ n → is_reserved n ≡ false → word_spelled n ≡ None
name_free n begins c h = go (first_spelled n every_word) refl
  where
    go : (o : Option Word) → first_spelled n every_word ≡ o → word_spelled n ≡ None
    go None e = ap (λ t. first_spelled t every_word) c ∙ e
    go (Some w) e = let wrong = reserved_if n begins (word_reserved w n (spells n every_word w e)) in absurd cc
