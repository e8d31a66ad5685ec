-- The words behind the colon of a local label: names, and reserved words with their characters.
use Rattle.std.proofs.Common.{◌≡◌, ℕ, ◌⊎◌, inl, inr, Bool, true, false, List, [], ◌∷◌, map, Option, Some, None, refl, sym, ap, ◌∙◌, subst}
use Rattle.std.specs.Prelude.{◌&&◌, if◌then◌else◌, not, IsTrue, slice_index, slice_get, unwrap_or}
use Rattle.std.specs.List.{list_all}
use denote.Enum.Declared.{tag_of}
use Rattle.p8_lexer.specs.contracts.word.Word.{the_type}
use Rattle.p8_lexer.specs.declared.word.Word.{Word}
use Rattle.p8_lexer.specs.declared.word.Word.TheVariants as word
use Rattle.p8_lexer.specs.Lexing.{is_letter}
use Rattle.p8_lexer.specs.Words.{spelling, symbols, reserved_words, every_word, capital, is_spelled, first_spelled, word_spelled}
use Rattle.p8_lexer.proofs.Cuts.{symbol_read}
use Rattle.p8_grammar.specs.Lexemes.{Lexeme, name, mark, sign, assigns, object_address, reserved, name_in}
use Rattle.p8_expr.specs.Words.{lexeme_of_word, lexeme_by_word, reserved_as}
use Rattle.p8_expr.specs.Sources.{IsOfLetters, IsLexeme}
use Rattle.p8_print.specs.Spelled.{is_free, label_by, word_of_label, IsReadable}
use Rattle.p8_printed.specs.Lexemes.{lexeme_of_label, lexeme_of_spelled, IsInCapitals}
use Rattle.p8_printed.proofs.ReadWords.{no_name, symbol_begins}
use Rattle.p8_printed.proofs.SpelledWords.{HasLetters, reserved_is}

both : (a b : Bool) → a && b ≡ true → (a ≡ true) × (b ≡ true)
both true b h = (refl, h)
both false b h = absurd cc

negated : (b : Bool) → not b ≡ true → b ≡ false
negated true h = absurd cc
negated false h = refl

-- what all words pass, the word that is spelled so passes
found_passes : (p : Word → Bool) (t : List ℕ) (ws : List Word) (w : Word) → list_all p ws ≡ true → first_spelled t ws ≡ Some w → p w ≡ true
found_passes p t [] w all e = absurd cc
found_passes p t (v ∷ vs) w all e = go (is_spelled v t) refl (both (p v) (list_all p vs) all) (found_passes p t vs w)
  where
    go : (b : Bool) → is_spelled v t ≡ b → (p v ≡ true) × (list_all p vs ≡ true) → (list_all p vs ≡ true → first_spelled t vs ≡ Some w → p w ≡ true) → p w ≡ true
    go true h passes later = let same : Some v ≡ Some w = sym (ap (λ b. if b then Some v else first_spelled t vs) h) ∙ e in let is : v ≡ w = cc in ap p (sym is) ∙ passes.0
    go false h passes later = later passes.1 (sym (ap (λ b. if b then Some v else first_spelled t vs) h) ∙ e)

none_free : list_all (λ w. not (is_free w)) every_word ≡ true
unfolding every_word symbols reserved_words
none_free = refl

pub not_free : (n : List ℕ) (w : Word) → word_spelled n ≡ Some w → is_free w ≡ false
not_free n w e = negated (is_free w) (found_passes (λ w. not (is_free w)) (map capital n) every_word w none_free e)

-- a reserved word that is spelled by letters begins with one
pub begins_so : (n : List ℕ) (w : Word) → IsTrue (is_letter (slice_index n 0)) → word_spelled n ≡ Some w → IsTrue (is_letter (slice_index (spelling w) 0))
begins_so n w letter e = go (reserved_is w (not_free n w e)).kind
  where
    go : (slice_get symbols (tag_of the_type w) ≡ Some w) ⊎ HasLetters w → IsTrue (is_letter (slice_index (spelling w) 0))
    go (inl at) =
        let no : is_letter (slice_index (spelling w) 0) ≡ false = symbol_begins (tag_of the_type w) w at in
        let yes : IsTrue (is_letter (slice_index (spelling w) 0)) = subst (λ t. IsTrue (is_letter (slice_index t 0))) (symbol_read (tag_of the_type w) w at n e) letter in
        absurd (let z = sym no ∙ yes in cc)
    go (inr h) = h.first

-- such a word has its characters

abbrev has_characters : Lexeme → Bool
has_characters (name m) = false
has_characters (mark m) = false
has_characters (sign k j) = false
has_characters (assigns o) = false
has_characters object_address = false
has_characters (reserved m x) = false
has_characters x = true

kept : (n : List ℕ) (x : Lexeme) → has_characters x ≡ true → reserved_as n x ≡ reserved n x
kept n (name m) h = absurd cc
kept n (mark m) h = absurd cc
kept n (sign k j) h = absurd cc
kept n (assigns o) h = absurd cc
kept n object_address h = absurd cc
kept n (reserved m x) h = absurd cc
kept n x h = refl

letters_have : (w : Word) → (if is_letter (slice_index (spelling w) 0) then has_characters (lexeme_of_word w) else true) ≡ true
unfolding lexeme_of_word
letters_have word.PlusPlus = refl
letters_have _ = refl

pub label_lexeme : (n : List ℕ) (w : Word) → IsTrue (is_letter (slice_index n 0)) → word_spelled n ≡ Some w → lexeme_of_label n ≡ reserved n (lexeme_of_word w)
label_lexeme n w letter e =
    ap (λ o. reserved_as n (lexeme_by_word n (unwrap_or o word.Name))) e
    ∙ ap (reserved_as n) (no_name n w (not_free n w e))
    ∙ kept n (lexeme_of_word w) (sym (ap (λ b. if b then has_characters (lexeme_of_word w) else true) (begins_so n w letter e)) ∙ letters_have w)

-- the characters of a name or of a reserved word, in capitals
abbrev pub IsWord : List ℕ → Type 0
IsWord n = IsOfLetters n × (map capital n ≡ n)

pub label_readable : (n : List ℕ) → IsWord n → IsReadable (word_of_label n)
label_readable n ((some, short, letter, all), capitals) = go (word_spelled n) refl
  where
    go : (o : Option Word) → word_spelled n ≡ o → IsReadable (label_by o n)
    go None e = (some, short, letter, all, e)
    go (Some w) e = (some, short, letter, all)

pub label_capitals : (n : List ℕ) → IsWord n → IsInCapitals (word_of_label n)
label_capitals n (letters, capitals) = go (word_spelled n)
  where
    go : (o : Option Word) → IsInCapitals (label_by o n)
    go None = capitals
    go (Some w) = capitals

-- what a local label's word is to an expression
pub record LabelLexeme (n : List ℕ) : Type 0 where
  pub lexeme : Lexeme
  pub is : lexeme_of_spelled (word_of_label n) ≡ lexeme
  pub good : IsLexeme lexeme
  pub named : name_in lexeme ≡ Some n

pub label_is : (n : List ℕ) → IsWord n → LabelLexeme n
label_is n ((some, short, letter, all), capitals) = go (word_spelled n) refl
  where
    go : (o : Option Word) → word_spelled n ≡ o → LabelLexeme n
    go None e = record { lexeme = name n; is = ap (λ o. lexeme_of_spelled (label_by o n)) e; good = ((some, short, letter, all, e), capitals); named = refl }
    go (Some w) e = record {
      lexeme = reserved n (lexeme_of_word w);
      is = ap (λ o. lexeme_of_spelled (label_by o n)) e ∙ label_lexeme n w letter e;
      good = ((some, short, letter, all), capitals, (w, e, refl));
      named = refl;
    }
