-- Words that a source can have are proper.
use Rattle.std.proofs.Common.{◌≡◌, ℕ, zero, suc, ◌<◌, Bool, true, false, List, [], ◌∷◌, length, map, get_or, Some, None, refl, sym, ap, ◌∙◌, subst, arith}
use Rattle.std.specs.Prelude.{◌&&◌, ◌||◌, nat_le, IsTrue, All}
use Rattle.std.proofs.lemmas.Bool.Decides.{nat_tests}
use Rattle.std.proofs.lemmas.List.{get_or-map}
use Rattle.std.proofs.lemmas.List.Elements.{All-weaker, All-from_get_or}
use Rattle.p8_tree.specs.Names.{is_capital, is_in_name, begins_name, IsName, IsWord, IsQuoted}
use Rattle.p8_tree.specs.Proper.{is_unary, is_binary, is_change, is_look, is_value, gives_value, gives_no_value, is_size}
use Rattle.p8_lexer.proofs.ReservedWords.{free_name}
use Rattle.p8_lexer.specs.declared.word.Word.{Word}
use Rattle.p8_lexer.specs.declared.word.Word.TheVariants as word_case
use Rattle.p8_lexer.specs.declared.piece.Class.TheVariants as class
use Rattle.p8_lexer.specs.Lexing.{is_letter, is_in}
use Rattle.p8_lexer.specs.Words.{capital}
use Rattle.p8_grammar.specs.Lexemes.{Lexeme, number, name, string, prefix_word, infix_word, sign, assigns, changes, size, register, look, value, built_in, command, reserved, Token}
use Rattle.p8_grammar.specs.Proper.{is_register_for, IsProperLexeme, lexeme_in, AreProper}
use Rattle.p8_expr.specs.Words.{lexeme_of_word}
use Rattle.p8_expr.specs.Sources.{IsOfLetters, IsFreeName, AreQuoted, IsLexeme, AreLexemes}

-- symbols and reserved words

-- the numbers in a word that is neither a number nor a name nor a string
abbrev pub passes : Lexeme → Bool
passes (number n) = false
passes (name n) = false
passes (string t) = false
passes (reserved n x) = false
passes (prefix_word r k) = is_unary k
passes (infix_word r k) = is_binary k
passes (sign k j) = is_unary k && is_binary j
passes (assigns None) = true
passes (assigns (Some k)) = is_binary k
passes (changes b a) = is_change b && is_change a
passes (size z) = is_size z
passes (register a x) = is_register_for x a
passes (look k) = is_look k
passes (value k) = is_value k
passes (built_in k) = gives_value k
passes (command k) = gives_no_value k
passes _ = true

pub words_pass : (w : Word) → passes (lexeme_of_word w) ≡ true
unfolding lexeme_of_word
words_pass word_case.PlusPlus = refl
words_pass _ = refl

both : (a b : Bool) → (a && b) ≡ true → IsTrue a × IsTrue b
both true b h = (refl, h)
both false b h = absurd cc

-- what passes for any of the words
passing : (x : Lexeme) → passes x ≡ true → IsProperLexeme x
passing (number n) h = absurd cc
passing (name n) h = absurd cc
passing (string t) h = absurd cc
passing (reserved n x) h = absurd cc
passing (prefix_word r k) h = h
passing (infix_word r k) h = h
passing (sign k j) h = both (is_unary k) (is_binary j) h
passing (assigns None) h = tt
passing (assigns (Some k)) h = h
passing (changes b a) h = both (is_change b) (is_change a) h
passing (size z) h = h
passing (register a x) h = h
passing (look k) h = h
passing (value k) h = h
passing (built_in k) h = h
passing (command k) h = h
passing x h = tt

-- names

capital_letter : (c : ℕ) → IsTrue (is_letter c) → capital c ≡ c → IsTrue (is_capital c)
capital_letter c h e = grind (arith, nat_tests)

capital_in_name : (c : ℕ) → IsTrue (is_in class.Name c) → capital c ≡ c → IsTrue (is_in_name c)
capital_in_name c h e = grind (arith, nat_tests)

letter_in_name : (c : ℕ) → IsTrue (is_capital c) → IsTrue (is_in_name c)
letter_in_name c h = ap (λ b. b || (nat_le 48 c && nat_le c 57)) h

begins : (n : List ℕ) → 0 < length n → IsTrue (is_capital (get_or n 0 0)) → IsTrue (begins_name n)
begins [] some h = absurd (omega arith)
begins (c ∷ cs) some h = h

is_word : (n : List ℕ) → IsOfLetters n → map capital n ≡ n → IsWord n
is_word n (some, short, letter, all) e = record { begins = begins n some first; characters = All-from_get_or (λ c. IsTrue (is_in_name c)) n 0 each; short = short }
  where
    in_capitals : (i : ℕ) → i < length n → capital (get_or n i 0) ≡ get_or n i 0
    in_capitals i lt = sym (get_or-map capital n i 0 0 lt) ∙ ap (λ t. get_or t i 0) e

    first : IsTrue (is_capital (get_or n 0 0))
    first = capital_letter (get_or n 0 0) letter (in_capitals 0 some)

    each : (i : ℕ) → i < length n → IsTrue (is_in_name (get_or n i 0))
    each zero lt = letter_in_name (get_or n 0 0) first
    each (suc i) lt = capital_in_name (get_or n (suc i) 0) (all (suc i) (omega arith) lt) (in_capitals (suc i) lt)

is_name : (n : List ℕ) → IsFreeName n → map capital n ≡ n → IsName n
is_name n (some, short, letter, all, free) e = record { begins = w.begins; characters = w.characters; short = w.short; free = free_name n e free }
  where
    w : IsWord n
    w = is_word n (some, short, letter, all) e

-- strings

isnt : (c k : ℕ) → is_in class.Quoted k ≡ false → IsTrue (is_in class.Quoted c) → c ≡ k → ⊥
isnt c k outside h e = let is = subst (λ c. IsTrue (is_in class.Quoted c)) e h in absurd cc

are_quoted : (s : List ℕ) → AreQuoted s → All IsQuoted s
are_quoted s (all, small) = All-from_get_or IsQuoted s 0 (λ i lt. (small i lt, isnt (get_or s i 0) 34 refl (all i (omega arith) lt), isnt (get_or s i 0) 10 refl (all i (omega arith) lt), isnt (get_or s i 0) 13 refl (all i (omega arith) lt)))

-- words

lexeme_proper : (x : Lexeme) → IsLexeme x → IsProperLexeme x
lexeme_proper (number n) h = h
lexeme_proper (name n) h = is_name n h.0 h.1
lexeme_proper (string s) h = are_quoted s h
lexeme_proper (reserved n x) h = (is_word n h.0 h.1, subst IsProperLexeme h.2.2 (passing (lexeme_of_word h.2.0) (words_pass h.2.0)))
lexeme_proper x h = subst IsProperLexeme h.1 (passing (lexeme_of_word h.0) (words_pass h.0))

pub are_proper : (tokens : List Token) → AreLexemes tokens → AreProper tokens
are_proper tokens h = All-weaker (λ t. IsLexeme (lexeme_in t)) (λ t. IsProperLexeme (lexeme_in t)) (λ t. lexeme_proper (lexeme_in t)) tokens h
