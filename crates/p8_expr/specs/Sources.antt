-- Which words a source can have, as the grammar of expressions has them.
use Rattle.std.specs.Prelude.{◌≡◌, ℕ, ◌^◌, ◌<◌, ◌≤◌, IsTrue, List, length, map, slice_index, Some, None, All}
use Rattle.p8_lexer.specs.declared.word.Word.{Word}
use Rattle.p8_lexer.specs.declared.piece.Class.TheVariants as class
use Rattle.p8_lexer.specs.Lexing.{is_letter, AllIn}
use Rattle.p8_lexer.specs.Words.{capital, word_spelled}
use Rattle.p8_grammar.specs.Lexemes.{Lexeme, number, name, string, reserved, Token}
use Rattle.p8_grammar.specs.Proper.{lexeme_in}
use Rattle.p8_expr.specs.Words.{lexeme_of_word}

-- the characters of a name or of a reserved word
abbrev pub IsOfLetters : List ℕ → Type 0
IsOfLetters n = (0 < length n) × (length n ≤ 30) × IsTrue (is_letter (slice_index n 0)) × AllIn class.Name n 1 (length n)

-- a name that isn't reserved
abbrev pub IsFreeName : List ℕ → Type 0
IsFreeName n = (0 < length n) × (length n ≤ 30) × IsTrue (is_letter (slice_index n 0)) × AllIn class.Name n 1 (length n) × (word_spelled n ≡ None)

-- characters of one line, none of them `"`
abbrev pub AreQuoted : List ℕ → Type 0
AreQuoted s = AllIn class.Quoted s 0 (length s) × ((i : ℕ) → i < length s → slice_index s i < 256)

-- a source can have it: names that aren't reserved, in capitals, numbers of 32 bits, strings on one line, symbols and reserved words, these in capitals too
abbrev pub IsLexeme : Lexeme → Type 0
IsLexeme (number n) = n < 2 ^ 32
IsLexeme (name n) = IsFreeName n × (map capital n ≡ n)
IsLexeme (string s) = AreQuoted s
IsLexeme (reserved n x) = IsOfLetters n × (map capital n ≡ n) × ((w : Word) × (word_spelled n ≡ Some w) × (lexeme_of_word w ≡ x))
IsLexeme x = (w : Word) × (lexeme_of_word w ≡ x)

-- tokens that a source can have
abbrev pub AreLexemes : List Token → Type 0
AreLexemes tokens = All (λ t. IsLexeme (lexeme_in t)) tokens
