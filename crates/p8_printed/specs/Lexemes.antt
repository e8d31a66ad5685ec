-- What written words are to an expression.
use Rattle.std.specs.Prelude.{◌≡◌, ℕ, if◌then◌else◌, List, map, slice_index, unwrap_or}
use Rattle.p8_lexer.specs.declared.word.Word.{Word}
use Rattle.p8_lexer.specs.declared.word.Word.TheVariants as word
use Rattle.p8_lexer.specs.Lexing.{is_letter}
use Rattle.p8_lexer.specs.Words.{spelling, capital, word_spelled}
use Rattle.p8_grammar.specs.Lexemes.{Lexeme, number, name, string, Token}
use Rattle.p8_grammar.specs.Proper.{lexeme_in}
use Rattle.p8_expr.specs.Words.{lexeme_of_word, lexeme_by_word, reserved_as}
use Rattle.p8_print.specs.Spelled as spelled
use Rattle.p8_print.specs.Spelled.{Spelled}

-- a reserved word has its characters, a symbol has none
unfoldable pub lexeme_of_reserved : Word → Lexeme
lexeme_of_reserved w = if is_letter (slice_index (spelling w) 0) then reserved_as (map capital (spelling w)) (lexeme_of_word w) else lexeme_of_word w

-- the word behind the colon of a local label
abbrev pub lexeme_of_label : List ℕ → Lexeme
lexeme_of_label n = reserved_as n (lexeme_by_word n (unwrap_or (word_spelled n) word.Name))

abbrev pub lexeme_of_spelled : Spelled → Lexeme
lexeme_of_spelled (spelled.reserved w) = lexeme_of_reserved w
lexeme_of_spelled (spelled.name n) = name n
lexeme_of_spelled (spelled.label n) = lexeme_of_label n
lexeme_of_spelled (spelled.number v) = number v
lexeme_of_spelled (spelled.string s) = string s

-- tokens are these words, at any places
abbrev pub AreWords : List Token → List Spelled → Type 0
AreWords tokens words = map lexeme_in tokens ≡ map lexeme_of_spelled words

-- names are in capitals, as trees have them
abbrev pub IsInCapitals : Spelled → Type 0
IsInCapitals (spelled.name n) = map capital n ≡ n
IsInCapitals (spelled.label n) = map capital n ≡ n
IsInCapitals _ = Unit {0}
