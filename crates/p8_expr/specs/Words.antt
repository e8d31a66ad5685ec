-- What each token is to an expression (Propeller Manual v1.2, "Spin Language Reference": "Operators" and the entries of
-- the words).
use Rattle.std.specs.Prelude.{ℕ, ◌-◌, ◌==◌, ◌||◌, if◌then◌else◌, List, map, take, drop, length}
use Rattle.p8_lexer.specs.declared.token.Token as lexer_token
use Rattle.p8_lexer.specs.declared.token.TokenKind.{TokenKind}
use Rattle.p8_lexer.specs.declared.token.TokenKind.TheVariants as kind
use Rattle.p8_lexer.specs.declared.word.Word.{Word}
use Rattle.p8_lexer.specs.declared.word.Word.TheVariants as word
use Rattle.p8_lexer.specs.declared.meaning.Meaning.{Meaning}
use Rattle.p8_lexer.specs.declared.meaning.Meaning.TheVariants as meant
use Rattle.p8_lexer.specs.Characters.{characters}
use Rattle.p8_lexer.specs.Words.{capital, word_of}
use Rattle.p8_lexer.specs.Meanings.{meaning}
use Rattle.p8_grammar.specs.Lexemes.{Access, pins, input_pins, input, assembly, left_parenthesis, right_parenthesis, left_bracket, right_bracket}
use Rattle.p8_grammar.specs.Lexemes.{comma, colon, dot, dot_dot, hash, backslash, equal, Lexeme, number, name, method_result, string, mark}
use Rattle.p8_grammar.specs.Lexemes.{prefix_word, infix_word, sign, assigns, changes, address, object_address, size, register, here, string_word}
use Rattle.p8_grammar.specs.Lexemes.{constant_word, look, value, built_in, command, other, reserved, Token, token}

-- punctuation
abbrev pub mark_of_word : Word → Lexeme
mark_of_word word.LeftParenthesis = mark left_parenthesis
mark_of_word word.RightParenthesis = mark right_parenthesis
mark_of_word word.LeftBracket = mark left_bracket
mark_of_word word.RightBracket = mark right_bracket
mark_of_word word.Comma = mark comma
mark_of_word word.Colon = mark colon
mark_of_word word.Dot = mark dot
mark_of_word word.DotDot = mark dot_dot
mark_of_word word.Hash = mark hash
mark_of_word word.Backslash = mark backslash
mark_of_word word.EqualSign = mark equal
mark_of_word _ = other

-- what may be done with a register: PAR and CNT are read, INA's bits are, OUTA and DIRA are written too
abbrev pub access_at : ℕ → Access
access_at a = if a == 0x1F0 || a == 0x1F1 then input else if a == 0x1F2 then input_pins else if a == 0x1F4 || a == 0x1F6 then pins else assembly

-- what a symbol or a reserved word is to an expression, by its meaning
abbrev pub lexeme_of_meaning : Word → Meaning → Lexeme
lexeme_of_meaning w (meant.Changes before after) = changes before after
lexeme_of_meaning w meant.Address = address
lexeme_of_meaning w meant.ObjectAddress = object_address
lexeme_of_meaning w (meant.Sign before between) = sign before between
lexeme_of_meaning w (meant.Prefix rank code) = prefix_word rank code
lexeme_of_meaning w (meant.Infix rank code) = infix_word rank code
lexeme_of_meaning w (meant.Assigns code) = assigns code
lexeme_of_meaning w meant.Mark = mark_of_word w
lexeme_of_meaning w meant.MethodResult = method_result
lexeme_of_meaning w (meant.Size bytes) = size bytes
lexeme_of_meaning w (meant.Register a) = register a (access_at a)
lexeme_of_meaning w meant.Here = here
lexeme_of_meaning w meant.StringWord = string_word
lexeme_of_meaning w meant.ConstantWord = constant_word
lexeme_of_meaning w (meant.Look code) = look code
lexeme_of_meaning w (meant.Value code) = value code
lexeme_of_meaning w (meant.BuiltIn code) = built_in code
lexeme_of_meaning w (meant.Command code) = command code
lexeme_of_meaning w _ = other

-- what a symbol or a reserved word is to an expression
unfoldable pub lexeme_of_word : Word → Lexeme
lexeme_of_word w = lexeme_of_meaning w (meaning w)

-- the characters between a string's quotes
abbrev pub between_quotes : List ℕ → List ℕ
between_quotes text = take (length text - 2) (drop 1 text)

-- what a word with these characters is to an expression: a name is it in capitals
abbrev pub lexeme_by_word : List ℕ → Word → Lexeme
lexeme_by_word text word.Name = name (map capital text)
lexeme_by_word text w = lexeme_of_word w

-- what has letters, but for a name, is a reserved word with its characters
abbrev pub reserved_as : List ℕ → Lexeme → Lexeme
reserved_as n (name m) = name m
reserved_as n (mark m) = mark m
reserved_as n (sign k j) = sign k j
reserved_as n (assigns o) = assigns o
reserved_as n object_address = object_address
reserved_as n (reserved m x) = reserved m x
reserved_as n x = reserved n x

-- what a token with these characters is to an expression: numbers and strings by their kinds, all else by its word
abbrev pub lexeme_by_kind : List ℕ → Word → TokenKind → Lexeme
lexeme_by_kind text w (kind.Number n) = number n
lexeme_by_kind text w kind.Str = string (between_quotes text)
lexeme_by_kind text w kind.Name = reserved_as (map capital text) (lexeme_by_word text w)
lexeme_by_kind text w _ = lexeme_by_word text w

unfoldable pub lexeme_of_token : List ℕ → lexer_token.Token → Lexeme
lexeme_of_token bytes t = lexeme_by_kind (characters bytes t) (word_of bytes t) t.kind

-- a token of a file as the grammar of expressions has it
unfoldable pub token_of : List ℕ → lexer_token.Token → Token
token_of bytes t = token t.place (lexeme_of_token bytes t)
