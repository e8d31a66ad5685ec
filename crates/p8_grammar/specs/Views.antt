-- What the code's enums stand for.
use Rattle.std.specs.Prelude.{ℕ, List}
use Rattle.p8_grammar.specs.Lexemes as lexemes
use Rattle.p8_grammar.specs.declared.lexemes.Setting as setting
use Rattle.p8_grammar.specs.declared.lexemes.Setting.TheVariants as setting_case
use Rattle.p8_grammar.specs.declared.lexemes.Access as access
use Rattle.p8_grammar.specs.declared.lexemes.Access.TheVariants as access_case
use Rattle.p8_grammar.specs.declared.lexemes.Punctuation as mark
use Rattle.p8_grammar.specs.declared.lexemes.Punctuation.TheVariants as mark_case
use Rattle.p8_grammar.specs.declared.lexemes.Lexeme as lexeme
use Rattle.p8_grammar.specs.declared.lexemes.Lexeme.TheVariants as lexeme_case

abbrev pub setting_of : setting.Setting → lexemes.Setting
setting_of setting_case.Method = lexemes.in_method
setting_of setting_case.Declaration = lexemes.in_declaration
setting_of setting_case.Dat = lexemes.in_dat
setting_of setting_case.DataItem = lexemes.in_data_item
setting_of setting_case.Action = lexemes.in_action

abbrev pub access_of : access.Access → lexemes.Access
access_of access_case.Memory = lexemes.memory
access_of access_case.Pins = lexemes.pins
access_of access_case.InputPins = lexemes.input_pins
access_of access_case.Input = lexemes.input
access_of access_case.Assembly = lexemes.assembly

abbrev pub mark_of : mark.Punctuation → lexemes.Mark
mark_of mark_case.LeftParenthesis = lexemes.left_parenthesis
mark_of mark_case.RightParenthesis = lexemes.right_parenthesis
mark_of mark_case.LeftBracket = lexemes.left_bracket
mark_of mark_case.RightBracket = lexemes.right_bracket
mark_of mark_case.Comma = lexemes.comma
mark_of mark_case.Colon = lexemes.colon
mark_of mark_case.Dot = lexemes.dot
mark_of mark_case.DotDot = lexemes.dot_dot
mark_of mark_case.Hash = lexemes.hash
mark_of mark_case.Backslash = lexemes.backslash
mark_of mark_case.Equal = lexemes.equal

-- with the characters of a name, and those of a string
abbrev pub lexeme_of : List ℕ → List ℕ → lexeme.Lexeme → lexemes.Lexeme
lexeme_of n t (lexeme_case.Number v) = lexemes.number v
lexeme_of n t lexeme_case.Name = lexemes.name n
lexeme_of n t lexeme_case.MethodResult = lexemes.method_result
lexeme_of n t lexeme_case.Str = lexemes.string t
lexeme_of n t (lexeme_case.Mark m) = lexemes.mark (mark_of m)
lexeme_of n t (lexeme_case.Prefix r k) = lexemes.prefix_word r k
lexeme_of n t (lexeme_case.Infix r k) = lexemes.infix_word r k
lexeme_of n t (lexeme_case.Sign k j) = lexemes.sign k j
lexeme_of n t (lexeme_case.Assigns o) = lexemes.assigns o
lexeme_of n t (lexeme_case.Changes b a) = lexemes.changes b a
lexeme_of n t lexeme_case.Address = lexemes.address
lexeme_of n t lexeme_case.ObjectAddress = lexemes.object_address
lexeme_of n t (lexeme_case.Size z) = lexemes.size z
lexeme_of n t (lexeme_case.Register a x) = lexemes.register a (access_of x)
lexeme_of n t lexeme_case.Here = lexemes.here
lexeme_of n t lexeme_case.StringWord = lexemes.string_word
lexeme_of n t lexeme_case.ConstantWord = lexemes.constant_word
lexeme_of n t (lexeme_case.Look k) = lexemes.look k
lexeme_of n t (lexeme_case.Value k) = lexemes.value k
lexeme_of n t (lexeme_case.BuiltIn k) = lexemes.built_in k
lexeme_of n t (lexeme_case.Command k) = lexemes.command k
lexeme_of n t lexeme_case.Other = lexemes.other
