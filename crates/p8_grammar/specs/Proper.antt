-- When the words of an expression are proper: the texts and the numbers in them are such as a source has. Then the tree
-- that they spell is proper.
use Rattle.std.specs.Prelude.{ℕ, ◌^◌, ◌<◌, Bool, true, false, IsTrue, List, [], ◌∷◌, All}
use Rattle.p8_tree.specs.Names.{IsName, IsWord, IsQuoted}
use Rattle.p8_tree.specs.Expressions.{Tree, node}
use Rattle.p8_tree.specs.Proper.{IsDoneForm, gives_no_value, is_one_of, IfThere, is_unary, is_binary, is_change, is_look, is_value, gives_value}
use Rattle.p8_tree.specs.Proper.{is_size, is_written_register, is_register}
use Rattle.p8_grammar.specs.Lexemes.{Access, memory, pins, input_pins, input, assembly, Lexeme, number, name, string, prefix_word, infix_word, sign}
use Rattle.p8_grammar.specs.Lexemes.{assigns, changes, size, register, look, value, built_in, command, reserved, Token, token}

-- whether a register of this address is one of which this may be done
abbrev pub is_register_for : Access → ℕ → Bool
is_register_for memory a = false
is_register_for pins a = is_written_register a
is_register_for input_pins a = is_one_of (0x1F2 ∷ []) a
is_register_for input a = is_one_of (0x1F0 ∷ 0x1F1 ∷ []) a
is_register_for assembly a = is_register true a

abbrev pub IsProperLexeme : Lexeme → Type 0
IsProperLexeme (number n) = n < 2 ^ 32
IsProperLexeme (name n) = IsName n
IsProperLexeme (string t) = All IsQuoted t
IsProperLexeme (prefix_word r k) = IsTrue (is_unary k)
IsProperLexeme (infix_word r k) = IsTrue (is_binary k)
IsProperLexeme (sign k j) = IsTrue (is_unary k) × IsTrue (is_binary j)
IsProperLexeme (assigns o) = IfThere (λ k. IsTrue (is_binary k)) o
IsProperLexeme (changes b a) = IsTrue (is_change b) × IsTrue (is_change a)
IsProperLexeme (size z) = IsTrue (is_size z)
IsProperLexeme (register a x) = IsTrue (is_register_for x a)
IsProperLexeme (look k) = IsTrue (is_look k)
IsProperLexeme (value k) = IsTrue (is_value k)
IsProperLexeme (built_in k) = IsTrue (gives_value k)
IsProperLexeme (command k) = IsTrue (gives_no_value k)
IsProperLexeme (reserved n x) = IsWord n × IsProperLexeme x
IsProperLexeme _ = Unit {0}

abbrev pub lexeme_in : Token → Lexeme
lexeme_in (token p x) = x

abbrev pub AreProper : List Token → Type 0
AreProper tokens = All (λ t. IsProperLexeme (lexeme_in t)) tokens

-- a proper action, of any height
abbrev pub IsProperAction : Tree → Type 0
IsProperAction (node p form) = IsDoneForm form
