-- The word of each number in a tree (Propeller Manual v1.2, "Spin Language Reference"): operators, built-ins and changes
-- have the numbers of their bytecodes and effect bytes, registers those of their addresses in a cog.
use Rattle.std.specs.Prelude.{ℕ, ◌+◌, nat_le, ◌==◌, ◌&&◌, ◌||◌, Bool, if◌then◌else◌, unwrap_or}
use Rattle.p8_lexer.specs.declared.word.Word.{Word}
use Rattle.p8_lexer.specs.declared.word.Word.TheVariants as word
use Rattle.p8_lexer.specs.declared.meaning.Sought.{Sought}
use Rattle.p8_lexer.specs.declared.meaning.Sought.TheVariants as sought
use Rattle.p8_lexer.specs.Meanings.{word_by}

-- the word of a number; no number that trees have is without one
abbrev pub word_for : Sought → Word
word_for s = unwrap_or (word_by s) word.Plus

-- operators before an operand and between operands
abbrev pub operator_word : ℕ → Word
operator_word k = word_for (sought.Operator k)

-- AND and OR, which are words: the `=` that makes them assignments is a token of its own
abbrev pub is_boolean : ℕ → Bool
is_boolean k = k == 0xF0 || k == 0xF2

-- assignments by the other operators
abbrev pub assignment_word : ℕ → Word
assignment_word k = word_for (sought.Assignment k)

-- changes before a variable and after it; an operator that alone before a variable writes it has an effect byte that is its
-- bytecode less A0
abbrev pub change_word : ℕ → Word
change_word k = if nat_le 0x40 k && nat_le k 0x5F then operator_word (k + 0xA0) else word_for (sought.Change k)

-- whether a change stands after its variable
abbrev pub is_behind : ℕ → Bool
is_behind k = k == 0x28 || k == 0x38 || k == 0x18 || k == 0x1C

-- sizes in bytes
abbrev pub size_word : ℕ → Word
size_word z = word_for (sought.Size z)

abbrev pub register_word : ℕ → Word
register_word a = word_for (sought.Register a)

-- built-ins and LOOK functions
abbrev pub built_word : ℕ → Word
built_word k = word_for (sought.BuiltIn k)
