-- The lines of DAT as words (Propeller Manual v1.2, "Propeller Assembly Language Reference").
use Rattle.std.specs.Prelude.{ℕ, ◌==◌, bit_and, Bool, true, false, if◌then◌else◌, List, [], ◌∷◌, ◌++◌, Option, Some, None, unwrap_or}
use Rattle.p8_tree.specs.Expressions.{Tree}
use Rattle.p8_tree.specs.Sources.{Datum, Instruction, Contents, Nothing, Data, Org, Res, Fit, Instr, Line}
use Rattle.p8_lexer.specs.declared.word.Word.{Word}
use Rattle.p8_lexer.specs.declared.word.Word.TheVariants as word
use Rattle.p8_lexer.specs.declared.meaning.Sought.TheVariants as sought
use Rattle.p8_lexer.specs.Words.{word_spelled, spelling, same}
use Rattle.p8_print.specs.Spelled.{Spelled, reserved}
use Rattle.p8_print.specs.Tables.{word_for, size_word}
use Rattle.p8_print.specs.Wording.{words_of, words_of_name, wrapped, words_of_count, words_of_value}

-- a label, if there is one
abbrev pub words_of_label : Option (List ℕ) → List Spelled
words_of_label None = []
words_of_label (Some n) = words_of_name n

-- a size before an item, if there is one
abbrev pub words_of_size : Option ℕ → List Spelled
words_of_size None = []
words_of_size (Some n) = reserved (size_word n) ∷ []

-- an item of data
abbrev pub words_of_datum : Datum → List Spelled
words_of_datum x = words_of_size x.size ++ (wrapped x.value ++ words_of_count x.count)

-- items after others, each with the comma before it
abbrev pub more_data : List Datum → List Spelled
more_data [] = []
more_data (x ∷ xs) = reserved word.Comma ∷ (words_of_datum x ++ more_data xs)

abbrev pub words_of_data : List Datum → List Spelled
words_of_data [] = []
words_of_data (x ∷ xs) = words_of_datum x ++ more_data xs

-- the word of a condition, but for that of each instruction that has no word for it
abbrev pub words_of_condition : ℕ → List Spelled
words_of_condition c = if c == 15 then [] else reserved (word_for (sought.Condition c)) ∷ []

-- the word of an instruction
abbrev pub instruction_word : List ℕ → Word
instruction_word text = unwrap_or (word_spelled text) word.Nop

-- whether this is CALL, whose source is a label alone
abbrev pub is_call : List ℕ → Bool
is_call text = same text (spelling word.Call)

abbrev pub source_with : Bool → Bool → Tree → List Spelled
source_with true immediate e = reserved word.Hash ∷ words_of e
source_with false true e = reserved word.Hash ∷ wrapped e
source_with false false e = wrapped e

-- a destination and a source, if there are any
abbrev pub words_of_operands : Instruction → List Spelled
words_of_operands x = both x.dest x.source
  where
    both : Option Tree → Option Tree → List Spelled
    both None None = []
    both (Some d) None = wrapped d
    both None (Some e) = source_with (is_call x.word) x.immediate e
    both (Some d) (Some e) = wrapped d ++ reserved word.Comma ∷ source_with (is_call x.word) x.immediate e

-- an effect, where its bit is set
abbrev pub words_of_effect : ℕ → ℕ → Word → List Spelled
words_of_effect effects bit w = if bit_and effects bit == 0 then [] else reserved w ∷ []

-- WZ is 1, WC 2, WR 4 and NR 8
abbrev pub words_of_effects : ℕ → List Spelled
words_of_effects n = words_of_effect n 1 word.Wz ++ (words_of_effect n 2 word.Wc ++ (words_of_effect n 4 word.Wr ++ words_of_effect n 8 word.Nr))

abbrev pub words_of_instruction : Instruction → List Spelled
words_of_instruction x = words_of_condition x.cond ++ reserved (instruction_word x.word) ∷ (words_of_operands x ++ words_of_effects x.effects)

abbrev pub words_of_contents : Contents → List Spelled
words_of_contents Nothing = []
words_of_contents (Data size xs) = reserved (size_word size) ∷ words_of_data xs
words_of_contents (Org v) = reserved word.Org ∷ words_of_value v
words_of_contents (Res v) = reserved word.Res ∷ words_of_value v
words_of_contents (Fit v) = reserved word.Fit ∷ words_of_value v
words_of_contents (Instr x) = words_of_instruction x

-- a line of DAT
abbrev pub words_of_line : Line → List Spelled
words_of_line x = words_of_label x.label ++ words_of_contents x.contents
