-- The text of an instruction in a listing, which the assembler reads back (words, conditions and effects: Propeller Manual v1.2,
-- assembly chapter; which of them are printed is this project's profile).
use Rattle.std.specs.Prelude.{ℕ, ◌==◌, nat_lt, if◌then◌else◌, List, [], ◌++◌, codes, unwrap_or}
use Rattle.p8_instr.specs.declared.instruction.Instr.{Instr}
use Rattle.p8_instr.specs.Conditions.{conditions}
use Rattle.p8_instr.specs.Instruction.{instr_of, writes_z, writes_c, writes_result, is_immediate}
use Rattle.p8_instr.specs.Mnemonics.{mnemonics, word_where, is_named_by}
use Rattle.p8_instr.specs.Numerals.{hex}

-- the condition's first name and a space, or nothing where the instruction always executes
abbrev pub condition_text : Instr → List ℕ
condition_text i = if i.cond == 15 then [] else unwrap_or (word_where (λ field. field == i.cond) conditions) [] ++ codes " "

-- the word of the opcode; the opcodes 0 to 2 have one where they write their result and another where they don't
abbrev pub word_text : Instr → List ℕ
word_text i = unwrap_or (word_where (is_named_by i.opcode (writes_result i)) mnemonics) []

-- the destination, and the source as a register or as a number
abbrev pub operands_text : Instr → List ℕ
operands_text i = codes "$" ++ hex 3 i.dest ++ (if is_immediate i then codes ", #$" else codes ", $") ++ hex 3 i.source

-- the flags that are written, and whether the result is. A word of the opcodes 0 to 2 tells the latter.
abbrev pub effects_text : Instr → List ℕ
effects_text i =
    (if writes_z i then codes " WZ" else []) ++ (if writes_c i then codes " WC" else [])
    ++ (if nat_lt i.opcode 3 then [] else (if writes_result i then codes " WR" else codes " NR"))

-- an instruction's text: its condition, its word, its operands and its effects
abbrev pub instruction_text : Instr → List ℕ
instruction_text i = condition_text i ++ word_text i ++ codes " " ++ operands_text i ++ effects_text i

-- the text of a long as an instruction; the long 0 is NOP
abbrev pub long_text : ℕ → List ℕ
long_text long = if long == 0 then codes "NOP" else instruction_text (instr_of long)
