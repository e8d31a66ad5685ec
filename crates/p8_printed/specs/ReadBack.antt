-- What is read of the text of a long as an instruction.
use Rattle.std.specs.Prelude.{◌≡◌, ℕ, ◌==◌, if◌then◌else◌, false, List, [], ◌∷◌, ◌++◌, None, codes}
use Rattle.p8_words.specs.declared.failure.Fail.{Fail}
use Rattle.p8_words.specs.declared.failure.Fail.TheVariants as fail_case
use Rattle.p8_tree.specs.declared.faults.Fault.{Fault}
use Rattle.p8_tree.specs.declared.places.Place.{Place}
use Rattle.p8_tree.specs.Sources.{Instruction, Instr, Line, Dat, Source}
use Rattle.p8_instr.specs.Instruction.{instr_of}
use Rattle.p8_dat.specs.Printed.{printed_line}
use Rattle.p8_instr.specs.Instructions.{long_text}

-- a source that has this text as the only line of its DAT
abbrev pub source_with : List ℕ → List ℕ
source_with text = codes "DAT\n  " ++ text ++ codes "\n"

-- the source with the text of a long
abbrev pub source_text : ℕ → List ℕ
source_text long = source_with (long_text long)

-- NOP without a condition, at a place
abbrev pub nop_line : Place → Instruction
nop_line p = record {
  cond = 15;
  word = codes "NOP";
  dest = None;
  dest_place = p;
  immediate = false;
  source = None;
  source_place = p;
  effects = 0;
}

-- the instruction that the text of a long is, with its operands at these places
abbrev pub read_line : ℕ → Place → Place → Instruction
read_line long p q = if long == 0 then nop_line p else printed_line (instr_of long) p q

-- a line without a label and with this instruction, at whatever places
pub record IsLineOf (long : ℕ) (line : Line) : Type 0 where
  pub label : line.label ≡ None
  pub destination : Place
  pub source : Place
  pub contents : line.contents ≡ Instr (read_line long destination source)

-- the file with this line
abbrev pub file_with : Line → Source
file_with line = Dat (line ∷ []) ∷ []

abbrev pub IsFileOf : ℕ → Source → Type 0
IsFileOf long file = (line : Line) × IsLineOf long line × (file ≡ file_with line)

-- where its DAT begins in the object's memory: after two entries of its table
abbrev pub start : ℕ
start = 8

-- for want of memory alone
abbrev pub IsNotRefused : Fail Fault → Type 0
IsNotRefused fail = fail ≡ fail_case.NoMemory
