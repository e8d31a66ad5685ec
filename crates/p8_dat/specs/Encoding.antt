-- The long of an instruction's line, and what is wrong with the line.
--
-- The word of the line gives the opcode and what its flags are unless an effect says otherwise; the operands are values from
-- 0 to 511, addresses of the cog's longs or, after `#`, the source itself. CALL #x is a jump to x that writes the place to
-- return to into x_RET, the label of the subroutine's last instruction. Source: the Propeller Manual v1.2, assembly chapter,
-- "Syntax Definitions", "CALL", "RET" and "NOP"; refusals are this project's profile.
use Rattle.std.specs.Prelude.{◌≡◌, ◌⊎◌, ℕ, ◌+◌, ◌*◌, ◌/◌, ◌%◌, ◌^◌, Bool, false, nat_lt, ◌==◌, ◌||◌, not, if◌then◌else◌, List, ◌++◌, Option, Some}
use Rattle.std.specs.Prelude.{None, is_some, codes}
use Rattle.std.specs.Int.{from_bool}
use Rattle.std.specs.Str.{bytes_eq}
use Rattle.p8_tree.specs.declared.places.Place.{Place}
use Rattle.p8_tree.specs.Expressions.{Tree, node, Var, Variable, Named, no_index}
use Rattle.p8_tree.specs.Sources.{Instruction}
use Rattle.p8_tree.specs.declared.faults.Fault.{Fault}
use Rattle.p8_tree.specs.Faults.{fault}
use Rattle.p8_tree.specs.declared.refusal.Refusal.TheVariants.{OperandRange, NoRetLabel}
use Rattle.p8_fold.specs.declared.meanings.Meaning.{Meaning}
use Rattle.p8_fold.specs.declared.meanings.Meaning.TheVariants as meaning_case
use Rattle.p8_fold.specs.Meanings.{Setting, meaning_of}
use Rattle.p8_fold.specs.Values.{value, FaultIn, where_so}
use Rattle.p8_instr.specs.declared.instruction.Instr.{Instr}
use Rattle.p8_instr.specs.Instruction.{long_of, writes_result, is_immediate}
use Rattle.p8_instr.specs.Mnemonics.{entry_of, mnemonics}

-- ---- operands

-- an operand is from 0 to 511
abbrev pub is_address : ℕ → Bool
is_address v = nat_lt v 512

-- the field of an operand; what is refused, and what isn't there, counts as 0
abbrev pub field : Option ℕ → ℕ
field None = 0
field (Some v) = if is_address v then v else 0

abbrev pub field_of : Setting → Option Tree → ℕ
field_of s None = 0
field_of s (Some e) = field (value s e)

-- a label that doesn't stand on a long
abbrev pub is_off_long : Option Meaning → Bool
is_off_long (Some (meaning_case.Label cog offset)) = not (offset % 4 == 0)
is_off_long _ = false

-- the name of a variable, and of an expression, that is a name alone
abbrev pub name_of : Variable → Option (List ℕ)
name_of (Named name no_index place) = Some name
name_of _ = None

abbrev pub name_alone : Tree → Option (List ℕ)
name_alone (node place (Var v)) = name_of v
name_alone _ = None

-- an operand that is such a label's name alone
abbrev pub is_label_off_long : Setting → Option (List ℕ) → Bool
is_label_off_long s None = false
is_label_off_long s (Some name) = is_off_long (meaning_of s name)

-- a value that is no operand; one that is refused isn't looked at
abbrev pub is_out_of_range : Setting → Tree → Option ℕ → Bool
is_out_of_range s e None = false
is_out_of_range s e (Some v) = not (is_address v) || is_label_off_long s (name_alone e)

-- 21 at an operand's first token
abbrev pub range_fault : Setting → Tree → Place → Option Fault
range_fault s e place = where_so (is_out_of_range s e (value s e)) (fault OperandRange place)

abbrev pub FaultInOperand : Setting → Option Tree → Place → Fault → Type 0
FaultInOperand s None place f = ⊥
FaultInOperand s (Some e) place f = FaultIn s e f ⊎ (range_fault s e place ≡ Some f)

-- ---- CALL

abbrev pub is_call : Instruction → Bool
is_call x = bytes_eq x.word (codes "CALL")

-- what the label of a subroutine's end means, by the subroutine's label
abbrev pub end_meaning : Setting → Option (List ℕ) → Option Meaning
end_meaning s None = None
end_meaning s (Some name) = meaning_of s (name ++ codes "_RET")

abbrev pub return_meaning : Setting → Option Tree → Option Meaning
return_meaning s None = None
return_meaning s (Some e) = end_meaning s (name_alone e)

-- a label's cog address as an operand
abbrev pub label_field : Option Meaning → ℕ
label_field (Some (meaning_case.Label cog offset)) = field (Some cog)
label_field _ = 0

-- 24 at CALL where that is no label, 21 at the subroutine's label where it is one that is no operand
abbrev pub return_fault : Option Meaning → Place → Place → Option Fault
return_fault (Some (meaning_case.Label cog offset)) call label = where_so (not (is_address cog) || not (offset % 4 == 0)) (fault OperandRange label)
return_fault _ call label = Some (fault NoRetLabel call)

-- without a destination that is written, its place is that of the word
abbrev pub call_fault : Setting → Instruction → Option Fault
call_fault s x = if is_call x then return_fault (return_meaning s x.source) x.dest_place x.source_place else None

-- ---- the line

-- what is wrong with a line
abbrev pub FaultInInstruction : Setting → Instruction → Fault → Type 0
FaultInInstruction s x f =
    (FaultInOperand s x.dest x.dest_place f ⊎ FaultInOperand s x.source x.source_place f) ⊎ (call_fault s x ≡ Some f)

-- bit k of a number
abbrev pub bit : ℕ → ℕ → Bool
bit k n = n / 2 ^ k % 2 == 1

-- Effects: WZ is bit 0, WC bit 1, WR bit 2 and NR bit 3. An instruction that writes its result does so unless NR is written,
-- any other where WR is.
abbrev pub writes : Instr → ℕ → Bool
writes word effects = if writes_result word then not (bit 3 effects) else bit 2 effects

abbrev pub flags_of : Instr → Bool → ℕ → ℕ
flags_of word immediate effects =
    8 * from_bool (bit 0 effects) + 4 * from_bool (bit 1 effects) + 2 * from_bool (writes word effects) + from_bool (immediate || is_immediate word)

-- the instruction of a line with this word, the four bits of its condition and these fields of its operands. Where no source is written, the word has it:
-- the hub instructions' number
abbrev pub instr_with : Instruction → Instr → ℕ → ℕ → Instr
instr_with x word dest source = record {
  opcode = word.opcode;
  flags = flags_of word x.immediate x.effects;
  cond = x.cond % 16;
  dest = dest;
  source = if is_some x.source then source else word.source;
}

abbrev pub long_with : Instruction → Option Instr → ℕ → ℕ → ℕ
long_with x None dest source = 0
long_with x (Some word) dest source = long_of (instr_with x word dest source)

-- NOP is the long 0, whatever condition it has
abbrev pub long_of_fields : Instruction → ℕ → ℕ → ℕ
long_of_fields x dest source = if bytes_eq x.word (codes "NOP") then 0 else long_with x (entry_of mnemonics x.word) dest source

abbrev pub dest_of : Setting → Instruction → ℕ
dest_of s x = if is_call x then label_field (return_meaning s x.source) else field_of s x.dest

-- the long of a line
abbrev pub long_of_line : Setting → Instruction → ℕ
long_of_line s x = long_of_fields x (dest_of s x) (field_of s x.source)
