-- The line that a listing prints for an instruction, once it is read: its condition, the word of its opcode, its operands as numbers,
-- after `#` where the source is one itself, and the effects that say which flags it writes and whether it writes its result.
-- The words of the opcodes 0 to 2 say the latter themselves.
use Rattle.std.specs.Prelude.{ℕ, ◌+◌, ◌*◌, nat_lt, if◌then◌else◌, [], Some, unwrap_or}
use Rattle.std.specs.Int.{from_bool}
use Rattle.p8_tree.specs.declared.places.Place.{Place}
use Rattle.p8_tree.specs.Expressions.{node, Number}
use Rattle.p8_tree.specs.Sources.{Instruction}
use Rattle.p8_instr.specs.declared.instruction.Instr.{Instr}
use Rattle.p8_instr.specs.Instruction.{writes_z, writes_c, writes_result, is_immediate}
use Rattle.p8_instr.specs.Mnemonics.{mnemonics, word_where, is_named_by}

-- WZ is bit 0, WC bit 1, WR bit 2 and NR bit 3
abbrev pub effects_of : Instr → ℕ
effects_of i =
    from_bool (writes_z i) + 2 * from_bool (writes_c i) + (if nat_lt i.opcode 3 then 0 else (if writes_result i then 4 else 8))

-- p and q are the places of the operands
abbrev pub printed_line : Instr → Place → Place → Instruction
printed_line i p q = record {
  cond = i.cond;
  word = unwrap_or (word_where (is_named_by i.opcode (writes_result i)) mnemonics) [];
  dest = Some (node p (Number i.dest));
  dest_place = p;
  immediate = is_immediate i;
  source = Some (node q (Number i.source));
  source_place = q;
  effects = effects_of i;
}
