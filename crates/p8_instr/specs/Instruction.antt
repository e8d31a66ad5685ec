-- An instruction and its long, which correspond by bit ranges: the opcode, the four flags, the condition, the destination and the source.
-- Source: the Propeller Manual v1.2, assembly chapter, the opcode column of each instruction.
use Rattle.std.specs.Prelude.{ℕ, ◌+◌, ◌-◌, ◌*◌, ◌/◌, ◌%◌, ◌^◌, ◌<◌, ◌==◌, Bool}
use Rattle.p8_instr.specs.declared.instruction.Instr.{Instr}

-- bits `high` to `low` of a long
abbrev pub bit_range : ℕ → ℕ → ℕ → ℕ
bit_range long high low = long / 2 ^ low % 2 ^ (high + 1 - low)

-- the instruction that a long holds
abbrev pub instr_of : ℕ → Instr
instr_of long = record {
  opcode = bit_range long 31 26;
  flags = bit_range long 25 22;
  cond = bit_range long 21 18;
  dest = bit_range long 17 9;
  source = bit_range long 8 0;
}

-- the long that holds an instruction
abbrev pub long_of : Instr → ℕ
long_of i = i.opcode * 2 ^ 26 + i.flags * 2 ^ 22 + i.cond * 2 ^ 18 + i.dest * 2 ^ 9 + i.source

-- each field fits its bits
pub record FitsFields (i : Instr) : Type 0 where
  pub opcode : i.opcode < 64
  pub flags : i.flags < 16
  pub cond : i.cond < 16
  pub dest : i.dest < 512
  pub source : i.source < 512

-- ---- the four flags: Z and C say that the instruction writes the flag, R that it writes its result to the destination, and I that the source
-- field is the source's value

abbrev pub writes_z : Instr → Bool
writes_z i = i.flags / 8 % 2 == 1

abbrev pub writes_c : Instr → Bool
writes_c i = i.flags / 4 % 2 == 1

abbrev pub writes_result : Instr → Bool
writes_result i = i.flags / 2 % 2 == 1

abbrev pub is_immediate : Instr → Bool
is_immediate i = i.flags % 2 == 1
