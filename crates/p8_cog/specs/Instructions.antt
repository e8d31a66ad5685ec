-- How instructions are carried out, by their fields (Propeller Manual v1.2, assembly reference).
use Rattle.std.specs.Prelude.{ℕ, ◌==◌, ◌&&◌, ◌||◌, nat_le, if◌then◌else◌, Bool, Option, Some, None}
use Rattle.p8_access.specs.declared.kinds.Width.{Width}
use Rattle.p8_access.specs.declared.kinds.Width.TheVariants.{Byte, Word, Long}
use Rattle.p8_access.specs.declared.kinds.Access.{Access}
use Rattle.p8_access.specs.declared.kinds.Access.TheVariants.{PinsIn, Clock}
use Rattle.p8_instr.specs.declared.instruction.Instr.{Instr}
use Rattle.p8_instr.specs.Instruction.{is_immediate}
use Rattle.p8_instr.specs.Conditions.{is_met}
use Rattle.p8_cog.specs.declared.instruction_kind.InstructionKind.{InstructionKind}
use Rattle.p8_cog.specs.declared.instruction_kind.InstructionKind.TheVariants.{Skipped, Halting, OfHub, Waiting, Computing}

-- ---- the special registers that are spoken of by name; those from CTRA on belong to the counters and
-- the video generator

abbrev pub par_register : ℕ
par_register = 496

abbrev pub cnt_register : ℕ
cnt_register = 497

abbrev pub ina_register : ℕ
ina_register = 498

abbrev pub inb_register : ℕ
inb_register = 499

abbrev pub outa_register : ℕ
outa_register = 500

abbrev pub dira_register : ℕ
dira_register = 502

abbrev pub ctra_register : ℕ
ctra_register = 504

-- ---- the opcodes that are spoken of by name

abbrev pub rdbyte : ℕ
rdbyte = 0

abbrev pub rdword : ℕ
rdword = 1

abbrev pub hubop : ℕ
hubop = 3

abbrev pub mul : ℕ
mul = 4

abbrev pub ones : ℕ
ones = 7

abbrev pub jmpret : ℕ
jmpret = 23

abbrev pub djnz : ℕ
djnz = 57

abbrev pub tjz : ℕ
tjz = 59

abbrev pub waitpeq : ℕ
waitpeq = 60

abbrev pub waitpne : ℕ
waitpne = 61

abbrev pub waitcnt : ℕ
waitcnt = 62

abbrev pub waitvid : ℕ
waitvid = 63

-- ---- the operations of HUBOP, by the low three bits of its source

abbrev pub clkset : ℕ
clkset = 0

abbrev pub cogid : ℕ
cogid = 1

abbrev pub coginit : ℕ
coginit = 2

abbrev pub cogstop : ℕ
cogstop = 3

abbrev pub locknew : ℕ
locknew = 4

abbrev pub lockret : ℕ
lockret = 5

abbrev pub lockset : ℕ
lockset = 6

-- ---- how an instruction is carried out under the flags C and Z

-- MUL, MULS, ENC and ONES, which the chip doesn't have, and WAITVID
abbrev pub is_halting : (opcode : ℕ) → Bool
is_halting opcode = (nat_le mul opcode && nat_le opcode ones) || (opcode == waitvid)

abbrev pub executed_kind : (opcode : ℕ) → InstructionKind
executed_kind opcode =
    if is_halting opcode then Halting
    else (if nat_le opcode hubop then OfHub
    else (if nat_le waitpeq opcode then Waiting
    else Computing))

abbrev pub kind_of : Instr → (c z : Bool) → InstructionKind
kind_of i c z = if is_met i.cond c z then executed_kind i.opcode else Skipped

-- how wide the access of the opcodes 0 to 2 is
abbrev pub width_of : (opcode : ℕ) → Width
width_of opcode = if opcode == rdbyte then Byte else (if opcode == rdword then Word else Long)

-- the access by which an instruction reads its source: of CNT or INA
abbrev pub source_access : Instr → Option Access
source_access i =
    if is_immediate i then None
    else (if i.source == cnt_register then Some Clock
    else (if i.source == ina_register then Some PinsIn
    else None))
