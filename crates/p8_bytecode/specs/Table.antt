-- The table of Spin's bytecodes: which bytes stand after the byte of each.
-- Source: the public Spin bytecode listing of the Propeller P8X32A.
use Rattle.std.specs.Prelude.{ℕ, ◌%◌, Bool, ◌&&◌, ◌||◌, nat_le, ◌==◌, if◌then◌else◌, List, [], ◌∷◌, Option, Some, None}
use Rattle.p8_bytecode.specs.declared.operands.Operands.{Operands}
use Rattle.p8_bytecode.specs.declared.operands.Operands.TheVariants.{Nothing, Offset, OneByte, TwoBytes, ThreeBytes, SevenBits, Word, Triple, Long}
use Rattle.p8_bytecode.specs.declared.operands.Operands.TheVariants.{Register, ShortVariable, Variable}

-- whether n lies from `first` to `last`, both included
abbrev pub is_within : ℕ → ℕ → ℕ → Bool
is_within first last n = nat_le first n && nat_le n last

-- what the first row says in which the bytecode lies; a row has a first and a last bytecode
abbrev pub in_rows : List (ℕ × ℕ × Operands) → ℕ → Option Operands
in_rows [] code = None
in_rows (row ∷ rows) code = if is_within row.0 row.1 code then Some row.2 else in_rows rows code

-- ---- the table, in the order of the bytecodes

unfoldable pub rows : List (ℕ × ℕ × Operands)
rows =
    (0x00, 0x03, Nothing) ∷  -- marks of a call
    (0x04, 0x04, Offset) ∷  -- jump
    (0x05, 0x05, OneByte) ∷  -- call: a method
    (0x06, 0x06, TwoBytes) ∷  -- call in an object: its place, a method
    (0x07, 0x07, ThreeBytes) ∷  -- call in an array of objects: its place, their number, a method
    (0x08, 0x0B, Offset) ∷  -- loops by count, jumps by a test
    (0x0C, 0x0C, Nothing) ∷  -- end of CASE tests
    (0x0D, 0x0E, Offset) ∷  -- CASE tests
    (0x0F, 0x0F, Nothing) ∷  -- end of LOOK tests
    (0x10, 0x13, Offset) ∷  -- LOOK tests
    (0x14, 0x14, Nothing) ∷  -- a value dropped
    (0x15, 0x15, TwoBytes) ∷  -- start of a method in a cog: the method, the number of its arguments
    (0x16, 0x1F, Nothing) ∷  -- texts, fills, moves, waits
    (0x21, 0x23, Nothing) ∷  -- COGSTOP, LOCKRET, WAITCNT
    (0x28, 0x2F, Nothing) ∷  -- COGINIT, LOCKNEW, LOCKSET, LOCKCLR
    (0x30, 0x36, Nothing) ∷  -- ABORT, RETURN, the constants -1, 0 and 1
    (0x37, 0x37, SevenBits) ∷  -- a packed constant
    (0x38, 0x38, OneByte) ∷  -- constants of one to four bytes
    (0x39, 0x39, Word) ∷
    (0x3A, 0x3A, Triple) ∷
    (0x3B, 0x3B, Long) ∷
    (0x3D, 0x3F, Register) ∷  -- pins of a register, a register
    (0x40, 0x7F, ShortVariable) ∷  -- a long variable by its number
    (0x80, 0xDF, Variable) ∷  -- memory
    (0xE0, 0xFF, Nothing) ∷  -- operators
    []

-- what stands after a bytecode's byte, or nothing where no bytecode has it
abbrev pub operands_of : ℕ → Option Operands
operands_of code = in_rows rows code

-- ---- the bytes of registers

-- $90, $B0 or $D0 (push, pop, change) and the register's address less $1F0; $89 is COGID, after the bytecode of a whole register alone
abbrev pub is_register : ℕ → ℕ → Bool
is_register code byte = is_within 0x90 0x9F byte || is_within 0xB0 0xBF byte || is_within 0xD0 0xDF byte || (code == 0x3F && byte == 0x89)

-- ---- effects

-- the effects that leave a value where 128 is added: write; extend the sign of bit 7, of bit 15; write 0, write -1; add 1 and subtract 1, leaving
-- the new or the old value; the 32 operators
abbrev pub may_leave : ℕ → Bool
may_leave effect = effect == 0x00 || effect == 0x10 || effect == 0x14 || effect == 0x18 || effect == 0x1C || is_within 0x20 0x5F effect

-- the steps of REPEAT, by 1 and by a popped number, jump back and leave none
abbrev pub is_step : ℕ → Bool
is_step effect = effect == 0x02 || effect == 0x06

abbrev pub is_effect : ℕ → Bool
is_effect byte = is_step byte || may_leave (byte % 128)
