-- How a bytecode is read: its operands and the number of its bytes.
-- Source: the public Spin bytecode listing of the Propeller P8X32A.
use Rattle.std.specs.Prelude.{ℕ, ◌+◌, ◌-◌, ◌*◌, ◌/◌, ◌%◌, ◌^◌, Bool, true, false, nat_le, nat_lt, ◌==◌, if◌then◌else◌, List, [], ◌∷◌, drop, Option}
use Rattle.std.specs.Prelude.{Some, None, option_map}
use Rattle.p8_bytecode.specs.declared.op.Op.{Op}
use Rattle.p8_bytecode.specs.declared.operands.Operands.{Operands}
use Rattle.p8_bytecode.specs.declared.operands.Operands.TheVariants.{Nothing, Offset, OneByte, TwoBytes, ThreeBytes, SevenBits, Word, Triple, Long}
use Rattle.p8_bytecode.specs.declared.operands.Operands.TheVariants.{Register, ShortVariable, Variable}
use Rattle.p8_bytecode.specs.Table.{operands_of, is_register, is_effect, is_step}

-- a bytecode that has nothing beside its byte
abbrev pub bare : ℕ → Op
bare code = record { code = code; first = 0; second = 0; third = 0; effect = 0; long_form = false }

-- ---- the offset of a jump, counted from the byte after it

-- the word, in two's complement, of the signed number that n is by its lowest `bits` bits
abbrev pub sign_extended : ℕ → ℕ → ℕ
sign_extended bits n = if nat_lt n (2 ^ (bits - 1)) then n else n + (2 ^ 32 - 2 ^ bits)

-- the offset at the head of these bytes, and whether it has two bytes: a byte below $80 is a signed number of 7 bits; else its low seven bits and
-- the next byte are one of 15 bits
abbrev pub offset_in : List ℕ → Option (ℕ × Bool)
offset_in [] = None
offset_in (byte ∷ []) = if nat_lt byte 128 then Some (sign_extended 7 byte, false) else None
offset_in (byte ∷ low ∷ rest) = if nat_lt byte 128 then Some (sign_extended 7 byte, false) else Some (sign_extended 15 (byte % 128 * 256 + low), true)

-- how many bytes an offset has
abbrev pub offset_size : Bool → ℕ
offset_size long_form = if long_form then 2 else 1

-- ---- effects

-- the operation with the offset of a step of REPEAT, after so many bytes
abbrev pub stepping : Op → ℕ → Option (ℕ × Bool) → Option (Op × ℕ)
stepping op size None = None
stepping op size (Some offset) = Some (record op { second = offset.0; long_form = offset.1 }, size + offset_size offset.1)

-- the operation with the effect at the head of these bytes, which stand after so many others
abbrev pub effect_in : Op → ℕ → List ℕ → Option (Op × ℕ)
effect_in op size [] = None
effect_in op size (effect ∷ rest) =
    if is_step effect then stepping (record op { effect = effect }) (size + 1) (offset_in rest)
    else if is_effect effect then Some (record op { effect = effect }, size + 1)
    else None

abbrev pub changing : Bool → Op → ℕ → List ℕ → Option (Op × ℕ)
changing changes op size bytes = if changes then effect_in op size bytes else Some (op, size)

-- ---- variables and registers

-- whether a bytecode of memory, or of a long variable by its number, changes it by an effect: bits 1 and 0 say push, pop, change, push the address
abbrev pub changes_variable : ℕ → Bool
changes_variable code = code % 4 == 2

-- whether a bytecode of memory has a base, and so a variable's offset: bits 3 and 2 say popped address, OBJ, VAR, LOC
abbrev pub has_base : ℕ → Bool
has_base code = nat_lt 0 (code / 4 % 4)

-- whether the byte of a register says that an effect changes it
abbrev pub changes_register : ℕ → Bool
changes_register byte = nat_le 0xC0 byte

-- a variable's offset is a byte below $80, or two bytes of which the first has bit 7 set: 15 bits, high part first
abbrev pub variable_in : ℕ → List ℕ → Option (Op × ℕ)
variable_in code [] = None
variable_in code (byte ∷ []) =
    if nat_lt byte 128 then changing (changes_variable code) (record (bare code) { first = byte }) 1 [] else None
variable_in code (byte ∷ low ∷ rest) =
    if nat_lt byte 128 then changing (changes_variable code) (record (bare code) { first = byte }) 1 (low ∷ rest)
    else changing (changes_variable code) (record (bare code) { first = byte % 128 * 256 + low }) 2 rest

-- ---- whole bytecodes

abbrev pub jump_in : ℕ → Option (ℕ × Bool) → Option (Op × ℕ)
jump_in code None = None
jump_in code (Some offset) = Some (record (bare code) { first = offset.0; long_form = offset.1 }, offset_size offset.1)

-- a bytecode with the operands that stand at the head of these bytes, and how many bytes they have
abbrev pub operands_in : Operands → ℕ → List ℕ → Option (Op × ℕ)
operands_in Nothing code bytes = Some (bare code, 0)
operands_in Offset code bytes = jump_in code (offset_in bytes)
operands_in OneByte code (a ∷ rest) = Some (record (bare code) { first = a }, 1)
operands_in TwoBytes code (a ∷ b ∷ rest) = Some (record (bare code) { first = a; second = b }, 2)
operands_in ThreeBytes code (a ∷ b ∷ c ∷ rest) = Some (record (bare code) { first = a; second = b; third = c }, 3)
operands_in SevenBits code (a ∷ rest) = if nat_lt a 128 then Some (record (bare code) { first = a }, 1) else None
operands_in Word code (a ∷ b ∷ rest) = Some (record (bare code) { first = a * 2 ^ 8 + b }, 2)
operands_in Triple code (a ∷ b ∷ c ∷ rest) = Some (record (bare code) { first = a * 2 ^ 16 + b * 2 ^ 8 + c }, 3)
operands_in Long code (a ∷ b ∷ c ∷ d ∷ rest) = Some (record (bare code) { first = a * 2 ^ 24 + b * 2 ^ 16 + c * 2 ^ 8 + d }, 4)
operands_in Register code (a ∷ rest) =
    if is_register code a then changing (changes_register a) (record (bare code) { first = a }) 1 rest else None
operands_in ShortVariable code bytes = changing (changes_variable code) (bare code) 0 bytes
operands_in Variable code bytes = if has_base code then variable_in code bytes else changing (changes_variable code) (bare code) 0 bytes
operands_in _ code _ = None

abbrev pub coded : Option Operands → ℕ → List ℕ → Option (Op × ℕ)
coded None code bytes = None
coded (Some operands) code bytes = operands_in operands code bytes

-- the bytecode at the head of these bytes and the number of its bytes, or nothing where none stands there whole
abbrev pub op_in : List ℕ → Option (Op × ℕ)
op_in [] = None
op_in (code ∷ bytes) = option_map (λ read. (read.0, 1 + read.1)) (coded (operands_of code) code bytes)

-- the bytecode at a place and the place after it
abbrev pub op_at : List ℕ → ℕ → Option (Op × ℕ)
op_at bytes place = option_map (λ read. (read.0, place + read.1)) (op_in (drop place bytes))
