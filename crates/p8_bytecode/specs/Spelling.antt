-- How a bytecode is spelled, and the one spelling that a compiler writes.
-- Source: the public Spin bytecode listing of the Propeller P8X32A; that a variable's offset has two bytes after $87 is this project's profile.
use Rattle.std.specs.Prelude.{◌≡◌, ℕ, ◌+◌, ◌/◌, ◌%◌, ◌^◌, ◌<◌, Bool, true, false, ◌||◌, nat_le, ◌==◌, if◌then◌else◌, List, [], ◌∷◌, ◌++◌, length}
use Rattle.std.specs.Prelude.{Option, Some, None, IsTrue}
use Rattle.p8_bytecode.specs.declared.op.Op.{Op}
use Rattle.p8_bytecode.specs.declared.operands.Operands.{Operands}
use Rattle.p8_bytecode.specs.declared.operands.Operands.TheVariants.{Nothing, Offset, OneByte, TwoBytes, ThreeBytes, SevenBits, Word, Triple, Long}
use Rattle.p8_bytecode.specs.declared.operands.Operands.TheVariants.{Register, ShortVariable, Variable}
use Rattle.p8_bytecode.specs.Table.{operands_of, is_register, is_effect, is_step}
use Rattle.p8_bytecode.specs.Reading.{bare, sign_extended, changes_variable, has_base, changes_register}

-- ---- the operations that there are

-- an offset of 7 bits, or of 15 in the long form: it is what its lowest bits are as a signed number
abbrev pub IsOffset : Bool → ℕ → Type 0
IsOffset true offset = offset ≡ sign_extended 15 (offset % 2 ^ 15)
IsOffset false offset = offset ≡ sign_extended 7 (offset % 2 ^ 7)

-- the effect of an operation that changes a variable or a register; only a step of REPEAT has an offset
abbrev pub IsStep : Bool → Op → Type 0
IsStep true op = IsOffset op.long_form op.second
IsStep false op = (op.second ≡ 0) × (op.long_form ≡ false)

abbrev pub IsChange : Bool → Op → Type 0
IsChange true op = IsTrue (is_effect op.effect) × IsStep (is_step op.effect) op
IsChange false op = (op.effect ≡ 0) × (op.second ≡ 0) × (op.long_form ≡ false)

-- a variable's offset, where there is a base
abbrev pub IsPlace : Bool → ℕ → Type 0
IsPlace true place = place < 2 ^ 15
IsPlace false place = place ≡ 0

-- the operands fit what stands after the bytecode, and what it doesn't have is 0 or false
abbrev pub FitsOperands : Option Operands → Op → Type 0
FitsOperands None op = ⊥
FitsOperands (Some Nothing) op = op ≡ bare op.code
FitsOperands (Some Offset) op = (op ≡ record (bare op.code) { first = op.first; long_form = op.long_form }) × IsOffset op.long_form op.first
FitsOperands (Some OneByte) op = (op ≡ record (bare op.code) { first = op.first }) × (op.first < 2 ^ 8)
FitsOperands (Some TwoBytes) op = (op ≡ record (bare op.code) { first = op.first; second = op.second }) × (op.first < 2 ^ 8) × (op.second < 2 ^ 8)
FitsOperands (Some ThreeBytes) op =
    (op ≡ record (bare op.code) { first = op.first; second = op.second; third = op.third }) × (op.first < 2 ^ 8) × (op.second < 2 ^ 8) × (op.third < 2 ^ 8)
FitsOperands (Some SevenBits) op = (op ≡ record (bare op.code) { first = op.first }) × (op.first < 2 ^ 7)
FitsOperands (Some Word) op = (op ≡ record (bare op.code) { first = op.first }) × (op.first < 2 ^ 16)
FitsOperands (Some Triple) op = (op ≡ record (bare op.code) { first = op.first }) × (op.first < 2 ^ 24)
FitsOperands (Some Long) op = (op ≡ record (bare op.code) { first = op.first }) × (op.first < 2 ^ 32)
FitsOperands (Some Register) op = (op.third ≡ 0) × IsTrue (is_register op.code op.first) × IsChange (changes_register op.first) op
FitsOperands (Some ShortVariable) op = (op.first ≡ 0) × (op.third ≡ 0) × IsChange (changes_variable op.code) op
FitsOperands (Some Variable) op = (op.third ≡ 0) × IsPlace (has_base op.code) op.first × IsChange (changes_variable op.code) op

-- an operation that stands in some bytes
pub record IsOp (op : Op) : Type 0 where
  pub operands : FitsOperands (operands_of op.code) op

-- ---- the spelling

abbrev pub offset_bytes : Bool → ℕ → List ℕ
offset_bytes false offset = (offset % 128) ∷ []
offset_bytes true offset = (128 + offset / 256 % 128) ∷ (offset % 256) ∷ []

-- the bytes of a variable's offset, in the form of two bytes or of one
abbrev pub place_bytes : Bool → ℕ → List ℕ
place_bytes true place = (128 + place / 256) ∷ (place % 256) ∷ []
place_bytes false place = place ∷ []

abbrev pub effect_bytes : Bool → Op → List ℕ
effect_bytes changes op =
    if changes then op.effect ∷ (if is_step op.effect then offset_bytes op.long_form op.second else []) else []

-- the bytes after the bytecode's byte, with a variable's offset in this form
abbrev pub operand_bytes : Option Operands → Bool → Op → List ℕ
operand_bytes None long_place op = []
operand_bytes (Some Nothing) long_place op = []
operand_bytes (Some Offset) long_place op = offset_bytes op.long_form op.first
operand_bytes (Some OneByte) long_place op = op.first ∷ []
operand_bytes (Some TwoBytes) long_place op = op.first ∷ op.second ∷ []
operand_bytes (Some ThreeBytes) long_place op = op.first ∷ op.second ∷ op.third ∷ []
operand_bytes (Some SevenBits) long_place op = op.first ∷ []
operand_bytes (Some Word) long_place op = (op.first / 2 ^ 8) ∷ (op.first % 2 ^ 8) ∷ []
operand_bytes (Some Triple) long_place op = (op.first / 2 ^ 16) ∷ (op.first / 2 ^ 8 % 2 ^ 8) ∷ (op.first % 2 ^ 8) ∷ []
operand_bytes (Some Long) long_place op = (op.first / 2 ^ 24) ∷ (op.first / 2 ^ 16 % 2 ^ 8) ∷ (op.first / 2 ^ 8 % 2 ^ 8) ∷ (op.first % 2 ^ 8) ∷ []
operand_bytes (Some Register) long_place op = op.first ∷ effect_bytes (changes_register op.first) op
operand_bytes (Some ShortVariable) long_place op = effect_bytes (changes_variable op.code) op
operand_bytes (Some Variable) long_place op =
    (if has_base op.code then place_bytes long_place op.first else []) ++ effect_bytes (changes_variable op.code) op

-- the bytes of an operation, with a variable's offset in this form
abbrev pub spelling : Bool → Op → List ℕ
spelling long_place op = op.code ∷ operand_bytes (operands_of op.code) long_place op

-- that an operation stands whole at the head of these bytes, and has so many of them
pub record Stands (bytes : List ℕ) (op : Op) (size : ℕ) : Type 0 where
  pub is_op : IsOp op
  pub long_place : Bool
  pub fits : long_place ≡ false → op.first < 128
  pub rest : List ℕ
  pub spelled : bytes ≡ spelling long_place op ++ rest
  pub ends : size ≡ length (spelling long_place op)

-- ---- the one spelling that a compiler writes

-- a variable's offset has two bytes where it is 128 or more, and after $87 always, so that no method's length depends on where a text stands
abbrev pub has_long_place : Op → Bool
has_long_place op = op.code == 0x87 || nat_le 128 op.first

abbrev pub spelled : Op → List ℕ
spelled op = spelling (has_long_place op) op
