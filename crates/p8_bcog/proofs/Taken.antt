-- What a bytecode that is read has: bounds of its operands.
use Rattle.std.proofs.Common.{◌≡◌, ℕ, ◌%◌, ◌<◌, Bool, true, false, Option, Some, None, refl, ap, subst, ◌∙◌, arith}
use Rattle.std.proofs.lemmas.Bool.Decides.{nat_tests}
use Rattle.p8_bytecode.specs.declared.op.Op.{Op}
use Rattle.p8_bytecode.specs.declared.operands.Operands.{Operands}
use Rattle.p8_bytecode.specs.declared.operands.Operands.TheVariants.{Nothing, Offset, OneByte, TwoBytes, ThreeBytes, SevenBits, Word, Triple, Long, Register, ShortVariable, Variable}
use Rattle.p8_bytecode.specs.Table.{rows, operands_of, is_effect}
use Rattle.p8_bytecode.specs.Reading.{changes_variable, changes_register}
use Rattle.p8_bytecode.specs.Spelling.{IsOp, FitsOperands, IsChange}

-- an effect that there is
effect-bound : (e : ℕ) → is_effect e ≡ true → e % 128 < 0x60
effect-bound e is = grind (arith, nat_tests)

change-bound : (b : Bool) (op : Op) → IsChange b op → op.effect % 128 < 0x60
change-bound true op change = effect-bound op.effect change.0
change-bound false op change = let none : op.effect ≡ 0 = change.0 in omega (arith, ap (λ (e : ℕ). e % 128) none)

bare-bound : (op other : Op) → op ≡ other → other.effect ≡ 0 → op.effect % 128 < 0x60
bare-bound op other is none = let same : op.effect ≡ 0 = ap (λ (o : Op). o.effect) is ∙ none in omega (arith, ap (λ (e : ℕ). e % 128) same)

fits-bound : (o : Option Operands) (op : Op) → FitsOperands o op → op.effect % 128 < 0x60
fits-bound None op fits = absurd fits
fits-bound (Some Nothing) op fits = bare-bound op _ fits refl
fits-bound (Some Offset) op fits = bare-bound op _ fits.0 refl
fits-bound (Some OneByte) op fits = bare-bound op _ fits.0 refl
fits-bound (Some TwoBytes) op fits = bare-bound op _ fits.0 refl
fits-bound (Some ThreeBytes) op fits = bare-bound op _ fits.0 refl
fits-bound (Some SevenBits) op fits = bare-bound op _ fits.0 refl
fits-bound (Some Word) op fits = bare-bound op _ fits.0 refl
fits-bound (Some Triple) op fits = bare-bound op _ fits.0 refl
fits-bound (Some Long) op fits = bare-bound op _ fits.0 refl
fits-bound (Some Register) op fits = change-bound (changes_register op.first) op fits.2
fits-bound (Some ShortVariable) op fits = change-bound (changes_variable op.code) op fits.2
fits-bound (Some Variable) op fits = change-bound (changes_variable op.code) op fits.2

pub effect_below : (op : Op) → IsOp op → op.effect % 128 < 0x60
effect_below op is = fits-bound (operands_of op.code) op is.operands

fits-at : (op : Op) (code : ℕ) → IsOp op → op.code ≡ code → FitsOperands (operands_of code) op
fits-at op code is e = subst (λ (c : ℕ). FitsOperands (operands_of c) op) e is.operands

pub own_bound : (op : Op) → IsOp op → op.code ≡ 0x05 → op.first < 256
unfolding rows
own_bound op is e = (fits-at op 0x05 is e).1

pub object_bounds : (op : Op) → IsOp op → op.code ≡ 0x06 → (op.first < 256) × (op.second < 256)
unfolding rows
object_bounds op is e = let fits = fits-at op 0x06 is e in (fits.1, fits.2)

pub indexed_bounds : (op : Op) → IsOp op → op.code ≡ 0x07 → (op.first < 256) × (op.second < 256) × (op.third < 256)
unfolding rows
indexed_bounds op is e = let fits = fits-at op 0x07 is e in (fits.1, fits.2, fits.3)

pub start_bounds : (op : Op) → IsOp op → op.code ≡ 0x15 → (op.first < 256) × (op.second < 256)
unfolding rows
start_bounds op is e = let fits = fits-at op 0x15 is e in (fits.1, fits.2)
