-- What an operation is spelled as is read as that operation, whatever follows.
use Rattle.std.proofs.Common.{◌≡◌, ℕ, suc, ◌+◌, ◌*◌, ◌/◌, ◌%◌, ◌^◌, ◌<◌, ◌≤◌, Bool, true, false, cond, if◌then◌else◌, ◌||◌, ◌==◌, nat_lt, nat_le, List, [], ◌∷◌, ◌++◌, length, drop, Option, Some, None, option_map, refl, sym, ap, ◌∙◌, arith, append_assoc, length-append}
use Rattle.std.proofs.lemmas.Bool.Decides.{nat_tests}
use Rattle.p8_bytecode.specs.declared.op.Op.{Op}
use Rattle.p8_bytecode.specs.declared.operands.Operands.{Operands}
use Rattle.p8_bytecode.specs.declared.operands.Operands.TheVariants.{Nothing, Offset, OneByte, TwoBytes, ThreeBytes, SevenBits, Word, Triple, Long, Register, ShortVariable, Variable}
use Rattle.p8_bytecode.specs.Table.{operands_of, is_register, is_effect, is_step}
use Rattle.p8_bytecode.specs.Reading.{bare, sign_extended, offset_in, offset_size, stepping, changing, changes_variable, has_base, changes_register, variable_in, coded, op_in, op_at}
use Rattle.p8_bytecode.specs.Spelling.{IsOffset, IsStep, IsChange, IsPlace, FitsOperands, IsOp, offset_bytes, place_bytes, effect_bytes, operand_bytes, spelling, Stands, has_long_place, spelled}

-- ---- tests

cond-true : {A : Type 0} (b : Bool) (x y : A) → b ≡ true → cond b x y ≡ x
cond-true b x y h = rw h refl

cond-false : {A : Type 0} (b : Bool) (x y : A) → b ≡ false → cond b x y ≡ y
cond-false b x y h = rw h refl

below : (n m : ℕ) → n < m → nat_lt n m ≡ true
below n m h = grind (arith, nat_tests)

not-below : (n m : ℕ) → m ≤ n → nat_lt n m ≡ false
not-below n m h = grind (arith, nat_tests)

-- ---- offsets

offset-read : (long_form : Bool) (offset : ℕ) (rest : List ℕ) → IsOffset long_form offset
    → offset_in (offset_bytes long_form offset ++ rest) ≡ Some (offset, long_form)
offset-read false offset [] h =
    cond-true (nat_lt (offset % 128) 128) _ _ (below (offset % 128) 128 (omega arith)) ∙ ap (λ o. Some (o, false)) (sym h)
offset-read false offset (b ∷ rest) h =
    cond-true (nat_lt (offset % 128) 128) _ _ (below (offset % 128) 128 (omega arith)) ∙ ap (λ o. Some (o, false)) (sym h)
offset-read true offset rest h =
    cond-false (nat_lt (128 + offset / 256 % 128) 128) _ _ (not-below (128 + offset / 256 % 128) 128 (omega arith))
    ∙ ap (λ n. Some (sign_extended 15 n, true)) (let e : (128 + offset / 256 % 128) % 128 * 256 + offset % 256 ≡ offset % 2 ^ 15 = omega arith in e)
    ∙ ap (λ o. Some (o, true)) (sym h)

offset-length : (long_form : Bool) (offset : ℕ) → length (offset_bytes long_form offset) ≡ offset_size long_form
offset-length true offset = refl
offset-length false offset = refl

some : {a b : Op} {n m : ℕ} → a ≡ b → n ≡ m → ◌≡◌ {A = Option (Op × ℕ)} (Some (a, n)) (Some (b, m))
some p q = λ k. Some (p k, q k)

-- ---- operations from their fields

abbrev op_of : ℕ → ℕ → ℕ → ℕ → ℕ → Bool → Op
op_of code first second third effect long_form =
    record { code = code; first = first; second = second; third = third; effect = effect; long_form = long_form }

made : (op : Op) (first second third effect : ℕ) (long_form : Bool)
    → first ≡ op.first → second ≡ op.second → third ≡ op.third → effect ≡ op.effect → long_form ≡ op.long_form
    → op_of op.code first second third effect long_form ≡ op
made op first second third effect long_form a b c d e =
    λ k. record { code = op.code; first = a k; second = b k; third = c k; effect = d k; long_form = e k }

-- ---- effects

abbrev start : Op → Op
start op = record (bare op.code) { first = op.first }

effect-read : (step known : Bool) (op : Op) (size : ℕ) (rest : List ℕ) → op.third ≡ 0 → known ≡ true → IsStep step op
    → cond step (stepping (record (start op) { effect = op.effect }) (size + 1) (offset_in ((if step then offset_bytes op.long_form op.second else []) ++ rest)))
    (cond known (Some (record (start op) { effect = op.effect }, size + 1)) None)
    ≡ Some (op, size + length (op.effect ∷ (if step then offset_bytes op.long_form op.second else [])))
effect-read true known op size rest third k h =
    let read = offset-read op.long_form op.second rest h in
    let same = made op op.first op.second 0 op.effect op.long_form refl refl (sym third) refl refl in
    rw read (some same (let e : size + 1 + offset_size op.long_form ≡ size + suc (length (offset_bytes op.long_form op.second)) = omega (arith, offset-length op.long_form op.second) in e))
effect-read false known op size rest third k h =
    let same = made op op.first 0 0 op.effect false refl (sym h.0) (sym third) refl (sym h.1) in
    rw k (ap (λ o. Some (o, size + 1)) same)

change-read : (changes : Bool) (op : Op) (size : ℕ) (rest : List ℕ) → op.third ≡ 0 → IsChange changes op
    → changing changes (start op) size (effect_bytes changes op ++ rest) ≡ Some (op, size + length (effect_bytes changes op))
change-read true op size rest third h = effect-read (is_step op.effect) (is_effect op.effect) op size rest third h.0 h.1
change-read false op size rest third h =
    let same = made op op.first 0 0 0 false refl (sym h.1) (sym third) (sym h.0) (sym h.2) in
    some same (omega arith)

-- ---- variables

place-read : (long_place : Bool) (code place : ℕ) (start : Op) (rest : List ℕ) → place < 2 ^ 15 → (long_place ≡ false → place < 128)
    → start ≡ record (bare code) { first = place }
    → variable_in code (place_bytes long_place place ++ rest) ≡ changing (changes_variable code) start (length (place_bytes long_place place)) rest
place-read false code place start [] within short same = rw (cond-true (nat_lt place 128) _ _ (below place 128 (short refl)), same) refl
place-read false code place start (b ∷ rest) within short same = rw (cond-true (nat_lt place 128) _ _ (below place 128 (short refl)), same) refl
place-read true code place start rest within short same =
    cond-false (nat_lt (128 + place / 256) 128) _ _ (not-below (128 + place / 256) 128 (omega arith))
    ∙ ap (λ n. changing (changes_variable code) (record (bare code) { first = n }) 2 rest)
    (let e : (128 + place / 256) % 128 * 256 + place % 256 ≡ place = omega arith in e)
    ∙ ap (λ s. changing (changes_variable code) s 2 rest) (sym same)

based-read : (based : Bool) (op : Op) (long_place : Bool) (rest : List ℕ) → op.third ≡ 0 → IsPlace based op.first
    → IsChange (changes_variable op.code) op → (long_place ≡ false → op.first < 128)
    → let bytes : List ℕ = (if based then place_bytes long_place op.first else []) ++ effect_bytes (changes_variable op.code) op in
    cond based (variable_in op.code (bytes ++ rest)) (changing (changes_variable op.code) (bare op.code) 0 (bytes ++ rest)) ≡ Some (op, length bytes)
based-read true op long_place rest third place h short =
    let place_length : ℕ = length (place_bytes long_place op.first) in
    rw append_assoc
    (place-read long_place op.code op.first (start op) (effect_bytes (changes_variable op.code) op ++ rest) place short refl
    ∙ change-read (changes_variable op.code) op place_length rest third h
    ∙ some refl (sym (length-append (place_bytes long_place op.first) (effect_bytes (changes_variable op.code) op))))
based-read false op long_place rest third place h short =
    ap (λ n. changing (changes_variable op.code) (record (bare op.code) { first = n }) 0 (effect_bytes (changes_variable op.code) op ++ rest)) (sym place)
    ∙ change-read (changes_variable op.code) op 0 rest third h
    ∙ some refl (omega arith)

-- ---- whole operations

operands-read : (found : Option Operands) (op : Op) (long_place : Bool) (rest : List ℕ) → FitsOperands found op → (long_place ≡ false → op.first < 128)
    → coded found op.code (operand_bytes found long_place op ++ rest) ≡ Some (op, length (operand_bytes found long_place op))
operands-read None op long_place rest h short = absurd h
operands-read (Some Nothing) op long_place rest h short = some (sym h) refl
operands-read (Some Offset) op long_place rest h short =
    rw (offset-read op.long_form op.first rest h.1) (some (sym h.0) (sym (offset-length op.long_form op.first)))
operands-read (Some OneByte) op long_place rest h short = some (sym h.0) refl
operands-read (Some TwoBytes) op long_place rest h short = some (sym h.0) refl
operands-read (Some ThreeBytes) op long_place rest h short = some (sym h.0) refl
operands-read (Some SevenBits) op long_place rest h short =
    cond-true (nat_lt op.first 128) _ _ (below op.first 128 h.1) ∙ some (sym h.0) refl
operands-read (Some Word) op long_place rest h short =
    ap (λ n. Some (record (bare op.code) { first = n }, 2)) (let e : op.first / 2 ^ 8 * 2 ^ 8 + op.first % 2 ^ 8 ≡ op.first = omega arith in e)
    ∙ some (sym h.0) refl
operands-read (Some Triple) op long_place rest h short =
    ap (λ n. Some (record (bare op.code) { first = n }, 3))
    (let e : op.first / 2 ^ 16 * 2 ^ 16 + op.first / 2 ^ 8 % 2 ^ 8 * 2 ^ 8 + op.first % 2 ^ 8 ≡ op.first = omega arith in e)
    ∙ some (sym h.0) refl
operands-read (Some Long) op long_place rest h short =
    ap (λ n. Some (record (bare op.code) { first = n }, 4))
    (let e : op.first / 2 ^ 24 * 2 ^ 24 + op.first / 2 ^ 16 % 2 ^ 8 * 2 ^ 16 + op.first / 2 ^ 8 % 2 ^ 8 * 2 ^ 8 + op.first % 2 ^ 8 ≡ op.first = omega arith in e)
    ∙ some (sym h.0) refl
operands-read (Some Register) op long_place rest h short =
    cond-true (is_register op.code op.first) _ _ h.1 ∙ change-read (changes_register op.first) op 1 rest h.0 h.2 ∙ some refl (omega arith)
operands-read (Some ShortVariable) op long_place rest h short = based-read false op long_place rest h.1 h.0 h.2 short
operands-read (Some Variable) op long_place rest h short = based-read (has_base op.code) op long_place rest h.0 h.1 h.2 short

pub reads-spelling : (long_place : Bool) (op : Op) (rest : List ℕ) → IsOp op → (long_place ≡ false → op.first < 128)
    → op_in (spelling long_place op ++ rest) ≡ Some (op, length (spelling long_place op))
reads-spelling long_place op rest h short =
    ap (option_map (λ read. (read.0, 1 + read.1))) (operands-read (operands_of op.code) op long_place rest h.operands short) ∙ some refl (omega arith)

one-byte : (other : Bool) (n : ℕ) → (other || nat_le 128 n) ≡ false → n < 128
one-byte true n e = absurd (cc)
one-byte false n e = grind (arith, nat_tests)

-- the spelling of a compiler has a variable's offset in one byte only where it fits
pub read-back : (op : Op) → IsOp op → (rest : List ℕ) → op_in (spelled op ++ rest) ≡ Some (op, length (spelled op))
read-back op h rest =
    reads-spelling (has_long_place op) op rest h (λ e. one-byte (op.code == 0x87) op.first e)

-- what stands at the head of some bytes is what is read there
pub reads-standing : (bytes : List ℕ) (op : Op) (size : ℕ) → Stands bytes op size → op_in bytes ≡ Some (op, size)
reads-standing bytes op size s =
    ap op_in s.spelled ∙ reads-spelling s.long_place op s.rest s.is_op s.fits ∙ some refl (sym s.ends)

pub placed : (bytes : List ℕ) (place : ℕ) (op : Op) (size : ℕ) → Stands (drop place bytes) op size → op_at bytes place ≡ Some (op, place + size)
placed bytes place op size s = ap (option_map (λ read. (read.0, place + read.1))) (reads-standing (drop place bytes) op size s)
