-- How long bytecodes are that jump: their offset has one byte or two, and the rest doesn't depend on it.
use Rattle.std.proofs.Common.{◌≡◌, ℕ, suc, ap, ◌∙◌, ◌+◌, ◌*◌, ◌<◌, ◌≤◌, ◌%◌, ◌==◌, ◌&&◌, nat_lt, Bool, true, false, if◌then◌else◌, List, [], Option, Some, None, refl, arith, length, length-append}
use Rattle.std.proofs.lemmas.Bool.Decides.{nat_tests}
use Rattle.p8_bytecode.specs.declared.op.Op.{Op}
use Rattle.p8_bytecode.specs.declared.operands.Operands.TheVariants.{Offset, ShortVariable, Variable as VariableBytes}
use Rattle.p8_bytecode.specs.Reading.{bare, offset_size, has_base, changes_variable}
use Rattle.p8_bytecode.specs.Spelling.{spelled, operand_bytes, effect_bytes, offset_bytes, place_bytes, has_long_place}
use Rattle.p8_bytecode.specs.Table.{rows, operands_of, is_step}
use Rattle.p8_tree.specs.Expressions.{Tree}
use Rattle.p8_gen.specs.Variables.{Base, Pushed, OfObject, OfVariables, OfFrame, Home, memory_op, short_bits, short_or_long, is_short, base_bits, Using}
use Rattle.p8_gen.specs.Statements.{step_effect}
use Rattle.p8_gen.proofs.ByteTables.{equal, short_row_from}

offset-length : (form : Bool) (off : ℕ) → length (offset_bytes form off) ≡ offset_size form
offset-length true off = refl
offset-length false off = refl

jump-sum : (form : Bool) (off : ℕ) → suc (length (offset_bytes form off)) ≡ 1 + offset_size form
jump-sum true off = refl
jump-sum false off = refl

-- a jump
pub jump-length : (c off : ℕ) (form : Bool) → operands_of c ≡ Some Offset → length (spelled (record (bare c) { first = off; long_form = form })) ≡ 1 + offset_size form
jump-length c off form row =
    let op : Op = record (bare c) { first = off; long_form = form } in
    ap (λ found. suc (length (operand_bytes found (has_long_place op) op))) row ∙ jump-sum form off

-- an operation whose length depends on nothing but the form of its offset
pub record Sized (op : Op) : Type 0 where
  pub rest : ℕ
  pub length_is : (off : ℕ) (form : Bool) → length (spelled (record op { second = off; long_form = form })) ≡ rest + offset_size form

effect-length : (op : Op) → changes_variable op.code ≡ true → is_step op.effect ≡ true → length (effect_bytes (changes_variable op.code) op) ≡ suc (offset_size op.long_form)
effect-length op changes steps =
    ap (λ c. length (effect_bytes c op)) changes ∙ ap (λ s. suc (length (if s then offset_bytes op.long_form op.second else []))) steps ∙ ap suc (offset-length op.long_form op.second)

short-length : (op : Op) → operands_of op.code ≡ Some ShortVariable → changes_variable op.code ≡ true → is_step op.effect ≡ true → length (spelled op) ≡ suc (suc (offset_size op.long_form))
short-length op row changes steps = ap (λ found. suc (length (operand_bytes found (has_long_place op) op))) row ∙ ap suc (effect-length op changes steps)

long-length : (op : Op) → operands_of op.code ≡ Some VariableBytes → changes_variable op.code ≡ true → is_step op.effect ≡ true
    → length (spelled op) ≡ suc (length (if has_base op.code then place_bytes (has_long_place op) op.first else []) + suc (offset_size op.long_form))
long-length op row changes steps =
    let at : List ℕ = if has_base op.code then place_bytes (has_long_place op) op.first else [] in
    ap (λ found. suc (length (operand_bytes found (has_long_place op) op))) row
    ∙ ap suc (length-append at (effect_bytes (changes_variable op.code) op) ∙ ap (λ k. length at + k) (effect-length op changes steps))

size-code : (a b : Bool) (base : Base) → (operands_of (0x80 + (if a then 0 else if b then 0x20 else 0x40) + 0 + base_bits base + 2) ≡ Some VariableBytes) × (changes_variable (0x80 + (if a then 0 else if b then 0x20 else 0x40) + 0 + base_bits base + 2) ≡ true)
unfolding rows
size-code true b Pushed = (refl, refl)
size-code true b OfObject = (refl, refl)
size-code true b OfVariables = (refl, refl)
size-code true b OfFrame = (refl, refl)
size-code false true Pushed = (refl, refl)
size-code false true OfObject = (refl, refl)
size-code false true OfVariables = (refl, refl)
size-code false true OfFrame = (refl, refl)
size-code false false Pushed = (refl, refl)
size-code false false OfObject = (refl, refl)
size-code false false OfVariables = (refl, refl)
size-code false false OfFrame = (refl, refl)

long-sum : (a b : ℕ) → suc (a + suc b) ≡ 2 + a + b
long-sum a b = omega arith

short-sum : (b : ℕ) → suc (suc b) ≡ 2 + b
short-sum b = omega arith

long-sized : (home : Home) (effect : ℕ) → is_step effect ≡ true → Sized (memory_op false home (Using effect))
long-sized home effect steps =
    let op : Op = memory_op false home (Using effect) in
    let is = size-code (home.size == 1) (home.size == 2) home.base in
    record {
      rest = 2 + length (if has_base op.code then place_bytes (has_long_place op) op.first else []);
      length_is = λ off form. long-length (record op { second = off; long_form = form }) is.0 is.1 steps ∙ long-sum _ (offset_size form);
    }

record IsShortCode (code : ℕ) : Type 0 where
  least : 0x40 ≤ code
  most : code ≤ 0x7F
  changes : code % 4 ≡ 2

short-code : (bit offset : ℕ) → bit < 2 → offset < 32 → offset % 4 ≡ 0 → IsShortCode (0x40 + bit * 0x20 + offset + 2)
short-code bit offset few low fours =
    record { least = omega arith; most = omega (arith, few, low, fours); changes = omega (arith, few, low, fours) }

short-sized : (bit offset effect : ℕ) → bit < 2 → offset < 32 → offset % 4 ≡ 0 → is_step effect ≡ true → Sized (record (bare (0x40 + bit * 0x20 + offset + 2)) { effect = effect })
short-sized bit offset effect few low fours steps =
    let op : Op = record (bare (0x40 + bit * 0x20 + offset + 2)) { effect = effect } in
    let c = short-code bit offset few low fours in
    record {
      rest = 2;
      length_is = λ off form.
          short-length (record op { second = off; long_form = form }) (short_row_from op.code c.least c.most) (ap (λ n. n == 2) c.changes) steps ∙ short-sum (offset_size form);
    }

either-sized : (a b : Op) (t : Bool) → (t ≡ true → Sized a) → Sized b → Sized (if t then a else b)
either-sized a b true x y = x refl
either-sized a b false x y = y

both-true : (a b : Bool) → (a && b) ≡ true → (a ≡ true) × (b ≡ true)
both-true true b is = (refl, is)
both-true false b is = absurd cc

below : (n m : ℕ) → nat_lt n m ≡ true → n < m
below n m is = grind (arith, nat_tests)

short-or-long-sized : (bit : ℕ) (home : Home) (effect : ℕ) → bit < 2 → is_step effect ≡ true
    → Sized (if is_short home then record (bare (0x40 + bit * 0x20 + home.offset + 2)) { effect = effect } else memory_op false home (Using effect))
short-or-long-sized bit home effect few steps =
    either-sized (record (bare (0x40 + bit * 0x20 + home.offset + 2)) { effect = effect }) (memory_op false home (Using effect)) (is_short home)
    (λ short.
    let one = both-true (home.size == 4 && nat_lt home.offset 32) (home.offset % 4 == 0) short in
    let two = both-true (home.size == 4) (nat_lt home.offset 32) one.0 in
    short-sized bit home.offset effect few (below home.offset 32 two.1) (equal (home.offset % 4) 0 one.1) steps)
    (long-sized home effect steps)

plain-sized : (base : Base) (home : Home) (effect : ℕ) → is_step effect ≡ true → Sized (short_or_long (short_bits base) home (Using effect))
plain-sized Pushed home effect steps = long-sized home effect steps
plain-sized OfObject home effect steps = long-sized home effect steps
plain-sized OfVariables home effect steps = short-or-long-sized 0 home effect (omega arith) steps
plain-sized OfFrame home effect steps = short-or-long-sized 1 home effect (omega arith) steps

step-is : (step : Option Tree) → is_step (step_effect step) ≡ true
step-is None = refl
step-is (Some e) = refl

-- a step of REPEAT
pub step-sized : (home : Home) (step : Option Tree) → Sized (short_or_long (short_bits home.base) home (Using (step_effect step)))
step-sized home step = plain-sized home.base home (step_effect step) (step-is step)
