-- Each bytecode of a template over a proper tree is one that there is.
use Rattle.std.proofs.Common.{◌≡◌, ℕ, ◌+◌, ◌-◌, ◌*◌, ◌/◌, ◌%◌, ◌^◌, ◌<◌, ◌≤◌, Bool, true, false, not, ◌&&◌, ◌||◌, ◌==◌, nat_le, nat_lt, if◌then◌else◌, Option, Some, List, [], ◌∷◌, ◌++◌, refl, sym, ap, ◌∙◌, subst, arith}
use Rattle.std.specs.Prelude.{IsTrue}
use Rattle.std.proofs.lemmas.Bool.Decides.{nat_tests}
use Rattle.std.proofs.lemmas.List.Elements.{All-push}
use Rattle.p8_tree.specs.declared.places.Place.{Place}
use Rattle.p8_bytecode.specs.declared.op.Op.{Op}
use Rattle.p8_bytecode.specs.declared.operands.Operands.{Operands}
use Rattle.p8_bytecode.specs.declared.operands.Operands.TheVariants.{Nothing, Offset, OneByte, TwoBytes, ThreeBytes, Register}
use Rattle.p8_bytecode.specs.Table.{rows, operands_of, is_effect, is_step, is_register}
use Rattle.p8_bytecode.specs.Reading.{bare, changes_register}
use Rattle.p8_bytecode.specs.Spelling.{FitsOperands, IsOffset, IsPlace, IsStep, IsChange}
use Rattle.p8_tree.specs.Proper as proper
use Rattle.p8_gen.specs.Pieces.{Written, Piece, nothing, one, ◌⨾◌, up_to_end, up_to_jumps, of_statement, byte, with_number, text, jump, end_of_jump, jumping, end_of_jumping, offset, is_near}
use Rattle.p8_gen.specs.Variables.{number, Base, Pushed, OfObject, OfVariables, OfFrame, Home, home_at, Operation, Push, Pop, Using, Reference, action_of, effect_of, size_bits, base_bits, memory_op, short_bits, is_short, short_or_long, plain_op, register, operation_bits}
use Rattle.p8_gen.specs.Operations.{IsWhole, AreWhole}
use Rattle.p8_gen.proofs.ByteTables.{both_true, one_of, is_good, row_from, short_row_from, equal, registers, push_registers, pop_registers, change_registers}

pub record Sound (p : Piece) : Type 0 where
  pub keeps : (w : Written) → AreWhole w → AreWhole (p w)

pub nothings : Sound nothing
nothings = record { keeps = λ w h. h }

pub both : {a b : Piece} → Sound a → Sound b → Sound (a ⨾ b)
both {a} {b} x y = record { keeps = λ w h. y.keeps (a w) (x.keeps w h) }

pub of : {a : Piece} (s : Place) → Sound a → Sound (of_statement s a)
of s x = record { keeps = λ w h. record { each = (x.keeps (record w { statement = s }) (record { each = h.each })).each } }

pub ups : {p : ℕ → Piece} → ((to : ℕ) → Sound (p to)) → Sound (up_to_end p)
ups {p} each = record { keeps = λ w h. (each (p 0 w).end).keeps w h }

pub up-jumps : {p : ℕ → ℕ → Piece} → ((to before : ℕ) → Sound (p to before)) → Sound (up_to_jumps p)
up-jumps {p} each = record { keeps = λ w h. (each (p 0 0 w).end (p 0 0 w).jumps).keeps w h }

pub either : {a b : Piece} (t : Bool) → Sound a → Sound b → Sound (if t then a else b)
either true x y = x
either false x y = y

pub either_by : {a b : Piece} (t : Bool) → (t ≡ true → Sound a) → (t ≡ false → Sound b) → Sound (if t then a else b)
either_by true x y = x refl
either_by false x y = y refl

either_op : {a b : Op} (t : Bool) → (t ≡ true → IsWhole a) → IsWhole b → IsWhole (if t then a else b)
either_op true x y = x refl
either_op false x y = y

pub ones : (op : Op) → IsWhole op → Sound (one op)
ones op whole = record { keeps = λ w h. record { each = λ near. All-push IsWhole w.ops op (h.each near) whole } }

-- ---- bytecodes with nothing beside their byte, and with numbers

pub fits : (op : Op) {row : Option Operands} → operands_of op.code ≡ row → (op.first < 2 ^ 32 → FitsOperands row op) → IsWhole op
fits op is f = record { is_op = λ range. record { operands = subst (λ o. FitsOperands o op) (sym is) (f range) } }

pub bares : (c : ℕ) → operands_of c ≡ Some Nothing → Sound (byte c)
bares c row = ones _ (fits (bare c) row (λ range. refl))

below : (n m : ℕ) → nat_lt n m ≡ true → n < m
below n m h = grind (arith, nat_tests)

pub one_byte : (c n : ℕ) → operands_of c ≡ Some OneByte → n < 2 ^ 8 → Sound (with_number c n)
one_byte c n row small = ones _ (fits (record (bare c) { first = n }) row (λ range. (refl, small)))

word : (n : ℕ) → n < 2 ^ 16 → Sound (with_number 0x39 n)
unfolding rows
word n small = ones _ (fits (record (bare 0x39) { first = n }) refl (λ range. (refl, small)))

triple : (n : ℕ) → n < 2 ^ 24 → Sound (with_number 0x3A n)
unfolding rows
triple n small = ones _ (fits (record (bare 0x3A) { first = n }) refl (λ range. (refl, small)))

long : (n : ℕ) → Sound (with_number 0x3B n)
unfolding rows
long n = ones _ (fits (record (bare 0x3B) { first = n }) refl (λ range. (refl, range)))

pub numbers : (n : ℕ) → Sound (number n)
unfolding rows
numbers n =
    either (n == 0) (bares 0x35 refl) (either (n == 1) (bares 0x36 refl) (either (n == 2 ^ 32 - 1) (bares 0x34 refl)
    (either_by (nat_lt n (2 ^ 8)) (λ small. one_byte 0x38 n refl (below n (2 ^ 8) small)) (λ large.
    either_by (nat_lt n (2 ^ 16)) (λ small. word n (below n (2 ^ 16) small)) (λ large.
    either_by (nat_lt n (2 ^ 24)) (λ small. triple n (below n (2 ^ 24) small)) (λ large. long n))))))

pub two_bytes : (c first second : ℕ) → operands_of c ≡ Some TwoBytes → first < 2 ^ 8 → second < 2 ^ 8 → Sound (one (record (bare c) { first = first; second = second }))
two_bytes c first second row a b = ones _ (fits (record (bare c) { first = first; second = second }) row (λ range. (refl, a, b)))

pub three_bytes : (c first second third : ℕ) → operands_of c ≡ Some ThreeBytes → first < 2 ^ 8 → second < 2 ^ 8 → third < 2 ^ 8 → Sound (one (record (bare c) { first = first; second = second; third = third }))
three_bytes c first second third row a b d = ones _ (fits (record (bare c) { first = first; second = second; third = third }) row (λ range. (refl, a, b, d)))

-- the offset of a text has 15 bits
pub texts : (s : Place) (pos : ℕ) → Sound (text s (pos % 2 ^ 15))
unfolding rows
texts s pos =
    let whole : IsWhole (record (bare 0x87) { first = pos % 2 ^ 15 }) = fits (record (bare 0x87) { first = pos % 2 ^ 15 }) refl (λ range. (refl, omega arith, (refl, refl, refl))) in
    record { keeps = λ w h. record { each = λ near. All-push IsWhole w.ops _ (h.each near) whole } }

-- ---- jumps

wide_offset : (from to : ℕ) → from ≤ to + 16384 → to < from + 16384 → IsOffset true (offset from to)
wide_offset from to a b = go (nat_lt (offset from to % 2 ^ 15) (2 ^ 14)) refl a b
  where
    go : (t : Bool) → nat_lt (offset from to % 2 ^ 15) (2 ^ 14) ≡ t → from ≤ to + 16384 → to < from + 16384 → IsOffset true (offset from to)
    go true is a b =
        let small : offset from to % 2 ^ 15 < 2 ^ 14 = below (offset from to % 2 ^ 15) (2 ^ 14) is in
        let same : offset from to ≡ offset from to % 2 ^ 15 = omega (arith, small, a, b) in
        same ∙ sym (ap (λ t. if t then offset from to % 2 ^ 15 else offset from to % 2 ^ 15 + (2 ^ 32 - 2 ^ 15)) is)
    go false is a b =
        let large : 2 ^ 14 ≤ offset from to % 2 ^ 15 = grind (arith, nat_tests) in
        let same : offset from to ≡ offset from to % 2 ^ 15 + (2 ^ 32 - 2 ^ 15) = omega (arith, large, a, b) in
        same ∙ sym (ap (λ t. if t then offset from to % 2 ^ 15 else offset from to % 2 ^ 15 + (2 ^ 32 - 2 ^ 15)) is)

narrow_offset : (from to : ℕ) → from ≤ to + 64 → to < from + 64 → IsOffset false (offset from to)
narrow_offset from to a b = go (nat_lt (offset from to % 2 ^ 7) (2 ^ 6)) refl a b
  where
    go : (t : Bool) → nat_lt (offset from to % 2 ^ 7) (2 ^ 6) ≡ t → from ≤ to + 64 → to < from + 64 → IsOffset false (offset from to)
    go true is a b =
        let small : offset from to % 2 ^ 7 < 2 ^ 6 = below (offset from to % 2 ^ 7) (2 ^ 6) is in
        let same : offset from to ≡ offset from to % 2 ^ 7 = omega (arith, small, a, b) in
        same ∙ sym (ap (λ t. if t then offset from to % 2 ^ 7 else offset from to % 2 ^ 7 + (2 ^ 32 - 2 ^ 7)) is)
    go false is a b =
        let large : 2 ^ 6 ≤ offset from to % 2 ^ 7 = grind (arith, nat_tests) in
        let same : offset from to ≡ offset from to % 2 ^ 7 + (2 ^ 32 - 2 ^ 7) = omega (arith, large, a, b) in
        same ∙ sym (ap (λ t. if t then offset from to % 2 ^ 7 else offset from to % 2 ^ 7 + (2 ^ 32 - 2 ^ 7)) is)

pub near_offset : (wide : Bool) (from to : ℕ) → is_near wide from to ≡ true → IsOffset wide (offset from to)
near_offset true from to near =
    let a : from ≤ to + 16384 = grind (arith, nat_tests) in
    let b : to < from + 16384 = grind (arith, nat_tests) in
    wide_offset from to a b
near_offset false from to near =
    let a : from ≤ to + 64 = grind (arith, nat_tests) in
    let b : to < from + 64 = grind (arith, nat_tests) in
    narrow_offset from to a b

left_nil : (xs ys : List Place) → xs ++ ys ≡ [] → xs ≡ []
left_nil [] ys h = refl
left_nil (x ∷ xs) ys h = absurd cc

right_nil : (xs ys : List Place) → xs ++ ys ≡ [] → ys ≡ []
right_nil [] ys h = h
right_nil (x ∷ xs) ys h = absurd cc

told_near : (s : Place) (t : Bool) → (if t then [] else s ∷ []) ≡ [] → t ≡ true
told_near s true h = refl
told_near s false h = absurd cc

pub jumps : (wide : ℕ → Bool) (s : Place) (c to : ℕ) → operands_of c ≡ Some Offset → Sound (jump wide s c to)
jumps wide s c to row = record {
  keeps = λ w h. record {
    each = λ near.
        let end = end_of_jump wide w in
        All-push IsWhole w.ops _ (h.each (left_nil w.too_far _ near))
        (fits (record (bare c) { first = offset end to; long_form = wide w.jumps }) row (λ range. (refl, near_offset (wide w.jumps) end to (told_near s _ (right_nil w.too_far _ near)))));
  };
}

-- ---- variables

-- what is done fits a variable: an effect is one, and doesn't jump
abbrev pub Fit : Operation → Type 0
Fit (Using effect) = IsTrue (is_good effect)
Fit o = Unit {0}

unlike : (b : Bool) → IsTrue (not b) → b ≡ false
unlike true h = absurd cc
unlike false h = refl

changing : (c first effect : ℕ) → IsTrue (is_good effect) → IsChange true (record (bare c) { first = first; effect = effect })
changing c first effect good =
    let p = both_true (is_effect effect) (not (is_step effect)) good in
    (p.0, subst (λ b. IsStep b (record (bare c) { first = first; effect = effect })) (sym (unlike (is_step effect) p.1)) (refl, refl))

change_of : (o : Operation) (c first : ℕ) → Fit o → IsChange (action_of o == 2) (record (bare c) { first = first; effect = effect_of o })
change_of Push c first fit = (refl, refl, refl)
change_of Pop c first fit = (refl, refl, refl)
change_of (Using effect) c first fit = changing c first effect fit
change_of Reference c first fit = (refl, refl, refl)

abbrev pub IsPlaced : Base → ℕ → Type 0
IsPlaced Pushed offset = offset ≡ 0
IsPlaced base offset = Unit {0}

place_of : (base : Base) (offset : ℕ) → IsPlaced base offset → IsPlace (nat_lt 0 (base_bits base / 4)) (offset % 2 ^ 15)
place_of Pushed offset placed = ap (λ n. n % 2 ^ 15) placed
place_of OfObject offset placed = omega arith
place_of OfVariables offset placed = omega arith
place_of OfFrame offset placed = omega arith

base_at_most : (base : Base) → (base_bits base ≤ 12) × (base_bits base % 4 ≡ 0)
base_at_most Pushed = (omega arith, refl)
base_at_most OfObject = (omega arith, refl)
base_at_most OfVariables = (omega arith, refl)
base_at_most OfFrame = (omega arith, refl)

action_at_most : (o : Operation) → action_of o < 4
action_at_most Push = omega arith
action_at_most Pop = omega arith
action_at_most (Using effect) = omega arith
action_at_most Reference = omega arith

-- the bits of a size and of an index
record Bits (size : ℕ) (indexed : Bool) : Type 0 where
  sizes : ℕ
  is_size : size_bits size ≡ 32 * sizes
  few_sizes : sizes ≤ 2
  indexes : ℕ
  is_index : (if indexed then 0x10 else 0) ≡ 16 * indexes
  few_indexes : indexes ≤ 1

bits_of : (size : ℕ) (indexed : Bool) → Bits size indexed
bits_of size indexed = go (size == 1) (size == 2) refl refl indexed
  where
    go : (a b : Bool) → (size == 1) ≡ a → (size == 2) ≡ b → (indexed : Bool) → Bits size indexed
    go true b p q true = record { sizes = 0; is_size = ap (λ t. if t then 0 else if size == 2 then 0x20 else 0x40) p; few_sizes = omega arith; indexes = 1; is_index = refl; few_indexes = omega arith }
    go true b p q false = record { sizes = 0; is_size = ap (λ t. if t then 0 else if size == 2 then 0x20 else 0x40) p; few_sizes = omega arith; indexes = 0; is_index = refl; few_indexes = omega arith }
    go false true p q true = record { sizes = 1; is_size = ap (λ t. if t then 0 else if size == 2 then 0x20 else 0x40) p ∙ ap (λ t. if t then 0x20 else 0x40) q; few_sizes = omega arith; indexes = 1; is_index = refl; few_indexes = omega arith }
    go false true p q false = record { sizes = 1; is_size = ap (λ t. if t then 0 else if size == 2 then 0x20 else 0x40) p ∙ ap (λ t. if t then 0x20 else 0x40) q; few_sizes = omega arith; indexes = 0; is_index = refl; few_indexes = omega arith }
    go false false p q true = record { sizes = 2; is_size = ap (λ t. if t then 0 else if size == 2 then 0x20 else 0x40) p ∙ ap (λ t. if t then 0x20 else 0x40) q; few_sizes = omega arith; indexes = 1; is_index = refl; few_indexes = omega arith }
    go false false p q false = record { sizes = 2; is_size = ap (λ t. if t then 0 else if size == 2 then 0x20 else 0x40) p ∙ ap (λ t. if t then 0x20 else 0x40) q; few_sizes = omega arith; indexes = 0; is_index = refl; few_indexes = omega arith }

memory_code : (size : ℕ) (indexed : Bool) (base : Base) (o : Operation) → ℕ
memory_code size indexed base o = 0x80 + size_bits size + (if indexed then 0x10 else 0) + base_bits base + action_of o

module _ (size : ℕ) (indexed : Bool) (base : Base) (o : Operation) where
  code : ℕ
  code = 0x80 + size_bits size + (if indexed then 0x10 else 0) + base_bits base + action_of o

  code_from : (s i b a : ℕ) → size_bits size ≡ 32 * s → s ≤ 2 → (if indexed then 0x10 else 0) ≡ 16 * i → i ≤ 1 → base_bits base ≡ b → b ≤ 12 → b % 4 ≡ 0 → action_of o ≡ a → a < 4 →
      (0x80 ≤ code) × (code ≤ 0xDF) × (code / 4 % 4 ≡ b / 4) × (code % 4 ≡ a)
  unfolding code
  code_from s i b a p few q fewer r most even u small = (omega arith, omega arith, omega arith, omega arith)

  code_is : (0x80 ≤ code) × (code ≤ 0xDF) × (code / 4 % 4 ≡ base_bits base / 4) × (code % 4 ≡ action_of o)
  code_is =
      let bits = bits_of size indexed in
      code_from bits.sizes bits.indexes (base_bits base) (action_of o) bits.is_size bits.few_sizes bits.is_index bits.few_indexes refl (base_at_most base).0 (base_at_most base).1 refl (action_at_most o)

  memory_whole : (offset : ℕ) → IsPlaced base offset → Fit o → IsWhole (memory_op indexed (home_at base offset size) o)
  unfolding code
  memory_whole offset placed fit =
      fits (memory_op indexed (home_at base offset size) o) (row_from code code_is.0 code_is.1) (λ range. (
        refl,
        subst (λ b. IsPlace b (offset % 2 ^ 15)) (sym (ap (λ k. nat_lt 0 k) code_is.2)) (place_of base offset placed),
        subst (λ b. IsChange b (memory_op indexed (home_at base offset size) o)) (sym (ap (λ k. k == 2) code_is.3)) (change_of o code (offset % 2 ^ 15) fit),
      ))

pub memory : (indexed : Bool) (home : Home) (o : Operation) → IsPlaced home.base home.offset → Fit o → Sound (one (memory_op indexed home o))
memory indexed home o placed fit = ones _ (memory_whole home.size indexed home.base o home.offset placed fit)

-- a long among the first eight
short_code : (bits offset a : ℕ) → IsTrue (bits == 0 || bits == 0x20) → offset < 32 → offset % 4 ≡ 0 → a < 4 →
    (0x40 ≤ 0x40 + bits + offset + a) × (0x40 + bits + offset + a ≤ 0x7F) × ((0x40 + bits + offset + a) % 4 ≡ a)
short_code bits offset a which below_32 even small = go (bits == 0) refl
  where
    go : (t : Bool) → (bits == 0) ≡ t → (0x40 ≤ 0x40 + bits + offset + a) × (0x40 + bits + offset + a ≤ 0x7F) × ((0x40 + bits + offset + a) % 4 ≡ a)
    go true is = let none : bits ≡ 0 = grind (arith, nat_tests) in (omega (arith, none), omega (arith, none), omega (arith, none))
    go false is = let some : bits ≡ 0x20 = grind (arith, nat_tests) in (omega (arith, some), omega (arith, some), omega (arith, some))

short_whole : (bits offset : ℕ) (o : Operation) → IsTrue (bits == 0 || bits == 0x20) → offset < 32 → offset % 4 ≡ 0 → Fit o → IsWhole (record (bare (0x40 + bits + offset + action_of o)) { effect = effect_of o })
short_whole bits offset o which below_32 even fit =
    let c = short_code bits offset (action_of o) which below_32 even (action_at_most o) in
    let op = record (bare (0x40 + bits + offset + action_of o)) { effect = effect_of o } in
    fits op (short_row_from (0x40 + bits + offset + action_of o) c.0 c.1) (λ range. (
      refl,
      refl,
      subst (λ b. IsChange b op) (sym (ap (λ k. k == 2) c.2)) (change_of o (0x40 + bits + offset + action_of o) 0 fit),
    ))

is_short_home : (home : Home) → is_short home ≡ true → (home.offset < 32) × (home.offset % 4 ≡ 0)
is_short_home home h =
    let p = both_true (home.size == 4 && nat_lt home.offset 32) (home.offset % 4 == 0) h in
    let q = both_true (home.size == 4) (nat_lt home.offset 32) p.0 in
    (below home.offset 32 q.1, equal (home.offset % 4) 0 p.1)

-- the bytecode of a variable without an index
plain_in : (base : Base) (home : Home) → home.base ≡ base → (o : Operation) → IsPlaced home.base home.offset → Fit o → Sound (one (short_or_long (short_bits base) home o))
plain_in Pushed home is o placed fit = memory false home o placed fit
plain_in OfObject home is o placed fit = memory false home o placed fit
plain_in OfVariables home is o placed fit = ones _ (either_op (is_short home) (λ s. let p = is_short_home home s in short_whole 0 home.offset o refl p.0 p.1 fit) (memory_whole home.size false home.base o home.offset placed fit))
plain_in OfFrame home is o placed fit = ones _ (either_op (is_short home) (λ s. let p = is_short_home home s in short_whole 0x20 home.offset o refl p.0 p.1 fit) (memory_whole home.size false home.base o home.offset placed fit))

pub plain : (home : Home) (o : Operation) → IsPlaced home.base home.offset → Fit o → Sound (one (plain_op home o))
plain home o placed fit = plain_in home.base home refl o placed fit

-- ---- a step of REPEAT, which jumps

abbrev stepping : (wide : Bool) → Op → (to : ℕ) → Op
stepping wide op to = record op { second = to; long_form = wide }

abbrev pub IsStepEffect : ℕ → Type 0
IsStepEffect effect = IsTrue (is_effect effect && is_step effect)

step_change : (wide : Bool) (c first effect to : ℕ) → IsStepEffect effect → IsOffset wide to → IsChange true (stepping wide (record (bare c) { first = first; effect = effect }) to)
step_change wide c first effect to step near =
    let p = both_true (is_effect effect) (is_step effect) step in
    (p.0, subst (λ b. IsStep b (stepping wide (record (bare c) { first = first; effect = effect }) to)) (sym p.1) near)

memory_steps : (wide : Bool) (size : ℕ) (base : Base) (offset effect to : ℕ) → IsPlaced base offset → IsStepEffect effect → IsOffset wide to → IsWhole (stepping wide (memory_op false (home_at base offset size) (Using effect)) to)
unfolding code
memory_steps wide size base offset effect to placed step near =
    let is = code_is size false base (Using effect) in
    let op = stepping wide (memory_op false (home_at base offset size) (Using effect)) to in
    fits op (row_from (code size false base (Using effect)) is.0 is.1) (λ range. (
      refl,
      subst (λ b. IsPlace b (offset % 2 ^ 15)) (sym (ap (λ k. nat_lt 0 k) is.2)) (place_of base offset placed),
      subst (λ b. IsChange b op) (sym (ap (λ k. k == 2) is.3)) (step_change wide (code size false base (Using effect)) (offset % 2 ^ 15) effect to step near),
    ))

short_steps : (wide : Bool) (bits offset effect to : ℕ) → IsTrue (bits == 0 || bits == 0x20) → offset < 32 → offset % 4 ≡ 0 → IsStepEffect effect → IsOffset wide to → IsWhole (stepping wide (record (bare (0x40 + bits + offset + 2)) { effect = effect }) to)
short_steps wide bits offset effect to which below_32 even step near =
    let c = short_code bits offset 2 which below_32 even (omega arith) in
    let op = stepping wide (record (bare (0x40 + bits + offset + 2)) { effect = effect }) to in
    fits op (short_row_from (0x40 + bits + offset + 2) c.0 c.1) (λ range. (
      refl,
      refl,
      subst (λ b. IsChange b op) (sym (ap (λ k. k == 2) c.2)) (step_change wide (0x40 + bits + offset + 2) 0 effect to step near),
    ))

either_step : (wide : Bool) (a b : Op) (t : Bool) (to : ℕ) → (t ≡ true → IsWhole (stepping wide a to)) → IsWhole (stepping wide b to) → IsWhole (stepping wide (if t then a else b) to)
either_step wide a b true to x y = x refl
either_step wide a b false to x y = y

plain_steps : (wide : Bool) (base : Base) (home : Home) → home.base ≡ base → (effect to : ℕ) → IsPlaced home.base home.offset → IsStepEffect effect → IsOffset wide to → IsWhole (stepping wide (short_or_long (short_bits base) home (Using effect)) to)
plain_steps wide Pushed home is effect to placed step near = memory_steps wide home.size home.base home.offset effect to placed step near
plain_steps wide OfObject home is effect to placed step near = memory_steps wide home.size home.base home.offset effect to placed step near
plain_steps wide OfVariables home is effect to placed step near =
    either_step wide (record (bare (0x40 + 0 + home.offset + 2)) { effect = effect }) (memory_op false home (Using effect)) (is_short home) to (λ s. let p = is_short_home home s in short_steps wide 0 home.offset effect to refl p.0 p.1 step near) (memory_steps wide home.size home.base home.offset effect to placed step near)
plain_steps wide OfFrame home is effect to placed step near =
    either_step wide (record (bare (0x40 + 0x20 + home.offset + 2)) { effect = effect }) (memory_op false home (Using effect)) (is_short home) to (λ s. let p = is_short_home home s in short_steps wide 0x20 home.offset effect to refl p.0 p.1 step near) (memory_steps wide home.size home.base home.offset effect to placed step near)

-- the change of a variable without an index that jumps as well
pub plain_jumping : (f : ℕ → Bool) (s : Place) (home : Home) (effect to : ℕ) → IsPlaced home.base home.offset → IsStepEffect effect → Sound (jumping f s to (plain_op home (Using effect)))
plain_jumping f s home effect to placed step = record {
  keeps = λ w h. record {
    each = λ near.
        All-push IsWhole w.ops _ (h.each (left_nil w.too_far _ near))
        (plain_steps (f w.jumps) home.base home refl effect (offset (end_of_jumping f (plain_op home (Using effect)) w) to) placed step
        (near_offset (f w.jumps) (end_of_jumping f (plain_op home (Using effect)) w) to (told_near s _ (right_nil w.too_far _ near))));
  };
}

-- ---- registers

register_first : (code n : ℕ) (o : Operation) → 16 ≤ n → n < 32 → IsTrue (is_register code (operation_bits o + n)) × (changes_register (operation_bits o + n) ≡ (action_of o == 2))
register_first code n Push least most = registers 0x80 code n false push_registers (omega (arith, most)) least
register_first code n Pop least most = registers 0xA0 code n false pop_registers (omega (arith, most)) least
register_first code n (Using effect) least most = registers 0xC0 code n true change_registers (omega (arith, most)) least
register_first code n Reference least most = registers 0x80 code n false push_registers (omega (arith, most)) least

is_there : (address : ℕ) → IsTrue (proper.is_register false address) → (16 ≤ address - 0x1E0) × (address - 0x1E0 < 32)
is_there address h = one_of (λ a. (16 ≤ a - 0x1E0) × (a - 0x1E0 < 32)) (0x1F0 ∷ 0x1F1 ∷ 0x1F2 ∷ 0x1F4 ∷ 0x1F6 ∷ []) address (both_true (nat_le address 0x1FF) _ (both_true (nat_le 0x1F0 address) _ h).1).1 ((omega arith, omega arith), ((omega arith, omega arith), ((omega arith, omega arith), ((omega arith, omega arith), ((omega arith, omega arith), tt)))))

pub registers_sound : (code address : ℕ) (o : Operation) → operands_of code ≡ Some Register → IsTrue (proper.is_register false address) → Fit o → Sound (register code address o)
registers_sound code address o row there fit =
    let n = is_there address there in
    let first = register_first code (address - 0x1E0) o n.0 n.1 in
    let op = record (bare code) { first = operation_bits o + (address - 0x1E0); effect = effect_of o } in
    ones op (fits op row (λ range. (
      refl,
      first.0,
      subst (λ b. IsChange b op) (sym first.1) (change_of o code (operation_bits o + (address - 0x1E0)) fit),
    )))
