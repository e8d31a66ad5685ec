-- The columns of bytecodes whose codes are computed: variables, registers, operators and effects.
use Rattle.std.proofs.Common.{◌≡◌, refl, ap, ◌∙◌, arith, ℕ, zero, suc, ◌+◌, ◌-◌, ◌%◌, ◌^◌, ◌<◌, ◌≤◌, ◌==◌, ◌&&◌, ◌||◌, Bool, true, false, not, if◌then◌else◌, inl, inr, ◌⊎◌, nat_le, nat_lt, [], ◌∷◌}
use Rattle.std.specs.Prelude.{IsTrue}
use Rattle.std.proofs.lemmas.Bool.{cases_eq}
use Rattle.std.proofs.lemmas.Bool.Decides.{nat_tests}
use Rattle.p8_tree.specs.Proper as proper
use Rattle.p8_tree.specs.Proper.{is_binary, is_change, is_operator_alone}
use Rattle.p8_words.specs.Operators.{is_unary}
use Rattle.p8_bytecode.specs.declared.op.Op.{Op}
use Rattle.p8_bytecode.specs.Reading.{bare}
use Rattle.p8_gen.specs.Variables.{Base, Pushed, OfObject, OfVariables, OfFrame, Home, Operation, Push, Pop, Using, Reference, action_of, effect_of, size_bits, base_bits, memory_op, short_bits, is_short, short_or_long, plain_op, operation_bits, effect_by, effect_for, leaving, by_size}
use Rattle.p8_gen.proofs.ByteTables.{both_true, modus, equal, one_of}
use Rattle.p8_depth.proofs.Along.{left_by}
use Rattle.p8_depth.specs.Stack.{Column, Works, Jumps, column, rows, in_rows, on_variable, takes_value, named_by, pins_by, done_by}

-- ---- what holds of all numbers below a bound

all_below : (ℕ → Bool) → ℕ → Bool
all_below test zero = true
all_below test (suc n) = test n && all_below test n

all_below-at : (test : ℕ → Bool) (n k : ℕ) → all_below test n ≡ true → k < n → test k ≡ true
unfolding all_below
all_below-at test zero k h few = absurd (omega arith)
all_below-at test (suc n) k h few =
    let p = both_true (test n) (all_below test n) h in
    elim (cases_eq k n) [
      | inl same ↦ ap test same ∙ p.0
      | inr other ↦ all_below-at test n k p.1 (omega arith)
    ]

-- ---- memory

by-size-bits : (P : ℕ → Type 0) → P 0 → P 0x20 → P 0x40 → (size : ℕ) → P (size_bits size)
by-size-bits P one two four size = go (size == 1) (size == 2)
  where
    go : (a b : Bool) → P (if a then 0 else if b then 0x20 else 0x40)
    go true b = one
    go false true = two
    go false false = four

-- how many longs name a variable
abbrev pub named : (indexed : Bool) → Base → ℕ
named true Pushed = 2
named false Pushed = 1
named true base = 1
named false base = 0

-- such an operation, also with a jump
abbrev variable_op : (code first effect second : ℕ) (long : Bool) → Op
variable_op code first effect second long = record { code = code; first = first; second = second; third = 0; effect = effect; long_form = long }

abbrev IsColumn : (indexed : Bool) → Base → Operation → (first second : ℕ) (long : Bool) (size : ℕ) → Type 0
IsColumn indexed base o first second long size =
    column (variable_op (0x80 + size_bits size + (if indexed then 0x10 else 0) + base_bits base + action_of o) first (effect_of o) second long) ≡ on_variable (named indexed base) (action_of o) (effect_of o)

memory-column : (indexed : Bool) (base : Base) (o : Operation) (first second : ℕ) (long : Bool) (size : ℕ) → IsColumn indexed base o first second long size
memory-column true Pushed Push first second long size = by-size-bits (λ bits. column (variable_op (0x80 + bits + 16 + 0 + 0) first 0 second long) ≡ on_variable (named true Pushed) 0 0) refl refl refl size
memory-column true Pushed Pop first second long size = by-size-bits (λ bits. column (variable_op (0x80 + bits + 16 + 0 + 1) first 0 second long) ≡ on_variable (named true Pushed) 1 0) refl refl refl size
memory-column true Pushed (Using effect) first second long size = by-size-bits (λ bits. column (variable_op (0x80 + bits + 16 + 0 + 2) first effect second long) ≡ on_variable (named true Pushed) 2 effect) refl refl refl size
memory-column true Pushed Reference first second long size = by-size-bits (λ bits. column (variable_op (0x80 + bits + 16 + 0 + 3) first 0 second long) ≡ on_variable (named true Pushed) 3 0) refl refl refl size
memory-column true OfObject Push first second long size = by-size-bits (λ bits. column (variable_op (0x80 + bits + 16 + 4 + 0) first 0 second long) ≡ on_variable (named true OfObject) 0 0) refl refl refl size
memory-column true OfObject Pop first second long size = by-size-bits (λ bits. column (variable_op (0x80 + bits + 16 + 4 + 1) first 0 second long) ≡ on_variable (named true OfObject) 1 0) refl refl refl size
memory-column true OfObject (Using effect) first second long size = by-size-bits (λ bits. column (variable_op (0x80 + bits + 16 + 4 + 2) first effect second long) ≡ on_variable (named true OfObject) 2 effect) refl refl refl size
memory-column true OfObject Reference first second long size = by-size-bits (λ bits. column (variable_op (0x80 + bits + 16 + 4 + 3) first 0 second long) ≡ on_variable (named true OfObject) 3 0) refl refl refl size
memory-column true OfVariables Push first second long size = by-size-bits (λ bits. column (variable_op (0x80 + bits + 16 + 8 + 0) first 0 second long) ≡ on_variable (named true OfVariables) 0 0) refl refl refl size
memory-column true OfVariables Pop first second long size = by-size-bits (λ bits. column (variable_op (0x80 + bits + 16 + 8 + 1) first 0 second long) ≡ on_variable (named true OfVariables) 1 0) refl refl refl size
memory-column true OfVariables (Using effect) first second long size = by-size-bits (λ bits. column (variable_op (0x80 + bits + 16 + 8 + 2) first effect second long) ≡ on_variable (named true OfVariables) 2 effect) refl refl refl size
memory-column true OfVariables Reference first second long size = by-size-bits (λ bits. column (variable_op (0x80 + bits + 16 + 8 + 3) first 0 second long) ≡ on_variable (named true OfVariables) 3 0) refl refl refl size
memory-column true OfFrame Push first second long size = by-size-bits (λ bits. column (variable_op (0x80 + bits + 16 + 12 + 0) first 0 second long) ≡ on_variable (named true OfFrame) 0 0) refl refl refl size
memory-column true OfFrame Pop first second long size = by-size-bits (λ bits. column (variable_op (0x80 + bits + 16 + 12 + 1) first 0 second long) ≡ on_variable (named true OfFrame) 1 0) refl refl refl size
memory-column true OfFrame (Using effect) first second long size = by-size-bits (λ bits. column (variable_op (0x80 + bits + 16 + 12 + 2) first effect second long) ≡ on_variable (named true OfFrame) 2 effect) refl refl refl size
memory-column true OfFrame Reference first second long size = by-size-bits (λ bits. column (variable_op (0x80 + bits + 16 + 12 + 3) first 0 second long) ≡ on_variable (named true OfFrame) 3 0) refl refl refl size
memory-column false Pushed Push first second long size = by-size-bits (λ bits. column (variable_op (0x80 + bits + 0 + 0 + 0) first 0 second long) ≡ on_variable (named false Pushed) 0 0) refl refl refl size
memory-column false Pushed Pop first second long size = by-size-bits (λ bits. column (variable_op (0x80 + bits + 0 + 0 + 1) first 0 second long) ≡ on_variable (named false Pushed) 1 0) refl refl refl size
memory-column false Pushed (Using effect) first second long size = by-size-bits (λ bits. column (variable_op (0x80 + bits + 0 + 0 + 2) first effect second long) ≡ on_variable (named false Pushed) 2 effect) refl refl refl size
memory-column false Pushed Reference first second long size = by-size-bits (λ bits. column (variable_op (0x80 + bits + 0 + 0 + 3) first 0 second long) ≡ on_variable (named false Pushed) 3 0) refl refl refl size
memory-column false OfObject Push first second long size = by-size-bits (λ bits. column (variable_op (0x80 + bits + 0 + 4 + 0) first 0 second long) ≡ on_variable (named false OfObject) 0 0) refl refl refl size
memory-column false OfObject Pop first second long size = by-size-bits (λ bits. column (variable_op (0x80 + bits + 0 + 4 + 1) first 0 second long) ≡ on_variable (named false OfObject) 1 0) refl refl refl size
memory-column false OfObject (Using effect) first second long size = by-size-bits (λ bits. column (variable_op (0x80 + bits + 0 + 4 + 2) first effect second long) ≡ on_variable (named false OfObject) 2 effect) refl refl refl size
memory-column false OfObject Reference first second long size = by-size-bits (λ bits. column (variable_op (0x80 + bits + 0 + 4 + 3) first 0 second long) ≡ on_variable (named false OfObject) 3 0) refl refl refl size
memory-column false OfVariables Push first second long size = by-size-bits (λ bits. column (variable_op (0x80 + bits + 0 + 8 + 0) first 0 second long) ≡ on_variable (named false OfVariables) 0 0) refl refl refl size
memory-column false OfVariables Pop first second long size = by-size-bits (λ bits. column (variable_op (0x80 + bits + 0 + 8 + 1) first 0 second long) ≡ on_variable (named false OfVariables) 1 0) refl refl refl size
memory-column false OfVariables (Using effect) first second long size = by-size-bits (λ bits. column (variable_op (0x80 + bits + 0 + 8 + 2) first effect second long) ≡ on_variable (named false OfVariables) 2 effect) refl refl refl size
memory-column false OfVariables Reference first second long size = by-size-bits (λ bits. column (variable_op (0x80 + bits + 0 + 8 + 3) first 0 second long) ≡ on_variable (named false OfVariables) 3 0) refl refl refl size
memory-column false OfFrame Push first second long size = by-size-bits (λ bits. column (variable_op (0x80 + bits + 0 + 12 + 0) first 0 second long) ≡ on_variable (named false OfFrame) 0 0) refl refl refl size
memory-column false OfFrame Pop first second long size = by-size-bits (λ bits. column (variable_op (0x80 + bits + 0 + 12 + 1) first 0 second long) ≡ on_variable (named false OfFrame) 1 0) refl refl refl size
memory-column false OfFrame (Using effect) first second long size = by-size-bits (λ bits. column (variable_op (0x80 + bits + 0 + 12 + 2) first effect second long) ≡ on_variable (named false OfFrame) 2 effect) refl refl refl size
memory-column false OfFrame Reference first second long size = by-size-bits (λ bits. column (variable_op (0x80 + bits + 0 + 12 + 3) first 0 second long) ≡ on_variable (named false OfFrame) 3 0) refl refl refl size

-- ---- longs among the first eight

no-less : (a b : ℕ) → b < a → nat_le a b ≡ false
no-less a b h = grind (arith, nat_tests)

at-most : (a b : ℕ) → a ≤ b → nat_le a b ≡ true
at-most a b h = grind (arith, nat_tests)

-- the columns below 40
abbrev low_column : Op → Column
low_column op =
    if nat_le 0x3D op.code then on_variable (pins_by op.code) (done_by op.first) op.effect
    else if op.code == 0x15 then Works (op.second + 2) 1
    else in_rows rows op.code

short-column : (op : Op) → 0x40 ≤ op.code → op.code < 0x80 → column op ≡ on_variable 0 (op.code % 4) op.effect
short-column op least most =
    ap (λ (b : Bool). if b then Works (if is_unary op.code then 1 else 2) 1 else if nat_le 0x80 op.code then on_variable (named_by op.code) (op.code % 4) op.effect else if nat_le 0x40 op.code then on_variable 0 (op.code % 4) op.effect else low_column op) (no-less 0xE0 op.code (omega (arith, most)))
    ∙ ap (λ (b : Bool). if b then on_variable (named_by op.code) (op.code % 4) op.effect else if nat_le 0x40 op.code then on_variable 0 (op.code % 4) op.effect else low_column op) (no-less 0x80 op.code most)
    ∙ ap (λ (b : Bool). if b then on_variable 0 (op.code % 4) op.effect else low_column op) (at-most 0x40 op.code least)

short-code : (bits offset a : ℕ) → (bits ≡ 0) ⊎ (bits ≡ 0x20) → offset < 32 → offset % 4 ≡ 0 → a < 4 → (0x40 ≤ 0x40 + bits + offset + a) × (0x40 + bits + offset + a < 0x80) × ((0x40 + bits + offset + a) % 4 ≡ a)
short-code bits offset a (inl is) low even few = (omega (arith, is), omega (arith, is), omega (arith, is))
short-code bits offset a (inr is) low even few = (omega (arith, is), omega (arith, is), omega (arith, is))

few-actions : (o : Operation) → action_of o < 4
few-actions Push = omega arith
few-actions Pop = omega arith
few-actions (Using effect) = omega arith
few-actions Reference = omega arith

abbrev pub with_jump : Op → (second : ℕ) → Bool → Op
with_jump op second long = record op { second = second; long_form = long }

short-is : (bits offset : ℕ) (o : Operation) (second : ℕ) (long : Bool) → (bits ≡ 0) ⊎ (bits ≡ 0x20) → offset < 32 → offset % 4 ≡ 0 → column (with_jump (record (bare (0x40 + bits + offset + action_of o)) { effect = effect_of o }) second long) ≡ on_variable 0 (action_of o) (effect_of o)
short-is bits offset o second long which low even =
    let c = short-code bits offset (action_of o) which low even (few-actions o) in
    short-column (with_jump (record (bare (0x40 + bits + offset + action_of o)) { effect = effect_of o }) second long) c.0 c.1
    ∙ ap (λ a. on_variable 0 a (effect_of o)) c.2

either-op : {c : Column} (a b : Op) (t : Bool) (second : ℕ) (long : Bool) → (t ≡ true → column (with_jump a second long) ≡ c) → column (with_jump b second long) ≡ c → column (with_jump (if t then a else b) second long) ≡ c
either-op a b true second long x y = x refl
either-op a b false second long x y = y

short-home : (home : Home) → is_short home ≡ true → (home.offset < 32) × (home.offset % 4 ≡ 0)
short-home home is =
    let outer = both_true (home.size == 4 && nat_lt home.offset 32) (home.offset % 4 == 0) is in
    let inner = both_true (home.size == 4) (nat_lt home.offset 32) outer.0 in
    (below (home.offset) inner.1, equal (home.offset % 4) 0 outer.1)
  where
    below : (k : ℕ) → IsTrue (nat_lt k 32) → k < 32
    below k h = grind (arith, nat_tests)

-- a variable whose address isn't pushed
abbrev pub IsBased : Base → Type 0
IsBased Pushed = ⊥
IsBased base = Unit {0}

named-none : (base : Base) → IsBased base → named false base ≡ 0
named-none Pushed based = absurd based
named-none OfObject based = refl
named-none OfVariables based = refl
named-none OfFrame based = refl

pub memory-is : (indexed : Bool) (home : Home) (o : Operation) (second : ℕ) (long : Bool) → column (with_jump (memory_op indexed home o) second long) ≡ on_variable (named indexed home.base) (action_of o) (effect_of o)
memory-is indexed home o second long = memory-column indexed home.base o (home.offset % 2 ^ 15) second long home.size

plain-memory : (home : Home) → IsBased home.base → (o : Operation) (second : ℕ) (long : Bool) → column (with_jump (memory_op false home o) second long) ≡ on_variable 0 (action_of o) (effect_of o)
plain-memory home based o second long = memory-is false home o second long ∙ ap (λ k. on_variable k (action_of o) (effect_of o)) (named-none home.base based)

based-is : (base : Base) (home : Home) → IsBased home.base → (o : Operation) (second : ℕ) (long : Bool) → column (with_jump (short_or_long (short_bits base) home o) second long) ≡ on_variable 0 (action_of o) (effect_of o)
based-is Pushed home based o second long = plain-memory home based o second long
based-is OfObject home based o second long = plain-memory home based o second long
based-is OfVariables home based o second long =
    either-op (record (bare (0x40 + 0 + home.offset + action_of o)) { effect = effect_of o }) (memory_op false home o) (is_short home) second long
    (λ is. let p = short-home home is in short-is 0 home.offset o second long (inl refl) p.0 p.1) (plain-memory home based o second long)
based-is OfFrame home based o second long =
    either-op (record (bare (0x40 + 0x20 + home.offset + action_of o)) { effect = effect_of o }) (memory_op false home o) (is_short home) second long
    (λ is. let p = short-home home is in short-is 0x20 home.offset o second long (inr refl) p.0 p.1) (plain-memory home based o second long)

-- a variable without an index, also with a jump
pub plain-is : (home : Home) → IsBased home.base → (o : Operation) (second : ℕ) (long : Bool) → column (with_jump (plain_op home o) second long) ≡ on_variable 0 (action_of o) (effect_of o)
plain-is home based o second long = based-is home.base home based o second long

-- ---- registers

low-byte : (n : ℕ) → n < 32 → done_by (0x80 + n) ≡ 0
low-byte n few = ap (λ (b : Bool). if b then 0 else if nat_lt (0x80 + n) 0xC0 then 1 else 2) (let less : nat_lt (0x80 + n) 0xA0 ≡ true = grind (arith, nat_tests) in less)

pop-byte : (n : ℕ) → n < 32 → done_by (0xA0 + n) ≡ 1
pop-byte n few =
    ap (λ (b : Bool). if b then 0 else if nat_lt (0xA0 + n) 0xC0 then 1 else 2) (let more : nat_lt (0xA0 + n) 0xA0 ≡ false = grind (arith, nat_tests) in more)
    ∙ ap (λ (b : Bool). if b then 1 else 2) (let less : nat_lt (0xA0 + n) 0xC0 ≡ true = grind (arith, nat_tests) in less)

change-byte : (n : ℕ) → done_by (0xC0 + n) ≡ 2
change-byte n =
    ap (λ (b : Bool). if b then 0 else if nat_lt (0xC0 + n) 0xC0 then 1 else 2) (let more : nat_lt (0xC0 + n) 0xA0 ≡ false = grind (arith, nat_tests) in more)
    ∙ ap (λ (b : Bool). if b then 1 else 2) (let more : nat_lt (0xC0 + n) 0xC0 ≡ false = grind (arith, nat_tests) in more)

done-is : (o : Operation) (named n : ℕ) → n < 32 → on_variable named (done_by (operation_bits o + n)) (effect_of o) ≡ on_variable named (action_of o) (effect_of o)
done-is Push named n few = ap (λ a. on_variable named a 0) (low-byte n few)
done-is Pop named n few = ap (λ a. on_variable named a 0) (pop-byte n few)
done-is (Using effect) named n few = ap (λ a. on_variable named a effect) (change-byte n)
done-is Reference named n few = ap (λ a. on_variable named a 0) (low-byte n few)

few-registers : (address : ℕ) → IsTrue (proper.is_register false address) → address - 0x1E0 < 32
few-registers address h =
    one_of (λ a. a - 0x1E0 < 32) (0x1F0 ∷ 0x1F1 ∷ 0x1F2 ∷ 0x1F4 ∷ 0x1F6 ∷ []) address (both_true (nat_le address 0x1FF) _ (both_true (nat_le 0x1F0 address) _ h).1).1
    (omega arith, (omega arith, (omega arith, (omega arith, (omega arith, tt)))))

abbrev register_op : (code address : ℕ) → Operation → Op
register_op code address o = record (bare code) { first = operation_bits o + (address - 0x1E0); effect = effect_of o }

pub one-pin-is : (address : ℕ) (o : Operation) → IsTrue (proper.is_register false address) → column (register_op 0x3D address o) ≡ on_variable 1 (action_of o) (effect_of o)
one-pin-is address o is = done-is o 1 (address - 0x1E0) (few-registers address is)

pub some-pins-is : (address : ℕ) (o : Operation) → IsTrue (proper.is_register false address) → column (register_op 0x3E address o) ≡ on_variable 2 (action_of o) (effect_of o)
some-pins-is address o is = done-is o 2 (address - 0x1E0) (few-registers address is)

pub all-pins-is : (address : ℕ) (o : Operation) → IsTrue (proper.is_register false address) → column (register_op 0x3F address o) ≡ on_variable 0 (action_of o) (effect_of o)
all-pins-is address o is = done-is o 0 (address - 0x1E0) (few-registers address is)

-- ---- what is done with a variable

-- so many longs are taken beside those that name it, and so many are left
pub record Does (o : Operation) (t l : ℕ) : Type 0 where
  pub by : (k : ℕ) → on_variable k (action_of o) (effect_of o) ≡ Works (k + t) l

more-none : (k : ℕ) → k ≡ k + 0
more-none k = omega arith

pub pushes : Does Push 0 1
pushes = record { by = λ k. ap (λ k. Works k 1) (more-none k) }

pub pops : Does Pop 1 0
pops = record { by = λ k. refl }

pub refers : Does Reference 0 1
refers = record { by = λ k. ap (λ k. Works k 1) (more-none k) }

-- an effect that takes a value and leaves one where it is used
abbrev is_binary_effect : (used : Bool) → ℕ → Bool
is_binary_effect used e = not (e == 0x02) && (not (e == 0x06) && (takes_value (e % 128) && (if used then nat_le 128 e else not (nat_le 128 e))))

unlike : (b : Bool) → IsTrue (not b) → b ≡ false
unlike true h = absurd cc
unlike false h = refl

binary-by : (used : Bool) (e : ℕ) → IsTrue (is_binary_effect used e) → Does (Using e) 1 (left_by used)
binary-by used e is =
    let p = both_true (not (e == 0x02)) _ is in
    let q = both_true (not (e == 0x06)) _ p.1 in
    let r = both_true (takes_value (e % 128)) _ q.1 in
    record {
      by = λ k.
          ap (λ (b : Bool). if b then Jumps (k + 2) 0 0 else if e == 0x06 then Jumps (k + 3) 0 0 else Works (k + (if takes_value (e % 128) then 1 else 0)) (if nat_le 128 e then 1 else 0)) (unlike (e == 0x02) p.0)
          ∙ ap (λ (b : Bool). if b then Jumps (k + 3) 0 0 else Works (k + (if takes_value (e % 128) then 1 else 0)) (if nat_le 128 e then 1 else 0)) (unlike (e == 0x06) q.0)
          ∙ ap (λ (b : Bool). Works (k + (if b then 1 else 0)) (if nat_le 128 e then 1 else 0)) r.0
          ∙ ap (λ (b : Bool). Works (k + 1) (if b then 1 else 0)) (left used (nat_le 128 e) r.1);
    }
  where
    left : (used b : Bool) → IsTrue (if used then b else not b) → b ≡ used
    left true b h = h
    left false b h = unlike b h

binary-effects : all_below (λ k. not (is_binary k) || (is_binary_effect true (leaving true (effect_by k)) && is_binary_effect false (leaving false (effect_by k)))) 256 ≡ true
unfolding all_below
binary-effects = refl

binary-few : (k : ℕ) → IsTrue (is_binary k) → k < 256
binary-few k h =
    let a = both_true (nat_le 0xE0 k) (nat_le k 0xFF && ((k == 0xEC) || not (proper.is_unary k))) h in
    let b = both_true (nat_le k 0xFF) ((k == 0xEC) || not (proper.is_unary k)) a.1 in
    let c = b.0 in
    grind (arith, nat_tests)

-- an assignment by an operator
pub operates : (used : Bool) (k : ℕ) → IsTrue (is_binary k) → Does (Using (leaving used (effect_by k))) 1 (left_by used)
operates used k h =
    pick used (both_true _ _ (modus (is_binary k) _ (all_below-at (λ k. not (is_binary k) || (is_binary_effect true (leaving true (effect_by k)) && is_binary_effect false (leaving false (effect_by k)))) 256 k binary-effects (binary-few k h)) h))
  where
    pick : (used : Bool) → IsTrue (is_binary_effect true (leaving true (effect_by k))) × IsTrue (is_binary_effect false (leaving false (effect_by k))) → Does (Using (leaving used (effect_by k))) 1 (left_by used)
    pick true p = binary-by true (leaving true (effect_by k)) p.0
    pick false p = binary-by false (leaving false (effect_by k)) p.1

-- one without
pub writes-left : Does (Using 0x80) 1 1
writes-left = binary-by true 0x80 refl

-- a change of a variable
four-sizes : (P : ℕ → Type 0) → P 0 → P 2 → P 4 → P 6 → (size : ℕ) → P (by_size size)
four-sizes P none one two four size = go (size == 1) (size == 2) (size == 4)
  where
    go : (a b c : Bool) → P (if a then 2 else if b then 4 else if c then 6 else 0)
    go true b c = one
    go false true c = two
    go false false true = four
    go false false false = none

abbrev Change : ℕ → Type 0
Change e = ((k : ℕ) → on_variable k 2 (leaving true e) ≡ Works (k + 0) 1) × ((k : ℕ) → on_variable k 2 e ≡ Works (k + 0) 0)

pub changes : (size k : ℕ) → IsTrue (is_change k) → Does (Using (leaving true (effect_for size k))) 0 1 × Does (Using (effect_for size k)) 0 0
changes size k h =
    let c = one_of (λ k. (size : ℕ) → Change (effect_for size k)) (0x20 ∷ 0x28 ∷ 0x30 ∷ 0x38 ∷ 0x10 ∷ 0x18 ∷ 0x14 ∷ 0x1C ∷ []) k h
    ((λ size. four-sizes (λ s. Change (0x20 + s)) ((λ k. refl), (λ k. refl)) ((λ k. refl), (λ k. refl)) ((λ k. refl), (λ k. refl)) ((λ k. refl), (λ k. refl)) size), ((λ size. four-sizes (λ s. Change (0x28 + s)) ((λ k. refl), (λ k. refl)) ((λ k. refl), (λ k. refl)) ((λ k. refl), (λ k. refl)) ((λ k. refl), (λ k. refl)) size), ((λ size. four-sizes (λ s. Change (0x30 + s)) ((λ k. refl), (λ k. refl)) ((λ k. refl), (λ k. refl)) ((λ k. refl), (λ k. refl)) ((λ k. refl), (λ k. refl)) size), ((λ size. four-sizes (λ s. Change (0x38 + s)) ((λ k. refl), (λ k. refl)) ((λ k. refl), (λ k. refl)) ((λ k. refl), (λ k. refl)) ((λ k. refl), (λ k. refl)) size), ((λ size. ((λ k. refl), (λ k. refl))), ((λ size. ((λ k. refl), (λ k. refl))), ((λ size. ((λ k. refl), (λ k. refl))), ((λ size. ((λ k. refl), (λ k. refl))), tt)))))))) size in
    (record { by = c.0 }, record { by = c.1 })

pub changes-alone : (size k : ℕ) → IsTrue (is_operator_alone k) → Does (Using (effect_for size k)) 0 0
changes-alone size k h =
    record {
      by = one_of (λ k. (size j : ℕ) → on_variable j 2 (effect_for size k) ≡ Works (j + 0) 0) (0x46 ∷ 0x47 ∷ 0x49 ∷ 0x51 ∷ 0x53 ∷ 0x58 ∷ 0x5F ∷ []) k h
          ((λ size j. refl), ((λ size j. refl), ((λ size j. refl), ((λ size j. refl), ((λ size j. refl), ((λ size j. refl), ((λ size j. refl), tt))))))) size;
    }

-- ---- operators

-- `+` alone adds nothing
pub unary-is : (k : ℕ) → IsTrue (proper.is_unary k) → (k == 0xEC) ≡ false → column (bare k) ≡ Works 1 1
unary-is k h =
    one_of (λ k. (k == 0xEC) ≡ false → column (bare k) ≡ Works 1 1) (0xE6 ∷ 0xE7 ∷ 0xE9 ∷ 0xEC ∷ 0xF1 ∷ 0xF3 ∷ 0xF8 ∷ 0xFF ∷ []) k h
    ((λ no. refl), ((λ no. refl), ((λ no. refl), ((λ no. absurd cc), ((λ no. refl), ((λ no. refl), ((λ no. refl), ((λ no. refl), tt))))))))

binary-operators : all_below (λ k. not (is_binary k) || (nat_le 0xE0 k && not (is_unary k))) 256 ≡ true
unfolding all_below
binary-operators = refl

pub binary-is : (k : ℕ) → IsTrue (is_binary k) → column (bare k) ≡ Works 2 1
binary-is k h =
    let p = both_true (nat_le 0xE0 k) (not (is_unary k)) (modus (is_binary k) _ (all_below-at (λ k. not (is_binary k) || (nat_le 0xE0 k && not (is_unary k))) 256 k binary-operators (binary-few k h)) h) in
    ap (λ (b : Bool). if b then Works (if is_unary k then 1 else 2) 1 else if nat_le 0x80 k then on_variable (named_by k) (k % 4) 0 else if nat_le 0x40 k then on_variable 0 (k % 4) 0 else low_column (bare k)) p.0
    ∙ ap (λ (b : Bool). Works (if b then 1 else 2) 1) (unlike (is_unary k) p.1)
