-- The most frequent bytecodes, read from their first bytes.
use Rattle.std.proofs.Common.{◌≡◌, not, refl, sym, ap, ◌∙◌, arith, ℕ, ◌+◌, ◌-◌, ◌*◌, ◌^◌, ◌≤◌, ◌<◌, Bool, true, false, ◌&&◌, if◌then◌else◌, nat_lt, nat_le, List, [], ◌∷◌, drop, length, slice_index, Option, Some, None, option_map, MatchOption, subst, ◌%◌, ◌==◌}
use Rattle.std.proofs.lemmas.List.{drop_more}
use Rattle.std.proofs.lemmas.Bool.Decides.{nat_tests}
use Rattle.p8_access.specs.Courses.{Course, Finish}
use Rattle.p8_bytecode.specs.declared.op.Op.{Op}
use Rattle.p8_bytecode.specs.declared.operands.Operands.{Operands}
use Rattle.p8_bytecode.specs.declared.operands.Operands.TheVariants.{Nothing, Offset, ShortVariable}
use Rattle.p8_bytecode.specs.Table.{rows, in_rows, is_within, operands_of, is_effect, is_step}
use Rattle.p8_bytecode.specs.Reading.{bare, sign_extended, jump_in, coded, changes_variable}
use Rattle.p8_bcog.specs.declared.state.SpinState.{SpinState}
use Rattle.p8_bcog.specs.Operands.{tested, pushed}
use Rattle.p8_access.specs.declared.kinds.Width.TheVariants.{Long}
use Rattle.p8_words.specs.Operators.{is_unary}
use Rattle.p8_bcog.specs.declared.variable_place.VariablePlace.{VariablePlace}
use Rattle.p8_bcog.specs.declared.variable_place.VariablePlace.TheVariants.{Memory}
use Rattle.p8_bcog.specs.Changes.{pushes, pops, changes_alone, is_binary_effect, changes}
use Rattle.p8_bcog.specs.Variables.{acts, short_address, short_variable}
use Rattle.p8_bcog.specs.Control.{jump, loop_begins, loop_ends, jump_if_zero, jump_unless_zero}
use Rattle.p8_bcog.specs.Bytecodes.{row, call_row, test_row, return_row, constant_row, operator_row, packed, does_found, clocks_of, is_slow, bytecode, clocks}
use Rattle.p8_bcog.specs.Code.{code_of, fetched}
use Rattle.p8_bcog.specs.Quick.{passed, offset_of, jump_size, found_at, IsQuick, is_fast_operator, names_long, counts}

-- ---- tests

if-no : {A : Type 0} (b : Bool) (x y : A) → b ≡ false → (if b then x else y) ≡ y
if-no b x y is = ap (λ (c : Bool). if c then x else y) is

if-yes : {A : Type 0} (b : Bool) (x y : A) → b ≡ true → (if b then x else y) ≡ x
if-yes b x y is = ap (λ (c : Bool). if c then x else y) is

not-less : (n m : ℕ) → m ≤ n → nat_lt n m ≡ false
not-less n m le = grind (arith, nat_tests)

less : (n m : ℕ) → n < m → nat_lt n m ≡ true
less n m is = grind (arith, nat_tests)

above : (first last n : ℕ) → last < n → is_within first last n ≡ false
above first last n less = grind (arith, nat_tests)

inside : (first last n : ℕ) → first ≤ n → n ≤ last → is_within first last n ≡ true
inside first last n least most = grind (arith, nat_tests)

-- ---- a bytecode that is found

-- what was read behind the byte of a bytecode that stands at an address
abbrev further : (at : ℕ) → Option (Op × ℕ) → Option (Op × ℕ)
further at read = option_map (λ (r : Op × ℕ). (r.0, at + r.1)) (option_map (λ (r : Op × ℕ). (r.0, 1 + r.1)) read)

found-quick : (bytes : List ℕ) (s : SpinState) (op : Op) (next : ℕ) (course : Course SpinState) → found_at bytes s.at ≡ Some (op, next) → is_slow op ≡ false → ((memory : List ℕ) (cog : ℕ) → row memory cog op (record s { at = next }) ≡ course) → IsQuick bytes s course
found-quick bytes s op next course found fast does = λ memory cog. (
  ap (λ (f : Option (Op × ℕ)). does_found memory cog f s) found ∙ does memory cog,
  ap clocks_of found ∙ if-no (is_slow op) 544 32 fast,
)

-- where the code's parts are known by equations
pub quick-by : (byte code operand value wanted size : ℕ) (rest : List ℕ) (s at : SpinState) (f : ℕ → SpinState → Course SpinState) (course : Course SpinState) → byte ≡ code → at ≡ passed size s → value ≡ wanted → course ≡ f value at → IsQuick (code ∷ operand ∷ rest) s (f wanted (passed size s)) → IsQuick (byte ∷ operand ∷ rest) s course
quick-by byte code operand value wanted size rest s at f course is goes same comes quick =
    subst (λ (c : Course SpinState). IsQuick (byte ∷ operand ∷ rest) s c)
    (ap (λ (v : ℕ). f v (passed size s)) (sym same) ∙ ap (f value) (sym goes) ∙ sym comes)
    (subst (λ (b : ℕ). IsQuick (b ∷ operand ∷ rest) s (f wanted (passed size s))) (sym is) quick)

-- ---- jumps

abbrev jumping : (code high low : ℕ) → Op
jumping code high low = record (bare code) { first = offset_of high low; long_form = not (nat_lt high 128) }

-- a jump with its offset, by whether that has one byte alone
found-by : (code high low at : ℕ) (short : Bool) → further at (jump_in code (if short then Some (sign_extended 7 high, false) else Some (sign_extended 15 (high % 128 * 256 + low), true))) ≡ Some (record (bare code) { first = if short then sign_extended 7 high else sign_extended 15 (high % 128 * 256 + low); long_form = not short }, at + (if short then 2 else 3))
found-by code high low at true = refl
found-by code high low at false = refl

found-jump : (code high low at : ℕ) (rest : List ℕ) → operands_of code ≡ Some Offset → found_at (code ∷ high ∷ low ∷ rest) at ≡ Some (jumping code high low, at + jump_size high)
found-jump code high low at rest jumps =
    ap (λ (o : Option Operands). further at (coded o code (high ∷ low ∷ rest))) jumps
    ∙ found-by code high low at (nat_lt high 128)

pub quick-jump : (high low : ℕ) (rest : List ℕ) (s : SpinState) → IsQuick (0x04 ∷ high ∷ low ∷ rest) s (jump (offset_of high low) (passed (jump_size high) s))
unfolding rows row call_row
quick-jump high low rest s = found-quick (0x04 ∷ high ∷ low ∷ rest) s _ _ _ (found-jump 0x04 high low s.at rest refl) refl (λ memory cog. refl)

pub quick-loop-begins : (high low : ℕ) (rest : List ℕ) (s : SpinState) → IsQuick (0x08 ∷ high ∷ low ∷ rest) s (loop_begins (offset_of high low) (passed (jump_size high) s))
unfolding rows row test_row
quick-loop-begins high low rest s = found-quick (0x08 ∷ high ∷ low ∷ rest) s _ _ _ (found-jump 0x08 high low s.at rest refl) refl (λ memory cog. refl)

pub quick-loop-ends : (high low : ℕ) (rest : List ℕ) (s : SpinState) → IsQuick (0x09 ∷ high ∷ low ∷ rest) s (loop_ends (offset_of high low) (passed (jump_size high) s))
unfolding rows row test_row
quick-loop-ends high low rest s = found-quick (0x09 ∷ high ∷ low ∷ rest) s _ _ _ (found-jump 0x09 high low s.at rest refl) refl (λ memory cog. refl)

pub quick-jump-if-zero : (high low : ℕ) (rest : List ℕ) (s : SpinState) → IsQuick (0x0A ∷ high ∷ low ∷ rest) s (jump_if_zero (offset_of high low) (passed (jump_size high) s))
unfolding rows row test_row
quick-jump-if-zero high low rest s = found-quick (0x0A ∷ high ∷ low ∷ rest) s _ _ _ (found-jump 0x0A high low s.at rest refl) refl (λ memory cog. refl)

pub quick-jump-unless-zero : (high low : ℕ) (rest : List ℕ) (s : SpinState) → IsQuick (0x0B ∷ high ∷ low ∷ rest) s (jump_unless_zero (offset_of high low) (passed (jump_size high) s))
unfolding rows row test_row
quick-jump-unless-zero high low rest s = found-quick (0x0B ∷ high ∷ low ∷ rest) s _ _ _ (found-jump 0x0B high low s.at rest refl) refl (λ memory cog. refl)

-- ---- constants

abbrev pub leaves : (value : ℕ) → SpinState → Course SpinState
leaves value s = tested 0 1 s (Finish (pushed value s))

pub quick-minus-one : (operand : ℕ) (rest : List ℕ) (s : SpinState) → IsQuick (0x34 ∷ operand ∷ rest) s (leaves (2 ^ 32 - 1) (passed 1 s))
unfolding rows row return_row constant_row
quick-minus-one operand rest s = λ memory cog. (refl, refl)

pub quick-zero : (operand : ℕ) (rest : List ℕ) (s : SpinState) → IsQuick (0x35 ∷ operand ∷ rest) s (leaves 0 (passed 1 s))
unfolding rows row return_row constant_row
quick-zero operand rest s = λ memory cog. (refl, refl)

pub quick-one : (operand : ℕ) (rest : List ℕ) (s : SpinState) → IsQuick (0x36 ∷ operand ∷ rest) s (leaves 1 (passed 1 s))
unfolding rows row return_row constant_row
quick-one operand rest s = λ memory cog. (refl, refl)

pub quick-packed : (operand : ℕ) (rest : List ℕ) (s : SpinState) → operand < 128 → IsQuick (0x37 ∷ operand ∷ rest) s (leaves (packed operand) (passed 2 s))
unfolding rows row return_row constant_row
quick-packed operand rest s is = found-quick (0x37 ∷ operand ∷ rest) s (record (bare 0x37) { first = operand }) (s.at + 2) _
    (ap (further s.at) (if-yes (nat_lt operand 128) (Some (record (bare 0x37) { first = operand }, 1)) None (less operand 128 is)))
    refl (λ memory cog. refl)

pub quick-byte : (operand : ℕ) (rest : List ℕ) (s : SpinState) → IsQuick (0x38 ∷ operand ∷ rest) s (leaves operand (passed 2 s))
unfolding rows row return_row constant_row
quick-byte operand rest s = λ memory cog. (refl, refl)

-- ---- operators

-- the rows from the first on that doesn't end below n
from-row : (n : ℕ) → List (ℕ × ℕ × Operands) → List (ℕ × ℕ × Operands)
from-row n [] = []
from-row n (line ∷ lines) = if nat_lt line.1 n then from-row n lines else line ∷ lines

skipped : (n k : ℕ) (ends : Bool) (line : ℕ × ℕ × Operands) (lines : List (ℕ × ℕ × Operands)) → nat_lt line.1 n ≡ ends → n ≤ k → in_rows lines k ≡ in_rows (from-row n lines) k → in_rows (line ∷ lines) k ≡ in_rows (if ends then from-row n lines else line ∷ lines) k
skipped n k true line lines is le same = if-no (is_within line.0 line.1 k) _ _ (above line.0 line.1 k (grind (arith, nat_tests))) ∙ same
skipped n k false line lines is le same = refl

skips : (n k : ℕ) (lines : List (ℕ × ℕ × Operands)) → n ≤ k → in_rows lines k ≡ in_rows (from-row n lines) k
unfolding from-row
skips n k [] le = refl
skips n k (line ∷ lines) le = skipped n k (nat_lt line.1 n) line lines refl le (skips n k lines le)

operator-alone : (k : ℕ) → 0xE0 ≤ k → k ≤ 0xFF → operands_of k ≡ Some Nothing
unfolding rows from-row
operator-alone k least most = skips 0xE0 k rows least ∙ if-yes (is_within 0xE0 0xFF k) _ _ (inside 0xE0 0xFF k least most)

operator-row : (k : ℕ) (memory : List ℕ) (cog : ℕ) (s : SpinState) → 0xE0 ≤ k → row memory cog (bare k) s ≡ operator_row (bare k) s
unfolding row
operator-row k memory cog s least =
    if-no (nat_lt k 0x08) _ _ (not-less k 0x08 (omega (arith, least)))
    ∙ if-no (nat_lt k 0x10) _ _ (not-less k 0x10 (omega (arith, least)))
    ∙ if-no (nat_lt k 0x16) _ _ (not-less k 0x16 (omega (arith, least)))
    ∙ if-no (nat_lt k 0x20) _ _ (not-less k 0x20 (omega (arith, least)))
    ∙ if-no (nat_lt k 0x30) _ _ (not-less k 0x30 (omega (arith, least)))
    ∙ if-no (nat_lt k 0x40) _ _ (not-less k 0x40 (omega (arith, least)))
    ∙ if-no (nat_lt k 0x80) _ _ (not-less k 0x80 (omega (arith, least)))
    ∙ if-no (nat_lt k 0xE0) _ _ (not-less k 0xE0 least)

fast-least : (k : ℕ) → is_fast_operator k ≡ true → 0xE0 ≤ k
fast-least k is = grind (arith, nat_tests)

fast-not-slow : (k : ℕ) → is_fast_operator k ≡ true → is_slow (bare k) ≡ false
fast-not-slow k is = if-no (nat_lt k 0xE0) _ _ (not-less k 0xE0 (fast-least k is)) ∙ between k is
  where
    between : (k : ℕ) → is_fast_operator k ≡ true → (nat_le 0xF4 k && nat_le k 0xF8) ≡ false
    between k is = grind (arith, nat_tests)

pub quick-operator : (k operand : ℕ) (rest : List ℕ) (s at : SpinState) (course : Course SpinState) → is_fast_operator k ≡ true → k ≤ 0xFF → at ≡ passed 1 s → course ≡ operator_row (bare k) at → IsQuick (k ∷ operand ∷ rest) s course
quick-operator k operand rest s at course fast most goes comes = found-quick (k ∷ operand ∷ rest) s (bare k) (s.at + 1) course
    (ap (λ (o : Option Operands). further s.at (coded o k (operand ∷ rest))) (operator-alone k (fast-least k fast) most))
    (fast-not-slow k fast)
    (λ memory cog. operator-row k memory cog (passed 1 s) (fast-least k fast) ∙ ap (operator_row (bare k)) (sym goes) ∙ sym comes)

-- ---- long variables that their bytecodes name

variable-alone : (k : ℕ) → 0x40 ≤ k → k < 0x80 → operands_of k ≡ Some ShortVariable
unfolding rows from-row
variable-alone k least most = skips 0x40 k rows least ∙ if-yes (is_within 0x40 0x7F k) _ _ (inside 0x40 0x7F k least (omega (arith, most)))

variable-row : (op : Op) (memory : List ℕ) (cog : ℕ) (s : SpinState) → 0x40 ≤ op.code → op.code < 0x80 → row memory cog op s ≡ short_variable op s
unfolding row
variable-row op memory cog s least most =
    if-no (nat_lt op.code 0x08) _ _ (not-less op.code 0x08 (omega (arith, least)))
    ∙ if-no (nat_lt op.code 0x10) _ _ (not-less op.code 0x10 (omega (arith, least)))
    ∙ if-no (nat_lt op.code 0x16) _ _ (not-less op.code 0x16 (omega (arith, least)))
    ∙ if-no (nat_lt op.code 0x20) _ _ (not-less op.code 0x20 (omega (arith, least)))
    ∙ if-no (nat_lt op.code 0x30) _ _ (not-less op.code 0x30 (omega (arith, least)))
    ∙ if-no (nat_lt op.code 0x40) _ _ (not-less op.code 0x40 least)
    ∙ if-yes (nat_lt op.code 0x80) _ _ (less op.code 0x80 most)

long-range : (k : ℕ) → names_long k ≡ true → (0x40 ≤ k) × (k < 0x80)
long-range k is = (least k is, most k is)
  where
    least : (k : ℕ) → names_long k ≡ true → 0x40 ≤ k
    least k is = grind (arith, nat_tests)

    most : (k : ℕ) → names_long k ≡ true → k < 0x80
    most k is = grind (arith, nat_tests)

variable-quick : (k operand effect size : ℕ) (rest : List ℕ) (s : SpinState) (course : Course SpinState) → names_long k ≡ true → coded (Some ShortVariable) k (operand ∷ rest) ≡ Some (record (bare k) { effect = effect }, size) → (nat_le 0x54 (effect % 128) && nat_le (effect % 128) 0x58) ≡ false → short_variable (record (bare k) { effect = effect }) (passed (1 + size) s) ≡ course → IsQuick (k ∷ operand ∷ rest) s course
variable-quick k operand effect size rest s course is read fast comes =
    let r = long-range k is in
    found-quick (k ∷ operand ∷ rest) s (record (bare k) { effect = effect }) (s.at + (1 + size)) course
    (ap (λ (o : Option Operands). further s.at (coded o k (operand ∷ rest))) (variable-alone k r.0 r.1) ∙ ap (further s.at) read)
    (if-yes (nat_lt k 0xE0) _ _ (less k 0xE0 (omega (arith, r.1))) ∙ fast)
    (λ memory cog. variable-row (record (bare k) { effect = effect }) memory cog (passed (1 + size) s) r.0 r.1 ∙ comes)

abbrev pub long_of : (code : ℕ) → SpinState → VariablePlace
long_of code s = Memory Long (short_address code s)

pub quick-push : (k operand : ℕ) (rest : List ℕ) (s at : SpinState) (course : Course SpinState) → names_long k ≡ true → k % 4 ≡ 0 → at ≡ passed 1 s → course ≡ pushes 0 (long_of k s) at → IsQuick (k ∷ operand ∷ rest) s course
unfolding short_variable acts
quick-push k operand rest s at course is action goes comes =
    variable-quick k operand 0 0 rest s course is
    (if-no (changes_variable k) _ _ (ap (λ (a : ℕ). a == 2) action))
    refl
    (if-yes (k % 4 == 0) _ _ (ap (λ (a : ℕ). a == 0) action) ∙ ap (pushes 0 (long_of k s)) (sym goes) ∙ sym comes)

pub quick-pop : (k operand : ℕ) (rest : List ℕ) (s at : SpinState) (course : Course SpinState) → names_long k ≡ true → k % 4 ≡ 1 → at ≡ passed 1 s → course ≡ pops 0 (long_of k s) at → IsQuick (k ∷ operand ∷ rest) s course
unfolding short_variable acts
quick-pop k operand rest s at course is action goes comes =
    variable-quick k operand 0 0 rest s course is
    (if-no (changes_variable k) _ _ (ap (λ (a : ℕ). a == 2) action))
    refl
    (if-no (k % 4 == 0) _ _ (ap (λ (a : ℕ). a == 0) action) ∙ if-yes (k % 4 == 1) _ _ (ap (λ (a : ℕ). a == 1) action) ∙ ap (pops 0 (long_of k s)) (sym goes) ∙ sym comes)

counting : (e : ℕ) → counts e ≡ true → (0x20 ≤ e % 128) × (e % 128 < 0x40)
counting e is = (least e is, most e is)
  where
    least : (e : ℕ) → counts e ≡ true → 0x20 ≤ e % 128
    least e is = grind (arith, nat_tests)

    most : (e : ℕ) → counts e ≡ true → e % 128 < 0x40
    most e is = grind (arith, nat_tests)

differs : (n m : ℕ) → (n ≡ m → ⊥) → (n == m) ≡ false
differs n m not-same = grind (arith, nat_tests)

no-step : (e : ℕ) → 0x20 ≤ e % 128 → is_step e ≡ false
no-step e least = grind (arith, nat_tests)

is-change : (e : ℕ) → 0x20 ≤ e % 128 → e % 128 < 0x40 → is_effect e ≡ true
is-change e least most = grind (arith, nat_tests)

changes-alone : (op : Op) (place : VariablePlace) (s : SpinState) → 0x20 ≤ op.effect % 128 → op.effect % 128 < 0x40 → changes 0 op place s ≡ changes_alone 0 op.effect place s
unfolding changes
changes-alone op place s least most =
    if-no (op.effect % 128 == 0x00) _ _ (differs (op.effect % 128) 0x00 (λ is. omega (arith, is, least)))
    ∙ if-no (op.effect == 0x02) _ _ (differs op.effect 0x02 (λ is. omega (arith, is, least)))
    ∙ if-no (op.effect == 0x06) _ _ (differs op.effect 0x06 (λ is. omega (arith, is, least)))
    ∙ if-no (op.effect % 128 == 0x18) _ _ (differs (op.effect % 128) 0x18 (λ is. omega (arith, is, least)))
    ∙ if-no (op.effect % 128 == 0x1C) _ _ (differs (op.effect % 128) 0x1C (λ is. omega (arith, is, least)))
    ∙ if-no (is_binary_effect (op.effect % 128)) _ _ (below-binary (op.effect % 128) most)
  where
    below-binary : (e : ℕ) → e < 0x40 → is_binary_effect e ≡ false
    below-binary e most = ap (λ (b : Bool). b && not (is_unary (e + 0xA0))) (no-more e most)
      where
        no-more : (e : ℕ) → e < 0x40 → nat_le 0x40 e ≡ false
        no-more e most = grind (arith, nat_tests)

pub quick-count : (k operand : ℕ) (rest : List ℕ) (s at : SpinState) (course : Course SpinState) → names_long k ≡ true → k % 4 ≡ 2 → counts operand ≡ true → at ≡ passed 2 s → course ≡ changes_alone 0 operand (long_of k s) at → IsQuick (k ∷ operand ∷ rest) s course
unfolding short_variable acts
quick-count k operand rest s at course is action counted goes comes =
    let r = counting operand counted in
    variable-quick k operand operand 1 rest s course is
    (if-yes (changes_variable k) _ _ (ap (λ (a : ℕ). a == 2) action) ∙ if-no (is_step operand) _ _ (no-step operand r.0) ∙ if-yes (is_effect operand) _ _ (is-change operand r.0 r.1))
    (fast operand r.1)
    (if-no (k % 4 == 0) _ _ (ap (λ (a : ℕ). a == 0) action) ∙ if-no (k % 4 == 1) _ _ (ap (λ (a : ℕ). a == 1) action) ∙ if-yes (k % 4 == 2) _ _ (ap (λ (a : ℕ). a == 2) action)
    ∙ changes-alone (record (bare k) { effect = operand }) (long_of k s) (passed 2 s) r.0 r.1
    ∙ ap (changes_alone 0 operand (long_of k s)) (sym goes) ∙ sym comes)
  where
    fast : (e : ℕ) → e % 128 < 0x40 → (nat_le 0x54 (e % 128) && nat_le (e % 128) 0x58) ≡ false
    fast e most = grind (arith, nat_tests)

-- ---- the first bytes in the code

two-bytes : (code : List ℕ) (at byte operand : ℕ) → at + 1 < length code → byte ≡ slice_index code at → operand ≡ slice_index code (at + 1) → drop at code ≡ byte ∷ operand ∷ drop (at + 1 + 1) code
two-bytes code at byte operand within first second =
    drop_more code at 0 (omega (arith, within))
    ∙ ap (λ (bytes : List ℕ). slice_index code at ∷ bytes) (drop_more code (at + 1) 0 within)
    ∙ ap (λ (b : ℕ). b ∷ slice_index code (at + 1) ∷ drop (at + 1 + 1) code) (sym first)
    ∙ ap (λ (b : ℕ). byte ∷ b ∷ drop (at + 1 + 1) code) (sym second)

three-bytes : (code : List ℕ) (at byte operand low : ℕ) → at + 2 < length code → byte ≡ slice_index code at → operand ≡ slice_index code (at + 1) → low ≡ slice_index code (at + 2) → drop at code ≡ byte ∷ operand ∷ low ∷ drop (at + 1 + 1 + 1) code
three-bytes code at byte operand low within first second third =
    let next : at + 1 + 1 ≡ at + 2 = omega arith in
    two-bytes code at byte operand (omega (arith, within)) first second
    ∙ ap (λ (bytes : List ℕ). byte ∷ operand ∷ bytes) (drop_more code (at + 1 + 1) 0 (omega (arith, within)))
    ∙ ap (λ (b : ℕ). byte ∷ operand ∷ b ∷ drop (at + 1 + 1 + 1) code) (ap (λ (k : ℕ). slice_index code k) next ∙ sym third)

-- what is quick by all bytes from where the cog is
reads : (code : List ℕ) (s : SpinState) (at : ℕ) (course : Course SpinState) → at ≡ s.at → 16 ≤ at → IsQuick (drop at code) s course → (memory : List ℕ) (cog : ℕ) → code ≡ code_of memory → (course ≡ bytecode memory cog s) × (clocks memory s ≡ 32)
reads code s at course is least quick memory cog of =
    let found : fetched memory s.at ≡ found_at (drop at code) s.at =
    if-no (nat_lt s.at 16) None (found_at (drop s.at (code_of memory)) s.at) (not-less s.at 16 (omega (arith, least, is)))
    ∙ ap (λ (c : List ℕ). found_at (drop s.at c) s.at) (sym of)
    ∙ ap (λ (place : ℕ). found_at (drop place code) s.at) (sym is) in
    let does = quick memory cog in
    (sym (ap (λ (f : Option (Op × ℕ)). does_found memory cog f s) found ∙ does.0), ap clocks_of found ∙ does.1)

pub reads-two : {R : Type 0} (course : R → Course SpinState) (code : List ℕ) (s new : SpinState) (at byte operand : ℕ) (r : Option R) → at ≡ s.at → 16 ≤ at → at + 1 < length code → byte ≡ slice_index code at → operand ≡ slice_index code (at + 1) → MatchOption r (new ≡ s) (λ x. (rest : List ℕ) → IsQuick (byte ∷ operand ∷ rest) s (course x)) → MatchOption r (new ≡ s) (λ x. (memory : List ℕ) (cog : ℕ) → code ≡ code_of memory → (course x ≡ bytecode memory cog s) × (clocks memory s ≡ 32))
reads-two course code s new at byte operand None is least within first second same = same
reads-two course code s new at byte operand (Some x) is least within first second quick =
    reads code s at (course x) is least
    (subst (λ (bytes : List ℕ). IsQuick bytes s (course x)) (sym (two-bytes code at byte operand within first second)) (quick (drop (at + 1 + 1) code)))

pub reads-three : {R : Type 0} (course : R → Course SpinState) (code : List ℕ) (s new : SpinState) (at byte operand low : ℕ) (r : Option R) → at ≡ s.at → 16 ≤ at → at + 2 < length code → byte ≡ slice_index code at → operand ≡ slice_index code (at + 1) → low ≡ slice_index code (at + 2) → MatchOption r (new ≡ s) (λ x. (rest : List ℕ) → IsQuick (byte ∷ operand ∷ low ∷ rest) s (course x)) → MatchOption r (new ≡ s) (λ x. (memory : List ℕ) (cog : ℕ) → code ≡ code_of memory → (course x ≡ bytecode memory cog s) × (clocks memory s ≡ 32))
reads-three course code s new at byte operand low None is least within first second third same = same
reads-three course code s new at byte operand low (Some x) is least within first second third quick =
    reads code s at (course x) is least
    (subst (λ (bytes : List ℕ). IsQuick bytes s (course x)) (sym (three-bytes code at byte operand low within first second third)) (quick (drop (at + 1 + 1 + 1) code)))
