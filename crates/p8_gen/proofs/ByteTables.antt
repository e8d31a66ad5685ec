-- Codes and effects, by computation over all bytes.
use Rattle.std.proofs.Common.{◌≡◌, ℕ, zero, suc, ◌+◌, ◌-◌, ◌<◌, ◌≤◌, Bool, true, false, not, ◌&&◌, ◌||◌, ◌==◌, nat_le, if◌then◌else◌, inl, inr, Option, Some, None, List, [], ◌∷◌, refl, sym, ap, ◌∙◌, subst, arith}
use Rattle.std.specs.Prelude.{IsTrue}
use Rattle.std.proofs.lemmas.Bool.{cases_eq}
use Rattle.std.proofs.lemmas.Bool.Decides.{nat_tests}
use Rattle.p8_bytecode.specs.declared.operands.Operands.{Operands}
use Rattle.p8_bytecode.specs.declared.operands.Operands.TheVariants.{Nothing, Offset, OneByte, TwoBytes, ThreeBytes, SevenBits, Word, Triple, Long, Register, ShortVariable, Variable}
use Rattle.p8_bytecode.specs.Table.{rows, operands_of, is_effect, is_step, is_within, is_register}
use Rattle.p8_bytecode.specs.Reading.{changes_register}
use Rattle.p8_tree.specs.Proper.{is_one_of, is_binary, is_unary, is_change, is_operator_alone}
use Rattle.p8_gen.specs.Variables.{leaving, effect_by, effect_for, by_size}

pub all_below : (ℕ → Bool) → ℕ → Bool
all_below test zero = true
all_below test (suc n) = test n && all_below test n

pub both_true : (a b : Bool) → IsTrue (a && b) → IsTrue a × IsTrue b
both_true true b h = (refl, h)
both_true false b h = absurd cc

pub all_below-at : (test : ℕ → Bool) (n k : ℕ) → all_below test n ≡ true → k < n → test k ≡ true
unfolding all_below
all_below-at test zero k h within = absurd (omega arith)
all_below-at test (suc n) k h within =
    let p = both_true (test n) (all_below test n) h in
    elim (cases_eq k n) [
      | inl same ↦ ap test same ∙ p.0
      | inr other ↦ all_below-at test n k p.1 (omega arith)
    ]

pub modus : (a b : Bool) → IsTrue (not a || b) → IsTrue a → IsTrue b
modus true b h t = h
modus false b h t = absurd cc

pub equal : (x y : ℕ) → (x == y) ≡ true → x ≡ y
equal x y h = grind (arith, nat_tests)

-- what holds of each of these numbers holds of one of them
abbrev pub Each : (ℕ → Type 0) → List ℕ → Type 0
Each P [] = Unit {0}
Each P (n ∷ ns) = P n × Each P ns

pub one_of : (P : ℕ → Type 0) (ns : List ℕ) (a : ℕ) → IsTrue (is_one_of ns a) → Each P ns → P a
one_of P [] a h e = absurd cc
one_of P (n ∷ ns) a h e = go (a == n) refl (λ later. one_of P ns a later e.1)
  where
    go : (b : Bool) → (a == n) ≡ b → (IsTrue (is_one_of ns a) → P a) → P a
    go true t others = subst P (sym (equal a n t)) e.0
    go false f others = others (subst (λ b. IsTrue (b || is_one_of ns a)) f h)

-- ---- effects

-- one that stands after a bytecode, and doesn't jump
abbrev pub is_good : ℕ → Bool
is_good effect = is_effect effect && not (is_step effect)

abbrev Good : ℕ → Type 0
Good effect = IsTrue (is_good (leaving true effect)) × IsTrue (is_good (leaving false effect))

picked : (used : Bool) (effect : ℕ) → Good effect → IsTrue (is_good (leaving used effect))
picked true effect p = p.0
picked false effect p = p.1

good_operators : all_below (λ k. not (is_binary k) || (is_good (leaving true (effect_by k)) && is_good (leaving false (effect_by k)))) 256 ≡ true
unfolding all_below
good_operators = refl

binary_small : (k : ℕ) → IsTrue (is_binary k) → k < 256
binary_small k h =
    let a = both_true (nat_le 0xE0 k) (nat_le k 0xFF && ((k == 0xEC) || not (is_unary k))) h in
    let b = both_true (nat_le k 0xFF) ((k == 0xEC) || not (is_unary k)) a.1 in
    let c = b.0 in
    grind (arith, nat_tests)

pub good_operator : (used : Bool) (k : ℕ) → IsTrue (is_binary k) → IsTrue (is_good (leaving used (effect_by k)))
good_operator used k h =
    let at = modus (is_binary k) (is_good (leaving true (effect_by k)) && is_good (leaving false (effect_by k))) (all_below-at (λ k. not (is_binary k) || (is_good (leaving true (effect_by k)) && is_good (leaving false (effect_by k)))) 256 k good_operators (binary_small k h)) h in
    picked used (effect_by k) (both_true (is_good (leaving true (effect_by k))) (is_good (leaving false (effect_by k))) at)

four_sizes : (P : ℕ → Type 0) → P 0 → P 2 → P 4 → P 6 → (size : ℕ) → P (by_size size)
four_sizes P none one two four size = go (size == 1) (size == 2) (size == 4)
  where
    go : (a b c : Bool) → P (if a then 2 else if b then 4 else if c then 6 else 0)
    go true b c = one
    go false true c = two
    go false false true = four
    go false false false = none

pub good_change : (used : Bool) (size k : ℕ) → IsTrue (is_change k) → IsTrue (is_good (leaving used (effect_for size k)))
good_change used size k h =
    picked used (effect_for size k) (one_of (λ k. (size : ℕ) → Good (effect_for size k)) (0x20 ∷ 0x28 ∷ 0x30 ∷ 0x38 ∷ 0x10 ∷ 0x18 ∷ 0x14 ∷ 0x1C ∷ []) k h
    ((λ size. four_sizes (λ s. Good (0x20 + s)) (refl, refl) (refl, refl) (refl, refl) (refl, refl) size), ((λ size. four_sizes (λ s. Good (0x28 + s)) (refl, refl) (refl, refl) (refl, refl) (refl, refl) size), ((λ size. four_sizes (λ s. Good (0x30 + s)) (refl, refl) (refl, refl) (refl, refl) (refl, refl) size), ((λ size. four_sizes (λ s. Good (0x38 + s)) (refl, refl) (refl, refl) (refl, refl) (refl, refl) size), ((λ size. (refl, refl)), ((λ size. (refl, refl)), ((λ size. (refl, refl)), ((λ size. (refl, refl)), tt)))))))) size)

pub good_operator_alone : (size k : ℕ) → IsTrue (is_operator_alone k) → IsTrue (is_good (effect_for size k))
good_operator_alone size k h =
    one_of (λ k. (size : ℕ) → IsTrue (is_good (effect_for size k))) (0x46 ∷ 0x47 ∷ 0x49 ∷ 0x51 ∷ 0x53 ∷ 0x58 ∷ 0x5F ∷ []) k h
    ((λ size. refl), ((λ size. refl), ((λ size. refl), ((λ size. refl), ((λ size. refl), ((λ size. refl), ((λ size. refl), tt))))))) size

-- ---- bytecodes with nothing beside their byte

abbrev is_bare : Option Operands → Bool
is_bare (Some Nothing) = true
is_bare _ = false

bare_row : (row : Option Operands) → IsTrue (is_bare row) → row ≡ Some Nothing
bare_row None h = absurd cc
bare_row (Some Nothing) h = refl
bare_row (Some Offset) h = absurd cc
bare_row (Some OneByte) h = absurd cc
bare_row (Some TwoBytes) h = absurd cc
bare_row (Some ThreeBytes) h = absurd cc
bare_row (Some SevenBits) h = absurd cc
bare_row (Some Word) h = absurd cc
bare_row (Some Triple) h = absurd cc
bare_row (Some Long) h = absurd cc
bare_row (Some Register) h = absurd cc
bare_row (Some ShortVariable) h = absurd cc
bare_row (Some Variable) h = absurd cc

bare_operators : all_below (λ k. not (is_binary k) || is_bare (operands_of k)) 256 ≡ true
unfolding all_below rows
bare_operators = refl

pub binary_bare : (k : ℕ) → IsTrue (is_binary k) → operands_of k ≡ Some Nothing
binary_bare k h = bare_row (operands_of k) (modus _ _ (all_below-at _ 256 k bare_operators (binary_small k h)) h)

pub unary_bare : (k : ℕ) → IsTrue (is_unary k) → operands_of k ≡ Some Nothing
unfolding rows
unary_bare k h =
    one_of (λ k. operands_of k ≡ Some Nothing) (0xE6 ∷ 0xE7 ∷ 0xE9 ∷ 0xEC ∷ 0xF1 ∷ 0xF3 ∷ 0xF8 ∷ 0xFF ∷ []) k h
    (refl, (refl, (refl, (refl, (refl, (refl, (refl, (refl, tt))))))))

-- ---- bytecodes of variables

abbrev is_memory : Option Operands → Bool
is_memory (Some Variable) = true
is_memory _ = false

memory_row : (row : Option Operands) → IsTrue (is_memory row) → row ≡ Some Variable
memory_row None h = absurd cc
memory_row (Some Nothing) h = absurd cc
memory_row (Some Offset) h = absurd cc
memory_row (Some OneByte) h = absurd cc
memory_row (Some TwoBytes) h = absurd cc
memory_row (Some ThreeBytes) h = absurd cc
memory_row (Some SevenBits) h = absurd cc
memory_row (Some Word) h = absurd cc
memory_row (Some Triple) h = absurd cc
memory_row (Some Long) h = absurd cc
memory_row (Some Register) h = absurd cc
memory_row (Some ShortVariable) h = absurd cc
memory_row (Some Variable) h = refl

memory_rows : all_below (λ k. is_memory (operands_of (0x80 + k))) 0x60 ≡ true
unfolding all_below rows
memory_rows = refl

pub row_from : (k : ℕ) → 0x80 ≤ k → k ≤ 0xDF → operands_of k ≡ Some Variable
row_from k least most =
    let at : IsTrue (is_memory (operands_of (0x80 + (k - 0x80)))) = all_below-at _ 0x60 (k - 0x80) memory_rows (omega (arith, least, most)) in
    let same : 0x80 + (k - 0x80) ≡ k = omega (arith, least) in
    memory_row (operands_of k) (subst (λ k. IsTrue (is_memory (operands_of k))) same at)

abbrev is_short_row : Option Operands → Bool
is_short_row (Some ShortVariable) = true
is_short_row _ = false

short_row : (row : Option Operands) → IsTrue (is_short_row row) → row ≡ Some ShortVariable
short_row None h = absurd cc
short_row (Some Nothing) h = absurd cc
short_row (Some Offset) h = absurd cc
short_row (Some OneByte) h = absurd cc
short_row (Some TwoBytes) h = absurd cc
short_row (Some ThreeBytes) h = absurd cc
short_row (Some SevenBits) h = absurd cc
short_row (Some Word) h = absurd cc
short_row (Some Triple) h = absurd cc
short_row (Some Long) h = absurd cc
short_row (Some Register) h = absurd cc
short_row (Some ShortVariable) h = refl
short_row (Some Variable) h = absurd cc

short_rows : all_below (λ k. is_short_row (operands_of (0x40 + k))) 0x40 ≡ true
unfolding all_below rows
short_rows = refl

pub short_row_from : (k : ℕ) → 0x40 ≤ k → k ≤ 0x7F → operands_of k ≡ Some ShortVariable
short_row_from k least most =
    let at : IsTrue (is_short_row (operands_of (0x40 + (k - 0x40)))) = all_below-at _ 0x40 (k - 0x40) short_rows (omega (arith, least, most)) in
    let same : 0x40 + (k - 0x40) ≡ k = omega (arith, least) in
    short_row (operands_of k) (subst (λ k. IsTrue (is_short_row (operands_of k))) same at)

-- ---- the bytes of registers

abbrev same_bool : Bool → Bool → Bool
same_bool true b = b
same_bool false b = not b

abbrev fits_register : (bits : ℕ) (changed : Bool) → ℕ → Bool
fits_register bits changed k = (is_within 0x90 0x9F (bits + (16 + k)) || is_within 0xB0 0xBF (bits + (16 + k)) || is_within 0xD0 0xDF (bits + (16 + k))) && same_bool (nat_le 0xC0 (bits + (16 + k))) changed

same : (a b : Bool) → IsTrue (same_bool a b) → a ≡ b
same true true h = refl
same true false h = absurd cc
same false true h = absurd cc
same false false h = refl

pub push_registers : all_below (fits_register 0x80 false) 16 ≡ true
unfolding all_below
push_registers = refl

pub pop_registers : all_below (fits_register 0xA0 false) 16 ≡ true
unfolding all_below
pop_registers = refl

pub change_registers : all_below (fits_register 0xC0 true) 16 ≡ true
unfolding all_below
change_registers = refl

or_left : (a b : Bool) → IsTrue a → IsTrue (a || b)
or_left true b h = refl
or_left false b h = absurd cc

pub registers : (bits code n : ℕ) (changed : Bool) → all_below (fits_register bits changed) 16 ≡ true → n - 16 < 16 → 16 ≤ n → IsTrue (is_register code (bits + n)) × (changes_register (bits + n) ≡ changed)
registers bits code n changed all small least =
    let at = all_below-at (fits_register bits changed) 16 (n - 16) all small in
    let is : 16 + (n - 16) ≡ n = omega (arith, least) in
    let there : IsTrue ((is_within 0x90 0x9F (bits + n) || is_within 0xB0 0xBF (bits + n) || is_within 0xD0 0xDF (bits + n)) && same_bool (nat_le 0xC0 (bits + n)) changed) =
    subst (λ m. IsTrue ((is_within 0x90 0x9F (bits + m) || is_within 0xB0 0xBF (bits + m) || is_within 0xD0 0xDF (bits + m)) && same_bool (nat_le 0xC0 (bits + m)) changed)) is at in
    let p = both_true (is_within 0x90 0x9F (bits + n) || is_within 0xB0 0xBF (bits + n) || is_within 0xD0 0xDF (bits + n)) (same_bool (nat_le 0xC0 (bits + n)) changed) there in
    (or_left (is_within 0x90 0x9F (bits + n) || is_within 0xB0 0xBF (bits + n) || is_within 0xD0 0xDF (bits + n)) (code == 0x3F && bits + n == 0x89) p.0, same (nat_le 0xC0 (bits + n)) changed p.1)
