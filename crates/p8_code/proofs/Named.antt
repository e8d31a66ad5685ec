-- Which bytes have names.
use Rattle.std.proofs.Common.{◌≡◌, ◌∙◌, ℕ, zero, suc, ◌<◌, Bool, true, false, ◌&&◌, inl, inr, refl, ap, arith}
use Rattle.std.specs.Prelude.{is_some}
use Rattle.std.proofs.lemmas.Bool.{cases_eq}
use Rattle.p8_bytecode.specs.Table.{operands_of, rows}
use Rattle.p8_code.specs.Bytecodes.{bytecode_name, names}
use Rattle.p8_code.specs.Laws.{IsNamed, has_text}

all_below : (ℕ → Bool) → ℕ → Bool
all_below test zero = true
all_below test (suc n) = test n && all_below test n

both : (a b : Bool) → (a && b) ≡ true → (a ≡ true) × (b ≡ true)
both true b h = (refl, h)
both false b h = absurd (cc)

all_below-at : (test : ℕ → Bool) (n k : ℕ) → all_below test n ≡ true → k < n → test k ≡ true
unfolding all_below
all_below-at test zero k h within = absurd (omega arith)
all_below-at test (suc n) k h within =
    let p = both (test n) (all_below test n) h in
    elim (cases_eq k n) [
      | inl same ↦ ap test same ∙ p.0
      | inr other ↦ all_below-at test n k p.1 (omega arith)
    ]

same : Bool → Bool → Bool
same true b = b
same false true = false
same false false = true

same-is : (a b : Bool) → same a b ≡ true → a ≡ b
unfolding same
same-is true true h = refl
same-is true false h = absurd (cc)
same-is false true h = absurd (cc)
same-is false false h = refl

all-named : all_below (λ code. same (has_text (bytecode_name code)) (is_some (operands_of code))) 256 ≡ true
unfolding all_below same names rows
all-named = refl

pub named-below : (code : ℕ) → code < 256 → IsNamed code
named-below code within = same-is (has_text (bytecode_name code)) (is_some (operands_of code)) (all_below-at _ 256 code all-named within)
