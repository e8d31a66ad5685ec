-- Each opcode below 64 has a word, whether it writes its result or not.
use Rattle.std.proofs.Common.{◌≡◌, ℕ, zero, suc, ◌<◌, Bool, true, false, ◌&&◌, inl, inr, Option, Some, None, List, is_some, option_copied, refl, sym, ap, ◌∙◌, arith, Bor}
use Rattle.std.proofs.lemmas.Bool.{cases_eq}
use Rattle.p8_instr.specs.Mnemonics.{mnemonics, word_where, is_named_by}

all_below : (ℕ → Bool) → ℕ → Bool
all_below test zero = true
all_below test (suc n) = test n && all_below test n

both : (a b : Bool) → (a && b) ≡ true → (a ≡ true) × (b ≡ true)
both true b h = (refl, h)
both false b h = absurd (cc)

all_below-at : (test : ℕ → Bool) (n k : ℕ) → all_below test n ≡ true → k < n → test k ≡ true
unfolding all_below
all_below-at test zero k h within = absurd (omega arith)
all_below-at test (suc n) k h within =
    let p = both (test n) (all_below test n) h in
    elim (cases_eq k n) [
      | inl same ↦ ap test same ∙ p.0
      | inr other ↦ all_below-at test n k p.1 (omega arith)
    ]

all_named : (writes : Bool) → all_below (λ opcode. is_some (word_where (is_named_by opcode writes) mnemonics)) 64 ≡ true
unfolding all_below mnemonics
all_named true = refl
all_named false = refl

is_some-copied : (name : Option (Bor (List ℕ))) → is_some (option_copied name) ≡ is_some name
is_some-copied None = refl
is_some-copied (Some x) = refl

pub named_below : (opcode : ℕ) (writes : Bool) (name : Option (Bor (List ℕ)))
    → option_copied name ≡ word_where (is_named_by opcode writes) mnemonics → opcode < 64 → is_some name ≡ true
named_below opcode writes name value within =
    sym (is_some-copied name) ∙ ap is_some value ∙ all_below-at _ 64 opcode (all_named writes) within
