-- A pin that no cog drives has the level of the script.
use Rattle.std.proofs.Common.{◌≡◌, ◌∙◌, ap, sym, refl, ℕ, zero, suc, ◌-◌, ◌^◌, ◌==◌, ◌<◌, false, List, [], ◌∷◌, max, bit_and, bit_xor, arith}
use Rattle.std.specs.Int.{bit_at}
use Rattle.std.proofs.lemmas.Nat.Bits.{bit_at_and, bit_at_or, bit_at_xor, bit_at_ones, bit_at-lt}
use Rattle.p8_access.specs.declared.order.Turn.{Turn}
use Rattle.p8_access.specs.Worlds.{World, level_at}
use Rattle.p8_access.specs.Hub.{cogs}
use Rattle.p8_access.specs.Pins.{or_all, outa_of, dira_of, dira, outputs, pins_with}
use Rattle.p8_pins.specs.Levels.{by, is_high, high_at, pins_when}

-- where no direction has a bit, no driven output has it
none-driven : (outa dira : ℕ → ℕ) (pin : ℕ) (ns : List ℕ) → bit_at (or_all dira ns) pin ≡ 0 → bit_at (or_all (λ n. bit_and (outa n) (dira n)) ns) pin ≡ 0
none-driven outa dira pin [] none = none
none-driven outa dira pin (n ∷ ns) none =
    let both : max (bit_at (dira n) pin) (bit_at (or_all dira ns) pin) ≡ 0 = sym (bit_at_or (dira n) (or_all dira ns) pin) ∙ none in
    let driven : bit_at (bit_and (outa n) (dira n)) pin ≡ 0 = bit_at_and (outa n) (dira n) pin ∙ omega (arith, both) in
    let others : bit_at (or_all (λ n. bit_and (outa n) (dira n)) ns) pin ≡ 0 = none-driven outa dira pin ns (omega (arith, both)) in
    bit_at_or (bit_and (outa n) (dira n)) (or_all (λ n. bit_and (outa n) (dira n)) ns) pin ∙ omega (arith, driven, others)

no-output : (past : List Turn) (pin : ℕ) → bit_at (dira past) pin ≡ 0 → bit_at (outputs past) pin ≡ 0
unfolding dira outputs
no-output past pin none = none-driven (outa_of past) (dira_of past) pin cogs none

not-one : (x : ℕ) → x < 2 → (x == 1) ≡ false → x ≡ 0
not-one zero less e = refl
not-one (suc zero) less e = (cc)
not-one (suc (suc x)) less e = absurd (omega (arith, less))

input-bit : (directions outs levels pin : ℕ) → pin < 32 → bit_at directions pin ≡ 0 → bit_at outs pin ≡ 0 → bit_at (pins_with directions outs levels) pin ≡ bit_at levels pin
input-bit directions outs levels pin one none low =
    let free : bit_at (bit_xor directions (2 ^ 32 - 1)) pin ≡ 1 = bit_at_xor directions (2 ^ 32 - 1) pin ∙ omega (arith, none, bit_at_ones 32 pin one) in
    let level : bit_at (bit_and levels (bit_xor directions (2 ^ 32 - 1))) pin ≡ bit_at levels pin = bit_at_and levels (bit_xor directions (2 ^ 32 - 1)) pin ∙ omega (arith, free, bit_at-lt levels pin) in
    bit_at_or outs (bit_and levels (bit_xor directions (2 ^ 32 - 1))) pin ∙ omega (arith, low, level)

pub input-level : (w : World) (past : List Turn) (pin t : ℕ) → pin < 32 → is_high pin (dira (by past t)) ≡ false → high_at w past pin t ≡ is_high pin (level_at w.script t)
unfolding is_high pins_when
input-level w past pin t one input =
    let none : bit_at (dira (by past t)) pin ≡ 0 = not-one (bit_at (dira (by past t)) pin) (bit_at-lt (dira (by past t)) pin) input in
    ap (λ (b : ℕ). b == 1) (input-bit (dira (by past t)) (outputs (by past t)) (level_at w.script t) pin one none (no-output (by past t) pin none))
