-- The fields of an instruction, put together by shifts and `|`, are their sum.
use Rattle.std.proofs.Common.{◌≡◌, ℕ, ◌+◌, ◌*◌, ◌%◌, ◌^◌, ◌<◌, bit_or, ap, sym, ◌∙◌, refl, arith}
use Rattle.std.proofs.lemmas.Nat.{or_shifted}
use Rattle.p8_instr.specs.declared.instruction.Instr.{Instr}
use Rattle.p8_instr.specs.Instruction.{instr_of, long_of, FitsFields}

-- a number whose lowest k bits are 0 and one that has no others share no bit
or-below : (v k b high : ℕ) → v ≡ high * 2 ^ k → b < 2 ^ k → bit_or v b ≡ v + b
or-below v k b high e h = ap (λ x. bit_or x b) e ∙ or_shifted high k b h ∙ ap (λ x. x + b) (sym e)

-- the fields in their places, joined by `|`
abbrev pub packed : ℕ → ℕ → ℕ → ℕ → ℕ → ℕ
packed a b c d e =
    bit_or (bit_or (bit_or (bit_or (a * 2 ^ 26 % 2 ^ 32) (b * 2 ^ 22 % 2 ^ 32)) (c * 2 ^ 18 % 2 ^ 32)) (d * 2 ^ 9 % 2 ^ 32)) e

pub packed-fields : (a b c d e : ℕ) → a < 64 → b < 16 → c < 16 → d < 512 → e < 512
    → packed a b c d e ≡ a * 2 ^ 26 + b * 2 ^ 22 + c * 2 ^ 18 + d * 2 ^ 9 + e
packed-fields a b c d e ha hb hc hd he =
    let first : a * 2 ^ 26 % 2 ^ 32 ≡ a * 2 ^ 26 = omega arith in
    let second : b * 2 ^ 22 % 2 ^ 32 ≡ b * 2 ^ 22 = omega arith in
    let third : c * 2 ^ 18 % 2 ^ 32 ≡ c * 2 ^ 18 = omega arith in
    let fourth : d * 2 ^ 9 % 2 ^ 32 ≡ d * 2 ^ 9 = omega arith in
    let two : bit_or (a * 2 ^ 26) (b * 2 ^ 22) ≡ a * 2 ^ 26 + b * 2 ^ 22 =
    or-below (a * 2 ^ 26) 26 (b * 2 ^ 22) a refl (omega arith) in
    let three : bit_or (a * 2 ^ 26 + b * 2 ^ 22) (c * 2 ^ 18) ≡ a * 2 ^ 26 + b * 2 ^ 22 + c * 2 ^ 18 =
    or-below (a * 2 ^ 26 + b * 2 ^ 22) 22 (c * 2 ^ 18) (a * 16 + b) (omega arith) (omega arith) in
    let four : bit_or (a * 2 ^ 26 + b * 2 ^ 22 + c * 2 ^ 18) (d * 2 ^ 9) ≡ a * 2 ^ 26 + b * 2 ^ 22 + c * 2 ^ 18 + d * 2 ^ 9 =
    or-below (a * 2 ^ 26 + b * 2 ^ 22 + c * 2 ^ 18) 18 (d * 2 ^ 9) ((a * 16 + b) * 16 + c) (omega arith) (omega arith) in
    let five : bit_or (a * 2 ^ 26 + b * 2 ^ 22 + c * 2 ^ 18 + d * 2 ^ 9) e ≡ a * 2 ^ 26 + b * 2 ^ 22 + c * 2 ^ 18 + d * 2 ^ 9 + e =
    or-below (a * 2 ^ 26 + b * 2 ^ 22 + c * 2 ^ 18 + d * 2 ^ 9) 9 e (((a * 16 + b) * 16 + c) * 512 + d) (omega arith) he in
    simp (first, second, third, fourth, two, three, four, five)

pub encoded : (i : Instr) → FitsFields i → (a b c d e : ℕ) → a ≡ i.opcode → b ≡ i.flags → c ≡ i.cond → d ≡ i.dest → e ≡ i.source
    → packed a b c d e ≡ long_of i
encoded i fits a b c d e ea eb ec ed ee =
    rw (ea, eb, ec, ed, ee) (packed-fields i.opcode i.flags i.cond i.dest i.source fits.opcode fits.flags fits.cond fits.dest fits.source)

pub instr_of-long_of : (i : Instr) → FitsFields i → instr_of (long_of i) ≡ i
instr_of-long_of i fits =
    let opcode : (instr_of (long_of i)).opcode ≡ i.opcode = omega arith in
    let flags : (instr_of (long_of i)).flags ≡ i.flags = omega arith in
    let cond : (instr_of (long_of i)).cond ≡ i.cond = omega arith in
    let dest : (instr_of (long_of i)).dest ≡ i.dest = omega arith in
    let source : (instr_of (long_of i)).source ≡ i.source = omega arith in
    λ k. record { opcode = opcode k; flags = flags k; cond = cond k; dest = dest k; source = source k }
