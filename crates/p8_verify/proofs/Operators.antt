-- What operators and instructions of words give is below 2 ^ 32.
use Rattle.std.proofs.Common.{ℕ, ◌-◌, ◌*◌, ◌/◌, ◌%◌, ◌^◌, ◌<◌, ◌==◌, nat_le, min, max, arith, Bool, true, false, if◌then◌else◌, List, [], ◌∷◌, Option, Some}
use Rattle.std.proofs.lemmas.Nat.{pow_below}
use Rattle.p8_words.specs.Words.{highest_one, square_root, reversed}
use Rattle.p8_words.specs.Operators.{truth, is_below, beside, unary_values, binary_values, or_zero, unary_value, binary_value}
use Rattle.p8_alu.specs.declared.effect.Effect.{Effect}
use Rattle.p8_alu.specs.Effects.{with_bits, inverted, rows, line_of, effect_of}
use Rattle.p8_verify.proofs.Words as so
use Rattle.p8_verify.proofs.Words.{if-word}

-- ---- operators

abbrev AreWords : List (ℕ × ℕ) → Type 0
AreWords [] = Unit {0}
AreWords (line ∷ lines) = (line.1 < 2 ^ 32) × AreWords lines

beside-if : (b : Bool) (v : ℕ) (o : Option ℕ) → v < 2 ^ 32 → or_zero o < 2 ^ 32 → or_zero (if b then Some v else o) < 2 ^ 32
beside-if true v o h k = h
beside-if false v o h k = k

beside-word : (operator : ℕ) (lines : List (ℕ × ℕ)) → AreWords lines → or_zero (beside operator lines) < 2 ^ 32
beside-word operator [] are = omega arith
beside-word operator (line ∷ lines) are = beside-if (line.0 == operator) line.1 (beside operator lines) are.0 (beside-word operator lines are.1)

truth-word : (b : Bool) → truth b < 2 ^ 32
truth-word true = omega arith
truth-word false = omega arith

power-word : (a : ℕ) → 2 ^ (a % 32) < 2 ^ 32
power-word a = pow_below (a % 32) 32 (omega arith)

root-word : (a : ℕ) → a < 2 ^ 32 → square_root a < 2 ^ 32
root-word a h = let le = so.greatest-below (λ r. nat_le (r * r) a) a in omega (arith, le, h)

highest-word : (a : ℕ) → highest_one a < 2 ^ 32
highest-word a = let le = so.greatest-below (λ place. a / 2 ^ (place - 1) % 2 == 1) 32 in omega (arith, le)

unary-are : (a : ℕ) → a < 2 ^ 32 → AreWords (unary_values a)
unfolding unary_values
unary-are a h =
    (so.word_of-word _, (omega arith, (so.absolute-word a h, (h, (highest-word a, (power-word a, (root-word a h, (truth-word _, tt))))))))

pub unary-word : (operator a : ℕ) → a < 2 ^ 32 → unary_value operator a < 2 ^ 32
unary-word operator a h = beside-word operator (unary_values a) (unary-are a h)

binary-are : (a b : ℕ) → a < 2 ^ 32 → b < 2 ^ 32 → AreWords (binary_values a b)
unfolding binary_values
binary-are a b h k = (
  so.rotated_right-word a (b % 32) h (omega arith),
  (
    so.rotated_left-word a (b % 32) h (omega arith),
    (
      so.right-word a (b % 32) h,
      (
        so.mod-word _,
        (
          if-word (is_below a b) k h,
          (
            if-word (is_below b a) k h,
            (
              so.and-word a b h,
              (
                so.or-word a b h k,
                (
                  so.xor-word a b h k,
                  (
                    so.mod-word _,
                    (
                      so.word_of-word _,
                      (
                        so.word_of-word _,
                        (
                          so.right-word (reversed a) _ (so.reversed-word a),
                          (
                            truth-word _,
                            (
                              truth-word _,
                              (
                                so.mod-word _,
                                (
                                  so.word_of-word _,
                                  (
                                    if-word (b == 0) (omega arith) (so.word_of-word _),
                                    (
                                      if-word (b == 0) (omega arith) (so.word_of-word _),
                                      (truth-word _, (truth-word _, (truth-word _, (truth-word _, (truth-word _, (truth-word _, tt)))))),
                                    ),
                                  ),
                                ),
                              ),
                            ),
                          ),
                        ),
                      ),
                    ),
                  ),
                ),
              ),
            ),
          ),
        ),
      ),
    ),
  ),
)

pub binary-word : (operator a b : ℕ) → a < 2 ^ 32 → b < 2 ^ 32 → binary_value operator a b < 2 ^ 32
binary-word operator a b h k = beside-word operator (binary_values a b) (binary-are a b h k)

-- ---- instructions

abbrev HaveWords : List (ℕ × Effect) → Type 0
HaveWords [] = Unit {0}
HaveWords (line ∷ lines) = (line.1.result < 2 ^ 32) × HaveWords lines

line-if : (b : Bool) (x y : Effect) → x.result < 2 ^ 32 → y.result < 2 ^ 32 → (if b then x else y).result < 2 ^ 32
line-if true x y h k = h
line-if false x y h k = k

line-word : (opcode : ℕ) (lines : List (ℕ × Effect)) → HaveWords lines → (line_of opcode lines).result < 2 ^ 32
line-word opcode [] are = omega arith
line-word opcode (line ∷ lines) are = line-if (line.0 == opcode) line.1 (line_of opcode lines) are.0 (line-word opcode lines are.1)

bits-word : (a s : ℕ) → a < 2 ^ 32 → with_bits a 8 0 s < 2 ^ 32
bits-word a s h = omega (arith, h)

middle-word : (a s : ℕ) → a < 2 ^ 32 → with_bits a 17 9 s < 2 ^ 32
middle-word a s h = omega (arith, h)

upper-word : (a s : ℕ) → a < 2 ^ 32 → with_bits a 31 23 s < 2 ^ 32
upper-word a s h = omega (arith, h)

max-word : (a b : ℕ) → a < 2 ^ 32 → b < 2 ^ 32 → max a b < 2 ^ 32
max-word a b h k = omega (arith, h, k)

min-word : (a b : ℕ) → a < 2 ^ 32 → b < 2 ^ 32 → min a b < 2 ^ 32
min-word a b h k = omega (arith, h, k)

less-word : (a b : ℕ) → a < 2 ^ 32 → a - b < 2 ^ 32
less-word a b h = omega (arith, h)

rows-are : (d s : ℕ) (c z : Bool) (next : ℕ) → d < 2 ^ 32 → s < 2 ^ 32 → HaveWords (rows d s c z next)
unfolding rows
rows-are d s c z next h k = (
  so.rotated_right-word d (s % 32) h (omega arith),
  (
    so.rotated_left-word d (s % 32) h (omega arith),
    (
      so.right-word d (s % 32) h,
      (
        so.mod-word _,
        (
          so.right_filling-word d (s % 32) c h
              (omega arith),
          (
            so.left_filling-word d (s % 32) c (omega arith),
            (
              so.word_of-word _,
              (
                so.right-word (reversed d) _ (so.reversed-word d),
                (
                  if-word _ k h,
                  (
                    if-word _ h k,
                    (
                      max-word d s h k,
                      (
                        min-word d s h k,
                        (
                          bits-word d s h,
                          (
                            middle-word d s h,
                            (
                              upper-word d s h,
                              (
                                bits-word d next h,
                                (
                                  so.and-word d s h,
                                  (
                                    so.and-word d (inverted s) h,
                                    (
                                      so.or-word d s h k,
                                      (
                                        so.xor-word d s h k,
                                        (
                                          if-word _ (so.or-word d s h k) (so.and-word d (inverted s) h),
                                          (
                                            if-word _ (so.or-word d s h k) (so.and-word d (inverted s) h),
                                            (
                                              if-word _ (so.or-word d s h k) (so.and-word d (inverted s) h),
                                              (
                                                if-word _ (so.or-word d s h k) (so.and-word d (inverted s) h),
                                                (
                                                  so.mod-word _,
                                                  (
                                                    so.word_of-word _,
                                                    (
                                                      so.mod-word _,
                                                      (
                                                        so.word_of-word _,
                                                        (
                                                          so.word_of-word _,
                                                          (
                                                            so.word_of-word _,
                                                            (
                                                              so.word_of-word _,
                                                              (
                                                                so.word_of-word _,
                                                                (
                                                                  k,
                                                                  (
                                                                    so.word_of-word _,
                                                                    (
                                                                      so.absolute-word s k,
                                                                      (
                                                                        so.word_of-word _,
                                                                        (
                                                                          if-word _ (so.word_of-word _) k,
                                                                          (
                                                                            if-word _ (so.word_of-word _) k,
                                                                            (
                                                                              if-word _ (so.word_of-word _) k,
                                                                              (
                                                                                if-word _ (so.word_of-word _) k,
                                                                                (
                                                                                  so.word_of-word _,
                                                                                  (
                                                                                    so.word_of-word _,
                                                                                    (
                                                                                      so.mod-word _,
                                                                                      (
                                                                                        so.word_of-word _,
                                                                                        (
                                                                                          so.word_of-word _,
                                                                                          (
                                                                                            so.word_of-word _,
                                                                                            (
                                                                                              so.word_of-word _,
                                                                                              (
                                                                                                so.word_of-word _,
                                                                                                (
                                                                                                  if-word _ (less-word d s h) h,
                                                                                                  (so.word_of-word _, (h, (h, tt))),
                                                                                                ),
                                                                                              ),
                                                                                            ),
                                                                                          ),
                                                                                        ),
                                                                                      ),
                                                                                    ),
                                                                                  ),
                                                                                ),
                                                                              ),
                                                                            ),
                                                                          ),
                                                                        ),
                                                                      ),
                                                                    ),
                                                                  ),
                                                                ),
                                                              ),
                                                            ),
                                                          ),
                                                        ),
                                                      ),
                                                    ),
                                                  ),
                                                ),
                                              ),
                                            ),
                                          ),
                                        ),
                                      ),
                                    ),
                                  ),
                                ),
                              ),
                            ),
                          ),
                        ),
                      ),
                    ),
                  ),
                ),
              ),
            ),
          ),
        ),
      ),
    ),
  ),
)

pub effect-word : (opcode d s : ℕ) (c z : Bool) (next : ℕ) → d < 2 ^ 32 → s < 2 ^ 32 → (effect_of opcode d s c z next).result < 2 ^ 32
effect-word opcode d s c z next h k = line-word opcode (rows d s c z next) (rows-are d s c z next h k)
