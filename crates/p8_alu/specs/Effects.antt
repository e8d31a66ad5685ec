-- What each instruction of the opcodes 8 to 59 gives: its result and the flags C and Z, before the instruction's own bits say which of them are
-- written. D is the destination's value, S the source's, C and Z are the flags before, and `next` is the address after the instruction's.
-- Source of the results: the Propeller Manual v1.2, assembly chapter; of the flags: this project's profile.
use Rattle.std.specs.Prelude.{ℕ, ◌+◌, ◌-◌, ◌*◌, ◌/◌, ◌%◌, ◌^◌, min, max, Bool, false, not, ◌&&◌, ◌||◌, ℤ, pos, ◌+ℤ◌, ◌-ℤ◌, neg_ℤ, unsigned_abs}
use Rattle.std.specs.Prelude.{int_lt, nat_lt, nat_le, ◌==◌, if◌then◌else◌, bit_and, bit_or, bit_xor, List, [], ◌∷◌}
use Rattle.std.specs.Int.{from_bool}
use Rattle.p8_words.specs.Operators.{is_below}
use Rattle.p8_words.specs.Words.{word_of, signed_value, shifted_left, shifted_right, shifted_right_signed, rotated_left, rotated_right, reversed, has_odd_ones}
use Rattle.p8_alu.specs.declared.effect.Effect.{Effect}

-- ---- the words of the table

-- whether bit k of a is 1
abbrev pub is_set : ℕ → ℕ → Bool
is_set a k = a / 2 ^ k % 2 == 1

-- a shifted by n places, with the flag in every freed bit
abbrev pub shifted_right_filling : ℕ → ℕ → Bool → ℕ
shifted_right_filling a n flag = shifted_right a n + (if flag then 2 ^ 32 - 2 ^ (32 - n) else 0)

abbrev pub shifted_left_filling : ℕ → ℕ → Bool → ℕ
shifted_left_filling a n flag = shifted_left a n + (if flag then 2 ^ n - 1 else 0)

-- a with its bits `high` to `low` replaced by the lowest bits of b
abbrev pub with_bits : ℕ → ℕ → ℕ → ℕ → ℕ
with_bits a high low b = a / 2 ^ (high + 1) * 2 ^ (high + 1) + b % 2 ^ (high + 1 - low) * 2 ^ low + a % 2 ^ low

-- every bit the other way
abbrev pub inverted : ℕ → ℕ
inverted a = 2 ^ 32 - 1 - a

-- the absolute value of the signed reading; of 2 ^ 31, which reads as -2 ^ 31, it is 2 ^ 31
abbrev pub absolute : ℕ → ℕ
absolute a = unsigned_abs (signed_value a)

abbrev pub difference : ℕ → ℕ → ℕ
difference a b = word_of (pos a -ℤ pos b)

abbrev pub negated : ℕ → ℕ
negated a = word_of (neg_ℤ (pos a))

-- a whole number is no signed word
abbrev pub overflows : ℤ → Bool
overflows z = int_lt z (neg_ℤ (pos (2 ^ 31))) || int_lt (pos (2 ^ 31 - 1)) z

-- ---- what an instruction gives

-- a result and C, with Z where the result is 0
abbrev pub plain_effect : ℕ → Bool → Effect
plain_effect r carry = record { result = r; c = carry; z = r == 0 }

-- a result, with C where D is below S and Z where they are equal
abbrev pub comparison_effect : ℕ → Bool → Bool → Effect
comparison_effect r below equal = record { result = r; c = below; z = equal }

-- the bits of a result, with their parity as C
abbrev pub bits_effect : ℕ → Effect
bits_effect r = plain_effect r (has_odd_ones r)

-- a whole sum as a word, with C as the carry
abbrev pub sum_effect : ℕ → Effect
sum_effect whole = plain_effect (whole % 2 ^ 32) (nat_le (2 ^ 32) whole)

-- the difference of two whole numbers as a word, with C as the borrow
abbrev pub difference_effect : ℕ → ℕ → Effect
difference_effect a b = plain_effect (difference a b) (nat_lt a b)

-- a whole signed number as a word, with C as the signed overflow
abbrev pub signed_effect : ℤ → Effect
signed_effect whole = plain_effect (word_of whole) (overflows whole)

-- D - S - C as a word, with C where D is below S + C, as whole numbers by the signed readings of D and S
abbrev pub extended_comparison_effect : ℕ → ℕ → Bool → Effect
extended_comparison_effect d s c =
    plain_effect (difference d (s + from_bool c)) (int_lt (signed_value d) (signed_value s +ℤ pos (from_bool c)))

-- "Z kept": the old Z, and the result is 0
abbrev pub z_kept : Bool → Effect → Effect
z_kept old e = record e { z = old && e.z }

-- ---- the table: one line for each opcode

unfoldable pub rows : ℕ → ℕ → Bool → Bool → ℕ → List (ℕ × Effect)
rows d s c z next =
    -- ROR, ROL, SHR, SHL
    (8, plain_effect (rotated_right d (s % 32)) (is_set d 0)) ∷
    (9, plain_effect (rotated_left d (s % 32)) (is_set d 31)) ∷
    (10, plain_effect (shifted_right d (s % 32)) (is_set d 0)) ∷
    (11, plain_effect (shifted_left d (s % 32)) (is_set d 31)) ∷
    -- RCR, RCL, SAR, REV
    (12, plain_effect (shifted_right_filling d (s % 32) c) (is_set d 0)) ∷
    (13, plain_effect (shifted_left_filling d (s % 32) c) (is_set d 31)) ∷
    (14, plain_effect (shifted_right_signed d (s % 32)) (is_set d 0)) ∷
    (15, plain_effect (shifted_right (reversed d) (s % 32)) (is_set d 0)) ∷
    -- MINS, MAXS, MIN, MAX
    (16, comparison_effect (if is_below d s then s else d) (is_below d s) (d == s)) ∷
    (17, comparison_effect (if is_below d s then d else s) (is_below d s) (d == s)) ∷
    (18, comparison_effect (max d s) (nat_lt d s) (d == s)) ∷
    (19, comparison_effect (min d s) (nat_lt d s) (d == s)) ∷
    -- MOVS, MOVD, MOVI, JMPRET
    (20, plain_effect (with_bits d 8 0 s) false) ∷
    (21, plain_effect (with_bits d 17 9 s) false) ∷
    (22, plain_effect (with_bits d 31 23 s) false) ∷
    (23, plain_effect (with_bits d 8 0 next) false) ∷
    -- AND, ANDN, OR, XOR
    (24, bits_effect (bit_and d s)) ∷
    (25, bits_effect (bit_and d (inverted s))) ∷
    (26, bits_effect (bit_or d s)) ∷
    (27, bits_effect (bit_xor d s)) ∷
    -- MUXC, MUXNC, MUXZ, MUXNZ
    (28, bits_effect (if c then bit_or d s else bit_and d (inverted s))) ∷
    (29, bits_effect (if not c then bit_or d s else bit_and d (inverted s))) ∷
    (30, bits_effect (if z then bit_or d s else bit_and d (inverted s))) ∷
    (31, bits_effect (if not z then bit_or d s else bit_and d (inverted s))) ∷
    -- ADD, SUB, ADDABS, SUBABS
    (32, sum_effect (d + s)) ∷
    (33, difference_effect d s) ∷
    (34, sum_effect (d + absolute s)) ∷
    (35, difference_effect d (absolute s)) ∷
    -- SUMC, SUMNC, SUMZ, SUMNZ
    (36, signed_effect (if c then signed_value d -ℤ signed_value s else signed_value d +ℤ signed_value s)) ∷
    (37, signed_effect (if not c then signed_value d -ℤ signed_value s else signed_value d +ℤ signed_value s)) ∷
    (38, signed_effect (if z then signed_value d -ℤ signed_value s else signed_value d +ℤ signed_value s)) ∷
    (39, signed_effect (if not z then signed_value d -ℤ signed_value s else signed_value d +ℤ signed_value s)) ∷
    -- MOV, NEG, ABS, ABSNEG
    (40, plain_effect s (is_set s 31)) ∷
    (41, plain_effect (negated s) (is_set s 31)) ∷
    (42, plain_effect (absolute s) (is_set s 31)) ∷
    (43, plain_effect (negated (absolute s)) (is_set s 31)) ∷
    -- NEGC, NEGNC, NEGZ, NEGNZ
    (44, plain_effect (if c then negated s else s) (is_set s 31)) ∷
    (45, plain_effect (if not c then negated s else s) (is_set s 31)) ∷
    (46, plain_effect (if z then negated s else s) (is_set s 31)) ∷
    (47, plain_effect (if not z then negated s else s) (is_set s 31)) ∷
    -- CMPS, CMPSX
    (48, plain_effect (difference d s) (is_below d s)) ∷
    (49, z_kept z (extended_comparison_effect d s c)) ∷
    -- ADDX, SUBX, ADDS, SUBS, ADDSX, SUBSX
    (50, z_kept z (sum_effect (d + s + from_bool c))) ∷
    (51, z_kept z (difference_effect d (s + from_bool c))) ∷
    (52, signed_effect (signed_value d +ℤ signed_value s)) ∷
    (53, signed_effect (signed_value d -ℤ signed_value s)) ∷
    (54, z_kept z (signed_effect (signed_value d +ℤ signed_value s +ℤ pos (from_bool c)))) ∷
    (55, z_kept z (signed_effect (signed_value d -ℤ signed_value s -ℤ pos (from_bool c)))) ∷
    -- CMPSUB
    (56, plain_effect (if nat_le s d then d - s else d) (nat_le s d)) ∷
    -- DJNZ, TJNZ, TJZ
    (57, plain_effect (difference d 1) (d == 0)) ∷
    (58, plain_effect d false) ∷
    (59, plain_effect d false) ∷
    []

-- the line of an opcode; a halting or hub opcode has none
abbrev pub line_of : ℕ → List (ℕ × Effect) → Effect
line_of opcode [] = record { result = 0; c = false; z = false }
line_of opcode (line ∷ lines) = if line.0 == opcode then line.1 else line_of opcode lines

-- what the instruction of an opcode gives
abbrev pub effect_of : ℕ → ℕ → ℕ → Bool → Bool → ℕ → Effect
effect_of opcode d s c z next = line_of opcode (rows d s c z next)
