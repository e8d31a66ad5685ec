-- How many longs and bytes an image has.
use Rattle.std.proofs.Common.{◌≡◌, ℕ, ◌+◌, ◌*◌, List, [], ◌∷◌, ◌++◌, length, map, flat_map, replicate, refl, ap, ◌∙◌, arith}
use Rattle.std.specs.Int.{to_le_bytes, w32}
use Rattle.std.specs.List.{range_with_len}
use Rattle.std.proofs.lemmas.List.{length-append}
use Rattle.std.proofs.lemmas.List.FromFn.{length-map-range_with_len}
use Rattle.p8_instr.specs.Instruction.{long_of}
use Rattle.p8_finish.specs.Made.{number, made_instr, instr_longs, first_longs, made_longs, made_bytes}

-- four bytes a long
four_each : (longs : List ℕ) → length (flat_map (to_le_bytes w32) longs) ≡ 4 * length longs
four_each [] = refl
four_each (long ∷ longs) = omega (arith, four_each longs)

-- a long an instruction
instr_count : (seed count : ℕ) → length (instr_longs seed count) ≡ count
unfolding instr_longs
instr_count seed count = length-map-range_with_len (λ (i : ℕ). long_of (made_instr (number seed (i + 1)))) 0 count

-- five parts, one after the other
joined_length : (a b c d e : List ℕ) → length (a ++ b ++ c ++ d ++ e) ≡ length a + length b + length c + length d + length e
joined_length a b c d e = simp length-append

-- the longs of an image, and its bytes
long_count : (seed : ℕ) → length (made_longs seed) ≡ 504
unfolding made_longs
long_count seed =
    joined_length first_longs (instr_longs seed 400) (1551630336 ∷ replicate {A = ℕ} 63 0) (map (λ (j : ℕ). 4096 + 4 * j) (range_with_len 0 16)) (map (λ (j : ℕ). number seed (401 + j)) (range_with_len 0 16)) ∙ ap (λ (n : ℕ). 8 + n + 64 + 16 + 16) (instr_count seed 400)

pub image_length : (seed : ℕ) (bytes : List ℕ) → bytes ≡ made_bytes seed → length bytes ≡ 2016
image_length seed bytes is = ap length is ∙ four_each (made_longs seed) ∙ ap (λ (n : ℕ). 4 * n) (long_count seed)
