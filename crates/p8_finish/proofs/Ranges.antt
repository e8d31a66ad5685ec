-- Lists that are made number by number.
use Rattle.std.proofs.Common.{◌≡◌, ℕ, suc, ◌+◌, ◌*◌, List, [], ◌∷◌, ◌++◌, map, replicate, refl, sym, ap, ◌∙◌, append_assoc, append-nil, arith}
use Rattle.std.specs.List.{range_with_len}
use Rattle.std.proofs.lemmas.List.FromFn.{map-range_with_len_more}
use Rattle.p8_instr.specs.Instruction.{long_of}
use Rattle.p8_finish.specs.Made.{after, number, made_instr, instr_longs, first_longs, made_longs}

-- one more element
pub map_step : (f : ℕ → ℕ) (n : ℕ) (old before now : List ℕ) → before ≡ old ++ map f (range_with_len 0 n) → now ≡ before ++ f n ∷ [] → now ≡ old ++ map f (range_with_len 0 (n + 1))
map_step f n old before now so_far more =
    more ∙ ap (λ (xs : List ℕ). xs ++ f n ∷ []) so_far ∙ append_assoc old (map f (range_with_len 0 n)) (f n ∷ []) ∙ ap (λ (xs : List ℕ). old ++ xs) (sym (map-range_with_len_more f 0 n n (omega arith)))

-- no instruction, and one more
pub no_instrs : (seed : ℕ) (old : List ℕ) → old ≡ old ++ instr_longs seed 0
unfolding instr_longs
no_instrs seed old = sym (append-nil old)

pub instr_step : (seed n : ℕ) (old before now : List ℕ) → before ≡ old ++ instr_longs seed n → now ≡ before ++ long_of (made_instr (number seed (n + 1))) ∷ [] → now ≡ old ++ instr_longs seed (n + 1)
unfolding instr_longs
instr_step seed n = map_step (λ (i : ℕ). long_of (made_instr (number seed (i + 1)))) n

-- number 0, and one more
pub number_none : (seed : ℕ) → seed ≡ number seed 0
unfolding number
number_none seed = refl

pub number_step : (seed n k last next : ℕ) → last ≡ number seed n → next ≡ after last → k ≡ suc n → next ≡ number seed k
unfolding number
number_step seed n k last next is more e = more ∙ ap after is ∙ ap (number seed) (sym e)

-- parts that are appended one after the other; the jump and the zeros are one part
joined : (first instrs jump zeros addresses values a b c d e f : List ℕ)
    → a ≡ first → b ≡ a ++ instrs → c ≡ b ++ jump → d ≡ c ++ zeros → e ≡ d ++ addresses → f ≡ e ++ values
    → f ≡ first ++ instrs ++ (jump ++ zeros) ++ addresses ++ values
joined first instrs jump zeros addresses values a b c d e f is_a is_b is_c is_d is_e is_f =
    let to_b : b ≡ first ++ instrs = is_b ∙ ap (λ (xs : List ℕ). xs ++ instrs) is_a in
    let to_d : d ≡ b ++ (jump ++ zeros) = is_d ∙ ap (λ (xs : List ℕ). xs ++ zeros) is_c ∙ append_assoc b jump zeros in
    let from_b : d ≡ first ++ instrs ++ (jump ++ zeros) = to_d ∙ ap (λ (xs : List ℕ). xs ++ (jump ++ zeros)) to_b in
    is_f ∙ ap (λ (xs : List ℕ). xs ++ values) (is_e ∙ ap (λ (xs : List ℕ). xs ++ addresses) from_b)

pub made_whole : (seed : ℕ) (a b c d e f : List ℕ)
    → a ≡ first_longs
    → b ≡ a ++ instr_longs seed 400
    → c ≡ b ++ 1551630336 ∷ []
    → d ≡ c ++ replicate {A = ℕ} 63 0
    → e ≡ d ++ map (λ (j : ℕ). 4096 + 4 * j) (range_with_len 0 16)
    → f ≡ e ++ map (λ (j : ℕ). number seed (401 + j)) (range_with_len 0 16)
    → f ≡ made_longs seed
unfolding made_longs
made_whole seed = joined first_longs (instr_longs seed 400) (1551630336 ∷ []) (replicate {A = ℕ} 63 0) (map (λ (j : ℕ). 4096 + 4 * j) (range_with_len 0 16)) (map (λ (j : ℕ). number seed (401 + j)) (range_with_len 0 16))
