-- The sum of the longs, long by long.
use Rattle.std.proofs.Common.{◌≡◌, ℕ, ◌+◌, ◌*◌, ◌%◌, ◌^◌, List, map, sym, ap, ◌∙◌, arith}
use Rattle.std.specs.List.{range_with_len, sum}
use Rattle.std.proofs.Math.Nat.{mod-add-mod}
use Rattle.std.proofs.lemmas.List.FromFn.{sum_by-map-range_with_len_more}
use Rattle.p8_access.specs.declared.kinds.Width.TheVariants.{Long}
use Rattle.p8_access.specs.declared.order.Turn.{Turn}
use Rattle.p8_access.specs.Worlds.{World}
use Rattle.p8_access.specs.Hub.{value_at}
use Rattle.p8_finish.specs.Summary.{sum_of_words}

-- one more number
pub sum_step : (f : ℕ → ℕ) (n before more after : ℕ) → before ≡ sum (map f (range_with_len 0 n)) % 2 ^ 32 → more ≡ f n → after ≡ (before + more) % 2 ^ 32 → after ≡ sum (map f (range_with_len 0 (n + 1))) % 2 ^ 32
sum_step f n before more after so_far is adds =
    let so_many = sum (map f (range_with_len 0 n)) in
    adds
    ∙ ap (λ (m : ℕ). (m + more) % 2 ^ 32) so_far
    ∙ mod-add-mod so_many (2 ^ 32) more
    ∙ ap (λ (m : ℕ). (so_many + m) % 2 ^ 32) is
    ∙ ap (λ (m : ℕ). m % 2 ^ 32) (sym (sum_by-map-range_with_len_more (λ (x : ℕ). x) f 0 n n (omega arith)))

-- all of them
pub words_whole : (w : World) (past : List Turn) (n total : ℕ) → n ≡ 16 → total ≡ sum (map (λ (j : ℕ). value_at w past Long (4096 + 4 * j)) (range_with_len 0 n)) % 2 ^ 32 → total ≡ sum_of_words w past
unfolding sum_of_words
words_whole w past n total all is = is ∙ ap (λ (m : ℕ). sum (map (λ (j : ℕ). value_at w past Long (4096 + 4 * j)) (range_with_len 0 m)) % 2 ^ 32) all
