-- The columns of a picture follow one another.
use Rattle.std.proofs.Common.{◌≡◌, ◌∙◌, ap, ap₂, sym, ℕ, zero, suc, ◌+◌, ◌-◌, ◌*◌, ◌<◌, ◌≤◌, List, [], ◌∷◌, ◌++◌, min, max, map, arith}
use Rattle.std.specs.Int.{div_ceil}
use Rattle.std.specs.List.{range_with_len}
use Rattle.std.proofs.lemmas.Grind.{div_ceil_times}
use Rattle.std.proofs.lemmas.List.FromFn.{map-range_with_len_more}
use Rattle.std.proofs.lemmas.Nat.{mul-le}
use Rattle.p8_wave.specs.declared.grid.Column.{Column}
use Rattle.p8_wave.specs.Plot.{width_of, column_at, columns_of}
use Rattle.p8_wave.specs.Tracing.{Follow}

-- a column begins at a clock that is shown
pub begins-inside : (shown width i : ℕ) → 0 < width → i < div_ceil shown width → i * width < shown
begins-inside shown width i wide h =
    omega (arith, (div_ceil_times shown width wide).1, mul-le (i + 1) width (div_ceil shown width) width (omega (arith, h)) (omega arith))

-- where a column ends, from its first clock on
pub ends-at : (from end shown width i last : ℕ) → shown ≡ end - from → 0 < width → i < div_ceil shown width → last ≡ min width (end - (from + i * width)) → from + i * width + last ≡ min (from + i * width + width) end
ends-at from end shown width i last is wide h ends = let here : i * width < shown = begins-inside shown width i wide h in omega (arith, here, is, ends)

follow-by : (from end width before i n : ℕ) → 0 < width → before ≤ from + i * width → i + n ≤ div_ceil (end - from) width → Follow before (map (column_at from end width) (range_with_len i n))
follow-by from end width before i zero wide le inside = tt
follow-by from end width before i (suc n) wide le inside =
    let here : i * width < end - from = begins-inside (end - from) width i wide (omega (arith, inside)) in
    (le, omega (arith, wide, here), follow-by from end width (min (from + i * width + width) end) (i + 1) n wide (omega arith) (omega (arith, inside)))

-- one more column
pub one-more : (from end width i : ℕ) (so_far more : List Column) (first last : ℕ) → so_far ≡ map (column_at from end width) (range_with_len 0 i) → first ≡ from + i * width → last ≡ min (first + width) end
    → more ≡ so_far ++ (record { number = i; first = first; end = last }) ∷ [] → more ≡ map (column_at from end width) (range_with_len 0 (i + 1))
one-more from end width i so_far more first last before begins ends is =
    is
    ∙ ap₂ (λ (f l : ℕ). so_far ++ (record { number = i; first = f; end = l }) ∷ []) begins (ends ∙ ap (λ (f : ℕ). min (f + width) end) begins)
    ∙ ap (λ (cs : List Column). cs ++ column_at from end width i ∷ []) before
    ∙ sym (map-range_with_len_more (column_at from end width) 0 i i (omega arith))

pub all-columns : (most from end shown width : ℕ) → shown ≡ end - from → width ≡ width_of (max most 1) shown → map (column_at from end width) (range_with_len 0 (div_ceil shown width)) ≡ columns_of most from end
unfolding columns_of
all-columns most from end shown width is wide =
    ap (λ (w : ℕ). map (column_at from end w) (range_with_len 0 (div_ceil shown w))) wide
    ∙ ap (λ (s : ℕ). map (column_at from end (width_of (max most 1) s)) (range_with_len 0 (div_ceil s (width_of (max most 1) s)))) is

pub columns-follow : (most from end : ℕ) → Follow 0 (columns_of most from end)
unfolding columns_of
columns-follow most from end =
    let width = width_of (max most 1) (end - from) in
    follow-by from end width 0 0 (div_ceil (end - from) width) (omega arith) (omega arith) (omega arith)
