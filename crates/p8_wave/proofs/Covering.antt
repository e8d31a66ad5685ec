-- The columns of a picture cover the clocks that are shown.
use Rattle.std.proofs.Common.{◌≡◌, ◌∙◌, ap, ap₂, sym, ℕ, zero, suc, ◌+◌, ◌-◌, ◌*◌, ◌<◌, ◌≤◌, inl, inr, ◌⊎◌, List, ◌++◌, min, max, map, flat_map, length, arith}
use Rattle.std.specs.Int.{div_ceil}
use Rattle.std.specs.List.{range_with_len}
use Rattle.std.proofs.lemmas.Bool.{cases_lt}
use Rattle.std.proofs.lemmas.Grind.{div_ceil_times}
use Rattle.std.proofs.lemmas.List.FromFn.{length-map-range_with_len}
use Rattle.std.proofs.lemmas.Nat.{mul-le}
use Rattle.p8_wave.specs.Plot.{clocks_of, column_at, columns_of, width_of}
use Rattle.p8_wave.proofs.Columns.{begins-inside}
use Rattle.p8_wave.proofs.PlotRanges.{range-both, range-none}

covered-by : (from end width i n : ℕ) → 0 < width → i + n ≡ div_ceil (end - from) width
    → flat_map clocks_of (map (column_at from end width) (range_with_len i n)) ≡ range_with_len (from + i * width) (end - (from + i * width))
covered-by from end width i zero wide all =
    let last : i ≡ div_ceil (end - from) width = omega (arith, all) in
    let past : end - from ≤ i * width = omega (arith, (div_ceil_times (end - from) width wide).0, ap (λ (k : ℕ). k * width) last) in
    let none : 0 ≡ end - (from + i * width) = omega (arith, past) in
    ap (range_with_len (from + i * width)) none
covered-by from end width i (suc n) wide all =
    let here : i * width < end - from = begins-inside (end - from) width i wide (omega (arith, all)) in
    let first = from + i * width in
    let here_end = min (first + width) end - first in
    let rest = end - (from + (i + 1) * width) in
    let apart : (rest ≡ 0) ⊎ (from + (i + 1) * width ≡ first + here_end) = elim (cases_lt end (first + width)) [
      | inl short ↦ inl (omega (arith, short))
      | inr whole ↦ inr (omega (arith, whole))
    ] in
    ap (λ (xs : List ℕ). range_with_len first here_end ++ xs) (covered-by from end width (i + 1) n wide (omega (arith, all)) ∙ range-none (from + (i + 1) * width) (first + here_end) rest apart)
    ∙ sym (range-both first here_end rest)
    ∙ ap (range_with_len first) (omega (arith, here))

pub columns-covered : (most from end : ℕ) → flat_map clocks_of (columns_of most from end) ≡ range_with_len from (end - from)
unfolding columns_of
columns-covered most from end =
    let width = width_of (max most 1) (end - from) in
    covered-by from end width 0 (div_ceil (end - from) width) (omega arith) (omega arith) ∙ ap₂ range_with_len (omega arith) (omega arith)

-- no more columns than there may be
few-by : (most shown width : ℕ) → 0 < most → 0 < width → div_ceil shown most ≤ width → div_ceil shown width ≤ most
few-by most shown width some wide fits = elim (cases_lt most (div_ceil shown width)) [
  | inr few ↦ few
  | inl many ↦
      let room : (most + 1) * width ≤ div_ceil shown width * width = mul-le (most + 1) width (div_ceil shown width) width (omega (arith, many)) (omega arith) in
      let more : (most + 1) * width ≡ width * most + width = grind arith in
      let held : div_ceil shown most * most ≤ width * most = mul-le (div_ceil shown most) most width most fits (omega arith) in
      absurd (omega (arith, room, more, held, (div_ceil_times shown width wide).1, (div_ceil_times shown most some).0))
]

pub few-columns : (most from end : ℕ) → 0 < most → div_ceil (end - from) (width_of (max most 1) (end - from)) ≤ most
few-columns most from end some =
    let is : max most 1 ≡ most = omega (arith, some) in
    rw is (few-by most (end - from) (width_of most (end - from)) some (omega arith) (omega arith))

pub columns-fit : (most from end : ℕ) → 0 < most → length (columns_of most from end) ≤ most
unfolding columns_of
columns-fit most from end some =
    let width = width_of (max most 1) (end - from) in
    omega (arith, length-map-range_with_len (column_at from end width) 0 (div_ceil (end - from) width), few-columns most from end some)

pub width-least : (most shown width : ℕ) → 0 < most → 0 < width → div_ceil shown width ≤ most → width_of most shown ≤ width
width-least most shown width some wide fits =
    let least : div_ceil shown most ≤ width = few-by width shown most wide some fits in
    omega (arith, wide, least)
