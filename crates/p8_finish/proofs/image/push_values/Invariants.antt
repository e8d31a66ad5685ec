use Rattle.std.proofs.Common.{◌≡◌, ◌+◌, ◌++◌, ℕ, map}
use Rattle.std.specs.List.{range_with_len}
use Rattle.p8_finish.specs.Made.{number}
use Rattle.p8_finish.proofs.image.push_values.Given as goal

abbrev pub invariant-loop-place : goal.invariant-loop-place
invariant-loop-place l = record {
  items : l.longs.items ≡ l.fn.longs.items ++ map (λ (j : ℕ). number l.fn.seed (401 + j)) (range_with_len 0 l._place);
  last : l.last ≡ number l.fn.seed (400 + l._place);
}
