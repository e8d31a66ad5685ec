use Rattle.std.proofs.Common.{◌≡◌, ℕ, ◌+◌, ◌-◌, ◌/◌, ◌%◌, ◌^◌, map, take, length}
use Rattle.std.specs.List.{range_with_len}
use Rattle.p8_wave.proofs.appending.push_binary.Given as goal

abbrev pub invariant-loop-place : goal.invariant-loop-place
invariant-loop-place l = record {
  size : length l.digits ≡ 32;
  made : take l.place l.digits ≡ map (λ (k : ℕ). 48 + l.value / 2 ^ (l.width - 1 - k) % 2) (range_with_len 0 l.place);
}
