use Rattle.std.proofs.Common.{◌≡◌, ◌++◌, ℕ, map}
use Rattle.std.specs.List.{range_with_len, flat_map}
use Rattle.p8_wave.specs.Variables.{lock_variables}
use Rattle.p8_wave.specs.Sections.{still}
use Rattle.p8_wave.proofs.entries.push_locks.Given as goal

abbrev pub invariant-loop-lock : goal.invariant-loop-lock
invariant-loop-lock l = l.entries.items ≡ l.initial.entries.items ++ flat_map (λ (n : ℕ). map still (lock_variables n)) (range_with_len 0 l.lock)
