use Rattle.std.proofs.Common.{◌≡◌, ℕ, ◌+◌, ◌*◌, List, drop}
use Rattle.std.specs.Prelude.{min}
use Rattle.std.specs.Map.{lookup}
use Rattle.std.specs.Str.{bytes_eq}
use Rattle.p8_kinds.specs.Kinds.{own, or_else}
use Rattle.p8_names.specs.Kinds.{greatest_offset, param_kinds}
use Rattle.p8_names.proofs.own_kinds.enter_params.Given as goal

abbrev pub invariant-loop-name : goal.invariant-loop-name
invariant-loop-name l =
    (l.offset ≡ min (4 * (l.name-index + 1)) greatest_offset)
    × ((n : List ℕ) → or_else (own l.initial.kinds l.number n) (lookup (bytes_eq n) (param_kinds 1 l.params)) ≡ or_else (own l.kinds l.number n) (lookup (bytes_eq n) (param_kinds (l.name-index + 1) (drop l.name-index l.params))))
    × ((m : ℕ) (n : List ℕ) → ¬ (m ≡ l.number) → own l.kinds m n ≡ own l.initial.kinds m n)
