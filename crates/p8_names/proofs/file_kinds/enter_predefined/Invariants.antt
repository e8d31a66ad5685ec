use Rattle.std.proofs.Common.{◌≡◌, ℕ, ◌<◌, List, None, drop}
use Rattle.std.specs.Map.{lookup}
use Rattle.std.specs.Str.{bytes_eq}
use Rattle.p8_constants.specs.Standing.{valued}
use Rattle.p8_kinds.specs.Kinds.{own, or_else}
use Rattle.p8_names.specs.Kinds.{kind_or}
use Rattle.p8_names.proofs.file_kinds.enter_predefined.Given as goal

abbrev pub invariant-loop-constant : goal.invariant-loop-constant
invariant-loop-constant l =
    ((n : List ℕ) → or_else (own l.initial.kinds 0 n) (kind_or (lookup (bytes_eq n) (valued l.constants)) None) ≡ or_else (own l.kinds 0 n) (kind_or (lookup (bytes_eq n) (valued (drop l.constant-index l.constants))) None))
    × ((m : ℕ) (n : List ℕ) → 0 < m → own l.kinds m n ≡ own l.initial.kinds m n)
