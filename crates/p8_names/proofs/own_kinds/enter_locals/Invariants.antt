use Rattle.std.proofs.Common.{◌≡◌, ℕ, ◌*◌, List, map, drop}
use Rattle.std.specs.Prelude.{min}
use Rattle.std.specs.Map.{lookup}
use Rattle.std.specs.Str.{bytes_eq}
use Rattle.p8_tree.specs.Views.{declared_of}
use Rattle.p8_fold.specs.ConstantEntries.{setting_of}
use Rattle.p8_kinds.specs.Kinds.{own, or_else}
use Rattle.p8_names.specs.Kinds.{greatest_offset, local_kinds}
use Rattle.p8_names.proofs.own_kinds.enter_locals.Given as goal

abbrev pub invariant-loop-local : goal.invariant-loop-local
invariant-loop-local l =
    ((first : ℕ) → l.first ≡ min (4 * first) greatest_offset → (longs : ℕ) × (l.offset ≡ min (4 * longs) greatest_offset)
    × ((n : List ℕ) → or_else (own l.initial.kinds l.number n) (lookup (bytes_eq n) (local_kinds (setting_of l.consts) first (map declared_of l.locals))) ≡ or_else (own l.kinds l.number n) (lookup (bytes_eq n) (local_kinds (setting_of l.consts) longs (map declared_of (drop l.local-index l.locals))))))
    × ((m : ℕ) (n : List ℕ) → ¬ (m ≡ l.number) → own l.kinds m n ≡ own l.initial.kinds m n)
