use Rattle.std.proofs.Common.{◌≡◌, ℕ, ◌<◌, List, None, take, drop}
use Rattle.p8_fold.specs.ConstantEntries.{setting_of}
use Rattle.p8_constants.specs.Standing.{items_of}
use Rattle.p8_kinds.specs.Kinds.{own, or_else}
use Rattle.p8_names.specs.Kinds.{file_kind, kind_among}
use Rattle.p8_names.specs.Counting.{IsNext}
use Rattle.p8_names.proofs.file_kinds.file_kinds.Given as goal

abbrev pub invariant-loop-index : goal.invariant-loop-index
invariant-loop-index l =
    ((n : List ℕ) → file_kind (setting_of l.consts) (items_of l.items) n ≡ or_else (own l.kinds 0 n) (kind_among (setting_of l.consts) (items_of l.items) (items_of (take l.index l.items)) (items_of (drop l.index l.items)) n))
    × ((m : ℕ) (n : List ℕ) → 0 < m → own l.kinds m n ≡ None)
    × IsNext (setting_of l.consts) (items_of l.items) (items_of (take l.index l.items)) l.next
