use Rattle.std.proofs.Common.{◌≡◌, ◌++◌, length, map}
use Rattle.p8_tree.specs.Views.{datum_of}
use Rattle.p8_fold.specs.ConstantEntries.{setting_of}
use Rattle.p8_dat.specs.Bytes.{items_bytes}
use Rattle.p8_dat.specs.First.{told_in_items}
use Rattle.p8_dat.specs.Placing.{unplaced}
use Rattle.p8_dat.proofs.data.put_items.Given as goal

abbrev pub invariant-loop-items : goal.invariant-loop-items
invariant-loop-items l =
    (l.out.bytes.items ++ items_bytes (setting_of l.counts) (unplaced (setting_of l.initial.values)) l.size (map datum_of l.items) l.at
    ≡ l.initial.out.bytes.items ++ items_bytes (setting_of l.counts) (unplaced (setting_of l.initial.values)) l.size (map datum_of l.initial.items) l.initial.at)
    × (told_in_items l.out.fault (setting_of l.counts) (unplaced (setting_of l.initial.values)) l.size (map datum_of l.items) l.at
    ≡ told_in_items l.initial.out.fault (setting_of l.counts) (unplaced (setting_of l.initial.values)) l.size (map datum_of l.initial.items) l.initial.at)
    × (unplaced (setting_of l.values) ≡ unplaced (setting_of l.initial.values))

abbrev pub decreases-loop-items : goal.decreases-loop-items
decreases-loop-items l = length l.items
