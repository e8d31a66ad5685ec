use Rattle.std.proofs.Common.{◌≡◌, length, map}
use Rattle.p8_tree.specs.Views.{datum_of}
use Rattle.p8_fold.specs.ConstantEntries.{setting_of}
use Rattle.p8_dat.specs.Spots.{behind_items}
use Rattle.p8_dat.proofs.placing.behind_items.Given as goal

abbrev pub invariant-loop-items : goal.invariant-loop-items
invariant-loop-items l =
    behind_items (setting_of l.counts) l.size (map datum_of l.items) l.at
    ≡ behind_items (setting_of l.counts) l.size (map datum_of l.initial.items) l.initial.at

abbrev pub decreases-loop-items : goal.decreases-loop-items
decreases-loop-items l = length l.items
