use Rattle.std.proofs.Common.{◌≡◌, ◌++◌, length, map}
use Rattle.p8_fold.specs.ConstantEntries.{setting_of}
use Rattle.p8_dat.specs.Names.{regions}
use Rattle.p8_dat.specs.Blocks.{regions_bytes}
use Rattle.p8_dat.specs.First.{told_in_regions}
use Rattle.p8_dat.specs.Placing.{placed_of, unplaced, AreHidden}
use Rattle.p8_dat.proofs.regions.put_regions.Given as goal

abbrev pub invariant-loop-places : goal.invariant-loop-places
invariant-loop-places l =
    (l.out.bytes.items ++ regions_bytes (setting_of l.counts) (unplaced (setting_of l.initial.values)) (regions (map placed_of l.places))
    ≡ l.initial.out.bytes.items ++ regions_bytes (setting_of l.counts) (unplaced (setting_of l.initial.values)) (regions (map placed_of l.initial.places)))
    × (told_in_regions l.out.fault (setting_of l.counts) (unplaced (setting_of l.initial.values)) (regions (map placed_of l.places))
    ≡ told_in_regions l.initial.out.fault (setting_of l.counts) (unplaced (setting_of l.initial.values)) (regions (map placed_of l.initial.places)))
    × (unplaced (setting_of l.values) ≡ unplaced (setting_of l.initial.values))
    × AreHidden (unplaced (setting_of l.initial.values)) (map placed_of l.places)

abbrev pub decreases-loop-places : goal.decreases-loop-places
decreases-loop-places l = length l.places
