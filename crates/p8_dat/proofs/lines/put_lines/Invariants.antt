use Rattle.std.proofs.Common.{◌≡◌, ◌++◌, length, map}
use Rattle.p8_fold.specs.ConstantEntries.{setting_of}
use Rattle.p8_dat.specs.Bytes.{lines_bytes}
use Rattle.p8_dat.specs.First.{told_in_lines}
use Rattle.p8_dat.specs.Placing.{placed_of, unplaced}
use Rattle.p8_dat.proofs.lines.put_lines.Given as goal

abbrev pub invariant-loop-region : goal.invariant-loop-region
invariant-loop-region l =
    (l.out.bytes.items ++ lines_bytes (setting_of l.counts) (unplaced (setting_of l.initial.values)) (map placed_of l.region)
    ≡ l.initial.out.bytes.items ++ lines_bytes (setting_of l.counts) (unplaced (setting_of l.initial.values)) (map placed_of l.initial.region))
    × (told_in_lines l.out.fault (setting_of l.counts) (unplaced (setting_of l.initial.values)) (map placed_of l.region)
    ≡ told_in_lines l.initial.out.fault (setting_of l.counts) (unplaced (setting_of l.initial.values)) (map placed_of l.initial.region))
    × (unplaced (setting_of l.values) ≡ unplaced (setting_of l.initial.values))

abbrev pub decreases-loop-region : goal.decreases-loop-region
decreases-loop-region l = length l.region
