use Rattle.std.proofs.Common.{◌≡◌, ◌++◌, length, map}
use Rattle.p8_tree.specs.Views.{line_of}
use Rattle.p8_fold.specs.ConstantEntries.{setting_of}
use Rattle.p8_dat.specs.Spots.{placed, behind_lines}
use Rattle.p8_dat.specs.Placing.{placed_of}
use Rattle.p8_dat.proofs.placing.place_lines.Given as goal

abbrev pub invariant-loop-lines : goal.invariant-loop-lines
invariant-loop-lines l =
    (map placed_of l.places.items ++ placed (setting_of l.counts) (map line_of l.lines) l.from
    ≡ map placed_of l.initial.places.items ++ placed (setting_of l.counts) (map line_of l.initial.lines) l.initial.from)
    × (behind_lines (setting_of l.counts) (map line_of l.lines) l.from ≡ behind_lines (setting_of l.counts) (map line_of l.initial.lines) l.initial.from)

abbrev pub decreases-loop-lines : goal.decreases-loop-lines
decreases-loop-lines l = length l.lines
