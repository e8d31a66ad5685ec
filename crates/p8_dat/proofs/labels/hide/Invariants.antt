use Rattle.std.proofs.Common.{◌≡◌, length, map}
use Rattle.std.specs.List.{fold}
use Rattle.p8_tree.specs.Views.{line_of}
use Rattle.p8_fold.specs.ConstantEntries.{setting_of}
use Rattle.p8_dat.specs.Names.{hidden}
use Rattle.p8_dat.proofs.labels.hide.Given as goal

abbrev pub invariant-loop-lines : goal.invariant-loop-lines
invariant-loop-lines l =
    fold hidden (setting_of l.consts) (map line_of l.lines) ≡ fold hidden (setting_of l.initial.consts) (map line_of l.initial.lines)

abbrev pub decreases-loop-lines : goal.decreases-loop-lines
decreases-loop-lines l = length l.lines
