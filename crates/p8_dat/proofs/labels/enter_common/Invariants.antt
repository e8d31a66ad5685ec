use Rattle.std.proofs.Common.{◌≡◌, length, map}
use Rattle.std.specs.List.{fold}
use Rattle.p8_dat.specs.Placing.{placed_of}
use Rattle.p8_fold.specs.ConstantEntries.{setting_of}
use Rattle.p8_dat.specs.Names.{with_common}
use Rattle.p8_dat.proofs.labels.enter_common.Given as goal

abbrev pub invariant-loop-places : goal.invariant-loop-places
invariant-loop-places l =
    fold with_common (setting_of l.consts) (map placed_of l.places) ≡ fold with_common (setting_of l.initial.consts) (map placed_of l.initial.places)

abbrev pub decreases-loop-places : goal.decreases-loop-places
decreases-loop-places l = length l.places
