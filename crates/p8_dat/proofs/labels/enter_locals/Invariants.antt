use Rattle.std.proofs.Common.{◌≡◌, length, map}
use Rattle.std.specs.List.{fold}
use Rattle.p8_dat.specs.Placing.{placed_of}
use Rattle.p8_fold.specs.ConstantEntries.{setting_of}
use Rattle.p8_dat.specs.Names.{with_local}
use Rattle.p8_dat.proofs.labels.enter_locals.Given as goal

abbrev pub invariant-loop-region : goal.invariant-loop-region
invariant-loop-region l =
    fold with_local (setting_of l.consts) (map placed_of l.region) ≡ fold with_local (setting_of l.initial.consts) (map placed_of l.initial.region)

abbrev pub decreases-loop-region : goal.decreases-loop-region
decreases-loop-region l = length l.region
