use Rattle.std.proofs.Common.{ℕ, List, drop}
use Rattle.p8_fold.specs.ConstantEntries.{setting_of}
use Rattle.p8_constants.specs.Standing.{items_of}
use Rattle.p8_constants.proofs.FirstFaults.{IsSoFar}
use Rattle.p8_names.specs.Faults.{labels_ahead, UnknownInLines}
use Rattle.p8_names.specs.Regions.{environment_at, IsInRegion}
use Rattle.p8_names.proofs.data_names.first_unknown_in_lines.Given as goal

abbrev pub invariant-loop-index : goal.invariant-loop-index
invariant-loop-index l =
    (region : List (List ℕ))
    × IsInRegion l.fn.scope l.scope l.number region
    × IsSoFar (UnknownInLines (environment_at l.fn.scope.kinds l.fn.scope.publics (setting_of l.fn.scope.consts)) (labels_ahead (items_of l.items)) (items_of l.items)) l.first (UnknownInLines (environment_at l.fn.scope.kinds l.fn.scope.publics (setting_of l.fn.scope.consts)) region (items_of (drop l.index l.items)))
