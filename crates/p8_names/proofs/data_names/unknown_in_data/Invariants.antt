use Rattle.std.proofs.Common.{map, drop}
use Rattle.p8_tree.specs.Views.{datum_of}
use Rattle.p8_kinds.specs.Environments.{environment_of}
use Rattle.p8_constants.proofs.FirstFaults.{IsSoFar}
use Rattle.p8_names.specs.Faults.{UnknownInData}
use Rattle.p8_names.proofs.data_names.unknown_in_data.Given as goal

abbrev pub invariant-loop-item : goal.invariant-loop-item
invariant-loop-item l = IsSoFar (UnknownInData (environment_of l.scope) (map datum_of l.items)) l.first (UnknownInData (environment_of l.scope) (map datum_of (drop l.item-index l.items)))
