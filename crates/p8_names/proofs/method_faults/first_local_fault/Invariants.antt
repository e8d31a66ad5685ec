use Rattle.std.proofs.Common.{map, drop}
use Rattle.p8_tree.specs.Views.{declared_of}
use Rattle.p8_fold.specs.ConstantEntries.{setting_of}
use Rattle.p8_constants.proofs.FirstFaults.{IsSoFar}
use Rattle.p8_names.specs.Faults.{FaultInLocals}
use Rattle.p8_names.proofs.method_faults.first_local_fault.Given as goal

abbrev pub invariant-loop-local : goal.invariant-loop-local
invariant-loop-local l = IsSoFar (FaultInLocals (setting_of l.consts) (map declared_of l.locals)) l.first (FaultInLocals (setting_of l.consts) (map declared_of (drop l.local-index l.locals)))
