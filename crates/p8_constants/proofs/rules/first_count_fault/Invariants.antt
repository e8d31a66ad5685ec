use Rattle.std.proofs.Common.{drop}
use Rattle.p8_fold.specs.ConstantEntries.{setting_of}
use Rattle.p8_constants.specs.Rules.{InAny, HasFaultInCount}
use Rattle.p8_constants.specs.Standing.{items_of}
use Rattle.p8_constants.proofs.FirstFaults.{IsSoFar}
use Rattle.p8_constants.proofs.rules.first_count_fault.Given as goal

abbrev pub invariant-loop-item : goal.invariant-loop-item
invariant-loop-item l = IsSoFar (InAny (HasFaultInCount (setting_of l.consts)) (items_of l.items)) l.first (InAny (HasFaultInCount (setting_of l.consts)) (items_of (drop l.item-index l.items)))
