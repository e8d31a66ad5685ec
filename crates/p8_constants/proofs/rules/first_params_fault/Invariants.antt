use Rattle.std.proofs.Common.{drop}
use Rattle.p8_constants.specs.Rules.{InAny, HasTooManyParams}
use Rattle.p8_constants.specs.Standing.{items_of}
use Rattle.p8_constants.proofs.FirstFaults.{IsSoFar}
use Rattle.p8_constants.proofs.rules.first_params_fault.Given as goal

abbrev pub invariant-loop-item : goal.invariant-loop-item
invariant-loop-item l = IsSoFar (InAny HasTooManyParams (items_of l.items)) l.first (InAny HasTooManyParams (items_of (drop l.item-index l.items)))
