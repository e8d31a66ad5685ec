use Rattle.std.proofs.Common.{ℕ, ◌≤◌, drop}
use Rattle.p8_fold.specs.ConstantEntries.{setting_of}
use Rattle.p8_constants.specs.Rules.{WrongInstancesIn}
use Rattle.p8_constants.specs.Standing.{items_of, IsCapped}
use Rattle.p8_constants.proofs.FirstFaults.{IsSoFar}
use Rattle.p8_constants.proofs.instances.first_instance_fault.Given as goal

abbrev pub invariant-loop-item : goal.invariant-loop-item
invariant-loop-item l =
    (l.before ≤ 256)
    × ((all : ℕ) × IsCapped l.before all × IsSoFar (WrongInstancesIn (setting_of l.consts) 0 (items_of l.items)) l.first (WrongInstancesIn (setting_of l.consts) all (items_of (drop l.item-index l.items))))
