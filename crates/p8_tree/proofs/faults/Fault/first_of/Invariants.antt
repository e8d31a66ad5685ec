use Rattle.std.proofs.Common.{◌≡◌, [], Contains, MatchOption, take}
use Rattle.p8_tree.specs.Faults.{IsFirstFault}
use Rattle.p8_tree.proofs.faults.Fault.first_of.Given as goal

abbrev pub invariant-loop-fault : goal.invariant-loop-fault
invariant-loop-fault l =
    MatchOption l.first (take l.fault-index l.faults ≡ []) (IsFirstFault (Contains (take l.fault-index l.faults)))
