use Rattle.std.proofs.Common.{ℕ, List, drop}
use Rattle.p8_constants.specs.Standing.{all_defined_of, Holds}
use Rattle.p8_constants.proofs.Repeating.{Goes, Taken}
use Rattle.p8_constants.proofs.repeats.first_repeated.Given as goal

abbrev pub invariant-loop-defined : goal.invariant-loop-defined
invariant-loop-defined l =
    ((before : List (List ℕ)) → Holds l.shared before → (behind : List (List ℕ)) → Holds l.initial.own behind → Goes before behind (all_defined_of l.names) l.first (all_defined_of (drop l.defined-index l.names)) l.own)
    × ((behind : List (List ℕ)) → Holds l.initial.own behind → Taken behind (all_defined_of l.names) (all_defined_of (drop l.defined-index l.names)) l.own)
