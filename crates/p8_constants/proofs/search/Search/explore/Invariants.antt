use Rattle.std.proofs.Common.{◌≢◌}
use Rattle.p8_constants.specs.declared.search.NodeState.TheVariants.{New}
use Rattle.p8_constants.specs.Searches.{mark, IsState, IsFurther, work}
use Rattle.p8_constants.proofs.search.Search.explore.Given as goal

abbrev pub invariant-loop-self : goal.invariant-loop-self
invariant-loop-self l = record { state : IsState l.graph l.self; further : IsFurther l.fn.self.marks l.self.marks; found : mark l.self.marks l.node ≢ New }

abbrev pub decreases-loop-self : goal.decreases-loop-self
decreases-loop-self l = work l.graph l.self
