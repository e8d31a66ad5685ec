use Rattle.std.proofs.Common.{◌≡◌, ◌≢◌, ℕ, ◌<◌, []}
use Rattle.p8_constants.specs.declared.search.NodeState.TheVariants.{New}
use Rattle.p8_constants.specs.Searches.{mark, IsState}
use Rattle.p8_constants.proofs.numbering.components.Given as goal

abbrev pub invariant-loop-node : goal.invariant-loop-node
invariant-loop-node l = record { state : IsState l.graph l.search; rest : l.search.boundaries ≡ []; found : (a : ℕ) → a < l.node → mark l.search.marks a ≢ New }
