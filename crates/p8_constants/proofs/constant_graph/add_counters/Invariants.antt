use Rattle.std.proofs.Common.{ℕ, List, length}
use Rattle.std.specs.Prelude.{Option}
use Rattle.p8_constants.specs.Rows.{rows_from, IsGraphBy}
use Rattle.p8_constants.proofs.constant_graph.add_counters.Given as goal

abbrev pub invariant-loop-k : goal.invariant-loop-k
invariant-loop-k l = (find : List ℕ → Option ℕ) → IsGraphBy find (rows_from l.rows) (length l.rows) 0 l.initial.graph → IsGraphBy find (rows_from l.rows) (length l.rows) l.k l.graph
