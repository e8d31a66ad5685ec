use Rattle.p8_fold.specs.ConstantEntries.{at_bytes}
use Rattle.p8_constants.specs.Rows.{rows_from, IsGraphBy}
use Rattle.p8_constants.proofs.constant_graph.graph_of.Given as goal

abbrev pub invariant-loop-k : goal.invariant-loop-k
invariant-loop-k l = IsGraphBy (λ n. at_bytes n l.index.names) (rows_from l.rows) l.k 0 l.graph
