use Rattle.std.proofs.Common.{◌≡◌, ◌≤◌, ℕ, List, length}
use Rattle.p8_fold.specs.ConstantEntries.{setting_of, at_bytes}
use Rattle.p8_constants.specs.Rows.{rows_from, node_of}
use Rattle.p8_constants.proofs.Rowing.{index_from}
use Rattle.p8_constants.proofs.index.Index.of_rows.Given as goal

abbrev pub invariant-loop-k : goal.invariant-loop-k
invariant-loop-k l =
    (l.k ≤ length l.rows) × ((n : List ℕ) → at_bytes n l.index.names ≡ index_from (setting_of l.outside) (rows_from l.rows) l.k (node_of (rows_from l.rows)) n)
