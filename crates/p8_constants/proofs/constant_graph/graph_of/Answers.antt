use Rattle.std.proofs.Common.{◌≡◌, length, subst, ap, arith}
use Rattle.p8_fold.specs.ConstantEntries.{at_bytes}
use Rattle.p8_constants.specs.Rows.{rows_from, nodes_by, IsGraphBy}
use Rattle.p8_constants.proofs.Growing.{item_added}
use Rattle.p8_constants.proofs.constant_graph.graph_of.Goals as goal

pub loop-k-preserved : goal.loop-k-preserved
loop-k-preserved c = item_added (λ n. at_bytes n c.args.index.now.names) (rows_from c.args.rows.now) c.loop-k.k c.loop-k.graph c.add_item.new.graph _ _ c.loop-k.invariant c.in_ok-add_item.ensures (ap (λ x. nodes_by (λ n. at_bytes n c.args.index.now.names) x.value) c.item.ensures) (ap (λ x. nodes_by (λ n. at_bytes n c.args.index.now.names) x.step) c.item.ensures)

pub returns : goal.returns
returns c =
    let all : c.loop-k.k ≡ length c.args.rows.now = omega arith in
    c.in_ok-add_counters.ensures (λ n. at_bytes n c.args.index.now.names) (subst (λ k. IsGraphBy (λ n. at_bytes n c.args.index.now.names) (rows_from c.args.rows.now) k 0 c.loop-k.graph) all c.loop-k.invariant)
