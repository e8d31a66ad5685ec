use Rattle.std.proofs.Common.{◌∙◌, ◌<◌, ◌↔◌, ◌≤◌, ℕ, length, get_or, subst}
use Rattle.std.specs.Prelude.{Contains}
use Rattle.p8_constants.specs.Orders.{ComesNoLater}
use Rattle.p8_fold.specs.ConstantEntries.{setting_of, at_bytes}
use Rattle.p8_constants.specs.Rows.{rows_from}
use Rattle.p8_constants.proofs.Growing.{graph_of_all, has_its_targets}
use Rattle.p8_constants.proofs.plan.plan_of.Goals as goal

pub components-requires : goal.components-requires
components-requires c =
    has_its_targets (setting_of c.args.outside.now) (rows_from c.in_ok-rows.rows) c.in_ok-graph.graph
    (graph_of_all (setting_of c.args.outside.now) c.in_ok-rows.rows (λ n. at_bytes n c.in_ok-index.index.names) c.in_ok-graph.graph c.in_ok-index.ensures c.in_ok-graph.ensures)

pub returns-clause-plan : goal.returns-clause-plan
returns-clause-plan c =
    let graph = graph_of_all (setting_of c.args.outside.now) c.in_ok-rows.rows (λ n. at_bytes n c.in_ok-index.index.names) c.in_ok-graph.graph c.in_ok-index.ensures c.in_ok-graph.ensures in
    record {
      index_is = c.in_ok-index.ensures;
      graph = c.in_ok-graph.graph;
      is_graph = graph;
      size = c.in_ok-numbers.ensures.size ∙ graph.size;
      falls = c.in_ok-numbers.ensures.falls;
      same = c.in_ok-numbers.ensures.same;
      nodes = subst (λ ns. (a : ℕ) → Contains c.in_ok-order.order.items a ↔ (a < length ns)) c.deref.ensures.value c.in_ok-order.ensures.nodes;
      ordered = subst (λ ns. (i j : ℕ) → i ≤ j → j < length c.in_ok-order.order.items → ComesNoLater ns (get_or c.in_ok-order.order.items i 0) (get_or c.in_ok-order.order.items j 0)) c.deref.ensures.value c.in_ok-order.ensures.order;
    }
