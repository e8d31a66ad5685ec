use Rattle.std.proofs.Common.{◌≡◌, ◌≢◌, ◌↔◌, ℕ, ◌<◌, ◌≤◌, length, get_or, ap, sym, subst, arith}
use Rattle.p8_constants.specs.declared.search.NodeState.TheVariants.{New}
use Rattle.p8_constants.specs.Graphs.{IsEdge, Reaches}
use Rattle.p8_constants.specs.Searches.{mark, IsState}
use Rattle.p8_constants.proofs.Numbers.{nothing_found, numbers_fall, numbers_same}
use Rattle.p8_constants.proofs.numbering.components.Goals as goal

pub loop-node-init : goal.loop-node-init
loop-node-init c = record {
  state = subst (IsState c.args.graph.now) (sym c.in_ok-search.ensures) (nothing_found c.args.graph.now c.len.result c.len.ensures);
  rest = ap (λ s. s.boundaries) c.in_ok-search.ensures;
  found = λ a lt. absurd (omega arith);
}

pub returns-clause-falls : goal.returns-clause-falls
returns-clause-falls c =
    let found : (a : ℕ) → a < length c.args.graph.now → mark c.loop-node.search.marks a ≢ New = λ a lt. c.loop-node.invariant.found a (omega arith) in
    subst (λ ns. (a b : ℕ) → IsEdge c.args.graph.now a b → get_or ns b 0 ≤ get_or ns a 0) (sym c.in_ok-numbers.ensures)
    (numbers_fall c.args.graph.now c.loop-node.search c.loop-node.invariant.state c.loop-node.invariant.rest found)

pub returns-clause-same : goal.returns-clause-same
returns-clause-same c =
    let found : (a : ℕ) → a < length c.args.graph.now → mark c.loop-node.search.marks a ≢ New = λ a lt. c.loop-node.invariant.found a (omega arith) in
    subst (λ ns. (a b : ℕ) → a < length c.args.graph.now → b < length c.args.graph.now → (get_or ns a 0 ≡ get_or ns b 0) ↔ (Reaches c.args.graph.now a b × Reaches c.args.graph.now b a)) (sym c.in_ok-numbers.ensures)
    (numbers_same c.args.graph.now c.loop-node.search c.loop-node.invariant.state c.loop-node.invariant.rest found)
