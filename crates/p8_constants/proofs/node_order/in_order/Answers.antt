use Rattle.std.proofs.Common.{◌∙◌, map, ap}
use Rattle.p8_constants.proofs.Orders.{all_nodes, each_once, in_this_order}
use Rattle.p8_constants.proofs.node_order.in_order.Goals as goal

pub returns-clause-size : goal.returns-clause-size
returns-clause-size c =
    each_once c.args.numbers.now c.in_ok-places.places.items c.sort.new.self.items c.in_ok-nodes.nodes.items c.in_ok-places.ensures.size c.in_ok-places.ensures.each c.in_ok-sort.ensures.permutation
    (c.in_ok-nodes.ensures ∙ ap (map (λ p. p.1)) c.deref.ensures.value)

pub returns-clause-nodes : goal.returns-clause-nodes
returns-clause-nodes c =
    all_nodes c.args.numbers.now c.in_ok-places.places.items c.sort.new.self.items c.in_ok-nodes.nodes.items c.in_ok-places.ensures.size c.in_ok-places.ensures.each c.in_ok-sort.ensures.permutation
    (c.in_ok-nodes.ensures ∙ ap (map (λ p. p.1)) c.deref.ensures.value)

pub returns-clause-order : goal.returns-clause-order
returns-clause-order c =
    in_this_order c.args.numbers.now c.in_ok-places.places.items c.sort.new.self.items c.in_ok-nodes.nodes.items c.in_ok-places.ensures.size c.in_ok-places.ensures.each c.in_ok-sort.ensures.permutation
    (c.in_ok-nodes.ensures ∙ ap (map (λ p. p.1)) c.deref.ensures.value) c.in_ok-sort.ensures.sorted
