use Rattle.std.proofs.Common.{◌≡◌, ◌∙◌, length, ap}
use Rattle.p8_tree.specs.Views.{named_sources_of}
use Rattle.p8_names.proofs.Targets.{has_its_targets}
use Rattle.p8_names.proofs.Looking.{are_low, none_leads, are_children}
use Rattle.p8_names.proofs.finding.children_of.Goals as goal

pub components-requires : goal.components-requires
components-requires c = has_its_targets (named_sources_of c.args.project.now) c.in_ok-graph.graph c.in_ok-graph.ensures

pub find-requires-clause-nodes : goal.find-requires-clause-nodes
find-requires-clause-nodes c =
    let size : length c.deref.result.now ≡ length (named_sources_of c.args.project.now) = ap length c.deref.ensures.value ∙ (c.in_ok-numbers.ensures.size ∙ c.in_ok-graph.ensures.size) in
    are_low c.in_ok-order.order.items c.deref-2.result.now c.deref.result.now (length (named_sources_of c.args.project.now)) c.in_ok-order.ensures.nodes size c.deref-2.ensures.value

pub find-requires-clause-behind : goal.find-requires-clause-behind
find-requires-clause-behind c =
    none_leads (named_sources_of c.args.project.now) c.in_ok-graph.graph c.in_ok-order.order.items c.deref-2.result.now c.in_ok-numbers.numbers.items c.deref.result.now c.requires.no_ring c.in_ok-graph.ensures
    c.in_ok-numbers.ensures.falls c.in_ok-numbers.ensures.same c.deref.ensures.value c.in_ok-order.ensures.order c.deref-2.ensures.value

pub returns : goal.returns
returns c =
    let size : length c.deref.result.now ≡ length (named_sources_of c.args.project.now) = ap length c.deref.ensures.value ∙ (c.in_ok-numbers.ensures.size ∙ c.in_ok-graph.ensures.size) in
    are_children (named_sources_of c.args.project.now) c.in_ok-graph.graph c.in_ok-order.order.items c.deref-2.result.now c.deref.result.now c.in_ok-children.field-0.children.items c.in_ok-children.field-0.seen.items c.in_ok-graph.ensures c.in_ok-order.ensures.nodes size c.deref-2.ensures.value c.in_ok-children.ensures
