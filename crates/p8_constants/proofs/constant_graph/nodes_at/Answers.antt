use Rattle.std.proofs.Common.{◌∙◌, ◌<◌, ◌++◌, map, length, ap, arith}
use Rattle.std.specs.Option.{option_to_list}
use Rattle.std.proofs.lemmas.List.{length-map}
use Rattle.p8_fold.specs.ConstantEntries.{at_bytes}
use Rattle.p8_constants.proofs.Growing.{nodes_more, name_read}
use Rattle.p8_constants.proofs.constant_graph.nodes_at.Goals as goal

pub loop-name-preserved : goal.loop-name-preserved
loop-name-preserved c =
    let within : c.loop-name.name-index < length (map (λ t. t.now) c.as_slice-name-items.result.now) = omega (arith, length-map c.as_slice-name-items.result.now (λ t. t.now), c.loop-name-test.true) in
    nodes_more (λ n. at_bytes n c.args.index.now.names) (map (λ t. t.now) c.as_slice-name-items.result.now) c.loop-name.name-index c.name-item.result.now c.loop-name.nodes.items c.add_node.new.nodes.items within
    (name_read c.as_slice-name-items.result.now c.loop-name.name-index c.name-item.result c.loop-name-test.true c.name-item.is)
    c.loop-name.invariant (c.in_ok-add_node.ensures ∙ ap (λ o. c.loop-name.nodes.items ++ option_to_list o) c.get.ensures)
