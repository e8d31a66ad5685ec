use Rattle.std.proofs.Common.{◌∙◌, map, filter_map, ap, arith}
use Rattle.p8_tree.specs.Views.{source_of}
use Rattle.p8_fold.specs.ConstantEntries.{at_bytes}
use Rattle.p8_names.specs.Mentions.{mentions}
use Rattle.p8_names.proofs.Targets.{is_graph, all_taken}
use Rattle.p8_names.proofs.mention_graph.graph_of.Goals as goal

pub returns : goal.returns
returns c =
    is_graph c.args.project.now.files (λ n. at_bytes n c.in_ok-numbers.numbers.names) c.loop-file.graph
    (c.loop-file.invariant ∙ ap (λ rs. map (λ r. filter_map (λ x. at_bytes x.file c.in_ok-numbers.numbers.names) (mentions (source_of r.tree))) rs) (all_taken c.args.project.now.files c.as_slice-file-items.result.now c.loop-file.file-index c.as_slice-file-items.ensures (λ lt. omega (arith, c.loop-file-test.false, lt))))
    c.in_ok-numbers.ensures c.requires
