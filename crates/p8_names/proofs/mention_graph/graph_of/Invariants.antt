use Rattle.std.proofs.Common.{◌≡◌, take, map, filter_map}
use Rattle.p8_tree.specs.Views.{source_of}
use Rattle.p8_fold.specs.ConstantEntries.{at_bytes}
use Rattle.p8_names.specs.Mentions.{mentions}
use Rattle.p8_names.proofs.mention_graph.graph_of.Given as goal

abbrev pub invariant-loop-file : goal.invariant-loop-file
invariant-loop-file l = l.graph ≡ map (λ r. filter_map (λ x. at_bytes x.file l.numbers.names) (mentions (source_of r.tree))) (take l.file-index l.file-items)
