use Rattle.std.proofs.Common.{◌≡◌, take, map}
use Rattle.std.specs.List.{filter_map}
use Rattle.p8_fold.specs.ConstantEntries.{at_bytes}
use Rattle.p8_constants.proofs.constant_graph.nodes_at.Given as goal

abbrev pub invariant-loop-name : goal.invariant-loop-name
invariant-loop-name l = l.nodes.items ≡ filter_map (λ n. at_bytes n l.index.names) (take l.name-index (map (λ t. t.now) l.name-items))
