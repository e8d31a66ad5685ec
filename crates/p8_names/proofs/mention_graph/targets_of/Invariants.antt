use Rattle.std.proofs.Common.{◌≡◌, take, filter_map}
use Rattle.p8_fold.specs.ConstantEntries.{at_bytes}
use Rattle.p8_constants.specs.Standing.{items_of}
use Rattle.p8_names.specs.Kinds.{objects}
use Rattle.p8_names.proofs.mention_graph.targets_of.Given as goal

abbrev pub invariant-loop-item : goal.invariant-loop-item
invariant-loop-item l = l.targets.items ≡ filter_map (λ x. at_bytes x.file l.numbers.names) (objects (items_of (take l.item-index l.item-items)))
