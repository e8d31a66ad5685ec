use Rattle.std.proofs.Common.{◌≡◌, ◌++◌, drop}
use Rattle.p8_map.specs.Names.{spelled_labels}
use Rattle.p8_map.proofs.labels.labels_of.Given as goal

abbrev pub invariant-loop-label : goal.invariant-loop-label
invariant-loop-label l = l.all ++ spelled_labels l.source l.rest (drop l.label-index l.labels) ≡ spelled_labels l.source l.places l.labels
