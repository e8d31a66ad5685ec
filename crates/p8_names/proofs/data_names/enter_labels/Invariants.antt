use Rattle.std.proofs.Common.{drop}
use Rattle.p8_constants.specs.Standing.{items_of}
use Rattle.p8_names.specs.Faults.{labels_ahead}
use Rattle.p8_names.proofs.LocalLabels.{IsEntering}
use Rattle.p8_names.proofs.data_names.enter_labels.Given as goal

abbrev pub invariant-loop-item : goal.invariant-loop-item
invariant-loop-item l = IsEntering l.fn.kinds l.kinds l.number (labels_ahead (items_of l.items)) (labels_ahead (items_of (drop l.item-index l.items)))
