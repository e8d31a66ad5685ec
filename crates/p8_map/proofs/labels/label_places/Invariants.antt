use Rattle.std.proofs.Common.{◌≡◌, ◌++◌, drop}
use Rattle.std.specs.List.{flat_map}
use Rattle.p8_constants.specs.Standing.{items_of}
use Rattle.p8_map.specs.Names.{label_place}
use Rattle.p8_map.proofs.labels.label_places.Given as goal

abbrev pub invariant-loop-item : goal.invariant-loop-item
invariant-loop-item l = l.places.items ++ flat_map label_place (items_of (drop l.item-index l.items)) ≡ flat_map label_place (items_of l.items)
