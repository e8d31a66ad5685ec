use Rattle.std.proofs.Common.{◌≡◌, ◌++◌, drop}
use Rattle.std.specs.List.{flat_map}
use Rattle.p8_constants.specs.Standing.{items_of}
use Rattle.p8_map.specs.Names.{variable_name}
use Rattle.p8_map.proofs.names.variables_of.Given as goal

abbrev pub invariant-loop-item : goal.invariant-loop-item
invariant-loop-item l = l.names ++ flat_map (variable_name l.source) (items_of (drop l.item-index l.items)) ≡ flat_map (variable_name l.source) (items_of l.items)
