use Rattle.std.proofs.Common.{◌≡◌, ◌++◌, drop}
use Rattle.std.specs.List.{flat_map}
use Rattle.p8_fold.specs.ConstantEntries.{setting_of}
use Rattle.p8_constants.specs.Standing.{items_of}
use Rattle.p8_names.specs.Kinds.{objects}
use Rattle.p8_map.specs.Names.{instance_names}
use Rattle.p8_map.proofs.names.instances_of.Given as goal

abbrev pub invariant-loop-item : goal.invariant-loop-item
invariant-loop-item l =
    l.names ++ flat_map (instance_names l.source (setting_of l.consts)) (objects (items_of (drop l.item-index l.items)))
    ≡ flat_map (instance_names l.source (setting_of l.consts)) (objects (items_of l.items))
