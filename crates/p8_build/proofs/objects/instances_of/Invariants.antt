use Rattle.std.proofs.Common.{◌≡◌, ◌++◌, map, drop}
use Rattle.std.specs.List.{flat_map}
use Rattle.p8_tree.specs.Views.{named_source_of}
use Rattle.p8_fold.specs.ConstantEntries.{setting_of}
use Rattle.p8_constants.specs.Standing.{items_of}
use Rattle.p8_names.specs.Kinds.{objects}
use Rattle.p8_build.specs.Parts.{instances_of}
use Rattle.p8_build.proofs.objects.instances_of.Given as goal

abbrev pub invariant-loop-item : goal.invariant-loop-item
invariant-loop-item l =
    l.instances ++ flat_map (instances_of (map named_source_of l.files) (setting_of l.consts)) (objects (items_of (drop l.item-index l.items)))
    ≡ flat_map (instances_of (map named_source_of l.files) (setting_of l.consts)) (objects (items_of l.items))
