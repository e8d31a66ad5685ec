use Rattle.std.proofs.Common.{◌≡◌, ◌++◌, drop}
use Rattle.std.specs.List.{flat_map}
use Rattle.p8_fold.specs.ConstantEntries.{setting_of}
use Rattle.p8_constants.specs.Standing.{items_of}
use Rattle.p8_build.specs.Parts.{variable_in}
use Rattle.p8_build.proofs.objects.variables_of.Given as goal

abbrev pub invariant-loop-item : goal.invariant-loop-item
invariant-loop-item l =
    l.variables ++ flat_map (variable_in (setting_of l.consts)) (items_of (drop l.item-index l.items)) ≡ flat_map (variable_in (setting_of l.consts)) (items_of l.items)
