use Rattle.std.proofs.Common.{◌≡◌, ◌+◌, drop}
use Rattle.p8_fold.specs.ConstantEntries.{setting_of}
use Rattle.p8_constants.specs.Standing.{items_of}
use Rattle.p8_names.specs.Kinds.{objects, instances}
use Rattle.p8_build.proofs.assembling.instances.Given as goal

abbrev pub invariant-loop-item : goal.invariant-loop-item
invariant-loop-item l =
    l.all + instances (setting_of l.consts) (objects (items_of (drop l.item-index l.items))) ≡ instances (setting_of l.consts) (objects (items_of l.items))
