use Rattle.std.proofs.Common.{◌≡◌, ℕ, List, ◌++◌, drop}
use Rattle.p8_fold.specs.ConstantEntries.{setting_of}
use Rattle.p8_constants.specs.Standing.{items_of}
use Rattle.p8_kinds.specs.declared.children.Child.{Child}
use Rattle.p8_names.specs.Settings.{with_children}
use Rattle.p8_names.specs.Changes.{HasObjects, IsSameOutside}
use Rattle.p8_names.proofs.outside.put_objects.Given as goal

abbrev pub invariant-loop-item : goal.invariant-loop-item
invariant-loop-item l =
    (done : List (List ℕ × Child))
    × HasObjects (setting_of l.consts) l.seen done
    × (with_children (items_of l.items) l.fn.children ≡ done ++ with_children (items_of (drop l.item-index l.items)) l.left)
    × IsSameOutside (setting_of l.initial.consts) (setting_of l.consts)
