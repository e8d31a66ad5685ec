use Rattle.std.proofs.Common.{◌≡◌, ℕ, List, ◌++◌, drop}
use Rattle.p8_fold.specs.ConstantEntries.{setting_of}
use Rattle.p8_constants.specs.Names.{predefined_names}
use Rattle.p8_constants.specs.Standing.{items_of, Holds}
use Rattle.p8_names.specs.Children.{methods_from, constants_from}
use Rattle.p8_names.proofs.child.shown.Given as goal

abbrev pub invariant-loop-item : goal.invariant-loop-item
invariant-loop-item l =
    (names : List (List ℕ))
    × Holds l.before names
    × (methods_from predefined_names (items_of l.items) ≡ l.methods ++ methods_from names (items_of (drop l.item-index l.items)))
    × (constants_from (setting_of l.consts) predefined_names (items_of l.items) ≡ l.constants ++ constants_from (setting_of l.consts) names (items_of (drop l.item-index l.items)))
