use Rattle.std.proofs.Common.{◌≡◌, ◌++◌, drop}
use Rattle.p8_constants.specs.Standing.{items_of}
use Rattle.p8_hint.specs.FileFacts.{spots_of_items}
use Rattle.p8_hint.specs.SpotViews.{spots_of}
use Rattle.p8_hint.proofs.facts.spots_of_items.Given as goal

abbrev pub invariant-loop-item : goal.invariant-loop-item
invariant-loop-item l = spots_of l.spots.items ++ spots_of_items (items_of (drop l.item-index l.items)) ≡ spots_of_items (items_of l.items)
