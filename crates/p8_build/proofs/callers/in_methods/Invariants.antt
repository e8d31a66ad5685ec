use Rattle.std.proofs.Common.{◌≡◌, drop}
use Rattle.p8_constants.specs.Standing.{items_of}
use Rattle.p8_build.specs.Arguments.{in_methods}
use Rattle.p8_build.specs.Searching.{search_of}
use Rattle.p8_build.proofs.callers.in_methods.Given as goal

abbrev pub invariant-loop-item : goal.invariant-loop-item
invariant-loop-item l = in_methods (search_of l.sought) (items_of (drop l.item-index l.items)) ≡ in_methods (search_of l.sought) (items_of l.items)
