use Rattle.std.proofs.Common.{◌≡◌, drop}
use Rattle.p8_constants.specs.Standing.{items_of}
use Rattle.p8_build.specs.Arguments.{params_of}
use Rattle.p8_build.proofs.arguments.params_of.Given as goal

abbrev pub invariant-loop-item : goal.invariant-loop-item
invariant-loop-item l = params_of (items_of (drop l.item-index l.items)) l.name ≡ params_of (items_of l.items) l.name
