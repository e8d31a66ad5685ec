use Rattle.std.proofs.Common.{◌≡◌, ◌++◌, drop}
use Rattle.p8_constants.specs.Names.{names_of}
use Rattle.p8_constants.specs.Standing.{items_of, all_defined_of}
use Rattle.p8_constants.proofs.names.names_of.Given as goal

abbrev pub invariant-loop-item : goal.invariant-loop-item
invariant-loop-item l = names_of (items_of l.items) ≡ all_defined_of l.names.items ++ names_of (items_of (drop l.item-index l.items))
