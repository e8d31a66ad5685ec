use Rattle.std.proofs.Common.{◌≡◌, length, take}
use Rattle.std.specs.Prelude.{min}
use Rattle.p8_constants.specs.Standing.{items_of}
use Rattle.p8_names.specs.Kinds.{greatest_number, publics}
use Rattle.p8_names.proofs.next_kinds.count_of_publics.Given as goal

abbrev pub invariant-loop-item : goal.invariant-loop-item
invariant-loop-item l = l.count ≡ min (length (publics (items_of (take l.item-index l.items)))) greatest_number
