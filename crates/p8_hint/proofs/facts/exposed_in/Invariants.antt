use Rattle.std.proofs.Common.{◌≡◌, drop}
use Rattle.p8_constants.specs.Standing.{items_of}
use Rattle.p8_hint.specs.FileFacts.{exposed_in}
use Rattle.p8_hint.specs.Tables.{number_in}
use Rattle.p8_hint.proofs.facts.exposed_in.Given as goal

abbrev pub invariant-loop-item : goal.invariant-loop-item
invariant-loop-item l = exposed_in (number_in l.reached) (items_of (drop l.item-index l.items)) ≡ exposed_in (number_in l.reached) (items_of l.items)
