use Rattle.std.proofs.Common.{◌≡◌, ◌++◌, drop}
use Rattle.p8_constants.specs.Standing.{items_of}
use Rattle.p8_hint.specs.Rules.{hints_in}
use Rattle.p8_hint.specs.Tables.{facts_of}
use Rattle.p8_hint.proofs.items.hints_in.Given as goal

abbrev pub invariant-loop-item : goal.invariant-loop-item
invariant-loop-item l = l.hints.items ++ hints_in (facts_of l.facts) (items_of (drop l.item-index l.items)) ≡ hints_in (facts_of l.facts) (items_of l.items)
