use Rattle.std.proofs.Common.{◌≡◌, drop}
use Rattle.p8_constants.specs.Rules.{has_public}
use Rattle.p8_constants.specs.Standing.{items_of}
use Rattle.p8_constants.proofs.rules.has_public.Given as goal

abbrev pub invariant-loop-item : goal.invariant-loop-item
invariant-loop-item l = has_public (items_of l.items) ≡ has_public (items_of (drop l.item-index l.items))
