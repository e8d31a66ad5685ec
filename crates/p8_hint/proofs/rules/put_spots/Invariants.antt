use Rattle.std.proofs.Common.{◌≡◌, ◌++◌, drop}
use Rattle.std.specs.List.{flat_map}
use Rattle.p8_hint.specs.Rules.{in_spot}
use Rattle.p8_hint.specs.SpotViews.{spots_of}
use Rattle.p8_hint.specs.Tables.{facts_of}
use Rattle.p8_hint.proofs.rules.put_spots.Given as goal

abbrev pub invariant-loop-spot : goal.invariant-loop-spot
invariant-loop-spot l =
    l.hints.items ++ flat_map (in_spot (facts_of l.facts)) (spots_of (drop l.spot-index l.spots)) ≡ l.initial.hints.items ++ flat_map (in_spot (facts_of l.facts)) (spots_of l.spots)
