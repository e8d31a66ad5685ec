use Rattle.std.proofs.Common.{◌≡◌, ◌≤◌, ℕ, List, length, drop}
use Rattle.p8_hint.specs.Rules.{reached_in}
use Rattle.p8_hint.specs.SpotViews.{spots_of}
use Rattle.p8_hint.specs.Tables.{number_in}
use Rattle.p8_hint.proofs.facts.reached_in.Given as goal

abbrev pub invariant-loop-at : goal.invariant-loop-at
invariant-loop-at l = (l.at ≤ length l.spots) × ((name : List ℕ) → number_in l.table name ≡ reached_in (spots_of (drop l.at l.spots)) name)
