use Rattle.std.proofs.Common.{◌≡◌, ◌≤◌, ℕ, List, length, drop, map}
use Rattle.p8_tree.specs.Views.{method_of}
use Rattle.p8_hint.specs.FileFacts.{needed_in}
use Rattle.p8_hint.specs.Tables.{number_in}
use Rattle.p8_hint.proofs.facts.needed_in.Given as goal

abbrev pub invariant-loop-at : goal.invariant-loop-at
invariant-loop-at l = (l.at ≤ length l.methods) × ((name : List ℕ) → number_in l.table name ≡ needed_in (map (λ m. method_of m.now) (drop l.at l.methods)) (drop l.at l.codes) name)
