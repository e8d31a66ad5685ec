use Rattle.std.proofs.Common.{◌≡◌, ◌≤◌, ℕ, List, length, drop}
use Rattle.p8_fold.specs.ConstantEntries.{setting_of}
use Rattle.p8_constants.specs.Standing.{items_of}
use Rattle.p8_hint.specs.FileFacts.{array_in}
use Rattle.p8_hint.specs.Tables.{number_in}
use Rattle.p8_hint.proofs.facts.arrays_of.Given as goal

abbrev pub invariant-loop-at : goal.invariant-loop-at
invariant-loop-at l = (l.at ≤ length l.items) × ((name : List ℕ) → number_in l.table name ≡ array_in (setting_of l.consts) (items_of (drop l.at l.items)) name)
