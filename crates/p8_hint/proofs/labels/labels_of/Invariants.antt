use Rattle.std.proofs.Common.{◌≡◌, ◌≤◌, ℕ, List, length, drop}
use Rattle.p8_constants.specs.Standing.{items_of}
use Rattle.p8_hint.specs.FileFacts.{is_code, on_code_in}
use Rattle.p8_hint.specs.Tables.{number_in}
use Rattle.p8_hint.proofs.labels.labels_of.Given as goal

abbrev pub invariant-loop-at : goal.invariant-loop-at
invariant-loop-at l =
    (l.at ≤ length l.items) × (l.is_code ≡ is_code (items_of (drop l.at l.items))) × ((name : List ℕ) → number_in l.table name ≡ on_code_in (items_of (drop l.at l.items)) name)
