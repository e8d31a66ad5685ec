use Rattle.std.proofs.Common.{◌≡◌, ◌≤◌, ℕ, List, length, drop}
use Rattle.p8_fold.specs.ConstantEntries.{at_bytes}
use Rattle.p8_gen.specs.Files.{first_offset}
use Rattle.p8_gen.proofs.labels.Labels.of.Given as goal

abbrev pub invariant-loop-at : goal.invariant-loop-at
invariant-loop-at l = (l.at ≤ length l.labels) × ((name : List ℕ) → at_bytes name l.offsets ≡ first_offset (drop l.at l.labels) name)
