use Rattle.std.proofs.Common.{◌≤◌, length, drop, None}
use Rattle.p8_fold.specs.ConstantEntries.{setting_of}
use Rattle.p8_constants.specs.Standing.{items_of}
use Rattle.p8_names.specs.Settings.{definition, meaning_outside}
use Rattle.p8_names.specs.Changes.{HasNames}
use Rattle.p8_names.proofs.outside.put_items.Given as goal

abbrev pub invariant-loop-at : goal.invariant-loop-at
invariant-loop-at l = (l.at ≤ length l.items) × HasNames (setting_of l.initial.consts) (setting_of l.consts) (λ n. meaning_outside None (definition (items_of (drop l.at l.items)) n))
