use Rattle.std.proofs.Common.{◌≡◌, ◌+◌, ◌≤◌, drop}
use Rattle.std.specs.Prelude.{min, nat_lt}
use Rattle.p8_fold.specs.ConstantEntries.{setting_of}
use Rattle.p8_constants.specs.Standing.{items_of}
use Rattle.p8_names.specs.Kinds.{greatest_offset, room}
use Rattle.p8_names.proofs.next_kinds.room_above.Given as goal

abbrev pub invariant-loop-item : goal.invariant-loop-item
invariant-loop-item l =
    (l.room ≤ greatest_offset) × (min (room (setting_of l.consts) (nat_lt l.size) (items_of l.items)) greatest_offset ≡ min (l.room + room (setting_of l.consts) (nat_lt l.size) (items_of (drop l.item-index l.items))) greatest_offset)
