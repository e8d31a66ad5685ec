-- What the cogs do to the 32 pins, and how a turn changes it. A past is a list of turns, the newest first.
use Rattle.std.specs.Prelude.{ℕ, not, if◌then◌else◌, Bool, true, false, List, [], ◌++◌, codes}
use Rattle.std.specs.Fmt.{decimal}
use Rattle.std.specs.List.{range_with_len, flat_map}
use Rattle.p8_access.specs.declared.order.Turn.{Turn}
use Rattle.p8_access.specs.Pins.{dira, outputs}
use Rattle.p8_pins.specs.Levels.{is_high}
use Rattle.p8_view.specs.declared.drives.Drives.{Drives}

-- the pins that are outputs, and those of them that are high
abbrev pub drives_of : List Turn → Drives
drives_of past = record { directions = dira past; high = outputs past }

abbrev pub differ : Bool → Bool → Bool
differ true b = not b
differ false b = b

-- a pin is an output where it was an input or the other way round, or its level as an output is another one
abbrev pub pin_changes : (before after : Drives) → (pin : ℕ) → Bool
pin_changes before after pin =
    if differ (is_high pin before.directions) (is_high pin after.directions) then true else differ (is_high pin before.high) (is_high pin after.high)

-- what a pin is
abbrev pub pin_word : Drives → (pin : ℕ) → List ℕ
pin_word d pin = if is_high pin d.directions then (if is_high pin d.high then codes " high" else codes " low") else codes " input"

abbrev pub pin_text : (before after : Drives) → (pin : ℕ) → List ℕ
pin_text before after pin = if pin_changes before after pin then codes ", " ++ decimal pin ++ pin_word after pin else []

-- each pin that changes, and what it is then
abbrev pub pins_text : (before after : Drives) → List ℕ
pins_text before after = flat_map (pin_text before after) (range_with_len 0 32)
