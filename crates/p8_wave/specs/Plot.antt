-- A picture of pins as text: a line for each pin with a mark for each column, what stands below them, and what ended the run.
-- Source: this project's profile. A past is a list of turns, the newest first.
use Rattle.std.specs.Prelude.{ℕ, ◌+◌, ◌-◌, ◌*◌, nat_lt, min, max, if◌then◌else◌, Bool, true, false, not, List, [], ◌∷◌, ◌++◌, codes, flat_map, map}
use Rattle.std.specs.Fmt.{decimal}
use Rattle.std.specs.Int.{div_ceil}
use Rattle.std.specs.List.{list_all, range_with_len}
use Rattle.p8_access.specs.declared.order.Turn.{Turn}
use Rattle.p8_access.specs.Worlds.{World}
use Rattle.p8_pins.specs.Levels.{is_high, high_at, end_of}
use Rattle.p8_wave.specs.declared.grid.Column.{Column}
use Rattle.p8_wave.specs.declared.pin_level.PinLevel.{PinLevel}
use Rattle.p8_wave.specs.declared.pin_level.PinLevel.TheVariants.{Low, High, Changing}
use Rattle.p8_wave.specs.declared.view.View.{View}
use Rattle.p8_wave.specs.Axes.{scale_of}
use Rattle.p8_wave.specs.Ending.{end_text}
use Rattle.p8_wave.specs.Scale.{rate}

-- how many clocks a column covers, where so many are shown in at most so many columns: as few as can be
abbrev pub width_of : (most shown : ℕ) → ℕ
width_of most shown = max (div_ceil shown most) 1

-- a column of this width, of those for the clocks from one on and before an end
abbrev pub column_at : (from end width number : ℕ) → Column
column_at from end width number =
    record { number = number; first = from + number * width; end = min (from + number * width + width) end }

-- all columns of this width, the last one up to the end
abbrev pub columns_by : (from end width : ℕ) → List Column
columns_by from end width = map (column_at from end width) (range_with_len 0 (div_ceil (end - from) width))

-- at most so many columns; one where that is 0
unfoldable pub columns_of : (most from end : ℕ) → List Column
columns_of most from end = columns_by from end (width_of (max most 1) (end - from))

-- the clocks that a column covers
abbrev pub clocks_of : Column → List ℕ
clocks_of column = range_with_len column.first (column.end - column.first)

-- what a pin that is high at these clocks shows in a column
abbrev pub mark_of : (high : ℕ → Bool) → Column → PinLevel
mark_of high column =
    if list_all high (clocks_of column) then High
    else if list_all (λ t. not (high t)) (clocks_of column) then Low else Changing

-- a mark in print: in ASCII, or as the UTF-8 bytes of U+2581, U+2594 and U+2573
abbrev pub text_of_mark : (ascii : Bool) → PinLevel → List ℕ
text_of_mark true Low = codes "_"
text_of_mark true High = codes "-"
text_of_mark true Changing = codes "X"
text_of_mark false Low = 226 ∷ 150 ∷ 129 ∷ []
text_of_mark false High = 226 ∷ 150 ∷ 148 ∷ []
text_of_mark false Changing = 226 ∷ 149 ∷ 179 ∷ []

-- the label of a pin, four characters wide
abbrev pub label_of : (pin : ℕ) → List ℕ
label_of pin = codes "P" ++ decimal pin ++ (if nat_lt pin 10 then codes "  " else codes " ")

-- the line of a pin: its label, and a mark for each column
abbrev pub pin_line : (high : ℕ → Bool) (ascii : Bool) (columns : List Column) (pin : ℕ) → List ℕ
pin_line high ascii columns pin =
    label_of pin ++ flat_map (λ column. text_of_mark ascii (mark_of high column)) columns ++ codes "\n"

-- the picture of the pins whose bits are set, from pin 0 on, each with the clocks at which it is high, and below them what is told of so many clocks
-- of a frequency
unfoldable pub picture_of : (high : (pin : ℕ) → ℕ → Bool) (ascii : Bool) (columns : List Column) (pins frequency shown : ℕ) → List ℕ
picture_of high ascii columns pins frequency shown =
    flat_map (λ pin. if is_high pin pins then pin_line (high pin) ascii columns pin else []) (range_with_len 0 32)
    ++ scale_of frequency shown columns

-- that of the clocks of a run from the view's first one on that are before an end
abbrev pub shown_of : World → List Turn → View → (end : ℕ) → List ℕ
shown_of w past view end =
    picture_of (high_at w past) view.ascii (columns_of view.columns view.from end) view.pins (rate w) (end - view.from)

-- the picture of a run: the clocks before the view's end and the run's, and what ended the run
unfoldable pub plot_of : World → List Turn → View → List ℕ
plot_of w past view = shown_of w past view (min view.to (end_of w past)) ++ (end_text w past ++ codes "\n")
