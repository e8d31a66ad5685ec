-- What stands below the pins of a picture: ticks, and at them clocks and times (this project's profile).
use Rattle.std.specs.Prelude.{ℕ, ◌+◌, ◌-◌, ◌*◌, ◌/◌, ◌%◌, ◌^◌, ◌==◌, ◌≡◌, ◌<◌, nat_eq, nat_lt, if◌then◌else◌, true, List, [], ◌∷◌, ◌++◌, codes}
use Rattle.std.specs.Prelude.{filter, map, length, replicate}
use Rattle.std.specs.Fmt.{decimal}
use Rattle.std.specs.List.{list_all, list_any}
use Rattle.p8_wave.specs.declared.axes.Axis.{Axis}
use Rattle.p8_wave.specs.declared.axes.Axis.TheVariants.{Clocks, Times}
use Rattle.p8_wave.specs.declared.axes.TimeUnit.{TimeUnit}
use Rattle.p8_wave.specs.declared.axes.TimeUnit.TheVariants.{Microseconds, Milliseconds}
use Rattle.p8_wave.specs.declared.grid.Column.{Column}

-- ---- places

-- the first column, and from there on one of so many
abbrev pub every : (step : ℕ) → List Column → List Column
every step columns = filter (λ column. column.number % step == 0) columns

-- texts that begin so many characters apart, with spaces between them, and so many before the first
abbrev pub apart : (step before : ℕ) → List (List ℕ) → List ℕ
apart step before [] = []
apart step before (text ∷ texts) = replicate before 32 ++ text ++ apart step (step - length text) texts

-- a line with a tick at every tenth column
abbrev pub tick_line : List Column → List ℕ
tick_line columns = apart 10 4 (map (λ column. codes "|") (every 10 columns)) ++ codes "\n"

-- ---- times

-- the unit in which times are told where so many clocks of a frequency are shown: microseconds where they last less than 10 milliseconds
abbrev pub unit_for : (frequency shown : ℕ) → TimeUnit
unit_for frequency shown = if nat_lt (shown * 100) frequency then Microseconds else Milliseconds

-- how many thousandths of a unit a second has
abbrev pub thousandths_of : TimeUnit → ℕ
thousandths_of Microseconds = 10 ^ 9
thousandths_of Milliseconds = 10 ^ 6

-- the time at a clock in thousandths of a unit, rounded down
abbrev pub time_at : (frequency : ℕ) → TimeUnit → (clock : ℕ) → ℕ
time_at frequency unit clock = clock * thousandths_of unit / frequency

-- three decimal digits
abbrev pub three_digits : ℕ → List ℕ
three_digits n = (48 + n / 100 % 10) ∷ (48 + n / 10 % 10) ∷ (48 + n % 10) ∷ []

-- so many thousandths, as a number with three digits after the point
abbrev pub thousandths_text : ℕ → List ℕ
thousandths_text n = decimal (n / 1000) ++ (codes "." ++ three_digits n)

-- ---- the lines

-- what a line tells of a clock: its number, or its time
abbrev pub text_at : Axis → (clock : ℕ) → List ℕ
text_at Clocks clock = decimal clock
text_at (Times frequency unit) clock = thousandths_text (time_at frequency unit clock)

-- what the line begins with, four characters
abbrev pub unit_label : TimeUnit → List ℕ
unit_label Microseconds = codes "us  "
unit_label Milliseconds = codes "ms  "

abbrev pub axis_label : Axis → List ℕ
axis_label Clocks = codes "    "
axis_label (Times frequency unit) = unit_label unit

-- how many columns there are for a text: as many as for a tick, and twice as many where that of a column has more than nine characters
abbrev pub step_of : Axis → List Column → ℕ
step_of axis columns = if list_any (λ column. nat_lt 9 (length (text_at axis column.first))) columns then 20 else 10

-- a line with what is told of the clocks at which columns with ticks begin
abbrev pub axis_by : (step : ℕ) → Axis → List Column → List ℕ
axis_by step axis columns = axis_label axis ++ apart step 0 (map (λ column. text_at axis column.first) (every step columns)) ++ codes "\n"

abbrev pub axis_line : Axis → List Column → List ℕ
axis_line axis columns = axis_by (step_of axis columns) axis columns

-- the line of the times, where a frequency is told
abbrev pub time_line : (frequency shown : ℕ) → List Column → List ℕ
time_line frequency shown columns = if nat_eq frequency 0 then [] else axis_line (Times frequency (unit_for frequency shown)) columns

-- all of them; none where there are no columns
abbrev pub scale_of : (frequency shown : ℕ) → List Column → List ℕ
scale_of frequency shown [] = []
scale_of frequency shown (column ∷ columns) =
    tick_line (column ∷ columns) ++ axis_line Clocks (column ∷ columns) ++ time_line frequency shown (column ∷ columns)

-- each text of a line is shorter than the place that it has
abbrev pub AreApart : Axis → List Column → Type 0
AreApart axis columns = list_all (λ column. nat_lt (length (text_at axis column.first)) (step_of axis columns)) columns ≡ true

-- the times of a line are of some frequency
abbrev pub IsTold : Axis → Type 0
IsTold Clocks = Unit {0}
IsTold (Times frequency unit) = 0 < frequency
