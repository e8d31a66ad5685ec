-- The lines of a view: one for each turn that is shown, the oldest first (this project's profile). A past is a list of turns, the newest
-- first.
use Rattle.std.specs.Prelude.{ℕ, ◌+◌, ◌-◌, ◌*◌, ◌/◌, ◌%◌, ◌^◌, ◌&&◌, ◌||◌, nat_eq, nat_le, nat_lt, not, if◌then◌else◌, Bool, true, false, List, []}
use Rattle.std.specs.Prelude.{◌∷◌, ◌++◌, length, Option, Some, None, slice_get, codes}
use Rattle.std.specs.Fmt.{decimal}
use Rattle.p8_access.specs.declared.kinds.Width.TheVariants.{Long}
use Rattle.p8_access.specs.declared.kinds.Origin.{Origin}
use Rattle.p8_access.specs.declared.kinds.Origin.TheVariants.{Pasm, Spin}
use Rattle.p8_access.specs.declared.kinds.Access.{Access}
use Rattle.p8_access.specs.declared.kinds.Access.TheVariants.{Begin, Load, Read}
use Rattle.p8_access.specs.declared.order.Turn.{Turn}
use Rattle.p8_access.specs.Worlds.{World}
use Rattle.p8_access.specs.Hub.{value_at, cog_state, origin_of}
use Rattle.p8_legend.specs.declared.legend.Legend.{Legend}
use Rattle.p8_view.specs.declared.drives.Drives.{Drives}
use Rattle.p8_view.specs.declared.turns.ViewOptions.{ViewOptions}
use Rattle.p8_view.specs.Drives.{drives_of, pins_text}
use Rattle.p8_view.specs.Words.{access_text, local_for, place_for}

-- ---- time

-- the frequency in Hz that an image tells in its first long; 0 where there is no image
abbrev pub rate_by : Origin → (told : ℕ) → ℕ
rate_by (Pasm code par) told = 0
rate_by (Spin entry pbase vbase frame size) told = told

abbrev pub rate : World → ℕ
rate w = rate_by w.first (value_at w [] Long 0)

-- three decimal digits
abbrev pub three_digits : ℕ → List ℕ
three_digits n = (48 + n / 100 % 10) ∷ (48 + n / 10 % 10) ∷ (48 + n % 10) ∷ []

-- so many nanoseconds, in microseconds
abbrev pub micro_text : (nanoseconds : ℕ) → List ℕ
micro_text n = decimal (n / 1000) ++ codes "." ++ three_digits n ++ codes " us "

-- the time at a clock, rounded down; nothing where no frequency is told
abbrev pub time_text : (frequency clock : ℕ) → List ℕ
time_text frequency clock = if nat_eq frequency 0 then [] else micro_text (clock * 10 ^ 9 / frequency)

-- ---- which turns are shown

-- how many of the 496 reads of its load a cog has still to make
abbrev pub left_after : Access → (left : ℕ) → ℕ
left_after Load left = 496
left_after Begin left = 0
left_after access left = left - 1

abbrev pub loading : List Turn → (cog : ℕ) → ℕ
loading [] cog = 0
loading (turn ∷ past) cog = if nat_eq turn.key.cog cog then left_after turn.access (loading past cog) else loading past cog

-- a read of a load
abbrev pub is_loaded : Access → (left : ℕ) → Bool
is_loaded (Read width address) left = nat_lt 0 left
is_loaded access left = false

-- of the cog that is asked for, or of any
abbrev pub is_of : Option ℕ → (cog : ℕ) → Bool
is_of None cog = true
is_of (Some n) cog = nat_eq n cog

abbrev pub same_drives : Drives → Drives → Bool
same_drives a b = nat_eq a.directions b.directions && nat_eq a.high b.high

-- the turn of a cog at a clock is asked for, where it changes pins or not
abbrev pub is_asked : ViewOptions → (clock cog : ℕ) → (changes : Bool) → Bool
is_asked options clock cog changes =
    not options.quiet && is_of options.cog cog && nat_le options.from clock && nat_lt clock options.to && (not options.pins_only || changes)

-- a turn after a past is shown: it is asked for, and isn't a read of a load
abbrev pub is_shown : ViewOptions → (past : List Turn) → Turn → Bool
is_shown options past turn =
    is_asked options turn.key.clock turn.key.cog (not (same_drives (drives_of past) (drives_of (turn ∷ past))))
    && not (is_loaded turn.access (loading past turn.key.cog))

-- ---- the lines

-- the counter of the turn of this number, where one is known
abbrev pub counter_or : Option (Option ℕ) → Option ℕ
counter_or None = None
counter_or (Some counter) = counter

abbrev pub counter_of : List (Option ℕ) → (number : ℕ) → Option ℕ
counter_of counters number = counter_or (slice_get counters number)

-- its clock and time, and its cog
abbrev pub when_text : (frequency : ℕ) → Turn → List ℕ
when_text frequency turn = decimal turn.key.clock ++ codes " " ++ time_text frequency turn.key.clock ++ codes "cog " ++ decimal turn.key.cog ++ codes " "

-- what its cog does, which was started with this, the pins that change, and the place in the source
abbrev pub what_text : Legend → (own : Origin) → Turn → (before after : Drives) → (counter : Option ℕ) → List ℕ
what_text legend own turn before after counter =
    access_text legend.names own (local_for legend own counter) turn.access turn.answer ++ pins_text before after ++ place_for legend own counter ++ 10 ∷ []

-- the line of a turn after a past
abbrev pub turn_line : Legend → World → List Turn → Turn → (counter : Option ℕ) → List ℕ
turn_line legend w past turn counter =
    when_text (rate w) turn ++ what_text legend (origin_of (cog_state w past turn.key.cog)) turn (drives_of past) (drives_of (turn ∷ past)) counter

abbrev pub shown_line : ViewOptions → Legend → World → List Turn → Turn → (counter : Option ℕ) → List ℕ
shown_line options legend w past turn counter = if is_shown options past turn then turn_line legend w past turn counter else []

-- the lines of a past; the counters are those of its turns, the oldest first
abbrev pub lines_of : ViewOptions → Legend → World → List (Option ℕ) → List Turn → List ℕ
lines_of options legend w counters [] = []
lines_of options legend w counters (turn ∷ past) =
    lines_of options legend w counters past ++ shown_line options legend w past turn (counter_of counters (length past))
