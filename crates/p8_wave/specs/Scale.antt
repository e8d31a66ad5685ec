-- What a clock lasts, and the time scale of a wave.
use Rattle.std.specs.Prelude.{ℕ, zero, suc, ◌+◌, ◌*◌, ◌/◌, ◌%◌, ◌^◌, nat_eq, if◌then◌else◌, List, [], ◌++◌, Option, Some, None, codes}
use Rattle.std.specs.Fmt.{decimal}
use Rattle.p8_access.specs.declared.kinds.Width.TheVariants.{Long}
use Rattle.p8_access.specs.declared.kinds.Origin.{Origin}
use Rattle.p8_access.specs.declared.kinds.Origin.TheVariants.{Pasm, Spin}
use Rattle.p8_access.specs.Worlds.{World}
use Rattle.p8_access.specs.Hub.{value_at}

-- the frequency in Hz that an image tells in its first long; 0 where there is no image
abbrev pub rate_by : Origin → (told : ℕ) → ℕ
rate_by (Pasm code par) told = 0
rate_by (Spin entry pbase vbase frame size) told = told

abbrev pub rate : World → ℕ
rate w = rate_by w.first (value_at w [] Long 0)

-- the frequency of a wave: 80 MHz where none is told
unfoldable pub frequency : World → ℕ
frequency w = if nat_eq (rate w) 0 then 80000000 else rate w

-- how many femtoseconds a clock lasts, where that is a whole number
unfoldable pub period_of : ℕ → Option ℕ
period_of f = if nat_eq (10 ^ 15 % f) 0 then Some (10 ^ 15 / f) else None

-- how often ten divides a number, at most so often
unfoldable pub tens : ℕ → ℕ → ℕ
tens zero n = 0
tens (suc most) n = if nat_eq (n % 10) 0 then 1 + tens most (n / 10) else 0

-- the unit of time is 10 to this power of femtoseconds: the greatest, up to a second, of which a period is a
-- whole number
abbrev pub power_of : ℕ → ℕ
power_of period = tens 15 period

-- how many units a clock lasts; where its period is no whole number, a clock is taken as one unit
abbrev pub ticks_of : (period : ℕ) → ℕ
ticks_of period = period / 10 ^ power_of period

abbrev pub ticks_in : Option ℕ → ℕ
ticks_in (Some period) = ticks_of period
ticks_in None = 1

-- 1, 10 or 100
abbrev pub count_text : ℕ → List ℕ
count_text power = if nat_eq (power % 3) 0 then codes "1 " else (if nat_eq (power % 3) 1 then codes "10 " else codes "100 ")

-- femto, pico, nano, micro or milliseconds, or seconds
abbrev pub second_text : ℕ → List ℕ
second_text thousands =
    if nat_eq thousands 0 then codes "fs"
    else (if nat_eq thousands 1 then codes "ps"
    else (if nat_eq thousands 2 then codes "ns"
    else (if nat_eq thousands 3 then codes "us"
    else (if nat_eq thousands 4 then codes "ms" else codes "s"))))

-- a unit of 10 to a power of femtoseconds
abbrev pub unit_text : ℕ → List ℕ
unit_text power = count_text power ++ second_text (power / 3)

-- a clock is a whole number of units
abbrev pub exact_text : (period : ℕ) → List ℕ
exact_text period = codes "$timescale " ++ unit_text (power_of period) ++ codes " $end\n"

-- a clock is taken as a nanosecond
abbrev pub tick_text : (f : ℕ) → List ℕ
tick_text f = codes "$timescale 1 ns $end\n$comment A tick is one clock at " ++ decimal f ++ codes " Hz. $end\n"

abbrev pub scale_text : (f : ℕ) → Option ℕ → List ℕ
scale_text f (Some period) = exact_text period
scale_text f None = tick_text f

-- the time of a clock, in units
abbrev pub time_of : World → ℕ → ℕ
time_of w clock = clock * ticks_in (period_of (frequency w))
