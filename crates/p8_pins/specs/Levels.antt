-- The level of a pin at each clock of a run (Propeller Manual v1.2, INA, OUTA, DIRA; a turn is seen at its own clock).
-- A past is a list of turns, the newest first.
use Rattle.std.specs.Prelude.{ℕ, ◌==◌, nat_le, if◌then◌else◌, Bool, List, [], ◌∷◌, length, filter}
use Rattle.std.specs.Int.{bit_at}
use Rattle.p8_access.specs.declared.order.Turn.{Turn}
use Rattle.p8_access.specs.Worlds.{World}
use Rattle.p8_access.specs.Pins.{pins_at}

-- the turns of a past whose clock isn't later than this one
abbrev pub by : List Turn → ℕ → List Turn
by past t = filter (λ (turn : Turn). nat_le turn.key.clock t) past

-- the 32 pins at a clock: as the turns with clock at most this one leave them, with the script at this clock
unfoldable pub pins_when : World → List Turn → ℕ → ℕ
pins_when w past t = pins_at w (by past t) t

-- whether a pin is high, of 32
unfoldable pub is_high : (pin pins : ℕ) → Bool
is_high pin pins = bit_at pins pin == 1

-- whether a pin is high at a clock
abbrev pub high_at : World → List Turn → (pin : ℕ) → ℕ → Bool
high_at w past pin t = is_high pin (pins_when w past t)

-- the clock of the newest turn, 0 where there is none
abbrev pub last_clock : List Turn → ℕ
last_clock [] = 0
last_clock (turn ∷ past) = turn.key.clock

-- where a run ends: at its limit of clocks, or at its last turn's clock where it has as many turns as it may have
unfoldable pub end_of : World → List Turn → ℕ
end_of w past = if length past == w.turns then last_clock past else w.clocks
