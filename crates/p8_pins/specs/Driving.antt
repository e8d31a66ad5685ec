-- internal
-- The registers OUTA and DIRA of the eight cogs along the turns of a run. A past is a list of turns, the newest first.
use Rattle.std.specs.Prelude.{ℕ, zero, suc, ◌≡◌, ◌<◌, ◌≤◌, List, [], ◌∷◌, Option, None, reverse, slice_index, bit_or}
use Rattle.p8_access.specs.declared.order.Turn.{Turn}
use Rattle.p8_access.specs.Hub.{newest}
use Rattle.p8_access.specs.Pins.{outa_of, dira_of, outa_by, dira_by}
use Rattle.p8_pins.specs.Levels.{by}
use Rattle.p8_pins.specs.declared.registers.Registers.{Registers}

-- the bits that some of the first have
abbrev pub gathered : (ℕ → ℕ) → ℕ → ℕ
gathered f zero = 0
gathered f (suc n) = bit_or (gathered f n) (f n)

-- what a turn does to a register of a cog
abbrev pub outa_told : ℕ → Turn → Option ℕ
outa_told n turn = outa_by n turn.key.cog turn.access turn.answer

abbrev pub dira_told : ℕ → Turn → Option ℕ
dira_told n turn = dira_by n turn.key.cog turn.access turn.answer

-- a turn changes no register of the eight cogs
abbrev pub TouchesNone : Turn → Type 0
TouchesNone turn = (n : ℕ) → n < 8 → (outa_told n turn ≡ None) × (dira_told n turn ≡ None)

-- these registers are those of the eight cogs after a past
pub record AreAfter (past : List Turn) (registers : Registers) : Type 0 where
  pub outa : (n : ℕ) → n < 8 → outa_of past n ≡ slice_index registers.outa n
  pub dira : (n : ℕ) → n < 8 → dira_of past n ≡ slice_index registers.dira n

-- from a clock on the registers of a run are these, changed by those of the turns to come that aren't later
pub record StandFor (past : List Turn) (clock : ℕ) (registers : Registers) (to_come : List Turn) : Type 0 where
  pub outa : (t n : ℕ) → clock ≤ t → n < 8 → outa_of (by past t) n ≡ newest (outa_told n) (slice_index registers.outa n) (by (reverse to_come) t)
  pub dira : (t n : ℕ) → clock ≤ t → n < 8 → dira_of (by past t) n ≡ newest (dira_told n) (slice_index registers.dira n) (by (reverse to_come) t)

-- the clocks of turns, the oldest first, never fall, and none is before this one
abbrev pub ComeFrom : ℕ → List Turn → Type 0
ComeFrom clock [] = Unit {0}
ComeFrom clock (turn ∷ turns) = (clock ≤ turn.key.clock) × ComeFrom turn.key.clock turns
