-- The 32 pins after some turns (Propeller Manual v1.2, INA, OUTA, DIRA), and the tests of waits.
-- A past is a list of turns, the newest first.
use Rattle.std.specs.Prelude.{ℕ, ◌-◌, ◌%◌, ◌^◌, ◌==◌, ◌≡◌, if◌then◌else◌, bit_and, bit_or, bit_xor, List, [], ◌∷◌, Option, Some, None}
use Rattle.p8_access.specs.declared.kinds.Access.{Access}
use Rattle.p8_access.specs.declared.kinds.Access.TheVariants.{CogInit, CogStop, OutSet, DirSet, Halt}
use Rattle.p8_access.specs.declared.kinds.Answer.{Answer}
use Rattle.p8_access.specs.declared.kinds.Test.{Test}
use Rattle.p8_access.specs.declared.kinds.Test.TheVariants.{Count, PinsEqual, PinsDiffer}
use Rattle.p8_access.specs.declared.order.Turn.{Turn}
use Rattle.p8_access.specs.Hub.{newest, is_number, cogs}
use Rattle.p8_access.specs.Worlds.{World, level_at}

-- a start, a stop or a halt of a cog clears its OUTA and DIRA
abbrev pub clears_by : ℕ → (cog : ℕ) → Access → Answer → Option ℕ
clears_by n cog (CogInit target origin) answer = if is_number n answer then Some 0 else None
clears_by n cog (CogStop target) answer = if target == n then Some 0 else None
clears_by n cog (Halt reason) answer = if cog == n then Some 0 else None
clears_by n cog _ answer = None

abbrev pub outa_by : ℕ → (cog : ℕ) → Access → Answer → Option ℕ
outa_by n cog (OutSet value) answer = if cog == n then Some value else None
outa_by n cog access answer = clears_by n cog access answer

abbrev pub dira_by : ℕ → (cog : ℕ) → Access → Answer → Option ℕ
dira_by n cog (DirSet value) answer = if cog == n then Some value else None
dira_by n cog access answer = clears_by n cog access answer

-- the registers OUTA and DIRA of a cog
abbrev pub outa_of : List Turn → ℕ → ℕ
outa_of past n = newest (λ (turn : Turn). outa_by n turn.key.cog turn.access turn.answer) 0 past

abbrev pub dira_of : List Turn → ℕ → ℕ
dira_of past n = newest (λ (turn : Turn). dira_by n turn.key.cog turn.access turn.answer) 0 past

-- the bits that some of these have
abbrev pub or_all : (ℕ → ℕ) → List ℕ → ℕ
or_all f [] = 0
or_all f (n ∷ ns) = bit_or (f n) (or_all f ns)

-- the pins that some cog makes outputs
unfoldable pub dira : List Turn → ℕ
dira past = or_all (dira_of past) cogs

-- the outputs that some cog with that direction makes high
unfoldable pub outputs : List Turn → ℕ
outputs past = or_all (λ (n : ℕ). bit_and (outa_of past n) (dira_of past n)) cogs

-- all pins: an output as the cogs make it, an input as these levels have it
abbrev pub pins_with : (directions outs levels : ℕ) → ℕ
pins_with directions outs levels = bit_or outs (bit_and levels (bit_xor directions (2 ^ 32 - 1)))

-- the pins at a clock
abbrev pub pins_at : World → List Turn → ℕ → ℕ
pins_at w past clock = pins_with (dira past) (outputs past) (level_at w.script clock)

-- a test holds at a clock with these pins
abbrev pub Holds : Test → (pins clock : ℕ) → Type 0
Holds (Count target) pins clock = clock % 2 ^ 32 ≡ target
Holds (PinsEqual state mask) pins clock = bit_and pins mask ≡ state
Holds (PinsDiffer state mask) pins clock = bit_and pins mask ≡ state → ⊥
