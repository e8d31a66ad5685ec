-- How a program's clock is told (Propeller Manual v1.2, _CLKMODE, _CLKFREQ, _XINFREQ, Clock Constants; the numbers of the constants, the
-- mode bytes and the rule on both frequencies are this project's profile).
--
-- RCFAST 1, RCSLOW 2, XINPUT 4, XTAL1 8, XTAL2 $10, XTAL3 $20, PLL1X $40, PLL2X $80, PLL4X $100, PLL8X $200, PLL16X $400
use Rattle.std.specs.Prelude.{ℕ, ◌*◌, ◌%◌, ◌^◌, ◌==◌, if◌then◌else◌, List, [], ◌∷◌, Option, Some, None, option_map}
use Rattle.p8_image.specs.declared.clocks.Clock.{Clock}

-- the external modes: the value of _CLKMODE, the mode byte, and by how much the clock is faster than what comes in
abbrev pub external_modes : List (ℕ × ℕ × ℕ)
external_modes =
    (0x004, 0x22, 1) ∷ (0x008, 0x2A, 1) ∷ (0x010, 0x32, 1) ∷ (0x020, 0x3A, 1) ∷
    (0x044, 0x63, 1) ∷ (0x048, 0x6B, 1) ∷ (0x050, 0x73, 1) ∷ (0x060, 0x7B, 1) ∷
    (0x084, 0x64, 2) ∷ (0x088, 0x6C, 2) ∷ (0x090, 0x74, 2) ∷ (0x0A0, 0x7C, 2) ∷
    (0x104, 0x65, 4) ∷ (0x108, 0x6D, 4) ∷ (0x110, 0x75, 4) ∷ (0x120, 0x7D, 4) ∷
    (0x204, 0x66, 8) ∷ (0x208, 0x6E, 8) ∷ (0x210, 0x76, 8) ∷ (0x220, 0x7E, 8) ∷
    (0x404, 0x67, 16) ∷ (0x408, 0x6F, 16) ∷ (0x410, 0x77, 16) ∷ (0x420, 0x7F, 16) ∷
    []

-- the frequency of an external mode: it is given, or what comes in is; where both are, they agree
abbrev pub frequency_of : (factor : ℕ) → (frequency input : Option ℕ) → Option ℕ
frequency_of factor None None = None
frequency_of factor (Some frequency) None = Some frequency
frequency_of factor None (Some input) = Some (input * factor % 2 ^ 32)
frequency_of factor (Some frequency) (Some input) = if frequency == input * factor % 2 ^ 32 then Some frequency else None

-- an external mode with its frequency, if the mode is one of these and the frequency is told
abbrev pub external_clock : List (ℕ × ℕ × ℕ) → (mode : ℕ) → (frequency input : Option ℕ) → Option Clock
external_clock [] mode frequency input = None
external_clock (row ∷ rows) mode frequency input =
    if row.0 == mode then option_map (λ (f : ℕ). record { mode = row.1; frequency = f }) (frequency_of row.2 frequency input)
    else external_clock rows mode frequency input

-- the chip's own oscillators
abbrev pub fast : Clock
fast = record { mode = 0; frequency = 12000000 }

abbrev pub slow : Clock
slow = record { mode = 1; frequency = 20000 }

-- the clock of a program by the values of _CLKMODE, _CLKFREQ and _XINFREQ, as far as they are given, or None where they tell none
abbrev pub clock_of : (mode frequency input : Option ℕ) → Option Clock
clock_of None frequency input = Some fast
clock_of (Some mode) frequency input =
    if mode == 1 then Some fast else (if mode == 2 then Some slow else external_clock external_modes mode frequency input)
