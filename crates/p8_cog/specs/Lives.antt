-- The lives of the whole program: what each kind asks, and what it begins with.
use Rattle.std.specs.Prelude.{ℕ, ◌%◌, ◌≡◌, ◌≤◌, List}
use Rattle.p8_access.specs.declared.kinds.Origin.{Origin}
use Rattle.p8_access.specs.declared.kinds.Origin.TheVariants.{Pasm, Spin}
use Rattle.p8_access.specs.declared.kinds.Access.{Access}
use Rattle.p8_access.specs.declared.order.Turn.{Turn}
use Rattle.p8_access.specs.Lives.{Begun, PasmBegun, SpinBegun}
use Rattle.p8_access.specs.Proper.{IsProperOrigin}
use Rattle.p8_bcog.specs.Replay as Bytecodes
use Rattle.p8_cog.specs.Replay as Instructions

-- after these turns a life asks this access next, from this clock on
abbrev pub asks : Begun → List Turn → ℕ → Access → Type 0
asks (PasmBegun loaded) turns clock access = Instructions.IsAsked (PasmBegun loaded) turns clock access
asks (SpinBegun entered) turns clock access = Bytecodes.IsAsked (SpinBegun entered) turns clock access

-- with these turns so many instructions or bytecodes are done whole, and the next one begins at this clock
abbrev pub begins : Begun → List Turn → (place clock : ℕ) → Type 0
begins (PasmBegun loaded) turns place clock = Instructions.Begins (PasmBegun loaded) turns place clock
begins (SpinBegun entered) turns place clock = Bytecodes.Begins (SpinBegun entered) turns place clock

-- what a life begins with whose first turn, Load or Begin, comes at a clock in a cog; Spin has the boot's
-- memory too
abbrev pub begun_by : (memory : List ℕ) → Origin → (cog first : ℕ) → Begun
begun_by memory (Pasm code par) cog first =
    PasmBegun (record { code = code; par = par; cog = cog; load = first })
begun_by memory (Spin entry pbase vbase frame size) cog first =
    SpinBegun (record { memory = memory; origin = Spin entry pbase vbase frame size; cog = cog; begin = first })

-- a life can begin with this: Spin, and PASM whose 496 longs stand below $8000, from a multiple of 4 on
abbrev pub IsStartable : Origin → Type 0
IsStartable (Pasm code par) = (code % 4 ≡ 0) × (code ≤ 30784)
IsStartable (Spin entry pbase vbase frame size) = IsProperOrigin (Spin entry pbase vbase frame size)
