-- The program counter of an access: where the bytecode stands that asks it.
use Rattle.std.specs.Prelude.{ℕ, ◌+◌, ◌≡◌, List, Option, Some, None}
use Rattle.p8_access.specs.declared.kinds.Access.{Access}
use Rattle.p8_access.specs.declared.order.Turn.{Turn}
use Rattle.p8_access.specs.Lives.{Entered, Begun, PasmBegun, SpinBegun}
use Rattle.p8_access.specs.Timing.{Asks, Goes}
use Rattle.p8_bcog.specs.declared.state.SpinState.{SpinState}
use Rattle.p8_bcog.specs.Replay.{lived, IsEntering}

-- after these turns the life's next access is asked by the bytecode at this address: so many bytecodes are done whole, the
-- next one stands there, and it asks
abbrev pub IsAskedFrom : Entered → List Turn → (address : ℕ) → Type 0
IsAskedFrom entered turns address =
    (done : ℕ) × (s : SpinState) × (begin : ℕ) × (left : List Turn) × (clock : ℕ) × (access : Access)
    × (lived done entered turns ≡ Goes s begin left) × (lived (done + 1) entered turns ≡ Asks clock access) × (s.at ≡ address)

-- the counter of the access that a life asks next after these turns: the write with which Spin enters its method has none,
-- and PASM has none
abbrev pub IsCounter : Begun → List Turn → Option ℕ → Type 0
IsCounter (SpinBegun entered) turns (Some address) = IsAskedFrom entered turns address
IsCounter (SpinBegun entered) turns None = IsEntering entered turns
IsCounter (PasmBegun loaded) turns (Some address) = ⊥
IsCounter (PasmBegun loaded) turns None = Unit {0}

-- an access is announced
abbrev pub IsAnnouncing : Option (ℕ × Access) → Type 0
IsAnnouncing (Some asked) = Unit {0}
IsAnnouncing None = ⊥
