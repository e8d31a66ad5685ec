-- The counter of an access, for every kind of life: for Spin where the bytecode stands that asks it, and for PASM where the long came from that asks it.
use Rattle.std.specs.Prelude.{ℕ, ◌+◌, ◌*◌, ◌^◌, ◌==◌, ◌&&◌, ◌≡◌, nat_lt, if◌then◌else◌, List, Option, Some, None, slice_index}
use Rattle.p8_access.specs.declared.kinds.Access.{Access}
use Rattle.p8_access.specs.declared.order.Turn.{Turn}
use Rattle.p8_access.specs.Lives.{Loaded, Begun, PasmBegun, SpinBegun}
use Rattle.p8_bcog.specs.Counters.{IsCounter}
use Rattle.p8_cog.specs.declared.state.PasmState.{PasmState}
use Rattle.p8_cog.specs.Replay.{Asks, Goes, IsLoading, replayed}

-- a long of a memory, the lowest byte first
abbrev pub long_at : (memory : List ℕ) (address : ℕ) → ℕ
long_at memory a = slice_index memory a + 256 * slice_index memory (a + 1) + 256 ^ 2 * slice_index memory (a + 2) + 256 ^ 3 * slice_index memory (a + 3)

-- Where the long came from that a cog executes, which was started at this address, and in which it stands in this register: the address from which the register
-- is loaded, if a memory has this long there. The first 496 registers are loaded.
abbrev pub loaded_from : (memory : List ℕ) (code register long : ℕ) → Option ℕ
loaded_from memory code register long =
    if nat_lt register 496 && long_at memory (code + 4 * register) == long then Some (code + 4 * register) else None

-- After these turns the life's next access is asked by the instruction in this register, which is this long: so many instructions are done whole, the next one
-- stands there, and it asks.
pub record IsAskedIn (loaded : Loaded) (turns : List Turn) (register long : ℕ) : Type 0 where
  pub done : ℕ
  pub s : PasmState
  pub left : List Turn
  pub clock : ℕ
  pub access : Access
  pub goes : replayed done loaded turns ≡ Goes s left
  pub asks : replayed (done + 1) loaded turns ≡ Asks clock access
  pub here : s.at ≡ register
  pub long_is : s.long ≡ long

-- the counter of the access that a life of PASM asks next after these turns; a read of its load has none
pub data IsPasmCounter (memory : List ℕ) (loaded : Loaded) (turns : List Turn) (counter : Option ℕ) : Type 0 where
  of_load : IsLoading loaded turns → counter ≡ None → IsPasmCounter memory loaded turns counter
  of_instruction : (register long : ℕ) → IsAskedIn loaded turns register long → counter ≡ loaded_from memory loaded.code register long →
      IsPasmCounter memory loaded turns counter

-- the counter of the access that a life asks next after these turns, in a run that begins with this memory
abbrev pub IsCounterOf : (memory : List ℕ) → Begun → List Turn → Option ℕ → Type 0
IsCounterOf memory (PasmBegun loaded) turns counter = IsPasmCounter memory loaded turns counter
IsCounterOf memory (SpinBegun entered) turns counter = IsCounter (SpinBegun entered) turns counter
