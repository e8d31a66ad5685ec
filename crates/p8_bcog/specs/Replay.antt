-- The life of a Spin cog, replayed whole from its start: the write of its entry, and then bytecode by bytecode.
use Rattle.std.specs.Prelude.{ℕ, ◌+◌, ◌≡◌, ◌⊎◌, List, [], None}
use Rattle.p8_access.specs.declared.kinds.Width.TheVariants.{Long}
use Rattle.p8_access.specs.declared.kinds.Origin.{Origin}
use Rattle.p8_access.specs.declared.kinds.Origin.TheVariants.{Pasm, Spin}
use Rattle.p8_access.specs.declared.kinds.Access.{Access}
use Rattle.p8_access.specs.declared.kinds.Answer.{Answer}
use Rattle.p8_access.specs.declared.order.Turn.{Turn}
use Rattle.p8_access.specs.Windows.{window_of}
use Rattle.p8_access.specs.Lives.{Entered, Begun, PasmBegun, SpinBegun}
use Rattle.p8_access.specs.Courses.{Course, Told}
use Rattle.p8_access.specs.Timing.{Outcome, Asks, Goes, Ends}
use Rattle.p8_access.specs.Replays.{Engine, replayed, retold}
use Rattle.p8_bcog.specs.declared.state.SpinState.{SpinState}
use Rattle.p8_bcog.specs.Accesses.{ends, write_of}
use Rattle.p8_bcog.specs.Bytecodes.{bytecode, clocks}

-- what stands in the cog where its first bytecode begins: nothing on the stack, no mark and no call, and 0 in its registers
-- but PAR, which is the frame
abbrev pub first_with : (entry pbase vbase frame size : ℕ) → SpinState
first_with entry pbase vbase frame size = record {
  at = entry;
  pbase = pbase;
  vbase = vbase;
  frame = frame;
  size = size;
  base = 0;
  stack = [];
  marks = [];
  calls = [];
  outa = 0;
  outb = 0;
  dira = 0;
  dirb = 0;
  par = frame;
}

abbrev pub first_of : Origin → SpinState
first_of (Spin entry pbase vbase frame size) = first_with entry pbase vbase frame size
first_of (Pasm code par) = first_with 0 0 0 0 0

-- the entry of a life writes 0 to the frame's result
abbrev pub enters_at : SpinState → Course SpinState
enters_at s = ends (write_of Long s.frame 0) None s

abbrev pub entry_of : Entered → Course SpinState
entry_of e = enters_at (first_of e.origin)

abbrev pub engine_of : (memory : List ℕ) (cog : ℕ) → Engine SpinState
engine_of memory cog = record { cog = cog; next = bytecode memory cog; cost = clocks memory }

-- so many bytecodes after the entry, with these turns. The entry counts from 8,192 clocks after the turn of
-- Begin on.
abbrev pub lived : (count : ℕ) → Entered → List Turn → Outcome SpinState
lived count e turns = replayed (engine_of e.memory e.cog) (e.begin + 8192) (entry_of e) count turns

-- the same without clocks, by the answers alone
abbrev pub retold_life : (count : ℕ) → Entered → List Answer → Told SpinState
retold_life count e answers = retold (engine_of e.memory e.cog) (entry_of e) count answers

-- after these turns the life asks this access next, from this clock on
abbrev pub IsAsked : Begun → List Turn → ℕ → Access → Type 0
IsAsked (SpinBegun entered) turns clock access = (count : ℕ) × (lived count entered turns ≡ Asks clock access)
IsAsked (PasmBegun loaded) turns clock access = ⊥

-- a bytecode begins at this clock
abbrev pub BeginsAt : (clock : ℕ) → Outcome SpinState → Type 0
BeginsAt clock (Goes s begin left) = begin ≡ clock
BeginsAt clock (Asks c access) = ⊥
BeginsAt clock Ends = ⊥

-- the entry has had no turn yet
abbrev pub IsEntering : Entered → List Turn → Type 0
IsEntering entered turns = (clock : ℕ) × (access : Access) × (lived 0 entered turns ≡ Asks clock access)

-- where the first bytecode begins: 7 clocks after the window of the entry's write
abbrev pub first_begin : Entered → ℕ
first_begin entered = window_of entered.cog (entered.begin + 8192 + 1) + 7

-- with these turns so many bytecodes are done whole, and the next one begins at this clock; while the entry
-- asks none is, and the first one begins after it
abbrev pub Begins : Begun → List Turn → (place clock : ℕ) → Type 0
Begins (SpinBegun entered) turns place clock =
    BeginsAt clock (lived place entered turns) ⊎ (IsEntering entered turns × (place ≡ 0) × (clock ≡ first_begin entered))
Begins (PasmBegun loaded) turns place clock = ⊥
