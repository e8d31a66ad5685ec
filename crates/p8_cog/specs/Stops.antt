-- internal: what the parts of a cog's code promise each other.
use Rattle.std.specs.Prelude.{ℕ, ◌+◌, ◌^◌, ◌≡◌, ◌<◌, ◌≤◌, max, if◌then◌else◌, Bool, true, false, List, [], ◌∷◌, ◌++◌, take, Option, None, Some}
use Rattle.p8_access.specs.declared.kinds.Access.{Access}
use Rattle.p8_access.specs.declared.order.Turn.{Turn}
use Rattle.p8_access.specs.declared.lives.Next.{Next}
use Rattle.p8_access.specs.declared.lives.Next.TheVariants.{At, Quiet, More}
use Rattle.p8_access.specs.Lives.{IsMade, IsOnTime}
use Rattle.p8_instr.specs.declared.instruction.Instr.{Instr}
use Rattle.p8_instr.specs.Instruction.{writes_z, writes_c}
use Rattle.p8_alu.specs.declared.effect.Effect.{Effect}
use Rattle.p8_cog.specs.declared.instruction_kind.InstructionKind.{InstructionKind}
use Rattle.p8_cog.specs.declared.instruction_kind.InstructionKind.TheVariants.{Skipped, Halting, OfHub, Waiting, Computing}
use Rattle.p8_cog.specs.declared.state.PasmState.{PasmState}
use Rattle.p8_cog.specs.declared.ending.Ending.{Ending}
use Rattle.p8_cog.specs.declared.ending.Ending.TheVariants.{Ended, Whole, Half}
use Rattle.p8_cog.specs.declared.progress.Had.{Had}
use Rattle.p8_cog.specs.declared.progress.Had.TheVariants.{Nothing, One, Two}
use Rattle.p8_cog.specs.declared.progress.Progress.{Progress}
use Rattle.p8_cog.specs.declared.stage.PasmStage.{PasmStage}
use Rattle.p8_cog.specs.declared.stage.PasmStage.TheVariants.{Loading, Running, Over}
use Rattle.p8_cog.specs.Instructions.{kind_of, source_access}
use Rattle.p8_cog.specs.Replay.{at_hand, destination_value, source_value, hub_request, instruction, played, Outcome, Asks, Goes, Ends, step, after}
use Rattle.p8_cog.specs.Replay.{first_with, BeginsAt}
use Rattle.p8_cog.specs.Standing.{turns_of, running_at, standing_at, clock_of}

-- what the processor computes has an opcode from 8 to 59
abbrev pub IsComputed : InstructionKind → ℕ → Type 0
IsComputed Computing opcode = (8 ≤ opcode) × (opcode ≤ 59)
IsComputed Skipped opcode = Unit {0}
IsComputed Halting opcode = Unit {0}
IsComputed OfHub opcode = Unit {0}
IsComputed Waiting opcode = Unit {0}

-- the registers as they are, with the flags and the rest of where the next instruction begins
abbrev pub left_with : PasmState → Instr → Effect → (address long clock : ℕ) → PasmState
left_with s i e address long clock = record s {
  at = address;
  long = long;
  clock = clock;
  c = if writes_c i then e.c else s.c;
  z = if writes_z i then e.z else s.z;
}

-- ---- one instruction

-- the instruction at hand is the hub's, no access reads its source, and this is its result where the answer holds
-- no number
abbrev pub IsAtHub : PasmState → (kept : ℕ) → Type 0
IsAtHub s kept =
    (kind_of (at_hand s) s.c s.z ≡ OfHub) × (source_access (at_hand s) ≡ None) × (kept ≡ (hub_request (at_hand s) (destination_value s) (source_value s)).kept)

-- the turns that are left where an instruction is done
abbrev pub left_of : Outcome → List Turn
left_of (Goes s left) = left
left_of (Asks clock access) = []
left_of Ends = []

-- an instruction that comes to this outcome ends so, and where it is done leaves this state
abbrev pub ComesTo : Outcome → Ending → PasmState → Type 0
ComesTo o Ended new = o ≡ Ends
ComesTo o Whole new = o ≡ Goes new (left_of o)
ComesTo o (Half clock access) new = o ≡ Asks clock access

-- what isn't done changes nothing
abbrev pub Keeps : Ending → (old new : PasmState) → Type 0
Keeps Whole old new = Unit {0}
Keeps Ended old new = new ≡ old
Keeps (Half clock access) old new = new ≡ old

abbrev pub IsMadeIn : Ending → Type 0
IsMadeIn Ended = Unit {0}
IsMadeIn Whole = Unit {0}
IsMadeIn (Half clock access) = IsMade access

-- the latest clock of some turns
abbrev pub latest : List Turn → ℕ
latest [] = 0
latest (turn ∷ left) = max turn.key.clock (latest left)

-- nothing that comes is before this clock, and no turn is left
abbrev pub IsFrom : ℕ → Outcome → Type 0
IsFrom clock (Goes s []) = clock ≤ s.clock
IsFrom clock (Goes s (turn ∷ left)) = ⊥
IsFrom clock (Asks c access) = clock ≤ c
IsFrom clock Ends = Unit {0}

-- ---- the instruction at hand

abbrev pub is_half : Had → Bool
is_half Nothing = false
is_half (One turn) = true
is_half (Two first second) = true

abbrev pub is_asking : Outcome → Bool
is_asking (Asks clock access) = true
is_asking (Goes s left) = false
is_asking Ends = false

-- what is asked next isn't before the clock that was reached, and not beyond the next window
abbrev pub IsDue : (cog : ℕ) → Progress → Type 0
IsDue cog p =
    (clock : ℕ) (access : Access) → step cog (running_at p) ≡ Asks clock access → (clock_of p ≤ clock) × (clock ≤ clock_of p + 16)

-- an instruction that has had a turn asks a further access, and its clocks can be counted with
abbrev pub IsHalf : (cog : ℕ) → Progress → Type 0
IsHalf cog p =
    is_half p.had ≡ true → (is_asking (step cog (running_at p)) ≡ true) × IsDue cog p × (p.begun.clock + 1 < 2 ^ 62) × (latest (turns_of p.had) < 2 ^ 62)

-- a turn of what is asked, on time
abbrev pub Comes : Outcome → Turn → Type 0
Comes o turn =
    (clock : ℕ) × (o ≡ Asks clock turn.access) × IsOnTime turn.access clock turn.key.clock × (clock + 1 < 2 ^ 62)

-- a load has a register to read next, and no instruction is at hand
abbrev pub IsInLoad : Progress → Type 0
IsInLoad p = (p.begun.at < 496) × (is_half p.had ≡ false)

abbrev pub asked_of : Outcome → Option (ℕ × Access)
asked_of (Asks clock access) = Some (clock, access)
asked_of (Goes s left) = None
asked_of Ends = None

-- what is asked where a life stands
unfoldable pub asked_now : (cog code : ℕ) → PasmStage → Progress → Option (ℕ × Access)
asked_now cog code stage p = asked_of (step cog (standing_at stage code p))

-- what was announced: what is asked there, if that was told
abbrev pub announced_at : (asking : Bool) (cog code : ℕ) → PasmStage → Progress → Option (ℕ × Access)
announced_at true cog code stage p = asked_now cog code stage p
announced_at false cog code stage p = None

-- what was announced is what comes next
abbrev pub Announces : (cog code : ℕ) → PasmStage → Progress → Option (ℕ × Access) → Type 0
Announces cog code stage p announced =
    (clock : ℕ) (access : Access) → announced ≡ Some (clock, access) →
    (step cog (standing_at stage code p) ≡ Asks clock access) × (clock_of p ≤ clock) × (clock + 1 < 2 ^ 62)

-- what is told is what comes next from here, or nothing comes below this clock; neither is farther than
-- the next window
abbrev pub Stops : (cog : ℕ) → (here : Outcome) → (reached until : ℕ) → Next → Type 0
Stops cog here reached until (At clock access) =
    (step cog here ≡ Asks clock access) × (reached ≤ clock) × (clock < until) × (clock ≤ reached + 16)
Stops cog here reached until Quiet = IsFrom until (step cog here) × (until ≤ reached + 16)
Stops cog here reached until (More bound) = IsFrom bound here × BeginsAt bound here

-- so many instructions lead from one place to another
abbrev pub Leads : (cog done : ℕ) → Outcome → Outcome → Type 0
Leads cog done from to = (n : ℕ) (o : Outcome) → after cog n o ≡ from → after cog (n + done) o ≡ to

-- more comes only where the whole budget was done
abbrev pub IsSpent : (done budget reached until : ℕ) → Next → Type 0
IsSpent done budget reached until (At clock access) = Unit {0}
IsSpent done budget reached until Quiet = Unit {0}
IsSpent done budget reached until (More bound) = (done ≡ budget) × (bound ≡ reached) × (bound < until)

-- it isn't told to come back
abbrev pub IsTold : Next → Type 0
IsTold (At clock access) = Unit {0}
IsTold Quiet = Unit {0}
IsTold (More bound) = ⊥

-- how the value of a read brings a load on: the next long is to be read, or the first instruction begins
abbrev pub Loads : PasmState → (long : ℕ) → Progress → PasmStage → Type 0
Loads old long new Loading =
    (new.begun.at ≡ old.at + 1) × (new.begun.at < 496) × (new.begun.clock ≡ old.clock + 16) × (new.begun.par ≡ old.par) ×
    (take (old.at + 1) new.begun.registers ≡ take old.at old.registers ++ long ∷ []) × (new.had ≡ Nothing)
Loads old long new Running =
    (old.at ≡ 495) × (new.begun ≡ first_with (take old.at old.registers ++ long ∷ []) old.par (old.clock + 272)) × (new.had ≡ Nothing)
Loads old long new Over = ⊥

-- how a turn brings an instruction on
abbrev pub Takes : (cog : ℕ) → Progress → Turn → Progress → Ending → Type 0
Takes cog old turn new Ended =
    (played (instruction cog old.begun) (turns_of old.had ++ turn ∷ []) ≡ Ends) × (clock_of new ≡ turn.key.clock + 1)
Takes cog old turn new Whole =
    (played (instruction cog old.begun) (turns_of old.had ++ turn ∷ []) ≡ running_at new) × (turn.key.clock < clock_of new) ×
    (clock_of new ≤ turn.key.clock + 8)
Takes cog old turn new (Half clock access) =
    (running_at new ≡ Goes old.begun (turns_of old.had ++ turn ∷ [])) × (clock_of new ≡ turn.key.clock)
