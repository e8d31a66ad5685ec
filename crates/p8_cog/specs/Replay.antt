-- The life of a PASM cog, replayed whole from its start: the reads of its load, and then instruction by
-- instruction, each of them one formula with its accesses in order (Propeller Manual v1.2, assembly
-- reference; the clocks, the flags of instructions of the hub and the halts are this project's profile).
use Rattle.std.specs.Prelude.{ℕ, zero, suc, ◌+◌, ◌*◌, ◌/◌, ◌%◌, ◌^◌, ◌==◌, ◌≡◌, ◌⊎◌, ◌&&◌, nat_lt, nat_le, not, if◌then◌else◌, Bool, true, false}
use Rattle.std.specs.Prelude.{List, [], ◌∷◌, ◌++◌, Option, Some, None, length, slice_index, slice_set, replicate}
use Rattle.p8_access.specs.declared.kinds.Width.{Width}
use Rattle.p8_access.specs.declared.kinds.Width.TheVariants.{Long}
use Rattle.p8_access.specs.declared.kinds.Origin.TheVariants.{Pasm}
use Rattle.p8_access.specs.declared.kinds.Test.{Test}
use Rattle.p8_access.specs.declared.kinds.Test.TheVariants.{Count, PinsEqual, PinsDiffer}
use Rattle.p8_access.specs.declared.kinds.Reason.{Reason}
use Rattle.p8_access.specs.declared.kinds.Reason.TheVariants.{Opcode, Rom, Register, Port, Reset}
use Rattle.p8_access.specs.declared.kinds.Access.{Access}
use Rattle.p8_access.specs.declared.kinds.Access.TheVariants.{Read, Write, CogId, CogInit, CogStop, LockNew, LockRet, LockSet, LockClr, ClkSet}
use Rattle.p8_access.specs.declared.kinds.Access.TheVariants.{OutSet, DirSet, Wait, Halt}
use Rattle.p8_access.specs.declared.kinds.Answer.{Answer}
use Rattle.p8_access.specs.declared.kinds.Answer.TheVariants.{Done, Value, Number, Was}
use Rattle.p8_access.specs.declared.order.Turn.{Turn}
use Rattle.p8_access.specs.Windows.{window_of}
use Rattle.p8_access.specs.Proper.{bytes_in, value_of}
use Rattle.p8_access.specs.Lives.{Loaded, Begun, PasmBegun, SpinBegun, is_last}
use Rattle.p8_instr.specs.declared.instruction.Instr.{Instr}
use Rattle.p8_instr.specs.Instruction.{instr_of, bit_range, writes_z, writes_c, writes_result, is_immediate}
use Rattle.p8_alu.specs.declared.effect.Effect.{Effect}
use Rattle.p8_alu.specs.Effects.{effect_of, plain_effect, sum_effect, is_set}
use Rattle.p8_cog.specs.declared.instruction_kind.InstructionKind.{InstructionKind}
use Rattle.p8_cog.specs.declared.instruction_kind.InstructionKind.TheVariants.{Skipped, Halting, OfHub, Waiting, Computing}
use Rattle.p8_cog.specs.declared.hub.Request.{Request}
use Rattle.p8_cog.specs.declared.state.PasmState.{PasmState}
use Rattle.p8_cog.specs.Instructions.{par_register, inb_register, outa_register, dira_register, ctra_register, hubop, jmpret, djnz, tjz, waitpeq}
use Rattle.p8_cog.specs.Instructions.{waitpne, waitcnt, clkset, cogid, coginit, cogstop, locknew, lockret, lockset, kind_of, width_of, source_access}

-- ---- what an instruction does beyond its own registers

-- the course of an instruction
pub data Course : Type 0 where
  -- it asks an access at this clock, and goes on by its turn
  Ask : (clock : ℕ) (access : Access) (go : Turn → Course) → Course
  -- it is done, and this stands where the next one begins
  Go : (state : PasmState) → Course
  -- the life is over
  End : Course

-- an access at this clock, after which the instruction goes on so where the life isn't over
abbrev pub ask : (cog clock : ℕ) → Access → (Turn → Course) → Course
ask cog clock access go = Ask clock access (λ turn. if is_last cog access then End else go turn)

-- a halt at this clock
abbrev pub halt : (clock : ℕ) → Reason → Course
halt clock reason = Ask clock (Halt reason) (λ turn. End)

-- ---- what an instruction reads

-- the instruction at hand
abbrev pub at_hand : PasmState → Instr
at_hand s = instr_of s.long

-- the value of the destination: also of PAR, CNT, INA and INB it is the long there
abbrev pub destination_value : PasmState → ℕ
destination_value s = slice_index s.registers (at_hand s).dest

-- a register in the source field: PAR has the value of the start, and INB is 0
abbrev pub register_value : PasmState → (register : ℕ) → ℕ
register_value s register =
    if register == par_register then s.par
    else (if register == inb_register then 0 else slice_index s.registers register)

-- the value of a source that isn't read by an access: the field itself, or the register that it names
abbrev pub source_value : PasmState → ℕ
source_value s =
    if is_immediate (at_hand s) then (at_hand s).source else register_value s (at_hand s).source

-- the source is read, at this clock where that takes an access, and the instruction goes on with its value
abbrev pub sourced_by : Option Access → (clock : ℕ) → PasmState → (ℕ → Course) → Course
sourced_by None clock s go = go (source_value s)
sourced_by (Some access) clock s go = Ask clock access (λ turn. go (value_of turn.answer))

abbrev pub sourced : (clock : ℕ) → PasmState → (ℕ → Course) → Course
sourced clock s go = sourced_by (source_access (at_hand s)) clock s go

-- the next address
abbrev pub next_of : PasmState → ℕ
next_of s = (s.at + 1) % 512

-- ---- what an instruction writes

-- the registers with its result, where it writes that
abbrev pub registers_with : PasmState → Effect → List ℕ
registers_with s e =
    if writes_result (at_hand s) then slice_set s.registers (at_hand s).dest e.result else s.registers

-- where the next instruction begins: at this address and clock, with the long that was fetched
abbrev pub goes_on : PasmState → Effect → (address long clock : ℕ) → PasmState
goes_on s e address long clock = record {
  registers = registers_with s e;
  par = s.par;
  at = address;
  long = long;
  clock = clock;
  c = if writes_c (at_hand s) then e.c else s.c;
  z = if writes_z (at_hand s) then e.z else s.z;
}

-- the next long is the one that stood at its address before the result was written
abbrev pub fetched_before : PasmState → Effect → (address clock : ℕ) → PasmState
fetched_before s e address clock = goes_on s e address (slice_index s.registers address) clock

-- the next long is the one that stands at its address after the result was written
abbrev pub fetched_after : PasmState → Effect → (address clock : ℕ) → PasmState
fetched_after s e address clock = goes_on s e address (slice_index (registers_with s e) address) clock

-- nothing is written
abbrev pub passed : PasmState → PasmState
passed s = record s {
  at = next_of s;
  long = slice_index s.registers (next_of s);
  clock = s.clock + 4;
}

-- the access that a result makes in a register: of OUTA or DIRA, or the halt of a value other than 0 for a
-- register of the counters or the video generator. These are 0 at the start, so they always are.
abbrev pub register_access : (register result : ℕ) → Option Access
register_access register result =
    if register == outa_register then Some (OutSet result)
    else (if register == dira_register then Some (DirSet result)
    else (if nat_le ctra_register register && not (result == 0) then Some (Halt (Register register))
    else None))

abbrev pub result_access : Instr → (result : ℕ) → Option Access
result_access i result = if writes_result i then register_access i.dest result else None

-- the write of a result at this clock, after which the instruction is done
abbrev pub written_by : Option Access → (cog clock : ℕ) → (next : PasmState) → Course
written_by None cog clock next = Go next
written_by (Some access) cog clock next = ask cog clock access (λ turn. Go next)

abbrev pub write : (cog : ℕ) → PasmState → Effect → (clock : ℕ) → (next : PasmState) → Course
write cog s e clock next = written_by (result_access (at_hand s) e.result) cog clock next

-- after an access the result is written at this clock, and the instruction ends a clock later
abbrev pub ends_after : (cog : ℕ) → PasmState → Effect → (clock : ℕ) → Course
ends_after cog s e clock = write cog s e clock (fetched_before s e (next_of s) (clock + 1))

-- ---- what computes

-- its result and flags
abbrev pub effect : PasmState → (source : ℕ) → Effect
effect s source = effect_of (at_hand s).opcode (destination_value s) source s.c s.z (next_of s)

-- DJNZ and TJNZ jump where the result isn't 0, TJZ where it is
abbrev pub jumps : (opcode result : ℕ) → Bool
jumps opcode result = if opcode == tjz then result == 0 else not (result == 0)

-- where one of these three goes on: where it doesn't jump it takes 4 clocks more, and fetches after its write
abbrev pub tested_jump : PasmState → (source : ℕ) → PasmState
tested_jump s source =
    if jumps (at_hand s).opcode (effect s source).result then fetched_before s (effect s source) (source % 512) (s.clock + 4)
    else fetched_after s (effect s source) (next_of s) (s.clock + 8)

-- the address at which any other goes on: JMPRET jumps
abbrev pub plain_next : PasmState → (source : ℕ) → ℕ
plain_next s source = if (at_hand s).opcode == jmpret then source % 512 else next_of s

abbrev pub computed : PasmState → (source : ℕ) → PasmState
computed s source =
    if nat_le djnz (at_hand s).opcode then tested_jump s source
    else fetched_before s (effect s source) (plain_next s source) (s.clock + 4)

abbrev pub compute : (cog : ℕ) → PasmState → (source : ℕ) → Course
compute cog s source = write cog s (effect s source) (s.clock + 3) (computed s source)

-- ---- the hub

-- A request is an access of the hub and the result that it has where its answer holds no number. By the
-- answer these are its result and C:
abbrev pub answered : (kept : ℕ) → Answer → Effect
answered kept Done = plain_effect kept false
answered kept (Was set) = plain_effect kept set
answered kept (Value value) = plain_effect value false
answered kept (Number (Some n)) = plain_effect n false
answered kept (Number None) = plain_effect 7 true

abbrev pub request : (access : Access) (kept : ℕ) → Request
request access kept = record { access = access; kept = kept }

-- the hub address of an access: mod 65,536, rounded down to a multiple of its bytes
abbrev pub hub_address : (source : ℕ) → Width → ℕ
hub_address source width = source % 2 ^ 16 / bytes_in width * bytes_in width

-- a read of hub RAM; ROM, from $8000 on, can't be read
abbrev pub read_access : Width → (address : ℕ) → Access
read_access width address = if nat_lt address 32768 then Read width address else Halt (Rom address)

-- CLKSET: the mode is the low byte, whose bit 7 would reset the chip
abbrev pub mode_access : (value : ℕ) → Access
mode_access value = if is_set value 7 then Halt Reset else ClkSet (value % 256)

-- COGINIT: bits 31 to 18 are bits 15 to 2 of PAR, bits 17 to 4 are bits 15 to 2 of the code's address; bit 3
-- asks for a new cog, and else bits 2 to 0 name one
abbrev pub start_access : (value : ℕ) → Access
start_access value =
    CogInit (if is_set value 3 then None else Some (value % 8)) (Pasm (bit_range value 17 4 * 4) (bit_range value 31 18 * 4))

-- RDBYTE, RDWORD, RDLONG where the result is written, else WRBYTE, WRWORD, WRLONG of a reduced value
abbrev pub move_request : Instr → Width → (value source : ℕ) → Request
move_request i width value source =
    if writes_result i then request (read_access width (hub_address source width)) 0
    else request (Write width (hub_address source width) (value % 256 ^ bytes_in width)) (value % 256 ^ bytes_in width)

-- HUBOP with this value of its destination
abbrev pub operation_request : (operation value : ℕ) → Request
operation_request operation value =
    if operation == clkset then request (mode_access value) value
    else (if operation == cogid then request CogId 0
    else (if operation == coginit then request (start_access value) 0
    else (if operation == cogstop then request (CogStop (value % 8)) (value % 8)
    else (if operation == locknew then request LockNew 0
    else (if operation == lockret then request (LockRet (value % 8)) (value % 8)
    else (if operation == lockset then request (LockSet (value % 8)) (value % 8)
    else request (LockClr (value % 8)) (value % 8)))))))

-- HUBOP goes by the low three bits of its source
abbrev pub hub_request : Instr → (value source : ℕ) → Request
hub_request i value source =
    if i.opcode == hubop then operation_request (source % 8) value
    else move_request i (width_of i.opcode) value source

-- an access of the hub, at the cog's first window after the instruction's begin; after its turn the
-- result is written 6 clocks later
abbrev pub ask_hub : (cog : ℕ) → PasmState → Request → Course
ask_hub cog s r =
    ask cog (window_of cog (s.clock + 1)) r.access (λ turn. ends_after cog s (answered r.kept turn.answer) (turn.key.clock + 6))

abbrev pub use_hub : (cog : ℕ) → PasmState → (source : ℕ) → Course
use_hub cog s source = ask_hub cog s (hub_request (at_hand s) (destination_value s) source)

-- ---- waits

-- WAITPEQ and WAITPNE with C wait for the pins of port B, which this machine doesn't have
abbrev pub is_port_wait : PasmState → Bool
is_port_wait s = s.c && nat_lt (at_hand s).opcode waitcnt

-- what is waited for
abbrev pub test_of : (opcode value source : ℕ) → Test
test_of opcode value source =
    if opcode == waitpeq then PinsEqual value source
    else (if opcode == waitpne then PinsDiffer value source
    else Count value)

-- what it leaves: WAITCNT adds, and the others leave the destination's value
abbrev pub wait_effect : (opcode value source : ℕ) → Effect
wait_effect opcode value source =
    if opcode == waitcnt then sum_effect (value + source) else plain_effect value false

-- a wait, from the fourth clock on; its result is written a clock after its turn
abbrev pub wait : (cog : ℕ) → PasmState → (source : ℕ) → Course
wait cog s source =
    ask cog (s.clock + 4) (Wait (test_of (at_hand s).opcode (destination_value s) source))
    (λ turn. ends_after cog s (wait_effect (at_hand s).opcode (destination_value s) source) (turn.key.clock + 1))

-- ---- one line for each kind

-- Instructions of the hub read their source where they begin, all others 2 clocks later.
abbrev pub does : InstructionKind → (cog : ℕ) → PasmState → Course
does Skipped cog s = Go (passed s)
does Halting cog s = halt s.clock (Opcode s.long)
does OfHub cog s = sourced s.clock s (use_hub cog s)
does Waiting cog s = if is_port_wait s then halt s.clock Port else sourced (s.clock + 2) s (wait cog s)
does Computing cog s = sourced (s.clock + 2) s (compute cog s)

-- one instruction
abbrev pub instruction : (cog : ℕ) → PasmState → Course
instruction cog s = does (kind_of (at_hand s) s.c s.z) cog s

-- ---- a life

-- how a life goes on, where some of its accesses have had their turns
pub data Outcome : Type 0 where
  -- this access is the first that has none, and this is its clock
  Asks : (clock : ℕ) (access : Access) → Outcome
  -- an instruction is done, and these turns are left for what comes after it
  Goes : (state : PasmState) (left : List Turn) → Outcome
  -- the life is over
  Ends : Outcome

-- a course with these turns: each access takes the first that is left
abbrev pub played : Course → List Turn → Outcome
played (Ask clock access go) [] = Asks clock access
played (Ask clock access go) (turn ∷ left) = played (go turn) left
played (Go s) turns = Goes s turns
played End turns = Ends

-- one more instruction, where there is one
abbrev pub step : (cog : ℕ) → Outcome → Outcome
step cog (Goes s left) = played (instruction cog s) left
step cog (Asks clock access) = Asks clock access
step cog Ends = Ends

-- so many instructions more
unfoldable pub after : (cog count : ℕ) → Outcome → Outcome
after cog zero o = o
after cog (suc n) o = step cog (after cog n o)

-- what stands in the cog where its first instruction begins: the longs, and 0 in the last 16 registers
-- and in the flags
abbrev pub first_with : (longs : List ℕ) (par begin : ℕ) → PasmState
first_with longs par begin = record {
  registers = longs ++ replicate 16 0;
  par = par;
  at = 0;
  long = slice_index longs 0;
  clock = begin;
  c = false;
  z = false;
}

-- The load after a PASM start: 496 reads, long k from the address code + 4k at the clock load + 16(k + 1).
-- These longs have been read, and so many are to come; then the first instruction begins, 8,192 clocks
-- after the turn of Load.
unfoldable pub loading : Loaded → (to_come : ℕ) → (longs : List ℕ) → Course
loading l zero longs = Go (first_with longs l.par (l.load + 8192))
loading l (suc to_come) longs =
    Ask (l.load + 16 * (length longs + 1)) (Read Long (l.code + 4 * length longs))
    (λ turn. loading l to_come (longs ++ value_of turn.answer ∷ []))

-- how the load stands with these turns
abbrev pub loaded_by : Loaded → List Turn → Outcome
loaded_by loaded turns = played (loading loaded 496 []) turns

-- so many instructions after the load, with these turns
abbrev pub replayed : (count : ℕ) → Loaded → List Turn → Outcome
replayed count loaded turns = after loaded.cog count (loaded_by loaded turns)

-- after these turns the life asks this access next, from this clock on
abbrev pub IsAsked : Begun → List Turn → ℕ → Access → Type 0
IsAsked (PasmBegun loaded) turns clock access = (count : ℕ) × (replayed count loaded turns ≡ Asks clock access)
IsAsked (SpinBegun entered) turns clock access = ⊥

-- an instruction begins at this clock
abbrev pub BeginsAt : (clock : ℕ) → Outcome → Type 0
BeginsAt clock (Goes s left) = s.clock ≡ clock
BeginsAt clock (Asks c access) = ⊥
BeginsAt clock Ends = ⊥

-- the load still asks
abbrev pub IsLoading : Loaded → List Turn → Type 0
IsLoading loaded turns = (clock : ℕ) × (access : Access) × (loaded_by loaded turns ≡ Asks clock access)

-- with these turns so many instructions are done whole, and the next one begins at this clock; while the
-- load asks none is, and the first one begins after it
abbrev pub Begins : Begun → List Turn → (place clock : ℕ) → Type 0
Begins (PasmBegun loaded) turns place clock =
    BeginsAt clock (replayed place loaded turns) ⊎ (IsLoading loaded turns × (place ≡ 0) × (clock ≡ loaded.load + 8192))
Begins (SpinBegun entered) turns place clock = ⊥
