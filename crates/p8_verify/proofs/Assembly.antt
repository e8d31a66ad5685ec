-- What Propeller Assembly asks: its halts by a register name the destination of an instruction, a field of nine bits.
use Rattle.std.proofs.Common.{◌≡◌, subst, arith, ℕ, zero, suc, ◌+◌, ◌*◌, ◌%◌, ◌<◌, ◌==◌, Bool, true, false, if◌then◌else◌}
use Rattle.std.proofs.Common.{not, ◌&&◌, nat_le, nat_lt, List, [], ◌∷◌, ◌++◌, length, Option, Some, None}
use Rattle.p8_access.specs.declared.kinds.Width.{Width}
use Rattle.p8_access.specs.declared.kinds.Width.TheVariants.{Long}
use Rattle.p8_access.specs.declared.kinds.Reason.{Reason}
use Rattle.p8_access.specs.declared.kinds.Reason.TheVariants.{Opcode, Port}
use Rattle.p8_access.specs.declared.kinds.Access.{Access}
use Rattle.p8_access.specs.declared.kinds.Access.TheVariants.{Read, Wait, Halt}
use Rattle.p8_access.specs.declared.order.Turn.{Turn}
use Rattle.p8_access.specs.Lives.{Loaded, is_last}
use Rattle.p8_access.specs.Proper.{value_of}
use Rattle.p8_access.specs.Windows.{window_of}
use Rattle.p8_alu.specs.declared.effect.Effect.{Effect}
use Rattle.p8_alu.specs.Effects.{is_set}
use Rattle.p8_instr.specs.declared.instruction.Instr.{Instr}
use Rattle.p8_instr.specs.Instruction.{bit_range, is_immediate, writes_result}
use Rattle.p8_cog.specs.declared.instruction_kind.InstructionKind.{InstructionKind}
use Rattle.p8_cog.specs.declared.instruction_kind.InstructionKind.TheVariants.{Skipped, Halting, OfHub, Waiting, Computing}
use Rattle.p8_cog.specs.declared.hub.Request.{Request}
use Rattle.p8_cog.specs.declared.state.PasmState.{PasmState}
use Rattle.p8_cog.specs.Instructions.{cnt_register, ina_register, outa_register, dira_register, ctra_register, hubop, clkset, cogid}
use Rattle.p8_cog.specs.Instructions.{coginit, cogstop, locknew, lockret, lockset, kind_of, width_of, source_access}
use Rattle.p8_cog.specs.Replay.{Course, Ask, Go, End, ask, halt, at_hand, next_of, fetched_before, passed, hub_address, test_of, destination_value}
use Rattle.p8_cog.specs.Replay.{source_value, sourced_by, register_access, result_access, written_by, write, ends_after, effect, computed, compute}
use Rattle.p8_cog.specs.Replay.{read_access, move_request, operation_request, hub_request, answered, use_hub, is_port_wait, wait, wait_effect, does}
use Rattle.p8_cog.specs.Replay.{instruction, Outcome, Asks, Goes, Ends, played, step, after, loading, replayed, loaded_by}
use Rattle.p8_verify.specs.Halts.{IsProperReason, IsProperHalt}
use Rattle.p8_verify.proofs.Named.{Named, if-named, OptionNamed, none-named, if-option}

-- each access that a course may ask
abbrev AllNamed : Course → Type 0
AllNamed (Ask clock access go) = IsProperHalt access × ((turn : Turn) → AllNamed (go turn))
AllNamed (Go s) = Unit {0}
AllNamed End = Unit {0}

record Names (course : Course) : Type 0 where
  all : AllNamed course

if-course : (b : Bool) {x y : Course} → Names x → Names y → Names (if b then x else y)
if-course true h k = h
if-course false h k = k

record RequestNamed (r : Request) : Type 0 where
  asks : Named r.access

if-request : (b : Bool) {x y : Request} → RequestNamed x → RequestNamed y → RequestNamed (if b then x else y)
if-request true h k = h
if-request false h k = k

done : (s : PasmState) → Names (Go s)
done s = record { all = tt }

ended : Names End
ended = record { all = tt }

-- ---- what an instruction asks

source-named : (i : Instr) → OptionNamed (source_access i)
source-named i =
    if-option (is_immediate i) none-named
    (if-option (i.source == cnt_register) (record { some = tt })
    (if-option (i.source == ina_register) (record { some = tt }) none-named))

register-named : (register result : ℕ) → register < 512 → OptionNamed (register_access register result)
register-named register result below =
    if-option (register == outa_register) (record { some = tt })
    (if-option (register == dira_register) (record { some = tt })
    (if-option (nat_le ctra_register register && not (result == 0)) (record { some = below }) none-named))

-- the destination has nine bits
destination-below : (long : ℕ) → bit_range long 17 9 < 512
destination-below long = omega arith

result-named : (s : PasmState) (result : ℕ) → OptionNamed (result_access (at_hand s) result)
result-named s result = if-option (writes_result (at_hand s)) (register-named (at_hand s).dest result (destination-below s.long)) none-named

asks-named : (clock : ℕ) (access : Access) (go : Turn → Course) → IsProperHalt access → ((turn : Turn) → Names (go turn)) → Names (Ask clock access go)
asks-named clock access go h k = record { all = (h, λ turn. (k turn).all) }

sourced-named : (o : Option Access) (clock : ℕ) (s : PasmState) (go : ℕ → Course) → OptionNamed o →
    ((source : ℕ) → Names (go source)) → Names (sourced_by o clock s go)
sourced-named None clock s go h k = k (source_value s)
sourced-named (Some access) clock s go h k = asks-named clock access _ h.some (λ turn. k (value_of turn.answer))

ask-named : (cog clock : ℕ) (access : Access) (go : Turn → Course) → IsProperHalt access → ((turn : Turn) → Names (go turn)) → Names (ask cog clock access go)
ask-named cog clock access go h k = asks-named clock access _ h (λ turn. if-course (is_last cog access) ended (k turn))

written-named : (o : Option Access) (cog clock : ℕ) (next : PasmState) → OptionNamed o → Names (written_by o cog clock next)
written-named None cog clock next h = done next
written-named (Some access) cog clock next h = ask-named cog clock access (λ turn. Go next) h.some (λ turn. done next)

write-named : (cog : ℕ) (s : PasmState) (x : Effect) (clock : ℕ) (next : PasmState) → Names (write cog s x clock next)
write-named cog s x clock next = written-named (result_access (at_hand s) x.result) cog clock next (result-named s x.result)

ends-named : (cog : ℕ) (s : PasmState) (x : Effect) (clock : ℕ) → Names (ends_after cog s x clock)
ends-named cog s x clock = write-named cog s x clock (fetched_before s x (next_of s) (clock + 1))

operation-named : (operation value : ℕ) → RequestNamed (operation_request operation value)
operation-named operation value =
    if-request (operation == clkset) (record { asks = if-named (is_set value 7) (record { halts = tt }) (record { halts = tt }) })
    (if-request (operation == cogid) (record { asks = record { halts = tt } })
    (if-request (operation == coginit) (record { asks = record { halts = tt } })
    (if-request (operation == cogstop) (record { asks = record { halts = tt } })
    (if-request (operation == locknew) (record { asks = record { halts = tt } })
    (if-request (operation == lockret) (record { asks = record { halts = tt } })
    (if-request (operation == lockset) (record { asks = record { halts = tt } }) (record { asks = record { halts = tt } })))))))

read-named : (width : Width) (address : ℕ) → Named (read_access width address)
read-named width address = if-named (nat_lt address 32768) (record { halts = tt }) (record { halts = tt })

move-named : (i : Instr) (width : Width) (value source : ℕ) → RequestNamed (move_request i width value source)
move-named i width value source =
    if-request (writes_result i) (record { asks = read-named width (hub_address source width) }) (record { asks = record { halts = tt } })

hub-named : (i : Instr) (value source : ℕ) → RequestNamed (hub_request i value source)
hub-named i value source = if-request (i.opcode == hubop) (operation-named (source % 8) value) (move-named i (width_of i.opcode) value source)

uses_hub-named : (cog : ℕ) (s : PasmState) (source : ℕ) → Names (use_hub cog s source)
uses_hub-named cog s source =
    let r = hub_request (at_hand s) (destination_value s) source in
    ask-named cog (window_of cog (s.clock + 1)) r.access (λ turn. ends_after cog s (answered r.kept turn.answer) (turn.key.clock + 6))
    (hub-named (at_hand s) (destination_value s) source).asks.halts
    (λ turn. ends-named cog s (answered r.kept turn.answer) (turn.key.clock + 6))

wait-named : (cog : ℕ) (s : PasmState) (source : ℕ) → Names (wait cog s source)
wait-named cog s source =
    ask-named cog (s.clock + 4) (Wait (test_of (at_hand s).opcode (destination_value s) source))
    (λ turn. ends_after cog s (wait_effect (at_hand s).opcode (destination_value s) source) (turn.key.clock + 1)) tt
    (λ turn. ends-named cog s (wait_effect (at_hand s).opcode (destination_value s) source) (turn.key.clock + 1))

halts-named : (clock : ℕ) (reason : Reason) → IsProperReason reason → Names (halt clock reason)
halts-named clock reason h = asks-named clock (Halt reason) (λ turn. End) h (λ turn. ended)

does-named : (kind : InstructionKind) (cog : ℕ) (s : PasmState) → Names (does kind cog s)
does-named Skipped cog s = done (passed s)
does-named Halting cog s = halts-named s.clock (Opcode s.long) tt
does-named OfHub cog s = sourced-named (source_access (at_hand s)) s.clock s (use_hub cog s) (source-named (at_hand s)) (uses_hub-named cog s)
does-named Waiting cog s =
    if-course (is_port_wait s) (halts-named s.clock Port tt)
    (sourced-named (source_access (at_hand s)) (s.clock + 2) s (wait cog s) (source-named (at_hand s)) (wait-named cog s))
does-named Computing cog s =
    sourced-named (source_access (at_hand s)) (s.clock + 2) s (compute cog s) (source-named (at_hand s))
    (λ source. write-named cog s (effect s source) (s.clock + 3) (computed s source))

loading-named : (l : Loaded) (to_come : ℕ) (longs : List ℕ) → Names (loading l to_come longs)
unfolding loading
loading-named l zero longs = record { all = tt }
loading-named l (suc to_come) longs =
    asks-named (l.load + 16 * (length longs + 1)) (Read Long (l.code + 4 * length longs)) (λ turn. loading l to_come (longs ++ value_of turn.answer ∷ [])) tt
    (λ turn. loading-named l to_come (longs ++ value_of turn.answer ∷ []))

-- ---- what a life asks

abbrev AskedNamed : Outcome → Type 0
AskedNamed (Asks clock access) = IsProperHalt access
AskedNamed (Goes s left) = Unit {0}
AskedNamed Ends = Unit {0}

played-named : (course : Course) → AllNamed course → (turns : List Turn) → AskedNamed (played course turns)
played-named (Ask clock access go) h [] = h.0
played-named (Ask clock access go) h (turn ∷ left) = played-named (go turn) (h.1 turn) left
played-named (Go s) h turns = tt
played-named End h turns = tt

step-named : (cog : ℕ) (o : Outcome) → AskedNamed o → AskedNamed (step cog o)
step-named cog (Asks clock access) h = h
step-named cog (Goes s left) h = played-named (instruction cog s) (does-named (kind_of (at_hand s) s.c s.z) cog s).all left
step-named cog Ends h = tt

after-named : (cog n : ℕ) (o : Outcome) → AskedNamed o → AskedNamed (after cog n o)
unfolding after
after-named cog zero o h = h
after-named cog (suc n) o h = step-named cog (after cog n o) (after-named cog n o h)

-- whatever it asks
pub assembly-named : (l : Loaded) (turns : List Turn) (n clock : ℕ) (access : Access) → replayed n l turns ≡ Asks clock access → IsProperHalt access
assembly-named l turns n clock access asks =
    subst AskedNamed asks (after-named l.cog n (loaded_by l turns) (played-named (loading l 496 []) (loading-named l 496 []).all turns))
