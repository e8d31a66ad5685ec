-- What Propeller Assembly asks is within the limits of a record.
use Rattle.std.proofs.Common.{◌≡◌, subst, arith, ℕ, zero, suc, ◌+◌, ◌*◌, ◌%◌, ◌^◌, ◌<◌, ◌≤◌, ◌==◌, Bool, true, false, if◌then◌else◌}
use Rattle.std.proofs.Common.{not, ◌&&◌, nat_le, nat_lt, List, [], ◌∷◌, ◌++◌, length, replicate, Option, Some, None}
use Rattle.std.specs.List.{All}
use Rattle.std.proofs.lemmas.List.{length-append}
use Rattle.std.proofs.lemmas.List.Elements.{All-nil, All-append, All-push, All-replicate, All-set}
use Rattle.p8_access.specs.declared.kinds.Width.{Width}
use Rattle.p8_access.specs.declared.kinds.Width.TheVariants.{Long}
use Rattle.p8_access.specs.declared.kinds.Reason.{Reason}
use Rattle.p8_access.specs.declared.kinds.Reason.TheVariants.{Opcode, Port}
use Rattle.p8_access.specs.declared.kinds.Test.{Test}
use Rattle.p8_access.specs.declared.kinds.Access.{Access}
use Rattle.p8_access.specs.declared.kinds.Access.TheVariants.{Read, Wait, Halt}
use Rattle.p8_access.specs.declared.kinds.Answer.{Answer}
use Rattle.p8_access.specs.declared.kinds.Answer.TheVariants.{Done, Value, Number, Was}
use Rattle.p8_access.specs.declared.order.Turn.{Turn}
use Rattle.p8_access.specs.Lives.{Loaded, is_last}
use Rattle.p8_access.specs.Proper.{IsNumber, value_of}
use Rattle.p8_access.specs.Windows.{window_of}
use Rattle.p8_alu.specs.declared.effect.Effect.{Effect}
use Rattle.p8_alu.specs.Effects.{is_set}
use Rattle.p8_instr.specs.declared.instruction.Instr.{Instr}
use Rattle.p8_instr.specs.Instruction.{bit_range, is_immediate, writes_result}
use Rattle.p8_cog.specs.declared.instruction_kind.InstructionKind.{InstructionKind}
use Rattle.p8_cog.specs.declared.instruction_kind.InstructionKind.TheVariants.{Skipped, Halting, OfHub, Waiting, Computing}
use Rattle.p8_cog.specs.declared.hub.Request.{Request}
use Rattle.p8_cog.specs.declared.state.PasmState.{PasmState}
use Rattle.p8_cog.specs.Instructions.{par_register, inb_register, cnt_register, ina_register, outa_register, dira_register, ctra_register, hubop}
use Rattle.p8_cog.specs.Instructions.{clkset, cogid}
use Rattle.p8_cog.specs.Instructions.{coginit, cogstop, locknew, lockret, lockset, waitpeq, waitpne, waitcnt, djnz, kind_of, width_of, source_access}
use Rattle.p8_cog.specs.Replay.{Course, Ask, Go, End, ask, halt, at_hand, next_of, registers_with, goes_on, fetched_before, fetched_after, passed}
use Rattle.p8_cog.specs.Replay.{hub_address, test_of, destination_value}
use Rattle.p8_cog.specs.Replay.{source_value, sourced_by, register_access, result_access, written_by, write, ends_after, effect, jumps, tested_jump}
use Rattle.p8_cog.specs.Replay.{plain_next, computed, compute}
use Rattle.p8_cog.specs.Replay.{read_access, start_access, mode_access, move_request, operation_request, hub_request, answered, use_hub, is_port_wait}
use Rattle.p8_cog.specs.Replay.{wait, wait_effect, does}
use Rattle.p8_cog.specs.Replay.{instruction, Outcome, Asks, Goes, Ends, played, step, after, first_with, loading, replayed, loaded_by}
use Rattle.p8_verify.specs.Table.{IsReasonWithin, IsTestWithin, IsAccessWithin, IsAnswerWithin}
use Rattle.p8_verify.proofs.Words.{if-word, mod-word}
use Rattle.p8_verify.proofs.Operators.{effect-word}
use Rattle.p8_verify.proofs.Limits.{IsWord, index-word, reduced-word, aligned-below, OptionWithin, none-within, if-option, value-word, AreAnswered}

-- where a cog is: its registers, PAR and the long at hand are words
pub record Sound (registers : List ℕ) (par long : ℕ) : Type 0 where
  pub words : All IsWord registers
  pub par_word : par < 2 ^ 32
  pub long_word : long < 2 ^ 32

abbrev pub IsSound : PasmState → Type 0
IsSound s = Sound s.registers s.par s.long

-- ---- courses

-- each access that a course may ask, and what it leaves, whatever is answered
abbrev AllHold : Course → Type 0
AllHold (Ask clock access go) = IsAccessWithin access × ((turn : Turn) → IsAnswerWithin turn.answer → AllHold (go turn))
AllHold (Go s) = IsSound s
AllHold End = Unit {0}

record Holds (course : Course) : Type 0 where
  all : AllHold course

if-course : (b : Bool) {x y : Course} → Holds x → Holds y → Holds (if b then x else y)
if-course true h k = h
if-course false h k = k

done : (s : PasmState) → IsSound s → Holds (Go s)
done s h = record { all = h }

ended : Holds End
ended = record { all = tt }

asks-hold : (clock : ℕ) (access : Access) (go : Turn → Course) → IsAccessWithin access → ((turn : Turn) → IsAnswerWithin turn.answer → Holds (go turn)) →
    Holds (Ask clock access go)
asks-hold clock access go h k = record { all = (h, λ turn is. (k turn is).all) }

ask-hold : (cog clock : ℕ) (access : Access) (go : Turn → Course) → IsAccessWithin access → ((turn : Turn) → IsAnswerWithin turn.answer →
    Holds (go turn)) → Holds (ask cog clock access go)
ask-hold cog clock access go h k = asks-hold clock access _ h (λ turn is. if-course (is_last cog access) ended (k turn is))

halts-hold : (clock : ℕ) (reason : Reason) → IsReasonWithin reason → Holds (halt clock reason)
halts-hold clock reason h = asks-hold clock (Halt reason) (λ turn. End) h (λ turn is. ended)

-- ---- what an instruction reads

nine-bits : (long : ℕ) → bit_range long 8 0 < 2 ^ 32
nine-bits long = omega arith

destination-below : (long : ℕ) → bit_range long 17 9 < 512
destination-below long = omega arith

destination-word : (s : PasmState) → IsSound s → destination_value s < 2 ^ 32
destination-word s h = index-word s.registers (at_hand s).dest h.words

source-word : (s : PasmState) → IsSound s → source_value s < 2 ^ 32
source-word s h =
    if-word (is_immediate (at_hand s)) (nine-bits s.long)
    (if-word ((at_hand s).source == par_register) h.par_word
    (if-word ((at_hand s).source == inb_register) (omega arith) (index-word s.registers (at_hand s).source h.words)))

source-holds : (i : Instr) → OptionWithin (source_access i)
source-holds i =
    if-option (is_immediate i) none-within
    (if-option (i.source == cnt_register) (record { some = tt })
    (if-option (i.source == ina_register) (record { some = tt }) none-within))

sourced-hold : (o : Option Access) (clock : ℕ) (s : PasmState) (go : ℕ → Course) → OptionWithin o → IsSound s →
    ((source : ℕ) → source < 2 ^ 32 → Holds (go source)) → Holds (sourced_by o clock s go)
sourced-hold None clock s go h sound k = k (source_value s) (source-word s sound)
sourced-hold (Some access) clock s go h sound k = asks-hold clock access _ h.some (λ turn is. k (value_of turn.answer) (value-word turn.answer is))

-- ---- what it writes

if-registers : (b : Bool) (xs ys : List ℕ) → All IsWord xs → All IsWord ys → All IsWord (if b then xs else ys)
if-registers true xs ys h k = h
if-registers false xs ys h k = k

registers-sound : (s : PasmState) (e : Effect) → IsSound s → e.result < 2 ^ 32 → All IsWord (registers_with s e)
registers-sound s e h low = if-registers (writes_result (at_hand s)) _ s.registers (All-set IsWord s.registers (at_hand s).dest e.result low h.words) h.words

goes-sound : (s : PasmState) (e : Effect) (address long clock : ℕ) → IsSound s → e.result < 2 ^ 32 → long < 2 ^ 32 → IsSound (goes_on s e address long clock)
goes-sound s e address long clock h low word = record { words = registers-sound s e h low; par_word = h.par_word; long_word = word }

before-sound : (s : PasmState) (e : Effect) (address clock : ℕ) → IsSound s → e.result < 2 ^ 32 → IsSound (fetched_before s e address clock)
before-sound s e address clock h low = goes-sound s e address _ clock h low (index-word s.registers address h.words)

after-sound : (s : PasmState) (e : Effect) (address clock : ℕ) → IsSound s → e.result < 2 ^ 32 → IsSound (fetched_after s e address clock)
after-sound s e address clock h low = goes-sound s e address _ clock h low (index-word (registers_with s e) address (registers-sound s e h low))

passed-sound : (s : PasmState) → IsSound s → IsSound (passed s)
passed-sound s h = record { words = h.words; par_word = h.par_word; long_word = index-word s.registers (next_of s) h.words }

register-holds : (register result : ℕ) → register < 512 → result < 2 ^ 32 → OptionWithin (register_access register result)
register-holds register result below low =
    if-option (register == outa_register) (record { some = low })
    (if-option (register == dira_register) (record { some = low })
    (if-option (nat_le ctra_register register && not (result == 0)) (record { some = below }) none-within))

result-holds : (s : PasmState) (result : ℕ) → result < 2 ^ 32 → OptionWithin (result_access (at_hand s) result)
result-holds s result low = if-option (writes_result (at_hand s)) (register-holds (at_hand s).dest result (destination-below s.long) low) none-within

written-hold : (o : Option Access) (cog clock : ℕ) (next : PasmState) → OptionWithin o → IsSound next → Holds (written_by o cog clock next)
written-hold None cog clock next h sound = done next sound
written-hold (Some access) cog clock next h sound = ask-hold cog clock access (λ turn. Go next) h.some (λ turn is. done next sound)

write-hold : (cog : ℕ) (s : PasmState) (x : Effect) (clock : ℕ) (next : PasmState) → x.result < 2 ^ 32 → IsSound next → Holds (write cog s x clock next)
write-hold cog s x clock next low sound = written-hold (result_access (at_hand s) x.result) cog clock next (result-holds s x.result low) sound

ends-hold : (cog : ℕ) (s : PasmState) (x : Effect) (clock : ℕ) → IsSound s → x.result < 2 ^ 32 → Holds (ends_after cog s x clock)
ends-hold cog s x clock sound low =
    write-hold cog s x clock (fetched_before s x (next_of s) (clock + 1)) low (before-sound s x (next_of s) (clock + 1) sound low)

-- ---- the hub

record RequestHolds (r : Request) : Type 0 where
  asks : IsAccessWithin r.access
  kept : r.kept < 2 ^ 32

if-request : (b : Bool) {x y : Request} → RequestHolds x → RequestHolds y → RequestHolds (if b then x else y)
if-request true h k = h
if-request false h k = k

if-within : (b : Bool) (x y : Access) → IsAccessWithin x → IsAccessWithin y → IsAccessWithin (if b then x else y)
if-within true x y h k = h
if-within false x y h k = k

eighth : (n : ℕ) → n % 8 < 8
eighth n = omega arith

eighth-word : (n : ℕ) → n % 8 < 2 ^ 32
eighth-word n = omega arith

mode-within : (value : ℕ) → IsAccessWithin (mode_access value)
mode-within value = if-within (is_set value 7) _ _ tt (omega arith)

target-if : (b : Bool) (n : ℕ) → n < 8 → IsNumber (if b then None else Some n)
target-if true n h = tt
target-if false n h = h

fourteen-bits : (value : ℕ) → (bit_range value 17 4 * 4 < 65536) × (bit_range value 31 18 * 4 < 65536)
fourteen-bits value = (omega arith, omega arith)

start-within : (value : ℕ) → IsAccessWithin (start_access value)
start-within value = (target-if (is_set value 3) (value % 8) (eighth value), fourteen-bits value)

operation-holds : (operation value : ℕ) → value < 2 ^ 32 → RequestHolds (operation_request operation value)
operation-holds operation value low =
    if-request (operation == clkset) (record { asks = mode-within value; kept = low })
    (if-request (operation == cogid) (record { asks = tt; kept = omega arith })
    (if-request (operation == coginit) (record { asks = start-within value; kept = omega arith })
    (if-request (operation == cogstop) (record { asks = eighth value; kept = eighth-word value })
    (if-request (operation == locknew) (record { asks = tt; kept = omega arith })
    (if-request (operation == lockret) (record { asks = eighth value; kept = eighth-word value })
    (if-request (operation == lockset) (record {
      asks =
          eighth value;
      kept = eighth-word value;
    }) (record { asks = eighth value; kept = eighth-word value })))))))

read-within : (width : Width) (address : ℕ) → address < 65536 → IsAccessWithin (read_access width address)
read-within width address low = if-within (nat_lt address 32768) _ _ low low

move-holds : (i : Instr) (width : Width) (value source : ℕ) → RequestHolds (move_request i width value source)
move-holds i width value source =
    if-request (writes_result i) (record { asks = read-within width (hub_address source width) (aligned-below width source); kept = omega arith })
    (record { asks = (aligned-below width source, reduced-word width value); kept = reduced-word width value })

hub-holds : (i : Instr) (value source : ℕ) → value < 2 ^ 32 → RequestHolds (hub_request i value source)
hub-holds i value source low = if-request (i.opcode == hubop) (operation-holds (source % 8) value low) (move-holds i (width_of i.opcode) value source)

answered-word : (kept : ℕ) (answer : Answer) → kept < 2 ^ 32 → IsAnswerWithin answer → (answered kept answer).result < 2 ^ 32
answered-word kept Done h is = h
answered-word kept (Was set) h is = h
answered-word kept (Value value) h is = is
answered-word kept (Number (Some n)) h is = omega (arith, is)
answered-word kept (Number None) h is = omega arith

uses_hub-hold : (cog : ℕ) (s : PasmState) (source : ℕ) → IsSound s → Holds (use_hub cog s source)
uses_hub-hold cog s source sound =
    let r = hub_request (at_hand s) (destination_value s) source in
    let holds = hub-holds (at_hand s) (destination_value s) source (destination-word s sound) in
    ask-hold cog (window_of cog (s.clock + 1)) r.access (λ turn. ends_after cog s (answered r.kept turn.answer) (turn.key.clock + 6)) holds.asks
    (λ turn is. ends-hold cog s (answered r.kept turn.answer) (turn.key.clock + 6) sound (answered-word r.kept turn.answer holds.kept is))

-- ---- waits, and what computes

if-test : (b : Bool) (x y : Test) → IsTestWithin x → IsTestWithin y → IsTestWithin (if b then x else y)
if-test true x y h k = h
if-test false x y h k = k

test-within : (opcode value source : ℕ) → value < 2 ^ 32 → source < 2 ^ 32 → IsTestWithin (test_of opcode value source)
test-within opcode value source h k = if-test (opcode == waitpeq) _ _ (h, k) (if-test (opcode == waitpne) _ _ (h, k) h)

if-effect : (b : Bool) (x y : Effect) → x.result < 2 ^ 32 → y.result < 2 ^ 32 → (if b then x else y).result < 2 ^ 32
if-effect true x y h k = h
if-effect false x y h k = k

wait_effect-word : (opcode value source : ℕ) → value < 2 ^ 32 → (wait_effect opcode value source).result < 2 ^ 32
wait_effect-word opcode value source h = if-effect (opcode == waitcnt) _ _ (mod-word (value + source)) h

wait-hold : (cog : ℕ) (s : PasmState) (source : ℕ) → IsSound s → source < 2 ^ 32 → Holds (wait cog s source)
wait-hold cog s source sound low =
    let value = destination-word s sound in
    ask-hold cog (s.clock + 4) (Wait (test_of (at_hand s).opcode (destination_value s) source))
    (λ turn. ends_after cog s (wait_effect (at_hand s).opcode (destination_value s) source) (turn.key.clock + 1))
    (test-within (at_hand s).opcode (destination_value s) source value low)
    (λ turn is. ends-hold cog s (wait_effect (at_hand s).opcode (destination_value s) source) (turn.key.clock + 1) sound
    (wait_effect-word (at_hand s).opcode (destination_value s) source value))

if-sound : (b : Bool) (s t : PasmState) → IsSound s → IsSound t → IsSound (if b then s else t)
if-sound true s t h k = h
if-sound false s t h k = k

computed-sound : (s : PasmState) (source : ℕ) → IsSound s → (effect s source).result < 2 ^ 32 → IsSound (computed s source)
computed-sound s source sound low =
    if-sound (nat_le djnz (at_hand s).opcode) (tested_jump s source) _
    (if-sound (jumps (at_hand s).opcode (effect s source).result) _ _ (before-sound s (effect s source) (source % 512) (s.clock + 4) sound low)
    (after-sound s (effect s source) (next_of s) (s.clock + 8) sound low))
    (before-sound s (effect s source) (plain_next s source) (s.clock + 4) sound low)

compute-hold : (cog : ℕ) (s : PasmState) (source : ℕ) → IsSound s → source < 2 ^ 32 → Holds (compute cog s source)
compute-hold cog s source sound low =
    let result = effect-word (at_hand s).opcode (destination_value s) source s.c s.z (next_of s) (destination-word s sound) low in
    write-hold cog s (effect s source) (s.clock + 3) (computed s source) result (computed-sound s source sound result)

does-hold : (kind : InstructionKind) (cog : ℕ) (s : PasmState) → IsSound s → Holds (does kind cog s)
does-hold Skipped cog s sound = done (passed s) (passed-sound s sound)
does-hold Halting cog s sound = halts-hold s.clock (Opcode s.long) sound.long_word
does-hold OfHub cog s sound =
    sourced-hold (source_access (at_hand s)) s.clock s (use_hub cog s) (source-holds (at_hand s)) sound (λ source low. uses_hub-hold cog s source sound)
does-hold Waiting cog s sound =
    if-course (is_port_wait s) (halts-hold s.clock Port tt)
    (sourced-hold (source_access (at_hand s)) (s.clock + 2) s (wait cog s) (source-holds (at_hand s)) sound (λ source low. wait-hold cog s source sound low))
does-hold Computing cog s sound =
    sourced-hold (source_access (at_hand s)) (s.clock + 2) s (compute cog s) (source-holds (at_hand s)) sound
    (λ source low. compute-hold cog s source sound low)

-- ---- the load

first-sound : (longs : List ℕ) (par begin : ℕ) → All IsWord longs → par < 2 ^ 32 → IsSound (first_with longs par begin)
first-sound longs par begin all low = record {
  words = All-append IsWord longs (replicate 16 0) all (All-replicate IsWord 16 0 (omega arith));
  par_word = low;
  long_word = index-word longs 0 all;
}

loading-hold : (l : Loaded) (to_come : ℕ) (longs : List ℕ) → l.code + 4 * 496 ≤ 32768 → l.par < 2 ^ 32 → length longs + to_come ≡ 496 → All IsWord longs →
    Holds (loading l to_come longs)
unfolding loading
loading-hold l zero longs fits par count all = record { all = first-sound longs l.par (l.load + 8192) all par }
loading-hold l (suc to_come) longs fits par count all =
    asks-hold (l.load + 16 * (length longs + 1)) (Read Long (l.code + 4 * length longs))
    (λ turn. loading l to_come (longs ++ value_of turn.answer ∷ [])) (omega (arith, fits, count))
    (λ turn is. loading-hold l to_come (longs ++ value_of turn.answer ∷ []) fits par
    (let more = length-append longs (value_of turn.answer ∷ []) in omega (arith, more, count))
    (All-push IsWord longs (value_of turn.answer) all (value-word turn.answer is)))

-- ---- what a life asks

abbrev AskedHold : Outcome → Type 0
AskedHold (Asks clock access) = IsAccessWithin access
AskedHold (Goes s left) = IsSound s × AreAnswered left
AskedHold Ends = Unit {0}

played-hold : (course : Course) → AllHold course → (turns : List Turn) → AreAnswered turns → AskedHold (played course turns)
played-hold (Ask clock access go) h [] are = h.0
played-hold (Ask clock access go) h (turn ∷ left) are = played-hold (go turn) (h.1 turn are.0) left are.1
played-hold (Go s) h turns are = (h, are)
played-hold End h turns are = tt

step-hold : (cog : ℕ) (o : Outcome) → AskedHold o → AskedHold (step cog o)
step-hold cog (Asks clock access) h = h
step-hold cog (Goes s left) h = played-hold (instruction cog s) (does-hold (kind_of (at_hand s) s.c s.z) cog s h.0).all left h.1
step-hold cog Ends h = tt

after-hold : (cog n : ℕ) (o : Outcome) → AskedHold o → AskedHold (after cog n o)
unfolding after
after-hold cog zero o h = h
after-hold cog (suc n) o h = step-hold cog (after cog n o) (after-hold cog n o h)

-- whatever it asks, where what it was told is within its limits
pub instructions-within : (l : Loaded) → l.code + 4 * 496 ≤ 32768 → l.par < 2 ^ 32 → (turns : List Turn) → AreAnswered turns →
    (n clock : ℕ) (access : Access) → replayed n l turns ≡ Asks clock access → IsAccessWithin access
instructions-within l fits par turns answered n clock access asks =
    subst AskedHold asks (after-hold l.cog n (loaded_by l turns)
    (played-hold (loading l 496 []) (loading-hold l 496 [] fits par (omega arith) (All-nil IsWord)).all turns answered))
