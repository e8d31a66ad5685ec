-- internal: what follows from a replay. No public contract cites it.
use Rattle.std.proofs.Common.{◌≡◌, ◌⊎◌, inl, inr, ℕ, zero, suc, ◌+◌, ◌*◌, ◌<◌, ◌≤◌, Bool, true, false, List, [], ◌∷◌, ◌++◌, length, Option, Some}
use Rattle.std.proofs.Common.{None, refl, sym, ◌∙◌, ap, subst, arith, add_comm, add-one, nat_le, not, ◌&&◌, ◌==◌, if◌then◌else◌}
use Rattle.std.proofs.lemmas.List.{length-append}
use Rattle.std.proofs.lemmas.Grind.{common_steps}
use Rattle.p8_access.specs.declared.kinds.Reason.TheVariants.{Register}
use Rattle.p8_access.specs.declared.kinds.Access.{Access}
use Rattle.p8_access.specs.declared.kinds.Access.TheVariants.{Wait, Clock, PinsIn, OutSet, DirSet, Halt}
use Rattle.p8_access.specs.declared.order.Turn.{Turn}
use Rattle.p8_access.specs.Windows.{window_of}
use Rattle.p8_access.specs.Proper.{value_of}
use Rattle.p8_access.specs.Lives.{Loaded, Begun, PasmBegun, SpinBegun, first_turn_of, is_last, IsOnTime, IsTurnAt}
use Rattle.p8_instr.specs.declared.instruction.Instr.{Instr}
use Rattle.p8_instr.specs.Instruction.{writes_result, is_immediate}
use Rattle.p8_alu.specs.declared.effect.Effect.{Effect}
use Rattle.p8_cog.specs.declared.instruction_kind.InstructionKind.{InstructionKind}
use Rattle.p8_cog.specs.declared.instruction_kind.InstructionKind.TheVariants.{Skipped, Halting, OfHub, Waiting, Computing}
use Rattle.p8_cog.specs.declared.hub.Request.{Request}
use Rattle.p8_cog.specs.declared.state.PasmState.{PasmState}
use Rattle.p8_cog.specs.Instructions.{cnt_register, ina_register, outa_register, dira_register, ctra_register, djnz, kind_of, source_access}
use Rattle.p8_cog.specs.Replay.{Course, Ask, Go, End, ask, at_hand, destination_value, source_value, sourced_by, sourced, answered, test_of}
use Rattle.p8_cog.specs.Replay.{wait_effect, effect, jumps, computed, compute, result_access, written_by, ends_after, hub_request, ask_hub, use_hub}
use Rattle.p8_cog.specs.Replay.{is_port_wait, wait, does, instruction, played, Outcome, Asks, Goes, Ends, step, after, loading, loaded_by, replayed}
use Rattle.p8_cog.specs.Replay.{IsAsked}
use Rattle.p8_cog.specs.Stops.{IsFrom, left_of, Comes}

-- ---- one course

-- a turn that is on time isn't before its earliest clock
pub on-time : (access : Access) (earliest clock : ℕ) → IsOnTime access earliest clock → earliest ≤ clock
on-time (Wait test) earliest clock on = on
on-time _ earliest clock on = omega arith

-- a course begins with nothing before a clock
abbrev pub IsNotBefore : ℕ → Course → Type 0
IsNotBefore least (Ask clock access go) = least ≤ clock
IsNotBefore least (Go s) = least ≤ s.clock
IsNotBefore least End = Unit {0}

-- what comes in a course after a turn that is on time comes later than it
abbrev pub IsOrderly : Course → Type 0
IsOrderly (Ask clock access go) =
    (turn : Turn) → (IsOnTime access clock turn.key.clock → IsNotBefore (turn.key.clock + 1) (go turn)) × IsOrderly (go turn)
IsOrderly (Go s) = Unit {0}
IsOrderly End = Unit {0}

-- a course that is done at once took 4 clocks at least
abbrev pub IsPaced : ℕ → Course → Type 0
IsPaced begin (Ask clock access go) = Unit {0}
IsPaced begin (Go s) = begin + 4 ≤ s.clock
IsPaced begin End = ⊥

-- a course asks so many accesses at most
abbrev pub IsShort : Course → ℕ → Type 0
IsShort (Ask clock access go) zero = ⊥
IsShort (Ask clock access go) (suc n) = (turn : Turn) → IsShort (go turn) n
IsShort (Go s) n = Unit {0}
IsShort End n = Unit {0}

pub if-holds : (P : Course → Type 0) (b : Bool) (x y : Course) → P x → P y → P (if b then x else y)
if-holds P true x y p q = p
if-holds P false x y p q = q

if-clock : (least : ℕ) (b : Bool) (x y : PasmState) → least ≤ x.clock → least ≤ y.clock → least ≤ (if b then x else y).clock
if-clock least true x y p q = p
if-clock least false x y p q = q

pub if-option : (P : Option Access → Type 0) (b : Bool) (x y : Option Access) → P x → P y → P (if b then x else y)
if-option P true x y p q = p
if-option P false x y p q = q

-- a fact of every access that a source makes
pub source-holds : (P : Option Access → Type 0) (i : Instr) → P None → P (Some Clock) → P (Some PinsIn) → P (source_access i)
source-holds P i none clock pins =
    if-option P (is_immediate i) _ _ none
    (if-option P (i.source == cnt_register) _ _ clock
    (if-option P (i.source == ina_register) _ _ pins none))

-- and of every access that a result makes
pub result-holds : (P : Option Access → Type 0) (i : Instr) (value : ℕ) → P None → P (Some (OutSet value)) → P (Some (DirSet value)) →
    P (Some (Halt (Register i.dest))) → P (result_access i value)
result-holds P i value none out dir stop =
    if-option P (writes_result i) _ _
    (if-option P (i.dest == outa_register) _ _ out
    (if-option P (i.dest == dira_register) _ _ dir
    (if-option P (nat_le ctra_register i.dest && not (value == 0)) _ _ stop none)))
    none

-- ---- the parts of an instruction

pub ask-orderly : (cog clock : ℕ) (access : Access) (go : Turn → Course) →
    ((turn : Turn) → IsOnTime access clock turn.key.clock → IsNotBefore (turn.key.clock + 1) (go turn)) → ((turn : Turn) → IsOrderly (go turn)) →
    IsOrderly (ask cog clock access go)
ask-orderly cog clock access go later rest =
    λ turn. (
      λ on. if-holds (IsNotBefore (turn.key.clock + 1)) (is_last cog access) End (go turn) tt (later turn on),
      if-holds IsOrderly
          (is_last cog access) End (go turn) tt (rest turn),
    )

ask-short : (cog clock n : ℕ) (access : Access) (go : Turn → Course) → ((turn : Turn) → IsShort (go turn) n) → IsShort (ask cog clock access go) (suc n)
ask-short cog clock n access go rest = λ turn. if-holds (λ c. IsShort c n) (is_last cog access) End (go turn) tt (rest turn)

written-not_before : (found : Option Access) (cog clock least : ℕ) (next : PasmState) → least ≤ clock → least ≤ next.clock →
    IsNotBefore least (written_by found cog clock next)
written-not_before None cog clock least next here there = there
written-not_before (Some access) cog clock least next here there = here

written-orderly : (i : Instr) (value cog clock : ℕ) (next : PasmState) → clock + 1 ≤ next.clock → IsOrderly (written_by (result_access i value) cog clock next)
written-orderly i value cog clock next later =
    result-holds (λ found. IsOrderly (written_by found cog clock next)) i value tt
    (ask-orderly cog clock (OutSet value) (λ turn. Go next) (λ turn on. omega (arith, on, later)) (λ turn. tt))
    (ask-orderly cog clock (DirSet value) (λ turn. Go next) (λ turn on. omega (arith, on, later)) (λ turn. tt))
    (λ turn. (λ on. tt, tt))

written-paced : (found : Option Access) (cog clock begin : ℕ) (next : PasmState) → begin + 4 ≤ next.clock → IsPaced begin (written_by found cog clock next)
written-paced None cog clock begin next there = there
written-paced (Some access) cog clock begin next there = tt

written-short : (found : Option Access) (cog clock n : ℕ) (next : PasmState) → IsShort (written_by found cog clock next) (suc n)
written-short None cog clock n next = tt
written-short (Some access) cog clock n next = ask-short cog clock n access (λ turn. Go next) (λ turn. tt)

ends-not_before : (cog : ℕ) (s : PasmState) (e : Effect) (clock least : ℕ) → least ≤ clock → IsNotBefore least (ends_after cog s e clock)
ends-not_before cog s e clock least here = written-not_before (result_access (at_hand s) e.result) cog clock least _ here (omega (arith, here))

ends-orderly : (cog : ℕ) (s : PasmState) (e : Effect) (clock : ℕ) → IsOrderly (ends_after cog s e clock)
ends-orderly cog s e clock = written-orderly (at_hand s) e.result cog clock _ (omega arith)

ends-short : (cog : ℕ) (s : PasmState) (e : Effect) (clock n : ℕ) → IsShort (ends_after cog s e clock) (suc n)
ends-short cog s e clock n = written-short (result_access (at_hand s) e.result) cog clock n _

-- how an instruction goes on after an access of the hub, and after a wait
abbrev pub behind_hub : (cog : ℕ) → PasmState → Request → Turn → Course
behind_hub cog s r turn = ends_after cog s (answered r.kept turn.answer) (turn.key.clock + 6)

abbrev pub behind_wait : (cog : ℕ) → PasmState → (source : ℕ) → Turn → Course
behind_wait cog s source turn =
    ends_after cog s (wait_effect (at_hand s).opcode (destination_value s) source) (turn.key.clock + 1)

hub-orderly : (cog : ℕ) (s : PasmState) (r : Request) → IsOrderly (ask_hub cog s r)
hub-orderly cog s r =
    ask-orderly cog (window_of cog (s.clock + 1)) r.access (behind_hub cog s r)
    (λ turn on. ends-not_before cog s (answered r.kept turn.answer) (turn.key.clock + 6) (turn.key.clock + 1) (omega arith))
    (λ turn. ends-orderly cog s (answered r.kept turn.answer) (turn.key.clock + 6))

hub-short : (cog n : ℕ) (s : PasmState) (r : Request) → IsShort (ask_hub cog s r) (suc (suc n))
hub-short cog n s r =
    ask-short cog (window_of cog (s.clock + 1)) (suc n) r.access (behind_hub cog s r)
    (λ turn. ends-short cog s (answered r.kept turn.answer) (turn.key.clock + 6) n)

wait-orderly : (cog : ℕ) (s : PasmState) (source : ℕ) → IsOrderly (wait cog s source)
wait-orderly cog s source =
    ask-orderly cog (s.clock + 4) (Wait (test_of (at_hand s).opcode (destination_value s) source)) (behind_wait cog s source)
    (λ turn on. ends-not_before cog s (wait_effect (at_hand s).opcode (destination_value s) source) (turn.key.clock + 1) (turn.key.clock + 1) (omega arith))
    (λ turn. ends-orderly cog s (wait_effect (at_hand s).opcode (destination_value s) source) (turn.key.clock + 1))

wait-short : (cog n : ℕ) (s : PasmState) (source : ℕ) → IsShort (wait cog s source) (suc (suc n))
wait-short cog n s source =
    ask-short cog (s.clock + 4) (suc n) (Wait (test_of (at_hand s).opcode (destination_value s) source)) (behind_wait cog s source)
    (λ turn. ends-short cog s (wait_effect (at_hand s).opcode (destination_value s) source) (turn.key.clock + 1) n)

computed-clock : (s : PasmState) (source : ℕ) → s.clock + 4 ≤ (computed s source).clock
computed-clock s source =
    if-clock _ (nat_le djnz (at_hand s).opcode) _ _
    (if-clock _ (jumps (at_hand s).opcode (effect s source).result) _ _ (omega arith) (omega arith))
    (omega arith)

compute-not_before : (cog least : ℕ) (s : PasmState) (source : ℕ) → least ≤ s.clock + 3 → IsNotBefore least (compute cog s source)
compute-not_before cog least s source here =
    written-not_before (result_access (at_hand s) (effect s source).result) cog (s.clock + 3) least (computed s source) here
    (omega (arith, here, computed-clock s source))

compute-orderly : (cog : ℕ) (s : PasmState) (source : ℕ) → IsOrderly (compute cog s source)
compute-orderly cog s source =
    written-orderly (at_hand s) (effect s source).result cog (s.clock + 3) (computed s source) (omega (arith, computed-clock s source))

sourced-not_before : (found : Option Access) (clock least : ℕ) (s : PasmState) (go : ℕ → Course) → least ≤ clock →
    ((value : ℕ) → IsNotBefore least (go value)) → IsNotBefore least (sourced_by found clock s go)
sourced-not_before None clock least s go here rest = rest _
sourced-not_before (Some access) clock least s go here rest = here

sourced-orderly : (clock : ℕ) (s : PasmState) (go : ℕ → Course) → ((value : ℕ) → IsNotBefore (clock + 1) (go value)) →
    ((value : ℕ) → IsOrderly (go value)) → IsOrderly (sourced clock s go)
sourced-orderly clock s go later rest =
    source-holds (λ found. IsOrderly (sourced_by found clock s go)) (at_hand s) (rest (source_value s))
    (λ turn. (λ on. subst (λ (k : ℕ). IsNotBefore (k + 1) (go (value_of turn.answer))) on (later (value_of turn.answer)), rest (value_of turn.answer)))
    (λ turn. (λ on. subst (λ (k : ℕ). IsNotBefore (k + 1) (go (value_of turn.answer))) on (later (value_of turn.answer)), rest (value_of turn.answer)))

sourced-paced : (found : Option Access) (clock begin : ℕ) (s : PasmState) (go : ℕ → Course) → ((value : ℕ) → IsPaced begin (go value)) →
    IsPaced begin (sourced_by found clock s go)
sourced-paced None clock begin s go rest = rest _
sourced-paced (Some access) clock begin s go rest = tt

sourced-short : (found : Option Access) (clock n : ℕ) (s : PasmState) (go : ℕ → Course) → ((value k : ℕ) → IsShort (go value) (suc (suc k))) →
    IsShort (sourced_by found clock s go) (suc (suc (suc n)))
sourced-short None clock n s go rest = rest _ (suc n)
sourced-short (Some access) clock n s go rest = λ turn. rest _ n

-- ---- each kind of instruction

-- nothing comes before an instruction's begin
does-not_before : (kind : InstructionKind) (cog : ℕ) (s : PasmState) → IsNotBefore s.clock (does kind cog s)
does-not_before Skipped cog s = omega arith
does-not_before Halting cog s = omega arith
does-not_before OfHub cog s =
    sourced-not_before (source_access (at_hand s)) s.clock s.clock s (use_hub cog s) (omega arith) (λ value. omega arith)
does-not_before Waiting cog s =
    if-holds (IsNotBefore s.clock) (is_port_wait s) _ _ (omega arith)
    (sourced-not_before (source_access (at_hand s)) (s.clock + 2) s.clock s (wait cog s) (omega arith) (λ value. omega arith))
does-not_before Computing cog s =
    sourced-not_before (source_access (at_hand s)) (s.clock + 2) s.clock s (compute cog s) (omega arith)
    (λ value. compute-not_before cog s.clock s value (omega arith))

does-orderly : (kind : InstructionKind) (cog : ℕ) (s : PasmState) → IsOrderly (does kind cog s)
does-orderly Skipped cog s = tt
does-orderly Halting cog s = λ turn. (λ on. tt, tt)
does-orderly OfHub cog s =
    sourced-orderly s.clock s (use_hub cog s) (λ value. omega arith) (λ value. hub-orderly cog s (hub_request (at_hand s) (destination_value s) value))
does-orderly Waiting cog s =
    if-holds IsOrderly (is_port_wait s) _ _ (λ turn. (λ on. tt, tt))
    (sourced-orderly (s.clock + 2) s (wait cog s) (λ value. omega arith) (λ value. wait-orderly cog s value))
does-orderly Computing cog s =
    sourced-orderly (s.clock + 2) s (compute cog s) (λ value. compute-not_before cog _ s value (omega arith)) (λ value. compute-orderly cog s value)

does-paced : (kind : InstructionKind) (cog : ℕ) (s : PasmState) → IsPaced s.clock (does kind cog s)
does-paced Skipped cog s = omega arith
does-paced Halting cog s = tt
does-paced OfHub cog s = sourced-paced (source_access (at_hand s)) _ s.clock s (use_hub cog s) (λ value. tt)
does-paced Waiting cog s =
    if-holds (IsPaced s.clock) (is_port_wait s) _ _ tt
    (sourced-paced (source_access (at_hand s)) _ s.clock s (wait cog s) (λ value. tt))
does-paced Computing cog s =
    sourced-paced (source_access (at_hand s)) _ s.clock s (compute cog s)
    (λ value. written-paced (result_access (at_hand s) (effect s value).result) cog (s.clock + 3) s.clock (computed s value) (computed-clock s value))

does-short : (kind : InstructionKind) (cog : ℕ) (s : PasmState) → IsShort (does kind cog s) (suc (suc (suc zero)))
does-short Skipped cog s = tt
does-short Halting cog s = λ turn. tt
does-short OfHub cog s =
    sourced-short (source_access (at_hand s)) _ zero s (use_hub cog s) (λ value n. hub-short cog n s (hub_request (at_hand s) (destination_value s) value))
does-short Waiting cog s =
    if-holds (λ c. IsShort c (suc (suc (suc zero)))) (is_port_wait s) _ _ (λ turn. tt)
    (sourced-short (source_access (at_hand s)) _ zero s (wait cog s) (λ value n. wait-short cog n s value))
does-short Computing cog s =
    sourced-short (source_access (at_hand s)) _ zero s (compute cog s)
    (λ value n. written-short (result_access (at_hand s) (effect s value).result) cog (s.clock + 3) (suc n) (computed s value))

-- ---- a course that is played

pub played-from : (course : Course) (least : ℕ) → IsNotBefore least course → IsFrom least (played course [])
played-from (Ask clock access go) least from = from
played-from (Go s) least from = from
played-from End least from = tt

-- more turns after: they are left where the outcome doesn't wait for one
abbrev pub more : Outcome → List Turn → Outcome
more (Goes s left) extra = Goes s (left ++ extra)
more (Asks clock access) extra = Asks clock access
more Ends extra = Ends

abbrev pub Moves : Outcome → Type 0
Moves (Goes s left) = Unit {0}
Moves (Asks clock access) = ⊥
Moves Ends = Unit {0}

played-more : (course : Course) (ts extra : List Turn) → Moves (played course ts) → played course (ts ++ extra) ≡ more (played course ts) extra
played-more (Ask clock access go) [] extra moves = absurd moves
played-more (Ask clock access go) (turn ∷ ts) extra moves = played-more (go turn) ts extra moves
played-more (Go s) ts extra moves = refl
played-more End ts extra moves = refl

-- with the turn of the access that it asks, a course comes to what is later than that turn
played-then : (course : Course) (ts : List Turn) (turn : Turn) (clock : ℕ) (access : Access) → IsOrderly course →
    IsOnTime access clock turn.key.clock → played course ts ≡ Asks clock access → IsFrom (turn.key.clock + 1) (played course (ts ++ turn ∷ []))
played-then (Ask c a go) [] turn clock access orderly on asks =
    let same : c ≡ clock = cc in
    let what : a ≡ access = cc in
    played-from (go turn) _ ((orderly turn).0 (subst (λ (k : ℕ). IsOnTime a k turn.key.clock) (sym same)
    (subst (λ (x : Access). IsOnTime x clock turn.key.clock) (sym what) on)))
played-then (Ask c a go) (first ∷ ts) turn clock access orderly on asks =
    played-then (go first) ts turn clock access (orderly first).1 on asks
played-then (Go s) ts turn clock access orderly on asks = absurd (let e : Goes s ts ≡ Asks clock access = asks in cc)
played-then End ts turn clock access orderly on asks = absurd (let e : Ends ≡ Asks clock access = asks in cc)

-- after as many turns as it may have a course asks nothing
played-none : (course : Course) (clock : ℕ) (access : Access) → IsShort course zero → played course [] ≡ Asks clock access → ⊥
played-none (Ask c a go) clock access short asks = short
played-none (Go s) clock access short asks = let e : Goes s [] ≡ Asks clock access = asks in cc
played-none End clock access short asks = let e : Ends ≡ Asks clock access = asks in cc

played-one : (n : ℕ) (course : Course) (turn : Turn) (left : List Turn) (clock : ℕ) (access : Access) → IsShort course (suc n) →
    ((rest : Course) → IsShort rest n → played rest left ≡ Asks clock access → ⊥) → played course (turn ∷ left) ≡ Asks clock access → ⊥
played-one n (Ask c a go) turn left clock access short rest asks = rest (go turn) (short turn) asks
played-one n (Go s) turn left clock access short rest asks = let e : Goes s (turn ∷ left) ≡ Asks clock access = asks in cc
played-one n End turn left clock access short rest asks = let e : Ends ≡ Asks clock access = asks in cc

pub third-last : (cog : ℕ) (s : PasmState) (first second third : Turn) (clock : ℕ) (access : Access) →
    played (instruction cog s) (first ∷ second ∷ third ∷ []) ≡ Asks clock access → ⊥
third-last cog s first second third clock access asks =
    played-one (suc (suc zero)) (instruction cog s) first (second ∷ third ∷ []) clock access (does-short (kind_of (at_hand s) s.c s.z) cog s)
    (λ c short. played-one (suc zero) c second (third ∷ []) clock access short
    (λ d shorter. played-one zero d third [] clock access shorter
    (λ e none. played-none e clock access none)))
    asks

-- an instruction that is done at once took 4 clocks at least, and isn't the end of the life
paced-in : (begin : ℕ) (course : Course) (next : PasmState) → IsPaced begin course → played course [] ≡ Goes next [] → begin + 4 ≤ next.clock
paced-in begin (Ask c a go) next paced e = absurd (let x : Asks c a ≡ Goes next [] = e in cc)
paced-in begin (Go s) next paced e =
    let same : s ≡ next = (let x : Goes s [] ≡ Goes next [] = e in cc) in
    subst (λ (t : PasmState). begin + 4 ≤ t.clock) same paced
paced-in begin End next paced e = absurd paced

pub paced : (cog : ℕ) (s next : PasmState) → played (instruction cog s) [] ≡ Goes next [] → s.clock + 4 ≤ next.clock
paced cog s next e = paced-in s.clock (instruction cog s) next (does-paced (kind_of (at_hand s) s.c s.z) cog s) e

-- what a turn leads to is later than it
pub came : (cog : ℕ) (s : PasmState) (ts : List Turn) (turn : Turn) → Comes (played (instruction cog s) ts) turn →
    IsFrom (turn.key.clock + 1) (played (instruction cog s) (ts ++ turn ∷ []))
came cog s ts turn comes =
    played-then (instruction cog s) ts turn comes.0 turn.access (does-orderly (kind_of (at_hand s) s.c s.z) cog s) comes.2 comes.1

-- what is done has no turn left
pub whole-in : (clock : ℕ) (o : Outcome) (next : PasmState) → IsFrom clock o → o ≡ Goes next (left_of o) → (o ≡ Goes next []) × (clock ≤ next.clock)
whole-in clock (Goes s []) next from e =
    let same : s ≡ next = (let x : Goes s [] ≡ Goes next [] = e in cc) in
    (e, subst (λ (t : PasmState). clock ≤ t.clock) same from)
whole-in clock (Goes s (turn ∷ left)) next from e = absurd from
whole-in clock (Asks c a) next from e = absurd (let x : Asks c a ≡ Goes next [] = e in cc)
whole-in clock Ends next from e = absurd (let x : Ends ≡ Goes next [] = e in cc)

-- what is asked where an instruction begins isn't before that
pub begin-asks : (cog clock : ℕ) (s : PasmState) (access : Access) → played (instruction cog s) [] ≡ Asks clock access → s.clock ≤ clock
begin-asks cog clock s access e =
    subst (IsFrom s.clock) e (played-from (instruction cog s) s.clock (does-not_before (kind_of (at_hand s) s.c s.z) cog s))

-- ---- many instructions

-- one instruction more
pub after-one : (cog n : ℕ) (o : Outcome) → after cog (n + 1) o ≡ step cog (after cog n o)
unfolding after
after-one cog n o = rw add-one refl

-- m instructions after k
pub after-plus : (cog m k : ℕ) (o : Outcome) → after cog (m + k) o ≡ after cog m (after cog k o)
unfolding after
after-plus cog zero k o = grind (arith, common_steps)
after-plus cog (suc m) k o =
    let e : suc m + k ≡ suc (m + k) = omega arith in
    rw e (ap (step cog) (after-plus cog m k o))

-- what has stopped stays as it is
pub after-asks : (cog n clock : ℕ) (access : Access) → after cog n (Asks clock access) ≡ Asks clock access
unfolding after
after-asks cog zero clock access = refl
after-asks cog (suc n) clock access = ap (step cog) (after-asks cog n clock access)

pub from-below : (a b : ℕ) (o : Outcome) → a ≤ b → IsFrom b o → IsFrom a o
from-below a b (Goes s []) le from = omega arith
from-below a b (Goes s (turn ∷ left)) le from = from
from-below a b (Asks c access) le from = omega arith
from-below a b Ends le from = tt

pub step-from : (cog clock : ℕ) (o : Outcome) → IsFrom clock o → IsFrom clock (step cog o)
step-from cog clock (Goes s []) from =
    from-below _ _ _ from (played-from _ _ (does-not_before (kind_of (at_hand s) s.c s.z) cog s))
step-from cog clock (Goes s (turn ∷ left)) from = absurd from
step-from cog clock (Asks c access) from = from
step-from cog clock Ends from = from

pub after-from : (cog n clock : ℕ) (o : Outcome) → IsFrom clock o → IsFrom clock (after cog n o)
unfolding after
after-from cog zero clock o from = from
after-from cog (suc n) clock o from = step-from cog clock _ (after-from cog n clock o from)

step-moves : (cog : ℕ) (o : Outcome) → Moves (step cog o) → Moves o
step-moves cog (Goes s left) moves = tt
step-moves cog (Asks clock access) moves = moves
step-moves cog Ends moves = tt

after-moves : (cog n : ℕ) (o : Outcome) → Moves (after cog n o) → Moves o
unfolding after
after-moves cog zero o moves = moves
after-moves cog (suc n) o moves = after-moves cog n o (step-moves cog (after cog n o) moves)

step-more : (cog : ℕ) (o : Outcome) (extra : List Turn) → Moves (step cog o) → step cog (more o extra) ≡ more (step cog o) extra
step-more cog (Goes s left) extra moves = played-more (instruction cog s) left extra moves
step-more cog (Asks clock access) extra moves = refl
step-more cog Ends extra moves = refl

after-more : (cog n : ℕ) (o : Outcome) (extra : List Turn) → Moves (after cog n o) → after cog n (more o extra) ≡ more (after cog n o) extra
unfolding after
after-more cog zero o extra moves = refl
after-more cog (suc n) o extra moves =
    ap (step cog) (after-more cog n o extra (step-moves cog _ moves)) ∙ step-more cog (after cog n o) extra moves

-- ---- the load

loading-not_before : (least : ℕ) (l : Loaded) (n : ℕ) (longs : List ℕ) → length longs + n ≤ 496 → least ≤ l.load + 16 * length longs + 1 →
    IsNotBefore least (loading l n longs)
unfolding loading
loading-not_before least l zero longs room le = omega (arith, room, le)
loading-not_before least l (suc n) longs room le = omega (arith, le)

-- what comes after a read comes later than it
loading-orderly : (l : Loaded) (n : ℕ) (longs : List ℕ) → length longs + n ≤ 496 → IsOrderly (loading l n longs)
unfolding loading
loading-orderly l zero longs room = tt
loading-orderly l (suc n) longs room = λ turn.
    let size : length (longs ++ value_of turn.answer ∷ []) ≡ length longs + 1 = length-append longs (value_of turn.answer ∷ []) in
    let rest : length (longs ++ value_of turn.answer ∷ []) + n ≤ 496 = omega (arith, size, room) in (
      (λ on. loading-not_before (turn.key.clock + 1) l n (longs ++ value_of turn.answer ∷ []) rest (omega (arith, size, on))),
      loading-orderly l n (longs ++ value_of turn.answer ∷ []) rest,
    )

-- ---- a life

-- where a turn comes, it is left for the instruction that has been reached
pub turn-kept : (k : ℕ) (loaded : Loaded) (ts : List Turn) (turn : Turn) (s : PasmState) (left : List Turn) → replayed k loaded ts ≡ Goes s left →
    replayed k loaded (ts ++ turn ∷ []) ≡ Goes s (left ++ turn ∷ [])
turn-kept k loaded ts turn s left reached =
    let moves : Moves (replayed k loaded ts) = subst Moves (sym reached) tt in
    let begun : Moves (loaded_by loaded ts) = after-moves loaded.cog k (loaded_by loaded ts) moves in
    ap (after loaded.cog k) (played-more (loading loaded 496 []) ts (turn ∷ []) begun)
    ∙ after-more loaded.cog k (loaded_by loaded ts) (turn ∷ []) moves
    ∙ ap (λ (o : Outcome). more o (turn ∷ [])) reached

-- and is taken by that instruction
pub turn-taken : (k : ℕ) (loaded : Loaded) (ts : List Turn) (turn : Turn) (s : PasmState) (left : List Turn) → replayed k loaded ts ≡ Goes s left →
    replayed (k + 1) loaded (ts ++ turn ∷ []) ≡ played (instruction loaded.cog s) (left ++ turn ∷ [])
turn-taken k loaded ts turn s left reached =
    after-one loaded.cog k _ ∙ ap (step loaded.cog) (turn-kept k loaded ts turn s left reached)

-- what is asked at all is asked from what has been reached
asked-from : (loaded : Loaded) (ts : List Turn) (k n clock : ℕ) (access : Access) (o : Outcome) → replayed k loaded ts ≡ o →
    replayed n loaded ts ≡ Asks clock access → after loaded.cog n o ≡ Asks clock access
asked-from loaded ts k n clock access o reached asks =
    ap (after loaded.cog n) (sym reached) ∙ sym (after-plus loaded.cog n k _)
    ∙ ap (λ (count : ℕ). replayed count loaded ts) (add_comm n k)
    ∙ after-plus loaded.cog k n _ ∙ ap (after loaded.cog k) asks ∙ after-asks loaded.cog k clock access

-- and not before it
pub not-before : (loaded : Loaded) (ts : List Turn) (k : ℕ) (o : Outcome) (until : ℕ) → replayed k loaded ts ≡ o → IsFrom until o →
    (n clock : ℕ) (access : Access) → replayed n loaded ts ≡ Asks clock access → until ≤ clock
not-before loaded ts k o until reached from n clock access asks =
    subst (IsFrom until) (asked-from loaded ts k n clock access o reached asks) (after-from loaded.cog n until o from)

-- and not before how the load stands
load-bounds : (loaded : Loaded) (ts : List Turn) (until : ℕ) → IsFrom until (loaded_by loaded ts) → (n clock : ℕ) (access : Access) →
    replayed n loaded ts ≡ Asks clock access → until ≤ clock
unfolding after
load-bounds loaded ts until from n clock access asks =
    not-before loaded ts zero (loaded_by loaded ts) until refl from n clock access asks

-- one access is asked
pub one-asked : (b : Begun) (ts : List Turn) (c d : ℕ) (a e : Access) → IsAsked b ts c a → IsAsked b ts d e → (c ≡ d) × (a ≡ e)
one-asked (PasmBegun loaded) ts c d a e one other =
    let same : Asks c a ≡ Asks d e = sym (after-asks loaded.cog other.0 c a) ∙ asked-from loaded ts one.0 other.0 d e (Asks c a) one.1 other.1 in
    (cc, cc)
one-asked (SpinBegun entered) ts c d a e one other = absurd one

-- nothing is asked up to the turn of the Load
pub asked-first : (b : Begun) (c : ℕ) (a : Access) → IsAsked b [] c a → first_turn_of b < c
asked-first (PasmBegun loaded) c a asked =
    let from : IsFrom (loaded.load + 1) (loaded_by loaded []) = played-from (loading loaded 496 []) (loaded.load + 1)
    (loading-not_before (loaded.load + 1) loaded 496 [] (omega arith) (omega arith)) in
    let le : loaded.load + 1 ≤ c = load-bounds loaded [] (loaded.load + 1) from asked.0 c a asked.1 in
    omega (arith, le)
asked-first (SpinBegun entered) c a asked = absurd asked

-- an instruction that has been reached and asks this
abbrev pub Asker : ℕ → Outcome → ℕ → Access → Type 0
Asker cog o clock access =
    (k : ℕ) × (at : PasmState) × (left : List Turn) × (after cog k o ≡ Goes at left) × (played (instruction cog at) left ≡ Asks clock access)

asker-step : (cog n : ℕ) (from : Outcome) (clock : ℕ) (access : Access) (o : Outcome) →
    (after cog n from ≡ Asks clock access → (from ≡ Asks clock access) ⊎ Asker cog from clock access) → after cog n from ≡ o →
    step cog o ≡ Asks clock access → (from ≡ Asks clock access) ⊎ Asker cog from clock access
asker-step cog n from clock access (Goes at left) before reached asks = inr (n, at, left, reached, asks)
asker-step cog n from clock access (Asks c a) before reached asks = before (reached ∙ asks)
asker-step cog n from clock access Ends before reached asks = absurd cc

-- what asks is where a walk begins, or an instruction on the way
asker : (cog n : ℕ) (from : Outcome) (clock : ℕ) (access : Access) → after cog n from ≡ Asks clock access →
    (from ≡ Asks clock access) ⊎ Asker cog from clock access
unfolding after
asker cog zero from clock access e = inl e
asker cog (suc n) from clock access e = asker-step cog n from clock access (after cog n from) (asker cog n from clock access) refl e

-- what is asked after a turn comes later than it
later-by : (loaded : Loaded) (ts : List Turn) (turn : Turn) (c d : ℕ) (a e : Access) → IsOnTime a c turn.key.clock →
    (loaded_by loaded ts ≡ Asks c a) ⊎ Asker loaded.cog (loaded_by loaded ts) c a → IsAsked (PasmBegun loaded) (ts ++ turn ∷ []) d e → turn.key.clock + 1 ≤ d
later-by loaded ts turn c d a e on (inl load) other =
    load-bounds loaded (ts ++ turn ∷ []) (turn.key.clock + 1)
    (played-then (loading loaded 496 []) ts turn c a (loading-orderly loaded 496 [] (omega arith)) on load)
    other.0 d e other.1
later-by loaded ts turn c d a e on (inr w) other =
    let taken = turn-taken w.0 loaded ts turn w.1 w.2 w.3 in
    let orderly = does-orderly (kind_of (at_hand w.1) w.1.c w.1.z) loaded.cog w.1 in
    not-before loaded (ts ++ turn ∷ []) (w.0 + 1) _ (turn.key.clock + 1) taken (played-then _ w.2 turn c a orderly on w.4) other.0 d e other.1

pub asked-later : (b : Begun) (ts : List Turn) (turn : Turn) (c d : ℕ) (a e : Access) → IsAsked b ts c a → IsTurnAt c a turn →
    IsAsked b (ts ++ turn ∷ []) d e → turn.key.clock < d
asked-later (PasmBegun loaded) ts turn c d a e one at other =
    let le : turn.key.clock + 1 ≤ d = later-by loaded ts turn c d a e at.1 (asker loaded.cog one.0 (loaded_by loaded ts) c a one.1) other in
    omega (arith, le)
asked-later (SpinBegun entered) ts turn c d a e one at other = absurd one
