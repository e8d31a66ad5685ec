-- internal: how far a course goes, and how it ends. No public contract cites it.
use Rattle.std.proofs.Common.{◌≡◌, ℕ, ◌+◌, ◌<◌, ◌≤◌, ◌^◌, Bool, true, false, List, [], ◌∷◌, ◌++◌, Option, Some, None, refl, sym, ◌∙◌, ap, subst}
use Rattle.std.proofs.Common.{arith, nat_le, ◌||◌, if◌then◌else◌}
use Rattle.p8_access.specs.declared.kinds.Access.{Access}
use Rattle.p8_access.specs.declared.kinds.Access.TheVariants.{Wait, OutSet, DirSet}
use Rattle.p8_access.specs.declared.order.Turn.{Turn}
use Rattle.p8_access.specs.Windows.{window_of}
use Rattle.p8_access.specs.Proper.{value_of}
use Rattle.p8_access.specs.Lives.{is_last, has_ended, IsOnTime}
use Rattle.p8_instr.specs.declared.instruction.Instr.{Instr}
use Rattle.p8_alu.specs.declared.effect.Effect.{Effect}
use Rattle.p8_cog.specs.declared.instruction_kind.InstructionKind.{InstructionKind}
use Rattle.p8_cog.specs.declared.instruction_kind.InstructionKind.TheVariants.{Skipped, Halting, OfHub, Waiting, Computing}
use Rattle.p8_cog.specs.declared.hub.Request.{Request}
use Rattle.p8_cog.specs.declared.state.PasmState.{PasmState}
use Rattle.p8_cog.specs.declared.progress.Had.{Had}
use Rattle.p8_cog.specs.Instructions.{djnz, kind_of, source_access}
use Rattle.p8_cog.specs.Replay.{Course, Ask, Go, End, ask, at_hand, destination_value, source_value, sourced_by, sourced, answered, test_of}
use Rattle.p8_cog.specs.Replay.{wait_effect, effect, jumps, computed, compute, result_access, written_by, ends_after, hub_request, ask_hub, use_hub}
use Rattle.p8_cog.specs.Replay.{is_port_wait, wait, does, instruction, played, Outcome, Asks, Goes, Ends}
use Rattle.p8_cog.specs.Standing.{turns_of, clock_in}
use Rattle.p8_cog.specs.Stops.{IsFrom, left_of, latest, is_asking, IsHalf, Comes}
use Rattle.p8_cog.specs.Replaying.{if-holds, source-holds, result-holds, behind_hub, behind_wait, whole-in, came}

-- ---- what a course may do

-- it asks within the next window from here, or is done within 8 clocks
abbrev pub IsWithin : ℕ → Course → Type 0
IsWithin base (Ask clock access go) = clock ≤ base + 16
IsWithin base (Go s) = s.clock ≤ base + 8
IsWithin base End = Unit {0}

-- and so it does after each turn that is on time
abbrev pub IsClose : Course → Type 0
IsClose (Ask clock access go) =
    (turn : Turn) → (IsOnTime access clock turn.key.clock → IsWithin turn.key.clock (go turn)) × IsClose (go turn)
IsClose (Go s) = Unit {0}
IsClose End = Unit {0}

-- it ends only after a last access; `last` says whether the access before is one
abbrev pub EndsBy : (cog : ℕ) → (last : Bool) → Course → Type 0
EndsBy cog last (Ask clock access go) = (turn : Turn) → EndsBy cog (is_last cog access) (go turn)
EndsBy cog last (Go s) = Unit {0}
EndsBy cog last End = last ≡ true

if-state : (P : PasmState → Type 0) (b : Bool) (x y : PasmState) → P x → P y → P (if b then x else y)
if-state P true x y p q = p
if-state P false x y p q = q

end-by : (cog : ℕ) (b : Bool) (rest : Course) → ((last : Bool) → EndsBy cog last rest) → EndsBy cog b (if b then End else rest)
end-by cog true rest holds = refl
end-by cog false rest holds = holds false

-- ---- the parts of an instruction

ask-close : (cog clock : ℕ) (access : Access) (go : Turn → Course) →
    ((turn : Turn) → IsOnTime access clock turn.key.clock → IsWithin turn.key.clock (go turn)) → ((turn : Turn) → IsClose (go turn)) →
    IsClose (ask cog clock access go)
ask-close cog clock access go near rest =
    λ turn. (
      λ on. if-holds (IsWithin turn.key.clock) (is_last cog access) End (go turn) tt (near turn on),
      if-holds IsClose (is_last cog access) End
          (go turn) tt (rest turn),
    )

ask-ends : (cog clock : ℕ) (last : Bool) (access : Access) (go : Turn → Course) → ((turn : Turn) (b : Bool) → EndsBy cog b (go turn)) →
    EndsBy cog last (ask cog clock access go)
ask-ends cog clock last access go rest = λ turn. end-by cog (is_last cog access) (go turn) (rest turn)

written-within : (found : Option Access) (cog clock base : ℕ) (next : PasmState) → clock ≤ base + 16 → next.clock ≤ base + 8 →
    IsWithin base (written_by found cog clock next)
written-within None cog clock base next here there = there
written-within (Some access) cog clock base next here there = here

written-close : (i : Instr) (value cog clock : ℕ) (next : PasmState) → next.clock ≤ clock + 8 → IsClose (written_by (result_access i value) cog clock next)
written-close i value cog clock next near =
    result-holds (λ found. IsClose (written_by found cog clock next)) i value tt
    (ask-close cog clock (OutSet value) (λ turn. Go next) (λ turn on. omega (arith, on, near)) (λ turn. tt))
    (ask-close cog clock (DirSet value) (λ turn. Go next) (λ turn on. omega (arith, on, near)) (λ turn. tt))
    (λ turn. (λ on. tt, tt))

written-ends : (found : Option Access) (cog clock : ℕ) (last : Bool) (next : PasmState) → EndsBy cog last (written_by found cog clock next)
written-ends None cog clock last next = tt
written-ends (Some access) cog clock last next = ask-ends cog clock last access (λ turn. Go next) (λ turn b. tt)

ends-within : (cog : ℕ) (s : PasmState) (e : Effect) (clock base : ℕ) → clock ≤ base + 7 → IsWithin base (ends_after cog s e clock)
ends-within cog s e clock base here =
    written-within (result_access (at_hand s) e.result) cog clock base _ (omega (arith, here)) (omega (arith, here))

ends-close : (cog : ℕ) (s : PasmState) (e : Effect) (clock : ℕ) → IsClose (ends_after cog s e clock)
ends-close cog s e clock = written-close (at_hand s) e.result cog clock _ (omega arith)

ends-ends : (cog : ℕ) (s : PasmState) (e : Effect) (clock : ℕ) (last : Bool) → EndsBy cog last (ends_after cog s e clock)
ends-ends cog s e clock last = written-ends (result_access (at_hand s) e.result) cog clock last _

hub-close : (cog : ℕ) (s : PasmState) (r : Request) → IsClose (ask_hub cog s r)
hub-close cog s r =
    ask-close cog (window_of cog (s.clock + 1)) r.access (behind_hub cog s r)
    (λ turn on. ends-within cog s (answered r.kept turn.answer) (turn.key.clock + 6) turn.key.clock (omega arith))
    (λ turn. ends-close cog s (answered r.kept turn.answer) (turn.key.clock + 6))

hub-ends : (cog : ℕ) (s : PasmState) (r : Request) (last : Bool) → EndsBy cog last (ask_hub cog s r)
hub-ends cog s r last =
    ask-ends cog (window_of cog (s.clock + 1)) last r.access (behind_hub cog s r)
    (λ turn b. ends-ends cog s (answered r.kept turn.answer) (turn.key.clock + 6) b)

wait-close : (cog : ℕ) (s : PasmState) (source : ℕ) → IsClose (wait cog s source)
wait-close cog s source =
    ask-close cog (s.clock + 4) (Wait (test_of (at_hand s).opcode (destination_value s) source)) (behind_wait cog s source)
    (λ turn on. ends-within cog s (wait_effect (at_hand s).opcode (destination_value s) source) (turn.key.clock + 1) turn.key.clock (omega arith))
    (λ turn. ends-close cog s (wait_effect (at_hand s).opcode (destination_value s) source) (turn.key.clock + 1))

wait-ends : (cog : ℕ) (s : PasmState) (source : ℕ) (last : Bool) → EndsBy cog last (wait cog s source)
wait-ends cog s source last =
    ask-ends cog (s.clock + 4) last (Wait (test_of (at_hand s).opcode (destination_value s) source)) (behind_wait cog s source)
    (λ turn b. ends-ends cog s (wait_effect (at_hand s).opcode (destination_value s) source) (turn.key.clock + 1) b)

computed-within : (s : PasmState) (source : ℕ) → (computed s source).clock ≤ s.clock + 8
computed-within s source =
    if-state (λ t. t.clock ≤ s.clock + 8) (nat_le djnz (at_hand s).opcode) _ _
    (if-state (λ t. t.clock ≤ s.clock + 8) (jumps (at_hand s).opcode (effect s source).result) _ _ (omega arith) (omega arith))
    (omega arith)

compute-within : (cog base : ℕ) (s : PasmState) (source : ℕ) → s.clock ≤ base → IsWithin base (compute cog s source)
compute-within cog base s source le =
    written-within (result_access (at_hand s) (effect s source).result) cog (s.clock + 3) base (computed s source) (omega (arith, le))
    (omega (arith, le, computed-within s source))

compute-close : (cog : ℕ) (s : PasmState) (source : ℕ) → IsClose (compute cog s source)
compute-close cog s source =
    written-close (at_hand s) (effect s source).result cog (s.clock + 3) (computed s source) (omega (arith, computed-within s source))

compute-ends : (cog : ℕ) (s : PasmState) (source : ℕ) (last : Bool) → EndsBy cog last (compute cog s source)
compute-ends cog s source last =
    written-ends (result_access (at_hand s) (effect s source).result) cog (s.clock + 3) last (computed s source)

sourced-within : (found : Option Access) (clock base : ℕ) (s : PasmState) (go : ℕ → Course) → clock ≤ base + 16 →
    ((value : ℕ) → IsWithin base (go value)) → IsWithin base (sourced_by found clock s go)
sourced-within None clock base s go here rest = rest _
sourced-within (Some access) clock base s go here rest = here

sourced-close : (clock : ℕ) (s : PasmState) (go : ℕ → Course) → ((value : ℕ) → IsWithin clock (go value)) → ((value : ℕ) → IsClose (go value)) →
    IsClose (sourced clock s go)
sourced-close clock s go near rest =
    source-holds (λ found. IsClose (sourced_by found clock s go)) (at_hand s) (rest (source_value s))
    (λ turn. (λ on. subst (λ (k : ℕ). IsWithin k (go (value_of turn.answer))) on (near (value_of turn.answer)), rest (value_of turn.answer)))
    (λ turn. (λ on. subst (λ (k : ℕ). IsWithin k (go (value_of turn.answer))) on (near (value_of turn.answer)), rest (value_of turn.answer)))

sourced-ends : (cog clock : ℕ) (last : Bool) (s : PasmState) (go : ℕ → Course) → ((value : ℕ) (b : Bool) → EndsBy cog b (go value)) →
    EndsBy cog last (sourced clock s go)
sourced-ends cog clock last s go rest =
    source-holds (λ found. EndsBy cog last (sourced_by found clock s go)) (at_hand s) (rest (source_value s) last)
    (λ turn. rest (value_of turn.answer) _)
    (λ turn. rest (value_of turn.answer) _)

-- ---- each kind of instruction

does-within : (kind : InstructionKind) (cog : ℕ) (s : PasmState) → IsWithin s.clock (does kind cog s)
does-within Skipped cog s = omega arith
does-within Halting cog s = omega arith
does-within OfHub cog s =
    sourced-within (source_access (at_hand s)) s.clock s.clock s (use_hub cog s) (omega arith) (λ value. omega arith)
does-within Waiting cog s =
    if-holds (IsWithin s.clock) (is_port_wait s) _ _ (omega arith)
    (sourced-within (source_access (at_hand s)) (s.clock + 2) s.clock s (wait cog s) (omega arith) (λ value. omega arith))
does-within Computing cog s =
    sourced-within (source_access (at_hand s)) (s.clock + 2) s.clock s (compute cog s) (omega arith) (λ value. compute-within cog s.clock s value (omega arith))

does-close : (kind : InstructionKind) (cog : ℕ) (s : PasmState) → IsClose (does kind cog s)
does-close Skipped cog s = tt
does-close Halting cog s = λ turn. (λ on. tt, tt)
does-close OfHub cog s =
    sourced-close s.clock s (use_hub cog s) (λ value. omega arith) (λ value. hub-close cog s (hub_request (at_hand s) (destination_value s) value))
does-close Waiting cog s =
    if-holds IsClose (is_port_wait s) _ _ (λ turn. (λ on. tt, tt))
    (sourced-close (s.clock + 2) s (wait cog s) (λ value. omega arith) (λ value. wait-close cog s value))
does-close Computing cog s =
    sourced-close (s.clock + 2) s (compute cog s) (λ value. compute-within cog _ s value (omega arith)) (λ value. compute-close cog s value)

does-ends : (kind : InstructionKind) (cog : ℕ) (last : Bool) (s : PasmState) → EndsBy cog last (does kind cog s)
does-ends Skipped cog last s = tt
does-ends Halting cog last s = λ turn. refl
does-ends OfHub cog last s =
    sourced-ends cog s.clock last s (use_hub cog s) (λ value b. hub-ends cog s (hub_request (at_hand s) (destination_value s) value) b)
does-ends Waiting cog last s =
    if-holds (EndsBy cog last) (is_port_wait s) _ _ (λ turn. refl)
    (sourced-ends cog (s.clock + 2) last s (wait cog s) (λ value b. wait-ends cog s value b))
does-ends Computing cog last s =
    sourced-ends cog (s.clock + 2) last s (compute cog s) (λ value b. compute-ends cog s value b)

-- ---- a course that is played

-- what comes is within the next window, or is done within 8 clocks
abbrev pub IsUpTo : ℕ → Outcome → Type 0
IsUpTo base (Goes s left) = s.clock ≤ base + 8
IsUpTo base (Asks clock access) = clock ≤ base + 16
IsUpTo base Ends = Unit {0}

played-up : (course : Course) (base : ℕ) → IsWithin base course → IsUpTo base (played course [])
played-up (Ask clock access go) base within = within
played-up (Go s) base within = within
played-up End base within = tt

played-on : (course : Course) (ts : List Turn) (turn : Turn) (clock : ℕ) (access : Access) → IsClose course → IsOnTime access clock turn.key.clock →
    played course ts ≡ Asks clock access → IsUpTo turn.key.clock (played course (ts ++ turn ∷ []))
played-on (Ask c a go) [] turn clock access close on asks =
    let same : c ≡ clock = cc in
    let what : a ≡ access = cc in
    played-up (go turn) _ ((close turn).0 (subst (λ (k : ℕ). IsOnTime a k turn.key.clock) (sym same)
    (subst (λ (x : Access). IsOnTime x clock turn.key.clock) (sym what) on)))
played-on (Ask c a go) (first ∷ ts) turn clock access close on asks =
    played-on (go first) ts turn clock access (close first).1 on asks
played-on (Go s) ts turn clock access close on asks = absurd (let e : Goes s ts ≡ Asks clock access = asks in cc)
played-on End ts turn clock access close on asks = absurd (let e : Ends ≡ Asks clock access = asks in cc)

ended-at : (cog : ℕ) (b : Bool) (course : Course) → EndsBy cog b course → played course [] ≡ Ends → b ≡ true
ended-at cog b (Ask c a go) ends e = absurd (let x : Asks c a ≡ Ends = e in cc)
ended-at cog b (Go s) ends e = absurd (let x : Goes s [] ≡ Ends = e in cc)
ended-at cog b End ends e = ends

ended-by : (cog : ℕ) (last : Bool) (course : Course) (ts : List Turn) (turn : Turn) (clock : ℕ) (access : Access) → EndsBy cog last course →
    played course ts ≡ Asks clock access → played course (ts ++ turn ∷ []) ≡ Ends → is_last cog access ≡ true
ended-by cog last (Ask c a go) [] turn clock access ends asks over =
    let what : a ≡ access = (let x : Asks c a ≡ Asks clock access = asks in cc) in
    ap (is_last cog) (sym what) ∙ ended-at cog (is_last cog a) (go turn) (ends turn) over
ended-by cog last (Ask c a go) (first ∷ ts) turn clock access ends asks over =
    ended-by cog (is_last cog a) (go first) ts turn clock access (ends first) asks over
ended-by cog last (Go s) ts turn clock access ends asks over = absurd (let x : Goes s ts ≡ Asks clock access = asks in cc)
ended-by cog last End ts turn clock access ends asks over = absurd (let x : Ends ≡ Asks clock access = asks in cc)

-- ---- the instruction at hand

-- an instruction that is done at once took 8 clocks at most
pub strides : (cog : ℕ) (s next : PasmState) → played (instruction cog s) [] ≡ Goes next [] → next.clock ≤ s.clock + 8
strides cog s next e =
    subst (IsUpTo s.clock) e (played-up (instruction cog s) s.clock (does-within (kind_of (at_hand s) s.c s.z) cog s))

-- what is asked where an instruction begins comes within the next window
pub begin-near : (cog clock : ℕ) (s : PasmState) (access : Access) → played (instruction cog s) [] ≡ Asks clock access → clock ≤ s.clock + 16
begin-near cog clock s access e =
    subst (IsUpTo s.clock) e (played-up (instruction cog s) s.clock (does-within (kind_of (at_hand s) s.c s.z) cog s))

-- what a turn leads to isn't far after it
came-near : (cog : ℕ) (s : PasmState) (ts : List Turn) (turn : Turn) → Comes (played (instruction cog s) ts) turn →
    IsUpTo turn.key.clock (played (instruction cog s) (ts ++ turn ∷ []))
came-near cog s ts turn comes =
    played-on (instruction cog s) ts turn comes.0 turn.access (does-close (kind_of (at_hand s) s.c s.z) cog s) comes.2 comes.1

-- the turn that ends a life is that of a last access
pub last-ends : (cog : ℕ) (s : PasmState) (left : List Turn) (turn : Turn) → Comes (played (instruction cog s) left) turn →
    played (instruction cog s) (left ++ turn ∷ []) ≡ Ends → is_last cog turn.access ≡ true
last-ends cog s left turn comes e =
    ended-by cog false (instruction cog s) left turn comes.0 turn.access (does-ends (kind_of (at_hand s) s.c s.z) cog false s) comes.1 e

or-more : (a b : Bool) → b ≡ true → (a || b) ≡ true
or-more true b is = refl
or-more false b is = is

pub ended-behind : (cog : ℕ) (ts : List Turn) (turn : Turn) → is_last cog turn.access ≡ true → has_ended cog (ts ++ turn ∷ []) ≡ true
ended-behind cog [] turn is = ap (λ (b : Bool). b || false) is
ended-behind cog (first ∷ ts) turn is =
    or-more (is_last cog first.access) (has_ended cog (ts ++ turn ∷ [])) (ended-behind cog ts turn is)

-- it is done by that turn
pub whole-takes : (cog : ℕ) (s next : PasmState) (left turns : List Turn) (turn : Turn) → turns ≡ left ++ turn ∷ [] →
    Comes (played (instruction cog s) left) turn → played (instruction cog s) turns ≡ Goes next (left_of (played (instruction cog s) turns)) →
    (played (instruction cog s) (left ++ turn ∷ []) ≡ Goes next []) × (turn.key.clock < next.clock) × (next.clock ≤ turn.key.clock + 8)
whole-takes cog s next left turns turn is comes e =
    let w = whole-in (turn.key.clock + 1) (played (instruction cog s) (left ++ turn ∷ [])) next (came cog s left turn comes)
    (subst (λ (ts : List Turn). played (instruction cog s) ts ≡ Goes next (left_of (played (instruction cog s) ts))) is e) in
    (w.0, omega (arith, w.1), subst (IsUpTo turn.key.clock) w.0 (came-near cog s left turn comes))

-- it asks a further access
pub half-holds : (cog clock : ℕ) (s next : PasmState) (left turns : List Turn) (turn : Turn) (had : Had) (access : Access) → turns ≡ left ++ turn ∷ [] →
    turns_of had ≡ turns → next ≡ s → clock_in s.clock had ≡ turn.key.clock → s.clock + 1 < 2 ^ 62 → latest turns < 2 ^ 62 →
    Comes (played (instruction cog s) left) turn → played (instruction cog s) turns ≡ Asks clock access → IsHalf cog (record { begun = next; had = had })
half-holds cog clock s next left turns turn had access is keeps same last begun below comes asks = λ half.
    let here : played (instruction cog next) (turns_of had) ≡ played (instruction cog s) turns =
    ap (λ (x : PasmState). played (instruction cog x) (turns_of had)) same ∙ ap (played (instruction cog s)) keeps in
    let reached : clock_in next.clock had ≡ turn.key.clock = ap (λ (x : PasmState). clock_in x.clock had) same ∙ last in
    let start : next.clock ≡ s.clock = ap (λ (x : PasmState). x.clock) same in
    let had-below : latest (turns_of had) < 2 ^ 62 = subst (λ (ts : List Turn). latest ts < 2 ^ 62) (sym keeps) below in (
      ap is_asking (here ∙ asks),
      (λ c a e.
          let from : IsFrom (turn.key.clock + 1) (played (instruction cog s) turns) = subst
          (λ (ts : List Turn). IsFrom (turn.key.clock + 1) (played (instruction cog s) ts)) (sym is) (came cog s left turn comes) in
          let near : IsUpTo turn.key.clock (played (instruction cog s) turns) = subst
          (λ (ts : List Turn). IsUpTo turn.key.clock (played (instruction cog s) ts)) (sym is) (came-near cog s left turn comes) in
          let le : turn.key.clock + 1 ≤ c = subst (IsFrom (turn.key.clock + 1)) (sym here ∙ e) from in
          let ge : c ≤ turn.key.clock + 16 = subst (IsUpTo turn.key.clock) (sym here ∙ e) near in
          (omega (arith, le, reached), omega (arith, ge, reached))),
      omega (arith, start, begun),
      had-below,
    )
