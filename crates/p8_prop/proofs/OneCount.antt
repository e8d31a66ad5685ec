-- What is counted of a history is determined by it: the counter of each turn, and what each cog asks in the end.
use Rattle.std.proofs.Common.{◌≡◌, ◌∙◌, ◌+◌, ◌-◌, ◌≤◌, ℕ, suc, List, [], ◌∷◌, Option, Some, None, ap, sym, subst, refl, arith, length, slice_get}
use Rattle.p8_access.specs.declared.kinds.Access.{Access}
use Rattle.p8_access.specs.declared.lives.Next.{Next}
use Rattle.p8_access.specs.declared.lives.Next.TheVariants.{At, Quiet, More}
use Rattle.p8_access.specs.declared.order.Turn.{Turn}
use Rattle.p8_access.specs.declared.states.CogState.{CogState}
use Rattle.p8_access.specs.declared.states.CogState.TheVariants.{Stopped, Starting, Running}
use Rattle.p8_access.specs.Histories.{since_begin}
use Rattle.p8_access.specs.Hub.{cog_state}
use Rattle.p8_access.specs.Lives.{Begun, Entered, PasmBegun, SpinBegun, Tells}
use Rattle.p8_access.specs.Replaying.{after-plus, after-asks}
use Rattle.p8_access.specs.Replays.{after}
use Rattle.p8_access.specs.Timing.{Outcome, Asks, Goes}
use Rattle.p8_access.specs.Worlds.{World}
use Rattle.p8_access.proofs.Nexts.{some-injective}
use Rattle.p8_bcog.specs.declared.state.SpinState.{SpinState}
use Rattle.p8_bcog.specs.Counters.{IsAskedFrom, IsCounter}
use Rattle.p8_bcog.specs.Replay.{engine_of, lived}
use Rattle.p8_cog.specs.Counters.{IsCounterOf}
use Rattle.p8_cog.specs.Laws.{one-asked}
use Rattle.p8_cog.specs.Lives.{asks}
use Rattle.p8_machine.specs.declared.asked.Asked.{Asked}
use Rattle.p8_machine.specs.Asked.{IsNextAsked}
use Rattle.p8_machine.specs.Places.{IsSpoken}
use Rattle.p8_machine.specs.Counted.{AreAsked, AreCounters, HasCounter, IsCounterIn}
use Rattle.p8_prop.proofs.PasmCounts.{pasm-one}

-- ---- counters

goes-not_asks : {s : SpinState} {begin clock : ℕ} {left : List Turn} {access : Access} → Goes s begin left ≡ Asks clock access → ⊥
goes-not_asks e = cc

-- no bytecode is done whole after one that asks
before-asking : (e : Entered) (turns : List Turn) (m n begin clock : ℕ) (s : SpinState) (left : List Turn) (access : Access)
    → lived m e turns ≡ Asks clock access → lived n e turns ≡ Goes s begin left → m ≤ n → ⊥
before-asking e turns m n begin clock s left access asking going le =
    let sum : n ≡ n - m + m = omega (arith, le) in
    let stays : lived n e turns ≡ Asks clock access =
    ap (λ (k : ℕ). lived k e turns) sum ∙ after-plus (engine_of e.memory e.cog) (n - m) m _
    ∙ ap (after (engine_of e.memory e.cog) (n - m)) asking ∙ after-asks (engine_of e.memory e.cog) (n - m) clock access in
    goes-not_asks (sym going ∙ stays)

abbrev at-of : ℕ → Outcome SpinState → ℕ
at-of other (Goes s begin left) = s.at
at-of other _ = other

-- an access is asked by one bytecode
asked_from-one : (e : Entered) (turns : List Turn) (a b : ℕ) → IsAskedFrom e turns a → IsAskedFrom e turns b → a ≡ b
asked_from-one e turns a b (m, s, begin, left, clock, access, going, asking, is) (n, t, begin', left', clock', access', going', asking', is') =
    let low : m + 1 ≤ n → ⊥ = before-asking e turns (m + 1) n begin' clock t left' access asking going' in
    let high : n + 1 ≤ m → ⊥ = before-asking e turns (n + 1) m begin clock' s left access' asking' going in
    let same : m ≡ n = omega (arith, low, high) in
    let state : Goes s begin left ≡ Goes t begin' left' = sym going ∙ ap (λ (k : ℕ). lived k e turns) same ∙ going' in
    sym is ∙ ap (at-of 0) state ∙ is'

spin-one : (entered : Entered) (turns : List Turn) (a b : Option ℕ) → IsCounter (SpinBegun entered) turns a → IsCounter (SpinBegun entered) turns b → a ≡ b
spin-one e turns (Some a) (Some b) p q = ap Some (asked_from-one e turns a b p q)
spin-one e turns (Some a) None p q = absurd (before-asking e turns 0 p.0 p.2 q.0 p.1 p.3 q.1 q.2 p.6 (omega arith))
spin-one e turns None (Some b) p q = absurd (before-asking e turns 0 q.0 q.2 p.0 q.1 q.3 p.1 p.2 q.6 (omega arith))
spin-one e turns None None p q = refl

counter-one : (memory : List ℕ) (life : Begun) (turns : List Turn) (a b : Option ℕ) → IsCounterOf memory life turns a → IsCounterOf memory life turns b → a ≡ b
counter-one memory (SpinBegun e) turns a b p q = spin-one e turns a b p q
counter-one memory (PasmBegun loaded) turns a b p q = pasm-one memory loaded turns a b p q

counter_in-one : (w : World) (past : List Turn) (n : ℕ) (state : CogState) (a b : Option ℕ) → IsCounterIn w past n state a → IsCounterIn w past n state b → a ≡ b
counter_in-one w past n Stopped a b p q = p ∙ sym q
counter_in-one w past n (Starting since origin) a b p q = p ∙ sym q
counter_in-one w past n (Running origin) a b p q =
    let life : q.0 ≡ p.0 = some-injective _ _ (sym q.1 ∙ p.1) in
    counter-one w.memory p.0 (since_begin past n) a b p.2 (subst (λ (l : Begun). IsCounterOf w.memory l (since_begin past n) b) life q.2)

pub counters-one : (w : World) (past : List Turn) (a b : List (Option ℕ)) → AreCounters w past a → AreCounters w past b → a ≡ b
counters-one w [] [] [] p q = refl
counters-one w [] (x ∷ xs) b p q = absurd p
counters-one w [] [] (y ∷ ys) p q = absurd q
counters-one w (turn ∷ past) [] b p q = absurd p
counters-one w (turn ∷ past) (x ∷ xs) [] p q = absurd q
counters-one w (turn ∷ past) (x ∷ xs) (y ∷ ys) p q =
    let first : x ≡ y = counter_in-one w past turn.key.cog (cog_state w past turn.key.cog) x y p.0 q.0 in
    let more : xs ≡ ys = counters-one w past xs ys p.1 q.1 in
    ap (λ (z : Option ℕ). z ∷ xs) first ∙ ap (λ (zs : List (Option ℕ)). y ∷ zs) more

-- ---- what is asked

told-one : (life : Begun) (turns : List Turn) (until : ℕ) (a b : Next) → Tells (asks life turns) until a → IsSpoken a → Tells (asks life turns) until b → IsSpoken b → a ≡ b
told-one life turns until (At c x) (At d y) p spoken q other =
    let same = one-asked life turns c d x y p.0 q.0 in
    ap (λ (k : ℕ). At k x) same.0 ∙ ap (At d) same.1
told-one life turns until (At c x) Quiet p spoken q other = let late : until ≤ c = q c x p.0 in absurd (omega (arith, late, p.1))
told-one life turns until Quiet (At d y) p spoken q other = let late : until ≤ d = p d y q.0 in absurd (omega (arith, late, q.1))
told-one life turns until Quiet Quiet p spoken q other = refl
told-one life turns until (More bound) b p spoken q other = absurd spoken
told-one life turns until (At c x) (More bound) p spoken q other = absurd other
told-one life turns until Quiet (More bound) p spoken q other = absurd other

next-one : (w : World) (past : List Turn) (n : ℕ) (state : CogState) (a b : Next) → IsNextAsked w past n state a → IsNextAsked w past n state b → a ≡ b
next-one w past n Stopped a b p q = p ∙ sym q
next-one w past n (Starting since origin) a b p q = p ∙ sym q
next-one w past n (Running origin) a b p q =
    let life : q.0 ≡ p.0 = some-injective _ _ (sym q.1 ∙ p.1) in
    told-one p.0 (since_begin past n) w.clocks a b p.2 p.3 (subst (λ (l : Begun). Tells (asks l (since_begin past n)) w.clocks b) life q.2) q.3

has-one : (w : World) (past : List Turn) (n : ℕ) (state : CogState) (next : Next) (a b : Option ℕ) → HasCounter w past n state next a → HasCounter w past n state next b → a ≡ b
has-one w past n state (At clock access) a b p q = counter_in-one w past n state a b p q
has-one w past n state Quiet a b p q = p ∙ sym q
has-one w past n state (More bound) a b p q = p ∙ sym q

same-asked : (w : World) (past : List Turn) (n : ℕ) (state : CogState) (a b : Asked) → IsNextAsked w past n state a.next × HasCounter w past n state a.next a.counter → IsNextAsked w past n state b.next × HasCounter w past n state b.next b.counter → a ≡ b
same-asked w past n state a b p q =
    let next : a.next ≡ b.next = next-one w past n state a.next b.next p.0 q.0 in
    let counter : a.counter ≡ b.counter = has-one w past n state b.next a.counter b.counter (subst (λ (x : Next). HasCounter w past n state x a.counter) next p.1) q.1 in
    λ i. record { next = next i; counter = counter i }

-- lists of one length with the same thing at each place are one list
each-one : (xs ys : List Asked) → length xs ≡ length ys → ((n : ℕ) (x y : Asked) → slice_get xs n ≡ Some x → slice_get ys n ≡ Some y → x ≡ y) → xs ≡ ys
each-one [] [] same each = refl
each-one [] (y ∷ ys) same each = absurd (omega (arith, same))
each-one (x ∷ xs) [] same each = absurd (omega (arith, same))
each-one (x ∷ xs) (y ∷ ys) same each =
    let less : length xs ≡ length ys = omega (arith, same) in
    let first : x ≡ y = each 0 x y refl refl in
    let more : xs ≡ ys = each-one xs ys less (λ n a b p q. each (suc n) a b p q) in
    ap (λ (z : Asked). z ∷ xs) first ∙ ap (λ (zs : List Asked). y ∷ zs) more

pub asked-one : (w : World) (past : List Turn) (a b : List Asked) → AreAsked w past a → AreAsked w past b → a ≡ b
asked-one w past a b p q = each-one a b (p.0 ∙ sym q.0) (λ n x y at other. same-asked w past n (cog_state w past n) x y (p.1 n x at) (q.1 n y other))
