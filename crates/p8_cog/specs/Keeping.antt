-- internal: what a cog keeps stands for its life's turns. No public contract cites it.
use Rattle.std.proofs.Common.{◌≡◌, inl, inr, ℕ, zero, suc, ◌+◌, ◌-◌, ◌*◌, ◌<◌, ◌≤◌, ◌^◌, Bool, true, false, List, [], ◌∷◌, ◌++◌, length, take}
use Rattle.std.proofs.Common.{Option, Some, None, refl, sym, ◌∙◌, ap, subst, arith, add_assoc, zero-add, nat_lt, if◌then◌else◌}
use Rattle.std.proofs.lemmas.Bool.{ltb-true, ltb-false}
use Rattle.std.proofs.lemmas.List.{append_assoc, append-nil, length-append}
use Rattle.p8_access.specs.declared.kinds.Width.TheVariants.{Long}
use Rattle.p8_access.specs.declared.kinds.Access.{Access}
use Rattle.p8_access.specs.declared.kinds.Access.TheVariants.{Read}
use Rattle.p8_access.specs.declared.order.Turn.{Turn}
use Rattle.p8_access.specs.declared.lives.Next.{Next}
use Rattle.p8_access.specs.declared.lives.Next.TheVariants.{At, Quiet, More}
use Rattle.p8_access.specs.Proper.{value_of}
use Rattle.p8_access.specs.Lives.{Loaded, Begun, PasmBegun, SpinBegun, has_ended, Tells, IsOnTime, IsAnnounced, announced_by, IsThorough, IsNear}
use Rattle.p8_access.specs.Lives.{IsWithin, Spends}
use Rattle.p8_cog.specs.declared.state.PasmState.{PasmState}
use Rattle.p8_cog.specs.declared.ending.Ending.TheVariants.{Ended, Whole}
use Rattle.p8_cog.specs.declared.progress.Had.{Had}
use Rattle.p8_cog.specs.declared.progress.Had.TheVariants.{Nothing}
use Rattle.p8_cog.specs.declared.progress.Progress.{Progress}
use Rattle.p8_cog.specs.declared.stage.PasmStage.{PasmStage}
use Rattle.p8_cog.specs.declared.stage.PasmStage.TheVariants.{Loading, Running, Over}
use Rattle.p8_cog.specs.Replay.{instruction, played, Outcome, Asks, Goes, Ends, step, after, first_with, loading, loaded_by, replayed, IsAsked}
use Rattle.p8_cog.specs.Replay.{BeginsAt, Begins}
use Rattle.p8_cog.specs.Standing.{turns_of, running_at, standing_at, IsReading, StandsIn, StandsFor, clock_in, clock_of}
use Rattle.p8_cog.specs.Stops.{IsFrom, is_half, IsHalf, IsInLoad, Comes, Announces, asked_of, asked_now, announced_at, Stops, Leads}
use Rattle.p8_bcog.specs.Stops.{is_access}
use Rattle.p8_cog.specs.Stops.{IsSpent, IsTold, Loads, Takes, is_asking}
use Rattle.p8_cog.specs.Replaying.{on-time, begin-asks, after-one, after-plus, after-asks, step-from, after-from, turn-kept, turn-taken, not-before}
use Rattle.p8_cog.specs.Reaching.{begin-near, last-ends, ended-behind}

-- ---- what is told where a replay has come

-- a replay after one more step than it has come
beyond : (loaded : Loaded) (ts : List Turn) (done m n : ℕ) (here : Outcome) → replayed done loaded ts ≡ here → n ≡ m + (done + 1) →
    replayed n loaded ts ≡ after loaded.cog m (step loaded.cog here)
beyond loaded ts done m n here is e =
    ap (λ (k : ℕ). replayed k loaded ts) e ∙ after-plus loaded.cog m (done + 1) _
    ∙ ap (after loaded.cog m) (after-one loaded.cog done _ ∙ ap (step loaded.cog) is)

begins-from : (until begin : ℕ) (o : Outcome) → BeginsAt begin o → IsFrom until o → until ≤ begin
begins-from until begin (Goes s []) at from = omega (arith, at, from)
begins-from until begin (Goes s (turn ∷ left)) at from = absurd from
begins-from until begin (Asks c a) at from = absurd at
begins-from until begin Ends at from = absurd at

-- nothing whole is left before an access
asks-thorough : (loaded : Loaded) (ts : List Turn) (done n begin c : ℕ) (a : Access) (here : Outcome) → replayed done loaded ts ≡ here →
    step loaded.cog here ≡ Asks c a → (b : Bool) → nat_lt done n ≡ b → Begins (PasmBegun loaded) ts n begin → n ≤ done
asks-thorough loaded ts done n begin c a here is asks false e begins = ltb-false done n e
asks-thorough loaded ts done n begin c a here is asks true e (inl at) =
    let lt : done < n = ltb-true done n e in
    let there = beyond loaded ts done (n - (done + 1)) n here is (omega (arith, lt)) in
    absurd (subst (BeginsAt begin) (there ∙ ap (after loaded.cog (n - (done + 1))) asks ∙ after-asks loaded.cog (n - (done + 1)) c a) at)
asks-thorough loaded ts done n begin c a here is asks true e (inr load) =
    let none : n ≡ 0 = load.1 in omega (arith, none)

-- nor below a clock that what comes isn't before
quiet-thorough : (loaded : Loaded) (ts : List Turn) (done n begin until : ℕ) (here : Outcome) → replayed done loaded ts ≡ here →
    IsFrom until (step loaded.cog here) → Begins (PasmBegun loaded) ts n begin → done < n → until ≤ begin
quiet-thorough loaded ts done n begin until here is from (inl at) lt =
    let there = beyond loaded ts done (n - (done + 1)) n here is (omega (arith, lt)) in
    begins-from until begin (replayed n loaded ts) at
    (subst (IsFrom until) (sym there) (after-from loaded.cog (n - (done + 1)) until (step loaded.cog here) from))
quiet-thorough loaded ts done n begin until here is from (inr load) lt =
    let none : n ≡ 0 = load.1 in absurd (omega (arith, none, lt))

thorough-in : (done : ℕ) (loaded : Loaded) (here : Outcome) (reached : ℕ) (ts : List Turn) (until : ℕ) (next : Next) →
    replayed done loaded ts ≡ here → Stops loaded.cog here reached until next → IsThorough (Begins (PasmBegun loaded) ts) done until next
thorough-in done loaded here reached ts until (At clock access) is stops =
    λ n begin begins. asks-thorough loaded ts done n begin clock access here is stops.0 (nat_lt done n) refl begins
thorough-in done loaded here reached ts until Quiet is stops =
    λ n begin begins lt. quiet-thorough loaded ts done n begin until here is stops.0 begins lt
thorough-in done loaded here reached ts until (More bound) is stops = inl (subst (BeginsAt bound) (sym is) stops.1)

tells-in : (done : ℕ) (loaded : Loaded) (here : Outcome) (reached : ℕ) (ts : List Turn) (until : ℕ) (next : Next) → replayed done loaded ts ≡ here →
    Stops loaded.cog here reached until next → Tells (IsAsked (PasmBegun loaded) ts) until next
tells-in done loaded here reached ts until (At clock access) is stops =
    ((done + 1, after-one loaded.cog done _ ∙ ap (step loaded.cog) is ∙ stops.0), stops.2)
tells-in done loaded here reached ts until Quiet is stops =
    λ clock access asked. not-before loaded ts (done + 1) (step loaded.cog here) until
    (after-one loaded.cog done _ ∙ ap (step loaded.cog) is) stops.0 asked.0 clock access asked.1
tells-in done loaded here reached ts until (More bound) is stops =
    λ clock access asked. not-before loaded ts done here bound is stops.0 asked.0 clock access asked.1

-- ---- what a cog tells that stands for these turns

pub stops-tells : (done cog code reached until : ℕ) (stage : PasmStage) (p : Progress) (next : Next) →
    Stops cog (standing_at stage code p) reached until next → (b : Begun) (ts : List Turn) → StandsFor done cog code stage p b ts →
    Tells (IsAsked b ts) until next
stops-tells done cog code reached until stage p next stops (PasmBegun loaded) ts stands =
    tells-in done loaded _ reached ts until next stands.reached
    (subst (λ (n : ℕ). Stops n (standing_at stage code p) reached until next) (sym stands.own) stops)
stops-tells done cog code reached until stage p next stops (SpinBegun entered) ts stands = absurd stands

pub stops-thorough : (done cog code reached until : ℕ) (stage : PasmStage) (p : Progress) (next : Next) →
    Stops cog (standing_at stage code p) reached until next → (b : Begun) (ts : List Turn) → StandsFor done cog code stage p b ts →
    IsThorough (Begins b ts) done until next
stops-thorough done cog code reached until stage p next stops (PasmBegun loaded) ts stands =
    thorough-in done loaded _ reached ts until next stands.reached
    (subst (λ (n : ℕ). Stops n (standing_at stage code p) reached until next) (sym stands.own) stops)
stops-thorough done cog code reached until stage p next stops (SpinBegun entered) ts stands = absurd stands

-- a life that is over asks nothing, and nothing of it is left
pub over-tells : (done cog code until : ℕ) (stage : PasmStage) (p : Progress) → stage ≡ Over → (b : Begun) (ts : List Turn) →
    StandsFor done cog code stage p b ts → Tells (IsAsked b ts) until Quiet
over-tells done cog code until stage p is (PasmBegun loaded) ts stands =
    λ clock access asked. not-before loaded ts done Ends until
    (stands.reached ∙ ap (λ (s : PasmStage). standing_at s code p) is) tt asked.0 clock access asked.1
over-tells done cog code until stage p is (SpinBegun entered) ts stands = absurd stands

pub over-thorough : (done cog code until : ℕ) (stage : PasmStage) (p : Progress) → stage ≡ Over → (b : Begun) (ts : List Turn) →
    StandsFor done cog code stage p b ts → IsThorough (Begins b ts) done until Quiet
over-thorough done cog code until stage p is (PasmBegun loaded) ts stands =
    λ n begin begins lt. quiet-thorough loaded ts done n begin until Ends (stands.reached ∙ ap (λ (s : PasmStage). standing_at s code p) is) tt begins lt
over-thorough done cog code until stage p is (SpinBegun entered) ts stands = absurd stands

pub over-ended : (done cog code : ℕ) (stage : PasmStage) (p : Progress) → stage ≡ Over → (b : Begun) (ts : List Turn) →
    StandsFor done cog code stage p b ts → has_ended cog ts ≡ true
over-ended done cog code stage p is (PasmBegun loaded) ts stands = stands.ended is
over-ended done cog code stage p is (SpinBegun entered) ts stands = absurd stands

pub at-stage : (cog code reached until : ℕ) (stage is : PasmStage) (p : Progress) (next : Next) → stage ≡ is →
    Stops cog (standing_at is code p) reached until next → Stops cog (standing_at stage code p) reached until next
at-stage cog code reached until stage is p next e stops =
    subst (λ (s : PasmStage). Stops cog (standing_at s code p) reached until next) (sym e) stops

-- what is told isn't farther than the next window
pub stops-near : (cog reached until : ℕ) (here : Outcome) (next : Next) → Stops cog here reached until next → IsNear 16 reached next
stops-near cog reached until here (At clock access) stops = stops.3
stops-near cog reached until here Quiet stops = tt
stops-near cog reached until here (More bound) stops = tt

pub stops-quiet : (cog reached until : ℕ) (here : Outcome) (next : Next) → Stops cog here reached until next → next ≡ Quiet → until ≤ reached + 16
stops-quiet cog reached until here (At clock access) stops is = absurd (let x : At clock access ≡ Quiet = is in cc)
stops-quiet cog reached until here Quiet stops is = stops.1
stops-quiet cog reached until here (More bound) stops is = absurd (let x : More bound ≡ Quiet = is in cc)

-- a call goes no further than its budget takes, and up to the next window
pub stops-far : (cog before reached done budget until : ℕ) (here : Outcome) (next : Next) → done ≤ budget → reached ≤ before + 8 * done →
    Stops cog here reached until next → IsWithin (before + 8 * budget + 16) until next
stops-far cog before reached done budget until here (At clock access) all most stops = omega (arith, stops.3, most, all)
stops-far cog before reached done budget until here Quiet all most stops = omega (arith, stops.1, most, all)
stops-far cog before reached done budget until here (More bound) all most stops = tt

pub announces-none : (cog code : ℕ) (stage : PasmStage) (p : Progress) → Announces cog code stage p None
announces-none cog code stage p = λ clock access e. absurd (let x : None ≡ Some (clock, access) = e in cc)

pub announces-same : (cog code : ℕ) (stage : PasmStage) (p : Progress) (one other : Option (ℕ × Access)) → one ≡ other →
    Announces cog code stage p other → Announces cog code stage p one
announces-same cog code stage p one other is announces = subst (Announces cog code stage p) (sym is) announces

-- where an access is told one is asked
pub told-asks : (cog code reached until : ℕ) (stage : PasmStage) (p : Progress) (next : Next) (asking : Bool) → asking ≡ is_access next →
    Stops cog (standing_at stage code p) reached until next → asking ≡ true → is_asking (step cog (standing_at stage code p)) ≡ true
told-asks cog code reached until stage p (At clock access) asking is stops told = ap is_asking stops.0
told-asks cog code reached until stage p Quiet asking is stops told = absurd (let x : false ≡ true = sym is ∙ told in cc)
told-asks cog code reached until stage p (More bound) asking is stops told = absurd (let x : false ≡ true = sym is ∙ told in cc)

-- a life that runs isn't in a load
pub not-in-load : (stage : PasmStage) (p : Progress) → stage ≡ Running → stage ≡ Loading → IsInLoad p
not-in-load stage p is e = absurd (let x : Running ≡ Loading = sym is ∙ e in cc)

-- what asks at once is what is told again
pub again-told : (cog clock until reached : ℕ) (access : Access) (here : Outcome) (next : Next) → step cog here ≡ Asks clock access → clock < until →
    IsTold next → Stops cog here reached until next → next ≡ At clock access
again-told cog clock until reached access here (At c a) asks below told stops =
    let e : Asks c a ≡ Asks clock access = sym stops.0 ∙ asks in
    cc
again-told cog clock until reached access here Quiet asks below told stops =
    let le : until ≤ clock = subst (IsFrom until) asks stops.0 in
    absurd (omega arith)
again-told cog clock until reached access here (More bound) asks below told stops = absurd told

pub told-spends : (cog place reached until budget : ℕ) (here : Outcome) (next : Next) → Stops cog here reached until next → IsTold next →
    Spends place place reached reached 4 until budget next
told-spends cog place reached until budget here (At clock access) stops told = (omega arith, stops.1, stops.2)
told-spends cog place reached until budget here Quiet stops told = omega arith
told-spends cog place reached until budget here (More bound) stops told = absurd told

asked_in : ℕ × Access → Option (ℕ × Access) → ℕ × Access
asked_in other None = other
asked_in other (Some asked) = asked

same-asked : (one other : ℕ × Access) → Some one ≡ Some other → one ≡ other
unfolding asked_in
same-asked one other e = ap (asked_in one) e

-- what is told is announced
pub stops-announces : (cog code until : ℕ) (stage : PasmStage) (p : Progress) (next : Next) → until < 2 ^ 62 →
    Stops cog (standing_at stage code p) (clock_of p) until next → Announces cog code stage p (announced_by next)
stops-announces cog code until stage p (At c a) room stops = λ clock access e.
    let same = same-asked (c, a) (clock, access) e in
    let when : c ≡ clock = ap (λ (asked : ℕ × Access). asked.0) same in
    let what : a ≡ access = ap (λ (asked : ℕ × Access). asked.1) same in
    (stops.0 ∙ ap (λ (k : ℕ). Asks k a) when ∙ ap (Asks clock) what, omega (arith, when, stops.1), omega (arith, when, stops.2, room))
stops-announces cog code until stage p Quiet room stops = announces-none cog code stage p
stops-announces cog code until stage p (More bound) room stops = announces-none cog code stage p

-- what is told, and whether an access is, tell what is announced
pub told-announced : (cog code reached until : ℕ) (stage : PasmStage) (p : Progress) (next : Next) (asking : Bool) → asking ≡ is_access next →
    Stops cog (standing_at stage code p) reached until next → announced_at asking cog code stage p ≡ announced_by next
unfolding asked_now
told-announced cog code reached until stage p (At clock access) asking is stops =
    ap (λ (b : Bool). announced_at b cog code stage p) is ∙ ap asked_of stops.0
told-announced cog code reached until stage p Quiet asking is stops = ap (λ (b : Bool). announced_at b cog code stage p) is
told-announced cog code reached until stage p (More bound) asking is stops = ap (λ (b : Bool). announced_at b cog code stage p) is

-- ---- a run of instructions

-- its place is the place in the replay
pub placed : (done cog code : ℕ) (stage : PasmStage) (p : Progress) (b : Begun) (ts : List Turn) → StandsFor done cog code stage p b ts →
    has_ended cog ts ≡ false → (clock : ℕ) × Begins b ts done clock
unfolding after
placed done cog code Loading p (PasmBegun loaded) ts stands live =
    let none : done ≡ 0 = stands.fresh refl in
    let asks : loaded_by loaded ts ≡ standing_at Loading code p = ap (λ (n : ℕ). replayed n loaded ts) (sym none) ∙ stands.reached in
    (loaded.load + 8192, inr ((p.begun.clock + 16, Read Long (code + 4 * p.begun.at), asks), none, refl))
placed done cog code Running p (PasmBegun loaded) ts stands live =
    (p.begun.clock, inl (subst (BeginsAt p.begun.clock) (sym stands.reached) refl))
placed done cog code Over p (PasmBegun loaded) ts stands live = absurd (let x : true ≡ false = sym (stands.ended refl) ∙ live in cc)
placed done cog code stage p (SpinBegun entered) ts stands live = absurd stands

-- a running cog stands where its replay has come
runs : (done cog code : ℕ) (stage : PasmStage) (p : Progress) (loaded : Loaded) (ts : List Turn) → stage ≡ Running → loaded.cog ≡ cog →
    loaded.code ≡ code → replayed done loaded ts ≡ running_at p → StandsIn done cog code stage p loaded ts
runs done cog code stage p loaded ts is own from reached = record {
  own = own;
  from = from;
  reached = reached ∙ ap (λ (s : PasmStage). standing_at s code p) (sym is);
  fresh = λ e. absurd (let x : Loading ≡ Running = sym e ∙ is in cc);
  reads = λ e. absurd (let x : Loading ≡ Running = sym e ∙ is in cc);
  ended = λ e. absurd (let x : Over ≡ Running = sym e ∙ is in cc);
}

-- after the instructions that were done it stands for the same turns
pub led : (done more cog code : ℕ) (stage : PasmStage) (p new : Progress) → stage ≡ Running → Leads cog more (running_at p) (running_at new) →
    (b : Begun) (ts : List Turn) → StandsFor done cog code stage p b ts → StandsFor (done + more) cog code stage new b ts
led done more cog code stage p new is leads (PasmBegun loaded) ts stands =
    runs (done + more) cog code stage new loaded ts is stands.own stands.from
    (ap (λ (n : ℕ). after n (done + more) (loaded_by loaded ts)) stands.own
    ∙ leads done _ (ap (λ (n : ℕ). after n done (loaded_by loaded ts)) (sym stands.own) ∙ stands.reached ∙ ap (λ (s : PasmStage). standing_at s code p) is))
led done more cog code stage p new is leads (SpinBegun entered) ts stands = absurd stands

-- a place that asks at once leads nowhere else
stuck : (cog done clock : ℕ) (access : Access) (from : Outcome) (p : Progress) → step cog from ≡ Asks clock access →
    after cog done from ≡ running_at p → done ≡ 0
unfolding after
stuck cog zero clock access from p asks leads = refl
stuck cog (suc n) clock access from p asks leads =
    let e : suc n ≡ n + 1 = omega arith in
    let one : after cog (n + 1) from ≡ after cog n (step cog from) = after-plus cog n 1 from in
    absurd (let x : Asks clock access ≡ Goes p.begun (turns_of p.had) = sym (after-asks cog n clock access) ∙ ap (after cog n)
    (sym asks) ∙ sym one ∙ ap (λ (k : ℕ). after cog k from) (sym e) ∙ leads in cc)

spent-told : (done budget reached until : ℕ) (next : Next) → done ≡ 0 → 1 ≤ budget → IsSpent done budget reached until next → IsTold next
spent-told done budget reached until (At clock access) none some spent = tt
spent-told done budget reached until Quiet none some spent = tt
spent-told done budget reached until (More bound) none some spent = absurd (let e : done ≡ budget = spent.0 in omega (arith, e, none, some))

pub again : (cog code done budget clock until reached : ℕ) (access : Access) (stage : PasmStage) (p new : Progress) (next : Next) → stage ≡ Running →
    step cog (standing_at stage code p) ≡ Asks clock access → 1 ≤ budget → clock < until → Leads cog done (running_at p) (running_at new) →
    Stops cog (running_at new) reached until next → IsSpent done budget reached until next → next ≡ At clock access
unfolding after
again cog code done budget clock until reached access stage p new next is asks some below leads stops spent =
    let here : step cog (running_at p) ≡ Asks clock access = ap (λ (s : PasmStage). step cog (standing_at s code p)) (sym is) ∙ asks in
    let led_to : after cog done (running_at p) ≡ running_at new = ap (λ (k : ℕ). after cog k (running_at p)) (sym (zero-add done)) ∙ leads 0
    (running_at p) refl in
    let none : done ≡ 0 = stuck cog done clock access (running_at p) new here led_to in
    let same : running_at p ≡ running_at new = ap (λ (k : ℕ). after cog k (running_at p)) (sym none) ∙ led_to in
    again-told cog clock until reached access (running_at new) next (ap (step cog) (sym same) ∙ here) below
    (spent-told done budget reached until next none some spent) stops

whole-clock : (begin : ℕ) (had : Had) → is_half had ≡ false → clock_in begin had ≡ begin
whole-clock begin Nothing none = refl
whole-clock begin _ none = absurd cc

-- in a load the clock that was reached is that of the last turn
pub load-clock : (p : Progress) → IsInLoad p → clock_of p ≡ p.begun.clock
load-clock p load = whole-clock p.begun.clock p.had load.1

-- one instruction more was done
pub leads-more : (cog done : ℕ) (from : Outcome) (s next : PasmState) → Leads cog done from (Goes s []) → played (instruction cog s) [] ≡ Goes next [] →
    Leads cog (done + 1) from (Goes next [])
leads-more cog done from s next leads e = λ n o h.
    ap (λ (k : ℕ). after cog k o) (sym (add_assoc n done 1)) ∙ after-one cog (n + done) o ∙ ap (step cog) (leads n o h) ∙ e

-- nothing comes before a clock that an instruction's begin isn't before
pub quiet-from : (cog until : ℕ) (s : PasmState) → until ≤ s.clock → IsFrom until (played (instruction cog s) []) × (until ≤ s.clock + 16)
quiet-from cog until s le = (step-from cog until (Goes s []) le, omega (arith, le))

-- a clock is told where it is below a bound
below-in : (cog reached clock until : ℕ) (here : Outcome) (access : Access) → step cog here ≡ Asks clock access → reached ≤ clock →
    clock ≤ reached + 16 → (b : Bool) → nat_lt clock until ≡ b → Stops cog here reached until (if b then At clock access else Quiet)
below-in cog reached clock until here access asks le near true e = (asks, le, ltb-true clock until e, near)
below-in cog reached clock until here access asks le near false e =
    let past : until ≤ clock = ltb-false clock until e in
    (subst (IsFrom until) (sym asks) past, omega (arith, past, near))

pub told-stops : (cog reached clock until : ℕ) (here : Outcome) (access : Access) (next : Next) →
    next ≡ (if nat_lt clock until then At clock access else Quiet) → step cog here ≡ Asks clock access → reached ≤ clock → clock ≤ reached + 16 →
    Stops cog here reached until next
told-stops cog reached clock until here access next is asks le near =
    subst (Stops cog here reached until) (sym is) (below-in cog reached clock until here access asks le near (nat_lt clock until) refl)

-- the next read of a load
pub read-stops : (cog code until : ℕ) (p : Progress) (next : Next) → IsInLoad p →
    next ≡ (if nat_lt (p.begun.clock + 16) until then At (p.begun.clock + 16) (Read Long (code + 4 * p.begun.at)) else Quiet) →
    Stops cog (standing_at Loading code p) (clock_of p) until next
read-stops cog code until p next load is =
    let here : clock_of p ≡ p.begun.clock = load-clock p load in
    told-stops cog (clock_of p) (p.begun.clock + 16) until (standing_at Loading code p) (Read Long (code + 4 * p.begun.at)) next is refl
    (omega (arith, here)) (omega (arith, here))

pub below-stops : (cog clock until : ℕ) (s : PasmState) (access : Access) (next : Next) →
    next ≡ (if nat_lt clock until then At clock access else Quiet) → played (instruction cog s) [] ≡ Asks clock access →
    Stops cog (Goes s []) s.clock until next
below-stops cog clock until s access next is asks =
    told-stops cog s.clock clock until (Goes s []) access next is asks (begin-asks cog clock s access asks) (begin-near cog clock s access asks)

-- ---- a turn

-- the turn of what was announced is of what comes next, and not before what was reached
pub comes : (cog code : ℕ) (stage : PasmStage) (p : Progress) (announced : Option (ℕ × Access)) (turn : Turn) → Announces cog code stage p announced →
    IsAnnounced announced turn → Comes (step cog (standing_at stage code p)) turn × (clock_of p ≤ turn.key.clock)
comes cog code stage p None turn announces is = absurd is
comes cog code stage p (Some asked) turn announces is =
    let h = announces asked.0 asked.1 refl in
    let le : asked.0 ≤ turn.key.clock = on-time asked.1 asked.0 turn.key.clock is.1 in
    ((asked.0, h.0 ∙ ap (Asks asked.0) (sym is.0), subst (λ (x : Access). IsOnTime x asked.0 turn.key.clock) (sym is.0) is.1, h.2), omega (arith, h.1, le))

pub comes-running : (cog code : ℕ) (stage : PasmStage) (p : Progress) (announced : Option (ℕ × Access)) (turn : Turn) → stage ≡ Running →
    Announces cog code stage p announced → IsAnnounced announced turn → Comes (step cog (running_at p)) turn × (clock_of p ≤ turn.key.clock)
comes-running cog code stage p announced turn is announces turns =
    let h = comes cog code stage p announced turn announces turns in
    (subst (λ (s : PasmStage). Comes (step cog (standing_at s code p)) turn) is h.0, h.1)

pub comes-never : (cog code : ℕ) (stage : PasmStage) (p : Progress) (announced : Option (ℕ × Access)) (turn : Turn) → stage ≡ Over →
    Announces cog code stage p announced → IsAnnounced announced turn → ⊥
comes-never cog code stage p announced turn is announces turns =
    let h = subst (λ (s : PasmStage). Comes (step cog (standing_at s code p)) turn) is (comes cog code stage p announced turn announces turns).0 in
    let x : Ends ≡ Asks h.0 turn.access = h.1 in cc

-- a read has its turn 16 clocks after the turn before
pub comes-read : (cog code : ℕ) (stage : PasmStage) (p : Progress) (announced : Option (ℕ × Access)) (turn : Turn) → stage ≡ Loading →
    Announces cog code stage p announced → IsAnnounced announced turn → turn.key.clock ≡ p.begun.clock + 16
comes-read cog code stage p announced turn is announces turns =
    let h = subst (λ (s : PasmStage). Comes (step cog (standing_at s code p)) turn) is (comes cog code stage p announced turn announces turns).0 in
    let e : Asks (p.begun.clock + 16) (Read Long (code + 4 * p.begun.at)) ≡ Asks h.0 turn.access = h.1 in
    let what : Read Long (code + 4 * p.begun.at) ≡ turn.access = cc in
    let when : p.begun.clock + 16 ≡ h.0 = cc in
    let on : h.0 ≡ turn.key.clock = subst (λ (x : Access). IsOnTime x h.0 turn.key.clock) (sym what) h.2 in
    sym (when ∙ on)

-- an instruction whose first access has its turn began at a clock that can be counted with
pub begun-below : (cog : ℕ) (p : Progress) (turn : Turn) → p.had ≡ Nothing → Comes (step cog (running_at p)) turn → p.begun.clock + 1 < 2 ^ 62
begun-below cog p turn none turns =
    let asks : played (instruction cog p.begun) [] ≡
    Asks turns.0 turn.access = ap (λ (had : Had). played (instruction cog p.begun) (turns_of had)) (sym none) ∙ turns.1 in
    let le : p.begun.clock ≤ turns.0 = begin-asks cog turns.0 p.begun turn.access asks in
    omega (arith, le, turns.3)

-- a turn is taken by the instruction at hand
takes-turn : (done cog : ℕ) (p : Progress) (loaded : Loaded) (ts : List Turn) (turn : Turn) → loaded.cog ≡ cog →
    replayed done loaded ts ≡ running_at p → replayed (done + 1) loaded (ts ++ turn ∷ []) ≡ played (instruction cog p.begun) (turns_of p.had ++ turn ∷ [])
takes-turn done cog p loaded ts turn own reached =
    turn-taken done loaded ts turn p.begun (turns_of p.had) reached ∙ ap (λ (n : ℕ). played (instruction n p.begun) (turns_of p.had ++ turn ∷ [])) own

pub over-stands : (done cog code : ℕ) (stage : PasmStage) (p new : Progress) (turn : Turn) → stage ≡ Running → Comes (step cog (running_at p)) turn →
    Takes cog p turn new Ended → (b : Begun) (ts : List Turn) → StandsFor done cog code stage p b ts →
    StandsFor (done + 1) cog code Over new b (ts ++ turn ∷ [])
over-stands done cog code stage p new turn is turns takes (PasmBegun loaded) ts stands = record {
  own = stands.own;
  from = stands.from;
  reached = takes-turn done cog p loaded ts turn stands.own (stands.reached ∙ ap (λ (s : PasmStage). standing_at s code p) is) ∙ takes.0;
  fresh = λ e. absurd (let x : Over ≡ Loading = e in cc);
  reads = λ e. absurd (let x : Over ≡ Loading = e in cc);
  ended = λ e. ended-behind cog ts turn (last-ends cog p.begun (turns_of p.had) turn turns takes.0);
}
over-stands done cog code stage p new turn is turns takes (SpinBegun entered) ts stands = absurd stands

pub whole-stands : (done cog code : ℕ) (stage : PasmStage) (p new : Progress) (turn : Turn) → stage ≡ Running → Takes cog p turn new Whole →
    (b : Begun) (ts : List Turn) → StandsFor done cog code stage p b ts → StandsFor (done + 1) cog code stage new b (ts ++ turn ∷ [])
whole-stands done cog code stage p new turn is takes (PasmBegun loaded) ts stands =
    runs (done + 1) cog code stage new loaded (ts ++ turn ∷ []) is stands.own stands.from
    (takes-turn done cog p loaded ts turn stands.own (stands.reached ∙ ap (λ (s : PasmStage). standing_at s code p) is) ∙ takes.0)
whole-stands done cog code stage p new turn is takes (SpinBegun entered) ts stands = absurd stands

pub half-stands : (done cog code : ℕ) (stage : PasmStage) (p new : Progress) (turn : Turn) → stage ≡ Running →
    running_at new ≡ Goes p.begun (turns_of p.had ++ turn ∷ []) → (b : Begun) (ts : List Turn) → StandsFor done cog code stage p b ts →
    StandsFor done cog code stage new b (ts ++ turn ∷ [])
half-stands done cog code stage p new turn is keeps (PasmBegun loaded) ts stands =
    runs done cog code stage new loaded (ts ++ turn ∷ []) is stands.own stands.from
    (turn-kept done loaded ts turn p.begun (turns_of p.had) (stands.reached ∙ ap (λ (s : PasmStage). standing_at s code p) is) ∙ sym keeps)
half-stands done cog code stage p new turn is keeps (SpinBegun entered) ts stands = absurd stands

-- ---- the load

-- what a load asks that goes on after these longs
reading-asks : (code : ℕ) (s : PasmState) (loaded : Loaded) (ts : List Turn) → IsReading code s loaded ts →
    loaded_by loaded ts ≡ Asks (s.clock + 16) (Read Long (code + 4 * s.at))
unfolding loading
reading-asks code s loaded ts r =
    let clock : loaded.load + 16 * (length r.longs + 1) ≡ s.clock + 16 = omega (arith, r.clock, r.count) in
    let address : loaded.code + 4 * length r.longs ≡ code + 4 * s.at = omega (arith, r.own, r.count) in
    ap (loaded_by loaded) (sym (append-nil ts)) ∙ r.goes_on []
    ∙ ap (λ (c : ℕ). Asks c (Read Long (loaded.code + 4 * length r.longs))) clock
    ∙ ap (λ (a : ℕ). Asks (s.clock + 16) (Read Long a)) address

reads-on : (done cog code : ℕ) (p : Progress) (loaded : Loaded) (ts : List Turn) → loaded.cog ≡ cog → done ≡ 0 → IsReading code p.begun loaded ts →
    StandsIn done cog code Loading p loaded ts
unfolding after
reads-on done cog code p loaded ts own none r = record {
  own = own;
  from = r.own;
  reached = ap (λ (n : ℕ). replayed n loaded ts) none ∙ reading-asks code p.begun loaded ts r;
  fresh = λ e. none;
  reads = λ e. r;
  ended = λ e. absurd (let x : Loading ≡ Over = e in cc);
}

-- a cog that is to load stands for a life without turns
pub unloaded-stands : (cog code par load : ℕ) (p : Progress) → p.begun.par ≡ par → p.begun.at ≡ 0 → p.begun.clock ≡ load →
    StandsIn 0 cog code Loading p (record { code = code; par = par; cog = cog; load = load }) []
unloaded-stands cog code par load p same-par at clock =
    reads-on 0 cog code p (record { code = code; par = par; cog = cog; load = load }) [] refl refl (record {
      own = refl;
      par = same-par;
      clock = omega (arith, at, clock);
      longs = [];
      held = ap (λ (n : ℕ). take n p.begun.registers) at;
      count = sym at;
      to_come = 495;
      all = omega (arith, at);
      goes_on = λ more. refl;
    })

-- after one more long the load goes on so
goes-more : (loaded : Loaded) (ts : List Turn) (turn : Turn) (to_come : ℕ) (longs : List ℕ) →
    ((more : List Turn) → played (loading loaded 496 []) (ts ++ more) ≡ played (loading loaded (suc to_come) longs) more) → (more : List Turn) →
    played (loading loaded 496 []) (ts ++ turn ∷ [] ++ more) ≡ played (loading loaded to_come (longs ++ value_of turn.answer ∷ [])) more
unfolding loading
goes-more loaded ts turn to_come longs goes_on more =
    ap (played (loading loaded 496 [])) (append_assoc ts (turn ∷ []) more) ∙ goes_on (turn ∷ more)

read-more : (code : ℕ) (old : PasmState) (new : Progress) (loaded : Loaded) (ts : List Turn) (turn : Turn) (longs : List ℕ) (to_come : ℕ) →
    IsReading code old loaded ts → take old.at old.registers ≡ longs → length longs ≡ old.at → old.at + suc to_come ≡ 496 →
    ((more : List Turn) → played (loading loaded 496 []) (ts ++ more) ≡ played (loading loaded (suc to_come) longs) more) →
    Loads old (value_of turn.answer) new Loading → IsReading code new.begun loaded (ts ++ turn ∷ [])
read-more code old new loaded ts turn longs zero r held count all goes_on loads = absurd (omega (arith, all, loads.0, loads.1))
read-more code old new loaded ts turn longs (suc n) r held count all goes_on loads = record {
  own = r.own;
  par = loads.3 ∙ r.par;
  clock = omega (arith, loads.2, loads.0, r.clock);
  longs = longs ++ value_of turn.answer ∷ [];
  held = ap (λ (k : ℕ). take k new.begun.registers) loads.0 ∙ loads.4 ∙ ap (λ (xs : List ℕ). xs ++ value_of turn.answer ∷ []) held;
  count = omega (arith, length-append longs (value_of turn.answer ∷ []), count, loads.0);
  to_come = n;
  all = omega (arith, all, loads.0);
  goes_on = goes-more loaded ts turn (suc n) longs goes_on;
}

-- after the last read the first instruction begins
read-last : (old : PasmState) (new : Progress) (loaded : Loaded) (ts : List Turn) (turn : Turn) (longs : List ℕ) (to_come : ℕ) → old.par ≡ loaded.par →
    old.clock ≡ loaded.load + 16 * old.at → take old.at old.registers ≡ longs → old.at + suc to_come ≡ 496 →
    ((more : List Turn) → played (loading loaded 496 []) (ts ++ more) ≡ played (loading loaded (suc to_come) longs) more) →
    Loads old (value_of turn.answer) new Running → loaded_by loaded (ts ++ turn ∷ []) ≡ running_at new
unfolding loading
read-last old new loaded ts turn longs (suc n) par clock held all goes_on loads = absurd (omega (arith, all, loads.0))
read-last old new loaded ts turn longs zero par clock held all goes_on loads =
    let begin : loaded.load + 8192 ≡ old.clock + 272 = omega (arith, clock, loads.0) in
    let first : first_with (longs ++ value_of turn.answer ∷ []) loaded.par (loaded.load + 8192) ≡ new.begun =
    ap (λ (xs : List ℕ). first_with (xs ++ value_of turn.answer ∷ []) loaded.par (loaded.load + 8192)) (sym held)
    ∙ ap (λ (p : ℕ). first_with (take old.at old.registers ++ value_of turn.answer ∷ []) p (loaded.load + 8192)) (sym par)
    ∙ ap (first_with (take old.at old.registers ++ value_of turn.answer ∷ []) old.par) begin ∙ sym loads.1 in
    ap (loaded_by loaded) (sym (append-nil (ts ++ turn ∷ []))) ∙ goes-more loaded ts turn zero longs goes_on []
    ∙ ap (λ (s : PasmState). Goes s []) first ∙ ap (λ (had : Had). Goes new.begun (turns_of had)) (sym loads.2)

-- the last long of a load, and the first instruction after it
pub last-loads : (old mid new : PasmState) (long : ℕ) → mid.par ≡ old.par → mid.at ≡ old.at + 1 → mid.clock ≡ old.clock + 16 →
    take (old.at + 1) mid.registers ≡ take old.at old.registers ++ long ∷ [] → old.at < 496 → 496 ≤ mid.at →
    new ≡ first_with (take 496 mid.registers) mid.par (mid.clock + 256) →
    (old.at ≡ 495) × (new ≡ first_with (take old.at old.registers ++ long ∷ []) old.par (old.clock + 272))
last-loads old mid new long par at clock longs below all begins =
    let last : old.at ≡ 495 = omega (arith, at, below, all) in
    let size : 496 ≡ old.at + 1 = omega (arith, last) in
    let when : mid.clock + 256 ≡ old.clock + 272 = omega (arith, clock) in
    let held : take 496 mid.registers ≡ take old.at old.registers ++ long ∷ [] = ap (λ (n : ℕ). take n mid.registers) size ∙ longs in (
      last,
      begins ∙ ap (λ (xs : List ℕ). first_with xs mid.par (mid.clock + 256)) held
          ∙ ap (λ (p : ℕ). first_with (take old.at old.registers ++ long ∷ []) p (mid.clock + 256)) par
          ∙ ap (first_with (take old.at old.registers ++ long ∷ []) old.par) when,
    )

load-by : (done cog code : ℕ) (stage : PasmStage) (old : PasmState) (new : Progress) (loaded : Loaded) (ts : List Turn) (turn : Turn) → loaded.cog ≡ cog →
    done ≡ 0 → IsReading code old loaded ts → Loads old (value_of turn.answer) new stage → StandsIn done cog code stage new loaded (ts ++ turn ∷ [])
unfolding after
load-by done cog code Loading old new loaded ts turn own none r loads =
    reads-on done cog code new loaded (ts ++ turn ∷ []) own none
    (read-more code old new loaded ts turn r.longs r.to_come r r.held r.count r.all r.goes_on loads)
load-by done cog code Running old new loaded ts turn own none r loads =
    runs done cog code Running new loaded (ts ++ turn ∷ []) refl own r.own
    (ap (λ (n : ℕ). replayed n loaded (ts ++ turn ∷ [])) none ∙ read-last old new loaded ts turn r.longs r.to_come r.par r.clock r.held r.all r.goes_on loads)
load-by done cog code Over old new loaded ts turn own none r loads = absurd loads

-- a load that takes a long stands for one turn more
pub load-stands : (done cog code : ℕ) (stage behind : PasmStage) (p new : Progress) (turn : Turn) → stage ≡ Loading →
    Loads p.begun (value_of turn.answer) new behind → (b : Begun) (ts : List Turn) → StandsFor done cog code stage p b ts →
    StandsFor done cog code behind new b (ts ++ turn ∷ [])
load-stands done cog code stage behind p new turn is loads (PasmBegun loaded) ts stands =
    load-by done cog code behind p.begun new loaded ts turn stands.own (stands.fresh is) (stands.reads is) loads
load-stands done cog code stage behind p new turn is loads (SpinBegun entered) ts stands = absurd stands

-- a load that has taken a long is a cog in order
pub record IsLoaded (cog clock : ℕ) (stage : PasmStage) (new : Progress) : Type 0 where
  pub at : new.begun.at < 512
  pub least : clock + 16 ≤ clock_of new
  pub most : clock_of new ≤ clock + 272
  pub half : IsHalf cog new
  pub loads : stage ≡ Loading → IsInLoad new

pub load-holds : (cog : ℕ) (stage : PasmStage) (old : PasmState) (long : ℕ) (new : Progress) → Loads old long new stage → IsLoaded cog old.clock stage new
load-holds cog Loading old long new loads =
    let here : clock_of new ≡ new.begun.clock = ap (clock_in new.begun.clock) loads.5 in
    let none : is_half new.had ≡ false = ap is_half loads.5 in
    record {
      at = omega (arith, loads.1);
      least = omega (arith, here, loads.2);
      most = omega (arith, here, loads.2);
      half = λ half. absurd (let x : true ≡ false = sym half ∙ none in cc);
      loads = λ is. (loads.1, none);
    }
load-holds cog Running old long new loads =
    let here : clock_of new ≡ new.begun.clock = ap (clock_in new.begun.clock) loads.2 in
    let clock : new.begun.clock ≡ old.clock + 272 = ap (λ (s : PasmState). s.clock) loads.1 in
    let at : new.begun.at ≡ 0 = ap (λ (s : PasmState). s.at) loads.1 in
    let none : is_half new.had ≡ false = ap is_half loads.2 in
    record {
      at = omega (arith, at);
      least = omega (arith, here, clock);
      most = omega (arith, here, clock);
      half = λ half. absurd (let x : true ≡ false = sym half ∙ none in cc);
      loads = λ is. absurd (let x : Running ≡ Loading = is in cc);
    }
load-holds cog Over old long new loads = absurd loads
