-- What a Spin cog keeps stands for its life's turns.
use Rattle.std.proofs.Common.{◌≡◌, ◌⊎◌, inl, inr, ℕ, ◌+◌, ◌-◌, ◌*◌, ◌<◌, ◌≤◌, ◌^◌, Bool, true, false, List, [], ◌∷◌, ◌++◌, Option, Some, None, refl, sym, ◌∙◌, ap, subst, arith, nat_lt}
use Rattle.std.proofs.lemmas.Bool.{ltb-true, ltb-false}
use Rattle.std.proofs.lemmas.List.{append-nil}
use Rattle.p8_access.specs.declared.kinds.Width.TheVariants.{Long}
use Rattle.p8_access.specs.declared.kinds.Access.{Access}
use Rattle.p8_access.specs.declared.kinds.Access.TheVariants.{Halt}
use Rattle.p8_access.specs.declared.order.Turn.{Turn}
use Rattle.p8_access.specs.declared.lives.Next.{Next}
use Rattle.p8_access.specs.declared.lives.Next.TheVariants.{At, Quiet, More}
use Rattle.p8_access.specs.Lives.{Entered, Begun, PasmBegun, SpinBegun, has_ended, Tells, announced_by, IsThorough, IsNear, IsWithin, Spends}
use Rattle.p8_access.specs.Courses.{Course}
use Rattle.p8_access.specs.Timing.{Outcome, Asks, Goes, Ends, earliest, played}
use Rattle.p8_access.specs.Replays.{Engine, after}
use Rattle.p8_access.specs.Replaying.{IsFrom, after-plus, after-asks, after-from, not-before}
use Rattle.p8_bcog.specs.declared.stage.SpinStage.{SpinStage}
use Rattle.p8_bcog.specs.declared.stage.SpinStage.TheVariants.{Entering, Ready, Asked, Halted, Over}
use Rattle.p8_bcog.specs.declared.state.SpinState.{SpinState}
use Rattle.p8_bcog.specs.Accesses.{ends, write_of}
use Rattle.p8_bcog.specs.Laters.{asking-is}
use Rattle.p8_bcog.specs.Replay.{entry_of, engine_of, first_begin, lived, IsAsked, BeginsAt, Begins}
use Rattle.p8_bcog.specs.Standing.{standing, come_to, is_under, StandsIn, StandsFor}
use Rattle.p8_bcog.specs.Stops.{is_ready, Leads, Led, IsBehind, Stops, Announces, is_access, asked_of, asked_now, announced_at}

-- ---- how many bytecodes a replay has come to

come_least : (stage : SpinStage) (done : ℕ) → done ≤ come_to stage done
come_least Entering done = omega arith
come_least Ready done = omega arith
come_least (Asked access later) done = omega arith
come_least (Halted reason) done = omega arith
come_least Over done = omega arith

come_most : (stage : SpinStage) (done : ℕ) → come_to stage done ≤ done + 1
come_most Entering done = omega arith
come_most Ready done = omega arith
come_most (Asked access later) done = omega arith
come_most (Halted reason) done = omega arith
come_most Over done = omega arith

come-sum : (stage : SpinStage) (done more : ℕ) → come_to stage (done + more) ≡ come_to stage more + done
come-sum Entering done more = omega arith
come-sum Ready done more = omega arith
come-sum (Asked access later) done more = omega arith
come-sum (Halted reason) done more = omega arith
come-sum Over done more = omega arith

-- a replay that goes on from where it has come
lived-on : (e : Entered) (ts : List Turn) (m n : ℕ) (here : Outcome SpinState) → lived m e ts ≡ here → m ≤ n → lived n e ts ≡ after (engine_of e.memory e.cog) (n - m) here
lived-on e ts m n here is le =
    let sum : n ≡ n - m + m = omega (arith, le) in
    ap (λ (k : ℕ). lived k e ts) sum ∙ after-plus (engine_of e.memory e.cog) (n - m) m _
    ∙ ap (after (engine_of e.memory e.cog) (n - m)) is

-- where the replay is, with no turn more
pub here-is : {counter : ℕ} (memory : List ℕ) (done cog : ℕ) (stage : SpinStage) (s : SpinState) (clock : ℕ) (e : Entered) (ts : List Turn) → StandsIn counter memory done cog stage s clock e ts → lived (come_to stage done) e ts ≡ standing cog stage s clock []
here-is memory done cog stage s clock e ts stands =
    ap (λ (xs : List Turn). lived (come_to stage done) e xs) (sym (append-nil ts)) ∙ stands.goes_on []

-- ---- what is told where a replay has come

begins-from : (until begin : ℕ) (o : Outcome SpinState) → BeginsAt begin o → IsFrom until o → until ≤ begin
begins-from until begin (Goes s c []) at from = omega (arith, at, from)
begins-from until begin (Goes s c (turn ∷ left)) at from = absurd from
begins-from until begin (Asks c a) at from = absurd at
begins-from until begin Ends at from = absurd at

asks-thorough : (e : Entered) (ts : List Turn) (m done n begin c : ℕ) (a : Access) → lived m e ts ≡ Asks c a → m ≤ done + 1 → (b : Bool) → nat_lt done n ≡ b → Begins (SpinBegun e) ts n begin → n ≤ done
asks-thorough e ts m done n begin c a is le false test begins = ltb-false done n test
asks-thorough e ts m done n begin c a is le true test (inl at) =
    let lt : done < n = ltb-true done n test in
    absurd (subst (BeginsAt begin) (lived-on e ts m n (Asks c a) is (omega (arith, lt, le)) ∙ after-asks (engine_of e.memory e.cog) (n - m) c a) at)
asks-thorough e ts m done n begin c a is le true test (inr entering) =
    let none : n ≡ 0 = entering.1 in omega (arith, none)

quiet-thorough : (e : Entered) (ts : List Turn) (m done n begin until : ℕ) (here : Outcome SpinState) → lived m e ts ≡ here → IsFrom until here → m ≤ done + 1 → Begins (SpinBegun e) ts n begin → done < n → until ≤ begin
quiet-thorough e ts m done n begin until here is from le (inl at) lt =
    begins-from until begin (lived n e ts) at
    (subst (IsFrom until) (sym (lived-on e ts m n here is (omega (arith, lt, le)))) (after-from (engine_of e.memory e.cog) (n - m) until here from))
quiet-thorough e ts m done n begin until here is from le (inr entering) lt =
    let none : n ≡ 0 = entering.1 in absurd (omega (arith, none, lt))

goes-begins : (clock bound : ℕ) (s : SpinState) (o : Outcome SpinState) → o ≡ Goes s bound [] → BeginsAt bound o
goes-begins clock bound s o is = subst (BeginsAt bound) (sym is) refl

-- only where a bytecode is to be done next it is told to come back
ready-only : (cog : ℕ) (stage : SpinStage) (s t : SpinState) (clock bound done : ℕ) → standing cog stage s clock [] ≡ Goes t bound [] → come_to stage done ≡ done
ready-only cog Entering s t clock bound done is = refl
ready-only cog Ready s t clock bound done is = refl
ready-only cog (Asked access later) s t clock bound done is =
    let e : Asks (earliest cog clock access) access ≡ Goes t bound [] = ap (λ (c : Course SpinState). played cog clock c []) (sym (asking-is access later s)) ∙ is in
    absurd cc
ready-only cog (Halted reason) s t clock bound done is =
    let e : Asks clock (Halt reason) ≡ Goes t bound [] = is in
    absurd cc
ready-only cog Over s t clock bound done is = refl

tells-in : (m : ℕ) (e : Entered) (here : Outcome SpinState) (reached : ℕ) (ts : List Turn) (until : ℕ) (next : Next) → lived m e ts ≡ here → Stops here reached until next → Tells (IsAsked (SpinBegun e) ts) until next
tells-in m e here reached ts until (At clock access) is stops = ((m, is ∙ stops.0), stops.2)
tells-in m e here reached ts until Quiet is stops =
    λ clock access asked. not-before (engine_of e.memory e.cog) (e.begin + 8192) (entry_of e) ts m here until is stops asked.0 clock access asked.1
tells-in m e here reached ts until (More bound) is stops =
    λ clock access asked. not-before (engine_of e.memory e.cog) (e.begin + 8192) (entry_of e) ts m (Goes stops.0 bound []) bound (is ∙ stops.1) (omega arith) asked.0 clock access asked.1

thorough-in : (m done : ℕ) (e : Entered) (here : Outcome SpinState) (reached : ℕ) (ts : List Turn) (until : ℕ) (next : Next) → m ≤ done + 1 → ((s : SpinState) (bound : ℕ) → here ≡ Goes s bound [] → m ≡ done) → lived m e ts ≡ here → Stops here reached until next → IsThorough (Begins (SpinBegun e) ts) done until next
thorough-in m done e here reached ts until (At clock access) le ready is stops =
    λ n begin begins. asks-thorough e ts m done n begin clock access (is ∙ stops.0) le (nat_lt done n) refl begins
thorough-in m done e here reached ts until Quiet le ready is stops =
    λ n begin begins lt. quiet-thorough e ts m done n begin until here is stops le begins lt
thorough-in m done e here reached ts until (More bound) le ready is stops =
    inl (subst (λ (k : ℕ). BeginsAt bound (lived k e ts)) (ready stops.0 bound stops.1) (subst (BeginsAt bound) (sym (is ∙ stops.1)) refl))

-- ---- what a cog tells that stands for these turns

pub stops_tells : (counter : ℕ) (memory : List ℕ) (done cog : ℕ) (stage : SpinStage) (s : SpinState) (clock reached until : ℕ) (next : Next) → Stops (standing cog stage s clock []) reached until next → (b : Begun) (ts : List Turn) → StandsFor counter memory done cog stage s clock b ts → Tells (IsAsked b ts) until next
stops_tells counter memory done cog stage s clock reached until next stops (SpinBegun e) ts stands =
    tells-in (come_to stage done) e _ reached ts until next (here-is memory done cog stage s clock e ts stands) stops
stops_tells counter memory done cog stage s clock reached until next stops (PasmBegun loaded) ts stands = absurd stands

pub stops_thorough : (counter : ℕ) (memory : List ℕ) (done cog : ℕ) (stage : SpinStage) (s : SpinState) (clock reached until : ℕ) (next : Next) → Stops (standing cog stage s clock []) reached until next → (b : Begun) (ts : List Turn) → StandsFor counter memory done cog stage s clock b ts → IsThorough (Begins b ts) done until next
stops_thorough counter memory done cog stage s clock reached until next stops (SpinBegun e) ts stands =
    thorough-in (come_to stage done) done e _ reached ts until next (come_most stage done) (λ t bound goes. ready-only cog stage s t clock bound done goes) (here-is memory done cog stage s clock e ts stands) stops
stops_thorough counter memory done cog stage s clock reached until next stops (PasmBegun loaded) ts stands = absurd stands

placed-in : {counter : ℕ} (memory : List ℕ) (done cog : ℕ) (stage : SpinStage) (s : SpinState) (clock : ℕ) (e : Entered) (ts : List Turn) → StandsIn counter memory done cog stage s clock e ts → is_under stage ≡ true → (begin : ℕ) × Begins (SpinBegun e) ts done begin
placed-in memory done cog stage s clock e ts stands under =
    let began = stands.began under in
    (began.1, inl (subst (BeginsAt began.1) (sym began.3) refl))

-- its place is the place in the replay
pub placed : (counter : ℕ) (memory : List ℕ) (done cog : ℕ) (stage : SpinStage) (s : SpinState) (clock : ℕ) (b : Begun) (ts : List Turn) → StandsFor counter memory done cog stage s clock b ts → has_ended cog ts ≡ false → (begin : ℕ) × Begins b ts done begin
unfolding ends
placed counter memory done cog Entering s clock (SpinBegun e) ts stands live =
    let none : done ≡ 0 = stands.fresh refl in
    let asks : lived 0 e ts ≡ Asks (earliest cog clock (write_of Long s.frame 0)) (write_of Long s.frame 0) = ap (λ (k : ℕ). lived k e ts) (sym none) ∙ here-is memory done cog Entering s clock e ts stands in
    (first_begin e, inr ((_, _, asks), none, refl))
placed counter memory done cog Ready s clock (SpinBegun e) ts stands live = placed-in memory done cog Ready s clock e ts stands refl
placed counter memory done cog (Asked access later) s clock (SpinBegun e) ts stands live = placed-in memory done cog (Asked access later) s clock e ts stands refl
placed counter memory done cog (Halted reason) s clock (SpinBegun e) ts stands live = placed-in memory done cog (Halted reason) s clock e ts stands refl
placed counter memory done cog Over s clock (SpinBegun e) ts stands live = absurd (let x : true ≡ false = sym (stands.ended refl) ∙ live in cc)
placed counter memory done cog stage s clock (PasmBegun loaded) ts stands live = absurd stands

pub over_ended : (counter : ℕ) (memory : List ℕ) (done cog : ℕ) (stage : SpinStage) (s : SpinState) (clock : ℕ) → stage ≡ Over → (b : Begun) (ts : List Turn) → StandsFor counter memory done cog stage s clock b ts → has_ended cog ts ≡ true
over_ended counter memory done cog stage s clock is (SpinBegun e) ts stands = stands.ended is
over_ended counter memory done cog stage s clock is (PasmBegun loaded) ts stands = absurd stands

pub stops_near : (here : Outcome SpinState) (reached until : ℕ) (next : Next) → Stops here reached until next → IsNear 560 reached next
stops_near here reached until (At clock access) stops = stops.3
stops_near here reached until Quiet stops = tt
stops_near here reached until (More bound) stops = tt

-- ---- what was announced

pub announces_none : (cog : ℕ) (stage : SpinStage) (s : SpinState) (clock reached : ℕ) → Announces cog stage s clock reached None
announces_none cog stage s clock reached = λ when access e. absurd (let x : None ≡ Some (when, access) = e in cc)

asked_in : ℕ × Access → Option (ℕ × Access) → ℕ × Access
asked_in other None = other
asked_in other (Some asked) = asked

same-asked : (one other : ℕ × Access) → Some one ≡ Some other → one ≡ other
unfolding asked_in
same-asked one other e = ap (asked_in one) e

announced-as : (cog : ℕ) (stage : SpinStage) (s : SpinState) (clock reached until : ℕ) (next : Next) → until < 2 ^ 62 → Stops (standing cog stage s clock []) reached until next → Announces cog stage s clock reached (announced_by next)
announced-as cog stage s clock reached until (At c a) room stops = λ when access e.
    let same = same-asked (c, a) (when, access) e in
    let at : c ≡ when = ap (λ (asked : ℕ × Access). asked.0) same in
    let what : a ≡ access = ap (λ (asked : ℕ × Access). asked.1) same in
    (stops.0 ∙ ap (λ (k : ℕ). Asks k a) at ∙ ap (Asks when) what, omega (arith, at, stops.1), omega (arith, at, stops.2, room))
announced-as cog stage s clock reached until Quiet room stops = announces_none cog stage s clock reached
announced-as cog stage s clock reached until (More bound) room stops = announces_none cog stage s clock reached

-- what is told is announced
pub stops_announces : (cog : ℕ) (stage : SpinStage) (s : SpinState) (clock reached until : ℕ) (next : Next) (announced : Option (ℕ × Access)) → announced ≡ announced_by next → until < 2 ^ 62 → Stops (standing cog stage s clock []) reached until next → Announces cog stage s clock reached announced
stops_announces cog stage s clock reached until next announced is room stops =
    subst (Announces cog stage s clock reached) (sym is) (announced-as cog stage s clock reached until next room stops)

-- what is told, and whether an access is, tell what is announced
pub told_announced : (cog : ℕ) (stage : SpinStage) (s : SpinState) (clock reached until : ℕ) (next : Next) (asking : Bool) → asking ≡ is_access next → Stops (standing cog stage s clock []) reached until next → announced_at asking cog stage s clock ≡ announced_by next
unfolding asked_now
told_announced cog stage s clock reached until (At when access) asking is stops =
    ap (λ (b : Bool). announced_at b cog stage s clock) is ∙ ap asked_of stops.0
told_announced cog stage s clock reached until Quiet asking is stops = ap (λ (b : Bool). announced_at b cog stage s clock) is
told_announced cog stage s clock reached until (More bound) asking is stops = ap (λ (b : Bool). announced_at b cog stage s clock) is

-- what was announced is told again
pub again : (when until reached : ℕ) (access : Access) (here : Outcome SpinState) (next : Next) → here ≡ Asks when access → when < until → Stops here reached until next → next ≡ At when access
again when until reached access here (At c a) asks below stops =
    let e : Asks c a ≡ Asks when access = sym stops.0 ∙ asks in
    cc
again when until reached access here Quiet asks below stops =
    let le : until ≤ when = subst (IsFrom until) asks stops in
    absurd (omega arith)
again when until reached access here (More bound) asks below stops =
    let e : Goes stops.0 bound [] ≡ Asks when access = sym stops.1 ∙ asks in
    absurd cc

-- where a bytecode is to be done next, nothing was announced
pub never_ready : (cog : ℕ) (stage : SpinStage) (s : SpinState) (clock when : ℕ) (access : Access) → stage ≡ Ready → standing cog stage s clock [] ≡ Asks when access → ⊥
never_ready cog stage s clock when access is asks =
    let e : Goes s clock [] ≡ Asks when access = ap (λ (st : SpinStage). standing cog st s clock []) (sym is) ∙ asks in
    cc

pub never_over_asks : (cog : ℕ) (stage : SpinStage) (s : SpinState) (clock when : ℕ) (access : Access) → stage ≡ Over → standing cog stage s clock [] ≡ Asks when access → ⊥
never_over_asks cog stage s clock when access is asks =
    let e : Ends ≡ Asks when access = ap (λ (st : SpinStage). standing cog st s clock []) (sym is) ∙ asks in
    cc

-- ---- a run

-- after a run it stands for the same turns
pub led_on : (counter fresh : ℕ) (memory : List ℕ) (done more cog : ℕ) (old : SpinState) (begin : ℕ) (stage now : SpinStage) (s new : SpinState) (clock budget begun until : ℕ) → now ≡ Ready → Leads memory cog more old begin stage new clock → (t : SpinState) × Led memory cog more old begin t begun × (t.at ≡ fresh) → IsBehind more budget begun clock until stage → (b : Begun) (ts : List Turn) → StandsFor counter memory done cog now old begin b ts → StandsFor fresh memory (done + more) cog stage new clock b ts
led_on counter fresh memory done more cog old begin stage now s new clock budget begun until is leads began behind_ (SpinBegun e) ts stands =
    let own : e.cog ≡ cog = stands.own in
    let code : e.memory ≡ memory = stands.code in
    let before : (rest : List Turn) → lived done e (ts ++ rest) ≡ Goes old begin rest =
    λ rest. ap (λ (k : ℕ). lived k e (ts ++ rest)) (sym (ap (λ (st : SpinStage). come_to st done) is)) ∙ stands.goes_on rest ∙ ap (λ (st : SpinStage). standing cog st old begin rest) is in
    let engine : engine_of e.memory e.cog ≡ engine_of memory cog = ap (λ (c : ℕ). engine_of e.memory c) own ∙ ap (λ (m : List ℕ). engine_of m cog) code in
    record {
      own = own;
      code = code;
      goes_on = λ rest.
          ap (λ (k : ℕ). lived k e (ts ++ rest)) (come-sum stage done more)
          ∙ after-plus (engine_of e.memory e.cog) (come_to stage more) done _
          ∙ ap (after (engine_of e.memory e.cog) (come_to stage more)) (before rest)
          ∙ ap (λ (g : Engine SpinState). after g (come_to stage more) (Goes old begin rest)) engine
          ∙ leads rest;
      began = λ under. (
        began.0,
        begun,
        [],
        ap (λ (k : ℕ). lived k e ts) (swapped done more)
            ∙ after-plus (engine_of e.memory e.cog) more done _
            ∙ ap (after (engine_of e.memory e.cog) more) (ap (λ (xs : List Turn). lived done e xs) (sym (append-nil ts)) ∙ before [])
            ∙ ap (λ (g : Engine SpinState). after g more (Goes old begin [])) engine
            ∙ began.1 [],
        λ amid. began.2,
      );
      fresh = λ st. absurd (not-entering stage more budget begun clock until behind_ st);
      ended = λ st. absurd (not-over stage more budget begun clock until behind_ st);
    }
  where
    swapped : (a b : ℕ) → a + b ≡ b + a
    swapped a b = omega arith

    not-entering : (st : SpinStage) (d b g c u : ℕ) → IsBehind d b g c u st → st ≡ Entering → ⊥
    not-entering Entering d b g c u at e = at
    not-entering Ready d b g c u at e = let x : Ready ≡ Entering = e in cc
    not-entering (Asked access later) d b g c u at e = let x : Asked access later ≡ Entering = e in cc
    not-entering (Halted reason) d b g c u at e = let x : Halted reason ≡ Entering = e in cc
    not-entering Over d b g c u at e = at

    not-over : (st : SpinStage) (d b g c u : ℕ) → IsBehind d b g c u st → st ≡ Over → ⊥
    not-over Entering d b g c u at e = at
    not-over Ready d b g c u at e = let x : Ready ≡ Over = e in cc
    not-over (Asked access later) d b g c u at e = let x : Asked access later ≡ Over = e in cc
    not-over (Halted reason) d b g c u at e = let x : Halted reason ≡ Over = e in cc
    not-over Over d b g c u at e = at
led_on counter fresh memory done more cog old begin stage now s new clock budget begun until is leads began behind_ (PasmBegun loaded) ts stands = absurd stands

-- what was read of the memory is the memory
pub ran_stands : (counter fresh : ℕ) (memory seen : List ℕ) (done more from cog : ℕ) (old : SpinState) (begin : ℕ) (stage now : SpinStage) (new : SpinState) (clock budget begun until : ℕ) → seen ≡ memory → from ≡ more → now ≡ Ready → Leads seen cog more old begin stage new clock → (t : SpinState) × Led seen cog more old begin t begun × (t.at ≡ fresh) → IsBehind more budget begun clock until stage → (b : Begun) (ts : List Turn) → StandsFor counter memory done cog now old begin b ts → StandsFor fresh memory (done + from) cog stage new clock b ts
ran_stands counter fresh memory seen done more from cog old begin stage now new clock budget begun until same counted is leads began at b ts stands =
    subst (λ (k : ℕ). StandsFor fresh memory (done + k) cog stage new clock b ts) (sym counted)
    (led_on counter fresh memory done more cog old begin stage now old new clock budget begun until is
    (subst (λ (m : List ℕ). Leads m cog more old begin stage new clock) same leads)
    (began.0, subst (λ (m : List ℕ). Led m cog more old begin began.0 begun) same began.1, began.2)
    at b ts stands)

pub behind_early : (done budget begun clock until : ℕ) (stage : SpinStage) → IsBehind done budget begun clock until stage → begun ≤ clock
behind_early done budget begun clock until Entering at = absurd at
behind_early done budget begun clock until Ready at = omega (arith, at.0)
behind_early done budget begun clock until (Asked access later) at = at.1
behind_early done budget begun clock until (Halted reason) at = at.1
behind_early done budget begun clock until Over at = absurd at

pub behind_late : (done budget begun clock until : ℕ) (stage : SpinStage) → IsBehind done budget begun clock until stage → clock ≤ begun + 544
behind_late done budget begun clock until Entering at = absurd at
behind_late done budget begun clock until Ready at = omega (arith, at.0)
behind_late done budget begun clock until (Asked access later) at = at.2
behind_late done budget begun clock until (Halted reason) at = at.2
behind_late done budget begun clock until Over at = absurd at

pub behind_ready : (done budget begun clock until : ℕ) (stage : SpinStage) → IsBehind done budget begun clock until stage → stage ≡ Ready → begun ≡ clock
behind_ready done budget begun clock until Entering at is = absurd at
behind_ready done budget begun clock until Ready at is = at.0
behind_ready done budget begun clock until (Asked access later) at is = absurd (let x : Asked access later ≡ Ready = is in cc)
behind_ready done budget begun clock until (Halted reason) at is = absurd (let x : Halted reason ≡ Ready = is in cc)
behind_ready done budget begun clock until Over at is = absurd at

spent-by : (done budget clock until : ℕ) → (until ≤ clock) ⊎ (done ≡ budget) → clock < until → done ≡ budget
spent-by done budget clock until (inl le) lt = absurd (omega arith)
spent-by done budget clock until (inr is) lt = is

-- to come back is told only where the whole budget was done
more-spent : (cog done budget begun clock until bound : ℕ) (stage : SpinStage) (s t : SpinState) → IsBehind done budget begun clock until stage → standing cog stage s clock [] ≡ Goes t bound [] → bound < until → done ≡ budget
more-spent cog done budget begun clock until bound Entering s t at is lt = absurd at
more-spent cog done budget begun clock until bound Ready s t at is lt =
    let same : clock ≡ bound = cc in
    spent-by done budget clock until at.1 (omega (arith, same, lt))
more-spent cog done budget begun clock until bound (Asked access later) s t at is lt =
    let e : Asks (earliest cog clock access) access ≡ Goes t bound [] = ap (λ (c : Course SpinState). played cog clock c []) (sym (asking-is access later s)) ∙ is in
    absurd cc
more-spent cog done budget begun clock until bound (Halted reason) s t at is lt =
    let e : Asks clock (Halt reason) ≡ Goes t bound [] = is in
    absurd cc
more-spent cog done budget begun clock until bound Over s t at is lt = absurd at

pub ran_spends : (cog place from done budget reached begin begun clock until : ℕ) (stage : SpinStage) (s : SpinState) (next : Next) → from ≡ done → reached ≡ begin → begin + 32 * done ≤ begun → IsBehind done budget begun clock until stage → Stops (standing cog stage s clock []) begun until next → Spends place (place + from) reached begun 32 until budget next
ran_spends cog place from done budget reached begin begun clock until stage s (At c a) counted here least at stops =
    (omega (arith, here, least), stops.1, stops.2)
ran_spends cog place from done budget reached begin begun clock until stage s Quiet counted here least at stops = omega (arith, here, least)
ran_spends cog place from done budget reached begin begun clock until stage s (More bound) counted here least at stops =
    let all : done ≡ budget = more-spent cog done budget begun clock until bound stage s stops.0 at stops.1 stops.3 in
    (omega (arith, counted, all), omega (arith, all, here, least, stops.2), stops.2, stops.3)

-- it is told to come back only where a bytecode is to be done next
goes-ready : (cog : ℕ) (stage : SpinStage) (s t : SpinState) (clock bound : ℕ) → standing cog stage s clock [] ≡ Goes t bound [] → stage ≡ Ready
unfolding ends
goes-ready cog Entering s t clock bound is =
    let e : Asks (earliest cog clock (write_of Long s.frame 0)) (write_of Long s.frame 0) ≡ Goes t bound [] = is in
    absurd cc
goes-ready cog Ready s t clock bound is = refl
goes-ready cog (Asked access later) s t clock bound is =
    let e : Asks (earliest cog clock access) access ≡ Goes t bound [] = ap (λ (c : Course SpinState). played cog clock c []) (sym (asking-is access later s)) ∙ is in
    absurd cc
goes-ready cog (Halted reason) s t clock bound is =
    let e : Asks clock (Halt reason) ≡ Goes t bound [] = is in
    absurd cc
goes-ready cog Over s t clock bound is =
    let e : Ends ≡ Goes t bound [] = is in
    absurd cc

-- where nothing was run
pub rest_spends : (cog place budget reached clock until : ℕ) (stage : SpinStage) (s : SpinState) (next : Next) → (stage ≡ Ready → ⊥) → Stops (standing cog stage s clock []) reached until next → Spends place place reached reached 32 until budget next
rest_spends cog place budget reached clock until stage s (At c a) ready stops = (omega arith, stops.1, stops.2)
rest_spends cog place budget reached clock until stage s Quiet ready stops = omega arith
rest_spends cog place budget reached clock until stage s (More bound) ready stops = absurd (ready (goes-ready cog stage s stops.0 clock bound stops.1))

pub rest_quiet : (cog : ℕ) (stage : SpinStage) (clock reached until : ℕ) (next : Next) → (stage ≡ Over → ⊥) → clock ≤ reached + 544 → (next ≡ Quiet → (stage ≡ Over) ⊎ (until ≤ clock + 16)) → next ≡ Quiet → until ≤ reached + 560
rest_quiet cog stage clock reached until next live late near is = by_end (near is)
  where
    by_end : (stage ≡ Over) ⊎ (until ≤ clock + 16) → until ≤ reached + 560
    by_end (inl over) = absurd (live over)
    by_end (inr le) = omega (arith, le, late)

pub ready_by : (stage : SpinStage) → is_ready stage ≡ true → stage ≡ Ready
ready_by Entering is = absurd (let x : false ≡ true = is in cc)
ready_by Ready is = refl
ready_by (Asked access later) is = absurd (let x : false ≡ true = is in cc)
ready_by (Halted reason) is = absurd (let x : false ≡ true = is in cc)
ready_by Over is = absurd (let x : false ≡ true = is in cc)

pub not_ready : (stage : SpinStage) → is_ready stage ≡ false → stage ≡ Ready → ⊥
not_ready stage unready is = let x : true ≡ false = ap is_ready (sym is) ∙ unready in cc

-- ---- how far a call goes

-- a run whose budget isn't spent where a bytecode asks
pub ran_far : (cog begin done budget begun clock until : ℕ) (stage : SpinStage) (s : SpinState) (next : Next) → done ≤ budget → begun ≤ begin + 544 * done → IsBehind done budget begun clock until stage → Stops (standing cog stage s clock []) begun until next → (next ≡ Quiet → (stage ≡ Over) ⊎ (until ≤ clock + 16)) → IsWithin (begin + 544 * budget + 16) until next
ran_far cog begin done budget begun clock until stage s (More bound) all most at stops near = tt
ran_far cog begin done budget begun clock until Entering s (At c a) all most at stops near = absurd at
ran_far cog begin done budget begun clock until Ready s (At c a) all most at stops near = absurd (let e : Goes s clock [] ≡ Asks c a = stops.0 in cc)
ran_far cog begin done budget begun clock until (Asked access later) s (At c a) all most at stops near = omega (arith, at.3, stops.3, most)
ran_far cog begin done budget begun clock until (Halted reason) s (At c a) all most at stops near = omega (arith, at.3, stops.3, most)
ran_far cog begin done budget begun clock until Over s (At c a) all most at stops near = absurd at
ran_far cog begin done budget begun clock until Entering s Quiet all most at stops near = absurd at
ran_far cog begin done budget begun clock until Ready s Quiet all most at stops near = by_end (near refl)
  where
    by_end : (Ready ≡ Over) ⊎ (until ≤ clock + 16) → until ≤ begin + 544 * budget + 16
    by_end (inl over) = absurd cc
    by_end (inr le) = omega (arith, le, at.0, most, all)
ran_far cog begin done budget begun clock until (Asked access later) s Quiet all most at stops near = by_end (near refl)
  where
    by_end : (Asked access later ≡ Over) ⊎ (until ≤ clock + 16) → until ≤ begin + 544 * budget + 16
    by_end (inl over) = absurd cc
    by_end (inr le) = omega (arith, le, at.2, at.3, most)
ran_far cog begin done budget begun clock until (Halted reason) s Quiet all most at stops near = by_end (near refl)
  where
    by_end : (Halted reason ≡ Over) ⊎ (until ≤ clock + 16) → until ≤ begin + 544 * budget + 16
    by_end (inl over) = absurd cc
    by_end (inr le) = omega (arith, le, at.2, at.3, most)
ran_far cog begin done budget begun clock until Over s Quiet all most at stops near = absurd at

-- where nothing was run
pub rest_far : (cog budget reached clock until : ℕ) (stage : SpinStage) (s : SpinState) (next : Next) → 1 ≤ budget → (stage ≡ Over → ⊥) → clock ≤ reached + 544 → Stops (standing cog stage s clock []) reached until next → (next ≡ Quiet → (stage ≡ Over) ⊎ (until ≤ clock + 16)) → IsWithin (reached + 544 * budget + 16) until next
rest_far cog budget reached clock until stage s (At c a) some live late stops near = omega (arith, stops.3)
rest_far cog budget reached clock until stage s Quiet some live late stops near =
    let le : until ≤ reached + 560 = rest_quiet cog stage clock reached until Quiet live late near refl in
    omega arith
rest_far cog budget reached clock until stage s (More bound) some live late stops near = tt
