-- What is done with the ledger under the lock, and what is noted of it.
use Rattle.std.proofs.Common.{◌≡◌, ◌⊎◌, inl, inr, ⊎_elim, ◌∙◌, ap, sym, subst, refl, ℕ, ◌+◌, ◌*◌, ◌<◌, List, ◌∷◌, length, Bool, true, false, Some, None, arith}
use Rattle.p8_access.specs.declared.order.Turn.{Turn}
use Rattle.p8_access.specs.declared.lives.Next.{Next}
use Rattle.p8_access.specs.declared.lives.Next.TheVariants.{At, Quiet, More}
use Rattle.p8_access.specs.Lives.{Begun, PasmBegun, SpinBegun, IsAnnounced, announced_by}
use Rattle.p8_access.specs.declared.states.CogState.{CogState}
use Rattle.p8_access.specs.declared.states.CogState.TheVariants.{Stopped, Starting, Running}
use Rattle.p8_access.specs.Hub.{cog_state}
use Rattle.p8_ledger.specs.Standing.{FitsState}
use Rattle.p8_access.specs.Worlds.{World}
use Rattle.p8_access.specs.Histories.{since_begin, Ended}
use Rattle.p8_cog.specs.declared.life_kind.LifeKind.{LifeKind}
use Rattle.p8_cog.specs.declared.life_kind.LifeKind.TheVariants.{Pasm as OfPasm, Spin as OfSpin}
use Rattle.p8_cog.specs.Kinds.{number_of, fact_of}
use Rattle.p8_cog.specs.Lives.{asks}
use Rattle.p8_cog.specs.WholeLives as Life
use Rattle.p8_ledger.specs.declared.ledger.Ledger.{Ledger}
use Rattle.p8_ledger.specs.declared.ledger.Taken.TheVariants.{Done, Over}
use Rattle.p8_ledger.specs.declared.steps.Step.TheVariants.{Took, Said}
use Rattle.p8_ledger.specs.Records.{Record, turns, said, Owes, NoFront, IsTruthful}
use Rattle.p8_ledger.specs.Ledgers.{Found, Decides}
use Rattle.p8_ledger.proofs.Telling.{none-over}
use Rattle.p8_desk.specs.declared.runner.Runner.{Runner}
use Rattle.p8_desk.specs.declared.turned.Turned.TheVariants.{Done as Turns, Over as Ends}
use Rattle.p8_desk.specs.Runners.{Lives, Rides, Comes, HasFound, GoesOnFrom, pace_in, most_in}
use Rattle.p8_desk.specs.Tries.{pace_of, most_of, GoesOn, Says, IsSaid}
use Rattle.p8_desk.specs.Seats.{Spoken, Granted, Settled}
use Rattle.p8_desk.proofs.Riding.{saying-goes, owes-unsaid}

-- a life of a kind began with something of that kind
numbers-of : (kind : LifeKind) (b : Begun) (pasm spin : Type 0) → fact_of kind pasm spin → (pasm → pace_of b ≡ 4) → (pasm → most_of b ≡ 16400) → (spin → pace_of b ≡ 32) → (spin → most_of b ≡ 565264)
    → (number_of kind 4 32 ≡ pace_of b) × (8192 + 1024 * number_of kind 8 544 + 16 ≡ most_of b)
numbers-of OfPasm b pasm spin fact p m q k = (sym (p fact), sym (m fact))
numbers-of OfSpin b pasm spin fact p m q k = (sym (q fact), sym (k fact))

says-on : (w : World) (n : ℕ) (r : Record) (runner : Runner) (ts : List Turn) (b : Begun) (owes : Owes w r n) → HasFound runner → Rides w n r runner → Lives w.clocks runner (said n r) b ts → (pace_in runner.life ≡ pace_of b) × (most_in runner.life ≡ most_of b)
    → GoesOn (pace_of b) (most_of b) w.clocks (owes.promise.0) runner.next
says-on w n r runner ts b owes found rides lives numbers =
    let on : GoesOnFrom (pace_in runner.life) (most_in runner.life) w.clocks (More owes.promise.0) runner.next = subst (λ (x : Next). GoesOnFrom (pace_in runner.life) (most_in runner.life) w.clocks x runner.next) owes.promise.1 (lives.goes_on (owes-unsaid w n r runner found owes rides)) in
    subst (λ (y : ℕ × ℕ). GoesOn y.0 y.1 w.clocks owes.promise.0 runner.next) (λ i. (numbers.0 i, numbers.1 i)) on

pub says-as : (w : World) (n : ℕ) (r : Record) (runner : Runner) → HasFound runner → Owes w r n → Rides w n r runner → Says w r n runner.next
says-as w n r runner found owes rides =
    let l = saying-goes w n r runner found owes rides in record {
      owes = owes;
      life = l.0;
      began = l.1;
      goes_on = says-on w n r runner (since_begin (turns r) n) l.0 owes found rides l.2 (by-life l.0 (l.2).stood);
    }
  where
    by-life : (b : Begun) → Life.stands_for runner.life b (since_begin (turns r) n) → (pace_in runner.life ≡ pace_of b) × (most_in runner.life ≡ most_of b)
    by-life (PasmBegun loaded) stood = numbers-of runner.life.kind (PasmBegun loaded) _ _ stood (λ x. refl) (λ x. refl) (λ x. absurd x) (λ x. absurd x)
    by-life (SpinBegun entered) stood = numbers-of runner.life.kind (SpinBegun entered) _ _ stood (λ x. absurd x) (λ x. absurd x) (λ x. refl) (λ x. refl)

-- where the cog owed a saying, it has said it
pub spoken-says : (w : World) (n : ℕ) (r : Record) (now : Ledger) (old new : Runner) → HasFound old → Owes w r n → Rides w n r old → Found w now (Said n old.next ∷ r) → Rides w n (Said n old.next ∷ r) new
    → Spoken w n old.next r (Some old.next) now new
spoken-says w n r now old new found owes rides stands then_ = record { speaks = inl (refl, says-as w n r old found owes rides); stands = stands; rides = then_ }

-- else nothing has changed
pub spoken-none : (w : World) (n : ℕ) (r : Record) (ledger : Ledger) (runner : Runner) → (Owes w r n → ⊥) → Found w ledger r → Rides w n r runner → Spoken w n runner.next r None ledger runner
spoken-none w n r ledger runner owes stands rides = record { speaks = inr (refl, owes); stands = stands; rides = rides }

-- what a turn that was made has to do with the runner of its cog
pub comes-as : (w : World) (n : ℕ) (r : Record) (now : Ledger) (runner : Runner) (turn : Turn) (running : Bool) (state : CogState) (memory : List ℕ) → Granted w n r (Done turn running) now → Rides w n r runner → memory ≡ w.memory → state ≡ cog_state w (turn ∷ turns r) n
    → Comes w r runner memory state turn running
comes-as w n r now runner turn running state memory g rides memory_is state_is =
    let d : Decides w r n (Done turn running) = g.1 in
    let cog : turn.key.cog ≡ n = d.1 in record {
      memory = memory_is;
      state = state_is ∙ ap (λ (m : ℕ). cog_state w (turn ∷ turns r) m) (sym cog);
      fits_state = subst (λ (m : ℕ). FitsState running (cog_state w (turns r) m)) (sym cog) d.3;
      extends = d.0;
      origins = (g.2.1).origins;
      announced = λ b. subst (λ (m : ℕ). IsAnnounced (announced_by (said m r)) turn) (sym cog) (d.4 b);
      rides = subst (λ (m : ℕ). Rides w m r runner) (sym cog) rides;
    }

pub turn-fits : (n : ℕ) (w : World) (s : Record) (turn : Turn) (running : Bool) (now : Ledger) → n < 8 → Granted w n s (Done turn running) now → turn.key.cog < 8
turn-fits n w s turn running now near g = let d : Decides w s n (Done turn running) = g.1 in let cog : turn.key.cog ≡ n = d.1 in omega arith

-- a turn that was made is of a start or of what was said
said-turn : (running : Bool) (state : CogState) (next : Next) (turn : Turn) → FitsState running state → (running ≡ true → IsAnnounced (announced_by next) turn) → IsSaid state next turn
said-turn running Stopped next turn fits announced = none running fits
  where
    none : (b : Bool) → FitsState b Stopped → ⊥
    none true f = f
    none false f = f
said-turn running (Starting since origin) next turn fits announced = tt
said-turn running (Running origin) next turn fits announced = of-next next (announced (runs running fits))
  where
    runs : (b : Bool) → FitsState b (Running origin) → b ≡ true
    runs true f = refl
    runs false f = absurd f

    of-next : (x : Next) → IsAnnounced (announced_by x) turn → (earliest : ℕ) × (x ≡ At earliest turn.access)
    of-next (At clock access) a = (clock, ap (At clock) (sym a.0))
    of-next Quiet a = absurd a
    of-next (More bound) a = absurd a

pub settled-done : (w : World) (n : ℕ) (s : Record) (now : Ledger) (new : Runner) (turn : Turn) (running : Bool) → Granted w n s (Done turn running) now → Rides w turn.key.cog (Took turn ∷ s) new → Settled w n s now new (Turns turn)
settled-done w n s now new turn running g rides =
    let d : Decides w s n (Done turn running) = g.1 in record {
      answers = (d.0, d.1, d.2, said-turn running (cog_state w (turns s) n) (said n s) turn d.3 d.4);
      stands = g.0;
      rides = subst (λ (m : ℕ). Rides w m (Took turn ∷ s) new) d.1 rides;
    }

-- what was decided is what is answered
over-ended : (w : World) (s : Record) → Rattle.p8_access.specs.Histories.Legal asks w (turns s) → IsTruthful w s → (length (turns s) ≡ w.turns) ⊎ NoFront w s → Ended asks w (turns s)
over-ended w s legal truthful over = record { legal = legal; over = ⊎_elim (λ (full : length (turns s) ≡ w.turns). inl full) (λ (none : NoFront w s). none-over w s truthful none) over }

pub settled-over : (w : World) (n : ℕ) (s : Record) (now : Ledger) (runner : Runner) → Granted w n s Over now → Rides w n s runner → Settled w n s now runner Ends
settled-over w n s now runner g rides =
    let before = g.2.1 in record { answers = (g.1, over-ended w s before.legal before.truth g.1); stands = g.0; rides = rides }
