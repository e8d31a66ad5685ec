-- A runner goes with its cog along a record.
use Rattle.std.proofs.Common.{◌≡◌, ◌≢◌, ◌∙◌, ap, sym, subst, refl, ℕ, suc, ◌==◌, ◌≤◌, List, [], ◌∷◌, ◌++◌, length, Bool, true, false, Some, arith}
use Rattle.p8_access.specs.declared.order.Turn.{Turn}
use Rattle.p8_access.specs.declared.lives.Next.{Next}
use Rattle.p8_access.specs.Lives.{Begun}
use Rattle.p8_access.specs.declared.states.CogState.{CogState}
use Rattle.p8_access.specs.declared.states.CogState.TheVariants.{Stopped, Starting, Running}
use Rattle.p8_access.specs.Worlds.{World}
use Rattle.p8_access.specs.Hub.{cog_state}
use Rattle.p8_access.specs.Histories.{begun}
use Rattle.p8_cog.specs.Lives.{asks}
use Rattle.p8_ledger.specs.Seats.{Sits, SitsIn}
use Rattle.p8_ledger.proofs.Seating.{other-sits}
use Rattle.p8_ledger.specs.declared.steps.Step.{Step}
use Rattle.p8_ledger.specs.declared.steps.Step.TheVariants.{Took, Said}
use Rattle.p8_ledger.specs.Records.{Record, turns, mine, said, cog_of, Begins, IsTrueOf, Owes, whatever}
use Rattle.p8_desk.specs.declared.runner.Runner.{Runner}
use Rattle.p8_desk.specs.Runners.{Lives, Rides, HasFound, IsAsking}
use Rattle.p8_desk.proofs.Lookups.{test-apart, apart-by-test}

-- what a cog's own steps say of it is what the record says
pub said-own : (n : ℕ) (r : Record) → said n (mine n r) ≡ said n r
said-own n [] = refl
said-own n (step ∷ r) = by-test (said-own n r) (cog_of step == n) refl
  where
    by-test : said n (mine n r) ≡ said n r → (b : Bool) → (cog_of step == n) ≡ b → said n (mine n (step ∷ r)) ≡ said n (step ∷ r)
    by-test more true t = rw t (rw t refl)
    by-test more false t = rw t more

said-beside : (n : ℕ) (step : Step) (r : Record) → cog_of step ≢ n → said n (step ∷ r) ≡ said n r
said-beside n step r apart = rw (test-apart (cog_of step) n apart) refl

-- a step of another cog
rides-beside : (w : World) (n : ℕ) (r : Record) (runner : Runner) (step : Step) → cog_of step ≢ n → Rides w n r runner → Rides w n (step ∷ r) runner
rides-beside w n r runner step apart rides = record {
  cog = rides.cog;
  made = rides.made;
  said_last = λ s. said-beside n step r apart ∙ rides.said_last s;
  owed = λ s. (let o = rides.owed s in (o.0, said-beside n step r apart ∙ o.1));
  sits = subst (λ (x : Next). SitsIn asks (Lives w.clocks runner x) runner.next w (turns (step ∷ r)) n (cog_state w (turns (step ∷ r)) n)) (sym (said-beside n step r apart)) (by-step step apart);
}
  where
    by-step : (s : Step) → cog_of s ≢ n → SitsIn asks (Lives w.clocks runner (said n r)) runner.next w (turns (s ∷ r)) n (cog_state w (turns (s ∷ r)) n)
    by-step (Took turn) ne = other-sits asks (Lives w.clocks runner (said n r)) runner.next w (turns r) turn n ne rides.sits
    by-step (Said cog next) ne = rides.sits

mine-most : (n : ℕ) (more seen : Record) → length (mine n seen) ≤ length (mine n (more ++ seen))
mine-most n [] seen = omega arith
mine-most n (step ∷ more) seen = by-test (mine-most n more seen) (cog_of step == n) refl
  where
    by-test : length (mine n seen) ≤ length (mine n (more ++ seen)) → (b : Bool) → (cog_of step == n) ≡ b → length (mine n seen) ≤ length (mine n (step ∷ (more ++ seen)))
    by-test le true t = rw t (omega arith)
    by-test le false t = rw t le

-- steps of other cogs alone
pub rides-later : (w : World) (n : ℕ) (runner : Runner) (more seen : Record) → mine n (more ++ seen) ≡ mine n seen → Rides w n seen runner → Rides w n (more ++ seen) runner
rides-later w n runner [] seen same rides = rides
rides-later w n runner (step ∷ more) seen same rides = by-test (rides-later w n runner more seen) (cog_of step == n) refl
  where
    by-test : (mine n (more ++ seen) ≡ mine n seen → Rides w n seen runner → Rides w n (more ++ seen) runner) → (b : Bool) → (cog_of step == n) ≡ b → Rides w n (step ∷ (more ++ seen)) runner
    by-test later true t =
        let own : step ∷ mine n (more ++ seen) ≡ mine n seen = rw t at same in
        let long : suc (length (mine n (more ++ seen))) ≡ length (mine n seen) = ap length own in
        let le = mine-most n more seen in absurd (omega arith)
    by-test later false t = rides-beside w n (more ++ seen) runner step (apart-by-test _ _ t) (later (rw t at same) rides)

-- the same, where a record has begun with what was seen
pub rides-on : (w : World) (n : ℕ) (runner : Runner) (seen r : Record) → Begins seen r → mine n r ≡ mine n seen → Rides w n seen runner → Rides w n r runner
rides-on w n runner seen r begins same rides =
    subst (λ (l : Record). Rides w n l runner) begins.1 (rides-later w n runner begins.0 seen (ap (mine n) begins.1 ∙ same) rides)

-- before any step nothing runs
pub nothing-runs : (w : World) (n : ℕ) (stands : Begun → List Turn → Type 0) (next : Next) → SitsIn asks stands next w [] n (cog_state w [] n)
nothing-runs w n stands next = by-test (n == 0) refl
  where
    by-test : (b : Bool) → (n == 0) ≡ b → SitsIn asks stands next w [] n (cog_state w [] n)
    by-test true t = rw t tt
    by-test false t = rw t tt

-- what the life has found is true of its cog
told-true : (w : World) (n : ℕ) (past : List Turn) (runner : Runner) (last : Next) (state : CogState) → SitsIn asks (Lives w.clocks runner last) runner.next w past n state → SitsIn asks whatever runner.next w past n state
told-true w n past runner last Stopped sits = tt
told-true w n past runner last (Starting since origin) sits = tt
told-true w n past runner last (Running origin) sits = record { life = sits.life; began = sits.began; stood = tt; told = sits.told }

pub rides-true : (w : World) (n : ℕ) (r : Record) (runner : Runner) → Rides w n r runner → IsTrueOf w (turns r) n runner.next
rides-true w n r runner rides = told-true w n (turns r) runner (said n r) (cog_state w (turns r) n) rides.sits

-- a running cog that owes a saying has one that isn't said
pub owes-unsaid : (w : World) (n : ℕ) (r : Record) (runner : Runner) → HasFound runner → Owes w r n → Rides w n r runner → runner.said ≡ false
owes-unsaid w n r runner found owes rides = by-said runner.said refl
  where
    by-said : (b : Bool) → runner.said ≡ b → runner.said ≡ false
    by-said false e = e
    by-said true e = absurd (subst IsAsking (sym (rides.said_last e) ∙ owes.promise.1) (found e))

-- how far a saying goes, where its cog runs
pub saying-goes : (w : World) (n : ℕ) (r : Record) (runner : Runner) → HasFound runner → Owes w r n → Rides w n r runner
    → (b : Begun) × (begun w (turns r) n ≡ Some b) × Lives w.clocks runner (said n r) b (Rattle.p8_access.specs.Histories.since_begin (turns r) n)
saying-goes w n r runner found owes rides =
    let sits : Sits asks (Lives w.clocks runner (said n r)) runner.next w (turns r) n = subst (λ (s : CogState). SitsIn asks (Lives w.clocks runner (said n r)) runner.next w (turns r) n s) owes.runs.1 rides.sits in
    (sits.life, sits.began, sits.stood)
