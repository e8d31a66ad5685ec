-- A turn of a Spin cog in a history comes after fewer bytecodes than the limit of clocks.
use Rattle.std.proofs.Common.{◌≡◌, inl, inr, refl, sym, ap, subst, ◌∙◌, arith, ℕ, zero, suc, ◌+◌, ◌-◌, ◌<◌, ◌≤◌, List, [], ◌∷◌, append-nil, Some}
use Rattle.std.proofs.lemmas.Bool.{cases_lt}
use Rattle.p8_access.specs.declared.kinds.Origin.{Origin}
use Rattle.p8_access.specs.declared.kinds.Origin.TheVariants.{Pasm, Spin}
use Rattle.p8_access.specs.declared.kinds.Access.{Access}
use Rattle.p8_access.specs.declared.order.Turn.{Turn}
use Rattle.p8_access.specs.declared.states.CogState.{CogState}
use Rattle.p8_access.specs.declared.states.CogState.TheVariants.{Running}
use Rattle.p8_access.specs.Courses.{Course}
use Rattle.p8_access.specs.Hub.{cog_state}
use Rattle.p8_access.specs.Histories.{begun, begun_at, since_begin, IsNextRunning, IsNextIn, Legal}
use Rattle.p8_access.specs.Lives.{Begun, Entered, SpinBegun}
use Rattle.p8_access.specs.Replays.{Engine, step, after, replayed}
use Rattle.p8_access.specs.Replaying.{after-ends, asked-from}
use Rattle.p8_access.specs.Timing.{Outcome, Asks, Goes, Ends, played}
use Rattle.p8_access.specs.Worlds.{World}
use Rattle.p8_access.proofs.Nexts.{due-late, some-injective}
use Rattle.p8_bcog.specs.declared.state.SpinState.{SpinState}
use Rattle.p8_bcog.specs.Replay.{engine_of, enters_at, first_of, lived}
use Rattle.p8_cog.specs.Lives.{asks}
use Rattle.p8_meaning.specs.Programs.{Program, Addresses}
use Rattle.p8_compiled.specs.Told.{IsWorldOf}
use Rattle.p8_compiled.proofs.Following.{Follows, going, over, find-asker, due-from}
use Rattle.p8_compiled.proofs.Histories.{Runs_in, CogIs, cogs-are}
use Rattle.p8_compiled.proofs.SpinLives.{CodeIsTold, bytecodes-paced}

-- ---- a life that goes course by course

module _ {S : Type 0} (e : Engine S) (start : ℕ) (first : Course S) where
  -- once an access is asked more courses change nothing
  stays : (m n due : ℕ) (access : Access) (o : Outcome S) → after e n o ≡ Asks due access → after e (m + n) o ≡ Asks due access
  unfolding after
  stays zero n due access o here =
      let none : n ≡ 0 + n = omega arith in
      subst (λ (k : ℕ). after e k o ≡ Asks due access) none here
  stays (suc m) n due access o here =
      let more : suc (m + n) ≡ suc m + n = omega arith in
      subst (λ (k : ℕ). after e k o ≡ Asks due access) more (ap (step e) (stays m n due access o here))

  -- courses that are done whole come before the one that asks
  before-asked : (n due : ℕ) (access : Access) (o : Outcome S) → after e n o ≡ Asks due access → (done : ℕ) (s : S) (begin : ℕ) (left : List Turn) → after e done o ≡ Goes s begin left → done < n
  before-asked n due access o here done s begin left goes = elim (cases_lt done n) [
    | inl less ↦ less
    | inr more ↦
        let same : done - n + n ≡ done = omega (arith, more) in
        let both : Asks due access ≡ Goes s begin left = sym (stays (done - n) n due access o here) ∙ ap (λ k. after e k o) same ∙ goes in
        absurd (cc)
  ]

  -- they are few, where the next turn comes below a limit
  few-courses : (paced : (s : S) → 32 ≤ e.cost s) (limit : ℕ) (turns : List Turn) (n due : ℕ) (access : Access) → replayed e start first n turns ≡ Asks due access → due < limit
      → Follows e start first limit turns → (done : ℕ) (s : S) (begin : ℕ) (left : List Turn) → replayed e start first done turns ≡ Goes s begin left → done < limit
  few-courses paced limit turns n due access asks below (going count clock course few h) done s begin left goes =
      let here : replayed e start first count turns ≡ played e.cog clock course [] = ap (replayed e start first count) (sym (append-nil turns)) ∙ h.timed [] in
      let a = find-asker e start first paced turns due access n count clock course h (asked-from e start first turns count n due access _ here asks) in
      let there : replayed e start first a.count turns ≡ Asks due access = ap (replayed e start first a.count) (sym (append-nil turns)) ∙ a.stands.timed [] ∙ a.asks in
      let less = before-asked a.count due access (played e.cog start first turns) there done s begin left goes in
      omega (arith, less, a.stands.paced, due-from e start first a.clock a.course due access a.asks, below)
  few-courses paced limit turns n due access asks below (over count few h) done s begin left goes =
      let none : Ends ≡ Asks due access = sym (after-ends e n) ∙ asked-from e start first turns count n due access _ h.timed asks in
      absurd (cc)

-- ---- in a history

module _ (program : Program) (addresses : Addresses) (w : World) (world : IsWorldOf program addresses w) (code : (cog : ℕ) → cog < 8 → CodeIsTold program addresses w.memory cog) (turn : Turn) (past : List Turn) (legal : Legal asks w (turn ∷ past)) where
  abbrev turns : List Turn
  turns = since_begin past turn.key.cog

  abbrev AreFew : Entered → Type 0
  AreFew entered = (entered.memory ≡ w.memory) × ((done : ℕ) (s : SpinState) (begin : ℕ) (left : List Turn) → lived done entered turns ≡ Goes s begin left → done < w.clocks)

  few-by : (origin : Origin) (run : Runs_in program addresses w world code past turn.key.cog origin) → IsNextRunning asks w past turn.key.cog turn.key.clock turn.access → (entered : Entered) → begun_at w turn.key.cog run.clock origin ≡ SpinBegun entered → AreFew entered
  few-by (Pasm pcode par) run next entered is = absurd (cc)
  few-by (Spin entry pbase vbase frame size) run next entered is =
      let own : Entered = record { memory = w.memory; origin = Spin entry pbase vbase frame size; cog = turn.key.cog; begin = run.clock } in
      let life : next.life ≡ SpinBegun own = some-injective _ _ (sym next.began ∙ run.is_begun) in
      let asked = subst (λ (b : Begun). asks b turns next.earliest turn.access) life next.asks in
      let same : own ≡ entered = cc in
      let below = legal.1.next.below in
      subst AreFew same (
        refl,
        few-courses (engine_of w.memory turn.key.cog) (run.clock + 8192) (enters_at (first_of (Spin entry pbase vbase frame size))) (bytecodes-paced w.memory) w.clocks turns asked.0 next.earliest turn.access asked.1
            (omega (arith, due-late w past turn.key.cog turn.access next.earliest turn.key.clock next.due, below)) run.life,
      )

  pub are-few : (origin : Origin) → cog_state w past turn.key.cog ≡ Running origin → (entered : Entered) → begun w past turn.key.cog ≡ Some (SpinBegun entered) → AreFew entered
  are-few origin running entered begins =
      let cogs = cogs-are program addresses w world code past legal.0 turn.key.cog in
      let run = subst (CogIs program addresses w world code past turn.key.cog) running cogs in
      let next = subst (λ (s : CogState). IsNextIn asks w past turn.key.cog s turn.key.clock turn.access) running legal.1.next.next in
      few-by origin run.2 next entered (some-injective _ _ (sym run.2.is_begun ∙ begins))
