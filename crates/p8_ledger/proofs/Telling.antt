-- What steps leave of the truth, and what the least front tells.
use Rattle.std.proofs.Common.{◌≡◌, ◌∙◌, ap, sym, subst, refl, ℕ, ◌+◌, ◌<◌, ◌≤◌, ◌==◌, Bool, true, false, if◌then◌else◌, List, [], ◌∷◌, ◌++◌, length, arith, inl, inr, ◌⊎◌}
use Rattle.p8_access.specs.declared.kinds.Origin.{Origin}
use Rattle.p8_access.specs.declared.kinds.Origin.TheVariants.{Pasm, Spin}
use Rattle.p8_access.specs.declared.kinds.Access.{Access}
use Rattle.p8_access.specs.declared.order.Key.{Key}
use Rattle.p8_access.specs.declared.order.Turn.{Turn}
use Rattle.p8_access.specs.declared.lives.Next.{Next}
use Rattle.p8_access.specs.declared.lives.Next.TheVariants.{At, Quiet, More}
use Rattle.p8_access.specs.Windows.{Before}
use Rattle.p8_access.specs.Lives.{Begun, IsMade, first_turn_of}
use Rattle.p8_access.specs.declared.states.CogState.{CogState}
use Rattle.p8_access.specs.declared.states.CogState.TheVariants.{Stopped, Starting, Running}
use Rattle.p8_access.specs.Worlds.{World}
use Rattle.p8_access.specs.Hub.{cog_state}
use Rattle.p8_access.specs.Histories.{answer_to, IsNext, IsNextIn, IsNextRunning, Extends, IsOver, begun_at, first_access, since_begin}
use Rattle.p8_access.proofs.Changes.{decided, same-cog, differ-cog, other-test, own-test}
use Rattle.p8_access.proofs.Nexts.{nat_apart, due-late, due-on_time, some-injective}
use Rattle.p8_cog.specs.Lives.{asks}
use Rattle.p8_cog.specs.Laws.{asked-first, asked-later}
use Rattle.p8_ledger.specs.Seats.{Sits, SitsIn}
use Rattle.p8_ledger.proofs.Seating.{other-sits, own-sits}
use Rattle.p8_ledger.proofs.Settling.{start-sits}
use Rattle.p8_ledger.specs.declared.steps.Step.{Step}
use Rattle.p8_ledger.specs.declared.steps.Step.TheVariants.{Took, Said}
use Rattle.p8_ledger.specs.Records.{Record, cog_of, turns, mine, says, said, Begins, whatever, IsTrueOf, IsTruthful, HasFront, HasFrontIn, HasFrontBy, IsLeastFront, NoFront}

-- a step of another cog leaves what a cog has said last
pub said-beside : (step : Step) (r : Record) (n : ℕ) → (cog_of step ≡ n → ⊥) → said n (step ∷ r) ≡ said n r
said-beside step r n differ = ap (λ (b : Bool). if b then says step else said n r) (other-test (cog_of step) n differ)

pub said-own : (step : Step) (r : Record) → said (cog_of step) (step ∷ r) ≡ says step
said-own step r = ap (λ (b : Bool). if b then says step else said (cog_of step) r) (own-test (cog_of step) (cog_of step) refl)

-- a true saying leaves all that was said true
pub say-truth : (w : World) (r : Record) (cog : ℕ) (next : Next) → IsTruthful w r → IsTrueOf w (turns r) cog next → IsTruthful w (Said cog next ∷ r)
say-truth w r cog next truth is n =
    elim (decided cog n) [
      | inl own ↦
          (let same : cog ≡ n = same-cog cog n own in
          subst (λ (m : ℕ). IsTrueOf w (turns r) m (said m (Said cog next ∷ r))) same
          (subst (λ (s : Next). IsTrueOf w (turns r) cog s) (sym (said-own (Said cog next) r)) is))
      | inr other ↦
          subst (λ (s : Next). IsTrueOf w (turns r) n s) (sym (said-beside (Said cog next) r n (differ-cog cog n other))) (truth n)
    ]

first-turn : (w : World) (n clock : ℕ) (origin : Origin) → first_turn_of (begun_at w n clock origin) ≡ clock
first-turn w n clock (Pasm code par) = refl
first-turn w n clock (Spin entry pbase vbase frame size) = refl

module _ (w : World) (past : List Turn) (turn : Turn) (extends : Extends asks w past turn) where
  -- nothing comes of a cog that was starting up to its first turn
  own-starting : (since : ℕ) (origin : Origin) → cog_state w past turn.key.cog ≡ Starting since origin → (turn.access ≡ first_access origin) → IsTrueOf w (turn ∷ past) turn.key.cog (More (turn.key.clock + 1))
  own-starting since origin state access =
      start-sits asks whatever (More (turn.key.clock + 1)) w past turn turn.key.cog refl since origin state access (λ room begin runs. (
        tt,
        λ clock next asked.
            let later = asked-first (begun_at w turn.key.cog turn.key.clock origin) clock next asked in
            let at : first_turn_of (begun_at w turn.key.cog turn.key.clock origin) ≡ turn.key.clock = first-turn w turn.key.cog turn.key.clock origin in
            omega arith,
      ))

  -- nor of one that was running
  own-running : (origin : Origin) → cog_state w past turn.key.cog ≡ Running origin → IsMade turn.access → IsNextRunning asks w past turn.key.cog turn.key.clock turn.access → IsTrueOf w (turn ∷ past) turn.key.cog (More (turn.key.clock + 1))
  own-running origin state made next =
      let sits : Sits asks (λ (b : Begun) (ts : List Turn). asks b ts next.earliest turn.access) (More 0) w past turn.key.cog = record {
        life = next.life;
        began = next.began;
        stood = next.asks;
        told = λ clock access asked. omega arith;
      } in
      own-sits asks (λ (b : Begun) (ts : List Turn). asks b ts next.earliest turn.access) whatever (More 0) (More (turn.key.clock + 1)) w past turn turn.key.cog refl made (λ b ts asked. tt)
      (λ b ts asked. λ clock access later.
      let after = asked-later b ts turn next.earliest clock turn.access access asked (refl, due-on_time w past turn.key.cog turn.access next.earliest turn.key.clock next.due) later in
      omega arith)
      (subst (λ (s : CogState). SitsIn asks (λ (b : Begun) (ts : List Turn). asks b ts next.earliest turn.access) (More 0) w past turn.key.cog s) (sym state) sits)

  own-by : (s : CogState) → cog_state w past turn.key.cog ≡ s → ((origin : Origin) → s ≡ Running origin → IsMade turn.access) → IsTrueOf w (turn ∷ past) turn.key.cog (More (turn.key.clock + 1))
  own-by Stopped state made = absurd (subst (λ (s : CogState). IsNextIn asks w past turn.key.cog s turn.key.clock turn.access) state extends.next.next)
  own-by (Starting since origin) state made =
      own-starting since origin state (subst (λ (s : CogState). IsNextIn asks w past turn.key.cog s turn.key.clock turn.access) state extends.next.next).1
  own-by (Running origin) state made =
      own-running origin state (made origin refl) (subst (λ (s : CogState). IsNextIn asks w past turn.key.cog s turn.key.clock turn.access) state extends.next.next)

-- a turn leaves all that was said true, and its own cog says nothing but that its next access comes later
pub take-truth : (w : World) (r : Record) (turn : Turn) → IsTruthful w r → Extends asks w (turns r) turn → ((origin : Origin) → cog_state w (turns r) turn.key.cog ≡ Running origin → IsMade turn.access) → IsTruthful w (Took turn ∷ r)
take-truth w r turn truth extends made n =
    elim (decided turn.key.cog n) [
      | inl own ↦
          (let same : turn.key.cog ≡ n = same-cog turn.key.cog n own in
          subst (λ (m : ℕ). IsTrueOf w (turn ∷ turns r) m (said m (Took turn ∷ r))) same
          (subst (λ (s : Next). IsTrueOf w (turn ∷ turns r) turn.key.cog s) (sym (said-own (Took turn) r))
          (own-by w (turns r) turn extends (cog_state w (turns r) turn.key.cog) refl made)))
      | inr other ↦
          (let differ = differ-cog turn.key.cog n other in
          subst (λ (s : Next). IsTrueOf w (turn ∷ turns r) n s) (sym (said-beside (Took turn) r n differ))
          (other-sits asks whatever (said n r) w (turns r) turn n differ (truth n)))
    ]

-- what isn't later is earlier or the same
apart : (a b : ℕ) → a ≤ b → (a < b) ⊎ (a ≡ b)
apart a b le = nat_apart a b (λ l. omega arith)

module _ (w : World) (r : Record) (n clock : ℕ) (access : Access) (next : IsNext asks w (turns r) n clock access) where
  bounded-by : (says : Next) (origin : Origin) → Sits asks whatever says w (turns r) n → IsNextRunning asks w (turns r) n clock access → (front : ℕ) × HasFrontBy w (turns r) n says front × (front ≤ clock)
  bounded-by (At earliest other) origin sits run = (clock, (access, next), omega arith)
  bounded-by Quiet origin sits run =
      let life : run.life ≡ sits.life = some-injective _ _ (sym run.began ∙ sits.began) in
      let far : w.clocks ≤ run.earliest = sits.told run.earliest access (subst (λ (b : Begun). asks b (since_begin (turns r) n) run.earliest access) life run.asks) in
      let on : run.earliest ≤ clock = due-late w (turns r) n access run.earliest clock run.due in
      let near : clock < w.clocks = next.below in
      absurd (omega arith)
  bounded-by (More bound) origin sits run =
      let life : run.life ≡ sits.life = some-injective _ _ (sym run.began ∙ sits.began) in
      let far : bound ≤ run.earliest = sits.told run.earliest access (subst (λ (b : Begun). asks b (since_begin (turns r) n) run.earliest access) life run.asks) in
      let on : run.earliest ≤ clock = due-late w (turns r) n access run.earliest clock run.due in
      let near : clock < w.clocks = next.below in
      (bound, (refl, omega arith), omega arith)

  bounded-in : (s : CogState) → cog_state w (turns r) n ≡ s → SitsIn asks whatever (said n r) w (turns r) n s → (front : ℕ) × HasFrontIn w (turns r) n s (said n r) front × (front ≤ clock)
  bounded-in Stopped state sits = absurd (subst (λ (s : CogState). IsNextIn asks w (turns r) n s clock access) state next.next)
  bounded-in (Starting since origin) state sits = (clock, (access, next), omega arith)
  bounded-in (Running origin) state sits =
      bounded-by (said n r) origin sits (subst (λ (s : CogState). IsNextIn asks w (turns r) n s clock access) state next.next)

  -- a cog whose next turn comes has a front that isn't later
  pub next-bounded : IsTrueOf w (turns r) n (said n r) → (front : ℕ) × HasFront w r n front × (front ≤ clock)
  next-bounded truth = bounded-in (cog_state w (turns r) n) refl truth

  -- so no next turn comes before the least front
  pub next-late : IsTruthful w r → (key : Key) → IsLeastFront w r key → Before (record { clock = clock; cog = n }) key → ⊥
  next-late truth key least before =
      let front = next-bounded (truth n) in
      let on : front.0 ≤ clock = front.2 in
      least.least n front.0 front.1 (elim before [
        | inl less ↦ inl (omega arith)
        | inr same ↦ elim (apart front.0 clock on) [ inl less ↦ inl (let e : clock ≡ key.clock = same.0 in omega arith) | inr e ↦ inr (e ∙ same.0, same.1) ]
      ])

  -- and none where there is no front
  pub next-none : IsTruthful w r → NoFront w r → ⊥
  next-none truth none = let front = next-bounded (truth n) in none n front.0 front.1

-- where no cog has a front the history is over
pub none-over : (w : World) (r : Record) → IsTruthful w r → NoFront w r → IsOver asks w (turns r)
none-over w r truth none = inr (λ n clock access next. next-none w r n clock access next truth none)

-- the least front, where it is a cog's next access, is the turn that comes next
pub least-extends : (w : World) (r : Record) (turn : Turn) → IsTruthful w r → length (turns r) < w.turns → IsLeastFront w r turn.key → IsNext asks w (turns r) turn.key.cog turn.key.clock turn.access → turn.answer ≡ answer_to w (turns r) turn.key turn.access → Extends asks w (turns r) turn
least-extends w r turn truth room least next answer = record {
  room = room;
  next = next;
  answer = answer;
  least = λ n clock access other before. next-late w r n clock access other truth turn.key least before;
}

-- a record that goes on has no fewer steps of a cog
mine-grows : (n : ℕ) (more early : Record) → length (mine n early) ≤ length (mine n (more ++ early))
mine-grows n [] early = omega arith
mine-grows n (step ∷ more) early = grown (cog_of step == n) (mine-grows n more early) where
  grown : (b : Bool) → length (mine n early) ≤ length (mine n (more ++ early)) → length (mine n early) ≤ length (if b then step ∷ mine n (more ++ early) else mine n (more ++ early))
  grown true le = omega arith
  grown false le = le

-- a step that leaves a cog's own steps as they were is another cog's
step-beside : (n : ℕ) (step : Step) (more early : Record) (b : Bool) → (cog_of step == n) ≡ b → (if b then step ∷ mine n (more ++ early) else mine n (more ++ early)) ≡ mine n early → (cog_of step ≡ n → ⊥) × (mine n (more ++ early) ≡ mine n early)
step-beside n step more early true is same =
    let grows = mine-grows n more early in
    let count : length (step ∷ mine n (more ++ early)) ≡ length (mine n early) = ap length same in
    absurd (omega arith)
step-beside n step more early false is same = (differ-cog (cog_of step) n is, same)

module _ (stands : Begun → List Turn → Type 0) (next : Next) (w : World) (n : ℕ) where
  one-beside : (step : Step) (r : Record) → (cog_of step ≡ n → ⊥) → SitsIn asks stands next w (turns r) n (cog_state w (turns r) n) → SitsIn asks stands next w (turns (step ∷ r)) n (cog_state w (turns (step ∷ r)) n)
  one-beside (Took turn) r differ sits = other-sits asks stands next w (turns r) turn n differ sits
  one-beside (Said cog other) r differ sits = sits

  more-beside : (more early : Record) → mine n (more ++ early) ≡ mine n early → SitsIn asks stands next w (turns early) n (cog_state w (turns early) n) → SitsIn asks stands next w (turns (more ++ early)) n (cog_state w (turns (more ++ early)) n)
  more-beside [] early same sits = sits
  more-beside (step ∷ more) early same sits =
      let own = step-beside n step more early (cog_of step == n) refl same in
      one-beside step (more ++ early) own.0 (more-beside more early own.1 sits)

-- what is kept of a life stays right while only other cogs make steps
pub beside-sits : (stands : Begun → List Turn → Type 0) (next : Next) (w : World) (early late : Record) (n : ℕ) → Begins early late → mine n late ≡ mine n early → SitsIn asks stands next w (turns early) n (cog_state w (turns early) n) → SitsIn asks stands next w (turns late) n (cog_state w (turns late) n)
beside-sits stands next w early late n begins same sits =
    subst (λ (l : Record). SitsIn asks stands next w (turns l) n (cog_state w (turns l) n)) begins.1
    (more-beside stands next w n begins.0 early (ap (mine n) begins.1 ∙ same) sits)
