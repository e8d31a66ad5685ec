-- The first key is the least front.
use Rattle.std.proofs.Common.{◌≡◌, ◌∙◌, sym, subst, refl, ℕ, ◌<◌, ◌≤◌, arith, inl, None}
use Rattle.p8_access.specs.declared.kinds.Access.{Access}
use Rattle.p8_access.specs.declared.kinds.Origin.{Origin}
use Rattle.p8_access.specs.declared.lives.Next.{Next}
use Rattle.p8_access.specs.declared.lives.Next.TheVariants.{At, Quiet, More}
use Rattle.p8_access.specs.declared.order.Key.{Key}
use Rattle.p8_access.specs.Lives.{Begun, Tells}
use Rattle.p8_access.specs.Windows.{Before}
use Rattle.p8_access.specs.declared.states.CogState.{CogState}
use Rattle.p8_access.specs.declared.states.CogState.TheVariants.{Stopped, Starting, Running}
use Rattle.p8_access.specs.Worlds.{World}
use Rattle.p8_access.specs.Hub.{cog_state}
use Rattle.p8_access.specs.Histories.{IsDue, IsNextIn, IsNextRunning, first_access, since_begin}
use Rattle.p8_access.proofs.Nexts.{some-injective}
use Rattle.p8_cog.specs.Lives.{asks}
use Rattle.p8_cog.specs.Laws.{one-asked}
use Rattle.p8_ledger.specs.Seats.{Sits, SitsIn}
use Rattle.p8_ledger.specs.Records.{Record, turns, said, whatever, IsTrueOf, IsTruthful, HasFront, HasFrontBy, HasFrontIn, IsLeastFront, NoFront}
use Rattle.p8_ledger.specs.Coming.{MayRun, MayComeIn, MayCome, IsFirstKey}
use Rattle.p8_ledger.proofs.Coming.{due-may, may-due}

module _ (w : World) (r : Record) (n clock : ℕ) (origin : Origin) (sits : Sits asks whatever (said n r) w (turns r) n) where
  -- the next access of a running cog that has told it
  pub told-next : (earliest : ℕ) (access : Access) → said n r ≡ At earliest access → (other : Access) → IsNextRunning asks w (turns r) n clock other → (other ≡ access) × IsDue w (turns r) n access earliest clock
  told-next earliest access is other next =
      let told = subst (λ (s : Next). Tells (asks sits.life (since_begin (turns r) n)) w.clocks s) is sits.told in
      let life : next.life ≡ sits.life = some-injective _ _ (sym next.began ∙ sits.began) in
      let asked = subst (λ (b : Begun). asks b (since_begin (turns r) n) next.earliest other) life next.asks in
      let same = one-asked sits.life (since_begin (turns r) n) next.earliest earliest other access asked told.0 in
      (same.1, subst (λ (a : Access). IsDue w (turns r) n a earliest clock) same.1 (subst (λ (e : ℕ). IsDue w (turns r) n other e clock) same.0 next.due))

  front-run : (next : Next) → said n r ≡ next → cog_state w (turns r) n ≡ Running origin → HasFrontBy w (turns r) n next clock → MayRun w (turns r) n next clock × (clock < w.clocks)
  front-run (At earliest access) is state front =
      let told = told-next earliest access is front.0 (subst (λ (s : CogState). IsNextIn asks w (turns r) n s clock front.0) state front.1.next) in
      (due-may w (turns r) n access earliest clock told.1, front.1.below)
  front-run Quiet is state front = absurd front
  front-run (More bound) is state front = (front.0, omega arith)

  run-front : (next : Next) → said n r ≡ next → cog_state w (turns r) n ≡ Running origin → MayRun w (turns r) n next clock → clock < w.clocks → ((u : ℕ) → u < clock → MayRun w (turns r) n next u → ⊥) → HasFrontBy w (turns r) n next clock
  run-front (At earliest access) is state may below first =
      let told = subst (λ (s : Next). Tells (asks sits.life (since_begin (turns r) n)) w.clocks s) is sits.told in
      let next : IsNextRunning asks w (turns r) n clock access = record {
        life = sits.life;
        began = sits.began;
        earliest = earliest;
        asks = told.0;
        due = may-due w (turns r) n access earliest clock may first;
      } in
      (access, record { next = subst (λ (s : CogState). IsNextIn asks w (turns r) n s clock access) (sym state) next; below = below })
  run-front Quiet is state may below first = absurd may
  run-front (More bound) is state may below first = (may, (let here : clock ≡ bound = may in omega arith))

module _ (w : World) (r : Record) (n : ℕ) where
  front-in : (clock : ℕ) (s : CogState) → cog_state w (turns r) n ≡ s → SitsIn asks whatever (said n r) w (turns r) n s → HasFrontIn w (turns r) n s (said n r) clock → MayComeIn w (turns r) n s (said n r) clock × (clock < w.clocks)
  front-in clock Stopped state sits front = absurd front
  front-in clock (Starting since origin) state sits front =
      ((subst (λ (s : CogState). IsNextIn asks w (turns r) n s clock front.0) state front.1.next).0, front.1.below)
  front-in clock (Running origin) state sits front = front-run w r n clock origin sits (said n r) refl state front

  -- a front is a clock at which it may come
  front-may : IsTrueOf w (turns r) n (said n r) → (clock : ℕ) → HasFront w r n clock → MayCome w r n clock
  front-may truth clock front =
      let may = front-in clock (cog_state w (turns r) n) refl truth front in
      record { may = may.0; below = may.1 }

  in-front : (clock : ℕ) (s : CogState) → cog_state w (turns r) n ≡ s → SitsIn asks whatever (said n r) w (turns r) n s → MayComeIn w (turns r) n s (said n r) clock → clock < w.clocks → ((u : ℕ) → u < clock → MayComeIn w (turns r) n s (said n r) u → ⊥) → HasFrontIn w (turns r) n s (said n r) clock
  in-front clock Stopped state sits may below first = absurd may
  in-front clock (Starting since origin) state sits may below first =
      (first_access origin, record { next = subst (λ (s : CogState). IsNextIn asks w (turns r) n s clock (first_access origin)) (sym state) (may, refl); below = below })
  in-front clock (Running origin) state sits may below first = run-front w r n clock origin sits (said n r) refl state may below first

  -- and the first such clock is a front
  may-front : IsTrueOf w (turns r) n (said n r) → (clock : ℕ) → MayCome w r n clock → ((u : ℕ) → u < clock → MayCome w r n u → ⊥) → HasFront w r n clock
  may-front truth clock comes first =
      in-front clock (cog_state w (turns r) n) refl truth comes.may comes.below (λ u less may. first u less (record { may = may; below = (let below : clock < w.clocks = comes.below in omega arith) }))

module _ (w : World) (r : Record) (truth : IsTruthful w r) (key : Key) (first : IsFirstKey w r None key) where
  -- nothing comes before the first key
  front-late : (n clock : ℕ) → HasFront w r n clock → Before (record { clock = clock; cog = n }) key → ⊥
  front-late n clock front before = first.first n clock tt (front-may w r n (truth n) clock front) before

  -- the first key is the least front
  pub first-front : key.clock < w.clocks → IsLeastFront w r key
  first-front near = record {
    there = may-front w r key.cog (truth key.cog) key.clock (first.comes near) (λ u less comes. first.first key.cog u tt comes (inl less));
    least = front-late;
  }

  -- or there is none
  pub no-front : w.clocks ≤ key.clock → NoFront w r
  no-front far n clock front =
      front-late n clock front (inl (let comes = front-may w r n (truth n) clock front in let near : clock < w.clocks = comes.below in omega arith))
