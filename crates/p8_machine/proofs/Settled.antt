-- The lives after the turn that comes next.
use Rattle.std.proofs.Common.{◌≡◌, ◌∙◌, sym, subst, refl, ℕ, ◌+◌, ◌<◌, Bool, true, false, List, [], ◌∷◌, Some, slice_get, inl, inr, arith}
use Rattle.p8_access.specs.declared.kinds.Origin.{Origin}
use Rattle.p8_access.specs.declared.kinds.Origin.TheVariants.{Pasm, Spin}
use Rattle.p8_access.specs.declared.lives.Next.{Next}
use Rattle.p8_access.specs.declared.order.Turn.{Turn}
use Rattle.p8_access.specs.Windows.{IsWindow, window_of}
use Rattle.p8_access.specs.Proper.{IsProperOrigin}
use Rattle.p8_access.specs.Lives.{Begun, Tells, IsMade}
use Rattle.p8_access.specs.declared.states.CogState.{CogState}
use Rattle.p8_access.specs.declared.states.CogState.TheVariants.{Stopped, Starting, Running}
use Rattle.p8_access.specs.Worlds.{World}
use Rattle.p8_access.specs.Hub.{cog_state, origin_of}
use Rattle.p8_access.specs.Histories.{begun_at, IsNextIn}
use Rattle.p8_access.proofs.Changes.{decided, same-cog, differ-cog}
use Rattle.p8_cog.specs.declared.cog_life.CogLife.{CogLife}
use Rattle.p8_cog.specs.Lives.{asks, IsStartable}
use Rattle.p8_ledger.specs.declared.ledger.Ledger.{Ledger}
use Rattle.p8_ledger.specs.declared.steps.Step.TheVariants.{Took, Said}
use Rattle.p8_ledger.specs.Seats.{SitsIn}
use Rattle.p8_ledger.specs.Standing.{FitsState}
use Rattle.p8_ledger.specs.Records.{Record, turns, said, whatever, IsTrueOf}
use Rattle.p8_ledger.specs.Ledgers.{Found}
use Rattle.p8_ledger.proofs.Seating.{other-sits, own-sits}
use Rattle.p8_ledger.proofs.Settling.{HasRoom, idle-sits, start-sits}
use Rattle.p8_ledger.proofs.Telling.{said-own, said-beside}
use Rattle.p8_machine.specs.Places.{SameBut, Begins, Takes}
use Rattle.p8_machine.specs.Standing.{has_spoken, Stands, Comes}

is-starting : (s : CogState) → FitsState false s → (since : ℕ) × (origin : Origin) × (s ≡ Starting since origin)
is-starting (Starting since origin) fits = (since, origin, refl)
is-starting (Running origin) fits = absurd fits
is-starting Stopped fits = absurd fits

-- the first window of a cog from a clock on is a window of it
window-is : (n from : ℕ) → n < 8 → IsWindow n (window_of n from)
window-is n from near = omega arith

-- a well-formed origin whose longs stand below $8000 is one that a life can begin with
startable : (origin : Origin) → IsProperOrigin origin → HasRoom origin → IsStartable origin
startable (Pasm code par) proper room = (proper.0.0, omega arith)
startable (Spin entry pbase vbase frame size) proper room = proper

same-origin : (a b : Origin) → Running a ≡ Running b → a ≡ b
same-origin a b e = cc

same-life : (a b : CogLife) → Some a ≡ Some b → a ≡ b
same-life a b e = cc

-- what is true of a cog's life is true whatever the life is
sits-any : (stands : Begun → List Turn → Type 0) (next : Next) (w : World) (past : List Turn) (n : ℕ) (s : CogState) → SitsIn asks stands next w past n s → SitsIn asks whatever next w past n s
sits-any stands next w past n Stopped sits = tt
sits-any stands next w past n (Starting since origin) sits = tt
sits-any stands next w past n (Running origin) sits = record { life = sits.life; began = sits.began; stood = tt; told = sits.told }

module _ (w : World) (r : Record) (ledger : Ledger) (old : List CogLife) (turn : Turn) (running : Bool) (comes : Comes w r ledger old turn running) (near : turn.key.cog < 8) where
  -- the lives of other cogs
  beside : (n : ℕ) (life : CogLife) → (n ≡ turn.key.cog → ⊥) → slice_get old n ≡ Some life → SitsIn asks (has_spoken life (said n (Took turn ∷ r))) (said n (Took turn ∷ r)) w (turn ∷ turns r) n (cog_state w (turn ∷ turns r) n)
  beside n life differ at =
      subst (λ (s : Next). SitsIn asks (has_spoken life s) s w (turn ∷ turns r) n (cog_state w (turn ∷ turns r) n)) (sym (said-beside (Took turn) r n (λ e. differ (sym e))))
      (other-sits asks (has_spoken life (said n r)) (said n r) w (turns r) turn n (λ e. differ (sym e)) (comes.seated n life at))

  -- where the turn's cog doesn't run after it
  pub idle-stands : ((origin : Origin) → cog_state w (turn ∷ turns r) turn.key.cog ≡ Running origin → ⊥) → Stands w (Took turn ∷ r) ledger old
  idle-stands idle = record {
    found = comes.found;
    seated = λ n life at. elim (decided n turn.key.cog) [
      | inl is ↦
          subst (λ (m : ℕ). SitsIn asks (has_spoken life (said m (Took turn ∷ r))) (said m (Took turn ∷ r)) w (turn ∷ turns r) m (cog_state w (turn ∷ turns r) m)) (sym (same-cog n turn.key.cog is))
          (idle-sits asks (has_spoken life (said turn.key.cog (Took turn ∷ r))) (said turn.key.cog (Took turn ∷ r)) w (turns r) turn turn.key.cog (cog_state w (turn ∷ turns r) turn.key.cog) (λ origin runs. absurd (idle origin runs)))
      | inr other ↦ beside n life (differ-cog n turn.key.cog other) at
    ];
  }

  module _ (origin : Origin) (state : cog_state w (turn ∷ turns r) turn.key.cog ≡ Running origin) (new : List CogLife) (next : Next) (same : SameBut turn.key.cog old new) (life : CogLife) (there : slice_get new turn.key.cog ≡ Some life) (before : CogLife) (was : slice_get old turn.key.cog ≡ Some before) (made : running ≡ true → IsMade turn.access) (takes : running ≡ true → Takes asks before life turn w.clocks next) (begins : running ≡ false → IsStartable origin → IsWindow turn.key.cog turn.key.clock → Begins asks life (begun_at w turn.key.cog turn.key.clock origin) w.clocks next) where
    own-by : (b : Bool) → running ≡ b → SitsIn asks (has_spoken life next) next w (turn ∷ turns r) turn.key.cog (cog_state w (turn ∷ turns r) turn.key.cog)
    own-by true is =
        let took = takes is in
        own-sits asks (has_spoken before (said turn.key.cog r)) (has_spoken life next) (said turn.key.cog r) next w (turns r) turn turn.key.cog refl (made is) (λ b ts stood. (took.keeps b ts stood.0, took.spoken)) (λ b ts stood. took.tells b ts stood.0) (comes.seated turn.key.cog before was)
    own-by false is =
        let fits = subst (λ (b : Bool). FitsState b (cog_state w (turns r) turn.key.cog)) is comes.fits in
        let starts = is-starting (cog_state w (turns r) turn.key.cog) fits in
        let first = subst (λ (s : CogState). IsNextIn asks w (turns r) turn.key.cog s turn.key.clock turn.access) starts.2 comes.extends.next.next in
        let window : IsWindow turn.key.cog turn.key.clock = subst (λ (c : ℕ). IsWindow turn.key.cog c) (sym first.0) (window-is turn.key.cog (starts.0 + 1) near) in
        let proper : IsProperOrigin starts.1 = subst (λ (s : CogState). IsProperOrigin (origin_of s)) starts.2 (comes.origins turn.key.cog) in
        start-sits asks (has_spoken life next) next w (turns r) turn turn.key.cog refl starts.0 starts.1 starts.2 first.1 (λ room begin runs.
        let origin_is : origin ≡ starts.1 = same-origin origin starts.1 (sym state ∙ runs) in
        let begun = begins is (subst IsStartable (sym origin_is) (startable starts.1 proper room)) window in
        subst (λ (o : Origin). has_spoken life next (begun_at w turn.key.cog turn.key.clock o) [] × Tells (asks (begun_at w turn.key.cog turn.key.clock o) []) w.clocks next) origin_is ((begun.stands, begun.spoken), begun.tells))

    own : SitsIn asks (has_spoken life next) next w (turn ∷ turns r) turn.key.cog (cog_state w (turn ∷ turns r) turn.key.cog)
    own = own-by running refl

    -- what the cog says is true
    pub own-true : IsTrueOf w (turn ∷ turns r) turn.key.cog next
    own-true = sits-any (has_spoken life next) next w (turn ∷ turns r) turn.key.cog (cog_state w (turn ∷ turns r) turn.key.cog) own

    -- where the turn's cog runs after it and has said what its life tells
    pub said-stands : (after : Ledger) → Found w after (Said turn.key.cog next ∷ Took turn ∷ r) → Stands w (Said turn.key.cog next ∷ Took turn ∷ r) after new
    said-stands after found = record {
      found = found;
      seated = λ n l at. elim (decided n turn.key.cog) [
        | inl is ↦
            (let n_is : n ≡ turn.key.cog = same-cog n turn.key.cog is in
            let here : slice_get new turn.key.cog ≡ Some l = subst (λ (m : ℕ). slice_get new m ≡ Some l) n_is at in
            let l_is : l ≡ life = same-life l life (sym here ∙ there) in
            subst (λ (m : ℕ). SitsIn asks (has_spoken l (said m (Said turn.key.cog next ∷ Took turn ∷ r))) (said m (Said turn.key.cog next ∷ Took turn ∷ r)) w (turn ∷ turns r) m (cog_state w (turn ∷ turns r) m)) (sym n_is)
            (subst (λ (s : Next). SitsIn asks (has_spoken l s) s w (turn ∷ turns r) turn.key.cog (cog_state w (turn ∷ turns r) turn.key.cog)) (sym (said-own (Said turn.key.cog next) (Took turn ∷ r)))
            (subst (λ (x : CogLife). SitsIn asks (has_spoken x next) next w (turn ∷ turns r) turn.key.cog (cog_state w (turn ∷ turns r) turn.key.cog)) (sym l_is) own)))
        | inr other ↦
            (let differ = differ-cog n turn.key.cog other in
            subst (λ (s : Next). SitsIn asks (has_spoken l s) s w (turn ∷ turns r) n (cog_state w (turn ∷ turns r) n)) (sym (said-beside (Said turn.key.cog next) (Took turn ∷ r) n (λ e. differ (sym e))))
            (beside n l differ (same n l differ at)))
      ];
    }
