-- A runner after its life has run, and after it has taken a turn.
use Rattle.std.proofs.Common.{◌≡◌, ◌∙◌, ap, sym, subst, refl, ℕ, ◌+◌, ◌-◌, ◌*◌, ◌==◌, ◌<◌, ◌≤◌, List, [], ◌∷◌, ◌++◌, Bool, true, false, Option, Some, None, arith, if◌then◌else◌}
use Rattle.p8_access.specs.declared.kinds.Origin.{Origin}
use Rattle.p8_access.specs.declared.kinds.Origin.TheVariants.{Pasm, Spin}
use Rattle.p8_access.specs.declared.kinds.Reason.TheVariants.{Rom}
use Rattle.p8_access.specs.Windows.{IsWindow, window_of}
use Rattle.p8_access.specs.Proper.{IsProperOrigin}
use Rattle.std.proofs.lemmas.Bool.Decides.{nat_tests}
use Rattle.std.specs.Prelude.{nat_le}
use Rattle.p8_access.specs.declared.kinds.Access.{Access}
use Rattle.p8_access.specs.declared.kinds.Access.TheVariants.{Begin, Load, Read, Write, CogId, CogInit, CogStop, LockNew, LockRet, LockSet, LockClr, ClkSet, PinsIn, OutSet, DirSet, Wait, Clock, Halt}
use Rattle.p8_access.specs.declared.kinds.Answer.{Answer}
use Rattle.p8_access.specs.declared.order.Turn.{Turn}
use Rattle.p8_access.specs.declared.lives.Next.{Next}
use Rattle.p8_access.specs.declared.lives.Next.TheVariants.{At, Quiet, More}
use Rattle.p8_access.specs.Lives.{Begun, Tells, IsMade, IsMadeNext, announced_by, IsAnnounced, Spends, has_ended, is_last, IsWithin}
use Rattle.p8_access.specs.declared.states.CogState.{CogState}
use Rattle.p8_access.specs.declared.states.CogState.TheVariants.{Stopped, Starting, Running}
use Rattle.p8_access.specs.Worlds.{World}
use Rattle.p8_access.specs.Hub.{Change, Starts, Runs, Stops, change_by, change_of, changed, cog_state, origin_of}
use Rattle.p8_access.specs.Histories.{begins_life, begun_at, since_begin, first_access, IsNextIn}
use Rattle.p8_access.proofs.Changes.{runs-begins, since_begin-new, since_begin-own, since_begin-other}
use Rattle.p8_cog.specs.declared.cog_life.CogLife.{CogLife}
use Rattle.p8_cog.specs.declared.life_kind.LifeKind.{LifeKind}
use Rattle.p8_cog.specs.declared.life_kind.LifeKind.TheVariants.{Pasm as OfPasm, Spin as OfSpin}
use Rattle.p8_cog.specs.Kinds.{number_of}
use Rattle.p8_cog.specs.Laws.{asked-first, asked-later}
use Rattle.p8_cog.specs.Lives.{asks, begun_by, IsStartable}
use Rattle.p8_cog.specs.WholeLives as Life
use Rattle.p8_ledger.specs.Seats.{SitsIn}
use Rattle.p8_ledger.specs.Standing.{FitsState}
use Rattle.p8_ledger.proofs.Seating.{own-sits}
use Rattle.p8_ledger.proofs.Settling.{start-sits, begun-same}
use Rattle.p8_ledger.specs.declared.steps.Step.TheVariants.{Took, Said}
use Rattle.p8_ledger.specs.Records.{Record, turns, said}
use Rattle.p8_desk.specs.declared.runner.Runner.{Runner}
use Rattle.p8_desk.specs.Runners.{reached_in, pace_in, stride_in, most_in, place_in, Lives, Rides, Comes, GoesOnFrom, IsNear, HasTaken}
use Rattle.p8_cog.specs.WholeLives.{announced_in}
use Rattle.p8_desk.specs.Tries.{GoesOn}
use Rattle.p8_desk.proofs.Lookups.{test-same}
use Rattle.p8_desk.proofs.Riding.{nothing-runs}

-- a runner in which nothing has begun
pub rides-new : (w : World) (n : ℕ) (runner : Runner) → Life.cog_of runner.life ≡ n → runner.next ≡ More 0 → runner.said ≡ true → Rides w n [] runner
rides-new w n runner cog next said_is = record {
  cog = cog;
  made = subst IsMadeNext (sym next) tt;
  said_last = λ _. sym next;
  owed = λ s. absurd (differ (sym said_is ∙ s));
  sits = nothing-runs w n (Lives w.clocks runner (More 0)) runner.next;
}
  where
    differ : true ≡ false → ⊥
    differ e = cc

-- a cog that runs has a life that goes on
kept-running : (n : ℕ) (turn : Turn) (state : CogState) (change : Option Change) (origin : Origin) → change_of n turn ≡ change → begins_life n turn ≡ false → changed state change ≡ Running origin → (change ≡ None) × (state ≡ Running origin)
kept-running n turn state None origin e begins is = (refl, is)
kept-running n turn state (Some (Starts since other)) origin e begins is = absurd (cc)
kept-running n turn state (Some Stops) origin e begins is = absurd (cc)
kept-running n turn state (Some Runs) origin e begins is = absurd (differ (sym begins ∙ runs-begins n turn.key.clock turn.key.cog turn.access turn.answer e))
  where
    differ : false ≡ true → ⊥
    differ e = cc

last-stops : (n clock cog : ℕ) (access : Access) (answer : Answer) → (cog == n) ≡ true → is_last n access ≡ true → change_by n clock cog access answer ≡ Some Stops
last-stops n clock cog (Halt reason) answer own e = rw own refl
last-stops n clock cog (CogStop target) answer own e = rw e refl
last-stops n clock cog Begin answer own e = absurd (cc)
last-stops n clock cog Load answer own e = absurd (cc)
last-stops n clock cog (Read width address) answer own e = absurd (cc)
last-stops n clock cog (Write width address value) answer own e = absurd (cc)
last-stops n clock cog CogId answer own e = absurd (cc)
last-stops n clock cog (CogInit target o) answer own e = absurd (cc)
last-stops n clock cog LockNew answer own e = absurd (cc)
last-stops n clock cog (LockRet lock) answer own e = absurd (cc)
last-stops n clock cog (LockSet lock) answer own e = absurd (cc)
last-stops n clock cog (LockClr lock) answer own e = absurd (cc)
last-stops n clock cog (ClkSet mode) answer own e = absurd (cc)
last-stops n clock cog PinsIn answer own e = absurd (cc)
last-stops n clock cog (OutSet value) answer own e = absurd (cc)
last-stops n clock cog (DirSet value) answer own e = absurd (cc)
last-stops n clock cog (Wait test) answer own e = absurd (cc)
last-stops n clock cog Clock answer own e = absurd (cc)

ended-behind : (n : ℕ) (ts : List Turn) (turn : Turn) → has_ended n ts ≡ false → is_last n turn.access ≡ false → has_ended n (ts ++ turn ∷ []) ≡ false
ended-behind n [] turn e last = rw last refl
ended-behind n (x ∷ ts) turn e last = by-last (ended-behind n ts turn) (is_last n x.access) refl
  where
    by-last : (has_ended n ts ≡ false → is_last n turn.access ≡ false → has_ended n (ts ++ turn ∷ []) ≡ false) → (b : Bool) → is_last n x.access ≡ b → has_ended n ((x ∷ ts) ++ turn ∷ []) ≡ false
    by-last more true b = absurd (differ (sym (rw b at e)))
      where
        differ : false ≡ true → ⊥
        differ e = cc
    by-last more false b = rw b (more (rw b at e) last)

pub lives-on : (w : World) (past : List Turn) (n : ℕ) (origin : Origin) → cog_state w past n ≡ Running origin → has_ended n (since_begin past n) ≡ false
lives-on w [] n origin runs = refl
lives-on w (turn ∷ past) n origin runs = by-begin (lives-on w past n origin) (begins_life n turn) refl
  where
    by-own : (cog_state w past n ≡ Running origin → has_ended n (since_begin past n) ≡ false) → begins_life n turn ≡ false → (b : Bool) → (turn.key.cog == n) ≡ b → has_ended n (since_begin (turn ∷ past) n) ≡ false
    by-own more begins true own =
        let k = kept-running n turn (cog_state w past n) (change_of n turn) origin refl begins runs in
        by-last more begins own k (is_last n turn.access) refl
      where
        by-last : (cog_state w past n ≡ Running origin → has_ended n (since_begin past n) ≡ false) → begins_life n turn ≡ false → (turn.key.cog == n) ≡ true → (change_of n turn ≡ None) × (cog_state w past n ≡ Running origin) → (b : Bool) → is_last n turn.access ≡ b → has_ended n (since_begin (turn ∷ past) n) ≡ false
        by-last more begins own k true last = absurd (differ (sym k.0 ∙ last-stops n turn.key.clock turn.key.cog turn.access turn.answer own last))
          where
            differ : None ≡ Some Stops → ⊥
            differ e = cc
        by-last more begins own k false last = subst (λ (ts : List Turn). has_ended n ts ≡ false) (sym (since_begin-own w past turn n begins own)) (ended-behind n (since_begin past n) turn (more k.1) last)
    by-own more begins false other =
        let k = kept-running n turn (cog_state w past n) (change_of n turn) origin refl begins runs in
        subst (λ (ts : List Turn). has_ended n ts ≡ false) (sym (since_begin-other w past turn n begins other)) (more k.1)

    by-begin : (cog_state w past n ≡ Running origin → has_ended n (since_begin past n) ≡ false) → (b : Bool) → begins_life n turn ≡ b → has_ended n (since_begin (turn ∷ past) n) ≡ false
    by-begin more true begins = subst (λ (ts : List Turn). has_ended n ts ≡ false) (sym (since_begin-new w past turn n begins)) refl
    by-begin more false begins = by-own more begins (turn.key.cog == n) refl

-- what a life told in one run
pub record Ran (limit : ℕ) (old new : CogLife) (next : Next) : Type 0 where
  pub keeps : (b : Begun) (ts : List Turn) → Life.stands_for old b ts → Life.stands_for new b ts
  pub tells : (b : Begun) (ts : List Turn) → Life.stands_for old b ts → Tells (asks b ts) limit next
  pub made : IsMadeNext next
  pub cog : Life.cog_of new ≡ Life.cog_of old
  pub announced : announced_in new ≡ announced_by next
  pub spends : Spends (place_in old) (place_in new) (reached_in old) (reached_in new) (pace_in old) limit 1024 next
  pub forward : place_in old ≤ place_in new
  pub budget : place_in new ≤ place_in old + 1024
  pub strides : reached_in new ≤ reached_in old + stride_in old * (place_in new - place_in old)
  pub far : (b : Begun) (ts : List Turn) → Life.stands_for old b ts → has_ended (Life.cog_of old) ts ≡ false → IsWithin (reached_in old + stride_in old * 1024 + 16) limit next
  pub same_pace : pace_in new ≡ pace_in old
  pub same_stride : stride_in new ≡ stride_in old

-- numbers of a life by its kind
paced : (kind : LifeKind) → 1 ≤ number_of kind 4 32
paced OfPasm = omega arith
paced OfSpin = omega arith

strides-most : (kind : LifeKind) (d : ℕ) → d ≤ 1024 → number_of kind 8 544 * d ≤ 1024 * number_of kind 8 544
strides-most OfPasm d le = omega arith
strides-most OfSpin d le = omega arith

goes : (kind : LifeKind) (place new reached now limit old : ℕ) (next : Next) → old ≤ reached + 1 → reached ≤ old + 8192 → place ≤ new → new ≤ place + 1024
    → Spends place new reached now (number_of kind 4 32) limit 1024 next → now ≤ reached + number_of kind 8 544 * (new - place)
    → IsWithin (reached + number_of kind 8 544 * 1024 + 16) limit next
    → GoesOn (number_of kind 4 32) (8192 + 1024 * number_of kind 8 544 + 16) limit old next
goes kind place new reached now limit old (At clock access) low high forward budget spends stride within = omega (arith, within)
goes kind place new reached now limit old Quiet low high forward budget spends stride within = omega (arith, within)
goes kind place new reached now limit old (More bound) low high forward budget spends stride within =
    let most = strides-most kind (new - place) (omega arith) in
    let one = paced kind in
    let is : bound ≡ now = spends.2 in
    let far : reached + number_of kind 4 32 * 1024 ≤ bound = spends.1 in
    (omega arith, omega arith)

near-after : (kind : LifeKind) (place new reached now limit : ℕ) (next : Next) → Spends place new reached now (number_of kind 4 32) limit 1024 next → IsNear now next
near-after kind place new reached now limit (At clock access) spends = tt
near-after kind place new reached now limit Quiet spends = tt
near-after kind place new reached now limit (More bound) spends = let is : bound ≡ now = spends.2 in (omega arith, omega arith)

module _ (limit : ℕ) (old new : Runner) (bound : ℕ) (was_said : old.said ≡ true) (promised : old.next ≡ More bound) (unsaid : new.said ≡ false) (ran : Ran limit old.life new.life new.next) where
  lives-found : (n : ℕ) (last : Next) (b : Begun) (ts : List Turn) → last ≡ More bound → Life.cog_of old.life ≡ n → has_ended n ts ≡ false → Lives limit old last b ts → Lives limit new last b ts
  lives-found n last b ts is cog alive lives =
      let near : IsNear (reached_in old.life) (More bound) = subst (λ (x : Next). IsNear (reached_in old.life) x) promised lives.near in
      let alive' = subst (λ (m : ℕ). has_ended m ts ≡ false) (sym cog) alive in
      let on : GoesOn (pace_in old.life) (most_in old.life) limit bound new.next =
      goes old.life.kind (place_in old.life) (place_in new.life) (reached_in old.life) (reached_in new.life) limit bound new.next near.0 near.1 ran.forward ran.budget ran.spends ran.strides (ran.far b ts lives.stood alive') in
      record {
        stood = ran.keeps b ts lives.stood;
        told = ran.tells b ts lives.stood;
        announced = ran.announced;
        near = near-after old.life.kind (place_in old.life) (place_in new.life) (reached_in old.life) (reached_in new.life) limit new.next ran.spends;
        goes_on = λ _. subst (λ (x : Next). GoesOnFrom (pace_in new.life) (most_in new.life) limit x new.next) (sym is)
            (subst (λ (y : ℕ × ℕ). GoesOn y.0 (8192 + 1024 * y.1 + 16) limit bound new.next) (λ i. (sym ran.same_pace i, sym ran.same_stride i)) on);
      }

  pub rides-found : (w : World) (n : ℕ) (r : Record) → w.clocks ≡ limit → Rides w n r old → Rides w n r new
  rides-found w n r limit_is rides =
      let last : said n r ≡ More bound = rides.said_last was_said ∙ promised in record {
        cog = ran.cog ∙ rides.cog;
        made = ran.made;
        said_last = λ s. absurd (differ (sym s ∙ unsaid));
        owed = λ _. (bound, last);
        sits = by-state last (cog_state w (turns r) n) refl rides.sits;
      }
    where
      differ : true ≡ false → ⊥
      differ e = cc

      by-state : said n r ≡ More bound → (state : CogState) → cog_state w (turns r) n ≡ state → SitsIn asks (Lives w.clocks old (said n r)) old.next w (turns r) n state → SitsIn asks (Lives w.clocks new (said n r)) new.next w (turns r) n state
      by-state last Stopped is sits = tt
      by-state last (Starting since origin) is sits = tt
      by-state last (Running origin) is sits =
          let alive = lives-on w (turns r) n origin is in
          let now : Lives w.clocks new (said n r) sits.life (since_begin (turns r) n) =
          subst (λ (l : ℕ). Lives l new (said n r) sits.life (since_begin (turns r) n)) (sym limit_is)
          (lives-found n (said n r) sits.life (since_begin (turns r) n) last rides.cog alive (subst (λ (l : ℕ). Lives l old (said n r) sits.life (since_begin (turns r) n)) limit_is sits.stood)) in
          record { life = sits.life; began = sits.began; stood = now; told = now.told }

-- the cog says what its life has found
pub rides-said : (w : World) (n : ℕ) (r : Record) (old new : Runner) → new.life ≡ old.life → new.next ≡ old.next → new.said ≡ true → Rides w n r old → Rides w n (Said n old.next ∷ r) new
rides-said w n r old new life next said_is rides = record {
  cog = ap Life.cog_of life ∙ rides.cog;
  made = subst IsMadeNext (sym next) rides.made;
  said_last = λ _. here ∙ sym next;
  owed = λ s. absurd (differ (sym said_is ∙ s));
  sits = by-state (cog_state w (turns r) n) rides.sits;
}
  where
    here : said n (Said n old.next ∷ r) ≡ old.next
    here = rw (test-same n n refl) refl

    differ : true ≡ false → ⊥
    differ e = cc

    by-state : (state : CogState) → SitsIn asks (Lives w.clocks old (said n r)) old.next w (turns r) n state → SitsIn asks (Lives w.clocks new (said n (Said n old.next ∷ r))) new.next w (turns r) n state
    by-state Stopped sits = tt
    by-state (Starting since origin) sits = tt
    by-state (Running origin) sits =
        let was = sits.stood in record {
          life = sits.life;
          began = sits.began;
          stood = record {
            stood = subst (λ (l : CogLife). Life.stands_for l sits.life (since_begin (turns r) n)) (sym life) was.stood;
            told = subst (λ (x : Next). Tells (asks sits.life (since_begin (turns r) n)) w.clocks x) (sym next) was.told;
            announced = ap announced_in life ∙ was.announced ∙ ap announced_by (sym next);
            near = subst (λ (y : CogLife × Next). IsNear (reached_in y.0) y.1) (λ i. (sym life i, sym next i)) was.near;
            goes_on = λ s. absurd (differ (sym said_is ∙ s));
          };
          told = subst (λ (x : Next). Tells (asks sits.life (since_begin (turns r) n)) w.clocks x) (sym next) sits.told;
        }

-- a turn of its own
made-by : (next : Next) (turn : Turn) → IsMadeNext next → IsAnnounced (announced_by next) turn → IsMade turn.access
made-by (At clock access) turn made is = subst IsMade (sym is.0) made
made-by Quiet turn made is = absurd is
made-by (More bound) turn made is = absurd is

-- the turn that was made is the one that the life has announced
pub announced-next : (w : World) (n : ℕ) (r : Record) (runner : Runner) (turn : Turn) → IsAnnounced (announced_by (said n r)) turn → Rides w n r runner → IsAnnounced (announced_by runner.next) turn
announced-next w n r runner turn is rides = by-said runner.said refl
  where
    by-said : (b : Bool) → runner.said ≡ b → IsAnnounced (announced_by runner.next) turn
    by-said true s = subst (λ (x : Next). IsAnnounced (announced_by x) turn) (rides.said_last s) is
    by-said false s = absurd (subst (λ (x : Next). IsAnnounced (announced_by x) turn) (rides.owed s).1 is)

pub announced-life : (w : World) (n : ℕ) (r : Record) (runner : Runner) (turn : Turn) → FitsState true (cog_state w (turns r) n) → IsAnnounced (announced_by (said n r)) turn → Rides w n r runner → IsAnnounced (announced_in runner.life) turn
announced-life w n r runner turn fits is rides =
    let next = announced-next w n r runner turn is rides in
    by-state (cog_state w (turns r) n) fits rides.sits next
  where
    by-state : (state : CogState) → FitsState true state → SitsIn asks (Lives w.clocks runner (said n r)) runner.next w (turns r) n state → IsAnnounced (announced_by runner.next) turn → IsAnnounced (announced_in runner.life) turn
    by-state Stopped fits sits next = absurd fits
    by-state (Starting since origin) fits sits next = absurd fits
    by-state (Running origin) fits sits next = subst (λ (o : Option (ℕ × Access)). IsAnnounced o turn) (sym sits.stood.announced) next

later-by : (next : Next) (b : Begun) (ts : List Turn) (turn : Turn) (limit d : ℕ) (e : Access) → Tells (asks b ts) limit next → IsAnnounced (announced_by next) turn → asks b (ts ++ turn ∷ []) d e → turn.key.clock < d
later-by (At clock access) b ts turn limit d e told is asked = asked-later b ts turn clock d access e told.0 is asked
later-by Quiet b ts turn limit d e told is asked = absurd is
later-by (More bound) b ts turn limit d e told is asked = absurd is

module _ (w : World) (r : Record) (turn : Turn) (n : ℕ) (own : turn.key.cog ≡ n) (old new : Runner) (said_is : new.said ≡ true) (next_is : new.next ≡ More (turn.key.clock + 1)) (cog_is : Life.cog_of new.life ≡ n) where
  here : said n (Took turn ∷ r) ≡ More (turn.key.clock + 1)
  here = rw (test-same turn.key.cog n own) refl

  differ : true ≡ false → ⊥
  differ e = cc

  with-sits : SitsIn asks (Lives w.clocks new (said n (Took turn ∷ r))) new.next w (turn ∷ turns r) n (cog_state w (turn ∷ turns r) n) → Rides w n (Took turn ∷ r) new
  with-sits sits = record {
    cog = cog_is;
    made = subst IsMadeNext (sym next_is) tt;
    said_last = λ _. here ∙ sym next_is;
    owed = λ s. absurd (differ (sym said_is ∙ s));
    sits = sits;
  }

  lives-now : (b : Begun) (ts : List Turn) → Life.stands_for new.life b ts → ((d : ℕ) (e : Access) → asks b ts d e → turn.key.clock < d) → announced_in new.life ≡ None → turn.key.clock ≤ reached_in new.life → reached_in new.life ≤ turn.key.clock + 8192
      → Lives w.clocks new (said n (Took turn ∷ r)) b ts
  lives-now b ts stood later none low high = record {
    stood = stood;
    told = subst (λ (x : Next). Tells (asks b ts) w.clocks x) (sym next_is) (λ d e asked. (let l = later d e asked in omega arith));
    announced = none ∙ ap announced_by (sym next_is);
    near = subst (λ (x : Next). IsNear (reached_in new.life) x) (sym next_is) (omega arith, omega arith);
    goes_on = λ s. absurd (differ (sym said_is ∙ s));
  }

  -- of a running cog
  pub rides-took : IsAnnounced (announced_by (said n r)) turn → ((b : Begun) (ts : List Turn) → Life.stands_for old.life b ts → Life.stands_for new.life b (ts ++ turn ∷ [])) → announced_in new.life ≡ None → turn.key.clock ≤ reached_in new.life → reached_in new.life ≤ turn.key.clock + 8192
      → Rides w n r old → Rides w n (Took turn ∷ r) new
  rides-took is keeps none low high rides =
      let announced = announced-next w n r old turn is rides in
      let made = made-by old.next turn rides.made announced in
      let live : (b : Begun) (ts : List Turn) → Lives w.clocks old (said n r) b ts → Lives w.clocks new (said n (Took turn ∷ r)) b (ts ++ turn ∷ []) =
      λ b ts lives. lives-now b (ts ++ turn ∷ []) (keeps b ts lives.stood) (λ d e asked. later-by old.next b ts turn w.clocks d e lives.told announced asked) none low high in
      with-sits (own-sits asks (Lives w.clocks old (said n r)) (Lives w.clocks new (said n (Took turn ∷ r))) old.next new.next w (turns r) turn n own made live (λ b ts lives. (live b ts lives).told) rides.sits)

  -- of a cog that was starting
  pub rides-started : (since : ℕ) (origin : Origin) → cog_state w (turns r) n ≡ Starting since origin → turn.access ≡ first_access origin
      → (cog_state w (turn ∷ turns r) n ≡ Running origin → Life.stands_for new.life (begun_at w n turn.key.clock origin) [] × (announced_in new.life ≡ None) × (turn.key.clock ≤ reached_in new.life) × (reached_in new.life ≤ turn.key.clock + 8192))
      → Rides w n (Took turn ∷ r) new
  rides-started since origin state access begins =
      with-sits (start-sits asks (Lives w.clocks new (said n (Took turn ∷ r))) new.next w (turns r) turn n own since origin state access
      (λ room begin runs. (let b = begins runs in let l = lives-now (begun_at w n turn.key.clock origin) [] b.0 (λ d e asked. first-later origin d e asked) b.1 b.2 b.3 in (l, l.told))))
    where
      first-later : (o : Origin) (d : ℕ) (e : Access) → asks (begun_at w n turn.key.clock o) [] d e → turn.key.clock < d
      first-later (Pasm code par) d e asked = asked-first (begun_at w n turn.key.clock (Pasm code par)) d e asked
      first-later (Spin entry pbase vbase frame size) d e asked = asked-first (begun_at w n turn.key.clock (Spin entry pbase vbase frame size)) d e asked

-- a life can begin with what a cog is started with, where its first turn runs it
is-starting : (s : CogState) → FitsState false s → (since : ℕ) × (origin : Origin) × (s ≡ Starting since origin)
is-starting (Starting since origin) fits = (since, origin, refl)
is-starting (Running origin) fits = absurd fits
is-starting Stopped fits = absurd fits

window-is : (n from : ℕ) → n < 8 → IsWindow n (window_of n from)
window-is n from near = omega arith

room-by : (code par n clock cog : ℕ) (answer : Answer) (since : ℕ) (origin : Origin) (fits : Bool) → nat_le (code + 4 * 496) 32768 ≡ fits → (cog == n) ≡ true
    → changed (Starting since (Pasm code par)) (change_by n clock cog (if fits then Load else Halt (Rom 32768)) answer) ≡ Running origin → (code + 4 * 496 ≤ 32768) × (Pasm code par ≡ origin)
room-by code par n clock cog answer since origin true fits own runs = (grind (arith, nat_tests), by-change (rw own at runs))
  where
    by-change : Running (Pasm code par) ≡ Running origin → Pasm code par ≡ origin
    by-change e = cc
room-by code par n clock cog answer since origin false fits own runs = absurd (by-change (rw own at runs))
  where
    by-change : Stopped ≡ Running origin → ⊥
    by-change e = cc

startable-by : (started : Origin) (n clock cog : ℕ) (answer : Answer) (since : ℕ) (origin : Origin) → IsProperOrigin started → (cog == n) ≡ true
    → changed (Starting since started) (change_by n clock cog (first_access started) answer) ≡ Running origin → IsStartable origin × (started ≡ origin)
startable-by (Pasm code par) n clock cog answer since origin proper own runs =
    let r = room-by code par n clock cog answer since origin (nat_le (code + 4 * 496) 32768) refl own runs in
    let le : code + 4 * 496 ≤ 32768 = r.0 in
    let here : IsStartable (Pasm code par) = (proper.0.0, omega arith) in
    (subst IsStartable r.1 here, r.1)
startable-by (Spin entry pbase vbase frame size) n clock cog answer since origin proper own runs =
    let same : Spin entry pbase vbase frame size ≡ origin = by-change (rw own at runs) in
    let here : IsStartable (Spin entry pbase vbase frame size) = proper in
    (subst IsStartable same here, same)
  where
    by-change : Running (Spin entry pbase vbase frame size) ≡ Running origin → Spin entry pbase vbase frame size ≡ origin
    by-change e = cc

-- what comes to a cog that was starting
module _ (w : World) (r : Record) (runner : Runner) (memory : List ℕ) (after : CogState) (turn : Turn) (comes : Comes w r runner memory after turn false) where
  pub begins-from : (since : ℕ) × (started : Origin) × (cog_state w (turns r) turn.key.cog ≡ Starting since started) × (turn.key.clock ≡ window_of turn.key.cog (since + 1)) × (turn.access ≡ first_access started)
  begins-from =
      let s = is-starting (cog_state w (turns r) turn.key.cog) comes.fits_state in
      let next = subst (λ (x : CogState). IsNextIn asks w (turns r) turn.key.cog x turn.key.clock turn.access) s.2 comes.extends.next.next in
      (s.0, s.1, s.2, next.0, next.1)

  pub can-begin : (origin : Origin) → turn.key.cog < 8 → after ≡ Running origin → IsStartable origin × IsWindow turn.key.cog turn.key.clock
  can-begin origin near runs =
      let b = begins-from in
      let proper : IsProperOrigin b.1 = subst (λ (s : CogState). IsProperOrigin (origin_of s)) b.2 (comes.origins turn.key.cog) in
      let state : changed (Starting b.0 b.1) (change_by turn.key.cog turn.key.clock turn.key.cog (first_access b.1) turn.answer) ≡ Running origin =
      subst (λ (y : CogState × Access). changed y.0 (change_by turn.key.cog turn.key.clock turn.key.cog y.1 turn.answer) ≡ Running origin) (λ i. (b.2 i, b.4 i)) (sym comes.state ∙ runs) in
      ((startable-by b.1 turn.key.cog turn.key.clock turn.key.cog turn.answer b.0 origin proper (test-same turn.key.cog turn.key.cog refl) state).0, subst (λ (k : ℕ). IsWindow turn.key.cog k) (sym b.3) (window-is turn.key.cog (b.0 + 1) near))

lead-is : (kind : LifeKind) → number_of kind 8192 8192 ≡ 8192
lead-is OfPasm = refl
lead-is OfSpin = refl

-- a runner that has taken its cog's turn
pub rides-after : (w : World) (r : Record) (old new : Runner) (memory : List ℕ) (after : CogState) (turn : Turn) (running : Bool) → Comes w r old memory after turn running
    → new.said ≡ true → new.next ≡ More (turn.key.clock + 1) → Life.cog_of new.life ≡ turn.key.cog
    → ((b : Begun) (ts : List Turn) → running ≡ true → Life.stands_for old.life b ts → Life.stands_for new.life b (ts ++ turn ∷ []))
    → ((origin : Origin) → running ≡ false → after ≡ Running origin → Life.stands_for new.life (begun_by memory origin turn.key.cog turn.key.clock) [])
    → (running ≡ true → HasTaken (announced_in new.life) (reached_in new.life) (number_of old.life.kind 8192 8192) turn)
    → ((origin : Origin) → running ≡ false → after ≡ Running origin → HasTaken (announced_in new.life) (reached_in new.life) (number_of new.life.kind 8192 8192) turn)
    → Rides w turn.key.cog (Took turn ∷ r) new
rides-after w r old new memory after turn true comes said_is next_is cog_is takes begins answered anew =
    let t = answered refl in
    rides-took w r turn turn.key.cog refl old new said_is next_is cog_is (comes.announced refl) (λ b ts. takes b ts refl) t.none t.low (subst (λ (k : ℕ). reached_in new.life ≤ turn.key.clock + k) (lead-is old.life.kind) t.high) comes.rides
rides-after w r old new memory after turn false comes said_is next_is cog_is takes begins answered anew =
    let b = begins-from w r old memory after turn comes in
    rides-started w r turn turn.key.cog refl old new said_is next_is cog_is b.0 b.1 b.2 b.4
    (λ runs.
    let is : after ≡ Running b.1 = comes.state ∙ runs in
    let t = anew b.1 refl is in
    let stood : Life.stands_for new.life (begun_by w.memory b.1 turn.key.cog turn.key.clock) [] = subst (λ (m : List ℕ). Life.stands_for new.life (begun_by m b.1 turn.key.cog turn.key.clock) []) comes.memory (begins b.1 refl is) in
    (subst (λ (x : Begun). Life.stands_for new.life x []) (begun-same w turn.key.cog turn.key.clock b.1) stood, t.none, t.low, subst (λ (k : ℕ). reached_in new.life ≤ turn.key.clock + k) (lead-is new.life.kind) t.high))
