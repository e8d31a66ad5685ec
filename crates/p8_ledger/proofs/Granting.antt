-- What stands at a cog's front, and what a ledger stands for after a turn.
use Rattle.std.proofs.Common.{◌≡◌, ◌∙◌, ap, sym, subst, refl, ℕ, zero, suc, ◌<◌, ◌+◌, ◌==◌, Bool, true, false, if◌then◌else◌, List, [], ◌∷◌, Option, Some, None, length, slice_get, slice_index, get_or, replicate, IsTrue, ◌↔◌, arith, inl, inr}
use Rattle.std.proofs.Math.ListN.{set}
use Rattle.std.proofs.lemmas.List.{length-reverse}
use Rattle.std.proofs.lemmas.Option.{slice_get_within, slice_get-get_or}
use Rattle.p8_access.specs.declared.kinds.Origin.{Origin}
use Rattle.p8_access.specs.declared.kinds.Test.{Test}
use Rattle.p8_access.specs.declared.kinds.Access.{Access}
use Rattle.p8_access.specs.declared.order.Key.{Key}
use Rattle.p8_access.specs.declared.order.Turn.{Turn}
use Rattle.p8_access.specs.declared.lives.Next.{Next}
use Rattle.p8_access.specs.declared.lives.Next.TheVariants.{At, Quiet, More}
use Rattle.p8_access.specs.Lives.{IsMade, IsMadeNext, announced_by}
use Rattle.p8_access.specs.declared.states.CogState.{CogState}
use Rattle.p8_access.specs.declared.states.CogState.TheVariants.{Stopped, Starting, Running}
use Rattle.p8_access.specs.Worlds.{World}
use Rattle.p8_access.specs.Hub.{cog_state}
use Rattle.p8_access.specs.Histories.{answer_to, IsNext, IsNextIn, IsNextRunning, Extends}
use Rattle.p8_access.proofs.Changes.{decided, same-cog, differ-cog}
use Rattle.p8_cog.specs.Lives.{asks}
use Rattle.p8_ledger.specs.Seats.{Sits, SitsIn}
use Rattle.p8_ledger.specs.Standing.{FitsState}
use Rattle.p8_ledger.specs.declared.fronts.Fronts.{Fronts}
use Rattle.p8_ledger.specs.Fronts.{IsFirstOf, IsSaidFront, IsFront, IsFrontIn}
use Rattle.p8_ledger.specs.Waiting.{IsTimely, IsNextAt}
use Rattle.p8_ledger.proofs.Rows.{set-there, set-else, set-same, set-other, got-item}
use Rattle.p8_ledger.proofs.Coming.{due-timely, made-proper}
use Rattle.p8_ledger.specs.declared.due.Due.{Due}
use Rattle.p8_ledger.specs.declared.ledger.Ledger.{Ledger}
use Rattle.p8_ledger.specs.declared.steps.Step.{Step}
use Rattle.p8_ledger.specs.declared.steps.Step.TheVariants.{Took}
use Rattle.p8_ledger.proofs.Fronting.{same-front, kept-front}
use Rattle.p8_ledger.specs.Records.{Record, cog_of, says, turns, said, whatever, IsTrueOf, IsTruthful, HasFront, HasFrontIn, HasFrontBy, IsLeastFront, Owes}
use Rattle.p8_ledger.specs.Dues.{IsDueAt, Suits, IsPlain, IsPlainIn, LeavesCogs, AllMade}
use Rattle.p8_ledger.specs.Ledgers.{Found}
use Rattle.p8_ledger.proofs.Choosing.{fast-first}
use Rattle.p8_ledger.proofs.Least.{told-next, first-front}
use Rattle.p8_ledger.proofs.Telling.{said-own, said-beside, least-extends}

module _ (w : World) (r : Record) (n clock : ℕ) (origin : Origin) (state : cog_state w (turns r) n ≡ Running origin) (truth : IsTrueOf w (turns r) n (said n r)) where
  sits : Sits asks whatever (said n r) w (turns r) n
  sits = subst (λ (s : CogState). SitsIn asks whatever (said n r) w (turns r) n s) state truth

  running : (access : Access) → IsNext asks w (turns r) n clock access → IsNextRunning asks w (turns r) n clock access
  running access next = subst (λ (s : CogState). IsNextIn asks w (turns r) n s clock access) state next.next

  front-by : (s : Next) → said n r ≡ s → HasFront w r n clock → HasFrontBy w (turns r) n s clock
  front-by s is front =
      subst (λ (s : Next). HasFrontBy w (turns r) n s clock) is (subst (λ (s : CogState). HasFrontIn w (turns r) n s (said n r) clock) state front)

  none-by : (s : Next) → said n r ≡ s → IsNextAt (announced_by s) clock None → HasFrontBy w (turns r) n s clock → IsDueAt w r n clock None
  none-by (At earliest access) is at front =
      absurd (at (due-timely w (turns r) n access earliest clock (told-next w r n clock origin sits earliest access is front.0 (running front.0 front.1)).1))
  none-by Quiet is at front = absurd front
  none-by (More bound) is at front = ((origin, state), is ∙ ap (λ (b : ℕ). More b) (sym front.0))

  some-by : (s : Next) → said n r ≡ s → (a : Access) → IsNextAt (announced_by s) clock (Some a) → HasFrontBy w (turns r) n s clock → IsDueAt w r n clock (Some (record { access = a; running = true }))
  some-by (At earliest access) is a at front =
      let told = told-next w r n clock origin sits earliest access is front.0 (running front.0 front.1) in
      (subst (λ (a : Access). IsNext asks w (turns r) n clock a) (told.0 ∙ sym at.0) front.1, subst (FitsState true) (sym state) tt)
  some-by Quiet is a at front = absurd front
  some-by (More bound) is a at front = absurd (let e : Some a ≡ None = at in cc)

  -- what a running cog has said stands at its front
  pub due-none : (s : Next) → said n r ≡ s → IsNextAt (announced_by s) clock None → HasFront w r n clock → IsDueAt w r n clock None
  due-none s is at front = none-by s is at (front-by s is front)

  pub due-some : (s : Next) → said n r ≡ s → (a : Access) → IsNextAt (announced_by s) clock (Some a) → HasFront w r n clock → IsDueAt w r n clock (Some (record { access = a; running = true }))
  due-some s is a at front = some-by s is a at (front-by s is front)

-- a cog that runs is told as running
starting-not : (b : Bool) (origin : Origin) → FitsState b (Running origin) → b ≡ true
starting-not true origin fits = refl
starting-not false origin fits = absurd fits

pub running-is : (b : Bool) (s : CogState) (origin : Origin) → FitsState b s → s ≡ Running origin → b ≡ true
running-is b s origin fits is = starting-not b origin (subst (FitsState b) is fits)

-- the sayings after a step
pub sayings-after : (sayings : List Next) (step : Step) (r : Record) → cog_of step < 8 → ((n : ℕ) → n < 8 → slice_get sayings n ≡ Some (said n r)) → (n : ℕ) → n < 8 → slice_get (set sayings (cog_of step) (says step)) n ≡ Some (said n (step ∷ r))
sayings-after sayings step r own each n near =
    elim (decided n (cog_of step)) [
      | inl is ↦
          (let same : n ≡ cog_of step = same-cog n (cog_of step) is in
          let within : cog_of step < length sayings = slice_get_within sayings (cog_of step) (said (cog_of step) r) (each (cog_of step) own) in
          subst (λ (m : ℕ). slice_get (set sayings (cog_of step) (says step)) m ≡ Some (said m (step ∷ r))) (sym same)
          (set-same sayings (cog_of step) (says step) within ∙ ap (λ (s : Next). Some s) (sym (said-own step r))))
      | inr other ↦
          (let differ = differ-cog n (cog_of step) other in
          set-other sayings (cog_of step) n (says step) differ ∙ each n near ∙ ap (λ (s : Next). Some s) (sym (said-beside step r n (λ e. differ (sym e)))))
    ]

pub made-after : (sayings : List Next) (k : ℕ) (next : Next) → AllMade sayings → IsMadeNext next → AllMade (set sayings k next)
made-after sayings k next all made n s at =
    elim (decided n k) [
      | inl is ↦
          (let same : n ≡ k = same-cog n k is in
          subst IsMadeNext (sym (set-there sayings k next s (subst (λ (m : ℕ). slice_get (set sayings k next) m ≡ Some s) same at))) made)
      | inr other ↦ all n s (set-else sayings k n next s (differ-cog n k other) at)
    ]

-- before the first turn no cog runs
idle : (w : World) (n : ℕ) (next : Next) (b : Bool) → SitsIn asks whatever next w [] n (if b then Starting 0 w.first else Stopped)
idle w n next true = tt
idle w n next false = tt

pub open-truth : (w : World) → IsTruthful w []
open-truth w n = idle w n (More 0) (n == 0)

pub open-sayings : (n : ℕ) → n < 8 → slice_get (replicate 8 (More 0)) n ≡ Some (said n [])
open-sayings zero near = refl
open-sayings (suc zero) near = refl
open-sayings (suc (suc zero)) near = refl
open-sayings (suc (suc (suc zero))) near = refl
open-sayings (suc (suc (suc (suc zero)))) near = refl
open-sayings (suc (suc (suc (suc (suc zero))))) near = refl
open-sayings (suc (suc (suc (suc (suc (suc zero)))))) near = refl
open-sayings (suc (suc (suc (suc (suc (suc (suc zero))))))) near = refl
open-sayings (suc (suc (suc (suc (suc (suc (suc (suc n)))))))) near = absurd (omega arith)

-- there is room in the world where there is room in its ledger
pub room-found : (w : World) (ledger : Ledger) (r : Record) → Found w ledger r → length ledger.turns.list < ledger.limits.turns → length (turns r) < w.turns
room-found w ledger r found room =
    let count : length (turns r) ≡ length ledger.turns.list = ap length (sym found.log) ∙ length-reverse ledger.turns.list in
    let limit : ledger.limits.turns ≡ w.turns = ap (λ (w : World). w.turns) found.world in
    omega arith

-- the turn of what stands at the least front comes next
pub granted : (w : World) (r : Record) (ledger : Ledger) (key : Key) (due : Due) (turn : Turn) → Found w ledger r → IsLeastFront w r key → length ledger.turns.list < ledger.turns.room → IsDueAt w r key.cog key.clock (Some due) → turn.key ≡ key → turn.access ≡ due.access → turn.answer ≡ answer_to w (turns r) key due.access → Extends asks w (turns r) turn
granted w r ledger key due turn found least room due_is key_is access answer =
    let own : IsNext asks w (turns r) turn.key.cog turn.key.clock due.access = subst (λ (k : Key). IsNext asks w (turns r) k.cog k.clock due.access) (sym key_is) due_is.0 in
    let first : IsLeastFront w r turn.key = subst (λ (k : Key). IsLeastFront w r k) (sym key_is) least in
    let within : length ledger.turns.list < ledger.limits.turns = subst (λ (m : ℕ). length ledger.turns.list < m) ledger.room room in
    let next : IsNext asks w (turns r) turn.key.cog turn.key.clock turn.access = subst (λ (a : Access). IsNext asks w (turns r) turn.key.cog turn.key.clock a) (sym access) own in
    least-extends w r turn found.truth (room-found w ledger r found within) first next (answer ∙ (λ i. answer_to w (turns r) (sym key_is i) (sym access i)))

-- a cog owes a saying where its last one is a promise
pub owed : (w : World) (ledger : Ledger) (r : Record) (n : ℕ) (origin : Origin) (d : Next) (b : Bool) → Found w ledger r → n < 8 → length ledger.turns.list < ledger.limits.turns → cog_state w (turns r) n ≡ Running origin → (IsTrue b ↔ ((bound : ℕ) × (get_or ledger.sayings n d ≡ More bound))) → IsTrue b ↔ Owes w r n
owed w ledger r n origin d b found near room state promise =
    let same : said n r ≡ get_or ledger.sayings n d = got-item ledger.sayings n (said n r) d (found.sayings n near) in (
      λ is. (let p = promise.0 is in record { room = room-found w ledger r found room; runs = (origin, state); promise = (p.0, same ∙ p.1) }),
      λ owes. promise.1 (owes.promise.0, sym same ∙ owes.promise.1),
    )

-- a front under other names
pub front-as : (fronts : Fronts) (n limit limit' : ℕ) (state : CogState) (s s' : Next) → limit' ≡ limit → s' ≡ s → IsFrontIn fronts n limit state s → IsFrontIn fronts n limit' state s'
front-as fronts n limit limit' state s s' limit_is is front =
    subst (λ (m : ℕ). IsFrontIn fronts n m state s') (sym limit_is) (subst (λ (x : Next). IsFrontIn fronts n limit state x) (sym is) front)

-- what one of eight has said
pub read-at : (sayings : List Next) (n : ℕ) (d : Next) → length sayings ≡ 8 → n < 8 → slice_get sayings n ≡ Some (get_or sayings n d)
read-at sayings n d eight near = slice_get-get_or sayings n d (omega arith)

-- an access that is no wait and is said to come at the least of the fronts
module _ (w : World) (r : Record) (key : Key) (origin : Origin) (state : cog_state w (turns r) key.cog ≡ Running origin) where
  plain-front : (s : Next) → said key.cog r ≡ s → IsPlain s key.clock → IsFront key.cog w.clocks (cog_state w (turns r) key.cog) (said key.cog r) key.clock None
  plain-front (At earliest access) is plain =
      subst (λ (c : CogState). IsFront key.cog w.clocks c (said key.cog r) key.clock None) (sym state)
      (subst (λ (s : Next). IsSaidFront w.clocks s key.clock None) (sym is) (sym plain.0, sym plain.1))
  plain-front Quiet is plain = absurd plain
  plain-front (More bound) is plain = absurd plain

  -- is the least front
  pub plain-least : (ledger : Ledger) → Found w ledger r → IsFirstOf ledger.fronts.clocks key → key.clock < w.clocks → IsPlainIn ledger.sayings key.cog key.clock → IsLeastFront w r key
  plain-least ledger found first below plain =
      first-front w r found.truth key
      (fast-first w r found.others ledger.fronts.clocks key first found.fronts key.clock
      (plain-front (said key.cog r) refl (plain (said key.cog r) (found.sayings key.cog first.near)))) below

-- such an access may be answered
pub plain-suits : (sayings : List Next) (n clock : ℕ) (d : Next) (access : Access) → length sayings ≡ 8 → n < 8 → IsMade access → IsPlainIn sayings n clock → (earliest : ℕ) × (get_or sayings n d ≡ At earliest access) → Suits sayings n clock (record { access = access; running = true })
plain-suits sayings n clock d access eight near made plain said_is =
    let at : slice_get sayings n ≡ Some (At said_is.0 access) = read-at sayings n d eight near ∙ ap (λ (s : Next). Some s) said_is.1 in
    let is = plain (At said_is.0 access) at in
    record {
      proper = made-proper access made;
      made = λ running. made;
      next = λ saying running there.
          subst (λ (s : Next). IsNextAt (announced_by s) clock (Some access)) (sym (got-item sayings n saying d there ∙ said_is.1))
          (refl, subst (λ (t : Option Test). IsTimely t said_is.0 clock) (sym is.1) is.0);
    }

-- and is announced
pub plain-announced : (s : Next) (clock : ℕ) → IsPlain s clock → (asked : ℕ × Access) × (announced_by s ≡ Some asked)
plain-announced (At earliest access) clock plain = ((earliest, access), refl)
plain-announced Quiet clock plain = absurd plain
plain-announced (More bound) clock plain = absurd plain

-- its turn comes next where it stands at the least front
pub plain-granted : (w : World) (r : Record) (ledger : Ledger) (key : Key) (origin : Origin) (turn : Turn) → Found w ledger r → key.cog < 8 → IsLeastFront w r key → cog_state w (turns r) key.cog ≡ Running origin → length ledger.turns.list < ledger.turns.room → Suits ledger.sayings key.cog key.clock (record { access = turn.access; running = true }) → turn.key ≡ key → turn.answer ≡ answer_to w (turns r) key turn.access → Extends asks w (turns r) turn × FitsState true (cog_state w (turns r) key.cog)
plain-granted w r ledger key origin turn found near least state room suits key_is answer =
    let said_is = found.sayings key.cog near in
    let due = due-some w r key.cog key.clock origin state (found.truth key.cog) (said key.cog r) refl turn.access (suits.next (said key.cog r) refl said_is) least.there in
    (granted w r ledger key (record { access = turn.access; running = true }) turn found least room due key_is refl answer, due.1)

-- a running cog that promises a clock has its front there
promised-front : (fronts : Fronts) (n limit bound : ℕ) (state : CogState) → FitsState true state → slice_index fronts.clocks n ≡ bound → IsFrontIn fronts n limit state (More bound)
promised-front fronts n limit bound Stopped fits own = absurd fits
promised-front fronts n limit bound (Starting since origin) fits own = absurd fits
promised-front fronts n limit bound (Running origin) fits own = (None, (own, refl))

-- after the turn of a running cog that starts or stops none, its own front alone has moved
pub alone-moved : (old new : Fronts) (w : World) (r : Record) (turn : Turn) → LeavesCogs turn.access → FitsState true (cog_state w (turns r) turn.key.cog) → slice_index new.clocks turn.key.cog ≡ turn.key.clock + 1 → ((n : ℕ) → (n ≡ turn.key.cog → ⊥) → slice_index new.clocks n ≡ slice_index old.clocks n) → ((n : ℕ) → n < 8 → IsFrontIn old n w.clocks (cog_state w (turns r) n) (said n r)) → (n : ℕ) → n < 8 → IsFrontIn new n w.clocks (cog_state w (turn ∷ turns r) n) (said n (Took turn ∷ r))
alone-moved old new w r turn leaves fits own others fronts n near =
    let none = leaves n turn.key.clock turn.key.cog turn.answer in
    elim (decided n turn.key.cog) [
      | inl is ↦
          (let same : n ≡ turn.key.cog = same-cog n turn.key.cog is in
          let front : IsFrontIn new turn.key.cog w.clocks (cog_state w (turn ∷ turns r) turn.key.cog) (More (turn.key.clock + 1)) =
          kept-front new w (turns r) turn turn.key.cog w.clocks (More (turn.key.clock + 1)) (leaves turn.key.cog turn.key.clock turn.key.cog turn.answer) (promised-front new turn.key.cog w.clocks (turn.key.clock + 1) (cog_state w (turns r) turn.key.cog) fits own) in
          subst (λ (m : ℕ). IsFrontIn new m w.clocks (cog_state w (turn ∷ turns r) m) (said m (Took turn ∷ r))) (sym same)
          (subst (λ (s : Next). IsFrontIn new turn.key.cog w.clocks (cog_state w (turn ∷ turns r) turn.key.cog) s) (sym (said-own (Took turn) r)) front))
      | inr other ↦
          (let differ = differ-cog n turn.key.cog other in
          let front : IsFrontIn new n w.clocks (cog_state w (turns r) n) (said n r) = same-front old new n w.clocks (cog_state w (turns r) n) (said n r) (others n differ) (fronts n near) in
          subst (λ (s : Next). IsFrontIn new n w.clocks (cog_state w (turn ∷ turns r) n) s) (sym (said-beside (Took turn) r n (λ e. differ (sym e))))
          (kept-front new w (turns r) turn n w.clocks (said n r) none front))
    ]
