-- The keys of a legal history rise.
use Rattle.std.proofs.Common.{◌≡◌, ◌∙◌, ap, sym, subst, refl, ℕ, ◌+◌, ◌*◌, ◌<◌, ◌≤◌, ◌==◌, Bool, true, false, List, [], ◌∷◌, ◌++◌, Option, Some, None, arith, inl, inr, ◌⊎◌, if◌then◌else◌, nat_le}
use Rattle.p8_access.specs.declared.kinds.Origin.{Origin}
use Rattle.p8_access.specs.declared.kinds.Origin.TheVariants.{Pasm, Spin}
use Rattle.p8_access.specs.declared.kinds.Access.{Access}
use Rattle.p8_access.specs.declared.kinds.Access.TheVariants.{Begin, Load, Read, Write, CogId, CogInit, CogStop, LockNew, LockRet, LockSet, LockClr, ClkSet, PinsIn, OutSet, DirSet, Wait, Clock, Halt}
use Rattle.p8_access.specs.declared.kinds.Answer.{Answer}
use Rattle.p8_access.specs.declared.order.Turn.{Turn}
use Rattle.p8_access.specs.Windows.{Before, window_of}
use Rattle.p8_access.specs.Lives.{Begun, first_turn_of, IsTurnAt}
use Rattle.p8_access.specs.declared.states.CogState.{CogState}
use Rattle.p8_access.specs.declared.states.CogState.TheVariants.{Stopped, Starting, Running}
use Rattle.p8_access.specs.Worlds.{World}
use Rattle.p8_access.specs.declared.kinds.Reason.TheVariants.{Rom}
use Rattle.p8_access.specs.Hub.{Change, Starts, Runs, Stops, change_by, change_of, changed, cog_state, origin_of}
use Rattle.p8_access.specs.Histories.{Legal, IsNext, IsNextIn, IsNextRunning, Extends, IsDue, Rises, begun, begun_at, since_begin, first_access}
use Rattle.p8_access.proofs.Nexts.{other_key, due-late, due-on_time, some-injective}
use Rattle.p8_access.proofs.Changes.{decided, same-cog, differ-cog, starts-at, runs-begins, none-begins, not-picked, begun-same, begun-new, since_begin-new, since_begin-own, since_begin-other}

loaded-changes : (n clock cog : ℕ) (fits : Bool) (answer : Answer) → (cog == n) ≡ true → change_by n clock cog (if fits then Load else Halt (Rom 32768)) answer ≡ None → ⊥
loaded-changes n clock cog true answer own e = let f = not-picked (cog == n) _ e in cc
loaded-changes n clock cog false answer own e = let f = not-picked (cog == n) _ e in cc

-- the first turn of a start is no turn that changes nothing of its cog
first-changes : (n clock cog : ℕ) (origin : Origin) (answer : Answer) → (cog == n) ≡ true → change_by n clock cog (first_access origin) answer ≡ None → ⊥
first-changes n clock cog (Spin entry pbase vbase frame size) answer own e = let f = not-picked (cog == n) _ e in cc
first-changes n clock cog (Pasm code par) answer own e = loaded-changes n clock cog (nat_le (code + 4 * 496) 32768) answer own e

first_turn-begun_at : (w : World) (n clock : ℕ) (origin : Origin) → first_turn_of (begun_at w n clock origin) ≡ clock
first_turn-begun_at w n clock (Pasm code par) = refl
first_turn-begun_at w n clock (Spin entry pbase vbase frame size) = refl

-- an access that was due after a past is due after one turn more, but for a wait, which is later than
-- that turn
due-moves : (w : World) (older : List Turn) (prev : Turn) (n : ℕ) (access : Access) (earliest clock : ℕ) → IsDue w (prev ∷ older) n access earliest clock → Before prev.key (record { clock = clock; cog = n }) ⊎ IsDue w older n access earliest clock
due-moves w older prev n (Wait test) earliest clock due = inl due.after
due-moves w older prev n Begin earliest clock due = inr due
due-moves w older prev n Load earliest clock due = inr due
due-moves w older prev n (Read width address) earliest clock due = inr due
due-moves w older prev n (Write width address value) earliest clock due = inr due
due-moves w older prev n CogId earliest clock due = inr due
due-moves w older prev n (CogInit target origin) earliest clock due = inr due
due-moves w older prev n (CogStop cog) earliest clock due = inr due
due-moves w older prev n LockNew earliest clock due = inr due
due-moves w older prev n (LockRet lock) earliest clock due = inr due
due-moves w older prev n (LockSet lock) earliest clock due = inr due
due-moves w older prev n (LockClr lock) earliest clock due = inr due
due-moves w older prev n (ClkSet mode) earliest clock due = inr due
due-moves w older prev n PinsIn earliest clock due = inr due
due-moves w older prev n (OutSet value) earliest clock due = inr due
due-moves w older prev n (DirSet value) earliest clock due = inr due
due-moves w older prev n Clock earliest clock due = inr due
due-moves w older prev n (Halt reason) earliest clock due = inr due

module _ (asked : Begun → List Turn → ℕ → Access → Type 0) (w : World) (one_asked : (b : Begun) (ts : List Turn) (c d : ℕ) (a e : Access) → asked b ts c a → asked b ts d e → (c ≡ d) × (a ≡ e)) (asked_first : (b : Begun) (c : ℕ) (a : Access) → asked b [] c a → first_turn_of b < c) (asked_later : (b : Begun) (ts : List Turn) (turn : Turn) (c d : ℕ) (a e : Access) → asked b ts c a → IsTurnAt c a turn → asked b (ts ++ turn ∷ []) d e → turn.key.clock < d) where
  module _ (older : List Turn) (prev turn : Turn) (before : Extends asked w older prev) (below : turn.key.clock < w.clocks) where
    -- what was next already comes after the turn that was chosen before it
    waited : IsNextIn asked w older turn.key.cog (cog_state w older turn.key.cog) turn.key.clock turn.access → (prev.key.cog ≡ turn.key.cog → ⊥) → Before prev.key turn.key
    waited next differ = other_key prev.key turn.key differ (before.least turn.key.cog turn.key.clock turn.access (record { next = next; below = below }))

    -- a cog that was starting and still is
    rise-starting : (since : ℕ) (origin : Origin) → cog_state w older turn.key.cog ≡ Starting since origin → change_of turn.key.cog prev ≡ None → (turn.key.clock ≡ window_of turn.key.cog (since + 1)) × (turn.access ≡ first_access origin) → ((prev.key.cog == turn.key.cog) ≡ true) ⊎ ((prev.key.cog == turn.key.cog) ≡ false) → Before prev.key turn.key
    rise-starting since origin state change next (inr other) =
        waited (subst (λ (s : CogState). IsNextIn asked w older turn.key.cog s turn.key.clock turn.access) (sym state) next) (differ-cog _ _ other)
    rise-starting since origin state change next (inl own) =
        let same : prev.key.cog ≡ turn.key.cog = same-cog _ _ own in
        let mine : IsNext asked w older turn.key.cog prev.key.clock prev.access = subst (λ (n : ℕ). IsNext asked w older n prev.key.clock prev.access) same before.next in
        let first : prev.access ≡ first_access origin = (subst (λ (s : CogState). IsNextIn asked w older turn.key.cog s prev.key.clock prev.access) state mine.next).1 in
        absurd (first-changes turn.key.cog prev.key.clock prev.key.cog origin prev.answer own (subst (λ (a : Access). change_by turn.key.cog prev.key.clock prev.key.cog a prev.answer ≡ None) first change))

    -- a cog that was running and still is, where the turn before was another cog's
    rise-beside : (origin : Origin) → cog_state w older turn.key.cog ≡ Running origin → (life : Begun) (earliest : ℕ) → begun w older turn.key.cog ≡ Some life → asked life (since_begin older turn.key.cog) earliest turn.access → Before prev.key turn.key ⊎ IsDue w older turn.key.cog turn.access earliest turn.key.clock → (prev.key.cog ≡ turn.key.cog → ⊥) → Before prev.key turn.key
    rise-beside origin state life earliest began asks (inl woken) differ = woken
    rise-beside origin state life earliest began asks (inr due) differ =
        waited (subst (λ (s : CogState). IsNextIn asked w older turn.key.cog s turn.key.clock turn.access) (sym state) (record { life = life; began = began; earliest = earliest; asks = asks; due = due })) differ

    -- the same, where the turn before was its own
    rise-own : (origin : Origin) → cog_state w older turn.key.cog ≡ Running origin → prev.key.cog ≡ turn.key.cog → (life : Begun) (earliest : ℕ) → begun w older turn.key.cog ≡ Some life → asked life (since_begin older turn.key.cog ++ prev ∷ []) earliest turn.access → earliest ≤ turn.key.clock → Before prev.key turn.key
    rise-own origin state same life earliest began asks late =
        let mine : IsNext asked w older turn.key.cog prev.key.clock prev.access = subst (λ (n : ℕ). IsNext asked w older n prev.key.clock prev.access) same before.next in
        let run : IsNextRunning asked w older turn.key.cog prev.key.clock prev.access = subst (λ (s : CogState). IsNextIn asked w older turn.key.cog s prev.key.clock prev.access) state mine.next in
        let one : run.life ≡ life = some-injective _ _ (sym run.began ∙ began) in
        let asks_before = subst (λ (b : Begun). asked b (since_begin older turn.key.cog) run.earliest prev.access) one run.asks in
        let later : prev.key.clock < earliest = asked_later life (since_begin older turn.key.cog) prev run.earliest earliest prev.access turn.access asks_before (refl, due-on_time w older turn.key.cog prev.access run.earliest prev.key.clock run.due) asks in
        inl (omega arith)

    rise-running : (origin : Origin) → cog_state w older turn.key.cog ≡ Running origin → change_of turn.key.cog prev ≡ None → IsNextRunning asked w (prev ∷ older) turn.key.cog turn.key.clock turn.access → ((prev.key.cog == turn.key.cog) ≡ true) ⊎ ((prev.key.cog == turn.key.cog) ≡ false) → Before prev.key turn.key
    rise-running origin state change next (inl own) =
        let begins = none-begins turn.key.cog prev.key.clock prev.key.cog prev.access prev.answer change in
        let asks = subst (λ (ts : List Turn). asked next.life ts next.earliest turn.access) (since_begin-own w older prev turn.key.cog begins own) next.asks in
        rise-own origin state (same-cog _ _ own) next.life next.earliest (sym (begun-same w older prev turn.key.cog begins) ∙ next.began) asks (due-late w (prev ∷ older) turn.key.cog turn.access next.earliest turn.key.clock next.due)
    rise-running origin state change next (inr other) =
        let begins = none-begins turn.key.cog prev.key.clock prev.key.cog prev.access prev.answer change in
        let asks = subst (λ (ts : List Turn). asked next.life ts next.earliest turn.access) (since_begin-other w older prev turn.key.cog begins other) next.asks in
        rise-beside origin state next.life next.earliest (sym (begun-same w older prev turn.key.cog begins) ∙ next.began) asks (due-moves w older prev turn.key.cog turn.access next.earliest turn.key.clock next.due) (differ-cog _ _ other)

    -- a life that has just begun
    rise-begun : change_of turn.key.cog prev ≡ Some Runs → IsNextRunning asked w (prev ∷ older) turn.key.cog turn.key.clock turn.access → Before prev.key turn.key
    rise-begun change next =
        let begins = runs-begins turn.key.cog prev.key.clock prev.key.cog prev.access prev.answer change in
        let life = some-injective _ _ (sym next.began ∙ begun-new w older prev turn.key.cog begins) in
        let begin : first_turn_of next.life ≡ prev.key.clock = ap first_turn_of life ∙ first_turn-begun_at w turn.key.cog prev.key.clock (origin_of (cog_state w older turn.key.cog)) in
        let asks = subst (λ (ts : List Turn). asked next.life ts next.earliest turn.access) (since_begin-new w older prev turn.key.cog begins) next.asks in
        let first : first_turn_of next.life < next.earliest = asked_first next.life next.earliest turn.access asks in
        let late : next.earliest ≤ turn.key.clock = due-late w (prev ∷ older) turn.key.cog turn.access next.earliest turn.key.clock next.due in
        inl (omega arith)

    rise-by : (state : CogState) (change : Option Change) → cog_state w older turn.key.cog ≡ state → change_of turn.key.cog prev ≡ change → IsNextIn asked w (prev ∷ older) turn.key.cog (changed state change) turn.key.clock turn.access → Before prev.key turn.key
    rise-by Stopped None state change next = absurd next
    rise-by (Starting since origin) None state change next = rise-starting since origin state change next (decided _ _)
    rise-by (Running origin) None state change next = rise-running origin state change next (decided _ _)
    rise-by before (Some (Starts since origin)) state change next =
        let at : since ≡ prev.key.clock = starts-at turn.key.cog prev.key.clock prev.key.cog prev.access prev.answer since origin change in
        let clock : turn.key.clock ≡ window_of turn.key.cog (since + 1) = next.0 in
        inl (omega arith)
    rise-by before (Some Runs) state change next = rise-begun change next
    rise-by before (Some Stops) state change next = absurd next

    rise : IsNextIn asked w (prev ∷ older) turn.key.cog (cog_state w (prev ∷ older) turn.key.cog) turn.key.clock turn.access → Before prev.key turn.key
    rise next = rise-by (cog_state w older turn.key.cog) (change_of turn.key.cog prev) refl refl next

  -- the keys of a legal history rise
  pub rises : (h : List Turn) → Legal asked w h → Rises h
  rises [] legal = tt
  rises (turn ∷ []) legal = (tt, tt)
  rises (turn ∷ prev ∷ older) legal =
      (rises (prev ∷ older) legal.0, rise older prev turn legal.0.1 legal.1.next.below legal.1.next.next)
