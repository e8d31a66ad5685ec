-- Each life of Spin in a history follows its turns.
use Rattle.std.proofs.Common.{◌≡◌, ◌⊎◌, inl, inr, refl, sym, ap, subst, ◌∙◌, ℕ, ◌+◌, ◌<◌, ◌==◌, ◌&&◌, ◌||◌, not, Bool, true, false, if◌then◌else◌, List, [], ◌∷◌, ◌++◌, Option, Some, None}
use Rattle.p8_access.specs.declared.kinds.Origin.{Origin}
use Rattle.p8_access.specs.declared.kinds.Origin.TheVariants.{Pasm, Spin}
use Rattle.p8_access.specs.declared.kinds.Access.{Access}
use Rattle.p8_access.specs.declared.kinds.Access.TheVariants.{Begin, Load}
use Rattle.p8_access.specs.declared.kinds.Answer.{Answer}
use Rattle.p8_access.specs.declared.order.Turn.{Turn}
use Rattle.p8_access.specs.declared.states.CogState.{CogState}
use Rattle.p8_access.specs.declared.states.CogState.TheVariants.{Stopped, Running}
use Rattle.p8_access.specs.Worlds.{World}
use Rattle.p8_access.specs.Hub.{is_number, Change, Starts, Runs, Stops, change_by, change_of, changed, cog_state, origin_of}
use Rattle.p8_access.specs.Histories.{is_begin, begins_life, begun_at, begun, since_begin, IsNextRunning, IsNextIn, Extends, Legal}
use Rattle.p8_access.proofs.Changes.{decided, same-cog, runs-begins, begun-same, begun-new, since_begin-new, since_begin-own, since_begin-other}
use Rattle.p8_cog.specs.Lives.{asks}
use Rattle.p8_meaning.specs.Programs.{Program, Addresses}
use Rattle.p8_compiled.specs.Lives.{starts_by, is_started, turns_of_life}
use Rattle.p8_compiled.specs.Told.{IsSpin, IsTold, SpinIsTold, IsWorldOf}
use Rattle.p8_compiled.proofs.Starts.{StaysInProject, IsOfProject}
use Rattle.p8_compiled.proofs.SpinLives.{CodeIsTold, follows-told}
use Rattle.p8_compiled.proofs.Histories.{LifeOf, life-none, Runs_in, life-more, running-starts, starts-are, begun-of_project, cogs-are, and-left}

-- ---- what begins and what starts

-- a Begin or a Load runs its cog
begins-runs : (n clock cog : ℕ) (access : Access) (answer : Answer) → ((cog == n) && is_begin access) ≡ true → change_by n clock cog access answer ≡ Some Runs
begins-runs n clock cog Begin answer e = ap (λ (b : Bool). if b then Some Runs else None) (both (cog == n) e)
  where
    both : (b : Bool) → (b && true) ≡ true → b ≡ true
    both true e = refl
    both false e = e
begins-runs n clock cog Load answer e = ap (λ (b : Bool). if b then Some Runs else None) (both (cog == n) e)
  where
    both : (b : Bool) → (b && true) ≡ true → b ≡ true
    both true e = refl
    both false e = e
begins-runs n clock cog _ answer e = absurd (neither (cog == n) e)
  where
    neither : (b : Bool) → (b && false) ≡ true → ⊥
    neither true e = absurd cc
    neither false e = absurd cc

-- what a life asks is no begin
not-begin : (program : Program) (addresses : Addresses) (access : Access) → StaysInProject program addresses access → is_begin access ≡ false
not-begin program addresses Begin h = absurd h
not-begin program addresses Load h = absurd h
not-begin program addresses _ h = refl

and-not : (a b : Bool) → b ≡ false → (a && b) ≡ false
and-not true b e = e
and-not false b e = refl

not-and : (a b : Bool) → a ≡ false → (a && b) ≡ false
not-and a b e = ap (λ (x : Bool). x && b) e

neither-starts : (a b : Bool) → (a || b) ≡ false → (a ≡ false) × (b ≡ false)
neither-starts true b e = absurd (let x : true ≡ false = e in cc)
neither-starts false b e = (refl, e)

both-not : {X : Type 0} (b : Bool) → b ≡ true → b ≡ false → X
both-not b yes_is no_is = absurd (let x : true ≡ false = sym yes_is ∙ no_is in cc)

-- no start is among the changes of a turn that starts no cog
no-start : (n : ℕ) (turn : Turn) (since : ℕ) (origin : Origin) {X : Type 0} → starts_by n turn.access turn.answer ≡ false → change_of n turn ≡ Some (Starts since origin) → X
no-start n turn since origin none e =
    let s = starts-are n turn.key.clock turn.key.cog turn.access turn.answer since origin e in
    both-not (is_number n turn.answer) s.2 (ap (λ (a : Access). starts_by n a turn.answer) (sym s.1) ∙ none)

module _ (program : Program) (addresses : Addresses) (w : World) (world : IsWorldOf program addresses w) (code : (cog : ℕ) → cog < 8 → CodeIsTold program addresses w.memory cog) where
  legal-below : (later past : List Turn) → Legal asks w (later ++ past) → Legal asks w past
  legal-below [] past legal = legal
  legal-below (turn ∷ later) past legal = legal-below later past legal.0

  -- a life that begins with this turn
  module _ (n : ℕ) (first : Turn) (before : List Turn) (begins : begins_life n first ≡ true) (origin : Origin) (started_with : origin_of (cog_state w before n) ≡ origin) (lt : n < 8) (of_project : IsOfProject program addresses origin) where
    abbrev so_far : List Turn → List Turn
    so_far later = later ++ first ∷ before

    -- as long as the cog isn't started anew it runs that life, or is stopped
    abbrev Still : (past turns : List Turn) → Type 0
    Still past turns = ((cog_state w past n ≡ Running origin) × (begun w past n ≡ Some (begun_at w n first.key.clock origin)) × (since_begin past n ≡ turns)) ⊎ (cog_state w past n ≡ Stopped)

    record Lived (later : List Turn) : Type 0 where
      follows : LifeOf program addresses w world code n first.key.clock origin (turns_of_life n later)
      still : is_started n later ≡ false → Still (so_far later) (turns_of_life n later)

    begins-lived : Lived []
    begins-lived = record {
      follows = life-none program addresses w world code n first.key.clock origin;
      still = λ none. inl (
        ap (changed (cog_state w before n)) (begins-runs n first.key.clock first.key.cog first.access first.answer begins) ∙ ap Running started_with,
        begun-new w before first n begins ∙ ap (λ (o : Origin). Some (begun_at w n first.key.clock o)) started_with,
        since_begin-new w before first n begins,
      );
    }

    -- a turn that begins and starts nothing of this cog
    still-by : (past turns more : List Turn) (turn : Turn) → starts_by n turn.access turn.answer ≡ false → begins_life n turn ≡ false → (since_begin past n ≡ turns → since_begin (turn ∷ past) n ≡ more) → (change : Option Change) → change_of n turn ≡ change → Still past turns → Still (turn ∷ past) more
    still-by past turns more turn none begin since None e (inl h) = inl (ap (changed (cog_state w past n)) e ∙ h.0, begun-same w past turn n begin ∙ h.1, since h.2)
    still-by past turns more turn none begin since None e (inr h) = inr (ap (changed (cog_state w past n)) e ∙ h)
    still-by past turns more turn none begin since (Some (Starts at o)) e h = no-start n turn at o none e
    still-by past turns more turn none begin since (Some Runs) e h = both-not (begins_life n turn) (runs-begins n turn.key.clock turn.key.cog turn.access turn.answer e) begin
    still-by past turns more turn none begin since (Some Stops) e h = inr (ap (changed (cog_state w past n)) e)

    -- ---- one turn more

    module _ (later : List Turn) (lived : Lived later) (turn : Turn) (extends : Extends asks w (so_far later) turn) where
      abbrev now : List Turn
      now = so_far later

      abbrev its : List Turn
      its = turns_of_life n later

      next-of : (state : CogState) → cog_state w now n ≡ state → turn.key.cog ≡ n → IsNextIn asks w now n state turn.key.clock turn.access
      next-of state is own =
          subst (λ (s : CogState). IsNextIn asks w now n s turn.key.clock turn.access) is
          (subst (λ (m : ℕ). IsNextIn asks w now m (cog_state w now m) turn.key.clock turn.access) own extends.next.next)

      turns-by : (b : Bool) → (turn.key.cog == n && not (is_started n later)) ≡ b → turns_of_life n (turn ∷ later) ≡ (if b then its ++ turn ∷ [] else its)
      turns-by b e = ap (λ (x : Bool). if x then its ++ turn ∷ [] else its) e

      -- after the life's end
      lived-behind : is_started n later ≡ true → Lived (turn ∷ later)
      lived-behind gone = record {
        follows = subst (LifeOf program addresses w world code n first.key.clock origin) (sym (turns-by false (and-not (turn.key.cog == n) (not (is_started n later)) (ap not gone)))) lived.follows;
        still = λ none. both-not (is_started n later) gone (neither-starts (starts_by n turn.access turn.answer) (is_started n later) none).1;
      }

      -- a turn of another cog
      lived-beside : is_started n later ≡ false → (turn.key.cog == n) ≡ false → Lived (turn ∷ later)
      lived-beside here other =
          let begin : begins_life n turn ≡ false = not-and (turn.key.cog == n) (is_begin turn.access) other in
          let same : turns_of_life n (turn ∷ later) ≡ its = turns-by false (not-and (turn.key.cog == n) (not (is_started n later)) other) in
          record {
            follows = subst (LifeOf program addresses w world code n first.key.clock origin) (sym same) lived.follows;
            still = λ none. still-by now its (turns_of_life n (turn ∷ later)) turn (neither-starts (starts_by n turn.access turn.answer) (is_started n later) none).0 begin
                (λ since. since_begin-other w now turn n begin other ∙ since ∙ sym same) (change_of n turn) refl (lived.still here);
          }

      -- a turn of the life
      module _ (here : is_started n later ≡ false) (own : (turn.key.cog == n) ≡ true) (state : cog_state w now n ≡ Running origin) (is_begun : begun w now n ≡ Some (begun_at w n first.key.clock origin)) (since : since_begin now n ≡ its) where
        abbrev run : Runs_in program addresses w world code now n origin
        run = record { clock = first.key.clock; is_begun = is_begun; life = subst (LifeOf program addresses w world code n first.key.clock origin) (sym since) lived.follows }

        next : IsNextRunning asks w now n turn.key.clock turn.access
        next = next-of (Running origin) state (same-cog turn.key.cog n own)

        more : LifeOf program addresses w world code n first.key.clock origin (its ++ turn ∷ [])
        more = subst (λ (ts : List Turn). LifeOf program addresses w world code n first.key.clock origin (ts ++ turn ∷ [])) since
            (life-more program addresses w world code now turn n extends.next.below origin run next)

        begin : begins_life n turn ≡ false
        begin = and-not (turn.key.cog == n) (is_begin turn.access) (not-begin program addresses turn.access (running-starts program addresses w world code now turn n extends.next.below origin lt of_project run next))

        longer : turns_of_life n (turn ∷ later) ≡ its ++ turn ∷ []
        longer = turns-by true (ap (λ (b : Bool). b && not (is_started n later)) own ∙ ap not here)

        lived-own : Lived (turn ∷ later)
        lived-own = record {
          follows = subst (LifeOf program addresses w world code n first.key.clock origin) (sym longer) more;
          still = λ none. still-by now its (turns_of_life n (turn ∷ later)) turn (neither-starts (starts_by n turn.access turn.answer) (is_started n later) none).0 begin
              (λ s. since_begin-own w now turn n begin own ∙ ap (λ (ts : List Turn). ts ++ turn ∷ []) s ∙ sym longer) (change_of n turn) refl (lived.still here);
        }

      lived-by : is_started n later ≡ false → (turn.key.cog == n) ≡ true → Still now its → Lived (turn ∷ later)
      lived-by here own (inl h) = lived-own here own h.0 h.1 h.2
      lived-by here own (inr h) = absurd (next-of Stopped h (same-cog turn.key.cog n own))

      lived-here : is_started n later ≡ false → ((turn.key.cog == n) ≡ true) ⊎ ((turn.key.cog == n) ≡ false) → Lived (turn ∷ later)
      lived-here here (inl own) = lived-by here own (lived.still here)
      lived-here here (inr other) = lived-beside here other

      lived-more : (b : Bool) → is_started n later ≡ b → Lived (turn ∷ later)
      lived-more true gone = lived-behind gone
      lived-more false here = lived-here here (decided turn.key.cog n)

    lived : (later : List Turn) → Legal asks w (so_far later) → Lived later
    lived [] legal = begins-lived
    lived (turn ∷ later) legal = lived-more later (lived later legal.0) turn legal.1 (is_started n later) refl

  -- ---- all lives

  told-life : (n clock : ℕ) (origin : Origin) (lt : n < 8) → IsOfProject program addresses origin → IsSpin origin → (turns : List Turn) → LifeOf program addresses w world code n clock origin turns → IsTold program addresses w.clocks n origin turns
  told-life n clock (Pasm pcode par) lt of_project spin turns h = absurd spin
  told-life n clock (Spin entry pbase vbase frame size) lt of_project spin turns h =
      follows-told program addresses w.memory n (world.placed n lt) world.fits (code n lt) (clock + 8192) w.clocks (Spin entry pbase vbase frame size) of_project turns h

  -- the turn with which a life begins
  first-of_project : (n : ℕ) (first : Turn) (before : List Turn) → begins_life n first ≡ true → Legal asks w (first ∷ before) → (n < 8) × IsOfProject program addresses (origin_of (cog_state w before n))
  first-of_project n first before begins legal =
      let own : first.key.cog ≡ n = same-cog first.key.cog n (and-left (first.key.cog == n) (is_begin first.access) begins) in
      begun-of_project program addresses w world code before (cogs-are program addresses w world code before legal.0) first legal.1 n (cog_state w before n) (cogs-are program addresses w world code before legal.0 n)
      (subst (λ (m : ℕ). IsNextIn asks w before m (cog_state w before m) first.key.clock first.access) own legal.1.next.next)

  life-told : (n : ℕ) (origin : Origin) (turns later : List Turn) (first : Turn) (before : List Turn) → Legal asks w (later ++ first ∷ before) → begins_life n first ≡ true → origin_of (cog_state w before n) ≡ origin → turns_of_life n later ≡ turns → IsSpin origin → IsTold program addresses w.clocks n origin turns
  life-told n origin turns later first before legal begins started_with are_turns spin =
      let f = first-of_project n first before begins (legal-below later (first ∷ before) legal) in
      let of_project : IsOfProject program addresses origin = subst (IsOfProject program addresses) started_with f.1 in
      told-life n first.key.clock origin f.0 of_project spin turns
      (subst (LifeOf program addresses w world code n first.key.clock origin) are_turns (lived n first before begins origin started_with f.0 of_project later legal).follows)

  pub all-told : (past : List Turn) → Legal asks w past → SpinIsTold program addresses w past
  all-told past legal n origin turns life spin =
      life-told n origin turns life.later life.first life.before (subst (Legal asks w) life.is_past legal) life.begins (sym life.started_with) (sym life.are_turns) spin
