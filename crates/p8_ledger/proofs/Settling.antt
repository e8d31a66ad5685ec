-- What the turn of a cog leaves of its own seat.
use Rattle.std.proofs.Common.{◌≡◌, ◌∙◌, ap, sym, subst, refl, ℕ, ◌+◌, ◌*◌, ◌≤◌, ◌==◌, Bool, true, false, nat_le, List, [], ◌∷◌, Some, arith, if◌then◌else◌}
use Rattle.std.proofs.lemmas.Bool.Decides.{nat_tests}
use Rattle.p8_access.specs.declared.kinds.Origin.{Origin}
use Rattle.p8_access.specs.declared.kinds.Origin.TheVariants.{Pasm, Spin}
use Rattle.p8_access.specs.declared.kinds.Reason.TheVariants.{Rom}
use Rattle.p8_access.specs.declared.kinds.Access.{Access}
use Rattle.p8_access.specs.declared.kinds.Access.TheVariants.{Begin, Load, Halt}
use Rattle.p8_access.specs.declared.order.Turn.{Turn}
use Rattle.p8_access.specs.declared.lives.Next.{Next}
use Rattle.p8_access.specs.Lives.{Begun, Tells}
use Rattle.p8_access.specs.declared.states.CogState.{CogState}
use Rattle.p8_access.specs.declared.states.CogState.TheVariants.{Stopped, Starting, Running}
use Rattle.p8_access.specs.Worlds.{World}
use Rattle.p8_access.specs.Hub.{Change, Runs, Stops, change_by, change_of, changed, cog_state, origin_of}
use Rattle.p8_access.specs.Histories.{begins_life, is_begin, begun_at, first_access}
use Rattle.p8_access.proofs.Changes.{begun-new, since_begin-new, own-test}
use Rattle.p8_cog.specs.Lives.{begun_by}
use Rattle.p8_ledger.specs.Seats.{Sits, SitsIn}

-- the 496 longs of PASM stand below $8000
abbrev pub HasRoom : Origin → Type 0
HasRoom (Pasm code par) = code + 4 * 496 ≤ 32768
HasRoom (Spin entry pbase vbase frame size) = Unit {0}

fits-code : (code : ℕ) → nat_le (code + 4 * 496) 32768 ≡ true → code + 4 * 496 ≤ 32768
fits-code code e = grind (arith, nat_tests)

-- a start's first turn and what it changes
load-changes : (n clock cog : ℕ) (answer : _) → (cog == n) ≡ true → change_by n clock cog Load answer ≡ Some Runs
load-changes n clock cog answer own = rw own refl

begin-changes : (n clock cog : ℕ) (answer : _) → (cog == n) ≡ true → change_by n clock cog Begin answer ≡ Some Runs
begin-changes n clock cog answer own = rw own refl

halt-changes : (n clock cog : ℕ) (answer : _) → (cog == n) ≡ true → change_by n clock cog (Halt (Rom 32768)) answer ≡ Some Stops
halt-changes n clock cog answer own = rw own refl

module _ (asked : Begun → List Turn → ℕ → Access → Type 0) (stands : Begun → List Turn → Type 0) (said : Next) (w : World) (past : List Turn) (turn : Turn) (n : ℕ) where
  -- in a state that isn't running there is nothing to show
  pub idle-sits : (state : CogState) → ((origin : Origin) → state ≡ Running origin → SitsIn asked stands said w (turn ∷ past) n state) → SitsIn asked stands said w (turn ∷ past) n state
  idle-sits Stopped running = tt
  idle-sits (Starting since origin) running = tt
  idle-sits (Running origin) running = running origin refl

  module _ (own : turn.key.cog ≡ n) (since : ℕ) where
    after : (origin : Origin) (change : Change) → cog_state w past n ≡ Starting since origin → change_of n turn ≡ Some change → cog_state w (turn ∷ past) n ≡ changed (Starting since origin) (Some change)
    after origin change state change_is = λ i. changed (state i) (change_is i)

    origin-is : (origin : Origin) → cog_state w past n ≡ Starting since origin → origin_of (cog_state w past n) ≡ origin
    origin-is origin state = ap origin_of state

    begins : is_begin turn.access ≡ true → begins_life n turn ≡ true
    begins is = rw (own-test turn.key.cog n own, is) refl

    runs-sits : (origin : Origin) → cog_state w past n ≡ Starting since origin → is_begin turn.access ≡ true → change_of n turn ≡ Some Runs → (cog_state w (turn ∷ past) n ≡ Running origin → stands (begun_at w n turn.key.clock origin) [] × Tells (asked (begun_at w n turn.key.clock origin) []) w.clocks said) → SitsIn asked stands said w (turn ∷ past) n (cog_state w (turn ∷ past) n)
    runs-sits origin state begin change lives =
        let is : begins_life n turn ≡ true = begins begin in
        let none = since_begin-new w past turn n is in
        let runs : cog_state w (turn ∷ past) n ≡ Running origin = after origin Runs state change in
        let lived = lives runs in
        let sits : Sits asked stands said w (turn ∷ past) n = record {
          life = begun_at w n turn.key.clock origin;
          began = begun-new w past turn n is ∙ ap (λ (o : Origin). Some (begun_at w n turn.key.clock o)) (origin-is origin state);
          stood = subst (λ (ts : List Turn). stands (begun_at w n turn.key.clock origin) ts) (sym none) lived.0;
          told = subst (λ (ts : List Turn). Tells (asked (begun_at w n turn.key.clock origin) ts) w.clocks said) (sym none) lived.1;
        } in
        subst (λ (s : CogState). SitsIn asked stands said w (turn ∷ past) n s) (sym runs) sits

    halted-sits : (origin : Origin) → cog_state w past n ≡ Starting since origin → turn.access ≡ Halt (Rom 32768) → SitsIn asked stands said w (turn ∷ past) n (cog_state w (turn ∷ past) n)
    halted-sits origin state halt =
        let change : change_of n turn ≡ Some Stops = ap (λ (a : Access). change_by n turn.key.clock turn.key.cog a turn.answer) halt ∙ halt-changes n turn.key.clock turn.key.cog turn.answer (own-test turn.key.cog n own) in
        subst (λ (s : CogState). SitsIn asked stands said w (turn ∷ past) n s) (sym (after origin Stops state change)) tt

    load-sits : (origin : Origin) → cog_state w past n ≡ Starting since origin → turn.access ≡ Load → (cog_state w (turn ∷ past) n ≡ Running origin → stands (begun_at w n turn.key.clock origin) [] × Tells (asked (begun_at w n turn.key.clock origin) []) w.clocks said) → SitsIn asked stands said w (turn ∷ past) n (cog_state w (turn ∷ past) n)
    load-sits origin state load lives =
        runs-sits origin state (ap is_begin load) (ap (λ (a : Access). change_by n turn.key.clock turn.key.cog a turn.answer) load ∙ load-changes n turn.key.clock turn.key.cog turn.answer (own-test turn.key.cog n own)) lives

    begin-sits : (origin : Origin) → cog_state w past n ≡ Starting since origin → turn.access ≡ Begin → (cog_state w (turn ∷ past) n ≡ Running origin → stands (begun_at w n turn.key.clock origin) [] × Tells (asked (begun_at w n turn.key.clock origin) []) w.clocks said) → SitsIn asked stands said w (turn ∷ past) n (cog_state w (turn ∷ past) n)
    begin-sits origin state begin lives =
        runs-sits origin state (ap is_begin begin) (ap (λ (a : Access). change_by n turn.key.clock turn.key.cog a turn.answer) begin ∙ begin-changes n turn.key.clock turn.key.cog turn.answer (own-test turn.key.cog n own)) lives

    pasm-sits : (code par : ℕ) (fits : Bool) → nat_le (code + 4 * 496) 32768 ≡ fits → cog_state w past n ≡ Starting since (Pasm code par) → turn.access ≡ (if fits then Load else Halt (Rom 32768)) → (HasRoom (Pasm code par) → is_begin turn.access ≡ true → cog_state w (turn ∷ past) n ≡ Running (Pasm code par) → stands (begun_at w n turn.key.clock (Pasm code par)) [] × Tells (asked (begun_at w n turn.key.clock (Pasm code par)) []) w.clocks said) → SitsIn asked stands said w (turn ∷ past) n (cog_state w (turn ∷ past) n)
    pasm-sits code par true fits state access lives = load-sits (Pasm code par) state access (lives (fits-code code fits) (ap is_begin access))
    pasm-sits code par false fits state access lives = halted-sits (Pasm code par) state access

    -- the first turn of a cog that was starting
    pub start-sits : (origin : Origin) → cog_state w past n ≡ Starting since origin → turn.access ≡ first_access origin → (HasRoom origin → is_begin turn.access ≡ true → cog_state w (turn ∷ past) n ≡ Running origin → stands (begun_at w n turn.key.clock origin) [] × Tells (asked (begun_at w n turn.key.clock origin) []) w.clocks said) → SitsIn asked stands said w (turn ∷ past) n (cog_state w (turn ∷ past) n)
    start-sits (Pasm code par) state access lives = pasm-sits code par (nat_le (code + 4 * 496) 32768) refl state access lives
    start-sits (Spin entry pbase vbase frame size) state access lives = begin-sits (Spin entry pbase vbase frame size) state access (lives tt (ap is_begin access))

-- what the life of a world's cog begins with
pub begun-same : (w : World) (n clock : ℕ) (origin : Origin) → begun_by w.memory origin n clock ≡ begun_at w n clock origin
begun-same w n clock (Pasm code par) = refl
begun-same w n clock (Spin entry pbase vbase frame size) = refl
