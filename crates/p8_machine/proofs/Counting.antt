-- The counter of a turn is that of its cog's life, and what a cog asks next is what it has said last.
use Rattle.std.proofs.Common.{◌≡◌, sym, subst, refl, ap, ℕ, ◌<◌, Bool, true, false, List, Option, Some, None, slice_get, length, arith}
use Rattle.p8_access.specs.declared.kinds.Access.{Access}
use Rattle.p8_access.specs.declared.kinds.Origin.{Origin}
use Rattle.p8_access.specs.declared.lives.Next.{Next}
use Rattle.p8_access.specs.declared.lives.Next.TheVariants.{At, Quiet, More}
use Rattle.p8_access.specs.declared.order.Turn.{Turn}
use Rattle.p8_access.specs.declared.states.CogState.{CogState}
use Rattle.p8_access.specs.declared.states.CogState.TheVariants.{Stopped, Starting, Running}
use Rattle.p8_access.specs.Lives.{Begun, IsAnnounced, announced_by}
use Rattle.p8_access.specs.Worlds.{World}
use Rattle.p8_access.specs.Hub.{cog_state}
use Rattle.p8_access.specs.Histories.{since_begin}
use Rattle.p8_bcog.specs.Counters.{IsAnnouncing}
use Rattle.p8_cog.specs.Counters.{IsCounterOf}
use Rattle.p8_cog.specs.declared.cog_life.CogLife.{CogLife}
use Rattle.p8_cog.specs.Lives.{asks}
use Rattle.p8_bcog.specs.Stops.{is_access}
use Rattle.p8_cog.specs.WholeLives.{stands_for}
use Rattle.p8_ledger.specs.declared.ledger.Ledger.{Ledger}
use Rattle.p8_ledger.specs.Advances.{HasMade}
use Rattle.p8_ledger.specs.Seats.{Sits, SitsIn}
use Rattle.p8_ledger.specs.Standing.{FitsState}
use Rattle.p8_ledger.specs.Records.{Record, turns, said}
use Rattle.p8_ledger.proofs.Rows.{some-at}
use Rattle.p8_machine.specs.Asked.{IsNextAsked}
use Rattle.p8_machine.specs.Counted.{HasCounter, IsCounterIn}
use Rattle.p8_machine.specs.Places.{AreAnnounced, Counts, HasAnnounced}
use Rattle.p8_cog.specs.WholeLives.{announced_in}
use Rattle.p8_machine.specs.Standing.{has_spoken, Stands}
use Rattle.p8_machine.proofs.Announced.{is-announced}

announcing : (asked : Option (ℕ × Access)) (turn : Turn) → IsAnnounced asked turn → IsAnnouncing asked
announcing None turn is = absurd is
announcing (Some asked) turn is = tt

-- by what the cog of a turn is doing before it
counter-in : (running : Bool) (state : CogState) (w : World) (past : List Turn) (n : ℕ) (life : CogLife) (next : Next) (counter : Option ℕ) → FitsState running state → SitsIn asks (has_spoken life next) next w past n state → (running ≡ true → (b : Begun) (ts : List Turn) → stands_for life b ts → IsCounterOf w.memory b ts counter) → (running ≡ false → counter ≡ None) → IsCounterIn w past n state counter
counter-in true (Running origin) w past n life next counter fits sits counts none = (sits.life, sits.began, counts refl sits.life (since_begin past n) sits.stood.0)
counter-in true (Starting since origin) w past n life next counter fits sits counts none = absurd fits
counter-in true Stopped w past n life next counter fits sits counts none = absurd fits
counter-in false (Running origin) w past n life next counter fits sits counts none = absurd fits
counter-in false (Starting since origin) w past n life next counter fits sits counts none = none refl
counter-in false Stopped w past n life next counter fits sits counts none = absurd fits

-- the counter that the life of a turn's cog has before it takes the turn is the turn's
pub turn-counter : (w : World) (r : Record) (old new : Ledger) (lives : List CogLife) → Stands w r old lives → AreAnnounced old.sayings lives → length lives ≡ 8 → (turn : Turn) (running : Bool) → HasMade old new turn running → FitsState running (cog_state w (turns r) turn.key.cog) → (counter : Option ℕ) → ((life : CogLife) → running ≡ true → slice_get lives turn.key.cog ≡ Some life → Counts w.memory life counter) → (running ≡ false → counter ≡ None) → IsCounterIn w (turns r) turn.key.cog (cog_state w (turns r) turn.key.cog) counter
turn-counter w r old new lives stands announced eight turn running made fits counter counts none =
    let life = some-at lives turn.key.cog (let near : turn.key.cog < 8 = made.cog in omega (arith, eight)) in
    counter-in running (cog_state w (turns r) turn.key.cog) w (turns r) turn.key.cog life.0 (said turn.key.cog r) counter fits (stands.seated turn.key.cog life.0 life.1) (λ runs b ts stood. counts life.0 runs life.1 b ts stood (announcing (announced_in life.0) turn (is-announced old new turn running lives made announced life.0 runs life.1))) none

pub next-asked : (w : World) (r : Record) (ledger : Ledger) (lives : List CogLife) → Stands w r ledger lives → (n : ℕ) (life : CogLife) → slice_get lives n ≡ Some life → (origin : Origin) → cog_state w (turns r) n ≡ Running origin → (next : Next) → next ≡ said n r → IsNextAsked w (turns r) n (cog_state w (turns r) n) next
next-asked w r ledger lives stands n life at origin runs next is =
    let sits : Sits asks (has_spoken life (said n r)) (said n r) w (turns r) n = subst (λ (s : CogState). SitsIn asks (has_spoken life (said n r)) (said n r) w (turns r) n s) runs (stands.seated n life at) in
    subst (λ (x : Next). IsNextAsked w (turns r) n (cog_state w (turns r) n) x) (sym is)
    (subst (λ (s : CogState). IsNextAsked w (turns r) n s (said n r)) (sym runs) (sits.life, sits.began, sits.told, sits.stood.1))

-- a cog that asks an access runs, and the counter is its life's
counter-asked : (w : World) (past : List Turn) (n : ℕ) (state : CogState) (life : CogLife) (next : Next) (clock : ℕ) (access : Access) (counter : Option ℕ) → SitsIn asks (has_spoken life next) next w past n state
    → ((b : Begun) (ts : List Turn) → stands_for life b ts → IsCounterOf w.memory b ts counter) → IsNextAsked w past n state (At clock access) → HasCounter w past n state (At clock access) counter
counter-asked w past n (Running origin) life next clock access counter sits counts asked = (sits.life, sits.began, counts sits.life (since_begin past n) sits.stood.0)
counter-asked w past n (Starting since origin) life next clock access counter sits counts asked = absurd (let x : At clock access ≡ Quiet = asked in cc)
counter-asked w past n Stopped life next clock access counter sits counts asked = absurd (let x : At clock access ≡ Quiet = asked in cc)

-- the counter that the life of a cog has, which has said its next access, is that of this access
said-announced : (life : CogLife) (clock : ℕ) (access : Access) (next : Next) → HasAnnounced life next → next ≡ At clock access → IsAnnouncing (announced_in life)
said-announced life clock access next has is =
    subst IsAnnouncing (sym (has (clock, access) (ap announced_by is))) tt

by-saying : (w : World) (past : List Turn) (n : ℕ) (life : CogLife) (said next : Next) (told : Bool) (counter : Option ℕ) → next ≡ said → HasAnnounced life said → SitsIn asks (has_spoken life said) said w past n (cog_state w past n)
    → told ≡ is_access next → (told ≡ true → Counts w.memory life counter) → (told ≡ false → counter ≡ None) → IsNextAsked w past n (cog_state w past n) next → HasCounter w past n (cog_state w past n) next counter
by-saying w past n life said (At clock access) told counter is announced sits test counts none asked =
    counter-asked w past n (cog_state w past n) life said clock access counter sits (λ b ts stood. counts test b ts stood (said-announced life clock access said announced (sym is))) asked
by-saying w past n life said Quiet told counter is announced sits test counts none asked = none test
by-saying w past n life said (More bound) told counter is announced sits test counts none asked = none test

pub next-counter : (w : World) (r : Record) (ledger : Ledger) (lives : List CogLife) → Stands w r ledger lives → AreAnnounced ledger.sayings lives → (n : ℕ) → n < 8 → (life : CogLife) → slice_get lives n ≡ Some life
    → (next : Next) → next ≡ said n r → (told : Bool) → told ≡ is_access next → (counter : Option ℕ) → (told ≡ true → Counts w.memory life counter) → (told ≡ false → counter ≡ None)
    → IsNextAsked w (turns r) n (cog_state w (turns r) n) next → HasCounter w (turns r) n (cog_state w (turns r) n) next counter
next-counter w r ledger lives stands announced n below life at next is told test counter counts none asked =
    by-saying w (turns r) n life (said n r) next told counter is (announced n life (said n r) at (stands.found.sayings n below)) (stands.seated n life at) test counts none asked
