-- What is said is what the lives have announced.
use Rattle.std.proofs.Common.{◌≡◌, ◌∙◌, ap, sym, subst, refl, ℕ, suc, ◌+◌, ◌<◌, Bool, true, List, [], ◌∷◌, ◌++◌, reverse, Option, Some, None, slice_get, slice_set, length, inl, inr, arith}
use Rattle.std.proofs.lemmas.List.{length-reverse}
use Rattle.std.proofs.lemmas.Option.{slice_get_within}
use Rattle.p8_access.specs.declared.kinds.Access.{Access}
use Rattle.p8_access.specs.declared.kinds.Origin.{Origin}
use Rattle.p8_access.specs.declared.lives.Next.{Next}
use Rattle.p8_access.specs.declared.lives.Next.TheVariants.{At, Quiet, More}
use Rattle.p8_access.specs.declared.order.Turn.{Turn}
use Rattle.p8_access.specs.Lives.{announced_by, IsAnnounced}
use Rattle.p8_access.specs.declared.states.CogState.{CogState}
use Rattle.p8_access.specs.declared.states.CogState.TheVariants.{Running}
use Rattle.p8_access.specs.Worlds.{World}
use Rattle.p8_access.specs.Hub.{cog_state}
use Rattle.p8_access.proofs.Changes.{decided, same-cog, differ-cog}
use Rattle.p8_cog.specs.declared.cog_life.CogLife.{CogLife}
use Rattle.p8_cog.specs.Lives.{asks}
use Rattle.p8_ledger.specs.declared.ledger.Ledger.{Ledger}
use Rattle.p8_ledger.specs.declared.ledger.First.{First}
use Rattle.p8_ledger.specs.declared.ledger.First.TheVariants.{Done, Ahead, Over}
use Rattle.p8_ledger.specs.Advances.{HasMade, Advances, HasSaid}
use Rattle.p8_ledger.specs.Seats.{Sits, SitsIn}
use Rattle.p8_ledger.specs.Records.{Record, turns, said}
use Rattle.p8_ledger.proofs.Stepping.{reverse-push}
use Rattle.p8_ledger.proofs.Rows.{some-at, set-there, set-else}
use Rattle.p8_machine.specs.Places.{IsSpoken, SameBut, HasAnnounced, AreAnnounced}
use Rattle.p8_cog.specs.WholeLives.{announced_in}
use Rattle.p8_machine.specs.Standing.{has_spoken, Stands, Comes}

none-some : {A : Type 0} → (asked : ℕ × Access) → None ≡ Some asked → A
none-some asked e = absurd cc

-- a turn takes back what its cog had said
made-announced : (old new : Ledger) (turn : Turn) (running : Bool) (lives : List CogLife) → HasMade old new turn running → AreAnnounced old.sayings lives → AreAnnounced new.sayings lives
made-announced old new turn running lives made announced n life saying at there asked is =
    let sayings = subst (λ (xs : List Next). slice_get xs n ≡ Some saying) made.sayings there in
    elim (decided n turn.key.cog) [
      | inl own ↦
          (let here = subst (λ (m : ℕ). slice_get (slice_set old.sayings turn.key.cog (More (turn.key.clock + 1))) m ≡ Some saying) (same-cog n turn.key.cog own) sayings in
          let more : saying ≡ More (turn.key.clock + 1) = set-there old.sayings turn.key.cog (More (turn.key.clock + 1)) saying here in
          none-some asked (sym (ap announced_by more) ∙ is))
      | inr other ↦ announced n life saying at (set-else old.sayings turn.key.cog n (More (turn.key.clock + 1)) saying (differ-cog n turn.key.cog other) sayings) asked is
    ]

pub kept-announced : (old new : Ledger) (first : First) (lives : List CogLife) → Advances old new first → AreAnnounced old.sayings lives → AreAnnounced new.sayings lives
kept-announced old new (Done turn running) lives made announced = made-announced old new turn running lives made announced
kept-announced old new (Ahead n bound) lives same announced = subst (λ (ledger : Ledger). AreAnnounced ledger.sayings lives) (sym same.1) announced
kept-announced old new Over lives same announced = subst (λ (ledger : Ledger). AreAnnounced ledger.sayings lives) (sym same) announced

-- a cog says what its life has announced
pub said-announced : (old new : Ledger) (cog : ℕ) (next : Next) (before after : List CogLife) → HasSaid old new cog next → SameBut cog before after → ((life : CogLife) → slice_get after cog ≡ Some life → HasAnnounced life next) → AreAnnounced old.sayings before → AreAnnounced new.sayings after
said-announced old new cog next before after has_said same own announced n life saying at there asked is =
    let sayings = subst (λ (xs : List Next). slice_get xs n ≡ Some saying) has_said.sayings there in
    elim (decided n cog) [
      | inl own_is ↦
          (let n_is : n ≡ cog = same-cog n cog own_is in
          let here = subst (λ (m : ℕ). slice_get (slice_set old.sayings cog next) m ≡ Some saying) n_is sayings in
          let next_is : saying ≡ next = set-there old.sayings cog next saying here in
          own life (subst (λ (m : ℕ). slice_get after m ≡ Some life) n_is at) asked (sym (ap announced_by next_is) ∙ is))
      | inr other ↦
          (let differ = differ-cog n cog other in
          announced n life saying (same n life differ at) (set-else old.sayings cog n next saying differ sayings) asked is)
    ]

-- the last turn of the log is the newest of the past
pub newest-past : (log before : List Turn) (newest turn : Turn) (past : List Turn) → log ≡ before ++ newest ∷ [] → reverse log ≡ turn ∷ past → newest ≡ turn
newest-past log before newest turn past is past_is =
    let same : newest ∷ reverse before ≡ turn ∷ past = sym (reverse-push before newest) ∙ sym (ap reverse is) ∙ past_is in
    cc

pub same-turn : (a b : Turn) (past : List Turn) → a ∷ past ≡ b ∷ past → a ≡ b
same-turn a b past e = cc

pub some-past : (log : List Turn) (turn : Turn) (past : List Turn) → reverse log ≡ turn ∷ past → 0 < length log
some-past log turn past is =
    let many : length log ≡ suc (length past) = sym (length-reverse log) ∙ ap length is in
    omega arith

pub made-past : (old new : Ledger) (turn : Turn) (running : Bool) → HasMade old new turn running → reverse new.turns.list ≡ turn ∷ reverse old.turns.list
made-past old new turn running made = ap reverse made.log ∙ reverse-push old.turns.list turn

-- the turn that was made is the last of the log
pub newest-made : (old new : Ledger) (turn newest : Turn) (running : Bool) (before : List Turn) → HasMade old new turn running → new.turns.list ≡ before ++ newest ∷ [] → HasMade old new newest running
newest-made old new turn newest running before made is =
    subst (λ (t : Turn). HasMade old new t running) (sym (newest-past new.turns.list before newest turn (reverse old.turns.list) is (made-past old new turn running made))) made

-- so it is that turn's cog that is in hand
pub newest-cog : (old new : Ledger) (turn newest : Turn) (running : Bool) (before : List Turn) (cog : ℕ) → HasMade old new turn running → new.turns.list ≡ before ++ newest ∷ [] → cog ≡ turn.key.cog → cog ≡ newest.key.cog
newest-cog old new turn newest running before cog made is cog_is =
    cog_is ∙ ap (λ (t : Turn). t.key.cog) (sym (newest-past new.turns.list before newest turn (reverse old.turns.list) is (made-past old new turn running made)))

pub newest-comes : (w : World) (r : Record) (ledger : Ledger) (lives : List CogLife) (turn newest : Turn) (running : Bool) (before : List Turn) → ledger.turns.list ≡ before ++ newest ∷ [] → Comes w r ledger lives turn running → Comes w r ledger lives newest running
newest-comes w r ledger lives turn newest running before is comes =
    subst (λ (t : Turn). Comes w r ledger lives t running) (sym (newest-past ledger.turns.list before newest turn (turns r) is comes.found.log)) comes

-- a turn that was made is one that its cog's life has announced
pub is-announced : (old new : Ledger) (turn : Turn) (running : Bool) (lives : List CogLife) → HasMade old new turn running → AreAnnounced old.sayings lives → (life : CogLife) → running ≡ true → slice_get lives turn.key.cog ≡ Some life → IsAnnounced (announced_in life) turn
is-announced old new turn running lives made announced life runs at = by-said (announced_by saying.0) refl (made.announced saying.0 runs saying.1) where
  saying : (s : Next) × (slice_get old.sayings turn.key.cog ≡ Some s)
  saying = some-at old.sayings turn.key.cog (let near : turn.key.cog < 8 = made.cog in omega (arith, old.eight))

  by-said : (o : Option (ℕ × Access)) → announced_by saying.0 ≡ o → IsAnnounced o turn → IsAnnounced (announced_in life) turn
  by-said None is own = absurd own
  by-said (Some asked) is own = subst (λ (o : Option (ℕ × Access)). IsAnnounced o turn) (sym (announced turn.key.cog life saying.0 at saying.1 asked is)) own

-- no cog that runs has said a promise last
pub no-promise : (w : World) (r : Record) (ledger : Ledger) (lives : List CogLife) → Stands w r ledger lives → length lives ≡ 8 → (n bound : ℕ) (origin : Origin) → n < 8 → cog_state w (turns r) n ≡ Running origin → said n r ≡ More bound → ⊥
no-promise w r ledger lives stands eight n bound origin near state is =
    let life = some-at lives n (omega arith) in
    let sits : Sits asks (has_spoken life.0 (said n r)) (said n r) w (turns r) n = subst (λ (s : CogState). SitsIn asks (has_spoken life.0 (said n r)) (said n r) w (turns r) n s) state (stands.seated n life.0 life.1) in
    subst IsSpoken is sits.stood.1

-- where nothing has been said nothing is announced
none-asked : (said : Next) → Some said ≡ Some (More 0) → (asked : ℕ × Access) → announced_by said ≡ Some asked → ⊥
none-asked (At clock access) same asked told = absurd (cc)
none-asked Quiet same asked told = absurd (cc)
none-asked (More bound) same asked told = absurd (cc)

pub nothing-announced : (sayings : List Next) → length sayings ≡ 8 → ((n : ℕ) → n < 8 → slice_get sayings n ≡ Some (More 0)) → (n : ℕ) (said : Next) → slice_get sayings n ≡ Some said → (asked : ℕ × Access) → announced_by said ≡ Some asked → ⊥
nothing-announced sayings eight silent n said is asked told =
    let within : n < 8 = subst (λ (k : ℕ). n < k) eight (slice_get_within sayings n said is) in
    none-asked said (sym is ∙ silent n within) asked told
