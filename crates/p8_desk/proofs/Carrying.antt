-- What a pass keeps of its cog's life and turns, along a record.
use Rattle.std.proofs.Common.{◌≡◌, ◌≢◌, inl, inr, ⊎_elim, ◌∙◌, ap, sym, subst, refl, ℕ, suc, ◌==◌, ◌<◌, ◌≤◌, ◌||◌, List, [], ◌∷◌, ◌++◌, length, Bool, true, false, arith}
use Rattle.p8_access.specs.declared.order.Turn.{Turn}
use Rattle.p8_access.specs.declared.lives.Next.{Next}
use Rattle.p8_access.specs.Worlds.{World}
use Rattle.p8_access.specs.declared.states.CogState.{CogState}
use Rattle.p8_access.specs.declared.states.CogState.TheVariants.{Stopped}
use Rattle.p8_access.specs.Hub.{cog_state}
use Rattle.p8_access.specs.Histories.{Legal, Extends, Ended}
use Rattle.p8_cog.specs.Lives.{asks}
use Rattle.p8_ledger.specs.declared.ledger.Ledger.{Ledger}
use Rattle.p8_ledger.specs.declared.steps.Step.TheVariants.{Took, Said}
use Rattle.p8_ledger.specs.Records.{Record, turns, mine, said, cog_of, Begins, HasFrontIn}
use Rattle.p8_ledger.specs.Ledgers.{Found}
use Rattle.p8_desk.specs.declared.rider.Rider.{Rider}
use Rattle.p8_desk.specs.declared.rule.Known.{Known}
use Rattle.p8_desk.specs.declared.runner.Runner.{Runner}
use Rattle.p8_desk.specs.declared.turned.Turned.{Turned}
use Rattle.p8_desk.specs.declared.turned.Turned.TheVariants.{Done, Held, After, Ahead, Over}
use Rattle.p8_desk.specs.Rules.{Agrees, AreOf, GoneOn}
use Rattle.p8_desk.specs.Runners.{Rides}
use Rattle.p8_desk.specs.Seats.{Keeps, Carries, is_over, made_by}
use Rattle.p8_desk.specs.Passes.{PassSteps}
use Rattle.p8_desk.specs.Tries.{Speaks, Answers, Got, Tried, seen_by}
use Rattle.p8_desk.proofs.Lookups.{test-same, test-apart}
use Rattle.p8_desk.proofs.Riding.{rides-on}

-- nothing extends an ended history
ended-full : (w : World) (past : List Turn) (turn : Turn) → Ended asks w past → Extends asks w past turn → ⊥
ended-full w past turn e x = ⊎_elim (λ (full : length past ≡ w.turns). (let room : length past < w.turns = x.room in omega arith)) (λ none. none turn.key.cog turn.key.clock turn.access x.next) e.over

pub ended-same : (w : World) (more early : Record) → Legal asks w (turns (more ++ early)) → Ended asks w (turns early) → turns (more ++ early) ≡ turns early
ended-same w [] early legal e = refl
ended-same w (Took turn ∷ more) early legal e =
    let same = ended-same w more early legal.0 e in
    absurd (ended-full w (turns early) turn e (subst (λ (l : List Turn). Extends asks w l turn) same legal.1))
ended-same w (Said cog next ∷ more) early legal e = ended-same w more early legal e

-- what a pass keeps stays right where a record goes on without steps of its cog
pub carries-later : (w : World) (early late : Record) (rider : Rider) → Begins early late → mine rider.cog late ≡ mine rider.cog early → Legal asks w (turns late) → Carries w early rider → Carries w late rider
carries-later w early late rider on own legal was = record {
  rides = rides-on w rider.cog rider.runner early late on own was.rides;
  made = was.made ∙ ap (λ (l : Record). length (turns l)) (sym own);
  few = was.few;
  ended = λ o. (let end = was.ended o in
      let same : turns late ≡ turns early = ap turns (sym on.1) ∙ ended-same w on.0 early (subst (λ (l : Record). Legal asks w (turns l)) (sym on.1) legal) end in
      subst (λ (l : List Turn). Ended asks w l) (sym same) end);
}

pub carries-found : (w : World) (n : ℕ) (r : Record) (p : Known) (rider : Rider) → rider.cog ≡ n → Agrees r n p → Legal asks w (turns r) → Keeps w p rider → Carries w r rider
carries-found w n r p rider cog agrees legal keeps = carries-later w p.seen r rider agrees.seen (ap (λ (m : ℕ). mine m r) cog ∙ sym agrees.own ∙ keeps.own) legal keeps.carries

mine-beside : (n m : ℕ) (more r : Record) → m ≢ n → AreOf n more → mine m (more ++ r) ≡ mine m r
mine-beside n m [] r ne own = refl
mine-beside n m (step ∷ more) r ne own = rw (test-apart (cog_of step) m (λ e. ne (sym e ∙ own.0))) (mine-beside n m more r ne own.1)

pub carries-beside : (w : World) (n : ℕ) (r s : Record) (rider : Rider) → rider.cog ≢ n → GoneOn n r s → Legal asks w (turns s) → Carries w r rider → Carries w s rider
carries-beside w n r s rider ne on legal was = carries-later w r s rider (on.0, on.1) (ap (mine rider.cog) (sym on.1) ∙ mine-beside n rider.cog on.0 r ne on.2) legal was

-- a cog has no more turns than all
mine-few : (n : ℕ) (r : Record) → length (turns (mine n r)) ≤ length (turns r)
mine-few n [] = omega arith
mine-few n (Took turn ∷ r) = by-test (mine-few n r) (turn.key.cog == n) refl
  where
    by-test : length (turns (mine n r)) ≤ length (turns r) → (b : Bool) → (turn.key.cog == n) ≡ b → length (turns (mine n (Took turn ∷ r))) ≤ suc (length (turns r))
    by-test le true t = rw t (omega arith)
    by-test le false t = rw t (omega arith)
mine-few n (Said cog next ∷ r) = by-test (mine-few n r) (cog == n) refl
  where
    by-test : length (turns (mine n r)) ≤ length (turns r) → (b : Bool) → (cog == n) ≡ b → length (turns (mine n (Said cog next ∷ r))) ≤ length (turns r)
    by-test le true t = rw t le
    by-test le false t = rw t le

turns-spoken : (w : World) (n : ℕ) (next : Next) (r s : Record) → Speaks w n next r s → turns s ≡ turns r
turns-spoken w n next r s (inl x) = ap turns x.0
turns-spoken w n next r s (inr x) = ap turns x.0

own-spoken : (w : World) (n : ℕ) (next : Next) (r s : Record) → Speaks w n next r s → turns (mine n s) ≡ turns (mine n r)
own-spoken w n next r s (inl x) = subst (λ (l : Record). turns (mine n l) ≡ turns (mine n r)) (sym x.0) (rw (test-same n n refl) refl)
own-spoken w n next r s (inr x) = ap (λ (l : Record). turns (mine n l)) x.0

or-none : (a : Bool) → (a || false) ≡ a
or-none true = refl
or-none false = refl

-- a pass whose cog has said what it owed and had its answer
module _ (w : World) (n : ℕ) (next : Next) (r s : Record) (speaks : Speaks w n next r s) (old new : Rider) (was : Carries w r old) (same : new.cog ≡ old.cog) (cog : old.cog ≡ n) where
  -- turns of its own, as those that it had
  before : old.made ≡ length (turns (mine n s))
  before = was.made ∙ ap (λ (m : ℕ). length (turns (mine m r))) cog ∙ ap length (sym (own-spoken w n next r s speaks))

  ended-spoken : old.over ≡ true → Ended asks w (turns s)
  ended-spoken o = subst (λ (l : List Turn). Ended asks w l) (sym (turns-spoken w n next r s speaks)) (was.ended o)

  at-cog : (t : Record) → new.made ≡ length (turns (mine n t)) → new.made ≡ length (turns (mine new.cog t))
  at-cog t made = made ∙ ap (λ (m : ℕ). length (turns (mine m t))) (sym (same ∙ cog))

  still : Rides w n s new.runner → new.made ≡ old.made → (new.over ≡ true → Ended asks w (turns s)) → Carries w s new
  still rides made over = record {
    rides = subst (λ (m : ℕ). Rides w m s new.runner) (sym (same ∙ cog)) rides;
    made = at-cog s (made ∙ before);
    few = subst (λ (k : ℕ). k ≤ w.turns) (sym made) was.few;
    ended = over;
  }

  pub carries-answered : (answer : Turned) → Answers w s n answer → Rides w n (seen_by answer s) new.runner → new.made ≡ made_by answer old.made → new.over ≡ (old.over || is_over answer) → Carries w (seen_by answer s) new
  carries-answered (After other bound) a rides made over = still rides made (λ e. ended-spoken (sym (or-none old.over) ∙ sym over ∙ e))
  carries-answered (Ahead bound) a rides made over = still rides made (λ e. ended-spoken (sym (or-none old.over) ∙ sym over ∙ e))
  carries-answered Over a rides made over = still rides made (λ e. a.1)
  carries-answered (Held by) a rides made over = absurd a
  carries-answered (Done turn) a rides made over =
      let room : length (turns s) < w.turns = a.0.room in
      let le : length (turns (mine n s)) ≤ length (turns s) = mine-few n s in
      let here : turns (mine n (Took turn ∷ s)) ≡ turn ∷ turns (mine n s) = rw (test-same turn.key.cog n a.1) refl in
      let more : new.made ≡ length (turns (mine n (Took turn ∷ s))) = made ∙ ap suc before ∙ sym (ap length here) in
      let most : new.made ≤ w.turns = (let x : new.made ≡ suc old.made = made in let y : old.made ≡ length (turns (mine n s)) = before in omega arith) in record {
        rides = subst (λ (m : ℕ). Rides w m (Took turn ∷ s) new.runner) (sym (same ∙ cog)) rides;
        made = at-cog (Took turn ∷ s) more;
        few = most;
        ended = λ e. absurd (ended-full w (turns s) turn (ended-spoken (sym (or-none old.over) ∙ sym over ∙ e)) a.0);
      }

-- a record has gone on by what a cog has said and by its turn
gone-spoken : (w : World) (n : ℕ) (next : Next) (r s : Record) → Speaks w n next r s → GoneOn n r s
gone-spoken w n next r s (inl x) = (Said n next ∷ [], sym x.0, (refl, tt))
gone-spoken w n next r s (inr x) = ([], sym x.0, tt)

pub gone-on : (w : World) (n : ℕ) (next : Next) (r s : Record) (answer : Turned) → Speaks w n next r s → Answers w s n answer → GoneOn n r (seen_by answer s)
gone-on w n next r s (Done turn) speaks a = (let on = gone-spoken w n next r s speaks in (Took turn ∷ on.0, ap (λ (l : Record). Took turn ∷ l) on.1, (a.1, on.2)))
gone-on w n next r s (After other bound) speaks a = gone-spoken w n next r s speaks
gone-on w n next r s (Ahead bound) speaks a = gone-spoken w n next r s speaks
gone-on w n next r s Over speaks a = gone-spoken w n next r s speaks
gone-on w n next r s (Held by) speaks a = absurd a

-- the cog that an answer names is one of the eight
pub named-near : (w : World) (n : ℕ) (s : Record) (other bound : ℕ) → Answers w s n (After other bound) → ((m : ℕ) → 8 ≤ m → cog_state w (turns s) m ≡ Stopped) → other < 8
named-near w n s other bound answers others =
    let none : 8 ≤ other → ⊥ = λ ge. subst (λ (c : CogState). HasFrontIn w (turns s) other c (said other s) bound) (others other ge) answers.1.there in
    omega arith

pub others-spoken : (w : World) (n : ℕ) (next : Next) (r s : Record) (ledger : Ledger) → Speaks w n next r s → Found w ledger r → (m : ℕ) → 8 ≤ m → cog_state w (turns s) m ≡ Stopped
others-spoken w n next r s ledger speaks found m ge = ap (λ (l : List Turn). cog_state w l m) (turns-spoken w n next r s speaks) ∙ found.others m ge

pub named-tried : (w : World) (n : ℕ) (before after : PassSteps) (answer : Turned) (other bound : ℕ) → answer ≡ After other bound → Tried w n before after answer → other < 8
named-tried w n before after answer other bound is tried =
    let g : Got w n before after (After other bound) = subst (Tried w n before after) is tried in
    named-near w n g.s other bound g.answers (others-spoken w n g.next g.r g.s g.value.0 g.speaks g.value.1)

-- its life may run
pub carries-ran : (w : World) (r : Record) (rider : Rider) (runner : Runner) → Carries w r rider → Rides w rider.cog r runner → Carries w r (record rider { runner = runner })
carries-ran w r rider runner was rides = record { rides = rides; made = was.made; few = was.few; ended = was.ended }
