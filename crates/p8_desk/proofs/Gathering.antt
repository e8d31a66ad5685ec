-- All passes in one seat, and the end.
use Rattle.std.proofs.Common.{◌≡◌, ◌≢◌, ◌∙◌, ap, sym, subst, refl, ℕ, zero, suc, ◌+◌, ◌<◌, List, [], ◌∷◌, length, Option, Some, None, arith}
use Rattle.std.specs.Prelude.{slice_get, slice_set, slice_index_or}
use mathlib.Core.Option.{none}
use mathlib.Core.Logic.{dite}
use native.Mathlib.Decide.{ℕ_discrete}
use Rattle.atomic_table.specs.Table.{step as move}
use Rattle.atomic_table.specs.Seated.{TableId}
use Rattle.p8_access.specs.declared.order.Turn.{Turn}
use Rattle.p8_access.specs.Worlds.{World}
use Rattle.p8_access.specs.Histories.{Ended, Legal}
use Rattle.p8_cog.specs.Lives.{asks}
use Rattle.p8_ledger.specs.declared.ledger.Ledger.{Ledger}
use Rattle.p8_ledger.specs.Records.{Record, turns, mine, Begins}
use Rattle.p8_ledger.specs.Ledgers.{Found}
use Rattle.p8_desk.specs.declared.rider.Rider.{Rider}
use Rattle.p8_desk.specs.Gathering.{PartsOf, RidesIn, Gathered, Riding}
use Rattle.p8_desk.specs.PassSets.{AllThere, HasOver}
use Rattle.p8_desk.specs.Passes.{DeskValue, PassValue, PassSteps, Owns}
use Rattle.p8_desk.specs.Rules.{Slot, Hand, known, joined, Seized}
use Rattle.p8_desk.specs.Seats.{Keeps, pass_in, steps_of}
use Rattle.p8_desk.proofs.Lookups.{some-same, known-left, known-right}
use Rattle.p8_desk.proofs.Carrying.{ended-same}

pub set-beside : {A : Type 0} (l : List A) (k n : ℕ) (x : A) → n ≢ k → slice_get (slice_set l k x) n ≡ slice_get l n
set-beside [] k n x ne = refl
set-beside (y ∷ l) zero zero x ne = absurd (ne refl)
set-beside (y ∷ l) zero (suc n) x ne = refl
set-beside (y ∷ l) (suc k) zero x ne = refl
set-beside (y ∷ l) (suc k) (suc n) x ne = set-beside l k n x (λ e. ne (ap suc e))

pub set-there : {A : Type 0} (l : List A) (k : ℕ) (x : A) → k < length l → slice_get (slice_set l k x) k ≡ Some x
set-there [] k x lt = absurd (omega arith)
set-there (y ∷ l) zero x lt = refl
set-there (y ∷ l) (suc k) x lt = set-there l k x (omega arith)

abbrev pub first_slot : List (ℕ × Slot) → Slot
first_slot [] = None
first_slot (x ∷ xs) = x.1

pub some-some : (a b : PassValue) → Some (Some a) ≡ Some (Some b) → a ≡ b
some-some a b e = cc

pub rider-same : (a b : Rider) → Some (Some a) ≡ Some (Some b) → a ≡ b
rider-same a b e = cc

-- the pass at a place, with its seat and what it keeps besides, joins those that a seat has
module _ (desk : DeskValue) (places : List (Option PassValue)) (k : ℕ) (pass : PassValue) (table : TableId) (other : Hand) (rider : Rider) (at : slice_get places k ≡ Some (Some pass)) (owns : Owns desk pass) (cog : pass.cog ≡ k) (parts : PartsOf pass table other rider) where
  own-cog : rider.cog ≡ k
  own-cog = ap (λ (p : PassValue). p.cog) parts.whole ∙ cog

  own-world : Rattle.p8_desk.specs.Rules.world_in other.0.start ≡ desk.world
  own-world = ap (λ (p : PassValue). p.world) parts.whole ∙ owns.world

  one-more : (riders : List (Option Rider)) (me : Hand) → k < length riders → known me.0.passes k ≡ Some (pass_in other rider.cog) → (n : ℕ) (one : PassValue) → n ≡ k → slice_get places n ≡ Some (Some one)
      → (r : RidesIn desk.world me (slice_set riders k (Some rider)) n) × (steps_of r.p ≡ one.steps) × (r.rider.over ≡ one.over)
  one-more riders me room has n one here e =
      let same : pass ≡ one = some-some _ _ (sym at ∙ ap (slice_get places) (sym here) ∙ e) in (
        record {
          p = pass_in other rider.cog;
          rider = rider;
          has = ap (known me.0.passes) here ∙ has;
          there = ap (slice_get (slice_set riders k (Some rider))) here ∙ set-there riders k (Some rider) room;
          cog = own-cog ∙ sym here;
          keeps = subst (λ (w : World). Keeps w (pass_in other rider.cog) rider) own-world parts.seated.keeps;
        },
        ap (λ (p : PassValue). p.steps) (parts.whole ∙ same),
        ap (λ (p : PassValue). p.over) (parts.whole ∙ same),
      )

  pub gather-first : (riders : List (Option Rider)) → k < length riders → k ≡ 0 → Gathered desk.world places (slice_set riders k (Some rider)) 1 other
  gather-first riders room first = record {
    idle = record { live = parts.seated.idle.live; free = parts.seated.idle.free; empty = parts.seated.idle.empty; world = own-world };
    each = λ n one lt e. one-more riders other room (ap (known other.0.passes) (sym own-cog) ∙ parts.seated.has) n one (omega arith) e;
    none_from = λ n le. parts.seated.alone n (λ e. (let here : n ≡ k = e ∙ own-cog in omega arith));
  }

  pub gather-more : (riders : List (Option Rider)) (me : Hand) → k < length riders → Gathered desk.world places riders k me → Gathered desk.world places (slice_set riders k (Some rider)) (k + 1) (joined me.0 other.0, me.1)
  gather-more riders me room g = record {
    idle = record { live = g.idle.live; free = refl; empty = g.idle.empty; world = g.idle.world };
    each = λ n one lt e. dite (ℕ_discrete n k)
        (λ (here : n ≡ k). one-more riders (joined me.0 other.0, me.1) room
        (known-right me.0.passes other.0.passes k (g.none_from k (omega arith)) ∙ ap (known other.0.passes) (sym own-cog) ∙ parts.seated.has) n one here e)
        (λ (apart : n ≢ k).
        let r = g.each n one (omega arith) e in
        let had = r.0 in (
          record {
            p = had.p;
            rider = had.rider;
            has = known-left me.0.passes other.0.passes n had.p had.has;
            there = set-beside riders k n (Some rider) apart ∙ had.there;
            cog = had.cog;
            keeps = had.keeps;
          },
          r.1,
          r.2,
        ));
    none_from = λ n le. known-right me.0.passes other.0.passes n (g.none_from n (omega arith)) ∙ parts.seated.alone n (λ e. (let here : n ≡ k = e ∙ own-cog in omega arith));
  }

-- a seat with all passes
pub riding-all : (desk : DeskValue) (places : List (Option PassValue)) (riders : List (Option Rider)) (me : Hand) → AllThere desk places → Gathered desk.world places riders 8 me → Riding desk.world me riders
riding-all desk places riders me there g = record { idle = g.idle; each = λ n lt. (let p = there.each n lt in (g.each n p.0 lt p.1).0) }

-- it finds the lock word free
pub found-free : (w : World) (riders : List (Option Rider)) (me after : Hand) (found : ℕ) → Riding w me riders → Seized (move 1 0 0 1 none) me found after → found ≡ 0
found-free w riders me after zero g h = refl
found-free w riders me after (suc m) g h =
    let lt : m < 8 = h.3 in
    let q = g.each m lt in
    absurd (h.5 q.p q.has)

-- what a closed desk has
pub record Ending (w : World) (places : List (Option PassValue)) (ledger : Ledger) : Type 0 where
  pub r : Record
  pub each : (n : ℕ) (pass : PassValue) → slice_get places n ≡ Some (Some pass) → Begins pass.steps.seen r × (mine n r ≡ pass.steps.own)
  pub ended : Ended asks w (turns r)
  pub found : Found w ledger r

pub at-below : {A : Type 0} (l : List A) (n : ℕ) (x : A) → slice_get l n ≡ Some x → n < length l
at-below [] n x e = absurd (cc)
at-below (y ∷ l) zero x e = omega arith
at-below (y ∷ l) (suc n) x e = let lt = at-below l n x e in omega arith

pub ending : (desk : DeskValue) (places : List (Option PassValue)) (riders : List (Option Rider)) (me after : Hand) (ledger : Ledger) → length places ≡ 8 → Gathered desk.world places riders 8 me → Seized (move 1 0 0 1 none) me 0 after → after.1 ≡ (0, Some ledger) ∷ [] → HasOver places → Ending desk.world places ledger
ending desk places riders me after ledger eight g h out over =
    let r = h.0 in
    let same : h.1 ≡ ledger = some-same _ _ (ap first_slot (ap (λ (a : Hand). a.1) (sym h.4) ∙ out)) in
    let found : Found desk.world ledger r = subst (λ (y : World × Ledger). Found y.0 y.1 r) (λ i. (g.idle.world i, same i)) h.5 in
    let below : (n : ℕ) (pass : PassValue) → slice_get places n ≡ Some (Some pass) → n < 8 = λ n pass e. (let lt = at-below places n (Some pass) e in omega arith) in
    let o = g.each over.0 over.1 (below over.0 over.1 over.2) over.2 in
    let one = o.0 in
    let a = h.7 over.0 one.p one.has in
    let seen : Begins one.p.seen r = a.seen in
    let end : Ended asks desk.world (turns one.p.seen) = one.keeps.carries.ended (o.2 ∙ over.3) in
    let done : turns r ≡ turns one.p.seen = ap turns (sym seen.1) ∙ ended-same desk.world seen.0 one.p.seen (subst (λ (l : Record). Legal asks desk.world (turns l)) (sym seen.1) found.legal) end in record {
      r = r;
      each = λ n pass e. (let q = g.each n pass (below n pass e) e in let b = h.7 n (q.0).p (q.0).has in
          subst (λ (s : PassSteps). Begins s.seen r × (mine n r ≡ s.own)) q.1 (b.seen, sym b.own));
      ended = subst (λ (l : List Turn). Ended asks desk.world l) (sym done) end;
      found = found;
    }

-- what stands at a place that is read
pub index-of : {A : Type 0} (l : List A) (n : ℕ) (x d : A) → slice_get l n ≡ Some x → slice_index_or l n d ≡ x
index-of [] n x d e = absurd (cc)
index-of (y ∷ l) zero x d e = some-same y x e
index-of (y ∷ l) (suc n) x d e = index-of l n x d e
