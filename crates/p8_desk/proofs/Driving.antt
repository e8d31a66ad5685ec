-- One try of a cog by a seat that has all passes.
use Rattle.std.proofs.Common.{◌≡◌, ◌≢◌, ◌∙◌, ap, sym, subst, refl, ℕ, suc, ◌<◌, ◌||◌, List, [], ◌∷◌, ◌++◌, length, Bool, true, false, Option, Some, arith}
use Rattle.std.specs.Prelude.{slice_get, slice_set, slice_index_or}
use mathlib.Core.Logic.{dite}
use native.Mathlib.Decide.{ℕ_discrete}
use Rattle.p8_access.specs.Worlds.{World}
use Rattle.p8_ledger.specs.Records.{Record, turns, mine, cog_of}
use Rattle.p8_desk.specs.declared.rider.Rider.{Rider}
use Rattle.p8_desk.specs.declared.rule.Known.{Known}
use Rattle.p8_desk.specs.declared.turned.Turned.{Turned}
use Rattle.p8_desk.specs.declared.turned.Turned.TheVariants.{Done, Held, After, Ahead, Over}
use Rattle.p8_desk.specs.Gathering.{left_to_do, next_cog, RidesIn, Riding, HasRode}
use Rattle.p8_desk.specs.Rules.{Hand, known, of_same_cog, with_seen, seizing, seen_as}
use Rattle.p8_desk.specs.Seats.{Keeps, Rode, TookDesk, pass_in, or_new, Carries, is_over}
use Rattle.p8_desk.specs.Tries.{Answers, seen_by}
use Rattle.p8_desk.proofs.Carrying.{carries-found, carries-beside, gone-on, named-near, others-spoken}
use Rattle.p8_desk.proofs.Gathering.{set-beside, set-there, at-below, index-of, rider-same}
use Rattle.p8_desk.proofs.Lookups.{some-same, none-some, known-changed, known-beside, known-cog, known-all-seen, known-seen}
use Rattle.p8_desk.proofs.Remaining.{tries-fall}

or-right : (a b : Bool) → b ≡ true → (a || b) ≡ true
or-right true b e = refl
or-right false b e = e

-- the rider that is read at a cog's place
module _ (w : World) (n : ℕ) (near : n < 8) (me : Hand) (riders : List (Option Rider)) (riding : Riding w me riders) (rider : Rider) (d : Option Rider) (read : slice_index_or riders n d ≡ Some rider) where
  one : RidesIn w me riders n
  one = riding.each n near

  at : slice_get riders n ≡ Some (Some rider)
  at = one.there ∙ ap Some (sym (index-of riders n (Some one.rider) d one.there) ∙ read)

  same : one.rider ≡ rider
  same = rider-same _ _ (sym one.there ∙ at)

  pub its-cog : rider.cog ≡ n
  its-cog = ap (λ (r : Rider). r.cog) (sym same) ∙ one.cog

  pub its-pass : (p : Known) × (known me.0.passes rider.cog ≡ Some p) × Keeps w p rider
  its-pass = (one.p, ap (known me.0.passes) its-cog ∙ one.has, subst (Keeps w one.p) same one.keeps)

  module _ (after : Hand) (new : Rider) (count : ℕ) (answer : Turned) (cog : new.cog ≡ rider.cog) (over : new.over ≡ (rider.over || is_over answer)) where
    abbrev riders_after : List (Option Rider)
    riders_after = slice_set riders n (Some new)

    there : slice_get riders_after n ≡ Some (Some new)
    there = set-there riders n (Some new) (at-below riders n (Some rider) at)

    -- each pass has seen the whole record then, and each life is right after it
    all-ride : (t : TookDesk w n me after new count answer) → (m : ℕ) → m < 8 → RidesIn w after riders_after m
    all-ride t m lt = dite (ℕ_discrete m n)
        (λ (here : m ≡ n). subst (RidesIn w after riders_after) (sym here) (ends n new (of_same_cog one.p (with_seen t.r one.p)) (known-changed n (with_seen t.r) me.0.passes one.p one.has) there (cog ∙ its-cog) t.carries))
        (λ (ne : m ≢ n).
        let other = riding.each m lt in
        let found = carries-found w m t.r other.p other.rider other.cog (t.agrees m other.p other.has) t.found.legal other.keeps in
        ends m other.rider other.p (known-beside n (with_seen t.r) me.0.passes m ne ∙ other.has) (set-beside riders n m (Some new) ne ∙ other.there) other.cog
        (carries-beside w n t.r s other.rider (λ e. ne (sym other.cog ∙ e)) (gone-on w n t.next t.r t.s answer t.speaks t.answers) t.stands.legal found))
      where
        s : Record
        s = seen_by answer t.s

        ends : (m : ℕ) (its : Rider) (p : Known) → known (seizing me.0 n t.r).passes m ≡ Some p → slice_get riders_after m ≡ Some (Some its) → its.cog ≡ m → Carries w s its → RidesIn w after riders_after m
        ends m its p has at_m own carries = subst (λ (a : Hand). RidesIn w a riders_after m) (sym t.hand) (record {
          p = seen_as s p;
          rider = its;
          has = known-all-seen s _ m p has;
          there = at_m;
          cog = own;
          keeps = record { own = ap (λ (k : ℕ). mine k s) (known-cog _ m p has ∙ sym own); carries = carries };
        })

    took-all : TookDesk w n me after new count answer → HasRode w n me after riders_after count answer
    took-all t = record {
      riding = record {
        idle = record { live = ap (λ (a : Hand). a.0.live) t.hand ∙ riding.idle.live; free = ap (λ (a : Hand). a.0.holds) t.hand; empty = ap (λ (a : Hand). a.1) t.hand; world = ap (λ (a : Hand). Rattle.p8_desk.specs.Rules.world_in a.0.start) t.hand ∙ riding.idle.world };
        each = all-ride t;
      };
      rider = new;
      there = there;
      took = t;
      over = λ e. over ∙ or-right rider.over (is_over answer) e;
    }

  pub rode-all : (after : Hand) (new : Rider) (k count : ℕ) (answer : Turned) → new.cog ≡ rider.cog → new.over ≡ (rider.over || is_over answer) → ((p : Known) → known me.0.passes rider.cog ≡ Some p → Keeps w p rider → Rode w rider.cog p me after new k count answer)
      → HasRode w n me after (slice_set riders n (Some new)) count answer
  rode-all after new k count answer cog over rode = by-answer answer over (subst (λ (m : ℕ). Rode w m its-pass.0 me after new k count answer) its-cog (rode its-pass.0 its-pass.1 its-pass.2))
    where
      by-answer : (a : Turned) → new.over ≡ (rider.over || is_over a) → Rode w n its-pass.0 me after new k count a → HasRode w n me after (slice_set riders n (Some new)) count a
      by-answer (Held by) over t = (let x = riding.each by t.0.near in absurd (t.0.elsewhere x.p x.has))
      by-answer (Done turn) over t = took-all after new count (Done turn) cog over t
      by-answer (After other bound) over t = took-all after new count (After other bound) cog over t
      by-answer (Ahead bound) over t = took-all after new count (Ahead bound) cog over t
      by-answer Over over t = took-all after new count Over cog over t

-- all have seen the record then
module _ (w : World) (n : ℕ) (before me : Hand) (riders : List (Option Rider)) (count : ℕ) (answer : Turned) (rode : HasRode w n before me riders count answer) where
  pub seen-by-all : (m : ℕ) (q : Known) → known me.0.passes m ≡ Some q → q.seen ≡ seen_by answer rode.took.s
  seen-by-all m q e =
      let x = known-seen (seen_by answer rode.took.s) _ m q (ap (λ (a : Hand). known a.0.passes m) (sym rode.took.hand) ∙ e) in
      ap (λ (p : Known). p.seen) (sym x.2)

  pub counted-by-all : (m : ℕ) (q : Known) → known me.0.passes m ≡ Some q → count ≡ length (turns q.seen)
  counted-by-all m q e = rode.took.counted ∙ ap (λ (r : Record). length (turns r)) (sym (seen-by-all m q e))

  pub next-near : (next : ℕ) → n < 8 → next_cog n answer ≡ Some next → next < 8
  next-near next near names = by-answer answer rode.took.answers names
    where
      by-answer : (a : Turned) → Answers w rode.took.s n a → next_cog n a ≡ Some next → next < 8
      by-answer (After other bound) x e = subst (λ (k : ℕ). k < 8) (some-same _ _ e) (named-near w n rode.took.s other bound x (others-spoken w n rode.took.next rode.took.r rode.took.s rode.took.before rode.took.speaks rode.took.found))
      by-answer (Done turn) x e = subst (λ (k : ℕ). k < 8) (some-same _ _ e) near
      by-answer (Ahead bound) x e = subst (λ (k : ℕ). k < 8) (some-same _ _ e) near
      by-answer (Held by) x e = absurd x
      by-answer Over x e = absurd (none-some next e)

  pub seen-there : (m : ℕ) → m < 8 → (pass_in me m).seen ≡ seen_by answer rode.took.s
  seen-there m lt = (let one = rode.riding.each m lt in ap (λ (o : Option Known). (or_new m o).seen) one.has ∙ seen-by-all m one.p one.has)

  -- the next try finds that record
  found-whole : (k : ℕ) (after : Hand) (later : List (Option Rider)) (c : ℕ) (a : Turned) (next : HasRode w k me after later c a) → next.took.r ≡ seen_by answer rode.took.s
  found-whole k after later c a next = by-record next.took.r refl
    where
      by-record : (r : Record) → next.took.r ≡ r → next.took.r ≡ seen_by answer rode.took.s
      by-record [] is =
          let one = rode.riding.each 0 (omega arith) in
          let began = (next.took.agrees 0 one.p one.has).seen in
          is ∙ nothing-before began.0 one.p.seen (began.1 ∙ is) ∙ seen-by-all 0 one.p one.has
        where
          nothing-before : (more early : Record) → more ++ early ≡ [] → [] ≡ early
          nothing-before [] early e = sym e
          nothing-before (x ∷ more) early e = absurd (let long : suc (length (more ++ early)) ≡ 0 = ap length e in omega arith)
      by-record (step ∷ r) is =
          let near : cog_of step < 8 = subst Rattle.p8_desk.specs.Rules.IsOfCogs is next.took.newest in
          let one = rode.riding.each (cog_of step) near in
          sym ((next.took.agrees (cog_of step) one.p one.has).newest (subst (Rattle.p8_desk.specs.Rules.IsNewestOf (cog_of step)) (sym is) refl)) ∙ seen-by-all (cog_of step) one.p one.has

  -- and leaves less to do
  pub falls : (k : ℕ) (after : Hand) (later : List (Option Rider)) (c : ℕ) (a : Turned) → n < 8 → k < 8 → next_cog n answer ≡ Some k → (next : HasRode w k me after later c a) → ((pass_in after k).seen ≡ seen_by a next.took.s)
      → left_to_do w (pass_in after k).seen a < left_to_do w (pass_in me n).seen answer
  falls k after later c a near near_k names next now =
      let t = next.took in
      let whole = found-whole k after later c a next in
      let less = tries-fall w n k answer rode.took.s t.next t.r t.s a near_k rode.took.answers names whole t.speaks t.answers in
      subst (λ (y : Record × Record). left_to_do w y.0 a < left_to_do w y.1 answer) (λ i. (sym now i, (whole ∙ sym (seen-there n near)) i)) less

-- no cog is to try next where the history has ended
pub ended-by : (n : ℕ) (answer : Turned) → ((next : ℕ) → next_cog n answer ≡ Some next → ⊥) → is_over answer ≡ true
ended-by n Over none = refl
ended-by n (Done turn) none = absurd (none n refl)
ended-by n (Held by) none = absurd (none n refl)
ended-by n (After other bound) none = absurd (none other refl)
ended-by n (Ahead bound) none = absurd (none n refl)
