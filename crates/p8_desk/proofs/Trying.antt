-- One try, from its steps, and what it makes of a pass at a seat of its own.
use Rattle.std.proofs.Common.{◌≡◌, ◌≢◌, ◌∙◌, ap, sym, subst, refl, ℕ, zero, suc, ◌+◌, ◌-◌, ◌<◌, [], ◌∷◌, length, true, Option, Some, None, arith}
use mathlib.Core.Option.{none}
use Rattle.atomic_table.specs.Table.{step as move}
use Rattle.p8_access.specs.declared.lives.Next.{Next}
use Rattle.p8_access.specs.Worlds.{World}
use Rattle.p8_ledger.specs.declared.ledger.Ledger.{Ledger}
use Rattle.p8_ledger.specs.Records.{Record, turns, mine}
use Rattle.p8_ledger.specs.Ledgers.{Found}
use Rattle.p8_desk.specs.declared.rider.Rider.{Rider}
use Rattle.p8_desk.specs.declared.rule.Known.{Known}
use Rattle.p8_desk.specs.declared.runner.Runner.{Runner}
use Rattle.p8_desk.specs.declared.rider.Outcome.{Outcome}
use Rattle.p8_desk.specs.declared.turned.Turned.{Turned}
use Rattle.p8_desk.specs.declared.turned.Turned.TheVariants.{Done, Held, After, Ahead, Over}
use Rattle.p8_desk.specs.Rules.{Hand, world_in, known, Agrees, IsOfCogs, of_same_cog, with_seen, with_found, seizing, losing, releasing, seen_as, seeing, Seized, CanTell, CanFree}
use Rattle.p8_desk.specs.Runners.{Rides}
use Rattle.p8_desk.specs.Seats.{Idle, Keeps, Seated, FoundHeld, TookDesk, Rode, pass_in, or_new, steps_of, worked_in, Carries, Worked, said_by, worked_by}
use Rattle.p8_desk.specs.Tries.{Got, Tried, seen_by}
use Rattle.p8_desk.proofs.Carrying.{carries-found, carries-ran, gone-on}
use Rattle.p8_desk.proofs.Lookups.{known-changed, known-beside, known-cog, known-all-seen, none-seen}

-- the lock word was another cog's
pub lost : (n found : ℕ) (me after : Hand) → found ≢ 0 → Seized (move 1 0 0 (n + 1) none) me found after → FoundHeld n (found - 1) me after
lost n zero me after ne h = absurd (ne refl)
lost n (suc m) me after ne h =
    let same : h.0 ≡ n = (let e : n + 1 ≡ suc h.0 = h.1 in omega arith) in
    let less : m ≡ suc m - 1 = omega arith in
    subst (λ (k : ℕ). FoundHeld n k me after) less (record { apart = λ e. h.2 (e ∙ sym same); near = h.3; elsewhere = h.5; hand = h.4 ∙ ap (λ (k : ℕ). (losing me.0 k m, me.1)) same })

-- it was free: the pass whose life has run is right after the record that was found
pub record Won (w : World) (n : ℕ) (me after : Hand) (rider : Rider) : Type 0 where
  pub r : Record
  pub ledger : Ledger
  pub hand : after ≡ (seizing me.0 n r, (0, Some ledger) ∷ [])
  pub stands : Found w ledger r
  pub newest : IsOfCogs r
  pub agrees : (m : ℕ) (q : Known) → known me.0.passes m ≡ Some q → Agrees r m q
  pub carries : Carries w r rider

pub won : (w : World) (n found : ℕ) (me after : Hand) (p : Known) (rider : Rider) (runner : Runner) → Idle w me → known me.0.passes n ≡ Some p → rider.cog ≡ n → Keeps w p rider → Rides w rider.cog p.seen runner → found ≡ 0 → Seized (move 1 0 0 (n + 1) none) me found after
    → Won w n me after (record rider { runner = runner })
won w n found me after p rider runner idle has cog keeps rides free h =
    let z : Seized (move 1 0 0 (n + 1) none) me 0 after = subst (λ (k : ℕ). Seized (move 1 0 0 (n + 1) none) me k after) free h in
    let same : z.2 ≡ n = (let e : n + 1 ≡ suc z.2 = z.3 in omega arith) in
    let stands : Found w z.1 z.0 = subst (λ (x : World). Found x z.1 z.0) idle.world z.5 in record {
      r = z.0;
      ledger = z.1;
      hand = z.4 ∙ (λ i. (seizing me.0 (same i) z.0, (0, Some z.1) ∷ idle.empty i));
      stands = stands;
      newest = z.6;
      agrees = z.7;
      carries = carries-found w n z.0 p (record rider { runner = runner }) cog (z.7 n p has) stands.legal (record { own = keeps.own; carries = carries-ran w p.seen rider runner keeps.carries rides });
    }

-- what was done with the ledger is told, and the lock word freed
module _ (w : World) (n : ℕ) (me after : Hand) (p : Known) (idle : Idle w me) (has : known me.0.passes n ≡ Some p) (ran : Rider) (k : Won w n me after ran) (next : Next) (outcome : Outcome) (left : Ledger) (rider : Rider) (work : Worked w n next k.r outcome left rider) (worked : Hand) (at : worked ≡ (after.0, (0, Some left) ∷ [])) where
  abbrev s : Record
  s = worked_by n outcome k.r

  abbrev base : Hand
  base = (seizing me.0 n k.r, (0, Some left) ∷ [])

  at-base : worked ≡ base
  at-base = at ∙ ap (λ (a : Hand). (a.0, (0, Some left) ∷ [])) k.hand

  abbrev now : Known
  now = of_same_cog p (with_seen k.r p)

  has-now : known base.0.passes n ≡ Some now
  has-now = known-changed n (with_seen k.r) me.0.passes p has

  seen-is : worked_in worked n outcome ≡ s
  seen-is = ap (λ (a : Hand). worked_in a n outcome) at-base ∙ ap (λ (o : Option Known). worked_by n outcome (or_new n o).seen) has-now

  stands : Found (world_in me.0.start) left s
  stands = subst (λ (x : World). Found x left s) (sym idle.world) work.stands

  pub can-tell : CanTell n (worked_in worked n outcome) outcome.count worked
  can-tell = subst (λ (y : Record × Hand). CanTell n y.0 outcome.count y.1) (λ i. (sym seen-is i, sym at-base i)) (
    record { live = idle.live; holds = refl; pass = now; has = has-now; ledger = left; slot = refl; stands = stands },
    gone-on w n next k.r (said_by n outcome.said k.r) outcome.answer work.speaks work.answers,
    work.count,
  )

  module _ (told : Hand) (is : told ≡ (seeing worked.0 (worked_in worked n outcome), worked.1)) where
    told-is : told ≡ (seeing base.0 s, base.1)
    told-is = is ∙ (λ i. (seeing (at-base i).0 (seen-is i), (at-base i).1))

    pub can-free : CanFree told
    can-free = subst CanFree (sym told-is) (
      n,
      s,
      record { live = idle.live; holds = refl; pass = seen_as s now; has = known-all-seen s base.0.passes n now has-now; ledger = left; slot = refl; stands = stands },
      refl,
    )

    pub rode : (freed : Hand) (count : ℕ) → freed ≡ (releasing told.0, []) → Rode w n p me freed rider count outcome.count outcome.answer
    rode freed count end = by-answer outcome.answer (record {
      r = k.r;
      before = k.ledger;
      found = k.stands;
      newest = k.newest;
      agrees = k.agrees;
      next = next;
      s = said_by n outcome.said k.r;
      speaks = work.speaks;
      truthful = work.truthful;
      answers = work.answers;
      left = left;
      stands = work.stands;
      carries = work.carries;
      counted = work.count;
      hand = end ∙ ap (λ (a : Hand). (releasing a.0, [])) told-is;
    })
      where
        by-answer : (a : Turned) → TookDesk w n me freed rider outcome.count a → Rode w n p me freed rider count outcome.count a
        by-answer (Done turn) t = t
        by-answer (After other bound) t = t
        by-answer (Ahead bound) t = t
        by-answer Over t = t
        by-answer (Held by) t = absurd t.answers

-- a pass at a seat of its own, after a try
module _ (me after : Hand) (old new : Rider) (seated : Seated me old) (cog : new.cog ≡ old.cog) where
  abbrev w : World
  w = world_in me.0.start

  abbrev p : Known
  p = pass_in me old.cog

  abbrev Ends : ℕ → Turned → Hand → Type 0
  Ends count answer a = (a.0.start ≡ me.0.start) × Seated a new × (count ≡ length (turns (pass_in a new.cog).seen)) × Tried w old.cog (steps_of p) (steps_of (pass_in a old.cog)) answer

  -- what the seat knows then
  by-pass : (a : Hand) (q : Known) (count : ℕ) (answer : Turned) → a.0.live ≡ true → a.0.start ≡ me.0.start → a.0.holds ≡ None → a.1 ≡ [] → known a.0.passes old.cog ≡ Some q → ((m : ℕ) → m ≢ old.cog → known a.0.passes m ≡ None)
      → Keeps w q new → count ≡ length (turns q.seen) → Tried w old.cog (steps_of p) (steps_of q) answer → Ends count answer a
  by-pass a q count answer live start free empty has apart keeps counted tried =
      let here : pass_in a old.cog ≡ q = ap (or_new old.cog) has in
      let now : pass_in a new.cog ≡ q = ap (pass_in a) cog ∙ here in (
        start,
        record {
          idle = record { live = live; free = free; empty = empty; world = refl };
          near = subst (λ (m : ℕ). m < 8) (sym cog) seated.near;
          has = ap (known a.0.passes) cog ∙ has ∙ ap Some (sym now);
          alone = λ m ne. apart m (λ e. ne (e ∙ sym cog));
          keeps = subst (λ (y : World × Known). Keeps y.0 y.1 new) (λ i. (ap world_in (sym start) i, sym now i)) keeps;
        },
        counted ∙ ap (λ (x : Known). length (turns x.seen)) (sym now),
        subst (λ (x : Known). Tried w old.cog (steps_of p) (steps_of x) answer) (sym here) tried,
      )

  held : (by k count : ℕ) → k ≡ length (turns p.seen) → FoundHeld old.cog by me after × Carries w p.seen new × (count ≡ k) → Ends count (Held by) after
  held by k count counted t = subst (Ends count (Held by)) (sym t.0.hand) (by-pass
      (losing me.0 old.cog by, me.1)
      (of_same_cog p (with_found by p))
      count
      (Held by)
      seated.idle.live
      refl
      seated.idle.free
      seated.idle.empty
      (known-changed old.cog (with_found by) me.0.passes p seated.has)
      (λ m ne. known-beside old.cog (with_found by) me.0.passes m ne ∙ seated.alone m ne)
      (record { own = seated.keeps.own ∙ ap (λ (m : ℕ). mine m p.seen) (sym cog); carries = t.1 })
      (t.2 ∙ counted)
      (refl, t.0.apart, t.0.near))

  took : (answer : Turned) (count : ℕ) (t : TookDesk w old.cog me after new count answer) → ((q : Known) → Got w old.cog (steps_of p) (steps_of q) answer → Tried w old.cog (steps_of p) (steps_of q) answer) → Ends count answer after
  took answer count t tried =
      let s = seen_by answer t.s in
      let now = of_same_cog p (with_seen t.r p) in
      let own : mine now.cog s ≡ mine old.cog s = ap (λ (m : ℕ). mine m s) (known-cog me.0.passes old.cog p seated.has) in
      let agrees = t.agrees old.cog p seated.has in
      subst (Ends count answer) (sym t.hand) (by-pass
      (releasing (seeing (seizing me.0 old.cog t.r) s), [])
      (seen_as s now)
      count
      answer
      seated.idle.live
      refl
      refl
      refl
      (known-all-seen s _ old.cog now (known-changed old.cog (with_seen t.r) me.0.passes p seated.has))
      (λ m ne. none-seen s _ m (known-beside old.cog (with_seen t.r) me.0.passes m ne ∙ seated.alone m ne))
      (record { own = own ∙ ap (λ (m : ℕ). mine m s) (sym cog); carries = t.carries })
      t.counted
      (tried (seen_as s now) (record {
        r = t.r;
        began = agrees.seen;
        own = sym agrees.own;
        legal = t.found.legal;
        value = (t.before, t.found);
        next = t.next;
        s = t.s;
        speaks = t.speaks;
        truthful = t.truthful;
        answers = t.answers;
        won = refl;
        seen = refl;
        mine = own;
        found = refl;
      })))

  tried-on : (answer : Turned) (k count : ℕ) → k ≡ length (turns p.seen) → Rode w old.cog p me after new k count answer
      → (after.0.start ≡ me.0.start) × Seated after new × (count ≡ length (turns (pass_in after new.cog).seen)) × Tried w old.cog (steps_of p) (steps_of (pass_in after old.cog)) answer
  tried-on (Held by) k count counted t = held by k count counted t
  tried-on (Done turn) k count counted t = took (Done turn) count t (λ q g. g)
  tried-on (After other bound) k count counted t = took (After other bound) count t (λ q g. g)
  tried-on (Ahead bound) k count counted t = took (Ahead bound) count t (λ q g. g)
  tried-on Over k count counted t = took Over count t (λ q g. g)

  pub tried-at : (z : World) → world_in me.0.start ≡ z → (answer : Turned) (k count : ℕ) → k ≡ length (turns (pass_in me old.cog).seen) → ((q : Known) → known me.0.passes old.cog ≡ Some q → Keeps z q old → Rode z old.cog q me after new k count answer)
      → (after.0.start ≡ me.0.start) × Seated after new × (count ≡ length (turns (pass_in after new.cog).seen)) × Tried z old.cog (steps_of (pass_in me old.cog)) (steps_of (pass_in after old.cog)) answer
  tried-at z here answer k count counted rode =
      let keeps : Keeps z p old = subst (λ (y : World). Keeps y p old) here seated.keeps in
      let x = tried-on answer k count counted (subst (λ (y : World). Rode y old.cog p me after new k count answer) (sym here) (rode p seated.has keeps)) in
      (x.0, x.1, x.2, subst (λ (y : World). Tried y old.cog (steps_of p) (steps_of (pass_in after old.cog)) answer) here x.3)
