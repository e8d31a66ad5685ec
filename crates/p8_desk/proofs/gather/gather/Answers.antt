use Rattle.std.proofs.Common.{◌≡◌, ◌≢◌, ◌∙◌, ◌+◌, ap, sym, subst, refl, length, List, Option, None, arith}
use Rattle.std.specs.Prelude.{slice_get, slice_set}
use mathlib.Core.Logic.{dite}
use native.Mathlib.Decide.{ℕ_discrete}
use Rattle.p8_desk.specs.declared.rider.Rider.{Rider}
use Rattle.p8_desk.specs.Gathering.{Gathered}
use Rattle.p8_desk.specs.Passes.{DeskValue, PassValue}
use Rattle.p8_desk.specs.Rules.{Hand}
use Rattle.p8_desk.proofs.Gathering.{gather-first, gather-more, set-beside, set-there, at-below}
use Rattle.p8_desk.proofs.Sharing.{length-set}
use Rattle.p8_desk.proofs.gather.gather.Goals as goal

pub loop-cog-init : goal.loop-cog-init
loop-cog-init c =
    let p = c.requires.there.each 0 (omega arith) in
    let s = c.take_seat-seat.ensures.own p.0 p.1 in
    let room = c.requires.room in record {
      table = ap (λ (q : PassValue). q.table) (s.2).whole ∙ p.2.table;
      rest = λ n le. ap (λ (l : List (Option PassValue)). slice_get l n) c.take_seat-seat.ensures.left ∙ set-beside c.args.passes.now 0 n None (λ e. omega arith);
      out = λ n lt. (
          let zero_is : n ≡ 0 = omega arith in
          ap (λ (l : List (Option PassValue)). slice_get l n) c.take_seat-seat.ensures.left ∙ ap (slice_get (slice_set c.args.passes.now 0 None)) zero_is ∙ set-there c.args.passes.now 0 None (at-below c.args.passes.now 0 _ p.1)
          );
      room = ap length s.1 ∙ length-set c.args.riders.now 0 _ ∙ c.requires.room;
      gathered = subst (λ (l : List (Option Rider)). Gathered c.args.desk.now.world c.args.passes.now l 1 c.take_seat-seat.result.me) (sym s.1)
          (gather-first c.args.desk.now c.args.passes.now 0 p.0 c.take_seat-seat.result.table_id c.take_seat-seat.result.me s.0 p.1 p.2 p.3 s.2 c.args.riders.now (omega arith) refl);
    }

pub take_seat-other-requires-clause-there : goal.take_seat-other-requires-clause-there
take_seat-other-requires-clause-there c =
    let below = c.loop-cog-test.true in
    let p = c.requires.there.each c.loop-cog.cog (omega arith) in
    (omega arith, p.0, c.loop-cog.invariant.rest c.loop-cog.cog (omega arith) ∙ p.1)

pub join-requires-clause-own : goal.join-requires-clause-own
join-requires-clause-own c =
    let below = c.loop-cog-test.true in
    let p = c.requires.there.each c.loop-cog.cog (omega arith) in
    let s = c.take_seat-other.ensures.own p.0 (c.loop-cog.invariant.rest c.loop-cog.cog (omega arith) ∙ p.1) in
    let desk : c.args.desk.now.table ≡ c.desk.inside.table.shared.table_id = sym (ap (λ (d : DeskValue). d.table) c.desk.view_is) in
    let words = c.desk.invariant.1 in
    (c.loop-cog.invariant.table ∙ desk, ap (λ (q : PassValue). q.table) (s.2).whole ∙ p.2.table ∙ desk, omega arith, (s.2).seated.idle.empty)

pub join-requires-clause-free : goal.join-requires-clause-free
join-requires-clause-free c =
    let below = c.loop-cog-test.true in
    let p = c.requires.there.each c.loop-cog.cog (omega arith) in
    let s = c.take_seat-other.ensures.own p.0 (c.loop-cog.invariant.rest c.loop-cog.cog (omega arith) ∙ p.1) in
    let idle = c.loop-cog.invariant.gathered.idle in
    (idle.live, idle.free, (s.2).seated.idle.live, (s.2).seated.idle.free)

pub loop-cog-preserved : goal.loop-cog-preserved
loop-cog-preserved c =
    let below = c.loop-cog-test.true in
    let p = c.requires.there.each c.loop-cog.cog (omega arith) in
    let at = c.loop-cog.invariant.rest c.loop-cog.cog (omega arith) ∙ p.1 in
    let s = c.take_seat-other.ensures.own p.0 at in
    let room = c.loop-cog.invariant.room in record {
      table = c.join.ensures.own.0 ∙ c.loop-cog.invariant.table;
      rest = λ n le. ap (λ (l : List (Option PassValue)). slice_get l n) c.take_seat-other.ensures.left ∙ set-beside c.loop-cog.passes c.loop-cog.cog n None (λ e. omega arith) ∙ c.loop-cog.invariant.rest n (omega arith);
      out = λ n lt. ap (λ (l : List (Option PassValue)). slice_get l n) c.take_seat-other.ensures.left ∙ dite (ℕ_discrete n c.loop-cog.cog)
          (λ (here : n ≡ c.loop-cog.cog). ap (slice_get (slice_set c.loop-cog.passes c.loop-cog.cog None)) here ∙ set-there c.loop-cog.passes c.loop-cog.cog None (at-below c.loop-cog.passes c.loop-cog.cog _ at))
          (λ (apart : n ≢ c.loop-cog.cog). set-beside c.loop-cog.passes c.loop-cog.cog n None apart ∙ c.loop-cog.invariant.out n (omega arith));
      room = ap length s.1 ∙ length-set c.loop-cog.riders c.loop-cog.cog _ ∙ room;
      gathered = subst (λ (y : List (Option Rider) × Hand). Gathered c.args.desk.now.world c.args.passes.now y.0 (c.loop-cog.cog + 1) y.1) (λ i. (sym s.1 i, sym c.join.ensures.joined i))
          (gather-more c.args.desk.now c.args.passes.now c.loop-cog.cog p.0 c.take_seat-other.result.table_id c.take_seat-other.result.me s.0 p.1 p.2 p.3 s.2 c.loop-cog.riders c.loop-cog.seat.me (omega arith) c.loop-cog.invariant.gathered);
    }

pub returns-clause-eight : goal.returns-clause-eight
returns-clause-eight c = ap length (sym c.passes.view_is) ∙ c.passes.invariant.eight
