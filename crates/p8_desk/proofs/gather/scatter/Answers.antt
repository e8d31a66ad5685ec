use Rattle.std.proofs.Common.{◌≡◌, ◌∙◌, ap, sym, subst, refl, length, List, Option, None, arith}
use Rattle.std.specs.Prelude.{slice_get}
use Rattle.p8_ledger.specs.Records.{turns}
use Rattle.p8_desk.specs.declared.rider.Rider.{Rider}
use Rattle.p8_desk.specs.declared.rule.Known.{Known}
use Rattle.p8_desk.specs.Passes.{PassValue}
use Rattle.p8_desk.specs.Rules.{Hand, known, world_in}
use Rattle.p8_desk.specs.Seats.{Idle, Seated, pass_in, passed}
use Rattle.p8_desk.proofs.Gathering.{set-beside, at-below}
use Rattle.p8_desk.proofs.Lookups.{known-kept}
use Rattle.p8_desk.proofs.Scattering.{alone-seated, idle-without, all-back, over-back, back-more}
use Rattle.p8_desk.proofs.gather.scatter.Goals as goal

pub put_next-requires : goal.put_next-requires
put_next-requires c =
    let below = c.loop-cog-test.true in
    let one = c.requires.riding.each c.loop-cog.cog (omega arith) in
    let inv = c.loop-cog.invariant in
    let alone = alone-seated c.args.desk.now.world c.loop-cog.seat.me c.args.riders.now c.loop-cog.cog (omega arith) inv.idle (record { p = one.p; rider = one.rider; has = inv.has c.loop-cog.cog (omega arith) ∙ one.has; there = one.there; cog = one.cog; keeps = one.keeps }) in record {
      there = (
        omega arith,
        one.rider,
        inv.rest c.loop-cog.cog (omega arith) ∙ one.there,
        one.cog,
        (subst (λ (m : Hand). Seated m one.rider × (pass_in m one.rider.cog ≡ one.p)) (sym c.part-own.ensures.parted.1) alone).0,
        c.requires.seen c.loop-cog.cog one.p one.has ∙ ap (λ (p : Known). length (turns p.seen)) (sym (subst (λ (m : Hand). Seated m one.rider × (pass_in m one.rider.cog ≡ one.p)) (sym c.part-own.ensures.parted.1) alone).1),
        inv.out c.loop-cog.cog (omega arith) (omega arith),
      );
    }

pub loop-cog-preserved : goal.loop-cog-preserved
loop-cog-preserved c =
    let below = c.loop-cog-test.true in
    let one = c.requires.riding.each c.loop-cog.cog (omega arith) in
    let inv = c.loop-cog.invariant in
    let put = c.put_next.ensures.put one.rider (inv.rest c.loop-cog.cog (omega arith) ∙ one.there) in
    let world : world_in c.part-own.result.me.0.start ≡ c.args.desk.now.world = ap (λ (m : Hand). world_in m.0.start) c.part-own.ensures.parted.1 ∙ inv.idle.world in record {
      table = c.part-own.ensures.own.0 ∙ inv.table;
      idle = subst (λ (m : Hand). Idle c.args.desk.now.world m) (sym c.part-own.ensures.parted.0) (idle-without c.args.desk.now.world c.loop-cog.seat.me c.loop-cog.cog inv.idle);
      has = λ n le. ap (λ (m : Hand). known m.0.passes n) c.part-own.ensures.parted.0 ∙ known-kept c.loop-cog.cog c.loop-cog.seat.me.0.passes n (λ e. omega arith) ∙ inv.has n (omega arith);
      rest = λ n le. ap (λ (l : List (Option Rider)). slice_get l n) c.put_next.ensures.left ∙ set-beside c.loop-cog.riders c.loop-cog.cog n None (λ e. omega arith) ∙ inv.rest n (omega arith);
      out = λ n le lt. ap (λ (l : List (Option PassValue)). slice_get l n) put ∙ set-beside c.loop-cog.passes c.loop-cog.cog n _ (λ e. omega arith) ∙ inv.out n (omega arith) lt;
      back = back-more c.args.desk.now c.args.riders.now c.loop-cog.passes c.put_next.new.passes c.loop-cog.cog one.rider (passed c.part-own.result.table_id c.part-own.result.me c.loop-cog.cog one.rider.over)
          (at-below c.loop-cog.passes c.loop-cog.cog None (inv.out c.loop-cog.cog (omega arith) (omega arith))) one.there put (record { world = world; table = c.part-own.ensures.own.2 ∙ inv.table }) refl refl inv.back;
    }

pub returns-clause-there : goal.returns-clause-there
returns-clause-there c =
    let low = c.loop-cog-test.false in
    let high = c.loop-cog.auto.cog-end in
    all-back c.args.desk.now c.args.riders.now c.loop-cog.passes (λ n lt. c.loop-cog.invariant.back n (omega arith))

pub returns-clause-over : goal.returns-clause-over
returns-clause-over c =
    let low = c.loop-cog-test.false in
    let high = c.loop-cog.auto.cog-end in
    over-back c.args.desk.now c.args.riders.now c.loop-cog.passes (λ n lt. c.loop-cog.invariant.back n (omega arith))
