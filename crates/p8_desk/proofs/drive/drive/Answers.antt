use Rattle.std.proofs.Common.{◌∙◌, sym}
use Rattle.p8_desk.proofs.Driving.{counted-by-all, next-near, falls, seen-there, ended-by}
use Rattle.p8_desk.proofs.drive.drive.Goals as goal

pub ride-answer-requires-in-Some-clause-cog : goal.ride-answer-requires-in-Some-clause-cog
ride-answer-requires-in-Some-clause-cog c =
    let r = c.loop-next.invariant.rode in
    next-near c.args.desk.now.world c.loop-next.cog r.0 c.loop-next.seat.me c.loop-next.riders c.loop-next.count c.loop-next.answer r.1 c.in-Some.next c.loop-next.invariant.near (sym c.next_after.ensures ∙ c.in-Some.is)

pub loop-next-preserved : goal.loop-next-preserved
loop-next-preserved c =
    let r = c.loop-next.invariant.rode in record {
      table = c.ride-answer-in-Some.ensures.own;
      near = next-near c.args.desk.now.world c.loop-next.cog r.0 c.loop-next.seat.me c.loop-next.riders c.loop-next.count c.loop-next.answer r.1 c.in-Some.next c.loop-next.invariant.near (sym c.next_after.ensures ∙ c.in-Some.is);
      rode = (c.loop-next.seat.me, c.ride-answer-in-Some.ensures.rode);
    }

pub loop-next-smaller : goal.loop-next-smaller
loop-next-smaller c =
    let r = c.loop-next.invariant.rode in
    let names = sym c.next_after.ensures ∙ c.in-Some.is in
    let near = next-near c.args.desk.now.world c.loop-next.cog r.0 c.loop-next.seat.me c.loop-next.riders c.loop-next.count c.loop-next.answer r.1 c.in-Some.next c.loop-next.invariant.near names in
    let now = c.ride-answer-in-Some.ensures.rode in
    falls c.args.desk.now.world c.loop-next.cog r.0 c.loop-next.seat.me c.loop-next.riders c.loop-next.count c.loop-next.answer r.1 c.in-Some.next _ _ _ _ c.loop-next.invariant.near near names now (seen-there _ _ _ _ _ _ _ now _ near)

pub returns-clause-riding : goal.returns-clause-riding
returns-clause-riding c = c.loop-next.invariant.rode.1.riding

pub returns-clause-seen : goal.returns-clause-seen
returns-clause-seen c = (let r = c.loop-next.invariant.rode in counted-by-all _ _ r.0 _ _ _ _ r.1)

pub returns-clause-over : goal.returns-clause-over
returns-clause-over c =
    let r = c.loop-next.invariant.rode in
    let end = ended-by c.loop-next.cog c.loop-next.answer (λ next names. c.in_default.not-Some next (c.next_after.ensures ∙ names)) in
    (c.loop-next.cog, r.1.rider, c.loop-next.invariant.near, r.1.there, r.1.over end)
