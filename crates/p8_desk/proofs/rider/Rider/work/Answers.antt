use Rattle.std.proofs.Common.{refl, arith}
use Rattle.p8_desk.specs.Seats.{Granted, said_by}
use Rattle.p8_desk.proofs.Carrying.{carries-answered}
use Rattle.p8_desk.proofs.rider.Rider.work.Goals as goal

pub speak-said-requires-clause-stands : goal.speak-said-requires-clause-stands
speak-said-requires-clause-stands c = (let h = c.requires.stands in (h.0, h.1, h.4, h.5.rides))

pub settle-answer-requires-clause-granted : goal.settle-answer-requires-clause-granted
settle-answer-requires-clause-granted c =
    let h = c.requires.stands in
    let k = c.speak-said.ensures h.0 h.1 h.4 h.5.rides in
    let s = said_by c.args.self.now.cog c.speak-said.result h.1 in (
      h.0,
      s,
      (c.take-taken.ensures.found h.0 s h.2 k.stands, c.take-taken.ensures.decides h.0 s h.2 k.stands, (c.speak-said.new.ledger, k.stands)),
      k.rides,
    )

pub record_answer-requires : goal.record_answer-requires
record_answer-requires c =
    let h = c.requires.stands in
    let small = h.3 in
    let few = h.5.few in
    omega arith

pub returns-clause-worked : goal.returns-clause-worked
returns-clause-worked c = λ w r script stands carries.
    let n = c.args.self.now.cog in
    let k = c.speak-said.ensures w r stands carries.rides in
    let s = said_by n c.speak-said.result r in
    let granted : Granted w n s c.take-taken.result c.take-taken.new.self = (c.take-taken.ensures.found w s script k.stands, c.take-taken.ensures.decides w s script k.stands, (c.speak-said.new.ledger, k.stands)) in
    let settled = c.settle-answer.ensures w s granted k.rides in record {
      speaks = k.speaks;
      truthful = k.stands.truth;
      answers = settled.answers;
      stands = settled.stands;
      carries = carries-answered w n c.args.self.now.runner.next r s k.speaks c.args.self.now _ carries refl refl c.settle-answer.result settled.answers settled.rides c.record_answer.ensures.made c.record_answer.ensures.over;
      count = c.count-count.ensures w _ settled.stands;
    }
