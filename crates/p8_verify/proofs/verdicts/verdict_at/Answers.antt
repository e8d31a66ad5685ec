use Rattle.std.proofs.Common.{drop, refl, inl}
use Rattle.p8_verify.proofs.Forms.{some-record}
use Rattle.p8_verify.proofs.Walking.{differs-from, went_wrong, wrong-by}
use Rattle.p8_verify.proofs.verdicts.verdict_at.Goals as goal

pub turn_of_record-requires : goal.turn_of_record-requires
turn_of_record-requires c = some-record c.args.count c.args.done c.args.records.now c.in-None.ensures.0 c.requires.some c.in-None.ensures.1

pub cause_of-requires : goal.cause_of-requires
cause_of-requires c = differs-from c.args.records.now (drop 24 c.args.records.now) c.turn_of_record.result c.args.next c.turn_of_record.ensures.turn c.requires.differs

pub returns-in-Some : goal.returns-in-Some
returns-in-Some c = λ w past done next. inl (refl, c.in-Some.ensures)

pub returns-in-None : goal.returns-in-None
returns-in-None c = λ w past done next.
    rw c.bad_after.ensures
    (went_wrong w past c.args.count c.args.done c.args.records.now c.turn_of_record.result (drop 24 c.args.records.now) c.in-None.ensures.0 c.cause_of.result c.requires.some c.in-None.ensures.1 c.turn_of_record.ensures.turn done
    (wrong-by w past c.turn_of_record.result c.args.next c.cause_of.result next c.cause_of.ensures))
