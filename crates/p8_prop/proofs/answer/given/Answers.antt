use Rattle.std.proofs.Common.{refl, subst, sym, ℕ, List}
use Rattle.p8_io.specs.Sinks.{Appended, AppendedPrefix, Wrote}
use Rattle.p8_finish.specs.Checks.{bad_line}
use Rattle.p8_prop.specs.declared.work.Answer.{Answer}
use Rattle.p8_inputs.specs.Seen.{SinkSeen, sink_seen}
use Rattle.p8_prop.specs.Answers.{IsGiven}
use Rattle.p8_prop.specs.declared.status.Status.TheVariants.{Ok as Done}
use Rattle.p8_prop.proofs.Answering.{wrote, not-wrote, not-good}
use Rattle.p8_prop.proofs.answer.given.Goals as goal

pub returns-in-Ok-clause-answer : goal.returns-in-Ok-clause-answer
returns-in-Ok-clause-answer g c =
    let out : SinkSeen = sink_seen g.K.Sink.faults g.K.Sink.taken c.args.out.now c.write.new.self in
    let faults : SinkSeen = sink_seen g.E.Sink.faults g.E.Sink.taken c.args.faults.now c.args.faults.now in
    subst (λ (answer : Answer). IsGiven answer out faults Done) (sym c.in-Text.is)
    (wrote c.in-Text.text out faults Done refl (subst (λ (xs : List ℕ). Appended out.taken out.taken_now xs) c.deref.ensures.value c.in-Ok.ensures.writes) refl)

pub returns-in-Err-clause-answer : goal.returns-in-Err-clause-answer
returns-in-Err-clause-answer g c =
    let out : SinkSeen = sink_seen g.K.Sink.faults g.K.Sink.taken c.args.out.now c.write.new.self in
    let faults : SinkSeen = sink_seen g.E.Sink.faults g.E.Sink.taken c.args.faults.now c.unwritten.new.faults in
    subst (λ (answer : Answer). IsGiven answer out faults c.unwritten.result) (sym c.in-Text.is)
    (not-wrote c.in-Text.text out faults c.unwritten.result c.unwritten.ensures.status c.in-Err.ensures.writes.0 (subst (λ (xs : List ℕ). AppendedPrefix out.taken out.taken_now xs) c.deref.ensures.value c.in-Err.ensures.writes.1) c.unwritten.ensures.wrote)

pub returns-in-Bad-clause-answer : goal.returns-in-Bad-clause-answer
returns-in-Bad-clause-answer g c =
    let out : SinkSeen = sink_seen g.K.Sink.faults g.K.Sink.taken c.args.out.now c.args.out.now in
    let faults : SinkSeen = sink_seen g.E.Sink.faults g.E.Sink.taken c.args.faults.now c.bad.new.faults in
    subst (λ (answer : Answer). IsGiven answer out faults c.bad.result) (sym c.in-Bad.is)
    (not-good c.in-Bad.history c.in-Bad.turn c.in-Bad.cause out faults c.bad.result c.bad.ensures.status refl
    (subst (λ (history : List ℕ). Wrote faults.before faults.now faults.taken faults.taken_now (bad_line history c.in-Bad.turn c.in-Bad.cause)) c.as_slice.ensures c.bad.ensures.wrote))
