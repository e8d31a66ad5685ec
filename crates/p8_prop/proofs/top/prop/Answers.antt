use Rattle.std.proofs.Common.{◌∙◌, ap, subst, sym, refl, arith, Option}
use Rattle.p8_commands.specs.Commands.{Command}
use Rattle.p8_commands.specs.Seen.{command_read, command_if_any}
use Rattle.p8_inputs.specs.Seen.{shelf_seen, sink_seen}
use Rattle.p8_prop.specs.Promises.{Keeps}
use Rattle.p8_prop.specs.Verdicts.{Outside}
use Rattle.p8_prop.proofs.Answering.{command-keeps, unsaid-keeps, memory-keeps, nothing-appended, no-memory-written}
use Rattle.p8_prop.proofs.top.prop.Goals as goal

pub returns-in-Ok-Some : goal.returns-in-Ok-Some
returns-in-Ok-Some g c =
    let o : Outside = record {
      shelf = shelf_seen g.S.Shelf.files g.S.Shelf.log g.S.Shelf.faults c.args.shelf.now c.answer_by_crew-answer.new.shelf;
      out = sink_seen g.K.Sink.faults g.K.Sink.taken c.args.out.now c.answered.new.out;
      faults = sink_seen g.E.Sink.faults g.E.Sink.taken c.args.faults.now c.answered.new.faults;
    } in
    let said = command_read c.in-Ok-Some.command in
    let came = c.answer_by_crew-answer in
    subst (λ (command : Option Command). Keeps o command c.answered.result) (ap command_if_any (sym c.in-Ok-Some.field-0-is) ∙ c.in-Ok-Some.ensures.seen)
    (command-keeps c.one_verdict.ensures c.one_reading.ensures o said came.result c.answered.result c.answered.ensures.answer came.ensures.answer came.ensures.reads c.answered.ensures.out_later c.answered.ensures.faults_later)

pub returns-in-Ok-None : goal.returns-in-Ok-None
returns-in-Ok-None g c =
    let o : Outside = record {
      shelf = shelf_seen g.S.Shelf.files g.S.Shelf.log g.S.Shelf.faults c.args.shelf.now c.args.shelf.now;
      out = sink_seen g.K.Sink.faults g.K.Sink.taken c.args.out.now c.args.out.now;
      faults = sink_seen g.E.Sink.faults g.E.Sink.taken c.args.faults.now c.unsaid.new.faults;
    } in
    unsaid-keeps c.one_verdict.ensures c.one_reading.ensures o _ c.unsaid.result (sym (ap command_if_any (sym c.in-Ok-None.field-0-is) ∙ c.in-Ok-None.ensures.seen)) c.unsaid.ensures.status c.unsaid.ensures.wrote (nothing-appended o.out.taken) refl (refl, omega arith, omega arith, c.unsaid.ensures.later)

pub returns-in-Err : goal.returns-in-Err
returns-in-Err g c =
    let o : Outside = record {
      shelf = shelf_seen g.S.Shelf.files g.S.Shelf.log g.S.Shelf.faults c.args.shelf.now c.args.shelf.now;
      out = sink_seen g.K.Sink.faults g.K.Sink.taken c.args.out.now c.args.out.now;
      faults = sink_seen g.E.Sink.faults g.E.Sink.taken c.args.faults.now c.stopped.new.faults;
    } in
    memory-keeps c.one_verdict.ensures c.one_reading.ensures o _ c.stopped.result c.stopped.ensures.status c.stopped.ensures.wrote (no-memory-written o.out _ refl) refl (refl, omega arith, omega arith, c.stopped.ensures.later)
