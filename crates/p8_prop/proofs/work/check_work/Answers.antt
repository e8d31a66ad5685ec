use Rattle.std.proofs.Common.{subst, ap}
use Rattle.p8_inputs.specs.declared.program.Format.{Format}
use Rattle.p8_inputs.specs.Asks.{check_asks}
use Rattle.p8_inputs.specs.Runs.{Begins}
use Rattle.p8_commands.specs.Naming.{name_of}
use Rattle.p8_prop.proofs.Coming.{checked-answer}
use Rattle.p8_inputs.proofs.Reading.{handed-all, wanting-all, valued-all, for-asks}
use Rattle.p8_prop.proofs.work.check_work.Goals as goal

pub returns-clause-work : goal.returns-clause-work
returns-clause-work g c =
    let files = g.S.Shelf.files c.args.shelf.now in
    let file = c.args.file.now in
    let script = name_of c.args.script in
    let read = c.in_ok-read.read in
    let begins = subst (λ (format : Format). Begins files format file script read.inputs) c.chosen.ensures c.in_ok-read.ensures.begins in
    checked-answer files c.args.raw file c.args.history.now script read begins c.in_ok-read.ensures.history c.in_ok-answer.answer c.in_ok-answer.ensures

pub returns-in_err-answer-clause-reads : goal.returns-in_err-answer-clause-reads
returns-in_err-answer-clause-reads g c =
    for-asks (ap (λ (f : Format). check_asks f c.args.file.now (name_of c.args.script) c.args.history.now) c.chosen.ensures)
    (wanting-all c.from_residual-in_err-answer.result c.from_residual-in_err-answer.ensures.1 c.in_ok-read.ensures.reads)

pub returns-clause-reads : goal.returns-clause-reads
returns-clause-reads g c =
    for-asks (ap (λ (f : Format). check_asks f c.args.file.now (name_of c.args.script) c.args.history.now) c.chosen.ensures)
    (valued-all _ c.in_ok-read.ensures.reads)

pub returns-in_err-read-clause-reads : goal.returns-in_err-read-clause-reads
returns-in_err-read-clause-reads g c =
    for-asks (ap (λ (f : Format). check_asks f c.args.file.now (name_of c.args.script) c.args.history.now) c.chosen.ensures)
    (handed-all c.from_residual.result c.from_residual.ensures.1 c.in_err-read.ensures.reads)
