use Rattle.p8_commands.specs.Seen.{running}
use Rattle.p8_prop.proofs.Coming.{run-told}
use Rattle.p8_inputs.proofs.Reading.{handed-all, valued-all}
use Rattle.p8_prop.proofs.work.run_work.Goals as goal

pub returns-clause-work : goal.returns-clause-work
returns-clause-work g c =
    let files = g.S.Shelf.files c.args.shelf.now in
    (record { clocks = c.requires.within.0; turns = c.requires.within.1; first = c.in_ok-inputs.ensures.proper; can_be_told = c.requires.can }, run-told c.runs_are_told.ensures files c.args.format (running c.args.run) c.in_ok-inputs.inputs c.in_ok-inputs.ensures.begins c.args.finish)

pub returns-in_err-inputs-clause-reads : goal.returns-in_err-inputs-clause-reads
returns-in_err-inputs-clause-reads g c = handed-all c.from_residual.result c.from_residual.ensures.1 c.in_err-inputs.ensures.reads

pub returns-clause-reads : goal.returns-clause-reads
returns-clause-reads g c = valued-all _ c.in_ok-inputs.ensures.reads
