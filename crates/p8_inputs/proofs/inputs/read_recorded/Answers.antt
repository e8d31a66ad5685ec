use Rattle.std.proofs.Common.{◌∷◌, []}
use Rattle.std.specs.Prelude.{Ok, Err}
use Rattle.p8_inputs.specs.Asks.{history, bytes}
use Rattle.p8_commands.specs.Naming.{name_of}
use Rattle.p8_inputs.proofs.Stopping.{script-given}
use Rattle.p8_inputs.proofs.Reading.{handed-all, valued-all, stops-before_more, then-history}
use Rattle.p8_inputs.proofs.inputs.read_recorded.Goals as goal

pub returns-in_err-history-clause-reads : goal.returns-in_err-history-clause-reads
returns-in_err-history-clause-reads g c =
    let begins = c.in_ok-inputs.ensures.begins in
    let script = script-given (g.S.Shelf.files c.args.shelf.now) (name_of c.args.script) c.in_ok-inputs.inputs.script begins.5 in
    handed-all c.from_residual-in_err-history.result c.from_residual-in_err-history.ensures.1
    (then-history g.S.Shelf.files g.S.Shelf.log g.S.Shelf.faults c.args.shelf.now c.read_inputs.new.shelf c.bytes_in.new.shelf (bytes begins.0 ∷ script.0) c.args.history.now (Err c.in_err-history.field-0.0)
    c.in_ok-inputs.ensures.reads (begins.1, script.1) c.in_err-history.ensures.reads)

pub returns-in_err-inputs-clause-reads : goal.returns-in_err-inputs-clause-reads
returns-in_err-inputs-clause-reads g c =
    handed-all c.from_residual.result c.from_residual.ensures.1 (stops-before_more (history c.args.history.now ∷ []) c.in_err-inputs.ensures.reads)

pub returns-clause-reads : goal.returns-clause-reads
returns-clause-reads g c =
    let begins = c.in_ok-inputs.ensures.begins in
    let script = script-given (g.S.Shelf.files c.args.shelf.now) (name_of c.args.script) c.in_ok-inputs.inputs.script begins.5 in
    valued-all _
    (then-history g.S.Shelf.files g.S.Shelf.log g.S.Shelf.faults c.args.shelf.now c.read_inputs.new.shelf c.bytes_in.new.shelf (bytes begins.0 ∷ script.0) c.args.history.now (Ok c.in_ok-history.history)
    c.in_ok-inputs.ensures.reads (begins.1, script.1) c.in_ok-history.ensures.reads)
