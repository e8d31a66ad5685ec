use Rattle.p8_inputs.specs.Asks.{viewed}
use Rattle.p8_commands.specs.Naming.{name_of}
use Rattle.p8_inputs.proofs.Reading.{stops-first, handed-all, valued-all, then-script}
use Rattle.p8_inputs.proofs.view.read_viewed.Goals as goal

pub returns-in_err-script-clause-reads : goal.returns-in_err-script-clause-reads
returns-in_err-script-clause-reads g c =
    handed-all c.from_residual-in_err-script.result c.from_residual-in_err-script.ensures.1
    (then-script g.S.Shelf.files g.S.Shelf.log g.S.Shelf.faults c.args.shelf.now c.told_with.new.shelf c.script_for.new.shelf (viewed c.in_ok-told.ensures.boot.0 c.in_ok-told.told.legend) (name_of c.args.script) _
    c.in_ok-told.ensures.reads (c.in_ok-told.ensures.boot.1, c.in_ok-told.ensures.legend, c.in_ok-told.ensures.named) c.in_err-script.ensures.reads)

pub returns-clause-reads : goal.returns-clause-reads
returns-clause-reads g c =
    valued-all _ (then-script g.S.Shelf.files g.S.Shelf.log g.S.Shelf.faults c.args.shelf.now c.told_with.new.shelf c.script_for.new.shelf (viewed c.in_ok-told.ensures.boot.0 c.in_ok-told.told.legend) (name_of c.args.script) _
    c.in_ok-told.ensures.reads (c.in_ok-told.ensures.boot.1, c.in_ok-told.ensures.legend, c.in_ok-told.ensures.named) c.in_ok-script.ensures.reads)

pub returns-in_err-told-clause-reads : goal.returns-in_err-told-clause-reads
returns-in_err-told-clause-reads g c = handed-all c.from_residual.result c.from_residual.ensures.1 (stops-first c.in_err-told.ensures.reads)
