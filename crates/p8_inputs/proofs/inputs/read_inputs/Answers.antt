use Rattle.p8_inputs.specs.Asks.{bytes}
use Rattle.p8_commands.specs.Naming.{name_of}
use Rattle.p8_inputs.proofs.Reading.{stops-first, handed-all, valued-all, then-script}
use Rattle.p8_inputs.proofs.inputs.read_inputs.Goals as goal

pub returns-in_err-script-clause-reads : goal.returns-in_err-script-clause-reads
returns-in_err-script-clause-reads g c =
    handed-all c.from_residual-in_err-script.result c.from_residual-in_err-script.ensures.1
    (then-script g.S.Shelf.files g.S.Shelf.log g.S.Shelf.faults c.args.shelf.now c.boot_in.new.shelf c.script_for.new.shelf (bytes c.in_ok-boot.ensures.boot.0) (name_of c.args.script) _ c.in_ok-boot.ensures.reads c.in_ok-boot.ensures.boot.1 c.in_err-script.ensures.reads)

pub returns-in_err-boot-clause-reads : goal.returns-in_err-boot-clause-reads
returns-in_err-boot-clause-reads g c = handed-all c.from_residual.result c.from_residual.ensures.1 (stops-first c.in_err-boot.ensures.reads)

pub returns-clause-reads : goal.returns-clause-reads
returns-clause-reads g c =
    valued-all _ (then-script g.S.Shelf.files g.S.Shelf.log g.S.Shelf.faults c.args.shelf.now c.boot_in.new.shelf c.script_for.new.shelf (bytes c.in_ok-boot.ensures.boot.0) (name_of c.args.script) _ c.in_ok-boot.ensures.reads c.in_ok-boot.ensures.boot.1 c.in_ok-script.ensures.reads)
