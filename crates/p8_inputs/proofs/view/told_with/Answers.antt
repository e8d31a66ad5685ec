use Rattle.p8_inputs.specs.Asks.{viewing, StopsAt}
use Rattle.p8_commands.specs.Naming.{name_of}
use Rattle.p8_inputs.proofs.Stopping.{handed-on}
use Rattle.p8_inputs.proofs.Viewing.{seek-stops}
use Rattle.p8_inputs.proofs.Reading.{handed, as-viewing, no-value}
use Rattle.p8_inputs.proofs.view.told_with.Goals as goal

pub returns-in_err-told-clause-reads : goal.returns-in_err-told-clause-reads
returns-in_err-told-clause-reads g c = as-viewing (name_of c.args.name) c.from_residual.result (handed c.from_residual.result c.from_residual.ensures.1 c.in_err-told.ensures.reads)

pub returns-in_err-seek-clause-reads : goal.returns-in_err-seek-clause-reads
returns-in_err-seek-clause-reads g c =
    let files = g.S.Shelf.files c.args.shelf.now in
    let before = g.S.Shelf.faults c.args.shelf.now in
    let now = g.S.Shelf.faults c.program_told.new.shelf in
    let format = c.args.program.format in
    let file = c.args.program.file.now in
    let name = name_of c.args.name in
    let read = c.in_ok-told.ensures.reads in
    record {
      kept = read.kept;
      later = read.later;
      stopped = handed-on c.from_residual-in_err-seek.result _ (StopsAt files before now (viewing format file name)) c.from_residual-in_err-seek.ensures.1
          (seek-stops files before now format file c.in_ok-told.ensures.boot.0 name c.in_ok-told.told.legend c.in_err-seek.field-0.0 c.in_ok-told.ensures.boot.1 c.in_ok-told.ensures.legend c.in_err-seek.ensures.unnamed);
      all_read = no-value _ _ c.from_residual-in_err-seek.result c.from_residual-in_err-seek.ensures.1;
      so_far = read.so_far;
    }

pub returns-clause-reads : goal.returns-clause-reads
returns-clause-reads g c = as-viewing (name_of c.args.name) _ c.in_ok-told.ensures.reads
