use Rattle.std.proofs.Common.{◌≡◌, rules, subst, List, ℕ, ap}
use Rattle.p8_commands.specs.Naming.{name_of}
use Rattle.p8_commands.specs.Seen.{running}
use Rattle.p8_inputs.specs.Asks.{page_asks}
use Rattle.p8_inputs.specs.Legends.{IsLegendFrom}
use Rattle.p8_inputs.specs.Pages.{AreBlocksFrom}
use Rattle.p8_inputs.specs.Programs.{format_for}
use Rattle.p8_inputs.specs.Runs.{Begins}
use Rattle.p8_inputs.specs.declared.program.Format.{Format}
use Rattle.p8_prop.specs.Texts.{IsPaged}
use Rattle.p8_prop.proofs.Coming.{begun, page-told}
use Rattle.p8_inputs.proofs.Reading.{handed-all, wanting-all, valued-all, for-asks}
use Rattle.p8_prop.proofs.page.page_work.Goals as goal

pub returns-clause-work : goal.returns-clause-work
returns-clause-work g c =
    let files = g.S.Shelf.files c.args.shelf.now in
    let file = c.args.run.file.now in
    let format = format_for c.args.raw file in
    let read = c.in_ok-read.read in
    let e = c.in_ok-read.ensures in
    let begins = subst (λ (f : Format). Begins files f file (name_of c.args.run.script) read.inputs) c.chosen.ensures e.begins in
    let from = subst (λ (f : Format). IsLegendFrom files f file read.legend) c.chosen.ensures e.legend in
    let blocks = subst (λ (f : Format). AreBlocksFrom files f file e.blocks.0) c.chosen.ensures e.blocks.1 in
    let named : c.extend_from_slice.new.self.items ≡ file = search rules in
    let told = page-told c.runs_are_told.ensures files format (running c.args.run) read.inputs begins c.args.from c.args.to read.legend e.blocks.0 from blocks in (
      record { clocks = c.requires.within.0; turns = c.requires.within.1; first = e.proper; from = c.requires.first },
      (e.blocks.0, e.blocks.2, λ text is. told text (subst (λ (name : List ℕ). IsPaged (begun c.runs_are_told.ensures files format (running c.args.run) read.inputs begins) name c.args.from c.args.to read.legend e.blocks.0 text) named is)),
    )

pub returns-clause-reads : goal.returns-clause-reads
returns-clause-reads g c =
    for-asks (ap (λ (f : Format). page_asks f c.args.run.file.now (name_of c.args.run.script)) c.chosen.ensures)
    (valued-all _ c.in_ok-read.ensures.reads)

pub returns-in_err-extend_from_slice-clause-reads : goal.returns-in_err-extend_from_slice-clause-reads
returns-in_err-extend_from_slice-clause-reads g c =
    for-asks (ap (λ (f : Format). page_asks f c.args.run.file.now (name_of c.args.run.script)) c.chosen.ensures)
    (wanting-all c.from_residual-in_err-extend_from_slice.result c.from_residual-in_err-extend_from_slice.ensures.1 c.in_ok-read.ensures.reads)

pub returns-in_err-read-clause-reads : goal.returns-in_err-read-clause-reads
returns-in_err-read-clause-reads g c =
    for-asks (ap (λ (f : Format). page_asks f c.args.run.file.now (name_of c.args.run.script)) c.chosen.ensures)
    (handed-all c.from_residual.result c.from_residual.ensures.1 c.in_err-read.ensures.reads)
