use Rattle.std.proofs.Common.{subst, List, Option, ℕ, ap₂}
use Rattle.p8_commands.specs.Naming.{name_of}
use Rattle.p8_commands.specs.Seen.{dump_if_any, running}
use Rattle.p8_inputs.specs.Asks.{view_asks}
use Rattle.p8_inputs.specs.Legends.{HasName, IsLegendFrom}
use Rattle.p8_inputs.specs.Programs.{format_for}
use Rattle.p8_inputs.specs.Runs.{Begins}
use Rattle.p8_inputs.specs.declared.program.Format.{Format}
use Rattle.p8_prop.specs.Texts.{IsViewed}
use Rattle.p8_prop.proofs.Coming.{begun, view-told}
use Rattle.p8_inputs.proofs.Reading.{handed-all, valued-all, for-asks}
use Rattle.p8_prop.proofs.view.view_work.Goals as goal

pub returns-clause-work : goal.returns-clause-work
returns-clause-work g c =
    let files = g.S.Shelf.files c.args.shelf.now in
    let file = c.args.run.file.now in
    let format = format_for c.args.raw file in
    let read = c.in_ok-read.read in
    let e = c.in_ok-read.ensures in
    let begins = subst (λ (f : Format). Begins files f file (name_of c.args.run.script) read.inputs) c.chosen.ensures e.begins in
    let from = subst (λ (f : Format). IsLegendFrom files f file read.legend) c.chosen.ensures e.legend in
    let named = subst (HasName read.legend) c.dumped_name.ensures e.named in
    let told = view-told c.runs_are_told.ensures files format (running c.args.run) read.inputs begins c.args.options (dump_if_any c.args.dump) read.legend from named in (
      record { clocks = c.requires.within.0; turns = c.requires.within.1; first = e.proper; dump = c.dumped_range-dump.ensures.in_ram },
      λ text is. told text (subst (λ (range : Option (ℕ × ℕ)). IsViewed (begun c.runs_are_told.ensures files format (running c.args.run) read.inputs begins) c.args.options read.legend range text) c.dumped_range-dump.ensures.range is),
    )

pub returns-clause-reads : goal.returns-clause-reads
returns-clause-reads g c =
    for-asks (ap₂ (λ (f : Format) (name : Option (List ℕ)). view_asks f c.args.run.file.now name (name_of c.args.run.script)) c.chosen.ensures c.dumped_name.ensures)
    (valued-all _ c.in_ok-read.ensures.reads)

pub returns-in_err-read-clause-reads : goal.returns-in_err-read-clause-reads
returns-in_err-read-clause-reads g c =
    for-asks (ap₂ (λ (f : Format) (name : Option (List ℕ)). view_asks f c.args.run.file.now name (name_of c.args.run.script)) c.chosen.ensures c.dumped_name.ensures)
    (handed-all c.from_residual.result c.from_residual.ensures.1 c.in_err-read.ensures.reads)
