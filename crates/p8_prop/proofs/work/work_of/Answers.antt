use Rattle.std.proofs.Common.{subst, sym, IfOk}
use Rattle.std.proofs.lemmas.Result.{IfOk-weaker}
use Rattle.p8_finish.specs.declared.finish.Finish.TheVariants.{Trace, Saved, Serial, Wave, Plot}
use Rattle.p8_inputs.specs.declared.program.Format.{Format}
use Rattle.p8_inputs.specs.declared.program.Format.TheVariants.{Memory}
use Rattle.p8_inputs.specs.Programs.{format_for, format_named}
use Rattle.p8_commands.specs.Commands.{RunMemory, RunProgram, Save, Serial as ReadPin, Wave as ShowWave, Plot as DrawPins, ViewRun, PageRun}
use Rattle.p8_commands.specs.declared.command.Command.{Command}
use Rattle.p8_commands.specs.Seen.{command_read, dump_if_any, running}
use Rattle.p8_prop.specs.Texts.{options_of, picture_of, selection_of}
use Rattle.p8_prop.specs.Works.{IsRunWork, IsWork}
use Rattle.p8_prop.proofs.Coming.{run-work, view-work, page-work}
use Rattle.p8_prop.proofs.work.work_of.Goals as goal

pub returns-in-Raw-clause-work : goal.returns-in-Raw-clause-work
returns-in-Raw-clause-work g c =
    let files = g.S.Shelf.files c.args.shelf.now in
    let run = running c.in-Raw.run' in
    subst (λ (command : Command). IfOk c.run_work.result (IsWork files (command_read command))) (sym c.in-Raw.is)
    (IfOk-weaker c.run_work.result _ _ (run-work files (RunMemory run) Memory run (Trace run.dump) (λ text is. is)) c.run_work.ensures.work)

pub returns-in-Run-clause-work : goal.returns-in-Run-clause-work
returns-in-Run-clause-work g c =
    let files = g.S.Shelf.files c.args.shelf.now in
    let run = running c.in-Run.run' in
    let result = c.run_work-in-Run.result in
    subst (λ (command : Command). IfOk result (IsWork files (command_read command))) (sym c.in-Run.is)
    (IfOk-weaker result _ _ (run-work files (RunProgram c.in-Run.alone c.in-Run.short run) (format_named c.in-Run.short run.file) run (Trace run.dump) (λ text is. is))
    (subst (λ (format : Format). IfOk result (IsRunWork files format run (Trace run.dump))) c.named-format.ensures c.run_work-in-Run.ensures.work))

pub returns-in-Save-clause-work : goal.returns-in-Save-clause-work
returns-in-Save-clause-work g c =
    let files = g.S.Shelf.files c.args.shelf.now in
    let run = running c.in-Save.run' in
    let result = c.chosen_work.result in
    subst (λ (command : Command). IfOk result (IsWork files (command_read command))) (sym c.in-Save.is)
    (IfOk-weaker result _ _ (run-work files (Save c.in-Save.raw run) (format_for c.in-Save.raw run.file) run (Saved) (λ text is. is)) c.chosen_work.ensures.work)

pub returns-in-Serial-clause-work : goal.returns-in-Serial-clause-work
returns-in-Serial-clause-work g c =
    let files = g.S.Shelf.files c.args.shelf.now in
    let run = running c.in-Serial.run' in
    let result = c.chosen_work-in-Serial.result in
    subst (λ (command : Command). IfOk result (IsWork files (command_read command))) (sym c.in-Serial.is)
    (IfOk-weaker result _ _ (run-work files (ReadPin c.in-Serial.raw run c.in-Serial.pin c.in-Serial.bits) (format_for c.in-Serial.raw run.file) run (Serial c.in-Serial.pin c.in-Serial.bits) (λ text is. is)) c.chosen_work-in-Serial.ensures.work)

pub returns-in-Wave-clause-work : goal.returns-in-Wave-clause-work
returns-in-Wave-clause-work g c =
    let files = g.S.Shelf.files c.args.shelf.now in
    let run = running c.in-Wave.run' in
    let result = c.chosen_work-in-Wave.result in
    subst (λ (command : Command). IfOk result (IsWork files (command_read command))) (sym c.in-Wave.is)
    (IfOk-weaker result _ _ (run-work files (ShowWave c.in-Wave.alone c.in-Wave.raw c.in-Wave.all c.in-Wave.pins_only run) (format_for c.in-Wave.raw run.file) run (Wave (selection_of c.in-Wave.all c.in-Wave.pins_only)) (λ text is. is)) c.chosen_work-in-Wave.ensures.work)

pub returns-in-Plot-clause-work : goal.returns-in-Plot-clause-work
returns-in-Plot-clause-work g c =
    let files = g.S.Shelf.files c.args.shelf.now in
    let run = running c.in-Plot.run' in
    let result = c.chosen_work-in-Plot.result in
    subst (λ (command : Command). IfOk result (IsWork files (command_read command))) (sym c.in-Plot.is)
    (IfOk-weaker result _ _ (run-work files (DrawPins c.in-Plot.alone c.in-Plot.raw c.in-Plot.ascii run c.in-Plot.pins c.in-Plot.from c.in-Plot.to c.in-Plot.columns) (format_for c.in-Plot.raw run.file) run (Plot (picture_of c.in-Plot.pins c.in-Plot.from c.in-Plot.to c.in-Plot.columns c.in-Plot.ascii)) (λ text is. is)) c.chosen_work-in-Plot.ensures.work)

pub returns-in-View-clause-work : goal.returns-in-View-clause-work
returns-in-View-clause-work g c =
    let files = g.S.Shelf.files c.args.shelf.now in
    let run = running c.in-View.run' in
    let dump = dump_if_any c.in-View.dump in
    let options = options_of c.in-View.pins_only c.in-View.quiet c.in-View.cog c.in-View.from c.in-View.to in
    let result = c.view_work.result in
    subst (λ (command : Command). IfOk result (IsWork files (command_read command))) (sym c.in-View.is)
    (IfOk-weaker result _ _ (view-work files (ViewRun c.in-View.raw c.in-View.pins_only c.in-View.quiet run c.in-View.cog c.in-View.from c.in-View.to dump) (format_for c.in-View.raw run.file) run options dump (λ text is. is)) c.view_work.ensures.work)

pub returns-in-Page-clause-work : goal.returns-in-Page-clause-work
returns-in-Page-clause-work g c =
    let files = g.S.Shelf.files c.args.shelf.now in
    let run = running c.in-Page.run' in
    let result = c.page_work.result in
    subst (λ (command : Command). IfOk result (IsWork files (command_read command))) (sym c.in-Page.is)
    (IfOk-weaker result _ _ (page-work files (PageRun c.in-Page.raw run c.in-Page.from c.in-Page.to) (format_for c.in-Page.raw run.file) run c.in-Page.from c.in-Page.to (λ text is. is)) c.page_work.ensures.work)

pub returns-in_ok-work-in-ExplainNumber-clause-work : goal.returns-in_ok-work-in-ExplainNumber-clause-work
returns-in_ok-work-in-ExplainNumber-clause-work g c =
    let files = g.S.Shelf.files c.args.shelf.now in
    subst (λ (command : Command). IsWork files (command_read command) c.in_ok-work-in-ExplainNumber.work) (sym c.in-ExplainNumber.is) (c.in_ok-work-in-ExplainNumber.ensures files)

pub returns-in_ok-work-in-Make-clause-work : goal.returns-in_ok-work-in-Make-clause-work
returns-in_ok-work-in-Make-clause-work g c =
    let files = g.S.Shelf.files c.args.shelf.now in
    subst (λ (command : Command). IsWork files (command_read command) c.in_ok-work-in-Make.work) (sym c.in-Make.is) (c.in_ok-work-in-Make.ensures files c.in-Make.alone)

pub returns-in_ok-work-in-Help-clause-work : goal.returns-in_ok-work-in-Help-clause-work
returns-in_ok-work-in-Help-clause-work g c =
    let files = g.S.Shelf.files c.args.shelf.now in
    subst (λ (command : Command). IsWork files (command_read command) c.in_ok-work-in-Help.work) (sym c.in-Help.is) (c.in_ok-work-in-Help.ensures files)
