use Rattle.std.proofs.Common.{◌∙◌, sym, refl}
use Rattle.p8_commands.specs.Seen.{command_read}
use Rattle.p8_prop.proofs.Answering.{by-line}
use Rattle.p8_prop.proofs.answer.ended.Goals as goal

pub returns-else-explains-clause-ended : goal.returns-else-explains-clause-ended
returns-else-explains-clause-ended g c =
    by-line (command_read c.args.command) c.args.stop.now _ _ c.stopped.result (sym c.explains.ensures ∙ c.if-explains.false) c.stopped.ensures.status refl c.stopped.ensures.wrote
