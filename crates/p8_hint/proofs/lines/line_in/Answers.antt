use Rattle.std.proofs.Common.{◌∙◌, sym}
use Rattle.p8_hint.proofs.Lined.{line_inside, line_else}
use Rattle.p8_hint.proofs.lines.line_in.Goals as goal

pub returns-in-Some : goal.returns-in-Some
returns-in-Some c = c.as_slice.ensures.value ∙ sym (line_inside c.args.lines.now c.args.last.now c.args.number c.in-Some.line.now c.in-Some.ensures)

pub returns-in-None : goal.returns-in-None
returns-in-None c = c.last_or_none.ensures ∙ line_else c.args.lines.now c.args.last.now c.args.number c.in-None.ensures
