-- The first line ends where the first line feed is.
use Rattle.std.proofs.Common.{sym}
use Rattle.p8_pins.proofs.Texts.{lines-last, lines-first}
use Rattle.p8_pins.proofs.line_text.first_line.Goals as goal

pub returns-in-None-clause-lines : goal.returns-in-None-clause-lines
returns-in-None-clause-lines c = lines-last c.args.text.now (sym c.in-None.ensures) c.requires

pub returns-in-Some-clause-lines : goal.returns-in-Some-clause-lines
returns-in-Some-clause-lines c =
    lines-first c.args.text.now c.without_return.result.now c.in-Some.end (sym c.in-Some.ensures) c.without_return.ensures
