use Rattle.p8_lines.specs.Tokens.{terms}
use Rattle.p8_printed.proofs.AgainLines.{of_row}
use Rattle.p8_printed.proofs.methods.lines_read_back.Goals as goal

pub returns : goal.returns
returns c q us row k begins = of_row us row k (λ ts. c.lexemes_are_proper.ensures (terms ts)) c.kinds_are_proper.ensures q (c.rows_are_proper.ensures.actions q begins)
