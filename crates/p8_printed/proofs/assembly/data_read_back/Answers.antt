use Rattle.p8_lines.specs.declared.state.LineState.TheVariants as state
use Rattle.p8_lines.specs.Tokens.{terms}
use Rattle.p8_lines.proofs.Readings.{leads_row}
use Rattle.p8_printed.proofs.ReadLines.{line_back}
use Rattle.p8_printed.proofs.assembly.data_read_back.Goals as goal

pub returns-clause-head : goal.returns-clause-head
returns-clause-head c us row x w g e =
    let pieces = c.rows_are_proper.ensures.pieces state.DatHead (λ h. cc) us row w (c.lexemes_are_proper.ensures (terms us) g) in
    line_back x (c.data_are_proper.ensures.head row us x (leads_row w) pieces e)

pub returns-clause-line : goal.returns-clause-line
returns-clause-line c us row x w g e =
    let pieces = c.rows_are_proper.ensures.pieces state.DatLine (λ h. cc) us row w (c.lexemes_are_proper.ensures (terms us) g) in
    line_back x (c.data_are_proper.ensures.line row us x (leads_row w) pieces e)
