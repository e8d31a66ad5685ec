use Rattle.std.proofs.lemmas.List.Elements.{All-weaker}
use Rattle.p8_tree.specs.Proper.{IsProperDeclared}
use Rattle.p8_lines.specs.declared.state.LineState.TheVariants as state
use Rattle.p8_lines.specs.Tokens.{terms}
use Rattle.p8_printed.proofs.Variables.{IsReadBack}
use Rattle.p8_printed.proofs.ReadLines.{variable_back}
use Rattle.p8_printed.proofs.declarations.variables_read_back.Goals as goal

pub returns-clause-head : goal.returns-clause-head
returns-clause-head c us row xs w g e =
    let pieces = c.rows_are_proper.ensures.pieces state.VarHead (λ h. cc) us row w (c.lexemes_are_proper.ensures (terms us) g) in
    All-weaker IsProperDeclared IsReadBack variable_back xs (c.declarations_are_proper.ensures.variables row xs pieces e)

pub returns-clause-line : goal.returns-clause-line
returns-clause-line c us row xs w g e =
    let pieces = c.rows_are_proper.ensures.pieces state.VarLine (λ h. cc) us row w (c.lexemes_are_proper.ensures (terms us) g) in
    All-weaker IsProperDeclared IsReadBack variable_back xs (c.declarations_are_proper.ensures.variables row xs pieces e)
