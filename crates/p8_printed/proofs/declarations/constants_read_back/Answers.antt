use Rattle.std.proofs.lemmas.List.Elements.{All-weaker}
use Rattle.p8_tree.specs.Proper.{IsProperConstant}
use Rattle.p8_lines.specs.declared.state.LineState.TheVariants as state
use Rattle.p8_lines.specs.Tokens.{terms}
use Rattle.p8_printed.proofs.Constants.{IsReadBack}
use Rattle.p8_printed.proofs.ReadLines.{constant_back}
use Rattle.p8_printed.proofs.declarations.constants_read_back.Goals as goal

pub returns-clause-head : goal.returns-clause-head
returns-clause-head c us row xs w g e =
    let pieces = c.rows_are_proper.ensures.pieces state.ConHead (λ h. cc) us row w (c.lexemes_are_proper.ensures (terms us) g) in
    All-weaker IsProperConstant IsReadBack constant_back xs (c.declarations_are_proper.ensures.constants row xs pieces e)

pub returns-clause-line : goal.returns-clause-line
returns-clause-line c us row xs w g e =
    let pieces = c.rows_are_proper.ensures.pieces state.ConItem (λ h. cc) us row w (c.lexemes_are_proper.ensures (terms us) g) in
    All-weaker IsProperConstant IsReadBack constant_back xs (c.declarations_are_proper.ensures.constants row xs pieces e)
