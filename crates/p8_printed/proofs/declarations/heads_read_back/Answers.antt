use Rattle.p8_lines.specs.declared.state.LineState.TheVariants as state
use Rattle.p8_lines.specs.Tokens.{terms}
use Rattle.p8_printed.proofs.ReadLines.{head_back}
use Rattle.p8_printed.proofs.declarations.heads_read_back.Goals as goal

pub returns : goal.returns
returns c public us row m w g e =
    let pieces = c.rows_are_proper.ensures.pieces state.MethodName (λ h. cc) us row w (c.lexemes_are_proper.ensures (terms us) g) in
    head_back public row m (c.declarations_are_proper.ensures.heads public row m pieces e) e
