use Rattle.p8_lexer.proofs.Cuts.{dollar_only}
use Rattle.p8_lexer.proofs.cut.with_dollar.Goals as goal

pub symbol-requires-clause-only : goal.symbol-requires-clause-only
symbol-requires-clause-only c = dollar_only c.args.text.now c.requires.dollar c.in-None.ensures
