use Rattle.p8_lexer.specs.declared.token.TokenKind.TheVariants.{Float}
use Rattle.p8_lexer.proofs.Pieces.{no_float}
use Rattle.p8_lexer.proofs.Cuts.{decimal_digits, float_cut, cut_is}
use Rattle.p8_lexer.proofs.cut.decimal.Goals as goal

pub number-requires-clause-no_float : goal.number-requires-clause-no_float
number-requires-clause-no_float c =
    let text = c.args.text.now in
    let run = c.run_end-end.ensures in
    no_float text c.run_end-end.result (decimal_digits text c.run_end-end.result c.requires.digit run.behind run.within run.all run.stops) c.in-None.ensures

pub returns-in-Some : goal.returns-in-Some
returns-in-Some c =
    let text = c.args.text.now in
    let run = c.run_end-end.ensures in
    let digits = decimal_digits text c.run_end-end.result c.requires.digit run.behind run.within run.all run.stops in
    cut_is text Float c.in-Some.length c.token.result c.token.ensures (float_cut text c.run_end-end.result c.in-Some.length digits c.in-Some.ensures) tt
