use Rattle.std.proofs.Common.{length, subst, sym}
use Rattle.p8_lexer.specs.Lexing.{IsFloatTail}
use Rattle.p8_lexer.specs.Cutting.{IsGreatest}
use Rattle.p8_lexer.proofs.NumberLemmas.{fraction_longest, exponent_longest}
use Rattle.p8_lexer.proofs.number.float_tail_end.Goals as goal

pub returns-in-Some : goal.returns-in-Some
returns-in-Some c =
    let text = c.args.text.now in
    subst (IsGreatest (IsFloatTail text c.args.from) (length text)) (sym c.unwrap_or.ensures) (fraction_longest text c.args.from c.in-Some.end c.in-Some.ensures c.exponent_end.result c.exponent_end.ensures)

pub returns-in-None : goal.returns-in-None
returns-in-None c = exponent_longest c.args.text.now c.args.from c.in-None.ensures c.exponent_end-in-None.result c.exponent_end-in-None.ensures
