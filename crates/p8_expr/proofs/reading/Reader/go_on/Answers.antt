use Rattle.std.proofs.Common.{ap, ◌∙◌}
use Rattle.std.specs.Prelude.{Some}
use Rattle.p8_grammar.specs.Grammar.{infix_of}
use Rattle.p8_expr.specs.Views.{frames_in}
use Rattle.p8_expr.proofs.Stepping.{word_is}
use Rattle.p8_expr.proofs.Operators.{ends_no_rank, ends_word}
use Rattle.p8_expr.proofs.reading.Reader.go_on.Goals as goal

pub returns-in-Assigns : goal.returns-in-Assigns
returns-in-Assigns c = λ st has. c.assign.ensures st has (word_is c.args.self.now.ahead _ c.requires.fits c.in-Assigns.is)

pub returns-in-Some : goal.returns-in-Some
returns-in-Some c = λ st has. c.operate.ensures st has (ap infix_of (word_is c.args.self.now.ahead _ c.requires.fits c.in-Infix.is) ∙ ap (λ r. Some (r, c.in-Infix.code)) c.in-Some.ensures.0)

pub returns-in-None : goal.returns-in-None
returns-in-None c = λ st has.
    let ahead = c.args.self.now.ahead in
    c.end.ensures st has (ends_no_rank ahead c.args.value (frames_in c.args.self.now.stack) c.in-Infix.rank c.in-Infix.code (ap infix_of (word_is ahead _ c.requires.fits c.in-Infix.is)) c.in-None.ensures)

pub returns-in-Sign : goal.returns-in-Sign
returns-in-Sign c = λ st has. c.operate-in-Sign.ensures st has (ap infix_of (word_is c.args.self.now.ahead _ c.requires.fits c.in-Sign.is))

pub returns-in_default : goal.returns-in_default
returns-in_default c = λ st has.
    let ahead = c.args.self.now.ahead in
    c.end-in_default.ensures st has (ends_word ahead c.args.value (frames_in c.args.self.now.stack) c.requires.fits c.in_default.not-Assigns c.in_default.not-Infix c.in_default.not-Sign)
