use Rattle.std.proofs.Common.{◌+◌, ◌∙◌, sym, arith}
use Rattle.p8_lexer.specs.declared.token.TokenKind.TheVariants.{Str}
use Rattle.p8_lexer.proofs.Cuts.{string_cut, cut_is}
use Rattle.p8_lexer.proofs.cut.string.Goals as goal

pub returns-then-at-eq34 : goal.returns-then-at-eq34
returns-then-at-eq34 c =
    let text = c.args.text.now in
    let run = c.run_end-end.ensures in
    let end = c.run_end-end.result in
    cut_is text Str (end + 1) c.token.result c.token.ensures (string_cut text end run.behind run.within c.requires.quote run.all (omega arith) (sym c.at.ensures ∙ c.if-at-eq34.true)) tt
