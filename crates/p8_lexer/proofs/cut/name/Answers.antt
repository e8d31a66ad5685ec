use Rattle.std.proofs.Common.{arith}
use Rattle.p8_lexer.specs.declared.token.TokenKind.TheVariants.{Name}
use Rattle.p8_lexer.proofs.Cuts.{name_cut, cut_is}
use Rattle.p8_lexer.proofs.cut.name.Goals as goal

pub returns-then-length-gt-NAME_LIMIT : goal.returns-then-length-gt-NAME_LIMIT
returns-then-length-gt-NAME_LIMIT c =
    let run = c.run_end-length.ensures in
    (c.run_end-length.result, name_cut c.args.text.now c.run_end-length.result run.behind run.within c.requires.letter run.all run.stops, omega arith)

pub returns-else-length-gt-NAME_LIMIT : goal.returns-else-length-gt-NAME_LIMIT
returns-else-length-gt-NAME_LIMIT c =
    let run = c.run_end-length.ensures in
    cut_is c.args.text.now Name c.run_end-length.result c.token.result c.token.ensures (name_cut c.args.text.now c.run_end-length.result run.behind run.within c.requires.letter run.all run.stops) (omega arith)
