use Rattle.p8_lexer.proofs.Cuts.{line_comment_cut}
use Rattle.p8_lexer.proofs.cut.line_comment.Goals as goal

pub returns : goal.returns
returns c = (line_comment_cut c.args.text.now c.run_end.result c.run_end.ensures.behind c.run_end.ensures.within c.requires.apostrophe c.run_end.ensures.all c.run_end.ensures.stops, tt)
