use Rattle.p8_lexer.proofs.Cuts.{blank_cut}
use Rattle.p8_lexer.proofs.cut.blank.Goals as goal

pub returns : goal.returns
returns c = (blank_cut c.args.text.now c.run_end.result c.run_end.ensures.behind c.run_end.ensures.within c.requires.blank c.run_end.ensures.all c.run_end.ensures.stops, tt)
