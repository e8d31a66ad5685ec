use Rattle.p8_grammar.proofs.Live.{one_tree}
use Rattle.p8_grammar.proofs.laws.one_tree.Goals as goal

pub returns : goal.returns
returns c = one_tree
