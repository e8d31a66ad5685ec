use Rattle.p8_grammar.proofs.Readings.{one_longest}
use Rattle.p8_grammar.proofs.laws.one_longest_front.Goals as goal

pub returns : goal.returns
returns c = one_longest
