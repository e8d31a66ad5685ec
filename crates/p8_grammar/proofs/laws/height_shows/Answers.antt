use Rattle.p8_grammar.proofs.Readings.{shows}
use Rattle.p8_grammar.proofs.laws.height_shows.Goals as goal

pub returns : goal.returns
returns c = shows
