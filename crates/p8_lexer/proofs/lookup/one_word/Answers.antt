use Rattle.std.proofs.Common.{map}
use Rattle.p8_lexer.specs.Words.{capital, every_word}
use Rattle.p8_lexer.proofs.Searches.{read_back, spells}
use Rattle.p8_lexer.proofs.lookup.one_word.Goals as goal

pub returns-clause-read : goal.returns-clause-read
returns-clause-read c = λ word text some h. read_back word (map capital text) h

pub returns-clause-spelled : goal.returns-clause-spelled
returns-clause-spelled c = λ word text h. spells (map capital text) every_word word h
