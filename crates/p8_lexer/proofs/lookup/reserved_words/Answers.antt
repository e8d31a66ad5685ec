use Rattle.p8_lexer.proofs.ReservedWords.{free_name, name_free}
use Rattle.p8_lexer.proofs.lookup.reserved_words.Goals as goal

pub returns : goal.returns
returns c = λ name begins capitals. (free_name name capitals, name_free name begins capitals)
