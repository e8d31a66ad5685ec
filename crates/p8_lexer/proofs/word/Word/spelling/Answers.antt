use Rattle.p8_lexer.proofs.TableLemmas.{in_table, spelled_there}
use Rattle.p8_lexer.proofs.word.Word.spelling.Goals as goal

pub bounds-table-self : goal.bounds-table-self
bounds-table-self c = in_table c.table.result.now c.table.ensures.words c.args.self

pub returns : goal.returns
returns c = spelled_there c.table.result.now c.table.ensures.words c.args.self _
