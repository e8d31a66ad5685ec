use Rattle.p8_lexer.proofs.TableLemmas.{in_table, meant_there}
use Rattle.p8_lexer.proofs.word.Word.meaning.Goals as goal

pub bounds-table-self : goal.bounds-table-self
bounds-table-self c = in_table c.table.result.now c.table.ensures.words c.args.self

pub returns : goal.returns
returns c = meant_there c.table.result.now c.args.self _ c.table.ensures.meanings
