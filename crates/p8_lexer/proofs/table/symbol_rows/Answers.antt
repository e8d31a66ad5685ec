use Rattle.std.proofs.Common.{sym, arith}
use Rattle.std.proofs.lemmas.List.{length-take-le}
use Rattle.p8_lexer.proofs.TableLemmas.{code_count, first_rows}
use Rattle.p8_lexer.proofs.table.symbol_rows.Goals as goal

pub slice_bounds-result-end : goal.slice_bounds-result-end
slice_bounds-result-end c = let enough = code_count c.table.result.now c.table.ensures.words in sym (length-take-le 71 c.table.result.now (omega (arith, enough)))

pub returns : goal.returns
returns c = first_rows c.table.result.now c.table.ensures.words
