use Rattle.std.proofs.Common.{◌∙◌}
use Rattle.p8_lexer.proofs.TableLemmas.{symbol_at}
use Rattle.p8_lexer.proofs.word.Word.symbol.Goals as goal

pub returns : goal.returns
returns c = c.word_at.ensures ∙ symbol_at c.symbol_rows.result.now c.args.number c.symbol_rows.ensures
