use Rattle.std.proofs.Common.{◌∙◌}
use Rattle.p8_lexer.proofs.TableLemmas.{by_there}
use Rattle.p8_lexer.proofs.word.Word.by.Goals as goal

pub returns : goal.returns
returns c = c.first_by.ensures ∙ by_there c.table.result.now c.args.sought c.table.ensures.words
