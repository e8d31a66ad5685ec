use Rattle.p8_printed.proofs.ReadWords.{lexeme_kept}
use Rattle.p8_printed.proofs.expression_words.word_is_lexeme.Goals as goal

pub returns : goal.returns
returns c = λ bytes line column w t readable capitals is. lexeme_kept bytes line column w t is readable capitals
