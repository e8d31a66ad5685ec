use Rattle.std.proofs.Common.{refl}
use Rattle.p8_lexer.specs.Words.{symbols, reserved_words, every_word}
use Rattle.p8_lexer.specs.Table.{rows}
use Rattle.p8_lexer.proofs.table.table.Goals as goal

pub returns-clause-words : goal.returns-clause-words
unfolding rows every_word symbols reserved_words
returns-clause-words c = refl

pub returns-clause-meanings : goal.returns-clause-meanings
unfolding rows every_word symbols reserved_words
returns-clause-meanings c = refl
