use Rattle.std.proofs.Common.{arith}
use Rattle.p8_lexer.proofs.Symbols.{symbol_tag, at_tag}
use Rattle.p8_lexer.proofs.word.Word.symbol_number.Goals as goal

pub returns-then-number-lt-SYMBOL_COUNT : goal.returns-then-number-lt-SYMBOL_COUNT
returns-then-number-lt-SYMBOL_COUNT c = at_tag c.args.self c.if-number-lt-SYMBOL_COUNT.true

pub returns-else-number-lt-SYMBOL_COUNT : goal.returns-else-number-lt-SYMBOL_COUNT
returns-else-number-lt-SYMBOL_COUNT c = λ n e. omega (arith, symbol_tag n c.args.self e)
