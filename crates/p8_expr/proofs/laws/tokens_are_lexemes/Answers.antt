use Rattle.p8_lexer.specs.Characters.{text_of}
use Rattle.std.proofs.Common.{length}
use Rattle.p8_expr.proofs.Sources.{tokens_are}
use Rattle.p8_expr.proofs.laws.tokens_are_lexemes.Goals as goal

pub returns : goal.returns
returns c = λ bytes tokens small are. tokens_are bytes small tokens are.1.0 (length (text_of bytes)) are.1.1 are.1.2
