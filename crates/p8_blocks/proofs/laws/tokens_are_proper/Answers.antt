use Rattle.std.proofs.Common.{map}
use Rattle.p8_expr.specs.Words.{token_of}
use Rattle.p8_blocks.proofs.ProperTokens.{tokens_proper}
use Rattle.p8_blocks.proofs.laws.tokens_are_proper.Goals as goal

pub returns : goal.returns
returns c = λ bytes tokens small are. tokens_proper bytes tokens (c.lexemes_are_proper.ensures (map (token_of bytes) tokens) (c.tokens_are_lexemes.ensures bytes tokens small are))
