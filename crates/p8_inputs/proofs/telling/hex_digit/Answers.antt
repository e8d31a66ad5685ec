use Rattle.std.proofs.Common.{sym}
use Rattle.p8_inputs.proofs.Digits.{low-digit, high-digit}
use Rattle.p8_inputs.proofs.telling.hex_digit.Goals as goal

pub returns-then-digit-lt10 : goal.returns-then-digit-lt10
returns-then-digit-lt10 c = sym (low-digit c.args.digit c.if-digit-lt10.true)

pub returns-else-digit-lt10 : goal.returns-else-digit-lt10
returns-else-digit-lt10 c = sym (high-digit c.args.digit c.if-digit-lt10.false c.requires)
