use Rattle.std.proofs.Common.{arith, rules}
use Rattle.std.proofs.lemmas.Fmt.{decimal_digit}
use Rattle.p8_view.proofs.turns.push_cog.Goals as goal

pub returns : goal.returns
returns c = rw (decimal_digit c.args.cog (omega arith)) (search rules)
