use Rattle.std.proofs.Common.{rules}
use Rattle.p8_verify.proofs.Walking.{turn-by-parts}
use Rattle.p8_verify.proofs.verdicts.difference.Goals as goal

pub returns : goal.returns
returns c = turn-by-parts c.args.turn.now c.args.next.now (search rules) (search rules) (search rules)
