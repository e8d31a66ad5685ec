use Rattle.std.proofs.Common.{reverse, arith}
use Rattle.p8_pins.proofs.Walking.{stands-first}
use Rattle.p8_pins.proofs.walk.Walk.open.Goals as goal

pub returns-clause-at : goal.returns-clause-at
returns-clause-at c = λ come. record {
  stands = c.take_by-to_come.ensures.stands (reverse c.args.turns.now) 0 (omega arith) (stands-first c.open-registers.result c.args.turns.now c.open-registers.ensures);
  later = c.take_by-to_come.ensures.come 0 come;
  levels = c.span_at.ensures.levels;
  end = c.span_at.ensures.later;
  same = c.span_at.ensures.same;
}
