use Rattle.std.proofs.Common.{subst, List}
use Rattle.p8_access.specs.declared.order.Turn.{Turn}
use Rattle.p8_pins.specs.Driving.{StandFor, ComeFrom}
use Rattle.p8_pins.proofs.Turning.{passes-idle, come-later}
use Rattle.p8_pins.proofs.walk.from_first_touch.Goals as goal

pub loop-turn-preserved : goal.loop-turn-preserved
loop-turn-preserved c =
    let turn = c.in-Some.turn.now in let after = c.in-Some.after.now in let is = c.in-Some.ensures.cases.0 in
    record {
      stands = λ past clock registers s.
          passes-idle past clock registers turn after (c.touches.ensures c.if-touches.false)
          (subst (λ (ts : List Turn). StandFor past clock registers ts) is (c.loop-turn.invariant.stands past clock registers s));
      come = λ clock h.
          let come = subst (λ (ts : List Turn). ComeFrom clock ts) is (c.loop-turn.invariant.come clock h) in
          come-later turn.key.clock clock after come.0 come.1;
    }
