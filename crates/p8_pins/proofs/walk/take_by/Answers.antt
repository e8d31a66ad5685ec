use Rattle.std.proofs.Common.{subst, List, arith}
use Rattle.p8_access.specs.declared.order.Turn.{Turn}
use Rattle.p8_pins.specs.Driving.{StandFor, ComeFrom}
use Rattle.p8_pins.proofs.Turning.{passes-taken, goes-on, come-later}
use Rattle.p8_pins.proofs.walk.take_by.Goals as goal

pub loop-turn-init : goal.loop-turn-init
loop-turn-init c = record {
  stands = λ past from le s. goes-on past from c.args.clock c.args.registers.now c.args.turns.now le s;
  come = λ from h. come-later from 0 c.args.turns.now (omega arith) h;
}

pub loop-turn-preserved : goal.loop-turn-preserved
loop-turn-preserved c =
    let turn = c.in-Some.turn.now in let after = c.in-Some.after.now in let is = c.in-Some.ensures.cases.0 in
    record {
      stands = λ past from le s.
          passes-taken past c.args.clock c.loop-turn.registers c.take.new.self turn after (omega (arith, c.if-clock-turn.false)) c.take.ensures.outa c.take.ensures.dira
          (subst (λ (ts : List Turn). StandFor past c.args.clock c.loop-turn.registers ts) is (c.loop-turn.invariant.stands past from le s));
      come = λ from h.
          let come = subst (λ (ts : List Turn). ComeFrom 0 ts) is (c.loop-turn.invariant.come from h) in
          come-later turn.key.clock 0 after come.0 come.1;
    }
