use Rattle.std.proofs.Common.{sym, arith}
use Rattle.p8_wave.proofs.Tens.{next_tens, next_left, stopped, stopped_left, ended, ended_left}
use Rattle.p8_wave.proofs.scale.tens_of.Goals as goal

pub loop-power-preserved : goal.loop-power-preserved
loop-power-preserved c =
    let power = c.loop-power.power in
    let left = c.loop-power.left in
    let so_far = c.loop-power.invariant in
    record {
      most = omega arith;
      left = next_left c.args.period power left so_far.most so_far.left so_far.tens c.if-left-ne0.false;
      tens = next_tens c.args.period power left so_far.most so_far.left so_far.tens c.loop-power-test.true c.if-left-ne0.false;
    }

pub returns-then-left-ne0-clause-power : goal.returns-then-left-ne0-clause-power
returns-then-left-ne0-clause-power c =
    let so_far = c.loop-power.invariant in
    sym (stopped c.args.period c.loop-power.power c.loop-power.left so_far.most so_far.left so_far.tens c.if-left-ne0.true)

pub returns-then-left-ne0-clause-left : goal.returns-then-left-ne0-clause-left
returns-then-left-ne0-clause-left c =
    let so_far = c.loop-power.invariant in
    stopped_left c.args.period c.loop-power.power c.loop-power.left so_far.most so_far.left so_far.tens c.if-left-ne0.true

pub returns-clause-power : goal.returns-clause-power
returns-clause-power c =
    let so_far = c.loop-power.invariant in
    sym (ended c.args.period c.loop-power.power c.loop-power.left so_far.most so_far.left so_far.tens c.loop-power-test.false)

pub returns-clause-left : goal.returns-clause-left
returns-clause-left c =
    let so_far = c.loop-power.invariant in
    ended_left c.args.period c.loop-power.power c.loop-power.left so_far.most so_far.left so_far.tens c.loop-power-test.false
