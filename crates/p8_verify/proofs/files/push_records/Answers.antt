use Rattle.std.proofs.Common.{subst, arith}
use Rattle.std.specs.List.{All}
use Rattle.core.proofs.slice.Lists.{take_long}
use Rattle.p8_verify.specs.Fitting.{Fits}
use Rattle.p8_verify.proofs.Appending.{appended, one-more-fits}
use Rattle.p8_verify.proofs.files.push_records.Goals as goal

pub loop-turn-preserved : goal.loop-turn-preserved
loop-turn-preserved c = (
  appended c.args.turns.now c.loop-turn.turn-index _ c.loop-turn.out.items c.push_record.new.out.items _ c.loop-turn-test.true c.loop-turn.invariant.0 c.in_ok-push_record.ensures.bytes,
  one-more-fits c.args.turns.now c.loop-turn.turn-index _ c.loop-turn-test.true c.loop-turn.invariant.1 c.in_ok-push_record.ensures.within,
)

pub returns-clause-within : goal.returns-clause-within
returns-clause-within c =
    let before = c.loop-turn.auto.turn-index-end in
    subst (All Fits) (take_long c.args.turns.now c.loop-turn.turn-index (let after = c.loop-turn-test.false in omega arith)) c.loop-turn.invariant.1
