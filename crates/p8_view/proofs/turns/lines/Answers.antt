use Rattle.std.proofs.Common.{arith, take, reverse}
use Rattle.p8_view.proofs.Showing.{cogs_more, of_eight, one_more}
use Rattle.p8_view.proofs.turns.lines.Goals as goal

pub push_turn-requires : goal.push_turn-requires
push_turn-requires c = of_eight c.args.turns.now c.loop-number.number _ c.requires (omega arith)

pub loop-number-preserved : goal.loop-number-preserved
loop-number-preserved c =
    let turns = c.args.turns.now in
    let number = c.loop-number.number in
    record {
      text = λ w first rate.
          one_more c.args.showing.now.options.now c.args.showing.now.legend.now w c.args.counters.now turns number _ _ _ _ (omega arith) c.counter_of-counter.ensures
          (c.in_ok-push_turn.ensures.text w (reverse (take number turns)) (c.loop-number.invariant.cogs w first) rate)
          (c.loop-number.invariant.text w first rate);
      cogs = λ w first. cogs_more w turns number _ _ (omega arith) (c.in_ok-push_turn.ensures.cogs w (reverse (take number turns)) (c.loop-number.invariant.cogs w first));
    }
