use Rattle.std.proofs.Common.{◌≡◌, ◌∙◌, sym, ap, subst, arith, List, take, reverse}
use Rattle.p8_access.specs.declared.order.Turn.{Turn}
use Rattle.p8_view.specs.Following.{AreCogs, AreDoings}
use Rattle.p8_view.specs.View.{counter_of}
use Rattle.p8_view.proofs.Showing.{cogs_more, doings_more, of_eight, so_many, whole}
use Rattle.p8_view.proofs.doings.After.of.Goals as goal

pub origin-requires : goal.origin-requires
origin-requires c = of_eight c.args.turns.now c.loop-number.number _ c.requires (omega arith)

pub record_turn-requires : goal.record_turn-requires
record_turn-requires c = of_eight c.args.turns.now c.loop-number.number _ c.requires (omega arith)

pub record_turn-requires-in-loop-number : goal.record_turn-requires-in-loop-number
record_turn-requires-in-loop-number c = of_eight c.args.turns.now c.loop-number.number _ c.requires (omega arith)

pub loop-number-init : goal.loop-number-init
loop-number-init c = record {
  doings = λ w first. c.open-doings.ensures w c.args.counters.now;
  cogs = λ w first. c.open-cogs.ensures w first;
}

pub loop-number-preserved : goal.loop-number-preserved
loop-number-preserved c =
    let turns = c.args.turns.now in
    let number = c.loop-number.number in
    record {
      doings = λ w first.
          doings_more w c.args.counters.now turns number _ _ (omega arith)
          (c.record_turn.ensures w c.args.counters.now (reverse (take number turns)) (c.origin.ensures w (reverse (take number turns)) (c.loop-number.invariant.cogs w first))
          (c.counter_of.ensures ∙ ap (counter_of c.args.counters.now) (sym (so_many turns number (omega arith)))) (c.loop-number.invariant.doings w first));
      cogs = λ w first. cogs_more w turns number _ _ (omega arith) (c.record_turn-in-loop-number.ensures w (reverse (take number turns)) (c.loop-number.invariant.cogs w first));
    }

pub returns : goal.returns
returns c = λ w first.
    let turns = c.args.turns.now in
    let all : take c.loop-number.number turns ≡ turns = whole turns c.loop-number.number (omega arith) in (
      subst (λ (ts : List Turn). AreDoings w c.args.counters.now (reverse ts) c.loop-number.doings) all (c.loop-number.invariant.doings w first),
      subst (λ (ts : List Turn). AreCogs w (reverse ts) c.loop-number.cogs) all (c.loop-number.invariant.cogs w first),
    )
