use Rattle.std.proofs.Common.{◌≡◌, take, reverse}
use Rattle.p8_access.specs.Worlds.{World}
use Rattle.p8_view.specs.Following.{AreCogs}
use Rattle.p8_view.specs.View.{lines_of, rate}
use Rattle.p8_view.proofs.turns.lines.Given as goal

abbrev pub invariant-loop-number : goal.invariant-loop-number
invariant-loop-number l = record {
  text : (w : World) → w.first ≡ l.fn.first → l.showing.frequency ≡ rate w → l.out.items ≡ lines_of l.showing.options.now l.showing.legend.now w l.counters (reverse (take l.number l.turns));
  cogs : (w : World) → w.first ≡ l.fn.first → AreCogs w (reverse (take l.number l.turns)) l.cogs;
}
