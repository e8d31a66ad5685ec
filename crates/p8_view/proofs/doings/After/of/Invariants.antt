use Rattle.std.proofs.Common.{◌≡◌, take, reverse}
use Rattle.p8_access.specs.Worlds.{World}
use Rattle.p8_view.specs.Following.{AreCogs, AreDoings}
use Rattle.p8_view.proofs.doings.After.of.Given as goal

abbrev pub invariant-loop-number : goal.invariant-loop-number
invariant-loop-number l = record {
  doings : (w : World) → w.first ≡ l.fn.first → AreDoings w l.counters (reverse (take l.number l.turns)) l.doings;
  cogs : (w : World) → w.first ≡ l.fn.first → AreCogs w (reverse (take l.number l.turns)) l.cogs;
}
