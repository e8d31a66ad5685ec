use Rattle.std.proofs.Common.{◌≡◌, ◌++◌, ℕ, Option, List}
use Rattle.std.specs.List.{range_with_len, flat_map}
use Rattle.p8_access.specs.declared.order.Turn.{Turn}
use Rattle.p8_access.specs.Worlds.{World}
use Rattle.p8_view.specs.Following.{AreCogs, AreDoings}
use Rattle.p8_view.specs.Ending.{cog_line}
use Rattle.p8_view.proofs.ending.push_cogs.Given as goal

abbrev pub invariant-loop-cog : goal.invariant-loop-cog
invariant-loop-cog l = (w : World) (counters : List (Option ℕ)) (past : List Turn) → w.clocks ≡ l.nexts.clocks → AreDoings w counters past l.after.doings → AreCogs w past l.after.cogs → l.out.items ≡ l.initial.out.items ++ flat_map (cog_line l.nexts.legend.now w counters l.nexts.asked.now past) (range_with_len 0 l.cog)
