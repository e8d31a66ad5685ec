use Rattle.std.proofs.Common.{◌≡◌, ◌++◌, List}
use Rattle.std.specs.List.{range_with_len, flat_map}
use Rattle.p8_access.specs.declared.order.Turn.{Turn}
use Rattle.p8_access.specs.Worlds.{World}
use Rattle.p8_hub.specs.Standing.{IsHub}
use Rattle.p8_report.specs.Text.{cog_text}
use Rattle.p8_report.proofs.tail.push_cogs.Given as goal

abbrev pub invariant-loop-cog : goal.invariant-loop-cog
invariant-loop-cog l = (w : World) (past : List Turn) → IsHub w past l.hub → l.out.items ≡ l.initial.out.items ++ flat_map (cog_text w past) (range_with_len 0 l.cog)
