use Rattle.std.proofs.Common.{◌≡◌, ◌≤◌, ◌++◌, take, reverse}
use Rattle.p8_access.specs.Worlds.{World}
use Rattle.p8_report.specs.Origins.{AreOrigins}
use Rattle.p8_report.specs.Text.{lines_of}
use Rattle.p8_report.proofs.lines.lines.Given as goal

abbrev pub invariant-loop-turn : goal.invariant-loop-turn
invariant-loop-turn l = record {
  at : l.at ≤ 4096;
  text : (w : World) → w.first ≡ l.fn.first → l.out.items ++ take l.at l.page ≡ lines_of w (reverse (take l.turn-index l.turns));
  origins : (w : World) → w.first ≡ l.fn.first → AreOrigins w (reverse (take l.turn-index l.turns)) l.origins;
}
