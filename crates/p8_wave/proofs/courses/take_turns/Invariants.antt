use Rattle.std.proofs.Common.{◌≡◌, List, length}
use Rattle.p8_access.specs.declared.order.Turn.{Turn}
use Rattle.p8_access.specs.Worlds.{World}
use Rattle.p8_wave.specs.Following.{AreSignals}
use Rattle.p8_wave.specs.Walks.{left_by, IsTaking}
use Rattle.p8_wave.proofs.courses.take_turns.Given as goal

abbrev pub invariant-loop-left : goal.invariant-loop-left
invariant-loop-left l = record {
  left : left_by l.clock l.left ≡ left_by l.clock l.turns;
  signals : (w : World) (past : List Turn) → AreSignals w past l.initial.signals → IsTaking w l.clock l.turns past l.left l.signals;
}

abbrev pub decreases-loop-left : goal.decreases-loop-left
decreases-loop-left l = length l.left
