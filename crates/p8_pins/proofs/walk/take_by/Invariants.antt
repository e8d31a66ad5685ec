use Rattle.std.proofs.Common.{ℕ, ◌≤◌, List, length}
use Rattle.p8_access.specs.declared.order.Turn.{Turn}
use Rattle.p8_pins.specs.Driving.{ComeFrom, StandFor}
use Rattle.p8_pins.proofs.walk.take_by.Given as goal

abbrev pub invariant-loop-turn : goal.invariant-loop-turn
invariant-loop-turn l = record {
  stands : (past : List Turn) (from : ℕ) → from ≤ l.clock → StandFor past from l.fn.registers l.turns → StandFor past l.clock l.registers l.rest;
  come : (from : ℕ) → ComeFrom from l.turns → ComeFrom 0 l.rest;
}

abbrev pub decreases-loop-turn : goal.decreases-loop-turn
decreases-loop-turn l = length l.rest
