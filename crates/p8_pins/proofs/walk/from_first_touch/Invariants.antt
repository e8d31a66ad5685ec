use Rattle.std.proofs.Common.{ℕ, List, length}
use Rattle.p8_access.specs.declared.order.Turn.{Turn}
use Rattle.p8_pins.specs.declared.registers.Registers.{Registers}
use Rattle.p8_pins.specs.Driving.{ComeFrom, StandFor}
use Rattle.p8_pins.proofs.walk.from_first_touch.Given as goal

abbrev pub invariant-loop-turn : goal.invariant-loop-turn
invariant-loop-turn l = record {
  stands : (past : List Turn) (clock : ℕ) (registers : Registers) → StandFor past clock registers l.turns → StandFor past clock registers l.rest;
  come : (clock : ℕ) → ComeFrom clock l.turns → ComeFrom clock l.rest;
}

abbrev pub decreases-loop-turn : goal.decreases-loop-turn
decreases-loop-turn l = length l.rest
