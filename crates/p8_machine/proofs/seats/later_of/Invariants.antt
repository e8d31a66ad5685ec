use Rattle.std.proofs.Common.{◌≡◌, ◌-◌, List}
use Rattle.p8_access.specs.declared.order.Turn.{Turn}
use Rattle.p8_access.specs.Lives.{Begun}
use Rattle.p8_machine.proofs.seats.later_of.Given as goal

abbrev pub invariant-asks : goal.invariant-asks
invariant-asks g l = record {
  keeps : (b : Begun) (ts : List Turn) → g.L.Life.stands l.fn.life b ts → g.L.Life.stands l.life b ts;
  cog : g.L.Life.cog l.life ≡ g.L.Life.cog l.fn.life;
}

abbrev pub decreases-asks : goal.decreases-asks
decreases-asks g l = l.until - g.L.Life.reached l.life
