-- A machine, its world and its history so far.
use Rattle.std.specs.Prelude.{List, reverse}
use Rattle.p8_access.specs.declared.order.Turn.{Turn}
use Rattle.p8_access.specs.Worlds.{World}
use Rattle.p8_ledger.specs.Records.{Record}
use Rattle.p8_ledger.specs.Worlds.{world_of}
use Rattle.p8_machine.specs.declared.run.Machine.{Machine}
use Rattle.p8_machine.specs.Standing.{Stands}

-- the world of a machine
abbrev pub world_in : Machine → World
world_in machine = world_of machine.ledger.boot machine.script machine.ledger.limits

-- the turns that it has made, the newest first
abbrev pub past_in : Machine → List Turn
past_in machine = reverse machine.ledger.turns.list

-- its parts stand for these turns in this world
abbrev pub IsStanding : Machine → Type 0
IsStanding machine = (r : Record) × Stands (world_in machine) r machine.ledger machine.seats.lives.items
