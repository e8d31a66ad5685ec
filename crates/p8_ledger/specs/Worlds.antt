-- The world of a run.
use Rattle.std.specs.Prelude.{List}
use Rattle.p8_access.specs.declared.memory.Boot.{Boot}
use Rattle.p8_access.specs.Worlds.{Line, World}
use Rattle.p8_ledger.specs.declared.outcome.Limits.{Limits}

-- a boot, the lines of a pin script, and limits
abbrev pub world_of : Boot → List Line → Limits → World
world_of boot script limits = record { memory = boot.ram; first = boot.first; script = script; clocks = limits.clocks; turns = limits.turns }
