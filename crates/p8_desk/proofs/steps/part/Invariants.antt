use Rattle.std.proofs.Common.{[]}
use Rattle.p8_desk.proofs.steps.part.Given as goal

abbrev pub ghosts-part_named : goal.ghosts-part_named
ghosts-part_named a = record { cog = a.cog; seen = [] }
