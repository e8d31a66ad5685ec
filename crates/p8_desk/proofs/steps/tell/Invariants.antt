use Rattle.p8_desk.specs.Seats.{worked_in}
use Rattle.p8_desk.proofs.steps.tell.Given as goal

abbrev pub ghosts-tell_named : goal.ghosts-tell_named
ghosts-tell_named a = record { cog = a.cog; seen = worked_in a.seat.now.me a.cog a.outcome }
