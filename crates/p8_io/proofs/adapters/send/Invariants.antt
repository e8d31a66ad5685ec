use Rattle.std.proofs.Common.{length}
use Rattle.p8_io.proofs.Streams.{IsSent}
use Rattle.p8_io.proofs.adapters.send.Given as goal

abbrev pub invariant-turns : goal.invariant-turns
invariant-turns g l = IsSent (g.W.Write.contents l.initial.to) (g.W.Write.contents l.to) l.bytes l.rest

abbrev pub decreases-turns : goal.decreases-turns
decreases-turns g l = length l.rest
