use Rattle.std.proofs.Common.{take}
use Rattle.p8_constants.specs.Searches.{IsClosed}
use Rattle.p8_constants.proofs.search.close.Given as goal

abbrev pub invariant-loop-node : goal.invariant-loop-node
invariant-loop-node l = IsClosed l.initial.marks (take l.node-index l.nodes) l.number l.marks
