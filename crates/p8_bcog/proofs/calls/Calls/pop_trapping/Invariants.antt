use Rattle.std.proofs.Common.{◌≡◌, length}
use Rattle.p8_bcog.specs.Newest.{trapping}
use Rattle.p8_bcog.proofs.calls.Calls.pop_trapping.Given as goal

abbrev pub invariant-loop-call : goal.invariant-loop-call
invariant-loop-call l = trapping l.self ≡ trapping l.fn.self

abbrev pub decreases-loop-call : goal.decreases-loop-call
decreases-loop-call l = length l.self
