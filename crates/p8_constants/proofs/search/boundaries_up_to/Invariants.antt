use Rattle.std.proofs.Common.{ℕ, ◌<◌, ◌≤◌, length}
use Rattle.p8_constants.specs.Searches.{boundary_at}
use Rattle.p8_constants.proofs.search.boundaries_up_to.Given as goal

abbrev pub invariant-loop-kept : goal.invariant-loop-kept
invariant-loop-kept l = (l.kept ≤ length l.boundaries) × ((k : ℕ) → l.kept ≤ k → k < length l.boundaries → l.position < (boundary_at l.boundaries k).node)

abbrev pub decreases-loop-kept : goal.decreases-loop-kept
decreases-loop-kept l = l.kept
