use Rattle.std.proofs.Common.{◌≡◌, [], length}
use Rattle.p8_legend.specs.Frames.{with_locals}
use Rattle.p8_legend.proofs.locals.locals_of.Given as goal

abbrev pub invariant-loop-rows : goal.invariant-loop-rows
invariant-loop-rows l = with_locals (l.locals.ranges, l.locals.texts) l.image l.files l.rows ≡ with_locals ([], []) l.image l.files l.initial.rows

abbrev pub decreases-loop-rows : goal.decreases-loop-rows
decreases-loop-rows l = length l.rows
