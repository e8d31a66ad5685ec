use Rattle.std.proofs.Common.{◌≡◌, [], length}
use Rattle.p8_legend.specs.ProjectLegends.{with_rows}
use Rattle.p8_legend.proofs.code_places.places_of.Given as goal

abbrev pub invariant-loop-rows : goal.invariant-loop-rows
invariant-loop-rows l = with_rows (l.places.ranges, l.places.texts) l.files l.rows ≡ with_rows ([], []) l.files l.initial.rows

abbrev pub decreases-loop-rows : goal.decreases-loop-rows
decreases-loop-rows l = length l.rows
