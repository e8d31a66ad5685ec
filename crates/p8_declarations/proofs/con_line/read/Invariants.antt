use Rattle.std.proofs.Common.{◌≡◌, map, length}
use Rattle.p8_tree.specs.Views.{constant_of}
use Rattle.p8_declarations.specs.Constants.{constants}
use Rattle.p8_declarations.specs.Views.{parts_in, with_all}
use Rattle.p8_declarations.proofs.con_line.read.Given as goal

abbrev pub invariant-items : goal.invariant-items
invariant-items l = constants (parts_in l.fn.row) ≡ with_all (map constant_of l.items) (constants (parts_in l.row))

abbrev pub decreases-items : goal.decreases-items
decreases-items l = length (parts_in l.row)
