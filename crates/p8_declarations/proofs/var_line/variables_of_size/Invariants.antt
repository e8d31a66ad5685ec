use Rattle.std.proofs.Common.{◌≡◌, map, length}
use Rattle.p8_tree.specs.Views.{declared_of}
use Rattle.p8_declarations.specs.Variables.{variables}
use Rattle.p8_declarations.specs.Views.{parts_in, with_all}
use Rattle.p8_declarations.proofs.var_line.variables_of_size.Given as goal

abbrev pub invariant-items : goal.invariant-items
invariant-items l = variables l.size (parts_in l.fn.row) ≡ with_all (map declared_of l.items) (variables l.size (parts_in l.row))

abbrev pub decreases-items : goal.decreases-items
decreases-items l = length (parts_in l.row)
