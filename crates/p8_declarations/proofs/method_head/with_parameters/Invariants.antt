use Rattle.std.proofs.Common.{◌≡◌, length}
use Rattle.p8_tree.specs.Views.{method_of}
use Rattle.p8_declarations.specs.Methods.{parameters}
use Rattle.p8_declarations.specs.Views.{parts_in}
use Rattle.p8_declarations.proofs.method_head.with_parameters.Given as goal

abbrev pub invariant-parameters : goal.invariant-parameters
invariant-parameters l = parameters (method_of l.fn.method) (parts_in l.fn.row) ≡ parameters (method_of l.method) (parts_in l.row)

abbrev pub decreases-parameters : goal.decreases-parameters
decreases-parameters l = length (parts_in l.row)
