use Rattle.std.proofs.Common.{◌≡◌, length}
use Rattle.p8_tree.specs.Views.{instruction_of}
use Rattle.p8_declarations.specs.Lines.{effects}
use Rattle.p8_declarations.specs.DataViews.{from}
use Rattle.p8_declarations.proofs.instructions.with_effects.Given as goal

abbrev pub invariant-parts : goal.invariant-parts
invariant-parts l = effects (instruction_of l.fn.instr) (from l.fn.first l.fn.row) ≡ effects (instruction_of l.instr) (from l.next l.row)

abbrev pub decreases-parts : goal.decreases-parts
decreases-parts l = length (from l.next l.row)
