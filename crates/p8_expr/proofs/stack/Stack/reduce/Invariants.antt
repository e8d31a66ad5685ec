use Rattle.std.proofs.Common.{◌≡◌, length}
use Rattle.p8_tree.specs.Views.{tree_of}
use Rattle.std.specs.Prelude.{min}
use Rattle.p8_grammar.specs.Heights.{height}
use Rattle.p8_grammar.specs.Machine.{reduce, tree_in}
use Rattle.p8_expr.specs.Views.{left_of, frames_in}
use Rattle.p8_expr.proofs.stack.Stack.reduce.Given as goal

abbrev pub invariant-ends : goal.invariant-ends
invariant-ends l = (reduce l.level (tree_in (left_of l.fn.value)) (frames_in l.fn.self) ≡ reduce l.level (tree_of l.tree.value) (frames_in l.self)) × (l.high ≡ min 65 (height (tree_of l.tree.value)))

abbrev pub decreases-ends : goal.decreases-ends
decreases-ends l = length (frames_in l.self)
