-- Lists of trees.
use Rattle.std.proofs.Common.{◌≡◌, ◌+◌, List, [], ◌∷◌, length, arith}
use Rattle.p8_tree.specs.declared.expressions.Expr as expr
use Rattle.p8_tree.specs.Expressions.{Trees, no_trees, ◌▷◌}
use Rattle.p8_tree.specs.Views.{tree_of, trees_of, trees_after}
use Rattle.p8_gen.specs.Expressions.{count_of}

counts-after : (before : Trees) (es : List expr.Expr) → count_of (trees_after before es) ≡ count_of before + length es
counts-after before [] = omega arith
counts-after before (e ∷ es) = omega (arith, counts-after (before ▷ tree_of e) es)

pub counts : (es : List expr.Expr) → count_of (trees_of es) ≡ length es
counts es = omega (arith, counts-after no_trees es)
