use Rattle.std.proofs.Common.{◌≡◌, ◌+◌, ◌≤◌, sym, ap, ◌∙◌, arith}
use Rattle.std.specs.Prelude.{min, max}
use Rattle.p8_tree.specs.Views.{tree_of}
use Rattle.p8_grammar.specs.Heights.{height}
use Rattle.p8_grammar.specs.Machine.{level_bound, level_bound_of}
use Rattle.p8_expr.specs.Views.{frame_of, frames_in}
use Rattle.p8_expr.proofs.Measures.{wrap_high, reduce_pop}
use Rattle.p8_expr.proofs.stack.Stack.reduce.Goals as goal

pub ends-preserved : goal.ends-preserved
ends-preserved c =
    let pop = c.in-Some.ensures in
    let f = frame_of c.in-Some.ended.frame in
    let e = tree_of c.ends.tree.value in
    let is = ap frames_in pop.0 in
    let same : c.level_bound.result ≡ level_bound f = c.level_bound.ensures ∙ ap level_bound_of is in
    let le : level_bound f ≤ 22 = omega (arith, same, c.ends-test.true, c.requires.level) in
    let out : c.over-high.result ≡ min 65 (max c.ends.high c.in-Some.ended.high + 1) = omega (arith, c.over-high.ensures, c.max.ensures) in (
      c.ends.invariant.0 ∙ reduce_pop c.args.level c.level_bound.result e (tree_of c.in_ok-tree-in-Some.tree.value) f (frames_in c.pop.new.self) (frames_in c.ends.self) is c.level_bound.ensures c.ends-test.true c.in_ok-tree-in-Some.ensures,
      wrap_high f e c.ends.high c.in-Some.ended.high c.over-high.result le c.ends.invariant.1 pop.1 out ∙ ap (λ e. min 65 (height e)) (sym c.in_ok-tree-in-Some.ensures),
    )
