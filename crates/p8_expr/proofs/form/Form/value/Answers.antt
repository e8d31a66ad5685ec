use Rattle.std.proofs.Common.{◌≡◌, suc, Some, sym, ap, ◌∙◌, subst, arith}
use Rattle.std.specs.Prelude.{min, IfOk}
use Rattle.p8_tree.specs.Views.{tree_of, variable_of}
use Rattle.p8_grammar.specs.Heights.{height, height_in_variable}
use Rattle.p8_grammar.proofs.Stuck.{denied}
use Rattle.p8_expr.specs.Views.{use_of, shape_of, Gives, variable_in}
use Rattle.p8_expr.proofs.FormRows.{written_gives, used_gives, used_high}
use Rattle.p8_expr.proofs.form.Form.value.Goals as goal

pub returns-then-writes-clause-gives : goal.returns-then-writes-clause-gives
returns-then-writes-clause-gives c =
    let f = c.args.self.now in
    let told = written_gives (shape_of f) (variable_of c.in-Some.variable) c.in-Some.ensures.gives (c.is_target-writes.ensures.0 c.if-writes.true) in
    (told.0, told.1, sym c.is_alone-alone.ensures)

pub returns-in_ok-tree-in-Some-clause-gives : goal.returns-in_ok-tree-in-Some-clause-gives
returns-in_ok-tree-in-Some-clause-gives c =
    let f = c.args.self.now in
    let told = used_gives f.stage f.parts (variable_of c.in-Some.variable) c.in-Some.ensures.gives (denied c.is_target-writes.result c.if-writes.false c.is_target-writes.ensures.1) in
    (told.0 ∙ ap Some (sym c.in_ok-tree-in-Some.ensures), told.1, told.2)

pub returns-in_ok-tree-in-Some-clause-high : goal.returns-in_ok-tree-in-Some-clause-high
returns-in_ok-tree-in-Some-clause-high c = λ tall.
    let v = variable_of c.in-Some.variable in
    let low = c.in-Some.ensures.high tall in
    let is : height (tree_of c.in_ok-tree-in-Some.tree.value) ≡ suc (height_in_variable v) = ap height c.in_ok-tree-in-Some.ensures ∙ used_high (use_of c.args.self.now.parts.usage) v in
    let high : c.over-high.result ≡ min 65 (height (tree_of c.in_ok-tree-in-Some.tree.value)) = omega (arith, low, is, c.over-high.ensures) in
    high

pub tree-requires : goal.tree-requires
tree-requires c = ap variable_in c.in-None.ensures.gives.1 ∙ c.in-None.ensures.gives.0

pub returns-in-None-clause-gives : goal.returns-in-None-clause-gives
returns-in-None-clause-gives c = subst (λ sh. IfOk c.tree.result (Gives sh)) c.in-None.ensures.gives.1 c.tree.ensures.gives

pub returns-in-None-clause-high : goal.returns-in-None-clause-high
returns-in-None-clause-high c = λ tall. c.tree.ensures.high (c.in-None.ensures.high tall)
