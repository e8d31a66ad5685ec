use Rattle.std.proofs.Common.{ap, ◌∙◌}
use Rattle.p8_tree.specs.Expressions.{node}
use Rattle.p8_tree.specs.Views.{trees_of}
use Rattle.p8_tree.specs.Bridges.{boxed_index, call_is}
use Rattle.p8_grammar.specs.Grammar.{calls, applied}
use Rattle.p8_expr.proofs.form.Form.call.Goals as goal

pub returns-clause-gives : goal.returns-clause-gives
returns-clause-gives c =
    let p = c.args.self.now.parts in
    let a = c.args in
    ap (node p.place) (call_is p.trap a.object a.index c.taken-method.result p.at a.args)
    ∙ ap (λ n. applied (calls p.trap a.object (boxed_index a.index) n p.at p.place) (trees_of a.args.items)) c.taken-method.ensures
