use Rattle.std.proofs.Common.{Some, refl, sym, ap, ◌∙◌}
use Rattle.p8_tree.specs.declared.expressions.ExprKind.TheVariants as kind
use Rattle.p8_tree.specs.Expressions.{node, Built, no_trees}
use Rattle.p8_tree.specs.Views.{form_of, trees_of}
use Rattle.p8_grammar.specs.Machine.{stays, done, first}
use Rattle.p8_grammar.specs.Views.{setting_of, lexeme_of}
use Rattle.p8_expr.specs.declared.form.Stage.TheVariants as stage
use Rattle.p8_expr.proofs.HoleRows.{built_form}
use Rattle.p8_expr.proofs.FormRows.{tall_as, fresh_stage}
use Rattle.p8_expr.proofs.form.Form.first.Goals as goal

pub returns-in_ok-finish-in-Value-clause-comes : goal.returns-in_ok-finish-in-Value-clause-comes
returns-in_ok-finish-in-Value-clause-comes c = λ n t other.
    let k = c.in-Value.code in
    let same = built_form c.args.place k c.new.result no_trees (ap trees_of c.new.ensures.items) in
    ap (λ x. first (setting_of c.args.setting) c.args.place (lexeme_of n t x)) c.in-Value.is
    ∙ ap (λ x. Some (stays (done x))) (sym same) ∙ ap (λ sh. Some (stays sh)) (sym c.in_ok-finish-in-Value.ensures.shape)

pub returns-in_ok-finish-in-Value-clause-tall : goal.returns-in_ok-finish-in-Value-clause-tall
returns-in_ok-finish-in-Value-clause-tall c = λ tall.
    let f = c.args.self.now in
    let k = c.in-Value.code in
    let same = built_form c.args.place k c.new.result no_trees (ap trees_of c.new.ensures.items) in
    let high = tall_as f stage.Using c.args.place (form_of (kind.Built k c.new.result)) (node c.args.place (Built k no_trees)) (fresh_stage f.stage f.parts c.requires) same refl tall in
    c.in_ok-finish-in-Value.ensures.high high
