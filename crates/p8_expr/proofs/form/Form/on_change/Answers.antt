use Rattle.std.proofs.Common.{Some, refl, sym, ap, ◌∙◌}
use Rattle.p8_tree.specs.Views.{variable_of}
use Rattle.p8_grammar.specs.Lexemes.{changes}
use Rattle.p8_grammar.specs.Machine.{stays, grow}
use Rattle.p8_expr.specs.declared.parts.Use.TheVariants as use_case
use Rattle.p8_grammar.proofs.Stuck.{denied}
use Rattle.p8_expr.specs.Views.{shape_at, shape_of}
use Rattle.p8_expr.proofs.FormRows.{fresh_stage, changed_row, no_change, no_variable}
use Rattle.p8_expr.proofs.form.Form.on_change.Goals as goal

pub returns-then-is_fresh-clause-comes : goal.returns-then-is_fresh-clause-comes
returns-then-is_fresh-clause-comes c = λ s.
    let f = c.args.self.now in
    let fresh = c.is_fresh.ensures.0 c.if-is_fresh.true in
    ap (λ sh. grow s sh c.args.place (changes c.args.before c.args.after)) fresh
    ∙ sym (ap (λ st. Some (stays (shape_at st (record f.parts { usage = use_case.Changing c.args.place c.args.before })))) (fresh_stage f.stage f.parts fresh))

pub returns-then-not-is_target-clause-comes : goal.returns-then-not-is_target-clause-comes
returns-then-not-is_target-clause-comes c = λ s. (
  no_change s (shape_of c.args.self.now) c.args.place c.args.before c.args.after (denied c.is_fresh.result c.if-is_fresh.false c.is_fresh.ensures.1) (denied c.is_target.result c.if-not-is_target.true c.is_target.ensures.1),
  refl,
)

pub returns-clause-comes : goal.returns-clause-comes
returns-clause-comes c = λ s.
    changed_row s (shape_of c.args.self.now) c.args.place c.args.before c.args.after (variable_of c.in-Some.variable) (denied c.is_fresh.result c.if-is_fresh.false c.is_fresh.ensures.1)
    (c.is_target.ensures.0 c.if-not-is_target.false) c.in-Some.ensures.gives
    ∙ ap (λ sh. Some (stays sh)) (sym c.in_ok-finish-in-Some.ensures.shape)

pub unreachable-requires : goal.unreachable-requires
unreachable-requires c = no_variable (shape_of c.args.self.now) (c.is_target.ensures.0 c.if-not-is_target.false) c.in-None.ensures.gives.0
