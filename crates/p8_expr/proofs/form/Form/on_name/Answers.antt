use Rattle.std.proofs.Common.{refl, sym, ap, ◌∙◌}
use Rattle.std.specs.Prelude.{min}
use Rattle.p8_tree.specs.declared.expressions.ExprKind.TheVariants as kind
use Rattle.p8_tree.specs.Expressions.{node, ObjConst}
use Rattle.p8_tree.specs.Views.{form_of}
use Rattle.p8_grammar.specs.Lexemes.{name}
use Rattle.p8_grammar.specs.Machine.{grow}
use Rattle.p8_expr.specs.declared.form.Stage.TheVariants as stage
use Rattle.p8_expr.specs.Views.{shape_at, inner_height}
use Rattle.p8_expr.proofs.FormRows.{whole_as, tall_as, no_name}
use Rattle.p8_expr.proofs.form.Form.on_name.Goals as goal

pub returns-in_ok-finish-in-Hashed-clause-comes : goal.returns-in_ok-finish-in-Hashed-clause-comes
returns-in_ok-finish-in-Hashed-clause-comes c = λ s.
    let f = c.args.self.now in
    let p = f.parts in
    whole_as f c.finish.new.self stage.Hashed (λ sh. grow s sh c.args.place (name c.args.name)) p.place (form_of (kind.ObjConst c.taken-object.result c.args.name c.args.place)) (node p.place (ObjConst p.name c.args.name c.args.place)) (sym c.replace.ensures.value ∙ c.in-Hashed.is) refl (ap (λ m. node p.place (ObjConst m c.args.name c.args.place)) c.taken-object.ensures) c.in_ok-finish-in-Hashed.ensures.shape

pub returns-in_ok-finish-in-Hashed-clause-tall : goal.returns-in_ok-finish-in-Hashed-clause-tall
returns-in_ok-finish-in-Hashed-clause-tall c = λ tall.
    let f = c.args.self.now in
    let p = f.parts in
    let high = tall_as f stage.Hashed p.place (form_of (kind.ObjConst c.taken-object.result c.args.name c.args.place)) (node p.place (ObjConst p.name c.args.name c.args.place)) (sym c.replace.ensures.value ∙ c.in-Hashed.is) (ap (λ m. node p.place (ObjConst m c.args.name c.args.place)) c.taken-object.ensures) refl tall in
    c.in_ok-finish-in-Hashed.ensures.high high

pub returns-in_default : goal.returns-in_default
returns-in_default c =
    let f = c.args.self.now in
    let d = c.in_default in
    let same = c.replace.ensures.value in
    record {
      comes = λ s. (
        ap (λ st. grow s (shape_at st f.parts) c.args.place (name c.args.name)) (sym same)
            ∙ no_name c.replace.result f.parts s c.args.place c.args.name (λ h. c.requires (sym same ∙ h)) d.not-Using d.not-Dotted d.not-Trapping d.not-ObjectDot d.not-Hashed,
        ap (λ st. shape_at st f.parts) same,
      );
      tall = λ tall. tall ∙ ap (λ st. min 65 (inner_height st)) (sym same);
    }
