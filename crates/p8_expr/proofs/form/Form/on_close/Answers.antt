use Rattle.std.proofs.Common.{refl, sym, ap, ◌∙◌}
use Rattle.p8_tree.specs.declared.expressions.ExprKind.TheVariants as kind
use Rattle.p8_tree.specs.Expressions.{node, Str, Strings, Look}
use Rattle.p8_tree.specs.Views.{form_of, tree_of, trees_of, items_of}
use Rattle.p8_grammar.specs.Lexemes.{mark, name, right_parenthesis}
use Rattle.p8_grammar.specs.Machine.{grow}
use Rattle.p8_expr.specs.declared.form.Stage.TheVariants as stage
use Rattle.p8_expr.proofs.HoleRows.{strings_form, look_form}
use Rattle.p8_expr.proofs.FormRows.{whole_as, tall_as}
use Rattle.p8_expr.proofs.form.Form.on_close.Goals as goal

pub returns-in_ok-finish-in-StringRead : goal.returns-in_ok-finish-in-StringRead
returns-in_ok-finish-in-StringRead c =
    let f = c.args.self.now in
    let a = c.in-StringRead in
    record {
      comes = λ s p.
          whole_as f c.finish.new.self (stage.StringRead) (λ sh. grow s sh p (mark right_parenthesis)) f.parts.place (form_of (kind.Str c.taken-text.result)) (node f.parts.place (Str f.parts.name)) (sym c.replace.ensures.value ∙ a.is) refl (ap (λ t. node f.parts.place (Str t)) c.taken-text.ensures) c.in_ok-finish-in-StringRead.ensures.shape;
      tall = λ tall.
          let high = tall_as f (stage.StringRead) f.parts.place (form_of (kind.Str c.taken-text.result)) (node f.parts.place (Str f.parts.name)) (sym c.replace.ensures.value ∙ a.is) (ap (λ t. node f.parts.place (Str t)) c.taken-text.ensures) refl tall in
          c.in_ok-finish-in-StringRead.ensures.high high;
    }

pub returns-in_ok-finish-in-StringsRead : goal.returns-in_ok-finish-in-StringsRead
returns-in_ok-finish-in-StringsRead c =
    let f = c.args.self.now in
    let a = c.in-StringsRead in
    record {
      comes = λ s p.
          whole_as f c.finish-in-StringsRead.new.self (stage.StringsRead a.items) (λ sh. grow s sh p (mark right_parenthesis)) f.parts.place (form_of (kind.Strings a.items)) (node f.parts.place (Strings (trees_of a.items.items))) (sym c.replace.ensures.value ∙ a.is) refl (strings_form f.parts.place a.items (trees_of a.items.items) refl) c.in_ok-finish-in-StringsRead.ensures.shape;
      tall = λ tall.
          let high = tall_as f (stage.StringsRead a.items) f.parts.place (form_of (kind.Strings a.items)) (node f.parts.place (Strings (trees_of a.items.items))) (sym c.replace.ensures.value ∙ a.is) (strings_form f.parts.place a.items (trees_of a.items.items) refl) refl tall in
          c.in_ok-finish-in-StringsRead.ensures.high high;
    }

pub returns-in_ok-finish-in-ChoicesRead : goal.returns-in_ok-finish-in-ChoicesRead
returns-in_ok-finish-in-ChoicesRead c =
    let f = c.args.self.now in
    let a = c.in-ChoicesRead in
    record {
      comes = λ s p.
          whole_as f c.finish-in-ChoicesRead.new.self (stage.ChoicesRead a.value a.items) (λ sh. grow s sh p (mark right_parenthesis)) f.parts.place (form_of (kind.Look f.parts.number a.value a.items)) (node f.parts.place (Look f.parts.number (tree_of a.value.value) (items_of a.items.items))) (sym c.replace.ensures.value ∙ a.is) refl (look_form f.parts.place f.parts.number a.value a.items (items_of a.items.items) refl) c.in_ok-finish-in-ChoicesRead.ensures.shape;
      tall = λ tall.
          let high = tall_as f (stage.ChoicesRead a.value a.items) f.parts.place (form_of (kind.Look f.parts.number a.value a.items)) (node f.parts.place (Look f.parts.number (tree_of a.value.value) (items_of a.items.items))) (sym c.replace.ensures.value ∙ a.is) (look_form f.parts.place f.parts.number a.value a.items (items_of a.items.items) refl) refl tall in
          c.in_ok-finish-in-ChoicesRead.ensures.high high;
    }
