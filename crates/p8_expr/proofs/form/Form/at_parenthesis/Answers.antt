use Rattle.std.proofs.Common.{◌≡◌, refl, ap, ◌∙◌, arith}
use Rattle.std.specs.Prelude.{min}
use Rattle.p8_tree.specs.Expressions.{node, Strings, Built, Look, no_trees, ◌▷◌, ◌▸◌, single, range}
use Rattle.p8_tree.specs.Views.{form_of, tree_of, trees_of, items_of}
use Rattle.p8_tree.specs.Bridges.{boxed_index}
use Rattle.p8_tree.specs.declared.expressions.ExprKind.TheVariants as kind
use Rattle.p8_grammar.specs.Lexemes.{right_parenthesis}
use Rattle.p8_grammar.specs.Grammar.{calls, applied}
use Rattle.p8_grammar.specs.Heights.{height}
use Rattle.p8_grammar.specs.Least.{high_in_hole}
use Rattle.p8_expr.specs.declared.form.Hole.TheVariants as hole
use Rattle.p8_expr.specs.Views.{hole_at}
use Rattle.p8_expr.proofs.HoleRows.{whole_row, strings_form, built_form, look_form, applied_high, no_parenthesis}
use Rattle.p8_expr.proofs.form.Form.at_parenthesis.Goals as goal

pub returns-in_default-clause-comes : goal.returns-in_default-clause-comes
returns-in_default-clause-comes c =
    let d = c.in_default in (
      no_parenthesis c.args.hole c.args.self.now.parts (tree_of c.args.tree.value) d.not-Parenthesis d.not-Arguments d.not-BuiltArguments d.not-FirstItem d.not-NextItem d.not-Constant d.not-Choice d.not-ChoiceTo,
      refl,
    )

pub returns-in-Parenthesis-clause-tall : goal.returns-in-Parenthesis-clause-tall
returns-in-Parenthesis-clause-tall c = λ filled.
    let e = tree_of c.args.tree.value in
    let none : high_in_hole (hole_at c.args.hole c.args.self.now.parts) ≡ 0 = ap (λ h. high_in_hole (hole_at h c.args.self.now.parts)) c.in-Parenthesis.is in
    let all : c.args.self.now.high ≡ min 65 (height e) = omega (arith, filled, none) in
    all

pub returns-in_ok-finish-in-Arguments : goal.returns-in_ok-finish-in-Arguments
returns-in_ok-finish-in-Arguments c =
    let a = c.in-Arguments in
    let f = c.args.self.now in
    let p = f.parts in
    let e = tree_of c.args.tree.value in
    let done = c.in_ok-finish-in-Arguments.ensures in
    let told = c.in_ok-arguments-in-Arguments.ensures in
    let r = whole_row right_parenthesis c.args.hole (hole.Arguments a.object a.index a.arguments) f c.finish.new.self e a.is p.place (form_of c.call-kind.result) (applied (calls p.trap a.object (boxed_index a.index) p.name p.at p.place) (trees_of a.arguments.items ▷ e)) c.call-kind.new.self.high done.shape done.high c.call-kind.ensures.high (c.call-kind.ensures.gives ∙ ap (applied (calls p.trap a.object (boxed_index a.index) p.name p.at p.place)) told) refl (applied_high (calls p.trap a.object (boxed_index a.index) p.name p.at p.place) (trees_of a.arguments.items) e) in
    record { comes = r.0; tall = r.1 }

pub returns-in_ok-finish-in-BuiltArguments : goal.returns-in_ok-finish-in-BuiltArguments
returns-in_ok-finish-in-BuiltArguments c =
    let a = c.in-BuiltArguments in
    let f = c.args.self.now in
    let p = f.parts in
    let e = tree_of c.args.tree.value in
    let done = c.in_ok-finish-in-BuiltArguments.ensures in
    let told = c.in_ok-arguments-in-BuiltArguments.ensures in
    let r = whole_row right_parenthesis c.args.hole (hole.BuiltArguments a.arguments) f c.finish-in-BuiltArguments.new.self e a.is p.place (form_of (kind.Built p.number c.in_ok-arguments-in-BuiltArguments.arguments)) (node p.place (Built p.number (trees_of a.arguments.items ▷ e))) f.high done.shape done.high refl (built_form p.place p.number c.in_ok-arguments-in-BuiltArguments.arguments (trees_of a.arguments.items ▷ e) told) refl (omega arith) in
    record { comes = r.0; tall = r.1 }

pub returns-in_ok-finish-in-FirstItem : goal.returns-in_ok-finish-in-FirstItem
returns-in_ok-finish-in-FirstItem c =
    let a = c.in-FirstItem in
    let f = c.args.self.now in
    let p = f.parts in
    let e = tree_of c.args.tree.value in
    let done = c.in_ok-finish-in-FirstItem.ensures in
    let told = c.in_ok-items-in-FirstItem.ensures ∙ ap (λ xs. trees_of xs ▷ e) c.new.ensures.items in
    let r = whole_row right_parenthesis c.args.hole hole.FirstItem f c.finish-in-FirstItem.new.self e a.is p.place (form_of (kind.Strings c.in_ok-items-in-FirstItem.items)) (node p.place (Strings (no_trees ▷ e))) f.high done.shape done.high refl (strings_form p.place c.in_ok-items-in-FirstItem.items (no_trees ▷ e) told) refl (refl) in
    record { comes = r.0; tall = r.1 }

pub returns-in_ok-finish-in-NextItem : goal.returns-in_ok-finish-in-NextItem
returns-in_ok-finish-in-NextItem c =
    let a = c.in-NextItem in
    let f = c.args.self.now in
    let p = f.parts in
    let e = tree_of c.args.tree.value in
    let done = c.in_ok-finish-in-NextItem.ensures in
    let told = c.in_ok-items-in-NextItem.ensures in
    let r = whole_row right_parenthesis c.args.hole (hole.NextItem a.items) f c.finish-in-NextItem.new.self e a.is p.place (form_of (kind.Strings c.in_ok-items-in-NextItem.items)) (node p.place (Strings (trees_of a.items.items ▷ e))) f.high done.shape done.high refl (strings_form p.place c.in_ok-items-in-NextItem.items (trees_of a.items.items ▷ e) told) refl (refl) in
    record { comes = r.0; tall = r.1 }

pub returns-in_ok-finish-in-Constant : goal.returns-in_ok-finish-in-Constant
returns-in_ok-finish-in-Constant c =
    let a = c.in-Constant in
    let f = c.args.self.now in
    let p = f.parts in
    let e = tree_of c.args.tree.value in
    let done = c.in_ok-finish-in-Constant.ensures in
    let told = c.in_ok-items-in-Constant.ensures ∙ ap (λ xs. trees_of xs ▷ e) c.new-in-Constant.ensures.items in
    let r = whole_row right_parenthesis c.args.hole hole.Constant f c.finish-in-Constant.new.self e a.is p.place (form_of (kind.Built 0 c.in_ok-items-in-Constant.items)) (node p.place (Built 0 (no_trees ▷ e))) f.high done.shape done.high refl (built_form p.place 0 c.in_ok-items-in-Constant.items (no_trees ▷ e) told) refl (refl) in
    record { comes = r.0; tall = r.1 }

pub returns-in_ok-finish-in-Choice : goal.returns-in_ok-finish-in-Choice
returns-in_ok-finish-in-Choice c =
    let a = c.in-Choice in
    let f = c.args.self.now in
    let p = f.parts in
    let e = tree_of c.args.tree.value in
    let done = c.in_ok-finish-in-Choice.ensures in
    let told = c.in_ok-items-in-Choice.ensures ∙ ap (λ x. items_of a.items.items ▸ x) c.alone.ensures in
    let r = whole_row right_parenthesis c.args.hole (hole.Choice a.value a.items) f c.finish-in-Choice.new.self e a.is p.place (form_of (kind.Look p.number a.value c.in_ok-items-in-Choice.items)) (node p.place (Look p.number (tree_of a.value.value) (items_of a.items.items ▸ single e))) f.high done.shape done.high refl (look_form p.place p.number a.value c.in_ok-items-in-Choice.items (items_of a.items.items ▸ single e) told) refl (omega arith) in
    record { comes = r.0; tall = r.1 }

pub returns-in_ok-finish-in-ChoiceTo : goal.returns-in_ok-finish-in-ChoiceTo
returns-in_ok-finish-in-ChoiceTo c =
    let a = c.in-ChoiceTo in
    let f = c.args.self.now in
    let p = f.parts in
    let e = tree_of c.args.tree.value in
    let done = c.in_ok-finish-in-ChoiceTo.ensures in
    let told = c.in_ok-items-in-ChoiceTo.ensures ∙ ap (λ x. items_of a.items.items ▸ x) c.ranged.ensures in
    let r = whole_row right_parenthesis c.args.hole (hole.ChoiceTo a.value a.items a.low) f c.finish-in-ChoiceTo.new.self e a.is p.place (form_of (kind.Look p.number a.value c.in_ok-items-in-ChoiceTo.items)) (node p.place (Look p.number (tree_of a.value.value) (items_of a.items.items ▸ range (tree_of a.low.value) e))) f.high done.shape done.high refl (look_form p.place p.number a.value c.in_ok-items-in-ChoiceTo.items (items_of a.items.items ▸ range (tree_of a.low.value) e) told) refl (omega arith) in
    record { comes = r.0; tall = r.1 }
