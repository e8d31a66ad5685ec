use Rattle.std.proofs.Common.{Some, refl, ap, ◌∙◌, sym}
use Rattle.p8_tree.specs.Expressions.{◌▷◌, ◌▸◌}
use Rattle.p8_tree.specs.Views.{tree_of, trees_of, items_of}
use Rattle.p8_tree.specs.Bridges.{boxed_index}
use Rattle.p8_grammar.specs.Lexemes.{comma}
use Rattle.p8_grammar.specs.Grammar.{calls, built}
use Rattle.p8_grammar.specs.Least.{high_in_hole}
use Rattle.p8_grammar.specs.Machine.{argument_of, item_of, choice_of, opens}
use Rattle.p8_expr.specs.declared.form.Hole.TheVariants as hole
use Rattle.p8_expr.proofs.HoleRows.{opens_row, argument_waits, choice_waits, range_waits, no_comma}
use Rattle.p8_expr.proofs.form.Form.at_comma.Goals as goal

pub returns-in_default-clause-comes : goal.returns-in_default-clause-comes
returns-in_default-clause-comes c =
    let d = c.in_default in (
      no_comma c.args.hole c.args.self.now.parts (tree_of c.args.tree.value) d.not-Arguments d.not-BuiltArguments d.not-FirstItem d.not-NextItem d.not-Choice d.not-ChoiceTo,
      refl,
    )

pub returns-in_ok-arguments-in-Arguments : goal.returns-in_ok-arguments-in-Arguments
returns-in_ok-arguments-in-Arguments c =
    let a = c.in-Arguments in
    let f = c.args.self.now in
    let p = f.parts in
    let e = tree_of c.args.tree.value in
    let o = c.opens in
    let told = c.in_ok-arguments-in-Arguments.ensures in
    let r = opens_row comma c.args.hole (hole.Arguments a.object a.index a.arguments) f o.new.self e a.is o.result (hole.Arguments a.object a.index c.in_ok-arguments-in-Arguments.arguments) o.ensures.grown o.ensures.form (ap (λ xs. Some (opens (argument_of (calls p.trap a.object (boxed_index a.index) p.name p.at p.place) xs))) (sym told)) (ap (λ xs. high_in_hole (argument_of (calls p.trap a.object (boxed_index a.index) p.name p.at p.place) xs)) told ∙ argument_waits (calls p.trap a.object (boxed_index a.index) p.name p.at p.place) (trees_of a.arguments.items) e) in
    record { comes = r.0; tall = r.1 }

pub returns-in_ok-arguments-in-BuiltArguments : goal.returns-in_ok-arguments-in-BuiltArguments
returns-in_ok-arguments-in-BuiltArguments c =
    let a = c.in-BuiltArguments in
    let f = c.args.self.now in
    let p = f.parts in
    let e = tree_of c.args.tree.value in
    let o = c.opens-in-BuiltArguments in
    let told = c.in_ok-arguments-in-BuiltArguments.ensures in
    let r = opens_row comma c.args.hole (hole.BuiltArguments a.arguments) f o.new.self e a.is o.result (hole.BuiltArguments c.in_ok-arguments-in-BuiltArguments.arguments) o.ensures.grown o.ensures.form (ap (λ xs. Some (opens (argument_of (built p.number p.place) xs))) (sym told)) (ap (λ xs. high_in_hole (argument_of (built p.number p.place) xs)) told ∙ argument_waits (built p.number p.place) (trees_of a.arguments.items) e) in
    record { comes = r.0; tall = r.1 }

pub returns-in_ok-items-in-FirstItem : goal.returns-in_ok-items-in-FirstItem
returns-in_ok-items-in-FirstItem c =
    let a = c.in-FirstItem in
    let f = c.args.self.now in
    let p = f.parts in
    let e = tree_of c.args.tree.value in
    let o = c.opens-in-FirstItem in
    let told = c.in_ok-items-in-FirstItem.ensures ∙ ap (λ xs. trees_of xs ▷ e) c.new.ensures.items in
    let r = opens_row comma c.args.hole hole.FirstItem f o.new.self e a.is o.result (hole.NextItem c.in_ok-items-in-FirstItem.items) o.ensures.grown o.ensures.form (ap (λ xs. Some (opens (item_of p.place xs))) (sym told)) (ap (λ xs. high_in_hole (item_of p.place xs)) told ∙ refl) in
    record { comes = r.0; tall = r.1 }

pub returns-in_ok-items-in-NextItem : goal.returns-in_ok-items-in-NextItem
returns-in_ok-items-in-NextItem c =
    let a = c.in-NextItem in
    let f = c.args.self.now in
    let p = f.parts in
    let e = tree_of c.args.tree.value in
    let o = c.opens-in-NextItem in
    let told = c.in_ok-items-in-NextItem.ensures in
    let r = opens_row comma c.args.hole (hole.NextItem a.items) f o.new.self e a.is o.result (hole.NextItem c.in_ok-items-in-NextItem.items) o.ensures.grown o.ensures.form (ap (λ xs. Some (opens (item_of p.place xs))) (sym told)) (ap (λ xs. high_in_hole (item_of p.place xs)) told ∙ refl) in
    record { comes = r.0; tall = r.1 }

pub returns-in_ok-items-in-Choice : goal.returns-in_ok-items-in-Choice
returns-in_ok-items-in-Choice c =
    let a = c.in-Choice in
    let f = c.args.self.now in
    let p = f.parts in
    let e = tree_of c.args.tree.value in
    let o = c.opens-in-Choice in
    let told = c.in_ok-items-in-Choice.ensures ∙ ap (λ x. items_of a.items.items ▸ x) c.alone.ensures in
    let r = opens_row comma c.args.hole (hole.Choice a.value a.items) f o.new.self e a.is o.result (hole.Choice a.value c.in_ok-items-in-Choice.items) o.ensures.grown o.ensures.form (ap (λ xs. Some (opens (choice_of p.place p.number (tree_of a.value.value) xs))) (sym told)) (ap (λ xs. high_in_hole (choice_of p.place p.number (tree_of a.value.value) xs)) told ∙ choice_waits (tree_of a.value.value) (items_of a.items.items) e) in
    record { comes = r.0; tall = r.1 }

pub returns-in_ok-items-in-ChoiceTo : goal.returns-in_ok-items-in-ChoiceTo
returns-in_ok-items-in-ChoiceTo c =
    let a = c.in-ChoiceTo in
    let f = c.args.self.now in
    let p = f.parts in
    let e = tree_of c.args.tree.value in
    let o = c.opens-in-ChoiceTo in
    let told = c.in_ok-items-in-ChoiceTo.ensures ∙ ap (λ x. items_of a.items.items ▸ x) c.ranged.ensures in
    let r = opens_row comma c.args.hole (hole.ChoiceTo a.value a.items a.low) f o.new.self e a.is o.result (hole.Choice a.value c.in_ok-items-in-ChoiceTo.items) o.ensures.grown o.ensures.form (ap (λ xs. Some (opens (choice_of p.place p.number (tree_of a.value.value) xs))) (sym told)) (ap (λ xs. high_in_hole (choice_of p.place p.number (tree_of a.value.value) xs)) told ∙ range_waits (tree_of a.value.value) (items_of a.items.items) (tree_of a.low.value) e) in
    record { comes = r.0; tall = r.1 }
