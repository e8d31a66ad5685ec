use Rattle.std.proofs.Common.{◌≡◌, Some, sym, ap, ◌∙◌, arith}
use Rattle.std.specs.Prelude.{min, max}
use Rattle.p8_tree.specs.Expressions.{no_trees, ◌▷◌}
use Rattle.p8_tree.specs.Views.{trees_of}
use Rattle.p8_tree.specs.Bridges.{trees_of-push}
use Rattle.p8_grammar.specs.Lexemes.{mark, name, comma}
use Rattle.p8_grammar.specs.Grammar.{quoted}
use Rattle.p8_grammar.specs.Heights.{height_of_trees}
use Rattle.p8_grammar.specs.Machine.{item_of, opens, grow}
use Rattle.p8_expr.specs.declared.form.Hole.TheVariants as hole
use Rattle.p8_expr.specs.Views.{shape_at, shape_of}
use Rattle.p8_expr.proofs.FormRows.{opens_as, opens_high, quoted_high}
use Rattle.p8_expr.proofs.form.Form.on_comma.Goals as goal

pub returns-in_ok-push-in-StringRead : goal.returns-in_ok-push-in-StringRead
returns-in_ok-push-in-StringRead c =
    let f = c.args.self.now in
    let p = f.parts in
    let items = c.push.new.self in
    let is = c.quoted.ensures ∙ ap (quoted p.at) c.taken-text.ensures in
    record {
      comes = λ s o.
          let told : trees_of items.items ≡ no_trees ▷ quoted p.at p.name =
          ap trees_of c.in_ok-push-in-StringRead.ensures.items ∙ trees_of-push c.new-items.result.items c.quoted.result ∙ (λ j. trees_of (c.new-items.ensures.items j) ▷ is j) in
          opens_as (grow s (shape_of f) o (mark comma)) f _ c.opens.new.self c.opens.result (hole.NextItem items) 1 c.opens.ensures.grown c.opens.ensures.form
          (ap (λ st. grow s (shape_at st p) o (mark comma)) (sym c.replace.ensures.value ∙ c.in-StringRead.is) ∙ ap (λ es. Some (opens (item_of p.place es))) (sym told));
      tall = λ tall.
          let told : trees_of items.items ≡ no_trees ▷ quoted p.at p.name =
          ap trees_of c.in_ok-push-in-StringRead.ensures.items ∙ trees_of-push c.new-items.result.items c.quoted.result ∙ (λ j. trees_of (c.new-items.ensures.items j) ▷ is j) in
          let one = quoted_high p.at p.name in
          let high : height_of_trees (trees_of items.items) ≡ 1 = ap height_of_trees told ∙ ap (max 0) one in
          let low : 1 ≡ min 65 (height_of_trees (trees_of items.items)) = omega (arith, high) in
          opens_high _ c.opens.new.self c.opens.result (hole.NextItem items) 1 c.opens.ensures.grown c.opens.ensures.form low;
    }
