use Rattle.std.proofs.Common.{◌≡◌, ℕ, suc, Some, None, true, sym, ap, ◌∙◌, arith}
use Rattle.std.specs.Prelude.{min, max}
use Rattle.p8_tree.specs.Expressions.{no_trees, no_index}
use Rattle.p8_tree.specs.Views.{trees_of}
use Rattle.p8_tree.specs.Bridges.{boxed_index}
use Rattle.p8_grammar.specs.Grammar.{calls, built, applied}
use Rattle.p8_grammar.specs.Heights.{height, height_in_index}
use Rattle.p8_grammar.specs.Machine.{tree, target, is_plain, tree_in, left_tree}
use Rattle.p8_expr.specs.Views.{shape_at, shape_of, inner_height, left_of}
use Rattle.p8_expr.proofs.HoleRows.{built_form}
use Rattle.p8_expr.proofs.FormRows.{gives_tree}
use Rattle.p8_expr.proofs.form.Form.tree.Goals as goal

none : (n : ℕ) → suc (max n 0) ≡ suc n
none n = omega arith

pub returns-in_ok-form-in-Trapped : goal.returns-in_ok-form-in-Trapped
returns-in_ok-form-in-Trapped c =
    let p = c.args.self.now.parts in
    let a = c.in-Trapped in
    let v = c.in_ok-form-in-Trapped.field-0 in
    let is = sym c.replace.ensures.value ∙ a.is in
    let same = c.call-kind.ensures.gives ∙ ap (λ es. applied (calls true None no_index p.name p.at p.place) (trees_of es)) c.new.ensures.items in
    let left = c.in_ok-form-in-Trapped.ensures.0 ∙ ap left_tree same in
    record {
      gives = gives_tree (shape_of c.args.self.now) v (applied (calls true None no_index p.name p.at p.place) no_trees) (ap (λ st. tree (shape_at st p)) is) (ap (λ st. target (shape_at st p)) is) (ap (λ st. is_plain (shape_at st p)) is) left;
      high = λ tall.
          let tree_high : height (tree_in (left_of v)) ≡ suc (0) = ap (λ l. height (tree_in l)) left in
          c.in_ok-form-in-Trapped.ensures.1 (0) (c.call-kind.ensures.high ∙ tall ∙ ap (λ st. min 65 (inner_height st)) is) tree_high;
    }

pub returns-in_ok-form-in-Method : goal.returns-in_ok-form-in-Method
returns-in_ok-form-in-Method c =
    let p = c.args.self.now.parts in
    let a = c.in-Method in
    let v = c.in_ok-form-in-Method.field-0 in
    let is = sym c.replace.ensures.value ∙ a.is in
    let same = c.call-kind-in-Method.ensures.gives ∙ ap (λ es. applied (calls p.trap (Some a.object) (boxed_index a.index) p.name p.at p.place) (trees_of es)) c.new-in-Method.ensures.items in
    let left = c.in_ok-form-in-Method.ensures.0 ∙ ap left_tree same in
    record {
      gives = gives_tree (shape_of c.args.self.now) v (applied (calls p.trap (Some a.object) (boxed_index a.index) p.name p.at p.place) no_trees) (ap (λ st. tree (shape_at st p)) is) (ap (λ st. target (shape_at st p)) is) (ap (λ st. is_plain (shape_at st p)) is) left;
      high = λ tall.
          let tree_high : height (tree_in (left_of v)) ≡ suc (height_in_index (boxed_index a.index)) = ap (λ l. height (tree_in l)) left ∙ none (height_in_index (boxed_index a.index)) in
          c.in_ok-form-in-Method.ensures.1 (height_in_index (boxed_index a.index)) (c.call-kind-in-Method.ensures.high ∙ tall ∙ ap (λ st. min 65 (inner_height st)) is) tree_high;
    }

pub returns-in_ok-form-in-Built : goal.returns-in_ok-form-in-Built
returns-in_ok-form-in-Built c =
    let p = c.args.self.now.parts in
    let a = c.in-Built in
    let v = c.in_ok-form-in-Built.field-0 in
    let is = sym c.replace.ensures.value ∙ a.is in
    let same = built_form p.place p.number c.new-in-Built.result no_trees (ap trees_of c.new-in-Built.ensures.items) in
    let left = c.in_ok-form-in-Built.ensures.0 ∙ ap left_tree same in
    record {
      gives = gives_tree (shape_of c.args.self.now) v (applied (built p.number p.place) no_trees) (ap (λ st. tree (shape_at st p)) is) (ap (λ st. target (shape_at st p)) is) (ap (λ st. is_plain (shape_at st p)) is) left;
      high = λ tall.
          let tree_high : height (tree_in (left_of v)) ≡ suc (0) = ap (λ l. height (tree_in l)) left in
          c.in_ok-form-in-Built.ensures.1 (0) (tall ∙ ap (λ st. min 65 (inner_height st)) is) tree_high;
    }
