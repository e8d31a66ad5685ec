-- Trees that hold a vector.
use Rattle.std.specs.Prelude.{◌≡◌, refl, ℕ, Option, None, List, [], ◌∷◌, ◌++◌}
use Rattle.std.proofs.Common.{ap, sym, ◌∙◌}
use Rattle.p8_tree.specs.declared.places.Place.{Place}
use Rattle.p8_tree.specs.declared.expressions.Item.{Item}
use Rattle.p8_tree.specs.declared.expressions.Call as call
use Rattle.p8_tree.specs.declared.expressions.Target.{Target}
use Rattle.p8_tree.specs.declared.expressions.ExprKind as kind
use Rattle.p8_tree.specs.declared.expressions.ExprKind.{ExprKind}
use Rattle.p8_tree.specs.declared.expressions.ExprKind.TheVariants as kind_case
use Rattle.p8_tree.specs.Expressions as trees
use Rattle.p8_tree.specs.Expressions.{node, Var, ◌▸◌, Call}
use Rattle.p8_tree.specs.Views.{items_of, item_of, form_of, variable_of}
use Rattle.p8_statements.specs.Statements.{counter}
use Rattle.p8_tree.specs.Bridges.{items_of-push}

pub items_pushed : (xs ys : List Item) (x : Item) (i : trees.Item) → ys ≡ xs ++ x ∷ [] → item_of x ≡ i → items_of ys ≡ items_of xs ▸ i
items_pushed xs ys x i h same = ap items_of h ∙ items_of-push xs x ∙ ap (λ i. items_of xs ▸ i) same

pub counter_form : (k : ExprKind) (v : Target) (p : Place) (o : Option (List ℕ × Place)) → k ≡ kind_case.Var v → ((p : Place) → o ≡ counter (node p (Var (variable_of v)))) → o ≡ counter (node p (form_of k))
counter_form k v p o is h = h p ∙ ap (λ k. counter (node p (form_of k))) (sym is)

pub counter_none : (k : ExprKind) (p : Place) → ((v : Target) → ¬ (k ≡ kind_case.Var v)) → None ≡ counter (node p (form_of k))
counter_none (kind.Var v) p h = absurd (h v refl)
counter_none (kind.Call (call.Call' t o i m q shape row)) p h = refl
counter_none _ p h = refl
