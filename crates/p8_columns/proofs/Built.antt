-- The code's statements and arms, from their parts.
use Rattle.std.specs.Prelude.{◌≡◌, Bool, Option, None, Some, List, [], ◌∷◌, ◌++◌, Vec, Result, IfOk, refl}
use Rattle.std.proofs.Common.{ap, ◌∙◌, sym, subst}
use Rattle.std.specs.declared.alloc.Global.{Global}
use Rattle.std.specs.declared.alloc.AllocError.{AllocError}
use denote.Hole.Carrier
use Rattle.p8_tree.specs.declared.places.Place.{Place}
use Rattle.p8_tree.specs.declared.expressions.Expr.{Expr}
use Rattle.p8_tree.specs.declared.expressions.Item.{Item, roll-Item}
use Rattle.p8_tree.specs.declared.statements.Stmt as stmt
use Rattle.p8_tree.specs.declared.statements.Stmt.{roll-Stmt}
use Rattle.p8_tree.specs.declared.statements.Arm as code_arm
use Rattle.p8_tree.specs.declared.statements.Arm.{roll-Arm}
use Rattle.p8_tree.specs.declared.statements.StmtKind as stmt_kind
use Rattle.p8_tree.specs.declared.statements.StmtKind.TheVariants as stmt_case
use Rattle.p8_tree.specs.declared.statements.Loop as loop
use Rattle.p8_tree.specs.Expressions.{Tree, single, no_items, ◌▸◌}
use Rattle.p8_columns.specs.Reader.{chained, ended, closing, tested}
use Rattle.p8_tree.specs.Statements.{nothing_else, statement, Arm, arm, Statement, Statements, ◌▹◌, ◌⊳◌, If, Repeat}
use Rattle.p8_tree.specs.Views.{tree_of, item_of, items_of, course_of, action_of, statement_of, statements_of, arm_of, arms_of}
use Rattle.p8_tree.specs.Bridges.{items_of-push, statements_of-push, arms_of-push, arm_is, if_is, repeat_is, other_body}
use Rattle.p8_columns.specs.Blocks.{condition}

pub statements_pushed : (xs ys : List stmt.Stmt) (s : stmt.Stmt) → ys ≡ xs ++ s ∷ [] → statements_of ys ≡ statements_of xs ▹ statement_of s
statements_pushed xs ys s h = ap statements_of h ∙ statements_of-push xs s

pub arms_pushed : (xs ys : List code_arm.Arm) (a : code_arm.Arm) → ys ≡ xs ++ a ∷ [] → arms_of ys ≡ arms_of xs ⊳ arm_of a
arms_pushed xs ys a h = ap arms_of h ∙ arms_of-push xs a

pub item_single : (e : Expr) → item_of (roll-Item (record { low = e; high = None })) ≡ single (tree_of e)
unfolding roll-Item Carrier.roll
item_single e = refl

pub condition_is : (tests : List Item) (negated : Bool) (e : Expr) (v : Vec stmt.Stmt Global) → tests ≡ [] ++ roll-Item (record { low = e; high = None }) ∷ [] → arm_of (roll-Arm (record { tests = tests; negated = negated; body = v })) ≡ condition negated (tree_of e) (statements_of v.items)
condition_is tests negated e v h = arm_is tests negated v ∙ ap (λ t. arm t negated (statements_of v.items)) (ap items_of h ∙ items_of-push [] (roll-Item (record { low = e; high = None })) ∙ ap (λ i. no_items ▸ i) (item_single e))

-- a chain gets one more arm, or its ELSE
pub chain_none : (p : Place) (v w : Vec code_arm.Arm Global) (o : Option (Vec stmt.Stmt Global)) (a : Arm) → o ≡ None → arms_of w.items ≡ arms_of v.items ⊳ a → statement_of (roll-Stmt (record { place = p; kind = stmt_case.If w None })) ≡ chained (statement p (If (arms_of v.items) (other_body o))) a
chain_none p v w o a e h = ap (statement p) (if_is w None ∙ ap (λ x. If x nothing_else) h) ∙ sym (ap (λ o. chained (statement p (If (arms_of v.items) (other_body o))) a) e)

pub chain_some : (p : Place) (v : Vec code_arm.Arm Global) (o : Option (Vec stmt.Stmt Global)) (b : Vec stmt.Stmt Global) (a : Arm) → o ≡ Some b → statement_of (roll-Stmt (record { place = p; kind = stmt_case.If v (Some b) })) ≡ chained (statement p (If (arms_of v.items) (other_body o))) a
chain_some p v o b a e = ap (statement p) (if_is v (Some b)) ∙ sym (ap (λ o. chained (statement p (If (arms_of v.items) (other_body o))) a) e)

pub end_none : (p : Place) (v : Vec code_arm.Arm Global) (o : Option (Vec stmt.Stmt Global)) (b : Vec stmt.Stmt Global) → o ≡ None → statement_of (roll-Stmt (record { place = p; kind = stmt_case.If v (Some b) })) ≡ ended (statement p (If (arms_of v.items) (other_body o))) (statements_of b.items)
end_none p v o b e = ap (statement p) (if_is v (Some b)) ∙ sym (ap (λ o. ended (statement p (If (arms_of v.items) (other_body o))) (statements_of b.items)) e)

pub end_some : (p : Place) (v : Vec code_arm.Arm Global) (o : Option (Vec stmt.Stmt Global)) (b c : Vec stmt.Stmt Global) → o ≡ Some b → statement_of (roll-Stmt (record { place = p; kind = stmt_case.If v (Some b) })) ≡ ended (statement p (If (arms_of v.items) (other_body o))) (statements_of c.items)
end_some p v o b c e = ap (statement p) (if_is v (Some b)) ∙ sym (ap (λ o. ended (statement p (If (arms_of v.items) (other_body o))) (statements_of c.items)) e)

pub chain_view : (p : Place) (k : stmt_kind.StmtKind) (v : Vec code_arm.Arm Global) (o : Option (Vec stmt.Stmt Global)) → k ≡ stmt_case.If v o → statement p (If (arms_of v.items) (other_body o)) ≡ statement p (action_of k)
chain_view p k v o e = ap (statement p) (sym (if_is v o) ∙ ap action_of (sym e))

pub loop_view : (p : Place) (k : stmt_kind.StmtKind) (c : loop.Loop) (v : Vec stmt.Stmt Global) → k ≡ stmt_case.Repeat c v → statement p (Repeat (course_of c) (statements_of v.items)) ≡ statement p (action_of k)
loop_view p k c v e = ap (statement p) (sym (repeat_is c v) ∙ ap action_of (sym e))

pub loop_tested : (p : Place) (k : stmt_kind.StmtKind) (c d : loop.Loop) (v : Vec stmt.Stmt Global) (u : Bool) (t : Tree) → k ≡ stmt_case.Repeat c v → course_of d ≡ closing (course_of c) u t → statement_of (roll-Stmt (record { place = p; kind = stmt_case.Repeat d v })) ≡ tested (statement p (action_of k)) u t
loop_tested p k c d v u t e h = ap (statement p) (repeat_is d v ∙ ap (λ c. Repeat c (statements_of v.items)) h) ∙ ap (λ s. tested s u t) (loop_view p k c v e)

-- the last statement changes
pub last_same : (f : Statements → Statements) (g : Statement → Statement) → ((ss : Statements) (s : Statement) → f (ss ▹ s) ≡ ss ▹ g s) → (xs ys : List stmt.Stmt) (s : stmt.Stmt) (t : Statement) → xs ≡ ys ++ s ∷ [] → t ≡ g (statement_of s) → statements_of ys ▹ t ≡ f (statements_of xs)
last_same f g law xs ys s t e h = ap (λ t. statements_of ys ▹ t) h ∙ sym (law (statements_of ys) (statement_of s)) ∙ sym (ap f (statements_pushed ys xs s e))

-- statements that are the same
pub ok_as : (r : Result (Vec stmt.Stmt Global) AllocError) (x y : Statements) → x ≡ y → IfOk r (λ v. statements_of v.items ≡ x) → IfOk r (λ v. statements_of v.items ≡ y)
ok_as r x y e h = subst (λ x. IfOk r (λ v. statements_of v.items ≡ x)) e h
