-- The texts of trees, items, statements and arms one after the other, and of forms as the code has them.
use Rattle.std.proofs.Common.{◌≡◌, ℕ, ◌+◌, ◌<◌, List, [], ◌∷◌, ◌++◌, length, take, get_or, Option, Some, None, Vec, sym, ap, ap₂, ◌∙◌, append_assoc}
use Rattle.std.specs.declared.alloc.Global.{Global}
use Rattle.std.proofs.lemmas.List.{take_more}
use Rattle.p8_tree.specs.declared.places.Place.{Place}
use Rattle.p8_tree.specs.declared.expressions.Expr as expr
use Rattle.p8_tree.specs.declared.expressions.ExprKind as kind
use Rattle.p8_tree.specs.declared.expressions.Item as item
use Rattle.p8_tree.specs.declared.statements.Stmt as stmt
use Rattle.p8_tree.specs.declared.statements.Arm as code_arm
use Rattle.p8_tree.specs.declared.statements.Arm.{out-Arm, roll-out-Arm}
use Rattle.p8_tree.specs.declared.statements.StmtKind as stmt_kind
use Rattle.p8_tree.specs.declared.statements.StmtKind.TheVariants as stmt_case
use Rattle.p8_tree.specs.declared.statements.Loop as loop
use Rattle.p8_tree.specs.Expressions.{Form}
use Rattle.p8_tree.specs.Views.{tree_of, form_of, trees_of, item_of, items_of, course_of, action_of, statement_of, statements_of, arm_of, arms_of}
use Rattle.p8_tree.specs.Bridges.{trees_of-push, items_of-push, statements_of-push, arms_of-push, other_body, arm_is, if_is, case_is, repeat_is}
use Rattle.p8_build.specs.Strings.{Texts, in_tree, in_form, in_item, in_trees, in_items, before_body, behind_body, strings_in, in_statement, in_action, in_arms, in_arm, in_otherwise}

-- a STRING, as the code has it
pub one_string : (place : Place) (k : kind.ExprKind) (f : Form) → form_of k ≡ f → (place, f) ∷ [] ≡ in_form place f → (place, form_of k) ∷ [] ≡ in_form place (form_of k)
one_string place k f is one = ap (λ (f : Form). (place, f) ∷ []) is ∙ one ∙ ap (in_form place) (sym is)

pub trees_next : (xs : List expr.Expr) (i : ℕ) (d : expr.Expr) (a b : Texts) {c : Texts} → i < length xs → d ≡ get_or xs i d → b ≡ a ++ in_trees (trees_of (take i xs)) → c ≡ b ++ in_tree (tree_of d) → c ≡ a ++ in_trees (trees_of (take (i + 1) xs))
trees_next xs i d a b lt at before now =
    now ∙ ap (λ b. b ++ in_tree (tree_of d)) before ∙ append_assoc a (in_trees (trees_of (take i xs))) (in_tree (tree_of d))
    ∙ ap (λ d. a ++ (in_trees (trees_of (take i xs)) ++ in_tree (tree_of d))) at
    ∙ ap (λ es. a ++ in_trees es) (sym (trees_of-push (take i xs) (get_or xs i d)))
    ∙ ap (λ ys. a ++ in_trees (trees_of ys)) (sym (take_more xs i d lt))

pub items_next : (xs : List item.Item) (i : ℕ) (d : item.Item) (a b : Texts) {c : Texts} → i < length xs → d ≡ get_or xs i d → b ≡ a ++ in_items (items_of (take i xs)) → c ≡ b ++ in_item (item_of d) → c ≡ a ++ in_items (items_of (take (i + 1) xs))
items_next xs i d a b lt at before now =
    now ∙ ap (λ b. b ++ in_item (item_of d)) before ∙ append_assoc a (in_items (items_of (take i xs))) (in_item (item_of d))
    ∙ ap (λ d. a ++ (in_items (items_of (take i xs)) ++ in_item (item_of d))) at
    ∙ ap (λ es. a ++ in_items es) (sym (items_of-push (take i xs) (get_or xs i d)))
    ∙ ap (λ ys. a ++ in_items (items_of ys)) (sym (take_more xs i d lt))

pub statements_next : (xs : List stmt.Stmt) (i : ℕ) (d : stmt.Stmt) (a b : Texts) {c : Texts} → i < length xs → d ≡ get_or xs i d → b ≡ a ++ strings_in (statements_of (take i xs)) → c ≡ b ++ in_statement (statement_of d) → c ≡ a ++ strings_in (statements_of (take (i + 1) xs))
statements_next xs i d a b lt at before now =
    now ∙ ap (λ b. b ++ in_statement (statement_of d)) before ∙ append_assoc a (strings_in (statements_of (take i xs))) (in_statement (statement_of d))
    ∙ ap (λ d. a ++ (strings_in (statements_of (take i xs)) ++ in_statement (statement_of d))) at
    ∙ ap (λ ss. a ++ strings_in ss) (sym (statements_of-push (take i xs) (get_or xs i d)))
    ∙ ap (λ ys. a ++ strings_in (statements_of ys)) (sym (take_more xs i d lt))

pub arms_next : (xs : List code_arm.Arm) (i : ℕ) (d : code_arm.Arm) (a b : Texts) {c : Texts} → i < length xs → d ≡ get_or xs i d → b ≡ a ++ in_arms (arms_of (take i xs)) → c ≡ b ++ in_arm (arm_of d) → c ≡ a ++ in_arms (arms_of (take (i + 1) xs))
arms_next xs i d a b lt at before now =
    now ∙ ap (λ b. b ++ in_arm (arm_of d)) before ∙ append_assoc a (in_arms (arms_of (take i xs))) (in_arm (arm_of d))
    ∙ ap (λ d. a ++ (in_arms (arms_of (take i xs)) ++ in_arm (arm_of d))) at
    ∙ ap (λ xs. a ++ in_arms xs) (sym (arms_of-push (take i xs) (get_or xs i d)))
    ∙ ap (λ ys. a ++ in_arms (arms_of ys)) (sym (take_more xs i d lt))

-- ---- forms of statements

pub no_other : (o : Option (Vec stmt.Stmt Global)) → o ≡ None → [] ≡ in_otherwise (other_body o)
no_other o is = ap (λ o. in_otherwise (other_body o)) (sym is)

pub some_other : (o : Option (Vec stmt.Stmt Global)) (v : Vec stmt.Stmt Global) (ss : List stmt.Stmt) → o ≡ Some v → ss ≡ v.items → strings_in (statements_of ss) ≡ in_otherwise (other_body o)
some_other o v ss is e = ap (λ ss. strings_in (statements_of ss)) e ∙ ap (λ o. in_otherwise (other_body o)) (sym is)

pub if_texts : (k : stmt_kind.StmtKind) (v : Vec code_arm.Arm Global) (o : Option (Vec stmt.Stmt Global)) (xs : List code_arm.Arm) (b : Texts) → k ≡ stmt_case.If v o → xs ≡ v.items → b ≡ in_otherwise (other_body o) → in_arms (arms_of xs) ++ b ≡ in_action (action_of k)
if_texts k v o xs b is e rest =
    ap₂ (λ x y. x ++ y) (ap (λ xs. in_arms (arms_of xs)) e) rest ∙ ap in_action (sym (ap action_of is ∙ if_is v o))

pub case_texts : (k : stmt_kind.StmtKind) (x : expr.Expr) (v : Vec code_arm.Arm Global) (o : Option (Vec stmt.Stmt Global)) (xs : List code_arm.Arm) (b : Texts) → k ≡ stmt_case.Case x v o → xs ≡ v.items → b ≡ in_otherwise (other_body o) → in_tree (tree_of x) ++ (in_arms (arms_of xs) ++ b) ≡ in_action (action_of k)
case_texts k x v o xs b is e rest =
    ap (λ m. in_tree (tree_of x) ++ m) (ap₂ (λ x y. x ++ y) (ap (λ xs. in_arms (arms_of xs)) e) rest) ∙ ap in_action (sym (ap action_of is ∙ case_is x v o))

pub repeat_texts : (k : stmt_kind.StmtKind) (course : loop.Loop) (v : Vec stmt.Stmt Global) (ss : List stmt.Stmt) → k ≡ stmt_case.Repeat course v → ss ≡ v.items → before_body (course_of course) ++ (strings_in (statements_of ss) ++ behind_body (course_of course)) ≡ in_action (action_of k)
repeat_texts k course v ss is e =
    ap (λ ss. before_body (course_of course) ++ (strings_in (statements_of ss) ++ behind_body (course_of course))) e ∙ ap in_action (sym (ap action_of is ∙ repeat_is course v))

pub arm_texts : (x : code_arm.Arm) (ts : List item.Item) (ss : List stmt.Stmt) → ts ≡ (out-Arm x).tests → ss ≡ (out-Arm x).body.items → in_items (items_of ts) ++ strings_in (statements_of ss) ≡ in_arm (arm_of x)
arm_texts x ts ss e g =
    ap₂ (λ x y. x ++ y) (ap (λ ts. in_items (items_of ts)) e) (ap (λ ss. strings_in (statements_of ss)) g)
    ∙ ap in_arm (sym (ap arm_of (sym (roll-out-Arm x)) ∙ arm_is (out-Arm x).tests (out-Arm x).negated (out-Arm x).body))
