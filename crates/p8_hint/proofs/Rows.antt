-- The spots of trees, items, statements and arms one after the other, and of forms as the code has them.
use Rattle.std.proofs.Common.{◌≡◌, ℕ, ◌+◌, ◌<◌, List, [], ◌∷◌, ◌++◌, length, take, map, get_or, Option, Some, None, Vec, refl, sym, ap, ap₂, ◌∙◌, append_assoc, arith}
use Rattle.std.specs.declared.alloc.Global.{Global}
use Rattle.std.proofs.lemmas.List.{take_more, take_all}
use Rattle.std.proofs.lemmas.Option.{slice_get_past, slice_get_read}
use Rattle.p8_tree.specs.declared.places.Place.{Place}
use Rattle.p8_tree.specs.declared.expressions.Expr as expr
use Rattle.p8_tree.specs.declared.expressions.ExprKind.TheVariants as kind_case
use Rattle.p8_tree.specs.declared.expressions.Item as item
use Rattle.p8_tree.specs.declared.statements.Stmt as stmt
use Rattle.p8_tree.specs.declared.statements.Arm as code_arm
use Rattle.p8_tree.specs.declared.statements.Arm.{out-Arm, roll-out-Arm}
use Rattle.p8_tree.specs.declared.statements.StmtKind as stmt_kind
use Rattle.p8_tree.specs.declared.statements.StmtKind.TheVariants as stmt_case
use Rattle.p8_tree.specs.declared.statements.Loop as loop
use Rattle.p8_tree.specs.Views.{tree_of, trees_of, form_of, item_of, items_of, course_of, action_of, statement_of, statements_of, arm_of, arms_of}
use Rattle.p8_tree.specs.Bridges.{trees_of-push, items_of-push, statements_of-push, arms_of-push, tree_list_of, item_list_of, other_body, strings_is, built_is, arm_is, if_is, case_is, repeat_is}
use Rattle.p8_hint.specs.Spots.{Spot, in_tree, in_form, in_item, in_trees, in_items, in_condition, built, before_body, behind_body, bare_of, behind_of, in_block, in_statement, in_action, in_arms, in_arm, in_cases, in_choice, in_otherwise}
use Rattle.std.specs.Prelude.{option_map}
use Rattle.p8_tree.specs.Statements.{arm}
use Rattle.p8_hint.specs.SpotViews.{place_at}

pub trees_next : (xs : List expr.Expr) (i : ℕ) (d : expr.Expr) (a b : List Spot) {c : List Spot} → i < length xs → d ≡ get_or xs i d → b ≡ a ++ in_trees (trees_of (take i xs)) → c ≡ b ++ in_tree (tree_of d) → c ≡ a ++ in_trees (trees_of (take (i + 1) xs))
trees_next xs i d a b lt at before now =
    now ∙ ap (λ b. b ++ in_tree (tree_of d)) before ∙ append_assoc a (in_trees (trees_of (take i xs))) (in_tree (tree_of d))
    ∙ ap (λ d. a ++ (in_trees (trees_of (take i xs)) ++ in_tree (tree_of d))) at
    ∙ ap (λ es. a ++ in_trees es) (sym (trees_of-push (take i xs) (get_or xs i d)))
    ∙ ap (λ ys. a ++ in_trees (trees_of ys)) (sym (take_more xs i d lt))

pub items_next : (xs : List item.Item) (i : ℕ) (d : item.Item) (a b : List Spot) {c : List Spot} → i < length xs → d ≡ get_or xs i d → b ≡ a ++ in_items (items_of (take i xs)) → c ≡ b ++ in_item (item_of d) → c ≡ a ++ in_items (items_of (take (i + 1) xs))
items_next xs i d a b lt at before now =
    now ∙ ap (λ b. b ++ in_item (item_of d)) before ∙ append_assoc a (in_items (items_of (take i xs))) (in_item (item_of d))
    ∙ ap (λ d. a ++ (in_items (items_of (take i xs)) ++ in_item (item_of d))) at
    ∙ ap (λ es. a ++ in_items es) (sym (items_of-push (take i xs) (get_or xs i d)))
    ∙ ap (λ ys. a ++ in_items (items_of ys)) (sym (take_more xs i d lt))

pub arms_next : (xs : List code_arm.Arm) (i : ℕ) (d : code_arm.Arm) (a b : List Spot) {c : List Spot} → i < length xs → d ≡ get_or xs i d → b ≡ a ++ in_arms (arms_of (take i xs)) → c ≡ b ++ in_arm (arm_of d) → c ≡ a ++ in_arms (arms_of (take (i + 1) xs))
arms_next xs i d a b lt at before now =
    now ∙ ap (λ b. b ++ in_arm (arm_of d)) before ∙ append_assoc a (in_arms (arms_of (take i xs))) (in_arm (arm_of d))
    ∙ ap (λ d. a ++ (in_arms (arms_of (take i xs)) ++ in_arm (arm_of d))) at
    ∙ ap (λ xs. a ++ in_arms xs) (sym (arms_of-push (take i xs) (get_or xs i d)))
    ∙ ap (λ ys. a ++ in_arms (arms_of ys)) (sym (take_more xs i d lt))

pub cases_next : (xs : List code_arm.Arm) (i : ℕ) (d : code_arm.Arm) (a b : List Spot) {c : List Spot} → i < length xs → d ≡ get_or xs i d → b ≡ a ++ in_cases (arms_of (take i xs)) → c ≡ b ++ in_choice (arm_of d) → c ≡ a ++ in_cases (arms_of (take (i + 1) xs))
cases_next xs i d a b lt at before now =
    now ∙ ap (λ b. b ++ in_choice (arm_of d)) before ∙ append_assoc a (in_cases (arms_of (take i xs))) (in_choice (arm_of d))
    ∙ ap (λ d. a ++ (in_cases (arms_of (take i xs)) ++ in_choice (arm_of d))) at
    ∙ ap (λ xs. a ++ in_cases xs) (sym (arms_of-push (take i xs) (get_or xs i d)))
    ∙ ap (λ ys. a ++ in_cases (arms_of ys)) (sym (take_more xs i d lt))

-- ---- a block

-- what a statement adds, before one that stands here
abbrev pub told_of : stmt.Stmt → Option Place → List Spot
told_of d next = bare_of (statement_of d) next ++ (in_statement (statement_of d) ++ behind_of (statement_of d) next)

place_is : (xs : List stmt.Stmt) (i : ℕ) (d : stmt.Stmt) → i < length xs → d ≡ get_or xs i d → place_at xs i ≡ Some d.place
place_is xs i d lt at = ap (λ o. option_map (λ (s : stmt.Stmt). s.place) o) (slice_get_read xs (length xs) i d refl lt at)

block_push : (ss : List stmt.Stmt) (d : stmt.Stmt) (next : Option Place) → in_block (statements_of (ss ++ d ∷ [])) next ≡ in_block (statements_of ss) (Some d.place) ++ told_of d next
block_push ss d next = ap (λ s. in_block s next) (statements_of-push ss d)

pub block_next : (xs : List stmt.Stmt) (i : ℕ) (d : stmt.Stmt) (a b : List Spot) {c : List Spot} → i < length xs → d ≡ get_or xs i d → b ≡ a ++ in_block (statements_of (take i xs)) (place_at xs i) → c ≡ b ++ told_of d (place_at xs (i + 1)) → c ≡ a ++ in_block (statements_of (take (i + 1) xs)) (place_at xs (i + 1))
block_next xs i d a b lt at before now =
    let next = place_at xs (i + 1) in
    let here : take (i + 1) xs ≡ take i xs ++ d ∷ [] = take_more xs i d lt ∙ ap (λ x. take i xs ++ x ∷ []) (sym at) in
    now ∙ ap (λ b. b ++ told_of d next) (before ∙ ap (λ p. a ++ in_block (statements_of (take i xs)) p) (place_is xs i d lt at))
    ∙ append_assoc a (in_block (statements_of (take i xs)) (Some d.place)) (told_of d next)
    ∙ ap (λ m. a ++ m) (sym (block_push (take i xs) d next))
    ∙ ap (λ ys. a ++ in_block (statements_of ys) next) (sym here)

-- a block is over where no statement stands
pub block_end : (xs : List stmt.Stmt) (i : ℕ) (a b : List Spot) → i ≡ length xs → b ≡ a ++ in_block (statements_of (take i xs)) (place_at xs i) → b ≡ a ++ in_block (statements_of xs) None
block_end xs i a b e now =
    now ∙ ap (λ j. a ++ in_block (statements_of (take j xs)) (place_at xs j)) e
    ∙ ap (λ ys. a ++ in_block (statements_of ys) (place_at xs (length xs))) (take_all (length xs) xs (omega arith))
    ∙ ap (λ o. a ++ in_block (statements_of xs) (option_map (λ (s : stmt.Stmt). s.place) o)) (slice_get_past xs (length xs) (omega arith))

-- three pieces, one after the other
pub three : (s x y z : List Spot) {t u v : List Spot} → t ≡ s ++ x → u ≡ t ++ y → v ≡ u ++ z → v ≡ s ++ (x ++ (y ++ z))
three s x y z e f g =
    g ∙ ap (λ s. s ++ z) (f ∙ ap (λ s. s ++ y) e ∙ append_assoc s x y) ∙ append_assoc s (x ++ y) z ∙ ap (λ m. s ++ m) (append_assoc x y z)

-- ---- forms

pub strings_spots : (v : Vec expr.Expr Global) → in_form (form_of (kind_case.Strings v)) ≡ in_trees (trees_of v.items)
strings_spots v = ap in_form (strings_is v)

pub built_spots : (code : ℕ) (v : Vec expr.Expr Global) → in_form (form_of (kind_case.Built code v)) ≡ in_trees (trees_of v.items) ++ built code (map tree_of v.items)
built_spots code v = ap in_form (built_is code v) ∙ ap (λ ts. in_trees (trees_of v.items) ++ built code ts) (tree_list_of v.items)

pub no_other : (o : Option (Vec stmt.Stmt Global)) → o ≡ None → [] ≡ in_otherwise (other_body o)
no_other o is = ap (λ o. in_otherwise (other_body o)) (sym is)

pub some_other : (o : Option (Vec stmt.Stmt Global)) (v : Vec stmt.Stmt Global) (ss : List stmt.Stmt) → o ≡ Some v → ss ≡ v.items → in_block (statements_of ss) None ≡ in_otherwise (other_body o)
some_other o v ss is e = ap (λ ss. in_block (statements_of ss) None) e ∙ ap (λ o. in_otherwise (other_body o)) (sym is)

pub if_spots : (k : stmt_kind.StmtKind) (v : Vec code_arm.Arm Global) (o : Option (Vec stmt.Stmt Global)) (xs : List code_arm.Arm) (b : List Spot) → k ≡ stmt_case.If v o → xs ≡ v.items → b ≡ in_otherwise (other_body o) → in_arms (arms_of xs) ++ b ≡ in_action (action_of k)
if_spots k v o xs b is e rest =
    ap₂ (λ x y. x ++ y) (ap (λ xs. in_arms (arms_of xs)) e) rest ∙ ap in_action (sym (ap action_of is ∙ if_is v o))

pub case_spots : (k : stmt_kind.StmtKind) (x : expr.Expr) (v : Vec code_arm.Arm Global) (o : Option (Vec stmt.Stmt Global)) (xs : List code_arm.Arm) (b : List Spot) → k ≡ stmt_case.Case x v o → xs ≡ v.items → b ≡ in_otherwise (other_body o) → in_tree (tree_of x) ++ (in_cases (arms_of xs) ++ b) ≡ in_action (action_of k)
case_spots k x v o xs b is e rest =
    ap (λ m. in_tree (tree_of x) ++ m) (ap₂ (λ x y. x ++ y) (ap (λ xs. in_cases (arms_of xs)) e) rest) ∙ ap in_action (sym (ap action_of is ∙ case_is x v o))

pub repeat_spots : (k : stmt_kind.StmtKind) (course : loop.Loop) (v : Vec stmt.Stmt Global) (ss : List stmt.Stmt) → k ≡ stmt_case.Repeat course v → ss ≡ v.items → before_body (course_of course) ++ (in_block (statements_of ss) None ++ behind_body (course_of course)) ≡ in_action (action_of k)
repeat_spots k course v ss is e =
    ap (λ ss. before_body (course_of course) ++ (in_block (statements_of ss) None ++ behind_body (course_of course))) e ∙ ap in_action (sym (ap action_of is ∙ repeat_is course v))

-- an arm as the code has it
arm_here : (x : code_arm.Arm) → arm_of x ≡ arm (items_of (out-Arm x).tests) (out-Arm x).negated (statements_of (out-Arm x).body.items)
arm_here x = ap arm_of (sym (roll-out-Arm x)) ∙ arm_is (out-Arm x).tests (out-Arm x).negated (out-Arm x).body

pub choice_spots : (x : code_arm.Arm) (ts : List item.Item) (ss : List stmt.Stmt) → ts ≡ (out-Arm x).tests → ss ≡ (out-Arm x).body.items → in_items (items_of ts) ++ in_block (statements_of ss) None ≡ in_choice (arm_of x)
choice_spots x ts ss e g =
    ap₂ (λ x y. x ++ y) (ap (λ ts. in_items (items_of ts)) e) (ap (λ ss. in_block (statements_of ss) None) g)
    ∙ ap in_choice (sym (arm_here x))

pub arm_spots : (x : code_arm.Arm) (ts us : List item.Item) (ss : List stmt.Stmt) → us ≡ (out-Arm x).tests → ts ≡ (out-Arm x).tests → ss ≡ (out-Arm x).body.items → in_condition (map item_of us) ++ (in_items (items_of ts) ++ in_block (statements_of ss) None) ≡ in_arm (arm_of x)
arm_spots x ts us ss f e g =
    ap₂ (λ x y. x ++ y) (ap (λ ts. in_condition (map item_of ts)) f ∙ ap in_condition (sym (item_list_of (out-Arm x).tests)))
    (ap₂ (λ x y. x ++ y) (ap (λ ts. in_items (items_of ts)) e) (ap (λ ss. in_block (statements_of ss) None) g))
    ∙ ap in_arm (sym (arm_here x))
