-- internal: what the code's constructors stand for where they hold a vector, or may hold a box.
use Rattle.std.specs.Prelude.{◌≡◌, ℕ, Bool, List, [], ◌∷◌, ◌++◌, map, Vec, Box, Option, None, Some, refl}
use Rattle.std.specs.List.{fold}
use Rattle.std.proofs.Common.{ap, ◌∙◌, sym, append_assoc, append-nil}
use Rattle.std.specs.declared.alloc.Global.{Global}
use mathlib.Core.Former.{Count}
use denote.Hole.Carrier
use Rattle.p8_tree.specs.declared.places.Place.{Place}
use Rattle.p8_tree.specs.declared.expressions.ExprKind as kind
use Rattle.p8_tree.specs.declared.expressions.ExprKind.TheVariants as kind_case
use Rattle.p8_tree.specs.declared.expressions.Expr as expr
use Rattle.p8_tree.specs.declared.expressions.Target as target
use Rattle.p8_tree.specs.declared.expressions.Item as item
use Rattle.p8_tree.specs.declared.expressions.Call as call
use Rattle.p8_tree.specs.declared.expressions.Call.{roll-Call}
use Rattle.p8_tree.specs.declared.statements.StmtKind as stmt_kind
use Rattle.p8_tree.specs.declared.statements.StmtKind.TheVariants as stmt_case
use Rattle.p8_tree.specs.declared.statements.Stmt as stmt
use Rattle.p8_tree.specs.declared.statements.Stmt.{roll-Stmt}
use Rattle.p8_tree.specs.declared.statements.Arm as code_arm
use Rattle.p8_tree.specs.declared.statements.Arm.{roll-Arm}
use Rattle.p8_tree.specs.declared.statements.Loop as loop
use Rattle.p8_tree.specs.Expressions.{node, Tree, Item, Trees, no_trees, ◌▷◌, Items, no_items, ◌▸◌, Index, no_index, index, Call, Strings, Built, Look}
use Rattle.p8_tree.specs.Statements.{statement, Statement, Arm, Statements, no_statements, ◌▹◌, Arms, no_arms, ◌⊳◌, arm, Otherwise, nothing_else}
use Rattle.p8_tree.specs.Statements.{otherwise, If, Case, Repeat}
use Rattle.p8_tree.specs.Lists.{tree_list, fold_trees, item_list, fold_items, arm_list, fold_arms, statement_list, fold_statements}
use Rattle.p8_tree.specs.Views.{form_of, call_of, index_of, tree_of, trees_from, trees_after, trees_of, items_from, items_after, items_of, item_of}
use Rattle.p8_tree.specs.Views.{action_of, arm_of, otherwise_of, statement_of, statements_from, statements_after, statements_of, arms_from}
use Rattle.p8_tree.specs.Views.{arms_after, arms_of, course_of}

-- one more at the end
pub trees_after-push : (before : Trees) (es : List expr.Expr) (e : expr.Expr) → trees_after before (es ++ e ∷ []) ≡ trees_after before es ▷ tree_of e
trees_after-push before [] e = refl
trees_after-push before (x ∷ es) e = trees_after-push (before ▷ tree_of x) es e

pub trees_of-push : (es : List expr.Expr) (e : expr.Expr) → trees_of (es ++ e ∷ []) ≡ trees_of es ▷ tree_of e
trees_of-push es e = trees_after-push no_trees es e

pub items_after-push : (before : Items) (xs : List item.Item) (x : item.Item) → items_after before (xs ++ x ∷ []) ≡ items_after before xs ▸ item_of x
items_after-push before [] x = refl
items_after-push before (y ∷ xs) x = items_after-push (before ▸ item_of y) xs x

pub items_of-push : (xs : List item.Item) (x : item.Item) → items_of (xs ++ x ∷ []) ≡ items_of xs ▸ item_of x
items_of-push xs x = items_after-push no_items xs x

pub statements_after-push : (before : Statements) (ss : List stmt.Stmt) (s : stmt.Stmt) →
    statements_after before (ss ++ s ∷ []) ≡ statements_after before ss ▹ statement_of s
statements_after-push before [] s = refl
statements_after-push before (x ∷ ss) s = statements_after-push (before ▹ statement_of x) ss s

pub statements_of-push : (ss : List stmt.Stmt) (s : stmt.Stmt) → statements_of (ss ++ s ∷ []) ≡ statements_of ss ▹ statement_of s
statements_of-push ss s = statements_after-push no_statements ss s

pub arms_after-push : (before : Arms) (xs : List code_arm.Arm) (x : code_arm.Arm) → arms_after before (xs ++ x ∷ []) ≡ arms_after before xs ⊳ arm_of x
arms_after-push before [] x = refl
arms_after-push before (y ∷ xs) x = arms_after-push (before ⊳ arm_of y) xs x

pub arms_of-push : (xs : List code_arm.Arm) (x : code_arm.Arm) → arms_of (xs ++ x ∷ []) ≡ arms_of xs ⊳ arm_of x
arms_of-push xs x = arms_after-push no_arms xs x

-- a row is its elements
pub expr_row_is : (before : Trees) (n : _) (row : kind.Row_of-Expr n) → trees_from before row ≡ trees_after before (kind.items-the_row-Expr n row)
expr_row_is before n kind.end_of-Expr = refl
expr_row_is before n (kind.more_of-Expr {n = m} place e rest) = expr_row_is (before ▷ node place (form_of e)) m rest

pub item_row_is : (before : Items) (n : _) (row : kind.Row_of-Item n) → items_from before row ≡ items_after before (kind.items-the_row-Item n row)
item_row_is before n kind.end_of-Item = refl
item_row_is before n (kind.more_of-Item {n = m} x rest) = item_row_is (before ▸ item_of x) m rest

pub stmt_row_is : (before : Statements) (n : _) (row : stmt_kind.Row_of-Stmt n) →
    statements_from before row ≡ statements_after before (stmt_kind.items-the_row-Stmt n row)
stmt_row_is before n stmt_kind.end_of-Stmt = refl
stmt_row_is before n (stmt_kind.more_of-Stmt {n = m} place k rest) = stmt_row_is (before ▹ statement place (action_of k)) m rest

pub arm_row_is : (before : Arms) (n : _) (row : stmt_kind.Row_of-Arm n) → arms_from before row ≡ arms_after before (stmt_kind.items-the_row-Arm n row)
arm_row_is before n stmt_kind.end_of-Arm = refl
arm_row_is before n (stmt_kind.more_of-Arm {n = m} x rest) = arm_row_is (before ⊳ arm_of x) m rest

-- the rows that a form holds
abbrev exprs_in : kind.ExprKind → (n : Count) × kind.Row_of-Expr n
exprs_in (kind.Built' code shape row) = (_, row)
exprs_in (kind.Strings' shape row) = (_, row)
exprs_in _ = (_, kind.end_of-Expr)

abbrev items_in : kind.ExprKind → (n : Count) × kind.Row_of-Item n
items_in (kind.Look' code b place e shape row) = (_, row)
items_in _ = (_, kind.end_of-Item)

abbrev arguments_in : call.Call → (n : Count) × kind.Row_of-Expr n
arguments_in (call.Call' trap object i name place shape row) = (_, row)

abbrev stmts_in : stmt_kind.StmtKind → (n : Count) × stmt_kind.Row_of-Stmt n
stmts_in (stmt_kind.Repeat' course shape row) = (_, row)
stmts_in _ = (_, stmt_kind.end_of-Stmt)

abbrev arms_in : stmt_kind.StmtKind → (n : Count) × stmt_kind.Row_of-Arm n
arms_in (stmt_kind.If' shape row rest) = (_, row)
arms_in (stmt_kind.Case' e shape row rest) = (_, row)
arms_in _ = (_, stmt_kind.end_of-Arm)

abbrev body_in : code_arm.Arm → (n : Count) × stmt_kind.Row_of-Stmt n
body_in (code_arm.Arm' tests negated shape row) = (_, row)

abbrev other_in : stmt_kind.Held-StmtKind-If-1 → (n : Count) × stmt_kind.Row_of-Stmt n
other_in stmt_kind.None' = (_, stmt_kind.end_of-Stmt)
other_in (stmt_kind.Some' shape row) = (_, row)

-- a box, or none
abbrev pub boxed_index : Option (Box expr.Expr Global) → Index
boxed_index None = no_index
boxed_index (Some b) = index (tree_of b.value)

pub index_is : (i : Option (Box expr.Expr Global)) → index_of (target.back-Target-Named-1 i) ≡ boxed_index i
index_is None = refl
index_is (Some b) = refl

pub built_is : (code : ℕ) (v : Vec expr.Expr Global) → form_of (kind_case.Built code v) ≡ Built code (trees_of v.items)
built_is code v =
    let r = exprs_in (kind_case.Built code v) in
    ap (Built code) (expr_row_is no_trees r.0 r.1 ∙ ap trees_of (kind.items_hidden-the_row-Expr-0 v))

pub strings_is : (v : Vec expr.Expr Global) → form_of (kind_case.Strings v) ≡ Strings (trees_of v.items)
strings_is v =
    let r = exprs_in (kind_case.Strings v) in
    ap Strings (expr_row_is no_trees r.0 r.1 ∙ ap trees_of (kind.items_hidden-the_row-Expr-0 v))

pub look_is : (code : ℕ) (b : Box expr.Expr Global) (v : Vec item.Item Global) →
    form_of (kind_case.Look code b v) ≡ Look code (tree_of b.value) (items_of v.items)
look_is code b v =
    let r = items_in (kind_case.Look code b v) in
    ap (Look code (tree_of b.value)) (item_row_is no_items r.0 r.1 ∙ ap items_of (kind.items_hidden-the_row-Item-1 v))

pub call_is : (trap : Bool) (object : Option (List ℕ)) (i : Option (Box expr.Expr Global)) (name : List ℕ) (place : Place)
    (v : Vec expr.Expr Global) → call_of (roll-Call (record
    { trap = trap; object = object; index = i; method = name; method_place = place; args = v })) ≡
    Call trap object (boxed_index i) name place (trees_of v.items)
unfolding roll-Call Carrier.roll
call_is trap object i name place v =
    let r = arguments_in (roll-Call (record { trap = trap; object = object; index = i; method = name; method_place = place; args = v })) in
    ap (λ x. Call trap object x name place (trees_from no_trees r.1)) (index_is i)
    ∙ ap (Call trap object (boxed_index i) name place) (expr_row_is no_trees r.0 r.1 ∙ ap trees_of (kind.items_hidden-the_row-Expr-0 v))

pub repeat_is : (course : loop.Loop) (v : Vec stmt.Stmt Global) → action_of (stmt_case.Repeat course v) ≡ Repeat (course_of course) (statements_of v.items)
repeat_is course v =
    let r = stmts_in (stmt_case.Repeat course v) in
    ap (Repeat (course_of course)) (stmt_row_is no_statements r.0 r.1 ∙ ap statements_of (stmt_kind.items_hidden-the_row-Stmt-1 v))

pub arm_is : (tests : List item.Item) (negated : Bool) (v : Vec stmt.Stmt Global) →
    arm_of (roll-Arm (record { tests = tests; negated = negated; body = v })) ≡ arm (items_of tests) negated (statements_of v.items)
unfolding roll-Arm Carrier.roll
arm_is tests negated v =
    let r = body_in (roll-Arm (record { tests = tests; negated = negated; body = v })) in
    ap (arm (items_of tests) negated) (stmt_row_is no_statements r.0 r.1 ∙ ap statements_of (stmt_kind.items_hidden-the_row-Stmt-1 v))

-- a body, or none
abbrev pub other_body : Option (Vec stmt.Stmt Global) → Otherwise
other_body None = nothing_else
other_body (Some v) = otherwise (statements_of v.items)

pub otherwise_is : (o : Option (Vec stmt.Stmt Global)) → otherwise_of (stmt_kind.back-StmtKind-If-1 o) ≡ other_body o
otherwise_is None = refl
otherwise_is (Some v) =
    let r = other_in (stmt_kind.back-StmtKind-If-1 (Some v)) in
    ap otherwise (stmt_row_is no_statements r.0 r.1 ∙ ap statements_of (stmt_kind.items_hidden-the_row-Stmt-1 v))

pub if_is : (v : Vec code_arm.Arm Global) (o : Option (Vec stmt.Stmt Global)) → action_of (stmt_case.If v o) ≡ If (arms_of v.items) (other_body o)
if_is v o =
    let r = arms_in (stmt_case.If v o) in
    ap (λ x. If (arms_from no_arms r.1) x) (otherwise_is o)
    ∙ ap (λ x. If x (other_body o)) (arm_row_is no_arms r.0 r.1 ∙ ap arms_of (stmt_kind.items_hidden-the_row-Arm-0 v))

pub case_is : (e : expr.Expr) (v : Vec code_arm.Arm Global) (o : Option (Vec stmt.Stmt Global)) →
    action_of (stmt_case.Case e v o) ≡ Case (tree_of e) (arms_of v.items) (other_body o)
case_is e v o =
    let r = arms_in (stmt_case.Case e v o) in
    ap (λ x. Case (tree_of e) (arms_from no_arms r.1) x) (otherwise_is o)
    ∙ ap (λ x. Case (tree_of e) x (other_body o)) (arm_row_is no_arms r.0 r.1 ∙ ap arms_of (stmt_kind.items_hidden-the_row-Arm-0 v))

pub stmt_is : (place : Place) (k : stmt_kind.StmtKind) → statement_of (roll-Stmt (record { place = place; kind = k })) ≡ statement place (action_of k)
stmt_is place k = refl

-- The trees in their order are those of the code's list, and a fold over them is one over that list.
pub tree_list_after : (before : Trees) (es : List expr.Expr) → tree_list (trees_after before es) ≡ tree_list before ++ map tree_of es
tree_list_after before [] = sym (append-nil (tree_list before))
tree_list_after before (e ∷ es) = tree_list_after (before ▷ tree_of e) es ∙ append_assoc (tree_list before) (tree_of e ∷ []) (map tree_of es)

pub tree_list_of : (es : List expr.Expr) → tree_list (trees_of es) ≡ map tree_of es
tree_list_of es = tree_list_after no_trees es

pub fold_trees_after : {X : Type 0} (f : X → Tree → X) (a : X) (before : Trees) (es : List expr.Expr) →
    fold_trees f a (trees_after before es) ≡ fold (λ b e. f b (tree_of e)) (fold_trees f a before) es
fold_trees_after f a before [] = refl
fold_trees_after f a before (e ∷ es) = fold_trees_after f a (before ▷ tree_of e) es

pub fold_trees_of : {X : Type 0} (f : X → Tree → X) (a : X) (es : List expr.Expr) → fold_trees f a (trees_of es) ≡ fold (λ b e. f b (tree_of e)) a es
fold_trees_of f a es = fold_trees_after f a no_trees es

pub item_list_after : (before : Items) (xs : List item.Item) → item_list (items_after before xs) ≡ item_list before ++ map item_of xs
item_list_after before [] = sym (append-nil (item_list before))
item_list_after before (x ∷ xs) = item_list_after (before ▸ item_of x) xs ∙ append_assoc (item_list before) (item_of x ∷ []) (map item_of xs)

pub item_list_of : (xs : List item.Item) → item_list (items_of xs) ≡ map item_of xs
item_list_of xs = item_list_after no_items xs

pub fold_items_after : {X : Type 0} (f : X → Item → X) (a : X) (before : Items) (xs : List item.Item) →
    fold_items f a (items_after before xs) ≡ fold (λ b x. f b (item_of x)) (fold_items f a before) xs
fold_items_after f a before [] = refl
fold_items_after f a before (x ∷ xs) = fold_items_after f a (before ▸ item_of x) xs

pub fold_items_of : {X : Type 0} (f : X → Item → X) (a : X) (xs : List item.Item) → fold_items f a (items_of xs) ≡ fold (λ b x. f b (item_of x)) a xs
fold_items_of f a xs = fold_items_after f a no_items xs

pub arm_list_after : (before : Arms) (xs : List code_arm.Arm) → arm_list (arms_after before xs) ≡ arm_list before ++ map arm_of xs
arm_list_after before [] = sym (append-nil (arm_list before))
arm_list_after before (x ∷ xs) = arm_list_after (before ⊳ arm_of x) xs ∙ append_assoc (arm_list before) (arm_of x ∷ []) (map arm_of xs)

pub arm_list_of : (xs : List code_arm.Arm) → arm_list (arms_of xs) ≡ map arm_of xs
arm_list_of xs = arm_list_after no_arms xs

pub fold_arms_after : {X : Type 0} (f : X → Arm → X) (a : X) (before : Arms) (xs : List code_arm.Arm) →
    fold_arms f a (arms_after before xs) ≡ fold (λ b x. f b (arm_of x)) (fold_arms f a before) xs
fold_arms_after f a before [] = refl
fold_arms_after f a before (x ∷ xs) = fold_arms_after f a (before ⊳ arm_of x) xs

pub fold_arms_of : {X : Type 0} (f : X → Arm → X) (a : X) (xs : List code_arm.Arm) → fold_arms f a (arms_of xs) ≡ fold (λ b x. f b (arm_of x)) a xs
fold_arms_of f a xs = fold_arms_after f a no_arms xs

pub statement_list_after : (before : Statements) (ss : List stmt.Stmt) →
    statement_list (statements_after before ss) ≡ statement_list before ++ map statement_of ss
statement_list_after before [] = sym (append-nil (statement_list before))
statement_list_after before (s ∷ ss) = statement_list_after (before ▹ statement_of s) ss ∙ append_assoc (statement_list before) (statement_of s ∷ [])
    (map statement_of ss)

pub statement_list_of : (ss : List stmt.Stmt) → statement_list (statements_of ss) ≡ map statement_of ss
statement_list_of ss = statement_list_after no_statements ss

pub fold_statements_after : {X : Type 0} (f : X → Statement → X) (a : X) (before : Statements) (ss : List stmt.Stmt) →
    fold_statements f a (statements_after before ss) ≡ fold (λ b s. f b (statement_of s)) (fold_statements f a before) ss
fold_statements_after f a before [] = refl
fold_statements_after f a before (s ∷ ss) = fold_statements_after f a (before ▹ statement_of s) ss

pub fold_statements_of : {X : Type 0} (f : X → Statement → X) (a : X) (ss : List stmt.Stmt) →
    fold_statements f a (statements_of ss) ≡ fold (λ b s. f b (statement_of s)) a ss
fold_statements_of f a ss = fold_statements_after f a no_statements ss
