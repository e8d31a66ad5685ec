-- How statements follow one another, as the code has them.
use Rattle.std.proofs.Common.{◌≡◌, ℕ, ◌+◌, ◌<◌, Bool, true, false, ◌&&◌, ◌||◌, not, List, [], ◌∷◌, ◌++◌, length, take, map, get_or, Option, Some, None, Vec, refl, sym, ap, ap₂, ◌∙◌}
use Rattle.std.specs.declared.alloc.Global.{Global}
use Rattle.std.proofs.lemmas.List.{take_more}
use Rattle.p8_tree.specs.declared.expressions.Expr as expr
use Rattle.p8_tree.specs.declared.statements.Stmt as stmt
use Rattle.p8_tree.specs.declared.statements.Arm as code_arm
use Rattle.p8_tree.specs.declared.statements.Arm.{out-Arm, roll-out-Arm}
use Rattle.p8_tree.specs.declared.statements.StmtKind as stmt_kind
use Rattle.p8_tree.specs.declared.statements.StmtKind.TheVariants as stmt_case
use Rattle.p8_tree.specs.declared.statements.Loop as loop
use Rattle.p8_tree.specs.Views.{course_of, action_of, statement_of, statements_of, arm_of, arms_of}
use Rattle.p8_tree.specs.Bridges.{statements_of-push, arms_of-push, arm_list_of, statement_list_of, other_body, arm_is, if_is, case_is, repeat_is}
use Rattle.p8_hint.specs.Spots.{action_quits, arm_quits, arms_quit, counts, has_no_body, is_bare, is_empty, is_endless, is_forever, is_lone_and_bare, quit, quits, rest_quits}

-- ---- openers

pub arm_without : (x : code_arm.Arm) (ss : List stmt.Stmt) → ss ≡ (out-Arm x).body.items → is_empty (map statement_of ss) ≡ has_no_body (arm_of x)
arm_without x ss e =
    ap (λ ss. is_empty (map statement_of ss)) e ∙ ap is_empty (sym (statement_list_of (out-Arm x).body.items))
    ∙ ap has_no_body (sym (ap arm_of (sym (roll-out-Arm x)) ∙ arm_is (out-Arm x).tests (out-Arm x).negated (out-Arm x).body))

pub if_bare : (k : stmt_kind.StmtKind) (v : Vec code_arm.Arm Global) (o : Option (Vec stmt.Stmt Global)) (xs : List code_arm.Arm) → k ≡ stmt_case.If v o → xs ≡ v.items → o ≡ None → is_lone_and_bare (map arm_of xs) ≡ is_bare (action_of k)
if_bare k v o xs is e none =
    ap (λ xs. is_lone_and_bare (map arm_of xs)) e ∙ ap is_lone_and_bare (sym (arm_list_of v.items))
    ∙ sym (ap is_bare (ap action_of is ∙ ap (λ o. action_of (stmt_case.If v o)) none ∙ if_is v None))

pub if_not_bare : (k : stmt_kind.StmtKind) (v : Vec code_arm.Arm Global) (o : Option (Vec stmt.Stmt Global)) (w : Vec stmt.Stmt Global) → k ≡ stmt_case.If v o → o ≡ Some w → false ≡ is_bare (action_of k)
if_not_bare k v o w is some = sym (ap is_bare (ap action_of is ∙ ap (λ o. action_of (stmt_case.If v o)) some ∙ if_is v (Some w)))

pub repeat_bare : (k : stmt_kind.StmtKind) (course : loop.Loop) (v : Vec stmt.Stmt Global) (ss : List stmt.Stmt) → k ≡ stmt_case.Repeat course v → ss ≡ v.items → (counts (course_of course) && is_empty (map statement_of ss)) ≡ is_bare (action_of k)
repeat_bare k course v ss is e =
    ap (λ ss. counts (course_of course) && is_empty (map statement_of ss)) e ∙ ap (λ ss. counts (course_of course) && is_empty ss) (sym (statement_list_of v.items))
    ∙ sym (ap is_bare (ap action_of is ∙ repeat_is course v))

pub repeat_endless : (k : stmt_kind.StmtKind) (course : loop.Loop) (v : Vec stmt.Stmt Global) (ss ts : List stmt.Stmt) → k ≡ stmt_case.Repeat course v → ss ≡ v.items → ts ≡ v.items
    → (is_forever (course_of course) && (not (is_empty (map statement_of ss)) && not (quit (statements_of ts)))) ≡ is_endless (action_of k)
repeat_endless k course v ss ts is e g =
    ap₂ (λ (ss ts : List stmt.Stmt). is_forever (course_of course) && (not (is_empty (map statement_of ss)) && not (quit (statements_of ts)))) e g
    ∙ ap (λ ss. is_forever (course_of course) && (not (is_empty ss) && not (quit (statements_of v.items)))) (sym (statement_list_of v.items))
    ∙ sym (ap is_endless (ap action_of is ∙ repeat_is course v))

-- ---- QUIT

pub quit_next : (xs : List stmt.Stmt) (i : ℕ) (d : stmt.Stmt) (b : Bool) {c : Bool} → i < length xs → d ≡ get_or xs i d → b ≡ quit (statements_of (take i xs)) → c ≡ (b || quits (statement_of d)) → c ≡ quit (statements_of (take (i + 1) xs))
quit_next xs i d b lt at before now =
    now ∙ ap (λ b. b || quits (statement_of d)) before ∙ ap quit (sym (statements_of-push (take i xs) d))
    ∙ ap (λ ys. quit (statements_of ys)) (sym (take_more xs i d lt ∙ ap (λ x. take i xs ++ x ∷ []) (sym at)))

pub arms_quit_next : (xs : List code_arm.Arm) (i : ℕ) (d : code_arm.Arm) (b : Bool) {c : Bool} → i < length xs → d ≡ get_or xs i d → b ≡ arms_quit (arms_of (take i xs)) → c ≡ (b || arm_quits (arm_of d)) → c ≡ arms_quit (arms_of (take (i + 1) xs))
arms_quit_next xs i d b lt at before now =
    now ∙ ap (λ b. b || arm_quits (arm_of d)) before ∙ ap arms_quit (sym (arms_of-push (take i xs) d))
    ∙ ap (λ ys. arms_quit (arms_of ys)) (sym (take_more xs i d lt ∙ ap (λ x. take i xs ++ x ∷ []) (sym at)))

pub arm_quit : (x : code_arm.Arm) (ss : List stmt.Stmt) → ss ≡ (out-Arm x).body.items → quit (statements_of ss) ≡ arm_quits (arm_of x)
arm_quit x ss e =
    ap (λ ss. quit (statements_of ss)) e
    ∙ ap arm_quits (sym (ap arm_of (sym (roll-out-Arm x)) ∙ arm_is (out-Arm x).tests (out-Arm x).negated (out-Arm x).body))

no_more : (b : Bool) → (b || false) ≡ b
no_more true = refl
no_more false = refl

pub if_quits : (k : stmt_kind.StmtKind) (v : Vec code_arm.Arm Global) (o : Option (Vec stmt.Stmt Global)) (xs : List code_arm.Arm) → k ≡ stmt_case.If v o → xs ≡ v.items → (arms_quit (arms_of xs) || rest_quits (other_body o)) ≡ action_quits (action_of k)
if_quits k v o xs is e = ap (λ xs. arms_quit (arms_of xs) || rest_quits (other_body o)) e ∙ ap action_quits (sym (ap action_of is ∙ if_is v o))

pub if_quits_none : (k : stmt_kind.StmtKind) (v : Vec code_arm.Arm Global) (o : Option (Vec stmt.Stmt Global)) (xs : List code_arm.Arm) → k ≡ stmt_case.If v o → xs ≡ v.items → o ≡ None → arms_quit (arms_of xs) ≡ action_quits (action_of k)
if_quits_none k v o xs is e none = sym (no_more (arms_quit (arms_of xs))) ∙ ap (λ o. arms_quit (arms_of xs) || rest_quits (other_body o)) (sym none) ∙ if_quits k v o xs is e

pub if_quits_some : (k : stmt_kind.StmtKind) (v : Vec code_arm.Arm Global) (o : Option (Vec stmt.Stmt Global)) (w : Vec stmt.Stmt Global) (xs : List code_arm.Arm) (ss : List stmt.Stmt) → k ≡ stmt_case.If v o → xs ≡ v.items → o ≡ Some w → ss ≡ w.items → (arms_quit (arms_of xs) || quit (statements_of ss)) ≡ action_quits (action_of k)
if_quits_some k v o w xs ss is e some g =
    ap (λ ss. arms_quit (arms_of xs) || quit (statements_of ss)) g ∙ ap (λ o. arms_quit (arms_of xs) || rest_quits (other_body o)) (sym some) ∙ if_quits k v o xs is e

pub case_quits : (k : stmt_kind.StmtKind) (x : expr.Expr) (v : Vec code_arm.Arm Global) (o : Option (Vec stmt.Stmt Global)) (xs : List code_arm.Arm) → k ≡ stmt_case.Case x v o → xs ≡ v.items → (arms_quit (arms_of xs) || rest_quits (other_body o)) ≡ action_quits (action_of k)
case_quits k x v o xs is e = ap (λ xs. arms_quit (arms_of xs) || rest_quits (other_body o)) e ∙ ap action_quits (sym (ap action_of is ∙ case_is x v o))

pub case_quits_none : (k : stmt_kind.StmtKind) (x : expr.Expr) (v : Vec code_arm.Arm Global) (o : Option (Vec stmt.Stmt Global)) (xs : List code_arm.Arm) → k ≡ stmt_case.Case x v o → xs ≡ v.items → o ≡ None → arms_quit (arms_of xs) ≡ action_quits (action_of k)
case_quits_none k x v o xs is e none = sym (no_more (arms_quit (arms_of xs))) ∙ ap (λ o. arms_quit (arms_of xs) || rest_quits (other_body o)) (sym none) ∙ case_quits k x v o xs is e

pub case_quits_some : (k : stmt_kind.StmtKind) (x : expr.Expr) (v : Vec code_arm.Arm Global) (o : Option (Vec stmt.Stmt Global)) (w : Vec stmt.Stmt Global) (xs : List code_arm.Arm) (ss : List stmt.Stmt) → k ≡ stmt_case.Case x v o → xs ≡ v.items → o ≡ Some w → ss ≡ w.items → (arms_quit (arms_of xs) || quit (statements_of ss)) ≡ action_quits (action_of k)
case_quits_some k x v o w xs ss is e some g =
    ap (λ ss. arms_quit (arms_of xs) || quit (statements_of ss)) g ∙ ap (λ o. arms_quit (arms_of xs) || rest_quits (other_body o)) (sym some) ∙ case_quits k x v o xs is e

pub repeat_quits : (k : stmt_kind.StmtKind) (course : loop.Loop) (v : Vec stmt.Stmt Global) → k ≡ stmt_case.Repeat course v → false ≡ action_quits (action_of k)
repeat_quits k course v is = ap action_quits (sym (ap action_of is ∙ repeat_is course v))
