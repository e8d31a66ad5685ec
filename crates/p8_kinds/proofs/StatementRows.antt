-- Statements as the code has them: the first fault of a form by those of its parts.
use Rattle.std.proofs.Common.{◌≡◌, ℕ, ◌+◌, ◌<◌, List, length, take, get_or, Option, Some, None, Vec, refl, sym, ap, ap₂, ◌∙◌}
use Rattle.std.specs.declared.alloc.Global.{Global}
use Rattle.std.proofs.lemmas.List.{take_more}
use Rattle.p8_tree.specs.declared.places.Place.{Place}
use Rattle.p8_tree.specs.declared.expressions.ExprKind as kind
use Rattle.p8_tree.specs.declared.expressions.Call as call
use Rattle.p8_tree.specs.declared.expressions.Target as target
use Rattle.p8_tree.specs.declared.expressions.Expr as expr
use Rattle.p8_tree.specs.declared.expressions.Item as item
use Rattle.p8_tree.specs.declared.statements.StmtKind as stmt_kind
use Rattle.p8_tree.specs.declared.statements.StmtKind.TheVariants as stmt_case
use Rattle.p8_tree.specs.declared.statements.Stmt as stmt
use Rattle.p8_tree.specs.declared.statements.Arm as code_arm
use Rattle.p8_tree.specs.declared.statements.Arm.{out-Arm, roll-out-Arm}
use Rattle.p8_tree.specs.declared.statements.Loop as loop
use Rattle.p8_tree.specs.Expressions.{node}
use Rattle.p8_tree.specs.Views.{form_of, tree_of, items_of, course_of, action_of, arm_of, statement_of, statements_of, arms_of}
use Rattle.p8_tree.specs.Bridges.{other_body, arm_is, if_is, case_is, repeat_is, statements_of-push, arms_of-push}
use Rattle.p8_tree.specs.declared.faults.Fault.{Fault}
use Rattle.p8_tree.specs.Faults.{first_of_two}
use Rattle.p8_kinds.specs.Environments.{Environment}
use Rattle.p8_kinds.specs.Misuses.{in_method, name_alone}
use Rattle.p8_kinds.specs.FirstMisuses.{first_in, first_in_items, first_in_course, first_in_statements, first_in_statement, first_in_action, first_in_arm, first_in_otherwise, first_in_arms}

-- an expression that is no variable is no name alone
pub not_alone : (p : Place) (k : kind.ExprKind) → ((v : target.Target) → ¬ (k ≡ kind.Var v)) → name_alone (node p (form_of k)) ≡ None
not_alone p (kind.Var v) h = absurd (h v refl)
not_alone p (kind.Call (call.Call' trap object i name place shape row)) h = refl
not_alone p (kind.Number n) h = refl
not_alone p (kind.Str text) h = refl
not_alone p (kind.Strings' shape row) h = refl
not_alone p kind.Here h = refl
not_alone p (kind.Unary' operator b place e) h = refl
not_alone p (kind.Binary' operator b q x c r y) h = refl
not_alone p (kind.Assign' v operator b place e) h = refl
not_alone p (kind.Change v effect) h = refl
not_alone p (kind.Address v) h = refl
not_alone p (kind.ObjectAddress' b place e) h = refl
not_alone p (kind.ObjConst object name place) h = refl
not_alone p (kind.Built' code shape row) h = refl
not_alone p (kind.Look' code b place e shape row) h = refl

pub no_further : (o : Option Fault) → o ≡ first_of_two o None
no_further None = refl
no_further (Some f) = refl

module _ (env : Environment) where
  pub statements_next : (xs : List stmt.Stmt) (i : ℕ) (d : stmt.Stmt) → i < length xs → first_of_two (first_in_statements env (statements_of (take i xs))) (first_in_statement env (statement_of (get_or xs i d))) ≡ first_in_statements env (statements_of (take (i + 1) xs))
  statements_next xs i d lt =
      sym (ap (λ ss. first_in_statements env (statements_of ss)) (take_more xs i d lt) ∙ ap (first_in_statements env) (statements_of-push (take i xs) (get_or xs i d)))

  pub arms_next : (xs : List code_arm.Arm) (i : ℕ) (d : code_arm.Arm) → i < length xs → first_of_two (first_in_arms env (arms_of (take i xs))) (first_in_arm env (arm_of (get_or xs i d))) ≡ first_in_arms env (arms_of (take (i + 1) xs))
  arms_next xs i d lt =
      sym (ap (λ xs. first_in_arms env (arms_of xs)) (take_more xs i d lt) ∙ ap (first_in_arms env) (arms_of-push (take i xs) (get_or xs i d)))

  pub no_rest : (o : Option (Vec stmt.Stmt Global)) → o ≡ None → None ≡ first_in_otherwise env (other_body o)
  no_rest o is = ap (λ o. first_in_otherwise env (other_body o)) (sym is)

  pub some_rest : (o : Option (Vec stmt.Stmt Global)) (v : Vec stmt.Stmt Global) (ss : List stmt.Stmt) {b : Option Fault} → o ≡ Some v → ss ≡ v.items → b ≡ first_in_statements env (statements_of ss) → b ≡ first_in_otherwise env (other_body o)
  some_rest o v ss is e h = h ∙ ap (λ ss. first_in_statements env (statements_of ss)) e ∙ ap (λ o. first_in_otherwise env (other_body o)) (sym is)

  pub if_first : (k : stmt_kind.StmtKind) (v : Vec code_arm.Arm Global) (o : Option (Vec stmt.Stmt Global)) (xs : List code_arm.Arm) {a b r : Option Fault} → k ≡ stmt_case.If v o → xs ≡ v.items
      → a ≡ first_in_arms env (arms_of xs) → b ≡ first_in_otherwise env (other_body o) → r ≡ first_of_two a b → r ≡ first_in_action env (action_of k)
  if_first k v o xs is e at rest h =
      h ∙ ap₂ first_of_two (at ∙ ap (λ xs. first_in_arms env (arms_of xs)) e) rest ∙ ap (first_in_action env) (sym (ap action_of is ∙ if_is v o))

  pub case_first : (k : stmt_kind.StmtKind) (x : expr.Expr) (v : Vec code_arm.Arm Global) (o : Option (Vec stmt.Stmt Global)) (xs : List code_arm.Arm) {a b c r : Option Fault} → k ≡ stmt_case.Case x v o → xs ≡ v.items
      → a ≡ first_in (in_method env) (tree_of x) → b ≡ first_in_arms env (arms_of xs) → c ≡ first_in_otherwise env (other_body o) → r ≡ first_of_two (first_of_two a b) c → r ≡ first_in_action env (action_of k)
  case_first k x v o xs is e value at rest h =
      h ∙ ap₂ first_of_two (ap₂ first_of_two value (at ∙ ap (λ xs. first_in_arms env (arms_of xs)) e)) rest ∙ ap (first_in_action env) (sym (ap action_of is ∙ case_is x v o))

  pub repeat_first : (k : stmt_kind.StmtKind) (course : loop.Loop) (v : Vec stmt.Stmt Global) (ss : List stmt.Stmt) {a b r : Option Fault} → k ≡ stmt_case.Repeat course v → ss ≡ v.items
      → a ≡ first_in_course env (course_of course) → b ≡ first_in_statements env (statements_of ss) → r ≡ first_of_two a b → r ≡ first_in_action env (action_of k)
  repeat_first k course v ss is e at body h =
      h ∙ ap₂ first_of_two at (body ∙ ap (λ ss. first_in_statements env (statements_of ss)) e) ∙ ap (first_in_action env) (sym (ap action_of is ∙ repeat_is course v))

  pub arm_first : (x : code_arm.Arm) (ts : List item.Item) (ss : List stmt.Stmt) {a b r : Option Fault} → ts ≡ (out-Arm x).tests → ss ≡ (out-Arm x).body.items
      → a ≡ first_in_items (in_method env) (items_of ts) → b ≡ first_in_statements env (statements_of ss) → r ≡ first_of_two a b → r ≡ first_in_arm env (arm_of x)
  arm_first x ts ss e g tests body h =
      h ∙ ap₂ first_of_two (tests ∙ ap (λ ts. first_in_items (in_method env) (items_of ts)) e) (body ∙ ap (λ ss. first_in_statements env (statements_of ss)) g)
      ∙ ap (first_in_arm env) (sym (ap arm_of (sym (roll-out-Arm x)) ∙ arm_is (out-Arm x).tests (out-Arm x).negated (out-Arm x).body))
