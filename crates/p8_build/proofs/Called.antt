-- The first call with another number of arguments, as the code finds it: one after the other, and of forms by their parts.
use Rattle.std.proofs.Common.{◌≡◌, ℕ, ◌+◌, ◌<◌, List, [], ◌∷◌, length, take, get_or, Option, Some, None, Vec, refl, sym, ap, ap₂, ◌∙◌, arith}
use Rattle.std.specs.declared.alloc.Global.{Global}
use Rattle.std.specs.Map.{lookup}
use Rattle.std.specs.Option.{option_or}
use Rattle.std.specs.Str.{bytes_eq}
use Rattle.std.proofs.lemmas.List.{take_more}
use Rattle.p8_tree.specs.declared.expressions.Expr as expr
use Rattle.p8_tree.specs.declared.expressions.Item as item
use Rattle.p8_tree.specs.declared.statements.Stmt as stmt
use Rattle.p8_tree.specs.declared.statements.Arm as code_arm
use Rattle.p8_tree.specs.declared.statements.Arm.{out-Arm, roll-out-Arm}
use Rattle.p8_tree.specs.declared.statements.StmtKind as stmt_kind
use Rattle.p8_tree.specs.declared.statements.StmtKind.TheVariants as stmt_case
use Rattle.p8_tree.specs.declared.statements.Loop as loop
use Rattle.p8_tree.specs.Views.{tree_of, trees_of, item_of, items_of, course_of, action_of, statement_of, statements_of, arm_of, arms_of}
use Rattle.p8_tree.specs.Bridges.{trees_of-push, items_of-push, statements_of-push, arms_of-push, other_body, arm_is, if_is, case_is, repeat_is}
use Rattle.p8_constants.specs.FileItems as file
use Rattle.p8_kinds.specs.declared.children.Child.{Child}
use Rattle.p8_names.specs.Settings.{with_children}
use Rattle.p8_build.specs.declared.sizes.Size.{Size}
use Rattle.p8_build.specs.Arguments.{Search, told_in, in_item, in_trees, in_items, in_course, in_statements, in_statement, in_action, in_arm, in_otherwise, in_arms}

-- where no more is seen of objects' files
pub no_children : (xs : List file.Item) → with_children xs [] ≡ []
no_children [] = refl
no_children (file.constant x ∷ xs) = no_children xs
no_children (file.variable x ∷ xs) = no_children xs
no_children (file.object x ∷ xs) = no_children xs
no_children (file.method x ∷ xs) = no_children xs
no_children (file.line x ∷ xs) = no_children xs

pub no_child : (name : List ℕ) (xs : List file.Item) (left : List Child) {o : Option Child} → length left < 1 → lookup (bytes_eq name) (with_children xs left) ≡ o → None ≡ o
no_child name xs [] l h = sym (ap (lookup (bytes_eq name)) (no_children xs)) ∙ h
no_child name xs (c ∷ cs) l h = absurd (omega arith)

pub no_further : (o : Option Size) → o ≡ option_or o None
no_further None = refl
no_further (Some size) = refl

module _ (s : Search) where
  pub trees_next : (xs : List expr.Expr) (i : ℕ) (d : expr.Expr) → i < length xs → option_or (in_trees s (trees_of (take i xs))) (told_in s (tree_of (get_or xs i d))) ≡ in_trees s (trees_of (take (i + 1) xs))
  trees_next xs i d lt =
      sym (ap (λ es. in_trees s (trees_of es)) (take_more xs i d lt) ∙ ap (in_trees s) (trees_of-push (take i xs) (get_or xs i d)))

  pub items_next : (xs : List item.Item) (i : ℕ) (d : item.Item) → i < length xs → option_or (in_items s (items_of (take i xs))) (in_item s (item_of (get_or xs i d))) ≡ in_items s (items_of (take (i + 1) xs))
  items_next xs i d lt =
      sym (ap (λ es. in_items s (items_of es)) (take_more xs i d lt) ∙ ap (in_items s) (items_of-push (take i xs) (get_or xs i d)))

  pub statements_next : (xs : List stmt.Stmt) (i : ℕ) (d : stmt.Stmt) → i < length xs → option_or (in_statements s (statements_of (take i xs))) (in_statement s (statement_of (get_or xs i d))) ≡ in_statements s (statements_of (take (i + 1) xs))
  statements_next xs i d lt =
      sym (ap (λ ss. in_statements s (statements_of ss)) (take_more xs i d lt) ∙ ap (in_statements s) (statements_of-push (take i xs) (get_or xs i d)))

  pub arms_next : (xs : List code_arm.Arm) (i : ℕ) (d : code_arm.Arm) → i < length xs → option_or (in_arms s (arms_of (take i xs))) (in_arm s (arm_of (get_or xs i d))) ≡ in_arms s (arms_of (take (i + 1) xs))
  arms_next xs i d lt =
      sym (ap (λ xs. in_arms s (arms_of xs)) (take_more xs i d lt) ∙ ap (in_arms s) (arms_of-push (take i xs) (get_or xs i d)))

  pub no_rest : (o : Option (Vec stmt.Stmt Global)) → o ≡ None → None ≡ in_otherwise s (other_body o)
  no_rest o is = ap (λ o. in_otherwise s (other_body o)) (sym is)

  pub some_rest : (o : Option (Vec stmt.Stmt Global)) (v : Vec stmt.Stmt Global) (ss : List stmt.Stmt) {b : Option Size} → o ≡ Some v → ss ≡ v.items → b ≡ in_statements s (statements_of ss) → b ≡ in_otherwise s (other_body o)
  some_rest o v ss is e h = h ∙ ap (λ ss. in_statements s (statements_of ss)) e ∙ ap (λ o. in_otherwise s (other_body o)) (sym is)

  pub if_first : (k : stmt_kind.StmtKind) (v : Vec code_arm.Arm Global) (o : Option (Vec stmt.Stmt Global)) (xs : List code_arm.Arm) {a b r : Option Size} → k ≡ stmt_case.If v o → xs ≡ v.items
      → a ≡ in_arms s (arms_of xs) → b ≡ in_otherwise s (other_body o) → r ≡ option_or a b → r ≡ in_action s (action_of k)
  if_first k v o xs is e at rest h =
      h ∙ ap₂ option_or (at ∙ ap (λ xs. in_arms s (arms_of xs)) e) rest ∙ ap (in_action s) (sym (ap action_of is ∙ if_is v o))

  pub case_first : (k : stmt_kind.StmtKind) (x : expr.Expr) (v : Vec code_arm.Arm Global) (o : Option (Vec stmt.Stmt Global)) (xs : List code_arm.Arm) {a b c r : Option Size} → k ≡ stmt_case.Case x v o → xs ≡ v.items
      → a ≡ told_in s (tree_of x) → b ≡ in_arms s (arms_of xs) → c ≡ in_otherwise s (other_body o) → r ≡ option_or (option_or a b) c → r ≡ in_action s (action_of k)
  case_first k x v o xs is e value at rest h =
      h ∙ ap₂ option_or (ap₂ option_or value (at ∙ ap (λ xs. in_arms s (arms_of xs)) e)) rest ∙ ap (in_action s) (sym (ap action_of is ∙ case_is x v o))

  pub repeat_first : (k : stmt_kind.StmtKind) (course : loop.Loop) (v : Vec stmt.Stmt Global) (ss : List stmt.Stmt) {a b r : Option Size} → k ≡ stmt_case.Repeat course v → ss ≡ v.items
      → a ≡ in_course s (course_of course) → b ≡ in_statements s (statements_of ss) → r ≡ option_or a b → r ≡ in_action s (action_of k)
  repeat_first k course v ss is e at body h =
      h ∙ ap₂ option_or at (body ∙ ap (λ ss. in_statements s (statements_of ss)) e) ∙ ap (in_action s) (sym (ap action_of is ∙ repeat_is course v))

  pub arm_first : (x : code_arm.Arm) (ts : List item.Item) (ss : List stmt.Stmt) {a b r : Option Size} → ts ≡ (out-Arm x).tests → ss ≡ (out-Arm x).body.items
      → a ≡ in_items s (items_of ts) → b ≡ in_statements s (statements_of ss) → r ≡ option_or a b → r ≡ in_arm s (arm_of x)
  arm_first x ts ss e g tests body h =
      h ∙ ap₂ option_or (tests ∙ ap (λ ts. in_items s (items_of ts)) e) (body ∙ ap (λ ss. in_statements s (statements_of ss)) g)
      ∙ ap (in_arm s) (sym (ap arm_of (sym (roll-out-Arm x)) ∙ arm_is (out-Arm x).tests (out-Arm x).negated (out-Arm x).body))
