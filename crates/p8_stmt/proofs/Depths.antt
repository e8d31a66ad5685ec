-- How much is held: numbers that stop at a limit, one after the other, and the forms as the code has them.
use Rattle.std.proofs.Common.{◌≡◌, ℕ, ◌+◌, ◌-◌, ◌^◌, ◌<◌, ◌≤◌, ◌==◌, ◌&&◌, not, min, max, Bool, true, false, if◌then◌else◌, List, [], ◌∷◌, Option, Some, None, Vec, Box, length, take, get_or, refl, sym, ap, ap₂, ◌∙◌, arith}
use Rattle.std.specs.declared.alloc.Global.{Global}
use Rattle.std.proofs.lemmas.List.{take_more, length-take-le}
use Rattle.std.proofs.lemmas.Bool.Decides.{nat_tests}
use Rattle.p8_tree.specs.declared.places.Place.{Place}
use Rattle.p8_tree.specs.declared.expressions.Expr as expr
use Rattle.p8_tree.specs.declared.expressions.Item as item
use Rattle.p8_tree.specs.declared.expressions.Call as call
use Rattle.p8_tree.specs.declared.expressions.Call.{out-Call}
use Rattle.p8_tree.specs.declared.expressions.ExprKind.TheVariants as kind_case
use Rattle.p8_tree.specs.declared.statements.StmtKind as stmt_kind
use Rattle.p8_tree.specs.declared.statements.StmtKind.TheVariants as stmt_case
use Rattle.p8_tree.specs.declared.statements.Stmt as stmt
use Rattle.p8_tree.specs.declared.statements.Arm as code_arm
use Rattle.p8_tree.specs.declared.statements.Arm.{out-Arm}
use Rattle.p8_tree.specs.declared.statements.Loop as loop
use Rattle.p8_tree.specs.Expressions.{Tree, node, Trees, no_trees, ◌▷◌, Item, Items, no_items, ◌▸◌, single, range}
use Rattle.p8_tree.specs.Statements.{If, Case, Arm, arm, Arms, no_arms, ◌⊳◌}
use Rattle.p8_tree.specs.Views.{tree_of, form_of, call_of, trees_of, trees_after, item_of, items_of, items_after, course_of, action_of, arm_of, arms_of, statements_of}
use Rattle.p8_tree.specs.Bridges.{boxed_index, other_body, strings_is, built_is, look_is, if_is, case_is, repeat_is, trees_of-push, items_of-push, statements_of-push, arms_of-push}
use Rattle.p8_fold.proofs.ValueRows.{call_form}
use Rattle.p8_gen.specs.declared.expressions.BuiltForm.TheVariants as built_form
use Rattle.p8_gen.specs.Names.{Names}
use Rattle.p8_gen.specs.Expressions.{starts_method}
use Rattle.p8_gen.specs.Walking.{IsBuiltForm}
use Rattle.p8_gen.specs.Depths.{over, held, held_by, held_by_index, held_by_trees, held_by_items, held_by_built, held_by_arguments, held_alone, held_by_test, held_by_tests, held_in_loop, held_in, held_in_action, held_in_arms, held_in_cases}
use Rattle.p8_gen.proofs.Rows.{counts}
use Rattle.p8_stmt.specs.Cutting.{cut, held_by_call}
use Rattle.p8_stmt.proofs.Walks.{arm_form}

-- ---- numbers that stop at a limit

pub cut_max : (a b : ℕ) → max (cut a) (cut b) ≡ cut (max a b)
cut_max a b = omega arith

pub cut_sum : (a b : ℕ) → min (cut a + cut b) (2 ^ 16 - 1) ≡ cut (a + b)
cut_sum a b = omega arith

pub cut_one : (a : ℕ) → max (cut a) 1 ≡ cut (max 1 a)
cut_one a = omega arith

pub cut_look : (a b : ℕ) → max (max (cut a) 2) (cut b) ≡ cut (max (max 2 a) b)
cut_look a b = omega arith

pub cut_over : (m k : ℕ) → cut (over (cut m) k) ≡ cut (over m k)
cut_over m k = go (k == 0)
  where
    go : (t : Bool) → cut (if t then 0 else cut m + k) ≡ cut (if t then 0 else m + k)
    go true = refl
    go false = omega arith

none_first : (k : ℕ) → max 0 k ≡ k
none_first k = omega arith

pub none_last : (k : ℕ) → max k 0 ≡ k
none_last k = omega arith

-- ---- one after the other

module _ (n : Names) where
  pub trees_next : (es : List expr.Expr) (i : ℕ) (d : expr.Expr) → i < length es → max (held_by_trees n (trees_of (take i es))) (i + held n (tree_of (get_or es i d))) ≡ held_by_trees n (trees_of (take (i + 1) es))
  trees_next es i d lt =
      ap (λ k. max (held_by_trees n (trees_of (take i es))) (k + held n (tree_of (get_or es i d)))) (sym (counts (take i es) ∙ length-take-le i es (omega (arith, lt))))
      ∙ sym (ap (λ es. held_by_trees n (trees_of es)) (take_more es i d lt) ∙ ap (held_by_trees n) (trees_of-push (take i es) (get_or es i d)))

  items_behind : (xs : Items) (x : Item) → max (held_by_items n xs) (held_by_items n (no_items ▸ x)) ≡ held_by_items n (xs ▸ x)
  items_behind xs (single e) = ap (max (held_by_items n xs)) (none_first _)
  items_behind xs (range a b) = ap (max (held_by_items n xs)) (none_first _)

  pub items_next : (xs : List item.Item) (i : ℕ) (d : item.Item) → i < length xs → max (held_by_items n (items_of (take i xs))) (held_by_items n (no_items ▸ item_of (get_or xs i d))) ≡ held_by_items n (items_of (take (i + 1) xs))
  items_next xs i d lt =
      items_behind (items_of (take i xs)) (item_of (get_or xs i d))
      ∙ sym (ap (λ xs. held_by_items n (items_of xs)) (take_more xs i d lt) ∙ ap (held_by_items n) (items_of-push (take i xs) (get_or xs i d)))

  tests_behind : (xs : Items) (x : Item) → max (held_by_tests n xs) (held_by_tests n (no_items ▸ x)) ≡ held_by_tests n (xs ▸ x)
  tests_behind xs (single e) = ap (max (held_by_tests n xs)) (none_first _)
  tests_behind xs (range a b) = ap (max (held_by_tests n xs)) (none_first _)

  pub tests_next : (xs : List item.Item) (i : ℕ) (d : item.Item) → i < length xs → max (held_by_tests n (items_of (take i xs))) (held_by_tests n (no_items ▸ item_of (get_or xs i d))) ≡ held_by_tests n (items_of (take (i + 1) xs))
  tests_next xs i d lt =
      tests_behind (items_of (take i xs)) (item_of (get_or xs i d))
      ∙ sym (ap (λ xs. held_by_tests n (items_of xs)) (take_more xs i d lt) ∙ ap (held_by_tests n) (items_of-push (take i xs) (get_or xs i d)))

  pub statements_next : (xs : List stmt.Stmt) (i : ℕ) (d : stmt.Stmt) → i < length xs → max (held_in n (statements_of (take i xs))) (held_in_action n (action_of (get_or xs i d).kind)) ≡ held_in n (statements_of (take (i + 1) xs))
  statements_next xs i d lt =
      sym (ap (λ xs. held_in n (statements_of xs)) (take_more xs i d lt) ∙ ap (held_in n) (statements_of-push (take i xs) (get_or xs i d)))

  arms_behind : (xs : Arms) (x : Arm) → max (held_in_arms n xs) (held_in_arms n (no_arms ⊳ x)) ≡ held_in_arms n (xs ⊳ x)
  arms_behind xs (arm items negated ss) = ap (max (held_in_arms n xs)) (none_first _)

  pub arms_next : (xs : List code_arm.Arm) (i : ℕ) (d : code_arm.Arm) → i < length xs → max (held_in_arms n (arms_of (take i xs))) (held_in_arms n (no_arms ⊳ arm_of (get_or xs i d))) ≡ held_in_arms n (arms_of (take (i + 1) xs))
  arms_next xs i d lt =
      arms_behind (arms_of (take i xs)) (arm_of (get_or xs i d))
      ∙ sym (ap (λ xs. held_in_arms n (arms_of xs)) (take_more xs i d lt) ∙ ap (held_in_arms n) (arms_of-push (take i xs) (get_or xs i d)))

  cases_behind : (xs : Arms) (x : Arm) → max (held_in_cases n xs) (held_in_cases n (no_arms ⊳ x)) ≡ held_in_cases n (xs ⊳ x)
  cases_behind xs (arm items negated ss) = ap (max (held_in_cases n xs)) (none_first _)

  pub cases_next : (xs : List code_arm.Arm) (i : ℕ) (d : code_arm.Arm) → i < length xs → max (held_in_cases n (arms_of (take i xs))) (held_in_cases n (no_arms ⊳ arm_of (get_or xs i d))) ≡ held_in_cases n (arms_of (take (i + 1) xs))
  cases_next xs i d lt =
      cases_behind (arms_of (take i xs)) (arm_of (get_or xs i d))
      ∙ sym (ap (λ xs. held_in_cases n (arms_of xs)) (take_more xs i d lt) ∙ ap (held_in_cases n) (arms_of-push (take i xs) (get_or xs i d)))

-- the step of a loop that keeps the most
pub most_next : (a b : ℕ) {most more next : ℕ} → most ≡ cut a → more ≡ cut b → next ≡ max most more → next ≡ cut (max a b)
most_next a b m k is = is ∙ ap₂ max m k ∙ cut_max a b

-- ---- the forms of expressions

module _ (n : Names) where
  pub held_of_call : (x : call.Call) → max 1 (held_by_call n (call_of x)) ≡ held_by n (call_of x)
  held_of_call x = ap (λ f. max 1 (held_by_call n f)) (call_form x) ∙ sym (ap (held_by n) (call_form x))

  pub call_held : (x : call.Call) (es fs : List expr.Expr) → es ≡ (out-Call x).args.items → fs ≡ (out-Call x).args.items →
      max (held_by_trees n (trees_of es)) (over (length fs) (held_by_index n (boxed_index (out-Call x).index))) ≡ held_by_call n (call_of x)
  call_held x es fs e f =
      ap₂ (λ es k. max (held_by_trees n (trees_of es)) (over k (held_by_index n (boxed_index (out-Call x).index)))) e (ap length f ∙ sym (counts (out-Call x).args.items))
      ∙ sym (ap (held_by_call n) (call_form x))

  pub alone_of_call : (place : Place) (x : call.Call) → held_by_call n (call_of x) ≡ held_alone n (node place (call_of x))
  alone_of_call place x = ap (held_by_call n) (call_form x) ∙ sym (ap (λ f. held_alone n (node place f)) (call_form x))

  pub held_of_strings : (v : Vec expr.Expr Global) → 1 ≡ held_by n (form_of (kind_case.Strings v))
  held_of_strings v = sym (ap (held_by n) (strings_is v))

  pub held_of_built : (c : ℕ) (v : Vec expr.Expr Global) → max 1 (held_by_built n c (trees_of v.items)) ≡ held_by n (form_of (kind_case.Built c v))
  held_of_built c v = sym (ap (held_by n) (built_is c v))

  pub alone_of_built : (place : Place) (c : ℕ) (v : Vec expr.Expr Global) → held_by_built n c (trees_of v.items) ≡ held_alone n (node place (form_of (kind_case.Built c v)))
  alone_of_built place c v = sym (ap (λ f. held_alone n (node place f)) (built_is c v))

  pub held_of_look : (c : ℕ) (b : Box expr.Expr Global) (v : Vec item.Item Global) → max (max 2 (held n (tree_of b.value))) (held_by_items n (items_of v.items)) ≡ held_by n (form_of (kind_case.Look c b v))
  held_of_look c b v = sym (ap (held_by n) (look_is c b v))

  -- ---- built-ins, by their forms

  pub built_constant : (code : ℕ) (es : List expr.Expr) → IsBuiltForm built_form.Constant code (length es) → held_by_built n code (trees_of es) ≡ 1
  built_constant code [] is = absurd cc
  built_constant code (e ∷ []) is = ap (λ k. held_by_built n k (trees_of (e ∷ []))) is.1
  built_constant code (e ∷ f ∷ es) is = absurd cc

  four_or_more : (code : ℕ) (es : Trees) (a b c d : Tree) (xs : List expr.Expr) → held_by_trees n (trees_after ((((es ▷ a) ▷ b) ▷ c) ▷ d) xs) ≡ held_by_built n code (trees_after ((((es ▷ a) ▷ b) ▷ c) ▷ d) xs)
  four_or_more code es a b c d [] = refl
  four_or_more code es a b c d (x ∷ xs) = four_or_more code (es ▷ a) b c d (tree_of x) xs

  differs : (a b : ℕ) → ¬ (a ≡ b) → (a == b) ≡ false
  differs a b ne = grind (arith, nat_tests)

  unless : (t : Bool) (a b : ℕ) → t ≡ false → b ≡ (if t then a else b)
  unless false a b f = refl
  unless true a b f = absurd cc

  unless_not : (t : Bool) (a b : ℕ) → t ≡ false → a ≡ (if not t then a else b)
  unless_not false a b f = refl
  unless_not true a b f = absurd cc

  unless_both : (t u : Bool) (a b : ℕ) → t ≡ false → b ≡ (if t && u then a else b)
  unless_both false u a b f = refl
  unless_both true u a b f = absurd cc

  three : (x y z : ℕ) → max (max (max 0 (0 + x)) (1 + y)) (2 + z) ≡ max x (max (1 + y) (2 + z))
  three x y z = omega arith

  one : (x : ℕ) → max 0 (0 + x) ≡ x
  one x = omega arith

  two : (x y : ℕ) → max (max 0 (0 + x)) (1 + y) ≡ max x (1 + y)
  two x y = omega arith

  pub built_plain : (code : ℕ) (es : List expr.Expr) → IsBuiltForm built_form.Plain code (length es) → held_by_trees n (trees_of es) ≡ held_by_built n code (trees_of es)
  built_plain code [] plain = absurd (plain.0 refl)
  built_plain code (e ∷ []) plain = one (held n (tree_of e)) ∙ unless (code == 0) 1 (held n (tree_of e)) (differs code 0 (λ same. plain.1 (refl, same)))
  built_plain code (e ∷ f ∷ []) plain = two (held n (tree_of e)) (held n (tree_of f)) ∙ unless_not (code == 0x2C) _ _ (differs code 0x2C (λ same. plain.2 (refl, same)))
  built_plain code (e ∷ f ∷ g ∷ []) plain = three (held n (tree_of e)) (held n (tree_of f)) (held n (tree_of g)) ∙ unless_both (code == 0x28) (starts_method n (tree_of f)) _ _ (differs code 0x28 (λ same. plain.3 (refl, same)))
  built_plain code (e ∷ f ∷ g ∷ h ∷ es) plain = four_or_more code no_trees (tree_of e) (tree_of f) (tree_of g) (tree_of h) es

  pub arguments_of_call : (x : call.Call) (place : Place) → held_by_trees n (trees_of (out-Call x).args.items) ≡ held_by_arguments n (node place (call_of x))
  arguments_of_call x place = sym (ap (λ f. held_by_arguments n (node place f)) (call_form x))

-- ---- the forms of statements

pub no_one_test : (n : Names) (xs : List item.Item) → 2 ≤ length xs → 0 ≡ held_by_test n (items_of xs)
no_one_test n [] many = absurd (omega arith)
no_one_test n (x ∷ []) many = absurd (omega arith)
no_one_test n (x ∷ y ∷ xs) many = go no_items (item_of x) (item_of y) xs
  where
    go : (before : Items) (a b : Item) (xs : List item.Item) → 0 ≡ held_by_test n (items_after ((before ▸ a) ▸ b) xs)
    go before a b [] = refl
    go before a b (z ∷ zs) = go (before ▸ a) b (item_of z) zs

module _ (n : Names) where
  pub if_none : (k : stmt_kind.StmtKind) (v : Vec code_arm.Arm Global) (o : Option (Vec stmt.Stmt Global)) → k ≡ stmt_case.If v o → o ≡ None → held_in_arms n (arms_of v.items) ≡ held_in_action n (action_of k)
  if_none k v o is none =
      sym (none_last _) ∙ ap (λ o. held_in_action n (If (arms_of v.items) (other_body o))) (sym none) ∙ sym (ap (held_in_action n) (ap action_of is ∙ if_is v o))

  pub if_some : (k : stmt_kind.StmtKind) (v : Vec code_arm.Arm Global) (o : Option (Vec stmt.Stmt Global)) (u : Vec stmt.Stmt Global) → k ≡ stmt_case.If v o → o ≡ Some u → max (held_in_arms n (arms_of v.items)) (held_in n (statements_of u.items)) ≡ held_in_action n (action_of k)
  if_some k v o u is some =
      ap (λ o. held_in_action n (If (arms_of v.items) (other_body o))) (sym some) ∙ sym (ap (held_in_action n) (ap action_of is ∙ if_is v o))

  around : (a b c : ℕ) → max (max a b) c ≡ max a (max b c)
  around a b c = omega arith

  pub case_none : (k : stmt_kind.StmtKind) (x : expr.Expr) (v : Vec code_arm.Arm Global) (o : Option (Vec stmt.Stmt Global)) → k ≡ stmt_case.Case x v o → o ≡ None → max (held n (tree_of x)) (held_in_cases n (arms_of v.items)) ≡ held_in_action n (action_of k)
  case_none k x v o is none =
      ap (max (held n (tree_of x))) (sym (none_last _)) ∙ ap (λ o. held_in_action n (Case (tree_of x) (arms_of v.items) (other_body o))) (sym none)
      ∙ sym (ap (held_in_action n) (ap action_of is ∙ case_is x v o))

  pub case_some : (k : stmt_kind.StmtKind) (x : expr.Expr) (v : Vec code_arm.Arm Global) (o : Option (Vec stmt.Stmt Global)) (u : Vec stmt.Stmt Global) → k ≡ stmt_case.Case x v o → o ≡ Some u → max (max (held n (tree_of x)) (held_in_cases n (arms_of v.items))) (held_in n (statements_of u.items)) ≡ held_in_action n (action_of k)
  case_some k x v o u is some =
      around _ _ _ ∙ ap (λ o. held_in_action n (Case (tree_of x) (arms_of v.items) (other_body o))) (sym some)
      ∙ sym (ap (held_in_action n) (ap action_of is ∙ case_is x v o))

  pub repeat_form : (k : stmt_kind.StmtKind) (course : loop.Loop) (v : Vec stmt.Stmt Global) → k ≡ stmt_case.Repeat course v → held_in_loop n (course_of course) (held_in n (statements_of v.items)) ≡ held_in_action n (action_of k)
  repeat_form k course v is = sym (ap (held_in_action n) (ap action_of is ∙ repeat_is course v))

  pub arm_held : (x : code_arm.Arm) → max (held_by_test n (items_of (out-Arm x).tests)) (held_in n (statements_of (out-Arm x).body.items)) ≡ held_in_arms n (no_arms ⊳ arm_of x)
  arm_held x = sym (ap (λ a. held_in_arms n (no_arms ⊳ a)) (arm_form x) ∙ none_first _)

  pub case_held : (x : code_arm.Arm) → max (held_by_tests n (items_of (out-Arm x).tests)) (held_in n (statements_of (out-Arm x).body.items)) ≡ held_in_cases n (no_arms ⊳ arm_of x)
  case_held x = sym (ap (λ a. held_in_cases n (no_arms ⊳ a)) (arm_form x) ∙ none_first _)
