-- Folded statements as the code has them.
use Rattle.std.proofs.Common.{◌≡◌, refl, sym, ap, ap₂, ◌∙◌, subst, ℕ, ◌+◌, ◌<◌, Bool, true, Option, None, Some, List, length, take, get_or, ◌++◌, ◌∷◌, [], Result, OnOk, Vec, option_map}
use Rattle.std.proofs.lemmas.List.{take_more}
use Rattle.std.specs.declared.alloc.Global.{Global}
use Rattle.std.specs.declared.alloc.AllocError.{AllocError}
use Rattle.p8_tree.specs.declared.places.Place.{Place}
use Rattle.p8_tree.specs.declared.expressions.ExprKind as kind
use Rattle.p8_tree.specs.declared.expressions.ExprKind.TheVariants as kind_case
use Rattle.p8_tree.specs.declared.expressions.Call as call
use Rattle.p8_tree.specs.declared.expressions.Item as item
use Rattle.p8_tree.specs.declared.expressions.Expr as expr
use Rattle.p8_tree.specs.declared.statements.Stmt as stmt
use Rattle.p8_tree.specs.declared.statements.Stmt.{roll-Stmt}
use Rattle.p8_tree.specs.declared.statements.StmtKind as stmt_kind
use Rattle.p8_tree.specs.declared.statements.StmtKind.TheVariants as stmt_case
use Rattle.p8_tree.specs.declared.statements.Arm as code_arm
use Rattle.p8_tree.specs.declared.statements.Arm.{out-Arm, roll-Arm, roll-out-Arm}
use Rattle.p8_tree.specs.declared.statements.Loop as code_loop
use Rattle.p8_tree.specs.Expressions.{Tree, node, Item, Items, no_items, ◌▸◌}
use Rattle.p8_tree.specs.Statements.{Course, statement, If, Case, Arm, arm, Arms, no_arms, ◌⊳◌, Otherwise, nothing_else, otherwise, Statements, no_statements, ◌▹◌}
use Rattle.p8_tree.specs.Views.{tree_of, form_of, item_of, items_of, items_after, course_of, action_of, arm_of, arms_of, arms_after, statement_of, statements_of, statements_after}
use Rattle.p8_tree.specs.Bridges.{other_body, arm_is, if_is, case_is, repeat_is, stmt_is, statements_of-push, arms_of-push}
use Rattle.p8_meaning.specs.Constants.{Constants}
use Rattle.p8_meaning.specs.Folding.{number_in, NoTest, Going, Ended, Known, Condition, Chain, condition, with_arm, whole_chain, chain, one, loop, kept, joined, folded, folded_items, folded_course, folded_statement, folded_action, folded_body, folded_chain, folded_arms, folded_other}
use Rattle.p8_meaning.specs.Copies.{folded_arm}

-- ---- numbers and conditions

pub no-number : (p : Place) (k : kind.ExprKind) → ((n : ℕ) → ¬ (k ≡ kind_case.Number n)) → None ≡ number_in (node p (form_of k))
no-number p (kind.Number n) h = absurd (h n refl)
no-number p (kind.Call (call.Call' stops object i method at shape row)) h = refl
no-number p _ h = refl

-- two items or more, by the last two
data Several : Items → Type 0 where
  several : (xs : Items) (x y : Item) → Several ((xs ▸ x) ▸ y)

several-after : (xs : Items) (x y : Item) (rest : List item.Item) → Several (items_after ((xs ▸ x) ▸ y) rest)
several-after xs x y [] = several xs x y
several-after xs x y (z ∷ rest) = several-after (xs ▸ x) y (item_of z) rest

no-test-of : {xs : Items} (c : Constants) (negated : Bool) → Several xs → NoTest ≡ condition c negated xs
no-test-of c negated (several xs x y) = refl

pub no-test : (c : Constants) (negated : Bool) (xs : List item.Item) → ¬ (length xs ≡ 1) → NoTest ≡ condition c negated (items_of xs)
no-test c negated [] h = refl
no-test c negated (x ∷ []) h = absurd (h refl)
no-test c negated (x ∷ y ∷ xs) h = no-test-of c negated (several-after no_items (item_of x) (item_of y) xs)

-- ---- arms

pub arm-form : (x : code_arm.Arm) → arm_of x ≡ arm (items_of (out-Arm x).tests) (out-Arm x).negated (statements_of (out-Arm x).body.items)
arm-form x = ap arm_of (sym (roll-out-Arm x)) ∙ arm_is (out-Arm x).tests (out-Arm x).negated (out-Arm x).body

pub arms-pushed : (xs ys : List code_arm.Arm) (x : code_arm.Arm) → ys ≡ xs ++ x ∷ [] → arms_of ys ≡ arms_of xs ⊳ arm_of x
arms-pushed xs ys x h = ap arms_of h ∙ arms_of-push xs x

pub chosen-is : (arms : Arms) (x : code_arm.Arm) → Ended arms (statements_of (out-Arm x).body.items) ≡ with_arm (Going arms) (Known true) (arm_of x)
chosen-is arms x = ap (with_arm (Going arms) (Known true)) (sym (arm-form x))

pub arm-folded : (c : Constants) (x : code_arm.Arm) (tests from : List item.Item) (v : Vec stmt.Stmt Global) (ss : List stmt.Stmt)
    → items_of tests ≡ folded_items c (items_of from) → from ≡ (out-Arm x).tests → statements_of v.items ≡ folded_body c (statements_of ss) → ss ≡ (out-Arm x).body.items
    → arm_of (roll-Arm (record { tests = tests; negated = (out-Arm x).negated; body = v })) ≡ folded_arm c (arm_of x)
arm-folded c x tests from v ss a b d e =
    arm_is tests (out-Arm x).negated v
    ∙ ap₂ (λ xs ss. arm xs (out-Arm x).negated ss) (a ∙ ap (λ xs. folded_items c (items_of xs)) b) (d ∙ ap (λ ss. folded_body c (statements_of ss)) e)
    ∙ ap (folded_arm c) (sym (arm-form x))

-- ---- statements after others

pub statements-pushed : (xs ys : List stmt.Stmt) (s : stmt.Stmt) → ys ≡ xs ++ s ∷ [] → statements_of ys ≡ statements_of xs ▹ statement_of s
statements-pushed xs ys s h = ap statements_of h ∙ statements_of-push xs s

after-both : (before : Statements) (xs ys : List stmt.Stmt) → statements_after before (xs ++ ys) ≡ statements_after (statements_after before xs) ys
after-both before [] ys = refl
after-both before (x ∷ xs) ys = after-both (before ▹ statement_of x) xs ys

after-joined : (first before : Statements) (ys : List stmt.Stmt) → statements_after (joined first before) ys ≡ joined first (statements_after before ys)
after-joined first before [] = refl
after-joined first before (y ∷ ys) = after-joined first (before ▹ statement_of y) ys

pub appended : (xs ys all : List stmt.Stmt) → all ≡ xs ++ ys → statements_of all ≡ joined (statements_of xs) (statements_of ys)
appended xs ys all h = ap statements_of h ∙ after-both no_statements xs ys ∙ after-joined (statements_of xs) no_statements ys

pub pushed : (xs ys : List stmt.Stmt) (place : Place) (k : stmt_kind.StmtKind) → ys ≡ xs ++ roll-Stmt (record { place = place; kind = k }) ∷ [] → statements_of ys ≡ statements_of xs ▹ statement place (action_of k)
pushed xs ys place k h = statements-pushed xs ys (roll-Stmt (record { place = place; kind = k })) h ∙ ap (λ s. statements_of xs ▹ s) (stmt_is place k)

-- the same outcome, in other words
pub done-as : (r : Result (Unit {0}) AllocError) (x a b : Statements) → a ≡ b → OnOk r (x ≡ a) → OnOk r (x ≡ b)
done-as r x a b e h = subst (λ a. OnOk r (x ≡ a)) e h

-- ---- forms that hold arms or a body

whole-after : (place : Place) (other : Otherwise) (arms : Arms) (x : Arm) (rest : List code_arm.Arm)
    → one place (If (arms_after (arms ⊳ x) rest) other) ≡ whole_chain place (arms_after (arms ⊳ x) rest) other
whole-after place other arms x [] = refl
whole-after place other arms x (y ∷ rest) = whole-after place other (arms ⊳ x) (arm_of y) rest

whole-is : (place : Place) (other : Otherwise) (xs : List code_arm.Arm) → ¬ (length xs ≡ 0) → one place (If (arms_of xs) other) ≡ whole_chain place (arms_of xs) other
whole-is place other [] h = absurd (h refl)
whole-is place other (x ∷ xs) h = whole-after place other no_arms (arm_of x) xs

pub arms-put : (before : Statements) (place : Place) (v : Vec code_arm.Arm Global) (o : Option (Vec stmt.Stmt Global)) (xs : List code_arm.Arm) → xs ≡ v.items → ¬ (length xs ≡ 0)
    → before ▹ statement place (action_of (stmt_case.If v o)) ≡ joined before (whole_chain place (arms_of v.items) (other_body o))
arms-put before place v o xs e h =
    ap (λ a. before ▹ statement place a) (if_is v o) ∙ ap (joined before) (whole-is place (other_body o) v.items (subst (λ xs. ¬ (length xs ≡ 0)) e h))

pub case-put : (before : Statements) (place : Place) (e : expr.Expr) (v : Vec code_arm.Arm Global) (o : Option (Vec stmt.Stmt Global)) (t : Tree) → tree_of e ≡ t
    → before ▹ statement place (action_of (stmt_case.Case e v o)) ≡ before ▹ statement place (Case t (arms_of v.items) (other_body o))
case-put before place e v o t h = ap (λ a. before ▹ statement place a) (case_is e v o) ∙ ap (λ t. before ▹ statement place (Case t (arms_of v.items) (other_body o))) h

pub loop-put : (before : Statements) (place : Place) (o : Option code_loop.Loop) (course : code_loop.Loop) (v : Vec stmt.Stmt Global) (left : Option Course) → option_map course_of o ≡ left → o ≡ Some course
    → before ▹ statement place (action_of (stmt_case.Repeat course v)) ≡ joined before (loop place left (statements_of v.items))
loop-put before place o course v left h is =
    ap (λ a. before ▹ statement place a) (repeat_is course v) ∙ ap (λ left. joined before (loop place left (statements_of v.items))) (ap (option_map course_of) (sym is) ∙ h)

module _ (c : Constants) where
  -- ---- one more at the end

  pub body-next : (xs : List stmt.Stmt) (i : ℕ) (d : stmt.Stmt) (before after : Statements) → i < length xs
      → before ≡ folded_body c (statements_of (take i xs)) → d ≡ get_or xs i d → after ≡ joined before (folded_statement c (statement_of d)) → after ≡ folded_body c (statements_of (take (i + 1) xs))
  body-next xs i d before after lt h is e =
      e ∙ ap₂ (λ ss s. joined ss (folded_statement c (statement_of s))) h is
      ∙ sym (ap (λ ss. folded_body c (statements_of ss)) (take_more xs i d lt) ∙ ap (folded_body c) (statements_of-push (take i xs) (get_or xs i d)))

  arms-more : (arms : Arms) (x : Arm) → folded_arms c (arms ⊳ x) ≡ folded_arms c arms ⊳ folded_arm c x
  arms-more arms (arm tests negated body) = refl

  pub arms-next : (xs : List code_arm.Arm) (i : ℕ) (d : code_arm.Arm) (before after : List code_arm.Arm) (x : code_arm.Arm) → i < length xs
      → arms_of before ≡ folded_arms c (arms_of (take i xs)) → d ≡ get_or xs i d → arm_of x ≡ folded_arm c (arm_of d) → after ≡ before ++ x ∷ []
      → arms_of after ≡ folded_arms c (arms_of (take (i + 1) xs))
  arms-next xs i d before after x lt h is same e =
      arms-pushed before after x e ∙ ap₂ (λ arms x. arms ⊳ x) h (same ∙ ap (λ d. folded_arm c (arm_of d)) is)
      ∙ sym (arms-more (arms_of (take i xs)) (arm_of (get_or xs i d)))
      ∙ sym (ap (λ xs. folded_arms c (arms_of xs)) (take_more xs i d lt) ∙ ap (folded_arms c) (arms_of-push (take i xs) (get_or xs i d)))

  abbrev condition_in : Arm → Condition
  condition_in (arm tests negated body) = condition c negated tests

  chain-more : (arms : Arms) (x : Arm) → folded_chain c (arms ⊳ x) ≡ with_arm (folded_chain c arms) (condition_in x) (folded_arm c x)
  chain-more arms (arm tests negated body) = refl

  pub chain-next : (xs : List code_arm.Arm) (i : ℕ) (d : code_arm.Arm) (before after : Chain) (k : Condition) (ts : List item.Item) (x : Arm) → i < length xs
      → before ≡ folded_chain c (arms_of (take i xs)) → d ≡ get_or xs i d → k ≡ condition c (out-Arm d).negated (items_of ts) → ts ≡ (out-Arm d).tests → x ≡ folded_arm c (arm_of d)
      → after ≡ with_arm before k x → after ≡ folded_chain c (arms_of (take (i + 1) xs))
  chain-next xs i d before after k ts x lt h is known tests same e =
      let at : k ≡ condition_in (arm_of d) = known ∙ ap (λ ts. condition c (out-Arm d).negated (items_of ts)) tests ∙ ap condition_in (sym (arm-form d)) in
      e ∙ ap (λ left. with_arm left k x) h ∙ ap₂ (with_arm (folded_chain c (arms_of (take i xs)))) at same
      ∙ ap (λ d. with_arm (folded_chain c (arms_of (take i xs))) (condition_in (arm_of d)) (folded_arm c (arm_of d))) is
      ∙ sym (chain-more (arms_of (take i xs)) (arm_of (get_or xs i d)))
      ∙ sym (ap (λ xs. folded_chain c (arms_of xs)) (take_more xs i d lt) ∙ ap (folded_chain c) (arms_of-push (take i xs) (get_or xs i d)))

  -- ---- statements

  pub other-none : (o : Option (Vec stmt.Stmt Global)) → o ≡ None → nothing_else ≡ folded_other c (other_body o)
  other-none o is = ap (λ o. folded_other c (other_body o)) (sym is)

  pub other-some : (o : Option (Vec stmt.Stmt Global)) (v w : Vec stmt.Stmt Global) (ss : List stmt.Stmt) → o ≡ Some v → ss ≡ v.items → statements_of w.items ≡ folded_body c (statements_of ss)
      → otherwise (statements_of w.items) ≡ folded_other c (other_body o)
  other-some o v w ss is e h = ap otherwise (h ∙ ap (λ ss. folded_body c (statements_of ss)) e) ∙ ap (λ o. folded_other c (other_body o)) (sym is)

  pub if-is : (before : Statements) (place : Place) (k : stmt_kind.StmtKind) (v : Vec code_arm.Arm Global) (o : Option (Vec stmt.Stmt Global)) (xs : List code_arm.Arm) (left : Chain) (other : Otherwise)
      → k ≡ stmt_case.If v o → xs ≡ v.items → left ≡ folded_chain c (arms_of xs) → other ≡ folded_other c (other_body o)
      → joined before (chain place left other) ≡ joined before (folded_statement c (statement place (action_of k)))
  if-is before place k v o xs left other is e h g =
      ap₂ (λ left other. joined before (chain place left other)) (h ∙ ap (λ xs. folded_chain c (arms_of xs)) e) g
      ∙ sym (ap (λ a. joined before (folded_action c place a)) (ap action_of is ∙ if_is v o))

  pub case-is : (before : Statements) (place : Place) (k : stmt_kind.StmtKind) (x : expr.Expr) (v : Vec code_arm.Arm Global) (o : Option (Vec stmt.Stmt Global)) (xs : List code_arm.Arm) (arms : Arms) (other : Otherwise)
      → k ≡ stmt_case.Case x v o → xs ≡ v.items → arms ≡ folded_arms c (arms_of xs) → other ≡ folded_other c (other_body o)
      → before ▹ statement place (Case (folded c (tree_of x)) arms other) ≡ joined before (folded_statement c (statement place (action_of k)))
  case-is before place k x v o xs arms other is e h g =
      ap₂ (λ arms other. before ▹ statement place (Case (folded c (tree_of x)) arms other)) (h ∙ ap (λ xs. folded_arms c (arms_of xs)) e) g
      ∙ sym (ap (λ a. joined before (folded_action c place a)) (ap action_of is ∙ case_is x v o))

  pub repeat-is : (before : Statements) (place : Place) (k : stmt_kind.StmtKind) (course : code_loop.Loop) (v w : Vec stmt.Stmt Global) (ss : List stmt.Stmt)
      → k ≡ stmt_case.Repeat course v → ss ≡ v.items → statements_of w.items ≡ folded_body c (statements_of ss)
      → joined before (loop place (kept (folded_course c (course_of course))) (statements_of w.items)) ≡ joined before (folded_statement c (statement place (action_of k)))
  repeat-is before place k course v w ss is e h =
      ap (λ body. joined before (loop place (kept (folded_course c (course_of course))) body)) (h ∙ ap (λ ss. folded_body c (statements_of ss)) e)
      ∙ sym (ap (λ a. joined before (folded_action c place a)) (ap action_of is ∙ repeat_is course v))
