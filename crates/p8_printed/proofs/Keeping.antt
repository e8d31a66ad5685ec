-- Where NEXT and QUIT may stand, and how deep blocks stand in one another, doesn't depend on places.
use Rattle.std.proofs.Common.{◌≡◌, suc, ◌<◌, Bool, true, IsTrue, max, refl, sym, ap, ◌∙◌, subst}
use Rattle.std.specs.Prelude.{◌&&◌}
use Rattle.p8_tree.specs.Statements.{Statement, statement, Action, Do, If, Case, Repeat, Next, Quit, Return, Abort, Arm, arm, Otherwise, nothing_else, otherwise, Statements, no_statements, ◌▹◌, Arms, no_arms, ◌⊳◌}
use Rattle.p8_tree.specs.Forgetting.{statements_anywhere, statement_anywhere, action_anywhere, arms_anywhere, arm_anywhere, otherwise_anywhere}
use Rattle.p8_tree.specs.Nesting.{leave_loops, leaves_loop, action_leaves, arms_leave, arm_leaves, other_leaves, depth, statement_depth, action_depth, arms_depth, arm_depth, other_depth}

mutual
  loops_kept : (b : Bool) (ss : Statements) → leave_loops b (statements_anywhere ss) ≡ leave_loops b ss
  loops_kept b no_statements = refl
  loops_kept b (ss ▹ s) = λ i. loops_kept b ss i && loop_kept b s i

  loop_kept : (b : Bool) (s : Statement) → leaves_loop b (statement_anywhere s) ≡ leaves_loop b s
  loop_kept b (statement p a) = action_kept b a

  action_kept : (b : Bool) (a : Action) → action_leaves b (action_anywhere a) ≡ action_leaves b a
  action_kept b (Do e) = refl
  action_kept b (If arms other) = λ i. arms_kept b arms i && other_kept b other i
  action_kept b (Case e arms other) = λ i. arms_kept b arms i && other_kept b other i
  action_kept b (Repeat course ss) = loops_kept true ss
  action_kept b Next = refl
  action_kept b Quit = refl
  action_kept b (Return e) = refl
  action_kept b (Abort e) = refl

  arms_kept : (b : Bool) (xs : Arms) → arms_leave b (arms_anywhere xs) ≡ arms_leave b xs
  arms_kept b no_arms = refl
  arms_kept b (xs ⊳ x) = λ i. arms_kept b xs i && arm_kept b x i

  arm_kept : (b : Bool) (x : Arm) → arm_leaves b (arm_anywhere x) ≡ arm_leaves b x
  arm_kept b (arm tests negated ss) = loops_kept b ss

  other_kept : (b : Bool) (o : Otherwise) → other_leaves b (otherwise_anywhere o) ≡ other_leaves b o
  other_kept b nothing_else = refl
  other_kept b (otherwise ss) = loops_kept b ss

mutual
  depth_kept : (ss : Statements) → depth (statements_anywhere ss) ≡ depth ss
  depth_kept no_statements = refl
  depth_kept (ss ▹ s) = λ i. max (depth_kept ss i) (statement_depth_kept s i)

  statement_depth_kept : (s : Statement) → statement_depth (statement_anywhere s) ≡ statement_depth s
  statement_depth_kept (statement p a) = action_depth_kept a

  action_depth_kept : (a : Action) → action_depth (action_anywhere a) ≡ action_depth a
  action_depth_kept (Do e) = refl
  action_depth_kept (If arms other) = λ i. max (arms_depth_kept arms i) (other_depth_kept other i)
  action_depth_kept (Case e arms other) = λ i. suc (max (arms_depth_kept arms i) (other_depth_kept other i))
  action_depth_kept (Repeat course ss) = λ i. suc (depth_kept ss i)
  action_depth_kept Next = refl
  action_depth_kept Quit = refl
  action_depth_kept (Return e) = refl
  action_depth_kept (Abort e) = refl

  arms_depth_kept : (xs : Arms) → arms_depth (arms_anywhere xs) ≡ arms_depth xs
  arms_depth_kept no_arms = refl
  arms_depth_kept (xs ⊳ x) = λ i. max (arms_depth_kept xs i) (arm_depth_kept x i)

  arm_depth_kept : (x : Arm) → arm_depth (arm_anywhere x) ≡ arm_depth x
  arm_depth_kept (arm tests negated ss) = λ i. suc (depth_kept ss i)

  other_depth_kept : (o : Otherwise) → other_depth (otherwise_anywhere o) ≡ other_depth o
  other_depth_kept nothing_else = refl
  other_depth_kept (otherwise ss) = λ i. suc (depth_kept ss i)

pub leave_loops_alike : (b : Bool) (ss tt' : Statements) → statements_anywhere tt' ≡ statements_anywhere ss → IsTrue (leave_loops b ss) → IsTrue (leave_loops b tt')
leave_loops_alike b ss tt' e h = subst IsTrue (sym (loops_kept b ss) ∙ sym (ap (leave_loops b) e) ∙ loops_kept b tt') h

pub depth_alike : (ss tt' : Statements) → statements_anywhere tt' ≡ statements_anywhere ss → depth ss < 64 → depth tt' < 64
depth_alike ss tt' e h = subst (λ n. n < 64) (sym (depth_kept ss) ∙ sym (ap depth e) ∙ depth_kept tt') h
