-- Where NEXT and QUIT stand, and how deep blocks of statements stand in one another (Propeller Manual v1.2, "NEXT" and
-- "QUIT").
use Rattle.std.specs.Prelude.{ℕ, suc, max, Bool, true, ◌&&◌}
use Rattle.p8_tree.specs.Statements.{Statement, statement, Action, Do, If, Case, Repeat, Next, Quit, Return, Abort, Arm, arm, Otherwise}
use Rattle.p8_tree.specs.Statements.{nothing_else, otherwise, Statements, no_statements, ◌▹◌, Arms, no_arms, ◌⊳◌}

-- each NEXT and each QUIT stands in a REPEAT, where the statements themselves stand in one or not
abbrev mutual
  pub leave_loops : Bool → Statements → Bool
  leave_loops in_loop no_statements = true
  leave_loops in_loop (ss ▹ s) = leave_loops in_loop ss && leaves_loop in_loop s

  pub leaves_loop : Bool → Statement → Bool
  leaves_loop in_loop (statement p a) = action_leaves in_loop a

  pub action_leaves : Bool → Action → Bool
  action_leaves in_loop (Do e) = true
  action_leaves in_loop (If arms other) = arms_leave in_loop arms && other_leaves in_loop other
  action_leaves in_loop (Case e arms other) = arms_leave in_loop arms && other_leaves in_loop other
  action_leaves in_loop (Repeat course ss) = leave_loops true ss
  action_leaves in_loop Next = in_loop
  action_leaves in_loop Quit = in_loop
  action_leaves in_loop (Return e) = true
  action_leaves in_loop (Abort e) = true

  pub arms_leave : Bool → Arms → Bool
  arms_leave in_loop no_arms = true
  arms_leave in_loop (xs ⊳ x) = arms_leave in_loop xs && arm_leaves in_loop x

  pub arm_leaves : Bool → Arm → Bool
  arm_leaves in_loop (arm tests negated ss) = leave_loops in_loop ss

  pub other_leaves : Bool → Otherwise → Bool
  other_leaves in_loop nothing_else = true
  other_leaves in_loop (otherwise ss) = leave_loops in_loop ss

-- how many blocks of statements stand in one another; a CASE is one, and so is each of its items and OTHER
abbrev mutual
  pub depth : Statements → ℕ
  depth no_statements = 0
  depth (ss ▹ s) = max (depth ss) (statement_depth s)

  pub statement_depth : Statement → ℕ
  statement_depth (statement p a) = action_depth a

  pub action_depth : Action → ℕ
  action_depth (If arms other) = max (arms_depth arms) (other_depth other)
  action_depth (Case e arms other) = suc (max (arms_depth arms) (other_depth other))
  action_depth (Repeat course ss) = suc (depth ss)
  action_depth _ = 0

  pub arms_depth : Arms → ℕ
  arms_depth no_arms = 0
  arms_depth (xs ⊳ x) = max (arms_depth xs) (arm_depth x)

  pub arm_depth : Arm → ℕ
  arm_depth (arm tests negated ss) = suc (depth ss)

  pub other_depth : Otherwise → ℕ
  other_depth nothing_else = 0
  other_depth (otherwise ss) = suc (depth ss)
