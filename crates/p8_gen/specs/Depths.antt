-- How many longs the code of a method holds on the operand stack at once, on every way through it, also one that is never
-- taken: for each form the most, counted from where the stack stood before it.
use Rattle.std.specs.Prelude.{ℕ, ◌+◌, max, ◌==◌, ◌&&◌, not, if◌then◌else◌, Option, Some, None}
use Rattle.p8_tree.specs.Expressions.{Tree, node, Form, Var, Call, Unary, Binary, Assign, Change, Address, ObjectAddress, Built, Look, Variable}
use Rattle.p8_tree.specs.Expressions.{Named, Part, Memory, Register, Index, no_index, index, Bits, whole, bits, single, range, Trees, no_trees, ◌▷◌}
use Rattle.p8_tree.specs.Expressions.{Items, no_items, ◌▸◌}
use Rattle.p8_tree.specs.Statements.{Course, Forever, Count, Before, After, From, statement, Action, Do, If, Case, Repeat, Next, Quit, Return, Abort}
use Rattle.p8_tree.specs.Statements.{arm, Otherwise, nothing_else, otherwise, Statements, no_statements, ◌▹◌, Arms, no_arms, ◌⊳◌}
use Rattle.p8_gen.specs.Names.{Names}
use Rattle.p8_gen.specs.Expressions.{starts_method, count_of}

-- after so many longs, where anything is held at all
abbrev pub over : (below above : ℕ) → ℕ
over below above = if above == 0 then 0 else below + above

-- ---- expressions

-- how many arguments a method is started with
abbrev pub arguments_of : Tree → ℕ
arguments_of (node p (Call trap object i method q args)) = count_of args
arguments_of _ = 0

abbrev mutual
  -- an expression whose value is left
  pub held : Names → Tree → ℕ
  held names (node place form) = held_by names form

  pub held_by : Names → Form → ℕ
  held_by names (Var v) = max 1 (held_by_naming names v)
  held_by names (Call trap object i method q args) = max 1 (max (held_by_trees names args) (over (count_of args) (held_by_index names i)))
  held_by names (Unary operator e) = held names e
  held_by names (Binary operator a b) = max (held names a) (1 + held names b)
  held_by names (Assign v operator e) = max (held names e) (1 + held_by_naming names v)
  held_by names (Change v effect) = max 1 (held_by_naming names v)
  held_by names (Address v) = max 1 (held_by_naming names v)
  held_by names (ObjectAddress e) = held names e
  held_by names (Built code args) = max 1 (held_by_built names code args)
  held_by names (Look code e xs) = max (max 2 (held names e)) (held_by_items names xs)
  held_by names _ = 1

  -- what names a variable: its address and its index, or its pins
  pub held_by_naming : Names → Variable → ℕ
  held_by_naming names (Named name i q) = held_by_index names i
  held_by_naming names (Part name size i q) = held_by_index names i
  held_by_naming names (Memory size e i q) = max (held names e) (over 1 (held_by_index names i))
  held_by_naming names (Register address x q) = held_by_bits names x

  pub held_by_index : Names → Index → ℕ
  held_by_index names no_index = 0
  held_by_index names (index e) = held names e

  pub held_by_bits : Names → Bits → ℕ
  held_by_bits names whole = 0
  held_by_bits names (bits (single e)) = held names e
  held_by_bits names (bits (range a b)) = max (held names a) (1 + held names b)

  -- arguments, each after those before it
  pub held_by_trees : Names → Trees → ℕ
  held_by_trees names no_trees = 0
  held_by_trees names (es ▷ e) = max (held_by_trees names es) (count_of es + held names e)

  -- the items of a LOOK function, after its value and its count
  pub held_by_items : Names → Items → ℕ
  held_by_items names no_items = 0
  held_by_items names (xs ▸ single e) = max (held_by_items names xs) (2 + held names e)
  held_by_items names (xs ▸ range a b) = max (held_by_items names xs) (max (2 + held names a) (3 + held names b))

  pub held_by_built : Names → ℕ → Trees → ℕ
  held_by_built names code no_trees = if code == 0x29 then 0 else 1
  held_by_built names code (no_trees ▷ e) = if code == 0 then 1 else held names e
  held_by_built names code (no_trees ▷ m ▷ s) =
      if not (code == 0x2C) then max (held names m) (1 + held names s)
      else if starts_method names m then max (1 + held_by_arguments names m) (1 + arguments_of m + held names s)
      else max (1 + held names m) (2 + held names s)
  held_by_built names code (no_trees ▷ id ▷ m ▷ s) =
      if code == 0x28 && starts_method names m
      then max (held names id) (max (1 + held_by_arguments names m) (1 + arguments_of m + held names s))
      else max (held names id) (max (1 + held names m) (2 + held names s))
  held_by_built names code (es ▷ e) = max (held_by_trees names es) (count_of es + held names e)

  -- the arguments of a method that is started
  pub held_by_arguments : Names → Tree → ℕ
  held_by_arguments names (node p (Call trap object i method q args)) = held_by_trees names args
  held_by_arguments names _ = 0

-- an expression that stands alone as a statement
abbrev pub held_alone : Names → Tree → ℕ
held_alone names (node place (Call trap object i method q args)) = max (held_by_trees names args) (over (count_of args) (held_by_index names i))
held_alone names (node place (Assign v operator e)) = max (held names e) (1 + held_by_naming names v)
held_alone names (node place (Change v effect)) = held_by_naming names v
held_alone names (node place (Built code args)) = held_by_built names code args
held_alone names _ = 0

-- ---- statements

abbrev pub held_if : Names → Option Tree → ℕ
held_if names None = 0
held_if names (Some e) = held names e

-- the one test of an arm of IF
abbrev pub held_by_test : Names → Items → ℕ
held_by_test names (no_items ▸ single e) = held names e
held_by_test names _ = 0

-- the tests of an arm of CASE, after the value that is compared
abbrev pub held_by_tests : Names → Items → ℕ
held_by_tests names no_items = 0
held_by_tests names (xs ▸ single e) = max (held_by_tests names xs) (1 + held names e)
held_by_tests names (xs ▸ range a b) = max (held_by_tests names xs) (max (1 + held names a) (2 + held names b))

-- the end of a pass of REPEAT FROM: its step where one is given, and both ends
abbrev pub held_by_pass : Names → Option Tree → (a b : Tree) → ℕ
held_by_pass names None a b = max (held names a) (1 + held names b)
held_by_pass names (Some s) a b = max (held names s) (max (1 + held names a) (2 + held names b))

-- a loop around a body that holds so many; REPEAT e keeps its count below them
abbrev pub held_in_loop : Names → Course → (body : ℕ) → ℕ
held_in_loop names Forever body = body
held_in_loop names (Count e) body = max (held names e) (1 + body)
held_in_loop names (Before until e) body = max (held names e) body
held_in_loop names (After until e) body = max (held names e) body
held_in_loop names (From name a b step q) body = max (held names a) (max body (held_by_pass names step a b))

abbrev mutual
  pub held_in : Names → Statements → ℕ
  held_in names no_statements = 0
  held_in names (ss ▹ statement place action) = max (held_in names ss) (held_in_action names action)

  pub held_in_action : Names → Action → ℕ
  held_in_action names (Do e) = held_alone names e
  held_in_action names (If arms other) = max (held_in_arms names arms) (held_in_other names other)
  held_in_action names (Case e arms other) = max (held names e) (max (held_in_cases names arms) (held_in_other names other))
  held_in_action names (Repeat course ss) = held_in_loop names course (held_in names ss)
  held_in_action names Next = 0
  held_in_action names Quit = 0
  held_in_action names (Return e) = held_if names e
  held_in_action names (Abort e) = held_if names e

  pub held_in_arms : Names → Arms → ℕ
  held_in_arms names no_arms = 0
  held_in_arms names (arms ⊳ arm items negated ss) = max (held_in_arms names arms) (max (held_by_test names items) (held_in names ss))

  pub held_in_cases : Names → Arms → ℕ
  held_in_cases names no_arms = 0
  held_in_cases names (arms ⊳ arm items negated ss) = max (held_in_cases names arms) (max (held_by_tests names items) (held_in names ss))

  pub held_in_other : Names → Otherwise → ℕ
  held_in_other names nothing_else = 0
  held_in_other names (otherwise ss) = held_in names ss
