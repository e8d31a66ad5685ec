-- How many longs an expression or a statement holds on the operand stack at most, by which names are those of methods.
use Rattle.std.specs.Prelude.{ℕ, ◌+◌, max, List, Bool, ◌==◌, if◌then◌else◌, false, Option, Some, None}
use Rattle.p8_tree.specs.Expressions.{Tree, node, Number, Str, Strings, Here, Var, Call, Unary, Binary, Assign, Change, Address, ObjectAddress}
use Rattle.p8_tree.specs.Expressions.{ObjConst, Built, Look, Variable, Named, Part, Memory, Register, Index, no_index, index, Bits, whole, bits}
use Rattle.p8_tree.specs.Expressions.{Item, single, range, Trees, no_trees, ◌▷◌, Items, no_items, ◌▸◌}
use Rattle.p8_tree.specs.Lists.{count_of_trees}
use Rattle.p8_tree.specs.Statements.{Course, Forever, Count, Before, After, From, Statement, statement, Do, If, Case, Repeat, Next, Quit, Return}
use Rattle.p8_tree.specs.Statements.{Abort, arm, Otherwise, nothing_else, otherwise, Statements, no_statements, ◌▹◌, Arms, no_arms, ◌⊳◌}

abbrev mutual
  pub depth : (is_method : List ℕ → Bool) → Tree → ℕ
  depth m (node place (Number n)) = 1
  depth m (node place (Str text)) = 1
  depth m (node place (Strings es)) = 1
  depth m (node place Here) = 1
  depth m (node place (Var v)) = max 1 (names_depth m v)
  depth m (node place (Call stops object i method at arguments)) = max 1 (max (trees_depth m arguments) (count_of_trees arguments + index_depth m i))
  depth m (node place (Unary operator e)) = max 1 (depth m e)
  depth m (node place (Binary operator left right)) = max (depth m left) (1 + depth m right)
  depth m (node place (Assign v operator e)) = max (depth m e) (1 + names_depth m v)
  depth m (node place (Change v change)) = max 1 (names_depth m v)
  depth m (node place (Address v)) = max 1 (names_depth m v)
  depth m (node place (ObjectAddress e)) = max 1 (depth m e)
  depth m (node place (ObjConst object name at)) = 1
  depth m (node place (Built code arguments)) = max 1 (built_depth m code arguments)
  depth m (node place (Look code e items)) = max (depth m e) (2 + items_depth m items)

  -- what names a variable
  pub names_depth : (is_method : List ℕ → Bool) → Variable → ℕ
  names_depth m (Named name i place) = index_depth m i
  names_depth m (Part name size i place) = index_depth m i
  names_depth m (Memory size e i place) = max (depth m e) (1 + index_depth m i)
  names_depth m (Register register x place) = bits_depth m x

  pub index_depth : (is_method : List ℕ → Bool) → Index → ℕ
  index_depth m no_index = 0
  index_depth m (index e) = depth m e

  pub bits_depth : (is_method : List ℕ → Bool) → Bits → ℕ
  bits_depth m whole = 0
  bits_depth m (bits x) = item_depth m x

  pub item_depth : (is_method : List ℕ → Bool) → Item → ℕ
  item_depth m (single e) = depth m e
  item_depth m (range e f) = max (depth m e) (1 + depth m f)

  pub trees_depth : (is_method : List ℕ → Bool) → Trees → ℕ
  trees_depth m no_trees = 0
  trees_depth m (es ▷ e) = max (trees_depth m es) (count_of_trees es + depth m e)

  pub items_depth : (is_method : List ℕ → Bool) → Items → ℕ
  items_depth m no_items = 0
  items_depth m (items ▸ item) = max (items_depth m items) (item_depth m item)

  -- CONSTANT, 0, is a number; COGNEW is 2C and COGINIT 28; of what is begun lies the cog's number below
  pub built_depth : (is_method : List ℕ → Bool) → (code : ℕ) → Trees → ℕ
  built_depth m code no_trees = 1
  built_depth m code (no_trees ▷ e) = if code == 0 then 1 else max 1 (depth m e)
  built_depth m code (no_trees ▷ e ▷ f) = if code == 0x2C then 1 + begun_depth m e (depth m e) (depth m f) else max 1 (max (depth m e) (1 + depth m f))
  built_depth m code (no_trees ▷ e ▷ f ▷ g) =
      if code == 0x28 then max (depth m e) (1 + begun_depth m f (depth m f) (depth m g)) else max (depth m e) (max (1 + depth m f) (2 + depth m g))
  built_depth m code (es ▷ d ▷ e ▷ f ▷ g) = 0

  -- a method's arguments and its stack, or an address and PAR
  pub begun_depth : (is_method : List ℕ → Bool) → Tree → (first second : ℕ) → ℕ
  begun_depth m (node place (Call false None i method at arguments)) first second = max (trees_depth m arguments) (count_of_trees arguments + second)
  begun_depth m (node place (Var (Named name no_index inside))) first second = if m name then second else max first (1 + second)
  begun_depth m e first second = max first (1 + second)

-- an expression alone, whose value isn't used
abbrev pub act_depth : (is_method : List ℕ → Bool) → Tree → ℕ
act_depth m (node place (Var v)) = 0
act_depth m (node place (Call stops object i method at arguments)) = max (trees_depth m arguments) (count_of_trees arguments + index_depth m i)
act_depth m (node place (Change v change)) = names_depth m v
act_depth m e = depth m e

abbrev pub value_depth : (is_method : List ℕ → Bool) → Option Tree → ℕ
value_depth m None = 0
value_depth m (Some e) = depth m e

-- the end of a pass of REPEAT with FROM and TO: the step and both ends
abbrev pub ends_depth : (is_method : List ℕ → Bool) → (from to : Tree) → Option Tree → ℕ
ends_depth m from to None = max (depth m from) (1 + depth m to)
ends_depth m from to (Some e) = max (depth m e) (max (1 + depth m from) (2 + depth m to))

-- what a loop holds beside its body, and while its body is carried out
abbrev pub course_depth : (is_method : List ℕ → Bool) → Course → ℕ
course_depth m Forever = 0
course_depth m (Count e) = depth m e
course_depth m (Before until e) = depth m e
course_depth m (After until e) = depth m e
course_depth m (From name from to step place) = max (depth m from) (ends_depth m from to step)

abbrev pub held_by : Course → ℕ
held_by (Count e) = 1
held_by course = 0

abbrev mutual
  pub statement_depth : (is_method : List ℕ → Bool) → Statement → ℕ
  statement_depth m (statement place (Do e)) = act_depth m e
  statement_depth m (statement place (If arms other)) = max (chain_depth m arms) (other_depth m other)
  statement_depth m (statement place (Case e arms other)) = max (depth m e) (max (arms_depth m arms) (other_depth m other))
  statement_depth m (statement place (Repeat course body)) = max (course_depth m course) (held_by course + body_depth m body)
  statement_depth m (statement place Next) = 0
  statement_depth m (statement place Quit) = 0
  statement_depth m (statement place (Return e)) = value_depth m e
  statement_depth m (statement place (Abort e)) = value_depth m e

  pub body_depth : (is_method : List ℕ → Bool) → Statements → ℕ
  body_depth m no_statements = 0
  body_depth m (body ▹ last) = max (body_depth m body) (statement_depth m last)

  pub other_depth : (is_method : List ℕ → Bool) → Otherwise → ℕ
  other_depth m nothing_else = 0
  other_depth m (otherwise body) = body_depth m body

  -- the arms of an IF chain
  pub chain_depth : (is_method : List ℕ → Bool) → Arms → ℕ
  chain_depth m no_arms = 0
  chain_depth m (arms ⊳ arm items negated body) = max (chain_depth m arms) (max (items_depth m items) (body_depth m body))

  -- the tests of an arm lie above the value of CASE
  pub arms_depth : (is_method : List ℕ → Bool) → Arms → ℕ
  arms_depth m no_arms = 0
  arms_depth m (arms ⊳ arm items negated body) = max (arms_depth m arms) (max (1 + items_depth m items) (body_depth m body))
