-- What the rules look at in a method: the names that its statements mention, the cogs that they start, the ports of WAITPEQ and WAITPNE, whole tests, and how
-- statements follow one another, in the order of the source (Propeller Manual v1.2, the Spin chapter; the rules are this project's profile).
use Rattle.std.specs.Prelude.{ℕ, Bool, true, false, ◌==◌, ◌&&◌, ◌||◌, not, List, [], ◌∷◌, ◌++◌, Option, Some, None, if◌then◌else◌}
use Rattle.p8_tree.specs.declared.places.Place.{Place}
use Rattle.p8_tree.specs.Expressions.{Tree, node, Form, Number, Str, Strings, Here, Var, Call, Unary, Binary, Assign, Change, Address, ObjectAddress}
use Rattle.p8_tree.specs.Expressions.{ObjConst, Built, Look, Variable, Named, Part, Memory, Register, Index, no_index, index, Bits, whole, bits}
use Rattle.p8_tree.specs.Expressions.{Item, single, range, Trees, no_trees, ◌▷◌, Items, no_items, ◌▸◌}
use Rattle.p8_tree.specs.Statements.{Course, Forever, Count, Before, After, From, Statement, statement, Action, Do, If, Case, Repeat, Next, Quit}
use Rattle.p8_tree.specs.Statements.{Return, Abort, Arm, arm, Otherwise, nothing_else, otherwise, Statements, no_statements, ◌▹◌, Arms, no_arms, ◌⊳◌}
use Rattle.p8_tree.specs.Lists.{tree_list, item_list, arm_list, statement_list}

pub data Spot : Type 0 where
  -- a name stands in an expression, or counts a loop
  name : List ℕ → Spot
  -- a name's address is taken, or it has an index: what stands behind it in memory may be meant too
  reach : List ℕ → Spot
  -- COGNEW or COGINIT: what is started, and its stack, or for PASM its parameter
  start : Tree → Tree → Spot
  -- the port of a WAITPEQ or a WAITPNE
  port : Tree → Spot
  -- the whole test of an IF, an ELSEIF, a WHILE or an UNTIL
  test : Tree → Spot
  -- an opener without a body, before a line at its column
  bare : Place → Spot
  -- a statement behind a loop that never ends
  behind : Place → Spot

-- ---- expressions

-- a method of the same object
abbrev pub called : Option (List ℕ) → List ℕ → List Spot
called None method = name method ∷ []
called (Some object) method = []

abbrev pub addressed : Variable → List Spot
addressed (Named n i q) = reach n ∷ []
addressed (Part n size i q) = reach n ∷ []
addressed v = []

-- COGNEW is 2C, COGINIT 28, WAITPEQ 1B and WAITPNE 1F
abbrev pub built : (code : ℕ) → List Tree → List Spot
built code (a ∷ b ∷ []) = if code == 0x2C then start a b ∷ [] else []
built code (a ∷ b ∷ c ∷ []) = if code == 0x28 then start b c ∷ [] else (if code == 0x1B || code == 0x1F then port c ∷ [] else [])
built code es = []

abbrev mutual
  pub in_tree : Tree → List Spot
  in_tree (node place form) = in_form form

  pub in_form : Form → List Spot
  in_form (Number v) = []
  in_form (Str text) = []
  in_form (Strings es) = in_trees es
  in_form Here = []
  in_form (Var v) = in_variable v
  in_form (Call trap object i method p args) = called object method ++ (in_index i ++ in_trees args)
  in_form (Unary operator e) = in_tree e
  in_form (Binary operator a b) = in_tree a ++ in_tree b
  in_form (Assign v operator e) = in_variable v ++ in_tree e
  in_form (Change v effect) = in_variable v
  in_form (Address v) = addressed v ++ in_variable v
  in_form (ObjectAddress e) = in_tree e
  in_form (ObjConst object n p) = []
  in_form (Built code args) = in_trees args ++ built code (tree_list args)
  in_form (Look code e xs) = in_tree e ++ in_items xs

  pub in_variable : Variable → List Spot
  in_variable (Named n i place) = named n i
  in_variable (Part n size i place) = named n i
  in_variable (Memory size e i place) = in_tree e ++ in_index i
  in_variable (Register address x place) = in_bits x

  pub named : List ℕ → Index → List Spot
  named n no_index = name n ∷ []
  named n (index e) = name n ∷ (reach n ∷ in_tree e)

  pub in_index : Index → List Spot
  in_index no_index = []
  in_index (index e) = in_tree e

  pub in_bits : Bits → List Spot
  in_bits whole = []
  in_bits (bits x) = in_item x

  pub in_item : Item → List Spot
  in_item (single e) = in_tree e
  in_item (range low high) = in_tree low ++ in_tree high

  pub in_trees : Trees → List Spot
  in_trees no_trees = []
  in_trees (es ▷ e) = in_trees es ++ in_tree e

  pub in_items : Items → List Spot
  in_items no_items = []
  in_items (xs ▸ x) = in_items xs ++ in_item x

abbrev pub in_option : Option Tree → List Spot
in_option None = []
in_option (Some e) = in_tree e

abbrev pub in_test : Tree → List Spot
in_test e = test e ∷ in_tree e

abbrev pub of_single : Item → List Spot
of_single (single e) = test e ∷ []
of_single (range low high) = []

-- the condition of an arm of IF is one value
abbrev pub in_condition : List Item → List Spot
in_condition (x ∷ []) = of_single x
in_condition xs = []

-- ---- loops

-- what a loop has before its body, and what it has after it
abbrev pub before_body : Course → List Spot
before_body (Count e) = in_tree e
before_body (Before until e) = in_test e
before_body (From n a b step place) = name n ∷ (in_tree a ++ (in_tree b ++ in_option step))
before_body c = []

abbrev pub behind_body : Course → List Spot
behind_body (After until e) = in_test e
behind_body c = []

-- ---- how statements follow one another

abbrev pub is_empty : List Statement → Bool
is_empty [] = true
is_empty (s ∷ ss) = false

abbrev pub has_no_body : Arm → Bool
has_no_body (arm tests negated body) = is_empty (statement_list body)

abbrev pub is_lone_and_bare : List Arm → Bool
is_lone_and_bare (x ∷ []) = has_no_body x
is_lone_and_bare xs = false

-- a REPEAT that isn't one of WHILE and UNTIL: those may wait without a body
abbrev pub counts : Course → Bool
counts Forever = true
counts (Count e) = true
counts (Before until e) = false
counts (After until e) = false
counts (From n a b step place) = true

-- an IF without ELSEIF and ELSE, or such a REPEAT, without a body
abbrev pub is_bare : Action → Bool
is_bare (If arms nothing_else) = is_lone_and_bare (arm_list arms)
is_bare (Repeat course body) = counts course && is_empty (statement_list body)
is_bare a = false

-- statements have a QUIT that leaves the loop in which they stand
abbrev mutual
  pub quit : Statements → Bool
  quit no_statements = false
  quit (ss ▹ s) = quit ss || quits s

  pub quits : Statement → Bool
  quits (statement place a) = action_quits a

  pub action_quits : Action → Bool
  action_quits (If arms rest) = arms_quit arms || rest_quits rest
  action_quits (Case e arms rest) = arms_quit arms || rest_quits rest
  action_quits Quit = true
  action_quits a = false

  pub arms_quit : Arms → Bool
  arms_quit no_arms = false
  arms_quit (xs ⊳ x) = arms_quit xs || arm_quits x

  pub arm_quits : Arm → Bool
  arm_quits (arm tests negated body) = quit body

  pub rest_quits : Otherwise → Bool
  rest_quits nothing_else = false
  rest_quits (otherwise body) = quit body

abbrev pub is_forever : Course → Bool
is_forever Forever = true
is_forever (Count e) = false
is_forever (Before until e) = false
is_forever (After until e) = false
is_forever (From n a b step place) = false

-- a REPEAT without condition, whose body never quits it; one without a body is no matter of this
abbrev pub is_endless : Action → Bool
is_endless (Repeat course body) = is_forever course && (not (is_empty (statement_list body)) && not (quit body))
is_endless a = false

-- what is told before a statement and after it, by where the next one of the same block stands, where there is one
abbrev pub bare_of : Statement → Option Place → List Spot
bare_of s None = []
bare_of (statement place a) (Some next) = if is_bare a && (next.column == place.column) then bare place ∷ [] else []

abbrev pub behind_of : Statement → Option Place → List Spot
behind_of s None = []
behind_of (statement place a) (Some next) = if is_endless a then behind next ∷ [] else []

-- ---- statements

abbrev pub place_of : Statement → Place
place_of (statement place a) = place

abbrev mutual
  -- statements, behind which one stands at a place, or none
  pub in_block : Statements → Option Place → List Spot
  in_block no_statements next = []
  in_block (ss ▹ s) next = in_block ss (Some (place_of s)) ++ (bare_of s next ++ (in_statement s ++ behind_of s next))

  pub in_statement : Statement → List Spot
  in_statement (statement place a) = in_action a

  pub in_action : Action → List Spot
  in_action (Do e) = in_tree e
  in_action (If arms rest) = in_arms arms ++ in_otherwise rest
  in_action (Case e arms rest) = in_tree e ++ (in_cases arms ++ in_otherwise rest)
  in_action (Repeat course body) = before_body course ++ (in_block body None ++ behind_body course)
  in_action Next = []
  in_action Quit = []
  in_action (Return e) = in_option e
  in_action (Abort e) = in_option e

  -- an arm of IF, and one of CASE
  pub in_arm : Arm → List Spot
  in_arm (arm tests negated body) = in_condition (item_list tests) ++ (in_items tests ++ in_block body None)

  pub in_arms : Arms → List Spot
  in_arms no_arms = []
  in_arms (xs ⊳ x) = in_arms xs ++ in_arm x

  pub in_choice : Arm → List Spot
  in_choice (arm tests negated body) = in_items tests ++ in_block body None

  pub in_cases : Arms → List Spot
  in_cases no_arms = []
  in_cases (xs ⊳ x) = in_cases xs ++ in_choice x

  pub in_otherwise : Otherwise → List Spot
  in_otherwise nothing_else = []
  in_otherwise (otherwise body) = in_block body None

-- a method's body
abbrev pub spots_in : Statements → List Spot
spots_in body = in_block body None
