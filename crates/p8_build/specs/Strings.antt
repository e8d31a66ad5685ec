-- The STRINGs of a method's statements, each with its place, in the order of the source (Propeller
-- Manual v1.2, "STRING" of the Spin chapter): what is assigned to stands before the value, an object's index before the
-- arguments, and a WHILE or UNTIL after a loop's body after what is in it. The items of a STRING have no texts of their own.
use Rattle.std.specs.Prelude.{List, [], ◌∷◌, ◌++◌, Option, Some, None}
use Rattle.p8_tree.specs.declared.places.Place.{Place}
use Rattle.p8_tree.specs.Expressions.{Tree, node, Form, Str, Strings, Var, Call, Unary, Binary, Assign, Change, Address, ObjectAddress}
use Rattle.p8_tree.specs.Expressions.{Built, Look, Variable, Named, Part, Memory, Register, Index, no_index, index, Bits, whole, bits}
use Rattle.p8_tree.specs.Expressions.{Item, single, range, Trees, no_trees, ◌▷◌, Items, no_items, ◌▸◌}
use Rattle.p8_tree.specs.Statements.{Course, Count, Before, After, From, Statement, statement, Action, Do, If, Case, Repeat, Return}
use Rattle.p8_tree.specs.Statements.{Abort, Arm, arm, Otherwise, nothing_else, otherwise, Statements, no_statements, ◌▹◌, Arms, no_arms, ◌⊳◌}

-- STRINGs with their places
abbrev pub Texts : Type 0
Texts = List (Place × Form)

-- ---- expressions

abbrev mutual
  pub in_tree : Tree → Texts
  in_tree (node place form) = in_form place form

  pub in_form : Place → Form → Texts
  in_form place (Str text) = (place, Str text) ∷ []
  in_form place (Strings es) = (place, Strings es) ∷ []
  in_form place (Var v) = in_variable v
  in_form place (Call trap object i method p args) = in_index i ++ in_trees args
  in_form place (Unary operator e) = in_tree e
  in_form place (Binary operator a b) = in_tree a ++ in_tree b
  in_form place (Assign v operator e) = in_variable v ++ in_tree e
  in_form place (Change v effect) = in_variable v
  in_form place (Address v) = in_variable v
  in_form place (ObjectAddress e) = in_tree e
  in_form place (Built code args) = in_trees args
  in_form place (Look code e xs) = in_tree e ++ in_items xs
  in_form place _ = []

  pub in_variable : Variable → Texts
  in_variable (Named name i place) = in_index i
  in_variable (Part name size i place) = in_index i
  in_variable (Memory size e i place) = in_tree e ++ in_index i
  in_variable (Register address x place) = in_bits x

  pub in_index : Index → Texts
  in_index no_index = []
  in_index (index e) = in_tree e

  pub in_bits : Bits → Texts
  in_bits whole = []
  in_bits (bits x) = in_item x

  pub in_item : Item → Texts
  in_item (single e) = in_tree e
  in_item (range low high) = in_tree low ++ in_tree high

  pub in_trees : Trees → Texts
  in_trees no_trees = []
  in_trees (es ▷ e) = in_trees es ++ in_tree e

  pub in_items : Items → Texts
  in_items no_items = []
  in_items (xs ▸ x) = in_items xs ++ in_item x

abbrev pub in_option : Option Tree → Texts
in_option None = []
in_option (Some e) = in_tree e

-- ---- statements

-- what a loop has before its body, and what it has after it
abbrev pub before_body : Course → Texts
before_body (Count e) = in_tree e
before_body (Before until e) = in_tree e
before_body (From name a b step place) = in_tree a ++ (in_tree b ++ in_option step)
before_body c = []

abbrev pub behind_body : Course → Texts
behind_body (After until e) = in_tree e
behind_body c = []

abbrev mutual
  pub strings_in : Statements → Texts
  strings_in no_statements = []
  strings_in (ss ▹ s) = strings_in ss ++ in_statement s

  pub in_statement : Statement → Texts
  in_statement (statement place a) = in_action a

  pub in_action : Action → Texts
  in_action (Do e) = in_tree e
  in_action (If arms rest) = in_arms arms ++ in_otherwise rest
  in_action (Case e arms rest) = in_tree e ++ (in_arms arms ++ in_otherwise rest)
  in_action (Repeat course body) = before_body course ++ (strings_in body ++ behind_body course)
  in_action (Return e) = in_option e
  in_action (Abort e) = in_option e
  in_action _ = []

  pub in_arm : Arm → Texts
  in_arm (arm tests negated body) = in_items tests ++ strings_in body

  pub in_arms : Arms → Texts
  in_arms no_arms = []
  in_arms (xs ⊳ x) = in_arms xs ++ in_arm x

  pub in_otherwise : Otherwise → Texts
  in_otherwise nothing_else = []
  in_otherwise (otherwise body) = strings_in body
