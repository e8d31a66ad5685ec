-- What becomes of a method's trees: constant trees become numbers, and arms and loops of which it is known that they are never
-- chosen, or that nothing else is, go. What is left does just what the whole did.
-- Source: the Propeller Manual v1.2, "IF", "IFNOT", "ELSEIF", "ELSEIFNOT" and "REPEAT" of the Spin chapter; which trees change is this
-- project's profile.
use Rattle.std.specs.Prelude.{ℕ, ◌==◌, Bool, true, false, not, if◌then◌else◌, Option, Some, None, option_map}
use Rattle.p8_tree.specs.declared.places.Place.{Place}
use Rattle.p8_tree.specs.Expressions.{Tree, node, Form, Number, Var, Call, Unary, Binary, Assign, Change, Address, ObjectAddress, Built, Look}
use Rattle.p8_tree.specs.Expressions.{Variable, Named, Part, Memory, Register, Index, no_index, index, Bits, whole, bits, Item, single, range, Trees}
use Rattle.p8_tree.specs.Expressions.{no_trees, ◌▷◌, Items, no_items, ◌▸◌}
use Rattle.p8_tree.specs.Statements.{Course, Forever, Count, Before, After, From, Statement, statement, Action, Do, If, Case, Repeat, Return, Abort}
use Rattle.p8_tree.specs.Statements.{Arm, arm, Otherwise, nothing_else, otherwise, Statements, no_statements, ◌▹◌, Arms, no_arms, ◌⊳◌}
use Rattle.p8_meaning.specs.Constants.{Constants, constant_value, shorter_number}

-- ---- numbers in place of expressions

-- the number, or else the form
abbrev pub number_or : Option ℕ → Form → Form
number_or (Some n) form = Number n
number_or None form = form

-- The same tree, with a number in place of each expression of which one is given here. Of expressions that stand in one another the outermost
-- is looked at first. The items of STRING stay.
abbrev mutual
  pub tree_with : (number : Tree → Option ℕ) → Tree → Tree
  tree_with number (node place form) = node place (number_or (number (node place form)) (form_with number form))

  pub form_with : (number : Tree → Option ℕ) → Form → Form
  form_with number (Var v) = Var (variable_with number v)
  form_with number (Call stops object i method at arguments) = Call stops object (index_with number i) method at (trees_with number arguments)
  form_with number (Unary operator e) = Unary operator (tree_with number e)
  form_with number (Binary operator a b) = Binary operator (tree_with number a) (tree_with number b)
  form_with number (Assign v operator e) = Assign (variable_with number v) operator (tree_with number e)
  form_with number (Change v change) = Change (variable_with number v) change
  form_with number (Address v) = Address (variable_with number v)
  form_with number (ObjectAddress e) = ObjectAddress (tree_with number e)
  form_with number (Built code arguments) = Built code (arguments_with number code arguments)
  form_with number (Look code e items) = Look code (tree_with number e) (items_with number items)
  form_with number form = form

  pub variable_with : (number : Tree → Option ℕ) → Variable → Variable
  variable_with number (Named name i at) = Named name (index_with number i) at
  variable_with number (Part name size i at) = Part name size (index_with number i) at
  variable_with number (Memory size e i at) = Memory size (tree_with number e) (index_with number i) at
  variable_with number (Register register x at) = Register register (bits_with number x) at

  pub index_with : (number : Tree → Option ℕ) → Index → Index
  index_with number no_index = no_index
  index_with number (index e) = index (tree_with number e)

  pub bits_with : (number : Tree → Option ℕ) → Bits → Bits
  bits_with number whole = whole
  bits_with number (bits x) = bits (item_with number x)

  pub item_with : (number : Tree → Option ℕ) → Item → Item
  item_with number (single e) = single (tree_with number e)
  item_with number (range e f) = range (tree_with number e) (tree_with number f)

  pub trees_with : (number : Tree → Option ℕ) → Trees → Trees
  trees_with number no_trees = no_trees
  trees_with number (es ▷ e) = trees_with number es ▷ tree_with number e

  -- the argument of CONSTANT, which is 00, stays
  pub arguments_with : (number : Tree → Option ℕ) → (code : ℕ) → Trees → Trees
  arguments_with number code no_trees = no_trees
  arguments_with number code (no_trees ▷ e) = no_trees ▷ (if code == 0 then e else tree_with number e)
  arguments_with number code (es ▷ d ▷ e) = trees_with number es ▷ tree_with number d ▷ tree_with number e

  pub items_with : (number : Tree → Option ℕ) → Items → Items
  items_with number no_items = no_items
  items_with number (xs ▸ x) = items_with number xs ▸ item_with number x

-- ---- expressions

-- constant trees become numbers, where that isn't longer
abbrev pub folded : Constants → Tree → Tree
folded c e = tree_with (shorter_number c) e

abbrev pub folded_items : Constants → Items → Items
folded_items c xs = items_with (shorter_number c) xs

-- an expression alone as a statement stays in its form
abbrev pub folded_inside : Constants → Tree → Tree
folded_inside c (node place form) = node place (form_with (shorter_number c) form)

-- ---- loops

abbrev pub folded_course : Constants → Course → Course
folded_course c Forever = Forever
folded_course c (Count e) = Count (folded c e)
folded_course c (Before until e) = Before until (folded c e)
folded_course c (After until e) = After until (folded c e)
folded_course c (From name from to step at) = From name (folded c from) (folded c to) (option_map (folded c) step) at

-- a condition of IF or WHILE holds for all numbers but 0, and one of IFNOT or UNTIL for 0 alone
abbrev pub holds : (negated : Bool) (number : ℕ) → Bool
holds negated n = if negated then n == 0 else not (n == 0)

abbrev pub one : Place → Action → Statements
one place action = no_statements ▹ statement place action

-- an expression that is a number
abbrev pub number_in : Tree → Option ℕ
number_in (node place (Number n)) = Some n
number_in e = None

abbrev pub kept_count : Option ℕ → Tree → Option Course
kept_count None e = Some (Count e)
kept_count (Some n) e = if n == 0 then None else Some (Count e)

abbrev pub kept_before : (until : Bool) → Option ℕ → Tree → Option Course
kept_before until None e = Some (Before until e)
kept_before until (Some n) e = if holds until n then Some Forever else None

-- How a loop goes on, by what it tests after folding: one that makes no pass is dropped, and one that nothing but its body ends is a REPEAT
-- alone. A loop with its test behind the body stays.
abbrev pub kept : Course → Option Course
kept (Count e) = kept_count (number_in e) e
kept (Before until e) = kept_before until (number_in e) e
kept course = Some course

abbrev pub loop : Place → Option Course → Statements → Statements
loop place None body = no_statements
loop place (Some course) body = one place (Repeat course body)

-- ---- chains of IF

-- the arms that are left so far, after which the chain goes on; or they, and a body that is chosen where none of them is
pub data Chain : Type 0 where
  Going : (arms : Arms) → Chain
  Ended : (arms : Arms) (body : Statements) → Chain

abbrev pub arms_left : Chain → Arms
arms_left (Going arms) = arms
arms_left (Ended arms body) = arms

-- what is known of a condition: whether it holds, nothing, or that it isn't one, since an arm of IF has one test
pub data Condition : Type 0 where
  Known : (holds : Bool) → Condition
  Unknown : Condition
  NoTest : Condition

abbrev pub known : (negated : Bool) → Option ℕ → Condition
known negated None = Unknown
known negated (Some n) = Known (holds negated n)

abbrev pub condition : Constants → (negated : Bool) → Items → Condition
condition c negated (no_items ▸ single e) = known negated (constant_value c e)
condition c negated tests = NoTest

-- An arm whose condition never holds is dropped. The body of one whose condition always holds becomes that of ELSE, and what follows is
-- dropped.
abbrev pub with_arm : Chain → Condition → Arm → Chain
with_arm left NoTest x = Going (arms_left left ⊳ x)
with_arm (Ended arms body) Unknown x = Ended arms body
with_arm (Ended arms body) (Known b) x = Ended arms body
with_arm (Going arms) Unknown x = Going (arms ⊳ x)
with_arm (Going arms) (Known true) (arm tests negated body) = Ended arms body
with_arm (Going arms) (Known false) x = Going arms

-- a chain without arms is the body of its ELSE, or nothing
abbrev pub whole_chain : Place → Arms → Otherwise → Statements
whole_chain place no_arms nothing_else = no_statements
whole_chain place no_arms (otherwise body) = body
whole_chain place arms other = one place (If arms other)

abbrev pub chain : Place → Chain → Otherwise → Statements
chain place (Going arms) other = whole_chain place arms other
chain place (Ended arms body) other = whole_chain place arms (otherwise body)

-- ---- statements

-- statements, and others after them
abbrev pub joined : (first second : Statements) → Statements
joined first no_statements = first
joined first (second ▹ last) = joined first second ▹ last

abbrev mutual
  -- what becomes of a statement: one, none, or the body of an ELSE
  pub folded_statement : Constants → Statement → Statements
  folded_statement c (statement place action) = folded_action c place action

  pub folded_action : Constants → Place → Action → Statements
  folded_action c place (Do e) = one place (Do (folded_inside c e))
  folded_action c place (If arms other) = chain place (folded_chain c arms) (folded_other c other)
  folded_action c place (Case e arms other) = one place (Case (folded c e) (folded_arms c arms) (folded_other c other))
  folded_action c place (Repeat course body) = loop place (kept (folded_course c course)) (folded_body c body)
  folded_action c place (Return e) = one place (Return (option_map (folded c) e))
  folded_action c place (Abort e) = one place (Abort (option_map (folded c) e))
  folded_action c place action = one place action

  pub folded_body : Constants → Statements → Statements
  folded_body c no_statements = no_statements
  folded_body c (body ▹ last) = joined (folded_body c body) (folded_statement c last)

  pub folded_other : Constants → Otherwise → Otherwise
  folded_other c nothing_else = nothing_else
  folded_other c (otherwise body) = otherwise (folded_body c body)

  -- the arms of an IF chain
  pub folded_chain : Constants → Arms → Chain
  folded_chain c no_arms = Going no_arms
  folded_chain c (arms ⊳ arm tests negated body) =
      with_arm (folded_chain c arms) (condition c negated tests) (arm (folded_items c tests) negated (folded_body c body))

  -- the arms of a CASE
  pub folded_arms : Constants → Arms → Arms
  folded_arms c no_arms = no_arms
  folded_arms c (arms ⊳ arm tests negated body) = folded_arms c arms ⊳ arm (folded_items c tests) negated (folded_body c body)
