-- internal: what the code computes, the first fault of each part.
use Rattle.std.specs.Prelude.{ℕ, if◌then◌else◌, List, Option, Some, None}
use Rattle.p8_tree.specs.declared.places.Place.{Place}
use Rattle.p8_tree.specs.Expressions.{Tree, node, Form, Number, Str, Strings, Here, Var, Call, Unary, Binary, Assign, Change, Address, ObjectAddress}
use Rattle.p8_tree.specs.Expressions.{ObjConst, Built, Look, Variable, Named, Part, Memory, Register, Index, no_index, index, Bits, whole, bits}
use Rattle.p8_tree.specs.Expressions.{Item, single, range, Trees, no_trees, ◌▷◌, Items, no_items, ◌▸◌}
use Rattle.p8_tree.specs.Statements.{Course, Forever, Count, Before, After, From, Statement, statement, Action, Do, If, Case, Repeat, Next, Quit}
use Rattle.p8_tree.specs.Statements.{Return, Abort, Arm, arm, Otherwise, nothing_else, otherwise, Statements, no_statements, ◌▹◌, Arms, no_arms, ◌⊳◌}
use Rattle.p8_tree.specs.declared.faults.Fault.{Fault}
use Rattle.p8_tree.specs.Faults.{first_of_two}
use Rattle.p8_fold.specs.Verdicts as verdicts
use Rattle.p8_kinds.specs.declared.rules.Rules.{Rules}
use Rattle.p8_kinds.specs.declared.rules.Rules.TheVariants as rules_case
use Rattle.p8_kinds.specs.declared.uses.Use.TheVariants as used
use Rattle.p8_kinds.specs.Environments.{Environment, kind_in}
use Rattle.p8_kinds.specs.Misuses.{Rule, in_method, in_data, misuse, name_alone}

-- by the rule of a method, or by that of DAT
abbrev pub rule_of : Rules → Environment → Rule
rule_of rules_case.Method env = in_method env
rule_of rules_case.Data env = in_data env

abbrev mutual
  pub first_in : Rule → Tree → Option Fault
  first_in r (node p form) = first_of_two (r.own p form) (first_inside r form)

  pub first_inside : Rule → Form → Option Fault
  first_inside r (Number n) = None
  first_inside r (Str text) = None
  first_inside r (Strings items) = if r.is_constant 0 then verdicts.first_in_text r.constants items else first_in_trees r items
  first_inside r Here = None
  first_inside r (Var v) = first_in_variable r v
  first_inside r (Address v) = first_in_variable r v
  first_inside r (Call trap object i method place args) = first_of_two (first_in_index r i) (first_in_trees r args)
  first_inside r (Unary operator e) = first_in r e
  first_inside r (Binary operator a b) = first_of_two (first_in r a) (first_in r b)
  first_inside r (Assign v operator e) = first_of_two (first_in_variable r v) (first_in r e)
  first_inside r (Change v effect) = first_in_variable r v
  first_inside r (ObjectAddress e) = first_in r e
  first_inside r (ObjConst object name place) = None
  first_inside r (Built code args) = if r.is_constant code then verdicts.first_in_trees r.constants args else first_in_trees r args
  first_inside r (Look code e xs) = first_of_two (first_in r e) (first_in_items r xs)

  pub first_in_variable : Rule → Variable → Option Fault
  first_in_variable r (Named name i place) = first_in_index r i
  first_in_variable r (Part name size i place) = first_in_index r i
  first_in_variable r (Memory size e i place) = first_of_two (first_in r e) (first_in_index r i)
  first_in_variable r (Register address x place) = first_in_bits r x

  pub first_in_index : Rule → Index → Option Fault
  first_in_index r no_index = None
  first_in_index r (index e) = first_in r e

  pub first_in_bits : Rule → Bits → Option Fault
  first_in_bits r whole = None
  first_in_bits r (bits x) = first_in_item r x

  pub first_in_item : Rule → Item → Option Fault
  first_in_item r (single e) = first_in r e
  first_in_item r (range low high) = first_of_two (first_in r low) (first_in r high)

  pub first_in_trees : Rule → Trees → Option Fault
  first_in_trees r no_trees = None
  first_in_trees r (es ▷ e) = first_of_two (first_in_trees r es) (first_in r e)

  pub first_in_items : Rule → Items → Option Fault
  first_in_items r no_items = None
  first_in_items r (xs ▸ x) = first_of_two (first_in_items r xs) (first_in_item r x)

abbrev pub first_in_strings : Rule → Trees → Option Fault
first_in_strings r items = first_inside r (Strings items)

abbrev pub first_in_built : Rule → ℕ → Trees → Option Fault
first_in_built r code args = first_inside r (Built code args)

abbrev pub first_done : Environment → Option (List ℕ × Place) → Tree → Option Fault
first_done env (Some called) e = misuse (used.Method 0) (kind_in env called.0) called.1
first_done env None e = first_in (in_method env) e

abbrev pub first_in_option : Environment → Option Tree → Option Fault
first_in_option env None = None
first_in_option env (Some e) = first_in (in_method env) e

abbrev pub first_in_course : Environment → Course → Option Fault
first_in_course env Forever = None
first_in_course env (Count e) = first_in (in_method env) e
first_in_course env (Before until e) = first_in (in_method env) e
first_in_course env (After until e) = first_in (in_method env) e
first_in_course env (From name a b step place) =
    first_of_two (misuse used.Variable (kind_in env name) place)
    (first_of_two (first_of_two (first_in (in_method env) a) (first_in (in_method env) b)) (first_in_option env step))

abbrev mutual
  pub first_in_statements : Environment → Statements → Option Fault
  first_in_statements env no_statements = None
  first_in_statements env (ss ▹ s) = first_of_two (first_in_statements env ss) (first_in_statement env s)

  pub first_in_statement : Environment → Statement → Option Fault
  first_in_statement env (statement p action) = first_in_action env action

  pub first_in_action : Environment → Action → Option Fault
  first_in_action env (Do e) = first_done env (name_alone e) e
  first_in_action env (If arms rest) = first_of_two (first_in_arms env arms) (first_in_otherwise env rest)
  first_in_action env (Case e arms rest) = first_of_two (first_of_two (first_in (in_method env) e) (first_in_arms env arms)) (first_in_otherwise env rest)
  first_in_action env (Repeat course ss) = first_of_two (first_in_course env course) (first_in_statements env ss)
  first_in_action env Next = None
  first_in_action env Quit = None
  first_in_action env (Return e) = first_in_option env e
  first_in_action env (Abort e) = first_in_option env e

  pub first_in_arm : Environment → Arm → Option Fault
  first_in_arm env (arm tests negated ss) = first_of_two (first_in_items (in_method env) tests) (first_in_statements env ss)

  pub first_in_otherwise : Environment → Otherwise → Option Fault
  first_in_otherwise env nothing_else = None
  first_in_otherwise env (otherwise ss) = first_in_statements env ss

  pub first_in_arms : Environment → Arms → Option Fault
  first_in_arms env no_arms = None
  first_in_arms env (xs ⊳ x) = first_of_two (first_in_arms env xs) (first_in_arm env x)
