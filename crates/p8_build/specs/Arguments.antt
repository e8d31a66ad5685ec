-- How many arguments a call is given and how many are expected, where these numbers differ (Propeller Manual v1.2, "PUB", "OBJ" and the built-ins of
-- the Spin chapter).
--
-- A method is called with as many arguments as it has parameters, and a name alone with none. Of several methods of one name the first counts; of an
-- object's file its PUBs are seen.
use Rattle.std.specs.Prelude.{ℕ, ◌==◌, if◌then◌else◌, List, [], ◌∷◌, length, Option, Some, None}
use Rattle.std.specs.Option.{option_or}
use Rattle.std.specs.Map.{lookup}
use Rattle.std.specs.Str.{bytes_eq}
use Rattle.p8_tree.specs.declared.places.Place.{Place}
use Rattle.p8_tree.specs.Expressions.{Tree, node, Form, Number, Str, Strings, Here, Var, Call, Unary, Binary, Assign, Change, Address, ObjectAddress}
use Rattle.p8_tree.specs.Expressions.{ObjConst, Built, Look, Variable, Named, Part, Memory, Register, Index, no_index, index, Bits, whole, bits}
use Rattle.p8_tree.specs.Expressions.{Item, single, range, Trees, no_trees, ◌▷◌, Items, no_items, ◌▸◌}
use Rattle.p8_tree.specs.Statements.{Course, Forever, Count, Before, After, From, Statement, statement, Action, Do, If, Case, Repeat, Next, Quit}
use Rattle.p8_tree.specs.Statements.{Return, Abort, Arm, arm, Otherwise, nothing_else, otherwise, Statements, no_statements, ◌▹◌, Arms, no_arms, ◌⊳◌}
use Rattle.p8_tree.specs.Sources.{Source}
use Rattle.p8_tree.specs.Lists.{count_of_trees}
use Rattle.p8_tree.specs.declared.faults.Fault.{Fault}
use Rattle.p8_tree.specs.Faults.{is_same_place}
use Rattle.p8_constants.specs.FileItems as file
use Rattle.p8_constants.specs.FileItems.{items}
use Rattle.p8_constants.specs.Rules.{InAny, HasTooManyParams}
use Rattle.p8_kinds.specs.declared.children.Child.{Child}
use Rattle.p8_kinds.specs.declared.children.ChildMethod.{ChildMethod}
use Rattle.p8_kinds.specs.declared.children.Children.{Children}
use Rattle.p8_kinds.specs.Uses.{argument_count}
use Rattle.p8_names.specs.Settings.{with_children}
use Rattle.p8_build.specs.declared.sizes.Size.{Size}
use Rattle.p8_build.specs.declared.sizes.Size.TheVariants as size_case

-- ---- how many are expected

-- by a method of the same file
abbrev pub params_in : file.Item → (name : List ℕ) → Option ℕ
params_in (file.method m) name = if bytes_eq name m.name then Some (length m.params) else None
params_in x name = None

abbrev pub params_of : List file.Item → (name : List ℕ) → Option ℕ
params_of [] name = None
params_of (x ∷ xs) name = option_or (params_in x name) (params_of xs name)

-- by a PUB of an object's file
abbrev pub params_among : List ChildMethod → (name : List ℕ) → Option ℕ
params_among [] name = None
params_among (m ∷ ms) name = if bytes_eq name m.name then Some m.params else params_among ms name

abbrev pub params_seen : Option Child → (name : List ℕ) → Option ℕ
params_seen None name = None
params_seen (Some c) name = params_among c.methods name

-- no method has more than 15 parameters
abbrev pub AreFew : List file.Item → Type 0
AreFew xs = (g : Fault) → ¬ InAny HasTooManyParams xs g

-- ---- one call

-- where a call is looked for, and what is known of the names there
pub record Search : Type 0 where
  pub items : List file.Item
  pub children : List Child
  pub place : Place

-- so many are given, and as many are expected or others
abbrev pub differing : (wanted : Option ℕ) → (given : ℕ) → Option Size
differing None given = None
differing (Some wanted) given = if wanted == given then None else Some (size_case.Arguments wanted given)

abbrev pub told_at : Search → Place → Option Size → Option Size
told_at s place told = if is_same_place s.place place then told else None

abbrev pub of_variable : Search → Variable → Option Size
of_variable s (Named name no_index place) = told_at s place (differing (params_of s.items name) 0)
of_variable s v = None

abbrev pub wanted_by : Search → (object : Option (List ℕ)) → (method : List ℕ) → Option ℕ
wanted_by s None method = params_of s.items method
wanted_by s (Some object) method = params_seen (lookup (bytes_eq object) (with_children s.items s.children)) method

-- what is told of an expression by itself
abbrev pub own_told : Search → Place → Form → Option Size
own_told s p (Var v) = of_variable s v
own_told s p (Call trap object i method place args) = told_at s place (differing (wanted_by s object method) (count_of_trees args))
own_told s p (Built code args) = told_at s p (differing (Some (argument_count code)) (count_of_trees args))
own_told s p _ = None

-- ---- the first one of an expression

abbrev mutual
  pub told_in : Search → Tree → Option Size
  told_in s (node p form) = option_or (own_told s p form) (told_inside s form)

  pub told_inside : Search → Form → Option Size
  told_inside s (Number n) = None
  told_inside s (Str text) = None
  told_inside s (Strings es) = None
  told_inside s Here = None
  told_inside s (Var v) = in_variable s v
  told_inside s (Call trap object i method place args) = option_or (in_index s i) (in_trees s args)
  told_inside s (Unary operator e) = told_in s e
  told_inside s (Binary operator a b) = option_or (told_in s a) (told_in s b)
  told_inside s (Assign v operator e) = option_or (in_variable s v) (told_in s e)
  told_inside s (Change v effect) = in_variable s v
  told_inside s (Address v) = in_variable s v
  told_inside s (ObjectAddress e) = told_in s e
  told_inside s (ObjConst object name place) = None
  told_inside s (Built code args) = in_trees s args
  told_inside s (Look code e xs) = option_or (told_in s e) (in_items s xs)

  pub in_variable : Search → Variable → Option Size
  in_variable s (Named name i place) = in_index s i
  in_variable s (Part name size i place) = in_index s i
  in_variable s (Memory size e i place) = option_or (told_in s e) (in_index s i)
  in_variable s (Register address x place) = in_bits s x

  pub in_index : Search → Index → Option Size
  in_index s no_index = None
  in_index s (index e) = told_in s e

  pub in_bits : Search → Bits → Option Size
  in_bits s whole = None
  in_bits s (bits x) = in_item s x

  pub in_item : Search → Item → Option Size
  in_item s (single e) = told_in s e
  in_item s (range low high) = option_or (told_in s low) (told_in s high)

  pub in_trees : Search → Trees → Option Size
  in_trees s no_trees = None
  in_trees s (es ▷ e) = option_or (in_trees s es) (told_in s e)

  pub in_items : Search → Items → Option Size
  in_items s no_items = None
  in_items s (xs ▸ x) = option_or (in_items s xs) (in_item s x)

-- ---- the first one of statements

abbrev pub in_option : Search → Option Tree → Option Size
in_option s None = None
in_option s (Some e) = told_in s e

abbrev pub in_course : Search → Course → Option Size
in_course s Forever = None
in_course s (Count e) = told_in s e
in_course s (Before until e) = told_in s e
in_course s (After until e) = told_in s e
in_course s (From name a b step place) = option_or (option_or (told_in s a) (told_in s b)) (in_option s step)

abbrev mutual
  pub in_statements : Search → Statements → Option Size
  in_statements s no_statements = None
  in_statements s (xs ▹ x) = option_or (in_statements s xs) (in_statement s x)

  pub in_statement : Search → Statement → Option Size
  in_statement s (statement p action) = in_action s action

  pub in_action : Search → Action → Option Size
  in_action s (Do e) = told_in s e
  in_action s (If arms rest) = option_or (in_arms s arms) (in_otherwise s rest)
  in_action s (Case e arms rest) = option_or (option_or (told_in s e) (in_arms s arms)) (in_otherwise s rest)
  in_action s (Repeat course body) = option_or (in_course s course) (in_statements s body)
  in_action s Next = None
  in_action s Quit = None
  in_action s (Return e) = in_option s e
  in_action s (Abort e) = in_option s e

  pub in_arm : Search → Arm → Option Size
  in_arm s (arm tests negated body) = option_or (in_items s tests) (in_statements s body)

  pub in_otherwise : Search → Otherwise → Option Size
  in_otherwise s nothing_else = None
  in_otherwise s (otherwise body) = in_statements s body

  pub in_arms : Search → Arms → Option Size
  in_arms s no_arms = None
  in_arms s (xs ⊳ x) = option_or (in_arms s xs) (in_arm s x)

-- ---- a file

abbrev pub in_method : Search → file.Item → Option Size
in_method s (file.method m) = in_statements s m.body
in_method s x = None

abbrev pub in_methods : Search → List file.Item → Option Size
in_methods s [] = None
in_methods s (x ∷ xs) = option_or (in_method s x) (in_methods s xs)

-- the first call at a place of a file with another number of arguments than is expected
abbrev pub arguments_at : Source → Children → Place → Option Size
arguments_at source children place = in_methods (record { items = items source; children = children.items; place = place }) (items source)
