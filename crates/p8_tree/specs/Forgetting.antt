-- Equality but for places: two trees are the same once each place is forgotten.
use Rattle.std.specs.Prelude.{◌≡◌, map, option_map}
use Rattle.p8_tree.specs.declared.places.Place.{Place}
use Rattle.p8_tree.specs.Expressions.{Tree, node, Form, Number, Str, Strings, Here, Var, Call, Unary, Binary, Assign, Change, Address, ObjectAddress}
use Rattle.p8_tree.specs.Expressions.{ObjConst, Built, Look, Variable, Named, Part, Memory, Register, Index, no_index, index, Bits, whole, bits}
use Rattle.p8_tree.specs.Expressions.{Item, single, range, Trees, no_trees, ◌▷◌, Items, no_items, ◌▸◌}
use Rattle.p8_tree.specs.Statements.{Course, Forever, Count, Before, After, From, Statement, statement, Action, Do, If, Case, Repeat, Next, Quit}
use Rattle.p8_tree.specs.Statements.{Return, Abort, Arm, arm, Otherwise, nothing_else, otherwise, Statements, no_statements, ◌▹◌, Arms, no_arms, ◌⊳◌}
use Rattle.p8_tree.specs.Sources as sources
use Rattle.p8_tree.specs.Sources.{Constant, Declared, Child, MethodTree, Datum, Instruction, Contents, Line, BlockTree, Source}

-- the one place that stands for all places
abbrev pub anywhere : Place
anywhere = record { line = 0; column = 0 }

abbrev mutual
  pub tree_anywhere : Tree → Tree
  tree_anywhere (node place form) = node anywhere (form_anywhere form)

  pub form_anywhere : Form → Form
  form_anywhere (Number n) = Number n
  form_anywhere (Str text) = Str text
  form_anywhere (Strings items) = Strings (trees_anywhere items)
  form_anywhere Here = Here
  form_anywhere (Var v) = Var (variable_anywhere v)
  form_anywhere (Call trap object i name place args) = Call trap object (index_anywhere i) name anywhere (trees_anywhere args)
  form_anywhere (Unary operator e) = Unary operator (tree_anywhere e)
  form_anywhere (Binary operator x y) = Binary operator (tree_anywhere x) (tree_anywhere y)
  form_anywhere (Assign v operator e) = Assign (variable_anywhere v) operator (tree_anywhere e)
  form_anywhere (Change v effect) = Change (variable_anywhere v) effect
  form_anywhere (Address v) = Address (variable_anywhere v)
  form_anywhere (ObjectAddress e) = ObjectAddress (tree_anywhere e)
  form_anywhere (ObjConst object name place) = ObjConst object name anywhere
  form_anywhere (Built code args) = Built code (trees_anywhere args)
  form_anywhere (Look code e xs) = Look code (tree_anywhere e) (items_anywhere xs)

  pub variable_anywhere : Variable → Variable
  variable_anywhere (Named name i place) = Named name (index_anywhere i) anywhere
  variable_anywhere (Part name size i place) = Part name size (index_anywhere i) anywhere
  variable_anywhere (Memory size e i place) = Memory size (tree_anywhere e) (index_anywhere i) anywhere
  variable_anywhere (Register address x place) = Register address (bits_anywhere x) anywhere

  pub index_anywhere : Index → Index
  index_anywhere no_index = no_index
  index_anywhere (index e) = index (tree_anywhere e)

  pub bits_anywhere : Bits → Bits
  bits_anywhere whole = whole
  bits_anywhere (bits x) = bits (item_anywhere x)

  pub item_anywhere : Item → Item
  item_anywhere (single e) = single (tree_anywhere e)
  item_anywhere (range low high) = range (tree_anywhere low) (tree_anywhere high)

  pub trees_anywhere : Trees → Trees
  trees_anywhere no_trees = no_trees
  trees_anywhere (es ▷ e) = trees_anywhere es ▷ tree_anywhere e

  pub items_anywhere : Items → Items
  items_anywhere no_items = no_items
  items_anywhere (xs ▸ x) = items_anywhere xs ▸ item_anywhere x

abbrev pub course_anywhere : Course → Course
course_anywhere Forever = Forever
course_anywhere (Count e) = Count (tree_anywhere e)
course_anywhere (Before until e) = Before until (tree_anywhere e)
course_anywhere (After until e) = After until (tree_anywhere e)
course_anywhere (From name a b step place) = From name (tree_anywhere a) (tree_anywhere b) (option_map tree_anywhere step) anywhere

abbrev mutual
  pub statement_anywhere : Statement → Statement
  statement_anywhere (statement place action) = statement anywhere (action_anywhere action)

  pub action_anywhere : Action → Action
  action_anywhere (Do e) = Do (tree_anywhere e)
  action_anywhere (If xs rest) = If (arms_anywhere xs) (otherwise_anywhere rest)
  action_anywhere (Case e xs rest) = Case (tree_anywhere e) (arms_anywhere xs) (otherwise_anywhere rest)
  action_anywhere (Repeat course body) = Repeat (course_anywhere course) (statements_anywhere body)
  action_anywhere Next = Next
  action_anywhere Quit = Quit
  action_anywhere (Return e) = Return (option_map tree_anywhere e)
  action_anywhere (Abort e) = Abort (option_map tree_anywhere e)

  pub arm_anywhere : Arm → Arm
  arm_anywhere (arm tests negated body) = arm (items_anywhere tests) negated (statements_anywhere body)

  pub otherwise_anywhere : Otherwise → Otherwise
  otherwise_anywhere nothing_else = nothing_else
  otherwise_anywhere (otherwise body) = otherwise (statements_anywhere body)

  pub statements_anywhere : Statements → Statements
  statements_anywhere no_statements = no_statements
  statements_anywhere (ss ▹ s) = statements_anywhere ss ▹ statement_anywhere s

  pub arms_anywhere : Arms → Arms
  arms_anywhere no_arms = no_arms
  arms_anywhere (xs ⊳ x) = arms_anywhere xs ⊳ arm_anywhere x

abbrev pub constant_anywhere : Constant → Constant
constant_anywhere x = record x { place = anywhere; value = option_map tree_anywhere x.value; step = option_map tree_anywhere x.step }

abbrev pub declared_anywhere : Declared → Declared
declared_anywhere x = record x { place = anywhere; count = option_map tree_anywhere x.count }

abbrev pub child_anywhere : Child → Child
child_anywhere x = record x { place = anywhere; count = option_map tree_anywhere x.count; file_place = anywhere }

abbrev pub method_anywhere : MethodTree → MethodTree
method_anywhere x = record x {
  place = anywhere;
  param_places = map (λ p. anywhere) x.param_places;
  result_place = option_map (λ p. anywhere) x.result_place;
  locals = map declared_anywhere x.locals;
  body = statements_anywhere x.body;
}

abbrev pub datum_anywhere : Datum → Datum
datum_anywhere x = record x { value = tree_anywhere x.value; count = option_map tree_anywhere x.count }

abbrev pub instruction_anywhere : Instruction → Instruction
instruction_anywhere x = record x {
  dest = option_map tree_anywhere x.dest;
  dest_place = anywhere;
  source = option_map tree_anywhere x.source;
  source_place = anywhere;
}

abbrev pub contents_anywhere : Contents → Contents
contents_anywhere sources.Nothing = sources.Nothing
contents_anywhere (sources.Data size xs) = sources.Data size (map datum_anywhere xs)
contents_anywhere (sources.Org e) = sources.Org (option_map tree_anywhere e)
contents_anywhere (sources.Res e) = sources.Res (option_map tree_anywhere e)
contents_anywhere (sources.Fit e) = sources.Fit (option_map tree_anywhere e)
contents_anywhere (sources.Instr x) = sources.Instr (instruction_anywhere x)

abbrev pub line_anywhere : Line → Line
line_anywhere x = record x { place = anywhere; word_place = anywhere; contents = contents_anywhere x.contents }

abbrev pub block_anywhere : BlockTree → BlockTree
block_anywhere (sources.Con xs) = sources.Con (map constant_anywhere xs)
block_anywhere (sources.Var xs) = sources.Var (map declared_anywhere xs)
block_anywhere (sources.Obj xs) = sources.Obj (map child_anywhere xs)
block_anywhere (sources.Method x) = sources.Method (method_anywhere x)
block_anywhere (sources.Dat xs) = sources.Dat (map line_anywhere xs)

abbrev pub source_anywhere : Source → Source
source_anywhere blocks = map block_anywhere blocks

-- the same but for places
abbrev pub IsSameTree : Tree → Tree → Type 0
IsSameTree x y = tree_anywhere x ≡ tree_anywhere y

abbrev pub IsSameSource : Source → Source → Type 0
IsSameSource x y = source_anywhere x ≡ source_anywhere y
