-- What the code's trees stand for: the same trees, without where they lie in memory.
use Rattle.std.specs.Prelude.{List, [], ◌∷◌, map, option_map}
use Rattle.p8_tree.specs.Expressions.{Tree, node, Form, Number, Str, Strings, Here, Var, Call, Unary, Binary, Assign, Change, Address, ObjectAddress}
use Rattle.p8_tree.specs.Expressions.{ObjConst, Built, Look, Variable, Named, Part, Memory, Register, Index, no_index, index, Bits, whole, bits}
use Rattle.p8_tree.specs.Expressions.{Item, single, range, Trees, no_trees, ◌▷◌, Items, no_items, ◌▸◌}
use Rattle.p8_tree.specs.Statements as statements
use Rattle.p8_tree.specs.Statements.{Course, Statement, statement, Action, Arm, arm, Otherwise, nothing_else, otherwise, Statements, no_statements}
use Rattle.p8_tree.specs.Statements.{◌▹◌, Arms, no_arms, ◌⊳◌}
use Rattle.p8_tree.specs.Sources as sources
use Rattle.p8_tree.specs.Sources.{Constant, Declared, Child, MethodTree, Datum, Instruction, Contents, Line, BlockTree, Source}
use Rattle.p8_tree.specs.declared.expressions.ExprKind as kind
use Rattle.p8_tree.specs.declared.expressions.Expr as expr
use Rattle.p8_tree.specs.declared.expressions.Target as target
use Rattle.p8_tree.specs.declared.expressions.Call as call
use Rattle.p8_tree.specs.declared.expressions.Item as item
use Rattle.p8_tree.specs.declared.statements.StmtKind as stmt_kind
use Rattle.p8_tree.specs.declared.statements.Stmt as stmt
use Rattle.p8_tree.specs.declared.statements.Arm as code_arm
use Rattle.p8_tree.specs.declared.statements.Loop as loop
use Rattle.p8_tree.specs.declared.statements.Loop.TheVariants as loop_case
use Rattle.p8_tree.specs.declared.sources.ConItem.{ConItem}
use Rattle.p8_tree.specs.declared.sources.VarItem.{VarItem}
use Rattle.p8_tree.specs.declared.sources.ObjItem.{ObjItem}
use Rattle.p8_tree.specs.declared.sources.Method as method
use Rattle.p8_tree.specs.declared.sources.DatItem.{DatItem}
use Rattle.p8_tree.specs.declared.sources.InstrLine.{InstrLine}
use Rattle.p8_tree.specs.declared.sources.DatBody as dat_body
use Rattle.p8_tree.specs.declared.sources.DatBody.TheVariants as body_case
use Rattle.p8_tree.specs.declared.sources.DatLine.{DatLine}
use Rattle.p8_tree.specs.declared.sources.Block as block
use Rattle.p8_tree.specs.declared.sources.Block.TheVariants as block_case
use Rattle.p8_tree.specs.declared.sources.SourceFile.{SourceFile}
use Rattle.p8_tree.specs.Projects.{NamedSource}
use Rattle.p8_tree.specs.declared.projects.ProjectFile.{ProjectFile}
use Rattle.p8_tree.specs.declared.projects.Project.{Project}

abbrev mutual
  pub form_of : kind.ExprKind → Form
  form_of (kind.Number n) = Number n
  form_of (kind.Str text) = Str text
  form_of (kind.Strings' shape row) = Strings (trees_from no_trees row)
  form_of kind.Here = Here
  form_of (kind.Var v) = Var (variable_of v)
  form_of (kind.Call c) = call_of c
  form_of (kind.Unary' operator b place e) = Unary operator (node place (form_of e))
  form_of (kind.Binary' operator b p x c q y) = Binary operator (node p (form_of x)) (node q (form_of y))
  form_of (kind.Assign' v operator b place e) = Assign (variable_of v) operator (node place (form_of e))
  form_of (kind.Change v effect) = Change (variable_of v) effect
  form_of (kind.Address v) = Address (variable_of v)
  form_of (kind.ObjectAddress' b place e) = ObjectAddress (node place (form_of e))
  form_of (kind.ObjConst object name place) = ObjConst object name place
  form_of (kind.Built' code shape row) = Built code (trees_from no_trees row)
  form_of (kind.Look' code b place e shape row) = Look code (node place (form_of e)) (items_from no_items row)

  pub variable_of : target.Target → Variable
  variable_of (target.Named' name i place) = Named name (index_of i) place
  variable_of (target.Part' name size i place) = Part name size (index_of i) place
  variable_of (target.Memory' size b p e i place) = Memory size (node p (form_of e)) (index_of i) place
  variable_of (target.Register' address x place) = Register address (bits_of x) place

  pub call_of : call.Call → Form
  call_of (call.Call' trap object i name place shape row) = Call trap object (index_of i) name place (trees_from no_trees row)

  pub item_of : item.Item → Item
  item_of (item.Item' place e high) = item_with (node place (form_of e)) high

  pub item_with : Tree → item.Held-Item-high → Item
  item_with low item.Item-high-None' = single low
  item_with low (item.Item-high-Some' place e) = range low (node place (form_of e))

  pub index_of : target.Held-Target-Named-1 → Index
  index_of target.Target-Named-1-None' = no_index
  index_of (target.Target-Named-1-Some' b place e) = index (node place (form_of e))

  pub bits_of : target.Held-Target-Register-1 → Bits
  bits_of target.Target-Register-1-None' = whole
  bits_of (target.Target-Register-1-Some' b x) = bits (item_of x)

  pub trees_from : Trees → {n : _} → kind.Row_of-Expr n → Trees
  trees_from before kind.end_of-Expr = before
  trees_from before (kind.more_of-Expr place e rest) = trees_from (before ▷ node place (form_of e)) rest

  pub items_from : Items → {n : _} → kind.Row_of-Item n → Items
  items_from before kind.end_of-Item = before
  items_from before (kind.more_of-Item x rest) = items_from (before ▸ item_of x) rest

abbrev pub tree_of : expr.Expr → Tree
tree_of e = node e.place (form_of e.kind)

abbrev pub trees_after : Trees → List expr.Expr → Trees
trees_after before [] = before
trees_after before (e ∷ rest) = trees_after (before ▷ tree_of e) rest

-- the trees of a list of expressions
abbrev pub trees_of : List expr.Expr → Trees
trees_of es = trees_after no_trees es

abbrev pub items_after : Items → List item.Item → Items
items_after before [] = before
items_after before (x ∷ rest) = items_after (before ▸ item_of x) rest

abbrev pub items_of : List item.Item → Items
items_of xs = items_after no_items xs

abbrev pub course_of : loop.Loop → Course
course_of loop_case.Forever = statements.Forever
course_of (loop_case.Count e) = statements.Count (tree_of e)
course_of (loop_case.Before until e) = statements.Before until (tree_of e)
course_of (loop_case.After until e) = statements.After until (tree_of e)
course_of (loop_case.From name a b step place) = statements.From name (tree_of a) (tree_of b) (option_map tree_of step) place

abbrev mutual
  pub action_of : stmt_kind.StmtKind → Action
  action_of (stmt_kind.Do e) = statements.Do (tree_of e)
  action_of (stmt_kind.If' shape row rest) = statements.If (arms_from no_arms row) (otherwise_of rest)
  action_of (stmt_kind.Case' e shape row rest) = statements.Case (tree_of e) (arms_from no_arms row) (otherwise_of rest)
  action_of (stmt_kind.Repeat' course shape row) = statements.Repeat (course_of course) (statements_from no_statements row)
  action_of stmt_kind.Next = statements.Next
  action_of stmt_kind.Quit = statements.Quit
  action_of (stmt_kind.Return e) = statements.Return (option_map tree_of e)
  action_of (stmt_kind.Abort e) = statements.Abort (option_map tree_of e)

  pub arm_of : code_arm.Arm → Arm
  arm_of (code_arm.Arm' tests negated shape row) = arm (items_of tests) negated (statements_from no_statements row)

  pub otherwise_of : stmt_kind.Held-StmtKind-If-1 → Otherwise
  otherwise_of stmt_kind.None' = nothing_else
  otherwise_of (stmt_kind.Some' shape row) = otherwise (statements_from no_statements row)

  pub statements_from : Statements → {n : _} → stmt_kind.Row_of-Stmt n → Statements
  statements_from before stmt_kind.end_of-Stmt = before
  statements_from before (stmt_kind.more_of-Stmt place k rest) = statements_from (before ▹ statement place (action_of k)) rest

  pub arms_from : Arms → {n : _} → stmt_kind.Row_of-Arm n → Arms
  arms_from before stmt_kind.end_of-Arm = before
  arms_from before (stmt_kind.more_of-Arm x rest) = arms_from (before ⊳ arm_of x) rest

abbrev pub statement_of : stmt.Stmt → Statement
statement_of s = statement s.place (action_of s.kind)

abbrev pub statements_after : Statements → List stmt.Stmt → Statements
statements_after before [] = before
statements_after before (s ∷ rest) = statements_after (before ▹ statement_of s) rest

-- the trees of a list of statements
abbrev pub statements_of : List stmt.Stmt → Statements
statements_of ss = statements_after no_statements ss

abbrev pub arms_after : Arms → List code_arm.Arm → Arms
arms_after before [] = before
arms_after before (x ∷ rest) = arms_after (before ⊳ arm_of x) rest

abbrev pub arms_of : List code_arm.Arm → Arms
arms_of xs = arms_after no_arms xs

abbrev pub constant_of : ConItem → Constant
constant_of x = record { place = x.place; name = x.name; value = option_map tree_of x.value; step = option_map tree_of x.step; sets = x.sets }

abbrev pub declared_of : VarItem → Declared
declared_of x = record { place = x.place; size = x.size; name = x.name; count = option_map tree_of x.count }

abbrev pub child_of : ObjItem → Child
child_of x = record { place = x.place; name = x.name; count = option_map tree_of x.count; file = x.file; file_place = x.file_place }

abbrev pub method_of : method.Method → MethodTree
method_of x = record {
  place = x.place;
  public = x.public;
  name = x.name;
  params = x.params;
  param_places = x.param_places;
  result_name = x.result;
  result_place = x.result_place;
  locals = map declared_of x.locals;
  body = statements_of x.body;
}

abbrev pub datum_of : DatItem → Datum
datum_of x = record { size = x.size; value = tree_of x.value; count = option_map tree_of x.count }

abbrev pub instruction_of : InstrLine → Instruction
instruction_of x = record {
  cond = x.cond;
  word = x.word;
  dest = option_map tree_of x.dest;
  dest_place = x.dest_place;
  immediate = x.immediate;
  source = option_map tree_of x.source;
  source_place = x.source_place;
  effects = x.effects;
}

abbrev pub contents_of : dat_body.DatBody → Contents
contents_of body_case.Nothing = sources.Nothing
contents_of (body_case.Data size xs) = sources.Data size (map datum_of xs)
contents_of (body_case.Org e) = sources.Org (option_map tree_of e)
contents_of (body_case.Res e) = sources.Res (option_map tree_of e)
contents_of (body_case.Fit e) = sources.Fit (option_map tree_of e)
contents_of (body_case.Instr x) = sources.Instr (instruction_of x)

abbrev pub line_of : DatLine → Line
line_of x = record { place = x.place; label = x.label; word_place = x.word_place; contents = contents_of x.body }

abbrev pub block_of : block.Block → BlockTree
block_of (block_case.Con xs) = sources.Con (map constant_of xs)
block_of (block_case.Var xs) = sources.Var (map declared_of xs)
block_of (block_case.Obj xs) = sources.Obj (map child_of xs)
block_of (block_case.Method x) = sources.Method (method_of x)
block_of (block_case.Dat xs) = sources.Dat (map line_of xs)

abbrev pub source_of : SourceFile → Source
source_of x = map block_of x.blocks

abbrev pub named_source_of : ProjectFile → NamedSource
named_source_of x = record { name = x.name; tree = source_of x.tree }

-- the files of a project, in order
abbrev pub named_sources_of : Project → List NamedSource
named_sources_of x = map named_source_of x.files
