-- What is wrong with the names of a method's statements, and of the expressions of DAT.
--
-- A fault is a fact about a tree: each name, word and operator of it is looked at by itself. In a method a name has to have a
-- definition, of a kind that fits its use, and a call as many arguments as the method has parameters. What stands in CONSTANT
-- has to be constant, and what stands in STRING too, where each item is a string or the code of a character. In DAT a name has
-- to have a definition, and one before `#` has to be an object; whether its value is constant is looked at when the values are
-- put. Sources: the Propeller Manual v1.2, the Spin chapter; the numbers and places of refusals are this project's profile.
use Rattle.std.specs.Prelude.{◌≡◌, ◌⊎◌, ℕ, Bool, false, ◌==◌, not, IsTrue, List, Option, Some, None, is_some, option_map}
use Rattle.p8_tree.specs.declared.places.Place.{Place}
use Rattle.p8_tree.specs.Expressions.{Tree, node, Form, Number, Str, Strings, Here, Var, Call, Unary, Binary, Assign, Change, Address, ObjectAddress}
use Rattle.p8_tree.specs.Expressions.{ObjConst, Built, Look, Variable, Named, Part, Memory, Register, Index, no_index, index, Bits, whole, bits}
use Rattle.p8_tree.specs.Expressions.{Item, single, range, Trees, no_trees, ◌▷◌, Items, no_items, ◌▸◌}
use Rattle.p8_tree.specs.Statements.{Course, Forever, Count, Before, After, From, Statement, statement, Action, Do, If, Case, Repeat, Next, Quit}
use Rattle.p8_tree.specs.Statements.{Return, Abort, Arm, arm, Otherwise, nothing_else, otherwise, Statements, no_statements, ◌▹◌, Arms, no_arms, ◌⊳◌}
use Rattle.p8_tree.specs.Lists.{count_of_trees}
use Rattle.p8_tree.specs.declared.faults.Fault.{Fault}
use Rattle.p8_tree.specs.Faults.{fault}
use Rattle.p8_tree.specs.declared.refusal.Refusal.TheVariants.{Unknown, WrongArity}
use Rattle.p8_fold.specs.Meanings.{Setting}
use Rattle.p8_fold.specs.Values.{FaultInTrees, FaultInText, where_so}
use Rattle.p8_kinds.specs.declared.name_kinds.NameKind.{NameKind}
use Rattle.p8_kinds.specs.declared.name_kinds.NameKind.TheVariants as kind_case
use Rattle.p8_kinds.specs.declared.uses.Use.{Use}
use Rattle.p8_kinds.specs.declared.uses.Use.TheVariants as used
use Rattle.p8_kinds.specs.Uses.{wrong, argument_count}
use Rattle.p8_kinds.specs.Environments.{Environment, kind_in}

-- ---- one name

-- the fault of a name at its place, by its use and its kind
abbrev pub misuse : Use → Option NameKind → Place → Option Fault
misuse way k place = option_map (λ refusal. fault refusal place) (wrong way k)

-- `object.method`: the object's name, and then the method's among the PUBs of the object's file
abbrev pub misuse_behind : Environment → Option NameKind → List ℕ → ℕ → Place → Place → Option Fault
misuse_behind env (Some (kind_case.Object item position count)) method arguments first second = misuse (used.Method arguments) (env.public item method) second
misuse_behind env k method arguments first second = misuse used.Object k first

-- `object#name`: the object's name, and then the constant's among those of the object's file
abbrev pub misuse_of_constant : Environment → Option NameKind → List ℕ → List ℕ → Place → Place → Option Fault
misuse_of_constant env (Some (kind_case.Object item position count)) object name first second = where_so
    (not (is_some (env.constants.constant object name))) (fault Unknown second)
misuse_of_constant env k object name first second = misuse used.Object k first

-- ---- in a method

-- a variable that is written, or whose address is taken
abbrev pub misuse_of_variable : Environment → Variable → Option Fault
misuse_of_variable env (Named name i place) = misuse used.Variable (kind_in env name) place
misuse_of_variable env (Part name size i place) = misuse used.Variable (kind_in env name) place
misuse_of_variable env (Memory size e i place) = None
misuse_of_variable env (Register address x place) = None

-- one that is read, where a name alone may be any value
abbrev pub misuse_of_value : Environment → Variable → Option Fault
misuse_of_value env (Named name no_index place) = misuse used.Value (kind_in env name) place
misuse_of_value env v = misuse_of_variable env v

-- a call, of a method of the same object or of another one's
abbrev pub misuse_of_call : Environment → Option (List ℕ) → List ℕ → ℕ → Place → Place → Option Fault
misuse_of_call env None method arguments first second = misuse (used.Method arguments) (kind_in env method) second
misuse_of_call env (Some object) method arguments first second = misuse_behind env (kind_in env object) method arguments first second

-- a built-in has its number of arguments
abbrev pub misuse_of_arguments : ℕ → ℕ → Place → Option Fault
misuse_of_arguments code arguments place = where_so (not (arguments == argument_count code)) (fault WrongArity place)

-- what is wrong with an expression's own name or word: at most one thing
abbrev pub own_misuse : Environment → Place → Form → Option Fault
own_misuse env p (Var v) = misuse_of_value env v
own_misuse env p (Address v) = misuse_of_variable env v
own_misuse env p (Assign v operator e) = misuse_of_variable env v
own_misuse env p (Change v effect) = misuse_of_variable env v
own_misuse env p (Call trap object i method place args) = misuse_of_call env object method (count_of_trees args) p place
own_misuse env p (ObjConst object name place) = misuse_of_constant env (kind_in env object) object name p place
own_misuse env p (Built code args) = misuse_of_arguments code (count_of_trees args) p
own_misuse env p _ = None

-- ---- in DAT

abbrev pub unknown : Option NameKind → Place → Option Fault
unknown k place = where_so (not (is_some k)) (fault Unknown place)

abbrev pub unknown_variable : Environment → Variable → Option Fault
unknown_variable env (Named name i place) = unknown (kind_in env name) place
unknown_variable env (Part name size i place) = unknown (kind_in env name) place
unknown_variable env (Memory size e i place) = None
unknown_variable env (Register address x place) = None

-- `object.method`, where the object is one: else its name alone
abbrev pub unknown_behind : Environment → Option NameKind → List ℕ → Place → Place → Option Fault
unknown_behind env (Some (kind_case.Object item position count)) method first second = unknown (env.public item method) second
unknown_behind env k method first second = unknown k first

abbrev pub unknown_call : Environment → Option (List ℕ) → List ℕ → Place → Place → Option Fault
unknown_call env None method first second = unknown (kind_in env method) second
unknown_call env (Some object) method first second = unknown_behind env (kind_in env object) method first second

abbrev pub own_unknown : Environment → Place → Form → Option Fault
own_unknown env p (Var v) = unknown_variable env v
own_unknown env p (Address v) = unknown_variable env v
own_unknown env p (Assign v operator e) = unknown_variable env v
own_unknown env p (Change v effect) = unknown_variable env v
own_unknown env p (Call trap object i method place args) = unknown_call env object method p place
own_unknown env p (ObjConst object name place) = misuse_of_constant env (kind_in env object) object name p place
own_unknown env p _ = None

-- ---- in all of an expression

-- a rule, by what is wrong with an expression's own name or word
pub record Rule : Type 0 where
  pub own : Place → Form → Option Fault
  -- whether the arguments of a built-in have to be constant there and then; the items of STRING are as that of CONSTANT, 00
  pub is_constant : ℕ → Bool
  -- what names mean to these
  pub constants : Setting

-- in a method, where the argument of CONSTANT and the items of STRING have to be constant
abbrev pub in_method : Environment → Rule
in_method env = record { own = own_misuse env; is_constant = λ code. code == 0; constants = env.constants }

abbrev pub in_data : Environment → Rule
in_data env = record { own = own_unknown env; is_constant = λ code. false; constants = env.constants }

-- the faults of a tree by a rule: its own, and those of the expressions inside it
abbrev mutual
  pub BrokenIn : Rule → Tree → Fault → Type 0
  BrokenIn r (node p form) f = (r.own p form ≡ Some f) ⊎ BrokenInside r form f

  pub BrokenInside : Rule → Form → Fault → Type 0
  BrokenInside r (Number n) f = ⊥
  BrokenInside r (Str text) f = ⊥
  BrokenInside r (Strings items) f =
      (IsTrue (r.is_constant 0) × FaultInText r.constants items f) ⊎ (IsTrue (not (r.is_constant 0)) × BrokenInTrees r items f)
  BrokenInside r Here f = ⊥
  BrokenInside r (Var v) f = BrokenInVariable r v f
  BrokenInside r (Address v) f = BrokenInVariable r v f
  BrokenInside r (Call trap object i method place args) f = BrokenInIndex r i f ⊎ BrokenInTrees r args f
  BrokenInside r (Unary operator e) f = BrokenIn r e f
  BrokenInside r (Binary operator a b) f = BrokenIn r a f ⊎ BrokenIn r b f
  BrokenInside r (Assign v operator e) f = BrokenInVariable r v f ⊎ BrokenIn r e f
  BrokenInside r (Change v effect) f = BrokenInVariable r v f
  BrokenInside r (ObjectAddress e) f = BrokenIn r e f
  BrokenInside r (ObjConst object name place) f = ⊥
  BrokenInside r (Built code args) f =
      (IsTrue (r.is_constant code) × FaultInTrees r.constants args f) ⊎ (IsTrue (not (r.is_constant code)) × BrokenInTrees r args f)
  BrokenInside r (Look code e xs) f = BrokenIn r e f ⊎ BrokenInItems r xs f

  pub BrokenInVariable : Rule → Variable → Fault → Type 0
  BrokenInVariable r (Named name i place) f = BrokenInIndex r i f
  BrokenInVariable r (Part name size i place) f = BrokenInIndex r i f
  BrokenInVariable r (Memory size e i place) f = BrokenIn r e f ⊎ BrokenInIndex r i f
  BrokenInVariable r (Register address x place) f = BrokenInBits r x f

  pub BrokenInIndex : Rule → Index → Fault → Type 0
  BrokenInIndex r no_index f = ⊥
  BrokenInIndex r (index e) f = BrokenIn r e f

  pub BrokenInBits : Rule → Bits → Fault → Type 0
  BrokenInBits r whole f = ⊥
  BrokenInBits r (bits x) f = BrokenInItem r x f

  pub BrokenInItem : Rule → Item → Fault → Type 0
  BrokenInItem r (single e) f = BrokenIn r e f
  BrokenInItem r (range low high) f = BrokenIn r low f ⊎ BrokenIn r high f

  pub BrokenInTrees : Rule → Trees → Fault → Type 0
  BrokenInTrees r no_trees f = ⊥
  BrokenInTrees r (es ▷ e) f = BrokenInTrees r es f ⊎ BrokenIn r e f

  pub BrokenInItems : Rule → Items → Fault → Type 0
  BrokenInItems r no_items f = ⊥
  BrokenInItems r (xs ▸ x) f = BrokenInItems r xs f ⊎ BrokenInItem r x f

-- an expression of a method, and one of DAT
abbrev pub MisuseIn : Environment → Tree → Fault → Type 0
MisuseIn env e f = BrokenIn (in_method env) e f

abbrev pub UnknownIn : Environment → Tree → Fault → Type 0
UnknownIn env e f = BrokenIn (in_data env) e f

-- ---- in statements

-- a name alone as a whole statement is called without arguments
abbrev pub plain_name : Variable → Option (List ℕ × Place)
plain_name (Named name no_index place) = Some (name, place)
plain_name v = None

abbrev pub name_alone : Tree → Option (List ℕ × Place)
name_alone (node p (Var v)) = plain_name v
name_alone e = None

abbrev pub MisuseDone : Environment → Option (List ℕ × Place) → Tree → Fault → Type 0
MisuseDone env (Some called) e f = misuse (used.Method 0) (kind_in env called.0) called.1 ≡ Some f
MisuseDone env None e f = MisuseIn env e f

abbrev pub MisuseInOption : Environment → Option Tree → Fault → Type 0
MisuseInOption env None f = ⊥
MisuseInOption env (Some e) f = MisuseIn env e f

abbrev pub MisuseInItems : Environment → Items → Fault → Type 0
MisuseInItems env xs f = BrokenInItems (in_method env) xs f

-- how a REPEAT goes on; its counter is a variable that is written
abbrev pub MisuseInCourse : Environment → Course → Fault → Type 0
MisuseInCourse env Forever f = ⊥
MisuseInCourse env (Count e) f = MisuseIn env e f
MisuseInCourse env (Before until e) f = MisuseIn env e f
MisuseInCourse env (After until e) f = MisuseIn env e f
MisuseInCourse env (From name a b step place) f =
    (misuse used.Variable (kind_in env name) place ≡ Some f) ⊎ ((MisuseIn env a f ⊎ MisuseIn env b f) ⊎ MisuseInOption env step f)

abbrev mutual
  pub MisuseInStatements : Environment → Statements → Fault → Type 0
  MisuseInStatements env no_statements f = ⊥
  MisuseInStatements env (ss ▹ s) f = MisuseInStatements env ss f ⊎ MisuseInStatement env s f

  pub MisuseInStatement : Environment → Statement → Fault → Type 0
  MisuseInStatement env (statement p action) f = MisuseInAction env action f

  pub MisuseInAction : Environment → Action → Fault → Type 0
  MisuseInAction env (Do e) f = MisuseDone env (name_alone e) e f
  MisuseInAction env (If arms rest) f = MisuseInArms env arms f ⊎ MisuseInOtherwise env rest f
  MisuseInAction env (Case e arms rest) f = (MisuseIn env e f ⊎ MisuseInArms env arms f) ⊎ MisuseInOtherwise env rest f
  MisuseInAction env (Repeat course ss) f = MisuseInCourse env course f ⊎ MisuseInStatements env ss f
  MisuseInAction env Next f = ⊥
  MisuseInAction env Quit f = ⊥
  MisuseInAction env (Return e) f = MisuseInOption env e f
  MisuseInAction env (Abort e) f = MisuseInOption env e f

  pub MisuseInArm : Environment → Arm → Fault → Type 0
  MisuseInArm env (arm tests negated ss) f = MisuseInItems env tests f ⊎ MisuseInStatements env ss f

  pub MisuseInOtherwise : Environment → Otherwise → Fault → Type 0
  MisuseInOtherwise env nothing_else f = ⊥
  MisuseInOtherwise env (otherwise ss) f = MisuseInStatements env ss f

  pub MisuseInArms : Environment → Arms → Fault → Type 0
  MisuseInArms env no_arms f = ⊥
  MisuseInArms env (xs ⊳ x) f = MisuseInArms env xs f ⊎ MisuseInArm env x f
