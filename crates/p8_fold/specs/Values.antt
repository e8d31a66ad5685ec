-- The value of an expression where a constant is needed, and what is wrong with it.
--
-- The value is that of the tree under a meaning of names: words by the formulas of the operators, each reduced before the
-- next. A tree that isn't constant has none. What is wrong is a set of faults: each name, word and operator of the tree is
-- looked at by itself. Sources: the Propeller Manual v1.2, "CON" and "Operators" of the Spin chapter; the numbers and places
-- of refusals are this project's profile.
use Rattle.std.specs.Prelude.{◌≡◌, ◌⊎◌, ℕ, ◌%◌, ◌^◌, Bool, false, nat_le, ◌==◌, ◌&&◌, not, if◌then◌else◌, List, [], ◌∷◌, ◌++◌, Option, Some, None}
use Rattle.p8_tree.specs.declared.places.Place.{Place}
use Rattle.p8_tree.specs.Expressions.{Tree, node, Form, Number, Str, Strings, Here, Var, Call, Unary, Binary, Assign, Change, Address, ObjectAddress}
use Rattle.p8_tree.specs.Expressions.{ObjConst, Built, Look, Variable, Named, Part, Memory, Register, Index, no_index, index, Bits, whole, bits}
use Rattle.p8_tree.specs.Expressions.{Item, single, range, Trees, no_trees, ◌▷◌, Items, no_items, ◌▸◌}
use Rattle.p8_tree.specs.declared.faults.Fault.{Fault}
use Rattle.p8_tree.specs.Faults.{fault, IsFirstFault}
use Rattle.p8_tree.specs.declared.refusal.Refusal.TheVariants.{NotConstant, ZeroDivisor, Unknown, WrongKind, NotCharacter}
use Rattle.p8_fold.specs.declared.meanings.Here.{Here as Surroundings}
use Rattle.p8_fold.specs.declared.meanings.Meaning.{Meaning}
use Rattle.p8_fold.specs.declared.meanings.Meaning.TheVariants as meaning_case
use Rattle.p8_fold.specs.Meanings.{Setting, meaning_of, value_of_meaning, address_of_meaning, given}
use Rattle.p8_words.specs.Operators.{or_zero, unary_result, binary_result, divides}

-- ---- values

-- the value of a name after `#`: the name before it is that of an object, and it that of a constant of the object's file
abbrev pub constant_of : Setting → Option Meaning → List ℕ → List ℕ → Option ℕ
constant_of s (Some meaning_case.Object) object name = given value_of_meaning (s.constant object name)
constant_of s _ object name = None

abbrev pub before : ℕ → Option ℕ → Option ℕ
before operator None = None
before operator (Some a) = unary_result operator a

-- a zero divisor gives no value
abbrev pub between : ℕ → Option ℕ → Option ℕ → Option ℕ
between operator None right = None
between operator (Some a) None = None
between operator (Some a) (Some b) = if divides operator && (b == 0) then None else binary_result operator a b

-- the value of a register's name: its address, where registers have values
abbrev pub value_of_register : Surroundings → ℕ → Option ℕ
value_of_register here address = if here.registers then Some address else None

abbrev mutual
  pub value : Setting → Tree → Option ℕ
  value s (node place form) = value_of_form s form

  pub value_of_form : Setting → Form → Option ℕ
  value_of_form s (Number n) = Some n
  value_of_form s Here = s.here.address
  value_of_form s (Var v) = value_of_variable s v
  value_of_form s (Address v) = address_of s v
  value_of_form s (ObjConst object name place) = constant_of s (meaning_of s object) object name
  value_of_form s (Unary operator e) = before operator (value s e)
  value_of_form s (Binary operator a b) = between operator (value s a) (value s b)
  value_of_form s (Built code args) = if code == 0 then value_of_one s args else None
  value_of_form s _ = None

  -- a name alone, or a register
  pub value_of_variable : Setting → Variable → Option ℕ
  value_of_variable s (Named name no_index place) = given value_of_meaning (meaning_of s name)
  value_of_variable s (Register address whole place) = value_of_register s.here address
  value_of_variable s _ = None

  -- `@` and a name alone
  pub address_of : Setting → Variable → Option ℕ
  address_of s (Named name no_index place) = given address_of_meaning (meaning_of s name)
  address_of s _ = None

  -- the argument of CONSTANT, which has one
  pub value_of_one : Setting → Trees → Option ℕ
  value_of_one s (no_trees ▷ e) = value s e
  value_of_one s _ = None

-- ---- texts

-- a string among the items of STRING; any other item is a constant, the code of one character
abbrev pub string_of : Tree → Option (List ℕ)
string_of (node p (Str text)) = Some text
string_of e = None

-- what an item adds to the text; a code that is no character's is refused where the text stands
abbrev pub characters : Option (List ℕ) → Option ℕ → List ℕ
characters (Some text) code = text
characters None code = or_zero code % 2 ^ 8 ∷ []

-- the text of STRING with these items, in their order, without the 0 behind it (Propeller Manual v1.2, "STRING")
abbrev pub text_of_items : Setting → Trees → List ℕ
text_of_items s no_trees = []
text_of_items s (es ▷ e) = text_of_items s es ++ characters (string_of e) (value s e)

-- ---- faults

-- 15 where a name has no entry, else 12
abbrev pub fault_of_name : Option Meaning → Place → Fault
fault_of_name None place = fault Unknown place
fault_of_name (Some m) place = fault NotConstant place

-- where there is no value, this fault
abbrev pub unless : Option ℕ → Fault → Option Fault
unless None f = Some f
unless (Some v) f = None

-- a fault where it is so
abbrev pub where_so : Bool → Fault → Option Fault
where_so b f = if b then Some f else None

-- a variable that is no constant: its name, its size word or its register
abbrev pub fault_of_variable : Setting → Variable → Fault
fault_of_variable s (Named name i place) = fault_of_name (meaning_of s name) place
fault_of_variable s (Part name size i place) = fault_of_name (meaning_of s name) place
fault_of_variable s (Memory size e i place) = fault NotConstant place
fault_of_variable s (Register address x place) = fault NotConstant place

-- `object#name`: 15 or 16 at the object's name, else 15 or 12 at the constant's
abbrev pub fault_of_constant : Setting → Option Meaning → List ℕ → List ℕ → Place → Place → Option Fault
fault_of_constant s None object name first second = Some (fault Unknown first)
fault_of_constant s (Some meaning_case.Object) object name first second =
    unless (given value_of_meaning (s.constant object name)) (fault_of_name (s.constant object name) second)
fault_of_constant s (Some m) object name first second = Some (fault WrongKind first)

-- a call, at the object's name where there is one, else at the method's
abbrev pub fault_of_call : Setting → Option (List ℕ) → List ℕ → Place → Place → Fault
fault_of_call s (Some object) method first second = fault_of_name (meaning_of s object) first
fault_of_call s None method first second = fault_of_name (meaning_of s method) second

abbrev pub is_zero : Option ℕ → Bool
is_zero None = false
is_zero (Some b) = b == 0

-- an operator before its operand: 12 for a number that is no such operator's, which has no value with any operand
abbrev pub fault_before : ℕ → Place → Option Fault
fault_before operator place = unless (unary_result operator 0) (fault NotConstant place)

-- an operator between its operands: 13 where it divides and the right side has the value 0
abbrev pub fault_between : ℕ → Place → Option ℕ → Option Fault
fault_between operator place right =
    if divides operator then where_so (is_zero right) (fault ZeroDivisor place) else unless (binary_result operator 0 0) (fault NotConstant place)

-- CONSTANT, with its one argument
abbrev pub is_constant_word : ℕ → Trees → Bool
is_constant_word code (no_trees ▷ e) = code == 0
is_constant_word code _ = false

-- the fault of an expression's own name, word or operator: at most one
abbrev pub own_fault : Setting → Place → Form → Option Fault
own_fault s p (Number n) = None
own_fault s p (Str text) = Some (fault NotConstant p)
own_fault s p (Strings items) = Some (fault NotConstant p)
own_fault s p Here = unless s.here.address (fault NotConstant p)
own_fault s p (Var v) = unless (value_of_variable s v) (fault_of_variable s v)
own_fault s p (Address v) = unless (address_of s v) (fault_of_variable s v)
own_fault s p (Call trap object i method place args) = Some (fault_of_call s object method p place)
own_fault s p (Unary operator e) = fault_before operator p
own_fault s p (Binary operator a b) = fault_between operator p (value s b)
own_fault s p (Assign v operator e) = Some (fault_of_variable s v)
own_fault s p (Change v effect) = Some (fault_of_variable s v)
own_fault s p (ObjectAddress e) = Some (fault NotConstant p)
own_fault s p (ObjConst object name place) = fault_of_constant s (meaning_of s object) object name p place
own_fault s p (Built code args) = where_so (not (is_constant_word code args)) (fault NotConstant p)
own_fault s p (Look code e xs) = Some (fault NotConstant p)

-- the faults of a tree: its own, and those of the expressions inside it
abbrev mutual
  pub FaultIn : Setting → Tree → Fault → Type 0
  FaultIn s (node p form) f = (own_fault s p form ≡ Some f) ⊎ FaultInside s form f

  pub FaultInside : Setting → Form → Fault → Type 0
  FaultInside s (Number n) f = ⊥
  FaultInside s (Str text) f = ⊥
  FaultInside s (Strings items) f = FaultInTrees s items f
  FaultInside s Here f = ⊥
  FaultInside s (Var v) f = FaultInVariable s v f
  FaultInside s (Address v) f = FaultInVariable s v f
  FaultInside s (Call trap object i method place args) f = FaultInIndex s i f ⊎ FaultInTrees s args f
  FaultInside s (Unary operator e) f = FaultIn s e f
  FaultInside s (Binary operator a b) f = FaultIn s a f ⊎ FaultIn s b f
  FaultInside s (Assign v operator e) f = FaultInVariable s v f ⊎ FaultIn s e f
  FaultInside s (Change v effect) f = FaultInVariable s v f
  FaultInside s (ObjectAddress e) f = FaultIn s e f
  FaultInside s (ObjConst object name place) f = ⊥
  FaultInside s (Built code args) f = FaultInTrees s args f
  FaultInside s (Look code e xs) f = FaultIn s e f ⊎ FaultInItems s xs f

  pub FaultInVariable : Setting → Variable → Fault → Type 0
  FaultInVariable s (Named name i place) f = FaultInIndex s i f
  FaultInVariable s (Part name size i place) f = FaultInIndex s i f
  FaultInVariable s (Memory size e i place) f = FaultIn s e f ⊎ FaultInIndex s i f
  FaultInVariable s (Register address x place) f = FaultInBits s x f

  pub FaultInIndex : Setting → Index → Fault → Type 0
  FaultInIndex s no_index f = ⊥
  FaultInIndex s (index e) f = FaultIn s e f

  pub FaultInBits : Setting → Bits → Fault → Type 0
  FaultInBits s whole f = ⊥
  FaultInBits s (bits x) f = FaultInItem s x f

  pub FaultInItem : Setting → Item → Fault → Type 0
  FaultInItem s (single e) f = FaultIn s e f
  FaultInItem s (range low high) f = FaultIn s low f ⊎ FaultIn s high f

  pub FaultInTrees : Setting → Trees → Fault → Type 0
  FaultInTrees s no_trees f = ⊥
  FaultInTrees s (es ▷ e) f = FaultInTrees s es f ⊎ FaultIn s e f

  pub FaultInItems : Setting → Items → Fault → Type 0
  FaultInItems s no_items f = ⊥
  FaultInItems s (xs ▸ x) f = FaultInItems s xs f ⊎ FaultInItem s x f

-- ---- faults of texts

-- the codes of a text's characters; 0 stands behind the last one
abbrev pub is_character : ℕ → Bool
is_character code = nat_le 1 code && nat_le code 255

-- 31 where a constant is no character's code
abbrev pub fault_of_character : Option ℕ → Place → Option Fault
fault_of_character None place = None
fault_of_character (Some code) place = where_so (not (is_character code)) (fault NotCharacter place)

-- the faults of one item: a string has none, and any other item has to be constant
abbrev pub FaultOfItem : Setting → Option (List ℕ) → Tree → Fault → Type 0
FaultOfItem s (Some text) e f = ⊥
FaultOfItem s None (node p form) f = (fault_of_character (value_of_form s form) p ≡ Some f) ⊎ FaultIn s (node p form) f

-- the faults of the items of STRING where its text stands
abbrev pub FaultInText : Setting → Trees → Fault → Type 0
FaultInText s no_trees f = ⊥
FaultInText s (es ▷ e) f = FaultInText s es f ⊎ FaultOfItem s (string_of e) e f

-- ---- the two outcomes

pub record HasValue (s : Setting) (e : Tree) : Type 0 where
  pub number : ℕ
  pub is : value s e ≡ Some number
  pub clean : (f : Fault) → ¬ FaultIn s e f

pub record IsRefused (s : Setting) (e : Tree) : Type 0 where
  pub first : Fault
  pub none : value s e ≡ None
  pub told : IsFirstFault (FaultIn s e) first
