-- internal: what the code computes, the value or the first fault at once.
use Rattle.std.specs.Prelude.{ℕ, ◌==◌, if◌then◌else◌, List, Option, Some, None, Result, Ok, Err, Box}
use Rattle.std.specs.Result.{result_err}
use Rattle.std.specs.declared.alloc.Global.{Global}
use Rattle.p8_tree.specs.declared.expressions.Item as item
use Rattle.p8_tree.specs.Views.{item_of}
use Rattle.p8_tree.specs.declared.places.Place.{Place}
use Rattle.p8_tree.specs.Expressions.{Tree, node, Form, Number, Str, Strings, Here, Var, Call, Unary, Binary, Assign, Change, Address, ObjectAddress}
use Rattle.p8_tree.specs.Expressions.{ObjConst, Built, Look, Variable, Named, Part, Memory, Register, Index, no_index, index, Bits, whole, bits}
use Rattle.p8_tree.specs.Expressions.{Item, single, range, Trees, no_trees, ◌▷◌, Items, no_items, ◌▸◌}
use Rattle.p8_tree.specs.declared.faults.Fault.{Fault}
use Rattle.p8_tree.specs.Faults.{fault, earlier, with_further, first_of_two}
use Rattle.p8_tree.specs.declared.refusal.Refusal.TheVariants.{NotConstant, Unknown, WrongKind}
use Rattle.p8_fold.specs.declared.meanings.Meaning.{Meaning}
use Rattle.p8_fold.specs.declared.meanings.Meaning.TheVariants as meaning_case
use Rattle.p8_fold.specs.Meanings.{Setting, meaning_of, value_of_meaning, given}
use Rattle.p8_words.specs.Operators.{unary_result, binary_result}
use Rattle.p8_fold.specs.Values.{value_of_variable, address_of, string_of, fault_of_name, fault_of_call, fault_before, fault_between, fault_of_character}

-- the value, or else the fault
abbrev pub or_fault : Option ℕ → Fault → Result ℕ Fault
or_fault (Some v) f = Ok v
or_fault None f = Err f

abbrev pub verdict_before : ℕ → Place → Result ℕ Fault → Result ℕ Fault
verdict_before operator place (Ok a) = or_fault (unary_result operator a) (fault NotConstant place)
verdict_before operator place (Err f) = Err (with_further f (fault_before operator place))

-- two values, where the operator has this fault
abbrev pub verdict_of_values : ℕ → Place → ℕ → ℕ → Option Fault → Result ℕ Fault
verdict_of_values operator place a b None = or_fault (binary_result operator a b) (fault NotConstant place)
verdict_of_values operator place a b (Some f) = Err f

abbrev pub verdict_between : ℕ → Place → Result ℕ Fault → Result ℕ Fault → Result ℕ Fault
verdict_between operator place (Ok a) (Ok b) = verdict_of_values operator place a b (fault_between operator place (Some b))
verdict_between operator place (Ok a) (Err g) = Err (with_further g (fault_between operator place None))
verdict_between operator place (Err f) (Ok b) = Err (with_further f (fault_between operator place (Some b)))
verdict_between operator place (Err f) (Err g) = Err (with_further (earlier f g) (fault_between operator place None))

-- a name after `#`
abbrev pub verdict_of_constant : Setting → Option Meaning → List ℕ → List ℕ → Place → Place → Result ℕ Fault
verdict_of_constant s None object name first second = Err (fault Unknown first)
verdict_of_constant s (Some meaning_case.Object) object name first second =
    or_fault (given value_of_meaning (s.constant object name)) (fault_of_name (s.constant object name) second)
verdict_of_constant s (Some m) object name first second = Err (fault WrongKind first)

-- CONSTANT of one argument, with its verdict, or else a refusal
abbrev pub built : ℕ → Option (Result ℕ Fault) → Result ℕ Fault → Result ℕ Fault
built code None refused = refused
built code (Some verdict) refused = if code == 0 then verdict else refused

abbrev mutual
  pub verdict : Setting → Tree → Result ℕ Fault
  verdict s (node p form) = verdict_of_form s p form

  pub verdict_of_form : Setting → Place → Form → Result ℕ Fault
  verdict_of_form s p (Number n) = Ok n
  verdict_of_form s p (Str text) = Err (fault NotConstant p)
  verdict_of_form s p (Strings items) = Err (with_further (fault NotConstant p) (first_in_trees s items))
  verdict_of_form s p Here = or_fault s.here.address (fault NotConstant p)
  verdict_of_form s p (Var v) = or_fault (value_of_variable s v) (fault_at s v)
  verdict_of_form s p (Address v) = or_fault (address_of s v) (fault_at s v)
  verdict_of_form s p (Call trap object i method place args) =
      Err (with_further (with_further (fault_of_call s object method p place) (first_in_index s i)) (first_in_trees s args))
  verdict_of_form s p (Unary operator e) = verdict_before operator p (verdict s e)
  verdict_of_form s p (Binary operator a b) = verdict_between operator p (verdict s a) (verdict s b)
  verdict_of_form s p (Assign v operator e) = Err (with_further (fault_at s v) (result_err (verdict s e)))
  verdict_of_form s p (Change v effect) = Err (fault_at s v)
  verdict_of_form s p (ObjectAddress e) = Err (with_further (fault NotConstant p) (result_err (verdict s e)))
  verdict_of_form s p (ObjConst object name place) = verdict_of_constant s (meaning_of s object) object name p place
  verdict_of_form s p (Built code args) = built code (verdict_of_one s args) (Err (with_further (fault NotConstant p) (first_in_trees s args)))
  verdict_of_form s p (Look code e xs) = Err (with_further (with_further (fault NotConstant p) (result_err (verdict s e))) (first_in_items s xs))

  -- of one argument
  pub verdict_of_one : Setting → Trees → Option (Result ℕ Fault)
  verdict_of_one s (no_trees ▷ e) = Some (verdict s e)
  verdict_of_one s _ = None

  -- the first fault of a variable that is no constant
  pub fault_at : Setting → Variable → Fault
  fault_at s (Named name i place) = with_further (fault_of_name (meaning_of s name) place) (first_in_index s i)
  fault_at s (Part name size i place) = with_further (fault_of_name (meaning_of s name) place) (first_in_index s i)
  fault_at s (Memory size e i place) = with_further (with_further (fault NotConstant place) (result_err (verdict s e))) (first_in_index s i)
  fault_at s (Register address x place) = with_further (fault NotConstant place) (first_in_bits s x)

  pub first_in_index : Setting → Index → Option Fault
  first_in_index s no_index = None
  first_in_index s (index e) = result_err (verdict s e)

  pub first_in_bits : Setting → Bits → Option Fault
  first_in_bits s whole = None
  first_in_bits s (bits x) = first_in_item s x

  pub first_in_item : Setting → Item → Option Fault
  first_in_item s (single e) = result_err (verdict s e)
  first_in_item s (range low high) = first_of_two (result_err (verdict s low)) (result_err (verdict s high))

  pub first_in_trees : Setting → Trees → Option Fault
  first_in_trees s no_trees = None
  first_in_trees s (es ▷ e) = first_of_two (first_in_trees s es) (result_err (verdict s e))

  pub first_in_items : Setting → Items → Option Fault
  first_in_items s no_items = None
  first_in_items s (xs ▸ x) = first_of_two (first_in_items s xs) (first_in_item s x)

-- of an item of a text: the fault of its constant, or 31
abbrev pub first_of_character : Result ℕ Fault → Place → Option Fault
first_of_character (Ok code) place = fault_of_character (Some code) place
first_of_character (Err f) place = Some f

abbrev pub first_of_item : Setting → Option (List ℕ) → Tree → Option Fault
first_of_item s (Some text) e = None
first_of_item s None (node p form) = first_of_character (verdict_of_form s p form) p

abbrev pub first_in_text : Setting → Trees → Option Fault
first_in_text s no_trees = None
first_in_text s (es ▷ e) = first_of_two (first_in_text s es) (first_of_item s (string_of e) e)

-- the bits in a box, or all
abbrev pub boxed_bits : Option (Box item.Item Global) → Bits
boxed_bits None = whole
boxed_bits (Some b) = bits (item_of b.value)

abbrev pub verdict_of_built : Setting → Place → ℕ → Trees → Result ℕ Fault
verdict_of_built s p code args = verdict_of_form s p (Built code args)
