-- What has to be constant is never refused for a number of arguments.
use Rattle.std.proofs.Common.{◌≡◌, inl, inr, ℕ, ◌==◌, Bool, true, false, List, Option, Some, None, refl, subst, arith}
use Rattle.std.specs.Prelude.{IfSome, not, if◌then◌else◌}
use Rattle.std.proofs.lemmas.Bool.Decides.{nat_tests}
use Rattle.p8_tree.specs.declared.places.Place.{Place}
use Rattle.p8_tree.specs.Expressions.{Tree, node, Form, Number, Str, Strings, Here, Var, Call, Unary, Binary, Assign, Change, Address, ObjectAddress, ObjConst, Built, Look, Variable, Named, Part, Memory, Register, Index, no_index, index, Bits, whole, bits, Item, single, range, Trees, no_trees, ◌▷◌, Items, no_items, ◌▸◌}
use Rattle.p8_tree.specs.declared.faults.Fault.{Fault}
use Rattle.p8_tree.specs.Faults.{fault}
use Rattle.p8_tree.specs.declared.refusal.Refusal.TheVariants.{NotConstant, ZeroDivisor, NotCharacter}
use Rattle.p8_words.specs.Operators.{unary_result, binary_result, divides}
use Rattle.p8_fold.specs.declared.meanings.Meaning.{Meaning}
use Rattle.p8_fold.specs.declared.meanings.Meaning.TheVariants as meaning_case
use Rattle.p8_fold.specs.Meanings.{Setting, meaning_of, value_of_meaning, given}
use Rattle.p8_fold.specs.Values.{value, value_of_form, value_of_variable, address_of, fault_of_name, unless, where_so, fault_of_variable, fault_of_constant, fault_of_call, is_zero, fault_between, is_constant_word, own_fault, FaultIn, FaultInside, FaultInVariable, FaultInIndex, FaultInBits, FaultInItem, FaultInTrees, FaultInItems, string_of, is_character, fault_of_character, FaultOfItem, FaultInText}

-- another refusal than 17
abbrev pub IsOther : Fault → Type 0
IsOther f = ¬ (f.number ≡ 17)

pub unequal : (a b : ℕ) → (a == b) ≡ false → ¬ (a ≡ b)
unequal a b h e = grind (arith, nat_tests)

pub other_told : (o : Option Fault) (f : Fault) → IfSome o IsOther → o ≡ Some f → IsOther f
other_told o f h e = subst (λ (x : Option Fault). IfSome x IsOther) e h

-- ---- one name or operator

other_unless : (o : Option ℕ) (f : Fault) → IsOther f → IfSome (unless o f) IsOther
other_unless None f h = h
other_unless (Some v) f h = tt

pub other_where : (b : Bool) (f : Fault) → IsOther f → IfSome (where_so b f) IsOther
other_where true f h = h
other_where false f h = tt

other_name : (o : Option Meaning) (p : Place) → IsOther (fault_of_name o p)
other_name None p = unequal 15 17 refl
other_name (Some m) p = unequal 12 17 refl

other_variable : (s : Setting) (v : Variable) → IsOther (fault_of_variable s v)
other_variable s (Named name i p) = other_name (meaning_of s name) p
other_variable s (Part name size i p) = other_name (meaning_of s name) p
other_variable s (Memory size e i p) = unequal 12 17 refl
other_variable s (Register address x p) = unequal 12 17 refl

other_constant : (s : Setting) (o : Option Meaning) (object name : List ℕ) (p q : Place) → IfSome (fault_of_constant s o object name p q) IsOther
other_constant s None object name p q = unequal 15 17 refl
other_constant s (Some meaning_case.Object) object name p q =
    other_unless (given value_of_meaning (s.constant object name)) (fault_of_name (s.constant object name) q) (other_name (s.constant object name) q)
other_constant s (Some (meaning_case.Value v)) object name p q = unequal 16 17 refl
other_constant s (Some (meaning_case.Label a b)) object name p q = unequal 16 17 refl
other_constant s (Some meaning_case.Other) object name p q = unequal 16 17 refl

other_call : (s : Setting) (object : Option (List ℕ)) (method : List ℕ) (p q : Place) → IsOther (fault_of_call s object method p q)
other_call s (Some object) method p q = other_name (meaning_of s object) p
other_call s None method p q = other_name (meaning_of s method) q

other_between : (operator : ℕ) (p : Place) (right : Option ℕ) → IfSome (fault_between operator p right) IsOther
other_between operator p right = by (divides operator)
  where
    by : (b : Bool) → IfSome (if b then where_so (is_zero right) (fault ZeroDivisor p) else unless (binary_result operator 0 0) (fault NotConstant p)) IsOther
    by true = other_where (is_zero right) (fault ZeroDivisor p) (unequal 13 17 refl)
    by false = other_unless (binary_result operator 0 0) (fault NotConstant p) (unequal 12 17 refl)

own_other : (s : Setting) (p : Place) (form : Form) → IfSome (own_fault s p form) IsOther
own_other s p (Number n) = tt
own_other s p (Str text) = unequal 12 17 refl
own_other s p (Strings items) = unequal 12 17 refl
own_other s p Here = other_unless s.here.address (fault NotConstant p) (unequal 12 17 refl)
own_other s p (Var v) = other_unless (value_of_variable s v) (fault_of_variable s v) (other_variable s v)
own_other s p (Address v) = other_unless (address_of s v) (fault_of_variable s v) (other_variable s v)
own_other s p (Call trap object i method place args) = other_call s object method p place
own_other s p (Unary operator e) = other_unless (unary_result operator 0) (fault NotConstant p) (unequal 12 17 refl)
own_other s p (Binary operator a b) = other_between operator p (value s b)
own_other s p (Assign v operator e) = other_variable s v
own_other s p (Change v effect) = other_variable s v
own_other s p (ObjectAddress e) = unequal 12 17 refl
own_other s p (ObjConst object name place) = other_constant s (meaning_of s object) object name p place
own_other s p (Built code args) = other_where (not (is_constant_word code args)) (fault NotConstant p) (unequal 12 17 refl)
own_other s p (Look code e xs) = unequal 12 17 refl

-- ---- whole expressions

mutual
  pub other_in : (s : Setting) (e : Tree) (f : Fault) → FaultIn s e f → IsOther f
  other_in s (node p form) f (inl own) = other_told (own_fault s p form) f (own_other s p form) own
  other_in s (node p form) f (inr inside) = other_inside s form f inside

  other_inside : (s : Setting) (form : Form) (f : Fault) → FaultInside s form f → IsOther f
  other_inside s (Number n) f h = absurd h
  other_inside s (Str text) f h = absurd h
  other_inside s (Strings items) f h = other_trees s items f h
  other_inside s Here f h = absurd h
  other_inside s (Var v) f h = other_inside_variable s v f h
  other_inside s (Address v) f h = other_inside_variable s v f h
  other_inside s (Call trap object i method place args) f (inl h) = other_index s i f h
  other_inside s (Call trap object i method place args) f (inr h) = other_trees s args f h
  other_inside s (Unary operator e) f h = other_in s e f h
  other_inside s (Binary operator a b) f (inl h) = other_in s a f h
  other_inside s (Binary operator a b) f (inr h) = other_in s b f h
  other_inside s (Assign v operator e) f (inl h) = other_inside_variable s v f h
  other_inside s (Assign v operator e) f (inr h) = other_in s e f h
  other_inside s (Change v effect) f h = other_inside_variable s v f h
  other_inside s (ObjectAddress e) f h = other_in s e f h
  other_inside s (ObjConst object name place) f h = absurd h
  other_inside s (Built code args) f h = other_trees s args f h
  other_inside s (Look code e xs) f (inl h) = other_in s e f h
  other_inside s (Look code e xs) f (inr h) = other_items s xs f h

  other_inside_variable : (s : Setting) (v : Variable) (f : Fault) → FaultInVariable s v f → IsOther f
  other_inside_variable s (Named name i place) f h = other_index s i f h
  other_inside_variable s (Part name size i place) f h = other_index s i f h
  other_inside_variable s (Memory size e i place) f (inl h) = other_in s e f h
  other_inside_variable s (Memory size e i place) f (inr h) = other_index s i f h
  other_inside_variable s (Register address x place) f h = other_bits s x f h

  other_index : (s : Setting) (i : Index) (f : Fault) → FaultInIndex s i f → IsOther f
  other_index s no_index f h = absurd h
  other_index s (index e) f h = other_in s e f h

  other_bits : (s : Setting) (x : Bits) (f : Fault) → FaultInBits s x f → IsOther f
  other_bits s whole f h = absurd h
  other_bits s (bits x) f h = other_item s x f h

  other_item : (s : Setting) (x : Item) (f : Fault) → FaultInItem s x f → IsOther f
  other_item s (single e) f h = other_in s e f h
  other_item s (range low high) f (inl h) = other_in s low f h
  other_item s (range low high) f (inr h) = other_in s high f h

  pub other_trees : (s : Setting) (es : Trees) (f : Fault) → FaultInTrees s es f → IsOther f
  other_trees s no_trees f h = absurd h
  other_trees s (es ▷ e) f (inl h) = other_trees s es f h
  other_trees s (es ▷ e) f (inr h) = other_in s e f h

  other_items : (s : Setting) (xs : Items) (f : Fault) → FaultInItems s xs f → IsOther f
  other_items s no_items f h = absurd h
  other_items s (xs ▸ x) f (inl h) = other_items s xs f h
  other_items s (xs ▸ x) f (inr h) = other_item s x f h

-- ---- texts

other_character : (o : Option ℕ) (p : Place) → IfSome (fault_of_character o p) IsOther
other_character None p = tt
other_character (Some code) p = other_where (not (is_character code)) (fault NotCharacter p) (unequal 31 17 refl)

other_of_item : (s : Setting) (o : Option (List ℕ)) (e : Tree) (f : Fault) → FaultOfItem s o e f → IsOther f
other_of_item s (Some text) e f h = absurd h
other_of_item s None (node p form) f (inl h) = other_told (fault_of_character (value_of_form s form) p) f (other_character (value_of_form s form) p) h
other_of_item s None (node p form) f (inr h) = other_in s (node p form) f h

pub other_in_text : (s : Setting) (es : Trees) (f : Fault) → FaultInText s es f → IsOther f
other_in_text s no_trees f h = absurd h
other_in_text s (es ▷ e) f (inl h) = other_in_text s es f h
other_in_text s (es ▷ e) f (inr h) = other_of_item s (string_of e) e f h
