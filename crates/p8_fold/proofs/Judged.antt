-- The verdict on a tree: by induction over trees, a line for each form.
use Rattle.std.proofs.Common.{◌≡◌, ◌⊎◌, inl, inr, ℕ, List, Bool, true, false, ◌==◌, Option, Some, None, Result, Ok, Err, refl}
use Rattle.std.specs.Prelude.{if◌then◌else◌, not}
use Rattle.std.specs.Result.{result_err}
use Rattle.std.proofs.Math.Logic.{⊎_elim}
use Rattle.p8_tree.specs.declared.places.Place.{Place}
use Rattle.p8_tree.specs.Expressions.{Tree, node, Form, Number, Str, Strings, Here, Var, Call, Unary, Binary, Assign, Change, Address, ObjectAddress, ObjConst, Built, Look, Variable, Named, Part, Memory, Register, Index, no_index, index, Bits, whole, bits, Item, single, range, Trees, no_trees, ◌▷◌, Items, no_items, ◌▸◌}
use Rattle.p8_tree.specs.declared.faults.Fault.{Fault}
use Rattle.p8_tree.specs.Faults.{IsFirstFault, fault, with_further}
use Rattle.p8_tree.specs.declared.refusal.Refusal.TheVariants.{NotConstant}
use Rattle.p8_tree.proofs.Firsts.{IsFirstFault-along}
use Rattle.p8_fold.specs.Meanings.{Setting, meaning_of, value_of_meaning, address_of_meaning, given}
use Rattle.p8_fold.specs.Values.{value, value_of_form, value_of_register, fault_of_name, where_so, fault_of_variable, fault_of_call, own_fault, FaultIn, FaultInside, FaultInVariable, FaultInIndex, FaultInBits, FaultInItem, FaultInTrees, FaultInItems, string_of, FaultOfItem, FaultInText, HasValue, IsRefused}
use Rattle.p8_fold.specs.Verdicts.{verdict, verdict_of_form, fault_at, first_in_index, first_in_bits, first_in_item, first_in_trees, first_in_items, first_of_item, first_in_text}
use Rattle.p8_fold.proofs.Judging.{Tells, Judges, fault_told, further_told, two_told, is_one, one_told, judges, to_right, to_left, refused, refused_twice, value_or_one, constant_judged, judged_before, judged_between, judged_character}

-- a number, which has no fault
no_fault : (v : ℕ) → Judges (Ok v) (Some v) (λ x. (None ≡ Some x) ⊎ ⊥)
no_fault v = (refl, λ x. ⊎_elim (λ e. absurd cc) (λ b. b))

-- one fault, and nothing inside
one_fault : (f : Fault) → Judges (Err f) None (λ x. (Some f ≡ Some x) ⊎ ⊥)
one_fault f = refused (λ x. ⊥) f None (λ x b. b)

-- a variable that is no constant, with its own fault f
abbrev AtVariable : Setting → Variable → Type 0
AtVariable s v = IsFirstFault (λ x. (Some (fault_of_variable s v) ≡ Some x) ⊎ FaultInVariable s v x) (fault_at s v)

-- CONSTANT with one argument, and another built-in with one
judged_one : (S : Fault → Type 0) (b : Bool) (p : Place) (r : Result ℕ Fault) (o : Option ℕ) → Judges r o S → Judges (if b then r else Err (with_further (fault NotConstant p) (result_err r))) (if b then o else None) (λ x. (where_so (not b) (fault NotConstant p) ≡ Some x) ⊎ (⊥ ⊎ S x))
judged_one S true p r o h =
    judges S (λ x. (None ≡ Some x) ⊎ (⊥ ⊎ S x)) r o (λ x a. inr (inr a)) (λ x. ⊎_elim (λ e. absurd cc) (⊎_elim (λ b. absurd b) (λ a. a))) h
judged_one S false p r o h =
    refused (λ x. ⊥ ⊎ S x) (fault NotConstant p) (result_err r) (two_told (λ x. ⊥) S None (result_err r) (λ x b. b) (fault_told S r o h))

not_one : (S : Fault → Type 0) (b : Bool) (p : Place) (o : Option Fault) → Tells o S → Judges (Err (with_further (fault NotConstant p) o)) (if b then None else None) (λ x. (Some (fault NotConstant p) ≡ Some x) ⊎ S x)
not_one S true p o t = refused S (fault NotConstant p) o t
not_one S false p o t = refused S (fault NotConstant p) o t

mutual
  pub judged : (s : Setting) (e : Tree) → Judges (verdict s e) (value s e) (FaultIn s e)
  judged s (node p form) = judged_form s p form

  pub judged_form : (s : Setting) (p : Place) (form : Form) → Judges (verdict_of_form s p form) (value_of_form s form) (λ x. (own_fault s p form ≡ Some x) ⊎ FaultInside s form x)
  judged_form s p (Number n) = no_fault n
  judged_form s p (Str text) = one_fault (fault NotConstant p)
  judged_form s p (Strings items) = refused (FaultInTrees s items) (fault NotConstant p) (first_in_trees s items) (in_trees s items)
  judged_form s p Here = value_or_one s.here.address (fault NotConstant p)
  judged_form s p (Var (Named name no_index q)) = value_or_one (given value_of_meaning (meaning_of s name)) (fault_of_name (meaning_of s name) q)
  judged_form s p (Var (Named name (index e) q)) = (refl, at_variable s (Named name (index e) q))
  judged_form s p (Var (Part name size i q)) = (refl, at_variable s (Part name size i q))
  judged_form s p (Var (Memory size e i q)) = (refl, at_variable s (Memory size e i q))
  judged_form s p (Var (Register address whole q)) = value_or_one (value_of_register s.here address) (fault NotConstant q)
  judged_form s p (Var (Register address (bits x) q)) = (refl, at_variable s (Register address (bits x) q))
  judged_form s p (Address (Named name no_index q)) = value_or_one (given address_of_meaning (meaning_of s name)) (fault_of_name (meaning_of s name) q)
  judged_form s p (Address (Named name (index e) q)) = (refl, at_variable s (Named name (index e) q))
  judged_form s p (Address (Part name size i q)) = (refl, at_variable s (Part name size i q))
  judged_form s p (Address (Memory size e i q)) = (refl, at_variable s (Memory size e i q))
  judged_form s p (Address (Register address x q)) = (refl, at_variable s (Register address x q))
  judged_form s p (Call trap object i method q args) =
      refused_twice (FaultInIndex s i) (FaultInTrees s args) (fault_of_call s object method p q) (first_in_index s i) (first_in_trees s args) (in_index s i) (in_trees s args)
  judged_form s p (Unary k e) = judged_before (FaultIn s e) k p (verdict s e) (value s e) (judged s e)
  judged_form s p (Binary k a b) = judged_between (FaultIn s a) (FaultIn s b) k p (verdict s a) (verdict s b) (value s a) (value s b) (judged s a) (judged s b)
  judged_form s p (Assign v operator e) =
      (refl, IsFirstFault-along (λ x. to_right) (λ x. to_left) (further_told (λ x. (Some (fault_of_variable s v) ≡ Some x) ⊎ FaultInVariable s v x) (FaultIn s e) (fault_at s v) (result_err (verdict s e)) (at_variable s v) (fault_told (FaultIn s e) (verdict s e) (value s e) (judged s e))))
  judged_form s p (Change v effect) = (refl, at_variable s v)
  judged_form s p (ObjectAddress e) = refused (FaultIn s e) (fault NotConstant p) (result_err (verdict s e)) (fault_told (FaultIn s e) (verdict s e) (value s e) (judged s e))
  judged_form s p (ObjConst object name q) = constant_judged s (meaning_of s object) object name p q
  judged_form s p (Built code no_trees) = not_one (λ x. ⊥) (code == 0) p None (λ x b. b)
  judged_form s p (Built code (no_trees ▷ e)) = judged_one (FaultIn s e) (code == 0) p (verdict s e) (value s e) (judged s e)
  judged_form s p (Built code ((es ▷ d) ▷ e)) = not_one (FaultInTrees s ((es ▷ d) ▷ e)) (code == 0) p (first_in_trees s ((es ▷ d) ▷ e)) (in_trees s ((es ▷ d) ▷ e))
  judged_form s p (Look code e xs) =
      refused_twice (FaultIn s e) (FaultInItems s xs) (fault NotConstant p) (result_err (verdict s e)) (first_in_items s xs) (fault_told (FaultIn s e) (verdict s e) (value s e) (judged s e)) (in_items s xs)

  pub at_variable : (s : Setting) (v : Variable) → AtVariable s v
  at_variable s (Named name i q) = further_told (is_one (fault_of_name (meaning_of s name) q)) (FaultInIndex s i) (fault_of_name (meaning_of s name) q) (first_in_index s i) (one_told (fault_of_name (meaning_of s name) q)) (in_index s i)
  at_variable s (Part name size i q) = further_told (is_one (fault_of_name (meaning_of s name) q)) (FaultInIndex s i) (fault_of_name (meaning_of s name) q) (first_in_index s i) (one_told (fault_of_name (meaning_of s name) q)) (in_index s i)
  at_variable s (Memory size e i q) =
      (refused_twice (FaultIn s e) (FaultInIndex s i) (fault NotConstant q) (result_err (verdict s e)) (first_in_index s i) (fault_told (FaultIn s e) (verdict s e) (value s e) (judged s e)) (in_index s i)).1
  at_variable s (Register address x q) = further_told (is_one (fault NotConstant q)) (FaultInBits s x) (fault NotConstant q) (first_in_bits s x) (one_told (fault NotConstant q)) (in_bits s x)

  pub in_index : (s : Setting) (i : Index) → Tells (first_in_index s i) (FaultInIndex s i)
  in_index s no_index = λ x b. b
  in_index s (index e) = fault_told (FaultIn s e) (verdict s e) (value s e) (judged s e)

  pub in_bits : (s : Setting) (x : Bits) → Tells (first_in_bits s x) (FaultInBits s x)
  in_bits s whole = λ x b. b
  in_bits s (bits x) = in_item s x

  pub in_item : (s : Setting) (x : Item) → Tells (first_in_item s x) (FaultInItem s x)
  in_item s (single e) = fault_told (FaultIn s e) (verdict s e) (value s e) (judged s e)
  in_item s (range a b) =
      two_told (FaultIn s a) (FaultIn s b) (result_err (verdict s a)) (result_err (verdict s b)) (fault_told (FaultIn s a) (verdict s a) (value s a) (judged s a)) (fault_told (FaultIn s b) (verdict s b) (value s b) (judged s b))

  pub in_trees : (s : Setting) (es : Trees) → Tells (first_in_trees s es) (FaultInTrees s es)
  in_trees s no_trees = λ x b. b
  in_trees s (es ▷ e) =
      two_told (FaultInTrees s es) (FaultIn s e) (first_in_trees s es) (result_err (verdict s e)) (in_trees s es) (fault_told (FaultIn s e) (verdict s e) (value s e) (judged s e))

  pub in_items : (s : Setting) (xs : Items) → Tells (first_in_items s xs) (FaultInItems s xs)
  in_items s no_items = λ x b. b
  in_items s (xs ▸ x) = two_told (FaultInItems s xs) (FaultInItem s x) (first_in_items s xs) (first_in_item s x) (in_items s xs) (in_item s x)

-- the items of a text
of_item : (s : Setting) (text : Option (List ℕ)) (e : Tree) → Tells (first_of_item s text e) (FaultOfItem s text e)
of_item s (Some text) e = λ x b. b
of_item s None (node p form) = judged_character (FaultIn s (node p form)) p (verdict_of_form s p form) (value_of_form s form) (judged s (node p form))

pub in_text : (s : Setting) (es : Trees) → Tells (first_in_text s es) (FaultInText s es)
in_text s no_trees = λ x b. b
in_text s (es ▷ e) =
    two_told (FaultInText s es) (FaultOfItem s (string_of e) e) (first_in_text s es) (first_of_item s (string_of e) e) (in_text s es) (of_item s (string_of e) e)

outcome : (s : Setting) (e : Tree) (r : Result ℕ Fault) → Judges r (value s e) (FaultIn s e) → HasValue s e ⊎ IsRefused s e
outcome s e (Ok v) h = inl (record { number = v; is = h.0; clean = h.1 })
outcome s e (Err f) h = inr (record { first = f; none = h.0; told = h.1 })

pub one_outcome : (s : Setting) (e : Tree) → HasValue s e ⊎ IsRefused s e
one_outcome s e = outcome s e (verdict s e) (judged s e)
