-- What a tree mentions decides its verdict: by induction over trees.
use Rattle.std.proofs.Common.{◌≡◌, ◌⊎◌, ◌↔◌, ◌==◌, ℕ, Option, Some, None, List, refl, ap, ◌∙◌}
use Rattle.std.specs.Prelude.{if◌then◌else◌}
use Rattle.std.specs.Str.{bytes_eq}
use Rattle.p8_tree.specs.declared.places.Place.{Place}
use Rattle.p8_tree.specs.Names.{result_word}
use Rattle.p8_tree.specs.Expressions.{Tree, node, Form, Number, Str, Strings, Here, Var, Call, Unary, Binary, Assign, Change, Address, ObjectAddress, ObjConst, Built, Look, Variable, Named, Part, Memory, Register, Index, no_index, index, Bits, whole, bits, Item, single, range, Trees, no_trees, ◌▷◌, Items, no_items, ◌▸◌}
use Rattle.p8_tree.specs.declared.faults.Fault.{Fault}
use Rattle.p8_tree.specs.Faults.{fault}
use Rattle.p8_tree.specs.declared.refusal.Refusal.TheVariants.{NotConstant}
use Rattle.p8_fold.specs.declared.meanings.Meaning.{Meaning}
use Rattle.p8_fold.specs.declared.meanings.Meaning.TheVariants as meaning_case
use Rattle.p8_fold.specs.Meanings.{Setting, meaning_of, value_of_meaning, address_of_meaning, given}
use Rattle.p8_fold.specs.Values.{value, value_of_form, value_of_register, value_of_variable, address_of, constant_of, before, between, fault_of_name, unless, fault_of_variable, fault_of_constant, fault_of_call, fault_between, own_fault, FaultIn, FaultInside, FaultInVariable, FaultInIndex, FaultInBits, FaultInItem, FaultInTrees, FaultInItems}
use Rattle.p8_fold.specs.Agreement.{AgreeOn, AgreeOnForm, AgreeOnVariable, AgreeOnIndex, AgreeOnBits, AgreeOnItem, AgreeOnTrees, AgreeOnItems, AgreeOnCalled}

meaning_same : (s t : Setting) (name : List ℕ) → s.name name ≡ t.name name → meaning_of s name ≡ meaning_of t name
meaning_same s t name h = ap (λ m. if bytes_eq name result_word then Some meaning_case.Other else m) h

-- ---- values

variable_same : (s t : Setting) (v : Variable) → AgreeOnVariable s t v → value_of_variable s v ≡ value_of_variable t v
variable_same s t (Named name no_index q) h = ap (given value_of_meaning) (meaning_same s t name h.0)
variable_same s t (Named name (index e) q) h = refl
variable_same s t (Part name size i q) h = refl
variable_same s t (Memory size e i q) h = refl
variable_same s t (Register address whole q) h = ap (λ here. value_of_register here address) h.0
variable_same s t (Register address (bits x) q) h = refl

address_same : (s t : Setting) (v : Variable) → AgreeOnVariable s t v → address_of s v ≡ address_of t v
address_same s t (Named name no_index q) h = ap (given address_of_meaning) (meaning_same s t name h.0)
address_same s t (Named name (index e) q) h = refl
address_same s t (Part name size i q) h = refl
address_same s t (Memory size e i q) h = refl
address_same s t (Register address x q) h = refl

constant_same : (s t : Setting) (object name : List ℕ) → s.constant object name ≡ t.constant object name → (m : Option Meaning) → constant_of s m object name ≡ constant_of t m object name
constant_same s t object name h None = refl
constant_same s t object name h (Some meaning_case.Object) = ap (given value_of_meaning) h
constant_same s t object name h (Some (meaning_case.Value v)) = refl
constant_same s t object name h (Some (meaning_case.Label cog offset)) = refl
constant_same s t object name h (Some meaning_case.Other) = refl

mutual
  pub value_same : (s t : Setting) (e : Tree) → AgreeOn s t e → value s e ≡ value t e
  value_same s t (node p form) h = value_of_form_same s t form h

  value_of_form_same : (s t : Setting) (form : Form) → AgreeOnForm s t form → value_of_form s form ≡ value_of_form t form
  value_of_form_same s t (Number n) h = refl
  value_of_form_same s t (Str text) h = refl
  value_of_form_same s t (Strings items) h = refl
  value_of_form_same s t Here h = ap (λ here. here.address) h
  value_of_form_same s t (Var v) h = variable_same s t v h
  value_of_form_same s t (Address v) h = address_same s t v h
  value_of_form_same s t (Call trap object i method q args) h = refl
  value_of_form_same s t (Unary k e) h = ap (before k) (value_same s t e h)
  value_of_form_same s t (Binary k a b) h = ap (λ o. between k o (value s b)) (value_same s t a h.0) ∙ ap (between k (value t a)) (value_same s t b h.1)
  value_of_form_same s t (Assign v operator e) h = refl
  value_of_form_same s t (Change v effect) h = refl
  value_of_form_same s t (ObjectAddress e) h = refl
  value_of_form_same s t (ObjConst object name q) h =
      constant_same s t object name h.1 (meaning_of s object) ∙ ap (λ m. constant_of t m object name) (meaning_same s t object h.0)
  value_of_form_same s t (Built code no_trees) h = refl
  value_of_form_same s t (Built code (no_trees ▷ e)) h = ap (λ o. if code == 0 then o else None) (value_same s t e h.1)
  value_of_form_same s t (Built code ((es ▷ d) ▷ e)) h = refl
  value_of_form_same s t (Look code e xs) h = refl

-- ---- a node's own fault

fault_of_variable_same : (s t : Setting) (v : Variable) → AgreeOnVariable s t v → fault_of_variable s v ≡ fault_of_variable t v
fault_of_variable_same s t (Named name i q) h = ap (λ m. fault_of_name m q) (meaning_same s t name h.0)
fault_of_variable_same s t (Part name size i q) h = ap (λ m. fault_of_name m q) (meaning_same s t name h.0)
fault_of_variable_same s t (Memory size e i q) h = refl
fault_of_variable_same s t (Register address x q) h = refl

fault_of_call_same : (s t : Setting) (object : Option (List ℕ)) (method : List ℕ) (p q : Place) → AgreeOnCalled s t object method → fault_of_call s object method p q ≡ fault_of_call t object method p q
fault_of_call_same s t None method p q h = ap (λ m. fault_of_name m q) (meaning_same s t method h)
fault_of_call_same s t (Some object) method p q h = ap (λ m. fault_of_name m p) (meaning_same s t object h)

fault_of_constant_same : (s t : Setting) (object name : List ℕ) (p q : Place) → s.constant object name ≡ t.constant object name → (m : Option Meaning) → fault_of_constant s m object name p q ≡ fault_of_constant t m object name p q
fault_of_constant_same s t object name p q h None = refl
fault_of_constant_same s t object name p q h (Some meaning_case.Object) = ap (λ m. unless (given value_of_meaning m) (fault_of_name m q)) h
fault_of_constant_same s t object name p q h (Some (meaning_case.Value v)) = refl
fault_of_constant_same s t object name p q h (Some (meaning_case.Label cog offset)) = refl
fault_of_constant_same s t object name p q h (Some meaning_case.Other) = refl

own_same : (s t : Setting) (p : Place) (form : Form) → AgreeOnForm s t form → own_fault s p form ≡ own_fault t p form
own_same s t p (Number n) h = refl
own_same s t p (Str text) h = refl
own_same s t p (Strings items) h = refl
own_same s t p Here h = ap (λ here. unless here.address (fault NotConstant p)) h
own_same s t p (Var v) h = ap (λ o. unless o (fault_of_variable s v)) (variable_same s t v h) ∙ ap (unless (value_of_variable t v)) (fault_of_variable_same s t v h)
own_same s t p (Address v) h = ap (λ o. unless o (fault_of_variable s v)) (address_same s t v h) ∙ ap (unless (address_of t v)) (fault_of_variable_same s t v h)
own_same s t p (Call trap object i method q args) h = ap Some (fault_of_call_same s t object method p q h.0)
own_same s t p (Unary k e) h = refl
own_same s t p (Binary k a b) h = ap (fault_between k p) (value_same s t b h.1)
own_same s t p (Assign v operator e) h = ap Some (fault_of_variable_same s t v h.0)
own_same s t p (Change v effect) h = ap Some (fault_of_variable_same s t v h)
own_same s t p (ObjectAddress e) h = refl
own_same s t p (ObjConst object name q) h =
    fault_of_constant_same s t object name p q h.1 (meaning_of s object) ∙ ap (λ m. fault_of_constant t m object name p q) (meaning_same s t object h.0)
own_same s t p (Built code args) h = refl
own_same s t p (Look code e xs) h = refl

-- ---- faults

either : {A B C D : Type 0} → A ≡ B → C ≡ D → (A ⊎ C) ≡ (B ⊎ D)
either {B = B} {C = C} e g = ap (λ A. A ⊎ C) e ∙ ap (λ C. B ⊎ C) g

mutual
  pub faults_same : (s t : Setting) (e : Tree) → AgreeOn s t e → (f : Fault) → FaultIn s e f ≡ FaultIn t e f
  faults_same s t (node p form) h f = ap (λ o. (o ≡ Some f) ⊎ FaultInside s form f) (own_same s t p form h) ∙ ap (λ A. (own_fault t p form ≡ Some f) ⊎ A) (inside_same s t form h f)

  inside_same : (s t : Setting) (form : Form) → AgreeOnForm s t form → (f : Fault) → FaultInside s form f ≡ FaultInside t form f
  inside_same s t (Number n) h f = refl
  inside_same s t (Str text) h f = refl
  inside_same s t (Strings items) h f = in_trees_same s t items h f
  inside_same s t Here h f = refl
  inside_same s t (Var v) h f = in_variable_same s t v h f
  inside_same s t (Address v) h f = in_variable_same s t v h f
  inside_same s t (Call trap object i method q args) h f = either (in_index_same s t i h.1 f) (in_trees_same s t args h.2 f)
  inside_same s t (Unary k e) h f = faults_same s t e h f
  inside_same s t (Binary k a b) h f = either (faults_same s t a h.0 f) (faults_same s t b h.1 f)
  inside_same s t (Assign v operator e) h f = either (in_variable_same s t v h.0 f) (faults_same s t e h.1 f)
  inside_same s t (Change v effect) h f = in_variable_same s t v h f
  inside_same s t (ObjectAddress e) h f = faults_same s t e h f
  inside_same s t (ObjConst object name q) h f = refl
  inside_same s t (Built code args) h f = in_trees_same s t args h f
  inside_same s t (Look code e xs) h f = either (faults_same s t e h.0 f) (in_items_same s t xs h.1 f)

  in_variable_same : (s t : Setting) (v : Variable) → AgreeOnVariable s t v → (f : Fault) → FaultInVariable s v f ≡ FaultInVariable t v f
  in_variable_same s t (Named name i q) h f = in_index_same s t i h.1 f
  in_variable_same s t (Part name size i q) h f = in_index_same s t i h.1 f
  in_variable_same s t (Memory size e i q) h f = either (faults_same s t e h.0 f) (in_index_same s t i h.1 f)
  in_variable_same s t (Register address x q) h f = in_bits_same s t x h.1 f

  in_index_same : (s t : Setting) (i : Index) → AgreeOnIndex s t i → (f : Fault) → FaultInIndex s i f ≡ FaultInIndex t i f
  in_index_same s t no_index h f = refl
  in_index_same s t (index e) h f = faults_same s t e h f

  in_bits_same : (s t : Setting) (x : Bits) → AgreeOnBits s t x → (f : Fault) → FaultInBits s x f ≡ FaultInBits t x f
  in_bits_same s t whole h f = refl
  in_bits_same s t (bits x) h f = in_item_same s t x h f

  in_item_same : (s t : Setting) (x : Item) → AgreeOnItem s t x → (f : Fault) → FaultInItem s x f ≡ FaultInItem t x f
  in_item_same s t (single e) h f = faults_same s t e h f
  in_item_same s t (range a b) h f = either (faults_same s t a h.0 f) (faults_same s t b h.1 f)

  in_trees_same : (s t : Setting) (es : Trees) → AgreeOnTrees s t es → (f : Fault) → FaultInTrees s es f ≡ FaultInTrees t es f
  in_trees_same s t no_trees h f = refl
  in_trees_same s t (es ▷ e) h f = either (in_trees_same s t es h.0 f) (faults_same s t e h.1 f)

  in_items_same : (s t : Setting) (xs : Items) → AgreeOnItems s t xs → (f : Fault) → FaultInItems s xs f ≡ FaultInItems t xs f
  in_items_same s t no_items h f = refl
  in_items_same s t (xs ▸ x) h f = either (in_items_same s t xs h.0 f) (in_item_same s t x h.1 f)

pub faults_alike : (s t : Setting) (e : Tree) → AgreeOn s t e → (f : Fault) → FaultIn t e f ↔ FaultIn s e f
faults_alike s t e h f =
    let same = faults_same s t e h f in
    (λ x. coe 1 0 (i. same i) x, λ x. coe 0 1 (i. same i) x)
