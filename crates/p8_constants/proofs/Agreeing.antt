-- Two settings that give the names of an expression the same meanings agree on it.
use Rattle.std.proofs.Common.{◌≡◌, inl, inr, ℕ, List, Option, Some, None, refl}
use Rattle.p8_tree.specs.Expressions.{Tree, node, Form, Number, Str, Strings, Here, Var, Call, Unary, Binary, Assign, Change, Address, ObjectAddress, ObjConst, Built, Look, Variable, Named, Part, Memory, Register, Index, no_index, index, Bits, whole, bits, Item, single, range, Trees, no_trees, ◌▷◌, Items, no_items, ◌▸◌}
use Rattle.p8_fold.specs.Meanings.{Setting}
use Rattle.p8_fold.specs.Agreement.{AgreeOn, AgreeOnForm, AgreeOnVariable, AgreeOnIndex, AgreeOnBits, AgreeOnItem, AgreeOnTrees, AgreeOnItems, AgreeOnCalled}
use Rattle.p8_constants.specs.Mentions.{Mentions, FormMentions, VariableMentions, IndexMentions, BitsMention, ItemMentions, TreesMention, ItemsMention, called_name}

-- what doesn't depend on the names that are mentioned
pub record Alike (s t : Setting) : Type 0 where
  pub constants : (object name : List ℕ) → s.constant object name ≡ t.constant object name
  pub here : s.here ≡ t.here

called : (s t : Setting) (object : Option (List ℕ)) (method : List ℕ) → s.name (called_name object method) ≡ t.name (called_name object method) → AgreeOnCalled s t object method
called s t None method h = h
called s t (Some object) method h = h

mutual
  pub agree : (s t : Setting) → Alike s t → (e : Tree) → ((n : List ℕ) → Mentions e n → s.name n ≡ t.name n) → AgreeOn s t e
  agree s t k (node p form) h = agree_form s t k form h

  agree_form : (s t : Setting) → Alike s t → (form : Form) → ((n : List ℕ) → FormMentions form n → s.name n ≡ t.name n) → AgreeOnForm s t form
  agree_form s t k (Number v) h = tt
  agree_form s t k (Str text) h = tt
  agree_form s t k (Strings items) h = agree_trees s t k items h
  agree_form s t k Here h = k.here
  agree_form s t k (Var v) h = agree_variable s t k v h
  agree_form s t k (Address v) h = agree_variable s t k v h
  agree_form s t k (Call trap object i method q args) h =
      (called s t object method (h (called_name object method) (inl refl)), agree_index s t k i (λ n m. h n (inr (inl m))), agree_trees s t k args (λ n m. h n (inr (inr m))))
  agree_form s t k (Unary operator e) h = agree s t k e h
  agree_form s t k (Binary operator a b) h = (agree s t k a (λ n m. h n (inl m)), agree s t k b (λ n m. h n (inr m)))
  agree_form s t k (Assign v operator e) h = (agree_variable s t k v (λ n m. h n (inl m)), agree s t k e (λ n m. h n (inr m)))
  agree_form s t k (Change v effect) h = agree_variable s t k v h
  agree_form s t k (ObjectAddress e) h = agree s t k e h
  agree_form s t k (ObjConst object name q) h = (h object refl, k.constants object name)
  agree_form s t k (Built code args) h = agree_trees s t k args h
  agree_form s t k (Look code e xs) h = (agree s t k e (λ n m. h n (inl m)), agree_items s t k xs (λ n m. h n (inr m)))

  agree_variable : (s t : Setting) → Alike s t → (v : Variable) → ((n : List ℕ) → VariableMentions v n → s.name n ≡ t.name n) → AgreeOnVariable s t v
  agree_variable s t k (Named name i q) h = (h name (inl refl), agree_index s t k i (λ n m. h n (inr m)))
  agree_variable s t k (Part name size i q) h = (h name (inl refl), agree_index s t k i (λ n m. h n (inr m)))
  agree_variable s t k (Memory size e i q) h = (agree s t k e (λ n m. h n (inl m)), agree_index s t k i (λ n m. h n (inr m)))
  agree_variable s t k (Register address x q) h = (k.here, agree_bits s t k x h)

  agree_index : (s t : Setting) → Alike s t → (i : Index) → ((n : List ℕ) → IndexMentions i n → s.name n ≡ t.name n) → AgreeOnIndex s t i
  agree_index s t k no_index h = tt
  agree_index s t k (index e) h = agree s t k e h

  agree_bits : (s t : Setting) → Alike s t → (x : Bits) → ((n : List ℕ) → BitsMention x n → s.name n ≡ t.name n) → AgreeOnBits s t x
  agree_bits s t k whole h = tt
  agree_bits s t k (bits x) h = agree_item s t k x h

  agree_item : (s t : Setting) → Alike s t → (x : Item) → ((n : List ℕ) → ItemMentions x n → s.name n ≡ t.name n) → AgreeOnItem s t x
  agree_item s t k (single e) h = agree s t k e h
  agree_item s t k (range a b) h = (agree s t k a (λ n m. h n (inl m)), agree s t k b (λ n m. h n (inr m)))

  agree_trees : (s t : Setting) → Alike s t → (es : Trees) → ((n : List ℕ) → TreesMention es n → s.name n ≡ t.name n) → AgreeOnTrees s t es
  agree_trees s t k no_trees h = tt
  agree_trees s t k (es ▷ e) h = (agree_trees s t k es (λ n m. h n (inl m)), agree s t k e (λ n m. h n (inr m)))

  agree_items : (s t : Setting) → Alike s t → (xs : Items) → ((n : List ℕ) → ItemsMention xs n → s.name n ≡ t.name n) → AgreeOnItems s t xs
  agree_items s t k no_items h = tt
  agree_items s t k (xs ▸ x) h = (agree_items s t k xs (λ n m. h n (inl m)), agree_item s t k x (λ n m. h n (inr m)))
