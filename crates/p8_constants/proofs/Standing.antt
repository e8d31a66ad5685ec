-- A name is among those mentioned exactly where it stands in the expression: by induction over trees.
use Rattle.std.proofs.Common.{◌≡◌, ◌⊎◌, ◌↔◌, inl, inr, ℕ, List, [], ◌∷◌, ◌++◌, sym, arith}
use Rattle.std.specs.Prelude.{Contains}
use Rattle.std.proofs.Math.Logic.{⊎_elim}
use Rattle.std.proofs.lemmas.List.Elements.{Contains-append_left, Contains-append_right, Contains-append_cases}
use Rattle.p8_tree.specs.Expressions.{Tree, node, Form, Number, Str, Strings, Here, Var, Call, Unary, Binary, Assign, Change, Address, ObjectAddress, ObjConst, Built, Look, Variable, Named, Part, Memory, Register, Index, no_index, index, Bits, whole, bits, Item, single, range, Trees, no_trees, ◌▷◌, Items, no_items, ◌▸◌}
use Rattle.p8_fold.proofs.Judging.{to_right, to_left}
use Rattle.p8_constants.specs.Mentions.{Mentions, FormMentions, VariableMentions, IndexMentions, BitsMention, ItemMentions, TreesMention, ItemsMention, called_name, mentioned, form_mentioned, variable_mentioned, index_mentioned, bits_mentioned, item_mentioned, trees_mentioned, items_mentioned}

-- n is in a list exactly where P holds
abbrev Tells : List (List ℕ) → List ℕ → Type 0 → Type 0
Tells xs n P = Contains xs n ↔ P

nobody : (n : List ℕ) → Tells [] n ⊥
nobody n = (λ (k, lt, is). omega arith, λ b. absurd b)

only : (x n : List ℕ) → Tells (x ∷ []) n (n ≡ x)
only x n = (λ (k, lt, is). let first : k ≡ 0 = omega arith in sym (rw first at is), λ same. (0, omega arith, sym same))

both : (xs ys : List (List ℕ)) (n : List ℕ) {P Q : Type 0} → Tells xs n P → Tells ys n Q → Tells (xs ++ ys) n (P ⊎ Q)
both xs ys n p q =
    (λ c. ⊎_elim (λ a. inl (p.0 a)) (λ b. inr (q.0 b)) (Contains-append_cases xs ys n c), ⊎_elim (λ a. Contains-append_left xs ys n (p.1 a)) (λ b. Contains-append_right xs ys n (q.1 b)))

mutual
  pub standing : (e : Tree) (n : List ℕ) → Tells (mentioned e) n (Mentions e n)
  standing (node p form) n = in_form form n

  in_form : (form : Form) (n : List ℕ) → Tells (form_mentioned form) n (FormMentions form n)
  in_form (Number v) n = nobody n
  in_form (Str text) n = nobody n
  in_form (Strings items) n = in_trees items n
  in_form Here n = nobody n
  in_form (Var v) n = in_variable v n
  in_form (Address v) n = in_variable v n
  in_form (Call trap object i method q args) n =
      let name = called_name object method in
      let told = both (name ∷ [] ++ index_mentioned i) (trees_mentioned args) n (both (name ∷ []) (index_mentioned i) n (only name n) (in_index i n)) (in_trees args n) in
      (λ c. to_right (told.0 c), λ m. told.1 (to_left m))
  in_form (Unary operator e) n = standing e n
  in_form (Binary operator a b) n = both (mentioned a) (mentioned b) n (standing a n) (standing b n)
  in_form (Assign v operator e) n = both (variable_mentioned v) (mentioned e) n (in_variable v n) (standing e n)
  in_form (Change v effect) n = in_variable v n
  in_form (ObjectAddress e) n = standing e n
  in_form (ObjConst object name q) n = only object n
  in_form (Built code args) n = in_trees args n
  in_form (Look code e xs) n = both (mentioned e) (items_mentioned xs) n (standing e n) (in_items xs n)

  in_variable : (v : Variable) (n : List ℕ) → Tells (variable_mentioned v) n (VariableMentions v n)
  in_variable (Named name i q) n = both (name ∷ []) (index_mentioned i) n (only name n) (in_index i n)
  in_variable (Part name size i q) n = both (name ∷ []) (index_mentioned i) n (only name n) (in_index i n)
  in_variable (Memory size e i q) n = both (mentioned e) (index_mentioned i) n (standing e n) (in_index i n)
  in_variable (Register address x q) n = in_bits x n

  in_index : (i : Index) (n : List ℕ) → Tells (index_mentioned i) n (IndexMentions i n)
  in_index no_index n = nobody n
  in_index (index e) n = standing e n

  in_bits : (x : Bits) (n : List ℕ) → Tells (bits_mentioned x) n (BitsMention x n)
  in_bits whole n = nobody n
  in_bits (bits x) n = in_item x n

  in_item : (x : Item) (n : List ℕ) → Tells (item_mentioned x) n (ItemMentions x n)
  in_item (single e) n = standing e n
  in_item (range a b) n = both (mentioned a) (mentioned b) n (standing a n) (standing b n)

  in_trees : (es : Trees) (n : List ℕ) → Tells (trees_mentioned es) n (TreesMention es n)
  in_trees no_trees n = nobody n
  in_trees (es ▷ e) n = both (trees_mentioned es) (mentioned e) n (in_trees es n) (standing e n)

  in_items : (xs : Items) (n : List ℕ) → Tells (items_mentioned xs) n (ItemsMention xs n)
  in_items no_items n = nobody n
  in_items (xs ▸ x) n = both (items_mentioned xs) (item_mentioned x) n (in_items xs n) (in_item x n)
