-- Places say nothing on heights.
use Rattle.std.proofs.Common.{◌≡◌, suc, refl, sym, ap, ap₂, ◌∙◌}
use Rattle.std.specs.Prelude.{max}
use Rattle.p8_tree.specs.Expressions.{Tree, node, Form, Number, Str, Strings, Here, Var, Call, Unary, Binary, Assign, Change, Address, ObjectAddress, ObjConst, Built, Look, Variable, Named, Part, Memory, Register, Index, no_index, index, Bits, whole, bits, Item, single, range, Trees, no_trees, ◌▷◌, Items, no_items, ◌▸◌}
use Rattle.p8_tree.specs.Forgetting.{tree_anywhere, form_anywhere, variable_anywhere, index_anywhere, bits_anywhere, item_anywhere, trees_anywhere, items_anywhere, IsSameTree}
use Rattle.p8_grammar.specs.Heights.{height, height_in, height_in_variable, height_in_index, height_in_bits, height_of_item, height_of_trees, height_of_items}

mutual
  kept : (e : Tree) → height (tree_anywhere e) ≡ height e
  kept (node p f) = ap suc (form_kept f)

  form_kept : (f : Form) → height_in (form_anywhere f) ≡ height_in f
  form_kept (Number n) = refl
  form_kept (Str t) = refl
  form_kept (Strings es) = trees_kept es
  form_kept Here = refl
  form_kept (Var v) = variable_kept v
  form_kept (Call trap object i n p es) = ap₂ (λ a b. max a b) (index_kept i) (trees_kept es)
  form_kept (Unary k e) = kept e
  form_kept (Binary k a b) = ap₂ (λ a b. max a b) (kept a) (kept b)
  form_kept (Assign v o e) = ap₂ (λ a b. max a b) (variable_kept v) (kept e)
  form_kept (Change v k) = variable_kept v
  form_kept (Address v) = variable_kept v
  form_kept (ObjectAddress e) = kept e
  form_kept (ObjConst n m p) = refl
  form_kept (Built k es) = trees_kept es
  form_kept (Look k e xs) = ap₂ (λ a b. max a b) (kept e) (items_kept xs)

  variable_kept : (v : Variable) → height_in_variable (variable_anywhere v) ≡ height_in_variable v
  variable_kept (Named n i p) = index_kept i
  variable_kept (Part n z i p) = index_kept i
  variable_kept (Memory z e i p) = ap₂ (λ a b. max a b) (kept e) (index_kept i)
  variable_kept (Register a x p) = bits_kept x

  index_kept : (i : Index) → height_in_index (index_anywhere i) ≡ height_in_index i
  index_kept no_index = refl
  index_kept (index e) = kept e

  bits_kept : (x : Bits) → height_in_bits (bits_anywhere x) ≡ height_in_bits x
  bits_kept whole = refl
  bits_kept (bits x) = item_kept x

  item_kept : (x : Item) → height_of_item (item_anywhere x) ≡ height_of_item x
  item_kept (single e) = kept e
  item_kept (range low high) = ap₂ (λ a b. max a b) (kept low) (kept high)

  trees_kept : (es : Trees) → height_of_trees (trees_anywhere es) ≡ height_of_trees es
  trees_kept no_trees = refl
  trees_kept (es ▷ e) = ap₂ (λ a b. max a b) (trees_kept es) (kept e)

  items_kept : (xs : Items) → height_of_items (items_anywhere xs) ≡ height_of_items xs
  items_kept no_items = refl
  items_kept (xs ▸ x) = ap₂ (λ a b. max a b) (items_kept xs) (item_kept x)

pub same_height : (x y : Tree) → IsSameTree x y → height x ≡ height y
same_height x y h = sym (kept x) ∙ ap height h ∙ kept y
