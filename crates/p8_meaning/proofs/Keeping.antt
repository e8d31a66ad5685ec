-- A tree in which no expression becomes a number is the same.
use Rattle.std.proofs.Common.{◌≡◌, refl, ap, ap₂, ℕ, ◌==◌, Bool, true, false, if◌then◌else◌, Option, None}
use Rattle.p8_tree.specs.Expressions.{Tree, node, Form, Number, Str, Strings, Here, Var, Call, Unary, Binary, Assign, Change, Address, ObjectAddress, ObjConst, Built, Look, Variable, Named, Part, Memory, Register, Index, no_index, index, Bits, whole, bits, Item, single, range, Trees, no_trees, ◌▷◌, Items, no_items, ◌▸◌}
use Rattle.p8_meaning.specs.Folding.{tree_with, form_with, variable_with, index_with, bits_with, item_with, trees_with, arguments_with, items_with}

abbrev none : Tree → Option ℕ
none = λ e. None

either : (b : Bool) (e f : Tree) → f ≡ e → (if b then e else f) ≡ e
either true e f h = refl
either false e f h = h

mutual
  pub tree-kept : (e : Tree) → tree_with none e ≡ e
  tree-kept (node place form) = ap (node place) (form-kept form)

  form-kept : (form : Form) → form_with none form ≡ form
  form-kept (Number n) = refl
  form-kept (Str text) = refl
  form-kept (Strings es) = refl
  form-kept Here = refl
  form-kept (Var v) = ap Var (variable-kept v)
  form-kept (Call stops object i method at arguments) = ap₂ (λ i es. Call stops object i method at es) (index-kept i) (trees-kept arguments)
  form-kept (Unary operator e) = ap (Unary operator) (tree-kept e)
  form-kept (Binary operator a b) = ap₂ (Binary operator) (tree-kept a) (tree-kept b)
  form-kept (Assign v operator e) = ap₂ (λ v e. Assign v operator e) (variable-kept v) (tree-kept e)
  form-kept (Change v change) = ap (λ v. Change v change) (variable-kept v)
  form-kept (Address v) = ap Address (variable-kept v)
  form-kept (ObjectAddress e) = ap ObjectAddress (tree-kept e)
  form-kept (ObjConst object name at) = refl
  form-kept (Built code arguments) = ap (Built code) (arguments-kept code arguments)
  form-kept (Look code e items) = ap₂ (Look code) (tree-kept e) (items-kept items)

  variable-kept : (v : Variable) → variable_with none v ≡ v
  variable-kept (Named name i at) = ap (λ i. Named name i at) (index-kept i)
  variable-kept (Part name size i at) = ap (λ i. Part name size i at) (index-kept i)
  variable-kept (Memory size e i at) = ap₂ (λ e i. Memory size e i at) (tree-kept e) (index-kept i)
  variable-kept (Register register x at) = ap (λ x. Register register x at) (bits-kept x)

  index-kept : (i : Index) → index_with none i ≡ i
  index-kept no_index = refl
  index-kept (index e) = ap index (tree-kept e)

  bits-kept : (x : Bits) → bits_with none x ≡ x
  bits-kept whole = refl
  bits-kept (bits x) = ap bits (item-kept x)

  item-kept : (x : Item) → item_with none x ≡ x
  item-kept (single e) = ap single (tree-kept e)
  item-kept (range e f) = ap₂ range (tree-kept e) (tree-kept f)

  pub trees-kept : (es : Trees) → trees_with none es ≡ es
  trees-kept no_trees = refl
  trees-kept (es ▷ e) = ap₂ (λ es e. es ▷ e) (trees-kept es) (tree-kept e)

  arguments-kept : (code : ℕ) (es : Trees) → arguments_with none code es ≡ es
  arguments-kept code no_trees = refl
  arguments-kept code (no_trees ▷ e) = ap (λ e. no_trees ▷ e) (either (code == 0) e (tree_with none e) (tree-kept e))
  arguments-kept code (es ▷ d ▷ e) = ap₂ (λ es e. es ▷ e) (ap₂ (λ es e. es ▷ e) (trees-kept es) (tree-kept d)) (tree-kept e)

  items-kept : (xs : Items) → items_with none xs ≡ xs
  items-kept no_items = refl
  items-kept (xs ▸ x) = ap₂ (λ xs x. xs ▸ x) (items-kept xs) (item-kept x)
