-- How high a tree is: an expression without another inside it has height 1. Parentheses leave no tree, so they add no
-- height.
use Rattle.std.specs.Prelude.{ℕ, suc, max}
use Rattle.p8_tree.specs.Expressions.{Tree, node, Form, Number, Str, Strings, Here, Var, Call, Unary, Binary, Assign, Change, Address, ObjectAddress}
use Rattle.p8_tree.specs.Expressions.{ObjConst, Built, Look, Variable, Named, Part, Memory, Register, Index, no_index, index, Bits, whole, bits}
use Rattle.p8_tree.specs.Expressions.{Item, single, range, Trees, no_trees, ◌▷◌, Items, no_items, ◌▸◌}

abbrev mutual
  pub height : Tree → ℕ
  height (node p f) = suc (height_in f)

  -- the height of the highest expression inside, or 0
  pub height_in : Form → ℕ
  height_in (Number n) = 0
  height_in (Str t) = 0
  height_in (Strings es) = height_of_trees es
  height_in Here = 0
  height_in (Var v) = height_in_variable v
  height_in (Call trap object i n p es) = max (height_in_index i) (height_of_trees es)
  height_in (Unary k e) = height e
  height_in (Binary k a b) = max (height a) (height b)
  height_in (Assign v o e) = max (height_in_variable v) (height e)
  height_in (Change v k) = height_in_variable v
  height_in (Address v) = height_in_variable v
  height_in (ObjectAddress e) = height e
  height_in (ObjConst n m p) = 0
  height_in (Built k es) = height_of_trees es
  height_in (Look k e xs) = max (height e) (height_of_items xs)

  pub height_in_variable : Variable → ℕ
  height_in_variable (Named n i p) = height_in_index i
  height_in_variable (Part n z i p) = height_in_index i
  height_in_variable (Memory z e i p) = max (height e) (height_in_index i)
  height_in_variable (Register a x p) = height_in_bits x

  pub height_in_index : Index → ℕ
  height_in_index no_index = 0
  height_in_index (index e) = height e

  pub height_in_bits : Bits → ℕ
  height_in_bits whole = 0
  height_in_bits (bits x) = height_of_item x

  pub height_of_item : Item → ℕ
  height_of_item (single e) = height e
  height_of_item (range low high) = max (height low) (height high)

  pub height_of_trees : Trees → ℕ
  height_of_trees no_trees = 0
  height_of_trees (es ▷ e) = max (height_of_trees es) (height e)

  pub height_of_items : Items → ℕ
  height_of_items no_items = 0
  height_of_items (xs ▸ x) = max (height_of_items xs) (height_of_item x)
