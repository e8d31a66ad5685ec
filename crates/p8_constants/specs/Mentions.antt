-- Which names stand alone in an expression, so that what they mean decides its value. Names after `#`, which belong to other
-- files, are not among them; the name before `#` is.
use Rattle.std.specs.Prelude.{◌≡◌, ◌⊎◌, ℕ, List, [], ◌∷◌, ◌++◌, Option, Some, None}
use Rattle.p8_tree.specs.Expressions.{Tree, node, Form, Number, Str, Strings, Here, Var, Call, Unary, Binary, Assign, Change, Address, ObjectAddress}
use Rattle.p8_tree.specs.Expressions.{ObjConst, Built, Look, Variable, Named, Part, Memory, Register, Index, no_index, index, Bits, whole, bits}
use Rattle.p8_tree.specs.Expressions.{Item, single, range, Trees, no_trees, ◌▷◌, Items, no_items, ◌▸◌}

-- the name that a call begins with
abbrev pub called_name : Option (List ℕ) → List ℕ → List ℕ
called_name (Some object) method = object
called_name None method = method

abbrev mutual
  pub Mentions : Tree → List ℕ → Type 0
  Mentions (node p form) n = FormMentions form n

  pub FormMentions : Form → List ℕ → Type 0
  FormMentions (Number v) n = ⊥
  FormMentions (Str text) n = ⊥
  FormMentions (Strings items) n = TreesMention items n
  FormMentions Here n = ⊥
  FormMentions (Var v) n = VariableMentions v n
  FormMentions (Address v) n = VariableMentions v n
  FormMentions (Call trap object i method place args) n = (n ≡ called_name object method) ⊎ (IndexMentions i n ⊎ TreesMention args n)
  FormMentions (Unary operator e) n = Mentions e n
  FormMentions (Binary operator a b) n = Mentions a n ⊎ Mentions b n
  FormMentions (Assign v operator e) n = VariableMentions v n ⊎ Mentions e n
  FormMentions (Change v effect) n = VariableMentions v n
  FormMentions (ObjectAddress e) n = Mentions e n
  FormMentions (ObjConst object name place) n = n ≡ object
  FormMentions (Built code args) n = TreesMention args n
  FormMentions (Look code e xs) n = Mentions e n ⊎ ItemsMention xs n

  pub VariableMentions : Variable → List ℕ → Type 0
  VariableMentions (Named name i place) n = (n ≡ name) ⊎ IndexMentions i n
  VariableMentions (Part name size i place) n = (n ≡ name) ⊎ IndexMentions i n
  VariableMentions (Memory size e i place) n = Mentions e n ⊎ IndexMentions i n
  VariableMentions (Register address x place) n = BitsMention x n

  pub IndexMentions : Index → List ℕ → Type 0
  IndexMentions no_index n = ⊥
  IndexMentions (index e) n = Mentions e n

  pub BitsMention : Bits → List ℕ → Type 0
  BitsMention whole n = ⊥
  BitsMention (bits x) n = ItemMentions x n

  pub ItemMentions : Item → List ℕ → Type 0
  ItemMentions (single e) n = Mentions e n
  ItemMentions (range low high) n = Mentions low n ⊎ Mentions high n

  pub TreesMention : Trees → List ℕ → Type 0
  TreesMention no_trees n = ⊥
  TreesMention (es ▷ e) n = TreesMention es n ⊎ Mentions e n

  pub ItemsMention : Items → List ℕ → Type 0
  ItemsMention no_items n = ⊥
  ItemsMention (xs ▸ x) n = ItemsMention xs n ⊎ ItemMentions x n

-- ---- the same as a list, from left to right

abbrev mutual
  pub mentioned : Tree → List (List ℕ)
  mentioned (node p form) = form_mentioned form

  pub form_mentioned : Form → List (List ℕ)
  form_mentioned (Number v) = []
  form_mentioned (Str text) = []
  form_mentioned (Strings items) = trees_mentioned items
  form_mentioned Here = []
  form_mentioned (Var v) = variable_mentioned v
  form_mentioned (Address v) = variable_mentioned v
  form_mentioned (Call trap object i method place args) = called_name object method ∷ [] ++ index_mentioned i ++ trees_mentioned args
  form_mentioned (Unary operator e) = mentioned e
  form_mentioned (Binary operator a b) = mentioned a ++ mentioned b
  form_mentioned (Assign v operator e) = variable_mentioned v ++ mentioned e
  form_mentioned (Change v effect) = variable_mentioned v
  form_mentioned (ObjectAddress e) = mentioned e
  form_mentioned (ObjConst object name place) = object ∷ []
  form_mentioned (Built code args) = trees_mentioned args
  form_mentioned (Look code e xs) = mentioned e ++ items_mentioned xs

  pub variable_mentioned : Variable → List (List ℕ)
  variable_mentioned (Named name i place) = name ∷ [] ++ index_mentioned i
  variable_mentioned (Part name size i place) = name ∷ [] ++ index_mentioned i
  variable_mentioned (Memory size e i place) = mentioned e ++ index_mentioned i
  variable_mentioned (Register address x place) = bits_mentioned x

  pub index_mentioned : Index → List (List ℕ)
  index_mentioned no_index = []
  index_mentioned (index e) = mentioned e

  pub bits_mentioned : Bits → List (List ℕ)
  bits_mentioned whole = []
  bits_mentioned (bits x) = item_mentioned x

  pub item_mentioned : Item → List (List ℕ)
  item_mentioned (single e) = mentioned e
  item_mentioned (range low high) = mentioned low ++ mentioned high

  pub trees_mentioned : Trees → List (List ℕ)
  trees_mentioned no_trees = []
  trees_mentioned (es ▷ e) = trees_mentioned es ++ mentioned e

  pub items_mentioned : Items → List (List ℕ)
  items_mentioned no_items = []
  items_mentioned (xs ▸ x) = items_mentioned xs ++ item_mentioned x
