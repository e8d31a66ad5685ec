-- Which entries an expression looks at: those of the names that stand in it, and where it stands itself, if `$` or a register
-- stands in it.
use Rattle.std.specs.Prelude.{◌≡◌, ℕ, List, Option, Some, None}
use Rattle.p8_tree.specs.Expressions.{Tree, node, Form, Number, Str, Strings, Here, Var, Call, Unary, Binary, Assign, Change, Address, ObjectAddress}
use Rattle.p8_tree.specs.Expressions.{ObjConst, Built, Look, Variable, Named, Part, Memory, Register, Index, no_index, index, Bits, whole, bits}
use Rattle.p8_tree.specs.Expressions.{Item, single, range, Trees, no_trees, ◌▷◌, Items, no_items, ◌▸◌}
use Rattle.p8_fold.specs.Meanings.{Setting}

-- two settings give the name that a call begins with the same meaning
abbrev pub AgreeOnCalled : Setting → Setting → Option (List ℕ) → List ℕ → Type 0
AgreeOnCalled s t (Some object) method = s.name object ≡ t.name object
AgreeOnCalled s t None method = s.name method ≡ t.name method

-- two settings agree on what a tree mentions
abbrev mutual
  pub AgreeOn : Setting → Setting → Tree → Type 0
  AgreeOn s t (node p form) = AgreeOnForm s t form

  pub AgreeOnForm : Setting → Setting → Form → Type 0
  AgreeOnForm s t (Number n) = Unit {0}
  AgreeOnForm s t (Str text) = Unit {0}
  AgreeOnForm s t (Strings items) = AgreeOnTrees s t items
  AgreeOnForm s t Here = s.here ≡ t.here
  AgreeOnForm s t (Var v) = AgreeOnVariable s t v
  AgreeOnForm s t (Address v) = AgreeOnVariable s t v
  AgreeOnForm s t (Call trap object i method place args) = AgreeOnCalled s t object method × AgreeOnIndex s t i × AgreeOnTrees s t args
  AgreeOnForm s t (Unary operator e) = AgreeOn s t e
  AgreeOnForm s t (Binary operator a b) = AgreeOn s t a × AgreeOn s t b
  AgreeOnForm s t (Assign v operator e) = AgreeOnVariable s t v × AgreeOn s t e
  AgreeOnForm s t (Change v effect) = AgreeOnVariable s t v
  AgreeOnForm s t (ObjectAddress e) = AgreeOn s t e
  AgreeOnForm s t (ObjConst object name place) = (s.name object ≡ t.name object) × (s.constant object name ≡ t.constant object name)
  AgreeOnForm s t (Built code args) = AgreeOnTrees s t args
  AgreeOnForm s t (Look code e xs) = AgreeOn s t e × AgreeOnItems s t xs

  pub AgreeOnVariable : Setting → Setting → Variable → Type 0
  AgreeOnVariable s t (Named name i place) = (s.name name ≡ t.name name) × AgreeOnIndex s t i
  AgreeOnVariable s t (Part name size i place) = (s.name name ≡ t.name name) × AgreeOnIndex s t i
  AgreeOnVariable s t (Memory size e i place) = AgreeOn s t e × AgreeOnIndex s t i
  AgreeOnVariable s t (Register address x place) = (s.here ≡ t.here) × AgreeOnBits s t x

  pub AgreeOnIndex : Setting → Setting → Index → Type 0
  AgreeOnIndex s t no_index = Unit {0}
  AgreeOnIndex s t (index e) = AgreeOn s t e

  pub AgreeOnBits : Setting → Setting → Bits → Type 0
  AgreeOnBits s t whole = Unit {0}
  AgreeOnBits s t (bits x) = AgreeOnItem s t x

  pub AgreeOnItem : Setting → Setting → Item → Type 0
  AgreeOnItem s t (single e) = AgreeOn s t e
  AgreeOnItem s t (range low high) = AgreeOn s t low × AgreeOn s t high

  pub AgreeOnTrees : Setting → Setting → Trees → Type 0
  AgreeOnTrees s t no_trees = Unit {0}
  AgreeOnTrees s t (es ▷ e) = AgreeOnTrees s t es × AgreeOn s t e

  pub AgreeOnItems : Setting → Setting → Items → Type 0
  AgreeOnItems s t no_items = Unit {0}
  AgreeOnItems s t (xs ▸ x) = AgreeOnItems s t xs × AgreeOnItem s t x
