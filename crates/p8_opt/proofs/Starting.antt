-- A folded tree starts a method where the tree does, and has as many arguments.
use Rattle.std.proofs.Common.{◌≡◌, ℕ, ◌+◌, false, Option, Some, None, refl, sym, ap}
use Rattle.p8_tree.specs.declared.places.Place.{Place}
use Rattle.p8_tree.specs.Expressions.{Tree, node, Form, Number, Str, Strings, Here, Var, Call, Unary, Binary, Assign, Change, Address, ObjectAddress, ObjConst, Built, Look, Named, Part, Memory, Register, no_index, index, Trees, no_trees, ◌▷◌}
use Rattle.p8_gen.specs.Names.{Names}
use Rattle.p8_gen.specs.Expressions.{starts_method, count_of}
use Rattle.p8_meaning.specs.Folding.{number_or, tree_with, form_with, trees_with}

-- no tree that starts a method becomes a number
pub record StartsNothing (n : Names) (number : Tree → Option ℕ) : Type 0 where
  pub plain : (e : Tree) (v : ℕ) → number e ≡ Some v → starts_method n e ≡ false

pub counts-same : (number : Tree → Option ℕ) (es : Trees) → count_of (trees_with number es) ≡ count_of es
counts-same number no_trees = refl
counts-same number (es ▷ e) = ap (λ k. k + 1) (counts-same number es)

module _ (n : Names) (number : Tree → Option ℕ) where
  starts-form : (place : Place) (form : Form) → starts_method n (node place (form_with number form)) ≡ starts_method n (node place form)
  starts-form place (Call stops object i method at es) = refl
  starts-form place (Var (Named name no_index at)) = refl
  starts-form place (Var (Named name (index e) at)) = refl
  starts-form place (Var (Part name size i at)) = refl
  starts-form place (Var (Memory size e i at)) = refl
  starts-form place (Var (Register register x at)) = refl
  starts-form place (Number v) = refl
  starts-form place (Str text) = refl
  starts-form place (Strings es) = refl
  starts-form place Here = refl
  starts-form place (Unary operator e) = refl
  starts-form place (Binary operator a b) = refl
  starts-form place (Assign v operator e) = refl
  starts-form place (Change v change) = refl
  starts-form place (Address v) = refl
  starts-form place (ObjectAddress e) = refl
  starts-form place (ObjConst object name at) = refl
  starts-form place (Built code es) = refl
  starts-form place (Look code e xs) = refl

  starts-or : (o : Option ℕ) (place : Place) (form : Form) → ((v : ℕ) → o ≡ Some v → starts_method n (node place form) ≡ false) → starts_method n (node place (number_or o (form_with number form))) ≡ starts_method n (node place form)
  starts-or None place form plain = starts-form place form
  starts-or (Some v) place form plain = sym (plain v refl)

  pub starts-same : StartsNothing n number → (m : Tree) → starts_method n (tree_with number m) ≡ starts_method n m
  starts-same suits (node place form) = starts-or (number (node place form)) place form (suits.plain (node place form))
