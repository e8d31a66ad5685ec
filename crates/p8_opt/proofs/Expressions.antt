-- The code of a folded expression is no longer, and its jumps go no farther.
use Rattle.std.proofs.Common.{◌≡◌, ℕ, ◌+◌, ◌≤◌, ◌==◌, not, Bool, true, false, if◌then◌else◌, List, Option, Some, None, refl, sym, subst}
use Rattle.p8_tree.specs.declared.places.Place.{Place}
use Rattle.p8_tree.specs.Expressions.{Tree, node, Form, Number, Str, Strings, Here, Var, Call, Unary, Binary, Assign, Change, Address, ObjectAddress, ObjConst, Built, Look, Variable, Named, Part, Memory, Register, Index, no_index, index, whole, bits, single, range, Trees, no_trees, ◌▷◌, Items, no_items, ◌▸◌}
use Rattle.p8_kinds.specs.declared.name_kinds.NameKind.{NameKind}
use Rattle.p8_kinds.specs.declared.name_kinds.NameKind.TheVariants as kinds
use Rattle.p8_words.specs.Operators.{or_zero}
use Rattle.p8_fold.specs.Values as constants
use Rattle.p8_gen.specs.Names.{Names, all_wide}
use Rattle.p8_gen.specs.Pieces.{Written, ◌⨾◌}
use Rattle.p8_gen.specs.Variables.{number, Home, Operation, Using, leaving, effect_for}
use Rattle.p8_gen.specs.Expressions.{size_of, method_in, callee, constant, looks_down, starts_method, start_of_method, starts, started, built, value, value_of_form, operate, in_home, values, index_value, call_of_built, arguments, looks, alone}
use Rattle.p8_meaning.specs.Folding.{number_or, tree_with, form_with, variable_with, index_with, trees_with, arguments_with, items_with}
use Rattle.p8_opt.proofs.Fixed as shape
use Rattle.p8_opt.proofs.Fixed.{number-fixed, name-fixed, own-fixed, counts-fixed, made-fixed, without-fixed}
use Rattle.p8_opt.proofs.Growing.{value-grows}
use Rattle.p8_opt.proofs.Starting.{counts-same, starts-same}
use Rattle.p8_opt.proofs.Steady.{look-steady}
use Rattle.p8_opt.proofs.Length.{Suits}
use Rattle.p8_opt.proofs.Closer.{Targets, ahead, IsTarget, first-ahead, Closer, both, fixed-closer, same, ones, bytes, nothings, gone, either, either_by, jumps, ups}

module _ (n : Names) (all : n.wide ≡ all_wide) (number_of : Tree → Option ℕ) (suits : Suits n number_of) where
  -- ---- names, sizes, starts

  size-same : (v : Variable) → size_of n (variable_with number_of v) ≡ size_of n v
  size-same (Named name i at) = refl
  size-same (Part name size i at) = refl
  size-same (Memory size e i at) = refl
  size-same (Register register x at) = refl

  changed : {ts : Targets} (v d : Variable) (f : ℕ → Operation) → size_of n v ≡ size_of n d → Closer ts (operate n v (f (size_of n d))) (operate n d (f (size_of n d))) → Closer ts (operate n v (f (size_of n v))) (operate n d (f (size_of n d)))
  changed {ts} v d f is h = subst (λ k. Closer ts (operate n v (f k)) (operate n d (f (size_of n d)))) (sym is) h

  in-closer : {ts : Targets} (kind : Option NameKind) (i : Index) (method : List ℕ) → Closer ts (method_in n kind (index_with number_of i) method) (method_in n kind i method)
  in-closer (Some (kinds.Object item position count)) no_index method = ones _
  in-closer (Some (kinds.Object item position count)) (index e) method = ones _
  in-closer (Some (kinds.Const v)) i method = nothings
  in-closer _ i method = nothings

  callee-closer : {ts : Targets} (object : Option (List ℕ)) (i : Index) (method : List ℕ) → Closer ts (callee n object (index_with number_of i) method) (callee n object i method)
  callee-closer None i method = same (own-fixed (n.kind method))
  callee-closer (Some object) i method = in-closer (n.kind object) i method

  start-closer : {ts : Targets} (method j k : ℕ) → j ≡ k → Closer ts (start_of_method method j) (start_of_method method k)
  start-closer {ts} method j k is = subst (λ i. Closer ts (start_of_method method j) (start_of_method method i)) is (ones _)

  starts-or : {ts : Targets} (o : Option ℕ) (place : Place) (form before : Form) → Closer ts (starts n (node place form)) (starts n (node place before)) → Closer ts (starts n (node place (number_or o form))) (starts n (node place before))
  starts-or None place form before h = h
  starts-or (Some v) place form before h = gone h.right

  starts-closer : {ts : Targets} (m : Tree) → Closer ts (starts n (tree_with number_of m)) (starts n m)
  starts-closer (node place (Call stops object i method at es)) =
      starts-or (number_of (node place (Call stops object i method at es))) place (form_with number_of (Call stops object i method at es)) (Call stops object i method at es) (start-closer _ _ _ (counts-same number_of es))
  starts-closer (node place (Var (Named name i at))) =
      starts-or (number_of (node place (Var (Named name i at)))) place (form_with number_of (Var (Named name i at))) (Var (Named name i at)) (ones _)
  starts-closer (node place (Var (Part name size i at))) =
      starts-or (number_of (node place (Var (Part name size i at)))) place (form_with number_of (Var (Part name size i at))) (Var (Part name size i at)) nothings
  starts-closer (node place (Var (Memory size e i at))) =
      starts-or (number_of (node place (Var (Memory size e i at)))) place (form_with number_of (Var (Memory size e i at))) (Var (Memory size e i at)) nothings
  starts-closer (node place (Var (Register register x at))) =
      starts-or (number_of (node place (Var (Register register x at)))) place (form_with number_of (Var (Register register x at))) (Var (Register register x at)) nothings
  starts-closer (node place (Number v)) = starts-or (number_of (node place (Number v))) place (Number v) (Number v) nothings
  starts-closer (node place form) = starts-or (number_of (node place form)) place (form_with number_of form) form nothings

  started-closer : {ts : Targets} (used : Bool) (m : Tree) → Closer ts (started n used (tree_with number_of m)) (started n used m)
  started-closer used m =
      either_by (starts_method n (tree_with number_of m)) (starts_method n m) (starts-same n number_of suits.starts m) (both (starts-closer m) (same (shape.either used shape.nothings (shape.bytes _)))) (bytes _)

  -- ---- numbers

  number-closer : {ts : Targets} (o : Option ℕ) (place : Place) (form before : Form)
      → ((v : ℕ) → o ≡ Some v → (x w : Written) → (number v x).end + w.end ≤ (value n (node place before) w).end + x.end)
      → Closer ts (value_of_form n place form) (value_of_form n place before) → Closer ts (value_of_form n place (number_or o form)) (value_of_form n place before)
  number-closer None place form before short h = h
  number-closer (Some v) place form before short h = fixed-closer (number-fixed v) (value-grows n (node place before)) (short v refl)

  arguments-or : {ts : Targets} (o : Option ℕ) (place : Place) (form before : Form) → Closer ts (arguments n (node place form)) (arguments n (node place before)) → Closer ts (arguments n (node place (number_or o form))) (arguments n (node place before))
  arguments-or None place form before h = h
  arguments-or (Some v) place form before h = gone h.right

  one-closer : {ts : Targets} (used : Bool) (code : ℕ) (t : Bool) (d e : Tree) → Closer ts (value n d) (value n e)
      → Closer ts (if t then constant n (if t then e else d) else value n (if t then e else d) ⨾ built used code) (if t then constant n e else value n e ⨾ built used code)
  one-closer used code true d e h = same (number-fixed (or_zero (constants.value n.constants e)))
  one-closer used code false d e h = both h (same (made-fixed used code))

  -- ---- expressions

  mutual
    pub tree-closer : (ts : Targets) (e : Tree) → Closer ts (value n (tree_with number_of e)) (value n e)
    tree-closer ts (node place form) = number-closer (number_of (node place form)) place (form_with number_of form) form (suits.short (node place form)) (form-closer ts place form)

    form-closer : (ts : Targets) (place : Place) (form : Form) → Closer ts (value_of_form n place (form_with number_of form)) (value_of_form n place form)
    form-closer ts place (Number v) = same (number-fixed v)
    form-closer ts place (Str text) = same (shape.texts place _)
    form-closer ts place (Strings es) = same (shape.texts place _)
    form-closer ts place Here = nothings
    form-closer ts place (Var (Named name no_index at)) = same (name-fixed n name (n.kind name))
    form-closer ts place (Var (Named name (index e) at)) = both (tree-closer ts e) (ones _)
    form-closer ts place (Var (Part name size i at)) = home-closer ts _ i _
    form-closer ts place (Var (Memory size e i at)) = operate-closer ts (Memory size e i at) _
    form-closer ts place (Var (Register register x at)) = operate-closer ts (Register register x at) _
    form-closer ts place (Call stops object i method at es) = both (both (both (bytes _) (values-closer ts es)) (index-closer ts i)) (callee-closer object i method)
    form-closer ts place (Unary operator e) = both (tree-closer ts e) (either (operator == 0xEC) nothings (bytes _))
    form-closer ts place (Binary operator a b) = both (both (tree-closer ts a) (tree-closer ts b)) (bytes _)
    form-closer ts place (Assign v operator e) = both (tree-closer ts e) (operate-closer ts v _)
    form-closer ts place (Change v effect) = changed (variable_with number_of v) v (λ k. Using (leaving true (effect_for k effect))) (size-same v) (operate-closer ts v _)
    form-closer ts place (Address v) = operate-closer ts v _
    form-closer ts place (ObjectAddress e) = both (tree-closer ts e) (bytes _)
    form-closer ts place (ObjConst object name at) = same (number-fixed (or_zero (constants.value n.constants (node place (ObjConst object name at)))))
    form-closer ts place (Built code es) = built-closer ts true code es
    form-closer ts place (Look code e xs) =
        ups (look-steady n code (tree_with number_of e) (items_with number_of xs)) (look-steady n code e xs) (λ x y.
        both (both (both (tree-closer (ahead x y ts) e) (same (counts-fixed code))) (looks-closer (ahead x y ts) (looks_down code) x y (first-ahead x y ts) xs)) (bytes 0x0F))

    pub operate-closer : (ts : Targets) (v : Variable) (o : Operation) → Closer ts (operate n (variable_with number_of v) o) (operate n v o)
    operate-closer ts (Named name i at) o = home-closer ts _ i o
    operate-closer ts (Part name size i at) o = home-closer ts _ i o
    operate-closer ts (Memory size e no_index at) o = both (tree-closer ts e) (ones _)
    operate-closer ts (Memory size e (index i) at) o = both (both (tree-closer ts e) (tree-closer ts i)) (ones _)
    operate-closer ts (Register register whole at) o = ones _
    operate-closer ts (Register register (bits (single e)) at) o = both (tree-closer ts e) (ones _)
    operate-closer ts (Register register (bits (range a b)) at) o = both (both (tree-closer ts a) (tree-closer ts b)) (ones _)

    home-closer : (ts : Targets) (home : Home) (i : Index) (o : Operation) → Closer ts (in_home n home (index_with number_of i) o) (in_home n home i o)
    home-closer ts home no_index o = ones _
    home-closer ts home (index e) o = both (tree-closer ts e) (ones _)

    pub values-closer : (ts : Targets) (es : Trees) → Closer ts (values n (trees_with number_of es)) (values n es)
    values-closer ts no_trees = nothings
    values-closer ts (es ▷ e) = both (values-closer ts es) (tree-closer ts e)

    pub index-closer : (ts : Targets) (i : Index) → Closer ts (index_value n (index_with number_of i)) (index_value n i)
    index-closer ts no_index = nothings
    index-closer ts (index e) = tree-closer ts e

    pub built-closer : (ts : Targets) (used : Bool) (code : ℕ) (es : Trees) → Closer ts (call_of_built n used code (arguments_with number_of code es)) (call_of_built n used code es)
    built-closer ts used code no_trees = same (without-fixed used code)
    built-closer ts used code (no_trees ▷ e) = one-closer used code (code == 0) (tree_with number_of e) e (tree-closer ts e)
    built-closer ts used code (no_trees ▷ m ▷ s) =
        either (not (code == 0x2C)) (both (both (tree-closer ts m) (tree-closer ts s)) (same (made-fixed used code)))
        (both (both (both (bytes _) (either_by (starts_method n (tree_with number_of m)) (starts_method n m) (starts-same n number_of suits.starts m) (arguments-closer ts m) (tree-closer ts m))) (tree-closer ts s)) (started-closer used m))
    built-closer ts used code (no_trees ▷ id ▷ m ▷ s) =
        either (not (code == 0x28)) (both (both (both (tree-closer ts id) (tree-closer ts m)) (tree-closer ts s)) (same (made-fixed used code)))
        (both (both (both (tree-closer ts id) (either_by (starts_method n (tree_with number_of m)) (starts_method n m) (starts-same n number_of suits.starts m) (arguments-closer ts m) (tree-closer ts m))) (tree-closer ts s)) (started-closer used m))
    built-closer ts used code (es ▷ a ▷ b ▷ d ▷ e) = both (both (values-closer ts (es ▷ a ▷ b ▷ d)) (tree-closer ts e)) (same (made-fixed used code))

    arguments-closer : (ts : Targets) (m : Tree) → Closer ts (arguments n (tree_with number_of m)) (arguments n m)
    arguments-closer ts (node place (Call stops object i method at es)) =
        arguments-or (number_of (node place (Call stops object i method at es))) place (form_with number_of (Call stops object i method at es)) (Call stops object i method at es) (values-closer ts es)
    arguments-closer ts (node place (Number v)) = arguments-or (number_of (node place (Number v))) place (Number v) (Number v) nothings
    arguments-closer ts (node place form) = arguments-or (number_of (node place form)) place (form_with number_of form) form nothings

    looks-closer : (ts : Targets) (down : Bool) (t u : ℕ) → IsTarget ts t u → (xs : Items) → Closer ts (looks n down t (items_with number_of xs)) (looks n down u xs)
    looks-closer ts down t u to no_items = nothings
    looks-closer ts down t u to (xs ▸ single e) = both (both (looks-closer ts down t u to xs) (tree-closer ts e)) (jumps n.wide all n.statement (if down then 0x11 else 0x10) t u to)
    looks-closer ts down t u to (xs ▸ range a b) = both (both (both (looks-closer ts down t u to xs) (tree-closer ts a)) (tree-closer ts b)) (jumps n.wide all n.statement (if down then 0x13 else 0x12) t u to)

  -- ---- expressions that stand alone

  pub inside-closer : (ts : Targets) (place : Place) (form : Form) → Closer ts (alone n (node place (form_with number_of form))) (alone n (node place form))
  inside-closer ts place (Var (Named name i at)) = both (bytes _) (same (own-fixed (n.kind name)))
  inside-closer ts place (Call stops object i method at es) = both (both (both (bytes _) (values-closer ts es)) (index-closer ts i)) (callee-closer object i method)
  inside-closer ts place (Assign v operator e) = both (tree-closer ts e) (operate-closer ts v _)
  inside-closer ts place (Change v effect) = changed (variable_with number_of v) v (λ k. Using (effect_for k effect)) (size-same v) (operate-closer ts v _)
  inside-closer ts place (Built code es) = built-closer ts false code es
  inside-closer ts place (Var (Part name size i at)) = nothings
  inside-closer ts place (Var (Memory size e i at)) = nothings
  inside-closer ts place (Var (Register register x at)) = nothings
  inside-closer ts place (Number v) = nothings
  inside-closer ts place form = nothings
