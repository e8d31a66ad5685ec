-- The walk over expressions: arguments and items one after the other, the forms of built-ins, and the end of a LOOK function.
use Rattle.std.proofs.Common.{◌≡◌, ℕ, ◌+◌, ◌%◌, ◌^◌, ◌<◌, ◌==◌, Bool, true, false, not, if◌then◌else◌, List, [], ◌∷◌, Option, Some, None, length, take, get_or, refl, sym, ap, ◌∙◌, arith}
use Rattle.std.proofs.lemmas.List.{take_more}
use Rattle.std.proofs.lemmas.Bool.Decides.{nat_tests}
use Rattle.std.specs.Prelude.{Result, OnOk, Vec, Box}
use Rattle.std.specs.declared.alloc.Global.{Global}
use Rattle.p8_tree.specs.declared.places.Place.{Place}
use Rattle.p8_tree.specs.declared.expressions.Expr as expr
use Rattle.p8_tree.specs.declared.expressions.Item as item
use Rattle.p8_tree.specs.declared.expressions.Call as call
use Rattle.p8_tree.specs.declared.expressions.Call.{out-Call}
use Rattle.p8_tree.specs.declared.expressions.ExprKind.TheVariants as kind_case
use Rattle.p8_tree.specs.declared.expressions.Target.TheVariants as target_case
use Rattle.p8_tree.specs.Expressions.{Tree, node, Var, Variable, Named, Part, Memory, Register, no_index, index, Bits, whole, bits, Trees, no_trees, ◌▷◌, Items, Item, single, range, no_items, ◌▸◌}
use Rattle.p8_tree.specs.Views.{tree_of, form_of, variable_of, call_of, trees_of, trees_after, item_of, items_of}
use Rattle.p8_tree.specs.Bridges.{boxed_index, trees_of-push, items_of-push, strings_is, built_is, look_is}
use Rattle.p8_fold.specs.Verdicts.{boxed_bits}
use Rattle.p8_fold.proofs.ValueRows.{call_form}
use Rattle.p8_gen.specs.declared.expressions.BuiltForm.TheVariants as built_form
use Rattle.p8_gen.specs.Names.{Names}
use Rattle.p8_gen.specs.Pieces.{Written, Piece, byte, text, ◌⨾◌, up_to_end}
use Rattle.p8_gen.specs.Variables.{Operation}
use Rattle.p8_gen.specs.Expressions.{value, value_of_form, alone, arguments, counts_from, looks_down, operate, in_home, pushed_home, values, looks, built, call_of_built, started}
use Rattle.p8_gen.specs.Walking.{call_piece, looked, started_value, IsBuiltForm}
use Rattle.p8_gen.specs.Writing.{Stands}
use Rattle.p8_gen.specs.declared.writer.Writer.{Writer}
use Rattle.p8_gen.proofs.Widths.{both, bytes, looks-alike}

module _ (n : Names) where
  pub values_next : (xs : List expr.Expr) (i : ℕ) (d : expr.Expr) (w : Written) → i < length xs → value n (tree_of (get_or xs i d)) (values n (trees_of (take i xs)) w) ≡ values n (trees_of (take (i + 1) xs)) w
  values_next xs i d w lt =
      sym (ap (λ es. values n (trees_of es) w) (take_more xs i d lt) ∙ ap (λ es. values n es w) (trees_of-push (take i xs) (get_or xs i d)))

  module _ (down : Bool) (end : ℕ) where
    -- an item after others
    item_behind : (xs : Items) (x : Item) (w : Written) → looks n down end (no_items ▸ x) (looks n down end xs w) ≡ looks n down end (xs ▸ x) w
    item_behind xs (single e) w = refl
    item_behind xs (range a b) w = refl

    pub items_next : (xs : List item.Item) (i : ℕ) (d : item.Item) (w : Written) → i < length xs → looks n down end (no_items ▸ item_of (get_or xs i d)) (looks n down end (items_of (take i xs)) w) ≡ looks n down end (items_of (take (i + 1) xs)) w
    items_next xs i d w lt =
        item_behind (items_of (take i xs)) (item_of (get_or xs i d)) w
        ∙ sym (ap (λ es. looks n down end (items_of es) w) (take_more xs i d lt) ∙ ap (λ es. looks n down end es w) (items_of-push (take i xs) (get_or xs i d)))

  -- where a LOOK function ends, and how many jumps it has, doesn't depend on what its items are told
  pub looked_end : (down : Bool) (xs : Items) (x y : ℕ) (w : Written) → (looked n down xs x w).end ≡ (looked n down xs y w).end
  looked_end down xs x y w =
      let alike = both (looks-alike n n.text n.statement down x y xs) (bytes 0x0F) in
      let same = alike.ends w w refl in
      omega (arith, same)

  pub looked_jumps : (down : Bool) (xs : Items) (x y : ℕ) (w : Written) → (looked n down xs x w).jumps ≡ (looked n down xs y w).jumps
  looked_jumps down xs x y w = (both (looks-alike n n.text n.statement down x y xs) (bytes 0x0F)).counts w w refl

  pub looked_keeps : (down : Bool) (xs : Items) (x : ℕ) (w : Written) → w.statement ≡ (looked n down xs x w).statement
  looked_keeps down xs x w = sym ((both (looks-alike n n.text n.statement down x x xs) (bytes 0x0F)).keeps w)

  -- a variable in memory, with or without an index
  pub memory_is : (size : ℕ) (b : Box expr.Expr Global) (i : Option (Box expr.Expr Global)) (q : Place) (o : Operation) (w : Written) → in_home n (pushed_home size) (boxed_index i) o (value n (tree_of b.value) w) ≡ operate n (variable_of (target_case.Memory size b i q)) o w
  memory_is size b None q o w = refl
  memory_is size b (Some i) q o w = refl

  -- a variable's place in the source is nothing to its code
  pub register_moved : (a : ℕ) (x : Bits) (q r : Place) (o : Operation) → operate n (Register a x q) o ≡ operate n (Register a x r) o
  register_moved a whole q r o = refl
  register_moved a (bits (single e)) q r o = refl
  register_moved a (bits (range d e)) q r o = refl

  pub register_is : (a : ℕ) (x : Option (Box item.Item Global)) (q r : Place) (o : Operation) → operate n (Register a (boxed_bits x) q) o ≡ operate n (variable_of (target_case.Register a x r)) o
  register_is a None q r o = refl
  register_is a (Some b) q r o = register_moved a (bits (item_of b.value)) q r o

  pub variable_moved : (v : Variable) (q r : Place) → value_of_form n q (Var v) ≡ value_of_form n r (Var v)
  variable_moved (Named name no_index p) q r = refl
  variable_moved (Named name (index e) p) q r = refl
  variable_moved (Part name size i p) q r = refl
  variable_moved (Memory size e i p) q r = refl
  variable_moved (Register a x p) q r = refl

  pub named_is : (name : List ℕ) (i : Option (Box expr.Expr Global)) (q r : Place) → value_of_form n r (Var (Named name (boxed_index i) r)) ≡ value_of_form n r (Var (variable_of (target_case.Named name i q)))
  named_is name None q r = refl
  named_is name (Some b) q r = refl

  -- ---- built-ins, by their forms

  module _ (used : Bool) where
    -- COGNEW, by the arguments as the code reads them
    pub built_new_cog : (code : ℕ) (es : List expr.Expr) (a b c : expr.Expr) (w : Written) → IsBuiltForm built_form.NewCog code (length es) → a ≡ get_or es 0 a → b ≡ get_or es 1 b → c ≡ get_or es 0 c →
        started n used (tree_of c) (value n (tree_of b) (started_value n (tree_of a) (byte 0x34 w))) ≡ call_of_built n used code (trees_of es) w
    built_new_cog code [] a b c w is p q r = absurd cc
    built_new_cog code (e ∷ []) a b c w is p q r = absurd cc
    built_new_cog code (e ∷ f ∷ []) a b c w is p q r =
        ap (λ m. started n used (tree_of m) (value n (tree_of b) (started_value n (tree_of a) (byte 0x34 w)))) r
        ∙ ap (λ m. started n used (tree_of e) (value n (tree_of m) (started_value n (tree_of a) (byte 0x34 w)))) q
        ∙ ap (λ m. started n used (tree_of e) (value n (tree_of f) (started_value n (tree_of m) (byte 0x34 w)))) p
        ∙ sym (ap (λ k. call_of_built n used k (trees_of (e ∷ f ∷ [])) w) is.1)
    built_new_cog code (e ∷ f ∷ g ∷ es) a b c w is p q r = absurd cc

    pub built_told_cog : (code : ℕ) (es : List expr.Expr) (a b c d : expr.Expr) (w : Written) → IsBuiltForm built_form.ToldCog code (length es) → a ≡ get_or es 0 a → b ≡ get_or es 1 b → c ≡ get_or es 2 c → d ≡ get_or es 1 d →
        started n used (tree_of d) (value n (tree_of c) (started_value n (tree_of b) (value n (tree_of a) w))) ≡ call_of_built n used code (trees_of es) w
    built_told_cog code [] a b c d w is p q r s = absurd cc
    built_told_cog code (e ∷ []) a b c d w is p q r s = absurd cc
    built_told_cog code (e ∷ f ∷ []) a b c d w is p q r s = absurd cc
    built_told_cog code (e ∷ f ∷ g ∷ []) a b c d w is p q r s =
        ap (λ m. started n used (tree_of m) (value n (tree_of c) (started_value n (tree_of b) (value n (tree_of a) w)))) s
        ∙ ap (λ m. started n used (tree_of f) (value n (tree_of m) (started_value n (tree_of b) (value n (tree_of a) w)))) r
        ∙ ap (λ m. started n used (tree_of f) (value n (tree_of g) (started_value n (tree_of m) (value n (tree_of a) w)))) q
        ∙ ap (λ m. started n used (tree_of f) (value n (tree_of g) (started_value n (tree_of f) (value n (tree_of m) w)))) p
        ∙ sym (ap (λ k. call_of_built n used k (trees_of (e ∷ f ∷ g ∷ [])) w) is.1)
    built_told_cog code (e ∷ f ∷ g ∷ h ∷ es) a b c d w is p q r s = absurd cc

    -- four trees or more, by the last four
    data AtLeastFour : Trees → Type 0 where
      four : (es : Trees) (a b c d : Tree) → AtLeastFour ((((es ▷ a) ▷ b) ▷ c) ▷ d)

    four_after : (es : Trees) (a b c d : Tree) (xs : List expr.Expr) → AtLeastFour (trees_after ((((es ▷ a) ▷ b) ▷ c) ▷ d) xs)
    four_after es a b c d [] = four es a b c d
    four_after es a b c d (x ∷ xs) = four_after (es ▷ a) b c d (tree_of x) xs

    plain_of_four : (code : ℕ) {es : Trees} (w : Written) → AtLeastFour es → call_of_built n used code es w ≡ built used code (values n es w)
    plain_of_four code w (four es a b c d) = refl

    unless : (t : Bool) {A : Type 0} (a b : A) → t ≡ false → (if t then a else b) ≡ b
    unless false a b f = refl
    unless true a b f = absurd cc

    unless_not : (t : Bool) {A : Type 0} (a b : A) → t ≡ false → (if not t then a else b) ≡ a
    unless_not false a b f = refl
    unless_not true a b f = absurd cc

    differs : (a b : ℕ) → ¬ (a ≡ b) → (a == b) ≡ false
    differs a b ne = grind (arith, nat_tests)

    pub built_plain : (code : ℕ) (es : List expr.Expr) (w : Written) → IsBuiltForm built_form.Plain code (length es) → call_of_built n used code (trees_of es) w ≡ built used code (values n (trees_of es) w)
    built_plain code [] w plain = absurd (plain.0 refl)
    built_plain code (e ∷ []) w plain = ap (λ (f : Piece). f w) (unless (code == 0) _ _ (differs code 0 (λ same. plain.1 (refl, same))))
    built_plain code (e ∷ f ∷ []) w plain = ap (λ (p : Piece). p w) (unless_not (code == 0x2C) _ _ (differs code 0x2C (λ same. plain.2 (refl, same))))
    built_plain code (e ∷ f ∷ g ∷ []) w plain = ap (λ (p : Piece). p w) (unless_not (code == 0x28) _ _ (differs code 0x28 (λ same. plain.3 (refl, same))))
    built_plain code (e ∷ f ∷ g ∷ h ∷ es) w plain = plain_of_four code w (four_after no_trees (tree_of e) (tree_of f) (tree_of g) (tree_of h) es)

-- ---- what a writer does, whatever code it stands for

abbrev pub Runs : {T E : Type 0} → Writer → Result T E → Writer → Piece → Type 0
Runs old r new p = (w : Written) → Stands old w → OnOk r (Stands new (p w))

module _ (n : Names) (place : Place) where
  pub value_of_call : (x : call.Call) → call_piece n true (call_of x) ≡ value_of_form n place (call_of x)
  value_of_call x = ap (call_piece n true) (call_form x) ∙ sym (ap (value_of_form n place) (call_form x))

  pub alone_of_call : (x : call.Call) → call_piece n false (call_of x) ≡ alone n (node place (call_of x))
  alone_of_call x = ap (call_piece n false) (call_form x) ∙ sym (ap (λ f. alone n (node place f)) (call_form x))

  pub arguments_of_call : (x : call.Call) → values n (trees_of (out-Call x).args.items) ≡ arguments n (node place (call_of x))
  arguments_of_call x = sym (ap (λ f. arguments n (node place f)) (call_form x))

  pub value_of_built : (c : ℕ) (v : Vec expr.Expr Global) → call_of_built n true c (trees_of v.items) ≡ value_of_form n place (form_of (kind_case.Built c v))
  value_of_built c v = sym (ap (value_of_form n place) (built_is c v))

  pub alone_of_built : (c : ℕ) (v : Vec expr.Expr Global) → call_of_built n false c (trees_of v.items) ≡ alone n (node place (form_of (kind_case.Built c v)))
  alone_of_built c v = sym (ap (λ f. alone n (node place f)) (built_is c v))

  pub value_of_strings : (v : Vec expr.Expr Global) → text place (n.text place % 2 ^ 15) ≡ value_of_form n place (form_of (kind_case.Strings v))
  value_of_strings v = sym (ap (value_of_form n place) (strings_is v))

  pub value_of_look : (c : ℕ) (b : Box expr.Expr Global) (v : Vec item.Item Global) → (value n (tree_of b.value) ⨾ counts_from c ⨾ up_to_end (looked n (looks_down c) (items_of v.items))) ≡ value_of_form n place (form_of (kind_case.Look c b v))
  value_of_look c b v = sym (ap (value_of_form n place) (look_is c b v))
