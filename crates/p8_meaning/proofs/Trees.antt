-- Copies of trees as the code has them.
use Rattle.std.proofs.lemmas.Bool.Decides.{nat_tests}
use Rattle.std.proofs.Common.{arith, None, ◌≡◌, refl, sym, ap, ap₂, ◌∙◌, subst, ℕ, ◌+◌, ◌<◌, ◌==◌, ◌&&◌, Bool, true, false, if◌then◌else◌, Option, List, length, take, get_or, ◌++◌, ◌∷◌, [], Result, Vec, Box}
use Rattle.std.specs.Prelude.{IfOk}
use Rattle.std.specs.declared.alloc.Global.{Global}
use Rattle.std.specs.declared.alloc.AllocError.{AllocError}
use Rattle.std.proofs.lemmas.List.{take_more}
use Rattle.p8_tree.specs.declared.places.Place.{Place}
use Rattle.p8_tree.specs.declared.expressions.ExprKind as kind
use Rattle.p8_tree.specs.declared.expressions.ExprKind.TheVariants as kind_case
use Rattle.p8_tree.specs.declared.expressions.Expr as expr
use Rattle.p8_tree.specs.declared.expressions.Item as item
use Rattle.p8_tree.specs.declared.expressions.Call as call
use Rattle.p8_tree.specs.declared.expressions.Call.{out-Call, roll-Call}
use Rattle.p8_tree.specs.Expressions.{Tree, node, Form, Strings, Call, Built, Look, Trees, no_trees, ◌▷◌, ◌▸◌}
use Rattle.p8_tree.specs.Views.{tree_of, form_of, trees_of, trees_after, items_of, item_of, call_of}
use Rattle.p8_tree.specs.Bridges.{boxed_index, call_is, strings_is, built_is, look_is, trees_of-push, items_of-push}
use Rattle.p8_fold.proofs.ValueRows.{call_form}
use Rattle.p8_meaning.specs.Constants.{Constants}
use Rattle.p8_meaning.specs.Folding.{tree_with, form_with, trees_with, items_with, item_with, index_with, arguments_with}
use Rattle.p8_meaning.specs.declared.building.Copied.{Copied}
use Rattle.p8_meaning.specs.declared.known.Numbers.{Numbers}
use Rattle.p8_meaning.specs.declared.known.Known.{Known}
use Rattle.p8_meaning.specs.declared.known.Numbers.TheVariants.{Kept}
use Rattle.p8_meaning.specs.Known.{number_by, known_of, shorter_known, for_arguments}
use Rattle.p8_meaning.specs.Copies.{with_number}
use Rattle.p8_meaning.proofs.Lengths.{number-known}
use Rattle.p8_meaning.proofs.Keeping.{tree-kept, trees-kept}

-- an expression is its form, or its number
pub reduced-is : (numbers : Numbers) (c : Constants) (place : Place) (form : Form)
    → with_number (shorter_known (known_of numbers c (node place form))) (node place (form_with (number_by numbers c) form)) ≡ tree_with (number_by numbers c) (node place form)
reduced-is numbers c place form = ap (λ o. with_number o (node place (form_with (number_by numbers c) form))) (number-known numbers c (node place form))

-- the same tree, in other words
pub copied-as : (r : Result Copied AllocError) (t t' : Tree) → t ≡ t' → IfOk r (λ x. tree_of x.tree.value ≡ t) → IfOk r (λ x. tree_of x.tree.value ≡ t')
copied-as r t t' e h = subst (λ t. IfOk r (λ x. tree_of x.tree.value ≡ t)) e h

pub known-as : (r : Result Copied AllocError) (o o' : Option Known) → o ≡ o' → IfOk r (λ x. x.known ≡ o) → IfOk r (λ x. x.known ≡ o')
known-as r o o' e h = subst (λ o. IfOk r (λ x. x.known ≡ o)) e h

-- ---- one more at the end

module _ (number : Tree → Option ℕ) where
  pub trees-next : (xs : List expr.Expr) (i : ℕ) (d : expr.Expr) (before after : List expr.Expr) (x : expr.Expr) → i < length xs
      → trees_of before ≡ trees_with number (trees_of (take i xs)) → tree_of x ≡ tree_with number (tree_of (get_or xs i d)) → after ≡ before ++ x ∷ []
      → trees_of after ≡ trees_with number (trees_of (take (i + 1) xs))
  trees-next xs i d before after x lt h same e =
      ap trees_of e ∙ trees_of-push before x ∙ ap₂ (λ es e. es ▷ e) h same
      ∙ sym (ap (λ es. trees_with number (trees_of es)) (take_more xs i d lt) ∙ ap (trees_with number) (trees_of-push (take i xs) (get_or xs i d)))

  pub items-next : (xs : List item.Item) (i : ℕ) (d : item.Item) (before after : List item.Item) (x : item.Item) → i < length xs
      → items_of before ≡ items_with number (items_of (take i xs)) → item_of x ≡ item_with number (item_of (get_or xs i d)) → after ≡ before ++ x ∷ []
      → items_of after ≡ items_with number (items_of (take (i + 1) xs))
  items-next xs i d before after x lt h same e =
      ap items_of e ∙ items_of-push before x ∙ ap₂ (λ xs x. xs ▸ x) h same
      ∙ sym (ap (λ xs. items_with number (items_of xs)) (take_more xs i d lt) ∙ ap (items_with number) (items_of-push (take i xs) (get_or xs i d)))

  -- a call, by copies of its parts
  pub call-is : (x : call.Call) (object : Option (List ℕ)) (i : Option (Box expr.Expr Global)) (method : List ℕ) (v : Vec expr.Expr Global) (es : List expr.Expr)
      → object ≡ (out-Call x).object → boxed_index i ≡ index_with number (boxed_index (out-Call x).index) → method ≡ (out-Call x).method
      → es ≡ (out-Call x).args.items → trees_of v.items ≡ trees_with number (trees_of es)
      → call_of (roll-Call (record { trap = (out-Call x).trap; object = object; index = i; method = method; method_place = (out-Call x).method_place; args = v })) ≡ form_with number (call_of x)
  call-is x object i method v es a b c d e =
      call_is (out-Call x).trap object i method (out-Call x).method_place v
      ∙ ap (λ o. Call (out-Call x).trap o (boxed_index i) method (out-Call x).method_place (trees_of v.items)) a
      ∙ ap (λ j. Call (out-Call x).trap (out-Call x).object j method (out-Call x).method_place (trees_of v.items)) b
      ∙ ap (λ m. Call (out-Call x).trap (out-Call x).object (index_with number (boxed_index (out-Call x).index)) m (out-Call x).method_place (trees_of v.items)) c
      ∙ ap (λ ts. Call (out-Call x).trap (out-Call x).object (index_with number (boxed_index (out-Call x).index)) (out-Call x).method (out-Call x).method_place ts) (e ∙ ap (λ es. trees_with number (trees_of es)) d)
      ∙ sym (ap (form_with number) (call_form x))

-- ---- the arguments of a built-in

-- two trees or more, by the last two
data Several : Trees → Type 0 where
  several : (es : Trees) (d e : Tree) → Several ((es ▷ d) ▷ e)

several-after : (es : Trees) (d e : Tree) (xs : List expr.Expr) → Several (trees_after ((es ▷ d) ▷ e) xs)
several-after es d e [] = several es d e
several-after es d e (x ∷ xs) = several-after (es ▷ d) e (tree_of x) xs

kept-several : {es : Trees} (number : Tree → Option ℕ) (code : ℕ) → Several es → trees_with number es ≡ arguments_with number code es
kept-several number code (several es d e) = refl

one-argument : (numbers : Numbers) (c : Constants) (e : Tree) (b : Bool)
    → tree_with (number_by (if b && true then Kept else numbers) c) e ≡ (if b then e else tree_with (number_by numbers c) e)
one-argument numbers c e true = tree-kept e
one-argument numbers c e false = refl

no-more : (numbers : Numbers) (b one : Bool) → one ≡ false → (if b && one then Kept else numbers) ≡ numbers
no-more numbers true one h = ap (λ one. if one then Kept else numbers) h
no-more numbers false one h = refl

not-one : (n : ℕ) → (n + 2 == 1) ≡ false
not-one n = grind (arith, nat_tests)

not-one-list : (x y : expr.Expr) (xs : List expr.Expr) → (length (x ∷ y ∷ xs) == 1) ≡ false
not-one-list x y xs = grind (arith, nat_tests)

arguments-is : (numbers : Numbers) (c : Constants) (code : ℕ) (es : List expr.Expr)
    → trees_with (number_by (for_arguments numbers code (length es)) c) (trees_of es) ≡ arguments_with (number_by numbers c) code (trees_of es)
arguments-is numbers c code [] = refl
arguments-is numbers c code (x ∷ []) = ap (λ e. no_trees ▷ e) (one-argument numbers c (tree_of x) (code == 0))
arguments-is numbers c code (x ∷ y ∷ xs) =
    ap (λ n. trees_with (number_by n c) (trees_of (x ∷ y ∷ xs))) (no-more numbers (code == 0) (length (x ∷ y ∷ xs) == 1) (not-one-list x y xs))
    ∙ kept-several (number_by numbers c) code (several-after no_trees (tree_of x) (tree_of y) xs)

-- ---- forms that hold a vector

pub strings-form : (numbers : Numbers) (c : Constants) (place : Place) (k : kind.ExprKind) (v w : Vec expr.Expr Global) (es : List expr.Expr) → k ≡ kind_case.Strings v
    → es ≡ v.items → trees_of w.items ≡ trees_with (number_by Kept c) (trees_of es)
    → node place (Strings (trees_of w.items)) ≡ node place (form_with (number_by numbers c) (form_of k))
strings-form numbers c place k v w es is at h =
    ap (λ ts. node place (Strings ts)) (h ∙ trees-kept (trees_of es) ∙ ap trees_of at)
    ∙ sym (ap (λ f. node place (form_with (number_by numbers c) f)) (ap form_of is ∙ strings_is v))

pub built-form : (numbers inside : Numbers) (c : Constants) (place : Place) (code : ℕ) (k : kind.ExprKind) (v w : Vec expr.Expr Global) (es fs : List expr.Expr) → k ≡ kind_case.Built code v
    → es ≡ v.items → fs ≡ v.items → inside ≡ for_arguments numbers code (length es) → trees_of w.items ≡ trees_with (number_by inside c) (trees_of fs)
    → node place (Built code (trees_of w.items)) ≡ node place (form_with (number_by numbers c) (form_of k))
built-form numbers inside c place code k v w es fs is e f at h =
    ap (λ ts. node place (Built code ts))
    (h ∙ ap₂ (λ n es. trees_with (number_by n c) (trees_of es)) (at ∙ ap (λ es. for_arguments numbers code (length es)) e) f ∙ arguments-is numbers c code v.items)
    ∙ sym (ap (λ f. node place (form_with (number_by numbers c) f)) (ap form_of is ∙ built_is code v))

pub look-form : (number : Tree → Option ℕ) (place : Place) (code : ℕ) (k : kind.ExprKind) (b : Box expr.Expr Global) (v w : Vec item.Item Global) (e : Tree) → k ≡ kind_case.Look code b v
    → e ≡ tree_with number (tree_of b.value) → items_of w.items ≡ items_with number (items_of v.items)
    → node place (Look code e (items_of w.items)) ≡ node place (form_with number (form_of k))
look-form number place code k b v w e is value items =
    ap₂ (λ e xs. node place (Look code e xs)) value items ∙ sym (ap (λ f. node place (form_with number f)) (ap form_of is ∙ look_is code b v))

pub call-known : (numbers : Numbers) (c : Constants) (place : Place) (k : kind.ExprKind) (x : call.Call) → k ≡ kind_case.Call x → None ≡ known_of numbers c (node place (form_of k))
call-known numbers c place k x is = sym (ap (λ k. known_of numbers c (node place (form_of k))) is ∙ ap (λ f. known_of numbers c (node place f)) (call_form x))

pub strings-known : (numbers : Numbers) (c : Constants) (place : Place) (k : kind.ExprKind) (v : Vec expr.Expr Global) → k ≡ kind_case.Strings v → None ≡ known_of numbers c (node place (form_of k))
strings-known numbers c place k v is = sym (ap (λ k. known_of numbers c (node place (form_of k))) is ∙ ap (λ f. known_of numbers c (node place f)) (strings_is v))
