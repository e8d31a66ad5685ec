-- A form with the expression that it waits for, up to the mark that ends it: its rows, and its height.
use Rattle.std.proofs.Common.{◌≡◌, ◌≤◌, ◌<◌, ℕ, suc, max, min, length, List, [], ◌∷◌, Option, Some, None, refl, sym, ap, ◌∙◌, subst, arith}
use Rattle.std.specs.Prelude.{Box, Vec}
use Rattle.std.specs.declared.alloc.Global.{Global}
use Rattle.p8_tree.specs.declared.places.Place.{Place}
use Rattle.p8_tree.specs.declared.expressions.Expr.{Expr}
use Rattle.p8_tree.specs.declared.expressions.Item.{Item as CodeItem}
use Rattle.p8_tree.specs.declared.expressions.ExprKind.TheVariants as kind
use Rattle.p8_tree.specs.Expressions as tree
use Rattle.p8_tree.specs.Expressions.{Tree, node, Strings, Built, Look, Number, Trees, ◌▷◌, Items, ◌▸◌, single}
use Rattle.p8_tree.specs.Views.{form_of, tree_of, trees_of, items_of}
use Rattle.p8_tree.specs.Bridges.{strings_is, built_is, look_is}
use Rattle.p8_grammar.specs.Lexemes.{Mark, right_parenthesis, right_bracket, comma, colon, dot_dot}
use Rattle.p8_grammar.specs.Grammar as grammar
use Rattle.p8_grammar.specs.Grammar.{calls, built, applied, quoted, with_characters}
use Rattle.p8_grammar.specs.Heights.{height, height_in, height_of_trees, height_of_items}
use Rattle.p8_grammar.specs.Least.{height_in_head, high_in_hole}
use Rattle.p8_grammar.specs.Machine.{Next, stays, opens, done, close, item_of, choice_of, on_item, strings_read, choices_read}
use Rattle.p8_expr.specs.declared.form.Form.{Form}
use Rattle.p8_expr.specs.declared.form.Grown.{Grown}
use Rattle.p8_expr.specs.declared.form.Grown.TheVariants as grown
use Rattle.p8_expr.specs.declared.form.Stage.{Stage}
use Rattle.p8_expr.specs.declared.form.Stage.TheVariants as stage
use Rattle.p8_expr.specs.declared.form.Hole as hole
use Rattle.p8_expr.specs.declared.form.Hole.TheVariants as hole_case
use Rattle.p8_expr.specs.declared.parts.Parts.{Parts}
use Rattle.p8_expr.proofs.FormRows.{opens_as, opens_high, quoted_high}
use Rattle.p8_expr.specs.Views.{shape_at, shape_of, hole_at, inner_height, Grows, IsTall, IsTallAs, IsTallWhere, IsFilled}

where_tall : (g : Grown) (f : Form) → IsTallAs g f → IsTallWhere g f
where_tall grown.Not f t = tt
where_tall grown.Stays f t = t
where_tall (grown.Opens x high) f t = t

module _ (m : Mark) (h h' : hole.Hole) (old new : Form) (e : Tree) (is : h ≡ h') where
  row : (o : Option Next) → close m (hole_at h' old.parts) e ≡ o → close m (hole_at h old.parts) e ≡ o
  row o told = ap (λ h. close m (hole_at h old.parts) e) is ∙ told

  filled_is : IsFilled old h e → old.high ≡ min 65 (max (high_in_hole (hole_at h' old.parts)) (height e))
  filled_is filled = filled ∙ ap (λ h. min 65 (max (high_in_hole (hole_at h old.parts)) (height e))) is

  -- where a word comes next
  pub stays_row : (g : Grown) (st : Stage) → (g ≡ grown.Stays) × (new.stage ≡ st) × (new.parts ≡ old.parts) × (new.high ≡ old.high) → close m (hole_at h' old.parts) e ≡ Some (stays (shape_at st old.parts)) →
      inner_height st ≡ max (high_in_hole (hole_at h' old.parts)) (height e) → Grows (close m (hole_at h old.parts) e) old g new × (IsFilled old h e → IsTallWhere g new)
  stays_row g st (is_g, is_st, parts, high) told tall = (
    subst (λ g. Grows (close m (hole_at h old.parts) e) old g new) (sym is_g)
        (row (Some (stays (shape_at st old.parts))) told ∙ (λ i. Some (stays (shape_at (sym is_st i) (sym parts i))))),
    λ filled. subst (λ g. IsTallWhere g new) (sym is_g) (high ∙ filled_is filled ∙ ap (min 65) (sym tall) ∙ ap (λ st. min 65 (inner_height st)) (sym is_st)),
  )

  -- where another expression comes next
  pub opens_row : (g : Grown) (x : hole.Hole) → g ≡ grown.Opens x old.high → (new.parts ≡ old.parts) × (new.stage ≡ stage.Using) × (new.high ≡ 0) → close m (hole_at h' old.parts) e ≡ Some (opens (hole_at x old.parts)) →
      high_in_hole (hole_at x old.parts) ≡ max (high_in_hole (hole_at h' old.parts)) (height e) → Grows (close m (hole_at h old.parts) e) old g new × (IsFilled old h e → IsTallWhere g new)
  opens_row g x is_g t told tall = (
    opens_as (close m (hole_at h old.parts) e) old old.parts new g x old.high is_g t (row (Some (opens (hole_at x old.parts))) told),
    λ filled. where_tall g new (opens_high old.parts new g x old.high is_g t (filled_is filled ∙ ap (min 65) (sym tall))),
  )

  -- where the form is whole
  pub whole_row : (q : Place) (f : tree.Form) (x : Tree) (high : ℕ) → shape_of new ≡ done (node q f) → (high ≡ min 65 (height_in f) → IsTall new) → high ≡ old.high → node q f ≡ x →
      close m (hole_at h' old.parts) e ≡ Some (stays (done x)) → height x ≡ suc (max (high_in_hole (hole_at h' old.parts)) (height e)) → (close m (hole_at h old.parts) e ≡ Some (stays (shape_of new))) × (IsFilled old h e → IsTall new)
  whole_row q f x high shape finishes same is_x told tall =
      let up : suc (height_in f) ≡ height x = ap height is_x in
      let inner : max (high_in_hole (hole_at h' old.parts)) (height e) ≡ height_in f = omega (arith, up, tall) in (
        row (Some (stays (done x))) told ∙ ap (λ x. Some (stays (done x))) (sym is_x) ∙ ap (λ sh. Some (stays sh)) (sym shape),
        λ filled. finishes (same ∙ filled_is filled ∙ ap (min 65) inner),
      )

-- what a word belongs to is tall
pub tall_where : (g : Grown) (f : Form) → (g ≡ grown.Not → ⊥) → IsTallWhere g f → IsTallAs g f
tall_where grown.Not f n t = absurd (n refl)
tall_where grown.Stays f n t = t
tall_where (grown.Opens x high) f n t = t

-- ---- forms with lists

pub strings_form : (p : Place) (v : Vec Expr Global) (es : Trees) → trees_of v.items ≡ es → node p (form_of (kind.Strings v)) ≡ node p (Strings es)
strings_form p v es told = ap (node p) (strings_is v ∙ ap Strings told)

pub built_form : (p : Place) (k : ℕ) (v : Vec Expr Global) (es : Trees) → trees_of v.items ≡ es → node p (form_of (kind.Built k v)) ≡ node p (Built k es)
built_form p k v es told = ap (node p) (built_is k v ∙ ap (Built k) told)

pub look_form : (p : Place) (k : ℕ) (b : Box Expr Global) (v : Vec CodeItem Global) (xs : Items) → items_of v.items ≡ xs → node p (form_of (kind.Look k b v)) ≡ node p (Look k (tree_of b.value) xs)
look_form p k b v xs told = ap (node p) (look_is k b v ∙ ap (Look k (tree_of b.value)) told)

pub applied_high : (h : grammar.Head) (es : Trees) (e : Tree) → height (applied h (es ▷ e)) ≡ suc (max (max (height_in_head h) (height_of_trees es)) (height e))
applied_high (calls t o i n q p) es e = omega arith
applied_high (built k p) es e = omega arith

pub argument_waits : (h : grammar.Head) (es : Trees) (e : Tree) → max (height_in_head h) (max (height_of_trees es) (height e)) ≡ max (max (height_in_head h) (height_of_trees es)) (height e)
argument_waits h es e = omega arith

pub choice_waits : (x : Tree) (xs : Items) (e : Tree) → max (height x) (max (height_of_items xs) (height e)) ≡ max (max (height x) (height_of_items xs)) (height e)
choice_waits x xs e = omega arith

pub range_waits : (x : Tree) (xs : Items) (low e : Tree) → max (height x) (max (height_of_items xs) (max (height low) (height e))) ≡ max (max (height x) (max (height_of_items xs) (height low))) (height e)
range_waits x xs low e = omega arith

pub positive : (e : Tree) → 1 ≤ height e
positive (node p f) = omega arith

-- ---- a string in place of an item

pub item_taken : (p q : Place) (t : List ℕ) (es es' : Trees) → 1 < length t → es' ≡ es ▷ quoted p t → on_item p t (item_of q es) ≡ Some (stays (strings_read q es'))
item_taken p q [] es es' h e = absurd (omega arith)
item_taken p q (c ∷ []) es es' h e = absurd (omega arith)
item_taken p q (c ∷ d ∷ u) es es' h e = ap (λ es. Some (stays (strings_read q es))) (sym e)

pub choice_taken : (p q : Place) (k : ℕ) (x : Tree) (t : List ℕ) (xs xs' : Items) → 1 < length t → xs' ≡ with_characters p t xs → on_item p t (choice_of q k x xs) ≡ Some (stays (choices_read q k x xs'))
choice_taken p q k x [] xs xs' h e = absurd (omega arith)
choice_taken p q k x (c ∷ []) xs xs' h e = absurd (omega arith)
choice_taken p q k x (c ∷ d ∷ u) xs xs' h e = ap (λ xs. Some (stays (choices_read q k x xs))) (sym e)

-- an item more
pub item_high : (p : Place) (t : List ℕ) (es es' : Trees) → es' ≡ es ▷ quoted p t → height_of_trees es' ≡ max (height_of_trees es) 1
item_high p t es es' e = ap height_of_trees e ∙ ap (max (height_of_trees es)) (quoted_high p t)

-- characters among a LOOK function's items add nothing to its height
pub choices_high : (p : Place) (t : List ℕ) (x : Tree) (xs xs' : Items) → xs' ≡ with_characters p t xs → max (height x) (height_of_items xs') ≡ max (max (height x) (height_of_items xs)) 1
choices_high p t x xs xs' e =
    let low = positive x in
    let same = ap (λ xs. max (height x) (height_of_items xs)) e ∙ more t xs in
    omega (arith, low, same)
  where
    more : (t : List ℕ) (xs : Items) → max (height x) (height_of_items (with_characters p t xs)) ≡ max (height x) (height_of_items xs)
    more [] xs = refl
    more (c ∷ t) xs = let low = positive x in more t (xs ▸ single (node p (Number c))) ∙ omega (arith, low)

-- ---- marks that end no expression of a form

abbrev Arguments : hole.Hole → Type 0
Arguments h = (o : Option (List ℕ)) (i : Option (Box Expr Global)) (es : Vec Expr Global) → h ≡ hole_case.Arguments o i es → ⊥

abbrev Choice : hole.Hole → Type 0
Choice h = (b : Box Expr Global) (xs : Vec CodeItem Global) → h ≡ hole_case.Choice b xs → ⊥

abbrev ChoiceTo : hole.Hole → Type 0
ChoiceTo h = (b : Box Expr Global) (xs : Vec CodeItem Global) (low : Box Expr Global) → h ≡ hole_case.ChoiceTo b xs low → ⊥

abbrev Items_ : (Vec Expr Global → hole.Hole) → hole.Hole → Type 0
Items_ f h = (es : Vec Expr Global) → h ≡ f es → ⊥

pub no_parenthesis : (h : hole.Hole) (p : Parts) (e : Tree) → (h ≡ hole_case.Parenthesis → ⊥) → Arguments h → Items_ hole_case.BuiltArguments h → (h ≡ hole_case.FirstItem → ⊥) → Items_ hole_case.NextItem h → (h ≡ hole_case.Constant → ⊥) → Choice h → ChoiceTo h → close right_parenthesis (hole_at h p) e ≡ None
no_parenthesis hole_case.Parenthesis p e a b c d f g i j = absurd (a refl)
no_parenthesis (hole_case.Arguments o x es) p e a b c d f g i j = absurd (b o x es refl)
no_parenthesis (hole_case.BuiltArguments es) p e a b c d f g i j = absurd (c es refl)
no_parenthesis hole_case.FirstItem p e a b c d f g i j = absurd (d refl)
no_parenthesis (hole_case.NextItem es) p e a b c d f g i j = absurd (f es refl)
no_parenthesis hole_case.Constant p e a b c d f g i j = absurd (g refl)
no_parenthesis (hole_case.Choice v xs) p e a b c d f g i j = absurd (i v xs refl)
no_parenthesis (hole_case.ChoiceTo v xs low) p e a b c d f g i j = absurd (j v xs low refl)
no_parenthesis h p e a b c d f g i j = refl

pub no_bracket : (h : hole.Hole) (p : Parts) (e : Tree) → (h ≡ hole_case.NameIndex → ⊥) → (h ≡ hole_case.PartIndex → ⊥) → (h ≡ hole_case.MemoryAddress → ⊥) → ((b : Box Expr Global) → h ≡ hole_case.MemoryIndex b → ⊥) → (h ≡ hole_case.FirstBit → ⊥) → ((b : Box Expr Global) → h ≡ hole_case.LastBit b → ⊥) → (h ≡ hole_case.TrappedIndex → ⊥) → close right_bracket (hole_at h p) e ≡ None
no_bracket hole_case.NameIndex p e a b c d f g i = absurd (a refl)
no_bracket hole_case.PartIndex p e a b c d f g i = absurd (b refl)
no_bracket hole_case.MemoryAddress p e a b c d f g i = absurd (c refl)
no_bracket (hole_case.MemoryIndex v) p e a b c d f g i = absurd (d v refl)
no_bracket hole_case.FirstBit p e a b c d f g i = absurd (f refl)
no_bracket (hole_case.LastBit v) p e a b c d f g i = absurd (g v refl)
no_bracket hole_case.TrappedIndex p e a b c d f g i = absurd (i refl)
no_bracket h p e a b c d f g i = refl

pub no_comma : (h : hole.Hole) (p : Parts) (e : Tree) → Arguments h → Items_ hole_case.BuiltArguments h → (h ≡ hole_case.FirstItem → ⊥) → Items_ hole_case.NextItem h → Choice h → ChoiceTo h → close comma (hole_at h p) e ≡ None
no_comma (hole_case.Arguments o x es) p e a b c d f g = absurd (a o x es refl)
no_comma (hole_case.BuiltArguments es) p e a b c d f g = absurd (b es refl)
no_comma hole_case.FirstItem p e a b c d f g = absurd (c refl)
no_comma (hole_case.NextItem es) p e a b c d f g = absurd (d es refl)
no_comma (hole_case.Choice v xs) p e a b c d f g = absurd (f v xs refl)
no_comma (hole_case.ChoiceTo v xs low) p e a b c d f g = absurd (g v xs low refl)
no_comma h p e a b c d f g = refl

pub no_colon : (h : hole.Hole) (p : Parts) (e : Tree) → (h ≡ hole_case.LookFor → ⊥) → close colon (hole_at h p) e ≡ None
no_colon hole_case.LookFor p e a = absurd (a refl)
no_colon h p e a = refl

pub no_dots : (h : hole.Hole) (p : Parts) (e : Tree) → (h ≡ hole_case.FirstBit → ⊥) → Choice h → close dot_dot (hole_at h p) e ≡ None
no_dots hole_case.FirstBit p e a b = absurd (a refl)
no_dots (hole_case.Choice v xs) p e a b = absurd (b v xs refl)
no_dots h p e a b = refl
