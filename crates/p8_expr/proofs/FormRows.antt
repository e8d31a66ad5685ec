-- A form with one more word: what the code's rows need of the machine's.
use Rattle.std.proofs.Common.{◌≡◌, ℕ, suc, min, List, [], ◌∷◌, Bool, true, false, Option, Some, None, refl, sym, ap, ◌∙◌, subst, arith}
use Rattle.std.specs.Prelude.{Box, Result, IfOk, if◌then◌else◌}
use Rattle.std.specs.declared.alloc.Global.{Global}
use Rattle.p8_tree.specs.declared.expressions.Expr.{Expr}
use Rattle.p8_tree.specs.declared.places.Place.{Place}
use Rattle.p8_tree.specs.Expressions as code
use Rattle.p8_tree.specs.Expressions.{Tree, Variable, node, Change}
use Rattle.p8_grammar.specs.Lexemes.{Setting, Lexeme, name, changes, is_written}
use Rattle.p8_grammar.specs.Machine.{Use, reading, addressing, changing, used, Shape, using, named, element, part, fresh, tree, target, is_plain, tree_in, left_tree, changed, first, Next, stays, opens, done, grow}
use Rattle.p8_grammar.specs.Grammar.{quoted}
use Rattle.p8_grammar.specs.Heights.{height, height_in, height_in_variable}
use Rattle.p8_grammar.specs.Least.{high_in_hole}
use Rattle.p8_grammar.specs.Views.{lexeme_of}
use Rattle.p8_grammar.specs.declared.lexemes.Lexeme as lexeme_type
use Rattle.p8_grammar.specs.declared.lexemes.Lexeme.TheVariants as lexeme
use Rattle.p8_grammar.specs.declared.lexemes.Access.{Access}
use Rattle.p8_grammar.specs.declared.lexemes.Punctuation.{Punctuation}
use Rattle.p8_expr.specs.declared.form.Form.{Form}
use Rattle.p8_expr.specs.declared.form.Grown.{Grown}
use Rattle.p8_expr.specs.declared.form.Grown.TheVariants as grown
use Rattle.p8_expr.specs.declared.form.Hole.{Hole}
use Rattle.p8_expr.specs.declared.form.Stage.{Stage}
use Rattle.p8_expr.specs.declared.form.Stage.TheVariants as stage
use Rattle.p8_expr.specs.declared.parts.Parts.{Parts}
use Rattle.p8_expr.specs.declared.value.Value as value
use Rattle.p8_expr.specs.declared.value.Value.TheVariants as value_case
use Rattle.p8_expr.specs.Views.{use_of, shape_at, shape_of, hole_at, inner_height, Grows, IsTall, IsTallAs, HasVariable, variable_in, Gives, left_of, is_other}

-- the same word at the same place
pub grown_as : {E : Type 0} (r : Result Grown E) (s : Setting) (old new : Form) (p q : Place) (x y : Lexeme) → p ≡ q → y ≡ x → IfOk r (λ g. Grows (grow s (shape_of old) p x) old g new) → IfOk r (λ g. Grows (grow s (shape_of old) q y) old g new)
grown_as r s old new p q x y a b told =
    subst (λ x. IfOk r (λ g. Grows (grow s (shape_of old) q x) old g new)) (sym b)
    (subst (λ p. IfOk r (λ g. Grows (grow s (shape_of old) p x) old g new)) a told)

pub grown_same : {E : Type 0} (r : Result Grown E) (o o' : Option Next) (old new : Form) → o ≡ o' → IfOk r (λ g. Grows o' old g new) → IfOk r (λ g. Grows o old g new)
grown_same r o o' old new e told = subst (λ o. IfOk r (λ g. Grows o old g new)) (sym e) told

-- ---- rows

-- a form that is whole
pub whole_as : (old new : Form) (st : Stage) (o : Shape → Option Next) (q : Place) (f : code.Form) (x : Tree) → old.stage ≡ st → o (shape_at st old.parts) ≡ Some (stays (done x)) → node q f ≡ x → shape_of new ≡ done (node q f) → o (shape_of old) ≡ Some (stays (shape_of new))
whole_as old new st o q f x is told same shape =
    ap (λ st. o (shape_at st old.parts)) is ∙ told ∙ ap (λ x. Some (stays (done x))) (sym same) ∙ ap (λ sh. Some (stays sh)) (sym shape)

pub tall_as : (old : Form) (st : Stage) (q : Place) (f : code.Form) (x : Tree) → old.stage ≡ st → node q f ≡ x → height x ≡ suc (inner_height st) → IsTall old → old.high ≡ min 65 (height_in f)
tall_as old st q f x is same tall high =
    let up : suc (height_in f) ≡ height x = ap height same in
    let inner : inner_height st ≡ height_in f = omega (arith, up, tall) in
    high ∙ ap (λ st. min 65 (inner_height st)) is ∙ ap (min 65) inner

-- an expression comes next
abbrev IsOpened : Parts → Form → Type 0
IsOpened p new = (new.parts ≡ p) × (new.stage ≡ stage.Using) × (new.high ≡ 0)

pub opens_as : (o : Option Next) (old : Form) (p : Parts) (new : Form) (g : Grown) (h : Hole) (n : ℕ) → g ≡ grown.Opens h n → IsOpened p new → o ≡ Some (opens (hole_at h p)) → Grows o old g new
opens_as o old p new g h n is (parts, st, high) told = subst (λ g. Grows o old g new) (sym is) (told ∙ ap (λ p. Some (opens (hole_at h p))) (sym parts))

pub opens_high : (p : Parts) (new : Form) (g : Grown) (h : Hole) (n : ℕ) → g ≡ grown.Opens h n → IsOpened p new → n ≡ min 65 (high_in_hole (hole_at h p)) → IsTallAs g new
opens_high p new g h n is (parts, st, high) told = subst (λ g. IsTallAs g new) (sym is) (
  told ∙ ap (λ p. min 65 (high_in_hole (hole_at h p))) (sym parts),
  high ∙ ap (λ st. min 65 (inner_height st)) (sym st),
)

pub fresh_stage : (st : Stage) (p : Parts) → shape_at st p ≡ fresh → st ≡ stage.Using
fresh_stage stage.Using p e = refl
fresh_stage st p e = absurd cc

pub quoted_high : (p : Place) (t : List ℕ) → height (quoted p t) ≡ 1
quoted_high p [] = refl
quoted_high p (c ∷ []) = refl
quoted_high p (c ∷ d ∷ t) = refl

-- ---- a first word

pub other_left : (x : lexeme_type.Lexeme) → (x ≡ lexeme.Name → ⊥) → (x ≡ lexeme.MethodResult → ⊥) → (x ≡ lexeme.Str → ⊥) → ((m : Punctuation) → x ≡ lexeme.Mark m → ⊥) → ((z : ℕ) → x ≡ lexeme.Size z → ⊥) → ((a : ℕ) (y : Access) → x ≡ lexeme.Register a y → ⊥) → ((b a : ℕ) → x ≡ lexeme.Changes b a → ⊥) → is_other x ≡ true
other_left lexeme.Name a b c d e f g = absurd (a refl)
other_left lexeme.MethodResult a b c d e f g = absurd (b refl)
other_left lexeme.Str a b c d e f g = absurd (c refl)
other_left (lexeme.Mark m) a b c d e f g = absurd (d m refl)
other_left (lexeme.Size z) a b c d e f g = absurd (e z refl)
other_left (lexeme.Register k y) a b c d e f g = absurd (f k y refl)
other_left (lexeme.Changes j k) a b c d e f g = absurd (g j k refl)
other_left x a b c d e f g = refl

pub first_grows : (s : Setting) (sh : Shape) (p : Place) (n t : List ℕ) (x : lexeme_type.Lexeme) (y : Lexeme) → sh ≡ fresh → y ≡ lexeme_of n t x → is_other x ≡ true → grow s sh p y ≡ first s p (lexeme_of n t x)
first_grows s sh p n t x y is same o = (λ i. grow s (is i) p (same i)) ∙ by_word x o
  where
    by_word : (x : lexeme_type.Lexeme) → is_other x ≡ true → grow s fresh p (lexeme_of n t x) ≡ first s p (lexeme_of n t x)
    by_word lexeme.Name o = absurd cc
    by_word (lexeme.Mark m) o = absurd cc
    by_word lexeme.MethodResult o = absurd cc
    by_word (lexeme.Size z) o = absurd cc
    by_word (lexeme.Register a y) o = absurd cc
    by_word x o = refl

-- ---- a change

changes_is : (s : Setting) (sh : Shape) (p : Place) (b a : ℕ) → (sh ≡ fresh → ⊥) → grow s sh p (changes b a) ≡ changed (target sh) p a
changes_is s (using reading) p b a n = absurd (n refl)
changes_is s sh p b a n = refl

target_variable : (sh : Shape) → HasVariable (target sh) → target sh ≡ variable_in sh
target_variable (named b reading p n) h = refl
target_variable (named b u p n) h = absurd h
target_variable (element p n e) h = refl
target_variable (part reading v x) h = by_access (is_written x) h
  where
    by_access : (b : Bool) → HasVariable (if b then Some v else None) → (if b then Some v else None) ≡ Some v
    by_access true h = refl
    by_access false h = absurd h
target_variable (part u v x) h = absurd h
target_variable sh h = absurd h

pub changed_row : (s : Setting) (sh : Shape) (p : Place) (b a : ℕ) (v : Variable) → (sh ≡ fresh → ⊥) → HasVariable (target sh) → variable_in sh ≡ Some v → grow s sh p (changes b a) ≡ Some (stays (done (node p (Change v a))))
changed_row s sh p b a v n h is = changes_is s sh p b a n ∙ ap (λ o. changed o p a) (target_variable sh h ∙ is)

pub no_change : (s : Setting) (sh : Shape) (p : Place) (b a : ℕ) → (sh ≡ fresh → ⊥) → (HasVariable (target sh) → ⊥) → grow s sh p (changes b a) ≡ None
no_change s sh p b a n h = changes_is s sh p b a n ∙ by_target (target sh) h
  where
    by_target : (o : Option Variable) → (HasVariable o → ⊥) → changed o p a ≡ None
    by_target None h = refl
    by_target (Some v) h = absurd (h tt)

pub no_variable : (sh : Shape) → HasVariable (target sh) → variable_in sh ≡ None → ⊥
no_variable sh h none = subst HasVariable (target_variable sh h ∙ none) h

-- ---- a whole form

abbrev used_as : Use → Option Variable → Option Tree
used_as u None = None
used_as u (Some v) = Some (used u v)

-- a variable that may be written, and is read
pub written_gives : (sh : Shape) (v : Variable) → variable_in sh ≡ Some v → HasVariable (target sh) → (tree sh ≡ Some (used reading v)) × (target sh ≡ Some v)
written_gives sh v is h = let t = target_variable sh h ∙ is in (read sh h ∙ ap (used_as reading) t, t)
  where
    read : (sh : Shape) → HasVariable (target sh) → tree sh ≡ used_as reading (target sh)
    read (named b reading p n) h = refl
    read (named b u p n) h = absurd h
    read (element p n e) h = refl
    read (part reading v x) h = by_access (is_written x) h
      where
        by_access : (b : Bool) → HasVariable (if b then Some v else None) → Some (used reading v) ≡ used_as reading (if b then Some v else None)
        by_access true h = refl
        by_access false h = absurd h
    read (part u v x) h = absurd h
    read sh h = absurd h

no_target : (o : Option Variable) → (HasVariable o → ⊥) → o ≡ None
no_target None h = refl
no_target (Some v) h = absurd (h tt)

-- and another one
pub used_gives : (st : Stage) (p : Parts) (v : Variable) → variable_in (shape_at st p) ≡ Some v → (HasVariable (target (shape_at st p)) → ⊥) → (tree (shape_at st p) ≡ Some (used (use_of p.usage) v)) × (target (shape_at st p) ≡ None) × (is_plain (shape_at st p) ≡ false)
used_gives st p v is h = (by_stage st h is, no_target (target (shape_at st p)) h, plain (shape_at st p) h)
  where
    by_stage : (st : Stage) → (HasVariable (target (shape_at st p)) → ⊥) → variable_in (shape_at st p) ≡ Some v → tree (shape_at st p) ≡ Some (used (use_of p.usage) v)
    by_stage stage.Named h is = ap (used_as (use_of p.usage)) is
    by_stage stage.Parted h is = ap (used_as (use_of p.usage)) is
    by_stage (stage.Memory e) h is = ap (used_as (use_of p.usage)) is
    by_stage stage.Register h is = ap (used_as (use_of p.usage)) is
    by_stage (stage.Indexed e) h is = ap (used_as (use_of p.usage)) is
    by_stage (stage.PartIndexed e) h is = ap (used_as (use_of p.usage)) is
    by_stage (stage.MemoryIndexed a e) h is = ap (used_as (use_of p.usage)) is
    by_stage (stage.Bits i) h is = ap (used_as (use_of p.usage)) is
    by_stage (stage.Element e) h is = absurd (h tt)
    by_stage st h is = absurd cc

    plain : (sh : Shape) → (HasVariable (target sh) → ⊥) → is_plain sh ≡ false
    plain (named true reading q n) h = absurd (h tt)
    plain sh h = refl

pub used_high : (u : Use) (v : Variable) → height (used u v) ≡ suc (height_in_variable v)
used_high reading v = refl
used_high (addressing p) v = refl
used_high (changing p b) v = refl

-- what is no variable that may be written
pub gives_tree : (sh : Shape) (v : value.Value) (x : Tree) → tree sh ≡ Some x → target sh ≡ None → is_plain sh ≡ false → left_of v ≡ left_tree x → Gives sh (Some v)
gives_tree sh (value_case.Tree b high) x is written plain left = (is ∙ ap (λ l. Some (tree_in l)) (sym left), written, plain)
gives_tree sh (value_case.Variable w high a) x is written plain left = absurd cc

-- a form with which no name goes on
pub no_name : (st : Stage) (p : Parts) (s : Setting) (q : Place) (n : List ℕ) → (st ≡ stage.Coloned → ⊥) → (st ≡ stage.Using → ⊥) → (st ≡ stage.Dotted → ⊥) → (st ≡ stage.Trapping → ⊥) → ((i : Option (Box Expr Global)) → st ≡ stage.ObjectDot i → ⊥) → (st ≡ stage.Hashed → ⊥) → grow s (shape_at st p) q (name n) ≡ None
no_name stage.Coloned p s q n a b c d e f = absurd (a refl)
no_name stage.Using p s q n a b c d e f = absurd (b refl)
no_name stage.Dotted p s q n a b c d e f = absurd (c refl)
no_name stage.Trapping p s q n a b c d e f = absurd (d refl)
no_name (stage.ObjectDot i) p s q n a b c d e f = absurd (e i refl)
no_name stage.Hashed p s q n a b c d e f = absurd (f refl)
no_name st p s q n a b c d e f = refl
