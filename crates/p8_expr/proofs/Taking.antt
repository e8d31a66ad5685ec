-- What the machine does with a word, by the form that is under way.
use Rattle.std.proofs.Common.{◌≡◌, ℕ, zero, suc, ◌+◌, ◌*◌, ◌<◌, ◌≤◌, length, map, List, [], ◌∷◌, Option, Some, None, Bool, true, false, refl, sym, ap, ◌∙◌, subst, arith}
use Rattle.std.specs.Prelude.{IsTrue, if◌then◌else◌, ◌&&◌, nat_lt, slice_get}
use Rattle.std.proofs.lemmas.Bool.{ltb-true, ltb-false, lt-ltb, le-ltb}
use Rattle.std.proofs.lemmas.Option.{slice_get_within}
use Rattle.p8_lexer.specs.declared.token.Token as lexer_token
use Rattle.std.specs.Prelude.{Box, Vec}
use Rattle.std.specs.declared.alloc.Global.{Global}
use Rattle.p8_tree.specs.declared.places.Place.{Place}
use Rattle.p8_tree.specs.declared.expressions.Expr.{Expr}
use Rattle.p8_tree.specs.declared.expressions.Item.{Item}
use Rattle.p8_tree.specs.Expressions.{Tree, node, Number, Variable}
use Rattle.p8_grammar.specs.Lexemes.{Setting, inside, in_action, is_value, equal, Lexeme, name, string, mark, prefix_word, sign, object_address, changes, reserved, name_in, token}
use Rattle.p8_grammar.specs.Grammar.{Prefix, rank, prefix_of, infix_of, is_boolean}
use Rattle.p8_grammar.specs.Views.{lexeme_of}
use Rattle.p8_grammar.specs.declared.lexemes.Lexeme as lexeme_type
use Rattle.p8_grammar.specs.declared.lexemes.Lexeme.TheVariants as lexeme
use Rattle.p8_grammar.specs.Machine.{Use, reading, Shape, using, coloned, named}
use Rattle.p8_grammar.specs.Machine.{string_opened, string_read, fresh, tree, Next, stays, grow, loose, bare, Hole, first_item, item_of, choice_of, Frame, prefix_frame, inside_frame, level_bound_of, State, state}
use Rattle.p8_grammar.specs.Machine.{left_tree, infix_frame, reduce, operated, operate, in_place, on_item, prefixed, entered, entered_all, go_on, first_of, beyond, otherwise, forward, moved, step, accepted, accept}
use Rattle.p8_grammar.proofs.Walks.{kept}
use Rattle.p8_grammar.proofs.Behind.{rank_zero, rank_above}
use Rattle.p8_grammar.proofs.Running.{is_cut, cut_tree, whole_none}
use Rattle.p8_grammar.proofs.Steps.{is_text, in_place_text, grown_moved}
use Rattle.p8_expr.specs.declared.form.Form.{Form}
use Rattle.p8_expr.specs.declared.form.Grown.{Grown}
use Rattle.p8_expr.specs.declared.form.Grown.TheVariants as grown
use Rattle.p8_expr.specs.declared.form.Stage.{Stage}
use Rattle.p8_expr.specs.declared.form.Stage.TheVariants as stage
use Rattle.p8_expr.specs.declared.parts.Parts.{Parts}
use Rattle.p8_lexer.specs.Words.{capital}
use Rattle.p8_expr.specs.Words.{between_quotes}
use Rattle.p8_expr.specs.Cursors.{lexeme_in, lexeme_at}
use Rattle.p8_grammar.specs.declared.lexemes.Setting as setting
use Rattle.p8_expr.specs.declared.form.Hole as hole
use Rattle.p8_expr.specs.declared.form.Hole.TheVariants as hole_case
use Rattle.p8_expr.specs.declared.stack.Frame as frame
use Rattle.p8_expr.specs.declared.stack.Frame.TheVariants as frame_case
use Rattle.p8_expr.specs.Views.{is_word, use_of, shape_at, hole_at, frame_of, takes_text, takes_texts, lone, shape_of, Grows}
use Rattle.p8_expr.specs.Reading.{is_inner}

-- what isn't whole is no expression
pub no_tree_accepts : (s : Setting) (sh : Shape) (k : List Frame) → tree sh ≡ None → accept (state s sh k) ≡ None
no_tree_accepts s sh k h = ap (λ o. accepted o k) (whole_none s sh h)

-- ---- where an operand comes

pub fresh_step : (s : Setting) (k : List Frame) (p : Place) (x : Lexeme) → in_place (loose x) fresh k p ≡ None → step (state s fresh k) (token p x) ≡ go_on (grow s fresh p (loose x)) s fresh k p (loose x)
fresh_step s k p x h = ap (λ o. first_of o (go_on (grow s fresh p (loose x)) s fresh k p (loose x))) h

pub fresh_otherwise : (s : Setting) (k : List Frame) (p : Place) (x : Lexeme) → in_place (loose x) fresh k p ≡ None → grow s fresh p (loose x) ≡ None → step (state s fresh k) (token p x) ≡ otherwise s fresh k p (loose x)
fresh_otherwise s k p x h g = fresh_step s k p x h ∙ ap (λ o. go_on o s fresh k p (loose x)) g

pub text_step : (s s' : Setting) (h : Hole) (k : List Frame) (p : Place) (x : Lexeme) (st : State) → in_place (loose x) fresh (inside_frame s' h ∷ k) p ≡ Some st → step (state s fresh (inside_frame s' h ∷ k)) (token p x) ≡ Some st
text_step s s' h k p x st e = ap (λ o. first_of o (go_on (grow s fresh p (loose x)) s fresh (inside_frame s' h ∷ k) p (loose x))) e

-- ---- a word of the form

inner_bare : (sh : Shape) (x : Lexeme) → is_inner sh ≡ true → bare sh x ≡ loose x
inner_bare (coloned u p) x i = absurd cc
inner_bare sh x i = refl

pub inner_takes : (s : Setting) (sh : Shape) (k : List Frame) (p : Place) (x : Lexeme) (n : Next) → is_inner sh ≡ true → grow s sh p (loose x) ≡ Some n → step (state s sh k) (token p x) ≡ Some (entered s k n)
inner_takes s sh k p x n i g = ap (λ y. moved s sh k p y) (inner_bare sh x i) ∙ grown_moved s sh k p (loose x) n g

pub fresh_takes : (s : Setting) (k : List Frame) (p : Place) (x : Lexeme) (n : Next) → grow s fresh p (loose x) ≡ Some n → step (state s fresh k) (token p x) ≡ Some (entered s k n)
fresh_takes s k p x n g = grown_moved s fresh k p (loose x) n g

-- what has grown goes on as the machine does
pub made_of : (o : Option Next) (f f' : Form) (g : Grown) → Grows o f g f' → (g ≡ grown.Not → ⊥) → (n : Next) × (o ≡ Some n)
made_of o f f' grown.Not e n = absurd (n refl)
made_of o f f' grown.Stays e n = (_, e)
made_of o f f' (grown.Opens h high) e n = (_, e)

pub not_made : (o : Option Next) (f f' : Form) (g : Grown) → Grows o f g f' → g ≡ grown.Not → (o ≡ None) × (shape_of f' ≡ shape_of f)
not_made o f f' g told is = subst (λ g. Grows o f g f') is told

-- ---- a form that isn't whole, and whose words don't come

no_place : (x : Lexeme) (sh : Shape) (k : List Frame) (p : Place) → (sh ≡ fresh → ⊥) → in_place x sh k p ≡ None
no_place x sh k p n = go (in_place x sh k p) refl
  where
    go : (o : Option State) → in_place x sh k p ≡ o → o ≡ None
    go None h = refl
    go (Some st) h = absurd (n (in_place_text x sh k p st h).2)

cut_fresh : (sh : Shape) → IsTrue (is_cut sh) → sh ≡ fresh → ⊥
cut_fresh sh c e = let f : IsTrue (is_cut fresh) = subst (λ sh. IsTrue (is_cut sh)) e c in cc

cut_forward : (s : Setting) (sh : Shape) (k : List Frame) (p : Place) (x : Lexeme) → IsTrue (is_cut sh) → moved s sh k p x ≡ forward s sh k p x
cut_forward s (string_opened q) k p x c = absurd cc
cut_forward s sh k p x c = refl

cut_beyond : (s : Setting) (sh : Shape) (k : List Frame) (p : Place) (x : Lexeme) → IsTrue (is_cut sh) → otherwise s sh k p x ≡ None
cut_beyond s (using reading) k p x c = absurd cc
cut_beyond s (string_read q r (a ∷ [])) k p x c = absurd cc
cut_beyond s sh k p x c = refl

pub cut_step : (s : Setting) (sh : Shape) (k : List Frame) (p : Place) (x : Lexeme) → IsTrue (is_cut sh) → grow s sh p (bare sh x) ≡ None → step (state s sh k) (token p x) ≡ None
cut_step s sh k p x c g =
    let y : Lexeme = bare sh x in
    cut_forward s sh k p y c
    ∙ ap (λ o. first_of o (go_on (grow s sh p y) s sh k p y)) (no_place y sh k p (cut_fresh sh c))
    ∙ ap (λ o. go_on o s sh k p y) g
    ∙ ap (λ o. beyond o s sh k p y) (cut_tree sh c)
    ∙ cut_beyond s sh k p y c

-- ---- a form of which more than the first words are read

inner_fresh : (sh : Shape) → is_inner sh ≡ true → sh ≡ fresh → ⊥
inner_fresh sh i e = let f : is_inner fresh ≡ true = subst (λ sh. is_inner sh ≡ true) e i in cc

inner_forward : (s : Setting) (sh : Shape) (k : List Frame) (p : Place) (x : Lexeme) → is_inner sh ≡ true → moved s sh k p x ≡ forward s sh k p x
inner_forward s (string_opened q) k p x i = absurd cc
inner_forward s sh k p x i = refl

pub inner_otherwise : (s : Setting) (sh : Shape) (k : List Frame) (p : Place) (x : Lexeme) → is_inner sh ≡ true → tree sh ≡ None → grow s sh p (loose x) ≡ None → step (state s sh k) (token p x) ≡ otherwise s sh k p (loose x)
inner_otherwise s sh k p x i t g =
    let y : Lexeme = loose x in
    ap (λ y. moved s sh k p y) (inner_bare sh x i)
    ∙ inner_forward s sh k p y i
    ∙ ap (λ o. first_of o (go_on (grow s sh p y) s sh k p y)) (no_place y sh k p (inner_fresh sh i))
    ∙ ap (λ o. go_on o s sh k p y) g
    ∙ ap (λ o. beyond o s sh k p y) t

inner_nothing : (s : Setting) (sh : Shape) (k : List Frame) (p : Place) (y : Lexeme) → is_inner sh ≡ true → ((q r : Place) (t : List ℕ) → sh ≡ string_read q r t → ⊥) → otherwise s sh k p y ≡ None
inner_nothing s (using reading) k p y i n = absurd cc
inner_nothing s (string_read q r t) k p y i n = absurd (n q r t refl)
inner_nothing s sh k p y i n = refl

pub inner_stops : (s : Setting) (sh : Shape) (k : List Frame) (p : Place) (x : Lexeme) → is_inner sh ≡ true → tree sh ≡ None → ((q r : Place) (t : List ℕ) → sh ≡ string_read q r t → ⊥) → grow s sh p (loose x) ≡ None → step (state s sh k) (token p x) ≡ None
inner_stops s sh k p x i t n g = inner_otherwise s sh k p x i t g ∙ inner_nothing s sh k p (loose x) i n

pub string_stage : (st : Stage) (p : Parts) → st ≡ stage.StringRead → shape_at st p ≡ string_read p.place p.at p.name
string_stage st p e = ap (λ st. shape_at st p) e

-- ---- a string where STRING's first item comes, and no word of its form behind it

pub read_otherwise : (s : Setting) (q r : Place) (t : List ℕ) (k : List Frame) (p : Place) (x : Lexeme) → grow s (string_read q r t) p (loose x) ≡ None → step (state s (string_read q r t) k) (token p x) ≡ otherwise s (string_read q r t) k p (loose x)
read_otherwise s q r t k p x g = inner_otherwise s (string_read q r t) k p x refl refl g

pub read_here : (s : Setting) (st : Stage) (f : Parts) (k : List Frame) (p : Place) (x : Lexeme) → st ≡ stage.StringRead → grow s (shape_at st f) p (loose x) ≡ None → step (state s (shape_at st f) k) (token p x) ≡ otherwise s (string_read f.place f.at f.name) k p (loose x)
read_here s st f k p x e g =
    ap (λ sh. step (state s sh k) (token p x)) (string_stage st f e)
    ∙ read_otherwise s f.place f.at f.name k p x (ap (λ sh. grow s sh p (loose x)) (sym (string_stage st f e)) ∙ g)

pub read_none : (s : Setting) (q r : Place) (t : List ℕ) (k : List Frame) (p : Place) (y : Lexeme) → lone t ≡ None → otherwise s (string_read q r t) k p y ≡ None
read_none s q r [] k p y n = refl
read_none s q r (c ∷ []) k p y n = absurd cc
read_none s q r (c ∷ d ∷ t) k p y n = refl

pub read_some : (s : Setting) (q r : Place) (t : List ℕ) (c : ℕ) (k : List Frame) (p : Place) (y : Lexeme) → lone t ≡ Some c → otherwise s (string_read q r t) k p y ≡ operate (inside s) None (infix_of y) p (node r (Number c)) (inside_frame s (first_item q) ∷ k)
read_some s q r [] c k p y n = absurd cc
read_some s q r (d ∷ []) c k p y n = let e : d ≡ c = cc in ap (λ c. operate (inside s) None (infix_of y) p (node r (Number c)) (inside_frame s (first_item q) ∷ k)) e
read_some s q r (d ∷ e ∷ t) c k p y n = absurd cc

pub no_rank : (s : Setting) (r c : ℕ) (p : Place) (e : Tree) (k : List Frame) → ¬ ((0 < r) × (r ≤ 10)) → operate s None (Some (r, c)) p e k ≡ None
no_rank s zero c p e k n = rank_zero s None c p e k
no_rank s (suc r) c p e k n = rank_above s None r c p e k (above (nat_lt r 10) refl)
  where
    above : (b : Bool) → nat_lt r 10 ≡ b → 10 ≤ r
    above true h = let lt : r < 10 = ltb-true r 10 h in absurd (n (omega arith, omega (arith, lt)))
    above false h = ltb-false r 10 h

none_both : (b : Bool) (o : Option Variable) → o ≡ None → (if b then o else None) ≡ None
none_both true o e = e
none_both false o e = refl

-- an operator, which binds less than a form that is open
pub first_infix : (s s' : Setting) (h : Hole) (r c : ℕ) (p : Place) (e : Tree) (k : List Frame) → IsTrue (is_value s) → r < 10 → operate s None (Some (suc r, c)) p e (inside_frame s' h ∷ k) ≡ Some (state s fresh (infix_frame r c p (left_tree e) ∷ inside_frame s' h ∷ k))
first_infix s s' h r c p e k d lt =
    ap (λ o. operated s o r c p e (inside_frame s' h ∷ k)) (none_both (is_boolean (suc r) && nat_lt 21 23) None refl)
    ∙ ap (λ b. if b && nat_lt r 10 then (let x = reduce (2 * suc r) e (inside_frame s' h ∷ k) in Some (state s fresh (infix_frame r c p (left_tree x.0) ∷ x.1))) else None) d
    ∙ ap (λ b. if b then (let x = reduce (2 * suc r) e (inside_frame s' h ∷ k) in Some (state s fresh (infix_frame r c p (left_tree x.0) ∷ x.1))) else None) (lt-ltb r 10 lt)
    ∙ ap (λ x. Some (state s fresh (infix_frame r c p (left_tree x.0) ∷ x.1))) (kept (2 * suc r) e (inside_frame s' h ∷ k) (omega (arith, lt)))

pub no_infix_of : (n t : List ℕ) (x : lexeme_type.Lexeme) → ((r c : ℕ) → x ≡ lexeme.Infix r c → ⊥) → ((b c : ℕ) → x ≡ lexeme.Sign b c → ⊥) → infix_of (lexeme_of n t x) ≡ None
no_infix_of n t (lexeme.Infix r c) a b = absurd (a r c refl)
no_infix_of n t (lexeme.Sign i c) a b = absurd (b i c refl)
no_infix_of n t x a b = refl

-- ---- what comes first

-- which forms are no inner ones
pub fresh_left : (st : Stage) (p : Parts) → is_inner (shape_at st p) ≡ false → (st ≡ stage.Coloned → ⊥) → (st ≡ stage.StringOpened → ⊥) → shape_at st p ≡ fresh
fresh_left stage.Using p i a b = by_use (use_of p.usage) i
  where
    by_use : (u : Use) → is_inner (using u) ≡ false → using u ≡ fresh
    by_use reading i = refl
    by_use u i = absurd cc
fresh_left stage.Coloned p i a b = absurd (a refl)
fresh_left stage.StringOpened p i a b = absurd (b refl)
fresh_left st p i a b = absurd cc

pub inner_left : (st : Stage) (p : Parts) → (st ≡ stage.Using → ⊥) → (st ≡ stage.Coloned → ⊥) → (st ≡ stage.StringOpened → ⊥) → true ≡ is_inner (shape_at st p)
inner_left stage.Using p a b c = absurd (a refl)
inner_left stage.Coloned p a b c = absurd (b refl)
inner_left stage.StringOpened p a b c = absurd (c refl)
inner_left st p a b c = refl

pub outer_tree : (sh : Shape) → is_inner sh ≡ false → tree sh ≡ None
outer_tree (using reading) i = refl
outer_tree (coloned u p) i = refl
outer_tree (string_opened p) i = refl
outer_tree sh i = absurd cc

pub read_string : (st : Stage) (p : Parts) → (st ≡ stage.StringRead → ⊥) → (q r : Place) (t : List ℕ) → shape_at st p ≡ string_read q r t → ⊥
read_string stage.StringRead p n q r t e = n refl
read_string st p n q r t e = cc

-- a string where the first item of STRING comes
pub opened_text : (s : Setting) (q : Place) (k : List Frame) (p : Place) (x : Lexeme) (t : List ℕ) → loose x ≡ string t → step (state s (string_opened q) k) (token p x) ≡ entered_all s k (grow s (string_opened q) p (string t))
opened_text s q k p x t e = ap (λ y. moved s (string_opened q) k p y) e ∙ by_text t
  where
    by_text : (t : List ℕ) → moved s (string_opened q) k p (string t) ≡ entered_all s k (grow s (string_opened q) p (string t))
    by_text [] = refl
    by_text (c ∷ t) = refl

-- what is no string
pub no_text : (n t : List ℕ) (x : lexeme_type.Lexeme) → (x ≡ lexeme.Str → ⊥) → is_text (lexeme_of n t x) ≡ false
no_text n t lexeme.Str h = absurd (h refl)
no_text n t x h = refl

pub no_item_word : (x : Lexeme) (k : List Frame) (p : Place) → is_text x ≡ false → in_place x fresh k p ≡ None
no_item_word (string t) k p h = absurd cc
no_item_word x k p h = refl

pub text_loose : (x : Lexeme) → is_text (loose x) ≡ false → is_text x ≡ false
text_loose (string t) h = h
text_loose x h = refl

short_item : (p : Place) (t : List ℕ) (h : Hole) → length t ≤ 1 → on_item p t h ≡ None
short_item p [] h e = refl
short_item p (c ∷ []) h e = refl
short_item p (c ∷ d ∷ t) h e = absurd (omega arith)

pub short_text : (t : List ℕ) (k : List Frame) (p : Place) → length t ≤ 1 → in_place (string t) fresh k p ≡ None
short_text t [] p e = refl
short_text t (inside_frame s h ∷ k) p e = ap (entered_all s k) (short_item p t h e)
short_text t (f ∷ k) p e = refl

pub no_items : (t : List ℕ) (k : List Frame) (p : Place) → takes_text k ≡ false → in_place (string t) fresh k p ≡ None
no_items t [] p e = refl
no_items t (inside_frame s (item_of q es) ∷ k) p e = absurd cc
no_items t (inside_frame s (choice_of q c x xs) ∷ k) p e = absurd cc
no_items t (inside_frame s h ∷ k) p e = ap (entered_all s k) (by_hole h e)
  where
    by_hole : (h : Hole) → takes_text (inside_frame s h ∷ k) ≡ false → on_item p t h ≡ None
    by_hole (item_of q es) e = absurd cc
    by_hole (choice_of q c x xs) e = absurd cc
    by_hole h e = by_text t
      where
        by_text : (t : List ℕ) → on_item p t h ≡ None
        by_text [] = refl
        by_text (c ∷ []) = refl
        by_text (c ∷ d ∷ t) = refl
no_items t (f ∷ k) p e = refl

-- the characters of a string that is next
pub quoted_is : (text : List ℕ) (x : lexeme_type.Lexeme) (t : List ℕ) {y : Lexeme} → y ≡ lexeme_of (map capital text) (between_quotes text) x → y ≡ string t → between_quotes text ≡ t
quoted_is text x t e h = by_lexeme x (sym e ∙ h)
  where
    by_lexeme : (x : lexeme_type.Lexeme) → lexeme_of (map capital text) (between_quotes text) x ≡ string t → between_quotes text ≡ t
    by_lexeme lexeme.Str e = cc
    by_lexeme x e = absurd cc

pub text_word : (x : Lexeme) (t : List ℕ) → x ≡ string t → IsTrue (is_word x)
text_word x t e = ap is_word e

-- ---- the name of a local label

pub label_grows : (s : Setting) (u : Use) (p q : Place) (x : Lexeme) (n : List ℕ) → name_in x ≡ Some n → grow s (coloned u p) q x ≡ Some (stays (named false u p (58 ∷ n)))
label_grows s u p q (name m) n is = let e : m ≡ n = cc in ap (λ m. Some (stays (named false u p (58 ∷ m)))) e
label_grows s u p q (reserved m x) n is = let e : m ≡ n = cc in ap (λ m. Some (stays (named false u p (58 ∷ m)))) e
label_grows s u p q x n is = absurd cc

pub no_label_grows : (s : Setting) (u : Use) (p q : Place) (x : Lexeme) → name_in x ≡ None → grow s (coloned u p) q x ≡ None
no_label_grows s u p q (name m) is = absurd cc
no_label_grows s u p q (reserved m x) is = absurd cc
no_label_grows s u p q (changes b a) is = refl
no_label_grows s u p q x is = refl

pub label_within : (bytes : List ℕ) (tokens : List lexer_token.Token) (at : ℕ) (n : List ℕ) → name_in (lexeme_at bytes tokens at) ≡ Some n → at < length tokens
label_within bytes tokens at n h = go (slice_get tokens at) refl h
  where
    go : (o : Option lexer_token.Token) → slice_get tokens at ≡ o → name_in (lexeme_in bytes o) ≡ Some n → at < length tokens
    go None e h = absurd cc
    go (Some t) e h = slice_get_within tokens at t e

-- ---- an operator before its operand

pub no_prefix_of : (n t : List ℕ) (x : lexeme_type.Lexeme) → ((r c : ℕ) → x ≡ lexeme.Prefix r c → ⊥) → ((c b : ℕ) → x ≡ lexeme.Sign c b → ⊥) → (x ≡ lexeme.ObjectAddress → ⊥) → prefix_of (lexeme_of n t x) ≡ None
no_prefix_of n t (lexeme.Prefix r c) a b d = absurd (a r c refl)
no_prefix_of n t (lexeme.Sign c i) a b d = absurd (b c i refl)
no_prefix_of n t lexeme.ObjectAddress a b d = absurd (d refl)
no_prefix_of n t x a b d = refl

pub prefix_has_word : (y : Lexeme) (o : Prefix) → prefix_of y ≡ Some o → IsTrue (is_word y)
prefix_has_word (prefix_word r c) o h = refl
prefix_has_word (sign c j) o h = refl
prefix_has_word object_address o h = refl
prefix_has_word y o h = absurd cc

-- what is no `=`
pub otherwise_prefixed : (s : Setting) (k : List Frame) (p : Place) (y : Lexeme) → ¬ (y ≡ mark equal) → otherwise s fresh k p y ≡ prefixed s (prefix_of y) p k
otherwise_prefixed s k p (mark equal) n = absurd (n refl)
otherwise_prefixed s k p y n = refl

pub not_value_prefixed : (s : Setting) (o : Option Prefix) (p : Place) (k : List Frame) → is_value s ≡ false → prefixed s o p k ≡ None
not_value_prefixed s None p k d = refl
not_value_prefixed in_action (Some o) p k d = refl
not_value_prefixed s (Some o) p k d = absurd cc

pub low_prefixed : (s : Setting) (o : Prefix) (p : Place) (k : List Frame) → level_bound_of k ≤ 2 * rank o + 1 → prefixed s (Some o) p k ≡ None
low_prefixed s o p k le = ap (λ b. if is_value s && b then Some (state s fresh (prefix_frame o p ∷ k)) else None) (le-ltb (2 * rank o + 1) (level_bound_of k) le) ∙ none (is_value s)
  where
    none : (b : Bool) → (if b && false then Some (state s fresh (prefix_frame o p ∷ k)) else None) ≡ None
    none true = refl
    none false = refl

pub some_prefixed : (s : Setting) (o : Prefix) (p : Place) (k : List Frame) → is_value s ≡ true → 2 * rank o + 1 < level_bound_of k → prefixed s (Some o) p k ≡ Some (state s fresh (prefix_frame o p ∷ k))
some_prefixed s o p k v lt =
    ap (λ b. if b && nat_lt (2 * rank o + 1) (level_bound_of k) then Some (state s fresh (prefix_frame o p ∷ k)) else None) v
    ∙ ap (λ b. if b then Some (state s fresh (prefix_frame o p ∷ k)) else None) (lt-ltb (2 * rank o + 1) (level_bound_of k) lt)

-- ---- a string in place of an item

pub hole_takes : (h : hole.Hole) (p : Parts) (s : Setting) (k : List Frame) → takes_text (inside_frame s (hole_at h p) ∷ k) ≡ true → takes_texts h ≡ true
hole_takes (hole_case.NextItem es) p s k e = refl
hole_takes (hole_case.Choice x xs) p s k e = refl
hole_takes h p s k e = absurd cc

pub no_texts : (h : hole.Hole) → ((es : Vec Expr Global) → h ≡ hole_case.NextItem es → ⊥) → ((v : Box Expr Global) (xs : Vec Item Global) → h ≡ hole_case.Choice v xs → ⊥) → takes_texts h ≡ true → ⊥
no_texts (hole_case.NextItem es) a b t = a es refl
no_texts (hole_case.Choice v xs) a b t = b v xs refl
no_texts h a b t = cc

pub no_inside : (f : frame.Frame) → ((o : setting.Setting) (h : hole.Hole) (p : Parts) → f ≡ frame_case.Inside o h p → ⊥) → (s : Setting) (h : Hole) → ¬ (frame_of f ≡ inside_frame s h)
no_inside (frame_case.Inside o x p) n s h e = n o x p refl
no_inside f n s h e = cc

pub frame_takes : (f : Frame) (k : List Frame) → ((s : Setting) (h : Hole) → ¬ (f ≡ inside_frame s h)) → takes_text (f ∷ k) ≡ true → ⊥
frame_takes (inside_frame s h) k n e = n s h refl
frame_takes f k n e = cc

pub text_takes : (s s' : Setting) (sh sh' : Shape) (h : Hole) (k k' : List Frame) (p : Place) (x : Lexeme) (t : List ℕ) → sh ≡ fresh → k ≡ inside_frame s' h ∷ k' → loose x ≡ string t → on_item p t h ≡ Some (stays sh') → step (state s sh k) (token p x) ≡ Some (state s' sh' k')
text_takes s s' sh sh' h k k' p x t f is e told =
    (λ i. step (state s (f i) (is i)) (token p x))
    ∙ text_step s s' h k' p x (state s' sh' k') (ap (λ y. in_place y fresh (inside_frame s' h ∷ k') p) e ∙ ap (entered_all s' k') told)
