-- Tokens are answered in one way.
use Rattle.std.proofs.Common.{◌≡◌, ℕ, ◌⊎◌, inl, inr, List, [], ◌∷◌, ◌++◌, Option, Some, None, true, false, refl, sym, ap, ◌∙◌, subst}
use Rattle.std.specs.Prelude.{IsTrue, if◌then◌else◌}
use Rattle.p8_tree.specs.declared.places.Place.{Place}
use Rattle.p8_tree.specs.Sources as trees
use Rattle.p8_tree.specs.Sources.{Constant, Declared, Child, MethodTree, BlockTree, Source}
use Rattle.p8_lexer.specs.declared.word.Word.{Word}
use Rattle.p8_lexer.specs.declared.word.Word.TheVariants as word_case
use Rattle.p8_columns.specs.Lines as lines
use Rattle.p8_columns.specs.Lines.{Kind}
use Rattle.p8_columns.proofs.Meaning.{one_reading}
use Rattle.p8_lexer.specs.Pieces.{Piece}
use Rattle.p8_lines.specs.declared.state.LineState.{LineState}
use Rattle.p8_lines.specs.declared.state.LineState.TheVariants as state
use Rattle.p8_lines.specs.Tokens.{LineToken, word}
use Rattle.p8_lines.specs.Lines.{Outcome, read, refused, Reads}
use Rattle.p8_lines.proofs.Readings as readings
use Rattle.p8_declarations.specs.Constants.{constants_of_row}
use Rattle.p8_declarations.specs.Variables.{variables_of_row}
use Rattle.p8_declarations.specs.Objects.{objects_of_row}
use Rattle.p8_declarations.specs.Methods.{method_of_row}
use Rattle.p8_declarations.specs.Lines.{line_of_row}
use Rattle.p8_statements.specs.Statements.{kind_of_row}
use Rattle.p8_blocks.specs.Values.{ReadsAs}
use Rattle.p8_blocks.specs.Reading.{Part, constants, variables, objects, assembly, method, Position, at, start, IsHead, is_block_word, head_state, line_state, opens, leaves_loop, IsTooDeep, HasNoLoop, begun_by, Opens, con, var, obj, pub_method, pri_method, dat, Extends, first_constants, more_constants, more_variables, more_objects, more_assembly, Step, blank, head, declaration, method_line, Goes, stay, go_on, IsRefusedAt, Fails, head_fails, declaration_fails, entry_fails, no_loop_fails, too_deep_fails, line_fails, IsBlock, con_block, var_block, obj_block, dat_block, method_block, AreBlocks, no_blocks, one_more, Answer, source, fault, Parses, whole, fails}
use Rattle.p8_blocks.specs.Files.{lines_in, with_body}
use Rattle.p8_blocks.proofs.Entries.{one_state, not_barred, one_number}

-- lines with their values

pub record Same {A : Type 0} (a b : A) (us vs : List LineToken) : Type 0 where
  pub values : a ≡ b
  pub rests : us ≡ vs

read_as : {V : Type 0} {value : List Piece → Option V} {q : LineState} {ts us vs : List LineToken} {a b : V} → ReadsAs value q ts a us → ReadsAs value q ts b vs → Same a b us vs
read_as {value = value} {q = q} {ts = ts} {us = us} {vs = vs} {a = a} {b = b} x y =
    let e : read x.row us ≡ read y.row vs = readings.one_reading q ts (read x.row us) (read y.row vs) x.reads y.reads in
    let rows : x.row ≡ y.row = cc in
    let found : Some a ≡ Some b = sym x.is ∙ ap value rows ∙ y.is in
    record { values = cc; rests = cc }

not_both : {V : Type 0} {value : List Piece → Option V} {q : LineState} {ts us : List LineToken} {a : V} {n : ℕ} {p : Place} → ReadsAs value q ts a us → Reads q ts (refused n p) → ⊥
not_both {q = q} {ts = ts} {us = us} {n = n} {p = p} x y = let e = readings.one_reading q ts (read x.row us) (refused n p) x.reads y in cc

pub carried : {A B : Type 0} {a b : A} {us vs : List LineToken} (f : A → B) → Same a b us vs → Same (f a) (f b) us vs
carried f x = record { values = ap f x.values; rests = x.rests }

-- a block's word and what follows it, by the word

abbrev OpensAs : Word → List LineToken → Part → List LineToken → Type 0
OpensAs word_case.Con ts p rest = (xs : List Constant) × ReadsAs constants_of_row state.ConHead ts xs rest × (p ≡ constants xs)
OpensAs word_case.Var ts p rest = (xs : List Declared) × ReadsAs variables_of_row state.VarHead ts xs rest × (p ≡ variables xs)
OpensAs word_case.Obj ts p rest = (xs : List Child) × ReadsAs objects_of_row state.ObjHead ts xs rest × (p ≡ objects xs)
OpensAs word_case.Pub ts p rest = (m : MethodTree) × ReadsAs (method_of_row true) state.MethodName ts m rest × (p ≡ method m [])
OpensAs word_case.Pri ts p rest = (m : MethodTree) × ReadsAs (method_of_row false) state.MethodName ts m rest × (p ≡ method m [])
OpensAs word_case.Dat ts p rest = (o : Option trees.Line) × ReadsAs line_of_row state.DatHead ts o rest × (p ≡ assembly (lines_in o))
OpensAs w ts p rest = ⊥

opens_as : {t : LineToken} {ts rest : List LineToken} {p : Part} → Opens t ts p rest → OpensAs (word t) ts p rest
opens_as {t} {ts} {rest} {p} (con {xs = xs} e r) = subst (λ w. OpensAs w ts p rest) (sym e) (xs, r, refl)
opens_as {t} {ts} {rest} {p} (var {xs = xs} e r) = subst (λ w. OpensAs w ts p rest) (sym e) (xs, r, refl)
opens_as {t} {ts} {rest} {p} (obj {xs = xs} e r) = subst (λ w. OpensAs w ts p rest) (sym e) (xs, r, refl)
opens_as {t} {ts} {rest} {p} (pub_method {m = m} e r) = subst (λ w. OpensAs w ts p rest) (sym e) (m, r, refl)
opens_as {t} {ts} {rest} {p} (pri_method {m = m} e r) = subst (λ w. OpensAs w ts p rest) (sym e) (m, r, refl)
opens_as {t} {ts} {rest} {p} (dat {o = o} e r) = subst (λ w. OpensAs w ts p rest) (sym e) (o, r, refl)

pub ends_same : {p q a b : Part} {us vs : List LineToken} → p ≡ a → q ≡ b → Same a b us vs → Same p q us vs
ends_same e f x = record { values = e ∙ x.values ∙ sym f; rests = x.rests }

opened_as : (w : Word) (ts us vs : List LineToken) (p q : Part) → OpensAs w ts p us → OpensAs w ts q vs → Same p q us vs
opened_as word_case.Con ts us vs p q x y = ends_same x.2 y.2 (carried constants (read_as x.1 y.1))
opened_as word_case.Var ts us vs p q x y = ends_same x.2 y.2 (carried variables (read_as x.1 y.1))
opened_as word_case.Obj ts us vs p q x y = ends_same x.2 y.2 (carried objects (read_as x.1 y.1))
opened_as word_case.Pub ts us vs p q x y = ends_same x.2 y.2 (carried (λ m. method m []) (read_as x.1 y.1))
opened_as word_case.Pri ts us vs p q x y = ends_same x.2 y.2 (carried (λ m. method m []) (read_as x.1 y.1))
opened_as word_case.Dat ts us vs p q x y = ends_same x.2 y.2 (carried (λ o. assembly (lines_in o)) (read_as x.1 y.1))
opened_as w ts us vs p q x y = absurd x

opened_or_refused : (w : Word) (ts us : List LineToken) (p : Part) (n : ℕ) (pl : Place) → OpensAs w ts p us → Reads (head_state w) ts (refused n pl) → ⊥
opened_or_refused word_case.Con ts us p n pl x y = not_both x.1 y
opened_or_refused word_case.Var ts us p n pl x y = not_both x.1 y
opened_or_refused word_case.Obj ts us p n pl x y = not_both x.1 y
opened_or_refused word_case.Pub ts us p n pl x y = not_both x.1 y
opened_or_refused word_case.Pri ts us p n pl x y = not_both x.1 y
opened_or_refused word_case.Dat ts us p n pl x y = not_both x.1 y
opened_or_refused w ts us p n pl x y = x

-- further lines

one_extension : {ts us vs : List LineToken} {ps qs rs : List Part} → Extends ts ps qs us → Extends ts ps rs vs → Same qs rs us vs
one_extension (first_constants x) (first_constants y) = carried (λ xs. constants xs ∷ []) (read_as x y)
one_extension (more_constants {xs = xs} {ps = ps} x) (more_constants y) = carried (λ ys. constants (xs ++ ys) ∷ ps) (read_as x y)
one_extension (more_variables {xs = xs} {ps = ps} x) (more_variables y) = carried (λ ys. variables (xs ++ ys) ∷ ps) (read_as x y)
one_extension (more_objects {xs = xs} {ps = ps} x) (more_objects y) = carried (λ ys. objects (xs ++ ys) ∷ ps) (read_as x y)
one_extension (more_assembly {xs = xs} {ps = ps} x) (more_assembly y) = carried (λ o. assembly (xs ++ lines_in o) ∷ ps) (read_as x y)

extended_or_refused : {ts us : List LineToken} {ps qs : List Part} {n : ℕ} {p : Place} → Extends ts ps qs us → Reads (line_state ps) ts (refused n p) → ⊥
extended_or_refused (first_constants x) y = not_both x y
extended_or_refused (more_constants x) y = not_both x y
extended_or_refused (more_variables x) y = not_both x y
extended_or_refused (more_objects x) y = not_both x y
extended_or_refused (more_assembly x) y = not_both x y

not_extended : {ts us : List LineToken} {m : MethodTree} {ls : List lines.Line} {ps qs : List Part} → Extends ts (method m ls ∷ ps) qs us → ⊥
not_extended x = elim x [ ]

-- a block's word ends no line
pub end_begins_none : (t : LineToken) → word t ≡ word_case.LineEnd → IsHead t → ⊥
end_begins_none t e h = let z = sym (ap is_block_word e) ∙ h.0 in cc

read_as_kinds : {q r : LineState} {ts us vs : List LineToken} {k l : Kind} → q ≡ r → ReadsAs kind_of_row q ts k us → ReadsAs kind_of_row r ts l vs → Same k l us vs
read_as_kinds {r = r} {ts = ts} {us = us} {k = k} e x y = read_as (subst (λ q. ReadsAs kind_of_row q ts k us) e x) y

one_step : {x y z : Position} {ts us vs : List LineToken} → Step x ts y us → Step x ts z vs → Same y z us vs
one_step (blank e) (blank f) = record { values = refl; rests = refl }
one_step (blank {t = t} e) (head h o) = absurd (end_begins_none t e h)
one_step (blank e) (declaration f h x) = absurd (f e)
one_step (blank e) (method_line f h x l d r) = absurd (f e)
one_step (head {t = t} h o) (blank e) = absurd (end_begins_none t e h)
one_step (head {ps = ps} {t = t} h o) (head g u) = carried (λ p. at (p ∷ ps) None) (opened_as (word t) _ _ _ _ _ (opens_as o) (opens_as u))
one_step (head h o) (declaration f g x) = absurd (g h)
one_step (head h o) (method_line f g x l d r) = absurd (g h)
one_step (declaration f h x) (blank e) = absurd (f e)
one_step (declaration f g x) (head h o) = absurd (g h)
one_step (declaration f g x) (declaration f' g' y) = carried (λ ps. at ps None) (one_extension x y)
one_step (declaration f g x) (method_line f' g' e l d r) = absurd (not_extended x)
one_step (method_line f h x l d r) (blank e) = absurd (f e)
one_step (method_line f g x l d r) (head h o) = absurd (g h)
one_step (method_line f' g' e l d r) (declaration f g x) = absurd (not_extended x)
one_step (method_line {m = m} {ls = ls} {ps = ps} {b = b} {t = t} f g e l d r) (method_line f' g' e' l' d' r') =
    carried (λ k. at (method m (ls ++ lines.line t.place k ∷ []) ∷ ps) (begun_by k b t)) (read_as_kinds (one_state ls _ t e e') r r')

-- a step or a refusal

step_or_fails : {x y : Position} {ts us : List LineToken} {n : ℕ} {p : Place} → Step x ts y us → Fails x ts n p → ⊥
step_or_fails (blank {t = t} e) (head_fails h r) = end_begins_none t e h
step_or_fails (blank e) (declaration_fails f h d r) = f e
step_or_fails (blank e) (entry_fails f h x) = f e
step_or_fails (blank e) (no_loop_fails f h x l) = f e
step_or_fails (blank e) (too_deep_fails f h x d r n) = f e
step_or_fails (blank e) (line_fails f h x l d r) = f e
step_or_fails (head {t = t} h o) (head_fails g r) = opened_or_refused (word t) _ _ _ _ _ (opens_as o) r
step_or_fails (head h o) (declaration_fails f g d r) = g h
step_or_fails (head h o) (entry_fails f g x) = g h
step_or_fails (head h o) (no_loop_fails f g x l) = g h
step_or_fails (head h o) (too_deep_fails f g x d r n) = g h
step_or_fails (head h o) (line_fails f g x l d r) = g h
step_or_fails (declaration f h x) (head_fails g r) = h g
step_or_fails (declaration f h x) (declaration_fails f' g d r) = extended_or_refused x r
step_or_fails (declaration f h x) (entry_fails f' g e) = not_extended x
step_or_fails (declaration f h x) (no_loop_fails f' g e l) = not_extended x
step_or_fails (declaration f h x) (too_deep_fails f' g e d r n) = not_extended x
step_or_fails (declaration f h x) (line_fails f' g e l d r) = not_extended x
step_or_fails (method_line f h x l d r) (head_fails g r') = h g
step_or_fails (method_line f h x l d r) (declaration_fails f' g d' r') = absurd cc
step_or_fails (method_line {ls = ls} {t = t} f h x l d r) (entry_fails f' g e) = not_barred ls _ t x e
step_or_fails (method_line {ls = ls} {t = t} f h x l d r) (no_loop_fails f' g e l') = l (subst (λ q. HasNoLoop ls q t) (one_state ls _ t e x) l')
step_or_fails (method_line {ls = ls} {t = t} f h x l d r) (too_deep_fails f' g e d' r' n) = d (subst (λ q. IsTooDeep ls q t) (one_state ls _ t e x) d')
step_or_fails (method_line {ls = ls} {t = t} {ts = ts} f h x l d r) (line_fails {n = n} {p = p} f' g e l' d' r') = not_both r (subst (λ q. Reads q (t ∷ ts) (refused n p)) (one_state ls _ t e x) r')

-- refusals

pub record Told (n m : ℕ) (p q : Place) : Type 0 where
  pub numbers : n ≡ m
  pub places : p ≡ q

one_refusal : {q r : LineState} {ts : List LineToken} {n m : ℕ} {p o : Place} → q ≡ r → Reads q ts (refused n p) → Reads r ts (refused m o) → Told n m p o
one_refusal {r = r} {ts = ts} {n = n} {m = m} {p = p} {o = o} e x y =
    let z = readings.one_reading r ts (refused n p) (refused m o) (subst (λ q. Reads q ts (refused n p)) e x) y in
    record { numbers = cc; places = cc }

loop_or_opener : (q : LineState) (w : Word) → (if leaves_loop q w then opens q w else false) ≡ false
loop_or_opener state.Statement word_case.Next = refl
loop_or_opener state.Statement w = refl
loop_or_opener state.CaseItem w = refl
loop_or_opener q w = refl

pub loop_or_deep : (ls : List lines.Line) (q r : LineState) (t : LineToken) → q ≡ r → HasNoLoop ls q t → IsTooDeep ls r t → ⊥
loop_or_deep ls q r t e l d =
    let z = ap (λ b. if b then opens r (word t) else false) (sym (subst (λ q. IsTrue (leaves_loop q (word t))) e l.0)) ∙ loop_or_opener r (word t) in
    let y = sym d.0 ∙ z in
    cc

too_deep_told : (ls : List lines.Line) (q r : LineState) (t : LineToken) (ts : List LineToken) (o : Outcome) (n : ℕ) (p : Place) → q ≡ r → IsTooDeep ls q t → Reads q (t ∷ ts) o → ¬ IsRefusedAt t.place o → (IsTooDeep ls r t → p ≡ t.place) → Reads r (t ∷ ts) (refused n p) → ⊥
too_deep_told ls q r t ts o n p e d x told there y =
    let same = readings.one_reading r (t ∷ ts) o (refused n p) (subst (λ q. Reads q (t ∷ ts) o) e x) y in
    told (subst (λ o. IsRefusedAt t.place o) (sym same) (there (subst (λ q. IsTooDeep ls q t) e d)))

one_failure : {x : Position} {ts : List LineToken} {n m : ℕ} {p q : Place} → Fails x ts n p → Fails x ts m q → Told n m p q
one_failure (head_fails h r) (head_fails h' r') = one_refusal refl r r'
one_failure (head_fails h r) (declaration_fails f g d r') = absurd (g h)
one_failure (head_fails h r) (entry_fails f g e) = absurd (g h)
one_failure (head_fails h r) (no_loop_fails f g e l) = absurd (g h)
one_failure (head_fails h r) (too_deep_fails f g e d r' o) = absurd (g h)
one_failure (head_fails h r) (line_fails f g e l d r') = absurd (g h)
one_failure (declaration_fails f h d r) (head_fails g r') = absurd (h g)
one_failure (declaration_fails f h d r) (declaration_fails f' h' d' r') = one_refusal refl r r'
one_failure (declaration_fails f h d r) (entry_fails f' g e) = absurd cc
one_failure (declaration_fails f h d r) (no_loop_fails f' g e l) = absurd cc
one_failure (declaration_fails f h d r) (too_deep_fails f' g e d' r' o) = absurd cc
one_failure (declaration_fails f h d r) (line_fails f' g e l d' r') = absurd cc
one_failure (entry_fails f h e) (head_fails g r) = absurd (h g)
one_failure (entry_fails f h e) (declaration_fails f' g d r) = absurd cc
one_failure (entry_fails {ls = ls} {t = t} f h e) (entry_fails f' h' e') = record { numbers = one_number ls _ t e e'; places = refl }
one_failure (entry_fails {ls = ls} {t = t} f h e) (no_loop_fails f' h' e' l) = absurd (not_barred ls _ t e' e)
one_failure (entry_fails {ls = ls} {t = t} f h e) (too_deep_fails f' h' e' d r o) = absurd (not_barred ls _ t e' e)
one_failure (entry_fails {ls = ls} {t = t} f h e) (line_fails f' h' e' l d r) = absurd (not_barred ls _ t e' e)
one_failure (no_loop_fails f h e l) (head_fails g r) = absurd (h g)
one_failure (no_loop_fails f h e l) (declaration_fails f' g d r) = absurd cc
one_failure (no_loop_fails {ls = ls} {t = t} f h e l) (entry_fails f' h' e') = absurd (not_barred ls _ t e e')
one_failure (no_loop_fails f h e l) (no_loop_fails f' h' e' l') = record { numbers = refl; places = refl }
one_failure (no_loop_fails {ls = ls} {t = t} {q = q} f h e l) (too_deep_fails {q = q'} f' h' e' d r o) = absurd (loop_or_deep ls q q' t (one_state ls _ t e e') l d)
one_failure (no_loop_fails {ls = ls} {t = t} f h e l) (line_fails f' h' e' l' d r) = absurd (l' (subst (λ q. HasNoLoop ls q t) (one_state ls _ t e e') l))
one_failure (too_deep_fails f h e d r o) (head_fails g r') = absurd (h g)
one_failure (too_deep_fails f h e d r o) (declaration_fails f' g d' r') = absurd cc
one_failure (too_deep_fails {ls = ls} {t = t} f h e d r o) (entry_fails f' h' e') = absurd (not_barred ls _ t e e')
one_failure (too_deep_fails {ls = ls} {t = t} {q = q} f h e d r o) (no_loop_fails {q = q'} f' h' e' l) = absurd (loop_or_deep ls q' q t (one_state ls _ t e' e) l d)
one_failure (too_deep_fails f h e d r o) (too_deep_fails f' h' e' d' r' o') = record { numbers = refl; places = refl }
one_failure (too_deep_fails {ls = ls} {t = t} {ts = ts} {q = q} {o = o} f h e d r told) (line_fails {q = q'} {n = n} {p = p} f' h' e' l d' r') = absurd (too_deep_told ls q q' t ts o n p (one_state ls _ t e e') d r told d' r')
one_failure (line_fails f h e l d r) (head_fails g r') = absurd (h g)
one_failure (line_fails f h e l d r) (declaration_fails f' g d' r') = absurd cc
one_failure (line_fails {ls = ls} {t = t} f h e l d r) (entry_fails f' h' e') = absurd (not_barred ls _ t e e')
one_failure (line_fails {ls = ls} {t = t} f h e l d r) (no_loop_fails f' h' e' l') = absurd (l (subst (λ q. HasNoLoop ls q t) (one_state ls _ t e' e) l'))
one_failure (line_fails {ls = ls} {t = t} {ts = ts} {q = q} {n = n} {p = p} f h e l d r) (too_deep_fails {q = q'} {o = o} f' h' e' d' r' told) = absurd (too_deep_told ls q' q t ts o n p (one_state ls _ t e' e) d' r' told d r)
one_failure (line_fails {ls = ls} {t = t} f h e l d r) (line_fails f' h' e' l' d' r') = one_refusal (one_state ls _ t e e') r r'

-- lines one after the other

-- the first of them
data Gone (x : Position) (ts : List LineToken) (z : Position) (vs : List LineToken) : Type 0 where
  nowhere : z ≡ x → vs ≡ ts → Gone x ts z vs
  further : (y : Position) (us : List LineToken) → Step x ts y us → Goes y us z vs → Gone x ts z vs

gone : {x z : Position} {ts vs : List LineToken} → Goes x ts z vs → Gone x ts z vs
gone stay = nowhere refl refl
gone {x} {z} {ts} {vs} (go_on {y = y} {us = us} g s) = more (gone g)
  where
    more : Gone x ts y us → Gone x ts z vs
    more (nowhere e f) = further z vs (subst (λ y. Step y ts z vs) e (subst (λ us. Step y us z vs) f s)) stay
    more (further w ws s' g') = further w ws s' (go_on g' s)

-- of two ways one goes on with the other
compare : {x y z : Position} {ts us vs : List LineToken} → Goes x ts y us → Goes x ts z vs → Goes y us z vs ⊎ Goes z vs y us
compare stay h = inl h
compare {y = y} {z = z} {us = us} {vs = vs} (go_on {y = y'} {us = us'} g s) h = more (compare g h)
  where
    more : Goes y' us' z vs ⊎ Goes z vs y' us' → Goes y us z vs ⊎ Goes z vs y us
    more (inr k) = inr (go_on k s)
    more (inl k) = from (gone k)
      where
        from : Gone y' us' z vs → Goes y us z vs ⊎ Goes z vs y us
        from (nowhere e f) = inr (go_on stay (subst (λ y'. Step y' vs y us) (sym e) (subst (λ us'. Step y' us' y us) (sym f) s)))
        from (further w ws s' g') = let o = one_step s' s in inl (subst (λ w. Goes w us z vs) o.values (subst (λ ws. Goes w ws z vs) o.rests g'))

-- no line begins with no token
no_step : {x y : Position} {ts us : List LineToken} → Step x ts y us → ts ≡ [] → ⊥
no_step (blank e) f = absurd cc
no_step (head h o) f = absurd cc
no_step (declaration f h x) e = absurd cc
no_step (method_line f h x l d r) e = absurd cc

all_read : {x y : Position} {us : List LineToken} → Goes x [] y us → (y ≡ x) × (us ≡ [])
all_read {x} {y} {us} g = go (gone g)
  where
    go : Gone x [] y us → (y ≡ x) × (us ≡ [])
    go (nowhere e f) = (e, f)
    go (further z vs s h) = absurd (no_step s refl)

none_behind : {x y : Position} {ts us : List LineToken} {n : ℕ} {p : Place} → Fails x ts n p → Goes x ts y us → (y ≡ x) × (us ≡ ts)
none_behind {x} {y} {ts} {us} f g = go (gone g)
  where
    go : Gone x ts y us → (y ≡ x) × (us ≡ ts)
    go (nowhere e f) = (e, f)
    go (further z vs s h) = absurd (step_or_fails s f)

fails_somewhere : {x : Position} {ts : List LineToken} {n : ℕ} {p : Place} → Fails x ts n p → ts ≡ [] → ⊥
fails_somewhere (head_fails h r) f = absurd cc
fails_somewhere (declaration_fails f h d r) e = absurd cc
fails_somewhere (entry_fails f h x) e = absurd cc
fails_somewhere (no_loop_fails f h x l) e = absurd cc
fails_somewhere (too_deep_fails f h x d r n) e = absurd cc
fails_somewhere (line_fails f h x l d r) e = absurd cc

-- the blocks of parts

one_block : {p : Part} {b c : BlockTree} → IsBlock p b → IsBlock p c → b ≡ c
one_block con_block con_block = refl
one_block var_block var_block = refl
one_block obj_block obj_block = refl
one_block dat_block dat_block = refl
one_block (method_block {m = m} {ls = ls} {ss = ss} a) (method_block {ss = tt'} a') = ap (λ ss. trees.Method (with_body m ss)) (one_reading ls ss tt' a a')

one_source : {ps : List Part} {s r : Source} → AreBlocks ps s → AreBlocks ps r → s ≡ r
one_source no_blocks no_blocks = refl
one_source (one_more a b) (one_more a' b') = let e = one_source a a' in let f = one_block b b' in λ i. e i ++ f i ∷ []

-- answers

source_source : {ts : List LineToken} {x y : Position} {s r : Source} → Goes start ts x [] → AreBlocks x.parts s → Goes start ts y [] → AreBlocks y.parts r → s ≡ r
source_source {x = x} {y = y} {s = s} {r = r} g a h b = go (compare g h)
  where
    go : Goes x [] y [] ⊎ Goes y [] x [] → s ≡ r
    go (inl k) = let e = all_read k in one_source a (subst (λ y. AreBlocks y.parts r) e.0 b)
    go (inr k) = let e = all_read k in one_source (subst (λ x. AreBlocks x.parts s) e.0 a) b

source_fault : {ts us : List LineToken} {x y : Position} {n : ℕ} {p : Place} → Goes start ts x [] → Goes start ts y us → Fails y us n p → ⊥
source_fault {us = us} {x = x} {y = y} g h f = go (compare g h)
  where
    go : Goes x [] y us ⊎ Goes y us x [] → ⊥
    go (inl k) = fails_somewhere f (all_read k).1
    go (inr k) = fails_somewhere f (sym (none_behind f k).1)

fault_fault : {ts us vs : List LineToken} {x y : Position} {n m : ℕ} {p q : Place} → Goes start ts x us → Fails x us n p → Goes start ts y vs → Fails y vs m q → Told n m p q
fault_fault {us = us} {vs = vs} {x = x} {y = y} {n = n} {m = m} {p = p} {q = q} g f h e = go (compare g h)
  where
    go : Goes x us y vs ⊎ Goes y vs x us → Told n m p q
    go (inl k) = let z = none_behind f k in one_failure f (subst (λ x. Fails x us m q) z.0 (subst (λ us. Fails y us m q) z.1 e))
    go (inr k) = let z = none_behind e k in one_failure (subst (λ y. Fails y vs n p) z.0 (subst (λ vs. Fails x vs n p) z.1 f)) e

pub one_answer : (ts : List LineToken) (a b : Answer) → Parses ts a → Parses ts b → a ≡ b
one_answer ts _ _ (whole g a) (whole h b) = ap source (source_source g a h b)
one_answer ts _ _ (whole g a) (fails h f) = absurd (source_fault g h f)
one_answer ts _ _ (fails h f) (whole g a) = absurd (source_fault g h f)
one_answer ts _ _ (fails g e) (fails h f) = let z = fault_fault g e h f in λ i. fault (z.numbers i) (z.places i)
