-- One word more, by what the word is.
use Rattle.std.proofs.Common.{◌≡◌, ℕ, zero, suc, ◌+◌, ◌*◌, ◌<◌, List, [], ◌∷◌, Option, Some, None, Bool, true, false, refl, sym, ap, ◌∙◌, arith}
use Rattle.std.specs.Prelude.{option_and_then, IsTrue, if◌then◌else◌, not, ◌&&◌, nat_lt}
use Rattle.p8_tree.specs.declared.places.Place.{Place}
use Rattle.p8_tree.specs.Expressions.{Tree, node, Number, Variable}
use Rattle.p8_grammar.specs.Lexemes.{Setting, in_action, is_value, inside, behind, is_written, Mark, left_parenthesis, right_parenthesis, left_bracket, right_bracket, comma, colon, dot, dot_dot, hash, backslash, equal, Lexeme, number, name, string, mark, prefix_word, infix_word, sign, assigns, object_address, other, reserved, plain, is_free, token, Token}
use Rattle.p8_grammar.specs.Grammar.{word, Prefix, unary, prefix_of, effect_of, rank, infix_of, is_boolean, is_string_alone}
use Rattle.p8_grammar.specs.Machine.{reading, used, Shape, using, coloned, named, element, part, opening, string_opened, string_read, strings_read, choices_read, becoming, done, Hole, first_item, Next, opens, fresh, tree, target, altering, grow, close, Frame, prefix_frame, infix_frame, assign_frame, inside_frame, level_bound_of, reduce, State, state, entered, entered_all, fill_hole, prefixed, operated, operate, assign, after, beyond, in_place, go_on, first_of, freed, loose, bare, forward, opened, moved, otherwise, step, walk, Left, left_tree, left_variable, tree_in}
use Rattle.std.proofs.lemmas.Bool.{lt-ltb, ltb-true}
use Rattle.p8_grammar.proofs.Walks.{steps_on, kept, passed, only, both, second_true}
use Rattle.p8_grammar.proofs.Settings.{inside_value}
use Rattle.p8_grammar.proofs.FormsRead.{fed}

abbrev pub is_text : Lexeme → Bool
is_text (string t) = true
is_text x = false

abbrev pub is_mark : Lexeme → Bool
is_mark (mark m) = true
is_mark x = false

abbrev pub is_closer : Mark → Bool
is_closer right_parenthesis = true
is_closer right_bracket = true
is_closer comma = true
is_closer colon = true
is_closer dot_dot = true
is_closer m = false

-- a form waits for no such word in place of an expression
pub no_item : (s : Setting) (p : Place) (x : Lexeme) (hole : Hole) (n : Next) → IsTrue (is_free x) → fed s (word p x) (opens hole) ≡ Some n → ⊥
no_item s p (string t) hole n free f = absurd cc
no_item s p x hole n free f = cc

pub failed : {A : Type 0} (b : Bool) (o o' : A) → b ≡ false → (if b then o else o') ≡ o'
failed true o o' h = absurd cc
failed false o o' h = refl

-- ---- what an operator is, reserved or not

pub prefix_loose : (x : Lexeme) → prefix_of (plain x) ≡ prefix_of (loose x)
prefix_loose (reserved n (prefix_word r c)) = refl
prefix_loose (reserved n x) = refl
prefix_loose x = refl

pub infix_loose : (x : Lexeme) → infix_of (plain x) ≡ infix_of (loose x)
infix_loose (reserved n (infix_word r c)) = refl
infix_loose (reserved n x) = refl
infix_loose x = refl

pub loose_mark : (x : Lexeme) (m : Mark) → loose x ≡ mark m → x ≡ mark m
loose_mark (reserved n (mark m')) m h = absurd cc
loose_mark (reserved n x) m h = absurd cc
loose_mark x m h = h

pub loose_string : (x : Lexeme) (t : List ℕ) → loose x ≡ string t → x ≡ string t
loose_string (reserved n (mark m)) t h = absurd cc
loose_string (reserved n x) t h = absurd cc
loose_string x t h = h

-- what is taken in place of an expression is a string
pub in_place_text : (x : Lexeme) (sh : Shape) (k : List Frame) (p : Place) (st : State) → in_place x sh k p ≡ Some st → (t : List ℕ) × (x ≡ string t) × (sh ≡ fresh)
in_place_text (string t) (using reading) k p st h = (t, refl, refl)
in_place_text (string t) sh k p st h = absurd cc
in_place_text x sh k p st h = absurd cc

pub loose_assigns : (x : Lexeme) (o : Option ℕ) → loose x ≡ assigns o → x ≡ assigns o
loose_assigns (reserved n (mark m)) o h = absurd cc
loose_assigns (reserved n x) o h = absurd cc
loose_assigns x o h = h

loose_prefix : (x : Lexeme) (o : Prefix) → prefix_of (plain x) ≡ Some o → loose x ≡ plain x
loose_prefix (reserved n (prefix_word r c)) o h = refl
loose_prefix (reserved n (sign b c)) o h = refl
loose_prefix (reserved n object_address) o h = refl
loose_prefix (reserved n x) o h = absurd cc
loose_prefix x o h = refl

loose_infix : (x : Lexeme) (o : ℕ × ℕ) → infix_of (plain x) ≡ Some o → loose x ≡ plain x
loose_infix (reserved n (infix_word r c)) o h = refl
loose_infix (reserved n (sign b c)) o h = refl
loose_infix (reserved n x) o h = absurd cc
loose_infix x o h = refl

-- a whole form's words have no names among them
pub whole_step : (s : Setting) (sh : Shape) (k : List Frame) (p : Place) (x : Lexeme) (top : Tree) → tree sh ≡ Some top → step (state s sh k) (token p x) ≡ forward s sh k p (loose x)
whole_step s (coloned u q) k p x top t = absurd cc
whole_step s (string_opened q) k p x top t = absurd cc
whole_step s sh k p x top t = refl

pub no_altering : (s : Setting) (p : Place) (o : Option ℕ) → IsTrue (is_value s) → altering s p o ≡ None
no_altering s p None d = refl
no_altering in_action p (Some e) d = absurd cc
no_altering s p (Some e) d = refl

pub prefix_step : (s : Setting) (k : List Frame) (p : Place) (x : Lexeme) (o : Prefix) → IsTrue (is_value s) → prefix_of (plain x) ≡ Some o → 2 * rank o + 1 < level_bound_of k → step (state s fresh k) (token p x) ≡ Some (state s fresh (prefix_frame o p ∷ k))
prefix_step s k p x o d h lt =
    ap (λ y. forward s fresh k p y) (loose_prefix x o h)
    ∙ by_word (plain x) h
    ∙ passed (is_value s && nat_lt (2 * rank o + 1) (level_bound_of k)) _ _ (both (is_value s) (nat_lt (2 * rank o + 1) (level_bound_of k)) d (lt-ltb (2 * rank o + 1) (level_bound_of k) lt))
  where
    by_word : (y : Lexeme) → prefix_of y ≡ Some o → forward s fresh k p y ≡ prefixed s (Some o) p k
    by_word (prefix_word r c) h = ap (λ n. go_on n s fresh k p (prefix_word r c)) (no_altering s p (effect_of (unary r c)) d) ∙ ap (λ o. prefixed s o p k) h
    by_word (sign c j) h = ap (λ n. go_on n s fresh k p (sign c j)) (no_altering s p (effect_of (unary 1 c)) d) ∙ ap (λ o. prefixed s o p k) h
    by_word object_address h = ap (λ o. prefixed s o p k) h
    by_word y h = absurd cc

-- ---- an operator between operands

no_infix_grows : (s : Setting) (sh : Shape) (p : Place) (y : Lexeme) (o : ℕ × ℕ) (top : Tree) → tree sh ≡ Some top → infix_of y ≡ Some o → grow s sh p y ≡ None
no_infix_grows s (using u) p y o top t h = absurd cc
no_infix_grows s sh p (infix_word r c) o top t h = refl
no_infix_grows s sh p (sign b j) o top t h = refl
no_infix_grows s sh p y o top t h = absurd cc

pub operator_step : (s : Setting) (sh : Shape) (k : List Frame) (p : Place) (x : Lexeme) (top : Tree) (o : ℕ × ℕ) → infix_of (plain x) ≡ Some o → tree sh ≡ Some top → step (state s sh k) (token p x) ≡ operate s (target sh) (Some o) p top k
operator_step s sh k p x top o h t = whole_step s sh k p x top t ∙ ap (λ y. forward s sh k p y) (loose_infix x o h) ∙ by_word (plain x) h
  where
    after_is : (y : Lexeme) → infix_of y ≡ Some o → after s sh top k p y ≡ operate s (target sh) (Some o) p top k
    after_is (infix_word r c) h = ap (λ o. operate s (target sh) o p top k) h
    after_is (sign b c) h = ap (λ o. operate s (target sh) o p top k) h
    after_is y h = absurd cc

    in_front : (y : Lexeme) → infix_of y ≡ Some o → forward s sh k p y ≡ go_on (grow s sh p y) s sh k p y
    in_front (string t) h = absurd cc
    in_front y h = refl

    by_word : (y : Lexeme) → infix_of y ≡ Some o → forward s sh k p y ≡ operate s (target sh) (Some o) p top k
    by_word y h = in_front y h ∙ ap (λ n. go_on n s sh k p y) (no_infix_grows s sh p y o top t h) ∙ ap (λ t. beyond t s sh k p y) t ∙ after_is y h

same_used : (w v : Variable) (e : Tree) → Some w ≡ Some v → Some (used reading w) ≡ Some e → e ≡ used reading v
same_used w v e h t = let same : w ≡ v = cc in let tree : used reading w ≡ e = cc in sym tree ∙ ap (used reading) same

-- a variable that may be written is read
target_tree : (sh : Shape) (v : Variable) (e : Tree) → target sh ≡ Some v → tree sh ≡ Some e → e ≡ used reading v
target_tree (named b reading p n) v e h t = same_used _ v e h t
target_tree (element p n i) v e h t = same_used _ v e h t
target_tree (part reading w x) v e h t = go (is_written x) h
  where
    go : (b : Bool) → (if b then Some w else None) ≡ Some v → e ≡ used reading v
    go true h = same_used w v e h t
    go false h = absurd cc
target_tree sh v e h t = absurd cc

-- an operator between operands has begun the right one
pub record Operates (s : Setting) (r c : ℕ) (p : Place) (a : Tree) (k : List Frame) (o : Option State) : Type 0 where
  pub left : Left
  pub same : tree_in left ≡ a
  pub is : o ≡ Some (state s fresh (infix_frame r c p left ∷ k))

pub infix_step : (s : Setting) (sh : Shape) (k k' : List Frame) (p : Place) (x : Lexeme) (top a : Tree) (r c : ℕ) → IsTrue (is_value s) → infix_of (plain x) ≡ Some (suc r, c) → tree sh ≡ Some top → r < 10 → reduce (2 * suc r) top k ≡ (a, k') → Operates s r c p a k' (step (state s sh k) (token p x))
infix_step s sh k k' p x top a r c d h t lt red = go (is_boolean (suc r) && nat_lt 21 (level_bound_of k)) refl (target sh) refl
  where
    stepped : (o : Option Variable) → (if is_boolean (suc r) && nat_lt 21 (level_bound_of k) then target sh else None) ≡ o → step (state s sh k) (token p x) ≡ operated s o r c p top k
    stepped o e = operator_step s sh k p x top (suc r, c) h t ∙ ap (λ w. operated s w r c p top k) e

    plainly : (if is_boolean (suc r) && nat_lt 21 (level_bound_of k) then target sh else None) ≡ None → Operates s r c p a k' (step (state s sh k) (token p x))
    plainly e = record {
      left = left_tree a;
      same = refl;
      is = stepped None e ∙ passed (is_value s && nat_lt r 10) _ _ (both (is_value s) (nat_lt r 10) d (lt-ltb r 10 lt)) ∙ ap (λ y. Some (state s fresh (infix_frame r c p (left_tree y.0) ∷ y.1))) red;
    }

    go : (b : Bool) → (is_boolean (suc r) && nat_lt 21 (level_bound_of k)) ≡ b → (o : Option Variable) → target sh ≡ o → Operates s r c p a k' (step (state s sh k) (token p x))
    go false b o w = plainly (ap (λ b. if b then target sh else None) b)
    go true b None w = plainly (ap (λ b. if b then target sh else None) b ∙ w)
    go true b (Some v) w =
        let low : 21 < level_bound_of k = ltb-true 21 (level_bound_of k) (second_true (is_boolean (suc r)) (nat_lt 21 (level_bound_of k)) b) in
        let unreduced = sym (kept (2 * suc r) top k (omega (arith, lt, low))) ∙ red in
        record {
          left = left_variable v;
          same = sym (target_tree sh v top w t) ∙ ap (λ y. y.0) unreduced;
          is = stepped (Some v) (ap (λ b. if b then target sh else None) b ∙ w) ∙ ap Some (passed (is_value s) _ _ d) ∙ ap (λ y. Some (state s fresh (infix_frame r c p (left_variable v) ∷ y.1))) unreduced;
        }

-- AND or OR after a variable, and `=`
pub word_assigns : (s : Setting) (sh : Shape) (k : List Frame) (p q : Place) (x : Lexeme) (r c : ℕ) (top : Tree) (v : Variable) (us : List Token) → infix_of (plain x) ≡ Some (r, c) → tree sh ≡ Some top → target sh ≡ Some v → IsTrue (is_boolean r) → 21 < level_bound_of k → walk (state s sh k) (token p x ∷ token q (mark equal) ∷ us) ≡ walk (state (behind s) fresh (assign_frame (Some c) p v ∷ k)) us
word_assigns s sh k p q x zero c top v us f t w b lt = absurd cc
word_assigns s sh k p q x (suc r) c top v us f t w b lt = go (is_value s) refl
  where
    taken : step (state s sh k) (token p x) ≡ operated s (Some v) r c p top k
    taken =
        operator_step s sh k p x top (suc r, c) f t
        ∙ ap (λ w. operated s w r c p top k) (passed (is_boolean (suc r) && nat_lt 21 (level_bound_of k)) _ _ (both (is_boolean (suc r)) (nat_lt 21 (level_bound_of k)) b (lt-ltb 21 (level_bound_of k) lt)) ∙ w)

    go : (d : Bool) → is_value s ≡ d → walk (state s sh k) (token p x ∷ token q (mark equal) ∷ us) ≡ walk (state (behind s) fresh (assign_frame (Some c) p v ∷ k)) us
    go true d = steps_on (state s sh k) (state s fresh (infix_frame r c p (left_variable v) ∷ k)) (token p x) (token q (mark equal) ∷ us) (taken ∙ ap Some (passed (is_value s) _ _ d))
    go false d = steps_on (state s sh k) (becoming s c p v k) (token p x) (token q (mark equal) ∷ us) (taken ∙ ap Some (failed (is_value s) _ _ d))

-- ---- rows

-- a word of a form is what it is
bare_grows : (s : Setting) (sh : Shape) (p : Place) (x : Lexeme) (n : Next) → grow s sh p x ≡ Some n → bare sh x ≡ x
bare_grows s (coloned u q) p x n h = refl
bare_grows s (using reading) p (reserved m x) n h = absurd cc
bare_grows s sh p (reserved m x) n h = absurd cc
bare_grows s sh p x n h = refl

-- the words that an opened STRING goes on with are strings
opened_grows : (s : Setting) (sh : Shape) (k : List Frame) (p : Place) (x : Lexeme) (n : Next) → grow s sh p x ≡ Some n → moved s sh k p x ≡ forward s sh k p x
opened_grows s (string_opened q) k p (string t) n h = refl
opened_grows s (string_opened q) k p x n h = absurd cc
opened_grows s sh k p x n h = refl

-- a string that a form begins with is one of one character
lone_in_place : (s : Setting) (sh : Shape) (k : List Frame) (p : Place) (x : Lexeme) (n : Next) → grow s sh p x ≡ Some n → in_place x sh k p ≡ None
lone_in_place s (using reading) [] p (string t) n h = refl
lone_in_place s (using reading) (inside_frame s' hole ∷ k) p (string (c ∷ [])) n h = refl
lone_in_place s (using reading) (inside_frame s' hole ∷ k) p (string t) n h = absurd cc
lone_in_place s (using reading) (f ∷ k) p (string t) n h = refl
lone_in_place s sh k p (string t) n h = refl
lone_in_place s sh k p x n h = refl

pub grown_moved : (s : Setting) (sh : Shape) (k : List Frame) (p : Place) (x : Lexeme) (n : Next) → grow s sh p x ≡ Some n → moved s sh k p x ≡ Some (entered s k n)
grown_moved s sh k p x n h =
    opened_grows s sh k p x n h ∙ ap (λ o. first_of o (go_on (grow s sh p x) s sh k p x)) (lone_in_place s sh k p x n h) ∙ ap (λ o. go_on o s sh k p x) h

pub grown_step : (s : Setting) (sh : Shape) (k : List Frame) (p : Place) (x : Lexeme) (n : Next) → grow s sh p x ≡ Some n → step (state s sh k) (token p x) ≡ Some (entered s k n)
grown_step s sh k p x n h = ap (λ x. moved s sh k p x) (bare_grows s sh p x n h) ∙ grown_moved s sh k p x n h

no_assigns : (s : Setting) (sh : Shape) (p : Place) (o : Option ℕ) (n : Next) → grow s sh p (assigns o) ≡ Some n → ⊥
no_assigns s (using reading) p o n h = cc
no_assigns s sh p o n h = cc

free_word : (s : Setting) (sh : Shape) (p : Place) (x : Lexeme) (n : Next) → IsTrue (is_free x) → grow s sh p x ≡ Some n → freed x ≡ x
free_word s sh p (assigns o) n free h = absurd (no_assigns s sh p o n h)
free_word s sh p (name m) n free h = absurd cc
free_word s sh p (number m) n free h = absurd cc
free_word s sh p (string m) n free h = absurd cc
free_word s sh p (mark m) n free h = absurd cc
free_word s sh p (reserved m x) n free h = absurd cc
free_word s sh p x n free h = refl

pub reserved_grown : (s : Setting) (sh : Shape) (k : List Frame) (p : Place) (m : List ℕ) (x : Lexeme) (n : Next) → IsTrue (is_free x) → grow s sh p x ≡ Some n → step (state s sh k) (token p (reserved m x)) ≡ Some (entered s k n)
reserved_grown s (coloned u q) k p m (name t) n free h = absurd cc
reserved_grown s (coloned u q) k p m (reserved t x) n free h = absurd cc
reserved_grown s (coloned u q) k p m x n free h = absurd cc
reserved_grown s sh k p m x n free h = ap (λ y. moved s sh k p y) (free_word s sh p x n free h) ∙ grown_moved s sh k p x n h

pub item_step : (s s' : Setting) (p : Place) (x : Lexeme) (hole : Hole) (n : Next) (k : List Frame) → fed s (word p x) (opens hole) ≡ Some n → step (state s' fresh (inside_frame s hole ∷ k)) (token p x) ≡ Some (entered s k n)
item_step s s' p (string t) hole n k h = ap (λ o. first_of (entered_all s k o) (go_on (grow s' fresh p (string t)) s' fresh (inside_frame s hole ∷ k) p (string t))) h
item_step s s' p x hole n k h = absurd cc

-- ---- marks

closes : (m : Mark) (h : Hole) (e : Tree) (n : Next) → close m h e ≡ Some n → IsTrue (is_closer m)
closes left_parenthesis h e n c = absurd cc
closes left_bracket h e n c = absurd cc
closes dot h e n c = absurd cc
closes hash h e n c = absurd cc
closes backslash h e n c = absurd cc
closes equal h e n c = absurd cc
closes m h e n c = refl

closer_none : (s : Setting) (sh : Shape) (p : Place) (m : Mark) (top : Tree) → tree sh ≡ Some top → IsTrue (is_closer m) → grow s sh p (mark m) ≡ None
closer_none s (using u) p m top t c = absurd cc
closer_none s (opening q x) p m top t c = absurd cc
closer_none s (string_opened q) p m top t c = absurd cc
closer_none s (string_read q r w) p m top t c = absurd cc
closer_none s (strings_read q es) p m top t c = absurd cc
closer_none s (choices_read q j x xs) p m top t c = absurd cc
closer_none s sh p right_parenthesis top t c = refl
closer_none s sh p right_bracket top t c = refl
closer_none s sh p comma top t c = refl
closer_none s sh p colon top t c = refl
closer_none s sh p dot_dot top t c = refl
closer_none s sh p m top t c = absurd cc

pub closer_step : (s : Setting) (sh : Shape) (k : List Frame) (p : Place) (m : Mark) (top : Tree) → tree sh ≡ Some top → IsTrue (is_closer m) → step (state s sh k) (token p (mark m)) ≡ fill_hole m (reduce 22 top k).0 (reduce 22 top k).1
closer_step s sh k p m top t c =
    whole_step s sh k p (mark m) top t ∙ ap (λ n. go_on n s sh k p (mark m)) (closer_none s sh p m top t c) ∙ ap (λ o. beyond o s sh k p (mark m)) t

pub mark_step : (s : Setting) (sh : Shape) (k : List Frame) (p : Place) (m : Mark) (h : Hole) (e top : Tree) (n : Next) → tree sh ≡ Some top → close m h e ≡ Some n → step (state s sh k) (token p (mark m)) ≡ fill_hole m (reduce 22 top k).0 (reduce 22 top k).1
mark_step s sh k p m h e top n t c = closer_step s sh k p m top t (closes m h e n c)

no_assign_grows : (s : Setting) (sh : Shape) (p : Place) (o : Option ℕ) (top : Tree) → tree sh ≡ Some top → grow s sh p (assigns o) ≡ None
no_assign_grows s (using u) p o top t = absurd cc
no_assign_grows s sh p o top t = refl

pub assign_step : (s : Setting) (sh : Shape) (k : List Frame) (p : Place) (o : Option ℕ) (top : Tree) (v : Variable) → tree sh ≡ Some top → target sh ≡ Some v → 21 < level_bound_of k → step (state s sh k) (token p (assigns o)) ≡ Some (state (behind s) fresh (assign_frame o p v ∷ k))
assign_step s sh k p o top v t w lt =
    whole_step s sh k p (assigns o) top t
    ∙ ap (λ n. go_on n s sh k p (assigns o)) (no_assign_grows s sh p o top t)
    ∙ ap (λ x. beyond x s sh k p (assigns o)) t
    ∙ ap (λ x. assign s x o p k) w
    ∙ passed (nat_lt 21 (level_bound_of k)) _ _ (lt-ltb 21 (level_bound_of k) lt)

-- ---- the first item of STRING

unmarked : (x : Lexeme) → is_mark x ≡ false → is_mark (loose x) ≡ false
unmarked (reserved n (mark m)) h = refl
unmarked (reserved n x) h = refl
unmarked x h = h

untexted : (x : Lexeme) → is_text x ≡ false → is_text (loose x) ≡ false
untexted (reserved n (string t)) h = refl
untexted (reserved n x) h = refl
untexted x h = h

-- its first word, where it is no string, is one of an expression
pub opened_step : (s : Setting) (q : Place) (k : List Frame) (p : Place) (x : Lexeme) → is_text x ≡ false → step (state s (string_opened q) k) (token p x) ≡ step (state (inside s) fresh (inside_frame s (first_item q) ∷ k)) (token p x)
opened_step s q k p x h = go (loose x) (untexted x h)
  where
    go : (y : Lexeme) → is_text y ≡ false → opened s q k p y ≡ forward (inside s) fresh (inside_frame s (first_item q) ∷ k) p y
    go (string t) h = absurd cc
    go y h = refl

-- so is the one after a string of one character, but for marks
pub second_step : (s : Setting) (q r : Place) (c : ℕ) (k : List Frame) (p : Place) (x : Lexeme) → is_mark x ≡ false → step (state s (string_read q r (c ∷ [])) k) (token p x) ≡ step (state (inside s) (done (node r (Number c))) (inside_frame s (first_item q) ∷ k)) (token p x)
second_step s q r c k p x h = go (loose x) (unmarked x h)
  where
    go : (y : Lexeme) → is_mark y ≡ false → forward s (string_read q r (c ∷ [])) k p y ≡ forward (inside s) (done (node r (Number c))) (inside_frame s (first_item q) ∷ k) p y
    go (mark m) h = absurd cc
    go y h = refl

same_shape : {s s' : Setting} {sh sh' : Shape} {k k' : List Frame} → Some (state s sh k) ≡ Some (state s' sh' k') → sh ≡ sh'
same_shape h = cc

-- a walk that stops isn't one
stopped : (st to : State) (t : Token) (us : List Token) → step st t ≡ None → walk st (t ∷ us) ≡ Some to → ⊥
stopped st to t us none w = let never : None ≡ Some to = sym (ap (λ o. option_and_then (λ x. walk x us) o) none) ∙ w in cc

pub character_step : (s : Setting) (k : List Frame) (p : Place) (c : ℕ) → step (state (inside s) fresh k) (token p (string (c ∷ []))) ≡ Some (state (inside s) (done (node p (Number c))) k)
character_step s k p c = grown_step (inside s) fresh k p (string (c ∷ [])) _ (only (is_value (inside s)) _ (inside_value s))

-- tokens that are an expression and no string alone are read as one
pub opened_walk : (s : Setting) (q : Place) (k : List Frame) (us : List Token) (to : Setting) (sh : Shape) (frames : List Frame) (top : Tree) → IsTrue (not (is_string_alone us)) → walk (state (inside s) fresh []) us ≡ Some (state to sh frames) → tree sh ≡ Some top → walk (state s (string_opened q) k) us ≡ walk (state (inside s) fresh (inside_frame s (first_item q) ∷ k)) us
opened_walk s q k [] to sh frames top a w t = let e : tree fresh ≡ Some top = ap tree (same_shape w) ∙ t in absurd cc
opened_walk s q k (token p (string []) ∷ us) to sh frames top a w t = absurd (stopped (state (inside s) fresh []) (state to sh frames) (token p (string [])) us refl w)
opened_walk s q k (token p (string (c ∷ d ∷ u)) ∷ us) to sh frames top a w t = absurd (stopped (state (inside s) fresh []) (state to sh frames) (token p (string (c ∷ d ∷ u))) us refl w)
opened_walk s q k (token p (string (c ∷ [])) ∷ []) to sh frames top a w t = absurd cc
opened_walk s q k (token p (string (c ∷ [])) ∷ token r (mark m) ∷ us) to sh frames top a w t =
    let st : State = state (inside s) (done (node p (Number c))) [] in
    absurd (stopped st (state to sh frames) (token r (mark m)) us refl (sym (steps_on (state (inside s) fresh []) st (token p (string (c ∷ []))) (token r (mark m) ∷ us) (character_step s [] p c)) ∙ w))
opened_walk s q k (token p (string (c ∷ [])) ∷ token r x ∷ us) to sh frames top a w t =
    ap (λ o. option_and_then (λ y. walk y us) o) (second_step s q p c k r x refl)
    ∙ sym (steps_on (state (inside s) fresh (inside_frame s (first_item q) ∷ k)) (state (inside s) (done (node p (Number c))) (inside_frame s (first_item q) ∷ k)) (token p (string (c ∷ []))) (token r x ∷ us) (character_step s (inside_frame s (first_item q) ∷ k) p c))
opened_walk s q k (token p x ∷ us) to sh frames top a w t = ap (λ o. option_and_then (λ y. walk y us) o) (opened_step s q k p x refl)

-- ---- what stands in no expression

other_grows : (s : Setting) (sh : Shape) (p : Place) → grow s sh p other ≡ None
other_grows s (using reading) p = refl
other_grows s sh p = refl

other_stops_form : (s : Setting) (sh : Shape) (k : List Frame) (p : Place) → forward s sh k p other ≡ None
other_stops_form s sh k p = ap (λ n. go_on n s sh k p other) (other_grows s sh p) ∙ by_tree (tree sh)
  where
    by_shape : (sh : Shape) → otherwise s sh k p other ≡ None
    by_shape (using reading) = refl
    by_shape (string_read q r (c ∷ [])) = refl
    by_shape sh = refl

    by_tree : (o : Option Tree) → beyond o s sh k p other ≡ None
    by_tree None = by_shape sh
    by_tree (Some e) = refl

pub other_stops : (st : State) (p : Place) → step st (token p other) ≡ None
other_stops (becoming s c q v k) p = refl
other_stops (state s (string_opened q) k) p = other_stops_form (inside s) fresh (inside_frame s (first_item q) ∷ k) p
other_stops (state s sh k) p = other_stops_form s sh k p

-- a reserved word that stands in no expression
pub reserved_stops : (n : List ℕ) (p : Place) (top : Tree) (s : Setting) (sh : Shape) (k : List Frame) → tree sh ≡ Some top → step (state s sh k) (token p (reserved n other)) ≡ None
reserved_stops n p top s sh k t = whole_step s sh k p (reserved n other) top t ∙ other_stops_form s sh k p
