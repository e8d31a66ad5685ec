-- What the reader keeps stands for the tokens that it has read.
use Rattle.std.proofs.Common.{◌≡◌, ℕ, zero, suc, ◌+◌, ◌*◌, ◌<◌, ◌≤◌, List, [], ◌∷◌, ◌++◌, Option, Some, None, Bool, true, false, refl, sym, ap, ◌∙◌, subst, arith, append_assoc, append-nil}
use Rattle.std.specs.Prelude.{option_and_then, IsTrue, if◌then◌else◌, not, ◌&&◌, nat_lt, nat_le}
use Rattle.p8_tree.specs.declared.places.Place.{Place}
use Rattle.p8_tree.specs.Expressions.{Tree, node, Number, Variable}
use Rattle.p8_grammar.specs.Lexemes.{Setting, is_value, is_dat, inside, behind, Access, is_written, Mark, equal, Lexeme, string, mark, assigns, plain, token, Token}
use Rattle.p8_grammar.specs.Grammar.{word, upto, unquoted, Row, begin, ◌▹◌, Variables, a_character, variable, Prefix, prefix_of, rank, infix_of, is_boolean, is_string_alone, Reads, operand, between, assigned_by_word, Spells, nothing, a_word, a_reserved_word, an_expression, an_unquoted}
use Rattle.p8_grammar.specs.Machine.{reading, Shape, using, coloned, string_opened, string_read, becoming, Hole, first_item, Next, stays, opens, fresh, tree, target, whole_in, grow, close, on_item, Frame, prefix_frame, infix_frame, assign_frame, inside_frame, level_bound, level_bound_of, wrap, reduce, State, state, entered, entered_all, fill_hole, prefixed, operated, operate, assign, assigned, after, otherwise, beyond, in_place, go_on, first_of, loose, bare, forward, opened, moved, step, walk, all_of, accepted, accept, start, left_tree, left_variable}
use Rattle.std.proofs.lemmas.Bool.{leb-false, ltb-true, leb-true}
use Rattle.p8_grammar.specs.Grammar as grammar
use Rattle.p8_grammar.specs.Grammar.{before}
use Rattle.p8_grammar.proofs.Walks.{kept as unreduced, first_true, second_true, boolean_most}
use Rattle.p8_grammar.proofs.Settings.{clash, inside_value, behind_value, behind_same, behind_dat}
use Rattle.p8_grammar.proofs.FormsRead.{value_whole}
use Rattle.p8_grammar.proofs.FormsStand.{at_reading, ShapeStands, is_using, is_string_opened, is_string_read, string_row, HoleStands, is_parenthesis, NextStands, Written, whole_stands, target_stands, grow_stands, close_stands, item_stands, first_closed}
use Rattle.p8_grammar.proofs.Steps.{is_text, in_place_text, loose_string, prefix_loose, infix_loose, loose_mark, loose_assigns}

-- whether there is a token that is no string
abbrev pub has_word : List Token → Bool
has_word [] = false
has_word (token p (string t) ∷ ts) = has_word ts
has_word (token p x ∷ ts) = true

word_left : (ws vs : List Token) → IsTrue (has_word ws) → IsTrue (has_word (ws ++ vs))
word_left [] vs h = absurd cc
word_left (token p (string t) ∷ ws) vs h = word_left ws vs h
word_left (token p x ∷ ws) vs h = refl

word_right : (ws vs : List Token) → IsTrue (has_word vs) → IsTrue (has_word (ws ++ vs))
word_right [] vs h = h
word_right (token p (string t) ∷ ws) vs h = word_right ws vs h
word_right (token p x ∷ ws) vs h = refl

not_alone : (ts : List Token) → IsTrue (has_word ts) → IsTrue (not (is_string_alone ts))
not_alone [] h = absurd cc
not_alone (token p (string t) ∷ []) h = absurd cc
not_alone (token p (string t) ∷ u ∷ ts) h = refl
not_alone (token p x ∷ ts) h = refl

prefix_has_word : (p : Place) (x : Lexeme) (o : Prefix) → prefix_of (plain x) ≡ Some o → IsTrue (has_word (token p x ∷ []))
prefix_has_word p (string t) o h = absurd cc
prefix_has_word p x o h = refl

infix_has_word : (p : Place) (x : Lexeme) (o : ℕ × ℕ) → infix_of (plain x) ≡ Some o → IsTrue (has_word (token p x ∷ []))
infix_has_word p (string t) o h = absurd cc
infix_has_word p x o h = refl

-- the first item of STRING has such a token
abbrev pub Apart : List Frame → List Token → Type 0
Apart (inside_frame s (first_item q) ∷ k) vs = IsTrue (has_word vs)
Apart k vs = Unit {0}

apart_by : (k : List Frame) (vs : List Token) → IsTrue (has_word vs) → Apart k vs
apart_by [] vs h = tt
apart_by (prefix_frame o p ∷ k) vs h = tt
apart_by (infix_frame r c p a ∷ k) vs h = tt
apart_by (assign_frame o p v ∷ k) vs h = tt
apart_by (inside_frame s (first_item q) ∷ k) vs h = h
apart_by (inside_frame s hole ∷ k) vs h = tt

apart_more : (k : List Frame) (vs us : List Token) → Apart k vs → Apart k (vs ++ us)
apart_more [] vs us h = tt
apart_more (prefix_frame o p ∷ k) vs us h = tt
apart_more (infix_frame r c p a ∷ k) vs us h = tt
apart_more (assign_frame o p v ∷ k) vs us h = tt
apart_more (inside_frame s (first_item q) ∷ k) vs us h = word_left vs us h
apart_more (inside_frame s hole ∷ k) vs us h = tt

-- a variable with AND or OR after it, which `=` makes an assignment
pub record Becoming (s : Setting) (r c : ℕ) (p : Place) (v : Variable) (k : List Frame) (vs : List Token) : Type 0 where
  pub read : List Token
  pub row : Row
  pub x : Access
  pub w : Lexeme
  pub written : IsTrue (is_written x)
  pub stands : Variables s begin x v row
  pub spells : Spells s row read
  pub operator : infix_of (plain w) ≡ Some (suc r, c)
  pub boolean : IsTrue (is_boolean (suc r))
  pub below : 21 < level_bound_of k
  pub is : vs ≡ read ++ token p w ∷ []

abbrev pub MayBecome : Setting → Frame → List Frame → List Token → Type 0
MayBecome s (infix_frame r c p (left_variable v)) k vs = Becoming s r c p v k vs
MayBecome s f k vs = Unit {0}

-- these frames are what these tokens have begun
pub data Pending (s0 : Setting) : Setting → List Frame → List Token → Type 0 where
  nothing_pending : Pending s0 s0 [] []
  -- an assignment's setting may be another before it
  after_operator : {s t : Setting} {f : Frame} {k : List Frame} {us : List Token} (vs : List Token) (l : ℕ) → Pending s0 s k us → IsTrue (is_value t) → (level_bound f < 22 → s ≡ t) → (IsTrue (is_value s) → s ≡ t) → is_dat s ≡ is_dat t → l ≤ level_bound f → l < level_bound_of k → level_bound f ≤ 22 → IsTrue (has_word vs) → MayBecome s f k vs → ((m : ℕ) (e : Tree) (ws : List Token) → Reads t m e ws → m < level_bound f → Reads s l (wrap f e) (vs ++ ws)) → Pending s0 t (f ∷ k) (us ++ vs)
  in_hole : {s : Setting} {h : Hole} {row : Row} {k : List Frame} {us vs : List Token} → Pending s0 s k us → HoleStands s h row → Spells s row vs → Apart k vs → Pending s0 (inside s) (inside_frame s h ∷ k) (us ++ vs)
  in_first : {s : Setting} {p q : Place} {k : List Frame} {us vs : List Token} → Pending s0 s k us → IsTrue (is_value s) → Spells s (string_row p q) vs → Apart k vs → Pending s0 (inside s) (inside_frame s (first_item p) ∷ k) (us ++ vs)

-- an operand of a level, and what was begun before it
pub record Operand (s0 s : Setting) (m : ℕ) (e : Tree) (k : List Frame) (ts : List Token) : Type 0 where
  pub us : List Token
  pub vs : List Token
  pub pending : Pending s0 s k us
  pub reads : Reads s m e vs
  pub is : ts ≡ us ++ vs
  pub below : m < level_bound_of k
  pub apart : Apart k vs

-- a form that has been begun, and what was begun before it
pub record Begun (s0 s : Setting) (n : Next) (k : List Frame) (ts : List Token) : Type 0 where
  pub us : List Token
  pub vs : List Token
  pub row : Row
  pub pending : Pending s0 s k us
  pub stands : NextStands s n row
  pub spells : Spells s row vs
  pub is : ts ≡ us ++ vs
  pub apart : Apart k vs

-- an action's variable with AND or OR after it, and what was begun before them
pub record Joint (s0 s : Setting) (c : ℕ) (p : Place) (v : Variable) (k : List Frame) (ts : List Token) : Type 0 where
  pub r : ℕ
  pub us : List Token
  pub vs : List Token
  pub pending : Pending s0 s k us
  pub becoming_ : Becoming s r c p v k vs
  pub is : ts ≡ us ++ vs

abbrev pub Stands : Setting → State → List Token → Type 0
Stands s0 (state s sh k) ts = Begun s0 s (stays sh) k ts
Stands s0 (becoming s c p v k) ts = Joint s0 s c p v k ts

looser : {s : Setting} {l : ℕ} {e : Tree} {ts : List Token} → Reads s l e ts → (m : ℕ) → l ≤ m → Reads s m e ts
looser (operand f sp) m le = operand f sp
looser (before d h b r) m le = before d h (omega arith) r
looser (between x d h t b ra rb) m le = between x d h t (omega arith) ra rb
looser (grammar.assigned x b w v sp r) m le = grammar.assigned x (omega arith) w v sp r
looser (assigned_by_word x o c q b w f y v sp r) m le = assigned_by_word x o c q (omega arith) w f y v sp r

positive : (k : List Frame) → 0 < level_bound_of k
positive [] = omega arith
positive (prefix_frame o p ∷ k) = omega arith
positive (infix_frame r c p a ∷ k) = omega arith
positive (assign_frame o p v ∷ k) = omega arith
positive (inside_frame s h ∷ k) = omega arith

opened_apart : {s : Setting} {h : Hole} {row : Row} (k : List Frame) → HoleStands s h row → Apart (inside_frame s h ∷ k) []
opened_apart k (is_parenthesis d) = tt
opened_apart k h = tt

-- a form that has been begun is a state
entered_stands : (s0 s : Setting) (n : Next) (k : List Frame) (ts : List Token) → Begun s0 s n k ts → Stands s0 (entered s k n) ts
entered_stands s0 s (stays sh) k ts b = b
entered_stands s0 s (opens h) k ts b =
    record { us = b.us ++ b.vs; vs = []; row = begin; pending = in_hole b.pending b.stands b.spells b.apart; stands = is_using at_reading; spells = nothing; is = b.is ∙ sym (append-nil (b.us ++ b.vs)); apart = opened_apart k b.stands }

-- a whole form is an operand
whole_operand : (s0 s : Setting) (sh : Shape) (k : List Frame) (ts : List Token) (e : Tree) → Begun s0 s (stays sh) k ts → whole_in s sh ≡ Some e → Operand s0 s 0 e k ts
whole_operand s0 s sh k ts e b h =
    record { us = b.us; vs = b.vs; pending = b.pending; reads = operand (whole_stands b.stands e h) b.spells; is = b.is; below = positive k; apart = b.apart }

-- an operator that is ended with its operand is an operand itself
record Wrapped (s0 s : Setting) (m : ℕ) (f : Frame) (e : Tree) (k : List Frame) (ts : List Token) : Type 0 where
  l : ℕ
  le : l ≤ m
  to : Setting
  same : level_bound f < 22 → to ≡ s
  operand : Operand s0 to l (wrap f e) k ts

wrapped : {s0 s : Setting} {f : Frame} {k : List Frame} {us : List Token} → Pending s0 s (f ∷ k) us → (l m : ℕ) (e : Tree) (vs ts : List Token) → Reads s l e vs → ts ≡ us ++ vs → l < level_bound f → level_bound f ≤ m → m ≤ 22 → Wrapped s0 s m f e k ts
wrapped {k = k} (after_operator {s = s'} {us = us} ws l' p d same kept alike small low h w b g) l m e vs ts r is lt le most =
    record { l = l'; le = omega arith; to = s'; same = same; operand = record { us = us; vs = ws ++ vs; pending = p; reads = g l e vs r lt; is = is ∙ append_assoc us ws vs; below = low; apart = apart_by k (ws ++ vs) (word_left ws vs w) } }
wrapped (in_hole p h sp a) l m e vs ts r is lt le most = absurd (omega arith)
wrapped (in_first p d sp a) l m e vs ts r is lt le most = absurd (omega arith)

-- an operand in a setting that may be another where an assignment was ended
pub record Reduced (s0 s : Setting) (m : ℕ) (e : Tree) (k : List Frame) (ts : List Token) : Type 0 where
  pub to : Setting
  pub same : m < 22 → to ≡ s
  pub operand : Operand s0 to m e k ts

pub reduced : {s0 : Setting} (s : Setting) (m : ℕ) → m ≤ 22 → (k : List Frame) (l : ℕ) (e : Tree) (ts : List Token) → l ≤ m → Operand s0 s l e k ts → Reduced s0 s m (reduce m e k).0 (reduce m e k).1 ts
reduced s m small [] l e ts le o = record { to = s; same = λ lt. refl; operand = record { us = o.us; vs = o.vs; pending = o.pending; reads = looser o.reads m le; is = o.is; below = omega arith; apart = tt } }
reduced {s0 = s0} s m small (f ∷ k) l e ts le o = go (λ s' l' e' h o'. reduced s' m small k l' e' ts h o') (nat_le (level_bound f) m) refl
  where
    go : ((s' : Setting) (l' : ℕ) (e' : Tree) → l' ≤ m → Operand s0 s' l' e' k ts → Reduced s0 s' m (reduce m e' k).0 (reduce m e' k).1 ts) → (b : Bool) → nat_le (level_bound f) m ≡ b → Reduced s0 s m (if b then reduce m (wrap f e) k else (e, f ∷ k)).0 (if b then reduce m (wrap f e) k else (e, f ∷ k)).1 ts
    go ih true h =
        let at : level_bound f ≤ m = leb-true (level_bound f) m h in
        let w = wrapped o.pending l m e o.vs ts o.reads o.is o.below at small in
        let r = ih w.to w.l (wrap f e) w.le w.operand in
        record { to = r.to; same = λ lt. r.same lt ∙ w.same (omega (arith, at, lt)); operand = r.operand }
    go ih false h = record { to = s; same = λ lt. refl; operand = record { us = o.us; vs = o.vs; pending = o.pending; reads = looser o.reads m le; is = o.is; below = leb-false (level_bound f) m h; apart = o.apart } }

-- nothing is begun before an action
no_frames : {s0 s : Setting} {k : List Frame} {us : List Token} → Pending s0 s k us → IsTrue (not (is_value s)) → k ≡ []
no_frames nothing_pending d = refl
no_frames (after_operator {t = t} vs l p v same kept alike small low h w b g) d = absurd (clash t v d)
no_frames (in_hole {s = s} p h sp a) d = absurd (clash (inside s) (inside_value s) d)
no_frames (in_first {s = s} p v sp a) d = absurd (clash (inside s) (inside_value s) d)

same_some : (x y : State) → Some x ≡ Some y → x ≡ y
same_some x y h = cc

arrived : (s0 : Setting) (ts : List Token) (x y : State) → Some x ≡ Some y → Stands s0 x ts → Stands s0 y ts
arrived s0 ts x y h st = subst (λ x. Stands s0 x ts) (same_some x y h) st

-- a fresh operand after frames
fresh_stands : (s0 s : Setting) (k : List Frame) (ts : List Token) → Apart k [] → Pending s0 s k ts → Stands s0 (state s fresh k) ts
fresh_stands s0 s k ts apart p = record { us = ts; vs = []; row = begin; pending = p; stands = is_using at_reading; spells = nothing; is = sym (append-nil ts); apart = apart }

-- one word more of the form
grown : (s0 s : Setting) (sh : Shape) (k : List Frame) (ts : List Token) (p : Place) (x : Lexeme) (n : Next) (st : State) → Begun s0 s (stays sh) k ts → grow s sh p (bare sh x) ≡ Some n → Some (entered s k n) ≡ Some st → Stands s0 st (ts ++ token p x ∷ [])
grown s0 s sh k ts p x n st b h is =
    let g = grow_stands b.stands p x n h in
    arrived s0 _ _ _ is (entered_stands s0 s n k _ (record {
      us = b.us;
      vs = b.vs ++ token p x ∷ [];
      row = b.row ▹ word p g.is;
      pending = b.pending;
      stands = g.stands;
      spells = g.spells b.spells;
      is = ap (λ l. l ++ token p x ∷ []) b.is ∙ append_assoc b.us b.vs (token p x ∷ []);
      apart = apart_more k b.vs (token p x ∷ []) b.apart;
    }))

at_most : {s0 s : Setting} {k : List Frame} {us : List Token} → Pending s0 s k us → level_bound_of k ≤ 23
at_most nothing_pending = omega arith
at_most (after_operator vs l p d same kept alike small low h w b g) = omega arith
at_most (in_hole p h sp a) = omega arith
at_most (in_first p d sp a) = omega arith

-- a prefix operator
prefixed_stands : (s0 s : Setting) (k : List Frame) (ts us : List Token) (p : Place) (x : Lexeme) (o : Option Prefix) (st : State) → Pending s0 s k us → ts ≡ us → prefix_of (plain x) ≡ o → prefixed s o p k ≡ Some st → Stands s0 st (ts ++ token p x ∷ [])
prefixed_stands s0 s k ts us p x None st pend is h e = absurd cc
prefixed_stands s0 s k ts us p x (Some o) st pend is h e = go (is_value s && nat_lt (2 * rank o + 1) (level_bound_of k)) refl e
  where
    go : (b : Bool) → (is_value s && nat_lt (2 * rank o + 1) (level_bound_of k)) ≡ b → (if b then Some (state s fresh (prefix_frame o p ∷ k)) else None) ≡ Some st → Stands s0 st (ts ++ token p x ∷ [])
    go false b e = absurd cc
    go true b e =
        let low : 2 * rank o + 1 < level_bound_of k = ltb-true _ _ (second_true (is_value s) (nat_lt (2 * rank o + 1) (level_bound_of k)) b) in
        let d : IsTrue (is_value s) = first_true (is_value s) (nat_lt (2 * rank o + 1) (level_bound_of k)) b in
        let most = at_most pend in
        arrived s0 _ _ _ e (subst (λ l. Stands s0 (state s fresh (prefix_frame o p ∷ k)) (l ++ token p x ∷ [])) (sym is) (fresh_stands s0 s (prefix_frame o p ∷ k) (us ++ token p x ∷ []) tt
        (after_operator {f = prefix_frame o p} (token p x ∷ []) (2 * rank o + 1) pend d (λ lt. refl) (λ v. refl) refl (omega arith) low (omega (arith, low, most)) (prefix_has_word p x o h) tt (λ m e ws r lt. before d h (omega arith) (looser r (2 * rank o + 1) (omega arith))))))

none_spelled : {s : Setting} {vs : List Token} → Spells s begin vs → vs ≡ []
none_spelled nothing = refl

-- an operator that can't be assigned
plainly_operated : (s0 s : Setting) (k : List Frame) (e : Tree) (ts : List Token) (p : Place) (x : Lexeme) (r c : ℕ) (st : State) → (IsTrue (is_value s) → Operand s0 s 0 e k ts) → infix_of (plain x) ≡ Some (suc r, c) → operated s None r c p e k ≡ Some st → Stands s0 st (ts ++ token p x ∷ [])
plainly_operated s0 s k e ts p x r c st o h is = go (is_value s && nat_lt r 10) refl is
  where
    go : (b : Bool) → (is_value s && nat_lt r 10) ≡ b → (if b then (let y = reduce (2 * suc r) e k in Some (state s fresh (infix_frame r c p (left_tree y.0) ∷ y.1))) else None) ≡ Some st → Stands s0 st (ts ++ token p x ∷ [])
    go false b is = absurd cc
    go true b is =
        let small : r < 10 = ltb-true _ _ (second_true (is_value s) (nat_lt r 10) b) in
        let d : IsTrue (is_value s) = first_true (is_value s) (nat_lt r 10) b in
        let red = reduced s (2 * suc r) (omega (arith, small)) k 0 e ts (omega arith) (o d) in
        let y : Operand s0 s (2 * suc r) (reduce (2 * suc r) e k).0 (reduce (2 * suc r) e k).1 ts = subst (λ t. Operand s0 t (2 * suc r) (reduce (2 * suc r) e k).0 (reduce (2 * suc r) e k).1 ts) (red.same (omega (arith, small))) red.operand in
        let top : Tree = (reduce (2 * suc r) e k).0 in
        let rest : List Frame = (reduce (2 * suc r) e k).1 in
        arrived s0 _ _ _ is (subst (Stands s0 (state s fresh (infix_frame r c p (left_tree top) ∷ rest))) (sym (ap (λ l. l ++ token p x ∷ []) y.is ∙ append_assoc y.us y.vs (token p x ∷ [])))
        (fresh_stands s0 s (infix_frame r c p (left_tree top) ∷ rest) (y.us ++ (y.vs ++ token p x ∷ [])) tt
        (after_operator {f = infix_frame r c p (left_tree top)} (y.vs ++ token p x ∷ []) (2 * suc r) y.pending d (λ lt. refl) (λ v. refl) refl (omega arith) y.below (omega (arith, small)) (word_right y.vs (token p x ∷ []) (infix_has_word p x (suc r, c) h)) tt
        (λ m e ws rd lt. subst (Reads s (2 * suc r) _) (sym (append_assoc y.vs (token p x ∷ []) ws)) (between x d h small (omega arith) y.reads (looser rd (2 * r + 1) (omega arith)))))))

-- AND or OR after a variable that may be assigned
variable_operated : (s0 s : Setting) (sh : Shape) (k : List Frame) (e : Tree) (ts : List Token) (p : Place) (x : Lexeme) (r c : ℕ) (v : Variable) (st : State) → Begun s0 s (stays sh) k ts → infix_of (plain x) ≡ Some (suc r, c) → target sh ≡ Some v → IsTrue (is_boolean (suc r)) → 21 < level_bound_of k → operated s (Some v) r c p e k ≡ Some st → Stands s0 st (ts ++ token p x ∷ [])
variable_operated s0 s sh k e ts p x r c v st b f t boolean low is = go (is_value s) refl is
  where
    w : Written s v b.row
    w = target_stands b.stands v t

    becoming_ : Becoming s r c p v k (b.vs ++ token p x ∷ [])
    becoming_ = record { read = b.vs; row = b.row; x = w.x; w = x; written = w.written; stands = w.variable; spells = b.spells; operator = f; boolean = boolean; below = low; is = refl }

    tokens : ts ++ token p x ∷ [] ≡ b.us ++ (b.vs ++ token p x ∷ [])
    tokens = ap (λ l. l ++ token p x ∷ []) b.is ∙ append_assoc b.us b.vs (token p x ∷ [])

    go : (a : Bool) → is_value s ≡ a → Some (if a then state s fresh (infix_frame r c p (left_variable v) ∷ k) else becoming s c p v k) ≡ Some st → Stands s0 st (ts ++ token p x ∷ [])
    go false d is = arrived s0 _ (becoming s c p v k) st is (record { r = r; us = b.us; vs = b.vs ++ token p x ∷ []; pending = b.pending; becoming_ = becoming_; is = tokens })
    go true d is =
        let most : suc r ≤ 10 = boolean_most (suc r) boolean in
        arrived s0 _ _ _ is (subst (Stands s0 (state s fresh (infix_frame r c p (left_variable v) ∷ k))) (sym tokens)
        (fresh_stands s0 s (infix_frame r c p (left_variable v) ∷ k) (b.us ++ (b.vs ++ token p x ∷ [])) tt
        (after_operator {f = infix_frame r c p (left_variable v)} (b.vs ++ token p x ∷ []) (2 * suc r) b.pending d (λ lt. refl) (λ v. refl) refl (omega arith) (omega (arith, most, low)) (omega (arith, most)) (word_right b.vs (token p x ∷ []) (infix_has_word p x (suc r, c) f)) becoming_
        (λ m e' ws rd lt. subst (Reads s (2 * suc r) _) (sym (append_assoc b.vs (token p x ∷ []) ws)) (between x d f (omega (arith, most)) (omega arith) (operand (variable d w.variable) b.spells) (looser rd (2 * r + 1) (omega arith)))))))

-- an operator between operands
operate_stands : (s0 s : Setting) (sh : Shape) (k : List Frame) (e : Tree) (ts : List Token) (p : Place) (x : Lexeme) (o : Option (ℕ × ℕ)) (st : State) → Begun s0 s (stays sh) k ts → tree sh ≡ Some e → infix_of (plain x) ≡ o → operate s (target sh) o p e k ≡ Some st → Stands s0 st (ts ++ token p x ∷ [])
operate_stands s0 s sh k e ts p x None st b h f is = absurd cc
operate_stands s0 s sh k e ts p x (Some (zero, c)) st b h f is = absurd cc
operate_stands s0 s sh k e ts p x (Some (suc r, c)) st b h f is = go (is_boolean (suc r) && nat_lt 21 (level_bound_of k)) refl (target sh) refl is
  where
    plainly : operated s None r c p e k ≡ Some st → Stands s0 st (ts ++ token p x ∷ [])
    plainly is = plainly_operated s0 s k e ts p x r c st (λ d. whole_operand s0 s sh k ts e b (value_whole s sh d ∙ h)) f is

    go : (a : Bool) → (is_boolean (suc r) && nat_lt 21 (level_bound_of k)) ≡ a → (t : Option Variable) → target sh ≡ t → operated s (if a then t else None) r c p e k ≡ Some st → Stands s0 st (ts ++ token p x ∷ [])
    go false y t w is = plainly is
    go true y None w is = plainly is
    go true y (Some v) w is = variable_operated s0 s sh k e ts p x r c v st b f w (first_true (is_boolean (suc r)) (nat_lt 21 (level_bound_of k)) y) (ltb-true 21 (level_bound_of k) (second_true (is_boolean (suc r)) (nat_lt 21 (level_bound_of k)) y)) is

-- what an assignment by AND or OR has begun
pub becomes : (s0 s : Setting) (r c : ℕ) (p q : Place) (v : Variable) (k : List Frame) (us vs : List Token) → Pending s0 s k us → Becoming s r c p v k vs → Begun s0 (behind s) (stays fresh) (assign_frame (Some c) p v ∷ k) (us ++ (vs ++ token q (mark equal) ∷ []))
becomes s0 s r c p q v k us vs pend b =
    let z = token q (mark equal) in
    let w = token p b.w in
    let two : vs ++ z ∷ [] ≡ b.read ++ w ∷ z ∷ [] = ap (λ l. l ++ z ∷ []) b.is ∙ append_assoc b.read (w ∷ []) (z ∷ []) in
    subst (λ l. Begun s0 (behind s) (stays fresh) (assign_frame (Some c) p v ∷ k) (us ++ l)) (sym two)
    (fresh_stands s0 (behind s) (assign_frame (Some c) p v ∷ k) (us ++ (b.read ++ w ∷ z ∷ [])) tt
    (after_operator {f = assign_frame (Some c) p v} (b.read ++ w ∷ z ∷ []) 21 pend (behind_value s) (λ lt. absurd (omega arith)) (λ v. sym (behind_same s v)) (sym (behind_dat s)) (omega arith) b.below (omega arith) (word_right b.read (w ∷ z ∷ []) (word_right (w ∷ []) (z ∷ []) refl)) tt
    (λ m e ws rd lt. subst (Reads s 21 _) (sym (append_assoc b.read (w ∷ z ∷ []) ws)) (assigned_by_word b.x b.w (suc r) q (omega arith) b.written b.operator b.boolean b.stands b.spells (looser rd 21 (omega arith))))))

-- `=` after AND or OR
equal_stands : (s0 s : Setting) (k : List Frame) (ts us : List Token) (q : Place) (st : State) → Pending s0 s k us → ts ≡ us → assigned s k ≡ Some st → Stands s0 st (ts ++ token q (mark equal) ∷ [])
equal_stands s0 s k ts us q st (after_operator {s = s'} {f = infix_frame r c p (left_variable v)} {k = k'} {us = us'} vs l pend d same kept alike small low h w b g) is e =
    let most : suc r ≤ 10 = boolean_most (suc r) b.boolean in
    let y = becomes s0 s' r c p q v k' us' vs pend b in
    arrived s0 _ _ _ e (subst (λ l. Begun s0 (behind s) (stays fresh) (assign_frame (Some c) p v ∷ k') l) (sym (ap (λ l. l ++ token q (mark equal) ∷ []) is ∙ append_assoc us' vs (token q (mark equal) ∷ [])))
    (subst (λ s. Begun s0 (behind s) (stays fresh) (assign_frame (Some c) p v ∷ k') (us' ++ (vs ++ token q (mark equal) ∷ []))) (same (omega (arith, most))) y))
equal_stands s0 s k ts us q st pend is e = absurd cc

-- an assignment
assign_stands : (s0 s : Setting) (sh : Shape) (k : List Frame) (ts : List Token) (p : Place) (o : Option ℕ) (st : State) → Begun s0 s (stays sh) k ts → (t : Option Variable) → target sh ≡ t → assign s t o p k ≡ Some st → Stands s0 st (ts ++ token p (assigns o) ∷ [])
assign_stands s0 s sh k ts p o st b None h e = absurd cc
assign_stands s0 s sh k ts p o st b (Some v) h e = go (nat_lt 21 (level_bound_of k)) refl e
  where
    go : (c : Bool) → nat_lt 21 (level_bound_of k) ≡ c → (if c then Some (state (behind s) fresh (assign_frame o p v ∷ k)) else None) ≡ Some st → Stands s0 st (ts ++ token p (assigns o) ∷ [])
    go false c e = absurd cc
    go true c e =
        let w = target_stands b.stands v h in
        arrived s0 _ _ _ e (subst (Stands s0 (state (behind s) fresh (assign_frame o p v ∷ k))) (sym (ap (λ l. l ++ token p (assigns o) ∷ []) b.is ∙ append_assoc b.us b.vs (token p (assigns o) ∷ [])))
        (fresh_stands s0 (behind s) (assign_frame o p v ∷ k) (b.us ++ (b.vs ++ token p (assigns o) ∷ [])) tt
        (after_operator {f = assign_frame o p v} (b.vs ++ token p (assigns o) ∷ []) 21 b.pending (behind_value s) (λ lt. absurd (omega arith)) (λ v. sym (behind_same s v)) (sym (behind_dat s)) (omega arith) (ltb-true _ _ c) (omega arith) (word_right b.vs (token p (assigns o) ∷ []) refl) tt
        (λ m e ws r lt. subst (Reads s 21 _) (sym (append_assoc b.vs (token p (assigns o) ∷ []) ws)) (grammar.assigned w.x (omega arith) w.written w.variable b.spells (looser r 21 (omega arith)))))))

-- a mark that ends an expression
fill_hole_stands : (s0 : Setting) (m : Mark) (p : Place) (k : List Frame) (s : Setting) (e : Tree) (ts : List Token) (st : State) → Operand s0 s 22 e k ts → fill_hole m e k ≡ Some st → Stands s0 st (ts ++ token p (mark m) ∷ [])
fill_hole_stands s0 m p [] s e ts st o h = absurd cc
fill_hole_stands s0 m p (prefix_frame x q ∷ k) s e ts st o h = absurd cc
fill_hole_stands s0 m p (infix_frame r c q a ∷ k) s e ts st o h = absurd cc
fill_hole_stands s0 m p (assign_frame x q v ∷ k) s e ts st o h = absurd cc
fill_hole_stands s0 m p (inside_frame s' hole ∷ k) s e ts st o h = go o.pending o.reads o.is o.apart (close m hole e) refl h
  where
    go : {hole : Hole} {s : Setting} {us : List Token} → Pending s0 s (inside_frame s' hole ∷ k) us → Reads s 22 e o.vs → ts ≡ us ++ o.vs → Apart (inside_frame s' hole ∷ k) o.vs → (n : Option Next) → close m hole e ≡ n → entered_all s' k n ≡ Some st → Stands s0 st (ts ++ token p (mark m) ∷ [])
    go pend r is a None eq h = absurd cc
    go (after_operator vs l pend d same kept alike small low b w y g) r is a (Some n) eq h = absurd (omega arith)
    go (in_first {p = q} {q = q'} {us = us} {vs = vs} pend d sp prior) r is a (Some n) eq h =
        arrived s0 _ _ _ h (entered_stands s0 s' n k _ (record {
          us = us;
          vs = vs ++ (o.vs ++ token p (mark m) ∷ []);
          row = string_row q q' ▹ unquoted e m;
          pending = pend;
          stands = first_closed s' d q q' m e n eq;
          spells = an_unquoted p sp r (not_alone o.vs a);
          is = ap (λ l. l ++ token p (mark m) ∷ []) is ∙ append_assoc (us ++ vs) o.vs (token p (mark m) ∷ []) ∙ append_assoc us vs (o.vs ++ token p (mark m) ∷ []);
          apart = apart_more k vs (o.vs ++ token p (mark m) ∷ []) prior;
        }))
    go (in_hole {row = row} {us = us} {vs = vs} pend stands sp prior) r is a (Some n) eq h =
        arrived s0 _ _ _ h (entered_stands s0 s' n k _ (record {
          us = us;
          vs = vs ++ (o.vs ++ token p (mark m) ∷ []);
          row = row ▹ upto e m;
          pending = pend;
          stands = close_stands stands m e n eq;
          spells = an_expression p sp r;
          is = ap (λ l. l ++ token p (mark m) ∷ []) is ∙ append_assoc (us ++ vs) o.vs (token p (mark m) ∷ []) ∙ append_assoc us vs (o.vs ++ token p (mark m) ∷ []);
          apart = apart_more k vs (o.vs ++ token p (mark m) ∷ []) prior;
        }))

-- a mark after a whole form: an action is in no brackets
marked_stands : (s0 s : Setting) (sh : Shape) (k : List Frame) (e : Tree) (ts : List Token) (p : Place) (m : Mark) (st : State) → Begun s0 s (stays sh) k ts → tree sh ≡ Some e → fill_hole m (reduce 22 e k).0 (reduce 22 e k).1 ≡ Some st → Stands s0 st (ts ++ token p (mark m) ∷ [])
marked_stands s0 s sh k e ts p m st b t h = go (is_value s) refl
  where
    go : (c : Bool) → is_value s ≡ c → Stands s0 st (ts ++ token p (mark m) ∷ [])
    go true d = let r = reduced s 22 (omega arith) k 0 e ts (omega arith) (whole_operand s0 s sh k ts e b (value_whole s sh d ∙ t)) in fill_hole_stands s0 m p (reduce 22 e k).1 r.to (reduce 22 e k).0 ts st r.operand h
    go false d = let none : fill_hole m (reduce 22 e []).0 (reduce 22 e []).1 ≡ Some st = subst (λ k. fill_hole m (reduce 22 e k).0 (reduce 22 e k).1 ≡ Some st) (no_frames b.pending (ap not d)) h in absurd cc

uncoloned : (sh : Shape) (x : Lexeme) (e : Tree) → tree sh ≡ Some e → bare sh x ≡ loose x
uncoloned (coloned u q) x e t = absurd cc
uncoloned sh x e t = refl

-- a word after a whole form that is no part of it
after_stands : (s0 s : Setting) (sh : Shape) (k : List Frame) (e : Tree) (ts : List Token) (p : Place) (x : Lexeme) (st : State) → Begun s0 s (stays sh) k ts → tree sh ≡ Some e → after s sh e k p (bare sh x) ≡ Some st → Stands s0 st (ts ++ token p x ∷ [])
after_stands s0 s sh k e ts p x st b t h = by_word (loose x) refl (ap (after s sh e k p) (sym (uncoloned sh x e t)) ∙ h)
  where
    moved_to : (y : Lexeme) → x ≡ y → Stands s0 st (ts ++ token p y ∷ []) → Stands s0 st (ts ++ token p x ∷ [])
    moved_to y e st' = subst (λ x. Stands s0 st (ts ++ token p x ∷ [])) (sym e) st'

    by_word : (y : Lexeme) → loose x ≡ y → after s sh e k p y ≡ Some st → Stands s0 st (ts ++ token p x ∷ [])
    by_word (mark m) eq h = moved_to (mark m) (loose_mark x m eq) (marked_stands s0 s sh k e ts p m st b t h)
    by_word (assigns o) eq h = moved_to (assigns o) (loose_assigns x o eq) (assign_stands s0 s sh k ts p o st b (target sh) refl h)
    by_word y eq h = operate_stands s0 s sh k e ts p x (infix_of y) st b t (infix_loose x ∙ ap infix_of eq) h

-- a string of several characters where an expression comes next
item_in_stands : (s0 s : Setting) (k : List Frame) (ts us : List Token) (p : Place) (t : List ℕ) (st : State) → Pending s0 s k us → ts ≡ us → in_place (string t) fresh k p ≡ Some st → Stands s0 st (ts ++ token p (string t) ∷ [])
item_in_stands s0 s [] ts us p t st pend is h = absurd cc
item_in_stands s0 s (prefix_frame o q ∷ k) ts us p t st pend is h = absurd cc
item_in_stands s0 s (infix_frame r c q a ∷ k) ts us p t st pend is h = absurd cc
item_in_stands s0 s (assign_frame o q v ∷ k) ts us p t st pend is h = absurd cc
item_in_stands s0 s (inside_frame s' hole ∷ k) ts us p t st pend is h = go pend is (on_item p t hole) refl h
  where
    go : {hole : Hole} {s : Setting} {us : List Token} → Pending s0 s (inside_frame s' hole ∷ k) us → ts ≡ us → (n : Option Next) → on_item p t hole ≡ n → entered_all s' k n ≡ Some st → Stands s0 st (ts ++ token p (string t) ∷ [])
    go pend is None eq h = absurd cc
    go (after_operator vs l pend d same kept alike small low b w y g) is (Some n) eq h = absurd (omega arith)
    go (in_first pend d sp prior) is (Some n) eq h = absurd (no_first _ t eq)
      where
        no_first : (q : Place) (t : List ℕ) → on_item p t (first_item q) ≡ Some n → ⊥
        no_first q [] h = cc
        no_first q (c ∷ []) h = cc
        no_first q (c ∷ d ∷ t) h = cc
    go (in_hole {row = row} {us = us} {vs = vs} pend stands sp prior) is (Some n) eq h =
        arrived s0 _ _ _ h (entered_stands s0 s' n k _ (record {
          us = us;
          vs = vs ++ token p (string t) ∷ [];
          row = row ▹ word p (string t);
          pending = pend;
          stands = item_stands stands p t n eq;
          spells = a_word sp;
          is = ap (λ l. l ++ token p (string t) ∷ []) is ∙ append_assoc us vs (token p (string t) ∷ []);
          apart = apart_more k vs (token p (string t) ∷ []) prior;
        }))

-- no form is begun, where nothing of an operand has been read
unbegun : (s0 s : Setting) (k : List Frame) (ts : List Token) → (b : Begun s0 s (stays fresh) k ts) → ts ≡ b.us
unbegun s0 s k ts b = go b.stands b.spells b.is
  where
    go : {row : Row} {vs : List Token} → ShapeStands s fresh row → Spells s row vs → ts ≡ b.us ++ vs → ts ≡ b.us
    go (is_using at_reading) sp is = is ∙ ap (λ l. b.us ++ l) (none_spelled sp) ∙ append-nil b.us

word_before : (vs : List Token) (p : Place) (t : List ℕ) → IsTrue (has_word (vs ++ token p (string t) ∷ [])) → IsTrue (has_word vs)
word_before [] p t h = h
word_before (token q (string u) ∷ vs) p t h = word_before vs p t h
word_before (token q x ∷ vs) p t h = refl

apart_before : (k : List Frame) (vs : List Token) (p : Place) (t : List ℕ) → Apart k (vs ++ token p (string t) ∷ []) → Apart k vs
apart_before [] vs p t h = tt
apart_before (prefix_frame o q ∷ k) vs p t h = tt
apart_before (infix_frame r c q a ∷ k) vs p t h = tt
apart_before (assign_frame o q v ∷ k) vs p t h = tt
apart_before (inside_frame s (first_item q) ∷ k) vs p t h = word_before vs p t h
apart_before (inside_frame s hole ∷ k) vs p t h = tt

-- an operator after the string that the first item of STRING begins with
second_word_stands : (s0 s : Setting) (q r : Place) (c : ℕ) (k : List Frame) (ts : List Token) (p : Place) (x : Lexeme) (st : State) → Begun s0 s (stays (string_read q r (c ∷ []))) k ts → operate (inside s) None (infix_of (loose x)) p (node r (Number c)) (inside_frame s (first_item q) ∷ k) ≡ Some st → Stands s0 st (ts ++ token p x ∷ [])
second_word_stands s0 s q r c k ts p x st b h = go b.stands b.spells b.is b.apart
  where
    first : List Frame
    first = inside_frame s (first_item q) ∷ k

    letter : Token
    letter = token r (string (c ∷ []))

    left : Tree
    left = node r (Number c)

    operated_first : {us : List Token} → Pending s0 (inside s) first us → ts ≡ us ++ letter ∷ [] → (o : Option (ℕ × ℕ)) → infix_of (plain x) ≡ o → operate (inside s) None o p left first ≡ Some st → Stands s0 st (ts ++ token p x ∷ [])
    operated_first pend is None eq h = absurd cc
    operated_first pend is (Some (zero, j)) eq h = absurd cc
    operated_first {us = us} pend is (Some (suc l, j)) eq h = by_test (is_value (inside s) && nat_lt l 10) refl (sym (ap (λ w. operated (inside s) w l j p left first) (nothing_assigned (is_boolean (suc l) && nat_lt 21 (level_bound_of first)) None refl)) ∙ h)
      where
        nothing_assigned : (b : Bool) (o : Option Variable) → o ≡ None → (if b then o else None) ≡ None
        nothing_assigned true o e = e
        nothing_assigned false o e = refl

        by_test : (b : Bool) → (is_value (inside s) && nat_lt l 10) ≡ b → (if b then (let y = reduce (2 * suc l) left first in Some (state (inside s) fresh (infix_frame l j p (left_tree y.0) ∷ y.1))) else None) ≡ Some st → Stands s0 st (ts ++ token p x ∷ [])
        by_test false y h = absurd cc
        by_test true y h =
            let small : l < 10 = ltb-true _ _ (second_true (is_value (inside s)) (nat_lt l 10) y) in
            let v = inside_value s in
            arrived s0 _ _ _ (ap (λ y. Some (state (inside s) fresh (infix_frame l j p (left_tree y.0) ∷ y.1))) (sym (unreduced (2 * suc l) left first (omega (arith, small)))) ∙ h)
            (subst (Stands s0 (state (inside s) fresh (infix_frame l j p (left_tree left) ∷ first))) (sym (ap (λ l. l ++ token p x ∷ []) is ∙ append_assoc us (letter ∷ []) (token p x ∷ [])))
            (fresh_stands s0 (inside s) (infix_frame l j p (left_tree left) ∷ first) (us ++ (letter ∷ token p x ∷ [])) tt
            (after_operator {f = infix_frame l j p (left_tree left)} (letter ∷ token p x ∷ []) (2 * suc l) pend v (λ lt. refl) (λ v. refl) refl (omega arith) (omega (arith, small)) (omega (arith, small)) (infix_has_word p x (suc l, j) eq) tt
            (λ m e ws rd lt. between x v eq small (omega arith) (operand (a_character v) (a_word nothing)) (looser rd (2 * l + 1) (omega arith))))))

    go : {row : Row} {vs : List Token} → ShapeStands s (string_read q r (c ∷ [])) row → Spells s row vs → ts ≡ b.us ++ vs → Apart k vs → Stands s0 st (ts ++ token p x ∷ [])
    go (is_string_read d) (a_word {ts = vs} sp) is apart =
        operated_first (in_first b.pending d sp (apart_before k vs r (c ∷ []) apart)) (is ∙ sym (append_assoc b.us vs (letter ∷ []))) (infix_of (plain x)) refl (ap (λ o. operate (inside s) None o p left first) (infix_loose x) ∙ h)
    go (is_string_read d) (a_reserved_word n f sp) is apart = absurd cc

-- a word that is no part of a form which isn't whole
otherwise_stands : (s0 s : Setting) (sh : Shape) (k : List Frame) (ts : List Token) (p : Place) (x : Lexeme) (st : State) → Begun s0 s (stays sh) k ts → otherwise s sh k p (bare sh x) ≡ Some st → Stands s0 st (ts ++ token p x ∷ [])
otherwise_stands s0 s (using reading) k ts p x st b h = by_word (loose x) refl h
  where
    by_word : (y : Lexeme) → loose x ≡ y → otherwise s fresh k p y ≡ Some st → Stands s0 st (ts ++ token p x ∷ [])
    by_word (mark equal) e h = subst (λ x. Stands s0 st (ts ++ token p x ∷ [])) (sym (loose_mark x equal e)) (equal_stands s0 s k ts b.us p st b.pending (unbegun s0 s k ts b) h)
    by_word y e h = prefixed_stands s0 s k ts b.us p x (prefix_of y) st b.pending (unbegun s0 s k ts b) (prefix_loose x ∙ ap prefix_of e) h
otherwise_stands s0 s (string_read q r (c ∷ [])) k ts p x st b h = second_word_stands s0 s q r c k ts p x st b h
otherwise_stands s0 s sh k ts p x st b h = absurd cc

-- a string in place of an expression
text_stands : (s0 s : Setting) (sh : Shape) (k : List Frame) (p : Place) (x : Lexeme) (ts : List Token) (st : State) → Begun s0 s (stays sh) k ts → in_place (bare sh x) sh k p ≡ Some st → Stands s0 st (ts ++ token p x ∷ [])
text_stands s0 s sh k p x ts st b h =
    let y = in_place_text (bare sh x) sh k p st h in
    let t = y.0 in
    let b' : Begun s0 s (stays fresh) k ts = subst (λ sh. Begun s0 s (stays sh) k ts) y.2 b in
    let word_is : x ≡ string t = loose_string x t (sym (ap (λ sh. bare sh x) y.2) ∙ y.1) in
    subst (λ x. Stands s0 st (ts ++ token p x ∷ [])) (sym word_is) (item_in_stands s0 s k ts b'.us p t st b'.pending (unbegun s0 s k ts b') (sym (λ i. in_place (y.1 i) (y.2 i) k p) ∙ h))

-- one word more
forward_stands : (s0 s : Setting) (sh : Shape) (k : List Frame) (p : Place) (x : Lexeme) (ts : List Token) (st : State) → Begun s0 s (stays sh) k ts → forward s sh k p (bare sh x) ≡ Some st → Stands s0 st (ts ++ token p x ∷ [])
forward_stands s0 s sh k p x ts st b h = replaced (in_place (bare sh x) sh k p) refl h
  where
    onward : (o : Option Next) → grow s sh p (bare sh x) ≡ o → go_on o s sh k p (bare sh x) ≡ Some st → Stands s0 st (ts ++ token p x ∷ [])
    onward (Some n) e h = grown s0 s sh k ts p x n st b e h
    onward None e h = by_tree (tree sh) refl h
      where
        by_tree : (o : Option Tree) → tree sh ≡ o → beyond o s sh k p (bare sh x) ≡ Some st → Stands s0 st (ts ++ token p x ∷ [])
        by_tree None t h = otherwise_stands s0 s sh k ts p x st b h
        by_tree (Some e) t h = after_stands s0 s sh k e ts p x st b t h

    replaced : (o : Option State) → in_place (bare sh x) sh k p ≡ o → first_of o (go_on (grow s sh p (bare sh x)) s sh k p (bare sh x)) ≡ Some st → Stands s0 st (ts ++ token p x ∷ [])
    replaced None e h = onward (grow s sh p (bare sh x)) refl h
    replaced (Some st') e h = let same : st' ≡ st = cc in text_stands s0 s sh k p x ts st b (e ∙ ap Some same)

-- where the first item of STRING comes, what is no string begins an expression
first_word_stands : (s0 s : Setting) (q : Place) (k : List Frame) (ts : List Token) (p : Place) (x : Lexeme) (st : State) → Pending s0 (inside s) (inside_frame s (first_item q) ∷ k) ts → is_text (loose x) ≡ false → forward (inside s) fresh (inside_frame s (first_item q) ∷ k) p (loose x) ≡ Some st → Stands s0 st (ts ++ token p x ∷ [])
first_word_stands s0 s q k ts p x st pend e h =
    onward (grow (inside s) fresh p (loose x)) refl (sym (ap (λ o. first_of o (go_on (grow (inside s) fresh p (loose x)) (inside s) fresh first p (loose x))) (no_text (loose x) e)) ∙ h)
  where
    first : List Frame
    first = inside_frame s (first_item q) ∷ k

    no_text : (y : Lexeme) → is_text y ≡ false → in_place y fresh first p ≡ None
    no_text (string t) h = absurd cc
    no_text y h = refl

    a_word_is : (x : Lexeme) → is_text (loose x) ≡ false → IsTrue (has_word (token p x ∷ []))
    a_word_is (string t) h = absurd cc
    a_word_is x h = refl

    by_word : (y : Lexeme) → loose x ≡ y → otherwise (inside s) fresh first p y ≡ Some st → Stands s0 st (ts ++ token p x ∷ [])
    by_word (mark equal) e h = absurd cc
    by_word y e h = prefixed_stands s0 (inside s) first ts ts p x (prefix_of y) st pend refl (prefix_loose x ∙ ap prefix_of e) h

    onward : (n : Option Next) → grow (inside s) fresh p (loose x) ≡ n → go_on n (inside s) fresh first p (loose x) ≡ Some st → Stands s0 st (ts ++ token p x ∷ [])
    onward None eq h = by_word (loose x) refl h
    onward (Some n) eq h =
        let g = grow_stands (is_using at_reading) p x n eq in
        arrived s0 _ _ _ h (entered_stands s0 (inside s) n first _ (record {
          us = ts;
          vs = token p x ∷ [];
          row = begin ▹ word p g.is;
          pending = pend;
          stands = g.stands;
          spells = g.spells nothing;
          is = refl;
          apart = a_word_is x e;
        }))

opened_stands : (s0 s : Setting) (q : Place) (k : List Frame) (p : Place) (x : Lexeme) (ts : List Token) (st : State) → Begun s0 s (stays (string_opened q)) k ts → opened s q k p (loose x) ≡ Some st → Stands s0 st (ts ++ token p x ∷ [])
opened_stands s0 s q k p x ts st b h = go b.stands b.spells b.is b.apart (is_text (loose x)) refl
  where
    first : List Frame
    first = inside_frame s (first_item q) ∷ k

    other_word : (y : Lexeme) → is_text y ≡ false → opened s q k p y ≡ forward (inside s) fresh first p y
    other_word (string t) h = absurd cc
    other_word y h = refl

    text_word : (y : Lexeme) → is_text y ≡ true → opened s q k p y ≡ forward s (string_opened q) k p y
    text_word (string t) h = refl
    text_word y h = absurd cc

    go : {row : Row} {vs : List Token} → ShapeStands s (string_opened q) row → Spells s row vs → ts ≡ b.us ++ vs → Apart k vs → (t : Bool) → is_text (loose x) ≡ t → Stands s0 st (ts ++ token p x ∷ [])
    go (is_string_opened d) sp is apart true e = forward_stands s0 s (string_opened q) k p x ts st b (sym (text_word (loose x) e) ∙ h)
    go (is_string_opened d) sp is apart false e =
        first_word_stands s0 s q k ts p x st (subst (Pending s0 (inside s) first) (sym is) (in_first b.pending d sp apart)) e (sym (other_word (loose x) e) ∙ h)

moved_stands : (s0 s : Setting) (sh : Shape) (k : List Frame) (p : Place) (x : Lexeme) (ts : List Token) (st : State) → Begun s0 s (stays sh) k ts → moved s sh k p (bare sh x) ≡ Some st → Stands s0 st (ts ++ token p x ∷ [])
moved_stands s0 s (string_opened q) k p x ts st b h = opened_stands s0 s q k p x ts st b h
moved_stands s0 s sh k p x ts st b h = forward_stands s0 s sh k p x ts st b h

pub step_stands : (s0 : Setting) (st : State) (t : Token) (ts : List Token) (st' : State) → Stands s0 st ts → step st t ≡ Some st' → Stands s0 st' (ts ++ t ∷ [])
step_stands s0 (state s sh k) (token p x) ts st b h = moved_stands s0 s sh k p x ts st b h
step_stands s0 (becoming s c p v k) (token q (mark equal)) ts st b h =
    arrived s0 _ _ _ h (subst (Begun s0 (behind s) (stays fresh) (assign_frame (Some c) p v ∷ k)) (sym (ap (λ l. l ++ token q (mark equal) ∷ []) b.is ∙ append_assoc b.us b.vs (token q (mark equal) ∷ []))) (becomes s0 s b.r c p q v k b.us b.vs b.pending b.becoming_))
step_stands s0 (becoming s c p v k) (token q (mark m)) ts st b h = absurd cc
step_stands s0 (becoming s c p v k) (token q x) ts st b h = absurd cc

pub walk_stands : (s0 : Setting) (ts us : List Token) (st st' : State) → Stands s0 st us → walk st ts ≡ Some st' → Stands s0 st' (us ++ ts)
walk_stands s0 [] us st st' x h = subst (λ l. Stands s0 st' l) (sym (append-nil us)) (arrived s0 us st st' h x)
walk_stands s0 (t ∷ ts) us st st' x h = go (λ y z w. walk_stands s0 ts (us ++ t ∷ []) y st' z w) (step st t) refl h
  where
    go : ((y : State) → Stands s0 y (us ++ t ∷ []) → walk y ts ≡ Some st' → Stands s0 st' ((us ++ t ∷ []) ++ ts)) → (o : Option State) → step st t ≡ o → option_and_then (λ y. walk y ts) o ≡ Some st' → Stands s0 st' (us ++ t ∷ ts)
    go ih None e h = absurd cc
    go ih (Some y) e h = subst (λ l. Stands s0 st' l) (append_assoc us (t ∷ []) ts) (ih y (step_stands s0 st t us y x e) h)

pub start_stands : (s : Setting) → Stands s (start s) []
start_stands s = fresh_stands s s [] [] tt nothing_pending

same_tree : (x y : Tree) → Some x ≡ Some y → x ≡ y
same_tree x y h = cc

all_read : (s0 s : Setting) (k : List Frame) (x e : Tree) (ts : List Token) → Operand s0 s 22 x k ts → all_of x k ≡ Some e → Reads s0 22 e ts
all_read s0 s (f ∷ k) x e ts o h = absurd cc
all_read s0 s [] x e ts o h = go o.pending o.reads o.is
  where
    go : {s : Setting} {us : List Token} → Pending s0 s [] us → Reads s 22 x o.vs → ts ≡ us ++ o.vs → Reads s0 22 e ts
    go nothing_pending r is = subst (λ e. Reads s0 22 e ts) (same_tree x e h) (subst (Reads s0 22 x) (sym is) r)

accept_reads : (s0 : Setting) (st : State) (ts : List Token) (e : Tree) → Stands s0 st ts → accept st ≡ Some e → Reads s0 22 e ts
accept_reads s0 (becoming s c p v k) ts e b h = absurd cc
accept_reads s0 (state s sh k) ts e b h = go (whole_in s sh) refl h
  where
    go : (o : Option Tree) → whole_in s sh ≡ o → accepted o k ≡ Some e → Reads s0 22 e ts
    go None t h = absurd cc
    go (Some x) t h = let r = reduced s 22 (omega arith) k 0 x ts (omega arith) (whole_operand s0 s sh k ts x b t) in all_read s0 r.to (reduce 22 x k).1 (reduce 22 x k).0 e ts r.operand h

-- what is read whole is an expression
pub sound : (s : Setting) (ts : List Token) (st : State) (e : Tree) → walk (start s) ts ≡ Some st → accept st ≡ Some e → Reads s 22 e ts
sound s ts st e h a = accept_reads s st ts e (walk_stands s ts [] (start s) st (start_stands s) h) a
