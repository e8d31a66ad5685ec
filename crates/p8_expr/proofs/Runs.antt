-- Reading an expression has one answer, and the answers of the code are it.
use Rattle.std.proofs.Common.{◌≡◌, ◌∙◌, ℕ, ◌+◌, ◌-◌, ◌<◌, ◌≤◌, List, [], ◌∷◌, ◌++◌, length, take, drop, map, get_or, refl, sym, ap, subst, Option, Some, None, Bool, true, false, arith}
use Rattle.std.specs.Prelude.{◌↔◌, IsTrue, if◌then◌else◌, nat_lt, slice_get, option_and_then, option_map, unwrap_or}
use Rattle.std.proofs.lemmas.List.{take_more, length-drop, length-map, get_or-drop}
use Rattle.std.proofs.lemmas.Bool.{ltb-true, ltb-false}
use Rattle.std.proofs.lemmas.Option.{slice_get_within, slice_get_past, slice_get_read, slice_get-map, get_or_from_slice_get}
use Rattle.p8_tree.specs.Expressions.{Tree}
use Rattle.p8_tree.specs.Views.{tree_of}
use Rattle.p8_tree.specs.declared.expressions.Expr.{Expr}
use Rattle.p8_lexer.specs.declared.token.Token as lexer_token
use Rattle.p8_tree.specs.declared.refusal.Refusal.{Refusal}
use Rattle.p8_tree.specs.declared.refusal.Refusal.TheVariants.{TooNested, Unexpected}
use Rattle.p8_tree.specs.Refusals.{refusal_number}
use Rattle.p8_lexer.specs.declared.word.Word.TheVariants as word
use Rattle.p8_lexer.specs.Words.{word_of}
use Rattle.p8_grammar.specs.Lexemes.{Setting, Token}
use Rattle.p8_grammar.specs.Grammar.{IsExpression, IsLongestFront}
use Rattle.p8_grammar.specs.Heights.{height, IsTooHigh}
use Rattle.p8_grammar.proofs.Live.{one_tree}
use Rattle.p8_grammar.proofs.Readings.{one_longest, shows, means}
use Rattle.p8_tree.specs.declared.faults.Fault.{Fault}
use Rattle.p8_tree.proofs.Failing.{same_fault}
use Rattle.p8_expr.specs.Words.{token_of}
use Rattle.p8_expr.specs.Refusals.{refusal_of}
use Rattle.p8_expr.specs.Parsing.{Outcome, tree, refused, Ends, whole, too_high, unfit, broken_off, Parses, IsFault, refusal_at, tokens_from}
use Rattle.p8_expr.specs.Cursors.{Spot, word_there}
use Rattle.p8_expr.specs.declared.reading.Ended.TheVariants as ended
use Rattle.p8_expr.specs.Reading.{Read, IsEnded}

-- one answer

-- an expression that is low enough isn't too high
low : (s : Setting) (limit : ℕ) (ts : List Token) (e : Tree) → IsExpression s e ts → height e ≤ limit → IsTooHigh s limit ts → ⊥
low s limit ts e r h high = let lt = (shows s limit ts e r).0 high in omega (arith, lt, h)

one_end : {s : Setting} {limit : ℕ} {bytes : List ℕ} {tokens : List lexer_token.Token} {at end : ℕ} {ts : List Token} {o o' : Outcome} → Ends s limit bytes tokens at end ts o → Ends s limit bytes tokens at end ts o' → o ≡ o'
one_end {s = s} {end = end} {ts = ts} (whole {e = e} r h n) (whole {e = e'} r' h' n') = ap (λ x. tree x end) (one_tree s ts e e' r r')
one_end {s = s} {limit = limit} {ts = ts} (whole {e = e} r h n) (too_high t) = absurd (low s limit ts e r h t)
one_end (whole r h n) (unfit t m) = absurd cc
one_end (whole {e = e} r h n) (broken_off t m x) = absurd (x e r)
one_end {s = s} {limit = limit} {ts = ts} (too_high t) (whole {e = e} r h n) = absurd (low s limit ts e r h t)
one_end (too_high t) (too_high t') = refl
one_end (too_high t) (unfit f m) = absurd (f t)
one_end (too_high t) (broken_off f m x) = absurd (f t)
one_end (unfit t m) (whole r h n) = absurd cc
one_end (unfit f m) (too_high t) = absurd (f t)
one_end {end = end} (unfit {r = r} f m) (unfit {r = q} f' m') = let e : r ≡ q = cc in ap (λ x. refused x end) e
one_end (unfit f m) (broken_off f' m' x) = absurd cc
one_end (broken_off t m x) (whole {e = e} r h n) = absurd (x e r)
one_end (broken_off f m x) (too_high t) = absurd (f t)
one_end (broken_off f' m' x) (unfit f m) = absurd cc
one_end (broken_off f m x) (broken_off f' m' x') = refl

pub one_outcome : (s : Setting) (limit : ℕ) (bytes : List ℕ) (tokens : List lexer_token.Token) (at : ℕ) (o o' : Outcome) → Parses s limit bytes tokens at o → Parses s limit bytes tokens at o' → o ≡ o'
one_outcome s limit bytes tokens at o o' (n, l, x) (m, k, y) =
    let ts = tokens_from bytes tokens at in
    one_end x (subst (λ i. Ends s limit bytes tokens at (at + i) (take i ts) o') (one_longest s ts m n k l) y)

pub one_fault : (s : Setting) (limit : ℕ) (bytes : List ℕ) (tokens : List lexer_token.Token) (at : ℕ) (f g : Fault) → IsFault s limit bytes tokens at f → IsFault s limit bytes tokens at g → f ≡ g
one_fault s limit bytes tokens at f g (r, i, x, (t, e, n, p)) (q, j, y, (u, d, m, z)) =
    let o = one_outcome s limit bytes tokens at (refused r i) (refused q j) x y in
    let same : r ≡ q = cc in
    let place : i ≡ j = cc in
    let token : t ≡ u = cc in
    same_fault f g (n ∙ ap refusal_number same ∙ sym m) (p ∙ ap (λ v. v.place) token ∙ sym z)

-- the run

pub next_token : (bytes : List ℕ) (tokens : List lexer_token.Token) (at n : ℕ) (t : lexer_token.Token) → slice_get tokens (at + n) ≡ Some t → take (n + 1) (tokens_from bytes tokens at) ≡ take n (tokens_from bytes tokens at) ++ token_of bytes t ∷ []
next_token bytes tokens at n t h =
    let f = token_of bytes in
    let ys : List lexer_token.Token = drop at tokens in
    let lt : at + n < length tokens = slice_get_within tokens (at + n) t h in
    let here : get_or ys n t ≡ t = get_or-drop at tokens n t ∙ get_or_from_slice_get tokens (at + n) t t h in
    let in_ys : slice_get ys n ≡ Some t = slice_get_read ys (length ys) n t refl (omega (arith, lt, length-drop at tokens)) (sym here) in
    let mapped : get_or (map f ys) n (f t) ≡ f t = get_or_from_slice_get (map f ys) n (f t) (f t) (slice_get-map f ys n ∙ ap (option_map f) in_ys) in
    take_more (map f ys) n (f t) (omega (arith, lt, length-drop at tokens, length-map ys f)) ∙ ap (λ u. take n (map f ys) ++ u ∷ []) mapped

pub rest_length : (bytes : List ℕ) (tokens : List lexer_token.Token) (at : ℕ) → length (tokens_from bytes tokens at) ≡ length tokens - at
rest_length bytes tokens at = length-map (drop at tokens) (token_of bytes) ∙ length-drop at tokens

left_is : (bytes : List ℕ) (tokens : List lexer_token.Token) (at end : ℕ) → at ≤ end → end ≤ length tokens → length (tokens_from bytes tokens at) - length (tokens_from bytes tokens end) ≡ end - at
left_is bytes tokens at end o w = omega (arith, o, w, rest_length bytes tokens at, rest_length bytes tokens end)

-- what comes of reading, as an answer
pub ends_so : (s : Setting) (limit : ℕ) (bytes : List ℕ) (tokens : List lexer_token.Token) (at end l : ℕ) (o : Option Tree) (out : Outcome) → (r : Read s bytes tokens at o l end) → Ends s limit bytes tokens at end (take (end - at) (tokens_from bytes tokens at)) out → Parses s limit bytes tokens at out
ends_so s limit bytes tokens at end l o out r x =
    let ts = tokens_from bytes tokens at in
    let m = means s ts o l (tokens_from bytes tokens end) r.comes in
    let n = left_is bytes tokens at end r.ordered r.within in
    let e : end ≡ at + (end - at) = omega (arith, r.ordered) in
    (end - at, subst (IsLongestFront s ts) n m.longest, subst (λ i. Ends s limit bytes tokens at i (take (end - at) ts) out) e x)

-- whether every expression that begins so is too high
pub high_is : (s : Setting) (bytes : List ℕ) (tokens : List lexer_token.Token) (at end l : ℕ) (o : Option Tree) → (r : Read s bytes tokens at o l end) → (h : ℕ) → IsTooHigh s h (take (end - at) (tokens_from bytes tokens at)) ↔ (h < l)
high_is s bytes tokens at end l o r h =
    let ts = tokens_from bytes tokens at in
    subst (λ i. IsTooHigh s h (take i ts) ↔ (h < l)) (left_is bytes tokens at end r.ordered r.within) ((means s ts o l (tokens_from bytes tokens end) r.comes).high h)

-- the tree, where there is one
pub tree_is : (s : Setting) (bytes : List ℕ) (tokens : List lexer_token.Token) (at end l : ℕ) (o : Option Tree) → (r : Read s bytes tokens at o l end) → (e : Tree) → (o ≡ Some e) ↔ IsExpression s e (take (end - at) (tokens_from bytes tokens at))
tree_is s bytes tokens at end l o r e =
    let ts = tokens_from bytes tokens at in
    subst (λ i. (o ≡ Some e) ↔ IsExpression s e (take i ts)) (left_is bytes tokens at end r.ordered r.within) ((means s ts o l (tokens_from bytes tokens end) r.comes).tree e)

-- an expression that isn't too high is low enough
pub low_enough : (s : Setting) (limit : ℕ) (ts : List Token) (e : Tree) → IsExpression s e ts → ¬ IsTooHigh s limit ts → height e ≤ limit
low_enough s limit ts e r refuted = go (nat_lt limit (height e)) refl
  where
    go : (b : Bool) → nat_lt limit (height e) ≡ b → height e ≤ limit
    go true h = absurd (refuted ((shows s limit ts e r).1 (ltb-true _ _ h)))
    go false h = ltb-false _ _ h

pub refusal_within : (s : Setting) (bytes : List ℕ) (tokens : List lexer_token.Token) (i : ℕ) (r : Refusal) → refusal_at s bytes tokens i ≡ Some r → i < length tokens
unfolding refusal_at
refusal_within s bytes tokens i r h = go (nat_lt i (length tokens)) refl
  where
    go : (b : Bool) → nat_lt i (length tokens) ≡ b → i < length tokens
    go true e = ltb-true _ _ e
    go false e = let past = ap (option_and_then (λ t. refusal_of s (word_of bytes t))) (slice_get_past tokens i (ltb-false _ _ e)) in absurd cc

-- a test that failed
pub refuted : (b : Bool) (F : Type 0) → b ≡ false → (IsTrue b ↔ F) → F → ⊥
refuted b F e h f = let x : false ≡ true = sym e ∙ h.1 f in cc

pub granted : (b : Bool) (F : Type 0) → b ≡ true → (IsTrue b ↔ F) → F
granted b F e h = h.0 e

-- the answers

-- what was read is low enough
low_read : (s : Setting) (limit : ℕ) (bytes : List ℕ) (tokens : List lexer_token.Token) (at end l : ℕ) (o : Option Tree) → (r : Read s bytes tokens at o l end) → l ≤ limit → ¬ IsTooHigh s limit (take (end - at) (tokens_from bytes tokens at))
low_read s limit bytes tokens at end l o r le t = let lt = (high_is s bytes tokens at end l o r limit).0 t in omega (arith, lt, le)

pub whole_read : (s : Setting) (limit : ℕ) (bytes : List ℕ) (tokens : List lexer_token.Token) (at end : ℕ) (e : Expr) → IsEnded s limit bytes tokens at (ended.Whole e end) → refusal_at s bytes tokens end ≡ None → Parses s limit bytes tokens at (tree (tree_of e) end)
whole_read s limit bytes tokens at end e (n, le, r) none =
    let ts = take (end - at) (tokens_from bytes tokens at) in
    let is : IsExpression s (tree_of e) ts = (tree_is s bytes tokens at end n (Some (tree_of e)) r (tree_of e)).0 refl in
    let low = low_read s limit bytes tokens at end n (Some (tree_of e)) r le in
    ends_so s limit bytes tokens at end n (Some (tree_of e)) (tree (tree_of e) end) r (whole is (low_enough s limit ts (tree_of e) is low) none)

pub unfit_read : (s : Setting) (limit : ℕ) (bytes : List ℕ) (tokens : List lexer_token.Token) (at end l : ℕ) (o : Option Tree) (q : Refusal) → (r : Read s bytes tokens at o l end) → l ≤ limit → refusal_at s bytes tokens end ≡ Some q → Parses s limit bytes tokens at (refused q end)
unfit_read s limit bytes tokens at end l o q r le some = ends_so s limit bytes tokens at end l o (refused q end) r (unfit (low_read s limit bytes tokens at end l o r le) some)

pub high_read : (s : Setting) (limit : ℕ) (bytes : List ℕ) (tokens : List lexer_token.Token) (at end l : ℕ) (o : Option Tree) → (r : Read s bytes tokens at o l end) → limit < l → Parses s limit bytes tokens at (refused TooNested at)
high_read s limit bytes tokens at end l o r lt = ends_so s limit bytes tokens at end l o (refused TooNested at) r (too_high ((high_is s bytes tokens at end l o r limit).1 lt))

-- the reader may stop before the end of the run where that is too high
pub stopped_high : (s : Setting) (limit : ℕ) (bytes : List ℕ) (tokens : List lexer_token.Token) (at : ℕ) → at ≤ length tokens → IsEnded s limit bytes tokens at ended.TooHigh → Parses s limit bytes tokens at (refused TooNested at)
stopped_high s limit bytes tokens at within (o, n, us, lt, e) =
    let ts = tokens_from bytes tokens at in
    let m = means s ts o n us e in
    (length ts - length us, m.longest, too_high ((m.high limit).1 lt))

pub broken_read : (s : Setting) (limit : ℕ) (bytes : List ℕ) (tokens : List lexer_token.Token) (at end l : ℕ) → (r : Read s bytes tokens at None l end) → l ≤ limit → refusal_at s bytes tokens end ≡ None → Parses s limit bytes tokens at (refused Unexpected (if nat_lt end (length tokens) then end else end - 1))
broken_read s limit bytes tokens at end l r le none =
    ends_so s limit bytes tokens at end l None (refused Unexpected (if nat_lt end (length tokens) then end else end - 1)) r
    (broken_off (low_read s limit bytes tokens at end l None r le) none (λ e is. let no = (tree_is s bytes tokens at end l None r e).1 is in absurd cc))

-- the refusal of what stands at a spot
pub refusal_there : (k : Setting) (s : Spot) → refusal_of k (word_there s) ≡ refusal_at k s.bytes s.tokens s.at
unfolding refusal_at refusal_of
refusal_there k s = go (slice_get s.tokens s.at)
  where
    go : (o : Option lexer_token.Token) → refusal_of k (unwrap_or (option_map (word_of s.bytes) o) word.LineEnd) ≡ option_and_then (λ t. refusal_of k (word_of s.bytes t)) o
    go None = refl
    go (Some t) = refl
