-- Ways through the diagram: a token or an expression with the token after it at a time. A way is found by its tokens.
use Rattle.std.proofs.Common.{◌≡◌, ◌≤◌, Bool, IsTrue, List, [], ◌∷◌, ◌++◌, Some, refl, sym, ap, ◌∙◌, subst, append_assoc}
use Rattle.p8_tree.specs.Expressions.{Tree}
use Rattle.p8_grammar.specs.Lexemes.{Setting}
use Rattle.p8_grammar.specs.Grammar.{IsExpression, IsFront}
use Rattle.p8_grammar.specs.Heights.{height}
use Rattle.p8_grammar.proofs.Live.{one_tree}
use Rattle.p8_lexer.specs.Pieces.{Piece, tree}
use Rattle.p8_lines.specs.declared.arrow.Arrow.{Arrow}
use Rattle.p8_lines.specs.declared.state.LineState.{LineState}
use Rattle.p8_lines.specs.Diagram.{Phrase, choices}
use Rattle.p8_lines.specs.Tokens.{LineToken, term, terms, piece}
use Rattle.p8_lines.specs.Lines.{Follows, here, further, behind, piece_in, greatest_height}
use Rattle.p8_lines.proofs.Splits.{Compared, same, beyond, short, compare}
use Rattle.p8_lines.proofs.Fronts.{before_fails, behind_fails}

-- tokens and parts of them

pub terms_append : (us vs : List LineToken) → terms (us ++ vs) ≡ terms us ++ terms vs
terms_append [] vs = refl
terms_append (u ∷ us) vs = ap (λ l. term u ∷ l) (terms_append us vs)

-- what begins with tokens of an expression is begun by them
pub begins : (s : Setting) (e : Tree) (us vs : List LineToken) → IsExpression s e (terms (us ++ vs)) → IsFront s (terms us)
begins s e us vs x = (terms vs, e, subst (IsExpression s e) (terms_append us vs) x)

pub begins_more : (s : Setting) (e : Tree) (us : List LineToken) (t : LineToken) (vs : List LineToken) → IsExpression s e (terms (us ++ t ∷ vs)) → IsFront s (terms us ++ term t ∷ [])
begins_more s e us t vs x = (terms vs, e, subst (IsExpression s e) (terms_append us (t ∷ vs) ∙ sym (append_assoc (terms us) (term t ∷ []) (terms vs))) x)

pub cancel : {X : Type 0} (us vs ws : List X) → us ++ vs ≡ us ++ ws → vs ≡ ws
cancel [] vs ws e = e
cancel (u ∷ us) vs ws e = let tails : us ++ vs ≡ us ++ ws = cc in cancel us vs ws tails

-- a token leads to one state
pub one_follower : {arrows : List Arrow} {t : LineToken} {q r : LineState} → Follows arrows t q → Follows arrows t r → q ≡ r
one_follower (here x) (here y) = refl
one_follower (here x) (further y f) = absurd (y x)
one_follower (further x f) (here y) = absurd (x y)
one_follower (further x f) (further y g) = one_follower f g

-- one step: a token, or an expression with the token after it; `low` says that it isn't too high
pub data Step (low : Bool) : LineState → List LineToken → List Piece → LineState → Type 0 where
  token : {q r : LineState} {t : LineToken} → Follows (choices q).arrows t r → Step low q (t ∷ []) (piece_in q t ∷ []) r
  phrase : {q r : LineState} {h : Phrase} {e : Tree} {first t : LineToken} (others : List LineToken) → (choices q).phrase ≡ Some h → IsExpression h.setting e (terms (first ∷ others)) → (IsTrue low → height e ≤ greatest_height) → Follows (behind h (first ∷ others)) t r → Step low q (first ∷ (others ++ t ∷ [])) (tree e first.place ∷ piece t ∷ []) r

pub data Way (low : Bool) : LineState → List LineToken → List Piece → LineState → Type 0 where
  none : {q : LineState} → Way low q [] [] q
  more : {q r s : LineState} {us vs : List LineToken} {row rest : List Piece} → Step low q us row r → Way low r vs rest s → Way low q (us ++ vs) (row ++ rest) s

-- two steps over the same tokens are the same
pub record Agree (us us' : List LineToken) (row row' : List Piece) (r r' : LineState) : Type 0 where
  pub tokens : us ≡ us'
  pub pieces : row ≡ row'
  pub ends : r ≡ r'

token_alone : (q r : LineState) (h : Phrase) (e : Tree) (t first : LineToken) (others : List LineToken) → Follows (choices q).arrows t r → (choices q).phrase ≡ Some h → IsExpression h.setting e (terms (first ∷ others)) → t ≡ first → ⊥
token_alone q r h e t first others f p x i =
    before_fails q h t r p f (subst (λ u. IsFront h.setting (term u ∷ [])) (sym i) (terms others, e, x))

record Phrased (q r : LineState) (h : Phrase) (e : Tree) (us : List LineToken) (t : LineToken) : Type 0 where
  is : (choices q).phrase ≡ Some h
  reads : IsExpression h.setting e (terms us)
  follows : Follows (behind h us) t r

longer : (q r r' : LineState) (h : Phrase) (e e' : Tree) (us us' : List LineToken) (t t' : LineToken) (u : LineToken) (vs : List LineToken) → Phrased q r h e us t → Phrased q r' h e' us' t' → us ≡ us' ++ u ∷ vs → u ≡ t' → ⊥
longer q r r' h e e' us us' t t' u vs x y split i =
    behind_fails q h e' us' t' r' y.is y.reads y.follows (subst (λ w. IsFront h.setting (terms us' ++ term w ∷ [])) i (begins_more h.setting e us' u vs (subst (λ l. IsExpression h.setting e (terms l)) split x.reads)))

two_phrases : (q r r' : LineState) (h : Phrase) (e e' : Tree) (first first' : LineToken) (others others' : List LineToken) (t t' : LineToken) (ws ws' : List LineToken) → Phrased q r h e (first ∷ others) t → Phrased q r' h e' (first' ∷ others') t' → first ∷ (others ++ t ∷ ws) ≡ first' ∷ (others' ++ t' ∷ ws') → Agree (first ∷ (others ++ t ∷ [])) (first' ∷ (others' ++ t' ∷ [])) (tree e first.place ∷ piece t ∷ []) (tree e' first'.place ∷ piece t' ∷ []) r r'
two_phrases q r r' h e e' first first' others others' t t' ws ws' x y split = go (compare (first ∷ others) (t ∷ ws) (first' ∷ others') (t' ∷ ws') split)
  where
    go : Compared (first ∷ others) (t ∷ ws) (first' ∷ others') (t' ∷ ws') → Agree (first ∷ (others ++ t ∷ [])) (first' ∷ (others' ++ t' ∷ [])) (tree e first.place ∷ piece t ∷ []) (tree e' first'.place ∷ piece t' ∷ []) r r'
    go (same a b) =
        let firsts : first ≡ first' = cc in
        let tails : others ≡ others' = cc in
        let lasts : t ≡ t' = cc in
        let trees : e ≡ e' = one_tree h.setting (terms (first' ∷ others')) e e' (subst (λ l. IsExpression h.setting e (terms l)) a x.reads) y.reads in
        let mine : Follows (behind h (first' ∷ others')) t' r = subst (λ l. Follows (behind h l) t' r) a (subst (λ u. Follows (behind h (first ∷ others)) u r) lasts x.follows) in
        record {
          tokens = λ i. firsts i ∷ (tails i ++ lasts i ∷ []);
          pieces = λ i. tree (trees i) (firsts i).place ∷ piece (lasts i) ∷ [];
          ends = one_follower mine y.follows;
        }
    go (beyond u vs a b) = let next : u ≡ t' = cc in absurd (longer q r r' h e e' (first ∷ others) (first' ∷ others') t t' u vs x y a next)
    go (short u vs a b) = let next : u ≡ t = cc in absurd (longer q r' r h e' e (first' ∷ others') (first ∷ others) t' t u vs y x a next)

pub one_step : {low low' : Bool} {q r r' : LineState} {us us' : List LineToken} {row row' : List Piece} (ws ws' : List LineToken) → Step low q us row r → Step low' q us' row' r' → us ++ ws ≡ us' ++ ws' → Agree us us' row row' r r'
one_step ws ws' (token {q = q} {r = r} {t = t} f) (token {r = r'} {t = t'} g) split =
    let firsts : t ≡ t' = cc in
    record {
      tokens = λ i. firsts i ∷ [];
      pieces = λ i. piece_in q (firsts i) ∷ [];
      ends = one_follower (subst (λ u. Follows (choices q).arrows u r) firsts f) g;
    }
one_step ws ws' (token {q = q} {r = r} {t = t} f) (phrase {h = h} {e = e} {first = first} others p x l g) split = let firsts : t ≡ first = cc in absurd (token_alone q r h e t first others f p x firsts)
one_step ws ws' (phrase {q = q} {h = h} {e = e} {first = first} others p x l g) (token {r = r} {t = t} f) split = let firsts : t ≡ first = cc in absurd (token_alone q r h e t first others f p x firsts)
one_step {q = q} {r = r} ws ws' (phrase {h = h} {e = e} {first = first} {t = t} others p x l g) (phrase {r = r'} {h = h'} {e = e'} {first = first'} {t = t'} others' p' x' l' g') split =
    let phrases : h' ≡ h = (let z = sym p' ∙ p in cc) in
    let mine : first ∷ (others ++ t ∷ ws) ≡ first' ∷ (others' ++ t' ∷ ws') = ap (λ l. first ∷ l) (sym (append_assoc others (t ∷ []) ws)) ∙ split ∙ ap (λ l. first' ∷ l) (append_assoc others' (t' ∷ []) ws') in
    two_phrases q r r' h e e' first first' others others' t t' ws ws'
    (record { is = p; reads = x; follows = g })
    (subst (λ k. Phrased q r' k e' (first' ∷ others') t') phrases (record { is = p'; reads = x'; follows = g' }))
    mine

-- a step takes a token
pub takes_some : {low : Bool} {q r : LineState} {us : List LineToken} {row : List Piece} → Step low q us row r → (t : LineToken) × (ts : List LineToken) × (us ≡ t ∷ ts)
takes_some (token {t = t} f) = (t, [], refl)
takes_some (phrase {first = first} {t = t} others p x l g) = (first, others ++ t ∷ [], refl)

nothing_takes : {low : Bool} {q r : LineState} {us : List LineToken} {row : List Piece} (vs : List LineToken) → Step low q us row r → us ++ vs ≡ [] → ⊥
nothing_takes vs x e = let y = takes_some x in let z = ap (λ l. l ++ vs) (sym y.2) ∙ e in cc

-- Where a way leads over tokens that another begins with, the other goes on from there.
pub record GoesOn (low : Bool) (r : LineState) (row row' : List Piece) (ws : List LineToken) (s : LineState) : Type 0 where
  pub rest : List Piece
  pub way : Way low r ws rest s
  pub pieces : row' ≡ row ++ rest

pub goes_on : {low low' : Bool} {q r s : LineState} {us vs : List LineToken} {row row' : List Piece} (ws : List LineToken) → Way low q us row r → Way low' q vs row' s → vs ≡ us ++ ws → GoesOn low' r row row' ws s
goes_on {low' = low'} {s = s} {row' = row'} ws (none {q = q}) y split = record { rest = row'; way = subst (λ l. Way low' q l row' s) split y; pieces = refl }
goes_on ws (more {us = us} {vs = vs} x w) none split = absurd (nothing_takes (vs ++ ws) x (sym (append_assoc us vs ws) ∙ sym split))
goes_on {low' = low'} {s = s} ws (more {r = n} {us = us} {vs = vs} {row = row} {rest = rest} x w) (more {r = m} {us = us'} {vs = vs'} {row = row'} {rest = rest'} x' w') split =
    let whole : us ++ (vs ++ ws) ≡ us' ++ vs' = sym (append_assoc us vs ws) ∙ sym split in
    let a = one_step (vs ++ ws) vs' x x' whole in
    let y = goes_on ws w (subst (λ q. Way low' q vs' rest' s) (sym a.ends) w') (cancel us vs' (vs ++ ws) (ap (λ l. l ++ vs') a.tokens ∙ sym whole)) in
    record { rest = y.rest; way = y.way; pieces = (λ i. sym a.pieces i ++ y.pieces i) ∙ sym (append_assoc row rest y.rest) }
