-- Ways along words to the line's end, and what stands along them.
use Rattle.std.proofs.Common.{◌≡◌, ℕ, ◌≤◌, List, [], ◌∷◌, ◌++◌, map, Some, Bool, true, false, All, refl, sym, ap, ◌∙◌, subst, subst₂}
use Rattle.std.specs.Prelude.{if◌then◌else◌, IsTrue, unwrap_or}
use Rattle.p8_tree.specs.Expressions.{Tree}
use Rattle.p8_tree.specs.Forgetting.{IsSameTree}
use Rattle.p8_lexer.specs.declared.word.Word.{Word}
use Rattle.p8_lexer.specs.declared.word.Word.TheVariants as word
use Rattle.p8_grammar.specs.Lexemes.{Setting}
use Rattle.p8_grammar.specs.Grammar.{IsExpression}
use Rattle.p8_grammar.specs.Heights.{height}
use Rattle.p8_lexer.specs.Pieces as pieces
use Rattle.p8_lexer.specs.Pieces.{Piece}
use Rattle.p8_lines.specs.declared.arrow.Arrow.{Arrow}
use Rattle.p8_lines.specs.declared.state.LineState.{LineState}
use Rattle.p8_lines.specs.declared.state.LineState.TheVariants as state
use Rattle.p8_lines.specs.declared.sign.Sign.TheVariants as sign
use Rattle.p8_lines.specs.Signs.{is_label}
use Rattle.p8_lines.specs.Diagram.{Phrase, any, choices, outer}
use Rattle.p8_lines.specs.Tokens as tokens
use Rattle.p8_lines.specs.Tokens.{LineToken, terms, string_length, piece, label_piece}
use Rattle.p8_lines.specs.Lines.{Follows, here, is_name, piece_in, Leads, nowhere, by_token, by_phrase}
use Rattle.p8_lines.proofs.Matching.{target, follows}
use Rattle.p8_declarations.specs.DataParts.{Part, line_end, behind_colon, tree, part_of_word, part_of_piece, before_end, parts}
use Rattle.p8_print.specs.Spelled.{Spelled, word_of_label, IsReadable}
use Rattle.p8_printed.specs.Lexemes.{IsInCapitals}
use Rattle.p8_printed.proofs.Printed.{wrapped_printed, wrapped_back}
use Rattle.p8_print.specs.Wording.{wrapped}
use Rattle.p8_printed.specs.Rereading.{IsSpelled, AreSpelled}
use Rattle.p8_printed.proofs.Readings.{IsRead, IsWord}
use Rattle.p8_blocks.proofs.Pieces.{is_labelled, plain_piece}
use Rattle.p8_blocks.proofs.DataWords.{plain_part}
use Rattle.p8_printed.proofs.RowSteps.{spelled_words}
use Rattle.p8_printed.proofs.DataNames.{label_named, label_taken}

-- tokens are these words, with their line's end
abbrev pub AreEnded : List Spelled → List LineToken → Type 0
AreEnded [] (t ∷ []) = tokens.word t ≡ word.LineEnd
AreEnded (w ∷ ws) (t ∷ ts) = IsSpelled w t × AreEnded ws ts
AreEnded _ _ = ⊥

pub ended : (ws : List Spelled) (ts : List LineToken) (t : LineToken) → AreSpelled ws ts → tokens.word t ≡ word.LineEnd → AreEnded ws (ts ++ t ∷ [])
ended [] [] t are e = e
ended (w ∷ ws) (u ∷ ts) t are e = (are.0, ended ws ts t are.1 e)
ended [] (u ∷ ts) t are e = absurd are
ended (w ∷ ws) [] t are e = absurd are

-- words after others
pub record Cut (xs ys : List Spelled) (ts : List LineToken) : Type 0 where
  pub left : List LineToken
  pub right : List LineToken
  pub is : ts ≡ left ++ right
  pub words : AreSpelled xs left
  pub rest : AreEnded ys right

pub cut : (xs ys : List Spelled) (ts : List LineToken) → AreEnded (xs ++ ys) ts → Cut xs ys ts
cut [] ys ts are = record { left = []; right = ts; is = refl; words = tt; rest = are }
cut (x ∷ xs) ys [] are = absurd are
cut (x ∷ xs) ys (t ∷ ts) are =
    let y = cut xs ys ts are.1 in
    record { left = t ∷ y.left; right = y.right; is = ap (λ us. t ∷ us) y.is; words = (are.0, y.words); rest = y.rest }

-- From a state on, these tokens lead to the line's end, and this holds of their parts.
pub record Leading (q : LineState) (ts : List LineToken) (K : List Part → Type 0) : Type 0 where
  pub row : List Piece
  pub leads : Leads q ts row state.End
  pub value : K (parts row)

-- One of these arrows takes the first of these tokens, and the others lead to the line's end.
pub record Going (l : List Arrow) (ts : List LineToken) (K : List Part → Type 0) : Type 0 where
  pub token : LineToken
  pub others : List LineToken
  pub is : ts ≡ token ∷ others
  pub to : LineState
  pub row : List Piece
  pub follows : Follows l token to
  pub leads : Leads to others row state.End
  pub value : K (parts (piece token ∷ row))

pub by_arrow : (q : LineState) → is_labelled q ≡ false → {ts : List LineToken} {K : List Part → Type 0} → Going (choices q).arrows ts K → Leading q ts K
by_arrow q unlabelled g = record { row = piece g.token ∷ g.row; leads = subst₂ (λ ts x. Leads q ts (x ∷ g.row) state.End) (sym g.is) (plain_piece q g.token unlabelled) (by_token g.follows g.leads); value = g.value }

-- a state in which an expression may stand
pub with_phrase : (q : LineState) {h : Phrase} → (choices q).phrase ≡ Some h → is_labelled q ≡ false
with_phrase state.DatLabel e = absurd cc
with_phrase state.CallLocal e = absurd cc
with_phrase q e = refl

-- a local label's name leads from these states
label_leads : (q r : LineState) → is_labelled q ≡ true → (choices q).arrows ≡ any sign.Label r ∷ [] → (t : LineToken) → IsTrue (is_label (tokens.word t)) → Follows (choices q).arrows t r
label_leads q r labelled arrows t is = subst (λ l. Follows l t r) (sym arrows) (here is)

label_piece_in : (q : LineState) (t : LineToken) → is_labelled q ≡ true → piece_in q t ≡ label_piece t
label_piece_in state.DatLabel t h = refl
label_piece_in state.CallLocal t h = refl
label_piece_in q t h = absurd cc

pub by_label : (q r : LineState) → is_labelled q ≡ true → (choices q).arrows ≡ any sign.Label r ∷ [] → (n : List ℕ) (t : LineToken) {ts : List LineToken} {K : List Part → Type 0} (K' : List Part → Type 0) → IsWord n → IsSpelled (word_of_label n) t → Leading r ts K → ((ps : List Part) → K ps → K' (behind_colon n t.place ∷ ps)) → Leading q (t ∷ ts) K'
by_label q r labelled arrows n t {ts = ts} K' word are y f = record {
  row = label_piece t ∷ y.row;
  leads = subst (λ x. Leads q (t ∷ ts) (x ∷ y.row) state.End) (label_piece_in q t labelled) (by_token (label_leads q r labelled arrows t (label_taken n t word are)) y.leads);
  value = subst (λ o. K' (behind_colon (unwrap_or o []) t.place ∷ parts y.row)) (sym (label_named n t word are)) (f (parts y.row) y.value);
}

abbrev pub ends_here : Part → Bool
ends_here line_end = true
ends_here x = false

kept : (x : Part) (ps : List Part) → ends_here x ≡ false → before_end (x ∷ ps) ≡ x ∷ before_end ps
kept line_end ps h = absurd cc
kept x ps h = refl

-- a token that is a part, and what is after it
pub on_word : (l : List Arrow) (t : LineToken) (w : Word) (r : LineState) (x : Part) {ts : List LineToken} {K : List Part → Type 0} (K' : List Part → Type 0) → tokens.word t ≡ w → ((n : ℕ) → target l w n ≡ Some r) → part_of_piece (piece t) ≡ x → ends_here x ≡ false → Leading r ts K → ((ps : List Part) → K ps → K' (x ∷ ps)) → Going l (t ∷ ts) K'
on_word l t w r x {ts = ts} K' e goes is inside y f = record {
  token = t;
  others = ts;
  is = refl;
  to = r;
  row = y.row;
  follows = follows l t r (ap (λ w. target l w (string_length t)) e ∙ goes (string_length t));
  leads = y.leads;
  value = subst K' (sym (ap (λ x. before_end (x ∷ map part_of_piece y.row)) is ∙ kept x (map part_of_piece y.row) inside)) (f (parts y.row) y.value);
}

-- the line's end
pub at_end : (l : List Arrow) (ts : List LineToken) {K : List Part → Type 0} → AreEnded [] ts → ((n : ℕ) → target l word.LineEnd n ≡ Some state.End) → K [] → Going l ts K
unfolding part_of_word
at_end l [] are goes k = absurd are
at_end l (t ∷ u ∷ ts) are goes k = absurd are
at_end l (t ∷ []) {K = K} are goes k = record {
  token = t;
  others = [];
  is = refl;
  to = state.End;
  row = [];
  follows = follows l t state.End (ap (λ w. target l w (string_length t)) are ∙ goes (string_length t));
  leads = nowhere;
  value = subst K (sym (ap (λ x. before_end (x ∷ [])) (plain_part t word.LineEnd refl are))) k;
}

-- an expression in parentheses, read again, and what is after it
pub record TreeRead (s : Setting) (e : Tree) (ys : List Spelled) (ts : List LineToken) : Type 0 where
  pub first : LineToken
  pub others : List LineToken
  pub right : List LineToken
  pub is : ts ≡ (first ∷ others) ++ right
  pub other : Tree
  pub reads : IsExpression s other (terms (first ∷ others))
  pub low : height other ≤ 64
  pub same : IsSameTree other e
  pub rest : AreEnded ys right

either_way : (b : Bool) (l : List Arrow) {t : LineToken} {r : LineState} → Follows l t r → Follows (if b then l else l) t r
either_way true l f = f
either_way false l f = f

pub behind_tree : (q : LineState) (s : Setting) (l : List Arrow) {e : Tree} {ys : List Spelled} {ts : List LineToken} {K : List Part → Type 0} (K' : List Part → Type 0) → (choices q).phrase ≡ Some (outer s l) → (y : TreeRead s e ys ts) → Going l y.right K → ((ps : List Part) → K ps → K' (tree y.other y.first.place ∷ ps)) → Leading q ts K'
behind_tree q s l {ts = ts} K' some y g f =
    let row = pieces.tree y.other y.first.place ∷ piece g.token ∷ g.row in
    let us = y.first ∷ y.others in
    let leads = by_phrase y.others some y.reads y.low (either_way (is_name us) l g.follows) g.leads in
    record { row = row; leads = subst (λ ts. Leads q ts row state.End) (sym (y.is ∙ ap (λ vs. us ++ vs) g.is)) leads; value = f (parts (piece g.token ∷ g.row)) g.value }

pub tree_read : (s : Setting) (e : Tree) (ys : List Spelled) (ts : List LineToken) → IsRead s e → AreEnded (wrapped e ++ ys) ts → TreeRead s e ys ts
tree_read s e ys ts was are = go y.left y.is y.words
  where
    y : Cut (wrapped e) ys ts
    y = cut (wrapped e) ys ts are

    go : (us : List LineToken) → ts ≡ us ++ y.right → AreSpelled (wrapped e) us → TreeRead s e ys ts
    go [] is are = absurd are
    go (first ∷ others) is are =
        let readable : All IsReadable (wrapped e) = λ k d lt. (wrapped_printed was.is was.good k d lt).0 in
        let capitals : All IsInCapitals (wrapped e) = λ k d lt. (wrapped_printed was.is was.good k d lt).1 in
        let z = wrapped_back was.value was.is was.good (spelled_words (wrapped e) (first ∷ others) readable capitals are) in
        let low : height z.0 ≤ 64 = subst (λ n. n ≤ 64) (sym z.3) was.low in
        record { first = first; others = others; right = y.right; is = is; other = z.0; reads = z.1; low = low; same = z.2; rest = y.rest }

-- what holds of the parts of a way
pub so : {l : List Arrow} {ts : List LineToken} {K K' : List Part → Type 0} → Going l ts K → ((ps : List Part) → K ps → K' ps) → Going l ts K'
so g f = record { token = g.token; others = g.others; is = g.is; to = g.to; row = g.row; follows = g.follows; leads = g.leads; value = f (parts (piece g.token ∷ g.row)) g.value }
