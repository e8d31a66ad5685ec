-- Lines and what begins them, as ways.
use Rattle.std.proofs.Common.{◌≡◌, ◌<◌, ◌≤◌, Bool, true, false, List, [], ◌∷◌, ◌++◌, Some, refl, sym, ap, ◌∙◌, subst, append_assoc, append-nil, arith}
use Rattle.p8_tree.specs.Expressions.{Tree}
use Rattle.p8_grammar.specs.Grammar.{IsExpression, IsFront}
use Rattle.p8_grammar.specs.Heights as heights
use Rattle.p8_grammar.specs.Heights.{height}
use Rattle.p8_lexer.specs.Pieces.{Piece, tree}
use Rattle.p8_lines.specs.declared.state.LineState.{LineState}
use Rattle.p8_lines.specs.declared.state.LineState.TheVariants as state
use Rattle.p8_lines.specs.Diagram.{Phrase, choices}
use Rattle.p8_lines.specs.Tokens.{LineToken, term, terms, piece}
use Rattle.p8_lines.specs.Lines as lines
use Rattle.p8_lines.specs.Lines.{Follows, behind, Row, over, Begins, greatest_height, Leads, nowhere, by_token, by_phrase, IsTooHigh}
use Rattle.p8_lines.proofs.Splits.{Compared, same, beyond, short, compare}
use Rattle.p8_lines.proofs.Fronts.{before_fails, behind_fails}
use Rattle.p8_lines.proofs.Completing.{completion, follower}
use Rattle.p8_lines.proofs.Ways.{terms_append, Step, token, phrase, Way, none, more, takes_some, goes_on}
use Rattle.p8_lines.proofs.Begun.{Ended, ended, not_nothing, nothing_high, front_with, front_of}

pub grouped : (first : LineToken) (others : List LineToken) (t : LineToken) (ts : List LineToken) → (first ∷ (others ++ t ∷ [])) ++ ts ≡ (first ∷ others) ++ t ∷ ts
grouped first others t ts = ap (λ l. first ∷ l) (append_assoc others (t ∷ []) ts)

pub leads_way : {q r : LineState} {us : List LineToken} {row : List Piece} → Leads q us row r → Way true q us row r
leads_way nowhere = none
leads_way (by_token f w) = more (token f) (leads_way w)
leads_way (by_phrase {q = q} {s = s} {e = e} {row = row} {first = first} {t = t} others {ts = ts} p x l f w) =
    subst (λ us. Way true q us (tree e first.place ∷ piece t ∷ row) s) (grouped first others t ts) (more (phrase others p x (λ y. l) f) (leads_way w))

step_leads : {q r s : LineState} {us vs : List LineToken} {row rest : List Piece} → Step true q us row r → Leads r vs rest s → Leads q (us ++ vs) (row ++ rest) s
step_leads (token f) w = by_token f w
step_leads {q = q} {s = s} {vs = vs} {rest = rest} (phrase {e = e} {first = first} {t = t} others p x l f) w =
    subst (λ us. Leads q us (tree e first.place ∷ piece t ∷ rest) s) (sym (grouped first others t vs)) (by_phrase others p x (l refl) f w)

pub way_leads : {q r : LineState} {us : List LineToken} {row : List Piece} → Way true q us row r → Leads q us row r
way_leads none = nowhere
way_leads (more x w) = step_leads x (way_leads w)

step_row : {low : Bool} {q r : LineState} {us vs : List LineToken} {row rest : List Piece} → Step low q us row r → Row r rest vs → Row q (row ++ rest) (us ++ vs)
step_row (token f) w = lines.token f w
step_row {q = q} {vs = vs} {rest = rest} (phrase {e = e} {first = first} {t = t} others p x l f) w =
    subst (λ us. Row q (tree e first.place ∷ piece t ∷ rest) us) (sym (grouped first others t vs)) (lines.phrase others p x f w)

pub way_row : {low : Bool} {q r : LineState} {us vs : List LineToken} {row rest : List Piece} → Way low q us row r → Row r rest vs → Row q (row ++ rest) (us ++ vs)
way_row none w = w
way_row {q = q} {vs = ws} {rest = last} (more {us = us} {vs = vs} {row = row} {rest = rest} x y) w =
    subst (λ l. Row q l ((us ++ vs) ++ ws)) (sym (append_assoc row rest last))
    (subst (λ l. Row q (row ++ (rest ++ last)) l) (sym (append_assoc us vs ws)) (step_row x (way_row y w)))

pub row_way : {q : LineState} {row : List Piece} {ts : List LineToken} → Row q row ts → Way false q ts row state.End
row_way over = none
row_way (lines.token f w) = more (token f) (row_way w)
row_way (lines.phrase {q = q} {e = e} {row = row} {first = first} {t = t} others {ts = ts} p x f w) =
    subst (λ us. Way false q us (tree e first.place ∷ piece t ∷ row) state.End) (grouped first others t ts) (more (phrase others p x (λ y. absurd cc) f) (row_way w))

-- Two ways, one after the other.
pub leads_on : {q r s : LineState} {us vs : List LineToken} {row rest : List Piece} → Leads q us row r → Leads r vs rest s → Leads q (us ++ vs) (row ++ rest) s
leads_on nowhere w = w
leads_on (by_token f x) w = by_token f (leads_on x w)
leads_on {s = s} {vs = vs} {rest = rest} (by_phrase {q = q} {e = e} {row = row} {first = first} {t = t} others {ts = ts} p x l f y) w =
    subst (λ us. Leads q us (tree e first.place ∷ piece t ∷ (row ++ rest)) s) (sym (append_assoc (first ∷ others) (t ∷ ts) vs)) (by_phrase others p x l f (leads_on y w))

-- From the end of a line no way leads on.

pub none_there : (h : Phrase) (q : LineState) → q ≡ state.End → (choices q).phrase ≡ Some h → ⊥
none_there h q e p = let z : (choices state.End).phrase ≡ Some h = subst (λ q. (choices q).phrase ≡ Some h) e p in cc

no_step_there : {low : Bool} {q r : LineState} {us : List LineToken} {row : List Piece} → Step low q us row r → q ≡ state.End → ⊥
no_step_there (token {q = q} {r = r} {t = t} f) e = let z : Follows ([]) t r = subst (λ q. Follows (choices q).arrows t r) e f in elim z [ ]
no_step_there (phrase {q = q} {h = h} others p x l f) e = none_there h q e p

pub record AtEnd (s : LineState) (us : List LineToken) (row : List Piece) : Type 0 where
  pub ends : s ≡ state.End
  pub tokens : us ≡ []
  pub pieces : row ≡ []

pub at_end : {low : Bool} {q s : LineState} {us : List LineToken} {row : List Piece} → Way low q us row s → q ≡ state.End → AtEnd s us row
at_end none e = record { ends = e; tokens = refl; pieces = refl }
at_end (more x w) e = absurd (no_step_there x e)

-- over no tokens a way leads nowhere
pub at_once : {low : Bool} {q s : LineState} {us : List LineToken} {row : List Piece} → Way low q us row s → us ≡ [] → q ≡ s
at_once none e = refl
at_once (more {vs = vs} x w) e = let y = takes_some x in let z = ap (λ l. l ++ vs) (sym y.2) ∙ e in absurd cc

-- What begins an expression that is too high begins no step with an expression that isn't.

pub limit_positive : 0 < greatest_height
limit_positive = omega arith

high_token : (q r : LineState) (h : Phrase) (t : LineToken) (ws front rest : List LineToken) → Follows (choices q).arrows t r → (choices q).phrase ≡ Some h → t ∷ ws ≡ front ++ rest → IsFront h.setting (terms front) → ¬ heights.IsTooHigh h.setting greatest_height (terms front)
high_token q r h t ws [] rest f p split begin high = nothing_high h.setting greatest_height limit_positive high
high_token q r h t ws (u ∷ front) rest f p split begin high =
    let firsts : u ≡ t = cc in
    before_fails q h t r p f (subst (λ w. IsFront h.setting (term w ∷ [])) firsts (front_of h.setting (u ∷ []) front begin))

high_phrase : (q r : LineState) (h : Phrase) (e : Tree) (us : List LineToken) (t : LineToken) (ws front rest : List LineToken) → (choices q).phrase ≡ Some h → IsExpression h.setting e (terms us) → height e ≤ greatest_height → Follows (behind h us) t r → us ++ t ∷ ws ≡ front ++ rest → IsFront h.setting (terms front) → ¬ heights.IsTooHigh h.setting greatest_height (terms front)
high_phrase q r h e us t ws front rest p x l f split begin high = go (compare us (t ∷ ws) front rest split)
  where
    whole : (vs : List LineToken) → us ≡ front ++ vs → ⊥
    whole vs y = let lt = high (terms vs) e (subst (IsExpression h.setting e) (ap terms y ∙ terms_append front vs) x) in omega (arith, lt, l)

    go : Compared us (t ∷ ws) front rest → ⊥
    go (same a b) = whole [] (a ∙ sym (append-nil front))
    go (beyond u vs a b) = whole (u ∷ vs) a
    go (short u vs a b) =
        let firsts : u ≡ t = cc in
        behind_fails q h e us t r p x f (subst (λ w. IsFront h.setting (terms us ++ term w ∷ [])) firsts (front_with h.setting us u vs (subst (λ l. IsFront h.setting (terms l)) a begin)))

step_low : {q r : LineState} {us : List LineToken} {row : List Piece} (h : Phrase) (ws : List LineToken) → Step true q us row r → (choices q).phrase ≡ Some h → IsTooHigh h (us ++ ws) → ⊥
step_low h ws (token {q = q} {r = r} {t = t} f) p y = high_token q r h t ws y.front y.rest f p y.split y.begins y.high
step_low h ws (phrase {q = q} {r = r} {h = k} {e = e} {first = first} {t = t} others p' x l f) p y =
    let phrases : k ≡ h = (let z = sym p' ∙ p in cc) in
    let split = sym (grouped first others t ws) ∙ y.split in
    high_phrase q r h e (first ∷ others) t ws y.front y.rest p
    (subst (λ h. IsExpression h.setting e (terms (first ∷ others))) phrases x)
    (subst (λ h. height e ≤ greatest_height) phrases (l refl))
    (subst (λ h. Follows (behind h (first ∷ others)) t r) phrases f)
    split y.begins y.high

pub way_low : {q s : LineState} {us : List LineToken} {row : List Piece} (h : Phrase) (u : LineToken) (vs ws : List LineToken) → Way true q us row s → us ≡ u ∷ vs → (choices q).phrase ≡ Some h → IsTooHigh h (us ++ ws) → ⊥
way_low h u vs ws none e p y = absurd cc
way_low h u vs ws (more {us = us} {vs = rest} x w) e p y = step_low h (rest ++ ws) x p (subst (IsTooHigh h) (append_assoc us rest ws) y)

-- A way with no expression that is too high leads no further than to where one stands.
pub blocked : {q r s : LineState} {us us' : List LineToken} {row row' : List Piece} (h : Phrase) (rest ws : List LineToken) → Leads q us row s → Leads q us' row' r → (choices r).phrase ≡ Some h → IsTooHigh h ws → us ++ rest ≡ us' ++ ws → (vs : List LineToken) × (us' ≡ us ++ vs)
blocked {r = r} {us = us} {us' = us'} h rest ws x y p high split = go (compare us rest us' ws split)
  where
    go : Compared us rest us' ws → (vs : List LineToken) × (us' ≡ us ++ vs)
    go (same a b) = ([], sym a ∙ sym (append-nil us))
    go (short u vs a b) = (u ∷ vs, a)
    go (beyond u vs a b) =
        let z = goes_on (u ∷ vs) (leads_way y) (leads_way x) a in
        absurd (way_low h u vs rest z.way refl p (subst (IsTooHigh h) b high))

-- beginnings

pub begun : {q : LineState} (us vs : List LineToken) → Begins q (us ++ vs) → Begins q us
begun {q = q} us vs (rest, row, x) = (vs ++ rest, row, subst (Row q row) (append_assoc us vs rest) x)

pub begun_with : {q : LineState} (us : List LineToken) (t : LineToken) (vs : List LineToken) → Begins q (us ++ t ∷ vs) → Begins q (us ++ t ∷ [])
begun_with {q = q} us t vs b = begun (us ++ t ∷ []) vs (subst (Begins q) (sym (append_assoc us (t ∷ []) vs)) b)

pub way_begins : {low : Bool} {q r : LineState} {us : List LineToken} {row : List Piece} (vs : List LineToken) → Way low q us row r → Begins r vs → Begins q (us ++ vs)
way_begins {q = q} {us = us} {row = row} vs w (rest, row', x) = (rest, row ++ row', subst (Row q (row ++ row')) (sym (append_assoc us vs rest)) (way_row w x))

-- what begins an expression at a state begins a line from there
pub front_begins : (q : LineState) (h : Phrase) (us : List LineToken) → (choices q).phrase ≡ Some h → IsFront h.setting (terms us) → Begins q us
front_begins q h us p f = go (us ++ y.rest) refl
  where
    y : Ended h.setting us
    y = ended h.setting us f

    go : (l : List LineToken) → us ++ y.rest ≡ l → Begins q us
    go [] e = absurd (not_nothing h.setting y.tree (subst (λ l. IsExpression h.setting y.tree (terms l)) e y.reads))
    go (first ∷ others) e =
        let n = follower q h p (first ∷ others) in
        let c = completion n.1 in
        (y.rest ++ n.0 ∷ c.1, _, subst (Row q _) (sym (ap (λ l. l ++ n.0 ∷ c.1) e) ∙ append_assoc us y.rest (n.0 ∷ c.1)) (lines.phrase others p (subst (λ l. IsExpression h.setting y.tree (terms l)) e y.reads) n.2 c.2))

pub completed : (q : LineState) → Begins q []
completed q = let c = completion q in (c.1, c.0, c.2)
