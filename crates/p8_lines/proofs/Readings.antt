-- Tokens are read in one way.
use Rattle.std.proofs.Common.{◌≡◌, ◌⊎◌, inl, inr, ℕ, Bool, List, [], ◌∷◌, ◌++◌, Some, refl, sym, ap, ◌∙◌, subst, append_assoc, append-nil}
use Rattle.p8_tree.specs.declared.places.Place.{Place}
use Rattle.p8_lexer.specs.Pieces.{Piece}
use Rattle.p8_tree.specs.declared.refusal.Refusal.TheVariants.{TooNested}
use Rattle.p8_tree.specs.Refusals.{refusal_number}
use Rattle.p8_expr.specs.Refusals.{refusal_of}
use Rattle.p8_lines.specs.declared.state.LineState.{LineState}
use Rattle.p8_lines.specs.declared.state.LineState.TheVariants as state
use Rattle.p8_lexer.specs.declared.word.Word.TheVariants as word
use Rattle.p8_lines.specs.declared.arrow.Arrow.{Arrow}
use Rattle.p8_lines.specs.Diagram.{Phrase, ◌⇒◌, choices, setting_at}
use Rattle.p8_lines.specs.Tokens as tokens
use Rattle.p8_lines.specs.Tokens.{LineToken}
use Rattle.p8_lines.specs.Lines.{Follows, here, further, Row, over, Begins, Leads, IsTooHigh, HasTooHigh, number_of, Outcome, read, refused, Reads, line, too_high, stopped}
use Rattle.p8_lines.specs.Stopping as stopping
use Rattle.p8_lines.specs.Stopping.{Stops, FitsSetting}
use Rattle.p8_lines.proofs.Splits.{Compared, same, beyond, short, compare}
use Rattle.p8_lines.proofs.Settings.{setting_fits, keeps_setting, keeps_setting_behind}
use Rattle.p8_lines.proofs.Ways.{Step, token, phrase, Way, none, more, goes_on, cancel}
use Rattle.p8_lines.proofs.Rows.{leads_way, way_leads, way_row, row_way, at_end, blocked, begun_with, way_begins, front_begins, none_there}

-- what is left after a list of its own beginning
nothing_more : {X : Type 0} (us vs ws : List X) → us ≡ (us ++ vs) ++ ws → vs ≡ []
nothing_more us vs ws e = go vs ws (cancel us [] (vs ++ ws) (append-nil us ∙ e ∙ append_assoc us vs ws))
  where
    go : {X : Type 0} (vs ws : List X) → [] ≡ vs ++ ws → vs ≡ []
    go [] ws e = refl
    go (v ∷ vs) ws e = absurd cc

-- One line, and none that is too high.

pub leads_row : {q : LineState} {us : List LineToken} {row : List Piece} → Leads q us row state.End → Row q row us
leads_row {q = q} {us = us} {row = row} x = subst (λ l. Row q row l) (append-nil us) (subst (λ r. Row q r (us ++ [])) (append-nil row) (way_row (leads_way x) over))

line_line : {q : LineState} {us us' : List LineToken} {row row' : List Piece} (rest rest' : List LineToken) → Leads q us row state.End → Leads q us' row' state.End → us ++ rest ≡ us' ++ rest' → read row rest ≡ read row' rest'
line_line {us = us} {us' = us'} {row = row} {row' = row'} rest rest' x y split = go (compare us rest us' rest' split)
  where
    go : Compared us rest us' rest' → read row rest ≡ read row' rest'
    go (same a b) =
        let z = goes_on [] (leads_way x) (leads_way y) (sym a ∙ sym (append-nil us)) in
        let e = at_end z.way refl in
        let rows : row ≡ row' = sym (z.pieces ∙ ap (λ l. row ++ l) e.pieces ∙ append-nil row) in
        λ i. read (rows i) (b i)
    go (beyond u vs a b) = let z = goes_on (u ∷ vs) (leads_way y) (leads_way x) a in let e = at_end z.way refl in let f = e.tokens in absurd cc
    go (short u vs a b) = let z = goes_on (u ∷ vs) (leads_way x) (leads_way y) a in let e = at_end z.way refl in let f = e.tokens in absurd cc

line_high : {q r : LineState} {us us' : List LineToken} {row row' : List Piece} (h : Phrase) (rest ws : List LineToken) → Leads q us row state.End → Leads q us' row' r → (choices r).phrase ≡ Some h → IsTooHigh h ws → us ++ rest ≡ us' ++ ws → ⊥
line_high {r = r} h rest ws x y p high split =
    let b = blocked h rest ws x y p high split in
    let z = goes_on b.0 (leads_way x) (leads_way y) b.1 in
    none_there h r (at_end z.way refl).ends p

line_stopped : {q : LineState} {us : List LineToken} {row : List Piece} (us' rest vs : List LineToken) (t : LineToken) → Leads q us row state.End → us ++ rest ≡ us' ++ t ∷ vs → Begins q us' → ((row : List Piece) → ¬ Row q row us') → ¬ Begins q (us' ++ t ∷ []) → ⊥
line_stopped {q = q} {us = us} {row = row} us' rest vs t x split begins no_line ends = go (compare us rest us' (t ∷ vs) split)
  where
    go : Compared us rest us' (t ∷ vs) → ⊥
    go (same a b) = no_line row (subst (Row q row) a (leads_row x))
    go (beyond u ws a b) =
        let firsts : u ≡ t = cc in
        ends (subst (λ w. Begins q (us' ++ w ∷ [])) firsts (begun_with us' u ws (subst (Begins q) a ([], row, subst (Row q row) (sym (append-nil us)) (leads_row x)))))
    go (short u ws a b) =
        let z = goes_on (u ∷ (ws ++ begins.0)) (leads_way x) (row_way begins.2) (ap (λ l. l ++ begins.0) a ∙ append_assoc us (u ∷ ws) begins.0) in
        let f = (at_end z.way refl).tokens in
        absurd cc

high_high : {q r r' : LineState} {us us' : List LineToken} {row row' : List Piece} (h h' : Phrase) (t t' : LineToken) (vs vs' : List LineToken) → Leads q us row r → (choices r).phrase ≡ Some h → IsTooHigh h (t ∷ vs) → Leads q us' row' r' → (choices r').phrase ≡ Some h' → IsTooHigh h' (t' ∷ vs') → us ++ t ∷ vs ≡ us' ++ t' ∷ vs' → t ≡ t'
high_high {r = r} {r' = r'} {us = us} {us' = us'} h h' t t' vs vs' x p high x' p' high' split =
    let b = blocked h' (t ∷ vs) (t' ∷ vs') x x' p' high' split in
    let b' = blocked h (t' ∷ vs') (t ∷ vs) x' x p high (sym split) in
    let no_more : b.0 ≡ [] = nothing_more us b.0 b'.0 (b'.1 ∙ ap (λ l. l ++ b'.0) b.1) in
    let tokens : us' ≡ us = b.1 ∙ ap (λ l. us ++ l) no_more ∙ append-nil us in
    let lasts : t ∷ vs ≡ t' ∷ vs' = cancel us (t ∷ vs) (t' ∷ vs') (split ∙ ap (λ l. l ++ t' ∷ vs') tokens) in
    cc

high_stopped : {q r : LineState} {us : List LineToken} {row : List Piece} (h : Phrase) (us' vs vs' : List LineToken) (t t' : LineToken) → Leads q us row r → (choices r).phrase ≡ Some h → IsTooHigh h (t ∷ vs) → us ++ t ∷ vs ≡ us' ++ t' ∷ vs' → ¬ Begins q (us' ++ t' ∷ []) → ¬ HasTooHigh q us' → ⊥
high_stopped {q = q} {r = r} {us = us} {row = row} h us' vs vs' t t' x p high split ends low = go (compare us' (t' ∷ vs') (us ++ high.front) high.rest whole)
  where
    whole : us' ++ t' ∷ vs' ≡ (us ++ high.front) ++ high.rest
    whole = sym split ∙ ap (λ l. us ++ l) high.split ∙ sym (append_assoc us high.front high.rest)

    has : (ws : List LineToken) → us' ≡ (us ++ high.front) ++ ws → HasTooHigh q us'
    has ws e = record { before = us; after = high.front ++ ws; split = e ∙ append_assoc us high.front ws; row = row; at = r; leads = x; phrase = h; expects = p; high = record { front = high.front; rest = ws; split = refl; begins = high.begins; high = high.high } }

    go : Compared us' (t' ∷ vs') (us ++ high.front) high.rest → ⊥
    go (same a b) = low (has [] (a ∙ sym (append-nil (us ++ high.front))))
    go (beyond u ws a b) = low (has (u ∷ ws) a)
    go (short u ws a b) =
        let firsts : u ≡ t' = cc in
        ends (subst (λ w. Begins q (us' ++ w ∷ [])) firsts (begun_with us' u ws (subst (Begins q) a (way_begins high.front (leads_way x) (front_begins r h high.front p high.begins)))))

stopped_stopped : (q : LineState) (us us' vs vs' : List LineToken) (t t' : LineToken) → us ++ t ∷ vs ≡ us' ++ t' ∷ vs' → Begins q us → ¬ Begins q (us ++ t ∷ []) → Begins q us' → ¬ Begins q (us' ++ t' ∷ []) → t ≡ t'
stopped_stopped q us us' vs vs' t t' split begins ends begins' ends' = go (compare us (t ∷ vs) us' (t' ∷ vs') split)
  where
    go : Compared us (t ∷ vs) us' (t' ∷ vs') → t ≡ t'
    go (same a b) = cc
    go (beyond u ws a b) = let firsts : u ≡ t' = cc in absurd (ends' (subst (λ w. Begins q (us' ++ w ∷ [])) firsts (begun_with us' u ws (subst (Begins q) a begins))))
    go (short u ws a b) = let firsts : u ≡ t = cc in absurd (ends (subst (λ w. Begins q (us ++ w ∷ [])) firsts (begun_with us u ws (subst (Begins q) a begins'))))

pub one_reading : (q : LineState) (ts : List LineToken) (o o' : Outcome) → Reads q ts o → Reads q ts o' → o ≡ o'
one_reading q ts _ _ (line {rest = rest} e x) (line {rest = rest'} e' x') = line_line rest rest' x x' (sym e ∙ e')
one_reading q ts _ _ (line {rest = rest} e x) (too_high {vs = vs} {t = t} {h = h} e' x' p high) = absurd (line_high h rest (t ∷ vs) x x' p high (sym e ∙ e'))
one_reading q ts _ _ (line {rest = rest} e x) (stopped {us = us} t vs e' begins no_line ends low) = absurd (line_stopped us rest vs t x (sym e ∙ e') begins no_line ends)
one_reading q ts _ _ (too_high {vs = vs} {t = t} {h = h} e x p high) (line {rest = rest} e' x') = absurd (line_high h rest (t ∷ vs) x' x p high (sym e' ∙ e))
one_reading q ts _ _ (too_high {vs = vs} {t = t} {h = h} e x p high) (too_high {vs = vs'} {t = t'} {h = h'} e' x' p' high') =
    ap (λ u. refused (refusal_number TooNested) u.place) (high_high h h' t t' vs vs' x p high x' p' high' (sym e ∙ e'))
one_reading q ts _ _ (too_high {vs = vs} {t = t} {h = h} e x p high) (stopped {us = us} t' vs' e' begins no_line ends low) = absurd (high_stopped h us vs vs' t t' x p high (sym e ∙ e') ends low)
one_reading q ts _ _ (stopped {us = us} t vs e begins no_line ends low) (line {rest = rest} e' x') = absurd (line_stopped us rest vs t x' (sym e' ∙ e) begins no_line ends)
one_reading q ts _ _ (stopped {us = us} t vs e begins no_line ends low) (too_high {vs = vs'} {t = t'} {h = h'} e' x' p' high') = absurd (high_stopped h' us vs' vs t' t x' p' high' (sym e' ∙ e) ends low)
one_reading q ts _ _ (stopped {us = us} t vs e begins no_line ends low) (stopped {us = us'} t' vs' e' begins' no_line' ends' low') =
    let lasts = stopped_stopped q us us' vs vs' t t' (sym e ∙ e') begins ends begins' ends' in
    ap (λ u. refused (number_of (setting_at q) (tokens.word u)) u.place) lasts

-- The setting along a way.

step_keeps : {low : Bool} {q r : LineState} {us : List LineToken} {row : List Piece} → Step low q us row r → (r ≡ state.End) ⊎ ((r ≡ state.LineEnd) ⊎ (setting_at r ≡ setting_at q))
step_keeps (token {q = q} {r = r} {t = t} f) = keeps_setting q r t f
step_keeps (phrase {q = q} {r = r} {h = h} {first = first} {t = t} others p x l f) = keeps_setting_behind q r h (first ∷ others) t p f

-- the end of a line leads to nothing else
end_leads : (arrows : List Arrow) {t : LineToken} {q : LineState} → Follows arrows t q → arrows ≡ word.LineEnd ⇒ state.End ∷ [] → q ≡ state.End
end_leads arrows (here {a = a} x) e = let z : a ≡ word.LineEnd ⇒ state.End = cc in ap (λ a. a.to) z
end_leads arrows (further {others = others} x f) e = let z : others ≡ [] = cc in absurd (nothing_follows others f z)
  where
    nothing_follows : (arrows : List Arrow) {t : LineToken} {q : LineState} → Follows arrows t q → arrows ≡ [] → ⊥
    nothing_follows arrows (here x) e = absurd cc
    nothing_follows arrows (further x f) e = absurd cc

line_end_step : {low : Bool} {q r : LineState} {us : List LineToken} {row : List Piece} → Step low q us row r → q ≡ state.LineEnd → r ≡ state.End
line_end_step (token {q = q} f) e = end_leads (choices q).arrows f (ap (λ q. (choices q).arrows) e)
line_end_step (phrase {q = q} {h = h} others p x l f) e = let z : (choices state.LineEnd).phrase ≡ Some h = subst (λ q. (choices q).phrase ≡ Some h) e p in absurd cc

line_end_way : {low : Bool} {q r : LineState} {us : List LineToken} {row : List Piece} → Way low q us row r → q ≡ state.LineEnd → (r ≡ state.End) ⊎ (r ≡ state.LineEnd)
line_end_way none e = inr e
line_end_way (more x w) e = inl (at_end w (line_end_step x e)).ends

way_keeps : {low : Bool} {q r : LineState} {us : List LineToken} {row : List Piece} → Way low q us row r → (r ≡ state.End) ⊎ ((r ≡ state.LineEnd) ⊎ (setting_at r ≡ setting_at q))
way_keeps none = inr (inr refl)
way_keeps {q = q} {r = r} (more {r = m} x w) = go (λ e. (at_end w e).ends) (line_end_way w) (way_keeps w) (step_keeps x)
  where
    line_ends : (r ≡ state.End) ⊎ (r ≡ state.LineEnd) → (r ≡ state.End) ⊎ ((r ≡ state.LineEnd) ⊎ (setting_at r ≡ setting_at q))
    line_ends (inl e) = inl e
    line_ends (inr e) = inr (inl e)

    kept : setting_at m ≡ setting_at q → (r ≡ state.End) ⊎ ((r ≡ state.LineEnd) ⊎ (setting_at r ≡ setting_at m)) → (r ≡ state.End) ⊎ ((r ≡ state.LineEnd) ⊎ (setting_at r ≡ setting_at q))
    kept e (inl x) = inl x
    kept e (inr (inl x)) = inr (inl x)
    kept e (inr (inr x)) = inr (inr (x ∙ e))

    go : (m ≡ state.End → r ≡ state.End) → (m ≡ state.LineEnd → (r ≡ state.End) ⊎ (r ≡ state.LineEnd)) → (r ≡ state.End) ⊎ ((r ≡ state.LineEnd) ⊎ (setting_at r ≡ setting_at m)) → (m ≡ state.End) ⊎ ((m ≡ state.LineEnd) ⊎ (setting_at m ≡ setting_at q)) → (r ≡ state.End) ⊎ ((r ≡ state.LineEnd) ⊎ (setting_at r ≡ setting_at q))
    go ends line_end rest (inl e) = inl (ends e)
    go ends line_end rest (inr (inl e)) = line_ends (line_end e)
    go ends line_end rest (inr (inr e)) = kept e rest

-- so the words that are refused by themselves stay the same
pub leads_fits : {q r : LineState} {us : List LineToken} {row : List Piece} → Leads q us row r → FitsSetting (setting_at q) r
leads_fits {q = q} {r = r} x h p w = go (way_keeps (leads_way x))
  where
    go : (r ≡ state.End) ⊎ ((r ≡ state.LineEnd) ⊎ (setting_at r ≡ setting_at q)) → refusal_of h.setting w ≡ refusal_of (setting_at q) w
    go (inl e) = absurd (none_there h r e p)
    go (inr (inl e)) = let z : (choices state.LineEnd).phrase ≡ Some h = subst (λ q. (choices q).phrase ≡ Some h) e p in absurd cc
    go (inr (inr e)) = setting_fits r h w p ∙ ap (λ s. refusal_of s w) e

-- Where reading stops in the midst of a line, it does so from the line's begin.

pub reads_line : {q : LineState} {ts us rest : List LineToken} {row : List Piece} → ts ≡ us ++ rest → Leads q us row state.End → Reads q ts (read row rest)
reads_line e x = line e x

pub reads_stop : {q r : LineState} {us ws : List LineToken} {row : List Piece} {n : ℕ} {p : Place} (ts : List LineToken) → ts ≡ us ++ ws → Leads q us row r → Stops (setting_at q) r ws n p → Reads q ts (refused n p)
reads_stop {us = us} ts e x (stopping.too_high {t = t} {vs = vs} g p high) = too_high (e ∙ ap (λ l. us ++ l) g) x p high
reads_stop {q = q} {r = r} {us = us} {row = row} ts e x (stopping.stopped {us = us'} t vs g begins no_line ends low) =
    stopped t vs (e ∙ ap (λ l. us ++ l) g ∙ sym (append_assoc us us' (t ∷ vs))) (way_begins us' (leads_way x) begins) line_there begins_there high_there
  where
    line_there : (row' : List Piece) → ¬ Row q row' (us ++ us')
    line_there row' y =
        let z = goes_on us' (leads_way x) (row_way y) refl in
        no_line z.rest (subst (Row r z.rest) (append-nil us') (subst (λ l. Row r l (us' ++ [])) (append-nil z.rest) (way_row z.way over)))

    begins_there : ¬ Begins q ((us ++ us') ++ t ∷ [])
    begins_there (rest, row', y) =
        let z = goes_on ((us' ++ t ∷ []) ++ rest) (leads_way x) (row_way y) (ap (λ l. l ++ rest) (append_assoc us us' (t ∷ [])) ∙ append_assoc us (us' ++ t ∷ []) rest) in
        let whole : Row r (z.rest ++ []) (((us' ++ t ∷ []) ++ rest) ++ []) = way_row z.way over in
        ends (rest, z.rest ++ [], subst (Row r (z.rest ++ [])) (append-nil ((us' ++ t ∷ []) ++ rest)) whole)

    high_there : ¬ HasTooHigh q (us ++ us')
    high_there y = go (blocked y.phrase us' y.after x y.leads y.expects y.high y.split)
      where
        go : (vs : List LineToken) × (y.before ≡ us ++ vs) → ⊥
        go (vs, b) =
            let z = goes_on vs (leads_way x) (leads_way y.leads) b in
            low (record { before = vs; after = y.after; split = cancel us us' (vs ++ y.after) (y.split ∙ ap (λ l. l ++ y.after) b ∙ append_assoc us vs y.after); row = z.rest; at = y.at; leads = way_leads z.way; phrase = y.phrase; expects = y.expects; high = y.high })
