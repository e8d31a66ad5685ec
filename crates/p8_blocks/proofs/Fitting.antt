-- What begins a file within the limits, and the line at hand after some lines.
use Rattle.std.specs.Prelude.{◌&&◌}
use Rattle.std.proofs.Common.{◌≡◌, ℕ, List, [], ◌∷◌, ◌++◌, Option, Bool, false, refl, sym, ap, ◌∙◌, subst, append_assoc, append-nil}
use Rattle.p8_tree.specs.declared.places.Place.{Place}
use Rattle.p8_tree.specs.Sources.{Source}
use Rattle.p8_lexer.specs.declared.word.Word.{Word}
use Rattle.p8_lexer.specs.declared.word.Word.TheVariants as word_case
use Rattle.p8_tree.specs.declared.refusal.Refusal.TheVariants.{TooNested}
use Rattle.p8_tree.specs.Refusals.{refusal_number}
use Rattle.p8_grammar.specs.Lexemes.{in_declaration, is_dat}
use Rattle.p8_columns.specs.Lines as lines
use Rattle.p8_lexer.specs.Pieces.{Piece}
use Rattle.p8_lines.specs.declared.state.LineState.{LineState}
use Rattle.p8_lines.specs.declared.state.LineState.TheVariants as state
use Rattle.p8_lines.specs.Diagram.{setting_at}
use Rattle.p8_lines.specs.Tokens.{LineToken, word}
use Rattle.p8_lines.specs.Lines as line_specs
use Rattle.p8_lines.specs.Lines.{Row, Leads, Reads, refused, number_of}
use Rattle.p8_lines.proofs.Ways.{cancel}
use Rattle.p8_lines.proofs.Rows.{begun}
use Rattle.p8_lines.proofs.Readings.{leads_row}
use Rattle.p8_blocks.specs.Reading.{Part, at, start, head_state, line_state, is_begun, Goes, Fails, Parses, whole, fails, source, fault}
use Rattle.p8_blocks.specs.Files.{any_height, within_limits, IsFileWithinLimits, Begins}
use Rattle.p8_blocks.specs.Refusals.{BeginsWithinLimits, setting_from, setting_behind, EndsInMethod, NumberAt, by_word, BeginsLine, by_height, unfit, too_nested, IsRefused}
use Rattle.p8_blocks.proofs.Answering.{one_answer}
use Rattle.p8_blocks.proofs.Agreeing.{files_are_read}
use Rattle.p8_blocks.proofs.Walks.{Valued, one_row, OpensAs, Adds, first_constants, more_constants, more_variables, more_objects, more_assembly, Progress, Line, Walk, more, walk_any}
use Rattle.p8_blocks.proofs.Runs.{next_line}
use Rattle.p8_blocks.proofs.Keeping.{walk_kept, are_blocks}
use Rattle.p8_blocks.proofs.Walking.{file_walk}
use Rattle.p8_blocks.proofs.Going.{AllShallow, goes}
use Rattle.p8_blocks.proofs.Stopping.{AllValues, row_stops, walk_file, walk_begins}
use Rattle.p8_blocks.proofs.Lows.{LowLine, HighAt}
use Rattle.p8_blocks.proofs.Ending.{method_walk}
use Rattle.p8_blocks.proofs.Prefixes.{none_first}
use Rattle.p8_blocks.proofs.Settings.{setting_append, part_setting, walk_setting, walk_colon, begun_setting}
use Rattle.p8_blocks.proofs.Inside.{colon_after}
use Rattle.p8_blocks.proofs.Pieces.{is_labelled}

-- lines within the limits

pub within : {V : Type 0} {value : List Piece → Option V} {q : LineState} {us : List LineToken} {v : V} {row : List Piece} → Valued any_height value q us v → Leads q us row state.End → Valued within_limits value q us v
within {value = value} {row = row} x l = let o = one_row [] [] x.line (leads_row l) refl in record { row = row; line = l; is = ap value (sym o.pieces) ∙ x.is }

pub opens_within : (w : Word) (us : List LineToken) (p : Part) {row : List Piece} → OpensAs any_height w us p → Leads (head_state w) us row state.End → OpensAs within_limits w us p
opens_within word_case.Con us p x l = (x.0, within x.1 l, x.2)
opens_within word_case.Var us p x l = (x.0, within x.1 l, x.2)
opens_within word_case.Obj us p x l = (x.0, within x.1 l, x.2)
opens_within word_case.Pub us p x l = (x.0, within x.1 l, x.2)
opens_within word_case.Pri us p x l = (x.0, within x.1 l, x.2)
opens_within word_case.Dat us p x l = (x.0, within x.1 l, x.2)
opens_within w us p x l = absurd x

pub adds_within : {us : List LineToken} {ps qs : List Part} {row : List Piece} → Adds any_height us ps qs → Leads (line_state ps) us row state.End → Adds within_limits us ps qs
adds_within (first_constants v) l = first_constants (within v l)
adds_within (more_constants v) l = more_constants (within v l)
adds_within (more_variables v) l = more_variables (within v l)
adds_within (more_objects v) l = more_objects (within v l)
adds_within (more_assembly v) l = more_assembly (within v l)

pub regroup : (ts pre vs ws : List LineToken) → (ts ++ (pre ++ vs)) ++ ws ≡ ts ++ (pre ++ (vs ++ ws))
regroup ts pre vs ws = append_assoc ts (pre ++ vs) ws ∙ ap (λ l. ts ++ l) (append_assoc pre vs ws)

some_first : (xs ys : List LineToken) (u : LineToken) (zs : List LineToken) → (t : LineToken) × (l : List LineToken) × (xs ++ (ys ++ u ∷ zs) ≡ t ∷ l)
some_first [] [] u zs = (u, zs, refl)
some_first [] (y ∷ ys) u zs = (y, ys ++ u ∷ zs, refl)
some_first (x ∷ xs) ys u zs = (x, xs ++ (ys ++ u ∷ zs), refl)

-- what begins a longer line is no line
pub not_row : {q : LineState} (vs : List LineToken) (u : LineToken) → line_specs.Begins q (vs ++ u ∷ []) → (row : List Piece) → ¬ Row q row vs
not_row vs u b row r =
    let o = one_row (u ∷ b.0) [] r b.2 (sym (append_assoc vs (u ∷ []) b.0) ∙ sym (append-nil ((vs ++ u ∷ []) ++ b.0))) in
    let z = cancel vs [] (u ∷ b.0) (append-nil vs ∙ o.tokens ∙ append_assoc vs (u ∷ []) b.0) in
    cc

-- A line that is read from this state after these tokens of its own, where what follows them is so.
pub record AtHand (x : Progress) (pre : List LineToken) (q : LineState) (So : List LineToken → Type 0) : Type 0 where
  pub rows : (y : Progress) (xs ys zs : List LineToken) → Line any_height x xs y → xs ++ ys ≡ pre ++ zs → So zs → (row : List Piece) × (us : List LineToken) × Row q row us × (xs ≡ pre ++ us)
  pub completes : (row : List Piece) (us : List LineToken) → Row q row us → So us → (y : Progress) × Line any_height x (pre ++ us) y
  pub fits : (row : List Piece) (us : List LineToken) → Leads q us row state.End → So us → (y : Progress) × Line within_limits x (pre ++ us) y × AllShallow y.0
  pub again : (b : Option Place) → is_begun b ≡ x.1 → (us : List LineToken) (p : Place) → So us → Reads q us (refused (refusal_number TooNested) p) → (n : ℕ) × (o : Place) × Fails (at x.0 b) (pre ++ us) n o
  pub setting : (c : Bool) → (is_dat (part_setting x.0) && c) ≡ false → setting_from (part_setting x.0) c pre ≡ setting_at q
  pub plain : is_labelled q ≡ false

module _ (all : AllValues) where
  walk_fits : {x : Progress} {ts : List LineToken} → Walk within_limits x ts → AllShallow x.0 → (s : Source) × IsFileWithinLimits s ts
  walk_fits {x} {ts} w h =
      let g = goes all.kinds w h [] in
      let k = walk_kept all.kinds w in
      let a = are_blocks x.0 k in
      (a.0, (files_are_read all.kinds ts a.0).0 (whole (subst (λ l. Goes start l (at x.0 g.0) []) (append-nil ts) g.2) a.1))

  begins_within : {x : Progress} (ts rest : List LineToken) → Walk within_limits x (ts ++ rest) → AllShallow x.0 → BeginsWithinLimits ts
  begins_within ts rest w h = let f = walk_fits w h in (rest, f.0, f.1)

  pub itself_within : {x : Progress} {ts : List LineToken} → Walk within_limits x ts → AllShallow x.0 → BeginsWithinLimits ts
  itself_within {x} {ts} w h = begins_within ts [] (subst (λ ts. Walk within_limits x ts) (sym (append-nil ts)) w) h

  pub any_begins : (ts : List LineToken) → BeginsWithinLimits ts → Begins ts
  any_begins ts (rest, s, f) = let v = file_walk all.kinds f.0 in let x = walk_file all (walk_any within_limits v.walk) in (rest, x.0, x.1)

  pub unfit_at : (ts pre vs : List LineToken) (u : LineToken) (rest us : List LineToken) {n : ℕ} → us ≡ vs ++ u ∷ rest → BeginsWithinLimits (ts ++ (pre ++ vs)) → ¬ Begins ((ts ++ (pre ++ vs)) ++ u ∷ []) → NumberAt (ts ++ (pre ++ vs)) u n → IsRefused (ts ++ (pre ++ us)) n u.place
  unfit_at ts pre vs u rest us e b n number = record {
    before = ts ++ (pre ++ vs);
    token = u;
    after = rest;
    split = ap (λ l. ts ++ (pre ++ l)) e ∙ sym (regroup ts pre vs (u ∷ rest));
    begins = b;
    stops = λ y. n (any_begins ((ts ++ (pre ++ vs)) ++ u ∷ []) y);
    refusal = unfit n number;
  }

  module _ {x : Progress} {ts pre : List LineToken} {q : LineState} {So : List LineToken → Type 0} (w : Walk within_limits x ts) (h : AllShallow x.0) (a : AtHand x pre q So) where
    begins_low : (vs : List LineToken) (y : LowLine q vs) → So (vs ++ y.rest) → BeginsWithinLimits (ts ++ (pre ++ vs))
    begins_low vs y s =
        let f = a.fits y.row (vs ++ y.rest) y.leads s in
        begins_within (ts ++ (pre ++ vs)) y.rest (subst (λ l. Walk within_limits f.0 l) (sym (regroup ts pre vs y.rest)) (more w f.1)) f.2

    begins_any : (vs : List LineToken) → line_specs.Begins q vs → ((rest : List LineToken) → So (vs ++ rest)) → Begins (ts ++ (pre ++ vs))
    begins_any vs b s =
        let c = a.completes b.1 (vs ++ b.0) b.2 (s b.0) in
        walk_begins all (ts ++ (pre ++ vs)) b.0 (subst (λ l. Walk any_height c.0 l) (sym (regroup ts pre vs b.0)) (more (walk_any within_limits w) c.1))

    -- a walk over more takes the line first
    taken : {y : Progress} (us : List LineToken) → Walk any_height y (ts ++ (pre ++ us)) → (t : LineToken) (l : List LineToken) → pre ++ us ≡ t ∷ l → So us → (row : List Piece) × (vs : List LineToken) × (ws : List LineToken) × Row q row vs × (vs ++ ws ≡ us)
    taken {y} us v t l e s =
        let z = next_line t l (walk_any within_limits w) (subst (λ k. Walk any_height y (ts ++ k)) e v) in
        let r = a.rows z.0 z.1 z.2 us z.3 (sym z.4 ∙ sym e) s in
        (r.0, r.1, z.2, r.2, cancel pre (r.1 ++ z.2) us (sym (append_assoc pre r.1 z.2) ∙ ap (λ k. k ++ z.2) (sym r.3) ∙ sym z.4 ∙ sym e))

    pub none_begins_so : (vs : List LineToken) (u : LineToken) → line_specs.Begins q vs → ((row : List Piece) → ¬ Row q row vs) → ¬ line_specs.Begins q (vs ++ u ∷ []) → ((rest : List LineToken) → So (vs ++ u ∷ rest)) → ¬ Begins ((ts ++ (pre ++ vs)) ++ u ∷ [])
    none_begins_so vs u b n e s (rest, src, f) =
        let v = file_walk all.kinds f in
        let y = subst (λ l. Walk any_height (v.parts, v.begun) l) (append_assoc (ts ++ (pre ++ vs)) (u ∷ []) rest ∙ regroup ts pre vs (u ∷ rest)) v.walk in
        let o = some_first pre vs u rest in
        let z = taken (vs ++ u ∷ rest) y o.0 o.1 o.2 (s rest) in
        row_stops vs z.2 rest u z.3 z.4 b n e

    -- no walk ends within it
    no_walk : {y : Progress} (vs : List LineToken) → line_specs.Begins q vs → ((row : List Piece) → ¬ Row q row vs) → (t : LineToken) (l : List LineToken) → pre ++ vs ≡ t ∷ l → So vs → Walk any_height y (ts ++ (pre ++ vs)) → ⊥
    no_walk vs b n t l e s v =
        let z = taken vs v t l e s in
        let o = one_row (z.2 ++ b.0) [] z.3 b.2 (sym (append_assoc z.1 z.2 b.0) ∙ ap (λ k. k ++ b.0) z.4 ∙ sym (append-nil (vs ++ b.0))) in
        let nothing : b.0 ++ z.2 ≡ [] = cancel vs (b.0 ++ z.2) [] (sym (append_assoc vs b.0 z.2) ∙ ap (λ k. k ++ z.2) (sym o.tokens) ∙ z.4 ∙ sym (append-nil vs)) in
        let same : z.1 ≡ vs = o.tokens ∙ ap (λ k. vs ++ k) (none_first b.0 z.2 nothing) ∙ append-nil vs in
        n z.0 (subst (λ k. Row q z.0 k) same z.3)

    no_method : {ls : List lines.Line} {b : Bool} (vs : List LineToken) → line_specs.Begins q vs → ((row : List Piece) → ¬ Row q row vs) → (t : LineToken) (l : List LineToken) → pre ++ vs ≡ t ∷ l → So vs → ¬ EndsInMethod (ts ++ (pre ++ vs)) ls b
    no_method vs b n t l e s m = let v = method_walk all.kinds m in no_walk vs b n t l e s v.2

    pub none_within : (vs : List LineToken) (u : LineToken) (p : Place) → ((rest : List LineToken) → Reads q (vs ++ u ∷ rest) (refused (refusal_number TooNested) p)) → ((rest : List LineToken) → So (vs ++ u ∷ rest)) → ¬ BeginsWithinLimits ((ts ++ (pre ++ vs)) ++ u ∷ [])
    none_within vs u p again s (rest, src, f) =
        let tokens = ts ++ (pre ++ (vs ++ u ∷ rest)) in
        let g = goes all.kinds w h (pre ++ (vs ++ u ∷ rest)) in
        let z = a.again g.0 g.1 (vs ++ u ∷ rest) p (s rest) (again rest) in
        let here : Parses tokens (source src) = (files_are_read all.kinds tokens src).1 (subst (λ l. IsFileWithinLimits src l) (append_assoc (ts ++ (pre ++ vs)) (u ∷ []) rest ∙ regroup ts pre vs (u ∷ rest)) f) in
        let same : source src ≡ fault z.0 z.1 = one_answer tokens (source src) (fault z.0 z.1) here (fails g.2 z.2) in
        cc

    pub settings : (vs : List LineToken) → line_specs.Begins q vs → setting_behind (ts ++ (pre ++ vs)) ≡ setting_at q
    settings vs b =
        setting_append in_declaration false ts (pre ++ vs)
        ∙ ap (λ s. setting_from s (colon_after false ts) (pre ++ vs)) (walk_setting all (walk_any within_limits w))
        ∙ setting_append (part_setting x.0) (colon_after false ts) pre vs
        ∙ ap (λ s. setting_from s (colon_after (colon_after false ts) pre) vs) (a.setting (colon_after false ts) (walk_colon all (walk_any within_limits w)))
        ∙ begun_setting (colon_after (colon_after false ts) pre) vs a.plain b

    -- a token that can't stand in the line
    pub stopped_so : (vs : List LineToken) (u : LineToken) (rest us : List LineToken) → us ≡ vs ++ u ∷ rest → line_specs.Begins q vs → ((row : List Piece) → ¬ Row q row vs) → ¬ line_specs.Begins q (vs ++ u ∷ []) → ((rest : List LineToken) → So (vs ++ u ∷ rest)) → BeginsWithinLimits (ts ++ (pre ++ vs)) → ((ls : List lines.Line) (b : Bool) → ¬ EndsInMethod (ts ++ (pre ++ vs)) ls b) → IsRefused (ts ++ (pre ++ us)) (number_of (setting_at q) (word u)) u.place
    stopped_so vs u rest us e b n stop s y o =
        unfit_at ts pre vs u rest us e y (none_begins_so vs u b n stop s)
        (subst (λ s. NumberAt (ts ++ (pre ++ vs)) u (number_of s (word u))) (settings vs b) (by_word (λ l. o l.0 false l.1) (λ l. o l.0 l.1 l.2)))

    -- the same after some of its tokens
    pub stopped_within : (vs : List LineToken) (u : LineToken) (rest us : List LineToken) → us ≡ vs ++ u ∷ rest → line_specs.Begins q vs → ((row : List Piece) → ¬ Row q row vs) → ¬ line_specs.Begins q (vs ++ u ∷ []) → LowLine q vs → (t : LineToken) (l : List LineToken) → pre ++ vs ≡ t ∷ l → ((rest : List LineToken) → So (vs ++ rest)) → IsRefused (ts ++ (pre ++ us)) (number_of (setting_at q) (word u)) u.place
    stopped_within vs u rest us e b n stop y t l f s =
        stopped_so vs u rest us e b n stop (λ rest. s (u ∷ rest)) (begins_low vs y (s y.rest)) (λ ls c. no_method vs b n t l f (subst So (append-nil vs) (s [])))

    -- a token with which an expression is too high
    pub high_so : {p : Place} (us : List LineToken) (y : HighAt q us p) (before : List LineToken) → ts ++ (pre ++ y.front) ≡ before ++ y.front → ((u : LineToken) (vs : List LineToken) → y.front ++ y.token ∷ y.rest ≡ u ∷ vs → BeginsLine before u q) → BeginsWithinLimits (ts ++ (pre ++ y.front)) → ((ls : List lines.Line) (b : Bool) → ¬ EndsInMethod (ts ++ (pre ++ y.front)) ls b) → ((rest : List LineToken) → So (y.front ++ y.token ∷ rest)) → IsRefused (ts ++ (pre ++ us)) (refusal_number TooNested) p
    high_so {p} us y before e line b o s = record {
      before = ts ++ (pre ++ y.front);
      token = y.token;
      after = y.rest;
      split = ap (λ l. ts ++ (pre ++ l)) y.split ∙ sym (regroup ts pre y.front (y.token ∷ y.rest));
      begins = b;
      stops = none_within y.front y.token p y.again s;
      refusal =
          too_nested
          (subst Begins (sym (regroup ts pre y.front (y.token ∷ []))) (begins_any (y.front ++ y.token ∷ []) y.begins (λ rest. subst So (sym (append_assoc y.front (y.token ∷ []) rest)) (s rest))))
          (λ n r. o r.lines r.begun r.method)
          (let f = some_first [] y.front y.token y.rest in by_height before f.0 y.front f.1 q e f.2 (λ d. o d.lines d.begun d.method) (line f.0 f.1 f.2) (subst (λ l. Reads q l (refused (refusal_number TooNested) p)) f.2 (y.again y.rest)));
    }

    pub high_within : {p : Place} (us : List LineToken) (y : HighAt q us p) (before : List LineToken) → ts ++ (pre ++ y.front) ≡ before ++ y.front → ((u : LineToken) (vs : List LineToken) → y.front ++ y.token ∷ y.rest ≡ u ∷ vs → BeginsLine before u q) → (t : LineToken) (l : List LineToken) → pre ++ y.front ≡ t ∷ l → ((rest : List LineToken) → So (y.front ++ rest)) → IsRefused (ts ++ (pre ++ us)) (refusal_number TooNested) p
    high_within us y before e line t l f s =
        high_so us y before e line (begins_low y.front y.low (s y.low.rest))
        (λ ls c. no_method y.front (begun y.front (y.token ∷ []) y.begins) (not_row y.front y.token y.begins) t l f (subst So (append-nil y.front) (s [])))
        (λ rest. s (y.token ∷ rest))
