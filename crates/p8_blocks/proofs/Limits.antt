-- A refusal of what is too high or too deep: where it comes, and where it stands.
use Rattle.std.proofs.Common.{◌≡◌, ℕ, List, [], ◌∷◌, ◌++◌, Option, Some, None, Bool, true, false, refl, sym, ap, ◌∙◌, subst, append_assoc}
use Rattle.std.specs.Prelude.{IsTrue, if◌then◌else◌, ◌≢◌}
use Rattle.p8_tree.specs.declared.places.Place.{Place}
use Rattle.p8_tree.specs.Sources.{MethodTree, Source}
use Rattle.p8_lexer.specs.declared.word.Word.{Word}
use Rattle.p8_lexer.specs.declared.word.Word.TheVariants as word_case
use Rattle.p8_tree.specs.declared.refusal.Refusal.TheVariants.{TooNested}
use Rattle.p8_tree.specs.Refusals.{refusal_number}
use Rattle.p8_grammar.specs.Lexemes.{in_method}
use Rattle.p8_columns.specs.Lines as lines
use Rattle.p8_columns.specs.Lines.{Kind}
use Rattle.p8_lexer.specs.Pieces.{Piece}
use Rattle.p8_lines.specs.declared.state.LineState.{LineState}
use Rattle.p8_lines.specs.declared.state.LineState.TheVariants as state
use Rattle.p8_lines.specs.Diagram.{setting_at}
use Rattle.p8_lines.specs.Tokens.{LineToken, word}
use Rattle.p8_lines.specs.Lines as line_specs
use Rattle.p8_lines.specs.Lines.{Row, Outcome, Reads, refused, too_high, stopped}
use Rattle.p8_blocks.specs.Values.{suits, begins_line}
use Rattle.p8_blocks.specs.Reading as reading
use Rattle.p8_blocks.specs.Reading.{Part, method, Position, at, start, IsHead, head_state, line_state, declares, is_begun, begin, begun_by, Enters, chain_over, no_chain, no_loop, after_other, from, barred, HasNoLoop, IsTooDeep, IsRefusedAt, Step, Goes, stay, go_on, Fails, head_fails, declaration_fails, entry_fails, no_loop_fails, too_deep_fails, line_fails, Parses, fails, source, fault}
use Rattle.p8_blocks.specs.Trees.{IsShallow}
use Rattle.p8_blocks.specs.Files.{Heights, any_height, within_limits, is_item, IsFile, IsFileWithinLimits, Begins, LinesFrom, PassesLimits, EndsLine, nothing, line_end, LineBegins, here, behind_item, PassesAt, by_height, by_depth}
use Rattle.p8_blocks.proofs.Entries.{one_state}
use Rattle.p8_blocks.proofs.Walks.{Progress, Line, blank, head, declaration, method_line, Walk, more, line_any, walk_any, not_added}
use Rattle.p8_blocks.proofs.Runs.{takes_some, next_line, next_run}
use Rattle.p8_blocks.proofs.Keeping.{entered_begins, suited}
use Rattle.p8_blocks.proofs.Walking.{file_walk, first_token}
use Rattle.p8_blocks.proofs.Depths.{Shallow}
use Rattle.p8_blocks.proofs.After.{after_rest}
use Rattle.p8_blocks.proofs.Going.{AllShallow, depths, gone, goes, not_shallow, Stepped, stepped, begun_behind, run_before}
use Rattle.p8_blocks.proofs.Agreeing.{files_are_read}
use Rattle.p8_blocks.proofs.Answering.{one_answer, loop_or_deep}
use Rattle.p8_blocks.proofs.Stopping.{AllValues, walk_file, walk_begins, head_line, opening_row, row_opens, added_row, declaration_row, row_adds, method_row}
use Rattle.p8_blocks.proofs.Ends.{is_over, in_item, last_word, Last, behind_all, row_ends}
use Rattle.p8_blocks.proofs.Passing.{not_nested, high_line, begins_line_so}

module _ (all : AllValues) where
  -- lines after a walk

  head_goes : (w : Word) → is_over (head_state w) ≡ false
  head_goes word_case.Con = refl
  head_goes w = refl

  abbrev goes_on_from : LineState → Bool
  goes_on_from q = if is_over q then false else true

  not_over : (q : LineState) → is_over q ≡ false → IsTrue (goes_on_from q)
  not_over q e = ap (λ b. if b then false else true) e

  lines_from : {x : Progress} {ts : List LineToken} (w : Walk any_height x ts) (t : LineToken) (q : LineState) → ((y : Progress) (xs ys zs : List LineToken) → Line any_height x xs y → xs ++ ys ≡ t ∷ zs → (row : List Piece) × Row q row xs) → ((row : List Piece) (us : List LineToken) → Row q row (t ∷ us) → (y : Progress) × Line any_height x (t ∷ us) y) → LinesFrom ts t q
  lines_from {x} {ts} w t q rows completes = record {
    may = λ row us r. walk_file all (more w (completes row us r).1);
    must = λ rest s f. (let v = file_walk all.kinds f in must rest (next_line t rest w v.walk));
  }
    where
      must : (rest : List LineToken) → (y : Progress) × (xs : List LineToken) × (ys : List LineToken) × Line any_height x xs y × (t ∷ rest ≡ xs ++ ys) → (row : List Piece) × (us : List LineToken) × (vs : List LineToken) × Row q row (t ∷ us) × (us ++ vs ≡ rest)
      must rest (y, xs, ys, l, e) =
          let r = rows y xs ys rest l (sym e) in
          let f = takes_some l in
          let z : t ∷ rest ≡ f.0 ∷ (f.1 ++ ys) = e ∙ ap (λ l. l ++ ys) f.2 in
          let firsts : f.0 ≡ t = cc in
          let tails : f.1 ++ ys ≡ rest = cc in
          (r.0, f.1, ys, subst (λ u. Row q r.0 (u ∷ f.1)) firsts (subst (λ l. Row q r.0 l) f.2 r.1), tails)

  behind_head : {x : Progress} {ts : List LineToken} (w : Walk any_height x ts) (u t : LineToken) → IsHead u → LinesFrom (ts ++ u ∷ []) t (head_state (word u))
  behind_head {x} {ts} w u t i = record {
    may =
        λ row us r.
        let o = row_opens all (word u) i.0 row (t ∷ us) r in
        let f = walk_file all (more w (head u i o.1)) in
        (f.0, subst (λ l. IsFile any_height f.0 l) (sym (append_assoc ts (u ∷ []) (t ∷ us))) f.1);
    must =
        λ rest s f.
        let v = file_walk all.kinds (subst (λ l. IsFile any_height s l) (append_assoc ts (u ∷ []) (t ∷ rest)) f) in
        must rest (next_line u (t ∷ rest) w v.walk);
  }
    where
      must : (rest : List LineToken) → (y : Progress) × (xs : List LineToken) × (ys : List LineToken) × Line any_height x xs y × (u ∷ (t ∷ rest) ≡ xs ++ ys) → (row : List Piece) × (us : List LineToken) × (vs : List LineToken) × Row (head_state (word u)) row (t ∷ us) × (us ++ vs ≡ rest)
      must rest (y, xs, ys, l, e) =
          let h = head_line all u ys (t ∷ rest) i l (sym e) in
          let q = head_state (word u) in
          let f = first_token goes_on_from refl h.2 (not_over q (head_goes (word u))) in
          let z : f.0 ∷ (f.1 ++ ys) ≡ t ∷ rest = ap (λ l. l ++ ys) (sym f.2) ∙ h.3 in
          let firsts : f.0 ≡ t = cc in
          let tails : f.1 ++ ys ≡ rest = cc in
          (h.1, f.1, ys, subst (λ v. Row q h.1 (v ∷ f.1)) firsts (subst (λ l. Row q h.1 l) f.2 h.2), tails)

  declared_lines : {ps : List Part} {b : Bool} {ts : List LineToken} → Walk any_height (ps, b) ts → (t : LineToken) → word t ≢ word_case.LineEnd → ¬ IsHead t → IsTrue (declares ps) → LinesFrom ts t (line_state ps)
  declared_lines {ps} {b} w t n i d = lines_from w t (line_state ps) (declaration_row all t n i d) (λ row us r. (let x = row_adds all ps d row (t ∷ us) r in ((x.0, false), declaration t n i x.1)))

  pub completes : {m : MethodTree} {ls : List lines.Line} {ps : List Part} {b : Bool} (t : LineToken) (q : LineState) → word t ≢ word_case.LineEnd → ¬ IsHead t → Enters ls b t (from q) → ¬ HasNoLoop ls q t → (row : List Piece) (us : List LineToken) → Row q row (t ∷ us) → (y : Progress) × Line any_height (method m ls ∷ ps, b) (t ∷ us) y
  completes {m} {ls} {ps} {b} t q n i e l row us r =
      let k = all.kinds q (entered_begins ls b t q e) row (t ∷ us) r in
      ((method m (ls ++ lines.line t.place k.0 ∷ []) ∷ ps, is_item k.0), method_line t q n i e l (record { row = row; line = r; is = k.1 }))

  method_lines : {m : MethodTree} {ls : List lines.Line} {ps : List Part} {b : Bool} {ts : List LineToken} → Walk any_height (method m ls ∷ ps, b) ts → (t : LineToken) (q : LineState) → word t ≢ word_case.LineEnd → ¬ IsHead t → Enters ls b t (from q) → ¬ HasNoLoop ls q t → LinesFrom ts t q
  method_lines w t q n i e l = lines_from w t q (method_row all t q n i e) (completes t q n i e l)

  -- where a line of the text begins

  ends_with : (ts : List LineToken) {us : List LineToken} {w : Word} → Last us w → w ≡ word_case.LineEnd → EndsLine (ts ++ us)
  ends_with ts {us} l e = subst EndsLine (append_assoc ts l.before (l.token ∷ []) ∙ ap (λ us. ts ++ us) (sym l.split)) (line_end (ts ++ l.before) l.token (l.is ∙ e))

  -- the same for a row that isn't an item's
  ends_row : {q : LineState} {row : List Piece} (ts vs us : List LineToken) → Row q row us → is_over q ≡ false → in_item q ≡ false → EndsLine (ts ++ (vs ++ us))
  ends_row ts vs us r o i = ends_with ts (behind_all vs (row_ends r o)) (ap last_word i)

  head_outside : (w : Word) → in_item (head_state w) ≡ false
  head_outside word_case.Con = refl
  head_outside w = refl

  line_outside : (ps : List Part) → in_item (line_state ps) ≡ false
  line_outside [] = refl
  line_outside (reading.constants xs ∷ ps) = refl
  line_outside (reading.variables xs ∷ ps) = refl
  line_outside (reading.objects xs ∷ ps) = refl
  line_outside (reading.assembly xs ∷ ps) = refl
  line_outside (method m ls ∷ ps) = refl

  line_goes : (ps : List Part) → is_over (line_state ps) ≡ false
  line_goes [] = refl
  line_goes (reading.constants xs ∷ ps) = refl
  line_goes (reading.variables xs ∷ ps) = refl
  line_goes (reading.objects xs ∷ ps) = refl
  line_goes (reading.assembly xs ∷ ps) = refl
  line_goes (method m ls ∷ ps) = refl

  entered_goes : (q : LineState) → IsTrue (begins_line q) → is_over q ≡ false
  entered_goes state.Statement h = refl
  entered_goes state.ChainLine h = refl
  entered_goes state.LoopEndLine h = refl
  entered_goes state.CaseItem h = refl
  entered_goes q h = absurd cc

  -- a line is an item exactly where it is read as one
  item_state : (q : LineState) (k : Kind) → IsTrue (begins_line q) → IsTrue (suits q k) → IsTrue (is_item k) → q ≡ state.CaseItem
  item_state state.CaseItem k b s i = refl
  item_state state.Statement (lines.Item xs) b s i = absurd cc
  item_state state.Statement lines.Other b s i = absurd cc
  item_state state.Statement k b s i = absurd cc
  item_state state.ChainLine (lines.Item xs) b s i = absurd cc
  item_state state.ChainLine lines.Other b s i = absurd cc
  item_state state.ChainLine k b s i = absurd cc
  item_state state.LoopEndLine (lines.Item xs) b s i = absurd cc
  item_state state.LoopEndLine lines.Other b s i = absurd cc
  item_state state.LoopEndLine k b s i = absurd cc
  item_state q k b s i = absurd cc

  no_item_state : (q : LineState) (k : Kind) → IsTrue (begins_line q) → IsTrue (suits q k) → is_item k ≡ false → in_item q ≡ false
  no_item_state state.Statement k b s i = refl
  no_item_state state.ChainLine k b s i = refl
  no_item_state state.LoopEndLine k b s i = refl
  no_item_state state.CaseItem (lines.Item xs) b s i = absurd cc
  no_item_state state.CaseItem lines.Other b s i = absurd cc
  no_item_state state.CaseItem k b s i = absurd cc
  no_item_state q k b s i = absurd cc

  abbrev LinesBegin : List LineToken → Option Place → Type 0
  LinesBegin ts b = (t : LineToken) → LineBegins ts t (begin b t)

  pub line_ends : {x y : Progress} {us : List LineToken} → Line any_height x us y → y.1 ≡ false → (ts : List LineToken) → EndsLine (ts ++ us)
  line_ends (blank t e) o ts = line_end ts t e
  line_ends (head {p = p} {us = us} t i o) f ts = let r = opening_row all (word t) us p o in ends_row ts (t ∷ []) us r.1 (head_goes (word t)) (head_outside (word t))
  line_ends (declaration {ps = ps} {us = us} t n i x) f ts = let r = added_row all x in ends_row ts [] (t ∷ us) r.1 (line_goes ps) (line_outside ps)
  line_ends (method_line {ls = ls} {b = b} {us = us} {k = k} t q n i e l v) f ts =
      let g = entered_begins ls b t q e in
      ends_row ts [] (t ∷ us) v.line (entered_goes q g) (no_item_state q k g (suited all.kinds q v.row (t ∷ us) k g v.line v.is) f)

  pub record AnItem (ts us : List LineToken) : Type 0 where
    pub first : LineToken
    pub others : List LineToken
    pub are : us ≡ first ∷ others
    pub from_there : LinesFrom ts first state.CaseItem
    pub row : List Piece
    pub is : Row state.CaseItem row (first ∷ others)

  pub item_line : {x y : Progress} {ts us : List LineToken} → Walk any_height x ts → Line any_height x us y → y.1 ≡ true → AnItem ts us
  item_line w (blank t e) f = absurd cc
  item_line w (head t i o) f = absurd cc
  item_line w (declaration t n i x) f = absurd cc
  item_line {ts = ts} w (method_line {ls = ls} {b = b} {us = us} {k = k} t q n i e l v) f =
      let g = entered_begins ls b t q e in
      let same = item_state q k g (suited all.kinds q v.row (t ∷ us) k g v.line v.is) f in
      record {
        first = t;
        others = us;
        are = refl;
        from_there = subst (λ q. LinesFrom ts t q) same (method_lines w t q n i e l);
        row = v.row;
        is = subst (λ q. Row q v.row (t ∷ us)) same v.line;
      }

  told : {x y : Position} {us rest : List LineToken} (ts : List LineToken) → Walk any_height (x.parts, is_begun x.begun) ts → LinesBegin ts x.begun → Step x us y rest → (z : Stepped x us y rest) → LinesBegin (ts ++ z.tokens) y.begun
  told ts w b (reading.blank e) z t = here (line_ends (line_any within_limits z.line) refl ts)
  told ts w b (reading.head i o) z t = here (line_ends (line_any within_limits z.line) refl ts)
  told ts w b (reading.declaration n i x) z t = here (line_ends (line_any within_limits z.line) refl ts)
  told {rest = rest} ts w b (reading.method_line {b = c} {t = u} {ts = us} {k = k} n i e l d r) z t = go (is_item k) refl
    where
      told_as : (o : Option Place) → begun_by k c u ≡ o → LineBegins (ts ++ z.tokens) t (begin o t) → LineBegins (ts ++ z.tokens) t (begin (begun_by k c u) t)
      told_as o f x = subst (λ o. LineBegins (ts ++ z.tokens) t (begin o t)) (sym f) x

      go : (i : Bool) → is_item k ≡ i → LineBegins (ts ++ z.tokens) t (begin (begun_by k c u) t)
      go false f = told_as None (ap (λ i. if i then Some (begin c u) else None) f) (here (line_ends (line_any within_limits z.line) (begun_behind k c u ∙ f) ts))
      go true f =
          let y = item_line w (line_any within_limits z.line) (begun_behind k c u ∙ f) in
          let split : u ∷ us ≡ y.first ∷ (y.others ++ rest) = z.split ∙ ap (λ l. l ++ rest) y.are in
          let same : u ≡ y.first = cc in
          told_as (Some (begin c u)) (ap (λ i. if i then Some (begin c u) else None) f)
          (subst (λ l. LineBegins (ts ++ l) t (begin c u)) (sym y.are) (behind_item y.others y.from_there y.is (subst (λ v. LineBegins ts v (begin c u)) same (b u))))

  lines_of : {y : Position} {ts rest : List LineToken} (g : Goes start ts y rest) → LinesBegin (gone all.kinds g).tokens y.begun
  unfolding gone
  lines_of stay = λ t. here nothing
  lines_of (go_on g s) = told (gone all.kinds g).tokens (walk_any within_limits (gone all.kinds g).walk) (lines_of g) s (stepped all.kinds s)

  -- where a refusal stands

  barred_number : {ls : List lines.Line} {b : Bool} {t : LineToken} {n : ℕ} → Enters ls b t (barred n) → n ≡ refusal_number TooNested → ⊥
  barred_number {t = t} (chain_over h c) e = not_nested in_method (word t) e
  barred_number (no_chain h c) e = absurd cc
  barred_number (no_loop h c) e = absurd cc
  barred_number {t = t} (after_other h g c) e = not_nested in_method (word t) e

  nothing_high : {q : LineState} {n : ℕ} {p : Place} → Reads q [] (refused n p) → n ≡ refusal_number TooNested → ⊥
  nothing_high (too_high {us = []} e x p h) n = absurd cc
  nothing_high (too_high {us = u ∷ us} e x p h) n = absurd cc
  nothing_high {q} (stopped t vs e b l s h) n = not_nested (setting_at q) (word t) n

  module _ {m : MethodTree} {ls : List lines.Line} {ps : List Part} {b : Bool} {ts : List LineToken} (w : Walk any_height (method m ls ∷ ps, b) ts) (t : LineToken) (q : LineState) (n : word t ≢ word_case.LineEnd) (i : ¬ IsHead t) (e : Enters ls b t (from q)) where
    -- a line that goes on with these tokens
    pub goes_on_with : ¬ HasNoLoop ls q t → (us : List LineToken) → line_specs.Begins q (t ∷ us) → Begins (ts ++ t ∷ us)
    goes_on_with l us (rest, row, r) = walk_begins all (ts ++ t ∷ us) rest (subst (λ z. Walk any_height (completes {m = m} {ps = ps} t q n i e l row (us ++ rest) r).0 z) (sym (append_assoc ts (t ∷ us) rest)) (more w (completes t q n i e l row (us ++ rest) r).1))

    -- no file with it is shallow, where it opens a block too many
    pub is_deep : IsTooDeep ls q t → {h : Heights} (rest : List LineToken) (s : Source) → IsFile h s (ts ++ t ∷ rest) → ¬ IsShallow s
    is_deep d {h} rest s f shallow =
        let v = file_walk all.kinds f in
        let y = next_run t rest w (walk_any h v.walk) in
        not_there y.tokens y.rest y.line (run_before y.run ((depths v.blocks).1 shallow)) (sym y.split)
      where
        not_there : {y : Progress} (xs ys : List LineToken) → Line any_height (method m ls ∷ ps, b) xs y → AllShallow y.0 → xs ++ ys ≡ t ∷ rest → ⊥
        not_there xs ys (blank u g) a split = let firsts : u ≡ t = cc in n (ap word (sym firsts) ∙ g)
        not_there xs ys (head u j o) a split = let firsts : u ≡ t = cc in i (subst IsHead firsts j)
        not_there xs ys (declaration u g j x) a split = not_added x
        not_there xs ys (method_line {us = us} {k = k} u r g j e' l v) a split =
            let firsts : u ≡ t = cc in
            let states : q ≡ r = one_state ls b t e (subst (λ u. Enters ls b u (from r)) firsts e') in
            let s : Shallow ls (lines.line u.place k) = (after_rest Shallow [] ls (lines.line u.place k ∷ []) a.0).0 in
            not_shallow all.kinds ls u us r k e' v s (subst (λ u. IsTooDeep ls r u) (sym firsts) (subst (λ q. IsTooDeep ls q t) states d))

  pub too_deep_begins : {ls : List lines.Line} {m : MethodTree} {ps : List Part} {b : Bool} {ts us : List LineToken} {q : LineState} {o : Outcome} (t : LineToken) → Walk any_height (method m ls ∷ ps, b) ts → word t ≢ word_case.LineEnd → ¬ IsHead t → Enters ls b t (from q) → IsTooDeep ls q t → Reads q (t ∷ us) o → ¬ IsRefusedAt t.place o → Begins (ts ++ t ∷ [])
  too_deep_begins {ls = ls} {b = b} {q = q} t w n i e d r o = goes_on_with w t q n i e (λ l. loop_or_deep ls q q t refl l d) [] (begins_line_so (entered_goes q (entered_begins ls b t q e)) r o)

  passes_at : {x : Position} {ts us : List LineToken} {n : ℕ} {p : Place} → Walk any_height (x.parts, is_begun x.begun) ts → LinesBegin ts x.begun → Fails x us n p → n ≡ refusal_number TooNested → PassesAt (ts ++ us) p
  passes_at {ts = ts} w b (head_fails {t = u} {ts = us} {n = n} {p = p} i r) e = go us r
    where
      go : (us : List LineToken) → Reads (head_state (word u)) us (refused n p) → PassesAt (ts ++ u ∷ us) p
      go [] r = absurd (nothing_high r e)
      go (t ∷ us) r = by_height (ts ++ u ∷ []) t us (head_state (word u)) (sym (append_assoc ts (u ∷ []) (t ∷ us))) (behind_head w u t i) (subst (λ n. Reads (head_state (word u)) (t ∷ us) (refused n p)) e r)
  passes_at {ts = ts} w b (declaration_fails {ps = ps} {t = t} {ts = us} {p = p} f i d r) e = by_height ts t us (line_state ps) refl (declared_lines w t f i d) (subst (λ n. Reads (line_state ps) (t ∷ us) (refused n p)) e r)
  passes_at w b (entry_fails f i x) e = absurd (barred_number x e)
  passes_at w b (no_loop_fails f i x l) e = absurd cc
  passes_at {ts = ts} w b (too_deep_fails {t = t} {ts = us} {q = q} f i x d r o) e = by_depth ts t us refl (too_deep_begins t w f i x d r o) (λ rest s. is_deep w t q f i x d rest s) (b t)
  passes_at {ts = ts} w b (line_fails {t = t} {ts = us} {q = q} {p = p} f i x l d r) e = by_height ts t us q refl (method_lines w t q f i x l) (subst (λ n. Reads q (t ∷ us) (refused n p)) e r)

  -- that each file that begins so goes past them

  module _ (x : Position) {ts us : List LineToken} (w : Walk within_limits (x.parts, is_begun x.begun) ts) (shallow : AllShallow x.parts) where
    refused_again : (fs gs : List LineToken) → us ≡ fs ++ gs → Begins (ts ++ fs) → ((rest : List LineToken) (b : Option Place) → is_begun b ≡ is_begun x.begun → (n : ℕ) × (p : Place) × Fails (at x.parts b) (fs ++ rest) n p) → PassesLimits (ts ++ us)
    refused_again fs gs e begins again = record {
      front = ts ++ fs;
      rest = gs;
      split = ap (λ l. ts ++ l) e ∙ sym (append_assoc ts fs gs);
      begins = begins;
      passes =
          λ rest s f.
          let tokens = ts ++ (fs ++ rest) in
          let g = goes all.kinds w shallow (fs ++ rest) in
          let z = again rest g.0 g.1 in
          let here : Parses tokens (source s) = (files_are_read all.kinds tokens s).1 (subst (λ l. IsFileWithinLimits s l) (append_assoc ts fs rest) f) in
          let same : source s ≡ fault z.0 z.1 = one_answer tokens (source s) (fault z.0 z.1) here (fails g.2 z.2) in
          cc;
    }

  passes : {x : Position} {ts us : List LineToken} {n : ℕ} {p : Place} → Walk within_limits (x.parts, is_begun x.begun) ts → AllShallow x.parts → Fails x us n p → n ≡ refusal_number TooNested → PassesLimits (ts ++ us)
  passes {ts = ts} w a (head_fails {ps = ps} {b = b} {t = u} {ts = us} {n = n} {p = p} i r) e = go us r
    where
      go : (us : List LineToken) → Reads (head_state (word u)) us (refused n p) → PassesLimits (ts ++ u ∷ us)
      go [] r = absurd (nothing_high r e)
      go (t ∷ us) r =
          let h = high_line r e in
          let o = row_opens all (word u) i.0 h.begins.1 (t ∷ (h.front ++ h.begins.0)) h.begins.2 in
          refused_again (at ps b) w a (u ∷ t ∷ h.front) h.rest (ap (λ l. u ∷ t ∷ l) h.split)
          (walk_begins all (ts ++ u ∷ t ∷ h.front) h.begins.0 (subst (λ l. Walk any_height (o.0 ∷ ps, false) l) (sym (append_assoc ts (u ∷ t ∷ h.front) h.begins.0)) (more (walk_any within_limits w) (head u i o.1))))
          (λ rest c _. (refusal_number TooNested, p, head_fails i (h.again rest)))
  passes {ts = ts} w a (declaration_fails {ps = ps} {b = b} {t = t} {ts = us} {p = p} f i d r) e =
      let h = high_line r e in
      let o = row_adds all ps d h.begins.1 (t ∷ (h.front ++ h.begins.0)) h.begins.2 in
      refused_again (at ps b) w a (t ∷ h.front) h.rest (ap (λ l. t ∷ l) h.split)
      (walk_begins all (ts ++ t ∷ h.front) h.begins.0 (subst (λ l. Walk any_height (o.0, false) l) (sym (append_assoc ts (t ∷ h.front) h.begins.0)) (more (walk_any within_limits w) (declaration t f i o.1))))
      (λ rest c _. (refusal_number TooNested, p, declaration_fails f i d (h.again rest)))
  passes w a (entry_fails f i x) e = absurd (barred_number x e)
  passes w a (no_loop_fails f i x l) e = absurd cc
  passes {ts = ts} w a (too_deep_fails {t = t} {ts = us} {q = q} f i x d r o) e = record {
    front = ts ++ t ∷ [];
    rest = us;
    split = sym (append_assoc ts (t ∷ []) us);
    begins = too_deep_begins t (walk_any within_limits w) f i x d r o;
    passes = λ rest s y. is_deep (walk_any within_limits w) t q f i x d rest s (subst (λ l. IsFile within_limits s l) (append_assoc ts (t ∷ []) rest) y.0) y.1;
  }
  passes {ts = ts} w a (line_fails {m = m} {ls = ls} {ps = ps} {b = b} {t = t} {ts = us} {q = q} {p = p} f i x l d r) e =
      let h = high_line r e in
      refused_again (at (method m ls ∷ ps) b) w a (t ∷ h.front) h.rest (ap (λ l. t ∷ l) h.split)
      (goes_on_with (walk_any within_limits w) t q f i x l h.front h.begins)
      (λ rest o same. (refusal_number TooNested, p, line_fails f i (subst (λ c. Enters ls c t (from q)) (sym same) x) l d (h.again rest)))

  pub past_limits : (ts : List LineToken) (n : ℕ) (p : Place) → Parses ts (fault n p) → n ≡ refusal_number TooNested → PassesLimits ts × PassesAt ts p
  past_limits ts n p (fails g f) e =
      let z = gone all.kinds g in
      let lines = lines_of g in (
        subst PassesLimits (sym z.split) (passes z.walk z.shallow f e),
        subst (λ ts. PassesAt ts p) (sym z.split) (passes_at (walk_any within_limits z.walk) lines f e),
      )
