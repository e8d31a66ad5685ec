-- A refusal stands at the first token up to which no file begins so.
use Rattle.std.proofs.Common.{◌≡◌, ℕ, ◌⊎◌, inl, inr, List, [], ◌∷◌, ◌++◌, Option, Bool, true, false, refl, sym, ap, ◌∙◌, subst, append_assoc, append-nil}
use Rattle.std.specs.Prelude.{IsTrue, ◌≢◌, not, ◌&&◌, ◌||◌}
use Rattle.p8_tree.specs.declared.places.Place.{Place}
use Rattle.p8_tree.specs.Sources.{MethodTree, Source}
use Rattle.p8_lexer.specs.declared.word.Word.{Word}
use Rattle.p8_lexer.specs.declared.word.Word.TheVariants as word_case
use Rattle.p8_tree.specs.declared.refusal.Refusal.TheVariants.{TooNested}
use Rattle.p8_tree.specs.Refusals.{refusal_number}
use Rattle.p8_grammar.specs.Lexemes.{in_method}
use Rattle.p8_columns.specs.Lines as lines
use Rattle.p8_lexer.specs.Pieces.{Piece}
use Rattle.p8_lines.specs.declared.state.LineState.{LineState}
use Rattle.p8_lines.specs.declared.state.LineState.TheVariants as state
use Rattle.p8_lines.specs.Diagram.{setting_at}
use Rattle.p8_lines.specs.Tokens.{LineToken, word}
use Rattle.p8_lines.specs.Lines as line_specs
use Rattle.p8_lines.specs.Lines.{Row, Reads, refused, too_high, stopped, number_of}
use Rattle.p8_lines.proofs.Splits.{Compared, same, beyond, short, compare}
use Rattle.p8_lines.proofs.Ways.{cancel}
use Rattle.p8_lines.proofs.Rows.{begun_with}
use Rattle.p8_declarations.specs.Constants.{constants_of_row}
use Rattle.p8_declarations.specs.Variables.{variables_of_row}
use Rattle.p8_declarations.specs.Objects.{objects_of_row}
use Rattle.p8_declarations.specs.Methods.{method_of_row}
use Rattle.p8_declarations.specs.Lines.{line_of_row}
use Rattle.p8_blocks.specs.Values.{HaveValues}
use Rattle.p8_blocks.specs.Reading.{Part, constants, variables, objects, assembly, method, Position, IsHead, is_block_word, head_state, line_state, declares, is_begun, leaves_loop, Enters, chain_over, no_chain, no_loop, after_other, from, barred, HasNoLoop, Fails, head_fails, declaration_fails, entry_fails, no_loop_fails, too_deep_fails, line_fails, Parses, fails, fault}
use Rattle.p8_blocks.specs.Files.{any_height, within_limits, is_item, IsFile, Begins, is_chain_word, is_loop_end_word, is_loop_word, NumberOf, no_opener, outside_loop, by_word, StopsAt, lines_in}
use Rattle.p8_blocks.proofs.Answering.{end_begins_none}
use Rattle.p8_blocks.proofs.Entries.{one_state, not_barred}
use Rattle.p8_blocks.proofs.Walks.{Valued, one_row, OpensAs, Adds, first_constants, more_constants, more_variables, more_objects, more_assembly, Progress, Line, blank, head, declaration, method_line, Walk, more, walk_any, not_added}
use Rattle.p8_blocks.proofs.Runs.{next_line}
use Rattle.p8_blocks.proofs.Keeping.{AllKinds, entered_begins, walk_kept, are_blocks}
use Rattle.p8_blocks.proofs.Parts.{walk_parts, parts_file}
use Rattle.p8_blocks.proofs.Walking.{file_walk}
use Rattle.p8_blocks.proofs.Going.{gone}

-- each line has a value
pub record AllValues : Type 0 where
  pub con_head : HaveValues constants_of_row state.ConHead
  pub con_line : HaveValues constants_of_row state.ConItem
  pub var_head : HaveValues variables_of_row state.VarHead
  pub var_line : HaveValues variables_of_row state.VarLine
  pub obj_head : HaveValues objects_of_row state.ObjHead
  pub obj_line : HaveValues objects_of_row state.ObjLine
  pub dat_head : HaveValues line_of_row state.DatHead
  pub dat_line : HaveValues line_of_row state.DatLine
  pub methods : (public : Bool) → HaveValues (method_of_row public) state.MethodName
  pub kinds : AllKinds

valued : {V : Type 0} (value : List Piece → Option V) (q : LineState) → HaveValues value q → (row : List Piece) (us : List LineToken) → Row q row us → (v : V) × Valued any_height value q us v
valued value q h row us r = let x = h row us r in (x.0, record { row = row; line = r; is = x.1 })

-- A line that begins with these tokens, which aren't a line, goes on as they do.
pub row_stops : {q : LineState} {row : List Piece} {xs : List LineToken} (us ys zs : List LineToken) (t : LineToken) → Row q row xs → xs ++ ys ≡ us ++ t ∷ zs → line_specs.Begins q us → ((row : List Piece) → ¬ Row q row us) → ¬ line_specs.Begins q (us ++ t ∷ []) → ⊥
row_stops {q} {row} {xs} us ys zs t r split begins no_line ends = go (compare xs ys us (t ∷ zs) split)
  where
    go : Compared xs ys us (t ∷ zs) → ⊥
    go (same a b) = no_line row (subst (λ l. Row q row l) a r)
    go (beyond u ws a b) =
        let firsts : u ≡ t = cc in
        ends (subst (λ u. line_specs.Begins q (us ++ u ∷ [])) firsts (begun_with us u ws ([], row, subst (λ l. Row q row l) (a ∙ sym (append-nil (us ++ u ∷ ws))) r)))
    go (short u ws a b) =
        let whole : us ++ begins.0 ≡ xs ++ u ∷ (ws ++ begins.0) = ap (λ l. l ++ begins.0) a ∙ append_assoc xs (u ∷ ws) begins.0 in
        let z = one_row (u ∷ (ws ++ begins.0)) [] r begins.2 (sym whole ∙ sym (append-nil (us ++ begins.0))) in
        let nothing : u ∷ (ws ++ begins.0) ≡ [] = cancel xs (u ∷ (ws ++ begins.0)) [] (sym whole ∙ sym z.tokens ∙ sym (append-nil xs)) in
        cc

pub inside : (b c : Bool) → IsTrue (not b && c) → IsTrue c
inside true c h = absurd cc
inside false c h = h

either : (a b : Bool) → IsTrue a ⊎ IsTrue b → IsTrue (a || b)
either true b x = refl
either false b (inl h) = absurd cc
either false b (inr h) = h

module _ (all : AllValues) where
  -- files that are walked

  pub walk_file : {x : Progress} {ts : List LineToken} → Walk any_height x ts → (s : Source) × IsFile any_height s ts
  walk_file {x} w = let k = walk_kept all.kinds w in let a = are_blocks x.0 k in (a.0, parts_file (walk_parts w) a.1 k)

  pub walk_begins : {x : Progress} (ts rest : List LineToken) → Walk any_height x (ts ++ rest) → Begins ts
  walk_begins ts rest w = let f = walk_file w in (rest, f.0, f.1)

  pub itself : {x : Progress} {ts : List LineToken} → Walk any_height x ts → Begins ts
  itself {x} {ts} w = walk_begins ts [] (subst (λ ts. Walk any_height x ts) (sym (append-nil ts)) w)

  -- where no line from these blocks on takes these tokens, no file begins so
  pub none_begins : {x : Progress} {ts : List LineToken} (t : LineToken) (us : List LineToken) → Walk any_height x ts → ((y : Progress) (xs ys rest : List LineToken) → Line any_height x xs y → xs ++ ys ≡ t ∷ (us ++ rest) → ⊥) → ¬ Begins (ts ++ t ∷ us)
  none_begins {ts = ts} t us w no_line (rest, s, f) =
      let v = file_walk all.kinds f in
      let x = next_line t (us ++ rest) w (subst (λ l. Walk any_height (v.parts, v.begun) l) (append_assoc ts (t ∷ us) rest) v.walk) in
      no_line x.0 x.1 x.2 rest x.3 (sym x.4)

  -- a block's word, and what may follow it

  pub opening_row : (w : Word) (us : List LineToken) (p : Part) → OpensAs any_height w us p → (row : List Piece) × Row (head_state w) row us
  opening_row word_case.Con us p x = (x.1.row, x.1.line)
  opening_row word_case.Var us p x = (x.1.row, x.1.line)
  opening_row word_case.Obj us p x = (x.1.row, x.1.line)
  opening_row word_case.Pub us p x = (x.1.row, x.1.line)
  opening_row word_case.Pri us p x = (x.1.row, x.1.line)
  opening_row word_case.Dat us p x = (x.1.row, x.1.line)
  opening_row w us p x = absurd x

  pub row_opens : (w : Word) → IsTrue (is_block_word w) → (row : List Piece) (us : List LineToken) → Row (head_state w) row us → (p : Part) × OpensAs any_height w us p
  row_opens word_case.Con h row us r = let x = valued constants_of_row state.ConHead all.con_head row us r in (constants x.0, (x.0, x.1, refl))
  row_opens word_case.Var h row us r = let x = valued variables_of_row state.VarHead all.var_head row us r in (variables x.0, (x.0, x.1, refl))
  row_opens word_case.Obj h row us r = let x = valued objects_of_row state.ObjHead all.obj_head row us r in (objects x.0, (x.0, x.1, refl))
  row_opens word_case.Pub h row us r = let x = valued (method_of_row true) state.MethodName (all.methods true) row us r in (method x.0 [], (x.0, x.1, refl))
  row_opens word_case.Pri h row us r = let x = valued (method_of_row false) state.MethodName (all.methods false) row us r in (method x.0 [], (x.0, x.1, refl))
  row_opens word_case.Dat h row us r = let x = valued line_of_row state.DatHead all.dat_head row us r in (assembly (lines_in x.0), (x.0, x.1, refl))
  row_opens w h row us r = absurd cc

  pub head_line : {x y : Progress} {xs : List LineToken} (t : LineToken) (ys zs : List LineToken) → IsHead t → Line any_height x xs y → xs ++ ys ≡ t ∷ zs → (us : List LineToken) × (row : List Piece) × Row (head_state (word t)) row us × (us ++ ys ≡ zs)
  head_line t ys zs i (blank u e) split = let firsts : u ≡ t = cc in absurd (end_begins_none t (ap word (sym firsts) ∙ e) i)
  head_line t ys zs i (declaration u n i' x) split = let firsts : u ≡ t = cc in absurd (i' (subst IsHead (sym firsts) i))
  head_line t ys zs i (method_line u q n i' e l v) split = let firsts : u ≡ t = cc in absurd (i' (subst IsHead (sym firsts) i))
  head_line t ys zs i (head {p = p} {us = us} u i' o) split =
      let firsts : u ≡ t = cc in
      let r = opening_row (word u) us p o in
      (us, r.0, subst (λ u. Row (head_state (word u)) r.0 us) firsts r.1, cc)

  head_stops : {x : Progress} {ts : List LineToken} (t : LineToken) (us : List LineToken) {n : ℕ} {p : Place} → Walk any_height x ts → IsHead t → Reads (head_state (word t)) us (refused n p) → n ≢ refusal_number TooNested → StopsAt (ts ++ t ∷ us) n p
  head_stops t us w i (too_high e l g h) n = absurd (n refl)
  head_stops {x} {ts} t us w i (stopped {us = vs} u rest split begins no_line ends low) n =
      let q = head_state (word t) in
      let o = row_opens (word t) i.0 begins.1 (vs ++ begins.0) begins.2 in
      record {
        before = ts ++ t ∷ vs;
        token = u;
        after = rest;
        split = ap (λ l. ts ++ t ∷ l) split ∙ sym (append_assoc ts (t ∷ vs) (u ∷ rest));
        place = refl;
        number = by_word (setting_at q);
        begins = walk_begins (ts ++ t ∷ vs) begins.0 (subst (λ l. Walk any_height (o.0 ∷ x.0, false) l) (sym (append_assoc ts (t ∷ vs) begins.0)) (more w (head t i o.1)));
        stops = subst (λ l. ¬ Begins l) (sym (append_assoc ts (t ∷ vs) (u ∷ []))) (none_begins t (vs ++ u ∷ []) w (λ y xs ys rest l e. (let z = head_line t ys ((vs ++ u ∷ []) ++ rest) i l e in row_stops vs ys rest u z.2 (z.3 ∙ append_assoc vs (u ∷ []) rest) begins no_line ends)));
      }

  -- a line that begins with neither

  module _ {x : Progress} {ts : List LineToken} (w : Walk any_height x ts) (t : LineToken) (q : LineState) (rows : (y : Progress) (xs ys zs : List LineToken) → Line any_height x xs y → xs ++ ys ≡ t ∷ zs → (row : List Piece) × Row q row xs) (completes : (row : List Piece) (us : List LineToken) → Row q row (t ∷ us) → (y : Progress) × Line any_height x (t ∷ us) y) where
    at_first : (us : List LineToken) → ((row : List Piece) → ¬ Row q row []) → line_specs.Begins q [] → ¬ line_specs.Begins q (t ∷ []) → StopsAt (ts ++ t ∷ us) (number_of (setting_at q) (word t)) t.place
    at_first us no_line begins ends = record {
      before = ts;
      token = t;
      after = us;
      split = refl;
      place = refl;
      number = by_word (setting_at q);
      begins = itself w;
      stops = none_begins t [] w (λ qs xs ys rest l e. (let x = rows qs xs ys rest l e in row_stops [] ys rest t x.1 e begins no_line ends));
    }

    later : (us : List LineToken) (u : LineToken) (rest : List LineToken) → ((row : List Piece) → ¬ Row q row (t ∷ us)) → line_specs.Begins q (t ∷ us) → ¬ line_specs.Begins q (t ∷ (us ++ u ∷ [])) → StopsAt (ts ++ t ∷ (us ++ u ∷ rest)) (number_of (setting_at q) (word u)) u.place
    later us u rest no_line begins ends =
        let c = completes begins.1 (us ++ begins.0) begins.2 in
        record {
          before = ts ++ t ∷ us;
          token = u;
          after = rest;
          split = sym (append_assoc ts (t ∷ us) (u ∷ rest));
          place = refl;
          number = by_word (setting_at q);
          begins = walk_begins (ts ++ t ∷ us) begins.0 (subst (λ l. Walk any_height c.0 l) (sym (append_assoc ts (t ∷ us) begins.0)) (more w c.1));
          stops = subst (λ l. ¬ Begins l) (sym (append_assoc ts (t ∷ us) (u ∷ []))) (none_begins t (us ++ u ∷ []) w (λ qs xs ys rest l e. (let x = rows qs xs ys ((us ++ u ∷ []) ++ rest) l e in row_stops (t ∷ us) ys rest u x.1 (e ∙ ap (λ l. t ∷ l) (append_assoc us (u ∷ []) rest)) begins no_line ends)));
        }

    line_stops : (us : List LineToken) {n : ℕ} {p : Place} → Reads q (t ∷ us) (refused n p) → n ≢ refusal_number TooNested → StopsAt (ts ++ t ∷ us) n p
    line_stops us (too_high e l g h) n = absurd (n refl)
    line_stops us (stopped {us = vs} u rest split begins no_line ends low) n = go vs split begins no_line ends
      where
        go : (vs : List LineToken) → t ∷ us ≡ vs ++ u ∷ rest → line_specs.Begins q vs → ((row : List Piece) → ¬ Row q row vs) → ¬ line_specs.Begins q (vs ++ u ∷ []) → StopsAt (ts ++ t ∷ us) (number_of (setting_at q) (word u)) u.place
        go [] split begins no_line ends =
            let firsts : t ≡ u = cc in
            subst (λ u. StopsAt (ts ++ t ∷ us) (number_of (setting_at q) (word u)) u.place) firsts (at_first us no_line begins (subst (λ u. ¬ line_specs.Begins q (u ∷ [])) (sym firsts) ends))
        go (v ∷ vs) split begins no_line ends =
            let firsts : v ≡ t = cc in
            let tails : us ≡ vs ++ u ∷ rest = cc in
            subst (λ l. StopsAt (ts ++ t ∷ l) (number_of (setting_at q) (word u)) u.place) (sym tails)
            (later vs u rest (subst (λ t. (row : List Piece) → ¬ Row q row (t ∷ vs)) firsts no_line) (subst (λ t. line_specs.Begins q (t ∷ vs)) firsts begins) (subst (λ t. ¬ line_specs.Begins q (t ∷ (vs ++ u ∷ []))) firsts ends))

  -- lines of a block that isn't a method

  pub added_row : {ps qs : List Part} {us : List LineToken} → Adds any_height us ps qs → (row : List Piece) × Row (line_state ps) row us
  added_row (first_constants v) = (v.row, v.line)
  added_row (more_constants v) = (v.row, v.line)
  added_row (more_variables v) = (v.row, v.line)
  added_row (more_objects v) = (v.row, v.line)
  added_row (more_assembly v) = (v.row, v.line)

  pub row_adds : (ps : List Part) → IsTrue (declares ps) → (row : List Piece) (us : List LineToken) → Row (line_state ps) row us → (qs : List Part) × Adds any_height us ps qs
  row_adds [] h row us r = let x = valued constants_of_row state.ConItem all.con_line row us r in (constants x.0 ∷ [], first_constants x.1)
  row_adds (constants xs ∷ ps) h row us r = let x = valued constants_of_row state.ConItem all.con_line row us r in (constants (xs ++ x.0) ∷ ps, more_constants x.1)
  row_adds (variables xs ∷ ps) h row us r = let x = valued variables_of_row state.VarLine all.var_line row us r in (variables (xs ++ x.0) ∷ ps, more_variables x.1)
  row_adds (objects xs ∷ ps) h row us r = let x = valued objects_of_row state.ObjLine all.obj_line row us r in (objects (xs ++ x.0) ∷ ps, more_objects x.1)
  row_adds (assembly xs ∷ ps) h row us r = let x = valued line_of_row state.DatLine all.dat_line row us r in (assembly (xs ++ lines_in x.0) ∷ ps, more_assembly x.1)
  row_adds (method m ls ∷ ps) h row us r = absurd cc

  pub declaration_row : (t : LineToken) → word t ≢ word_case.LineEnd → ¬ IsHead t → {ps : List Part} {b : Bool} → IsTrue (declares ps) → (y : Progress) (xs ys zs : List LineToken) → Line any_height (ps, b) xs y → xs ++ ys ≡ t ∷ zs → (row : List Piece) × Row (line_state ps) row xs
  declaration_row t n i d qs xs ys zs (blank u e) split = let firsts : u ≡ t = cc in absurd (n (ap word (sym firsts) ∙ e))
  declaration_row t n i d qs xs ys zs (head u i' o) split = let firsts : u ≡ t = cc in absurd (i (subst IsHead firsts i'))
  declaration_row t n i d qs xs ys zs (declaration u n' i' x) split = added_row x
  declaration_row t n i d qs xs ys zs (method_line u q n' i' e l v) split = absurd cc

  declaration_stops : {ps : List Part} {b : Bool} {ts : List LineToken} (t : LineToken) (us : List LineToken) {n : ℕ} {p : Place} → Walk any_height (ps, b) ts → word t ≢ word_case.LineEnd → ¬ IsHead t → IsTrue (declares ps) → Reads (line_state ps) (t ∷ us) (refused n p) → n ≢ refusal_number TooNested → StopsAt (ts ++ t ∷ us) n p
  declaration_stops {ps} {b} t us w n i d r m = line_stops w t (line_state ps) (declaration_row t n i d) completes us r m
    where
      completes : (row : List Piece) (us : List LineToken) → Row (line_state ps) row (t ∷ us) → (y : Progress) × Line any_height (ps, b) (t ∷ us) y
      completes row us r = let x = row_adds ps d row (t ∷ us) r in ((x.0, false), declaration t n i x.1)

  -- lines of a method

  pub method_row : {m : MethodTree} {ls : List lines.Line} {ps : List Part} {b : Bool} (t : LineToken) (q : LineState) → word t ≢ word_case.LineEnd → ¬ IsHead t → Enters ls b t (from q) → (y : Progress) (xs ys zs : List LineToken) → Line any_height (method m ls ∷ ps, b) xs y → xs ++ ys ≡ t ∷ zs → (row : List Piece) × Row q row xs
  method_row t q n i e qs xs ys zs (blank u f) split = let firsts : u ≡ t = cc in absurd (n (ap word (sym firsts) ∙ f))
  method_row t q n i e qs xs ys zs (head u i' o) split = let firsts : u ≡ t = cc in absurd (i (subst IsHead firsts i'))
  method_row t q n i e qs xs ys zs (declaration u n' i' x) split = absurd (not_added x)
  method_row {ls = ls} {b = b} t q n i e qs xs ys zs (method_line {us = us} u r n' i' e' l v) split =
      let firsts : u ≡ t = cc in
      let states : r ≡ q = one_state ls b t (subst (λ u. Enters ls b u (from r)) firsts e') e in
      (v.row, subst (λ r. Row r v.row (u ∷ us)) states v.line)

  method_stops : {m : MethodTree} {ls : List lines.Line} {ps : List Part} {b : Bool} {ts : List LineToken} (t : LineToken) (us : List LineToken) (q : LineState) {n : ℕ} {p : Place} → Walk any_height (method m ls ∷ ps, b) ts → word t ≢ word_case.LineEnd → ¬ IsHead t → Enters ls b t (from q) → ¬ HasNoLoop ls q t → Reads q (t ∷ us) (refused n p) → n ≢ refusal_number TooNested → StopsAt (ts ++ t ∷ us) n p
  method_stops {m} {ls} {ps} {b} t us q w n i e l r h = line_stops w t q (method_row t q n i e) completes us r h
    where
      completes : (row : List Piece) (us : List LineToken) → Row q row (t ∷ us) → (y : Progress) × Line any_height (method m ls ∷ ps, b) (t ∷ us) y
      completes row us r =
          let k = all.kinds q (entered_begins ls b t q e) row (t ∷ us) r in
          ((method m (ls ++ lines.line t.place k.0 ∷ []) ∷ ps, is_item k.0), method_line t q n i e l (record { row = row; line = r; is = k.1 }))

  -- a line of a method that is refused before it is read

  pub unread_ends : {m : MethodTree} {ls : List lines.Line} {ps : List Part} {b : Bool} {ts : List LineToken} (t : LineToken) → Walk any_height (method m ls ∷ ps, b) ts → word t ≢ word_case.LineEnd → ¬ IsHead t → ((q : LineState) → Enters ls b t (from q) → ¬ HasNoLoop ls q t → ⊥) → ¬ Begins (ts ++ t ∷ [])
  unread_ends {m} {ls} {ps} {b} t w n i never = none_begins t [] w (λ qs xs ys rest l e. no_line ys rest l e)
    where
      no_line : {y : Progress} {xs : List LineToken} (ys rest : List LineToken) → Line any_height (method m ls ∷ ps, b) xs y → xs ++ ys ≡ t ∷ rest → ⊥
      no_line ys rest (blank u f) split = let firsts : u ≡ t = cc in n (ap word (sym firsts) ∙ f)
      no_line ys rest (head u i' o) split = let firsts : u ≡ t = cc in i (subst IsHead firsts i')
      no_line ys rest (declaration u n' i' x) split = not_added x
      no_line ys rest (method_line u q n' i' e l v) split = let firsts : u ≡ t = cc in never q (subst (λ u. Enters ls b u (from q)) firsts e) (subst (λ u. ¬ HasNoLoop ls q u) firsts l)

  unread : {m : MethodTree} {ls : List lines.Line} {ps : List Part} {b : Bool} {ts : List LineToken} (t : LineToken) (us : List LineToken) → Walk any_height (method m ls ∷ ps, b) ts → word t ≢ word_case.LineEnd → ¬ IsHead t → {n : ℕ} → NumberOf (word t) n → ((q : LineState) → Enters ls b t (from q) → ¬ HasNoLoop ls q t → ⊥) → StopsAt (ts ++ t ∷ us) n t.place
  unread {ts = ts} t us w n i number never = record {
    before = ts;
    token = t;
    after = us;
    split = refl;
    place = refl;
    number = number;
    begins = itself w;
    stops = unread_ends t w n i never;
  }

  -- refusals

  pub barred_number : {ls : List lines.Line} {b : Bool} {t : LineToken} {n : ℕ} → Enters ls b t (barred n) → NumberOf (word t) n
  barred_number (chain_over h c) = by_word in_method
  barred_number {b = b} {t = t} (no_chain h c) = no_opener (either (is_chain_word (word t)) (is_loop_end_word (word t)) (inl (inside b (is_chain_word (word t)) h)))
  barred_number {b = b} {t = t} (no_loop h c) = no_opener (either (is_chain_word (word t)) (is_loop_end_word (word t)) (inr (inside b (is_loop_end_word (word t)) h)))
  barred_number (after_other h g c) = by_word in_method

  pub loop_word : (q : LineState) (w : Word) → IsTrue (leaves_loop q w) → IsTrue (is_loop_word w)
  loop_word state.Statement w h = h
  loop_word q w h = absurd cc

  stops : {x : Position} {ts us : List LineToken} {n : ℕ} {p : Place} → Walk any_height (x.parts, is_begun x.begun) ts → Fails x us n p → n ≢ refusal_number TooNested → StopsAt (ts ++ us) n p
  stops w (head_fails {t = t} {ts = us} i r) n = head_stops t us w i r n
  stops w (declaration_fails {t = t} {ts = us} e i d r) n = declaration_stops t us w e i d r n
  stops w (entry_fails {ls = ls} {t = t} {ts = us} e i f) n = unread t us w e i (barred_number f) (λ q g l. not_barred ls _ t g f)
  stops w (no_loop_fails {ls = ls} {t = t} {ts = us} {q = q} e i f l) n = unread t us w e i (outside_loop (loop_word q (word t) l.0)) (λ r g k. k (subst (λ q. HasNoLoop ls q t) (one_state ls _ t f g) l))
  stops w (too_deep_fails e i f d r o) n = absurd (n refl)
  stops w (line_fails {t = t} {ts = us} {q = q} e i f l d r) n = method_stops t us q w e i f l r n

  pub refusals_stand_first : (ts : List LineToken) (n : ℕ) (p : Place) → Parses ts (fault n p) → n ≢ refusal_number TooNested → StopsAt ts n p
  refusals_stand_first ts n p (fails g f) m = let z = gone all.kinds g in subst (λ ts. StopsAt ts n p) (sym z.split) (stops (walk_any within_limits z.walk) f m)
