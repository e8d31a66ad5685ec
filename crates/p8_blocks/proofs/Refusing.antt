-- The refusal that is read is the one that the tokens have.
use Rattle.std.proofs.Common.{◌≡◌, ℕ, ◌+◌, ◌≤◌, ◌<◌, ◌⊎◌, inl, inr, length, List, [], ◌∷◌, ◌++◌, Bool, true, false, refl, sym, ap, ◌∙◌, subst, append_assoc, append-nil, arith}
use Rattle.std.specs.Prelude.{IsTrue, ◌≢◌, None, unwrap_or}
use Rattle.std.proofs.lemmas.Bool.{cases_lt}
use Rattle.p8_tree.specs.declared.places.Place.{Place}
use Rattle.p8_tree.specs.Sources.{MethodTree}
use Rattle.p8_lexer.specs.declared.word.Word.{Word}
use Rattle.p8_lexer.specs.declared.word.Word.TheVariants as word_case
use Rattle.p8_tree.specs.declared.refusal.Refusal.TheVariants.{BadIndent, TooNested, LoopWord}
use Rattle.p8_tree.specs.Refusals.{refusal_number}
use Rattle.p8_grammar.specs.Lexemes.{in_method}
use Rattle.p8_columns.specs.declared.room.Room.TheVariants as room
use Rattle.p8_columns.specs.Lines as lines
use Rattle.p8_columns.specs.Columns.{open_for, innermost, HasRoom}
use Rattle.p8_lexer.specs.Pieces.{Piece}
use Rattle.p8_lines.specs.declared.state.LineState.{LineState}
use Rattle.p8_lines.specs.declared.state.LineState.TheVariants as state
use Rattle.p8_lines.specs.Diagram.{setting_at}
use Rattle.p8_lines.specs.Tokens.{LineToken, word}
use Rattle.p8_lines.specs.Lines as line_specs
use Rattle.p8_lines.specs.Lines.{Row, Leads, Outcome, Reads, refused, too_high, stopped, HasTooHigh, number_of}
use Rattle.p8_lines.proofs.Rows.{begun}
use Rattle.p8_lines.proofs.Readings.{leads_row, one_reading}
use Rattle.p8_statements.specs.Statements.{kind_of_row}
use Rattle.p8_blocks.specs.Reading.{Part, constants, variables, objects, assembly, method, Position, at, IsHead, head_state, line_state, declares, is_begun, Entry, from, barred, Enters, goes_on, chain_over, no_chain, loop_end, no_loop, statement, item, after_other, opens, greatest_depth, HasNoLoop, leaves_loop, IsTooDeep, IsRefusedAt, Fails, head_fails, declaration_fails, entry_fails, no_loop_fails, too_deep_fails, line_fails, Parses, fails, fault}
use Rattle.p8_blocks.specs.Files.{any_height, within_limits, is_item, IsFile, Begins, is_chain_word, is_loop_end_word, is_loop_word}
use Rattle.p8_blocks.specs.Refusals as refusals
use Rattle.p8_blocks.specs.Refusals.{BeginsWithinLimits, setting_behind, EndsInMethod, HasNoOpener, chain_missing, loop_missing, IsOutsideLoop, LacksOpener, LacksLoop, NumberAt, no_opener, by_word, IsRefusedThere, begun_from, line_begin, BeginsLine, behind_word, by_depth, unfit, too_nested, refused_there, IsRefused}
use Rattle.p8_blocks.proofs.Answering.{end_begins_none}
use Rattle.p8_blocks.proofs.After.{after_more}
use Rattle.p8_blocks.proofs.Depths.{Shallow}
use Rattle.p8_blocks.proofs.Entries.{one_state, one_number, not_barred}
use Rattle.p8_blocks.proofs.Walks.{Valued, Progress, Line, blank, head, declaration, method_line, Walk, walk_any}
use Rattle.p8_blocks.proofs.Keeping.{entered_begins, not_begun, not_begun_either}
use Rattle.p8_blocks.proofs.Walking.{not_chain, not_loop_end}
use Rattle.p8_blocks.proofs.Going.{AllShallow, gone, not_too_deep, opened_shallow, added_shallow}
use Rattle.p8_blocks.proofs.Stopping.{AllValues, walk_file, none_begins, row_stops, opening_row, row_opens, row_adds, declaration_row, method_row, unread_ends, inside, loop_word}
use Rattle.p8_blocks.proofs.Passing.{not_indent}
use Rattle.p8_blocks.proofs.Limits.{completes, goes_on_with, is_deep, too_deep_begins}
use Rattle.p8_blocks.proofs.Lows.{low_line, HighAt, high_at}
use Rattle.p8_blocks.proofs.Ending.{walk_ends, the_method}
use Rattle.p8_blocks.proofs.TextLines.{lines_begun}
use Rattle.p8_blocks.proofs.LastBlocks.{file_of, last_of}
use Rattle.p8_blocks.proofs.Settings.{begins_with, part_setting, head_setting, declared_setting, entered_setting, head_plain, line_plain, begins_plain, walk_setting}
use Rattle.p8_blocks.proofs.Fitting.{opens_within, adds_within, AtHand, itself_within, any_begins, stopped_so, none_within, stopped_within, high_so, high_within}

-- entries by what is lacking

pub opener_barred : {ls : List lines.Line} {t : LineToken} → HasNoOpener ls t → Enters ls false t (barred (refusal_number BadIndent))
opener_barred (chain_missing h c) = no_chain h c
opener_barred (loop_missing h c) = no_loop h c

pub loop_plain : (w : Word) → IsTrue (is_loop_word w) → (is_chain_word w ≡ false) × (is_loop_end_word w ≡ false)
loop_plain word_case.Next h = (refl, refl)
loop_plain word_case.Quit h = (refl, refl)
loop_plain w h = absurd cc

pub loop_enters : {ls : List lines.Line} (b : Bool) {t : LineToken} → IsOutsideLoop ls t → Enters ls b t (from state.Statement)
loop_enters b {t} o = let p = loop_plain (word t) o.leaves in statement (not_chain b (word t) p.0) (not_loop_end b (word t) p.1) o.room

room_in : {ls : List lines.Line} {b : Bool} {t : LineToken} {e : Entry} → Enters ls b t e → e ≡ from state.Statement → HasRoom room.Statement (innermost t.place.column ls)
room_in (statement h g c) e = c
room_in (goes_on h c) e = absurd cc
room_in (chain_over h c) e = absurd cc
room_in (no_chain h c) e = absurd cc
room_in (loop_end h c) e = absurd cc
room_in (no_loop h c) e = absurd cc
room_in (item h g c) e = absurd cc
room_in (after_other h g c) e = absurd cc

loop_state : (q : LineState) (w : Word) → IsTrue (leaves_loop q w) → q ≡ state.Statement
loop_state state.Statement w h = refl
loop_state q w h = absurd cc

abbrev Anything : List LineToken → Type 0
Anything zs = Unit {0}

-- tokens that begin with this one
abbrev From : LineToken → List LineToken → Type 0
From t zs = (us : List LineToken) × (zs ≡ t ∷ us)

-- a line's tokens up to one, where it begins with another
from_first : (t u v : LineToken) (vs us rest : List LineToken) → t ∷ us ≡ (v ∷ vs) ++ u ∷ rest → (later : List LineToken) → From t ((v ∷ vs) ++ later)
from_first t u v vs us rest e later = (vs ++ later, (let h : v ≡ t = cc in ap (λ x. x ∷ (vs ++ later)) h))

module _ (all : AllValues) where
  -- what follows a block's word

  head_rows : {x y : Progress} {xs : List LineToken} (t : LineToken) (ys zs : List LineToken) → IsHead t → Line any_height x xs y → xs ++ ys ≡ t ∷ zs → (row : List Piece) × (us : List LineToken) × Row (head_state (word t)) row us × (xs ≡ t ∷ us)
  head_rows t ys zs i (blank u e) split = let firsts : u ≡ t = cc in absurd (end_begins_none t (ap word (sym firsts) ∙ e) i)
  head_rows t ys zs i (declaration u n i' x) split = let firsts : u ≡ t = cc in absurd (i' (subst IsHead (sym firsts) i))
  head_rows t ys zs i (method_line u q n i' e l v) split = let firsts : u ≡ t = cc in absurd (i' (subst IsHead (sym firsts) i))
  head_rows t ys zs i (head {p = p} {us = us} u i' o) split =
      let firsts : u ≡ t = cc in
      let r = opening_row all (word u) us p o in
      (r.0, us, subst (λ u. Row (head_state (word u)) r.0 us) firsts r.1, ap (λ u. u ∷ us) firsts)

  head_at_hand : (ps : List Part) (b : Bool) (t : LineToken) → IsHead t → AllShallow ps → AtHand (ps, b) (t ∷ []) (head_state (word t)) Anything
  head_at_hand ps b t i h = record {
    rows = λ y xs ys zs l e _. head_rows t ys zs i l e;
    completes = λ row us r _. (let o = row_opens all (word t) i.0 row us r in ((o.0 ∷ ps, false), head t i o.1));
    fits =
        λ row us l _.
        let o = row_opens all (word t) i.0 row us (leads_row l) in
        let p = opens_within (word t) us o.0 o.1 l in
        ((o.0 ∷ ps, false), head t i p, (opened_shallow (word t) us o.0 p, h));
    again = λ c _ us p _ r. (refusal_number TooNested, p, head_fails i r);
    setting = λ c h. begins_with (part_setting ps) c t i h ∙ sym (head_setting (word t) i.0);
    plain = (head_plain (word t) i.0).0;
  }

  head_refused : {ps : List Part} {b : Bool} {ts : List LineToken} (t : LineToken) (us : List LineToken) {n : ℕ} {p : Place} → Walk within_limits (ps, b) ts → AllShallow ps → IsHead t → Reads (head_state (word t)) us (refused n p) → IsRefused (ts ++ t ∷ us) n p
  head_refused {ps} {b} t us w h i (stopped {us = vs} u rest e begins no_line stop low) =
      stopped_within all w h (head_at_hand ps b t i h) vs u rest us e begins no_line stop (low_line vs begins low) t vs refl (λ _. tt)
  head_refused {ps} {b} {ts} t us w h i (too_high e l x g) =
      let y = high_at (too_high e l x g) refl in
      let file = walk_file all (walk_any within_limits w) in
      high_within all w h (head_at_hand ps b t i h) us y (ts ++ t ∷ []) (sym (append_assoc ts (t ∷ []) y.front)) (λ u vs k. behind_word t file.1 i) t y.front refl (λ _. tt)

  -- a line of a block that isn't a method

  declared_at_hand : (ps : List Part) (b : Bool) (t : LineToken) → word t ≢ word_case.LineEnd → ¬ IsHead t → IsTrue (declares ps) → AllShallow ps → AtHand (ps, b) [] (line_state ps) (From t)
  declared_at_hand ps b t n i d h = record {
    rows = λ y xs ys zs l e s. (let r = declaration_row all t n i d y xs ys s.0 l (e ∙ s.1) in (r.0, xs, r.1, refl));
    completes = λ row us r s. go row us s.0 s.1 r;
    fits = λ row us l s. low row us s.0 s.1 l;
    again = λ c _ us p s r. (refusal_number TooNested, p, subst (λ l. Fails (at ps c) l (refusal_number TooNested) p) (sym s.1) (declaration_fails n i d (subst (λ l. Reads (line_state ps) l (refused (refusal_number TooNested) p)) s.1 r)));
    setting = λ c h. sym (declared_setting ps d);
    plain = (line_plain ps).0;
  }
    where
      go : (row : List Piece) (us vs : List LineToken) → us ≡ t ∷ vs → Row (line_state ps) row us → (y : Progress) × Line any_height (ps, b) us y
      go row us vs e r =
          let x = row_adds all ps d row (t ∷ vs) (subst (λ l. Row (line_state ps) row l) e r) in
          ((x.0, false), subst (λ l. Line any_height (ps, b) l (x.0, false)) (sym e) (declaration t n i x.1))

      low : (row : List Piece) (us vs : List LineToken) → us ≡ t ∷ vs → Leads (line_state ps) us row state.End → (y : Progress) × Line within_limits (ps, b) us y × AllShallow y.0
      low row us vs e l =
          let k = subst (λ l. Leads (line_state ps) l row state.End) e l in
          let x = row_adds all ps d row (t ∷ vs) (leads_row k) in
          let z = adds_within x.1 k in
          ((x.0, false), subst (λ l. Line within_limits (ps, b) l (x.0, false)) (sym e) (declaration t n i z), added_shallow z h)

  not_in_method : {ps : List Part} {b : Bool} {ts : List LineToken} → Walk any_height (ps, b) ts → IsTrue (declares ps) → (ls : List lines.Line) (c : Bool) → ¬ EndsInMethod ts ls c
  not_in_method {ps} {b} w d ls c m = let v = the_method all.kinds w m in go v.0 v.1 ps d (ap (λ x. x.0) v.2)
    where
      go : (m : MethodTree) (qs ps : List Part) → IsTrue (declares ps) → ps ≡ method m ls ∷ qs → ⊥
      go m qs [] d e = absurd cc
      go m qs (constants xs ∷ ps) d e = absurd cc
      go m qs (variables xs ∷ ps) d e = absurd cc
      go m qs (objects xs ∷ ps) d e = absurd cc
      go m qs (assembly xs ∷ ps) d e = absurd cc
      go m qs (method n ms ∷ ps) d e = absurd cc

  -- the tokens of a walk, with nothing after them
  behind : {x : Progress} {ts : List LineToken} → Walk within_limits x ts → AllShallow x.0 → BeginsWithinLimits (ts ++ [])
  behind {ts = ts} w h = subst BeginsWithinLimits (sym (append-nil ts)) (itself_within all w h)

  declared_refused : {ps : List Part} {b : Bool} {ts : List LineToken} (t : LineToken) (us : List LineToken) {n : ℕ} {p : Place} → Walk within_limits (ps, b) ts → AllShallow ps → word t ≢ word_case.LineEnd → ¬ IsHead t → IsTrue (declares ps) → Reads (line_state ps) (t ∷ us) (refused n p) → IsRefused (ts ++ t ∷ us) n p
  declared_refused {ps} {b} {ts} t us w h n i d (stopped {us = vs} u rest e begins no_line stop low) = go vs e begins no_line stop low
    where
      none : (ls : List lines.Line) (c : Bool) → ¬ EndsInMethod (ts ++ []) ls c
      none ls c m = not_in_method (walk_any within_limits w) d ls c (subst (λ l. EndsInMethod l ls c) (append-nil ts) m)

      go : (vs : List LineToken) → t ∷ us ≡ vs ++ u ∷ rest → line_specs.Begins (line_state ps) vs → ((row : List Piece) → ¬ Row (line_state ps) row vs) → ¬ line_specs.Begins (line_state ps) (vs ++ u ∷ []) → ¬ HasTooHigh (line_state ps) vs → IsRefused (ts ++ t ∷ us) (number_of (setting_at (line_state ps)) (word u)) u.place
      go [] e begins no_line stop low = stopped_so all w h (declared_at_hand ps b t n i d h) [] u rest (t ∷ us) e begins no_line stop (λ later. (later, (let k : u ≡ t = cc in ap (λ x. x ∷ later) k))) (behind w h) none
      go (v ∷ vs) e begins no_line stop low = stopped_within all w h (declared_at_hand ps b t n i d h) (v ∷ vs) u rest (t ∷ us) e begins no_line stop (low_line (v ∷ vs) begins low) v vs refl (from_first t u v vs us rest e)
  declared_refused {ps} {b} {ts} t us {p = p} w h n i d (too_high e l x g) = go y.front refl
    where
      y : HighAt (line_state ps) (t ∷ us) p
      y = high_at (too_high e l x g) refl

      begins : (u : LineToken) (vs : List LineToken) → y.front ++ y.token ∷ y.rest ≡ u ∷ vs → BeginsLine ts u (line_state ps)
      begins u vs k =
          let whole : t ∷ us ≡ u ∷ vs = y.split ∙ k in
          let same : t ≡ u = cc in
          let file = file_of all (walk_any within_limits w) in
          subst (λ u. BeginsLine ts u (line_state ps)) same (refusals.declaration file.1 (last_of file.2 d) n i)

      none : (ls : List lines.Line) (c : Bool) → ¬ EndsInMethod (ts ++ []) ls c
      none ls c m = not_in_method (walk_any within_limits w) d ls c (subst (λ l. EndsInMethod l ls c) (append-nil ts) m)

      go : (vs : List LineToken) → y.front ≡ vs → IsRefused (ts ++ t ∷ us) (refusal_number TooNested) p
      go [] k =
          let whole : t ∷ us ≡ y.token ∷ y.rest = y.split ∙ ap (λ l. l ++ y.token ∷ y.rest) k in
          let same : y.token ≡ t = cc in
          high_so all w h (declared_at_hand ps b t n i d h) (t ∷ us) y ts refl begins (subst (λ l. BeginsWithinLimits (ts ++ l)) (sym k) (behind w h)) (λ ls c m. none ls c (subst (λ l. EndsInMethod (ts ++ l) ls c) k m))
          (λ later. (later, ap (λ l. l ++ y.token ∷ later) k ∙ ap (λ x. x ∷ later) same))
      go (v ∷ vs) k =
          let whole : t ∷ us ≡ (v ∷ vs) ++ y.token ∷ y.rest = y.split ∙ ap (λ l. l ++ y.token ∷ y.rest) k in
          high_within all w h (declared_at_hand ps b t n i d h) (t ∷ us) y ts refl begins v vs k (λ later. (let z = from_first t y.token v vs us y.rest whole later in (z.0, ap (λ l. l ++ later) k ∙ z.1)))

  -- a line of a method

  module _ {m : MethodTree} {ls : List lines.Line} {ps : List Part} {b : Bool} {ts : List LineToken} (w : Walk within_limits (method m ls ∷ ps, b) ts) (h : AllShallow (method m ls ∷ ps)) (t : LineToken) where
    same_lines : {ks : List lines.Line} {c : Bool} → EndsInMethod ts ks c → (ks ≡ ls) × (c ≡ b)
    same_lines {ks} {c} k =
        let v = the_method all.kinds (walk_any within_limits w) k in
        let parts : method m ls ∷ ps ≡ method v.0 ks ∷ v.1 = ap (λ x. x.0) v.2 in
        (cc, ap (λ x. x.1) (sym v.2))

    lacks_opener : LacksOpener ts t → Enters ls b t (barred (refusal_number BadIndent))
    lacks_opener (ks, k, o) =
        let s = same_lines k in
        subst (λ c. Enters ls c t (barred (refusal_number BadIndent))) s.1 (subst (λ ks. Enters ks false t (barred (refusal_number BadIndent))) s.0 (opener_barred o))

    lacks_loop : LacksLoop ts t → IsOutsideLoop ls t
    lacks_loop (ks, c, k, o) = subst (λ ks. IsOutsideLoop ks t) (same_lines k).0 o

    -- a line that is entered lacks none
    entered_lacks : (q : LineState) → Enters ls b t (from q) → ¬ HasNoLoop ls q t → ¬ LacksOpener ts t × ¬ LacksLoop ts t
    entered_lacks q e l = (
      λ o. not_barred ls b t e (lacks_opener o),
      λ o.
          let x = lacks_loop o in
          let same : state.Statement ≡ q = one_state ls b t (loop_enters b x) e in
          l (subst (λ q. HasNoLoop ls q t) same (x.leaves, x.outside)),
    )

    -- refused before it is read

    in_a_method : setting_behind ts ≡ in_method
    in_a_method = walk_setting all (walk_any within_limits w)

    barred_at : {n : ℕ} → Enters ls b t (barred n) → NumberAt ts t n
    barred_at x = go x x
      where
        by_its_word : Enters ls b t (barred (number_of in_method (word t))) → NumberAt ts t (number_of in_method (word t))
        by_its_word x = subst (λ s. NumberAt ts t (number_of s (word t))) in_a_method (by_word (λ o. not_indent in_method (word t) (one_number ls b t x (lacks_opener o))) (λ o. not_barred ls b t (loop_enters b (lacks_loop o)) x))

        ends : (c : Bool) → c ≡ b → b ≡ false → EndsInMethod ts ls false
        ends c e f = subst (λ b. EndsInMethod ts ls b) f (walk_ends all.kinds (walk_any within_limits w))

        go : {n : ℕ} → Enters ls b t (barred n) → Enters ls b t (barred n) → NumberAt ts t n
        go (no_chain x c) y = no_opener (ls, ends b refl (not_begun b (word t) x), chain_missing (inside b (is_chain_word (word t)) x) c)
        go (no_loop x c) y = no_opener (ls, ends b refl (not_begun_either b (word t) x), loop_missing (inside b (is_loop_end_word (word t)) x) c)
        go (chain_over x c) y = by_its_word y
        go (after_other x g c) y = by_its_word y

    unread_refused : (us : List LineToken) {n : ℕ} → word t ≢ word_case.LineEnd → ¬ IsHead t → NumberAt ts t n → ((q : LineState) → Enters ls b t (from q) → ¬ HasNoLoop ls q t → ⊥) → IsRefused (ts ++ t ∷ us) n t.place
    unread_refused us n i number never =
        let none = unread_ends all t (walk_any within_limits w) n i never in
        record {
          before = ts;
          token = t;
          after = us;
          split = refl;
          begins = itself_within all w h;
          stops = λ y. none (any_begins all (ts ++ t ∷ []) y);
          refusal = unfit none number;
        }

    outside_at : (q : LineState) → Enters ls b t (from q) → HasNoLoop ls q t → NumberAt ts t (refusal_number LoopWord)
    outside_at q e l =
        let same = loop_state q (word t) l.0 in
        refusals.no_loop (ls, b, walk_ends all.kinds (walk_any within_limits w), record { leaves = loop_word all q (word t) l.0; room = room_in (subst (λ q. Enters ls b t (from q)) same e) refl; outside = l.1 })

    module _ (q : LineState) (n : word t ≢ word_case.LineEnd) (i : ¬ IsHead t) (e : Enters ls b t (from q)) where
      -- read, and too deep

      deep_stops : IsTooDeep ls q t → ¬ BeginsWithinLimits (ts ++ t ∷ [])
      deep_stops d (rest, s, f) = is_deep all (walk_any within_limits w) t q n i e d rest s (subst (λ l. IsFile within_limits s l) (append_assoc ts (t ∷ []) rest) f.0) f.1

      itself_there : {us : List LineToken} {k : ℕ} → IsRefusedThere ts t us k → Reads q (t ∷ us) (refused k t.place)
      itself_there {us} {k} r =
          let s = same_lines r.method in
          let x = subst (λ c. Enters ls c t (from r.state)) s.1 (subst (λ ks. Enters ks r.begun t (from r.state)) s.0 r.enters) in
          subst (λ q. Reads q (t ∷ us) (refused k t.place)) (one_state ls b t x e) r.reads

      deep_refused : (us : List LineToken) {o : Outcome} {p : Place} → IsTooDeep ls q t → Reads q (t ∷ us) o → ¬ IsRefusedAt t.place o → p ≡ line_begin ts t → IsRefused (ts ++ t ∷ us) (refusal_number TooNested) p
      deep_refused us {o} d r m place =
          let none : (k : ℕ) → ¬ IsRefusedThere ts t us k = λ k x. m (subst (IsRefusedAt t.place) (one_reading q (t ∷ us) (refused k t.place) o (itself_there x) r) refl) in
          let x : IsRefused (ts ++ t ∷ us) (refusal_number TooNested) (line_begin ts t) = record {
            before = ts;
            token = t;
            after = us;
            split = refl;
            begins = itself_within all w h;
            stops = deep_stops d;
            refusal = too_nested (too_deep_begins all t (walk_any within_limits w) n i e d r m) none (by_depth (record { lines = ls; begun = b; state = q; method = walk_ends all.kinds (walk_any within_limits w); not_end = n; no_head = i; enters = e; deep = d }));
          } in
          subst (IsRefused (ts ++ t ∷ us) (refusal_number TooNested)) (sym place) x

      first_ends : line_specs.Begins q [] → ((row : List Piece) → ¬ Row q row []) → ¬ line_specs.Begins q (t ∷ []) → ¬ Begins (ts ++ t ∷ [])
      first_ends begins no_line stop = none_begins all t [] (walk_any within_limits w) (λ y xs ys rest k f. (let r = method_row all t q n i e y xs ys rest k f in row_stops [] ys rest t r.1 f begins no_line stop))

      module _ (l : ¬ HasNoLoop ls q t) where
        -- the line's first token can't stand there
        first_refused : (us : List LineToken) → line_specs.Begins q [] → ((row : List Piece) → ¬ Row q row []) → ¬ line_specs.Begins q (t ∷ []) → IsRefused (ts ++ t ∷ us) (number_of (setting_at q) (word t)) t.place
        first_refused us begins no_line stop =
            let lacks = entered_lacks q e l in
            let number : NumberAt ts t (number_of (setting_at q) (word t)) = subst (λ s. NumberAt ts t (number_of s (word t))) (in_a_method ∙ sym (entered_setting q (entered_begins ls b t q e))) (by_word lacks.0 lacks.1) in
            let none = first_ends begins no_line stop in
            record {
              before = ts;
              token = t;
              after = us;
              split = refl;
              begins = itself_within all w h;
              stops = λ y. none (any_begins all (ts ++ t ∷ []) y);
              refusal = unfit none number;
            }

        -- the line goes past the limits with its first token, and is refused there
        there_refused : (us : List LineToken) {k : ℕ} {p : Place} → ¬ BeginsWithinLimits (ts ++ t ∷ []) → line_specs.Begins q (t ∷ []) → Reads q (t ∷ us) (refused k p) → p ≡ t.place → IsRefused (ts ++ t ∷ us) k p
        there_refused us {k} stop begins r same =
            let r' : Reads q (t ∷ us) (refused k t.place) = subst (λ p. Reads q (t ∷ us) (refused k p)) same r in
            let x : IsRefused (ts ++ t ∷ us) k t.place = record {
              before = ts;
              token = t;
              after = us;
              split = refl;
              begins = itself_within all w h;
              stops = stop;
              refusal = refused_there (goes_on_with all (walk_any within_limits w) t q n i e l [] begins) (record { lines = ls; begun = b; state = q; method = walk_ends all.kinds (walk_any within_limits w); enters = e; reads = r' });
            } in
            subst (IsRefused (ts ++ t ∷ us) k) (sym same) x

        deep_line : (us : List LineToken) {k : ℕ} {p : Place} → IsTooDeep ls q t → p ≡ t.place → Reads q (t ∷ us) (refused k p) → IsRefused (ts ++ t ∷ us) k p
        deep_line us d same (stopped {us = vs} u rest f begins no_line stop low) = go vs f begins no_line stop low
          where
            go : (vs : List LineToken) → t ∷ us ≡ vs ++ u ∷ rest → line_specs.Begins q vs → ((row : List Piece) → ¬ Row q row vs) → ¬ line_specs.Begins q (vs ++ u ∷ []) → ¬ HasTooHigh q vs → IsRefused (ts ++ t ∷ us) (number_of (setting_at q) (word u)) u.place
            go [] f begins no_line stop low =
                let firsts : t ≡ u = cc in
                subst (λ u. IsRefused (ts ++ t ∷ us) (number_of (setting_at q) (word u)) u.place) firsts (first_refused us begins no_line (subst (λ u. ¬ line_specs.Begins q (u ∷ [])) (sym firsts) stop))
            go (v ∷ vs) f begins no_line stop low =
                let firsts : v ≡ t = cc in
                there_refused us (deep_stops d) (subst (λ v. line_specs.Begins q (v ∷ [])) firsts (begun (v ∷ []) vs begins)) (stopped u rest f begins no_line stop low) same
        deep_line us {p = p} d same (too_high f k x z) = go y.front refl
          where
            y : HighAt q (t ∷ us) p
            y = high_at (too_high f k x z) refl

            go : (vs : List LineToken) → y.front ≡ vs → IsRefused (ts ++ t ∷ us) (refusal_number TooNested) p
            go [] j =
                let firsts : y.token ≡ t = (let whole : t ∷ us ≡ y.token ∷ y.rest = y.split ∙ ap (λ l. l ++ y.token ∷ y.rest) j in cc) in
                there_refused us (deep_stops d) (subst (λ u. line_specs.Begins q (u ∷ [])) firsts (subst (λ l. line_specs.Begins q (l ++ y.token ∷ [])) j y.begins)) (too_high f k x z) same
            go (v ∷ vs) j =
                let firsts : v ≡ t = (let whole : t ∷ us ≡ (v ∷ vs) ++ y.token ∷ y.rest = y.split ∙ ap (λ l. l ++ y.token ∷ y.rest) j in cc) in
                there_refused us (deep_stops d) (subst (λ u. line_specs.Begins q (u ∷ [])) firsts (begun (v ∷ []) (vs ++ y.token ∷ []) (subst (λ l. line_specs.Begins q (l ++ y.token ∷ [])) j y.begins))) (too_high f k x z) same

        -- the line isn't too deep

        module _ (d : ¬ IsTooDeep ls q t) where
          fits : (row : List Piece) (us vs : List LineToken) → us ≡ t ∷ vs → Leads q us row state.End → (y : Progress) × Line within_limits (method m ls ∷ ps, b) us y × AllShallow y.0
          fits row us vs f leads =
              let x = subst (λ l. Leads q l row state.End) f leads in
              let k = all.kinds q (entered_begins ls b t q e) row (t ∷ vs) (leads_row x) in
              let v : Valued within_limits kind_of_row q (t ∷ vs) k.0 = record { row = row; line = x; is = k.1 } in
              let y : Progress = (method m (ls ++ lines.line t.place k.0 ∷ []) ∷ ps, is_item k.0) in
              (y, subst (λ l. Line within_limits (method m ls ∷ ps, b) l y) (sym f) (method_line t q n i e l v), (after_more Shallow ls (lines.line t.place k.0) h.0 (not_too_deep all.kinds ls t vs q k.0 e v d), h.1))

          goes_on_so : (row : List Piece) (us vs : List LineToken) → us ≡ t ∷ vs → Row q row us → (y : Progress) × Line any_height (method m ls ∷ ps, b) us y
          goes_on_so row us vs f r =
              let x = completes all {m = m} {ps = ps} t q n i e l row vs (subst (λ l. Row q row l) f r) in
              (x.0, subst (λ l. Line any_height (method m ls ∷ ps, b) l x.0) (sym f) x.1)

          line_at_hand : AtHand (method m ls ∷ ps, b) [] q (From t)
          line_at_hand = record {
            rows = λ y xs ys zs k f s. (let r = method_row all t q n i e y xs ys s.0 k (f ∙ s.1) in (r.0, xs, r.1, refl));
            completes = λ row us r s. goes_on_so row us s.0 s.1 r;
            fits = λ row us k s. fits row us s.0 s.1 k;
            again = λ c f us p s r. (refusal_number TooNested, p, subst (λ k. Fails (at (method m ls ∷ ps) c) k (refusal_number TooNested) p) (sym s.1) (line_fails n i (subst (λ c. Enters ls c t (from q)) (sym f) e) l (λ x. absurd (d x)) (subst (λ k. Reads q k (refused (refusal_number TooNested) p)) s.1 r)));
            setting = λ c h. sym (entered_setting q (entered_begins ls b t q e));
            plain = begins_plain q (entered_begins ls b t q e);
          }

          line_refused : (us : List LineToken) {k : ℕ} {p : Place} → Reads q (t ∷ us) (refused k p) → IsRefused (ts ++ t ∷ us) k p
          line_refused us (stopped {us = vs} u rest f begins no_line stop low) = go vs f begins no_line stop low
            where
              go : (vs : List LineToken) → t ∷ us ≡ vs ++ u ∷ rest → line_specs.Begins q vs → ((row : List Piece) → ¬ Row q row vs) → ¬ line_specs.Begins q (vs ++ u ∷ []) → ¬ HasTooHigh q vs → IsRefused (ts ++ t ∷ us) (number_of (setting_at q) (word u)) u.place
              go [] f begins no_line stop low =
                  let firsts : t ≡ u = cc in
                  subst (λ u. IsRefused (ts ++ t ∷ us) (number_of (setting_at q) (word u)) u.place) firsts (first_refused us begins no_line (subst (λ u. ¬ line_specs.Begins q (u ∷ [])) (sym firsts) stop))
              go (v ∷ vs) f begins no_line stop low = stopped_within all w h line_at_hand (v ∷ vs) u rest (t ∷ us) f begins no_line stop (low_line (v ∷ vs) begins low) v vs refl (from_first t u v vs us rest f)
          line_refused us {p = p} (too_high f k x z) = go y.front refl
            where
              y : HighAt q (t ∷ us) p
              y = high_at (too_high f k x z) refl

              line_begins : (u : LineToken) (vs : List LineToken) → y.front ++ y.token ∷ y.rest ≡ u ∷ vs → BeginsLine ts u q
              line_begins u vs j =
                  let whole : t ∷ us ≡ u ∷ vs = y.split ∙ j in
                  let same : t ≡ u = cc in
                  subst (λ u. BeginsLine ts u q) same (refusals.method_line (walk_ends all.kinds (walk_any within_limits w)) n i e)

              -- one token alone
              at_first : y.front ≡ [] → IsRefused (ts ++ t ∷ us) (refusal_number TooNested) p
              at_first j =
                  let firsts : y.token ≡ t = (let whole : t ∷ us ≡ y.token ∷ y.rest = y.split ∙ ap (λ l. l ++ y.token ∷ y.rest) j in cc) in
                  let again : (later : List LineToken) → Reads q (t ∷ later) (refused (refusal_number TooNested) p) = λ later. subst (λ u. Reads q (u ∷ later) (refused (refusal_number TooNested) p)) firsts (subst (λ l. Reads q (l ++ y.token ∷ later) (refused (refusal_number TooNested) p)) j (y.again later)) in
                  let stop = none_within all w h line_at_hand [] t p again (λ later. (later, refl)) in
                  there_refused us (subst (λ l. ¬ BeginsWithinLimits (l ++ t ∷ [])) (append-nil ts) stop)
                  (subst (λ u. line_specs.Begins q (u ∷ [])) firsts (subst (λ l. line_specs.Begins q (l ++ y.token ∷ [])) j y.begins))
                  (again us) (y.at_once j ∙ ap (λ x. x.place) firsts)

              go : (vs : List LineToken) → y.front ≡ vs → IsRefused (ts ++ t ∷ us) (refusal_number TooNested) p
              go [] j = at_first j
              go (v ∷ vs) j =
                  let whole : t ∷ us ≡ (v ∷ vs) ++ y.token ∷ y.rest = y.split ∙ ap (λ l. l ++ y.token ∷ y.rest) j in
                  high_within all w h line_at_hand (t ∷ us) y ts refl line_begins v vs j (λ later. (let s = from_first t y.token v vs us y.rest whole later in (s.0, ap (λ l. l ++ later) j ∙ s.1)))

  -- whether a line opens a block too many is known
  too_deep_or_not : (ls : List lines.Line) (q : LineState) (t : LineToken) → IsTooDeep ls q t ⊎ ¬ IsTooDeep ls q t
  too_deep_or_not ls q t = go (opens q (word t)) refl (cases_lt (length (open_for t.place.column ls) + 1) greatest_depth)
    where
      go : (b : Bool) → opens q (word t) ≡ b → (length (open_for t.place.column ls) + 1 < greatest_depth) ⊎ (greatest_depth ≤ length (open_for t.place.column ls) + 1) → IsTooDeep ls q t ⊎ ¬ IsTooDeep ls q t
      go false o c = inr (λ d. (let z = sym o ∙ d.0 in cc))
      go true o (inr le) = inl (o, le)
      go true o (inl lt) = inr (λ d. (let le = d.1 in absurd (omega (arith, lt, le))))

  refused_so : {x : Position} {ts us : List LineToken} {n : ℕ} {p : Place} → Walk within_limits (x.parts, is_begun x.begun) ts → AllShallow x.parts → begun_from None ts ≡ x.begun → Fails x us n p → IsRefused (ts ++ us) n p
  refused_so w h o (head_fails {t = t} {ts = us} i r) = head_refused t us w h i r
  refused_so w h o (declaration_fails {t = t} {ts = us} n i d r) = declared_refused t us w h n i d r
  refused_so w h o (entry_fails {ls = ls} {t = t} {ts = us} n i e) = unread_refused w h t us n i (barred_at w h t e) (λ q f _. not_barred ls _ t f e)
  refused_so w h o (no_loop_fails {ls = ls} {t = t} {ts = us} {q = q} n i e l) = unread_refused w h t us n i (outside_at w h t q e l) (λ r f k. k (subst (λ q. HasNoLoop ls q t) (one_state ls _ t e f) l))
  refused_so w h o (too_deep_fails {t = t} {ts = us} {q = q} n i e d r m) = deep_refused w h t q n i e us d r m (ap (λ b. unwrap_or b t.place) (sym o))
  refused_so {ts = ts} {n = k} {p = p} w h o (line_fails {ls = ls} {t = t} {ts = us} {q = q} n i e l d r) = go (too_deep_or_not ls q t)
    where
      go : IsTooDeep ls q t ⊎ ¬ IsTooDeep ls q t → IsRefused (ts ++ t ∷ us) k p
      go (inl deep) = deep_line w h t q n i e l us deep (d deep) r
      go (inr fit) = line_refused w h t q n i e l fit us r

  pub refused_as_read : (ts : List LineToken) (n : ℕ) (p : Place) → Parses ts (fault n p) → IsRefused ts n p
  refused_as_read ts n p (fails g f) =
      let z = gone all.kinds g in
      subst (λ ts. IsRefused ts n p) (sym z.split) (refused_so z.walk z.shallow (lines_begun all g) f)
