-- Tokens have one refusal, and a file within the limits has none.
use Rattle.std.proofs.Common.{◌≡◌, ℕ, List, [], ◌∷◌, ◌++◌, Some, Bool, false, refl, sym, ap, ◌∙◌, subst, append_assoc, append-nil}
use Rattle.std.specs.Prelude.{IsTrue, ◌≢◌}
use Rattle.p8_tree.specs.declared.places.Place.{Place}
use Rattle.p8_tree.specs.Sources.{Source}
use Rattle.p8_lexer.specs.declared.word.Word.TheVariants as word_case
use Rattle.p8_tree.specs.declared.refusal.Refusal.TheVariants.{TooNested}
use Rattle.p8_tree.specs.Refusals.{refusal_number}
use Rattle.p8_columns.specs.Lines as lines
use Rattle.p8_lines.specs.declared.state.LineState.{LineState}
use Rattle.p8_lines.specs.Tokens.{LineToken, word}
use Rattle.p8_lines.specs.Lines.{refused, Reads}
use Rattle.p8_lines.proofs.Splits.{Compared, same, beyond, short, compare}
use Rattle.p8_lines.proofs.Readings.{one_reading}
use Rattle.p8_blocks.specs.Reading.{method, IsHead, head_state, Enters, from, HasNoLoop, IsTooDeep, head_fails, declaration_fails, line_fails, Parses, fails, fault}
use Rattle.p8_blocks.specs.Trees.{IsShallow}
use Rattle.p8_blocks.specs.Files.{any_height, within_limits, IsFile, IsFileWithinLimits, Begins}
use Rattle.p8_blocks.specs.Refusals.{BeginsWithinLimits, EndsInMethod, HasNoOpener, chain_missing, loop_missing, LacksOpener, LacksLoop, NumberAt, no_opener, no_loop, by_word, last_state, BeginsLine, behind_word, declaration, method_line, OpensTooMany, NestedAt, by_depth, by_height, IsRefusedThere, RefusedBy, unfit, too_nested, refused_there, IsRefused}
use Rattle.p8_blocks.proofs.Answering.{one_answer}
use Rattle.p8_blocks.proofs.Entries.{one_state}
use Rattle.p8_blocks.proofs.Walking.{file_walk}
use Rattle.p8_blocks.proofs.Going.{goes}
use Rattle.p8_blocks.proofs.Stopping.{AllValues, unread_ends}
use Rattle.p8_blocks.proofs.Limits.{is_deep}
use Rattle.p8_blocks.proofs.Lows.{same_first}
use Rattle.p8_blocks.proofs.Ending.{method_walk, one_place}
use Rattle.p8_blocks.proofs.Prefixes.{within_before}
use Rattle.p8_blocks.proofs.LastBlocks.{declares_of}
use Rattle.p8_blocks.proofs.Refusing.{loop_plain}

-- numbers

not_both : (before : List LineToken) (t : LineToken) → LacksOpener before t → ¬ LacksLoop before t
not_both before t (ks, k, o) (ls, b, l, x) = go o
  where
    refuted : (b : Bool) → b ≡ false → ¬ IsTrue b
    refuted b e h = let z = sym e ∙ h in cc

    go : HasNoOpener ks t → ⊥
    go (chain_missing h c) = refuted _ (loop_plain (word t) x.leaves).0 h
    go (loop_missing h c) = refuted _ (loop_plain (word t) x.leaves).1 h

one_number : {before : List LineToken} {t : LineToken} {n k : ℕ} → NumberAt before t n → NumberAt before t k → n ≡ k
one_number (no_opener x) (no_opener y) = refl
one_number {before} {t} (no_opener x) (no_loop y) = absurd (not_both before t x y)
one_number (no_opener x) (by_word y z) = absurd (y x)
one_number {before} {t} (no_loop x) (no_opener y) = absurd (not_both before t y x)
one_number (no_loop x) (no_loop y) = refl
one_number (no_loop x) (by_word y z) = absurd (z x)
one_number (by_word x y) (no_opener z) = absurd (x z)
one_number (by_word x y) (no_loop z) = absurd (y z)
one_number (by_word x y) (by_word z v) = refl

-- tokens that begin files

fewer : (xs ys : List LineToken) → BeginsWithinLimits (xs ++ ys) → BeginsWithinLimits xs
fewer xs ys (rest, s, f) = (ys ++ rest, s, subst (IsFileWithinLimits s) (append_assoc xs ys rest) f)

-- what begins a file within the limits doesn't go on past a token that doesn't
not_further : (xs : List LineToken) (t : LineToken) (ys zs : List LineToken) → zs ≡ xs ++ t ∷ ys → BeginsWithinLimits zs → BeginsWithinLimits (xs ++ t ∷ [])
not_further xs t ys zs e b = fewer (xs ++ t ∷ []) ys (subst BeginsWithinLimits (e ∙ sym (append_assoc xs (t ∷ []) ys)) b)

begins_first : (ts : List LineToken) (u : LineToken) (vs : List LineToken) → Begins (ts ++ u ∷ vs) → Begins (ts ++ u ∷ [])
begins_first ts u vs (rest, s, f) = (vs ++ rest, s, subst (IsFile any_height s) (append_assoc ts (u ∷ vs) rest ∙ sym (append_assoc ts (u ∷ []) (vs ++ rest))) f)

module _ (all : AllValues) where
  -- a line that is refused at its own first token

  one_there : {before : List LineToken} {t : LineToken} {after : List LineToken} {n k : ℕ} → IsRefusedThere before t after n → IsRefusedThere before t after k → n ≡ k
  one_there {before} {t} {after} {n} {k} x y =
      let v = method_walk all.kinds x.method in
      let w = method_walk all.kinds y.method in
      let e = one_place v.2 w.2 in
      let parts : method v.0 x.lines ∷ v.1 ≡ method w.0 y.lines ∷ w.1 = ap (λ x. x.0) e in
      let lines : y.lines ≡ x.lines = cc in
      let entered = subst (λ b. Enters x.lines b t (from y.state)) (sym (ap (λ x. x.1) e)) (subst (λ ls. Enters ls y.begun t (from y.state)) lines y.enters) in
      let states : y.state ≡ x.state = one_state x.lines x.begun t entered x.enters in
      let answers : refused n t.place ≡ refused k t.place = one_reading x.state (t ∷ after) (refused n t.place) (refused k t.place) x.reads (subst (λ q. Reads q (t ∷ after) (refused k t.place)) states y.reads) in
      cc

  -- an expression that is too high is read so

  module _ (before : List LineToken) (t : LineToken) (after : List LineToken) {p : Place} (within : BeginsWithinLimits before) (begins : Begins (before ++ t ∷ [])) (ts : List LineToken) (u : LineToken) (us vs : List LineToken) (q : LineState) (split : before ≡ ts ++ us) (line : us ++ t ∷ after ≡ u ∷ vs) (fits : ¬ OpensTooMany before t) (r : Reads q (u ∷ vs) (refused (refusal_number TooNested) p)) where
    whole : before ++ t ∷ after ≡ ts ++ u ∷ vs
    whole = ap (λ l. l ++ t ∷ after) split ∙ append_assoc ts us (t ∷ after) ∙ ap (λ l. ts ++ l) line

    word_read : {s : Source} {os : List LineToken} (v : LineToken) → IsFile any_height s os → IsHead v → ts ≡ os ++ v ∷ [] → q ≡ head_state (word v) → Parses (before ++ t ∷ after) (fault (refusal_number TooNested) p)
    word_read {os = os} v f i e states =
        let x = file_walk all.kinds f in
        let there : before ≡ os ++ v ∷ us = split ∙ ap (λ l. l ++ us) e ∙ append_assoc os (v ∷ []) us in
        let w = within_before all.kinds (v ∷ us) x.walk (subst BeginsWithinLimits there within) in
        let g = goes all.kinds w.0 w.1 (v ∷ u ∷ vs) in
        let all_tokens : os ++ v ∷ u ∷ vs ≡ before ++ t ∷ after = sym (append_assoc os (v ∷ []) (u ∷ vs)) ∙ ap (λ l. l ++ u ∷ vs) (sym e) ∙ sym whole in
        subst (λ l. Parses l (fault (refusal_number TooNested) p)) all_tokens (fails g.2 (head_fails i (subst (λ q. Reads q (u ∷ vs) (refused (refusal_number TooNested) p)) states r)))

    declaration_read : {s : Source} → IsFile any_height s ts → last_state s ≡ Some q → word u ≢ word_case.LineEnd → ¬ IsHead u → Parses (before ++ t ∷ after) (fault (refusal_number TooNested) p)
    declaration_read f l n i =
        let x = file_walk all.kinds f in
        let d = declares_of x.blocks l in
        let w = within_before all.kinds us x.walk (subst BeginsWithinLimits split within) in
        let g = goes all.kinds w.0 w.1 (u ∷ vs) in
        subst (λ l. Parses l (fault (refusal_number TooNested) p)) (sym whole) (fails g.2 (declaration_fails n i d.0 (subst (λ q. Reads q (u ∷ vs) (refused (refusal_number TooNested) p)) (sym d.1) r)))

    method_read : {ls : List lines.Line} {b : Bool} → EndsInMethod ts ls b → word u ≢ word_case.LineEnd → ¬ IsHead u → Enters ls b u (from q) → Parses (before ++ t ∷ after) (fault (refusal_number TooNested) p)
    method_read {ls} {b} m n i e =
        let v = method_walk all.kinds m in
        let w = within_before all.kinds us v.2 (subst BeginsWithinLimits split within) in
        let g = goes all.kinds w.0 w.1 (u ∷ vs) in
        let in_loop : ¬ HasNoLoop ls q u = λ k. unread_ends all u v.2 n i (λ r f j. j (subst (λ q. HasNoLoop ls q u) (one_state ls b u e f) k)) first_begins in
        subst (λ l. Parses l (fault (refusal_number TooNested) p)) (sym whole) (fails g.2 (line_fails n i (subst (λ c. Enters ls c u (from q)) (sym g.1) e) in_loop (λ d. absurd (not_deep us line split (λ rest s f. is_deep all v.2 u q n i e d rest s f) d)) r))
      where
        first_begins : Begins (ts ++ u ∷ [])
        first_begins =
            let f = same_first u us t after [] line in
            begins_first ts u f.0 (subst Begins (ap (λ l. l ++ t ∷ []) split ∙ append_assoc ts us (t ∷ []) ∙ ap (λ l. ts ++ l) f.1) begins)

        not_deep : (us : List LineToken) → us ++ t ∷ after ≡ u ∷ vs → before ≡ ts ++ us → ((rest : List LineToken) (s : Source) → IsFile within_limits s (ts ++ u ∷ rest) → ¬ IsShallow s) → IsTooDeep ls q u → ⊥
        not_deep [] line split never d =
            let same : t ≡ u = cc in
            let there : before ≡ ts = split ∙ append-nil ts in
            let x : OpensTooMany ts u = record { lines = ls; begun = b; state = q; method = m; not_end = n; no_head = i; enters = e; deep = d } in
            fits (subst (λ l. OpensTooMany l t) (sym there) (subst (OpensTooMany ts) (sym same) x))
        not_deep (x ∷ us) line split never d =
            let same : x ≡ u = cc in
            let there : before ++ within.0 ≡ ts ++ u ∷ (us ++ within.0) = ap (λ l. l ++ within.0) split ∙ append_assoc ts (x ∷ us) within.0 ∙ ap (λ x. ts ++ x ∷ (us ++ within.0)) same in
            never (us ++ within.0) within.1 (subst (IsFile within_limits within.1) there within.2.0) within.2.1

    height_read : BeginsLine ts u q → Parses (before ++ t ∷ after) (fault (refusal_number TooNested) p)
    height_read b = go ts u q b refl refl refl
      where
        go : (os : List LineToken) (v : LineToken) (k : LineState) → BeginsLine os v k → os ≡ ts → v ≡ u → k ≡ q → Parses (before ++ t ∷ after) (fault (refusal_number TooNested) p)
        go os v k (behind_word x f i) e j m = word_read x f i (sym e) (sym m)
        go os v k (declaration {s = s} f l n i) e j m = declaration_read (subst (IsFile any_height s) e f) (l ∙ ap Some m) (λ z. n (ap word j ∙ z)) (λ z. i (subst IsHead (sym j) z))
        go os v k (method_line {ls = ls} {b = b} o n i x) e j m = method_read (subst (λ l. EndsInMethod l ls b) e o) (λ z. n (ap word j ∙ z)) (λ z. i (subst IsHead (sym j) z)) (subst (λ u. Enters ls b u (from q)) j (subst (λ k. Enters ls b v (from k)) m x))

  one_nested : {before : List LineToken} {t : LineToken} {after : List LineToken} {p o : Place} → BeginsWithinLimits before → Begins (before ++ t ∷ []) → NestedAt before t after p → NestedAt before t after o → p ≡ o
  one_nested w b (by_depth x) (by_depth y) = refl
  one_nested w b (by_depth x) (by_height ts u us vs q e f n l r) = absurd (n x)
  one_nested w b (by_height ts u us vs q e f n l r) (by_depth y) = absurd (n y)
  one_nested {before} {t} {after} {p} {o} w b (by_height ts u us vs q e f n l r) (by_height ts' u' us' vs' q' e' f' n' l' r') =
      let x = height_read before t after w b ts u us vs q e f n r l in
      let y = height_read before t after w b ts' u' us' vs' q' e' f' n' r' l' in
      let z = one_answer (before ++ t ∷ after) (fault (refusal_number TooNested) p) (fault (refusal_number TooNested) o) x y in
      cc

  one_by : {before : List LineToken} {t : LineToken} {after : List LineToken} {n k : ℕ} {p o : Place} → BeginsWithinLimits before → RefusedBy before t after n p → RefusedBy before t after k o → (n ≡ k) × (p ≡ o)
  one_by w (unfit x y) (unfit z v) = (one_number y v, refl)
  one_by w (unfit x y) (too_nested z v p) = absurd (x z)
  one_by w (unfit x y) (refused_there z v) = absurd (x z)
  one_by w (too_nested x y p) (unfit z v) = absurd (z x)
  one_by w (too_nested x y p) (too_nested z v o) = (refl, one_nested w x p o)
  one_by w (too_nested x y p) (refused_there z v) = absurd (y _ v)
  one_by w (refused_there x y) (unfit z v) = absurd (z x)
  one_by w (refused_there x y) (too_nested z v p) = absurd (v _ y)
  one_by w (refused_there x y) (refused_there z v) = (one_there y v, refl)

  pub one_refusal : {ts : List LineToken} {n k : ℕ} {p o : Place} → IsRefused ts n p → IsRefused ts k o → (n ≡ k) × (p ≡ o)
  one_refusal {ts} {n} {k} {p} {o} x y = go (compare x.before (x.token ∷ x.after) y.before (y.token ∷ y.after) (sym x.split ∙ y.split))
    where
      go : Compared x.before (x.token ∷ x.after) y.before (y.token ∷ y.after) → (n ≡ k) × (p ≡ o)
      go (same a b) =
          let tokens : y.token ≡ x.token = cc in
          let rests : y.after ≡ x.after = cc in
          one_by x.begins x.refusal (subst (λ l. RefusedBy x.before x.token l k o) rests (subst (λ t. RefusedBy x.before t y.after k o) tokens (subst (λ l. RefusedBy l y.token y.after k o) (sym a) y.refusal)))
      go (beyond t later a b) =
          let tokens : t ≡ y.token = cc in
          absurd (y.stops (not_further y.before y.token later x.before (a ∙ ap (λ t. y.before ++ t ∷ later) tokens) x.begins))
      go (short t later a b) =
          let tokens : t ≡ x.token = cc in
          absurd (x.stops (not_further x.before x.token later y.before (a ∙ ap (λ t. x.before ++ t ∷ later) tokens) y.begins))

pub none_refused : {ts : List LineToken} {s : Source} {n : ℕ} {p : Place} → IsFileWithinLimits s ts → ¬ IsRefused ts n p
none_refused {ts} {s} f x = x.stops (x.after, s, subst (IsFileWithinLimits s) (x.split ∙ sym (append_assoc x.before (x.token ∷ []) x.after)) f)
