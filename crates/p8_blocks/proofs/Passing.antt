-- Where tokens go past the limits on heights and on how deep blocks stand.
use Rattle.std.proofs.Common.{◌≡◌, ℕ, List, [], ◌∷◌, ◌++◌, Option, Some, None, Bool, true, false, refl, sym, ap, ◌∙◌, subst, append_assoc}
use Rattle.std.specs.Prelude.{IsTrue, unwrap_or}
use Rattle.p8_tree.specs.declared.places.Place.{Place}
use Rattle.p8_lexer.specs.declared.word.Word.{Word}
use Rattle.p8_lexer.specs.declared.word.Word.TheVariants as word_case
use Rattle.p8_tree.specs.declared.refusal.Refusal.{Refusal}
use Rattle.p8_tree.specs.declared.refusal.Refusal.TheVariants as refusal
use Rattle.p8_tree.specs.Refusals.{refusal_number}
use Rattle.p8_grammar.specs.Grammar.{IsFront}
use Rattle.p8_grammar.specs.Heights as heights
use Rattle.p8_grammar.specs.Lexemes.{Setting, in_method, in_declaration, in_dat, in_data_item, in_action}
use Rattle.p8_expr.specs.Refusals.{refusal_of}
use Rattle.p8_lexer.specs.Pieces.{Piece}
use Rattle.p8_lines.specs.declared.state.LineState.{LineState}
use Rattle.p8_lines.specs.Diagram.{Phrase, choices, setting_at}
use Rattle.p8_lines.specs.Tokens.{LineToken, word, terms}
use Rattle.p8_lines.specs.Lines as line_specs
use Rattle.p8_lines.specs.Lines.{Row, Leads, Outcome, Reads, refused, line, too_high, stopped, number_of, greatest_height, IsTooHigh}
use Rattle.p8_lines.proofs.Begun.{nothing_high}
use Rattle.p8_lines.proofs.Rows.{leads_way, begun, way_begins, front_begins, limit_positive}
use Rattle.p8_blocks.specs.Reading.{IsRefusedAt}
use Rattle.p8_lines.proofs.Readings.{leads_row}
use Rattle.p8_blocks.proofs.Ends.{is_over, Last, row_ends}

-- a token that can't stand where it does isn't refused as too high

abbrev is_of_words : Option Refusal → Bool
is_of_words None = true
is_of_words (Some refusal.Float) = true
is_of_words (Some refusal.Unsupported) = true
is_of_words (Some r) = false

words_refused : (s : Setting) (w : Word) → IsTrue (is_of_words (refusal_of s w))
unfolding refusal_of
words_refused in_method word_case.PlusPlus = refl
words_refused in_method w = refl
words_refused in_declaration word_case.PlusPlus = refl
words_refused in_declaration w = refl
words_refused in_dat word_case.PlusPlus = refl
words_refused in_dat w = refl
words_refused in_data_item word_case.PlusPlus = refl
words_refused in_data_item w = refl
words_refused in_action word_case.PlusPlus = refl
words_refused in_action w = refl

pub not_nested : (s : Setting) (w : Word) → number_of s w ≡ refusal_number refusal.TooNested → ⊥
not_nested s w e = go (refusal_of s w) (words_refused s w) e
  where
    go : (o : Option Refusal) → IsTrue (is_of_words o) → refusal_number (unwrap_or o refusal.Unexpected) ≡ refusal_number refusal.TooNested → ⊥
    go None h e = absurd cc
    go (Some refusal.Float) h e = absurd cc
    go (Some refusal.Unsupported) h e = absurd cc
    go (Some r) h e = absurd cc

-- nor as one without its opener
pub not_indent : (s : Setting) (w : Word) → number_of s w ≡ refusal_number refusal.BadIndent → ⊥
not_indent s w e = go (refusal_of s w) (words_refused s w) e
  where
    go : (o : Option Refusal) → IsTrue (is_of_words o) → refusal_number (unwrap_or o refusal.Unexpected) ≡ refusal_number refusal.BadIndent → ⊥
    go None h e = absurd cc
    go (Some refusal.Float) h e = absurd cc
    go (Some refusal.Unsupported) h e = absurd cc
    go (Some r) h e = absurd cc

-- the tokens of a line up to where each line that begins so has an expression that is too high
pub record High (q : LineState) (first : LineToken) (others : List LineToken) (p : Place) : Type 0 where
  pub front : List LineToken
  pub rest : List LineToken
  pub split : others ≡ front ++ rest
  pub begins : line_specs.Begins q (first ∷ front)
  pub again : (more : List LineToken) → Reads q (first ∷ (front ++ more)) (refused (refusal_number refusal.TooNested) p)

module _ {q r : LineState} {row : List Piece} (h : Phrase) (us vs fs gs : List LineToken) (t : LineToken) (leads : Leads q us row r) (expects : (choices r).phrase ≡ Some h) (is : vs ≡ fs ++ gs) (begins : line_specs.Begins q (us ++ t ∷ fs)) (high : (more : List LineToken) → IsTooHigh h (t ∷ (fs ++ more))) where
  -- from the line's first token on
  high_from : (first : LineToken) (others : List LineToken) → us ++ t ∷ vs ≡ first ∷ others → High q first others t.place
  high_from first others e = go us refl
    where
      go : (xs : List LineToken) → us ≡ xs → High q first others t.place
      go [] f =
          let whole : t ∷ vs ≡ first ∷ others = ap (λ xs. xs ++ t ∷ vs) (sym f) ∙ e in
          let firsts : t ≡ first = cc in
          let tails : vs ≡ others = cc in
          record {
            front = fs;
            rest = gs;
            split = sym tails ∙ is;
            begins = subst (λ x. line_specs.Begins q (x ∷ fs)) firsts (subst (λ xs. line_specs.Begins q (xs ++ t ∷ fs)) f begins);
            again = λ more. too_high (ap (λ x. x ∷ (fs ++ more)) (sym firsts) ∙ ap (λ xs. xs ++ t ∷ (fs ++ more)) (sym f)) leads expects (high more);
          }
      go (x ∷ xs) f =
          let whole : x ∷ (xs ++ t ∷ vs) ≡ first ∷ others = ap (λ xs. xs ++ t ∷ vs) (sym f) ∙ e in
          let firsts : x ≡ first = cc in
          let tails : xs ++ t ∷ vs ≡ others = cc in
          let same : us ≡ first ∷ xs = f ∙ ap (λ x. x ∷ xs) firsts in
          record {
            front = xs ++ t ∷ fs;
            rest = gs;
            split = sym tails ∙ ap (λ l. xs ++ t ∷ l) is ∙ sym (append_assoc xs (t ∷ fs) gs);
            begins = subst (λ l. line_specs.Begins q (l ++ t ∷ fs)) same begins;
            again = λ more. too_high (ap (λ l. first ∷ l) (append_assoc xs (t ∷ fs) more) ∙ ap (λ l. l ++ t ∷ (fs ++ more)) (sym same)) leads expects (high more);
          }

pub high_line : {q : LineState} {first : LineToken} {others : List LineToken} {n : ℕ} {p : Place} → Reads q (first ∷ others) (refused n p) → n ≡ refusal_number refusal.TooNested → High q first others p
high_line {q} {first} {others} (too_high {row = row} {us = us} {vs = vs} {t = t} {r = r} {h = h} f leads expects high) n = go high.front refl
  where
    go : (fs : List LineToken) → high.front ≡ fs → High q first others t.place
    go [] g = absurd (nothing_high h.setting greatest_height limit_positive (subst (λ l. heights.IsTooHigh h.setting greatest_height (terms l)) g high.high))
    go (u ∷ fs) g =
        let whole : t ∷ vs ≡ u ∷ (fs ++ high.rest) = high.split ∙ ap (λ l. l ++ high.rest) g in
        let same : u ≡ t = cc in
        let tails : vs ≡ fs ++ high.rest = cc in
        let front : high.front ≡ t ∷ fs = g ∙ ap (λ u. u ∷ fs) same in
        let begins : line_specs.Begins q (us ++ t ∷ fs) = subst (λ l. line_specs.Begins q (us ++ l)) front (way_begins high.front (leads_way leads) (front_begins r h high.front expects high.begins)) in
        let again : (more : List LineToken) → IsTooHigh h (t ∷ (fs ++ more)) = λ more. record { front = t ∷ fs; rest = more; split = refl; begins = subst (λ l. IsFront h.setting (terms l)) front high.begins; high = subst (λ l. heights.IsTooHigh h.setting greatest_height (terms l)) front high.high } in
        high_from h us vs fs high.rest t leads expects tails begins again first others (sym f)
high_line {q} (stopped {us = us} t vs e begins no_line ends low) n = absurd (not_nested (setting_at q) (word t) n)

no_last : {w : Word} → Last [] w → ⊥
no_last l = go l.before l.split
  where
    go : (xs : List LineToken) → [] ≡ xs ++ l.token ∷ [] → ⊥
    go [] e = absurd cc
    go (x ∷ xs) e = absurd cc

-- a line that isn't refused at its first token begins with it
pub begins_line_so : {q : LineState} {t : LineToken} {ts : List LineToken} {o : Outcome} → is_over q ≡ false → Reads q (t ∷ ts) o → ¬ IsRefusedAt t.place o → line_specs.Begins q (t ∷ [])
begins_line_so {q} {t} {ts} over (line {row = row} {us = us} {rest = rest} e leads) n = go us refl (leads_row leads)
  where
    go : (xs : List LineToken) → us ≡ xs → Row q row us → line_specs.Begins q (t ∷ [])
    go [] f x = absurd (let l = row_ends (subst (λ l. Row q row l) f x) over in no_last l)
    go (x ∷ xs) f r =
        let firsts : x ≡ t = (let z = e ∙ ap (λ l. l ++ rest) f in cc) in
        (xs, row, subst (λ x. Row q row (x ∷ xs)) firsts (subst (λ l. Row q row l) f r))
begins_line_so {q} {t} {ts} over (too_high {us = us} {vs = vs} {t = u} {r = r} {h = h} f leads expects high) n = go us refl
  where
    go : (xs : List LineToken) → us ≡ xs → line_specs.Begins q (t ∷ [])
    go [] g =
        let same : t ≡ u = (let z = f ∙ ap (λ l. l ++ u ∷ vs) g in cc) in
        absurd (n (ap (λ x. x.place) (sym same)))
    go (x ∷ xs) g =
        let same : x ≡ t = (let z = f ∙ ap (λ l. l ++ u ∷ vs) g in cc) in
        let b : line_specs.Begins q (us ++ high.front) = way_begins high.front (leads_way leads) (front_begins r h high.front expects high.begins) in
        subst (λ x. line_specs.Begins q (x ∷ [])) same (begun (x ∷ []) (xs ++ high.front) (subst (λ l. line_specs.Begins q (l ++ high.front)) g b))
begins_line_so {q} {t} {ts} over (stopped {us = us} u vs e begins no_line ends low) n = go us refl
  where
    go : (xs : List LineToken) → us ≡ xs → line_specs.Begins q (t ∷ [])
    go [] g =
        let same : t ≡ u = (let z = e ∙ ap (λ l. l ++ u ∷ vs) g in cc) in
        absurd (n (ap (λ x. x.place) (sym same)))
    go (x ∷ xs) g =
        let same : x ≡ t = (let z = e ∙ ap (λ l. l ++ u ∷ vs) g in cc) in
        subst (λ x. line_specs.Begins q (x ∷ [])) same (begun (x ∷ []) xs (subst (λ l. line_specs.Begins q l) g begins))
