-- The steps of reading a line, as the code takes them.
use Rattle.std.proofs.Common.{◌≡◌, ◌≢◌, ◌⊎◌, inl, inr, ℕ, ◌+◌, ◌-◌, ◌<◌, ◌≤◌, Bool, true, false, length, List, [], ◌∷◌, ◌++◌, Option, Some, None, refl, sym, ap, ◌∙◌, subst, append_assoc, arith}
use Rattle.std.specs.Prelude.{IsTrue, ◌↔◌, nat_lt, option_map}
use Rattle.std.proofs.lemmas.Bool.{cases_lt, ltb-true, ltb-false}
use Rattle.std.proofs.lemmas.Option.{slice_get_past}
use Rattle.p8_tree.specs.declared.places.Place.{Place}
use Rattle.p8_tree.specs.Expressions.{Tree}
use Rattle.p8_words.specs.declared.failure.Fail.{Fail}
use Rattle.p8_words.specs.declared.failure.Fail.TheVariants as fail
use Rattle.p8_lexer.specs.declared.word.Word.TheVariants as word
use Rattle.p8_lexer.specs.declared.token.Token as lexer_token
use Rattle.p8_grammar.specs.Lexemes.{Setting}
use Rattle.p8_tree.specs.declared.faults.Fault.{Fault}
use Rattle.p8_tree.specs.Faults.{IfRefused}
use Rattle.p8_expr.specs.Parsing.{tree, Parses, IsFault}
use Rattle.p8_expr.specs.Cursors.{Spot, moved}
use Rattle.p8_expr.proofs.Runs.{refuted}
use Rattle.p8_lexer.specs.Pieces as pieces
use Rattle.p8_lexer.specs.Pieces.{Piece}
use Rattle.p8_lines.specs.declared.arrow.Arrow.{Arrow}
use Rattle.p8_lines.specs.declared.state.LineState.{LineState}
use Rattle.p8_lines.specs.declared.state.LineState.TheVariants as state
use Rattle.p8_lines.specs.Diagram.{Phrase, choices, setting_at}
use Rattle.p8_lines.specs.Tokens as line_tokens
use Rattle.p8_lines.specs.Tokens.{LineToken, piece, tokens_from}
use Rattle.p8_lines.specs.Lines.{Follows, behind, piece_in, greatest_height, Leads, nowhere, number_of, Reads, read, refused}
use Rattle.p8_lines.specs.Stopping.{token_at, next, run, FitsSetting, Stops, Goes, Advances}
use Rattle.p8_lines.proofs.Rows.{leads_on}
use Rattle.p8_lines.proofs.Readings.{leads_fits, reads_line, reads_stop}
use Rattle.p8_lines.proofs.Texts.{is_end}
use Rattle.p8_lines.proofs.Stops.{run_within, spelled, within, arrow_goes, no_phrase_stops, end_stops, tree_goes, tree_stops, refused_stops}
use Rattle.p8_lines.proofs.LineEnds.{line_end_over, line_end_behind}

pub stops_as : (s : Setting) (q : LineState) (ts : List LineToken) (n m : ℕ) (p p' : Place) → Stops s q ts n p → m ≡ n → p' ≡ p → Stops s q ts m p'
stops_as s q ts n m p p' x e f = subst (λ p. Stops s q ts m p) (sym f) (subst (λ n. Stops s q ts n p) (sym e) x)

-- the expression at a state

pub phrase_none : (o : Option Phrase) → None ≡ option_map (λ h. h.setting) o → o ≡ None
phrase_none None e = refl
phrase_none (Some h) e = absurd cc

pub phrase_some : (o : Option Phrase) (k : Setting) → option_map (λ h. h.setting) o ≡ Some k → (h : Phrase) × (o ≡ Some h) × (h.setting ≡ k)
phrase_some None k e = absurd cc
phrase_some (Some h) k e = (h, refl, cc)

-- a token is left
pub not_ended : (s : Spot) (b : Bool) → b ≡ false → (IsTrue b ↔ (length s.tokens ≤ s.at)) → s.at < length s.tokens
not_ended s b e h = go (cases_lt s.at (length s.tokens))
  where
    go : (s.at < length s.tokens) ⊎ (length s.tokens ≤ s.at) → s.at < length s.tokens
    go (inl lt) = lt
    go (inr le) = absurd (refuted b (length s.tokens ≤ s.at) e h le)

-- reading it

pub parses_within : (s : Setting) (limit : ℕ) (bytes : List ℕ) (tokens : List lexer_token.Token) (at end : ℕ) (e : Tree) → at < length tokens → Parses s limit bytes tokens at (tree e end) → end ≤ length tokens
parses_within s limit bytes tokens at end e lt x = run_within s limit bytes tokens at end e lt x

pub tree_refused : (s : Setting) (bytes : List ℕ) (tokens : List lexer_token.Token) (at : ℕ) (q : LineState) (k : Setting) (fault : Fault) → at < length tokens → option_map (λ h. h.setting) (choices q).phrase ≡ Some k → FitsSetting s q → ((r : LineState) → ¬ Follows (choices q).arrows (token_at bytes tokens at) r) → IsFault k greatest_height bytes tokens at fault → Stops s q (tokens_from bytes tokens at) fault.number fault.place
tree_refused s bytes tokens at q k fault lt expects fits unfollowed x =
    let y = phrase_some (choices q).phrase k expects in
    refused_stops s bytes tokens at q y.0 fault lt y.1 fits unfollowed (subst (λ k. IsFault k greatest_height bytes tokens at fault) (sym y.2) x)

pub none_stops : (s : Setting) (bytes : List ℕ) (tokens : List lexer_token.Token) (at : ℕ) (q : LineState) (n : ℕ) (p : Place) → at ≤ length tokens → q ≢ state.End → ((r : LineState) → ¬ Follows (choices q).arrows (token_at bytes tokens at) r) → None ≡ option_map (λ h. h.setting) (choices q).phrase → n ≡ number_of s (line_tokens.word (token_at bytes tokens at)) → p ≡ (token_at bytes tokens at).place → Stops s q (tokens_from bytes tokens at) n p
none_stops s bytes tokens at q n p le open_ unfollowed e number place =
    stops_as s q (tokens_from bytes tokens at) (number_of s (line_tokens.word (token_at bytes tokens at))) n (token_at bytes tokens at).place p (no_phrase_stops s bytes tokens at q le open_ unfollowed (phrase_none (choices q).phrase e)) number place

pub ended_stops : (s : Setting) (bytes : List ℕ) (tokens : List lexer_token.Token) (at : ℕ) (q : LineState) (k : Setting) (n : ℕ) (p : Place) → at ≡ length tokens → ((r : LineState) → ¬ Follows (choices q).arrows (token_at bytes tokens at) r) → option_map (λ h. h.setting) (choices q).phrase ≡ Some k → n ≡ number_of s (line_tokens.word (token_at bytes tokens at)) → p ≡ (token_at bytes tokens at).place → Stops s q (tokens_from bytes tokens at) n p
ended_stops s bytes tokens at q k n p here unfollowed expects number place =
    let y = phrase_some (choices q).phrase k expects in
    stops_as s q (tokens_from bytes tokens at) (number_of s (line_tokens.word (token_at bytes tokens at))) n (token_at bytes tokens at).place p (end_stops s bytes tokens at q y.0 here unfollowed y.1) number place

pub stops_behind_tree : (s : Setting) (bytes : List ℕ) (tokens : List lexer_token.Token) (at end : ℕ) (q : LineState) (k : Setting) (e : Tree) (arrows : List Arrow) (n : ℕ) (p : Place) → at < length tokens → option_map (λ h. h.setting) (choices q).phrase ≡ Some k → ((h : Phrase) → (choices q).phrase ≡ Some h → Parses h.setting greatest_height bytes tokens at (tree e end)) → ((r : LineState) → ¬ Follows (choices q).arrows (token_at bytes tokens at) r) → ((h : Phrase) → (choices q).phrase ≡ Some h → arrows ≡ behind h (run bytes tokens at (end - at))) → ((r : LineState) → ¬ Follows arrows (token_at bytes tokens end) r) → n ≡ number_of s (line_tokens.word (token_at bytes tokens end)) → p ≡ (token_at bytes tokens end).place → Stops s q (tokens_from bytes tokens at) n p
stops_behind_tree s bytes tokens at end q k e arrows n p lt expects parses unfollowed arrows_are no_arrow number place =
    let y = phrase_some (choices q).phrase k expects in
    let h = y.0 in
    let x = spelled h bytes tokens at end e lt (parses h y.1) in
    stops_as s q (tokens_from bytes tokens at) (number_of s (line_tokens.word (token_at bytes tokens end))) n (token_at bytes tokens end).place p
    (tree_stops s bytes tokens at end q h e y.1 unfollowed x (λ r f. no_arrow r (subst (λ l. Follows l (token_at bytes tokens end) r) (sym (arrows_are h y.1)) f))) number place

-- what comes after the text's end

end_word : (bytes : List ℕ) (tokens : List lexer_token.Token) (at : ℕ) → length tokens < at + 1 → line_tokens.word (token_at bytes tokens at) ≡ word.LineEnd
end_word bytes tokens at lt = ap line_tokens.word (is_end bytes tokens at (slice_get_past tokens at (omega (arith, lt))))

pub arrow_step : (s t : Spot) (q r : LineState) (old new : List Piece) → s.at ≤ length s.tokens → Follows (choices q).arrows (next s) r → new ≡ old ++ piece_in q (next s) ∷ [] → t ≡ moved s (s.at + 1) → Advances s t q old new r
arrow_step s t q r old new le f kept e = subst (λ t. Advances s t q old new r) (sym e) (record {
  row = piece_in q (next s) ∷ [];
  kept = kept;
  goes = arrow_goes s.bytes s.tokens s.at q r le f;
  same = refl;
  onward = omega arith;
  within = omega (arith, le);
  ended = λ lt. line_end_over q r (next s) f (end_word s.bytes s.tokens s.at lt);
})

pub tree_step : (s t : Spot) (end : ℕ) (q r : LineState) (k : Setting) (e : Tree) (arrows : List Arrow) (old middle new : List Piece) → s.at < length s.tokens → option_map (λ h. h.setting) (choices q).phrase ≡ Some k → ((h : Phrase) → (choices q).phrase ≡ Some h → Parses h.setting greatest_height s.bytes s.tokens s.at (tree e end)) → ((h : Phrase) → (choices q).phrase ≡ Some h → arrows ≡ behind h (run s.bytes s.tokens s.at (end - s.at))) → Follows arrows (next (moved s end)) r → middle ≡ old ++ pieces.tree e (next s).place ∷ [] → new ≡ middle ++ piece (next (moved s end)) ∷ [] → t ≡ moved s (end + 1) → Advances s t q old new r
tree_step s t end q r k e arrows old middle new lt expects parses arrows_are f first second behind_it =
    let y = phrase_some (choices q).phrase k expects in
    let h = y.0 in
    let u = next (moved s end) in
    let x = spelled h s.bytes s.tokens s.at end e lt (parses h y.1) in
    let g : Follows (behind h (run s.bytes s.tokens s.at (end - s.at))) u r = subst (λ l. Follows l u r) (arrows_are h y.1) f in
    subst (λ t. Advances s t q old new r) (sym behind_it) (record {
      row = pieces.tree e (next s).place ∷ piece u ∷ [];
      kept = second ∙ ap (λ l. l ++ piece u ∷ []) first ∙ append_assoc old (pieces.tree e (next s).place ∷ []) (piece u ∷ []);
      goes = tree_goes s.bytes s.tokens s.at end q r h e y.1 x g;
      same = refl;
      onward = (let o = x.ordered in omega (arith, o));
      within = (let w = within x in omega (arith, w));
      ended = λ lt. line_end_behind q r h (run s.bytes s.tokens s.at (end - s.at)) u y.1 g (end_word s.bytes s.tokens end lt);
    })

-- the whole line

pub begin_goes : (bytes : List ℕ) (tokens : List lexer_token.Token) (at : ℕ) (q : LineState) (row : List Piece) → row ≡ [] → Goes bytes tokens at at q row q
begin_goes bytes tokens at q row e = subst (λ row. Goes bytes tokens at at q row q) (sym e) (record { taken = []; split = refl; leads = nowhere })

pub goes_further : {s t : Spot} {end : ℕ} {q r r' : LineState} {row new : List Piece} → Goes s.bytes s.tokens s.at end q row r → Advances (moved s end) t r row new r' → Goes s.bytes s.tokens s.at t.at q new r'
goes_further {s = s} {t = t} {q = q} {r' = r'} x y =
    record {
      taken = x.taken ++ y.goes.taken;
      split = x.split ∙ ap (λ l. x.taken ++ l) y.goes.split ∙ sym (append_assoc x.taken y.goes.taken (tokens_from s.bytes s.tokens t.at));
      leads = subst (λ l. Leads q (x.taken ++ y.goes.taken) l r') (sym y.kept) (leads_on x.leads y.goes.leads);
    }

pub still_within : (n end : ℕ) (r : LineState) → (n < end → r ≡ state.End) → r ≢ state.End → end ≤ n
still_within n end r ended open_ = go (nat_lt n end) refl
  where
    go : (b : Bool) → nat_lt n end ≡ b → end ≤ n
    go true h = absurd (open_ (ended (ltb-true n end h)))
    go false h = ltb-false n end h

pub fits_there : {bytes : List ℕ} {tokens : List lexer_token.Token} {at end : ℕ} {q r : LineState} {row : List Piece} (s : Setting) → s ≡ setting_at q → Goes bytes tokens at end q row r → FitsSetting s r
fits_there {r = r} s e x = subst (λ s. FitsSetting s r) (sym e) (leads_fits x.leads)

pub line_read : {bytes : List ℕ} {tokens : List lexer_token.Token} {at end : ℕ} {q r : LineState} {row : List Piece} → r ≡ state.End → Goes bytes tokens at end q row r → Reads q (tokens_from bytes tokens at) (read row (tokens_from bytes tokens end))
line_read {q = q} {row = row} e x = reads_line x.split (subst (λ r. Leads q x.taken row r) e x.leads)

pub line_refused : (bytes : List ℕ) (tokens : List lexer_token.Token) (at end : ℕ) (q r : LineState) (row : List Piece) (s : Setting) (n : ℕ) (p : Place) → at ≤ length tokens → s ≡ setting_at q → Goes bytes tokens at end q row r → Stops s r (tokens_from bytes tokens end) n p → Reads q (tokens_from bytes tokens at) (refused n p)
line_refused bytes tokens at end q r row s n p le e x stops =
    reads_stop (tokens_from bytes tokens at) x.split x.leads
    (subst (λ s. Stops s r (tokens_from bytes tokens end) n p) e stops)

pub onward : (q r : LineState) (at end : ℕ) → (r ≡ q) ⊎ (at < end) → r ≡ state.End → q ≢ state.End → at < end
onward q r at end (inl e) f n = absurd (n (sym e ∙ f))
onward q r at end (inr lt) f n = lt

pub is_refused : (P : Fault → Type 0) (x : Fail Fault) (f : Fault) → x ≡ fail.Refused f → IfRefused P x → P f
is_refused P x f e h = subst (IfRefused P) e h

pub kept_as : (old new : List Piece) (x y : Piece) → new ≡ old ++ x ∷ [] → x ≡ y → new ≡ old ++ y ∷ []
kept_as old new x y e f = e ∙ ap (λ x. old ++ x ∷ []) f
