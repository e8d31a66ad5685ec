-- Where reading a line stops, and where it goes on.
use Rattle.std.specs.Prelude.{if◌then◌else◌, nat_lt, map, slice_get, option_and_then, unwrap_or}
use Rattle.std.proofs.Common.{◌≡◌, ◌≢◌, ℕ, ◌+◌, ◌-◌, ◌<◌, ◌≤◌, Bool, length, take, List, [], ◌∷◌, ◌++◌, Option, Some, None, refl, sym, ap, ◌∙◌, subst, append_assoc, append-nil, arith}
use Rattle.std.proofs.lemmas.Option.{slice_get_within, slice_get_past}
use Rattle.std.proofs.lemmas.Bool.{lt-ltb, le-ltb}
use Rattle.p8_tree.specs.declared.places.Place.{Place}
use Rattle.p8_tree.specs.Expressions.{Tree}
use Rattle.p8_lexer.specs.declared.word.Word.TheVariants as word
use Rattle.p8_lexer.specs.declared.token.Token as lexer_token
use Rattle.p8_tree.specs.declared.refusal.Refusal.{Refusal}
use Rattle.p8_tree.specs.declared.refusal.Refusal.TheVariants.{TooNested, Unexpected}
use Rattle.p8_tree.specs.Refusals.{refusal_number}
use Rattle.p8_lexer.specs.Words.{word_of}
use Rattle.p8_grammar.specs.Lexemes as lexemes
use Rattle.p8_grammar.specs.Lexemes.{Setting}
use Rattle.p8_grammar.specs.Grammar.{IsExpression, IsFront}
use Rattle.p8_grammar.specs.Heights as heights
use Rattle.p8_grammar.specs.Heights.{height}
use Rattle.p8_tree.specs.declared.faults.Fault.{Fault}
use Rattle.p8_expr.specs.Refusals.{refusal_of}
use Rattle.p8_expr.specs.Parsing as parsing
use Rattle.p8_expr.specs.Parsing.{tree, refused, Ends, whole, unfit, broken_off, Parses, refusal_at, IsFault}
use Rattle.p8_lexer.specs.Pieces as pieces
use Rattle.p8_lexer.specs.Pieces.{Piece}
use Rattle.p8_lines.specs.declared.state.LineState.{LineState}
use Rattle.p8_lines.specs.declared.state.LineState.TheVariants as state
use Rattle.p8_lines.specs.Diagram.{Phrase, choices}
use Rattle.p8_lines.specs.Tokens as line_tokens
use Rattle.p8_lines.specs.Tokens.{LineToken, term, terms, piece, line_token, tokens_from}
use Rattle.p8_lines.specs.Lines.{Follows, behind, piece_in, Row, Begins, greatest_height, Leads, nowhere, by_token, by_phrase, IsTooHigh, HasTooHigh, number_of}
use Rattle.p8_lines.specs.Stopping.{token_at, run, FitsSetting, Stops, too_high, stopped, Goes}
use Rattle.p8_lines.proofs.Splits.{Compared, same, beyond, short, compare}
use Rattle.p8_lines.proofs.Fronts.{behind_fails}
use Rattle.p8_lines.proofs.Settings.{behind_good}
use Rattle.p8_lines.proofs.Ways.{begins_more, Step, token, phrase, Way, none, more}
use Rattle.p8_lines.proofs.Begun.{not_nothing, nothing_begins, nothing_high, stays_high, not_high, front_with}
use Rattle.p8_lines.proofs.Rows.{grouped, leads_way, row_way, at_once, front_begins, completed, none_there, limit_positive}
use Rattle.p8_expr.proofs.Places.{none_within}
use Rattle.p8_lines.proofs.Texts.{first_at, is_at, is_end, last_is, text_end_ends, Run, run_of}

-- no step from a state leads over tokens that begin so
pub record NoStep (q : LineState) (us : List LineToken) (t : LineToken) : Type 0 where
  pub refuses : (low : Bool) (r : LineState) (us' : List LineToken) (row : List Piece) (vs ws : List LineToken) → Step low q us' row r → us' ++ ws ≡ us ++ t ∷ vs → ⊥

no_way : {low : Bool} {q s : LineState} {ws : List LineToken} {row : List Piece} (us : List LineToken) (t : LineToken) (vs rest : List LineToken) → NoStep q us t → Way low q ws row s → ws ++ rest ≡ us ++ t ∷ vs → ws ≡ []
no_way us t vs rest n none e = refl
no_way {low = low} us t vs rest n (more {r = r} {us = us'} {vs = vs'} {row = row} x w) e = absurd (n.refuses low r us' row vs (vs' ++ rest) x (sym (append_assoc us' vs' rest) ∙ e))

some_left : (us : List LineToken) (t : LineToken) (vs : List LineToken) → us ++ t ∷ vs ≡ [] → ⊥
some_left [] t vs e = absurd cc
some_left (u ∷ us) t vs e = absurd cc

-- so reading stops there
stops_so : (s : Setting) (q : LineState) (us : List LineToken) (t : LineToken) (vs ts : List LineToken) → ts ≡ us ++ t ∷ vs → Begins q us → q ≢ state.End → NoStep q us t → ((h : Phrase) → (choices q).phrase ≡ Some h → ¬ IsTooHigh h us) → Stops s q ts (number_of s (line_tokens.word t)) t.place
stops_so s q us t vs ts e begins open_ n low = stopped t vs e begins no_line ends no_high
  where
    no_line : (row : List Piece) → ¬ Row q row us
    no_line row y = open_ (at_once (row_way y) (no_way us t [] (t ∷ []) n (row_way y) refl))

    ends : ¬ Begins q (us ++ t ∷ [])
    ends (rest, row, y) =
        let split : ((us ++ t ∷ []) ++ rest) ++ [] ≡ us ++ t ∷ rest = append-nil ((us ++ t ∷ []) ++ rest) ∙ append_assoc us (t ∷ []) rest in
        some_left us t rest (sym (append_assoc us (t ∷ []) rest) ∙ no_way us t rest [] n (row_way y) split)

    no_high : ¬ HasTooHigh q us
    no_high y =
        let split : y.before ++ (y.after ++ t ∷ []) ≡ us ++ t ∷ [] = sym (append_assoc y.before y.after (t ∷ [])) ∙ ap (λ l. l ++ t ∷ []) (sym y.split) in
        let nothing = no_way us t [] (y.after ++ t ∷ []) n (leads_way y.leads) split in
        let there : q ≡ y.at = at_once (leads_way y.leads) nothing in
        low y.phrase (ap (λ q. (choices q).phrase) there ∙ y.expects) (subst (IsTooHigh y.phrase) (sym (y.split ∙ ap (λ l. l ++ y.after) nothing)) y.high)

-- where a token has no arrow and no expression may stand
pub alone_stops : (s : Setting) (q : LineState) (t : LineToken) (vs ts : List LineToken) → ts ≡ t ∷ vs → q ≢ state.End → ((r : LineState) → ¬ Follows (choices q).arrows t r) → (choices q).phrase ≡ None → Stops s q ts (number_of s (line_tokens.word t)) t.place
alone_stops s q t vs ts e open_ unfollowed no_phrase = stops_so s q [] t vs ts e (completed q) open_ (record { refuses = no_step }) (λ h p. let z = sym no_phrase ∙ p in absurd cc)
  where
    no_step : (low : Bool) (r : LineState) (us' : List LineToken) (row : List Piece) (vs ws : List LineToken) → Step low q us' row r → us' ++ ws ≡ t ∷ vs → ⊥
    no_step low r us' row vs ws (token {t = u} f) e = let firsts : u ≡ t = cc in unfollowed r (subst (λ u. Follows (choices q).arrows u r) firsts f)
    no_step low r us' row vs ws (phrase {h = h} others p x l f) e = let z = sym no_phrase ∙ p in absurd cc

abbrev first_of : List LineToken → LineToken → LineToken
first_of [] t = t
first_of (u ∷ us) t = u

is_first : (us : List LineToken) (t : LineToken) (vs : List LineToken) (u : LineToken) (l : List LineToken) → u ∷ l ≡ us ++ t ∷ vs → u ≡ first_of us t
is_first [] t vs u l e = cc
is_first (v ∷ us) t vs u l e = cc

-- where tokens begin an expression and the next one doesn't go on with it
pub behind_stops : (s : Setting) (q : LineState) (h : Phrase) (us : List LineToken) (t : LineToken) (vs ts : List LineToken) → ts ≡ us ++ t ∷ vs → (choices q).phrase ≡ Some h → ((u : LineToken) (l : List LineToken) → ts ≡ u ∷ l → (r : LineState) → ¬ Follows (choices q).arrows u r) → IsFront h.setting (terms us) → ¬ IsFront h.setting (terms us ++ term t ∷ []) → ((e : Tree) → IsExpression h.setting e (terms us) → (r : LineState) → ¬ Follows (behind h us) t r) → ¬ heights.IsTooHigh h.setting greatest_height (terms us) → Stops s q ts (number_of s (line_tokens.word t)) t.place
behind_stops s q h us t vs ts e p unfollowed begins ends not_behind low =
    stops_so s q us t vs ts e (front_begins q h us p begins) (λ x. none_there h q x p) (record { refuses = no_step }) not_too_high
  where
    first_one : (us : List LineToken) (vs : List LineToken) → (l : List LineToken) × (us ++ t ∷ vs ≡ first_of us t ∷ l)
    first_one [] vs = (vs, refl)
    first_one (u ∷ us) vs = (us ++ t ∷ vs, refl)

    no_arrow : (r : LineState) → ¬ Follows (choices q).arrows (first_of us t) r
    no_arrow = let y = first_one us vs in unfollowed (first_of us t) y.0 (e ∙ y.1)

    not_too_high : (k : Phrase) → (choices q).phrase ≡ Some k → ¬ IsTooHigh k us
    not_too_high k p' y =
        let phrases : k ≡ h = (let z = sym p' ∙ p in cc) in
        let high = subst (λ k. heights.IsTooHigh k.setting greatest_height (terms y.front)) phrases y.high in
        low (subst (λ l. heights.IsTooHigh h.setting greatest_height (terms l)) (sym y.split) (stays_high h.setting greatest_height y.front y.rest high))

    over : (r : LineState) (e' : Tree) (us' : List LineToken) (x : LineToken) (vs ws : List LineToken) → IsExpression h.setting e' (terms us') → Follows (behind h us') x r → Compared us' (x ∷ ws) us (t ∷ vs) → ⊥
    over r e' us' x vs ws y f (same a b) =
        let nexts : x ≡ t = cc in
        not_behind e' (subst (λ l. IsExpression h.setting e' (terms l)) a y) r (subst (λ l. Follows (behind h l) t r) a (subst (λ x. Follows (behind h us') x r) nexts f))
    over r e' us' x vs ws y f (beyond u l a b) =
        let nexts : u ≡ t = cc in
        ends (subst (λ u. IsFront h.setting (terms us ++ term u ∷ [])) nexts (begins_more h.setting e' us u l (subst (λ l. IsExpression h.setting e' (terms l)) a y)))
    over r e' us' x vs ws y f (short u l a b) =
        let nexts : u ≡ x = cc in
        behind_fails q h e' us' x r p y f (subst (λ u. IsFront h.setting (terms us' ++ term u ∷ [])) nexts (front_with h.setting us' u l (subst (λ l. IsFront h.setting (terms l)) a begins)))

    no_step : (low : Bool) (r : LineState) (us' : List LineToken) (row : List Piece) (vs ws : List LineToken) → Step low q us' row r → us' ++ ws ≡ us ++ t ∷ vs → ⊥
    no_step low r us' row vs ws (token {t = u} f) e = no_arrow r (subst (λ u. Follows (choices q).arrows u r) (is_first us t vs u ws e) f)
    no_step low r us' row vs ws (phrase {h = k} {e = e'} {first = y} {t = x} others p' z l f) e =
        let phrases : k ≡ h = (let z = sym p' ∙ p in cc) in
        over r e' (y ∷ others) x vs ws
        (subst (λ k. IsExpression k.setting e' (terms (y ∷ others))) phrases z)
        (subst (λ k. Follows (behind k (y ∷ others)) x r) phrases f)
        (compare (y ∷ others) (x ∷ ws) us (t ∷ vs) (sym (grouped y others x ws) ∙ e))

-- the steps of the code

pub arrow_goes : (bytes : List ℕ) (tokens : List lexer_token.Token) (at : ℕ) (q r : LineState) → at ≤ length tokens → Follows (choices q).arrows (token_at bytes tokens at) r → Goes bytes tokens at (at + 1) q (piece_in q (token_at bytes tokens at) ∷ []) r
arrow_goes bytes tokens at q r le f = record { taken = token_at bytes tokens at ∷ []; split = first_at bytes tokens at le; leads = by_token f nowhere }

pub no_phrase_stops : (s : Setting) (bytes : List ℕ) (tokens : List lexer_token.Token) (at : ℕ) (q : LineState) → at ≤ length tokens → q ≢ state.End → ((r : LineState) → ¬ Follows (choices q).arrows (token_at bytes tokens at) r) → (choices q).phrase ≡ None → Stops s q (tokens_from bytes tokens at) (number_of s (line_tokens.word (token_at bytes tokens at))) (token_at bytes tokens at).place
no_phrase_stops s bytes tokens at q le open_ unfollowed p = alone_stops s q (token_at bytes tokens at) (tokens_from bytes tokens (at + 1)) (tokens_from bytes tokens at) (first_at bytes tokens at le) open_ unfollowed p

unfollowed_first : (q : LineState) (t : LineToken) (vs ts : List LineToken) → ts ≡ t ∷ vs → ((r : LineState) → ¬ Follows (choices q).arrows t r) → (u : LineToken) (l : List LineToken) → ts ≡ u ∷ l → (r : LineState) → ¬ Follows (choices q).arrows u r
unfollowed_first q t vs ts e n u l e' r f = let firsts : u ≡ t = (let z = sym e' ∙ e in cc) in n r (subst (λ u. Follows (choices q).arrows u r) firsts f)

-- at the text's end no expression stands
pub end_stops : (s : Setting) (bytes : List ℕ) (tokens : List lexer_token.Token) (at : ℕ) (q : LineState) (h : Phrase) → at ≡ length tokens → ((r : LineState) → ¬ Follows (choices q).arrows (token_at bytes tokens at) r) → (choices q).phrase ≡ Some h → Stops s q (tokens_from bytes tokens at) (number_of s (line_tokens.word (token_at bytes tokens at))) (token_at bytes tokens at).place
end_stops s bytes tokens at q h here unfollowed p =
    let e = first_at bytes tokens at (omega (arith, here)) in
    let is = is_end bytes tokens at (slice_get_past tokens at (omega (arith, here))) in
    behind_stops s q h [] (token_at bytes tokens at) (tokens_from bytes tokens (at + 1)) (tokens_from bytes tokens at) e p
    (unfollowed_first q (token_at bytes tokens at) (tokens_from bytes tokens (at + 1)) (tokens_from bytes tokens at) e unfollowed)
    (nothing_begins h.setting)
    (subst (λ t. ¬ IsFront h.setting (term t ∷ [])) (sym is) (text_end_ends h.setting [] (map (line_token bytes) tokens)))
    (λ e x. absurd (not_nothing h.setting e x))
    (nothing_high h.setting greatest_height limit_positive)

-- what an expression's reading answers

record IsTree (s : Setting) (limit : ℕ) (bytes : List ℕ) (tokens : List lexer_token.Token) (at end : ℕ) (ts : List lexemes.Token) (e : Tree) (m : ℕ) : Type 0 where
  ends : m ≡ end
  is : IsExpression s e ts
  low : height e ≤ limit

ends_tree : (s : Setting) (limit : ℕ) (bytes : List ℕ) (tokens : List lexer_token.Token) (at end : ℕ) (ts : List lexemes.Token) (e : Tree) (m : ℕ) → Ends s limit bytes tokens at end ts (tree e m) → IsTree s limit bytes tokens at end ts e m
ends_tree s limit bytes tokens at end ts e m (whole is low fits) = record { ends = refl; is = is; low = low }

data Refuses (s : Setting) (limit : ℕ) (bytes : List ℕ) (tokens : List lexer_token.Token) (at end : ℕ) (ts : List lexemes.Token) (r : Refusal) (i : ℕ) : Type 0 where
  is_high : r ≡ TooNested → i ≡ at → heights.IsTooHigh s limit ts → Refuses s limit bytes tokens at end ts r i
  is_unfit : i ≡ end → ¬ heights.IsTooHigh s limit ts → refusal_at s bytes tokens end ≡ Some r → Refuses s limit bytes tokens at end ts r i
  is_broken : r ≡ Unexpected → i ≡ (if nat_lt end (length tokens) then end else end - 1) → ¬ heights.IsTooHigh s limit ts → refusal_at s bytes tokens end ≡ None → ((e : Tree) → ¬ IsExpression s e ts) → Refuses s limit bytes tokens at end ts r i

ends_refused : (s : Setting) (limit : ℕ) (bytes : List ℕ) (tokens : List lexer_token.Token) (at end : ℕ) (ts : List lexemes.Token) (r : Refusal) (i : ℕ) → Ends s limit bytes tokens at end ts (refused r i) → Refuses s limit bytes tokens at end ts r i
ends_refused s limit bytes tokens at end ts r i (parsing.too_high high) = is_high refl refl high
ends_refused s limit bytes tokens at end ts r i (unfit low fits) = is_unfit refl low fits
ends_refused s limit bytes tokens at end ts r i (broken_off low fits no_tree) = is_broken refl refl low fits no_tree

-- a tree, and the run of tokens that spells it
pub record Spelled (h : Phrase) (bytes : List ℕ) (tokens : List lexer_token.Token) (at end : ℕ) (e : Tree) : Type 0 where
  pub ordered : at ≤ end
  pub longest : Run h.setting bytes tokens at (end - at)
  pub behind : at + (end - at) ≡ end
  pub is : IsExpression h.setting e (terms (run bytes tokens at (end - at)))
  pub low : height e ≤ greatest_height

pub spelled : (h : Phrase) (bytes : List ℕ) (tokens : List lexer_token.Token) (at end : ℕ) (e : Tree) → at < length tokens → Parses h.setting greatest_height bytes tokens at (tree e end) → Spelled h bytes tokens at end e
spelled h bytes tokens at end e lt (n, long, ends) =
    let x = ends_tree h.setting greatest_height bytes tokens at (at + n) (take n (parsing.tokens_from bytes tokens at)) e end ends in
    let end_is = x.ends in
    let count : n ≡ end - at = omega (arith, end_is) in
    let run_n = run_of h.setting bytes tokens at n lt long in
    record {
      ordered = omega (arith, end_is);
      longest = subst (λ n. Run h.setting bytes tokens at n) count run_n;
      behind = omega (arith, end_is);
      is = subst (λ n. IsExpression h.setting e (terms (run bytes tokens at n))) count (subst (IsExpression h.setting e) (sym run_n.terms_are) x.is);
      low = x.low;
    }

pub run_within : (s : Setting) (limit : ℕ) (bytes : List ℕ) (tokens : List lexer_token.Token) (at end : ℕ) (e : Tree) → at < length tokens → Parses s limit bytes tokens at (tree e end) → end ≤ length tokens
run_within s limit bytes tokens at end e lt (n, long, ends) =
    let x = ends_tree s limit bytes tokens at (at + n) (take n (parsing.tokens_from bytes tokens at)) e end ends in
    let end_is = x.ends in
    let w = (run_of s bytes tokens at n lt long).within in
    omega (arith, end_is, w)

pub within : {h : Phrase} {bytes : List ℕ} {tokens : List lexer_token.Token} {at end : ℕ} {e : Tree} → Spelled h bytes tokens at end e → end ≤ length tokens
within y = let w = y.longest.within in let b = y.behind in omega (arith, w, b)

split_there : {h : Phrase} {bytes : List ℕ} {tokens : List lexer_token.Token} {at end : ℕ} {e : Tree} → Spelled h bytes tokens at end e → tokens_from bytes tokens at ≡ run bytes tokens at (end - at) ++ token_at bytes tokens end ∷ tokens_from bytes tokens (end + 1)
split_there {bytes = bytes} {tokens = tokens} {at = at} {end = end} y =
    y.longest.split ∙ ap (λ l. run bytes tokens at (end - at) ++ l) (ap (tokens_from bytes tokens) y.behind ∙ first_at bytes tokens end (within y))

-- a tree with an arrow after it leads on
pub tree_goes : (bytes : List ℕ) (tokens : List lexer_token.Token) (at end : ℕ) (q r : LineState) (h : Phrase) (e : Tree) → (choices q).phrase ≡ Some h → Spelled h bytes tokens at end e → Follows (behind h (run bytes tokens at (end - at))) (token_at bytes tokens end) r → Goes bytes tokens at (end + 1) q (pieces.tree e (token_at bytes tokens at).place ∷ piece (token_at bytes tokens end) ∷ []) r
tree_goes bytes tokens at end q r h e p y f = go (run bytes tokens at (end - at)) refl
  where
    t : LineToken
    t = token_at bytes tokens end

    go : (us : List LineToken) → run bytes tokens at (end - at) ≡ us → Goes bytes tokens at (end + 1) q (pieces.tree e (token_at bytes tokens at).place ∷ piece (token_at bytes tokens end) ∷ []) r
    go [] n = absurd (not_nothing h.setting e (subst (λ l. IsExpression h.setting e (terms l)) n y.is))
    go (first ∷ others) n =
        let split = split_there y ∙ ap (λ l. l ++ token_at bytes tokens end ∷ tokens_from bytes tokens (end + 1)) n in
        let le : at ≤ length tokens = (let w = within y in let o = y.ordered in omega (arith, w, o)) in
        let firsts : first ≡ token_at bytes tokens at = (let z = sym split ∙ first_at bytes tokens at le in cc) in
        record {
          taken = (first ∷ others) ++ token_at bytes tokens end ∷ [];
          split = split ∙ sym (append_assoc (first ∷ others) (token_at bytes tokens end ∷ []) (tokens_from bytes tokens (end + 1)));
          leads = subst (λ u. Leads q ((first ∷ others) ++ token_at bytes tokens end ∷ []) (pieces.tree e u.place ∷ piece (token_at bytes tokens end) ∷ []) r) firsts
              (by_phrase others p (subst (λ l. IsExpression h.setting e (terms l)) n y.is) y.low (subst (λ l. Follows (behind h l) (token_at bytes tokens end) r) n f) nowhere);
        }

-- and without one reading stops after it
pub tree_stops : (s : Setting) (bytes : List ℕ) (tokens : List lexer_token.Token) (at end : ℕ) (q : LineState) (h : Phrase) (e : Tree) → (choices q).phrase ≡ Some h → ((r : LineState) → ¬ Follows (choices q).arrows (token_at bytes tokens at) r) → Spelled h bytes tokens at end e → ((r : LineState) → ¬ Follows (behind h (run bytes tokens at (end - at))) (token_at bytes tokens end) r) → Stops s q (tokens_from bytes tokens at) (number_of s (line_tokens.word (token_at bytes tokens end))) (token_at bytes tokens end).place
tree_stops s bytes tokens at end q h e p unfollowed y not_behind =
    let le : at ≤ length tokens = (let w = within y in let o = y.ordered in omega (arith, w, o)) in
    behind_stops s q h (run bytes tokens at (end - at)) (token_at bytes tokens end) (tokens_from bytes tokens (end + 1)) (tokens_from bytes tokens at) (split_there y) p
    (unfollowed_first q (token_at bytes tokens at) (tokens_from bytes tokens (at + 1)) (tokens_from bytes tokens at) (first_at bytes tokens at le) unfollowed)
    y.longest.front
    (subst (λ n. ¬ IsFront h.setting (terms (run bytes tokens at (end - at)) ++ term (token_at bytes tokens n) ∷ [])) y.behind y.longest.stops)
    (λ e x. not_behind)
    (not_high h.setting greatest_height (run bytes tokens at (end - at)) e y.is y.low)

-- a refusal of the expression

stops_as : {s : Setting} {q : LineState} {ts : List LineToken} {n m : ℕ} {p p' : Place} → Stops s q ts n p → n ≡ m → p ≡ p' → Stops s q ts m p'
stops_as {s = s} {q = q} {ts = ts} {n = n} {m = m} {p = p} {p' = p'} x e f = subst (λ p. Stops s q ts m p) f (subst (λ n. Stops s q ts n p) e x)

line_end_fits : (s : Setting) → refusal_of s word.LineEnd ≡ None
unfolding refusal_of
line_end_fits s = refl

refusal_is : (s : Setting) (bytes : List ℕ) (tokens : List lexer_token.Token) (i : ℕ) (t : lexer_token.Token) → slice_get tokens i ≡ Some t → refusal_at s bytes tokens i ≡ refusal_of s (line_tokens.word (line_token bytes t))
unfolding refusal_at
refusal_is s bytes tokens i t h = ap (option_and_then (λ t. refusal_of s (word_of bytes t))) h

pub refused_stops : (s : Setting) (bytes : List ℕ) (tokens : List lexer_token.Token) (at : ℕ) (q : LineState) (h : Phrase) (fault : Fault) → at < length tokens → (choices q).phrase ≡ Some h → FitsSetting s q → ((r : LineState) → ¬ Follows (choices q).arrows (token_at bytes tokens at) r) → IsFault h.setting greatest_height bytes tokens at fault → Stops s q (tokens_from bytes tokens at) fault.number fault.place
refused_stops s bytes tokens at q h fault lt p fits unfollowed (r, i, (n, long, ends), (t, get, number, place)) = go (ends_refused h.setting greatest_height bytes tokens at (at + n) (take n (parsing.tokens_from bytes tokens at)) r i ends)
  where
    y : Run h.setting bytes tokens at n
    y = run_of h.setting bytes tokens at n lt long

    us : List LineToken
    us = run bytes tokens at n

    end : LineToken
    end = token_at bytes tokens (at + n)

    here : tokens_from bytes tokens at ≡ token_at bytes tokens at ∷ tokens_from bytes tokens (at + 1)
    here = first_at bytes tokens at (omega (arith, lt))

    not_high_there : ¬ heights.IsTooHigh h.setting greatest_height (take n (parsing.tokens_from bytes tokens at)) → ¬ heights.IsTooHigh h.setting greatest_height (terms (run bytes tokens at n))
    not_high_there low high = low (subst (λ l. heights.IsTooHigh h.setting greatest_height l) y.terms_are high)

    stops_behind : ¬ heights.IsTooHigh h.setting greatest_height (take n (parsing.tokens_from bytes tokens at)) → ((e : Tree) → IsExpression h.setting e (terms (run bytes tokens at n)) → (r : LineState) → ¬ Follows (behind h (run bytes tokens at n)) (token_at bytes tokens (at + n)) r) → Stops s q (tokens_from bytes tokens at) (number_of s (line_tokens.word (token_at bytes tokens (at + n)))) (token_at bytes tokens (at + n)).place
    stops_behind low not_behind =
        behind_stops s q h (run bytes tokens at n) (token_at bytes tokens (at + n)) (tokens_from bytes tokens (at + n + 1)) (tokens_from bytes tokens at)
        (y.split ∙ ap (λ l. run bytes tokens at n ++ l) (first_at bytes tokens (at + n) y.within)) p
        (unfollowed_first q (token_at bytes tokens at) (tokens_from bytes tokens (at + 1)) (tokens_from bytes tokens at) here unfollowed)
        y.front y.stops not_behind (not_high_there low)

    go : Refuses h.setting greatest_height bytes tokens at (at + n) (take n (parsing.tokens_from bytes tokens at)) r i → Stops s q (tokens_from bytes tokens at) fault.number fault.place
    go (is_high re ie high) =
        let is = is_at bytes tokens at t (ap (slice_get tokens) (sym ie) ∙ get) in
        let n8 : fault.number ≡ refusal_number TooNested = number ∙ ap refusal_number re in
        let there : IsTooHigh h (token_at bytes tokens at ∷ tokens_from bytes tokens (at + 1)) = record { front = run bytes tokens at n; rest = tokens_from bytes tokens (at + n); split = sym here ∙ y.split; begins = y.front; high = subst (λ l. heights.IsTooHigh h.setting greatest_height l) (sym y.terms_are) high } in
        stops_as (too_high here p there) (sym n8) (ap (λ t. t.place) is ∙ sym place)
    go (is_unfit ie low fit) =
        let get_end : slice_get tokens (at + n) ≡ Some t = ap (slice_get tokens) (sym ie) ∙ get in
        let is = is_at bytes tokens (at + n) t get_end in
        let mine : refusal_of h.setting (line_tokens.word (token_at bytes tokens (at + n))) ≡ Some r = ap (λ t. refusal_of h.setting (line_tokens.word t)) is ∙ sym (refusal_is h.setting bytes tokens (at + n) t get_end) ∙ fit in
        let ours : refusal_of s (line_tokens.word (token_at bytes tokens (at + n))) ≡ Some r = sym (fits h p (line_tokens.word (token_at bytes tokens (at + n)))) ∙ mine in
        stops_as (stops_behind low (λ e x r' f. let good = behind_good q h (run bytes tokens at n) (token_at bytes tokens (at + n)) r' h.setting p f in let z = sym mine ∙ good in absurd cc))
        (ap (λ o. refusal_number (unwrap_or o Unexpected)) ours ∙ sym number)
        (ap (λ t. t.place) is ∙ sym place)
    go (is_broken re ie low fit not_tree) = there (slice_get tokens (at + n)) refl
      where
        no_tree : (e : Tree) → ¬ IsExpression h.setting e (terms (run bytes tokens at n))
        no_tree e x = not_tree e (subst (IsExpression h.setting e) y.terms_are x)

        there : (o : Option lexer_token.Token) → slice_get tokens (at + n) ≡ o → Stops s q (tokens_from bytes tokens at) fault.number fault.place
        there (Some u) x =
            let inside = slice_get_within tokens (at + n) u x in
            let i_is : i ≡ at + n = ie ∙ rw (lt-ltb (at + n) (length tokens) inside) refl in
            let same_token : Some t ≡ Some u = sym get ∙ ap (slice_get tokens) i_is ∙ x in
            let same_one : t ≡ u = cc in
            let is = is_at bytes tokens (at + n) u x in
            let ours : refusal_of s (line_tokens.word (token_at bytes tokens (at + n))) ≡ None = sym (fits h p (line_tokens.word (token_at bytes tokens (at + n)))) ∙ ap (λ t. refusal_of h.setting (line_tokens.word t)) is ∙ sym (refusal_is h.setting bytes tokens (at + n) u x) ∙ fit in
            stops_as (stops_behind low (λ e z. absurd (no_tree e z)))
            (ap (λ o. refusal_number (unwrap_or o Unexpected)) ours ∙ sym (number ∙ ap refusal_number re))
            (ap (λ t. t.place) is ∙ ap (λ u. u.place) (sym same_one) ∙ sym place)
        there None x =
            let past = none_within tokens (at + n) x in
            let w = y.within in
            let whole : at + n ≡ length tokens = omega (arith, past, w) in
            let i_is : i ≡ at + n - 1 = ie ∙ rw (le-ltb (at + n) (length tokens) past) refl in
            let last = last_is bytes tokens (at + n - 1) t (omega (arith, whole, lt)) (ap (slice_get tokens) (sym i_is) ∙ get) in
            let is = is_end bytes tokens (at + n) x in
            let ours : refusal_of s (line_tokens.word (token_at bytes tokens (at + n))) ≡ None = ap (λ t. refusal_of s (line_tokens.word t)) is ∙ line_end_fits s in
            stops_as (stops_behind low (λ e z. absurd (no_tree e z)))
            (ap (λ o. refusal_number (unwrap_or o Unexpected)) ours ∙ sym (number ∙ ap refusal_number re))
            (ap (λ t. t.place) is ∙ last ∙ sym place)
