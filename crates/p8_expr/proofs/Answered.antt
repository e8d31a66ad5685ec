-- What the reader's loop keeps, and what comes of it: a tree, or a refusal at its token.
use Rattle.std.proofs.Common.{◌≡◌, ℕ, ◌-◌, ◌<◌, ◌≤◌, length, List, [], Option, Some, None, Bool, true, false, refl, sym, ap, ◌∙◌, subst, arith}
use Rattle.std.specs.Prelude.{if◌then◌else◌, nat_lt, slice_get, unwrap_or}
use Rattle.std.proofs.lemmas.Bool.{ltb-true, ltb-false}
use Rattle.std.proofs.lemmas.Option.{slice_get_past}
use Rattle.p8_tree.specs.declared.places.Place.{Place}
use Rattle.p8_tree.specs.declared.expressions.Expr.{Expr}
use Rattle.p8_tree.specs.declared.faults.Fault.{Fault}
use Rattle.p8_tree.specs.declared.refusal.Refusal.{Refusal}
use Rattle.p8_tree.specs.declared.refusal.Refusal.TheVariants.{TooNested, Unexpected}
use Rattle.p8_tree.specs.Refusals.{refusal_number}
use Rattle.p8_tree.specs.Expressions.{Tree}
use Rattle.p8_tree.specs.Views.{tree_of}
use Rattle.p8_lexer.specs.declared.token.Token as lexer_token
use Rattle.p8_grammar.specs.Lexemes.{Setting, Token}
use Rattle.p8_grammar.specs.Machine.{fresh, State, state, start}
use Rattle.p8_grammar.specs.Least.{least}
use Rattle.p8_grammar.specs.Outcomes.{Outcome, outcome, run}
use Rattle.p8_grammar.specs.Views.{setting_of}
use Rattle.p8_grammar.proofs.Readings.{means, least_grows}
use Rattle.p8_expr.specs.Cursors.{Spot}
use Rattle.p8_expr.specs.declared.reading.Reader.{Reader}
use Rattle.p8_expr.specs.declared.reading.Ended.{Ended}
use Rattle.p8_expr.specs.declared.reading.Ended.TheVariants as ended
use Rattle.p8_expr.specs.Parsing.{IsFaultAt, IsFault, refusal_at, tokens_from}
use Rattle.p8_expr.specs.Cursors.{place_or, place_at, end_place, from}
use Rattle.p8_expr.specs.Views.{shape_of, frames_in, IsTall}
use Rattle.p8_expr.specs.Lookaheads.{left, Fits}
use Rattle.p8_expr.specs.Reading.{state_of, Read, Tells, Turns, IsEnded}
use Rattle.p8_expr.proofs.Places.{none_within}
use Rattle.p8_expr.proofs.Runs.{rest_length, unfit_read, high_read, stopped_high, broken_read, refusal_within}

-- ---- the loop

-- what comes of reading on from where a reader is comes of reading from the beginning
pub record IsReading (s : Setting) (bytes : List ℕ) (tokens : List lexer_token.Token) (at : ℕ) (r : Reader) : Type 0 where
  pub runs : run (start s) (tokens_from bytes tokens at) ≡ run (state_of r) (left r.ahead)
  pub bytes_are : r.ahead.here.bytes ≡ bytes
  pub tokens_are : r.ahead.here.tokens ≡ tokens
  pub fits : Fits r.ahead
  pub tall : IsTall r.form

pub started : (r : Reader) (s : Setting) (here : Spot) → r.ahead.here ≡ here → setting_of r.ahead.setting ≡ s → shape_of r.form ≡ fresh → frames_in r.stack ≡ [] → Fits r.ahead → IsTall r.form → IsReading s here.bytes here.tokens here.at r
started r s here h t f none fits tall = record {
  fits = fits;
  tall = tall;
  runs = (λ i. run (state (sym t i) (sym f i) (sym none i)) (from (sym h i)));
  bytes_are = ap (λ c. c.bytes) h;
  tokens_are = ap (λ c. c.tokens) h;
}

-- one turn more
pub turned : (s : Setting) (bytes : List ℕ) (tokens : List lexer_token.Token) (at l : ℕ) (old new : Reader) → IsReading s bytes tokens at old → Turns l (state_of old) old.ahead None new → IsReading s bytes tokens at new
turned s bytes tokens at l old new r (f, lt, e, tall) = record { tall = tall; runs = r.runs ∙ e; bytes_are = f.bytes_are ∙ r.bytes_are; tokens_are = f.tokens_are ∙ r.tokens_are; fits = f.fits }

-- the tokens that are left get fewer
pub turned_fewer : (s : Setting) (bytes : List ℕ) (tokens : List lexer_token.Token) (at l : ℕ) (old new : Reader) → IsReading s bytes tokens at old → Turns l (state_of old) old.ahead None new → length tokens - new.ahead.here.at < length tokens - old.ahead.here.at
turned_fewer s bytes tokens at l old new r (f, lt, e, tall) =
    let most : new.ahead.here.at ≤ length tokens = subst (λ ts. new.ahead.here.at ≤ length ts) (f.tokens_are ∙ r.tokens_are) f.fits.within in
    omega (arith, most, lt)

read_of : (s : Setting) (bytes : List ℕ) (tokens : List lexer_token.Token) (at end n : ℕ) (o : Option Tree) → at ≤ length tokens → end ≤ length tokens → run (start s) (tokens_from bytes tokens at) ≡ outcome o n (tokens_from bytes tokens end) → Read s bytes tokens at o n end
read_of s bytes tokens at end n o a w e =
    let m = means s (tokens_from bytes tokens at) o n (tokens_from bytes tokens end) e in
    record { ordered = omega (arith, m.fewer, rest_length bytes tokens at, rest_length bytes tokens end, a, w); within = w; comes = e }

-- how reading ends
pub ends_reading : (s : Setting) (limit : ℕ) (bytes : List ℕ) (tokens : List lexer_token.Token) (at : ℕ) (old new : Reader) (o : Ended) → at ≤ length tokens → IsReading s bytes tokens at old → least (state_of old) ≤ limit → Turns (least (state_of old)) (state_of old) old.ahead (Some o) new → IsEnded s limit bytes tokens at o
ends_reading s limit bytes tokens at old new o a r low told =
    by_end o (subst (λ b. Tells b tokens l o (run st (left old.ahead))) r.bytes_are (subst (λ t. Tells old.ahead.here.bytes t l o (run st (left old.ahead))) r.tokens_are told))
  where
    st : State
    st = state_of old

    l : ℕ
    l = least st

    by_end : (o : Ended) → Tells bytes tokens l o (run st (left old.ahead)) → IsEnded s limit bytes tokens at o
    by_end (ended.Whole e end) (w, is) = (l, low, read_of s bytes tokens at end l (Some (tree_of e)) a w (r.runs ∙ is))
    by_end (ended.Broken end h) (n, c, w, is) = (n, c, read_of s bytes tokens at end n None a w (r.runs ∙ is))
    by_end ended.TooHigh told = absurd told

-- and where all that begins so is too high
pub high_reading : (s : Setting) (limit : ℕ) (bytes : List ℕ) (tokens : List lexer_token.Token) (at : ℕ) (r : Reader) → IsReading s bytes tokens at r → limit < least (state_of r) → IsEnded s limit bytes tokens at ended.TooHigh
high_reading s limit bytes tokens at r g high = go (run (state_of r) (left r.ahead)) refl
  where
    go : (o : Outcome) → run (state_of r) (left r.ahead) ≡ o → IsEnded s limit bytes tokens at ended.TooHigh
    go (outcome o n us) e = let low = least_grows (state_of r) (left r.ahead) o n us e in (o, n, us, omega (arith, high, low), g.runs ∙ e)

-- ---- refusals

told_at : (r : Refusal) (tokens : List lexer_token.Token) (i : ℕ) (f : Fault) → i < length tokens → f.number ≡ refusal_number r → f.place ≡ place_at tokens i → IsFaultAt r tokens i f
told_at r tokens i f lt n p = go (slice_get tokens i) refl
  where
    go : (o : Option lexer_token.Token) → slice_get tokens i ≡ o → IsFaultAt r tokens i f
    go None e = let most : length tokens ≤ i = none_within tokens i e in absurd (omega (arith, lt, most))
    go (Some t) e = (t, e, n, p ∙ ap (λ o. place_or o (end_place tokens)) e)

-- behind the last token that one is told
place_behind : (tokens : List lexer_token.Token) (end : ℕ) → 0 < length tokens → length tokens ≤ end → place_at tokens end ≡ place_at tokens (length tokens - 1)
place_behind tokens end some past = ap (λ o. place_or o (place_or last first)) (slice_get_past tokens end past) ∙ sym (same last refl)
  where
    first : Place
    first = record { line = 1; column = 1 }

    last : Option lexer_token.Token
    last = slice_get tokens (length tokens - 1)

    same : (o : Option lexer_token.Token) → last ≡ o → place_or o (place_or last first) ≡ place_or last first
    same None e = refl
    same (Some t) e = ap (λ o. place_or o first) (sym e)

told_last : (r : Refusal) (tokens : List lexer_token.Token) (end : ℕ) (f : Fault) → 0 < length tokens → end ≤ length tokens → f.number ≡ refusal_number r → f.place ≡ place_at tokens end → IsFaultAt r tokens (if nat_lt end (length tokens) then end else end - 1) f
told_last r tokens end f some most n p = go (nat_lt end (length tokens)) refl
  where
    go : (b : Bool) → nat_lt end (length tokens) ≡ b → IsFaultAt r tokens (if b then end else end - 1) f
    go true h = told_at r tokens end f (ltb-true end (length tokens) h) n p
    go false h =
        let past : length tokens ≤ end = ltb-false end (length tokens) h in
        let at : length tokens - 1 ≡ end - 1 = omega (arith, past, most) in
        told_at r tokens (end - 1) f (omega (arith, some, most)) n (p ∙ place_behind tokens end some past ∙ ap (place_at tokens) at)

pub high_fault : (s : Setting) (limit : ℕ) (bytes : List ℕ) (tokens : List lexer_token.Token) (at : ℕ) (f : Fault) → at < length tokens → IsEnded s limit bytes tokens at ended.TooHigh → f.number ≡ refusal_number TooNested → f.place ≡ place_at tokens at → IsFault s limit bytes tokens at f
high_fault s limit bytes tokens at f lt e n p = (TooNested, at, stopped_high s limit bytes tokens at (omega (arith, lt)) e, told_at TooNested tokens at f lt n p)

pub whole_fault : (s : Setting) (limit : ℕ) (bytes : List ℕ) (tokens : List lexer_token.Token) (at end : ℕ) (x : Expr) (q : Refusal) (f : Fault) → IsEnded s limit bytes tokens at (ended.Whole x end) → refusal_at s bytes tokens end ≡ Some q → f.number ≡ refusal_number q → f.place ≡ place_at tokens end → IsFault s limit bytes tokens at f
whole_fault s limit bytes tokens at end x q f (l, low, r) some n p =
    (q, end, unfit_read s limit bytes tokens at end l (Some (tree_of x)) q r low some, told_at q tokens end f (refusal_within s bytes tokens end q some) n p)

pub too_high_fault : (s : Setting) (limit : ℕ) (bytes : List ℕ) (tokens : List lexer_token.Token) (at end h : ℕ) (f : Fault) → at < length tokens → IsEnded s limit bytes tokens at (ended.Broken end h) → limit < h → f.number ≡ refusal_number TooNested → f.place ≡ place_at tokens at → IsFault s limit bytes tokens at f
too_high_fault s limit bytes tokens at end h f lt (l, low, r) high n p =
    (TooNested, at, high_read s limit bytes tokens at end l None r (omega (arith, low, high)), told_at TooNested tokens at f lt n p)

pub broken_fault : (s : Setting) (limit : ℕ) (bytes : List ℕ) (tokens : List lexer_token.Token) (at end h : ℕ) (o : Option Refusal) (q : Refusal) (f : Fault) → at < length tokens → limit ≤ 64 → IsEnded s limit bytes tokens at (ended.Broken end h) → h ≤ limit → o ≡ refusal_at s bytes tokens end → q ≡ unwrap_or o Unexpected → f.number ≡ refusal_number q → f.place ≡ place_at tokens end → IsFault s limit bytes tokens at f
broken_fault s limit bytes tokens at end h (Some x) q f lt most (l, low, r) le e u n p =
    (x, end, unfit_read s limit bytes tokens at end l None x r (omega (arith, low, le, most)) (sym e), told_at x tokens end f (refusal_within s bytes tokens end x (sym e)) (n ∙ ap refusal_number u) p)
broken_fault s limit bytes tokens at end h None q f lt most (l, low, r) le e u n p = (
  Unexpected,
  (if nat_lt end (length tokens) then end else end - 1),
  broken_read s limit bytes tokens at end l r (omega (arith, low, le, most)) (sym e),
  told_last Unexpected tokens end f (omega (arith, lt)) r.within (n ∙ ap refusal_number u) p,
)
