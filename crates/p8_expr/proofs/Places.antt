-- The tokens from a place on, and reading over one of them.
use Rattle.std.proofs.Common.{◌≡◌, ℕ, zero, suc, ◌+◌, ◌<◌, ◌≤◌, min, length, drop, map, List, [], ◌∷◌, Option, Some, None, refl, sym, ap, ◌∙◌, subst, arith, drop-cons}
use Rattle.std.specs.Prelude.{IsTrue, slice_get}
use Rattle.std.proofs.lemmas.Option.{slice_get_within, get_or_from_slice_get}
use Rattle.std.proofs.lemmas.List.{drop_all}
use Rattle.p8_tree.specs.declared.places.Place.{Place}
use Rattle.p8_lexer.specs.declared.token.Token as lexer_token
use Rattle.p8_grammar.specs.Lexemes.{Setting, Lexeme, other, token}
use Rattle.p8_grammar.specs.Machine.{Shape, Next, grow, loose, State, step}
use Rattle.p8_grammar.specs.Outcomes.{stopped, run}
use Rattle.p8_grammar.proofs.Running.{run_step, run_stop}
use Rattle.p8_grammar.proofs.Stuck.{other_stuck}
use Rattle.p8_expr.specs.Words.{token_of, lexeme_of_token}
use Rattle.p8_expr.specs.Parsing.{tokens_from}
use Rattle.p8_expr.specs.Views.{is_word}
use Rattle.p8_expr.specs.Cursors.{place_or, place_at, end_place, lexeme_in, lexeme_at}

-- where there is no token
pub none_within : {A : Type 0} (xs : List A) (i : ℕ) → slice_get xs i ≡ None → length xs ≤ i
none_within [] i h = omega arith
none_within (x ∷ xs) zero h = absurd cc
none_within (x ∷ xs) (suc i) h = let n = none_within xs i h in omega (arith, n)

pub none_left : (bytes : List ℕ) (tokens : List lexer_token.Token) (at : ℕ) → length tokens ≤ at → tokens_from bytes tokens at ≡ []
none_left bytes tokens at le = ap (map (token_of bytes)) (drop_all at tokens le)

-- a token, and those after it
pub some_left : (bytes : List ℕ) (tokens : List lexer_token.Token) (at : ℕ) (t : lexer_token.Token) → slice_get tokens at ≡ Some t → tokens_from bytes tokens at ≡ token t.place (lexeme_of_token bytes t) ∷ tokens_from bytes tokens (min (at + 1) (length tokens))
unfolding token_of
some_left bytes tokens at t e =
    let lt : at < length tokens = slice_get_within tokens at t e in
    let next : suc at ≡ min (at + 1) (length tokens) = omega (arith, lt) in
    ap (map (token_of bytes)) (drop-cons tokens at t lt ∙ (λ i. get_or_from_slice_get tokens at t t e i ∷ drop (next i) tokens))

pub within_word : (bytes : List ℕ) (tokens : List lexer_token.Token) (at : ℕ) → IsTrue (is_word (loose (lexeme_at bytes tokens at))) → at < length tokens
within_word bytes tokens at w = go (slice_get tokens at) refl w
  where
    go : (o : Option lexer_token.Token) → slice_get tokens at ≡ o → IsTrue (is_word (loose (lexeme_in bytes o))) → at < length tokens
    go None e w = absurd cc
    go (Some t) e w = slice_get_within tokens at t e

pub grown_word : (s : Setting) (sh : Shape) (p : Place) (y : Lexeme) (n : Next) → grow s sh p y ≡ Some n → IsTrue (is_word y)
grown_word s sh p other n h = let e : None ≡ Some n = sym (other_stuck s sh p) ∙ h in absurd cc
grown_word s sh p y n h = refl

-- a state that goes on with no word
pub stops_at : (bytes : List ℕ) (tokens : List lexer_token.Token) (at : ℕ) (st : State) → step st (token (place_at tokens at) (lexeme_at bytes tokens at)) ≡ None → run st (tokens_from bytes tokens at) ≡ stopped st (tokens_from bytes tokens at)
stops_at bytes tokens at st h = go (slice_get tokens at) refl h
  where
    go : (o : Option lexer_token.Token) → slice_get tokens at ≡ o → step st (token (place_or o (end_place tokens)) (lexeme_in bytes o)) ≡ None → run st (tokens_from bytes tokens at) ≡ stopped st (tokens_from bytes tokens at)
    go None e h = subst (λ ts. run st ts ≡ stopped st ts) (sym (none_left bytes tokens at (none_within tokens at e))) refl
    go (Some t) e h = subst (λ ts. run st ts ≡ stopped st ts) (sym (some_left bytes tokens at t e)) (run_stop st (token t.place (lexeme_of_token bytes t)) (tokens_from bytes tokens (min (at + 1) (length tokens))) h)

-- a token, where there is one
pub token_left : (bytes : List ℕ) (tokens : List lexer_token.Token) (at : ℕ) → at < length tokens → tokens_from bytes tokens at ≡ token (place_at tokens at) (lexeme_at bytes tokens at) ∷ tokens_from bytes tokens (min (at + 1) (length tokens))
token_left bytes tokens at lt = go (slice_get tokens at) refl
  where
    go : (o : Option lexer_token.Token) → slice_get tokens at ≡ o → tokens_from bytes tokens at ≡ token (place_or o (end_place tokens)) (lexeme_in bytes o) ∷ tokens_from bytes tokens (min (at + 1) (length tokens))
    go None e = let most : length tokens ≤ at = none_within tokens at e in absurd (omega (arith, lt, most))
    go (Some t) e = some_left bytes tokens at t e

-- and one that goes on
pub steps_at : (bytes : List ℕ) (tokens : List lexer_token.Token) (at : ℕ) (st st' : State) → at < length tokens → step st (token (place_at tokens at) (lexeme_at bytes tokens at)) ≡ Some st' → run st (tokens_from bytes tokens at) ≡ run st' (tokens_from bytes tokens (min (at + 1) (length tokens)))
steps_at bytes tokens at st st' lt h =
    ap (run st) (token_left bytes tokens at lt) ∙ run_step st st' (token (place_at tokens at) (lexeme_at bytes tokens at)) (tokens_from bytes tokens (min (at + 1) (length tokens))) h
