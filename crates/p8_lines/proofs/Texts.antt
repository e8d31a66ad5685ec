-- The tokens of a text, one after the other, and the longest run of them that begins an expression.
use Rattle.std.proofs.Common.{◌≡◌, ℕ, zero, suc, ◌+◌, ◌<◌, ◌≤◌, length, take, drop, List, [], ◌∷◌, ◌++◌, Option, Some, None, refl, sym, ap, ◌∙◌, subst, arith, add-one}
use Rattle.std.specs.Prelude.{map, slice_get, option_map, option_and_then, unwrap_or}
use Rattle.std.proofs.lemmas.Option.{slice_get_within}
use Rattle.std.proofs.lemmas.List.{take-append-drop, length-map, length-drop}
use Rattle.p8_tree.specs.declared.places.Place.{Place}
use Rattle.p8_lexer.specs.declared.token.Token as lexer_token
use Rattle.p8_grammar.specs.Lexemes.{Setting, other, Token, token}
use Rattle.p8_grammar.specs.Grammar.{IsFront, IsLongestFront}
use Rattle.p8_grammar.specs.Machine.{State, walk, start}
use Rattle.p8_grammar.proofs.Steps.{other_stops}
use Rattle.p8_grammar.proofs.Live.{dead}
use Rattle.p8_grammar.proofs.Walks.{walk_append}
use Rattle.p8_expr.specs.Words.{token_of, lexeme_of_token, lexeme_of_word}
use Rattle.p8_expr.specs.Parsing as parsing
use Rattle.p8_expr.proofs.Runs.{next_token}
use Rattle.p8_lines.specs.Tokens.{LineToken, lexeme, term, terms, line_token, last_place, text_end, tokens_from}
use Rattle.p8_lines.specs.Stopping.{token_at, run}

-- the token of this number, and those after it
drop_at : {A B : Type 0} (f : A → B) (e : B) (xs : List A) (at : ℕ) → at ≤ length xs → drop at (map f xs ++ e ∷ []) ≡ unwrap_or (option_map f (slice_get xs at)) e ∷ drop (at + 1) (map f xs ++ e ∷ [])
drop_at f e [] zero le = ap (λ n. e ∷ drop n (e ∷ [])) (sym (add-one 0))
drop_at f e [] (suc at) le = absurd (omega (arith, le))
drop_at f e (y ∷ ys) zero le = ap (λ n. f y ∷ drop n (map f (y ∷ ys) ++ e ∷ [])) (sym (add-one 0))
drop_at f e (y ∷ ys) (suc at) le = drop_at f e ys at (omega (arith, le)) ∙ ap (λ l. unwrap_or (option_map f (slice_get ys at)) e ∷ l) (ap (λ n. drop n (map f ys ++ e ∷ [])) (add-one at) ∙ ap (λ n. drop n (map f (y ∷ ys) ++ e ∷ [])) (sym (add-one (suc at))))

pub first_at : (bytes : List ℕ) (tokens : List lexer_token.Token) (at : ℕ) → at ≤ length tokens → tokens_from bytes tokens at ≡ token_at bytes tokens at ∷ tokens_from bytes tokens (at + 1)
first_at bytes tokens at le = drop_at (line_token bytes) (text_end (map (line_token bytes) tokens)) tokens at le

pub is_at : (bytes : List ℕ) (tokens : List lexer_token.Token) (at : ℕ) (t : lexer_token.Token) → slice_get tokens at ≡ Some t → token_at bytes tokens at ≡ line_token bytes t
is_at bytes tokens at t h = ap (λ o. unwrap_or (option_map (line_token bytes) o) (text_end (map (line_token bytes) tokens))) h

pub is_end : (bytes : List ℕ) (tokens : List lexer_token.Token) (at : ℕ) → slice_get tokens at ≡ None → token_at bytes tokens at ≡ text_end (map (line_token bytes) tokens)
is_end bytes tokens at h = ap (λ o. unwrap_or (option_map (line_token bytes) o) (text_end (map (line_token bytes) tokens))) h

-- the place of the text's end is that of its last token
pub last_is : (bytes : List ℕ) (tokens : List lexer_token.Token) (i : ℕ) (t : lexer_token.Token) → i + 1 ≡ length tokens → slice_get tokens i ≡ Some t → (text_end (map (line_token bytes) tokens)).place ≡ t.place
last_is bytes tokens i t h g = go (record { line = 1; column = 1 }) tokens i h g
  where
    go : (p : Place) (tokens : List lexer_token.Token) (i : ℕ) → i + 1 ≡ length tokens → slice_get tokens i ≡ Some t → last_place p (map (line_token bytes) tokens) ≡ t.place
    go p [] i h g = absurd cc
    go p (x ∷ []) zero h g = let same : x ≡ t = cc in ap (λ y. y.place) same
    go p (x ∷ []) (suc i) h g = absurd cc
    go p (x ∷ (y ∷ ys)) zero h g = absurd (omega (arith, h))
    go p (x ∷ (y ∷ ys)) (suc i) h g = go x.place (y ∷ ys) i (omega (arith, h)) g

-- what stands in no expression begins and goes on with none
pub other_ends : (s : Setting) (ts : List Token) (p : Place) → ¬ IsFront s (ts ++ token p other ∷ [])
other_ends s ts p = dead s (ts ++ token p other ∷ []) (walk_append (start s) ts (token p other ∷ []) ∙ go (walk (start s) ts))
  where
    go : (o : Option State) → option_and_then (λ st. walk st (token p other ∷ [])) o ≡ None
    go None = refl
    go (Some st) = ap (λ o. option_and_then (λ st. walk st []) o) (other_stops st p)

pub text_end_other : (ts : List LineToken) → lexeme (text_end ts) ≡ other
unfolding lexeme_of_word
text_end_other ts = refl

pub text_end_ends : (s : Setting) (us ts : List LineToken) → ¬ IsFront s (terms us ++ term (text_end ts) ∷ [])
text_end_ends s us ts = subst (λ x. ¬ IsFront s (terms us ++ token (text_end ts).place x ∷ [])) (sym (text_end_other ts)) (other_ends s (terms us) (text_end ts).place)

-- the same tokens as the reader of expressions has them
term_is : (bytes : List ℕ) (t : lexer_token.Token) → term (line_token bytes t) ≡ token_of bytes t
unfolding token_of lexeme_of_token
term_is bytes t = refl

terms_taken : (bytes : List ℕ) (e : LineToken) (n : ℕ) (tokens : List lexer_token.Token) → n ≤ length tokens → terms (take n (map (line_token bytes) tokens ++ e ∷ [])) ≡ take n (map (token_of bytes) tokens)
terms_taken bytes e zero tokens le = refl
terms_taken bytes e (suc n) [] le = absurd (omega (arith, le))
terms_taken bytes e (suc n) (x ∷ xs) le = λ i. term_is bytes x i ∷ terms_taken bytes e n xs (omega (arith, le)) i

drop_map : {A B : Type 0} (f : A → B) (e : B) (n : ℕ) (xs : List A) → n ≤ length xs → drop n (map f xs ++ e ∷ []) ≡ map f (drop n xs) ++ e ∷ []
drop_map f e zero xs le = refl
drop_map f e (suc n) [] le = absurd (omega (arith, le))
drop_map f e (suc n) (x ∷ xs) le = drop_map f e n xs (omega (arith, le))

-- what is dropped twice
drop_drop : {A : Type 0} (n m : ℕ) (xs : List A) → drop m (drop n xs) ≡ drop (n + m) xs
drop_drop zero m xs = ap (λ k. drop k xs) (let e : m ≡ 0 + m = omega arith in e)
drop_drop (suc n) zero [] = nil (suc n + zero)
  where
    nil : {A : Type 0} (k : ℕ) → [] ≡ drop {A = A} k []
    nil zero = refl
    nil (suc k) = refl
drop_drop (suc n) (suc m) [] = nil (suc n + suc m)
  where
    nil : {A : Type 0} (k : ℕ) → [] ≡ drop {A = A} k []
    nil zero = refl
    nil (suc k) = refl
drop_drop (suc n) m (x ∷ xs) = drop_drop n m xs ∙ ap (λ k. drop k (x ∷ xs)) (let e : suc (n + m) ≡ suc n + m = omega arith in e)

-- the longest run that begins an expression
pub record Run (s : Setting) (bytes : List ℕ) (tokens : List lexer_token.Token) (at n : ℕ) : Type 0 where
  pub within : at + n ≤ length tokens
  pub split : tokens_from bytes tokens at ≡ run bytes tokens at n ++ tokens_from bytes tokens (at + n)
  pub terms_are : terms (run bytes tokens at n) ≡ take n (parsing.tokens_from bytes tokens at)
  pub front : IsFront s (terms (run bytes tokens at n))
  pub stops : ¬ IsFront s (terms (run bytes tokens at n) ++ term (token_at bytes tokens (at + n)) ∷ [])

pub run_of : (s : Setting) (bytes : List ℕ) (tokens : List lexer_token.Token) (at n : ℕ) → at < length tokens → IsLongestFront s (parsing.tokens_from bytes tokens at) n → Run s bytes tokens at n
run_of s bytes tokens at n lt long =
    record {
      within = within;
      split = sym (take-append-drop n (tokens_from bytes tokens at)) ∙ ap (λ l. run bytes tokens at n ++ l) (drop_drop at n (map (line_token bytes) tokens ++ e ∷ []));
      terms_are = same;
      front = subst (IsFront s) (sym same) long.front;
      stops = go (slice_get tokens (at + n)) refl;
    }
  where
    e : LineToken
    e = text_end (map (line_token bytes) tokens)

    n_le : n ≤ length (drop at tokens)
    n_le = let h = length-map (drop at tokens) (token_of bytes) in let w = long.within in omega (arith, h, w)

    within : at + n ≤ length tokens
    within = let h = length-drop at tokens in let w = n_le in omega (arith, h, w, lt)

    same : terms (run bytes tokens at n) ≡ take n (parsing.tokens_from bytes tokens at)
    same = ap (λ l. terms (take n l)) (drop_map (line_token bytes) e at tokens (omega (arith, lt))) ∙ terms_taken bytes e n (drop at tokens) n_le

    go : (o : Option lexer_token.Token) → slice_get tokens (at + n) ≡ o → ¬ IsFront s (terms (run bytes tokens at n) ++ term (token_at bytes tokens (at + n)) ∷ [])
    go None h f = text_end_ends s (run bytes tokens at n) (map (line_token bytes) tokens) (subst (λ t. IsFront s (terms (run bytes tokens at n) ++ term t ∷ [])) (is_end bytes tokens (at + n) h) f)
    go (Some u) h f =
        let inside = slice_get_within tokens (at + n) u h in
        let l = length-drop at tokens in
        let m = length-map (drop at tokens) (token_of bytes) in
        long.stops (omega (arith, inside, l, m))
        (subst (IsFront s) ((λ i. same i ++ (ap term (is_at bytes tokens (at + n) u h) ∙ term_is bytes u) i ∷ []) ∙ sym (next_token bytes tokens at n u h)) f)
