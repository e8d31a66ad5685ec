-- Where tokens lead, as the code looks it up.
use Rattle.std.proofs.Common.{◌≡◌, ◌≢◌, ◌⊎◌, inl, inr, ℕ, zero, suc, ◌+◌, ◌-◌, ◌<◌, ◌≤◌, Bool, true, false, length, drop, get_or, List, [], ◌∷◌, Option, Some, None, refl, sym, ap, ◌∙◌, subst, arith, add-one, drop-cons}
use Rattle.std.specs.Prelude.{map, slice_get, take, if◌then◌else◌, option_map, unwrap_or, MatchOption}
use Rattle.p8_lexer.specs.declared.word.Word.{Word}
use Rattle.p8_lexer.specs.declared.word.Word.TheVariants as word
use Rattle.p8_lexer.specs.declared.token.Token as lexer_token
use Rattle.p8_lexer.specs.declared.token.TokenKind.{TokenKind}
use Rattle.p8_lexer.specs.declared.token.TokenKind.TheVariants as kind
use Rattle.p8_lexer.specs.Words.{capital, word_of_kind, word_of}
use Rattle.p8_expr.specs.Words.{lexeme_of_word, lexeme_by_word, reserved_as, lexeme_by_kind}
use Rattle.p8_expr.specs.Cursors.{Spot, word_there, end_place, place_there}
use Rattle.p8_expr.proofs.Places.{none_within}
use Rattle.p8_lines.specs.declared.arrow.Arrow.{Arrow}
use Rattle.p8_lines.specs.declared.state.LineState.{LineState}
use Rattle.p8_lines.specs.Signs.{Matches}
use Rattle.p8_lines.specs.Tokens as line_tokens
use Rattle.p8_lines.specs.Tokens.{LineToken, lexeme, string_length, line_token, text_end, tokens_from}
use Rattle.p8_lines.specs.Diagram.{Phrase, choices, behind_in, behind_name_in}
use Rattle.p8_lines.specs.Stopping.{token_at, next, run}
use Rattle.p8_grammar.specs.Lexemes.{Lexeme, method_result}
use Rattle.p8_lines.specs.Lines.{IsOn, Follows, here, further, is_name_word, is_name, behind}
use Rattle.p8_lines.proofs.Lexemes.{IsLike, the_word, the_reserved, name_lexeme, result_lexeme}
use Rattle.p8_lines.proofs.Texts.{last_is, first_at}

-- the word and the place at a spot, as a line's token has them
pub word_here : (s : Spot) → word_there s ≡ line_tokens.word (next s)
word_here s = go (slice_get s.tokens s.at)
  where
    go : (o : Option lexer_token.Token) → unwrap_or (option_map (word_of s.bytes) o) word.LineEnd ≡ line_tokens.word (unwrap_or (option_map (line_token s.bytes) o) (text_end (map (line_token s.bytes) s.tokens)))
    go None = refl
    go (Some t) = refl

end_here : (bytes : List ℕ) (tokens : List lexer_token.Token) → end_place tokens ≡ (text_end (map (line_token bytes) tokens)).place
end_here bytes [] = refl
end_here bytes (x ∷ xs) = go (length (x ∷ xs) - 1) (slice_get (x ∷ xs) (length (x ∷ xs) - 1)) (omega arith) refl
  where
    go : (i : ℕ) (o : Option lexer_token.Token) → i + 1 ≡ length (x ∷ xs) → slice_get (x ∷ xs) i ≡ o → unwrap_or (option_map (λ t. t.place) o) (record { line = 1; column = 1 }) ≡ (text_end (map (line_token bytes) (x ∷ xs))).place
    go i None e h = let n = none_within (x ∷ xs) i h in absurd (omega (arith, n, e))
    go i (Some t) e h = sym (last_is bytes (x ∷ xs) i t e h)

pub place_here : (s : Spot) → place_there s ≡ (next s).place
place_here s = go (slice_get s.tokens s.at)
  where
    go : (o : Option lexer_token.Token) → unwrap_or (option_map (λ t. t.place) o) (end_place s.tokens) ≡ (unwrap_or (option_map (line_token s.bytes) o) (text_end (map (line_token s.bytes) s.tokens))).place
    go None = end_here s.bytes s.tokens
    go (Some t) = refl

-- whether a word is an expression that is one name

pub named : (t : LineToken) (w : Word) → line_tokens.word t ≡ w → w ≡ word.Name → true ≡ is_name_word (lexeme t)
named t w e n = ap is_name_word (sym (name_lexeme t (e ∙ n)))

pub result_named : (t : LineToken) (w : Word) → line_tokens.word t ≡ w → w ≡ word.Result → true ≡ is_name_word (lexeme t)
result_named t w e n = go (result_lexeme t (e ∙ n))
  where
    go : {x : Lexeme} → IsLike method_result x → true ≡ is_name_word x
    go the_word = refl
    go (the_reserved n) = refl

pub either_named : (t : LineToken) (w : Word) → line_tokens.word t ≡ w → (w ≡ word.Name) ⊎ (w ≡ word.Result) → true ≡ is_name_word (lexeme t)
either_named t w e (inl n) = named t w e n
either_named t w e (inr n) = result_named t w e n

other_word : (text : List ℕ) (v : Word) → v ≢ word.Name → v ≢ word.Result → false ≡ is_name_word (lexeme_by_word text v)
unfolding lexeme_of_word
other_word text word.Name n r = absurd (n refl)
other_word text word.Result n r = absurd (r refl)
other_word text v n r = refl

other_name : (m text : List ℕ) (v : Word) → v ≢ word.Name → v ≢ word.Result → false ≡ is_name_word (reserved_as m (lexeme_by_word text v))
unfolding lexeme_of_word
other_name m text word.Name n r = absurd (n refl)
other_name m text word.Result n r = absurd (r refl)
other_name m text v n r = refl

pub not_named : (t : LineToken) (w : Word) → line_tokens.word t ≡ w → w ≢ word.Name → w ≢ word.Result → false ≡ is_name_word (lexeme t)
not_named t w e n r = go t.kind e
  where
    go : (k : TokenKind) → word_of_kind t.text k ≡ w → false ≡ is_name_word (lexeme_by_kind t.text (word_of_kind t.text k) k)
    go (kind.Number m) e = refl
    go kind.Str e = refl
    go kind.Name e = other_name (map capital t.text) t.text (word_of_kind t.text kind.Name) (λ x. n (sym e ∙ x)) (λ x. r (sym e ∙ x))
    go (kind.Symbol m) e = other_word t.text (word_of_kind t.text (kind.Symbol m)) (λ x. n (sym e ∙ x)) (λ x. r (sym e ∙ x))
    go kind.Float e = other_word t.text (word_of_kind t.text kind.Float) (λ x. n (sym e ∙ x)) (λ x. r (sym e ∙ x))
    go kind.LineEnd e = other_word t.text (word_of_kind t.text kind.LineEnd) (λ x. n (sym e ∙ x)) (λ x. r (sym e ∙ x))

-- the first so many arrows don't stand for this word

pub record Skipped (arrows : List Arrow) (i : ℕ) (w : Word) (n : ℕ) : Type 0 where
  pub back : (t : LineToken) (r : LineState) → line_tokens.word t ≡ w → string_length t ≡ n → Follows (drop i arrows) t r → Follows arrows t r
  pub forth : (t : LineToken) (r : LineState) → line_tokens.word t ≡ w → string_length t ≡ n → Follows arrows t r → Follows (drop i arrows) t r

pub none_skipped : (arrows : List Arrow) (w : Word) (n : ℕ) → Skipped arrows 0 w n
none_skipped arrows w n = record { back = λ t r e l f. f; forth = λ t r e l f. f }

on_matching : (a : Arrow) (w : Word) (n : ℕ) (t : LineToken) → line_tokens.word t ≡ w → string_length t ≡ n → Matches a.sign w n → IsOn a t
on_matching a w n t e l m = subst (λ v. Matches a.sign v (string_length t)) (sym e) (subst (Matches a.sign w) (sym l) m)

off : (a : Arrow) (w : Word) (n : ℕ) (t : LineToken) → line_tokens.word t ≡ w → string_length t ≡ n → IsOn a t → Matches a.sign w n
off a w n t e l m = subst (Matches a.sign w) l (subst (λ v. Matches a.sign v (string_length t)) e m)

cut_at : (arrows : List Arrow) (i : ℕ) (d : Arrow) → i < length arrows → drop i arrows ≡ get_or arrows i d ∷ drop (i + 1) arrows
cut_at arrows i d lt = drop-cons arrows i d lt ∙ ap (λ k. get_or arrows i d ∷ drop k arrows) (sym (add-one i))

others_of : {a : Arrow} {others : List Arrow} {t : LineToken} {r : LineState} → ¬ IsOn a t → Follows (a ∷ others) t r → Follows others t r
others_of n (here x) = absurd (n x)
others_of n (further x f) = f

pub one_more : (arrows : List Arrow) (i : ℕ) (w : Word) (n : ℕ) (d : Arrow) → i < length arrows → ¬ Matches (get_or arrows i d).sign w n → Skipped arrows i w n → Skipped arrows (i + 1) w n
one_more arrows i w n d lt m s = record {
  back = λ t r x l f. s.back t r x l (subst (λ k. Follows k t r) (sym (cut_at arrows i d lt)) (further (λ y. m (off (get_or arrows i d) w n t x l y)) f));
  forth = λ t r x l f. others_of (λ y. m (off (get_or arrows i d) w n t x l y)) (subst (λ k. Follows k t r) (cut_at arrows i d lt) (s.forth t r x l f));
}

pub leads_there : (arrows : List Arrow) (i : ℕ) (w : Word) (n : ℕ) (d : Arrow) → i < length arrows → Matches (get_or arrows i d).sign w n → Skipped arrows i w n → (t : LineToken) → line_tokens.word t ≡ w → string_length t ≡ n → Follows arrows t (get_or arrows i d).to
leads_there arrows i w n d lt m s t x l = s.back t (get_or arrows i d).to x l (subst (λ k. Follows k t (get_or arrows i d).to) (sym (cut_at arrows i d lt)) (here (on_matching (get_or arrows i d) w n t x l m)))

no_arrows : {arrows : List Arrow} {t : LineToken} {r : LineState} → Follows arrows t r → arrows ≡ [] → ⊥
no_arrows (here x) e = absurd cc
no_arrows (further x f) e = absurd cc

drop_past : (arrows : List Arrow) (i : ℕ) → length arrows ≤ i → drop i arrows ≡ []
drop_past [] zero le = refl
drop_past [] (suc i) le = refl
drop_past (a ∷ others) zero le = absurd (omega (arith, le))
drop_past (a ∷ others) (suc i) le = drop_past others i (omega (arith, le))

pub leads_nowhere : (arrows : List Arrow) (i : ℕ) (w : Word) (n : ℕ) → length arrows ≤ i → Skipped arrows i w n → (t : LineToken) → line_tokens.word t ≡ w → string_length t ≡ n → (r : LineState) → ¬ Follows arrows t r
leads_nowhere arrows i w n le s t x l r f = no_arrows (s.forth t r x l f) (drop_past arrows i le)

-- what a look-up says
pub no_follow : (l : List Arrow) (t : LineToken) (o : Option LineState) → MatchOption o ((r : LineState) → ¬ Follows l t r) (Follows l t) → o ≡ None → (r : LineState) → ¬ Follows l t r
no_follow l t o m e = subst (λ o. MatchOption o ((r : LineState) → ¬ Follows l t r) (Follows l t)) e m

pub follow : (l : List Arrow) (t : LineToken) (o : Option LineState) (r : LineState) → MatchOption o ((r : LineState) → ¬ Follows l t r) (Follows l t) → o ≡ Some r → Follows l t r
follow l t o r m e = subst (λ o. MatchOption o ((r : LineState) → ¬ Follows l t r) (Follows l t)) e m

-- the arrows after an expression
one_token : (bytes : List ℕ) (tokens : List lexer_token.Token) (at n : ℕ) → at ≤ length tokens → n ≡ 1 → run bytes tokens at n ≡ token_at bytes tokens at ∷ []
one_token bytes tokens at n le e = ap (λ n. take n (tokens_from bytes tokens at)) e ∙ ap (λ l. take 1 l) (first_at bytes tokens at le)

pub behind_one : (bytes : List ℕ) (tokens : List lexer_token.Token) (at n : ℕ) (q : LineState) (l : List Arrow) (b : Bool) → l ≡ (if b then behind_name_in (choices q).phrase else behind_in (choices q).phrase) → at ≤ length tokens → n ≡ 1 → b ≡ is_name_word (lexeme (token_at bytes tokens at)) → (h : Phrase) → (choices q).phrase ≡ Some h → l ≡ behind h (run bytes tokens at n)
behind_one bytes tokens at n q l b e le one is h p =
    e ∙ (λ i. if is i then behind_name_in (p i) else behind_in (p i)) ∙ ap (behind h) (sym (one_token bytes tokens at n le one))

several : (bytes : List ℕ) (tokens : List lexer_token.Token) (at n : ℕ) → at + n ≤ length tokens → n ≢ 1 → is_name (run bytes tokens at n) ≡ false
several bytes tokens at zero le e = refl
several bytes tokens at (suc zero) le e = absurd (e refl)
several bytes tokens at (suc (suc n)) le e = ap (λ l. is_name (take (suc (suc n)) l)) (first_at bytes tokens at (omega (arith, le)) ∙ ap (λ l. token_at bytes tokens at ∷ l) (first_at bytes tokens (at + 1) (omega (arith, le))))

pub behind_several : (bytes : List ℕ) (tokens : List lexer_token.Token) (at n : ℕ) (q : LineState) (l : List Arrow) → l ≡ behind_in (choices q).phrase → at + n ≤ length tokens → n ≢ 1 → (h : Phrase) → (choices q).phrase ≡ Some h → l ≡ behind h (run bytes tokens at n)
behind_several bytes tokens at n q l e le several_there h p =
    e ∙ ap behind_in p ∙ ap (λ b. if b then h.behind_name else h.behind_other) (sym (several bytes tokens at n le several_there))
