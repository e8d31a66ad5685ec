-- The piece of what stands at a spot.
use Rattle.std.proofs.Common.{◌≡◌, ◌≢◌, ℕ, Bool, true, false, List, [], Option, Some, None, refl, sym, ap, ◌∙◌}
use Rattle.std.specs.Prelude.{map, slice_get, option_map, unwrap_or, if◌then◌else◌}
use Rattle.p8_tree.specs.declared.places.Place.{Place}
use Rattle.p8_lexer.specs.declared.word.Word.{Word}
use Rattle.p8_lexer.specs.declared.word.Word.TheVariants as word
use Rattle.p8_lexer.specs.declared.token.Token as lexer_token
use Rattle.p8_lexer.specs.declared.token.TokenKind.{TokenKind}
use Rattle.p8_lexer.specs.declared.token.TokenKind.TheVariants as kind
use Rattle.p8_lexer.specs.Words.{capital, word_of_kind}
use Rattle.p8_lexer.specs.Pieces as pieces
use Rattle.p8_grammar.specs.Lexemes.{name_in}
use Rattle.p8_expr.specs.Words.{between_quotes, lexeme_of_word, lexeme_by_word, reserved_as, lexeme_by_kind, lexeme_of_token}
use Rattle.p8_expr.specs.Cursors.{Spot, word_there, place_there, text_in, text_there, lexeme_in, lexeme_there}
use Rattle.p8_lines.specs.Tokens as line_tokens
use Rattle.p8_lines.specs.Tokens.{LineToken, lexeme, piece, piece_from, label_piece, line_token, text_end}
use Rattle.p8_lines.specs.Stopping.{next}
use Rattle.p8_lines.proofs.Lexemes.{name_lexeme, string_lexeme}
use Rattle.p8_lines.proofs.Targets.{word_here, place_here}

-- its characters, and what it is to an expression
pub text_here : (s : Spot) → text_there s ≡ (next s).text
text_here s = go (slice_get s.tokens s.at)
  where
    go : (o : Option lexer_token.Token) → text_in s.bytes o ≡ (unwrap_or (option_map (line_token s.bytes) o) (text_end (map (line_token s.bytes) s.tokens))).text
    go None = refl
    go (Some t) = refl

lexeme_here : (s : Spot) → lexeme_there s ≡ lexeme (next s)
unfolding lexeme_of_token lexeme_of_word
lexeme_here s = go (slice_get s.tokens s.at)
  where
    go : (o : Option lexer_token.Token) → lexeme_in s.bytes o ≡ lexeme (unwrap_or (option_map (line_token s.bytes) o) (text_end (map (line_token s.bytes) s.tokens)))
    go None = refl
    go (Some t) = refl

-- the piece of a name, of a string, and of any other token
pub name_piece : (s : Spot) (w : Word) (n : List ℕ) (p : Place) → w ≡ word_there s → w ≡ word.Name → n ≡ map capital (text_there s) → p ≡ place_there s → pieces.name n p ≡ piece (next s)
name_piece s w n p e h is there =
    let t = next s in
    let all = is ∙ ap (map capital) (text_here s) in
    (λ i. pieces.name (all i) ((there ∙ place_here s) i)) ∙ ap (λ x. piece_from x (line_tokens.word t) t.place) (sym (name_lexeme t (sym (e ∙ word_here s) ∙ h)))

pub text_piece : (s : Spot) (w : Word) (x : List ℕ) (p : Place) → w ≡ word_there s → w ≡ word.Str → x ≡ between_quotes (text_there s) → p ≡ place_there s → pieces.text x p ≡ piece (next s)
text_piece s w x p e h is there =
    let t = next s in
    let all = is ∙ ap between_quotes (text_here s) in
    (λ i. pieces.text (all i) ((there ∙ place_here s) i)) ∙ ap (λ x. piece_from x (line_tokens.word t) t.place) (sym (string_lexeme t (sym (e ∙ word_here s) ∙ h)))

by_word : (text : List ℕ) (v : Word) (p : Place) → v ≢ word.Name → v ≢ word.Str → pieces.word v p ≡ piece_from (lexeme_by_word text v) v p
unfolding lexeme_of_word
by_word text word.Name p n x = absurd (n refl)
by_word text word.Str p n x = absurd (x refl)
by_word text v p n x = refl

by_name : (m text : List ℕ) (v : Word) (p : Place) → v ≢ word.Name → v ≢ word.Str → pieces.word v p ≡ piece_from (reserved_as m (lexeme_by_word text v)) v p
unfolding lexeme_of_word
by_name m text word.Name p n x = absurd (n refl)
by_name m text word.Str p n x = absurd (x refl)
by_name m text v p n x = refl

plain_piece : (t : LineToken) → line_tokens.word t ≢ word.Name → line_tokens.word t ≢ word.Str → pieces.word (line_tokens.word t) t.place ≡ piece t
plain_piece t n x = go t.kind n x
  where
    go : (k : TokenKind) → word_of_kind t.text k ≢ word.Name → word_of_kind t.text k ≢ word.Str → pieces.word (word_of_kind t.text k) t.place ≡ piece_from (lexeme_by_kind t.text (word_of_kind t.text k) k) (word_of_kind t.text k) t.place
    go (kind.Number m) n x = refl
    go kind.Str n x = absurd (x refl)
    go kind.Name n x = by_name (map capital t.text) t.text (word_of_kind t.text kind.Name) t.place n x
    go (kind.Symbol m) n x = by_word t.text (word_of_kind t.text (kind.Symbol m)) t.place n x
    go kind.Float n x = by_word t.text word.FloatNumber t.place n x
    go kind.LineEnd n x = by_word t.text word.LineEnd t.place n x

pub word_piece : (s : Spot) (w : Word) (p : Place) → w ≡ word_there s → w ≢ word.Name → w ≢ word.Str → p ≡ place_there s → pieces.word w p ≡ piece (next s)
word_piece s w p e n x there =
    let is = e ∙ word_here s in
    (λ i. pieces.word (is i) ((there ∙ place_here s) i)) ∙ plain_piece (next s) (λ h. n (is ∙ h)) (λ h. x (is ∙ h))

-- the piece behind the colon of a local label
label_of : (s : Spot) (o : Option (List ℕ)) (n : List ℕ) (p : Place) → name_in (lexeme_there s) ≡ o → n ≡ unwrap_or o [] → p ≡ place_there s → pieces.label n p ≡ label_piece (next s)
label_of s o n p h e there =
    let all = e ∙ ap (λ o. unwrap_or o []) (sym h) ∙ ap (λ x. unwrap_or (name_in x) []) (lexeme_here s) in
    λ i. pieces.label (all i) ((there ∙ place_here s) i)

pub label_named : (s : Spot) (b : Bool) (m n : List ℕ) (p : Place) → b ≡ true → name_in (lexeme_there s) ≡ (if b then Some m else None) → n ≡ m → p ≡ place_there s → pieces.label n p ≡ label_piece (next s)
label_named s b m n p is h e there = label_of s (Some m) n p (h ∙ ap (λ b. if b then Some m else None) is) e there

pub label_unnamed : (s : Spot) (b : Bool) (m n : List ℕ) (p : Place) → b ≡ false → name_in (lexeme_there s) ≡ (if b then Some m else None) → n ≡ [] → p ≡ place_there s → pieces.label n p ≡ label_piece (next s)
label_unnamed s b m n p is h e there = label_of s None n p (h ∙ ap (λ b. if b then Some m else None) is) e there
