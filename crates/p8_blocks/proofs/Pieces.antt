-- Which piece a token is, by its word.
use Rattle.std.proofs.Common.{◌≡◌, ℕ, List, Bool, true, false, map, refl, sym, ap, ◌∙◌}
use Rattle.std.specs.Prelude.{IsTrue}
use Rattle.p8_tree.specs.declared.places.Place.{Place}
use Rattle.p8_lexer.specs.declared.word.Word.{Word}
use Rattle.p8_lexer.specs.declared.word.Word.TheVariants as word
use Rattle.p8_lexer.specs.declared.token.TokenKind.{TokenKind}
use Rattle.p8_lexer.specs.declared.token.TokenKind.TheVariants as kind
use Rattle.p8_lexer.specs.Words.{capital, word_of_kind}
use Rattle.p8_grammar.specs.Lexemes.{Lexeme, name, reserved}
use Rattle.p8_expr.specs.Words.{between_quotes, lexeme_by_word, reserved_as, lexeme_by_kind, lexeme_of_word}
use Rattle.p8_lexer.specs.Pieces as pieces
use Rattle.p8_lines.specs.declared.state.LineState.{LineState}
use Rattle.p8_lines.specs.declared.state.LineState.TheVariants as state
use Rattle.p8_lines.specs.Lines.{piece_in}
use Rattle.p8_lines.specs.Tokens as tokens
use Rattle.p8_lines.specs.Tokens.{LineToken, lexeme, piece_from, piece}
use Rattle.p8_lines.proofs.Lexemes.{is_plain, by_kind, name_lexeme, string_lexeme}

-- neither a symbol nor a reserved word is a name or a string
pub is_word : (w : Word) (p : Place) → piece_from (lexeme_of_word w) w p ≡ pieces.word w p
unfolding lexeme_of_word
is_word word.PlusPlus p = refl
is_word w p = refl

is_reserved : (w : Word) (n : List ℕ) (p : Place) → piece_from (reserved_as n (lexeme_of_word w)) w p ≡ pieces.word w p
unfolding lexeme_of_word
is_reserved word.PlusPlus n p = refl
is_reserved w n p = refl

pub word_piece : (t : LineToken) (w : Word) → IsTrue (is_plain w) → tokens.word t ≡ w → piece t ≡ pieces.word w t.place
word_piece t w plain h =
    ap (λ v. piece_from (lexeme t) v t.place) h
    ∙ by_kind (λ x. piece_from x w t.place ≡ pieces.word w t.place) t w (lexeme_of_word w) plain refl (is_word w t.place) (λ n. is_reserved w n t.place) h

pub name_piece : (t : LineToken) → tokens.word t ≡ word.Name → piece t ≡ pieces.name (map capital t.text) t.place
name_piece t h = ap (λ l. piece_from l (tokens.word t) t.place) (name_lexeme t h)

pub text_piece : (t : LineToken) → tokens.word t ≡ word.Str → piece t ≡ pieces.text (between_quotes t.text) t.place
text_piece t h = ap (λ l. piece_from l (tokens.word t) t.place) (string_lexeme t h)

-- a reserved word is no name

abbrev pub is_named : Lexeme → Bool
is_named (reserved m (name n)) = true
is_named x = false

kept_unnamed : (n : List ℕ) (x : Lexeme) → is_named x ≡ false → is_named (reserved_as n x) ≡ false
kept_unnamed n (reserved m x) h = h
kept_unnamed n x h = refl

word_unnamed : (text : List ℕ) (w : Word) → is_named (lexeme_by_word text w) ≡ false
unfolding lexeme_of_word
word_unnamed text word.Name = refl
word_unnamed text w = refl

pub unnamed : (t : LineToken) → is_named (lexeme t) ≡ false
unnamed t = go t.kind
  where
    go : (k : TokenKind) → is_named (lexeme_by_kind t.text (word_of_kind t.text k) k) ≡ false
    go (kind.Number n) = refl
    go kind.Str = refl
    go kind.Name = kept_unnamed (map capital t.text) (lexeme_by_word t.text (word_of_kind t.text kind.Name)) (word_unnamed t.text (word_of_kind t.text kind.Name))
    go (kind.Symbol n) = word_unnamed t.text (word_of_kind t.text (kind.Symbol n))
    go kind.Float = word_unnamed t.text word.FloatNumber
    go kind.LineEnd = word_unnamed t.text word.LineEnd

-- A token is its piece, but where a local label's name stands.

abbrev pub is_labelled : LineState → Bool
is_labelled state.DatLabel = true
is_labelled state.CallLocal = true
is_labelled q = false

pub plain_piece : (q : LineState) (t : LineToken) → is_labelled q ≡ false → piece_in q t ≡ piece t
plain_piece state.DatLabel t h = absurd cc
plain_piece state.CallLocal t h = absurd cc
plain_piece q t h = refl

-- as from states that are not among these
pub own_piece : (own : LineState → Bool) → (own state.DatLabel ≡ false) × (own state.CallLocal ≡ false) → (q : LineState) (t : LineToken) → IsTrue (own q) → piece_in q t ≡ piece t
own_piece own l state.DatLabel t h = absurd (let z = sym l.0 ∙ h in cc)
own_piece own l state.CallLocal t h = absurd (let z = sym l.1 ∙ h in cc)
own_piece own l q t h = refl
