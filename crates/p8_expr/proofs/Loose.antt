-- What a token is but for the characters of a reserved word.
use Rattle.std.proofs.Common.{◌≡◌, ℕ, List, true, map, refl, ap, ◌∙◌}
use Rattle.p8_lexer.specs.declared.word.Word.{Word}
use Rattle.p8_lexer.specs.declared.word.Word.TheVariants as word
use Rattle.p8_lexer.specs.declared.token.TokenKind.{TokenKind}
use Rattle.p8_lexer.specs.declared.token.TokenKind.TheVariants as kind
use Rattle.p8_lexer.specs.Words.{capital}
use Rattle.p8_grammar.specs.Lexemes.{Lexeme, number, name, string, reserved}
use Rattle.p8_grammar.specs.Machine.{loose}
use Rattle.p8_expr.specs.Words.{lexeme_of_word, lexeme_by_word, lexeme_by_kind, reserved_as}
use Rattle.p8_expr.proofs.Proper.{passes, words_pass}

loose_reserved : (n : List ℕ) (y : Lexeme) → passes y ≡ true → loose (reserved_as n y) ≡ y
loose_reserved n (number v) h = absurd cc
loose_reserved n (name m) h = absurd cc
loose_reserved n (string t) h = absurd cc
loose_reserved n (reserved m x) h = absurd cc
loose_reserved n y h = refl

loose_plain : (y : Lexeme) → passes y ≡ true → loose y ≡ y
loose_plain (reserved m x) h = absurd cc
loose_plain y h = refl

by_word : (text : List ℕ) (w : Word) → (w ≡ word.Name → ⊥) → lexeme_by_word text w ≡ lexeme_of_word w
by_word text word.Name h = absurd (h refl)
by_word text w h = refl

-- a token that is neither a number nor a string nor a name
pub loose_token : (text : List ℕ) (w : Word) (k : TokenKind) → (w ≡ word.Name → ⊥) → ((v : ℕ) → k ≡ kind.Number v → ⊥) → (k ≡ kind.Str → ⊥) → loose (lexeme_by_kind text w k) ≡ lexeme_of_word w
loose_token text w (kind.Number v) h a b = absurd (a v refl)
loose_token text w kind.Str h a b = absurd (b refl)
loose_token text w kind.Name h a b = ap (λ y. loose (reserved_as (map capital text) y)) (by_word text w h) ∙ loose_reserved (map capital text) (lexeme_of_word w) (words_pass w)
loose_token text w k h a b = ap loose (by_word text w h) ∙ loose_plain (lexeme_of_word w) (words_pass w)

-- and one that is a name
pub loose_name : (text : List ℕ) (k : TokenKind) → ((v : ℕ) → k ≡ kind.Number v → ⊥) → (k ≡ kind.Str → ⊥) → loose (lexeme_by_kind text word.Name k) ≡ name (map capital text)
loose_name text (kind.Number v) a b = absurd (a v refl)
loose_name text kind.Str a b = absurd (b refl)
loose_name text kind.Name a b = refl
loose_name text k a b = refl
