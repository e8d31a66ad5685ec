-- What a token of each arrow is to the lines of CON, VAR and OBJ and to the heads of methods.
use Rattle.std.proofs.Common.{◌≡◌, ℕ, List, map, Option, refl, sym, ap, subst}
use Rattle.std.specs.Prelude.{IsTrue}
use Rattle.p8_tree.specs.declared.places.Place.{Place}
use Rattle.p8_lexer.specs.declared.word.Word.{Word}
use Rattle.p8_lexer.specs.declared.word.Word.TheVariants as word
use Rattle.p8_lexer.specs.Words.{capital}
use Rattle.p8_expr.specs.Words.{between_quotes}
use Rattle.p8_lines.specs.declared.sign.Sign.{Sign}
use Rattle.p8_lines.specs.declared.sign.Sign.TheVariants as sign
use Rattle.p8_lines.specs.Signs.{Matches, is_size}
use Rattle.p8_lines.specs.Tokens as tokens
use Rattle.p8_lines.specs.Tokens.{LineToken, string_length, piece}
use Rattle.p8_lines.proofs.Lexemes.{is_plain}
use Rattle.p8_declarations.specs.Parts.{Part, line_end, comma, equals, hash, colon, bar, left_parenthesis, right_parenthesis, left_bracket, right_bracket, size, name, text, part_of_word, part_of_piece, with_first}
use Rattle.p8_blocks.proofs.Pieces.{word_piece, name_piece, text_piece}
use Rattle.p8_blocks.proofs.Following.{Has, found}

-- this holds of each part that a token of a sign is
abbrev pub Each : Sign → (Part → Type 0) → Type 0
Each (sign.Word word.LineEnd) R = R line_end
Each (sign.Word word.Comma) R = R comma
Each (sign.Word word.EqualSign) R = R equals
Each (sign.Word word.Hash) R = (p : Place) → R (hash p)
Each (sign.Word word.Colon) R = R colon
Each (sign.Word word.BitOr) R = R bar
Each (sign.Word word.LeftParenthesis) R = R left_parenthesis
Each (sign.Word word.RightParenthesis) R = R right_parenthesis
Each (sign.Word word.LeftBracket) R = R left_bracket
Each (sign.Word word.RightBracket) R = R right_bracket
Each (sign.Word word.Name) R = (n : List ℕ) (p : Place) → R (name n p)
Each sign.Size R = (s : ℕ) → R (size s)
Each sign.Text R = (t : List ℕ) (p : Place) → R (text t p)
Each s R = (x : Part) → R x

plain_part : (t : LineToken) (w : Word) → IsTrue (is_plain w) → tokens.word t ≡ w → part_of_word w t.place ≡ part_of_piece (piece t)
plain_part t w plain h = sym (ap part_of_piece (word_piece t w plain h))

size_part : (R : Part → Type 0) (t : LineToken) → IsTrue (is_size (tokens.word t)) → ((s : ℕ) → R (size s)) → R (part_of_piece (piece t))
unfolding part_of_word
size_part R t m y = go (tokens.word t) refl m
  where
    go : (w : Word) → tokens.word t ≡ w → IsTrue (is_size w) → R (part_of_piece (piece t))
    go word.ByteSize e h = subst R (plain_part t word.ByteSize refl e) (y 1)
    go word.WordSize e h = subst R (plain_part t word.WordSize refl e) (y 2)
    go word.LongSize e h = subst R (plain_part t word.LongSize refl e) (y 4)
    go w e h = absurd cc

plain_each : (w : Word) (R : Part → Type 0) (t : LineToken) → tokens.word t ≡ w → Each (sign.Word w) R → R (part_of_piece (piece t))
unfolding part_of_word
plain_each word.LineEnd R t m y = subst R (plain_part t word.LineEnd refl m) y
plain_each word.Comma R t m y = subst R (plain_part t word.Comma refl m) y
plain_each word.EqualSign R t m y = subst R (plain_part t word.EqualSign refl m) y
plain_each word.Hash R t m y = subst R (plain_part t word.Hash refl m) (y t.place)
plain_each word.Colon R t m y = subst R (plain_part t word.Colon refl m) y
plain_each word.BitOr R t m y = subst R (plain_part t word.BitOr refl m) y
plain_each word.LeftParenthesis R t m y = subst R (plain_part t word.LeftParenthesis refl m) y
plain_each word.RightParenthesis R t m y = subst R (plain_part t word.RightParenthesis refl m) y
plain_each word.LeftBracket R t m y = subst R (plain_part t word.LeftBracket refl m) y
plain_each word.RightBracket R t m y = subst R (plain_part t word.RightBracket refl m) y
plain_each word.Name R t m y = subst R (sym (ap part_of_piece (name_piece t m))) (y (map capital t.text) t.place)
plain_each w R t m y = y (part_of_piece (piece t))

pub each : (s : Sign) (R : Part → Type 0) (t : LineToken) → Matches s (tokens.word t) (string_length t) → Each s R → R (part_of_piece (piece t))
each (sign.Word w) R t m y = plain_each w R t m y
each sign.Size R t m y = size_part R t m y
each sign.Text R t m y = subst R (sym (ap part_of_piece (text_piece t m.0))) (y (between_quotes t.text) t.place)
each s R t m y = y (part_of_piece (piece t))

-- one more item
pub with : {A : Type 0} (x : A) {o : Option (List A)} → Has o → Has (with_first x o)
with x h = subst (λ o. Has (with_first x o)) (sym h.is) (found _)
