-- Which pieces the tokens of a sign are in a line of a method.
use Rattle.std.proofs.Common.{◌≡◌, refl, sym, subst}
use Rattle.p8_tree.specs.declared.places.Place.{Place}
use Rattle.p8_lexer.specs.declared.word.Word.{Word}
use Rattle.p8_lexer.specs.declared.word.Word.TheVariants as word
use Rattle.p8_lexer.specs.Pieces as pieces
use Rattle.p8_lexer.specs.Pieces.{Piece}
use Rattle.p8_lines.specs.declared.sign.Sign.{Sign}
use Rattle.p8_lines.specs.declared.sign.Sign.TheVariants as sign
use Rattle.p8_lines.specs.Signs.{Matches}
use Rattle.p8_lines.specs.Tokens as tokens
use Rattle.p8_lines.specs.Tokens.{LineToken, string_length, piece}
use Rattle.p8_blocks.proofs.Pieces.{word_piece}

-- R holds of each piece that a token with this word is; of a name, a number or a string it is asked of all
abbrev pub EachWord : Word → (Piece → Type 0) → Type 0
EachWord word.Name R = (x : Piece) → R x
EachWord word.Number R = (x : Piece) → R x
EachWord word.Str R = (x : Piece) → R x
EachWord w R = (p : Place) → R (pieces.word w p)

-- no other sign stands in a line of a method
abbrev pub Each : Sign → (Piece → Type 0) → Type 0
Each (sign.Word w) R = EachWord w R
Each s R = (x : Piece) → R x

each_word : (R : Piece → Type 0) (t : LineToken) (w : Word) → tokens.word t ≡ w → EachWord w R → R (piece t)
each_word R t word.Name h x = x (piece t)
each_word R t word.Number h x = x (piece t)
each_word R t word.Str h x = x (piece t)
each_word R t w h x = subst R (sym (word_piece t w refl h)) (x t.place)

pub each : (s : Sign) (R : Piece → Type 0) (t : LineToken) → Matches s (tokens.word t) (string_length t) → Each s R → R (piece t)
each (sign.Word w) R t m x = each_word R t w m x
each s R t m x = x (piece t)
