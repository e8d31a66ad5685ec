-- Where a row of pieces ends that is a line.
use Rattle.std.proofs.Common.{◌≡◌, inl, inr, sym, subst, refl, Bool, true, false, List, [], ◌∷◌}
use Rattle.std.specs.Prelude.{IsTrue}
use Rattle.p8_tree.specs.declared.places.Place.{Place}
use Rattle.p8_lexer.specs.declared.word.Word.{Word}
use Rattle.p8_lexer.specs.declared.word.Word.TheVariants as words
use Rattle.p8_lexer.specs.Pieces as pieces
use Rattle.p8_lexer.specs.Pieces.{Piece}
use Rattle.p8_grammar.specs.Lexemes as lexemes
use Rattle.p8_grammar.specs.Lexemes.{Lexeme}
use Rattle.p8_lines.specs.Tokens.{LineToken, lexeme, word, piece_from}
use Rattle.p8_blocks.proofs.Pieces.{word_piece}
use Rattle.p8_prop.proofs.Reading.{Spelling, Row, last, a_token, a_label, an_expression}

-- ---- a row of pieces ends with the end of its line, or with a colon, and the end of a line stands nowhere else

abbrev pub closed : List Piece → Bool
closed [] = false
closed (pieces.word words.LineEnd p ∷ []) = true
closed (pieces.word words.LineEnd p ∷ x ∷ row) = false
closed (pieces.word words.Colon p ∷ []) = true
closed (x ∷ row) = closed row

word-closed : (w : Word) (p : Place) (row : List Piece) → (w ≡ words.LineEnd → ⊥) → IsTrue (closed row) → IsTrue (closed (pieces.word w p ∷ row))
word-closed words.LineEnd p row ahead e = absurd (ahead refl)
word-closed words.Colon p [] ahead e = refl
word-closed words.Colon p (x ∷ row) ahead e = e
word-closed w p row ahead e = e

piece-closed : (l : Lexeme) (w : Word) (p : Place) (row : List Piece) → (w ≡ words.LineEnd → ⊥) → IsTrue (closed row)
    → IsTrue (closed (piece_from l w p ∷ row))
piece-closed (lexemes.name n) w p row ahead e = e
piece-closed (lexemes.string x) w p row ahead e = e
piece-closed l w p row ahead e = word-closed w p row ahead e

pub row-closed : {spelled : Spelling} {before : List Word} {row : List Piece} {ts : List LineToken} → Row spelled before row ts → IsTrue (closed row)
row-closed (last t (inl is)) = subst (λ (x : Piece). IsTrue (closed (x ∷ []))) (sym (word_piece t words.LineEnd refl is)) refl
row-closed (last t (inr is)) = subst (λ (x : Piece). IsTrue (closed (x ∷ []))) (sym (word_piece t words.Colon refl is)) refl
row-closed (a_token {row = row} t ahead rest) = piece-closed (lexeme t) (word t) t.place row ahead (row-closed rest)
row-closed (a_label t is rest) = row-closed rest
row-closed (an_expression first others t is rest) = row-closed rest
