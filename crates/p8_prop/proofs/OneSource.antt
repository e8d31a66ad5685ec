-- Bytes that are a source have one reading: their lines have.
use Rattle.std.proofs.Common.{◌≡◌, ◌∙◌, ap, refl, ℕ, List, [], ◌∷◌, Some}
use Rattle.p8_tree.specs.declared.places.Place.{Place}
use Rattle.p8_tree.specs.Sources.{Source}
use Rattle.p8_lexer.specs.declared.word.Word.TheVariants as words
use Rattle.p8_lexer.specs.Pieces as pieces
use Rattle.p8_lexer.specs.Pieces.{Piece}
use Rattle.p8_lines.specs.Tokens.{LineToken, word, piece}
use Rattle.p8_declarations.specs.Parts as parts
use Rattle.p8_declarations.specs.DataParts as data_parts
use Rattle.p8_declarations.specs.Constants.{constants_of_row}
use Rattle.p8_declarations.specs.Variables.{variables_of_row}
use Rattle.p8_declarations.specs.Objects.{objects_of_row}
use Rattle.p8_blocks.proofs.Pieces.{word_piece}
use Rattle.p8_prop.proofs.Reading.{data_of_row, IsSource}
use Rattle.p8_prop.proofs.OneDeclaration.{constants-once, constants-apart, variables-once, variables-apart, objects-once, objects-apart, method-once}
use Rattle.p8_prop.proofs.OneStatement.{statements-once, statements-apart, statements-not_blank}
use Rattle.p8_prop.proofs.OneDatum.{data-once, data-apart}
use Rattle.p8_prop.proofs.OneFile.{AreRowsRead, one-source}

-- a line's end alone declares nothing
blank-constants : (p : Place) → constants_of_row (pieces.word words.LineEnd p ∷ []) ≡ Some []
unfolding parts.part_of_word
blank-constants p = refl

blank-variables : (p : Place) → variables_of_row (pieces.word words.LineEnd p ∷ []) ≡ Some []
unfolding parts.part_of_word
blank-variables p = refl

blank-objects : (p : Place) → objects_of_row (pieces.word words.LineEnd p ∷ []) ≡ Some []
unfolding parts.part_of_word
blank-objects p = refl

blank-data : (p : Place) → data_of_row (pieces.word words.LineEnd p ∷ []) ≡ Some []
unfolding data_parts.part_of_word
blank-data p = refl

end-piece : (t : LineToken) → word t ≡ words.LineEnd → piece t ∷ [] ≡ pieces.word words.LineEnd t.place ∷ []
end-piece t is = ap (λ (x : Piece). x ∷ []) (word_piece t words.LineEnd refl is)

rows-read : AreRowsRead
rows-read = record {
  constants = record { once = constants-once; apart = constants-apart; blank = λ t is. ap constants_of_row (end-piece t is) ∙ blank-constants t.place };
  variables = record { once = variables-once; apart = variables-apart; blank = λ t is. ap variables_of_row (end-piece t is) ∙ blank-variables t.place };
  objects = record { once = objects-once; apart = objects-apart; blank = λ t is. ap objects_of_row (end-piece t is) ∙ blank-objects t.place };
  data_lines = record { once = data-once; apart = data-apart; blank = λ t is. ap data_of_row (end-piece t is) ∙ blank-data t.place };
  heads = method-once;
  text = record { once = statements-once; apart = statements-apart; not_blank = statements-not_blank };
}

pub one-reading : (bytes : List ℕ) (s other : Source) → IsSource bytes s → IsSource bytes other → s ≡ other
one-reading = one-source rows-read
