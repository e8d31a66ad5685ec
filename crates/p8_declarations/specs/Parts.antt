-- The pieces of a line, as declarations tell them apart.
use Rattle.std.specs.Prelude.{ℕ, Bool, true, false, List, [], ◌∷◌, map, Option, Some, None}
use Rattle.p8_tree.specs.declared.places.Place.{Place}
use Rattle.p8_tree.specs.Expressions.{Tree}
use Rattle.p8_lexer.specs.declared.word.Word.{Word}
use Rattle.p8_lexer.specs.declared.word.Word.TheVariants as word
use Rattle.p8_lexer.specs.Pieces as pieces
use Rattle.p8_lexer.specs.Pieces.{Piece}

pub data Part : Type 0 where
  line_end : Part
  comma : Part
  -- `=`
  equals : Part
  hash : Place → Part
  colon : Part
  -- `|`
  bar : Part
  left_parenthesis : Part
  right_parenthesis : Part
  left_bracket : Part
  right_bracket : Part
  -- BYTE, WORD or LONG, in bytes
  size : ℕ → Part
  name : List ℕ → Place → Part
  text : List ℕ → Place → Part
  tree : Tree → Part
  -- no part of a declaration
  other : Part

unfoldable pub part_of_word : Word → Place → Part
part_of_word word.LineEnd p = line_end
part_of_word word.Comma p = comma
part_of_word word.EqualSign p = equals
part_of_word word.Hash p = hash p
part_of_word word.Colon p = colon
part_of_word word.BitOr p = bar
part_of_word word.LeftParenthesis p = left_parenthesis
part_of_word word.RightParenthesis p = right_parenthesis
part_of_word word.LeftBracket p = left_bracket
part_of_word word.RightBracket p = right_bracket
part_of_word word.ByteSize p = size 1
part_of_word word.WordSize p = size 2
part_of_word word.LongSize p = size 4
part_of_word _ p = other

abbrev pub part_of_piece : Piece → Part
part_of_piece (pieces.word w p) = part_of_word w p
part_of_piece (pieces.name n p) = name n p
part_of_piece (pieces.label n p) = other
part_of_piece (pieces.text t p) = text t p
part_of_piece (pieces.tree e p) = tree e

-- the parts of a row of pieces
abbrev pub parts : List Piece → List Part
parts row = map part_of_piece row

-- the end of a line alone
abbrev pub is_line_end : List Part → Bool
is_line_end (line_end ∷ []) = true
is_line_end _ = false

-- no more items, where nothing stands after the end of the line
abbrev pub ended : {A : Type 0} → List Part → Option (List A)
ended [] = Some []
ended _ = None

-- an item in front of those after it, where those are any
abbrev pub with_first : {A : Type 0} → A → Option (List A) → Option (List A)
with_first x None = None
with_first x (Some xs) = Some (x ∷ xs)
