-- The pieces of a line.
use Rattle.std.specs.Prelude.{ℕ, List, map}
use Rattle.p8_tree.specs.declared.places.Place.{Place}
use Rattle.p8_tree.specs.Expressions.{Tree}
use Rattle.p8_tree.specs.Views.{tree_of}
use Rattle.p8_lexer.specs.declared.word.Word.{Word}
use Rattle.p8_lexer.specs.declared.line_piece.Piece as code
use Rattle.p8_lexer.specs.declared.line_piece.Piece.TheVariants as code_case

pub data Piece : Type 0 where
  -- a symbol, a reserved word or the end of the line
  word : Word → Place → Piece
  -- a name that isn't reserved, in capitals
  name : List ℕ → Place → Piece
  -- the word behind the colon of a local label, in capitals
  label : List ℕ → Place → Piece
  -- a string's characters
  text : List ℕ → Place → Piece
  -- an expression, with the place of its first token
  tree : Tree → Place → Piece

-- what the code's pieces stand for
abbrev pub piece_of : code.Piece → Piece
piece_of (code_case.Word w p) = word w p
piece_of (code_case.Name n p) = name n p
piece_of (code_case.Label n p) = label n p
piece_of (code_case.Text t p) = text t p
piece_of (code_case.Tree e p) = tree (tree_of e) p

abbrev pub pieces_of : List code.Piece → List Piece
pieces_of xs = map piece_of xs
