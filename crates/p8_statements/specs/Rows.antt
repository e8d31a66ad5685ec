-- Rows of pieces are read from the left: a part of a row gives what it is, and the rest of the row.
use Rattle.std.specs.Prelude.{Bool, true, false, if◌then◌else◌, List, [], ◌∷◌, Option, None, Some}
use Rattle.p8_tree.specs.declared.places.Place.{Place}
use Rattle.p8_tree.specs.Expressions.{Tree}
use Rattle.p8_lexer.specs.declared.word.Word.{Word}
use Rattle.p8_lexer.specs.Pieces.{Piece, word, tree}
use Rattle.p8_statements.specs.declared.role.Role.{Role}
use Rattle.p8_statements.specs.declared.statement_pieces.Sign.{Sign}
use Rattle.p8_statements.specs.Roles.{role_of, is_line_end}

abbrev pub Reading : Type 0 → Type 0
Reading X = Option (X × List Piece)

infixl 20 ◌▶◌
-- what is read after a part
abbrev pub ◌▶◌ : {X Y : Type 0} → Reading X → (X → List Piece → Option Y) → Option Y
None ▶ f = None
Some (x, row) ▶ f = f x row

-- the next piece, if any, and the rest of the row
pub data Split : Type 0 where
  Next : Option Piece → List Piece → Split

-- what a word is to a statement, with its place
abbrev pub sign : Word → Place → Sign
sign w p = record { role = role_of w; place = p }

abbrev pub word_in : List Piece → Reading Sign
word_in (word w p ∷ row) = Some (sign w p, row)
word_in _ = None

-- an expression, and the word after it
abbrev pub phrase : List Piece → Reading (Tree × Role)
phrase (tree e p ∷ word w q ∷ row) = Some ((e, role_of w), row)
phrase _ = None

abbrev pub is_empty : List Piece → Bool
is_empty [] = true
is_empty _ = false

-- the end of the line, with nothing after it
abbrev pub is_end : Role → List Piece → Bool
is_end r row = if is_line_end r then is_empty row else false

-- this, where the line ends with this word
abbrev pub ended : {X : Type 0} → X → Role → List Piece → Option X
ended x r row = if is_end r row then Some x else None

abbrev pub ends : List Piece → Bool
ends (word w p ∷ row) = is_end (role_of w) row
ends _ = false

-- this, where the line ends here
abbrev pub ending : {X : Type 0} → X → List Piece → Option X
ending x row = if ends row then Some x else None

-- e up to the end of the line
abbrev pub value_in : List Piece → Option Tree
value_in row = phrase row ▶ λ x row. ended x.0 x.1 row
