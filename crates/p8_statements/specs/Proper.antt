-- What a line of a method satisfies whose names and expressions are proper.
use Rattle.std.specs.Prelude.{◌≡◌, Bool, true, false, not, IsTrue, List, ◌∷◌, Some}
use Rattle.p8_tree.specs.Expressions.{Tree}
use Rattle.p8_tree.specs.Proper.{greatest_height, IsDone, IsProperExpression, IsProperAction, IsProperCourse, AreProperTests, is_no_item}
use Rattle.p8_columns.specs.Lines.{Kind, Plain, If, ElseIf, Else, Repeat, End, Case, Item, Other}
use Rattle.p8_lexer.specs.Pieces.{Piece, tree}
use Rattle.p8_lexer.specs.Proper.{AreProper}
use Rattle.p8_statements.specs.Statements.{is_item, kind_of_row}

-- the pieces of a line of a method: its names and expressions are proper, and the tree of an action is that of one
abbrev pub IsProperBy : (item : Bool) → Tree → List Piece → Type 0
IsProperBy true e row = AreProper false greatest_height row
IsProperBy false e row = IsDone e

abbrev pub IsProperRow : List Piece → Type 0
IsProperRow (tree e p ∷ row) = IsProperBy (is_item (tree e p ∷ row)) e (tree e p ∷ row)
IsProperRow row = AreProper false greatest_height row

abbrev pub IsProperKind : Kind → Type 0
IsProperKind (Plain action) = IsProperAction action
IsProperKind (If negated e) = IsProperExpression false e
IsProperKind (ElseIf negated e) = IsProperExpression false e
IsProperKind Else = Unit {0}
IsProperKind (Repeat course) = IsProperCourse course
IsProperKind (End until e) = IsProperExpression false e
IsProperKind (Case e) = IsProperExpression false e
IsProperKind (Item tests) = IsTrue (not (is_no_item tests)) × AreProperTests tests
IsProperKind Other = Unit {0}

-- a line of proper pieces is proper
abbrev pub KindsAreProper : Type 0
KindsAreProper = (row : List Piece) (k : Kind) → IsProperRow row → kind_of_row row ≡ Some k → IsProperKind k
