-- Lines whose names, strings and expressions are proper: those that are read of proper tokens are.
use Rattle.std.specs.Prelude.{◌≡◌, Bool, true, List, Some}
use Rattle.p8_tree.specs.Sources.{Line}
use Rattle.p8_tree.specs.Proper.{IsProperLine}
use Rattle.p8_grammar.specs.Lexemes.{is_dat}
use Rattle.p8_grammar.specs.Proper as grammar
use Rattle.p8_lexer.specs.Pieces.{Piece}
use Rattle.p8_lexer.specs.Proper.{AreProper}
use Rattle.p8_lines.specs.declared.state.LineState.{LineState}
use Rattle.p8_lines.specs.declared.state.LineState.TheVariants as state
use Rattle.p8_lines.specs.Diagram.{setting_at}
use Rattle.p8_lines.specs.Tokens.{LineToken, terms}
use Rattle.p8_lines.specs.Lines.{Row, Leads}
use Rattle.p8_statements.specs.Proper.{IsProperRow}
use Rattle.p8_declarations.specs.Lines.{line_of_row}

-- whether a state is one of a line of DAT
abbrev pub is_in_dat : LineState → Bool
is_in_dat q = is_dat (setting_at q)

-- the pieces of a line from this state on are proper, where its tokens are
abbrev pub RowsAreProper : LineState → Bool → Type 0
RowsAreProper q dat = (us : List LineToken) (row : List Piece) → Leads q us row state.End → grammar.AreProper (terms us) → AreProper dat 64 row

-- and so are those of a line of a method, but that the tree of an action is that of one
abbrev pub MethodRowsAreProper : LineState → Type 0
MethodRowsAreProper q = (us : List LineToken) (row : List Piece) → Leads q us row state.End → grammar.AreProper (terms us) → IsProperRow row

-- each line of DAT from this state on is proper, where its pieces are
abbrev pub LinesAreProper : LineState → Type 0
LinesAreProper q = (row : List Piece) (ts : List LineToken) (x : Line) → Row q row ts → AreProper true 64 row → line_of_row row ≡ Some (Some x) → IsProperLine x
