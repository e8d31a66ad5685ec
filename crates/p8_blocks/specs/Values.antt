-- Lines with their values.
use Rattle.std.specs.Prelude.{◌≡◌, Bool, true, false, IsTrue, List, Option, Some}
use Rattle.p8_lexer.specs.Pieces.{Piece}
use Rattle.p8_columns.specs.Lines.{Kind, Plain, If, ElseIf, Else, Repeat, End, Case, Item, Other}
use Rattle.p8_lines.specs.declared.state.LineState.{LineState}
use Rattle.p8_lines.specs.declared.state.LineState.TheVariants as state
use Rattle.p8_lines.specs.Tokens.{LineToken}
use Rattle.p8_lines.specs.Lines.{read, Reads, Row}

-- Reading these tokens from a state on gives a line with this value, and these tokens after it.
pub record ReadsAs {V : Type 0} (value : List Piece → Option V) (q : LineState) (ts : List LineToken) (v : V) (rest : List LineToken) : Type 0 where
  pub row : List Piece
  pub reads : Reads q ts (read row rest)
  pub is : value row ≡ Some v

-- each line from this state on has a value
abbrev pub HaveValues : {V : Type 0} → (List Piece → Option V) → LineState → Type 0
HaveValues {V} value q = (row : List Piece) (ts : List LineToken) → Row q row ts → (v : V) × (value row ≡ Some v)

-- which lines of a method a state is the beginning of
abbrev pub suits : LineState → Kind → Bool
suits state.ChainLine (ElseIf negated test) = true
suits state.ChainLine Else = true
suits state.LoopEndLine (End until test) = true
suits state.CaseItem (Item tests) = true
suits state.CaseItem Other = true
suits state.Statement (Plain action) = true
suits state.Statement (If negated test) = true
suits state.Statement (Repeat course) = true
suits state.Statement (Case value) = true
suits q k = false

-- each line of a method from this state on has a value of its kind
abbrev pub HaveKinds : (List Piece → Option Kind) → LineState → Type 0
HaveKinds value q = (row : List Piece) (ts : List LineToken) → Row q row ts → (k : Kind) × (value row ≡ Some k) × IsTrue (suits q k)

-- the states from which lines of a method are read
abbrev pub begins_line : LineState → Bool
begins_line state.Statement = true
begins_line state.ChainLine = true
begins_line state.LoopEndLine = true
begins_line state.CaseItem = true
begins_line q = false
