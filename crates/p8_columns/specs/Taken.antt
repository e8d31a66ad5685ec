-- Which lines open blocks have taken.
use Rattle.std.specs.Prelude.{◌≡◌, List}
use Rattle.p8_columns.specs.Lines.{Line}
use Rattle.p8_columns.specs.Columns.{AllFit}
use Rattle.p8_columns.specs.Reader.{State, state, start, walk}
use Rattle.p8_columns.specs.Views.{contents_of, frames_in}
use Rattle.p8_columns.specs.declared.blocks.Blocks.{Blocks}

abbrev pub Lines : Type 0
Lines = List Line

-- internal: what is kept of the lines
abbrev pub state_of : Blocks → State
state_of b = state (contents_of b.contents) (frames_in b.stack)

-- The open blocks began with none, and have taken these lines and no others, each of which fits after
-- those before it.
pub record HasTaken (lines : Lines) (blocks : Blocks) : Type 0 where
  pub fit : AllFit lines
  pub kept : state_of blocks ≡ walk start lines
