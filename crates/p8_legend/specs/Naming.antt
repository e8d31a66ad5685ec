-- Which statement a table names for an address, and for the turns of a history.
use Rattle.std.specs.Prelude.{◌≡◌, ℕ, List, ◌∷◌, ◌++◌, map, Option, Some}
use Rattle.p8_tree.specs.declared.places.Place.{Place}
use Rattle.p8_access.specs.declared.kinds.Origin.{Origin}
use Rattle.p8_access.specs.declared.order.Turn.{Turn}
use Rattle.p8_access.specs.declared.states.CogState.TheVariants.{Running}
use Rattle.p8_access.specs.Hub.{cog_state}
use Rattle.p8_access.specs.Histories.{begun, since_begin}
use Rattle.p8_access.specs.Lives.{Entered, SpinBegun}
use Rattle.p8_access.specs.Replays.{answer_of}
use Rattle.p8_access.specs.Worlds.{World}
use Rattle.p8_bcog.specs.Counters.{IsCounter}
use Rattle.p8_meaning.specs.Programs.{Program, Addresses, Target}
use Rattle.p8_meaning.specs.Lives.{IsMethodOrigin, says_for}
use Rattle.p8_legend.specs.declared.table.LineRow.{LineRow}
use Rattle.p8_legend.specs.Rows.{IsRowAt}

-- the row of the bytecode that begins at the address names this statement
pub record NamesStatement (rows : List LineRow) (address : ℕ) (statement : Option Place) : Type 0 where
  pub row : LineRow
  pub is_at : IsRowAt rows address row
  pub begins : row.address ≡ address
  pub names : statement ≡ Some row.place

-- A turn that comes after a past, of a cog that runs Spin, and this is the program counter of its access: the row of that address names the statement for
-- which the source asks the access, told up to the limit of clocks. The source is that of any method with whose origin the life began.
abbrev pub IsNamedTurn : Program → Addresses → List LineRow → World → List Turn → Turn → Type 0
IsNamedTurn program addresses rows w past turn =
    (origin : Origin) → cog_state w past turn.key.cog ≡ Running origin → (entered : Entered) → begun w past turn.key.cog ≡ Some (SpinBegun entered)
    → (address : ℕ) → IsCounter (SpinBegun entered) (since_begin past turn.key.cog) (Some address)
    → (target : Target) (frame : ℕ) → IsMethodOrigin program addresses entered.origin target frame
    → NamesStatement rows address (says_for program addresses target frame entered.cog (map answer_of (since_begin past turn.key.cog)) w.clocks)

-- each turn of a history is
abbrev pub TurnsAreNamed : Program → Addresses → List LineRow → World → List Turn → Type 0
TurnsAreNamed program addresses rows w history =
    (later : List Turn) (turn : Turn) (past : List Turn) → history ≡ later ++ turn ∷ past → IsNamedTurn program addresses rows w past turn
