-- What the places of a legend tell of an address, in the words of the sources, and of the turns of a history.
use Rattle.std.specs.Prelude.{◌≡◌, ℕ, List, [], ◌∷◌, ◌++◌, map, slice_get, Option, Some, codes}
use Rattle.std.specs.Fmt.{decimal}
use Rattle.p8_tree.specs.declared.places.Place.{Place}
use Rattle.p8_tree.specs.Projects.{NamedSource}
use Rattle.p8_lexer.specs.Spelling.{spelled, text_in}
use Rattle.p8_access.specs.declared.kinds.Origin.{Origin}
use Rattle.p8_access.specs.declared.order.Turn.{Turn}
use Rattle.p8_access.specs.declared.states.CogState.TheVariants.{Running}
use Rattle.p8_access.specs.Hub.{cog_state}
use Rattle.p8_access.specs.Histories.{begun, since_begin}
use Rattle.p8_access.specs.Lives.{Entered, SpinBegun}
use Rattle.p8_access.specs.Replays.{answer_of}
use Rattle.p8_access.specs.Worlds.{World}
use Rattle.p8_bcog.specs.Counters.{IsCounter}
use Rattle.p8_meaning.specs.Programs.{Program, Addresses, Target}
use Rattle.p8_meaning.specs.Lives.{IsMethodOrigin, says_for}
use Rattle.p8_legend.specs.declared.ranges.Ranges.{Ranges}
use Rattle.p8_legend.specs.declared.table.LineRow.{LineRow}
use Rattle.p8_legend.specs.Legends.{place_text}
use Rattle.p8_legend.specs.Origins.{IsPlaceIn}
use Rattle.p8_legend.specs.Rows.{IsRowAt}

-- The place of a statement of a method, or that of the method's name, as it is shown: the file and the line, and the method's name as the file spells it where
-- it is defined. `sources` are the bytes of the files.
pub record IsShown (sources : List (List ℕ)) (files : List NamedSource) (file_number method_number : ℕ) (place : Place) (text : List ℕ) : Type 0 where
  pub stands : IsPlaceIn files file_number method_number place
  pub bytes : List ℕ
  pub are_bytes : slice_get sources file_number ≡ Some bytes
  pub is : text ≡ stands.file.name ++ codes ":" ++ decimal place.line ++ codes " " ++ spelled (text_in bytes) stands.method.place stands.method.name

-- of an address this place is told
pub record TellsPlace (sources : List (List ℕ)) (files : List NamedSource) (places : Ranges) (address file_number method_number : ℕ)
    (place : Place) : Type 0 where
  pub text : List ℕ
  pub shown : IsShown sources files file_number method_number place text
  pub told : place_text places (Some address) ≡ codes " " ++ text

-- of an address that a row holds the place of that row is told, and of an address that no row holds none
pub record TellsRows (sources : List (List ℕ)) (files : List NamedSource) (rows : List LineRow) (places : Ranges) : Type 0 where
  pub told : (address : ℕ) (row : LineRow) → IsRowAt rows address row → TellsPlace sources files places address row.file row.method row.place
  pub untold : (address : ℕ) → ((row : LineRow) → ¬ IsRowAt rows address row) → place_text places (Some address) ≡ []

-- of an address the place of this statement is told
pub record TellsStatement (sources : List (List ℕ)) (files : List NamedSource) (places : Ranges) (address : ℕ) (statement : Option Place) : Type 0 where
  pub file_number : ℕ
  pub method_number : ℕ
  pub place : Place
  pub names : statement ≡ Some place
  pub tells : TellsPlace sources files places address file_number method_number place

-- Of the program counter of a turn's access, which comes after a past and is of a cog that runs Spin, the place of the statement is told for which the source
-- asks the access, told up to the limit of clocks. The source is that of any method with whose origin the life began.
abbrev pub IsToldTurn : List (List ℕ) → List NamedSource → Program → Addresses → Ranges → World → List Turn → Turn → Type 0
IsToldTurn sources files program addresses places w past turn =
    (origin : Origin) → cog_state w past turn.key.cog ≡ Running origin → (entered : Entered) → begun w past turn.key.cog ≡ Some (SpinBegun entered)
    → (address : ℕ) → IsCounter (SpinBegun entered) (since_begin past turn.key.cog) (Some address)
    → (target : Target) (frame : ℕ) → IsMethodOrigin program addresses entered.origin target frame
    → TellsStatement sources files places address (says_for program addresses target frame entered.cog (map answer_of (since_begin past turn.key.cog)) w.clocks)

-- so it is of each turn of a history
abbrev pub TurnsAreTold : List (List ℕ) → List NamedSource → Program → Addresses → Ranges → World → List Turn → Type 0
TurnsAreTold sources files program addresses places w history =
    (later : List Turn) (turn : Turn) (past : List Turn) → history ≡ later ++ turn ∷ past → IsToldTurn sources files program addresses places w past turn
