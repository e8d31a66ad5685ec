-- Which local of a method a turn of Spin reads or writes, and by which name a legend tells it.
use Rattle.std.specs.Prelude.{◌≡◌, ℕ, ◌+◌, List, [], ◌∷◌, ◌++◌, Some, slice_get}
use Rattle.p8_access.specs.declared.kinds.Width.{Width}
use Rattle.p8_access.specs.declared.kinds.Origin.{Origin}
use Rattle.p8_access.specs.declared.kinds.Access.{Access}
use Rattle.p8_access.specs.declared.kinds.Access.TheVariants.{Read, Write, Halt}
use Rattle.p8_access.specs.declared.order.Turn.{Turn}
use Rattle.p8_access.specs.declared.states.CogState.TheVariants.{Running}
use Rattle.p8_access.specs.Hub.{cog_state}
use Rattle.p8_access.specs.Histories.{begun, since_begin}
use Rattle.p8_access.specs.Lives.{Entered, SpinBegun}
use Rattle.p8_access.specs.Worlds.{World}
use Rattle.p8_bcog.specs.Accesses.{aligned}
use Rattle.p8_bcog.specs.Counters.{IsAskedFrom}
use Rattle.p8_map.specs.declared.names.FileNames.{FileNames}
use Rattle.p8_map.specs.declared.names.MethodNames.{MethodNames}
use Rattle.p8_meaning.specs.Programs.{Program, Addresses, Target}
use Rattle.p8_meaning.specs.Lives.{IsMethodOrigin}
use Rattle.p8_legend.specs.declared.ranges.Ranges.{Ranges}
use Rattle.p8_legend.specs.declared.table.LineRow.{LineRow}
use Rattle.p8_legend.specs.Frames.{frame_text, method_of}
use Rattle.p8_legend.specs.Legends.{local_at}
use Rattle.p8_legend.specs.Rows.{IsRowAt}

-- an access reads or writes so many bytes at this address; or it is a halt, as of a read of ROM
abbrev pub IsOn : Access → Width → (address : ℕ) → Type 0
IsOn (Read width address) w a = (width ≡ w) × (address ≡ a)
IsOn (Write width address value) w a = (width ≡ w) × (address ≡ a)
IsOn (Halt reason) w a = Unit {0}
IsOn access w a = ⊥

-- An access that is asked from an address, in a frame that begins at another one: the row of the address is that of the bytecode there, the text is the name of
-- what stands so many bytes behind the begin of the frame of the row's method, and the access is on what stands there.
pub record IsNameOfLocal (files : List FileNames) (rows : List LineRow) (address frame : ℕ) (access : Access) (text : List ℕ) : Type 0 where
  pub row : LineRow
  pub is_at : IsRowAt rows address row
  pub begins : row.address ≡ address
  pub method : MethodNames
  pub is_method : method_of (slice_get files row.file) row.method ≡ Some method
  pub offset : ℕ
  pub named : text ≡ frame_text method offset
  pub width : Width
  pub on : IsOn access width (aligned width (frame + offset))

-- A turn that comes after a past, of a cog that runs Spin, and is asked by the bytecode at an address: where a name is told of that address, it is that of the
-- local which the turn reads or writes, in the frame of the method that runs. The life began with the origin of any method of the project.
abbrev pub IsNamedLocal : List FileNames → Program → Addresses → List LineRow → Ranges → World → List Turn → Turn → Type 0
IsNamedLocal files program addresses rows locals w past turn =
    (origin : Origin) → cog_state w past turn.key.cog ≡ Running origin → (entered : Entered) → begun w past turn.key.cog ≡ Some (SpinBegun entered)
    → (address : ℕ) → (asked : IsAskedFrom entered (since_begin past turn.key.cog) address)
    → (target : Target) (frame : ℕ) → IsMethodOrigin program addresses entered.origin target frame
    → (local_at locals (Some address) ≡ [] → ⊥) → IsNameOfLocal files rows address asked.1.frame turn.access (local_at locals (Some address))

-- so it is for each turn of a history
abbrev pub LocalsAreNamed : List FileNames → Program → Addresses → List LineRow → Ranges → World → List Turn → Type 0
LocalsAreNamed files program addresses rows locals w history =
    (later : List Turn) (turn : Turn) (past : List Turn) → history ≡ later ++ turn ∷ past → IsNamedLocal files program addresses rows locals w past turn
