-- The places behind the lines of a view, in the words of the sources.
use Rattle.std.specs.Prelude.{◌≡◌, ℕ, List, [], ◌∷◌, ◌++◌, length, map, Option, Some, None, codes}
use Rattle.p8_tree.specs.declared.places.Place.{Place}
use Rattle.p8_tree.specs.Projects.{NamedSource}
use Rattle.p8_kinds.specs.declared.children.Children.{Children}
use Rattle.p8_dat.specs.declared.assembling.LineBegin.{LineBegin}
use Rattle.p8_access.specs.declared.kinds.Origin.{Origin}
use Rattle.p8_access.specs.declared.order.Turn.{Turn}
use Rattle.p8_access.specs.declared.states.CogState.TheVariants.{Running}
use Rattle.p8_access.specs.Hub.{cog_state, origin_of}
use Rattle.p8_access.specs.Histories.{begun, since_begin}
use Rattle.p8_access.specs.Lives.{Entered, Loaded, PasmBegun, SpinBegun}
use Rattle.p8_access.specs.Replays.{answer_of}
use Rattle.p8_access.specs.Worlds.{World}
use Rattle.p8_build.specs.Files.{CompiledFile}
use Rattle.p8_machine.specs.Counted.{IsCounterIn}
use Rattle.p8_meaning.specs.Programs.{Program, Addresses, Target}
use Rattle.p8_meaning.specs.Lives.{IsMethodOrigin, says_for}
use Rattle.p8_legend.specs.declared.legend.Legend.{Legend}
use Rattle.p8_legend.specs.DatLines.{HasAddress, line_text}
use Rattle.p8_legend.specs.Telling.{IsShown}
use Rattle.p8_view.specs.Drives.{drives_of, pins_text}
use Rattle.p8_view.specs.View.{counter_of, rate, turn_line, when_text}
use Rattle.p8_view.specs.Words.{access_text, local_for}

-- the line of a turn after a past, with this behind what its cog does
abbrev pub line_with : Legend → World → List Turn → Turn → (counter : Option ℕ) → (behind : List ℕ) → List ℕ
line_with legend w past turn counter behind =
    when_text (rate w) turn
    ++ (access_text legend.names (origin_of (cog_state w past turn.key.cog))
    (local_for legend (origin_of (cog_state w past turn.key.cog)) counter) turn.access turn.answer ++
    pins_text (drives_of past) (drives_of (turn ∷ past)) ++ behind ++ 10 ∷ [])

-- the line of the turn with this counter ends with the place of this statement
pub record EndsWithPlace (sources : List (List ℕ)) (files : List NamedSource) (legend : Legend) (w : World) (past : List Turn) (turn : Turn)
    (counter : Option ℕ) (statement : Option Place) : Type 0 where
  pub file_number : ℕ
  pub method_number : ℕ
  pub place : Place
  pub names : statement ≡ Some place
  pub text : List ℕ
  pub shown : IsShown sources files file_number method_number place text
  pub line : turn_line legend w past turn counter ≡ line_with legend w past turn counter (codes " " ++ text)

-- The line of a turn, which comes after a past: where its counter is known and its cog runs Spin it ends with the place of the statement for which the source
-- asks the access, told up to the limit of clocks; the source is that of any method with whose origin the life began. Where none is known no place is shown.
pub record ShowsPlace (sources : List (List ℕ)) (files : List NamedSource) (program : Program) (addresses : Addresses) (legend : Legend) (w : World)
    (past : List Turn) (turn : Turn) (counter : Option ℕ) : Type 0 where
  pub is_counter : IsCounterIn w past turn.key.cog (cog_state w past turn.key.cog) counter
  pub place : (origin : Origin) → cog_state w past turn.key.cog ≡ Running origin → (entered : Entered) → begun w past turn.key.cog ≡ Some (SpinBegun entered)
      → (address : ℕ) → counter ≡ Some address → (target : Target) (frame : ℕ) → IsMethodOrigin program addresses entered.origin target frame
      → EndsWithPlace sources files legend w past turn counter
      (says_for program addresses target frame entered.cog (map answer_of (since_begin past turn.key.cog)) w.clocks)
  pub none : counter ≡ None → turn_line legend w past turn counter ≡ line_with legend w past turn counter []

-- so does the line of each turn of a history; the counters are those of its turns, the oldest first
abbrev pub LinesShowPlaces : List (List ℕ) → List NamedSource → Program → Addresses → Legend → World → List (Option ℕ) → List Turn → Type 0
LinesShowPlaces sources files program addresses legend w counters history =
    (later : List Turn) (turn : Turn) (past : List Turn) → history ≡ later ++ turn ∷ past →
    ShowsPlace sources files program addresses legend w past turn (counter_of counters (length past))

-- The line of a turn, which comes after a past: where its counter is known and its cog runs PASM it ends with the line of DAT that has the counter's address.
-- That is where the image has the long that the cog executes, and from where that was loaded; where it isn't the image's there, no counter is known.
pub record ShowsLine (files : List NamedSource) (children : List Children) (compiled : List CompiledFile) (legend : Legend) (w : World) (past : List Turn)
    (turn : Turn) (counter : Option ℕ) : Type 0 where
  pub is_counter : IsCounterIn w past turn.key.cog (cog_state w past turn.key.cog) counter
  pub line : (origin : Origin) → cog_state w past turn.key.cog ≡ Running origin → (loaded : Loaded) → begun w past turn.key.cog ≡ Some (PasmBegun loaded)
      → (address : ℕ) → counter ≡ Some address → (file : NamedSource) (line : LineBegin) → HasAddress files children compiled file line address
      → turn_line legend w past turn counter ≡ line_with legend w past turn counter (codes " " ++ line_text file.name line)

abbrev pub LinesShowLines : List NamedSource → List Children → List CompiledFile → Legend → World → List (Option ℕ) → List Turn → Type 0
LinesShowLines files children compiled legend w counters history =
    (later : List Turn) (turn : Turn) (past : List Turn) → history ≡ later ++ turn ∷ past →
    ShowsLine files children compiled legend w past turn (counter_of counters (length past))
