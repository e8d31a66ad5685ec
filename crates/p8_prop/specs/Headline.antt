-- The headline: what a run prints is told of the one history of its program, and in it each life of Spin is what its source says; and what a build
-- writes keeps the meaning of its source (this project's profile).
use Rattle.std.specs.Prelude.{ℕ, ◌≡◌, Bool, true, false, List, Option}
use Rattle.p8_access.specs.declared.order.Turn.{Turn}
use Rattle.p8_access.specs.Worlds.{Line, World}
use Rattle.p8_access.specs.Histories.{Ended, Rises}
use Rattle.p8_tree.specs.Projects.{NamedSource}
use Rattle.p8_image.specs.declared.clocks.Clock.{Clock}
use Rattle.p8_image.specs.declared.parts.ObjectPart.{ObjectPart}
use Rattle.p8_image.specs.Layout.{image_of}
use Rattle.p8_image.specs.Loading.{memory_of}
use Rattle.p8_cog.specs.Lives.{asks}
use Rattle.p8_legend.specs.declared.legend.Legend.{Legend}
use Rattle.p8_view.specs.declared.turns.ViewOptions.{ViewOptions}
use Rattle.p8_io.specs.Shelves.{Files}
use Rattle.p8_meaning.specs.Programs.{Program, Addresses}
use Rattle.p8_compiled.specs.Told.{SpinIsTold}
use Rattle.p8_opt.specs.Programs.{program_of, addresses_of}
use Rattle.p8_opt.specs.Meaning.{KeepsMeaning}
use Rattle.p8_inputs.specs.declared.program.Format.{Format}
use Rattle.p8_inputs.specs.declared.program.Format.TheVariants.{Memory, Source}
use Rattle.p8_inputs.specs.Inputs.{IsProgram, IsScriptFor}
use Rattle.p8_inputs.specs.Legends.{IsLegendFrom}
use Rattle.p8_inputs.specs.Pages.{AreBlocksFrom}
use Rattle.p8_page.specs.Page.{Block}
use Rattle.p8_inputs.specs.Programs.{format_for, format_named, world_of}
use Rattle.p8_inputs.specs.Sources.{IsBuiltBy, IsBuiltFrom}
use Rattle.p8_commands.specs.Commands.{Command, Dump, Running, BuildSource, ListSource, CodeSource, CodeImage, MapSource, HintSource}
use Rattle.p8_commands.specs.Commands.{ExplainFile, ExplainNumber, RunMemory, RunProgram, Save, Check, Serial as ReadPin, TypeFile, Wave as ShowWave}
use Rattle.p8_commands.specs.Commands.{Plot as DrawPins, ViewRun, PageRun, Convert, Make, Help}
use Rattle.p8_finish.specs.declared.finish.Finish.{Finish}
use Rattle.p8_finish.specs.declared.finish.Finish.TheVariants.{Trace, Saved, Serial, Wave, Plot}
use Rattle.p8_finish.specs.Finishes.{told_by, IsWhole}
use Rattle.p8_prop.specs.Texts.{selection_of, picture_of, options_of, dumped_range, IsViewOf, IsPageOf}

-- the one history of a world: it has ended, its keys rise, and no other one has ended
pub record IsOneHistory (w : World) (past : List Turn) : Type 0 where
  pub ended : Ended asks w past
  pub rises : Rises past
  pub only : (other : List Turn) → Ended asks w other → other ≡ past

-- the program that a source is, and the addresses that its image has, with the short code of its methods where it is short
module _ (sources : List NamedSource) (clock : Clock) (objects : List ObjectPart) where
  abbrev pub program_by : (short : Bool) → IsBuiltBy short sources clock objects → Program
  program_by false built = program_of sources built.children built.compiled
  program_by true built = program_of sources built.children built.compiled

  abbrev pub addresses_by : (short : Bool) → IsBuiltBy short sources clock objects → Addresses
  addresses_by false built = addresses_of sources built.compiled objects
  addresses_by true built = addresses_of sources built.short objects

-- Where these bytes are the image of a source, each life of Spin in a past was started with a method of the source's project, and its accesses are,
-- in order, those that the method makes of the answers which it got.
abbrev pub IsToldBySource : Files → Format → (file bytes : List ℕ) → World → List Turn → Type 0
IsToldBySource files (Source short) file bytes w past =
    (sources : List NamedSource) × (clock : Clock) × (objects : List ObjectPart)
    × (is : IsBuiltFrom files short file sources clock objects) × (bytes ≡ image_of clock objects)
    × SpinIsTold (program_by sources clock objects short is.built) (addresses_by sources clock objects short is.built) w past
IsToldBySource files format file bytes w past = Unit {0}

-- this is the world of a run, whose file is taken for this, and its one history; each life of Spin there is told by the source
pub record IsHistoryOf (files : Files) (format : Format) (run : Running) (w : World) (past : List Turn) : Type 0 where
  pub bytes : List ℕ
  pub script : List Line
  pub program : IsProgram files format run.file bytes
  pub pins : IsScriptFor files run.script script
  pub world : w ≡ world_of format bytes script run.clocks run.turns
  pub history : IsOneHistory w past
  pub source : IsToldBySource files format run.file bytes w past

-- this text is what is told of the history of a run, whole: what is saved is a history file, with the record of each turn
abbrev pub IsRun : Files → Format → Running → Finish → (text : List ℕ) → Type 0
IsRun files format run finish text =
    (w : World) × (past : List Turn) × IsHistoryOf files format run w past × IsWhole finish w past × (text ≡ told_by finish w past)

-- this text is the view of it, by the legend of what is run
abbrev pub IsView : Files → Format → Running → ViewOptions → Option Dump → (text : List ℕ) → Type 0
IsView files format run options dump text =
    (w : World) × (past : List Turn) × (legend : Legend) × IsHistoryOf files format run w past × IsLegendFrom files format run.file legend
    × IsViewOf w past options legend (dumped_range legend dump) text

-- this text is the page of it, by the legend and the blocks of what is run
abbrev pub IsPage : Files → Format → Running → (from to : ℕ) → (text : List ℕ) → Type 0
IsPage files format run from to text =
    (w : World) × (past : List Turn) × (legend : Legend) × (blocks : List Block) × IsHistoryOf files format run w past
    × IsLegendFrom files format run.file legend × AreBlocksFrom files format run.file blocks × IsPageOf w past run.file from to legend blocks text

-- this is the image of a source's project, and the memory that it begins with keeps the meaning of the source
pub record IsBuild (files : Files) (short : Bool) (file text : List ℕ) : Type 0 where
  pub sources : List NamedSource
  pub clock : Clock
  pub objects : List ObjectPart
  pub from : IsBuiltFrom files short file sources clock objects
  pub written : text ≡ image_of clock objects
  pub keeps : KeepsMeaning (memory_of text) (program_by sources clock objects short from.built) (addresses_by sources clock objects short from.built)

-- what the headline says of the text of a command
abbrev pub IsHeadline : Files → Command → (text : List ℕ) → Type 0
IsHeadline files (BuildSource short file) text = IsBuild files short file text
IsHeadline files (ListSource short file) text = Unit {0}
IsHeadline files (CodeSource short file) text = Unit {0}
IsHeadline files (CodeImage kind file) text = Unit {0}
IsHeadline files (MapSource file) text = Unit {0}
IsHeadline files (HintSource file) text = Unit {0}
IsHeadline files (ExplainFile file) text = Unit {0}
IsHeadline files (ExplainNumber number) text = Unit {0}
IsHeadline files (RunMemory run) text = IsRun files Memory run (Trace run.dump) text
IsHeadline files (RunProgram alone short run) text = IsRun files (format_named short run.file) run (Trace run.dump) text
IsHeadline files (Save raw run) text = IsRun files (format_for raw run.file) run Saved text
IsHeadline files (Check raw file history script) text = Unit {0}
IsHeadline files (ReadPin raw run pin bits) text = IsRun files (format_for raw run.file) run (Serial pin bits) text
IsHeadline files (ShowWave alone raw all pins_only run) text = IsRun files (format_for raw run.file) run (Wave (selection_of all pins_only)) text
IsHeadline files (DrawPins alone raw ascii run pins from to columns) text = IsRun files (format_for raw run.file) run
    (Plot (picture_of pins from to columns ascii)) text
IsHeadline files (ViewRun raw pins_only quiet run cog from to dump) text =
    IsView files (format_for raw run.file) run (options_of pins_only quiet cog from to) dump text
IsHeadline files (PageRun raw run from to) text = IsPage files (format_for raw run.file) run from to text
IsHeadline files (TypeFile file pin bits start) text = Unit {0}
IsHeadline files (Convert kind file) text = Unit {0}
IsHeadline files (Make alone seed) text = Unit {0}
IsHeadline files (Help topic) text = Unit {0}
