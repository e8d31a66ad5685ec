-- What each command reads, and the text that it asks for (this project's profile).
use Rattle.std.specs.Prelude.{ℕ, ◌+◌, ◌≡◌, nat_le, if◌then◌else◌, Bool, false, List, [], ◌∷◌, ◌++◌, Option, Some, None, option_and_then, reverse, codes}
use Rattle.p8_machine.specs.declared.asked.Asked.{Asked}
use Rattle.p8_access.specs.declared.order.Turn.{Turn}
use Rattle.p8_access.specs.Worlds.{World}
use Rattle.p8_access.specs.Histories.{Ended}
use Rattle.p8_cog.specs.Lives.{asks}
use Rattle.p8_machine.specs.Counted.{AreAsked, AreCounters}
use Rattle.p8_legend.specs.declared.legend.Legend.{Legend}
use Rattle.p8_io.specs.Shelves.{Files}
use Rattle.p8_finish.specs.Summary.{made_world}
use Rattle.p8_verify.specs.declared.verdicts.Cause.{Cause}
use Rattle.p8_verify.specs.declared.verdicts.Verdict as checked
use Rattle.p8_verify.specs.declared.verdicts.Verdict.TheVariants.{Good, Bad}
use Rattle.p8_verify.specs.Verdicts.{IsVerdict}
use Rattle.p8_finish.specs.declared.finish.Finish.{Finish}
use Rattle.p8_finish.specs.declared.finish.Finish.TheVariants.{Trace, Summary, Saved, Serial, Wave, Plot}
use Rattle.p8_finish.specs.Finishes.{told_by}
use Rattle.p8_finish.specs.Checks.{good_line}
use Rattle.p8_explain.specs.Explaining.{entry_of}
use Rattle.p8_code.specs.Images.{image_code}
use Rattle.p8_wave.specs.declared.view.View.{View}
use Rattle.p8_serial.specs.Typed.{typed_text}
use Rattle.p8_view.specs.declared.turns.ViewOptions.{ViewOptions}
use Rattle.p8_view.specs.Ending.{view_of}
use Rattle.p8_pins.specs.Levels.{pins_when, end_of}
use Rattle.p8_page.specs.Page.{Block, changes_by, page_of, run_blocks}
use Rattle.p8_wave.specs.declared.variables.Selection.{Selection}
use Rattle.p8_inputs.specs.declared.program.Format.{Format}
use Rattle.p8_inputs.specs.declared.program.Format.TheVariants.{Memory, Source}
use Rattle.p8_inputs.specs.Programs.{format_for, format_named, format_of, binary_by, other_file, boot_by, world_of}
use Rattle.p8_inputs.specs.Asks.{Ask, program, listing, coding, mapping, hinting, message, run_asks, view_asks, page_asks, check_asks, Given}
use Rattle.p8_inputs.specs.Asks.{bytes_in, lines_in, later_bytes_in, IsLegendIn, AreBlocksIn, Give}
use Rattle.p8_inputs.specs.Legends.{range_in}
use Rattle.p8_commands.specs.Commands.{Command, Dump, RangeOf, Named, Running, BuildSource, ListSource, CodeSource, CodeImage, MapSource}
use Rattle.p8_commands.specs.Commands.{HintSource, ExplainFile, ExplainNumber, RunMemory, RunProgram, Save, Check, Serial as ReadPin, TypeFile}
use Rattle.p8_commands.specs.Commands.{Wave as ShowWave, Plot as DrawPins, ViewRun, PageRun, Convert, Make, Help}
use Rattle.p8_commands.specs.Pages.{help_text}

-- what a wave shows, and what a picture of pins
abbrev pub selection_of : (all pins_only : Bool) → Selection
selection_of all pins_only = record { all = all; pins_only = pins_only }

abbrev pub picture_of : (pins from to columns : ℕ) (ascii : Bool) → View
picture_of pins from to columns ascii = record { pins = pins; from = from; to = to; columns = columns; ascii = ascii }

-- which turns a view shows
abbrev pub options_of : (pins_only quiet : Bool) (cog : Option ℕ) (from to : ℕ) → ViewOptions
options_of pins_only quiet cog from to = record { cog = cog; from = from; to = to; pins_only = pins_only; quiet = quiet }

-- the name of what is to be dumped, where it is told by one
abbrev pub name_in : Option Dump → Option (List ℕ)
name_in (Some (Named name)) = Some name
name_in _ = None

-- a range, where it lies in hub RAM
abbrev pub in_ram : ℕ × ℕ → Option (ℕ × ℕ)
in_ram range = if nat_le (range.0 + range.1) 32768 then Some range else None

-- the range that a view dumps: the one that is told, or all of what the legend says has the name
abbrev pub dumped_range : Legend → Option Dump → Option (ℕ × ℕ)
dumped_range legend None = None
dumped_range legend (Some (RangeOf range)) = Some range
dumped_range legend (Some (Named name)) = option_and_then in_ram (range_in legend name)

-- the line of a source of which nothing is refused
abbrev pub accepted_line : (file : List ℕ) → List ℕ
accepted_line file = file ++ codes ": nothing is refused" ++ 10 ∷ []

-- what a command reads, in this order: a run its program, a view with its legend, and then its pin script, where one is named, and a check a history
-- after both
abbrev pub asks_of : Command → List Ask
asks_of (BuildSource short file) = program (Source short) file ∷ []
asks_of (ListSource short file) = listing short file ∷ []
asks_of (CodeSource short file) = coding short file ∷ []
asks_of (CodeImage kind file) = program (format_of kind) file ∷ []
asks_of (MapSource file) = mapping file ∷ []
asks_of (HintSource file) = hinting file ∷ []
asks_of (ExplainFile file) = program (Source false) file ∷ []
asks_of (ExplainNumber number) = []
asks_of (RunMemory run) = run_asks Memory run.file run.script
asks_of (RunProgram alone short run) = run_asks (format_named short run.file) run.file run.script
asks_of (Save raw run) = run_asks (format_for raw run.file) run.file run.script
asks_of (Check raw file history script) = check_asks (format_for raw file) file script history
asks_of (ReadPin raw run pin bits) = run_asks (format_for raw run.file) run.file run.script
asks_of (ShowWave alone raw all pins_only run) = run_asks (format_for raw run.file) run.file run.script
asks_of (DrawPins alone raw ascii run pins from to columns) = run_asks (format_for raw run.file) run.file run.script
asks_of (ViewRun raw pins_only quiet run cog from to dump) = view_asks (format_for raw run.file) run.file (name_in dump) run.script
asks_of (PageRun raw run from to) = page_asks (format_for raw run.file) run.file run.script
asks_of (TypeFile file pin bits start) = message file ∷ []
asks_of (Convert kind file) = program (format_of kind) file ∷ []
asks_of (Make alone seed) = []
asks_of (Help topic) = []

-- the text that is told of the ended history of a world; there is one such history
abbrev pub IsToldOf : World → Finish → List ℕ → Type 0
IsToldOf world finish text = (past : List Turn) × Ended asks world past × (text ≡ told_by finish world past)

-- the text that is told of a run of what is given, by what it is taken for
abbrev pub IsToldOfRun : Format → Running → Finish → List Given → List ℕ → Type 0
IsToldOfRun format run finish given text = IsToldOf (world_of format (bytes_in given) (lines_in given) run.clocks run.turns) finish text

-- the view of a past: its turns with the counter of each, the oldest first, what each cog asks next, and the dump
abbrev pub IsViewOf : World → List Turn → ViewOptions → Legend → (dump : Option (ℕ × ℕ)) → List ℕ → Type 0
IsViewOf w past options legend dump text =
    (counters : List (Option ℕ)) × (asked : List Asked)
    × AreCounters w past (reverse counters) × AreAsked w past asked × (text ≡ view_of options legend w counters asked past dump)

-- the view of the ended history of a world
abbrev pub IsViewed : World → ViewOptions → Legend → (dump : Option (ℕ × ℕ)) → List ℕ → Type 0
IsViewed w options legend dump text = (past : List Turn) × Ended asks w past × IsViewOf w past options legend dump text

-- the view of a run of what is given, by the legend that is given with it
abbrev pub IsViewOfRun : Format → Running → ViewOptions → Option Dump → List Given → List ℕ → Type 0
IsViewOfRun format run options dump given text =
    (legend : Legend) × IsLegendIn given legend
    × IsViewed (world_of format (bytes_in given) (lines_in given) run.clocks run.turns) options legend (dumped_range legend dump) text

-- the page of a past: its view between two clocks, with no dump, the changes of its pins, and the blocks of what is run
abbrev pub IsPageOf : World → List Turn → (file : List ℕ) → (from to : ℕ) → Legend → List Block → List ℕ → Type 0
IsPageOf w past file from to legend blocks text =
    (view : List ℕ) × IsViewOf w past (options_of false false None from to) legend None view
    × (text ≡ page_of (run_blocks file from to view (changes_by (pins_when w past) (end_of w past)) ++ blocks))

-- the page of the ended history of a world
abbrev pub IsPaged : World → (file : List ℕ) → (from to : ℕ) → Legend → List Block → List ℕ → Type 0
IsPaged w file from to legend blocks text = (past : List Turn) × Ended asks w past × IsPageOf w past file from to legend blocks text

-- the page of a run of what is given, by the legend and the blocks that are given with it
abbrev pub IsPageOfRun : Format → Running → (from to : ℕ) → List Given → List ℕ → Type 0
IsPageOfRun format run from to given text =
    (legend : Legend) × IsLegendIn given legend × (blocks : List Block) × AreBlocksIn given blocks
    × IsPaged (world_of format (bytes_in given) (lines_in given) run.clocks run.turns) run.file from to legend blocks text

-- the verdict on a history file, by what is given: its program, by what that is taken for, its pin script, and its bytes
abbrev pub HasVerdict : Format → List Given → checked.Verdict → Type 0
HasVerdict format given verdict = IsVerdict (boot_by format (bytes_in given)) (lines_in given) (later_bytes_in given) verdict

-- the text of a command, by what it is given
abbrev pub IsTextOf : Command → List Given → List ℕ → Type 0
IsTextOf (BuildSource short file) given text = text ≡ bytes_in given
IsTextOf (ListSource short file) given text = text ≡ bytes_in given
IsTextOf (CodeSource short file) given text = text ≡ bytes_in given
IsTextOf (CodeImage kind file) given text = text ≡ image_code (binary_by kind (bytes_in given))
IsTextOf (MapSource file) given text = text ≡ bytes_in given
IsTextOf (HintSource file) given text = text ≡ bytes_in given
IsTextOf (ExplainFile file) given text = text ≡ accepted_line file
IsTextOf (ExplainNumber number) given text = text ≡ entry_of number
IsTextOf (RunMemory run) given text = IsToldOfRun Memory run (Trace run.dump) given text
IsTextOf (RunProgram alone short run) given text = IsToldOfRun (format_named short run.file) run (Trace run.dump) given text
IsTextOf (Save raw run) given text = IsToldOfRun (format_for raw run.file) run Saved given text
IsTextOf (Check raw file history script) given text = (count : ℕ) × HasVerdict (format_for raw file) given (Good count) × (text ≡ good_line count)
IsTextOf (ReadPin raw run pin bits) given text = IsToldOfRun (format_for raw run.file) run (Serial pin bits) given text
IsTextOf (ShowWave alone raw all pins_only run) given text = IsToldOfRun (format_for raw run.file) run (Wave (selection_of all pins_only)) given text
IsTextOf (DrawPins alone raw ascii run pins from to columns) given text = IsToldOfRun (format_for raw run.file) run
    (Plot (picture_of pins from to columns ascii)) given text
IsTextOf (ViewRun raw pins_only quiet run cog from to dump) given text =
    IsViewOfRun (format_for raw run.file) run (options_of pins_only quiet cog from to) dump given text
IsTextOf (PageRun raw run from to) given text = IsPageOfRun (format_for raw run.file) run from to given text
IsTextOf (TypeFile file pin bits start) given text = text ≡ typed_text (bytes_in given) pin bits start
IsTextOf (Convert kind file) given text = text ≡ other_file kind (bytes_in given)
IsTextOf (Make alone seed) given text = IsToldOf (made_world seed) (Summary seed) text
IsTextOf (Help topic) given text = text ≡ help_text topic

-- the text that a command asks for, whether one thread makes a run or a crew does
abbrev pub IsAskedFor : Files → Command → List ℕ → Type 0
IsAskedFor files command text = (given : List Given) × Give files (asks_of command) given × IsTextOf command given text

-- what a command is given to check isn't good: this history, at this turn, for this cause
abbrev pub IsBadBy : Command → List Given → (name : List ℕ) → (turn : ℕ) → Cause → Type 0
IsBadBy (Check raw file history script) given name turn cause = (name ≡ history) × HasVerdict (format_for raw file) given (Bad turn cause)
IsBadBy command given name turn cause = ⊥

abbrev pub IsBadHistory : Files → Command → (name : List ℕ) → (turn : ℕ) → Cause → Type 0
IsBadHistory files command name turn cause = (given : List Given) × Give files (asks_of command) given × IsBadBy command given name turn cause
