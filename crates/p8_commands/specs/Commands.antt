-- The words of the command line (this project's profile), by what the library `clap` states of the words that a
-- command takes. Each word is a list of bytes.
use Rattle.std.specs.Prelude.{ℕ, Bool, true, false, if◌then◌else◌, List, [], ◌∷◌, Option, Some, None, option_map, option_and_then, codes}
use Rattle.std.specs.List.{list_all}
use Rattle.std.specs.Str.{bytes_eq}
use Rattle.clap.specs.Kinds.{Kinds}
use Rattle.clap.specs.Faults.{fault_of}
use Rattle.clap.specs.Simple.{matches_of}
use Rattle.clap.specs.Walk.{Text, first_of}
use Rattle.p8_commands.specs.declared.table.Subcommand.{Subcommand}
use Rattle.p8_commands.specs.declared.table.Subcommand.TheVariants as named
use Rattle.p8_commands.specs.declared.image_kind.ImageKind.{ImageKind}
use Rattle.p8_commands.specs.Kinds.{kind_named}
use Rattle.p8_commands.specs.Numbers.{is_digit, number_of, number_from, range_of, cog_of, refusal_of, most_clocks, most_shown_clocks, most_turns}
use Rattle.p8_commands.specs.Numbers.{usual_turns, most_saved_turns, most_page_turns, last_pin, least_bits, most_bits, least_columns, most_columns}
use Rattle.p8_commands.specs.Numbers.{usual_columns, most_seed}
use Rattle.p8_commands.specs.Pins.{mask_of, span_by, span_of}
use Rattle.p8_commands.specs.Table.{entry_of, app_for, subcommand_named}

-- a run: its file, the clock before which it ends, the file of a pin script, if any, how many turns it makes at most, and the
-- range to dump in the end
pub record Running : Type 0 where
  pub file : List ℕ
  pub clocks : ℕ
  pub script : Option (List ℕ)
  pub turns : ℕ
  pub dump : Option (ℕ × ℕ)

-- what is to be dumped: a range of hub RAM, or what has a name in the program
pub data Dump : Type 0 where
  RangeOf : ℕ × ℕ → Dump
  Named : (name : List ℕ) → Dump

-- A command: to write the image of a source, its listing, its map, or the code of a source or an image; to explain why a source is refused, or a
-- refusal by its number; to hint at what is most likely a slip in a source; to run hub memory, or an image or a source; to save the history of a run,
-- or to check one; to read the bytes that stand on a pin of a run, with so many clocks a bit, or to write a pin script that sends the bytes of a file
-- from a clock on; to write the wave of a run, of all that it has or of what changes, or of its pins and locks alone; to draw some pins of a run, by
-- their mask, from one clock on and before another; to show a run for reading, all turns or those of one cog or those that change pins, from one clock
-- on and before another, or none of them, and then what holds in the end, with a dump; to show a run in a browser, from one clock on and before
-- another; to write an image as the other kind of file; to run the made program of a seed; or to tell a command or all of them. A run is made by one
-- thread alone, or by a crew of eight. Where it says whether it is raw, what is run is hub memory where it is, and else an image or a source. Where it
-- says whether it is short, a source has its short code where it is.
pub data Command : Type 0 where
  BuildSource : (short : Bool) (file : List ℕ) → Command
  ListSource : (short : Bool) (file : List ℕ) → Command
  CodeSource : (short : Bool) (file : List ℕ) → Command
  CodeImage : ImageKind → (file : List ℕ) → Command
  MapSource : (file : List ℕ) → Command
  ExplainFile : (file : List ℕ) → Command
  ExplainNumber : (number : ℕ) → Command
  HintSource : (file : List ℕ) → Command
  RunMemory : (run : Running) → Command
  RunProgram : (alone short : Bool) (run : Running) → Command
  Save : (raw : Bool) (run : Running) → Command
  Check : (raw : Bool) (file history : List ℕ) (script : Option (List ℕ)) → Command
  Serial : (raw : Bool) (run : Running) (pin bits : ℕ) → Command
  TypeFile : (file : List ℕ) (pin bits start : ℕ) → Command
  Wave : (alone raw all pins_only : Bool) (run : Running) → Command
  Plot : (alone raw ascii : Bool) (run : Running) (pins from to columns : ℕ) → Command
  ViewRun : (raw pins_only quiet : Bool) (run : Running) (cog : Option ℕ) (from to : ℕ) (dump : Option Dump) → Command
  PageRun : (raw : Bool) (run : Running) (from to : ℕ) → Command
  Convert : ImageKind → (file : List ℕ) → Command
  Make : (alone : Bool) (seed : ℕ) → Command
  Help : (topic : Option Subcommand) → Command

-- the command, where one thread alone carries it out, and else none
abbrev pub alone_of : Option Command → Option Command
alone_of (Some (RunProgram false short run)) = None
alone_of (Some (Wave false raw all pins_only run)) = None
alone_of (Some (Plot false raw ascii run pins from to columns)) = None
alone_of (Some (Make false seed)) = None
alone_of command = command

-- the command explains why a source is refused
abbrev pub explains : Command → Bool
explains (ExplainFile file) = true
explains command = false

-- ---- the meaning of each entry, by the value of each argument that has one

-- the number that the value of an option says, which is at most a limit; the usual one where that isn't given
abbrev pub number_by : (most usual : ℕ) → Option Text → Option ℕ
number_by most usual None = Some usual
number_by most usual (Some value) = number_of most value

-- the range to dump, by the value of `--dump`; none where that isn't given
abbrev pub dump_by : Option Text → Option (Option (ℕ × ℕ))
dump_by None = Some None
dump_by (Some value) = option_map Some (range_of value)

abbrev pub run_by : Option Text → Option ℕ → (script : Option Text) → Option ℕ → Option (Option (ℕ × ℕ)) → Option Running
run_by (Some file) (Some clocks) script (Some turns) (Some dump) =
    Some (record { file = file; clocks = clocks; script = script; turns = turns; dump = dump })
run_by _ _ script _ _ = None

-- a run by the arguments that every run has, with the value of `--dump`, if any; so many clocks and `most` turns may be asked for, and `usual`
-- turns are where none is
abbrev pub run_of : (clocks most usual : ℕ) → (dump : Option Text) → (Text → Option Text) → Option Running
run_of clocks most usual dump value =
    run_by (value (codes "FILE")) (option_and_then (number_of clocks) (value (codes "CLOCKS")))
    (value (codes "pins")) (number_by most usual (value (codes "turns"))) (dump_by dump)

-- a run that is traced, one that is saved, one of which the bytes on a pin are read, and one that is shown as a wave, a picture or a view
abbrev pub traced_of : (Text → Option Text) → Option Running
traced_of value = run_of most_clocks most_turns usual_turns (value (codes "dump")) value

abbrev pub saved_of : (Text → Option Text) → Option Running
saved_of value = run_of most_clocks most_saved_turns most_saved_turns None value

abbrev pub read_of : (Text → Option Text) → Option Running
read_of value = run_of most_clocks most_turns usual_turns None value

abbrev pub shown_of : (Text → Option Text) → Option Running
shown_of value = run_of most_shown_clocks most_turns usual_turns None value

-- a run that is shown in a browser
abbrev pub paged_of : (Text → Option Text) → Option Running
paged_of value = run_of most_shown_clocks most_page_turns most_page_turns None value

-- a flag with this value is given
abbrev pub is_given : Option Text → Bool
is_given None = false
is_given (Some value) = bytes_eq value (codes "true")

-- the flag of this name is given
abbrev pub has_flag : Text → (Text → Option Text) → Bool
has_flag name value = is_given (value name)

abbrev pub check_by : (raw : Bool) → (file history script : Option Text) → Option Command
check_by raw (Some file) (Some history) script = Some (Check raw file history script)
check_by raw _ _ script = None

abbrev pub check_of : (Text → Option Text) → Option Command
check_of value = check_by (has_flag (codes "raw") value) (value (codes "FILE")) (value (codes "HISTORY")) (value (codes "pins"))

abbrev pub pin_of : (Text → Option Text) → Option ℕ
pin_of value = option_and_then (number_of last_pin) (value (codes "PIN"))

abbrev pub bits_of : (Text → Option Text) → Option ℕ
bits_of value = option_and_then (number_from least_bits most_bits) (value (codes "BITS"))

abbrev pub serial_by : (raw : Bool) → Option Running → (pin bits : Option ℕ) → Option Command
serial_by raw (Some run) (Some pin) (Some bits) = Some (Serial raw run pin bits)
serial_by raw _ _ _ = None

abbrev pub serial_of : (Text → Option Text) → Option Command
serial_of value = serial_by (has_flag (codes "raw") value) (read_of value) (pin_of value) (bits_of value)

abbrev pub type_by : Option Text → (pin bits start : Option ℕ) → Option Command
type_by (Some file) (Some pin) (Some bits) (Some start) = Some (TypeFile file pin bits start)
type_by _ _ _ _ = None

abbrev pub type_of : (Text → Option Text) → Option Command
type_of value =
    type_by (value (codes "FILE")) (pin_of value) (bits_of value) (option_and_then (number_from 1 most_clocks) (value (codes "START")))

-- a run of an image or a source; an image has no short code
abbrev pub run_named : (alone short : Bool) → Running → Option ImageKind → Option Command
run_named alone true run (Some kind) = None
run_named alone short run kind = Some (RunProgram alone short run)

abbrev pub program_of : (alone short : Bool) → Running → Option Command
program_of alone short run = run_named alone short run (kind_named run.file)

-- the code of a source, or of an image, which has no short code
abbrev pub code_named : (short : Bool) → Text → Option ImageKind → Option Command
code_named short file None = Some (CodeSource short file)
code_named false file (Some kind) = Some (CodeImage kind file)
code_named true file (Some kind) = None

abbrev pub code_of : (short : Bool) → Text → Option Command
code_of short file = code_named short file (kind_named file)

-- how many columns a picture has at most, by the value of `--width`
abbrev pub columns_by : Option Text → Option ℕ
columns_by None = Some usual_columns
columns_by (Some value) = number_from least_columns most_columns value

abbrev pub plot_by : (alone raw ascii : Bool) → Option Running → (pins columns : Option ℕ) → (clocks : Option Text) → Option Command
plot_by alone raw ascii (Some run) (Some pins) (Some columns) clocks =
    option_map (λ span. Plot alone raw ascii run pins span.0 span.1 columns) (span_of run.clocks clocks)
plot_by alone raw ascii _ _ _ clocks = None

abbrev pub plot_of : (Text → Option Text) → Option Command
plot_of value =
    plot_by (has_flag (codes "alone") value) (has_flag (codes "raw") value) (has_flag (codes "ascii") value)
    (shown_of value) (option_and_then mask_of (value (codes "PINS"))) (columns_by (value (codes "width"))) (value (codes "FROM:TO"))

-- the cog that is shown, by the value of `--cog`; all of them where that isn't given
abbrev pub cog_by : Option Text → Option (Option ℕ)
cog_by None = Some None
cog_by (Some value) = option_map Some (cog_of value)

-- the clocks that are shown of a run with so many, by the values of `--from` and `--to`
abbrev pub shown_by : (clocks : ℕ) → (from to : Option Text) → Option (ℕ × ℕ)
shown_by clocks from to = span_by (number_by clocks 0 from) (number_by clocks clocks to)

-- what is dumped in the end of a view, by the value of `--dump`: `A:N` is a range, and any other word a name
abbrev pub dumped_by : Text → Option (ℕ × ℕ) → Dump
dumped_by word (Some range) = RangeOf range
dumped_by word None = Named word

abbrev pub dumped_of : Option Text → Option Dump
dumped_of value = option_map (λ word. dumped_by word (range_of word)) value

abbrev pub view_by : (raw pins_only quiet : Bool) → Option Running → (cog : Option (Option ℕ)) → (from to dump : Option Text) → Option Command
view_by raw pins_only quiet (Some run) (Some cog) from to dump =
    option_map (λ shown. ViewRun raw pins_only quiet run cog shown.0 shown.1 (dumped_of dump)) (shown_by run.clocks from to)
view_by raw pins_only quiet _ _ from to dump = None

abbrev pub view_of : (Text → Option Text) → Option Command
view_of value =
    view_by (has_flag (codes "raw") value) (has_flag (codes "pins-only") value) (has_flag (codes "quiet") value)
    (shown_of value) (cog_by (value (codes "cog"))) (value (codes "from")) (value (codes "to")) (value (codes "dump"))

abbrev pub page_by : (raw : Bool) → Option Running → (from to : Option Text) → Option Command
page_by raw (Some run) from to = option_map (λ shown. PageRun raw run shown.0 shown.1) (shown_by run.clocks from to)
page_by raw None from to = None

abbrev pub page_of : (Text → Option Text) → Option Command
page_of value = page_by (has_flag (codes "raw") value) (paged_of value) (value (codes "from")) (value (codes "to"))

-- what is to be explained: a word of digits alone is the number of a refusal, and never a file; a word without a byte is a file
abbrev pub explain_of : Text → Option Command
explain_of [] = Some (ExplainFile [])
explain_of (code ∷ word) = if list_all is_digit (code ∷ word) then option_map ExplainNumber (refusal_of (code ∷ word)) else Some (ExplainFile (code ∷ word))

abbrev pub seed_of : (Text → Option Text) → Option ℕ
seed_of value = option_and_then (number_of most_seed) (value (codes "SEED"))

-- what help is asked for: of all commands, where none is named
abbrev pub topic_of : Option Text → Option (Option Subcommand)
topic_of None = Some None
topic_of (Some word) = option_map Some (subcommand_named word)

-- an image by its name; another name is none
abbrev pub convert_of : Text → Option Command
convert_of file = option_map (λ kind. Convert kind file) (kind_named file)

abbrev pub meaning_of : Subcommand → (Text → Option Text) → Option Command
meaning_of named.Build value = option_map (BuildSource (has_flag (codes "short") value)) (value (codes "FILE"))
meaning_of named.List value = option_map (ListSource (has_flag (codes "short") value)) (value (codes "FILE"))
meaning_of named.Code value = option_and_then (code_of (has_flag (codes "short") value)) (value (codes "FILE"))
meaning_of named.Map value = option_map MapSource (value (codes "FILE"))
meaning_of named.Explain value = option_and_then explain_of (value (codes "WORD"))
meaning_of named.Hint value = option_map HintSource (value (codes "FILE"))
meaning_of named.Raw value = option_map RunMemory (traced_of value)
meaning_of named.Run value = option_and_then (program_of (has_flag (codes "alone") value) (has_flag (codes "short") value)) (traced_of value)
meaning_of named.Save value = option_map (Save (has_flag (codes "raw") value)) (saved_of value)
meaning_of named.Check value = check_of value
meaning_of named.Serial value = serial_of value
meaning_of named.TypeFile value = type_of value
meaning_of named.Wave value =
    option_map (Wave (has_flag (codes "alone") value) (has_flag (codes "raw") value) (has_flag (codes "all") value) (has_flag (codes "pins-only") value))
    (shown_of value)
meaning_of named.Plot value = plot_of value
meaning_of named.View value = view_of value
meaning_of named.Page value = page_of value
meaning_of named.Convert value = option_and_then convert_of (value (codes "FILE"))
meaning_of named.Make value = option_map (Make (has_flag (codes "alone") value)) (seed_of value)
meaning_of named.Help value = option_map Help (topic_of (value (codes "COMMAND")))

-- ---- the law of all words

-- what is said where `clap` finds no fault
abbrev pub faultless : {A : Type 0} → Kinds → Option A → Option A
faultless [] said = said
faultless (fault ∷ faults) said = None

-- the command that words say by an entry of the table. The first of them, its own word, stands where `clap` has a program's name
unfoldable pub said_to : Subcommand → List Text → Option Command
said_to command words =
    faultless (fault_of (app_for (entry_of command)) words)
    (meaning_of command (λ name. first_of name (matches_of (app_for (entry_of command)) words)))

-- the command that the words say: the first word chooses the entry
unfoldable pub command_of : List Text → Option Command
command_of [] = None
command_of (word ∷ words) = option_and_then (λ command. said_to command (word ∷ words)) (subcommand_named word)
