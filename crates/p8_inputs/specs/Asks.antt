-- What a command reads of a shelf: a list of asks, one after the other, and the first of them that stops it (this project's profile).
use Rattle.std.specs.Prelude.{ℕ, ◌≡◌, ◌<◌, ◌≤◌, ◌⊎◌, Bool, false, List, [], ◌∷◌, ◌++◌, length, Option, Some, None}
use Rattle.p8_access.specs.Worlds.{Line}
use Rattle.p8_pins.specs.Scripts.{IsFault}
use Rattle.p8_image.specs.declared.faults.LoadFault.TheVariants.{BadLength}
use Rattle.p8_io.specs.Counts.{Rose}
use Rattle.p8_io.specs.Shelves.{Files, IsLacking, IsRead}
use Rattle.p8_legend.specs.declared.legend.Legend.{Legend}
use Rattle.p8_inputs.specs.declared.program.Format.{Format}
use Rattle.p8_inputs.specs.declared.program.Format.TheVariants.{Source}
use Rattle.p8_inputs.specs.declared.stop.Stop.{Stop}
use Rattle.p8_inputs.specs.declared.stop.Stop.TheVariants.{Unread, Missing, NoMemory, Refused, BadProgram, BadScript, Unnamed}
use Rattle.p8_inputs.specs.Inputs.{IsProgram, IsScriptFor, IsProgramMissing, IsProgramUnread, HasRefusal, HasFault}
use Rattle.p8_inputs.specs.Legends.{IsLegendFrom, HasName, range_in}
use Rattle.p8_inputs.specs.Pages.{AreBlocksFrom}
use Rattle.p8_page.specs.Page.{Block}
use Rattle.p8_inputs.specs.Sources.{IsListingFrom, IsCodeFrom, IsMapFrom, IsHintsFrom}

-- an ask: for the program of a file, by what the file is taken for; for that with its legend, in which this name stands, where one is asked for; for
-- that with its legend and with what a page shows of its project; for the listing of a source, or its code for reading, with its short code where it
-- is short; for the map of a source; for the hints at what is most likely a slip in a source; for the pin script of a file; for the bytes of a history
-- file, whatever they are; or for the bytes of a message, which is to be sent and has at most 5,000
pub data Ask : Type 0 where
  program : Format → (file : List ℕ) → Ask
  viewing : Format → (file : List ℕ) → (name : Option (List ℕ)) → Ask
  paging : Format → (file : List ℕ) → Ask
  listing : (short : Bool) (file : List ℕ) → Ask
  coding : (short : Bool) (file : List ℕ) → Ask
  mapping : (file : List ℕ) → Ask
  hinting : (file : List ℕ) → Ask
  script : (file : List ℕ) → Ask
  history : (file : List ℕ) → Ask
  message : (file : List ℕ) → Ask

-- what an ask is given: the bytes of a program, of a listing, of a code, of a map, of hints, of a history file or of a message, the bytes of a program with its
-- legend, and with the blocks of its project, or the lines of a pin script
pub data Given : Type 0 where
  bytes : List ℕ → Given
  viewed : List ℕ → Legend → Given
  paged : List ℕ → Legend → List Block → Given
  lines : List Line → Given

-- how many bytes a message has at most
abbrev pub most_sent : ℕ
most_sent = 5000

-- a file is asked for its pin script, where one is named
abbrev pub script_ask : Option (List ℕ) → List Ask
script_ask None = []
script_ask (Some file) = script file ∷ []

-- a run asks for its program and then for its pin script
abbrev pub run_asks : Format → (file : List ℕ) → (script : Option (List ℕ)) → List Ask
run_asks format file named = program format file ∷ script_ask named

-- a run that is viewed asks for its program with its legend, and then for its pin script
abbrev pub view_asks : Format → (file : List ℕ) → (name script : Option (List ℕ)) → List Ask
view_asks format file name named = viewing format file name ∷ script_ask named

-- a run that is shown in a browser asks for its program with all that the page shows of it, and then for its pin script
abbrev pub page_asks : Format → (file : List ℕ) → (script : Option (List ℕ)) → List Ask
page_asks format file named = paging format file ∷ script_ask named

-- a history is checked after both
abbrev pub check_asks : Format → (file : List ℕ) → (script : Option (List ℕ)) → (recorded : List ℕ) → List Ask
check_asks format file named recorded = run_asks format file named ++ history recorded ∷ []

-- ---- what there is

-- the shelf has this for an ask
abbrev pub Gives : Files → Ask → Given → Type 0
Gives files (program format file) (bytes xs) = IsProgram files format file xs
Gives files (viewing format file name) (viewed xs legend) = IsProgram files format file xs × IsLegendFrom files format file legend × HasName legend name
Gives files (paging format file) (paged xs legend blocks) = IsProgram files format file xs × IsLegendFrom files format file legend ×
    AreBlocksFrom files format file blocks
Gives files (listing short file) (bytes xs) = IsListingFrom files short file xs
Gives files (coding short file) (bytes xs) = IsCodeFrom files short file xs
Gives files (mapping file) (bytes xs) = IsMapFrom files file xs
Gives files (hinting file) (bytes xs) = IsHintsFrom files file xs
Gives files (script file) (lines xs) = IsScriptFor files (Some file) xs
Gives files (history file) (bytes xs) = IsRead files file xs
Gives files (message file) (bytes xs) = IsRead files file xs × (length xs ≤ most_sent)
Gives files (program format file) (viewed xs legend) = ⊥
Gives files (program format file) (lines xs) = ⊥
Gives files (viewing format file name) (bytes xs) = ⊥
Gives files (viewing format file name) (lines xs) = ⊥
Gives files (paging format file) (bytes xs) = ⊥
Gives files (paging format file) (viewed xs legend) = ⊥
Gives files (paging format file) (lines xs) = ⊥
Gives files (program format file) (paged xs legend blocks) = ⊥
Gives files (viewing format file name) (paged xs legend blocks) = ⊥
Gives files (listing short file) (paged xs legend blocks) = ⊥
Gives files (coding short file) (paged xs legend blocks) = ⊥
Gives files (mapping file) (paged xs legend blocks) = ⊥
Gives files (hinting file) (paged xs legend blocks) = ⊥
Gives files (script file) (paged xs legend blocks) = ⊥
Gives files (history file) (paged xs legend blocks) = ⊥
Gives files (message file) (paged xs legend blocks) = ⊥
Gives files (listing short file) (viewed xs legend) = ⊥
Gives files (listing short file) (lines xs) = ⊥
Gives files (coding short file) (viewed xs legend) = ⊥
Gives files (coding short file) (lines xs) = ⊥
Gives files (mapping file) (viewed xs legend) = ⊥
Gives files (hinting file) (viewed xs legend) = ⊥
Gives files (mapping file) (lines xs) = ⊥
Gives files (hinting file) (lines xs) = ⊥
Gives files (script file) (bytes xs) = ⊥
Gives files (script file) (viewed xs legend) = ⊥
Gives files (history file) (viewed xs legend) = ⊥
Gives files (history file) (lines xs) = ⊥
Gives files (message file) (viewed xs legend) = ⊥
Gives files (message file) (lines xs) = ⊥

-- it has these for the asks
abbrev pub Give : Files → List Ask → List Given → Type 0
Give files [] [] = Unit {0}
Give files (ask ∷ asks) (given ∷ more) = Gives files ask given × Give files asks more
Give files [] (given ∷ more) = ⊥
Give files (ask ∷ asks) [] = ⊥

-- what is among the things that are given: the first bytes, the lines, the bytes behind the first thing, and the legend
abbrev pub bytes_in : List Given → List ℕ
bytes_in [] = []
bytes_in (bytes xs ∷ given) = xs
bytes_in (viewed xs legend ∷ given) = xs
bytes_in (paged xs legend blocks ∷ given) = xs
bytes_in (lines xs ∷ given) = bytes_in given

abbrev pub lines_in : List Given → List Line
lines_in [] = []
lines_in (bytes xs ∷ given) = lines_in given
lines_in (viewed xs legend ∷ given) = lines_in given
lines_in (paged xs legend blocks ∷ given) = lines_in given
lines_in (lines xs ∷ given) = xs

abbrev pub later_bytes_in : List Given → List ℕ
later_bytes_in [] = []
later_bytes_in (first ∷ given) = bytes_in given

abbrev pub IsLegendIn : List Given → Legend → Type 0
IsLegendIn [] legend = ⊥
IsLegendIn (bytes xs ∷ given) legend = IsLegendIn given legend
IsLegendIn (viewed xs other ∷ given) legend = legend ≡ other
IsLegendIn (paged xs other blocks ∷ given) legend = legend ≡ other
IsLegendIn (lines xs ∷ given) legend = IsLegendIn given legend

abbrev pub AreBlocksIn : List Given → List Block → Type 0
AreBlocksIn [] blocks = ⊥
AreBlocksIn (paged xs legend others ∷ given) blocks = blocks ≡ others
AreBlocksIn (bytes xs ∷ given) blocks = AreBlocksIn given blocks
AreBlocksIn (viewed xs legend ∷ given) blocks = AreBlocksIn given blocks
AreBlocksIn (lines xs ∷ given) blocks = AreBlocksIn given blocks

-- ---- what stops

-- why there are no bytes of a file: it could not be read, or it is missing
abbrev pub StopsAtFile : Files → (before now : ℕ) → (file : List ℕ) → Stop → Type 0
StopsAtFile files before now file (Unread name) = (name ≡ file) × Rose before now
StopsAtFile files before now file (Missing name mention) = (name ≡ file) × IsLacking before now files name × (mention ≡ None)
StopsAtFile files before now file NoMemory = Unit {0}
StopsAtFile files before now file (Refused source f size) = ⊥
StopsAtFile files before now file (BadProgram name fault) = ⊥
StopsAtFile files before now file (BadScript name line) = ⊥
StopsAtFile files before now file (Unnamed other name) = ⊥

-- Why there is no program of a file, between the shelf's counts before and now: a file that could not be read or is missing, the
-- source's first refusal, or the first fault of what is no source. Want of memory may always come.
abbrev pub StopsAtProgram : Files → (before now : ℕ) → Format → (file : List ℕ) → Stop → Type 0
StopsAtProgram files before now format file (Unread name) = IsProgramUnread files before now format file name
StopsAtProgram files before now format file (Missing name mention) = IsProgramMissing files before now format file name mention
StopsAtProgram files before now format file NoMemory = Unit {0}
StopsAtProgram files before now format file (Refused source f size) = HasRefusal files format file source f size
StopsAtProgram files before now format file (BadProgram name fault) = HasFault files format file name fault
StopsAtProgram files before now format file (BadScript name line) = ⊥
StopsAtProgram files before now format file (Unnamed other name) = ⊥

-- a name is asked for, the program is there with its legend, and nothing of it has that name
abbrev pub IsUnnamed : Files → Format → (file : List ℕ) → (name : Option (List ℕ)) → Stop → Type 0
IsUnnamed files format file name (Unnamed other text) =
    (other ≡ file) × (name ≡ Some text) × ((xs : List ℕ) × IsProgram files format file xs) ×
    ((legend : Legend) × IsLegendFrom files format file legend × (range_in legend text ≡ None))
IsUnnamed files format file name _ = ⊥

-- why there is no message in a file: there are no bytes of it, or too many
abbrev pub StopsAtMessage : Files → (before now : ℕ) → (file : List ℕ) → Stop → Type 0
StopsAtMessage files before now file (Unread name) = (name ≡ file) × Rose before now
StopsAtMessage files before now file (Missing name mention) = (name ≡ file) × IsLacking before now files name × (mention ≡ None)
StopsAtMessage files before now file NoMemory = Unit {0}
StopsAtMessage files before now file (Refused source f size) = ⊥
StopsAtMessage files before now file (BadProgram name fault) =
    (name ≡ file) × ((bytes : List ℕ) × IsRead files name bytes × (most_sent < length bytes) × (fault ≡ BadLength (length bytes)))
StopsAtMessage files before now file (BadScript name line) = ⊥
StopsAtMessage files before now file (Unnamed other name) = ⊥

-- why there is no pin script of a file: it could not be read, it is missing, or it has a first bad line
abbrev pub StopsAtScript : Files → (before now : ℕ) → (file : List ℕ) → Stop → Type 0
StopsAtScript files before now file (Unread name) = (name ≡ file) × Rose before now
StopsAtScript files before now file (Missing name mention) = (name ≡ file) × IsLacking before now files name × (mention ≡ None)
StopsAtScript files before now file NoMemory = Unit {0}
StopsAtScript files before now file (Refused source f size) = ⊥
StopsAtScript files before now file (BadProgram name fault) = ⊥
StopsAtScript files before now file (BadScript name line) =
    (name ≡ file) × ((bytes : List ℕ) × IsRead files name bytes × IsFault bytes line)
StopsAtScript files before now file (Unnamed other name) = ⊥

-- an ask stops for this reason
abbrev pub StopsAt : Files → (before now : ℕ) → Ask → Stop → Type 0
StopsAt files before now (program format file) stop = StopsAtProgram files before now format file stop
StopsAt files before now (viewing format file name) stop = StopsAtProgram files before now format file stop ⊎ IsUnnamed files format file name stop
StopsAt files before now (paging format file) stop = StopsAtProgram files before now format file stop
StopsAt files before now (listing short file) stop = StopsAtProgram files before now (Source short) file stop
StopsAt files before now (coding short file) stop = StopsAtProgram files before now (Source short) file stop
StopsAt files before now (mapping file) stop = StopsAtProgram files before now (Source false) file stop
StopsAt files before now (hinting file) stop = StopsAtProgram files before now (Source false) file stop
StopsAt files before now (script file) stop = StopsAtScript files before now file stop
StopsAt files before now (history file) stop = StopsAtFile files before now file stop
StopsAt files before now (message file) stop = StopsAtMessage files before now file stop

-- The first ask that stops does so for this reason: it is the first one, or there is something for the first one and a later one stops.
abbrev pub StopsFirst : Files → (before now : ℕ) → List Ask → Stop → Type 0
StopsFirst files before now [] stop = ⊥
StopsFirst files before now (ask ∷ asks) stop =
    StopsAt files before now ask stop ⊎ (((given : Given) × Gives files ask given) × StopsFirst files before now asks stop)

-- asks stop for the reason of the first one that stops; want of memory may always come
abbrev pub Stops : Files → (before now : ℕ) → List Ask → Stop → Type 0
Stops files before now asks NoMemory = Unit {0}
Stops files before now asks (Unread name) = StopsFirst files before now asks (Unread name)
Stops files before now asks (Missing name mention) = StopsFirst files before now asks (Missing name mention)
Stops files before now asks (Refused source f size) = StopsFirst files before now asks (Refused source f size)
Stops files before now asks (BadProgram name fault) = StopsFirst files before now asks (BadProgram name fault)
Stops files before now asks (BadScript name line) = StopsFirst files before now asks (BadScript name line)
Stops files before now asks (Unnamed file name) = StopsFirst files before now asks (Unnamed file name)

-- ---- the law: where a shelf tells its files, asks come to one thing

-- a reason that lies in the files alone, and neither in a fault of the shelf nor in want of memory
abbrev pub IsOfFiles : Stop → Type 0
IsOfFiles (Unread name) = ⊥
IsOfFiles (Missing name mention) = Unit {0}
IsOfFiles NoMemory = ⊥
IsOfFiles (Refused source f size) = Unit {0}
IsOfFiles (BadProgram name fault) = Unit {0}
IsOfFiles (BadScript name line) = Unit {0}
IsOfFiles (Unnamed file name) = Unit {0}

pub record HasOneReading (files : List ℕ → Option (List ℕ)) : Type 0 where
  pub one_given : (asks : List Ask) (a b : List Given) → Give (Some files) asks a → Give (Some files) asks b → a ≡ b
  pub one_stop : (before now : ℕ) (asks : List Ask) (a b : Stop) → IsOfFiles a → IsOfFiles b
      → Stops (Some files) before now asks a → Stops (Some files) before now asks b → a ≡ b
  pub never_both : (before now : ℕ) (asks : List Ask) (given : List Given) (stop : Stop) → IsOfFiles stop
      → Give (Some files) asks given → ¬ Stops (Some files) before now asks stop
