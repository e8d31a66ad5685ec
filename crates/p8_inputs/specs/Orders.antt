-- What a command reads of a shelf, and in which order (this project's profile). A log has the names that were read so far.
use Rattle.std.specs.Prelude.{ℕ, ◌≡◌, ◌⊎◌, List, [], ◌∷◌}
use Rattle.p8_tree.specs.Projects.{NamedSource}
use Rattle.p8_io.specs.Shelves.{Files, Log, WereRead}
use Rattle.p8_objects.specs.Growing.{IsProjectOf}
use Rattle.p8_objects.specs.Orders.{AreAllRead as FilesAreRead, ReadsInOrder}
use Rattle.p8_inputs.specs.declared.program.Format.{Format}
use Rattle.p8_inputs.specs.declared.program.Format.TheVariants.{Source}
use Rattle.p8_inputs.specs.Asks.{Ask, program, viewing, paging, listing, coding, mapping, hinting, script, history, message, Given, Gives}

-- the files of the project of a top file were read, each once, in their order
abbrev pub IsProjectRead : Files → (top : List ℕ) → (before now : Log) → Type 0
IsProjectRead files top before now = (sources : List NamedSource) × IsProjectOf files top sources × FilesAreRead sources before now

-- all of a program was read: the files of a project, or the one file
abbrev pub IsProgramRead : Files → Format → (file : List ℕ) → (before now : Log) → Type 0
IsProgramRead files (Source short) file before now = IsProjectRead files file before now
IsProgramRead files format file before now = WereRead before now (file ∷ [])

-- all that an ask reads was read between two logs: the one file, or those of a project
abbrev pub IsAllRead : Files → Ask → (before now : Log) → Type 0
IsAllRead files (program format file) before now = IsProgramRead files format file before now
IsAllRead files (viewing format file name) before now = IsProgramRead files format file before now
IsAllRead files (paging format file) before now = IsProgramRead files format file before now
IsAllRead files (listing short file) before now = IsProjectRead files file before now
IsAllRead files (coding short file) before now = IsProjectRead files file before now
IsAllRead files (mapping file) before now = IsProjectRead files file before now
IsAllRead files (hinting file) before now = IsProjectRead files file before now
IsAllRead files (script file) before now = WereRead before now (file ∷ [])
IsAllRead files (history file) before now = WereRead before now (file ∷ [])
IsAllRead files (message file) before now = WereRead before now (file ∷ [])

-- the one file was read, or nothing was
abbrev pub MayBeRead : (file : List ℕ) → (before now : Log) → Type 0
MayBeRead file before now = WereRead before now [] ⊎ WereRead before now (file ∷ [])

-- a beginning of a program was read
abbrev pub IsProgramBegun : Files → Format → (file : List ℕ) → (before now : Log) → Type 0
IsProgramBegun files (Source short) file before now = ReadsInOrder files file before now
IsProgramBegun files format file before now = MayBeRead file before now

-- a beginning of what an ask reads was read
abbrev pub IsReadSoFar : Files → Ask → (before now : Log) → Type 0
IsReadSoFar files (program format file) before now = IsProgramBegun files format file before now
IsReadSoFar files (viewing format file name) before now = IsProgramBegun files format file before now
IsReadSoFar files (paging format file) before now = IsProgramBegun files format file before now
IsReadSoFar files (listing short file) before now = ReadsInOrder files file before now
IsReadSoFar files (coding short file) before now = ReadsInOrder files file before now
IsReadSoFar files (mapping file) before now = ReadsInOrder files file before now
IsReadSoFar files (hinting file) before now = ReadsInOrder files file before now
IsReadSoFar files (script file) before now = MayBeRead file before now
IsReadSoFar files (history file) before now = MayBeRead file before now
IsReadSoFar files (message file) before now = MayBeRead file before now

-- all that the asks read was read, one ask after the other
abbrev pub AreAllRead : Files → List Ask → (before now : Log) → Type 0
AreAllRead files [] before now = now ≡ before
AreAllRead files (ask ∷ asks) before now = (between : Log) × IsAllRead files ask before between × AreAllRead files asks between now

-- a beginning of it was read: of the first ask, or else all of that one, which is given something, and then a beginning of the others. So nothing
-- is read after what stops an ask.
abbrev pub AreReadSoFar : Files → List Ask → (before now : Log) → Type 0
AreReadSoFar files [] before now = now ≡ before
AreReadSoFar files (ask ∷ asks) before now =
    IsReadSoFar files ask before now
    ⊎ ((between : Log) × IsAllRead files ask before between × ((given : Given) × Gives files ask given) × AreReadSoFar files asks between now)
