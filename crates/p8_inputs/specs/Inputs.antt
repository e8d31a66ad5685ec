-- The files of a run on a shelf: what is run, with the files of its project, and the pin script (this project's profile).
use Rattle.std.specs.Prelude.{ℕ, ◌≡◌, List, [], Option, Some, None}
use Rattle.p8_access.specs.Worlds.{Line}
use Rattle.p8_tree.specs.declared.faults.Fault.{Fault}
use Rattle.p8_image.specs.declared.faults.LoadFault.{LoadFault}
use Rattle.p8_pins.specs.Scripts.{IsReadAs}
use Rattle.p8_io.specs.Counts.{Rose}
use Rattle.p8_io.specs.Shelves.{Files, IsLacking, IsRead}
use Rattle.p8_objects.specs.declared.fault.Mention.{Mention}
use Rattle.p8_objects.specs.declared.fault.ReadFile.{ReadFile}
use Rattle.p8_objects.specs.Outcomes.{missing, failed, shelved, Gathers}
use Rattle.p8_build.specs.declared.sizes.Size.{Size}
use Rattle.p8_inputs.specs.declared.program.Format.{Format}
use Rattle.p8_inputs.specs.declared.program.Format.TheVariants.{Source}
use Rattle.p8_inputs.specs.Programs.{fault_of}
use Rattle.p8_inputs.specs.Sources.{IsImageFrom, IsRefusedFrom}

-- these are the bytes of what is run: of the file itself, or of the image of the project whose top file it is
abbrev pub IsProgram : Files → Format → (file bytes : List ℕ) → Type 0
IsProgram files (Source short) file bytes = IsImageFrom files short file bytes
IsProgram files format file bytes = IsRead files file bytes × (fault_of format bytes ≡ None)

-- the lines of the pin script, where one is named, and else none
abbrev pub IsScriptFor : Files → Option (List ℕ) → List Line → Type 0
IsScriptFor files None script = script ≡ []
IsScriptFor files (Some name) script = (bytes : List ℕ) × IsRead files name bytes × IsReadAs bytes script

-- the file to run is missing, which is mentioned nowhere, or one of its project, which is mentioned there, by what the shelf tells, with its counts
-- before and now
abbrev pub IsProgramMissing : Files → (before now : ℕ) → Format → (file name : List ℕ) → Option Mention → Type 0
IsProgramMissing files before now (Source short) file name mention = Gathers (shelved files before now) file (missing name mention)
IsProgramMissing files before now format file name mention = (name ≡ file) × IsLacking before now files name × (mention ≡ None)

-- the file to run could not be read, or one of its project: the shelf has counted a fault
abbrev pub IsProgramUnread : Files → (before now : ℕ) → Format → (file name : List ℕ) → Type 0
IsProgramUnread files before now (Source short) file name = Gathers (shelved files before now) file (failed name)
IsProgramUnread files before now format file name = (name ≡ file) × Rose before now

-- the source to run is refused: this file of its project, for this, and what is too large has this size
abbrev pub HasRefusal : Files → Format → (file : List ℕ) → ReadFile → Fault → (size : Option Size) → Type 0
HasRefusal files (Source short) file source f size = IsRefusedFrom files file source f size
HasRefusal files format file source f size = ⊥

-- the file to run, which is no source, has this fault
abbrev pub HasFault : Files → Format → (file name : List ℕ) → LoadFault → Type 0
HasFault files (Source short) file name fault = ⊥
HasFault files format file name fault = (bytes : List ℕ) × (name ≡ file) × IsRead files name bytes × (fault_of format bytes ≡ Some fault)
