-- What is run: bytes, by what they are taken for (this project's profile). Those of a source are its image.
use Rattle.std.specs.Prelude.{ℕ, ◌≡◌, nat_le, if◌then◌else◌, Bool, true, false, List, length, Option, Some, None}
use Rattle.p8_words.specs.declared.failure.Fail.{Fail}
use Rattle.p8_words.specs.declared.failure.Fail.TheVariants.{Refused, NoMemory}
use Rattle.p8_access.specs.declared.kinds.Origin.{Origin}
use Rattle.p8_access.specs.declared.kinds.Origin.TheVariants.{Pasm}
use Rattle.p8_access.specs.declared.memory.Boot.{Boot}
use Rattle.p8_access.specs.Boots.{ram_of}
use Rattle.p8_access.specs.Worlds.{Line, World}
use Rattle.p8_image.specs.declared.faults.LoadFault.{LoadFault}
use Rattle.p8_image.specs.declared.faults.LoadFault.TheVariants.{BadLength}
use Rattle.p8_image.specs.Headers.{header_of}
use Rattle.p8_image.specs.Loading.{first_fault, eeprom_fault, memory_of, binary_of, start_of}
use Rattle.p8_commands.specs.declared.image_kind.ImageKind.{ImageKind}
use Rattle.p8_commands.specs.declared.image_kind.ImageKind.TheVariants as kind
use Rattle.p8_commands.specs.Kinds.{kind_named}
use Rattle.p8_inputs.specs.declared.program.Format.{Format}
use Rattle.p8_inputs.specs.declared.program.Format.TheVariants.{Memory, Image, Eeprom, Source}

-- what an image of a kind is taken for
abbrev pub format_of : ImageKind → Format
format_of kind.Binary = Image
format_of kind.Eeprom = Eeprom

abbrev pub format_by : (short : Bool) → Option ImageKind → Format
format_by short (Some kind) = format_of kind
format_by short None = Source short

-- what a file to run is taken for, by its name: an image of a kind, or else a source, with its short code where it is short
abbrev pub format_named : (short : Bool) → List ℕ → Format
format_named short name = format_by short (kind_named name)

-- what it is taken for: hub memory where it is raw, and else by its name
abbrev pub format_for : (raw : Bool) → List ℕ → Format
format_for true name = Memory
format_for false name = format_named false name

-- the first fault of what is run, if it can't be: hub memory has to fit the hub, and an image has rules of its own
abbrev pub fault_of : Format → List ℕ → Option LoadFault
fault_of Memory bytes = if nat_le (length bytes) 32768 then None else Some (BadLength (length bytes))
fault_of Image bytes = first_fault bytes
fault_of Eeprom bytes = eeprom_fault bytes
fault_of (Source short) bytes = first_fault bytes

-- the hub memory that a run begins with
abbrev pub memory_by : Format → List ℕ → List ℕ
memory_by Memory bytes = ram_of bytes
memory_by Image bytes = memory_of bytes
memory_by Eeprom bytes = bytes
memory_by (Source short) bytes = memory_of bytes

-- what cog 0 is started with: hub memory as PASM at $0000 with PAR 0, an image as its header says
abbrev pub first_by : Format → List ℕ → Origin
first_by Memory bytes = Pasm 0 0
first_by Image bytes = start_of (header_of bytes)
first_by Eeprom bytes = start_of (header_of bytes)
first_by (Source short) bytes = start_of (header_of bytes)

-- an image of a kind as a `.binary` file has it
abbrev pub binary_by : ImageKind → List ℕ → List ℕ
binary_by kind.Binary bytes = bytes
binary_by kind.Eeprom bytes = binary_of bytes

-- an image of a kind as the other kind of file: of a `.binary` the memory that it begins with, of an `.eeprom` what a `.binary` has of it
abbrev pub other_file : ImageKind → List ℕ → List ℕ
other_file kind.Binary bytes = memory_of bytes
other_file kind.Eeprom bytes = binary_of bytes

-- the boot of what is run
abbrev pub boot_by : Format → (bytes : List ℕ) → Boot
boot_by format bytes = record { ram = memory_by format bytes; first = first_by format bytes }

-- the world of what is run, with a pin script and limits
abbrev pub world_of : Format → (bytes : List ℕ) → (script : List Line) → (clocks turns : ℕ) → World
world_of format bytes script clocks turns =
    record { memory = memory_by format bytes; first = first_by format bytes; script = script; clocks = clocks; turns = turns }

-- what a refusal tells of a file; want of memory tells nothing
abbrev pub IsFaultOf : Format → List ℕ → Fail LoadFault → Type 0
IsFaultOf format bytes (Refused fault) = fault_of format bytes ≡ Some fault
IsFaultOf format bytes NoMemory = Unit {0}
