-- Which files are images, and what starts from one (this project's profile of the public form of Spin images). There are two kinds of file:
-- a `.binary` file holds the objects alone, and an `.eeprom` file the whole memory that a run begins with.
use Rattle.std.specs.Prelude.{ℕ, ◌+◌, ◌-◌, ◌%◌, ◌==◌, ◌≡◌, Bool, ◌&&◌, nat_le, nat_lt, if◌then◌else◌, List, [], ◌∷◌, ◌++◌, length, replicate}
use Rattle.std.specs.Prelude.{slice_set, sum, take, Option, Some, None}
use Rattle.p8_words.specs.declared.failure.Fail.{Fail}
use Rattle.p8_words.specs.declared.failure.Fail.TheVariants.{Refused, NoMemory}
use Rattle.p8_access.specs.Boots.{ram_of}
use Rattle.p8_access.specs.declared.kinds.Origin.{Origin}
use Rattle.p8_access.specs.declared.kinds.Origin.TheVariants.{Spin}
use Rattle.p8_image.specs.declared.header.Header.{Header}
use Rattle.p8_image.specs.declared.faults.Field.TheVariants.{Pbase, Vbase, Dbase, Pcurr, Dcurr}
use Rattle.p8_image.specs.declared.faults.LoadFault.{LoadFault}
use Rattle.p8_image.specs.declared.faults.LoadFault.TheVariants.{BadLength, BadChecksum, BadHeader}
use Rattle.p8_image.specs.Headers.{header_of}

-- What must hold of a header, in the order in which it is looked at; beside each the fault of one that breaks it. What must hold of the end
-- of the objects differs by the kind of file.
abbrev pub header_demands : Header → (ends : Bool) → List (Bool × LoadFault)
header_demands h ends =
    (h.pbase == 0x10, BadHeader Pbase) ∷
    (ends, BadHeader Vbase) ∷
    (nat_le (h.vbase + 8) h.dbase && nat_le h.dbase 32764 && h.dbase % 4 == 0, BadHeader Dbase) ∷
    (nat_le 24 h.pcurr && nat_lt h.pcurr h.vbase, BadHeader Pcurr) ∷
    (nat_le (h.dbase + 4) h.dcurr && nat_le h.dcurr 32768 && h.dcurr % 4 == 0, BadHeader Dcurr) ∷
    []

-- What must hold of a `.binary` file: its length, the sum of its bytes, its header, in this order. The objects end with the file.
abbrev pub demands : List ℕ → List (Bool × LoadFault)
demands bytes =
    (nat_le 16 (length bytes) && nat_le (length bytes) 32768 && length bytes % 4 == 0, BadLength (length bytes)) ∷
    (sum bytes % 256 == 0x14, BadChecksum (sum bytes % 256)) ∷
    header_demands (header_of bytes) ((header_of bytes).vbase == length bytes)

-- the objects end at a long, and not within the header
abbrev pub ends_at_a_long : Header → Bool
ends_at_a_long h = nat_le 16 h.vbase && h.vbase % 4 == 0

-- What must hold of an `.eeprom` file, in the same order.
abbrev pub eeprom_demands : List ℕ → List (Bool × LoadFault)
eeprom_demands bytes =
    (length bytes == 32768, BadLength (length bytes)) ∷
    (sum bytes % 256 == 0, BadChecksum (sum bytes % 256)) ∷
    header_demands (header_of bytes) (ends_at_a_long (header_of bytes))

-- the fault of the first demand that isn't met
abbrev pub first_unmet : List (Bool × LoadFault) → Option LoadFault
first_unmet [] = None
first_unmet (demand ∷ demands) = if demand.0 then first_unmet demands else Some demand.1

-- the first fault of a `.binary` file, if it is none
abbrev pub first_fault : List ℕ → Option LoadFault
first_fault bytes = first_unmet (demands bytes)

-- the first fault of an `.eeprom` file, if it is none
abbrev pub eeprom_fault : List ℕ → Option LoadFault
eeprom_fault bytes = first_unmet (eeprom_demands bytes)

-- what a refusal tells of a file whose first fault this is; want of memory tells nothing
abbrev pub IsRefusal : Option LoadFault → Fail LoadFault → Type 0
IsRefusal first (Refused fault) = first ≡ Some fault
IsRefusal first NoMemory = Unit {0}

-- these bytes are those of a `.binary` file
abbrev pub IsImage : List ℕ → Type 0
IsImage bytes = first_fault bytes ≡ None

-- these bytes are those of an `.eeprom` file
abbrev pub IsEeprom : List ℕ → Type 0
IsEeprom bytes = eeprom_fault bytes ≡ None

-- the long $FFF9FFFF, its lowest byte first. Two of them stand below the first frame, where the chip's loader puts them.
abbrev pub frame_mark : List ℕ
frame_mark = 0xFF ∷ 0xFF ∷ 0xF9 ∷ 0xFF ∷ []

-- the hub memory that an image starts with: its bytes from address 0 on, the two longs below dbase, and zeros
abbrev pub memory_of : List ℕ → List ℕ
memory_of bytes = ram_of (bytes ++ replicate ((header_of bytes).dbase - 8 - length bytes) 0 ++ frame_mark ++ frame_mark)

-- what cog 0 starts with: the first method of the first object. A frame's size is that of its parameters and locals, without its result.
abbrev pub start_of : Header → Origin
start_of h = Spin h.pcurr h.pbase h.vbase h.dbase (h.dcurr - h.dbase - 4)

-- these bytes with the checksum, the byte at 5, that makes them add to $14 mod 256
abbrev pub with_checksum : List ℕ → List ℕ
with_checksum bytes = slice_set bytes 5 ((0x14 + 256 - sum (slice_set bytes 5 0) % 256) % 256)

-- the `.binary` file of a memory: its bytes below vbase, with their checksum
abbrev pub binary_of : List ℕ → List ℕ
binary_of memory = with_checksum (take (header_of memory).vbase memory)

-- an image: its bytes as a `.binary` file, and the hub memory of 32,768 bytes that a run of it begins with
pub record ImageValue : Type 0 where
  pub file : List ℕ
  pub memory : List ℕ

-- the image of a `.binary` file
abbrev pub image_in : List ℕ → ImageValue
image_in file = record { file = file; memory = memory_of file }

-- the image of an `.eeprom` file
abbrev pub image_in_eeprom : List ℕ → ImageValue
image_in_eeprom memory = record { file = binary_of memory; memory = memory }
