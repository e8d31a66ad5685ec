-- Addresses and places in the words of a program (this project's profile).
use Rattle.std.specs.Prelude.{ℕ, nat_eq, if◌then◌else◌, List, [], ◌++◌, Option, Some, None, codes}
use Rattle.std.specs.Fmt.{decimal}
use Rattle.p8_instr.specs.Numerals.{hex}
use Rattle.p8_legend.specs.declared.ranges.FoundRange.{FoundRange}
use Rattle.p8_legend.specs.declared.ranges.Ranges.{Ranges}
use Rattle.p8_legend.specs.Ranges.{found_at, text_of}

-- so many bytes of a name's range come before an address
abbrev pub offset_text : ℕ → List ℕ
offset_text offset = if nat_eq offset 0 then [] else codes "+" ++ decimal offset

-- an address by the name of the range in which it lies, else in hexadecimal digits
abbrev pub named_text : Ranges → (address : ℕ) → Option FoundRange → List ℕ
named_text names address None = hex 4 address
named_text names address (Some found) = text_of names.texts found.number ++ offset_text found.offset

abbrev pub address_text : Ranges → (address : ℕ) → List ℕ
address_text names address = named_text names address (found_at names.ranges address)

-- the place of the bytecode at an address, or of the line of DAT, where one is known
abbrev pub found_text : Ranges → Option FoundRange → List ℕ
found_text places None = []
found_text places (Some found) = codes " " ++ text_of places.texts found.number

-- what the bytecode at an address names in the frame of its method, where it is known and names anything there
abbrev pub found_local : Ranges → Option FoundRange → List ℕ
found_local locals None = []
found_local locals (Some found) = text_of locals.texts found.number

abbrev pub local_at : Ranges → (counter : Option ℕ) → List ℕ
local_at locals None = []
local_at locals (Some address) = found_local locals (found_at locals.ranges address)

abbrev pub place_text : Ranges → (counter : Option ℕ) → List ℕ
place_text places None = []
place_text places (Some address) = found_text places (found_at places.ranges address)
