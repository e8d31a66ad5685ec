-- The listing of a project: the text of its objects as they stand in the hub, line by line (this project's profile). A line ends
-- with a line feed, addresses have four hexadecimal digits.
use Rattle.std.specs.Prelude.{ℕ, zero, suc, ◌+◌, ◌*◌, ◌%◌, List, [], ◌∷◌, ◌++◌, length, take, drop, slice_index, codes}
use Rattle.std.specs.Fmt.{decimal}
use Rattle.std.specs.List.{flat_map}
use Rattle.std.specs.Option.{option_map_or}
use Rattle.p8_bytecode.specs.Reading.{op_in}
use Rattle.p8_image.specs.declared.parts.MethodPart.{MethodPart}
use Rattle.p8_image.specs.declared.parts.ObjectPart.{ObjectPart}
use Rattle.p8_image.specs.Layout.{dat_offset, codes_offset, text_offsets, size_of, linked}
use Rattle.p8_instr.specs.Instructions.{long_text}
use Rattle.p8_instr.specs.Numerals.{hex}

-- so many bytes after an address, which has 16 bits
abbrev pub address_after : ℕ → ℕ → ℕ
address_after place bytes = (place + bytes) % 65536

-- ---- the lines

-- an object: the name of its file, and where it begins
abbrev pub object_line : (name : List ℕ) → (base : ℕ) → List ℕ
object_line name base = codes "object " ++ name ++ codes " " ++ hex 4 base ++ 10 ∷ []

-- a long of a DAT: where it stands, its digits, and its text as an instruction
abbrev pub long_line : (place long : ℕ) → List ℕ
long_line place long = hex 4 place ++ codes " " ++ hex 8 long ++ codes " " ++ long_text long ++ 10 ∷ []

-- a method: its number, and where its code begins
abbrev pub method_line : (number place : ℕ) → List ℕ
method_line number place = codes "method " ++ decimal number ++ codes " " ++ hex 4 place ++ 10 ∷ []

-- a bytecode: where it stands, and its bytes
abbrev pub code_line : (place : ℕ) → (bytes : List ℕ) → List ℕ
code_line place bytes = hex 4 place ++ flat_map (λ (byte : ℕ). 32 ∷ hex 2 byte) bytes ++ 10 ∷ []

-- ---- a DAT

-- four bytes as a long, the lowest first
abbrev pub long_by : (a b c d : ℕ) → ℕ
long_by a b c d = a + 256 * b + 65536 * c + 16777216 * d

-- the longs of some bytes. Zeros stand after the last byte up to a whole long.
abbrev pub longs_of : List ℕ → List ℕ
longs_of (a ∷ b ∷ c ∷ d ∷ rest) = long_by a b c d ∷ longs_of rest
longs_of (a ∷ b ∷ c ∷ []) = long_by a b c 0 ∷ []
longs_of (a ∷ b ∷ []) = long_by a b 0 0 ∷ []
longs_of (a ∷ []) = long_by a 0 0 0 ∷ []
longs_of [] = []

-- the lines of longs that stand one after the other
abbrev pub long_lines : (place : ℕ) → (longs : List ℕ) → List ℕ
long_lines place [] = []
long_lines place (long ∷ longs) = long_line place long ++ long_lines (address_after place 4) longs

-- ---- a method's code

-- how many bytes stand on the line at the begin of a code: those of the bytecode there, and one where no bytecode stands whole
abbrev pub line_size : List ℕ → ℕ
line_size code = option_map_or (λ read. read.1) (op_in code) 1

-- a code cut into the bytes of its lines, of which there are at most so many
abbrev pub pieces_within : (most : ℕ) → List ℕ → List (List ℕ)
pieces_within zero code = []
pieces_within (suc most) [] = []
pieces_within (suc most) (byte ∷ code) =
    take (line_size (byte ∷ code)) (byte ∷ code) ∷ pieces_within most (drop (line_size (byte ∷ code)) (byte ∷ code))

-- a code cut into the bytes of its lines: each has at least one
abbrev pub pieces_of : List ℕ → List (List ℕ)
pieces_of code = pieces_within (length code) code

-- the lines of pieces that stand one after the other
abbrev pub piece_lines : (place : ℕ) → List (List ℕ) → List ℕ
piece_lines place [] = []
piece_lines place (piece ∷ pieces) = code_line place piece ++ piece_lines (address_after place (length piece)) pieces

abbrev pub code_lines : (place : ℕ) → (code : List ℕ) → List ℕ
code_lines place code = piece_lines place (pieces_of code)

-- ---- objects

-- methods from a number on whose codes stand one after the other, with the offsets of the texts that they use
abbrev pub method_lines : (offset : ℕ → ℕ) → (number place : ℕ) → List MethodPart → List ℕ
method_lines offset number place [] = []
method_lines offset number place (method ∷ methods) =
    method_line number place ++ code_lines place (linked offset method.uses method.code)
    ++ method_lines offset (number + 1) (address_after place (length method.code)) methods

-- an object that begins there: its DAT with the zeros after it, and its methods, which are counted from 1
abbrev pub object_lines : (name : List ℕ) → (base : ℕ) → ObjectPart → List ℕ
object_lines name base object =
    object_line name base
    ++ long_lines (address_after base (dat_offset object)) (longs_of object.dat)
    ++ method_lines (slice_index (text_offsets object)) 1 (address_after base (codes_offset object)) object.methods

-- objects one after the other, each with the name of its file
abbrev pub objects_lines : (base : ℕ) → (names : List (List ℕ)) → List ObjectPart → List ℕ
objects_lines base (name ∷ names) (object ∷ objects) =
    object_lines name base object ++ objects_lines (address_after base (size_of object)) names objects
objects_lines base _ _ = []

-- the objects of a project, the top file's first. They stand after the image's header.
abbrev pub listing_of : (names : List (List ℕ)) → List ObjectPart → List ℕ
listing_of names objects = objects_lines 16 names objects
