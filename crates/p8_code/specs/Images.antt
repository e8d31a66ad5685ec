-- The code of an image for reading: what its objects' tables say, and its bytecodes (the public form of Spin images; how it is told is this project's
-- profile). Objects stand one behind the other from the header on. An object begins with its size in a word, a byte with one more than its methods and a
-- byte with how many objects are inside it; then an entry of two words for each: of a method where its code begins, in the object, of an object inside
-- how far away it begins, and then its variables.
use Rattle.std.specs.Prelude.{ℕ, zero, suc, ◌+◌, ◌-◌, ◌*◌, ◌==◌, ◌&&◌, ◌||◌, nat_lt, max, ◌^◌, if◌then◌else◌, Bool, List, [], ◌∷◌, ◌++◌, length, take}
use Rattle.std.specs.Prelude.{drop, slice_index, Option, Some, None, codes}
use Rattle.std.specs.Fmt.{decimal}
use Rattle.p8_instr.specs.Numerals.{hex}
use Rattle.p8_bytecode.specs.declared.op.Op.{Op}
use Rattle.p8_bytecode.specs.declared.operands.Operands.{Operands}
use Rattle.p8_bytecode.specs.declared.operands.Operands.TheVariants.{Offset}
use Rattle.p8_bytecode.specs.Table.{operands_of, is_step}
use Rattle.p8_bytecode.specs.Reading.{op_at}
use Rattle.p8_image.specs.Headers.{word_at}
use Rattle.p8_image.specs.Listing.{address_after, longs_of, method_line, pieces_of}
use Rattle.p8_map.specs.Map.{text_line}
use Rattle.p8_code.specs.Listing.{long_lines, op_lines}

-- ---- where a method's code ends

-- the offset of the jump that a bytecode has, 0 where it has none
abbrev pub jump_by : Op → Option Operands → ℕ
jump_by op (Some Offset) = op.first
jump_by op _ = if is_step op.effect then op.second else 0

-- how far a bytecode leads forward from where it ends
abbrev pub forward : (offset : ℕ) → ℕ
forward offset = if nat_lt offset (2 ^ 31) then offset else 0

abbrev pub reach : Option (Op × ℕ) → ℕ
reach None = 0
reach (Some read) = forward (jump_by read.0 (operands_of read.0.code))

-- how many bytes of bytecodes are code, where those before lead so far ahead: all up to the first RETURN (32) behind which none of them leads
abbrev pub code_size : (ahead : ℕ) → List (List ℕ) → ℕ
code_size ahead [] = 0
code_size ahead (piece ∷ pieces) =
    length piece
    + (if (slice_index piece 0 == 0x32) && nat_lt ahead (length piece) then 0
    else code_size (max (ahead - length piece) (reach (op_at piece 0))) pieces)

-- ---- an object that begins at an address, by its bytes

abbrev pub method_count : List ℕ → ℕ
method_count object = slice_index object 2 - 1

abbrev pub inner_count : List ℕ → ℕ
inner_count object = slice_index object 3

abbrev pub table_size : List ℕ → ℕ
table_size object = 4 + 4 * (method_count object + inner_count object)

-- where the code of method n begins; behind the last one the object ends
abbrev pub entry : (object : List ℕ) → (n : ℕ) → ℕ
entry object n = if nat_lt (method_count object) n then length object else word_at object (4 * n)

-- an object inside, by its place in the table
abbrev pub inner_line : (base : ℕ) → (object : List ℕ) → (n : ℕ) → List ℕ
inner_line base object n =
    hex 4 (address_after base (4 * n)) ++ codes " child " ++ decimal n ++ codes " " ++ hex 4 (address_after base (word_at object (4 * n)))
    ++ codes " +" ++ hex 4 (word_at object (4 * n + 2)) ++ 10 ∷ []

abbrev pub inner_lines : (base : ℕ) → (object : List ℕ) → (n count : ℕ) → List ℕ
inner_lines base object n zero = []
inner_lines base object n (suc count) = inner_line base object n ++ inner_lines base object (n + 1) count

-- what stands behind a code
abbrev pub rest_line : (place : ℕ) → List ℕ → List ℕ
rest_line place [] = []
rest_line place (byte ∷ bytes) = text_line place (byte ∷ bytes)

-- a method by the bytes up to the next one, the first so many of which are code
abbrev pub cut_method : (place : ℕ) → (bytes : List ℕ) → (size : ℕ) → List ℕ
cut_method place bytes size = op_lines (λ text. text) None 0 place 0 [] (pieces_of (take size bytes)) ++ rest_line (address_after place size) (drop size bytes)

abbrev pub method_bytes : (object : List ℕ) → (n : ℕ) → List ℕ
method_bytes object n = take (entry object (n + 1) - entry object n) (drop (entry object n) object)

abbrev pub image_method : (base : ℕ) → (object : List ℕ) → (n : ℕ) → List ℕ
image_method base object n =
    method_line n (address_after base (entry object n))
    ++ cut_method (address_after base (entry object n)) (method_bytes object n) (code_size 0 (pieces_of (method_bytes object n)))

abbrev pub image_methods : (base : ℕ) → (object : List ℕ) → (n count : ℕ) → List ℕ
image_methods base object n zero = []
image_methods base object n (suc count) = image_method base object n ++ image_methods base object (n + 1) count

-- what stands between its table and its first method
abbrev pub longs_between : (base : ℕ) → (object : List ℕ) → List ℕ
longs_between base object =
    long_lines (λ text. text) 0 [] (address_after base (table_size object))
    (longs_of (take (entry object 1 - table_size object) (drop (table_size object) object)))

abbrev pub image_object : (base : ℕ) → (object : List ℕ) → List ℕ
image_object base object =
    codes "object " ++ hex 4 base ++ 10 ∷ []
    ++ inner_lines base object (method_count object + 1) (inner_count object)
    ++ longs_between base object
    ++ image_methods base object 1 (method_count object)

-- ---- the image

-- no object begins with these bytes, which say that it has so many
abbrev pub is_no_object : List ℕ → (size : ℕ) → Bool
is_no_object bytes size = nat_lt size 4 || nat_lt (length bytes) size

-- objects from an address on, at most so many; where none begins, longs
abbrev pub image_objects : (most base : ℕ) → List ℕ → List ℕ
image_objects zero base bytes = []
image_objects (suc most) base bytes =
    let size : ℕ = word_at bytes 0 in
    if is_no_object bytes size then long_lines (λ text. text) 0 [] base (longs_of bytes)
    else image_object base (take size bytes) ++ image_objects most (address_after base size) (drop size bytes)

-- an image by the bytes of its `.binary` file, whose header has 16
abbrev pub image_code : (file : List ℕ) → List ℕ
image_code file = image_objects (length (drop 16 file)) 16 (drop 16 file)
