-- The names of what stands in the frame of a method: its result, its parameters and its locals, one after the other, each of a long and a local of so many
-- longs as it has (Propeller Manual v1.2, "PUB" of the Spin chapter). The offsets are those of a map.
use Rattle.std.specs.Prelude.{ℕ, ◌-◌, ◌*◌, ◌/◌, ◌%◌, ◌==◌, ◌&&◌, nat_le, nat_lt, if◌then◌else◌, Bool, List, [], ◌∷◌, ◌++◌, Option, Some, None}
use Rattle.std.specs.Prelude.{slice_get, unwrap_or, codes}
use Rattle.p8_bytecode.specs.declared.op.Op.{Op}
use Rattle.p8_bytecode.specs.Reading.{op_at}
use Rattle.p8_map.specs.declared.names.LocalName.{LocalName}
use Rattle.p8_map.specs.declared.names.MethodNames.{MethodNames}
use Rattle.p8_map.specs.declared.names.FileNames.{FileNames}
use Rattle.p8_legend.specs.declared.table.LineRow.{LineRow}
use Rattle.p8_legend.specs.Legends.{offset_text}
use Rattle.p8_legend.specs.ProjectLegends.{Named, and_one}

-- a name of a method, with how many bytes of what it names come before
abbrev pub own_text : (method name : List ℕ) → (offset : ℕ) → List ℕ
own_text method name offset = method ++ (codes "." ++ (name ++ offset_text offset))

abbrev pub local_text : (method : List ℕ) → (offset : ℕ) → List LocalName → List ℕ
local_text method offset [] = []
local_text method offset (x ∷ xs) =
    if nat_lt offset (4 * x.longs) then own_text method x.name offset else local_text method (offset - 4 * x.longs) xs

abbrev pub parameter_text : (method : List ℕ) → (offset : ℕ) → (names : List (List ℕ)) → List LocalName → List ℕ
parameter_text method offset [] locals = local_text method offset locals
parameter_text method offset (name ∷ names) locals =
    if nat_lt offset 4 then own_text method name offset else parameter_text method (offset - 4) names locals

-- what stands so many bytes behind the begin of a method's frame; nothing where no name does
abbrev pub frame_text : MethodNames → (offset : ℕ) → List ℕ
frame_text m offset =
    if nat_lt offset 4 then own_text m.name (unwrap_or m.result (codes "result")) offset
    else parameter_text m.name (offset - 4) m.parameters m.locals

-- ---- bytecodes

-- of the bytecodes 80 to DF those whose bits 3 and 2 say LOC, and whose bit 4 says that there is no index
abbrev pub is_local : (code : ℕ) → Bool
is_local code = nat_le 0x80 code && nat_lt code 0xE0 && code / 4 % 4 == 3 && code / 16 % 2 == 0

-- How far behind the begin of the frame the variable stands that a bytecode names by itself, without an index: 60 to 7F name one of the first eight
-- longs (public Spin bytecode listing).
abbrev pub frame_offset : Op → Option ℕ
frame_offset op =
    if nat_le 0x60 op.code && nat_lt op.code 0x80 then Some (op.code / 4 % 8 * 4)
    else if is_local op.code then Some op.first
    else None

abbrev pub offset_in : Option (Op × ℕ) → Option ℕ
offset_in None = None
offset_in (Some read) = frame_offset read.0

-- ---- rows

abbrev pub method_of : Option FileNames → (number : ℕ) → Option MethodNames
method_of None number = None
method_of (Some names) number = slice_get names.methods (number - 1)

abbrev pub name_in : Option MethodNames → Option ℕ → List ℕ
name_in (Some m) (Some offset) = frame_text m offset
name_in _ _ = []

-- what the bytecode of a row names in the frame of its method, where an image has these bytes; nothing where it names nothing there
abbrev pub row_local : (image : List ℕ) → Option FileNames → LineRow → List ℕ
row_local image names row = name_in (method_of names row.method) (offset_in (op_at image row.address))

abbrev pub with_locals : Named → (image : List ℕ) → List FileNames → List LineRow → Named
with_locals so_far image files [] = so_far
with_locals so_far image files (row ∷ rows) =
    with_locals (and_one so_far row.address row.end (row_local image (slice_get files row.file) row)) image files rows
