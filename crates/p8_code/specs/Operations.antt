-- The text of a bytecode: its name and its operands. What has no name is told by its number, or by its offset in four hexadecimal digits.
use Rattle.std.specs.Prelude.{ℕ, ◌+◌, ◌-◌, ◌*◌, ◌/◌, ◌%◌, ◌==◌, nat_lt, nat_le, if◌then◌else◌, Bool, List, [], ◌∷◌, ◌++◌, length, replicate}
use Rattle.std.specs.Prelude.{slice_get, Option, Some, None, unwrap_or, codes}
use Rattle.std.specs.Fmt.{decimal}
use Rattle.p8_instr.specs.Numerals.{hex}
use Rattle.p8_bytecode.specs.declared.op.Op.{Op}
use Rattle.p8_bytecode.specs.declared.operands.Operands.{Operands}
use Rattle.p8_bytecode.specs.declared.operands.Operands.TheVariants.{Nothing, Offset, SevenBits, Register, ShortVariable, Variable}
use Rattle.p8_bytecode.specs.Table.{operands_of, is_step}
use Rattle.p8_bytecode.specs.Reading.{changes_variable, changes_register}
use Rattle.p8_bcog.specs.Bytecodes.{packed}
use Rattle.p8_image.specs.declared.parts.TextUse.{TextUse}
use Rattle.p8_image.specs.declared.parts.MethodPart.{MethodPart}
use Rattle.p8_image.specs.declared.parts.ObjectPart.{ObjectPart}
use Rattle.p8_map.specs.declared.names.MethodNames.{MethodNames}
use Rattle.p8_map.specs.declared.names.FileNames.{FileNames}
use Rattle.p8_map.specs.Strings.{items_text}
use Rattle.p8_legend.specs.declared.ranges.FoundRange.{FoundRange}
use Rattle.p8_legend.specs.Ranges.{found_at, text_of}
use Rattle.p8_legend.specs.Legends.{offset_text}
use Rattle.p8_legend.specs.ProjectLegends.{Named}
use Rattle.p8_legend.specs.Frames.{frame_text, method_of}
use Rattle.p8_code.specs.Bytecodes.{bytecode_name, effect_name, register_name}

-- What is known where a method's code stands: the names of all files and of its own, its object, the object's variables from their begin on and its
-- labels, the method's names and part, and the lines of its source.
pub record Scope : Type 0 where
  pub files : List FileNames
  pub own : FileNames
  pub object : ObjectPart
  pub variables : Named
  pub labels : Named
  pub method : MethodNames
  pub part : MethodPart
  pub source : List (List ℕ)

-- ---- methods and objects

-- method m, counted from 1
abbrev pub method_text : Option MethodNames → (m : ℕ) → List ℕ
method_text None m = decimal m
method_text (Some method) m = method.name

abbrev pub own_text : Option Scope → (m : ℕ) → List ℕ
own_text None m = decimal m
own_text (Some s) m = method_text (slice_get s.own.methods (m - 1)) m

-- method m of an object inside, by the number of its file
abbrev pub file_of : List FileNames → Option ℕ → Option FileNames
file_of files None = None
file_of files (Some f) = slice_get files f

abbrev pub inside_text : Scope → (number o m : ℕ) → List ℕ
inside_text s number o m =
    unwrap_or (slice_get s.own.instances number) (decimal o) ++ codes "." ++ method_text (method_of (file_of s.files (slice_get s.object.instances number)) m) m

-- method m of object o of the object's table, in which the methods stand first, from 1 on
abbrev pub called_text : Option Scope → (o m : ℕ) → List ℕ
called_text None o m = decimal o ++ codes "." ++ decimal m
called_text (Some s) o m = inside_text s (o - 1 - length s.own.methods) o m

-- what is called or started, or else a number
abbrev pub call_text : Option Scope → Op → List ℕ
call_text s op =
    if op.code == 0x05 then own_text s op.first
    else if op.code == 0x06 then called_text s op.first op.second
    else if op.code == 0x07 then called_text s op.first op.third ++ codes " of " ++ decimal op.second
    else if op.code == 0x15 then own_text s op.first ++ codes " " ++ decimal op.second
    else decimal op.first

-- ---- variables

-- what stands at an offset by the range in which it lies
abbrev pub found_text : (texts : List (List ℕ)) → (offset : ℕ) → Option FoundRange → List ℕ
found_text texts offset None = hex 4 offset
found_text texts offset (Some found) = text_of texts found.number ++ offset_text found.offset

abbrev pub range_text : Named → (offset : ℕ) → List ℕ
range_text names offset = found_text names.1 offset (found_at names.0 offset)

-- by its base (1 data of the object, 2 its variables, 3 the frame) and the offset from there
abbrev pub variable_text : Scope → (base offset : ℕ) → List ℕ
variable_text s base offset =
    if base == 1 then range_text s.labels (offset % 65536)
    else if base == 2 then range_text s.variables (offset % 65536)
    else frame_text s.method offset

-- 40 to 7F name a long by its number in the bytecode itself, which is one of the frame where bit 5 says so
abbrev pub base_of : Op → ℕ
base_of op = if nat_lt op.code 0x80 then 2 + op.code / 32 % 2 else op.code / 4 % 4

abbrev pub offset_of : Op → ℕ
offset_of op = if nat_lt op.code 0x80 then op.code / 4 % 8 * 4 else op.first

-- a popped address has no name
abbrev pub placed_text : (base : ℕ) → List ℕ → List ℕ
placed_text base text = if base == 0 then [] else codes " " ++ text

-- the text whose offset stands at a place of a method's code
abbrev pub text_used : List TextUse → (texts : List (List ℕ)) → (at : ℕ) → Option (List ℕ)
text_used [] texts at = None
text_used (u ∷ uses) texts at = if u.at == at then slice_get texts u.text else text_used uses texts at

abbrev pub text_or : Option (List ℕ) → (other : List ℕ) → List ℕ
text_or None other = other
text_or (Some text) other = codes " " ++ items_text text

-- what a bytecode of a variable names whose offset stands at a place of the code
abbrev pub named_text : Option Scope → (at base offset : ℕ) → List ℕ
named_text None at base offset = placed_text base (hex 4 offset)
named_text (Some s) at base offset = text_or (text_used s.part.uses s.object.texts at) (placed_text base (variable_text s base offset))

-- ---- operands

-- the address to which a jump leads whose offset is counted from an address
abbrev pub target : (after offset : ℕ) → ℕ
target after offset = (after + offset) % 65536

-- an effect, of a bytecode that ends at an address
abbrev pub step_text : (after : ℕ) → Op → List ℕ
step_text after op = if is_step op.effect then codes " " ++ hex 4 (target after op.second) else []

abbrev pub effect_text : (after : ℕ) → Op → List ℕ
effect_text after op = codes " " ++ effect_name (op.effect % 128) ++ step_text after op ++ (if nat_le 128 op.effect then codes " PUSH" else [])

abbrev pub change_text : Bool → (after : ℕ) → Op → List ℕ
change_text changes after op = if changes then effect_text after op else []

-- what is done with a register, and its name
abbrev pub action_text : (byte : ℕ) → List ℕ
action_text byte = if nat_lt byte 0xA0 then codes " PUSH " else if nat_lt byte 0xC0 then codes " POP " else codes " EFFECT "

-- what stands behind a bytecode's name, by what stands after its byte, at a place of the code: of the bytecode that ends at an address
abbrev pub operand_text : Option Scope → (at after : ℕ) → Op → Option Operands → List ℕ
operand_text s at after op None = []
operand_text s at after op (Some Nothing) = []
operand_text s at after op (Some Offset) = codes " " ++ hex 4 (target after op.first)
operand_text s at after op (Some SevenBits) = codes " " ++ decimal (packed op.first)
operand_text s at after op (Some Register) = action_text op.first ++ register_name op.first ++ change_text (changes_register op.first) after op
operand_text s at after op (Some ShortVariable) = named_text s at (base_of op) (offset_of op) ++ change_text (changes_variable op.code) after op
operand_text s at after op (Some Variable) = named_text s at (base_of op) (offset_of op) ++ change_text (changes_variable op.code) after op
operand_text s at after op (Some others) = codes " " ++ call_text s op

-- a bytecode in its column, behind its bytes; nothing where no bytecode stands whole
abbrev pub op_text : Option Scope → (at after size : ℕ) → Option (Op × ℕ) → List ℕ
op_text s at after size None = []
op_text s at after size (Some read) =
    replicate (20 - 3 * size) 32 ++ bytecode_name read.0.code ++ operand_text s at after read.0 (operands_of read.0.code)
