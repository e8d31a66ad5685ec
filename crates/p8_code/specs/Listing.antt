-- The code of a project for reading (this project's profile): its listing with more behind the lines and between them. All that the listing doesn't have
-- stands in `more`: the text is that with `λ text. text`, and with `λ text. []` it is the listing. A line ends with a line feed, and addresses are told
-- mod 65,536, which is exact in an image that fits the hub.
use Rattle.std.specs.Prelude.{ℕ, ◌+◌, ◌-◌, ◌*◌, ◌/◌, ◌%◌, ◌==◌, if◌then◌else◌, List, [], ◌∷◌, ◌++◌, length, take, drop, slice_index, Option, Some, None, codes}
use Rattle.std.specs.Fmt.{decimal}
use Rattle.std.specs.List.{flat_map}
use Rattle.p8_instr.specs.Instructions.{long_text}
use Rattle.p8_instr.specs.Numerals.{hex}
use Rattle.p8_bytecode.specs.Reading.{op_at}
use Rattle.p8_kinds.specs.declared.name_kinds.Label.{Label}
use Rattle.p8_dat.specs.declared.assembling.LineBegin.{LineBegin}
use Rattle.p8_gen.specs.declared.writer.Line.{Line}
use Rattle.p8_stmt.specs.declared.code.MethodCode.{MethodCode}
use Rattle.p8_image.specs.declared.parts.MethodPart.{MethodPart}
use Rattle.p8_image.specs.declared.parts.ObjectPart.{ObjectPart}
use Rattle.p8_image.specs.Layout.{dat_offset, codes_offset, text_offsets, size_of, linked}
use Rattle.p8_image.specs.Listing.{address_after, longs_of, pieces_of, object_line}
use Rattle.p8_map.specs.declared.names.MethodNames.{MethodNames}
use Rattle.p8_map.specs.declared.names.FileNames.{FileNames}
use Rattle.p8_legend.specs.ProjectLegends.{with_labels, with_variables}
use Rattle.p8_code.specs.Operations.{Scope, op_text}
use Rattle.p8_code.specs.Sources.{source_line}

abbrev pub More : Type 0
More = List ℕ → List ℕ

-- ---- a DAT

-- the labels of an object that begin in the long at an address; this stands before the next one
abbrev pub labels_text : (base place : ℕ) → (before : List ℕ) → List Label → List ℕ
labels_text base place before [] = []
labels_text base place before (label ∷ labels) =
    if address_after base label.offset / 4 == place / 4 then before ++ label.name ++ labels_text base place (codes ", ") labels
    else labels_text base place before labels

-- a long: where it stands, its digits, its text as an instruction, and its labels
abbrev pub long_line : More → (base : ℕ) → List Label → (place long : ℕ) → List ℕ
long_line more base labels place long =
    hex 4 place ++ codes " " ++ hex 8 long ++ codes " " ++ long_text long ++ more (labels_text base place (codes " ' ") labels) ++ 10 ∷ []

-- longs one after the other
abbrev pub long_lines : More → (base : ℕ) → List Label → (place : ℕ) → List ℕ → List ℕ
long_lines more base labels place [] = []
long_lines more base labels place (long ∷ longs) = long_line more base labels place long ++ long_lines more base labels (address_after place 4) longs

-- how far ahead of an address another one is, in longs
abbrev pub longs_ahead : (from to : ℕ) → ℕ
longs_ahead from to = (to + 65536 - from) % 65536 / 4

-- Longs with the lines of a source, of a DAT that begins at an address and of which so many longs are told: before a line stand the longs that end where
-- it begins, or before.
abbrev pub dat_lines : More → (source : List (List ℕ)) → (base : ℕ) → List Label → (start place told : ℕ) → (longs : List ℕ) → List LineBegin → List ℕ
dat_lines more source base labels start place told longs [] = long_lines more base labels place longs
dat_lines more source base labels start place told longs (line ∷ lines) =
    let count : ℕ = longs_ahead start (address_after base line.offset) - told in
    long_lines more base labels place (take count longs) ++ more (source_line source line.place.line)
    ++ dat_lines more source base labels start (address_after place (4 * count)) (told + count) (drop count longs) lines

-- ---- a method's code

-- a bytecode: its address, its bytes, its name and its operands, the first of which stands at a place of the code
abbrev pub op_line : More → Option Scope → (at place : ℕ) → (piece : List ℕ) → List ℕ
op_line more scope at place piece =
    hex 4 place ++ flat_map (λ (byte : ℕ). 32 ∷ hex 2 byte) piece
    ++ more (op_text scope at (address_after place (length piece)) (length piece) (op_at piece 0)) ++ 10 ∷ []

-- the line of the statement that the next bytecode is made from, and that line of the source where the bytecode before it is of another
abbrev pub statement_line : (previous : ℕ) → List Line → ℕ
statement_line previous [] = previous
statement_line previous (line ∷ lines) = line.statement.line

abbrev pub heading : Option Scope → (previous line : ℕ) → List ℕ
heading None previous line = []
heading (Some s) previous line = if previous == line then [] else source_line s.source line

-- bytecodes one after the other, with their lines
abbrev pub op_lines : More → Option Scope → (at place previous : ℕ) → List Line → List (List ℕ) → List ℕ
op_lines more scope at place previous lines [] = []
op_lines more scope at place previous lines (piece ∷ pieces) =
    more (heading scope previous (statement_line previous lines)) ++ op_line more scope (at + 1) place piece
    ++ op_lines more scope (at + length piece) (address_after place (length piece)) (statement_line previous lines) (drop 1 lines) pieces

-- names one after the other; this stands before the next one
abbrev pub listed : (before : List ℕ) → List (List ℕ) → List ℕ
listed before [] = []
listed before (name ∷ names) = before ++ name ++ listed (codes ", ") names

abbrev pub parameters_text : List (List ℕ) → List ℕ
parameters_text [] = []
parameters_text (name ∷ names) = listed (codes "(") (name ∷ names) ++ codes ")"

-- a method: its number, where its code begins, its name and its parameters
abbrev pub method_line : More → (number place : ℕ) → MethodNames → List ℕ
method_line more number place m =
    codes "method " ++ decimal number ++ codes " " ++ hex 4 place ++ more (codes " " ++ m.name ++ parameters_text m.parameters) ++ 10 ∷ []

-- ---- objects

-- what is known where a method's code stands
abbrev pub scope_at : List FileNames → FileNames → ObjectPart → (source : List (List ℕ)) → MethodNames → MethodPart → Scope
scope_at files own object source m part = record {
  files = files;
  own = own;
  object = object;
  variables = with_variables ([], []) 0 [] own.variables object.variables;
  labels = with_labels ([], []) [] 0 (codes_offset object % 65536) own.labels;
  method = m;
  part = part;
  source = source;
}

-- a method from an address on, by the bytes of its code
abbrev pub method_lines : More → Scope → (number place : ℕ) → MethodCode → (bytes : List ℕ) → List ℕ
method_lines more scope number place code bytes = method_line more number place scope.method ++
    op_lines more (Some scope) 0 place 0 code.lines (pieces_of bytes)

-- methods from a number on, whose codes stand one after the other
abbrev pub methods_lines : More → (MethodNames → MethodPart → Scope) → (offset : ℕ → ℕ) → (number place : ℕ) → List MethodNames → List MethodPart →
    List MethodCode → List ℕ
methods_lines more scope offset number place (m ∷ names) (part ∷ parts) (code ∷ others) =
    method_lines more (scope m part) number place code (linked offset part.uses part.code)
    ++ methods_lines more scope offset (number + 1) (address_after place (length part.code)) names parts others
methods_lines more scope offset number place _ _ _ = []

-- what is known of a file beside its names: its lines, where those of its DAT begin, and the codes of its methods with their lines
pub record FileCode : Type 0 where
  pub source : List (List ℕ)
  pub lines : List LineBegin
  pub methods : List MethodCode

-- an object that begins there, with the names of its file
abbrev pub object_lines : More → List FileNames → (base : ℕ) → FileNames → ObjectPart → FileCode → List ℕ
object_lines more files base own object file =
    object_line own.file base
    ++ dat_lines more file.source base own.labels (address_after base (dat_offset object)) (address_after base (dat_offset object)) 0
    (longs_of object.dat) file.lines
    ++ methods_lines more (scope_at files own object file.source) (slice_index (text_offsets object)) 1
    (address_after base (codes_offset object)) own.methods object.methods file.methods

-- objects one after the other
abbrev pub objects_lines : More → (files : List FileNames) → (base : ℕ) → List FileNames → List ObjectPart → List FileCode → List ℕ
objects_lines more files base (own ∷ names) (object ∷ objects) (file ∷ others) =
    object_lines more files base own object file ++ objects_lines more files (address_after base (size_of object)) names objects others
objects_lines more files base _ _ _ = []

-- a project by the names of its files, their objects, the top file's first, and what is known of each beside that
abbrev pub lines_with : More → List FileNames → List ObjectPart → List FileCode → List ℕ
lines_with more files objects known = objects_lines more files 16 files objects known

abbrev pub code_of : List FileNames → List ObjectPart → List FileCode → List ℕ
code_of files objects known = lines_with (λ text. text) files objects known
