-- The map of a project: the text that tells where everything of it stands in the hub, line by line (this project's profile). A line
-- ends with a line feed. It begins with an address in four hexadecimal digits and the kind of what stands there; a line of a method's
-- frame begins with `+` and the offset in the frame. All addresses are told mod 65,536, which is exact in an image that fits the hub.
use Rattle.std.specs.Prelude.{ℕ, zero, suc, ◌+◌, ◌-◌, ◌*◌, ◌/◌, ◌%◌, ◌==◌, Option, Some, unwrap_or, option_map, List, [], ◌∷◌, ◌++◌, length, map}
use Rattle.std.specs.Prelude.{slice_get, slice_index, codes, if◌then◌else◌}
use Rattle.std.specs.Fmt.{decimal}
use Rattle.std.specs.List.{flat_map}
use Rattle.p8_kinds.specs.declared.name_kinds.Label.{Label}
use Rattle.p8_image.specs.declared.parts.Variable.{Variable}
use Rattle.p8_image.specs.declared.parts.MethodPart.{MethodPart}
use Rattle.p8_image.specs.declared.parts.ObjectPart.{ObjectPart}
use Rattle.p8_image.specs.Headers.{word_at}
use Rattle.p8_image.specs.Listing.{address_after}
use Rattle.p8_image.specs.Layout.{variable_size, own_variables, codes_offset, text_size, size_of, variables_of}
use Rattle.p8_instr.specs.Numerals.{hex}
use Rattle.p8_map.specs.declared.instances.Instance.{Instance}
use Rattle.p8_map.specs.declared.names.LocalName.{LocalName}
use Rattle.p8_map.specs.declared.names.MethodNames.{MethodNames}
use Rattle.p8_map.specs.declared.names.FileNames.{FileNames}
use Rattle.p8_map.specs.Strings.{items_text}

-- ---- the header, as an image has it in its first 16 bytes

-- a field: where it stands, its name and its digits
abbrev pub field_line : (place : ℕ) → (name digits : List ℕ) → List ℕ
field_line place name digits = hex 4 place ++ codes " header " ++ name ++ codes " " ++ digits ++ 10 ∷ []

abbrev pub word_line : (image : List ℕ) → (place : ℕ) → (name : List ℕ) → List ℕ
word_line image place name = field_line place name (hex 4 (word_at image place))

abbrev pub byte_line : (image : List ℕ) → (place : ℕ) → (name : List ℕ) → List ℕ
byte_line image place name = field_line place name (hex 2 (slice_index image place))

-- the clock, and the checksum
abbrev pub clock_lines : (image : List ℕ) → List ℕ
clock_lines image =
    field_line 0 (codes "clkfreq") (hex 4 (word_at image 2) ++ hex 4 (word_at image 0))
    ++ byte_line image 4 (codes "clkmode")
    ++ byte_line image 5 (codes "checksum")

-- the places
abbrev pub place_lines : (image : List ℕ) → List ℕ
place_lines image =
    word_line image 6 (codes "pbase")
    ++ word_line image 8 (codes "vbase")
    ++ word_line image 10 (codes "dbase")
    ++ word_line image 12 (codes "pcurr")
    ++ word_line image 14 (codes "dcurr")

abbrev pub header_lines : (image : List ℕ) → List ℕ
header_lines image = clock_lines image ++ place_lines image

-- ---- an object, which stands in the hub once

-- what has elements of this size
abbrev pub size_word : (bytes : ℕ) → List ℕ
size_word bytes = if bytes == 1 then codes "byte" else if bytes == 2 then codes "word" else codes "long"

-- the name of the file of this number
abbrev pub file_name : List FileNames → ℕ → List ℕ
file_name files f = unwrap_or (option_map (λ (file : FileNames). file.file) (slice_get files f)) []

abbrev pub object_line : (place : ℕ) → (file : List ℕ) → List ℕ
object_line place file = hex 4 place ++ codes " object " ++ file ++ 10 ∷ []

-- an object inside: where its entry in the table stands, its name and its file
abbrev pub child_line : (place : ℕ) → (name file : List ℕ) → List ℕ
child_line place name file = hex 4 place ++ codes " child " ++ name ++ codes " " ++ file ++ 10 ∷ []

abbrev pub child_lines : List FileNames → (place : ℕ) → (names : List (List ℕ)) → (instances : List ℕ) → List ℕ
child_lines files place (name ∷ names) (f ∷ instances) =
    child_line place name (file_name files f) ++ child_lines files (address_after place 4) names instances
child_lines files place _ _ = []

-- a label of DAT: where it stands in the hub, its address in a cog, which counts longs, and the size of what stands there
abbrev pub label_line : (base : ℕ) → Label → List ℕ
label_line base label =
    hex 4 (address_after base label.offset) ++ codes " label " ++ label.name
    ++ codes " cog " ++ hex 3 (label.cog / 4) ++ codes " " ++ size_word label.size ++ 10 ∷ []

-- a name of a method's frame, with so many longs from this offset on
abbrev pub frame_line : (offset : ℕ) → (kind name : List ℕ) → (longs : ℕ) → List ℕ
frame_line offset kind name longs = codes "+" ++ hex 4 offset ++ kind ++ name ++ codes " " ++ decimal longs ++ 10 ∷ []

abbrev pub parameter_lines : (offset : ℕ) → List (List ℕ) → List ℕ
parameter_lines offset [] = []
parameter_lines offset (name ∷ names) = frame_line offset (codes " parameter ") name 1 ++ parameter_lines (address_after offset 4) names

abbrev pub local_lines : (offset : ℕ) → List LocalName → List ℕ
local_lines offset [] = []
local_lines offset (x ∷ xs) = frame_line offset (codes " local ") x.name x.longs ++ local_lines (address_after offset (4 * x.longs)) xs

-- a method's frame: its result, its parameters and its locals
abbrev pub frame_lines : MethodNames → List ℕ
frame_lines m =
    frame_line 0 (codes " result ") (unwrap_or m.result (codes "RESULT")) 1
    ++ parameter_lines 4 m.parameters
    ++ local_lines (address_after 4 (4 * length m.parameters)) m.locals

-- a method: where its code begins, its number and its name
abbrev pub method_line : (place number : ℕ) → (name : List ℕ) → List ℕ
method_line place number name = hex 4 place ++ codes " method " ++ decimal number ++ codes " " ++ name ++ 10 ∷ []

-- methods from a number on whose codes stand one after the other
abbrev pub method_lines : (place number : ℕ) → List MethodNames → List MethodPart → List ℕ
method_lines place number (m ∷ names) (method ∷ methods) =
    method_line place number m.name ++ frame_lines m ++ method_lines (address_after place (length method.code)) (number + 1) names methods
method_lines place number _ _ = []

-- the place after the codes of methods
abbrev pub after_codes : (place : ℕ) → List MethodPart → ℕ
after_codes place [] = place
after_codes place (method ∷ methods) = after_codes (address_after place (length method.code)) methods

-- a text, as the items of a STRING
abbrev pub text_line : (place : ℕ) → (text : List ℕ) → List ℕ
text_line place text = hex 4 place ++ codes " string " ++ items_text text ++ 10 ∷ []

abbrev pub text_lines : (place : ℕ) → List (List ℕ) → List ℕ
text_lines place [] = []
text_lines place (text ∷ texts) = text_line place text ++ text_lines (address_after place (text_size text)) texts

-- an object that begins there, with the names of its file
abbrev pub object_lines : List FileNames → (base : ℕ) → FileNames → ObjectPart → List ℕ
object_lines files base names object =
    object_line base names.file
    ++ child_lines files (address_after base (4 + 4 * length object.methods)) names.instances object.instances
    ++ flat_map (label_line base) names.labels
    ++ method_lines (address_after base (codes_offset object)) 1 names.methods object.methods
    ++ text_lines (after_codes (address_after base (codes_offset object)) object.methods) object.texts

-- objects one after the other
abbrev pub objects_lines : (files : List FileNames) → (base : ℕ) → List FileNames → List ObjectPart → List ℕ
objects_lines files base (names ∷ rest) (object ∷ objects) =
    object_lines files base names object ++ objects_lines files (address_after base (size_of object)) rest objects
objects_lines files base _ _ = []

-- ---- the instances of objects that have variables

-- numbers of bytes, mod 65,536
abbrev pub low : List ℕ → List ℕ
low numbers = map (λ (n : ℕ). n % 65536) numbers

-- an instance of object f, where it has variables of its own; one that only holds others isn't told
abbrev pub own_instance : (prefix : List ℕ) → (f place : ℕ) → List Variable → List Instance
own_instance prefix f place [] = []
own_instance prefix f place (v ∷ variables) = record { prefix = prefix; file = f; place = place } ∷ []

-- the instances inside one, which stand one after the other, as `within` tells each with those inside it. Where there are no bytes of variables
-- in one, nor in any inside it, nothing is told.
abbrev pub one_inside : (within : (prefix : List ℕ) → (f place : ℕ) → List Instance) → (size place : ℕ) → (prefix name : List ℕ) → (f : ℕ) → List Instance
one_inside within size place prefix name f = if size == 0 then [] else within (prefix ++ name ++ codes ".") f place

abbrev pub all_inside : (within : (prefix : List ℕ) → (f place : ℕ) → List Instance) → (sizes : List ℕ) → (place : ℕ) → (prefix : List ℕ)
    → (names : List (List ℕ)) → (instances : List ℕ) → List Instance
all_inside within sizes place prefix (name ∷ names) (f ∷ instances) =
    one_inside within (slice_index sizes f) place prefix name f ++ all_inside within sizes (address_after place (slice_index sizes f)) prefix names instances
all_inside within sizes place prefix _ _ = []

-- an instance whose variables begin there, and those inside it, whose variables stand after its own
abbrev pub with_inside : (within : (prefix : List ℕ) → (f place : ℕ) → List Instance) → (sizes : List ℕ) → (prefix : List ℕ) → (f place : ℕ)
    → Option FileNames → Option ObjectPart → List Instance
with_inside within sizes prefix f place (Some names) (Some object) =
    own_instance prefix f place object.variables
    ++ all_inside within sizes (address_after place (own_variables object)) prefix names.instances object.instances
with_inside within sizes prefix f place _ _ = []

-- an instance of object f with those inside it, if objects stand inside each other at most so deep, where objects have so many bytes of variables
unfoldable pub instances_within : List FileNames → List ObjectPart → (sizes : List ℕ) → (depth : ℕ) → (prefix : List ℕ) → (f place : ℕ) → List Instance
instances_within files objects sizes zero prefix f place = []
instances_within files objects sizes (suc depth) prefix f place =
    with_inside (instances_within files objects sizes depth) sizes prefix f place (slice_get files f) (slice_get objects f)

-- the instances of a project whose variables begin there, the top object's first
abbrev pub instances_from : (variables_at : ℕ) → List FileNames → List ObjectPart → List Instance
instances_from variables_at files objects = instances_within files objects (low (variables_of objects)) (length objects) [] 0 variables_at

-- ---- their lines

-- where objects stand, one after the other
abbrev pub bases_from : (base : ℕ) → List ObjectPart → List ℕ
bases_from base [] = []
bases_from base (object ∷ objects) = base ∷ bases_from (address_after base (size_of object)) objects

-- the file of an instance, and where its object stands
abbrev pub instance_file : (file : List ℕ) → (base : ℕ) → List ℕ
instance_file file base = codes "* " ++ file ++ codes " " ++ hex 4 base ++ 10 ∷ []

-- an instance: where its variables begin, what their names begin with, and its file
abbrev pub instance_line : (place : ℕ) → (prefix file : List ℕ) → (base : ℕ) → List ℕ
instance_line place prefix file base = hex 4 place ++ codes " instance " ++ prefix ++ instance_file file base

-- the size of a variable's elements, and how many there are
abbrev pub elements : Variable → List ℕ
elements v = codes " " ++ size_word v.size ++ codes " " ++ decimal v.count ++ 10 ∷ []

-- a variable: where it stands, its name, and its elements
abbrev pub variable_line : (place : ℕ) → (prefix name : List ℕ) → Variable → List ℕ
variable_line place prefix name v = hex 4 place ++ codes " variable " ++ prefix ++ name ++ elements v

-- a variable among those of one size: one of another size has no line there and takes no bytes
abbrev pub sized_line : (size place : ℕ) → (prefix name : List ℕ) → Variable → List ℕ
sized_line size place prefix name v = if v.size == size then variable_line place prefix name v else []

abbrev pub sized_bytes : (size : ℕ) → Variable → ℕ
sized_bytes size v = if v.size == size then variable_size v else 0

-- the variables of one size, one after the other
abbrev pub sized_lines : (size place : ℕ) → (prefix : List ℕ) → (names : List (List ℕ)) → List Variable → List ℕ
sized_lines size place prefix (name ∷ names) (v ∷ variables) =
    sized_line size place prefix name v ++ sized_lines size (address_after place (sized_bytes size v)) prefix names variables
sized_lines size place prefix _ _ = []

-- the place after the variables of one size
abbrev pub after_size : (size place : ℕ) → List Variable → ℕ
after_size size place [] = place
after_size size place (v ∷ variables) = after_size size (address_after place (sized_bytes size v)) variables

-- the variables of an object: longs come first, then words, then bytes
abbrev pub variable_lines : (place : ℕ) → (prefix : List ℕ) → (names : List (List ℕ)) → List Variable → List ℕ
variable_lines place prefix names variables =
    sized_lines 4 place prefix names variables
    ++ sized_lines 2 (after_size 4 place variables) prefix names variables
    ++ sized_lines 1 (after_size 2 (after_size 4 place variables) variables) prefix names variables

-- an instance with its variables, where its object stands at this base
abbrev pub lines_by : (base : ℕ) → Instance → Option FileNames → Option ObjectPart → List ℕ
lines_by base i (Some names) (Some object) =
    instance_line i.place i.prefix names.file base ++ variable_lines i.place i.prefix names.variables object.variables
lines_by base i _ _ = []

abbrev pub instance_lines : List FileNames → List ObjectPart → (bases : List ℕ) → Instance → List ℕ
instance_lines files objects bases i = lines_by (slice_index bases i.file) i (slice_get files i.file) (slice_get objects i.file)

-- ---- the memory after the variables

-- where the first frame begins, with the stack after it, and where the memory begins that is free when the program starts, with its bytes
abbrev pub memory_lines : (dbase dcurr : ℕ) → List ℕ
memory_lines dbase dcurr =
    hex 4 dbase ++ codes " stack" ++ 10 ∷ [] ++ hex 4 dcurr ++ codes " free " ++ decimal (32768 - dcurr) ++ 10 ∷ []

-- ---- the whole

-- the map of a project with this image, by the names of its files and their objects, the top file's first
abbrev pub map_of : (image : List ℕ) → List FileNames → List ObjectPart → List ℕ
map_of image files objects =
    header_lines image
    ++ objects_lines files 16 files objects
    ++ flat_map (instance_lines files objects (bases_from 16 objects)) (instances_from (word_at image 8) files objects)
    ++ memory_lines (word_at image 10) (word_at image 14)
