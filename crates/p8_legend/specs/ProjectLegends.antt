-- The legend of a project's objects, by the names of its files and the rows of its line table (this project's profile). All addresses are
-- told mod 65,536, which is exact in an image that fits the hub.
use Rattle.std.specs.Prelude.{ℕ, zero, suc, ◌+◌, ◌-◌, ◌==◌, if◌then◌else◌, Bool, true, false, List, [], ◌∷◌, ◌++◌, length, Option, Some, None, slice_get, codes}
use Rattle.std.specs.Fmt.{decimal}
use Rattle.p8_kinds.specs.declared.name_kinds.Label.{Label}
use Rattle.p8_image.specs.declared.parts.Variable.{Variable}
use Rattle.p8_image.specs.declared.parts.MethodPart.{MethodPart}
use Rattle.p8_image.specs.declared.parts.ObjectPart.{ObjectPart}
use Rattle.p8_image.specs.Layout.{codes_offset, size_of}
use Rattle.p8_image.specs.Listing.{address_after}
use Rattle.p8_legend.specs.declared.ranges.Range.{Range}
use Rattle.p8_legend.specs.Ranges.{with_range}
use Rattle.p8_legend.specs.declared.table.LineRow.{LineRow}
use Rattle.p8_map.specs.declared.instances.Instance.{Instance}
use Rattle.p8_map.specs.declared.names.FileNames.{FileNames}
use Rattle.p8_map.specs.declared.names.MethodNames.{MethodNames}
use Rattle.p8_map.specs.Map.{after_size, instances_from, sized_bytes}

-- ranges with their texts, so far
abbrev pub Named : Type 0
Named = List Range × List (List ℕ)

-- one more, from an address up to another
abbrev pub and_one : Named → (address end : ℕ) → (text : List ℕ) → Named
and_one so_far address end text = with_range so_far.0 so_far.1 (record { address = address; end = end }) text

-- ---- what the names of an object that isn't the top file's begin with

-- the name of the first object f among those inside an object
abbrev pub name_inside : (f : ℕ) → (names : List (List ℕ)) → (instances : List ℕ) → Option (List ℕ)
name_inside f (name ∷ names) (g ∷ instances) = if g == f then Some name else name_inside f names instances
name_inside f _ _ = None

-- the first file whose object has object f inside it, by its number, and the name there; files are numbered from this one on
abbrev pub inside_or : (number : ℕ) → Option (List ℕ) → Option (ℕ × List ℕ) → Option (ℕ × List ℕ)
inside_or number None others = others
inside_or number (Some name) others = Some (number, name)

abbrev pub first_inside : (f number : ℕ) → List FileNames → List ObjectPart → Option (ℕ × List ℕ)
first_inside f number (names ∷ files) (object ∷ objects) =
    inside_or number (name_inside f names.instances object.instances) (first_inside f (number + 1) files objects)
first_inside f number _ _ = None

-- The names of the top file's object stand alone, those of another behind the path of its first instance: the name that it has there, behind
-- what the names of that file's object begin with, if objects stand inside each other at most so deep.
abbrev pub path_behind : (paths : ℕ → List ℕ) → Option (ℕ × List ℕ) → List ℕ
path_behind paths None = []
path_behind paths (Some inside) = paths inside.0 ++ inside.1 ++ codes "."

unfoldable pub path_of : List FileNames → List ObjectPart → (depth : ℕ) → (f : ℕ) → List ℕ
path_of files objects zero f = []
path_of files objects (suc depth) f = if f == 0 then [] else path_behind (path_of files objects depth) (first_inside f 0 files objects)

-- ---- the names of an object

-- a label stands up to the next one, and the last one up to the codes
abbrev pub label_end : (base codes_at : ℕ) → List Label → ℕ
label_end base codes_at [] = codes_at
label_end base codes_at (label ∷ labels) = address_after base label.offset

abbrev pub with_labels : Named → (prefix : List ℕ) → (base codes_at : ℕ) → List Label → Named
with_labels so_far prefix base codes_at [] = so_far
with_labels so_far prefix base codes_at (label ∷ labels) =
    with_labels (and_one so_far (address_after base label.offset) (label_end base codes_at labels) (prefix ++ label.name)) prefix base codes_at labels

-- the codes of methods, one after the other
abbrev pub with_methods : Named → (prefix : List ℕ) → (place : ℕ) → List MethodNames → List MethodPart → Named
with_methods so_far prefix place (m ∷ names) (method ∷ methods) =
    with_methods (and_one so_far place (address_after place (length method.code)) (prefix ++ m.name)) prefix
    (address_after place (length method.code)) names methods
with_methods so_far prefix place _ _ = so_far

abbrev pub with_object : Named → (prefix : List ℕ) → (base : ℕ) → FileNames → ObjectPart → Named
with_object so_far prefix base names object =
    with_methods
    (with_labels so_far prefix base (address_after base (codes_offset object)) names.labels)
    prefix (address_after base (codes_offset object)) names.methods object.methods

-- objects one after the other, from a number on, in a project with all these
abbrev pub with_objects : Named → List FileNames → List ObjectPart → (number base : ℕ) → List FileNames → List ObjectPart → Named
with_objects so_far all parts number base (names ∷ files) (object ∷ objects) =
    with_objects (with_object so_far (path_of all parts (length parts) number) base names object) all parts (number + 1)
    (address_after base (size_of object)) files objects
with_objects so_far all parts number base _ _ = so_far

-- ---- the variables of an instance

-- one more, if it is asked for
abbrev pub and_if : Bool → Named → (address end : ℕ) → (text : List ℕ) → Named
and_if false so_far address end text = so_far
and_if true so_far address end text = and_one so_far address end text

-- those of one size, one after the other
abbrev pub with_sized : Named → (size place : ℕ) → (prefix : List ℕ) → (names : List (List ℕ)) → List Variable → Named
with_sized so_far size place prefix (name ∷ names) (v ∷ variables) =
    with_sized (and_if (v.size == size) so_far place (address_after place (sized_bytes size v)) (prefix ++ name)) size
    (address_after place (sized_bytes size v)) prefix names variables
with_sized so_far size place prefix _ _ = so_far

-- longs come first, then words, then bytes
abbrev pub with_variables : Named → (place : ℕ) → (prefix : List ℕ) → (names : List (List ℕ)) → List Variable → Named
with_variables so_far place prefix names variables =
    with_sized
    (with_sized (with_sized so_far 4 place prefix names variables) 2 (after_size 4 place variables) prefix names variables)
    1 (after_size 2 (after_size 4 place variables) variables) prefix names variables

abbrev pub with_instance : Named → Instance → Option FileNames → Option ObjectPart → Named
with_instance so_far i (Some names) (Some object) = with_variables so_far i.place i.prefix names.variables object.variables
with_instance so_far i _ _ = so_far

-- instances one after the other
abbrev pub with_instances : Named → List FileNames → List ObjectPart → List Instance → Named
with_instances so_far files objects [] = so_far
with_instances so_far files objects (i ∷ instances) =
    with_instances (with_instance so_far i (slice_get files i.file) (slice_get objects i.file)) files objects instances

-- the names of the objects, and then those of the variables of each instance, where variables begin at an address
abbrev pub names_in : (variables_at : ℕ) → List FileNames → List ObjectPart → Named
names_in variables_at files objects =
    with_instances (with_objects ([], []) files objects 0 16 files objects) files objects (instances_from variables_at files objects)

-- ---- places

abbrev pub method_name : Option MethodNames → List ℕ
method_name None = []
method_name (Some m) = m.name

-- the file, the line and the method of a row
abbrev pub row_text : Option FileNames → LineRow → List ℕ
row_text None row = []
row_text (Some names) row = names.file ++ codes ":" ++ decimal row.place.line ++ codes " " ++ method_name (slice_get names.methods (row.method - 1))

abbrev pub with_rows : Named → List FileNames → List LineRow → Named
with_rows so_far files [] = so_far
with_rows so_far files (row ∷ rows) = with_rows (and_one so_far row.address row.end (row_text (slice_get files row.file) row)) files rows
