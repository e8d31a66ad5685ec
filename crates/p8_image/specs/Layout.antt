-- How the objects of a project stand in the hub (the public form of Spin images; the order of the parts and both paddings are this
-- project's profile). A project is the list of its objects in the order of its files, the top file's first. Each object stands in the
-- hub once. It has variables as often as it is used inside others.
use Rattle.std.specs.Prelude.{ℕ, zero, suc, ◌+◌, ◌-◌, ◌*◌, ◌/◌, ◌%◌, ◌==◌, nat_lt, List, [], ◌∷◌, ◌++◌, length, take, filter, map, flat_map}
use Rattle.std.specs.Prelude.{replicate, slice_index, slice_set, sum}
use Rattle.p8_image.specs.declared.header.Header.{Header}
use Rattle.p8_image.specs.declared.clocks.Clock.{Clock}
use Rattle.p8_image.specs.declared.parts.Variable.{Variable}
use Rattle.p8_image.specs.declared.parts.TextUse.{TextUse}
use Rattle.p8_image.specs.declared.parts.MethodPart.{MethodPart}
use Rattle.p8_image.specs.declared.parts.ObjectPart.{ObjectPart}

-- ---- numbers and bytes

-- the sum of what f gives for each
abbrev pub total : {A : Type 0} → (A → ℕ) → List A → ℕ
total f [] = 0
total f (x ∷ xs) = f x + total f xs

-- so many bytes rounded up to whole longs
abbrev pub whole_longs : ℕ → ℕ
whole_longs bytes = (bytes + 3) / 4 * 4

-- these bytes, and zeros up to a whole number of longs
abbrev pub padded : List ℕ → List ℕ
padded bytes = bytes ++ replicate (whole_longs (length bytes) - length bytes) 0

-- a number mod 2^16 in two bytes, and mod 2^32 in four, the lowest first
abbrev pub word : ℕ → List ℕ
word n = n % 256 ∷ n / 256 % 256 ∷ []

abbrev pub long : ℕ → List ℕ
long n = word n ++ word (n / 65536)

-- ---- an object: its places, counted from its base

-- the DAT, after the size, the two counts, and four bytes for each method and for each object inside
abbrev pub dat_offset : ObjectPart → ℕ
dat_offset object = 4 + 4 * length object.methods + 4 * length object.instances

-- the codes of the methods, after the DAT
abbrev pub codes_offset : ObjectPart → ℕ
codes_offset object = dat_offset object + whole_longs (length object.dat)

abbrev pub code_size : MethodPart → ℕ
code_size method = length method.code

-- the code of method m, counted from 0, after the codes of the methods before it
abbrev pub code_offset : ObjectPart → ℕ → ℕ
code_offset object m = codes_offset object + total code_size (take m object.methods)

-- the bytes of a text with the zero that ends it
abbrev pub text_size : List ℕ → ℕ
text_size text = length text + 1

-- where things of some sizes stand, one after the other from a place on
abbrev pub places_from : {A : Type 0} → (A → ℕ) → (place : ℕ) → List A → List ℕ
places_from size place [] = []
places_from size place (x ∷ xs) = place ∷ places_from size (place + size x) xs

-- the texts, after all codes
abbrev pub texts_offset : ObjectPart → ℕ
texts_offset object = codes_offset object + total code_size object.methods

abbrev pub text_offsets : ObjectPart → List ℕ
text_offsets object = places_from text_size (texts_offset object) object.texts

-- all its bytes
abbrev pub size_of : ObjectPart → ℕ
size_of object = whole_longs (texts_offset object + total text_size object.texts)

-- ---- variables

abbrev pub variable_size : Variable → ℕ
variable_size variable = variable.size * variable.count

-- variable v of an object, counted from 0, from the begin of the object's variables: longs come first, then words, then bytes
abbrev pub variable_offset : ObjectPart → (size v : ℕ) → ℕ
variable_offset object size v =
    total variable_size (filter (λ (other : Variable). nat_lt size other.size) object.variables)
    + total variable_size (filter (λ (other : Variable). other.size == size) (take v object.variables))

-- the variables of an object itself, without those of the objects inside it
abbrev pub own_variables : ObjectPart → ℕ
own_variables object = whole_longs (total variable_size object.variables)

-- the variables of each object with those of the objects inside it, if objects stand inside each other at most so deep
unfoldable pub variables_within : (depth : ℕ) → List ObjectPart → List ℕ
variables_within zero objects = replicate (length objects) 0
variables_within (suc depth) objects =
    map (λ (object : ObjectPart). own_variables object + total (slice_index (variables_within depth objects)) object.instances) objects

-- the variables of each object: no file stands inside itself, so the depth is at most the number of files
abbrev pub variables_of : List ObjectPart → List ℕ
variables_of objects = variables_within (length objects) objects

-- the variables of the object inside at place i, from the begin of the object's variables
abbrev pub inner_offset : List ObjectPart → ObjectPart → ℕ → ℕ
inner_offset objects object i = own_variables object + total (slice_index (variables_of objects)) (take i object.instances)

-- ---- the hub

-- the objects, after the image's header
abbrev pub bases_of : List ObjectPart → List ℕ
bases_of objects = places_from size_of 16 objects

-- where the variables begin: after all objects
abbrev pub variables_base : List ObjectPart → ℕ
variables_base objects = 16 + total size_of objects

-- where the first frame begins: after the top object's variables and two longs
abbrev pub first_frame : List ObjectPart → ℕ
first_frame objects = variables_base objects + slice_index (variables_of objects) 0 + 8

-- the bytes of a method's first frame after its result
abbrev pub frame_size : List MethodPart → ℕ
frame_size [] = 0
frame_size (method ∷ methods) = method.parameters + method.locals

-- the places in the header of a project's image: the top object's first method is started, and its frame is the first
abbrev pub header_by : List ObjectPart → Header
header_by [] = record { pbase = 16; vbase = 16; dbase = 24; pcurr = 16; dcurr = 28 }
header_by (top ∷ objects) = record {
  pbase = 16;
  vbase = variables_base (top ∷ objects);
  dbase = first_frame (top ∷ objects);
  pcurr = 16 + codes_offset top;
  dcurr = first_frame (top ∷ objects) + 4 + frame_size top.methods;
}

-- ---- bytes

-- code in which the offsets of texts stand where they are used: in two bytes, the high part first, with bit 7 of the first byte set
abbrev pub linked : (ℕ → ℕ) → List TextUse → List ℕ → List ℕ
linked offset [] code = code
linked offset (place ∷ uses) code =
    linked offset uses (slice_set (slice_set code place.at (128 + offset place.text / 256 % 128)) (place.at + 1) (offset place.text % 256))

-- the entries of methods whose codes stand one after the other from an offset on: where the code stands, and the bytes of the locals
abbrev pub method_entries : ℕ → List MethodPart → List ℕ
method_entries offset [] = []
method_entries offset (method ∷ methods) = word offset ++ word method.locals ++ method_entries (offset + length method.code) methods

-- the entries of the objects inside one that stands at a base, from an offset of its variables on: the way to the object, mod 2^16, and
-- to its variables
abbrev pub inner_entries : (bases variables : List ℕ) → (base offset : ℕ) → List ℕ → List ℕ
inner_entries bases variables base offset [] = []
inner_entries bases variables base offset (f ∷ instances) =
    word (slice_index bases f + 65536 - base % 65536) ++ word offset
    ++ inner_entries bases variables base (offset + slice_index variables f) instances

-- the codes of methods, one after the other
abbrev pub codes_of : (ℕ → ℕ) → List MethodPart → List ℕ
codes_of offset methods = flat_map (λ (method : MethodPart). linked offset method.uses method.code) methods

-- texts, each with the zero that ends it
abbrev pub texts_of : List (List ℕ) → List ℕ
texts_of texts = flat_map (λ (text : List ℕ). text ++ 0 ∷ []) texts

-- the table at the begin of an object that stands at a base, among objects with these bases and variables: its size, one more than its
-- methods and how many objects it has inside, and their entries
abbrev pub table_bytes : (bases variables : List ℕ) → (base : ℕ) → ObjectPart → List ℕ
table_bytes bases variables base object =
    word (size_of object) ++ (length object.methods + 1) % 256 ∷ length object.instances % 256 ∷ []
    ++ method_entries (codes_offset object) object.methods
    ++ inner_entries bases variables base (own_variables object) object.instances

-- such an object
abbrev pub object_bytes : (bases variables : List ℕ) → (base : ℕ) → ObjectPart → List ℕ
object_bytes bases variables base object =
    padded (table_bytes bases variables base object
    ++ padded object.dat
    ++ codes_of (slice_index (text_offsets object)) object.methods
    ++ texts_of object.texts)

-- such objects, one after the other from a base on
abbrev pub objects_bytes : (bases variables : List ℕ) → (base : ℕ) → List ObjectPart → List ℕ
objects_bytes bases variables base [] = []
objects_bytes bases variables base (object ∷ objects) =
    object_bytes bases variables base object ++ objects_bytes bases variables (base + size_of object) objects

-- an image's header
abbrev pub header_bytes : Clock → (checksum : ℕ) → Header → List ℕ
header_bytes clock checksum h =
    long clock.frequency ++ clock.mode ∷ checksum ∷ [] ++ word h.pbase ++ word h.vbase ++ word h.dbase ++ word h.pcurr ++ word h.dcurr

-- an image with this checksum
abbrev pub bytes_with : Clock → List ObjectPart → (checksum : ℕ) → List ℕ
bytes_with clock objects checksum = header_bytes clock checksum (header_by objects) ++ objects_bytes (bases_of objects) (variables_of objects) 16 objects

-- the image of a project: its checksum makes all bytes add to $14 mod 256
abbrev pub image_of : Clock → List ObjectPart → List ℕ
image_of clock objects = bytes_with clock objects ((0x14 + 256 - sum (bytes_with clock objects 0) % 256) % 256)
