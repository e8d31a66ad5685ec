-- The image of a project is an image.
use Rattle.std.proofs.Common.{◌≡◌, ◌≤◌, ◌<◌, ℕ, zero, suc, ◌+◌, ◌-◌, ◌*◌, ◌/◌, ◌%◌, ◌∙◌, List, [], ◌∷◌, ◌++◌, length, replicate, map, sum, slice_index, slice_set, refl, ap, arith, length-append}
use Rattle.std.proofs.lemmas.List.{length-replicate, length-set}
use Rattle.std.proofs.lemmas.Bool.Decides.{nat_tests}
use Rattle.std.specs.Prelude.{◌&&◌, ◌==◌, nat_le, None}
use Rattle.p8_image.specs.declared.faults.LoadFault.TheVariants.{BadLength, BadChecksum}
use Rattle.std.proofs.lemmas.List.Sums.{sum_by-append}
use Rattle.p8_image.specs.Layout.{total, word, long, padded, whole_longs, method_entries, inner_entries, linked, codes_of, texts_of, table_bytes, object_bytes, objects_bytes, size_of, codes_offset, dat_offset, texts_offset, code_size, text_size, own_variables, text_offsets, header_bytes, bytes_with, image_of, header_by, variables_base, variables_of, variables_within, bases_of, frame_size}
use Rattle.p8_image.specs.Headers.{header_of}
use Rattle.p8_image.specs.Loading.{IsImage, first_unmet, header_demands}
use Rattle.p8_image.specs.Projects.{HasMain, BeginsWithMain}
use Rattle.p8_image.specs.declared.clocks.Clock.{Clock}
use Rattle.p8_image.specs.declared.header.Header.{Header}
use Rattle.p8_image.specs.declared.parts.MethodPart.{MethodPart}
use Rattle.p8_image.specs.declared.parts.TextUse.{TextUse}
use Rattle.p8_image.specs.declared.parts.ObjectPart.{ObjectPart}

length-entries : (offset : ℕ) (methods : List MethodPart) → length (method_entries offset methods) ≡ 4 * length methods
length-entries offset [] = refl
length-entries offset (method ∷ methods) = let rest = length-entries (offset + length method.code) methods in omega arith

length-inner : (bases variables : List ℕ) (base offset : ℕ) (instances : List ℕ) → length (inner_entries bases variables base offset instances) ≡ 4 * length instances
length-inner bases variables base offset [] = refl
length-inner bases variables base offset (f ∷ instances) =
    let rest = length-inner bases variables base (offset + slice_index variables f) instances in omega arith

pub length-padded : (bytes : List ℕ) → length (padded bytes) ≡ whole_longs (length bytes)
length-padded bytes =
    let more = whole_longs (length bytes) - length bytes in
    let zeros : List ℕ = replicate {A = ℕ} more 0 in
    length-append bytes zeros ∙ ap (λ (n : ℕ). length bytes + n) (length-replicate {A = ℕ} more 0) ∙ omega arith

pub length-linked : (offset : ℕ → ℕ) (uses : List TextUse) (code : List ℕ) → length (linked offset uses code) ≡ length code
length-linked offset [] code = refl
length-linked offset (place ∷ uses) code =
    length-linked offset uses _
    ∙ length-set (slice_set code place.at (128 + offset place.text / 256 % 128)) (place.at + 1) (offset place.text % 256)
    ∙ length-set code place.at (128 + offset place.text / 256 % 128)

pub length-codes : (offset : ℕ → ℕ) (methods : List MethodPart) → length (codes_of offset methods) ≡ total code_size methods
length-codes offset [] = refl
length-codes offset (method ∷ methods) =
    let both = length-append (linked offset method.uses method.code) (codes_of offset methods) in
    let here = length-linked offset method.uses method.code in
    let rest = length-codes offset methods in
    omega arith

length-texts : (texts : List (List ℕ)) → length (texts_of texts) ≡ total text_size texts
length-texts [] = refl
length-texts (text ∷ texts) =
    let both = length-append (text ++ 0 ∷ []) (texts_of texts) in
    let here = length-append text (0 ∷ []) in
    let rest = length-texts texts in
    omega arith

pub length-table : (bases variables : List ℕ) (base : ℕ) (object : ObjectPart) → length (table_bytes bases variables base object) ≡ dat_offset object
length-table bases variables base object =
    let methods = length-entries (codes_offset object) object.methods in
    let inner = length-inner bases variables base (own_variables object) object.instances in
    let both = length-append (method_entries (codes_offset object) object.methods) (inner_entries bases variables base (own_variables object) object.instances) in
    omega arith

pub length-object : (bases variables : List ℕ) (base : ℕ) (object : ObjectPart) → length (object_bytes bases variables base object) ≡ size_of object
length-object bases variables base object =
    let table = table_bytes bases variables base object in
    let codes = codes_of (slice_index (text_offsets object)) object.methods in
    let texts = texts_of object.texts in
    let all = length-padded (table ++ padded object.dat ++ codes ++ texts) in
    let a = length-append (table ++ padded object.dat ++ codes) texts in
    let b = length-append (table ++ padded object.dat) codes in
    let c = length-append table (padded object.dat) in
    let d = length-table bases variables base object in
    let e = length-padded object.dat in
    let f = length-codes (slice_index (text_offsets object)) object.methods in
    let g = length-texts object.texts in
    let parts : length (table ++ padded object.dat ++ codes ++ texts) ≡ texts_offset object + total text_size object.texts = omega arith in
    all ∙ ap whole_longs parts

length-objects : (bases variables : List ℕ) (base : ℕ) (objects : List ObjectPart) → length (objects_bytes bases variables base objects) ≡ total size_of objects
length-objects bases variables base [] = refl
length-objects bases variables base (object ∷ objects) =
    let both = length-append (object_bytes bases variables base object) (objects_bytes bases variables (base + size_of object) objects) in
    let here = length-object bases variables base object in
    let rest = length-objects bases variables (base + size_of object) objects in
    both ∙ ap (λ (n : ℕ). n + length (objects_bytes bases variables (base + size_of object) objects)) here ∙ ap (λ (n : ℕ). size_of object + n) rest

pub length-image : (clock : Clock) (objects : List ObjectPart) (checksum : ℕ) → length (bytes_with clock objects checksum) ≡ variables_base objects
length-image clock objects checksum = let rest = length-objects (bases_of objects) (variables_of objects) 16 objects in omega arith

-- the checksum is one byte of all
pub sum-image : (clock : Clock) (objects : List ObjectPart) (checksum : ℕ) → sum (bytes_with clock objects checksum) ≡ sum (bytes_with clock objects 0) + checksum
sum-image clock objects checksum =
    let h = header_by objects in
    let rest = word h.pbase ++ word h.vbase ++ word h.dbase ++ word h.pcurr ++ word h.dcurr ++ objects_bytes (bases_of objects) (variables_of objects) 16 objects in
    let with = sum_by-append (λ (x : ℕ). x) (long clock.frequency ++ clock.mode ∷ checksum ∷ []) rest in
    let without = sum_by-append (λ (x : ℕ). x) (long clock.frequency ++ clock.mode ∷ 0 ∷ []) rest in
    omega (arith, with, without)

met : (length sum : ℕ) (h : Header) → 16 ≤ length → length ≤ 32768 → length % 4 ≡ 0 → sum % 256 ≡ 20
    → h.pbase ≡ 16 → h.vbase ≡ length → h.vbase + 8 ≤ h.dbase → h.dbase ≤ 32764 → h.dbase % 4 ≡ 0 → 24 ≤ h.pcurr → h.pcurr < h.vbase
    → h.dbase + 4 ≤ h.dcurr → h.dcurr ≤ 32768 → h.dcurr % 4 ≡ 0
    → first_unmet ((nat_le 16 length && nat_le length 32768 && length % 4 == 0, BadLength length) ∷
    (sum % 256 == 0x14, BadChecksum (sum % 256)) ∷ header_demands h (h.vbase == length)) ≡ None
met length sum h a b c d e f g i j k l m n o = grind (arith, nat_tests)

-- all demands on an image are met
pub no_fault : (bytes : List ℕ) (h : Header) → 16 ≤ length bytes → length bytes ≤ 32768 → length bytes % 4 ≡ 0 → sum bytes % 256 ≡ 20
    → h.pbase ≡ 16 → h.vbase ≡ length bytes → h.vbase + 8 ≤ h.dbase → h.dbase ≤ 32764 → h.dbase % 4 ≡ 0 → 24 ≤ h.pcurr → h.pcurr < h.vbase
    → h.dbase + 4 ≤ h.dcurr → h.dcurr ≤ 32768 → h.dcurr % 4 ≡ 0
    → header_of bytes ≡ h → IsImage bytes
no_fault bytes h a b c d e f g i j k l m n o p =
    ap (λ (header : Header). first_unmet
    ((nat_le 16 (length bytes) && nat_le (length bytes) 32768 && length bytes % 4 == 0, BadLength (length bytes)) ∷
    (sum bytes % 256 == 0x14, BadChecksum (sum bytes % 256)) ∷ header_demands header (header.vbase == length bytes))) p
    ∙ met (length bytes) (sum bytes) h a b c d e f g i j k l m n o

multiple_in_map : {A : Type 0} (f : A → ℕ) → ((x : A) → f x % 4 ≡ 0) → (xs : List A) (i : ℕ) → slice_index (map f xs) i % 4 ≡ 0
multiple_in_map f h [] i = refl
multiple_in_map f h (x ∷ xs) zero = h x
multiple_in_map f h (x ∷ xs) (suc i) = multiple_in_map f h xs i

multiple_total : {A : Type 0} (f : A → ℕ) → ((x : A) → f x % 4 ≡ 0) → (xs : List A) → total f xs % 4 ≡ 0
multiple_total f h [] = refl
multiple_total f h (x ∷ xs) = let here = h x in let rest = multiple_total f h xs in omega arith

multiple_zeros : (n i : ℕ) → slice_index (replicate n 0) i % 4 ≡ 0
multiple_zeros zero i = refl
multiple_zeros (suc n) zero = refl
multiple_zeros (suc n) (suc i) = multiple_zeros n i

-- variables take whole longs
multiple_variables : (objects : List ObjectPart) (depth i : ℕ) → slice_index (variables_within depth objects) i % 4 ≡ 0
unfolding variables_within
multiple_variables objects zero i = multiple_zeros (length objects) i
multiple_variables objects (suc depth) i =
    multiple_in_map (λ (object : ObjectPart). own_variables object + total (slice_index (variables_within depth objects)) object.instances)
    (λ object. let inner = multiple_total (slice_index (variables_within depth objects)) (multiple_variables objects depth) object.instances in omega arith)
    objects i

multiple_sizes : (objects : List ObjectPart) → total size_of objects % 4 ≡ 0
multiple_sizes objects = multiple_total size_of (λ object. omega arith) objects

record MainFacts (methods : List MethodPart) : Type 0 where
  some : 1 ≤ length methods
  code : 1 ≤ total code_size methods
  frame : frame_size methods % 4 ≡ 0

main_facts : (methods : List MethodPart) → HasMain methods → MainFacts methods
main_facts [] h = absurd h
main_facts (method ∷ methods) h = record {
  some = omega arith;
  code = omega (arith, h.code);
  frame = omega (arith, h.parameters, h.locals);
}

word_back : (n : ℕ) → n < 65536 → n % 256 + 256 * (n / 256 % 256) ≡ n
word_back n h = omega arith

-- what holds of the header of an image of this length
pub record IsPlaced (h : Header) (length : ℕ) : Type 0 where
  pub pbase : h.pbase ≡ 16
  pub vbase : h.vbase ≡ length
  pub low : 16 ≤ length
  pub multiple : length % 4 ≡ 0
  pub dbase_low : h.vbase + 8 ≤ h.dbase
  pub dbase_high : h.dbase ≤ 32764
  pub dbase_multiple : h.dbase % 4 ≡ 0
  pub pcurr_low : 24 ≤ h.pcurr
  pub pcurr_high : h.pcurr < h.vbase
  pub dcurr_low : h.dbase + 4 ≤ h.dcurr
  pub dcurr_high : h.dcurr ≤ 32768
  pub dcurr_multiple : h.dcurr % 4 ≡ 0

pub placed : (objects : List ObjectPart) → BeginsWithMain objects → (header_by objects).dcurr ≤ 32768 → IsPlaced (header_by objects) (variables_base objects)
placed [] main fits = absurd main
placed (top ∷ objects) main fits =
    let facts = main_facts top.methods main in
    let some = facts.some in
    let code = facts.code in
    let frame = facts.frame in
    let sizes = multiple_sizes (top ∷ objects) in
    let variables = multiple_variables (top ∷ objects) (length (top ∷ objects)) 0 in
    record {
      pbase = refl;
      vbase = refl;
      low = omega arith;
      multiple = omega arith;
      dbase_low = omega arith;
      dbase_high = omega arith;
      dbase_multiple = omega arith;
      pcurr_low = omega arith;
      pcurr_high = omega arith;
      dcurr_low = omega arith;
      dcurr_high = fits;
      dcurr_multiple = omega arith;
    }

abbrev header : (pbase vbase dbase pcurr dcurr : ℕ) → Header
header pbase vbase dbase pcurr dcurr = record { pbase = pbase; vbase = vbase; dbase = dbase; pcurr = pcurr; dcurr = dcurr }

pub same_header : (a b c d e v w x y z : ℕ) → a ≡ v → b ≡ w → c ≡ x → d ≡ y → e ≡ z
    → header a b c d e ≡ header v w x y z
same_header a b c d e v w x y z p q r s t =
    ap (λ (n : ℕ). header n b c d e) p ∙ ap (λ (n : ℕ). header v n c d e) q ∙ ap (λ (n : ℕ). header v w n d e) r
    ∙ ap (λ (n : ℕ). header v w x n e) s ∙ ap (λ (n : ℕ). header v w x y n) t

read_header : (clock : Clock) (checksum : ℕ) (h : Header) (rest : List ℕ) → h.pbase < 65536 → h.vbase < 65536 → h.dbase < 65536 → h.pcurr < 65536 → h.dcurr < 65536
    → header_of (header_bytes clock checksum h ++ rest) ≡ h
read_header clock checksum h rest a b c d e =
    same_header _ _ _ _ _ h.pbase h.vbase h.dbase h.pcurr h.dcurr
    (word_back h.pbase a) (word_back h.vbase b) (word_back h.dbase c) (word_back h.pcurr d) (word_back h.dcurr e)

-- the header is read back
pub header_back : (clock : Clock) (objects : List ObjectPart) (checksum length : ℕ) → IsPlaced (header_by objects) length
    → header_of (bytes_with clock objects checksum) ≡ header_by objects
header_back clock objects checksum length places =
    read_header clock checksum (header_by objects) (objects_bytes (bases_of objects) (variables_of objects) 16 objects)
    (omega (arith, places.pbase)) (omega (arith, places.pcurr_high, places.dbase_low, places.dbase_high)) (omega (arith, places.dbase_high))
    (omega (arith, places.pcurr_high, places.dbase_low, places.dbase_high)) (omega (arith, places.dcurr_high))

pub image_is_image : (clock : Clock) (objects : List ObjectPart) → BeginsWithMain objects → (header_by objects).dcurr ≤ 32768 → IsImage (image_of clock objects)
image_is_image clock objects main fits =
    let places = placed objects main fits in
    let checksum = (0x14 + 256 - sum (bytes_with clock objects 0) % 256) % 256 in
    let size = length-image clock objects checksum in
    let total_sum = sum-image clock objects checksum in
    let h = header_by objects in
    let bytes = bytes_with clock objects checksum in
    no_fault bytes h
    (omega (arith, places.low, size)) (omega (arith, size, places.vbase, places.dbase_low, places.dbase_high)) (omega (arith, size, places.multiple))
    (omega (arith, total_sum)) places.pbase (omega (arith, places.vbase, size)) places.dbase_low places.dbase_high places.dbase_multiple
    places.pcurr_low places.pcurr_high places.dcurr_low places.dcurr_high places.dcurr_multiple
    (header_back clock objects checksum (variables_base objects) places)

-- the checksum put in its place
pub finished_is : (clock : Clock) (objects : List ObjectPart) (bytes result : List ℕ) → bytes ≡ bytes_with clock objects 0
    → result ≡ slice_set bytes 5 ((0x14 + 256 - sum bytes % 256) % 256) → result ≡ image_of clock objects
finished_is clock objects bytes result e r = r ∙ ap (λ (xs : List ℕ). slice_set xs 5 ((0x14 + 256 - sum xs % 256) % 256)) e

pub record IsLength (length : ℕ) : Type 0 where
  pub low : 16 ≤ length
  pub high : length ≤ 32768

pub unfinished_length : (clock : Clock) (objects : List ObjectPart) (bytes : List ℕ) → bytes ≡ bytes_with clock objects 0 → BeginsWithMain objects
    → (header_by objects).dcurr ≤ 32768 → IsLength (length bytes)
unfinished_length clock objects bytes e main fits =
    let places = placed objects main fits in
    let size : length bytes ≡ variables_base objects = ap (λ (xs : List ℕ). length xs) e ∙ length-image clock objects 0 in
    record {
      low = omega (arith, places.low, size);
      high = omega (arith, size, places.vbase, places.dbase_low, places.dbase_high);
    }

pub image_header : (clock : Clock) (objects : List ObjectPart) → BeginsWithMain objects → (header_by objects).dcurr ≤ 32768
    → header_of (image_of clock objects) ≡ header_by objects
image_header clock objects main fits =
    header_back clock objects ((0x14 + 256 - sum (bytes_with clock objects 0) % 256) % 256) (variables_base objects) (placed objects main fits)
