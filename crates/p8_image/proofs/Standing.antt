-- What stands where in an image.
use Rattle.std.proofs.Common.{◌≡◌, ℕ, zero, suc, ◌+◌, ◌∙◌, List, [], ◌∷◌, ◌++◌, length, take, ◌-◌, ◌%◌, slice_get, slice_index, Some, refl, ap, sym, subst, append_assoc, length-append, add_assoc, add-zero, zero-add, sum}
use Rattle.std.proofs.lemmas.List.{append-nil}
use Rattle.p8_image.specs.Layout.{total, padded, linked, codes_of, texts_of, table_bytes, object_bytes, objects_bytes, size_of, dat_offset, codes_offset, texts_offset, code_size, text_size, text_offsets, places_from, header_bytes, header_by, bases_of, variables_of, bytes_with, image_of}
use Rattle.p8_image.specs.Places.{Stands, AllPartsStand, base_of}
use Rattle.p8_image.specs.declared.clocks.Clock.{Clock}
use Rattle.p8_image.specs.declared.parts.MethodPart.{MethodPart}
use Rattle.p8_image.specs.declared.parts.ObjectPart.{ObjectPart}
use Rattle.p8_image.proofs.Imaging.{length-linked, length-padded, length-codes, length-table, length-object}

regroup : (a b y c d : List ℕ) → a ++ (b ++ y ++ c) ++ d ≡ (a ++ b) ++ y ++ (c ++ d)
regroup a b y c d = simp append_assoc

-- what stands in what stands in a memory stands in the memory
inside : (memory : List ℕ) (p q : ℕ) (xs ys : List ℕ) → Stands memory p xs → Stands xs q ys → Stands memory (p + q) ys
inside memory p q xs ys outer inner = record {
  before = outer.before ++ inner.before;
  after = inner.after ++ outer.after;
  is = outer.is ∙ ap (λ (all : List ℕ). outer.before ++ all ++ outer.after) inner.is
      ∙ regroup outer.before inner.before ys inner.after outer.after;
  there = length-append outer.before inner.before ∙ ap (λ (n : ℕ). n + length inner.before) outer.there ∙ ap (λ (n : ℕ). p + n) inner.there;
}

front : (memory : List ℕ) (p : ℕ) (xs ys : List ℕ) → Stands memory p (xs ++ ys) → Stands memory p xs
front memory p xs ys s = record {
  before = s.before;
  after = ys ++ s.after;
  is = s.is ∙ simp append_assoc;
  there = s.there;
}

back : (memory : List ℕ) (p n : ℕ) (xs ys : List ℕ) → length xs ≡ n → Stands memory p (xs ++ ys) → Stands memory (p + n) ys
back memory p n xs ys h s = record {
  before = s.before ++ xs;
  after = s.after;
  is = s.is ∙ simp append_assoc;
  there = length-append s.before xs ∙ ap (λ (k : ℕ). k + length xs) s.there ∙ ap (λ (k : ℕ). p + k) h;
}

moved : (memory : List ℕ) (p q : ℕ) (xs : List ℕ) → p ≡ q → Stands memory p xs → Stands memory q xs
moved memory p q xs e s = let P : ℕ → Type 0 = λ place. Stands memory place xs in subst P e s

-- the codes of methods, one after the other
code_stands : (memory : List ℕ) (offset : ℕ → ℕ) (p : ℕ) (methods : List MethodPart) → Stands memory p (codes_of offset methods)
    → (m : ℕ) (method : MethodPart) → slice_get methods m ≡ Some method
    → Stands memory (p + total code_size (take m methods)) (linked offset method.uses method.code)
code_stands memory offset p [] s m method h = absurd (cc)
code_stands memory offset p (first ∷ methods) s zero method h =
    let same : first ≡ method = cc in
    let P : MethodPart → Type 0 = λ x. Stands memory (p + 0) (linked offset x.uses x.code) in
    subst P same (moved memory p (p + 0) _ (sym (add-zero p)) (front memory p (linked offset first.uses first.code) (codes_of offset methods) s))
code_stands memory offset p (first ∷ methods) s (suc m) method h =
    let rest = back memory p (code_size first) (linked offset first.uses first.code) (codes_of offset methods) (length-linked offset first.uses first.code) s in
    moved memory _ _ _ (add_assoc p (code_size first) (total code_size (take m methods)))
    (code_stands memory offset (p + code_size first) methods rest m method h)

-- texts, one after the other
text_stands : (memory : List ℕ) (p : ℕ) (texts : List (List ℕ)) → Stands memory p (texts_of texts)
    → (k : ℕ) (text : List ℕ) → slice_get texts k ≡ Some text
    → Stands memory (slice_index (places_from text_size p texts) k) (text ++ 0 ∷ [])
text_stands memory p [] s k text h = absurd (cc)
text_stands memory p (first ∷ texts) s zero text h =
    let same : first ≡ text = cc in
    let P : List ℕ → Type 0 = λ x. Stands memory p (x ++ 0 ∷ []) in
    subst P same (front memory p (first ++ 0 ∷ []) (texts_of texts) s)
text_stands memory p (first ∷ texts) s (suc k) text h =
    text_stands memory (p + text_size first) texts (back memory p (text_size first) (first ++ 0 ∷ []) (texts_of texts) (length-append first (0 ∷ [])) s) k text h

-- objects, one after the other
object_stands : (memory bases variables : List ℕ) (p : ℕ) (objects : List ObjectPart) → Stands memory p (objects_bytes bases variables p objects)
    → (f : ℕ) (object : ObjectPart) → slice_get objects f ≡ Some object
    → Stands memory (slice_index (places_from size_of p objects) f) (object_bytes bases variables (slice_index (places_from size_of p objects) f) object)
object_stands memory bases variables p [] s f object h = absurd (cc)
object_stands memory bases variables p (first ∷ objects) s zero object h =
    let same : first ≡ object = cc in
    let P : ObjectPart → Type 0 = λ x. Stands memory p (object_bytes bases variables p x) in
    subst P same (front memory p (object_bytes bases variables p first) (objects_bytes bases variables (p + size_of first) objects) s)
object_stands memory bases variables p (first ∷ objects) s (suc f) object h =
    object_stands memory bases variables (p + size_of first) objects
    (back memory p (size_of first) (object_bytes bases variables p first) (objects_bytes bases variables (p + size_of first) objects)
    (length-object bases variables p first) s) f object h

whole : (xs : List ℕ) → Stands xs 0 xs
whole xs = record { before = []; after = []; is = sym (append-nil xs); there = refl }

-- the parts of an object
record ObjectParts (bytes table : List ℕ) (object : ObjectPart) : Type 0 where
  table_is : Stands bytes 0 table
  dat : Stands bytes (dat_offset object) object.dat
  codes : Stands bytes (codes_offset object) (codes_of (slice_index (text_offsets object)) object.methods)
  texts : Stands bytes (texts_offset object) (texts_of object.texts)

object_parts : (bases variables : List ℕ) (base : ℕ) (object : ObjectPart) → ObjectParts (object_bytes bases variables base object) (table_bytes bases variables base object) object
object_parts bases variables base object =
    let table = table_bytes bases variables base object in
    let dat = padded object.dat in
    let codes = codes_of (slice_index (text_offsets object)) object.methods in
    let texts = texts_of object.texts in
    let bytes = object_bytes bases variables base object in
    let all = front bytes 0 (table ++ dat ++ codes ++ texts) _ (whole bytes) in
    let without_texts = front bytes 0 (table ++ dat ++ codes) texts all in
    let table_length = length-table bases variables base object in
    let dat_length = length-padded object.dat in
    let codes_length = length-codes (slice_index (text_offsets object)) object.methods in
    let front_length : length (table ++ dat) ≡ codes_offset object =
    length-append table dat ∙ ap (λ (n : ℕ). n + length dat) table_length ∙ ap (λ (n : ℕ). dat_offset object + n) dat_length in
    let most_length : length (table ++ dat ++ codes) ≡ texts_offset object =
    length-append (table ++ dat) codes ∙ ap (λ (n : ℕ). n + length codes) front_length ∙ ap (λ (n : ℕ). codes_offset object + n) codes_length in
    record {
      table_is = front bytes 0 table dat (front bytes 0 (table ++ dat) codes without_texts);
      dat = front bytes (dat_offset object) object.dat _
          (moved bytes _ _ _ (zero-add (dat_offset object)) (back bytes 0 (dat_offset object) table dat table_length (front bytes 0 (table ++ dat) codes without_texts)));
      codes = moved bytes _ _ _ (zero-add (codes_offset object)) (back bytes 0 (codes_offset object) (table ++ dat) codes front_length without_texts);
      texts = moved bytes _ _ _ (zero-add (texts_offset object)) (back bytes 0 (texts_offset object) (table ++ dat ++ codes) texts most_length all);
    }

pub all_parts_stand : (clock : Clock) (objects : List ObjectPart) → AllPartsStand clock objects
all_parts_stand clock objects f object h =
    let memory = image_of clock objects in
    let checksum = (0x14 + 256 - sum (bytes_with clock objects 0) % 256) % 256 in
    let header = header_bytes clock checksum (header_by objects) in
    let body = objects_bytes (bases_of objects) (variables_of objects) 16 objects in
    let outer : Stands memory 16 body = moved memory _ _ body (zero-add 16) (back memory 0 16 header body refl (whole memory)) in
    let base = base_of objects f in
    let bytes = object_bytes (bases_of objects) (variables_of objects) base object in
    let here : Stands memory base bytes = object_stands memory (bases_of objects) (variables_of objects) 16 objects outer f object h in
    let parts = object_parts (bases_of objects) (variables_of objects) base object in
    let codes = codes_of (slice_index (text_offsets object)) object.methods in
    record {
      table = moved memory _ _ _ (add-zero base)
          (inside memory base 0 bytes (table_bytes (bases_of objects) (variables_of objects) base object) here parts.table_is);
      dat = inside memory base (dat_offset object) bytes object.dat here parts.dat;
      codes = λ m method e. moved memory _ _ _ (add_assoc base (codes_offset object) (total code_size (take m object.methods)))
          (code_stands memory (slice_index (text_offsets object)) (base + codes_offset object) object.methods
          (inside memory base (codes_offset object) bytes codes here parts.codes) m method e);
      texts = λ k text e. inside memory base (slice_index (text_offsets object) k) bytes (text ++ 0 ∷ []) here
          (text_stands bytes (texts_offset object) object.texts parts.texts k text e);
    }
