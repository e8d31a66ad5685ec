-- A map is made of lines, each at the address of what it tells.
use Rattle.std.proofs.Common.{◌≡◌, refl, sym, ap, ap₂, ◌∙◌, subst, ℕ, zero, suc, ◌+◌, ◌*◌, ◌%◌, ◌^◌, ◌<◌, ◌==◌, true, false, if◌then◌else◌, Bool, List, [], ◌∷◌, ◌++◌, append_assoc, length, slice_get, slice_index, Option, Some, None, arith}
use Rattle.std.specs.Prelude.{◌/◌, take, codes, All}
use Rattle.std.specs.List.{flat_map}
use Rattle.std.proofs.lemmas.Bool.Decides.{nat_tests}
use Rattle.std.proofs.lemmas.List.{append-nil}
use Rattle.std.proofs.lemmas.List.Elements.{All-head, All-tail}
use Rattle.std.proofs.lemmas.Option.{none-some}
use Rattle.p8_image.specs.declared.parts.Variable.{Variable}
use Rattle.p8_image.specs.declared.parts.MethodPart.{MethodPart}
use Rattle.p8_image.specs.declared.parts.ObjectPart.{ObjectPart}
use Rattle.p8_kinds.specs.declared.name_kinds.Label.{Label}
use Rattle.p8_map.specs.declared.names.MethodNames.{MethodNames}
use Rattle.p8_map.specs.declared.names.FileNames.{FileNames}
use Rattle.p8_legend.specs.declared.ranges.Range.{Range}
use Rattle.p8_map.specs.declared.instances.Instance.{Instance}
use Rattle.p8_meaning.specs.Programs.{Addresses}
use Rattle.p8_image.specs.Listing.{address_after}
use Rattle.p8_image.specs.Layout.{total, code_size, codes_offset, code_offset, size_of, places_from, text_size, texts_offset, inner_offset}
use Rattle.p8_image.specs.Places.{base_of, text_place}
use Rattle.p8_instr.specs.Numerals.{hex}
use Rattle.p8_map.specs.Map.{size_word, object_line, file_name, child_line, child_lines, label_line, method_line, frame_lines, method_lines, after_codes, text_line, text_lines, object_lines, objects_lines, bases_from, instance_line, variable_line, sized_line, sized_bytes, sized_lines, after_size, variable_lines, lines_by, instance_lines, instances_from}
use Rattle.p8_legend.specs.Stands.{IsFileAt, variable_range}
use Rattle.p8_legend.specs.MapLines.{IsMadeOf, no_line, one_more, IsMapLine, of_object, of_child, of_text, of_instance, of_label, of_method, of_variable}
use Rattle.p8_legend.proofs.RightNames.{bases-at, AreOfSize, greater, none-greater, longs-greater, words-greater, after-is, IsInstanceAt, all-instances, one-of}

module _ {P : List ℕ → Type 0} where
  pub both : (a b : List ℕ) → IsMadeOf P a → IsMadeOf P b → IsMadeOf P (a ++ b)
  both _ b no_line more = more
  both _ b (one_more {line} {text} is rest) more = subst (IsMadeOf P) (sym (append_assoc line text b)) (one_more is (both text b rest more))

  alone : (line : List ℕ) → P line → IsMadeOf P line
  alone line is = subst (IsMadeOf P) (append-nil line) (one_more is no_line)

  each-line : {A : Type 0} (f : A → List ℕ) (xs : List A) → ((k : ℕ) (x : A) → slice_get xs k ≡ Some x → P (f x)) → IsMadeOf P (flat_map f xs)
  each-line f [] each = no_line
  each-line f (x ∷ xs) each = one_more (each 0 x refl) (each-line f xs (λ k. each (suc k)))

-- ---- where texts stand

after-all : (place : ℕ) (methods : List MethodPart) → place < 65536 → after_codes place methods ≡ (place + total code_size methods) % 65536
after-all place [] less = omega (arith, less)
after-all place (method ∷ methods) less = let rest = after-all (address_after place (length method.code)) methods (omega arith) in omega (arith, rest)

texts-at : (place : ℕ) (texts : List (List ℕ)) (k : ℕ) (text : List ℕ) → slice_get texts k ≡ Some text → slice_index (places_from text_size place texts) k ≡ place + total text_size (take k texts)
texts-at place [] k text at = absurd (none-some text at)
texts-at place (x ∷ texts) zero text at = omega arith
texts-at place (x ∷ texts) (suc k) text at = let rest = texts-at (place + text_size x) texts k text at in omega (arith, rest)

bases-low : (place : ℕ) (objects : List ObjectPart) (f : ℕ) → place < 65536 → slice_index (bases_from place objects) f ≡ slice_index (places_from size_of place objects) f % 65536
bases-low place [] f less = refl
bases-low place (x ∷ objects) zero less = omega (arith, less)
bases-low place (x ∷ objects) (suc f) less = low-from (address_after place (size_of x)) (place + size_of x) objects f (omega arith)
  where
    low-from : (a b : ℕ) (os : List ObjectPart) (g : ℕ) → a ≡ b % 65536 → slice_index (bases_from a os) g ≡ slice_index (places_from size_of b os) g % 65536
    low-from a b [] g is = refl
    low-from a b (o ∷ os) zero is = is
    low-from a b (o ∷ os) (suc g) is = low-from (address_after a (size_of o)) (b + size_of o) os g (omega (arith, is))

-- a label's line, by where it stands
abbrev label_at : (place : ℕ) → Label → List ℕ
label_at place label =
    hex 4 place ++ codes " label " ++ label.name
    ++ codes " cog " ++ hex 3 (label.cog / 4) ++ codes " " ++ size_word label.size ++ 10 ∷ []

-- ---- lines

module _ {P : List ℕ → Type 0} where
  children-lines : (files : List FileNames) (place : ℕ) (names : List (List ℕ)) (instances : List ℕ) → place < 65536
      → ((i : ℕ) (name : List ℕ) (f a : ℕ) → slice_get names i ≡ Some name → slice_get instances i ≡ Some f → a ≡ (place + 4 * i) % 65536 → P (child_line a name (file_name files f)))
      → IsMadeOf P (child_lines files place names instances)
  children-lines files place [] instances less each = no_line
  children-lines files place (name ∷ names) [] less each = no_line
  children-lines files place (name ∷ names) (f ∷ instances) less each =
      one_more (each 0 name f place refl refl (omega (arith, less))) (children-lines files (address_after place 4) names instances (omega arith) (λ i x g a at there is. each (suc i) x g a at there (omega (arith, is))))

  methods-lines : (place number : ℕ) (names : List MethodNames) (methods : List MethodPart) → place < 65536
      → ((k : ℕ) (m : MethodNames) (method : MethodPart) (a n : ℕ) → slice_get names k ≡ Some m → slice_get methods k ≡ Some method → a ≡ (place + total code_size (take k methods)) % 65536 → n ≡ number + k
      → P (method_line a n m.name ++ frame_lines m))
      → IsMadeOf P (method_lines place number names methods)
  methods-lines place number [] methods less each = no_line
  methods-lines place number (m ∷ names) [] less each = no_line
  methods-lines place number (m ∷ names) (method ∷ methods) less each =
      one_more (each 0 m method place number refl refl (omega (arith, less)) (omega arith))
      (methods-lines (address_after place (length method.code)) (number + 1) names methods (omega arith) (λ k x y a n at there is count. each (suc k) x y a n at there (omega (arith, is)) (omega (arith, count))))

  texts-lines : (place : ℕ) (texts : List (List ℕ)) → place < 65536
      → ((k : ℕ) (text : List ℕ) (a : ℕ) → slice_get texts k ≡ Some text → a ≡ (place + total text_size (take k texts)) % 65536 → P (text_line a text)) → IsMadeOf P (text_lines place texts)
  texts-lines place [] less each = no_line
  texts-lines place (text ∷ texts) less each =
      one_more (each 0 text place refl (omega (arith, less))) (texts-lines (address_after place (text_size text)) texts (omega arith) (λ k x a at is. each (suc k) x a at (omega (arith, is))))

  lines-of-objects : (all files : List FileNames) (base : ℕ) (objects : List ObjectPart) → base < 65536
      → ((f : ℕ) (names : FileNames) (object : ObjectPart) (b : ℕ) → slice_get files f ≡ Some names → slice_get objects f ≡ Some object → b ≡ (base + total size_of (take f objects)) % 65536 → IsMadeOf P (object_lines all b names object))
      → IsMadeOf P (objects_lines all base files objects)
  lines-of-objects all [] base objects less each = no_line
  lines-of-objects all (names ∷ files) base [] less each = no_line
  lines-of-objects all (names ∷ files) base (object ∷ objects) less each =
      both (object_lines all base names object) (objects_lines all (address_after base (size_of object)) files objects) (each 0 names object base refl refl (omega (arith, less)))
      (lines-of-objects all files (address_after base (size_of object)) objects (omega arith) (λ f x y b at there is. each (suc f) x y b at there (omega (arith, is))))

  variables-lines : (size place : ℕ) (prefix : List ℕ) (names : List (List ℕ)) (variables : List Variable) → place < 65536
      → ((v : ℕ) (name : List ℕ) (variable : Variable) (a : ℕ) → slice_get names v ≡ Some name → slice_get variables v ≡ Some variable → a ≡ (place + total (sized_bytes size) (take v variables)) % 65536 → variable.size ≡ size
      → P (variable_line a prefix name variable))
      → IsMadeOf P (sized_lines size place prefix names variables)
  variables-lines size place prefix [] variables less each = no_line
  variables-lines size place prefix (name ∷ names) [] less each = no_line
  variables-lines size place prefix (name ∷ names) (x ∷ variables) less each =
      both (sized_line size place prefix name x) (sized_lines size (address_after place (sized_bytes size x)) prefix names variables)
      (by (x.size == size) (λ is. each 0 name x place refl refl (omega (arith, less)) (grind (arith, nat_tests))))
      (variables-lines size (address_after place (sized_bytes size x)) prefix names variables (omega arith) (λ v y z a at there is same. each (suc v) y z a at there (omega (arith, is)) same))
    where
      by : (b : Bool) → (b ≡ true → P (variable_line place prefix name x)) → IsMadeOf P (if b then variable_line place prefix name x else [])
      by true here = alone (variable_line place prefix name x) (here refl)
      by false here = no_line

-- ---- the whole

module _ (files : List FileNames) (objects : List ObjectPart) (addresses : Addresses)
    (inner : (f i : ℕ) (object : ObjectPart) → slice_get objects f ≡ Some object → addresses.object_variables f (length object.methods + 1 + i) ≡ inner_offset objects object i % 65536)
    (code : (f k : ℕ) (object : ObjectPart) → slice_get objects f ≡ Some object → addresses.code f (k + 1) ≡ code_offset object k)
    (sized : (f : ℕ) (object : ObjectPart) → slice_get objects f ≡ Some object → AreOfSize object.variables) where
  abbrev IsLine : List ℕ → Type 0
  IsLine = IsMapLine files objects addresses

  of-object : (f : ℕ) (names : FileNames) (object : ObjectPart) (b : ℕ) → slice_get files f ≡ Some names → slice_get objects f ≡ Some object → b ≡ (16 + total size_of (take f objects)) % 65536
      → IsMadeOf IsLine (object_lines files b names object)
  of-object f names object b at there is =
      let base = bases-at 16 objects f object there in
      let here : IsFileAt files objects f names object = record { is_file = at; is_object = there } in
      let same : b ≡ base_of objects f % 65536 = omega (arith, is, base) in
      let codes_at = address_after b (codes_offset object) in
      let texts_at = after_codes codes_at object.methods in
      let after = after-all codes_at object.methods (omega arith) in
      both _ (text_lines texts_at object.texts)
      (both _ (method_lines codes_at 1 names.methods object.methods)
      (both _ (flat_map (label_line b) names.labels)
      (both (object_line b names.file) (child_lines files (address_after b (4 + 4 * length object.methods)) names.instances object.instances)
      (alone (object_line b names.file) (subst (λ a. IsLine (object_line a names.file)) (sym same) (of_object here)))
      (children-lines files (address_after b (4 + 4 * length object.methods)) names.instances object.instances (omega arith)
      (λ i name child a at_name at_child a_is. subst (λ p. IsLine (child_line p name (file_name files child))) (let e : (base_of objects f + 4 * (length object.methods + 1 + i)) % 2 ^ 16 ≡ a = omega (arith, same, a_is) in e) (of_child i here at_name at_child))))
      (each-line (label_line b) names.labels (λ k label at_label.
      subst IsLine (label-same label) (of_label (record { f = f; names = names; object = object; there = here; k = k; label = label; is_label = at_label })))))
      (methods-lines codes_at 1 names.methods object.methods (omega arith) (λ k m method a n at_name at_method a_is count.
      let offset = code f k object there in
      subst IsLine
      (ap₂ (λ (p q : ℕ). method_line p q m.name ++ frame_lines m) (let e : (base_of objects f + addresses.code f (k + 1)) % 2 ^ 16 ≡ a = omega (arith, same, offset, a_is) in e) (let e : k + 1 ≡ n = omega (arith, count) in e))
      (of_method (record { f = f; names = names; object = object; there = here; k = k; m = m; is_name = at_name; method = method; is_method = at_method })))))
      (texts-lines texts_at object.texts (omega (arith, after)) (λ k text a at_text a_is.
      let stands = texts-at (texts_offset object) object.texts k text at_text in
      subst (λ p. IsLine (text_line p text)) (let e : text_place objects f object k % 2 ^ 16 ≡ a = omega (arith, same, stands, after, a_is) in e) (of_text k here at_text)))
    where
      label-same : (label : Label) → label_line (base_of objects f) label ≡ label_line b label
      label-same label = ap (λ (p : ℕ). label_at p label) (let base = bases-at 16 objects f object there in let e : address_after (base_of objects f) label.offset ≡ address_after b label.offset = omega (arith, is, base) in e)

  sized-line : (i : Instance) (h : IsInstanceAt files objects addresses inner i) (names : FileNames) (object : ObjectPart) → slice_get files i.file ≡ Some names → slice_get objects i.file ≡ Some object
      → (size before : ℕ) → before ≡ (i.place + greater size object.variables) % 65536
      → (v : ℕ) (name : List ℕ) (variable : Variable) (a : ℕ) → slice_get names.variables v ≡ Some name → slice_get object.variables v ≡ Some variable
      → a ≡ (before + total (sized_bytes size) (take v object.variables)) % 65536 → variable.size ≡ size → IsLine (variable_line a i.prefix name variable)
  sized-line i h names object at there size before before_is v name variable a at_name at_variable a_is of =
      let x = one-of files objects addresses inner code sized i h names object at there size before before_is v name variable a at_name at_variable a_is of in
      let place : (variable_range files objects addresses x.0).address ≡ a = ap (λ (r : Range). r.address) (sym x.4) in
      subst IsLine (λ j. variable_line (place j) (x.1 j) (x.2 j) (x.3 j)) (of_variable x.0)

  of-instance : (i : Instance) → IsInstanceAt files objects addresses inner i → IsMadeOf IsLine (instance_lines files objects (bases_from 16 objects) i)
  of-instance i h = by (slice_get files i.file) (slice_get objects i.file) refl refl
    where
      base : ℕ
      base = slice_index (bases_from 16 objects) i.file

      by : (x : Option FileNames) (y : Option ObjectPart) → slice_get files i.file ≡ x → slice_get objects i.file ≡ y → IsMadeOf IsLine (lines_by base i x y)
      by None y at there = no_line
      by (Some names) None at there = no_line
      by (Some names) (Some object) at there =
          let here : IsFileAt files objects h.instance.file names object = record { is_file = ap (slice_get files) h.file_is ∙ at; is_object = ap (slice_get objects) h.file_is ∙ there } in
          let vs = object.variables in
          let low = h.low in
          let sizes = sized i.file object there in
          let longs = none-greater vs sizes in
          let words = longs-greater vs sizes in
          let bytes = words-greater vs sizes in
          let after_longs = after-is 4 i.place vs low in
          let second = after_size 4 i.place vs in
          let after_words = after-is 2 second vs (omega (arith, after_longs)) in
          let third = after_size 2 second vs in
          let stands = bases-low 16 objects i.file (omega arith) in
          let whole : base_of objects h.instance.file % 2 ^ 16 ≡ base = ap (λ (g : ℕ). base_of objects g % 2 ^ 16) h.file_is ∙ sym stands in
          both (instance_line i.place i.prefix names.file base) (variable_lines i.place i.prefix names.variables vs)
          (alone (instance_line i.place i.prefix names.file base) (subst IsLine (ap₂ (λ (p b : ℕ). instance_line p i.prefix names.file b) h.place_is whole) (of_instance h.has_path here)))
          (both _ (sized_lines 1 third i.prefix names.variables vs)
          (both (sized_lines 4 i.place i.prefix names.variables vs) (sized_lines 2 second i.prefix names.variables vs)
          (variables-lines 4 i.place i.prefix names.variables vs low (sized-line i h names object at there 4 i.place (omega (arith, longs, low))))
          (variables-lines 2 second i.prefix names.variables vs (omega (arith, after_longs)) (sized-line i h names object at there 2 second (omega (arith, after_longs, words)))))
          (variables-lines 1 third i.prefix names.variables vs (omega (arith, after_words)) (sized-line i h names object at there 1 third (omega (arith, after_words, after_longs, bytes)))))

  made-of-all : {A : Type 0} (f : A → List ℕ) (Q : A → Type 0) (xs : List A) → All Q xs → ((x : A) → Q x → IsMadeOf IsLine (f x)) → IsMadeOf IsLine (flat_map f xs)
  made-of-all f Q [] all each = no_line
  made-of-all f Q (x ∷ xs) all each = both (f x) (flat_map f xs) (each x (All-head Q x xs all)) (made-of-all f Q xs (All-tail Q x xs all) each)

  pub map-made : (variables_at : ℕ) → variables_at < 65536 → addresses.top.variables ≡ variables_at → addresses.top.file ≡ 0
      → IsMadeOf IsLine (objects_lines files 16 files objects ++ flat_map (instance_lines files objects (bases_from 16 objects)) (instances_from variables_at files objects))
  map-made variables_at less at file =
      both (objects_lines files 16 files objects) (flat_map (instance_lines files objects (bases_from 16 objects)) (instances_from variables_at files objects))
      (lines-of-objects files files 16 objects (omega arith) of-object)
      (made-of-all (instance_lines files objects (bases_from 16 objects)) (IsInstanceAt files objects addresses inner) (instances_from variables_at files objects) (all-instances files objects addresses inner variables_at less at file) of-instance)
