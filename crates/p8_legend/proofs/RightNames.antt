-- Each range of a legend's names is that of something in the hub.
use Rattle.std.proofs.Common.{◌≡◌, refl, sym, ap, ap₂, ◌∙◌, subst, inl, inr, ◌⊎◌, ℕ, zero, suc, ◌+◌, ◌%◌, ◌<◌, ◌≤◌, ◌==◌, ◌||◌, nat_lt, true, false, if◌then◌else◌, Bool, List, [], ◌∷◌, ◌++◌, length, length-append, slice_get, slice_index, Option, Some, None, arith}
use Rattle.std.specs.Prelude.{take, drop, filter, codes, All}
use Rattle.std.proofs.lemmas.Bool.Decides.{nat_tests}
use Rattle.std.proofs.lemmas.List.Elements.{All-append, All-cons, All-head, All-nil, All-tail}
use Rattle.std.proofs.lemmas.Option.{none-some, same_Some}
use Rattle.p8_image.specs.declared.parts.Variable.{Variable}
use Rattle.p8_image.specs.declared.parts.MethodPart.{MethodPart}
use Rattle.p8_image.specs.declared.parts.ObjectPart.{ObjectPart}
use Rattle.p8_kinds.specs.declared.name_kinds.Label.{Label}
use Rattle.p8_map.specs.declared.names.MethodNames.{MethodNames}
use Rattle.p8_map.specs.declared.names.FileNames.{FileNames}
use Rattle.p8_legend.specs.declared.ranges.Range.{Range}
use Rattle.p8_map.specs.declared.instances.Instance.{Instance}
use Rattle.p8_meaning.specs.Programs.{Instance as Standing, Addresses}
use Rattle.p8_image.specs.Listing.{address_after}
use Rattle.p8_image.specs.Layout.{total, code_size, codes_offset, code_offset, size_of, places_from, variable_size, variable_offset, own_variables, variables_of, inner_offset}
use Rattle.p8_image.specs.Places.{base_of}
use Rattle.p8_legend.specs.Ranges.{last_end}
use Rattle.p8_map.specs.Map.{low, own_instance, one_inside, all_inside, with_inside, instances_within, instances_from, sized_bytes, after_size}
use Rattle.p8_legend.specs.ProjectLegends.{Named, and_one, and_if, path_of, label_end, with_labels, with_methods, with_object, with_objects, with_sized, with_variables, with_instance, with_instances, names_in}
use Rattle.p8_meaning.specs.Programs.{instance_at}
use Rattle.p8_legend.specs.Stands.{HasPath, top_path, inner_path, IsFileAt, NamedVariable, variable_range, IsNameOf, of_label, of_method, of_variable}

-- ---- what holds of each range with its text

module _ (P : List ℕ → Range → Type 0) where
  pub record AreAll (n : Named) : Type 0 where
    pub beside : length n.0 ≡ length n.1
    pub each : (i : ℕ) (r : Range) (text : List ℕ) → slice_get n.0 i ≡ Some r → slice_get n.1 i ≡ Some text → P text r

  pub no-names : AreAll ([], [])
  no-names = record { beside = refl; each = λ i r text at there. absurd (none-some r at) }

  last-one : {X : Type 0} (xs : List X) (x y : X) (i : ℕ) → slice_get (xs ++ x ∷ []) i ≡ Some y → (slice_get xs i ≡ Some y) ⊎ ((i ≡ length xs) × (x ≡ y))
  last-one [] x y zero at = inr (refl, same_Some x y at)
  last-one [] x y (suc i) at = absurd (none-some y at)
  last-one (z ∷ xs) x y zero at = inl at
  last-one (z ∷ xs) x y (suc i) at = elim (last-one xs x y i at) [ inl h ↦ inl h | inr h ↦ inr (ap suc h.0, h.1) ]

  inside : {X : Type 0} (xs : List X) (y : X) (i : ℕ) → slice_get xs i ≡ Some y → i < length xs
  inside [] y i at = absurd (none-some y at)
  inside (x ∷ xs) y zero at = omega arith
  inside (x ∷ xs) y (suc i) at = let rest = inside xs y i at in omega (arith, rest)

  put : (n : Named) (r : Range) (text : List ℕ) → AreAll n → P text r → AreAll (n.0 ++ r ∷ [], n.1 ++ text ∷ [])
  put n r text all here =
      let beside = all.beside in
      let one = length-append n.0 (r ∷ []) in
      let two = length-append n.1 (text ∷ []) in
      record {
        beside = omega (arith, beside, one, two);
        each = λ i q t at there. elim (last-one n.0 r q i at) [
          | inl old ↦ elim (last-one n.1 text t i there) [
            | inl told ↦ all.each i q t old told
            | inr late ↦ absurd (let within = inside n.0 q i old in let end = late.0 in omega (arith, within, end, beside))
          ]
          | inr new ↦ elim (last-one n.1 text t i there) [
            | inl told ↦ absurd (let within = inside n.1 t i told in let end = new.0 in omega (arith, within, end, beside))
            | inr late ↦ subst (λ u. P u q) late.1 (subst (P text) new.1 here)
          ]
        ];
      }

  kept-by : (b : Bool) (n : Named) (r : Range) (text : List ℕ) → AreAll n → (b ≡ false → P text r) → AreAll (if b then n else (n.0 ++ r ∷ [], n.1 ++ text ∷ []))
  kept-by true n r text all here = all
  kept-by false n r text all here = put n r text all (here refl)

  no-less : (a b c : ℕ) → (nat_lt a c || nat_lt b a) ≡ false → a ≤ b
  no-less a b c h = grind (arith, nat_tests)

  -- one more, of which it holds if it doesn't end before it begins
  pub one-name : (n : Named) (address end : ℕ) (text : List ℕ) → AreAll n → (address ≤ end → P text (record { address = address; end = end })) → AreAll (and_one n address end text)
  one-name n address end text all here =
      kept-by (nat_lt address (last_end 0 n.0) || nat_lt end address) n (record { address = address; end = end }) text all (λ none. here (no-less address end (last_end 0 n.0) none))

  -- ---- labels

  pub labels-named : (n : Named) (prefix : List ℕ) (base codes_at : ℕ) (labels : List Label) → AreAll n
      → ((k : ℕ) (label : Label) → slice_get labels k ≡ Some label → P (prefix ++ label.name) (record { address = address_after base label.offset; end = label_end base codes_at (drop (suc k) labels) }))
      → AreAll (with_labels n prefix base codes_at labels)
  labels-named n prefix base codes_at [] all each = all
  labels-named n prefix base codes_at (label ∷ labels) all each =
      labels-named (and_one n (address_after base label.offset) (label_end base codes_at labels) (prefix ++ label.name)) prefix base codes_at labels
      (one-name n (address_after base label.offset) (label_end base codes_at labels) (prefix ++ label.name) all (λ some. each 0 label refl))
      (λ k. each (suc k))

  -- ---- methods

  pub methods-named : (n : Named) (prefix : List ℕ) (place : ℕ) (names : List MethodNames) (methods : List MethodPart) → place < 65536 → AreAll n
      → ((k : ℕ) (m : MethodNames) (method : MethodPart) (a : ℕ) → slice_get names k ≡ Some m → slice_get methods k ≡ Some method → a ≡ (place + total code_size (take k methods)) % 65536
      → P (prefix ++ m.name) (record { address = a; end = address_after a (length method.code) }))
      → AreAll (with_methods n prefix place names methods)
  methods-named n prefix place [] methods low all each = all
  methods-named n prefix place (m ∷ names) [] low all each = all
  methods-named n prefix place (m ∷ names) (method ∷ methods) low all each =
      let next = address_after place (length method.code) in
      methods-named (and_one n place next (prefix ++ m.name)) prefix next names methods (omega arith)
      (one-name n place next (prefix ++ m.name) all (λ some. each 0 m method place refl refl (omega (arith, low))))
      (λ k x y a at there is. each (suc k) x y a at there (omega (arith, is)))

  -- ---- objects

  pub objects-named : (n : Named) (all_files : List FileNames) (parts : List ObjectPart) (number base : ℕ) (files : List FileNames) (objects : List ObjectPart) → base < 65536 → AreAll n
      → ((k : ℕ) (names : FileNames) (object : ObjectPart) (b : ℕ) (so_far : Named) → slice_get files k ≡ Some names → slice_get objects k ≡ Some object → b ≡ (base + total size_of (take k objects)) % 65536
      → AreAll so_far → AreAll (with_object so_far (path_of all_files parts (length parts) (number + k)) b names object))
      → AreAll (with_objects n all_files parts number base files objects)
  objects-named n all_files parts number base [] objects low all each = all
  objects-named n all_files parts number base (names ∷ files) [] low all each = all
  objects-named n all_files parts number base (names ∷ files) (object ∷ objects) low all each =
      let next = address_after base (size_of object) in
      let none : number + 0 ≡ number = omega arith in
      let here : AreAll (with_object n (path_of all_files parts (length parts) number) base names object) =
      subst (λ f. AreAll (with_object n (path_of all_files parts (length parts) f) base names object)) none (each 0 names object base n refl refl (omega (arith, low)) all) in
      objects-named (with_object n (path_of all_files parts (length parts) number) base names object) all_files parts (number + 1) next files objects (omega arith) here
      (λ k x y b so_far at there is are. subst (λ f. AreAll (with_object so_far (path_of all_files parts (length parts) f) b x y)) (more number k) (each (suc k) x y b so_far at there (omega (arith, is)) are))
    where
      more : (a k : ℕ) → a + suc k ≡ a + 1 + k
      more a k = omega arith

  -- ---- variables

  -- one more, if it is asked for
  name-if : (b : Bool) (n : Named) (address end : ℕ) (text : List ℕ) → AreAll n → (b ≡ true → P text (record { address = address; end = end })) → AreAll (and_if b n address end text)
  name-if false n address end text all here = all
  name-if true n address end text all here = one-name n address end text all (λ some. here refl)

  same-size : (a b : ℕ) → (a == b) ≡ true → a ≡ b
  same-size a b is = grind (arith, nat_tests)

  pub sized-named : (n : Named) (size place : ℕ) (prefix : List ℕ) (names : List (List ℕ)) (variables : List Variable) → place < 65536 → AreAll n
      → ((v : ℕ) (name : List ℕ) (variable : Variable) (a : ℕ) → slice_get names v ≡ Some name → slice_get variables v ≡ Some variable → a ≡ (place + total (sized_bytes size) (take v variables)) % 65536
      → variable.size ≡ size → P (prefix ++ name) (record { address = a; end = address_after a (sized_bytes size variable) }))
      → AreAll (with_sized n size place prefix names variables)
  sized-named n size place prefix [] variables low all each = all
  sized-named n size place prefix (name ∷ names) [] low all each = all
  sized-named n size place prefix (name ∷ names) (x ∷ variables) low all each =
      let next = address_after place (sized_bytes size x) in
      sized-named (and_if (x.size == size) n place next (prefix ++ name)) size next prefix names variables (omega arith)
      (name-if (x.size == size) n place next (prefix ++ name) all (λ is. each 0 name x place refl refl (omega (arith, low)) (same-size x.size size is)))
      (λ v y z a at there is. each (suc v) y z a at there (omega (arith, is)))

  -- ---- instances

  pub instances-named : (n : Named) (files : List FileNames) (objects : List ObjectPart) (Q : Instance → Type 0) (instances : List Instance) → AreAll n → All Q instances
      → ((so_far : Named) (i : Instance) (names : FileNames) (object : ObjectPart) → Q i → slice_get files i.file ≡ Some names → slice_get objects i.file ≡ Some object
      → AreAll so_far → AreAll (with_variables so_far i.place i.prefix names.variables object.variables))
      → AreAll (with_instances n files objects instances)
  instances-named n files objects Q [] all are each = all
  instances-named n files objects Q (i ∷ instances) all are each =
      instances-named (with_instance n i (slice_get files i.file) (slice_get objects i.file)) files objects Q instances
      (one (slice_get files i.file) (slice_get objects i.file) refl refl) (All-tail Q i instances are) each
    where
      one : (x : Option FileNames) (y : Option ObjectPart) → slice_get files i.file ≡ x → slice_get objects i.file ≡ y → AreAll (with_instance n i x y)
      one None y at there = all
      one (Some names) None at there = all
      one (Some names) (Some object) at there = each n i names object (All-head Q i instances are) at there all

-- ---- where objects and variables stand

pub bases-at : (place : ℕ) (objects : List ObjectPart) (f : ℕ) (object : ObjectPart) → slice_get objects f ≡ Some object → slice_index (places_from size_of place objects) f ≡ place + total size_of (take f objects)
bases-at place [] f object at = absurd (none-some object at)
bases-at place (x ∷ objects) zero object at = omega arith
bases-at place (x ∷ objects) (suc f) object at = let rest = bases-at (place + size_of x) objects f object at in omega (arith, rest)

one-size : (b : Bool) (v : Variable) (rest : List Variable) (n : ℕ) → n ≡ total variable_size rest → (if b then variable_size v else 0) + n ≡ total variable_size (if b then v ∷ rest else rest)
one-size true v rest n is = ap (λ k. variable_size v + k) is
one-size false v rest n is = omega (arith, is)

-- the variables of one size
pub of-size : (size : ℕ) (vs : List Variable) → total (sized_bytes size) vs ≡ total variable_size (filter (λ (x : Variable). x.size == size) vs)
of-size size [] = refl
of-size size (v ∷ vs) = one-size (v.size == size) v (filter (λ (x : Variable). x.size == size) vs) (total (sized_bytes size) vs) (of-size size vs)

pub after-is : (size place : ℕ) (vs : List Variable) → place < 65536 → after_size size place vs ≡ (place + total (sized_bytes size) vs) % 65536
after-is size place [] less = omega (arith, less)
after-is size place (v ∷ vs) less =
    let rest = after-is size (address_after place (sized_bytes size v)) vs (omega arith) in
    omega (arith, rest)

-- ---- where the instances of objects have their variables

pub low-at : (sizes : List ℕ) (f : ℕ) → slice_index (low sizes) f ≡ slice_index sizes f % 65536
low-at [] f = refl
low-at (size ∷ sizes) zero = refl
low-at (size ∷ sizes) (suc f) = low-at sizes f

module _ (files : List FileNames) (objects : List ObjectPart) (addresses : Addresses)
    (inner : (f i : ℕ) (object : ObjectPart) → slice_get objects f ≡ Some object → addresses.object_variables f (length object.methods + 1 + i) ≡ inner_offset objects object i % 65536) where
  pub record IsInstanceAt (i : Instance) : Type 0 where
    pub instance : Standing
    pub has_path : HasPath files objects addresses i.prefix instance
    pub file_is : instance.file ≡ i.file
    pub place_is : instance.variables ≡ i.place
    pub low : i.place < 65536

  abbrev sizes : List ℕ
  sizes = low (variables_of objects)

  own-is : (prefix : List ℕ) (f place : ℕ) (variables : List Variable) → IsInstanceAt (record { prefix = prefix; file = f; place = place }) → All IsInstanceAt (own_instance prefix f place variables)
  own-is prefix f place [] is = All-nil IsInstanceAt
  own-is prefix f place (v ∷ variables) is = All-cons IsInstanceAt (record { prefix = prefix; file = f; place = place }) [] is (All-nil IsInstanceAt)

  abbrev Within : (List ℕ → ℕ → ℕ → List Instance) → Type 0
  Within within = (prefix : List ℕ) (f place : ℕ) → IsInstanceAt (record { prefix = prefix; file = f; place = place }) → All IsInstanceAt (within prefix f place)

  one-is : (within : List ℕ → ℕ → ℕ → List Instance) (size place : ℕ) (prefix name : List ℕ) (f : ℕ) → Within within → IsInstanceAt (record { prefix = prefix ++ name ++ codes "."; file = f; place = place })
      → All IsInstanceAt (one_inside within size place prefix name f)
  one-is within size place prefix name f each is = by (size == 0)
    where
      by : (b : Bool) → All IsInstanceAt (if b then [] else within (prefix ++ name ++ codes ".") f place)
      by true = All-nil IsInstanceAt
      by false = each (prefix ++ name ++ codes ".") f place is

  all-are : (within : List ℕ → ℕ → ℕ → List Instance) (place : ℕ) (prefix : List ℕ) (names : List (List ℕ)) (instances : List ℕ) → Within within → place < 65536
      → ((i : ℕ) (name : List ℕ) (f a : ℕ) → slice_get names i ≡ Some name → slice_get instances i ≡ Some f → a ≡ (place + total (slice_index (variables_of objects)) (take i instances)) % 65536
      → IsInstanceAt (record { prefix = prefix ++ name ++ codes "."; file = f; place = a }))
      → All IsInstanceAt (all_inside within sizes place prefix names instances)
  all-are within place prefix [] instances each less is = All-nil IsInstanceAt
  all-are within place prefix (name ∷ names) [] each less is = All-nil IsInstanceAt
  all-are within place prefix (name ∷ names) (f ∷ instances) each less is =
      let size = slice_index sizes f in
      let low_size = low-at (variables_of objects) f in
      All-append IsInstanceAt (one_inside within size place prefix name f) (all_inside within sizes (address_after place size) prefix names instances)
      (one-is within size place prefix name f each (is 0 name f place refl refl (omega (arith, less))))
      (all-are within (address_after place size) prefix names instances each (omega arith) (λ i x g a at there a_is. is (suc i) x g a at there (omega (arith, a_is, low_size))))

  next-is : (prefix : List ℕ) (f place : ℕ) (names : FileNames) (object : ObjectPart) → IsInstanceAt (record { prefix = prefix; file = f; place = place }) → slice_get files f ≡ Some names → slice_get objects f ≡ Some object
      → (i : ℕ) (name : List ℕ) (g a : ℕ) → slice_get names.instances i ≡ Some name → slice_get object.instances i ≡ Some g
      → a ≡ (address_after place (own_variables object) + total (slice_index (variables_of objects)) (take i object.instances)) % 65536 → IsInstanceAt (record { prefix = prefix ++ name ++ codes "."; file = g; place = a })
  next-is prefix f place names object h at there i name g a at_name at_child a_is =
      let outer = h.instance in
      let file = h.file_is in
      let position : ℕ = length object.methods + 1 + i in
      let object_there : slice_get objects outer.file ≡ Some object = ap (slice_get objects) file ∙ there in
      let offset = inner outer.file i object object_there in
      let begin = h.place_is in
      record {
        instance = instance_at addresses outer g position;
        has_path = inner_path i h.has_path (record { is_file = ap (slice_get files) file ∙ at; is_object = object_there }) at_name at_child;
        file_is = refl;
        place_is = omega (arith, offset, begin, a_is);
        low = omega (arith, a_is);
      }

  instances-are : (depth : ℕ) → Within (instances_within files objects sizes depth)
  unfolding instances_within
  instances-are zero prefix f place is = All-nil IsInstanceAt
  instances-are (suc depth) prefix f place is = by (slice_get files f) (slice_get objects f) refl refl (instances-are depth)
    where
      by : (x : Option FileNames) (y : Option ObjectPart) → slice_get files f ≡ x → slice_get objects f ≡ y → Within (instances_within files objects sizes depth)
          → All IsInstanceAt (with_inside (instances_within files objects sizes depth) sizes prefix f place x y)
      by None y at there each = All-nil IsInstanceAt
      by (Some names) None at there each = All-nil IsInstanceAt
      by (Some names) (Some object) at there each =
          All-append IsInstanceAt (own_instance prefix f place object.variables) (all_inside (instances_within files objects sizes depth) sizes (address_after place (own_variables object)) prefix names.instances object.instances)
          (own-is prefix f place object.variables is)
          (all-are (instances_within files objects sizes depth) (address_after place (own_variables object)) prefix names.instances object.instances each (omega arith)
          (next-is prefix f place names object is at there))

  pub all-instances : (variables_at : ℕ) → variables_at < 65536 → addresses.top.variables ≡ variables_at → addresses.top.file ≡ 0 → All IsInstanceAt (instances_from variables_at files objects)
  all-instances variables_at less at file =
      instances-are (length objects) [] 0 variables_at (record { instance = addresses.top; has_path = top_path; file_is = file; place_is = at; low = less })

-- ---- the sizes of variables

abbrev pub IsOfSize : Variable → Type 0
IsOfSize v = (v.size ≡ 1) ⊎ ((v.size ≡ 2) ⊎ (v.size ≡ 4))

abbrev pub AreOfSize : List Variable → Type 0
AreOfSize vs = (k : ℕ) (v : Variable) → slice_get vs k ≡ Some v → IsOfSize v

-- what f gives of 1, 2 and 4
pub at-sizes : (f g : ℕ → ℕ) (z : ℕ) → (z ≡ 1) ⊎ ((z ≡ 2) ⊎ (z ≡ 4)) → f 1 ≡ g 1 → f 2 ≡ g 2 → f 4 ≡ g 4 → f z ≡ g z
at-sizes f g z (inl is) one two four = ap f is ∙ one ∙ ap g (sym is)
at-sizes f g z (inr (inl is)) one two four = ap f is ∙ two ∙ ap g (sym is)
at-sizes f g z (inr (inr is)) one two four = ap f is ∙ four ∙ ap g (sym is)

chosen : (b : Bool) (v : Variable) (rest : List Variable) → total variable_size (if b then v ∷ rest else rest) ≡ (if b then variable_size v else 0) + total variable_size rest
chosen true v rest = refl
chosen false v rest = omega arith

abbrev pub greater : ℕ → List Variable → ℕ
greater size vs = total variable_size (filter (λ (x : Variable). nat_lt size x.size) vs)

pub none-greater : (vs : List Variable) → AreOfSize vs → greater 4 vs ≡ 0
none-greater [] sizes = refl
none-greater (v ∷ vs) sizes =
    let one = chosen (nat_lt 4 v.size) v (filter (λ (x : Variable). nat_lt 4 x.size) vs) in
    let zero_is = at-sizes (λ z. if nat_lt 4 z then variable_size v else 0) (λ z. 0) v.size (sizes 0 v refl) refl refl refl in
    let rest = none-greater vs (λ k. sizes (suc k)) in
    omega (arith, one, zero_is, rest)

pub longs-greater : (vs : List Variable) → AreOfSize vs → greater 2 vs ≡ total (sized_bytes 4) vs
longs-greater [] sizes = refl
longs-greater (v ∷ vs) sizes =
    let one = chosen (nat_lt 2 v.size) v (filter (λ (x : Variable). nat_lt 2 x.size) vs) in
    let same = at-sizes (λ z. if nat_lt 2 z then variable_size v else 0) (λ z. if z == 4 then variable_size v else 0) v.size (sizes 0 v refl) refl refl refl in
    let rest = longs-greater vs (λ k. sizes (suc k)) in
    omega (arith, one, same, rest)

pub words-greater : (vs : List Variable) → AreOfSize vs → greater 1 vs ≡ total (sized_bytes 4) vs + total (sized_bytes 2) vs
words-greater [] sizes = refl
words-greater (v ∷ vs) sizes =
    let n = variable_size v in
    let one = chosen (nat_lt 1 v.size) v (filter (λ (x : Variable). nat_lt 1 x.size) vs) in
    let same = at-sizes (λ z. if nat_lt 1 z then n else 0) (λ z. (if z == 4 then n else 0) + (if z == 2 then n else 0)) v.size (sizes 0 v refl) refl (omega arith) (omega arith) in
    let rest = words-greater vs (λ k. sizes (suc k)) in
    omega (arith, one, same, rest)

pub bytes-of-size : (size : ℕ) (v : Variable) → v.size ≡ size → sized_bytes size v ≡ variable_size v
bytes-of-size size v is = by (v.size == size) refl
  where
    by : (b : Bool) → (v.size == size) ≡ b → (if b then variable_size v else 0) ≡ variable_size v
    by true at = refl
    by false at = absurd (let n : v.size < v.size = grind (arith, nat_tests) in omega (arith, n))

-- ---- all names

module _ (files : List FileNames) (objects : List ObjectPart) (addresses : Addresses)
    (inner : (f i : ℕ) (object : ObjectPart) → slice_get objects f ≡ Some object → addresses.object_variables f (length object.methods + 1 + i) ≡ inner_offset objects object i % 65536)
    (code : (f k : ℕ) (object : ObjectPart) → slice_get objects f ≡ Some object → addresses.code f (k + 1) ≡ code_offset object k)
    (sized : (f : ℕ) (object : ObjectPart) → slice_get objects f ≡ Some object → AreOfSize object.variables) where
  abbrev P : List ℕ → Range → Type 0
  P = IsNameOf files objects addresses

  abbrev pub IsAt : Instance → Type 0
  IsAt = IsInstanceAt files objects addresses inner

  end-same : (b base offset : ℕ) (labels : List Label) → b ≡ base % 65536 → label_end b (address_after b offset) labels ≡ label_end base ((base + offset) % 65536) labels
  end-same b base offset [] is = omega (arith, is)
  end-same b base offset (label ∷ labels) is = omega (arith, is)

  pub range-is : (a b c d : ℕ) → a ≡ c → b ≡ d → ◌≡◌ {A = Range} (record { address = a; end = b }) (record { address = c; end = d })
  range-is a b c d one two = ap₂ (λ (x y : ℕ). record { address = x; end = y }) one two

  object-named : (f : ℕ) (names : FileNames) (object : ObjectPart) (b : ℕ) (so_far : Named) → slice_get files f ≡ Some names → slice_get objects f ≡ Some object → b ≡ (16 + total size_of (take f objects)) % 65536
      → AreAll P so_far → AreAll P (with_object so_far (path_of files objects (length objects) f) b names object)
  object-named f names object b so_far at there is all =
      let base = bases-at 16 objects f object there in
      let here : IsFileAt files objects f names object = record { is_file = at; is_object = there } in
      let path = path_of files objects (length objects) f in
      let place = address_after b (codes_offset object) in
      let same : b ≡ base_of objects f % 65536 = omega (arith, is, base) in
      methods-named P (with_labels so_far path b place names.labels) path place names.methods object.methods (omega arith)
      (labels-named P so_far path b place names.labels all (λ k label at_label.
      of_label (record { f = f; names = names; object = object; there = here; k = k; label = label; is_label = at_label }) refl
      (range-is _ _ _ _ (omega (arith, same)) (end-same b (base_of objects f) (codes_offset object) (drop (suc k) names.labels) same))))
      (λ k m method a at_name at_method a_is.
      let offset = code f k object there in
      of_method (record { f = f; names = names; object = object; there = here; k = k; m = m; is_name = at_name; method = method; is_method = at_method }) refl
      (range-is _ _ _ _ (omega (arith, same, offset, a_is)) (omega (arith, same, offset, a_is))))

  pub one-of : (i : Instance) (h : IsAt i) (names : FileNames) (object : ObjectPart) → slice_get files i.file ≡ Some names → slice_get objects i.file ≡ Some object
      → (size before : ℕ) → before ≡ (i.place + greater size object.variables) % 65536
      → (v : ℕ) (name : List ℕ) (variable : Variable) (a : ℕ) → slice_get names.variables v ≡ Some name → slice_get object.variables v ≡ Some variable
      → a ≡ (before + total (sized_bytes size) (take v object.variables)) % 65536 → variable.size ≡ size
      → (x : NamedVariable files objects addresses) × (x.path ≡ i.prefix) × (x.name ≡ name) × (x.variable ≡ variable) × (record { address = a; end = address_after a (sized_bytes size variable) } ≡ variable_range files objects addresses x)
  one-of i h names object at there size before before_is v name variable a at_name at_variable a_is of =
      let bytes = bytes-of-size size variable of in
      let begin = h.place_is in
      let earlier = of-size size (take v object.variables) in
      let offset : variable_offset object size v ≡ greater size object.variables + total (sized_bytes size) (take v object.variables) = omega (arith, earlier) in
      let own : variable_offset object variable.size v ≡ variable_offset object size v = ap (λ z. variable_offset object z v) of in (
        record {
          path = i.prefix;
          instance = h.instance;
          has_path = h.has_path;
          names = names;
          object = object;
          there = record { is_file = ap (slice_get files) h.file_is ∙ at; is_object = ap (slice_get objects) h.file_is ∙ there };
          v = v;
          name = name;
          is_name = at_name;
          variable = variable;
          is_variable = at_variable;
        },
        refl,
        refl,
        refl,
        range-is _ _ _ _ (omega (arith, begin, offset, own, before_is, a_is)) (omega (arith, begin, offset, own, before_is, a_is, bytes)),
      )

  sized-name : (i : Instance) (h : IsAt i) (names : FileNames) (object : ObjectPart) → slice_get files i.file ≡ Some names → slice_get objects i.file ≡ Some object
      → (size before : ℕ) → before ≡ (i.place + greater size object.variables) % 65536
      → (v : ℕ) (name : List ℕ) (variable : Variable) (a : ℕ) → slice_get names.variables v ≡ Some name → slice_get object.variables v ≡ Some variable
      → a ≡ (before + total (sized_bytes size) (take v object.variables)) % 65536 → variable.size ≡ size → P (i.prefix ++ name) (record { address = a; end = address_after a (sized_bytes size variable) })
  sized-name i h names object at there size before before_is v name variable a at_name at_variable a_is of =
      let x = one-of i h names object at there size before before_is v name variable a at_name at_variable a_is of in
      of_variable x.0 (ap₂ (λ (p n : List ℕ). p ++ n) (sym x.1) (sym x.2)) x.4

  instance-named : (so_far : Named) (i : Instance) (names : FileNames) (object : ObjectPart) → IsAt i → slice_get files i.file ≡ Some names → slice_get objects i.file ≡ Some object
      → AreAll P so_far → AreAll P (with_variables so_far i.place i.prefix names.variables object.variables)
  instance-named so_far i names object h at there all =
      let vs = object.variables in
      let low = h.low in
      let sizes = sized i.file object there in
      let longs = none-greater vs sizes in
      let words = longs-greater vs sizes in
      let bytes = words-greater vs sizes in
      let after_longs = after-is 4 i.place vs low in
      let second = after_size 4 i.place vs in
      let after_words = after-is 2 second vs (omega (arith, after_longs)) in
      let third = after_size 2 second vs in
      sized-named P (with_sized (with_sized so_far 4 i.place i.prefix names.variables vs) 2 second i.prefix names.variables vs) 1 third i.prefix names.variables vs (omega (arith, after_words))
      (sized-named P (with_sized so_far 4 i.place i.prefix names.variables vs) 2 second i.prefix names.variables vs (omega (arith, after_longs))
      (sized-named P so_far 4 i.place i.prefix names.variables vs low all (sized-name i h names object at there 4 i.place (omega (arith, longs, low))))
      (sized-name i h names object at there 2 second (omega (arith, after_longs, words))))
      (sized-name i h names object at there 1 third (omega (arith, after_words, after_longs, bytes)))

  pub all-named : (variables_at : ℕ) → variables_at < 65536 → addresses.top.variables ≡ variables_at → addresses.top.file ≡ 0 → AreAll P (names_in variables_at files objects)
  all-named variables_at less at file =
      instances-named P (with_objects ([], []) files objects 0 16 files objects) files objects IsAt (instances_from variables_at files objects)
      (objects-named P ([], []) files objects 0 16 files objects (omega arith) (no-names P) (λ k names object b so_far at_file there is all.
      let number : k ≡ 0 + k = omega arith in
      subst (λ f. AreAll P (with_object so_far (path_of files objects (length objects) f) b names object)) number (object-named k names object b so_far at_file there is all)))
      (all-instances files objects addresses inner variables_at less at file)
      instance-named
