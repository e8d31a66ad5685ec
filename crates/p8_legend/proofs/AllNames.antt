-- Whatever stands in the hub with a name has its range among the names of a legend.
use Rattle.std.proofs.Common.{◌≡◌, refl, sym, ap, ap₂, ◌∙◌, subst, ℕ, zero, suc, ◌+◌, ◌<◌, ◌≤◌, ◌||◌, nat_lt, true, false, if◌then◌else◌, Bool, List, [], ◌∷◌, ◌++◌, length, length-append, slice_get, Some, arith}
use Rattle.std.specs.Prelude.{take, drop}
use Rattle.std.proofs.lemmas.Bool.Decides.{nat_tests}
use Rattle.std.proofs.lemmas.Option.{none-some, same_Some}
use Rattle.p8_image.specs.declared.parts.MethodPart.{MethodPart}
use Rattle.p8_image.specs.declared.parts.ObjectPart.{ObjectPart}
use Rattle.p8_kinds.specs.declared.name_kinds.Label.{Label}
use Rattle.p8_map.specs.declared.names.MethodNames.{MethodNames}
use Rattle.p8_map.specs.declared.names.FileNames.{FileNames}
use Rattle.p8_legend.specs.declared.ranges.Range.{Range}
use Rattle.p8_image.specs.Listing.{address_after}
use Rattle.p8_image.specs.Layout.{total, code_size, codes_offset, code_offset, size_of}
use Rattle.p8_legend.specs.Ranges.{last_end}
use Rattle.p8_map.specs.Map.{low}
use Rattle.p8_legend.specs.ProjectLegends.{Named, and_one, path_of, label_end, with_labels, with_methods, with_object, with_objects}

-- ---- names so far

-- as many texts as ranges, and the last range ends at most there
pub record IsUpTo (n : Named) (low : ℕ) : Type 0 where
  pub beside : length n.0 ≡ length n.1
  pub reach : last_end 0 n.0 ≤ low

pub record HasEntry (n : Named) (text : List ℕ) (range : Range) : Type 0 where
  pub number : ℕ
  pub range_is : slice_get n.0 number ≡ Some range
  pub text_is : slice_get n.1 number ≡ Some text

pub none-yet : IsUpTo ([], []) 0
none-yet = record { beside = refl; reach = omega arith }

pub later : (n : Named) (a b : ℕ) → a ≤ b → IsUpTo n a → IsUpTo n b
later n a b le h = let reach = h.reach in record { beside = h.beside; reach = omega (arith, le, reach) }

end-is : (lowest : ℕ) (ranges : List Range) (r : Range) → last_end lowest (ranges ++ r ∷ []) ≡ r.end
end-is lowest [] r = refl
end-is lowest (x ∷ ranges) r = end-is x.end ranges r

pub front : {X : Type 0} (xs ys : List X) (i : ℕ) (x : X) → slice_get xs i ≡ Some x → slice_get (xs ++ ys) i ≡ Some x
front [] ys i x at = absurd (none-some x at)
front (y ∷ xs) ys zero x at = at
front (y ∷ xs) ys (suc i) x at = front xs ys i x at

pub back : {X : Type 0} (xs ys : List X) (i : ℕ) (x : X) → slice_get ys i ≡ Some x → slice_get (xs ++ ys) (length xs + i) ≡ Some x
back [] ys i x at = ap (slice_get ys) (let e : 0 + i ≡ i = omega arith in e) ∙ at
back (y ∷ xs) ys i x at = ap (slice_get (y ∷ xs ++ ys)) (let e : suc (length xs) + i ≡ suc (length xs + i) = omega arith in e) ∙ back xs ys i x at

module _ (t : List ℕ) (r : Range) where
  abbrev Has : Named → Type 0
  Has n = HasEntry n t r

  keeps-by : (b : Bool) (n : Named) (q : Range) (text : List ℕ) → Has n → Has (if b then n else (n.0 ++ q ∷ [], n.1 ++ text ∷ []))
  keeps-by true n q text h = h
  keeps-by false n q text h = record { number = h.number; range_is = front n.0 (q ∷ []) h.number r h.range_is; text_is = front n.1 (text ∷ []) h.number t h.text_is }

  pub one-keeps : (n : Named) (address end : ℕ) (text : List ℕ) → Has n → Has (and_one n address end text)
  one-keeps n address end text h = keeps-by (nat_lt address (last_end 0 n.0) || nat_lt end address) n (record { address = address; end = end }) text h

  adds-by : (b : Bool) (n : Named) (q : Range) (text : List ℕ) → b ≡ false → length n.0 ≡ length n.1 → t ≡ text → r ≡ q → Has (if b then n else (n.0 ++ q ∷ [], n.1 ++ text ∷ []))
  adds-by true n q text never beside text_is range_is = absurd (cc)
  adds-by false n q text never beside text_is range_is = record {
    number = length n.0 + 0;
    range_is = back n.0 (q ∷ []) 0 r (ap Some (sym range_is));
    text_is = ap (slice_get (n.1 ++ text ∷ [])) (let e : length n.0 + 0 ≡ length n.1 + 0 = omega (arith, beside) in e) ∙ back n.1 (text ∷ []) 0 t (ap Some (sym text_is));
  }

  taken : (a b c : ℕ) → c ≤ a → a ≤ b → (nat_lt a c || nat_lt b a) ≡ false
  taken a b c from to = grind (arith, nat_tests)

  pub one-adds : (n : Named) (address end low : ℕ) (text : List ℕ) → IsUpTo n low → low ≤ address → t ≡ text → r ≡ record { address = address; end = end } → address ≤ end → Has (and_one n address end text)
  one-adds n address end low text up from text_is range_is to =
      let reach = up.reach in
      adds-by (nat_lt address (last_end 0 n.0) || nat_lt end address) n (record { address = address; end = end }) text (taken address end (last_end 0 n.0) (omega (arith, reach, from)) to) up.beside text_is range_is

up-by : (b : Bool) (n : Named) (q : Range) (text : List ℕ) (low : ℕ) → IsUpTo n low → low ≤ q.end → IsUpTo (if b then n else (n.0 ++ q ∷ [], n.1 ++ text ∷ [])) q.end
up-by true n q text low up from = later n low q.end from up
up-by false n q text low up from =
    let beside = up.beside in
    let one = length-append n.0 (q ∷ []) in
    let two = length-append n.1 (text ∷ []) in
    let end = end-is 0 n.0 q in
    record { beside = omega (arith, beside, one, two); reach = omega (arith, end) }

pub one-up : (n : Named) (address end low : ℕ) (text : List ℕ) → IsUpTo n low → low ≤ address → address ≤ end → IsUpTo (and_one n address end text) end
one-up n address end low text up from to = up-by (nat_lt address (last_end 0 n.0) || nat_lt end address) n (record { address = address; end = end }) text low up (omega (arith, from, to))

-- ---- labels, which rise

abbrev pub Rise : (low high : ℕ) → List Label → Type 0
Rise low high [] = low ≤ high
Rise low high (label ∷ labels) = (low ≤ label.offset) × Rise label.offset high labels

pub rise-end : (low high : ℕ) (labels : List Label) → Rise low high labels → low ≤ high
rise-end low high [] is = is
rise-end low high (label ∷ labels) is = let rest = rise-end label.offset high labels is.1 in let first = is.0 in omega (arith, rest, first)

module _ (t : List ℕ) (r : Range) where
  pub labels-keep : (n : Named) (prefix : List ℕ) (base codes_at : ℕ) (labels : List Label) → HasEntry n t r → HasEntry (with_labels n prefix base codes_at labels) t r
  labels-keep n prefix base codes_at [] h = h
  labels-keep n prefix base codes_at (label ∷ labels) h =
      labels-keep (and_one n (address_after base label.offset) (label_end base codes_at labels) (prefix ++ label.name)) prefix base codes_at labels (one-keeps t r n (address_after base label.offset) (label_end base codes_at labels) (prefix ++ label.name) h)

module _ (base high : ℕ) (room : base + high < 65536) where
  -- where the next one begins, or the codes
  abbrev next-offset : List Label → ℕ
  next-offset [] = high
  next-offset (label ∷ labels) = label.offset

  next-end : (low : ℕ) (labels : List Label) → Rise low high labels → label_end base (base + high) labels ≡ base + next-offset labels
  next-end low [] is = refl
  next-end low (label ∷ labels) is = let end = rise-end label.offset high labels is.1 in omega (arith, room, end)

  next-rise : (low : ℕ) (labels : List Label) → Rise low high labels → (low ≤ next-offset labels) × Rise (next-offset labels) high labels
  next-rise low [] is = (is, omega arith)
  next-rise low (label ∷ labels) is = (is.0, (omega arith, is.1))

  labels-up : (n : Named) (prefix : List ℕ) (low : ℕ) (labels : List Label) → IsUpTo n (base + low) → Rise low high labels → IsUpTo (with_labels n prefix base (base + high) labels) (base + high)
  labels-up n prefix low [] up is = later n (base + low) (base + high) (omega (arith, is)) up
  labels-up n prefix low (label ∷ labels) up is =
      let end = next-end label.offset labels is.1 in
      let rise = next-rise label.offset labels is.1 in
      let from = is.0 in
      let to = rise.0 in
      let last = rise-end label.offset high labels is.1 in
      let begin : address_after base label.offset ≡ base + label.offset = omega (arith, room, last) in
      labels-up (and_one n (address_after base label.offset) (label_end base (base + high) labels) (prefix ++ label.name)) prefix (next-offset labels) labels
      (subst (IsUpTo (and_one n (address_after base label.offset) (label_end base (base + high) labels) (prefix ++ label.name))) end
      (one-up n (address_after base label.offset) (label_end base (base + high) labels) (base + low) (prefix ++ label.name) up (omega (arith, begin, from)) (omega (arith, begin, end, to))))
      rise.1

  module _ (t : List ℕ) (r : Range) where
    labels-has : (n : Named) (prefix : List ℕ) (low : ℕ) (labels : List Label) → IsUpTo n (base + low) → Rise low high labels → (k : ℕ) (label : Label) → slice_get labels k ≡ Some label
        → t ≡ prefix ++ label.name → r ≡ record { address = address_after base label.offset; end = label_end base (base + high) (drop (suc k) labels) } → HasEntry (with_labels n prefix base (base + high) labels) t r
    labels-has n prefix low [] up is k label at text_is range_is = absurd (none-some label at)
    labels-has n prefix low (x ∷ labels) up is zero label at text_is range_is =
        let same = same_Some x label at in
        let from = is.0 in
        let end = next-end x.offset labels is.1 in
        let rise = next-rise x.offset labels is.1 in
        let to = rise.0 in
        let last = rise-end x.offset high labels is.1 in
        let begin : address_after base x.offset ≡ base + x.offset = omega (arith, room, last) in
        labels-keep t r (and_one n (address_after base x.offset) (label_end base (base + high) labels) (prefix ++ x.name)) prefix base (base + high) labels
        (one-adds t r n (address_after base x.offset) (label_end base (base + high) labels) (base + low) (prefix ++ x.name) up (omega (arith, begin, from)) (text_is ∙ ap (λ (l : Label). prefix ++ l.name) (sym same))
        (range_is ∙ ap (λ (l : Label). record { address = address_after base l.offset; end = label_end base (base + high) labels }) (sym same)) (omega (arith, begin, end, to)))
    labels-has n prefix low (x ∷ labels) up is (suc k) label at text_is range_is =
        let end = next-end x.offset labels is.1 in
        let rise = next-rise x.offset labels is.1 in
        let from = is.0 in
        let to = rise.0 in
        let last = rise-end x.offset high labels is.1 in
        let begin : address_after base x.offset ≡ base + x.offset = omega (arith, room, last) in
        labels-has (and_one n (address_after base x.offset) (label_end base (base + high) labels) (prefix ++ x.name)) prefix (next-offset labels) labels
        (subst (IsUpTo (and_one n (address_after base x.offset) (label_end base (base + high) labels) (prefix ++ x.name))) end
        (one-up n (address_after base x.offset) (label_end base (base + high) labels) (base + low) (prefix ++ x.name) up (omega (arith, begin, from)) (omega (arith, begin, end, to))))
        rise.1 k label at text_is range_is

module _ (t : List ℕ) (r : Range) where
  -- ---- methods

  pub methods-keep : (n : Named) (prefix : List ℕ) (place : ℕ) (names : List MethodNames) (methods : List MethodPart) → HasEntry n t r → HasEntry (with_methods n prefix place names methods) t r
  methods-keep n prefix place [] methods h = h
  methods-keep n prefix place (m ∷ names) [] h = h
  methods-keep n prefix place (m ∷ names) (method ∷ methods) h =
      methods-keep (and_one n place (address_after place (length method.code)) (prefix ++ m.name)) prefix (address_after place (length method.code)) names methods (one-keeps t r n place (address_after place (length method.code)) (prefix ++ m.name) h)

methods-up : (n : Named) (prefix : List ℕ) (place : ℕ) (names : List MethodNames) (methods : List MethodPart) → IsUpTo n place → place + total code_size methods < 65536
    → IsUpTo (with_methods n prefix place names methods) (place + total code_size methods)
methods-up n prefix place [] methods up room = later n place (place + total code_size methods) (omega arith) up
methods-up n prefix place (m ∷ names) [] up room = later n place (place + 0) (omega arith) up
methods-up n prefix place (m ∷ names) (method ∷ methods) up room =
    let next : address_after place (length method.code) ≡ place + length method.code = omega (arith, room) in
    let more = and_one n place (address_after place (length method.code)) (prefix ++ m.name) in
    let whole : place + length method.code + total code_size methods ≡ place + (length method.code + total code_size methods) = omega arith in
    subst (IsUpTo (with_methods more prefix (address_after place (length method.code)) names methods)) whole
    (subst (λ p. IsUpTo (with_methods more prefix p names methods) (place + length method.code + total code_size methods)) (sym next)
    (methods-up more prefix (place + length method.code) names methods
    (subst (IsUpTo more) next (one-up n place (address_after place (length method.code)) place (prefix ++ m.name) up (omega arith) (omega (arith, next)))) (omega (arith, room))))

module _ (t : List ℕ) (r : Range) where
  methods-has : (n : Named) (prefix : List ℕ) (place : ℕ) (names : List MethodNames) (methods : List MethodPart) → IsUpTo n place → place + total code_size methods < 65536
      → (k : ℕ) (m : MethodNames) (method : MethodPart) → slice_get names k ≡ Some m → slice_get methods k ≡ Some method → t ≡ prefix ++ m.name
      → r.address ≡ place + total code_size (take k methods) → r.end ≡ place + total code_size (take k methods) + length method.code → HasEntry (with_methods n prefix place names methods) t r
  methods-has n prefix place [] methods up room k m method at there text_is begins ends = absurd (none-some m at)
  methods-has n prefix place (x ∷ names) [] up room k m method at there text_is begins ends = absurd (none-some method there)
  methods-has n prefix place (x ∷ names) (y ∷ methods) up room zero m method at there text_is begins ends =
      let one = same_Some x m at in
      let other = ap (λ (z : MethodPart). length z.code) (same_Some y method there) in
      let next : address_after place (length y.code) ≡ place + length y.code = omega (arith, room) in
      methods-keep t r (and_one n place (address_after place (length y.code)) (prefix ++ x.name)) prefix (address_after place (length y.code)) names methods
      (one-adds t r n place (address_after place (length y.code)) place (prefix ++ x.name) up (omega arith) (text_is ∙ ap (λ (z : MethodNames). prefix ++ z.name) (sym one))
      (ap₂ (λ (a b : ℕ). record { address = a; end = b }) (omega (arith, begins)) (omega (arith, ends, other, next))) (omega (arith, next)))
  methods-has n prefix place (x ∷ names) (y ∷ methods) up room (suc k) m method at there text_is begins ends =
      let next : address_after place (length y.code) ≡ place + length y.code = omega (arith, room) in
      let more = and_one n place (address_after place (length y.code)) (prefix ++ x.name) in
      subst (λ p. HasEntry (with_methods more prefix p names methods) t r) (sym next)
      (methods-has more prefix (place + length y.code) names methods
      (subst (IsUpTo more) next (one-up n place (address_after place (length y.code)) place (prefix ++ x.name) up (omega arith) (omega (arith, next)))) (omega (arith, room))
      k m method at there text_is (omega (arith, begins)) (omega (arith, ends)))

-- ---- objects

-- an object's labels rise up to its codes
abbrev pub LabelsRise : FileNames → ObjectPart → Type 0
LabelsRise names object = Rise 0 (codes_offset object) names.labels

pub object-up : (n : Named) (prefix : List ℕ) (base : ℕ) (names : FileNames) (object : ObjectPart) → IsUpTo n base → base + size_of object < 65536 → LabelsRise names object
    → IsUpTo (with_object n prefix base names object) (base + size_of object)
object-up n prefix base names object up room rise =
    let high : ℕ = codes_offset object in
    let codes : address_after base high ≡ base + high = omega (arith, room) in
    let none : base ≡ base + 0 = omega arith in
    later (with_object n prefix base names object) (base + high + total code_size object.methods) (base + size_of object) (omega arith)
    (subst (λ p. IsUpTo (with_methods (with_labels n prefix base p names.labels) prefix p names.methods object.methods) (base + high + total code_size object.methods)) (sym codes)
    (methods-up (with_labels n prefix base (base + high) names.labels) prefix (base + high) names.methods object.methods
    (labels-up base high (omega (arith, room)) n prefix 0 names.labels (subst (IsUpTo n) none up) rise) (omega (arith, room))))

module _ (t : List ℕ) (r : Range) where
  object-keep : (n : Named) (prefix : List ℕ) (base : ℕ) (names : FileNames) (object : ObjectPart) → HasEntry n t r → HasEntry (with_object n prefix base names object) t r
  object-keep n prefix base names object h =
      methods-keep t r (with_labels n prefix base (address_after base (codes_offset object)) names.labels) prefix (address_after base (codes_offset object)) names.methods object.methods
      (labels-keep t r n prefix base (address_after base (codes_offset object)) names.labels h)

  pub object-label : (n : Named) (prefix : List ℕ) (base : ℕ) (names : FileNames) (object : ObjectPart) → IsUpTo n base → base + size_of object < 65536 → LabelsRise names object
      → (k : ℕ) (label : Label) → slice_get names.labels k ≡ Some label → t ≡ prefix ++ label.name
      → r ≡ record { address = address_after base label.offset; end = label_end base (address_after base (codes_offset object)) (drop (suc k) names.labels) } → HasEntry (with_object n prefix base names object) t r
  object-label n prefix base names object up room rise k label at text_is range_is =
      let high : ℕ = codes_offset object in
      let codes : address_after base high ≡ base + high = omega (arith, room) in
      let none : base ≡ base + 0 = omega arith in
      methods-keep t r (with_labels n prefix base (address_after base high) names.labels) prefix (address_after base high) names.methods object.methods
      (subst (λ p. HasEntry (with_labels n prefix base p names.labels) t r) (sym codes)
      (labels-has base high (omega (arith, room)) t r n prefix 0 names.labels (subst (IsUpTo n) none up) rise k label at text_is
      (range_is ∙ ap (λ p. record { address = address_after base label.offset; end = label_end base p (drop (suc k) names.labels) }) codes)))

  pub object-method : (n : Named) (prefix : List ℕ) (base : ℕ) (names : FileNames) (object : ObjectPart) → IsUpTo n base → base + size_of object < 65536 → LabelsRise names object
      → (k : ℕ) (m : MethodNames) (method : MethodPart) → slice_get names.methods k ≡ Some m → slice_get object.methods k ≡ Some method → t ≡ prefix ++ m.name
      → r.address ≡ base + code_offset object k → r.end ≡ base + code_offset object k + length method.code → HasEntry (with_object n prefix base names object) t r
  object-method n prefix base names object up room rise k m method at there text_is begins ends =
      let high : ℕ = codes_offset object in
      let codes : address_after base high ≡ base + high = omega (arith, room) in
      let none : base ≡ base + 0 = omega arith in
      subst (λ p. HasEntry (with_methods (with_labels n prefix base p names.labels) prefix p names.methods object.methods) t r) (sym codes)
      (methods-has t r (with_labels n prefix base (base + high) names.labels) prefix (base + high) names.methods object.methods
      (labels-up base high (omega (arith, room)) n prefix 0 names.labels (subst (IsUpTo n) none up) rise) (omega (arith, room))
      k m method at there text_is (omega (arith, begins)) (omega (arith, ends)))

module _ (all_files : List FileNames) (parts : List ObjectPart) where
  abbrev prefix_of : ℕ → List ℕ
  prefix_of f = path_of all_files parts (length parts) f

  abbrev AllRise : List FileNames → List ObjectPart → Type 0
  AllRise files objects = (k : ℕ) (names : FileNames) (object : ObjectPart) → slice_get files k ≡ Some names → slice_get objects k ≡ Some object → LabelsRise names object

  pub objects-up : (n : Named) (number base : ℕ) (files : List FileNames) (objects : List ObjectPart) → IsUpTo n base → base + total size_of objects < 65536 → AllRise files objects
      → IsUpTo (with_objects n all_files parts number base files objects) (base + total size_of objects)
  objects-up n number base [] objects up room rise = later n base (base + total size_of objects) (omega arith) up
  objects-up n number base (names ∷ files) [] up room rise = later n base (base + 0) (omega arith) up
  objects-up n number base (names ∷ files) (object ∷ objects) up room rise =
      let next : address_after base (size_of object) ≡ base + size_of object = omega (arith, room) in
      let more = with_object n (prefix_of number) base names object in
      let whole : base + size_of object + total size_of objects ≡ base + (size_of object + total size_of objects) = omega arith in
      subst (IsUpTo (with_objects more all_files parts (number + 1) (address_after base (size_of object)) files objects)) whole
      (subst (λ p. IsUpTo (with_objects more all_files parts (number + 1) p files objects) (base + size_of object + total size_of objects)) (sym next)
      (objects-up more (number + 1) (base + size_of object) files objects (object-up n (prefix_of number) base names object up (omega (arith, room)) (rise 0 names object refl refl)) (omega (arith, room)) (λ k. rise (suc k))))

  module _ (t : List ℕ) (r : Range) where
    objects-keep : (n : Named) (number base : ℕ) (files : List FileNames) (objects : List ObjectPart) → HasEntry n t r → HasEntry (with_objects n all_files parts number base files objects) t r
    objects-keep n number base [] objects h = h
    objects-keep n number base (names ∷ files) [] h = h
    objects-keep n number base (names ∷ files) (object ∷ objects) h =
        objects-keep (with_object n (prefix_of number) base names object) (number + 1) (address_after base (size_of object)) files objects (object-keep t r n (prefix_of number) base names object h)

    pub objects-has : (n : Named) (number base : ℕ) (files : List FileNames) (objects : List ObjectPart) → IsUpTo n base → base + total size_of objects < 65536 → AllRise files objects
        → (k : ℕ) (names : FileNames) (object : ObjectPart) → slice_get files k ≡ Some names → slice_get objects k ≡ Some object
        → ((so_far : Named) → IsUpTo so_far (base + total size_of (take k objects)) → base + total size_of (take k objects) + size_of object < 65536
        → HasEntry (with_object so_far (prefix_of (number + k)) (base + total size_of (take k objects)) names object) t r)
        → HasEntry (with_objects n all_files parts number base files objects) t r
    objects-has n number base [] objects up room rise k names object at there adds = absurd (none-some names at)
    objects-has n number base (x ∷ files) [] up room rise k names object at there adds = absurd (none-some object there)
    objects-has n number base (x ∷ files) (y ∷ objects) up room rise zero names object at there adds =
        let one = same_Some x names at in
        let other = same_Some y object there in
        let none : base + 0 ≡ base = omega arith in
        let first : number + 0 ≡ number = omega arith in
        let size = ap size_of other in
        objects-keep (with_object n (prefix_of number) base x y) (number + 1) (address_after base (size_of y)) files objects
        (subst (λ (z : FileNames). HasEntry (with_object n (prefix_of number) base z y) t r) (sym one)
        (subst (λ (z : ObjectPart). HasEntry (with_object n (prefix_of number) base names z) t r) (sym other)
        (subst (λ f. HasEntry (with_object n (prefix_of f) base names object) t r) first
        (subst (λ b. HasEntry (with_object n (prefix_of (number + 0)) b names object) t r) none
        (adds n (subst (IsUpTo n) (sym none) up) (omega (arith, room, size)))))))
    objects-has n number base (x ∷ files) (y ∷ objects) up room rise (suc k) names object at there adds =
        let next : address_after base (size_of y) ≡ base + size_of y = omega (arith, room) in
        let more = with_object n (prefix_of number) base x y in
        let place : base + size_of y + total size_of (take k objects) ≡ base + (size_of y + total size_of (take k objects)) = omega arith in
        let count : number + 1 + k ≡ number + suc k = omega arith in
        subst (λ p. HasEntry (with_objects more all_files parts (number + 1) p files objects) t r) (sym next)
        (objects-has more (number + 1) (base + size_of y) files objects (object-up n (prefix_of number) base x y up (omega (arith, room)) (rise 0 x y refl refl)) (omega (arith, room)) (λ j. rise (suc j)) k names object at there
        (λ so_far far less.
        subst (λ f. HasEntry (with_object so_far (prefix_of f) (base + size_of y + total size_of (take k objects)) names object) t r) (sym count)
        (subst (λ b. HasEntry (with_object so_far (prefix_of (number + suc k)) b names object) t r) (sym place)
        (adds so_far (subst (IsUpTo so_far) place far) (omega (arith, less))))))
