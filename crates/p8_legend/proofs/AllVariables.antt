-- Each variable of each object instance that is listed has its range among the names of a legend.
use Rattle.std.proofs.Common.{◌≡◌, refl, sym, ap, ap₂, ◌∙◌, subst, inl, inr, ℕ, zero, suc, ◌+◌, ◌<◌, ◌≤◌, ◌==◌, true, false, if◌then◌else◌, Bool, List, [], ◌∷◌, ◌++◌, length, slice_get, slice_index, Option, Some, None, arith}
use Rattle.std.specs.Prelude.{take, codes}
use Rattle.std.proofs.lemmas.Bool.Decides.{nat_tests}
use Rattle.std.proofs.lemmas.Option.{none-some, same_Some}
use Rattle.p8_image.specs.declared.parts.Variable.{Variable}
use Rattle.p8_image.specs.declared.parts.ObjectPart.{ObjectPart}
use Rattle.p8_map.specs.declared.names.FileNames.{FileNames}
use Rattle.p8_legend.specs.declared.ranges.Range.{Range}
use Rattle.p8_map.specs.declared.instances.Instance.{Instance}
use Rattle.p8_image.specs.Listing.{address_after}
use Rattle.p8_image.specs.Layout.{total, variable_size, variable_offset, own_variables, variables_of}
use Rattle.p8_map.specs.Map.{low, own_instance, one_inside, all_inside, with_inside, instances_within, sized_bytes, after_size}
use Rattle.p8_legend.specs.ProjectLegends.{Named, and_if, with_sized, with_variables, with_instance, with_instances}
use Rattle.p8_legend.proofs.RightNames.{low-at, after-is, IsOfSize, AreOfSize, at-sizes, of-size, bytes-of-size, greater, none-greater, longs-greater, words-greater}
use Rattle.p8_legend.proofs.AllNames.{IsUpTo, HasEntry, later, one-keeps, one-adds, one-up, front, back}

-- ---- the variables of one size

up-if : (b : Bool) (n : Named) (address end : ℕ) (text : List ℕ) → IsUpTo n address → address ≤ end → IsUpTo (and_if b n address end text) end
up-if false n address end text up to = later n address end to up
up-if true n address end text up to = one-up n address end address text up (omega arith) to

same-size : (a b : ℕ) → a ≡ b → (a == b) ≡ true
same-size a b is = grind (arith, nat_tests)

sized-up : (n : Named) (size place : ℕ) (prefix : List ℕ) (names : List (List ℕ)) (vs : List Variable) → IsUpTo n place → place + total (sized_bytes size) vs < 65536
    → IsUpTo (with_sized n size place prefix names vs) (place + total (sized_bytes size) vs)
sized-up n size place prefix [] vs up room = later n place (place + total (sized_bytes size) vs) (omega arith) up
sized-up n size place prefix (name ∷ names) [] up room = later n place (place + 0) (omega arith) up
sized-up n size place prefix (name ∷ names) (v ∷ vs) up room =
    let next : address_after place (sized_bytes size v) ≡ place + sized_bytes size v = omega (arith, room) in
    let more = and_if (v.size == size) n place (address_after place (sized_bytes size v)) (prefix ++ name) in
    let whole : place + sized_bytes size v + total (sized_bytes size) vs ≡ place + (sized_bytes size v + total (sized_bytes size) vs) = omega arith in
    subst (IsUpTo (with_sized more size (address_after place (sized_bytes size v)) prefix names vs)) whole
    (subst (λ p. IsUpTo (with_sized more size p prefix names vs) (place + sized_bytes size v + total (sized_bytes size) vs)) (sym next)
    (sized-up more size (place + sized_bytes size v) prefix names vs
    (subst (IsUpTo more) next (up-if (v.size == size) n place (address_after place (sized_bytes size v)) (prefix ++ name) up (omega (arith, next)))) (omega (arith, room))))

module _ (t : List ℕ) (r : Range) where
  keeps-if : (b : Bool) (n : Named) (address end : ℕ) (text : List ℕ) → HasEntry n t r → HasEntry (and_if b n address end text) t r
  keeps-if false n address end text h = h
  keeps-if true n address end text h = one-keeps t r n address end text h

  adds-if : (b : Bool) (n : Named) (address end : ℕ) (text : List ℕ) → b ≡ true → IsUpTo n address → t ≡ text → r ≡ record { address = address; end = end } → address ≤ end → HasEntry (and_if b n address end text) t r
  adds-if false n address end text asked up text_is range_is to = absurd (cc)
  adds-if true n address end text asked up text_is range_is to = one-adds t r n address end address text up (omega arith) text_is range_is to

  sized-keep : (n : Named) (size place : ℕ) (prefix : List ℕ) (names : List (List ℕ)) (vs : List Variable) → HasEntry n t r → HasEntry (with_sized n size place prefix names vs) t r
  sized-keep n size place prefix [] vs h = h
  sized-keep n size place prefix (name ∷ names) [] h = h
  sized-keep n size place prefix (name ∷ names) (v ∷ vs) h =
      sized-keep (and_if (v.size == size) n place (address_after place (sized_bytes size v)) (prefix ++ name)) size (address_after place (sized_bytes size v)) prefix names vs (keeps-if (v.size == size) n place (address_after place (sized_bytes size v)) (prefix ++ name) h)

  sized-has : (n : Named) (size place : ℕ) (prefix : List ℕ) (names : List (List ℕ)) (vs : List Variable) → IsUpTo n place → place + total (sized_bytes size) vs < 65536
      → (k : ℕ) (name : List ℕ) (v : Variable) → slice_get names k ≡ Some name → slice_get vs k ≡ Some v → v.size ≡ size → t ≡ prefix ++ name
      → r.address ≡ place + total (sized_bytes size) (take k vs) → r.end ≡ place + total (sized_bytes size) (take k vs) + sized_bytes size v → HasEntry (with_sized n size place prefix names vs) t r
  sized-has n size place prefix [] vs up room k name v at there of text_is begins ends = absurd (none-some name at)
  sized-has n size place prefix (x ∷ names) [] up room k name v at there of text_is begins ends = absurd (none-some v there)
  sized-has n size place prefix (x ∷ names) (y ∷ vs) up room zero name v at there of text_is begins ends =
      let one = same_Some x name at in
      let other = ap (sized_bytes size) (same_Some y v there) in
      let next : address_after place (sized_bytes size y) ≡ place + sized_bytes size y = omega (arith, room) in
      sized-keep (and_if (y.size == size) n place (address_after place (sized_bytes size y)) (prefix ++ x)) size (address_after place (sized_bytes size y)) prefix names vs
      (adds-if (y.size == size) n place (address_after place (sized_bytes size y)) (prefix ++ x) (same-size y.size size (ap (λ (z : Variable). z.size) (same_Some y v there) ∙ of)) up (text_is ∙ ap (λ z. prefix ++ z) (sym one))
      (ap₂ (λ (a b : ℕ). record { address = a; end = b }) (omega (arith, begins)) (omega (arith, ends, other, next))) (omega (arith, next)))
  sized-has n size place prefix (x ∷ names) (y ∷ vs) up room (suc k) name v at there of text_is begins ends =
      let next : address_after place (sized_bytes size y) ≡ place + sized_bytes size y = omega (arith, room) in
      let more = and_if (y.size == size) n place (address_after place (sized_bytes size y)) (prefix ++ x) in
      subst (λ p. HasEntry (with_sized more size p prefix names vs) t r) (sym next)
      (sized-has more size (place + sized_bytes size y) prefix names vs
      (subst (IsUpTo more) next (up-if (y.size == size) n place (address_after place (sized_bytes size y)) (prefix ++ x) up (omega (arith, next)))) (omega (arith, room))
      k name v at there of text_is (omega (arith, begins)) (omega (arith, ends)))

-- ---- all variables of an instance

pub all-sizes : (vs : List Variable) → AreOfSize vs → total (sized_bytes 4) vs + total (sized_bytes 2) vs + total (sized_bytes 1) vs ≡ total variable_size vs
all-sizes [] sizes = refl
all-sizes (v ∷ vs) sizes =
    let n = variable_size v in
    let one = at-sizes (λ z. (if z == 4 then n else 0) + (if z == 2 then n else 0) + (if z == 1 then n else 0)) (λ z. n) v.size (sizes 0 v refl) (omega arith) (omega arith) (omega arith) in
    let rest = all-sizes vs (λ k. sizes (suc k)) in
    omega (arith, one, rest)

module _ (object : ObjectPart) (sizes : AreOfSize object.variables) (place : ℕ) (room : place + own_variables object < 65536) where
  abbrev vs : List Variable
  vs = object.variables

  -- where words begin, and bytes
  abbrev a : ℕ
  a = place + total (sized_bytes 4) vs

  abbrev b : ℕ
  b = place + total (sized_bytes 4) vs + total (sized_bytes 2) vs

  record Places : Type 0 where
    second : after_size 4 place vs ≡ place + total (sized_bytes 4) vs
    third : after_size 2 (after_size 4 place vs) vs ≡ place + total (sized_bytes 4) vs + total (sized_bytes 2) vs
    last : place + total (sized_bytes 4) vs + total (sized_bytes 2) vs + total (sized_bytes 1) vs ≤ place + own_variables object

  places : Places
  places =
      let whole = all-sizes vs sizes in
      let one = after-is 4 place vs (omega (arith, room)) in
      let first : after_size 4 place vs ≡ place + total (sized_bytes 4) vs = omega (arith, one, whole, room) in
      let two = after-is 2 (after_size 4 place vs) vs (omega (arith, first, whole, room)) in
      record { second = first; third = omega (arith, first, two, whole, room); last = omega (arith, whole) }

  abbrev one-size : Named → (prefix : List ℕ) → (names : List (List ℕ)) → (p q : ℕ) → Named
  one-size n prefix names p q = with_sized (with_sized (with_sized n 4 place prefix names vs) 2 p prefix names vs) 1 q prefix names vs

  pub variables-up : (n : Named) (prefix : List ℕ) (names : List (List ℕ)) → IsUpTo n place → IsUpTo (with_variables n place prefix names vs) (place + own_variables object)
  variables-up n prefix names up =
      let p = places in
      let last = p.last in
      later (with_variables n place prefix names vs) (b + total (sized_bytes 1) vs) (place + own_variables object) (omega (arith, last))
      (subst (λ q. IsUpTo (one-size n prefix names (after_size 4 place vs) q) (b + total (sized_bytes 1) vs)) (sym p.third)
      (subst (λ q. IsUpTo (one-size n prefix names q b) (b + total (sized_bytes 1) vs)) (sym p.second)
      (sized-up (with_sized (with_sized n 4 place prefix names vs) 2 a prefix names vs) 1 b prefix names vs
      (sized-up (with_sized n 4 place prefix names vs) 2 a prefix names vs (sized-up n 4 place prefix names vs up (omega (arith, last, room))) (omega (arith, last, room))) (omega (arith, last, room)))))

  module _ (t : List ℕ) (r : Range) where
    pub variables-keep : (n : Named) (prefix : List ℕ) (names : List (List ℕ)) → HasEntry n t r → HasEntry (with_variables n place prefix names vs) t r
    variables-keep n prefix names h =
        sized-keep t r (with_sized (with_sized n 4 place prefix names vs) 2 (after_size 4 place vs) prefix names vs) 1 (after_size 2 (after_size 4 place vs) vs) prefix names vs
        (sized-keep t r (with_sized n 4 place prefix names vs) 2 (after_size 4 place vs) prefix names vs (sized-keep t r n 4 place prefix names vs h))

    pub variables-has : (n : Named) (prefix : List ℕ) (names : List (List ℕ)) → IsUpTo n place → (k : ℕ) (name : List ℕ) (v : Variable) → slice_get names k ≡ Some name → slice_get vs k ≡ Some v → t ≡ prefix ++ name
        → r.address ≡ place + variable_offset object v.size k → r.end ≡ place + variable_offset object v.size k + variable_size v → HasEntry (with_variables n place prefix names vs) t r
    variables-has n prefix names up k name v at there text_is begins ends = by (sizes k v there)
      where
        offset-is : (size : ℕ) → v.size ≡ size → variable_offset object v.size k ≡ greater size vs + total (sized_bytes size) (take k vs)
        offset-is size is = let same = ap (λ z. variable_offset object z k) is in let earlier = of-size size (take k vs) in omega (arith, same, earlier)

        by : IsOfSize v → HasEntry (with_variables n place prefix names vs) t r
        by (inr (inr is)) =
            let last = places.last in
            let offset = offset-is 4 is in
            let none = none-greater vs sizes in
            let bytes = bytes-of-size 4 v is in
            sized-keep t r (with_sized (with_sized n 4 place prefix names vs) 2 (after_size 4 place vs) prefix names vs) 1 (after_size 2 (after_size 4 place vs) vs) prefix names vs
            (sized-keep t r (with_sized n 4 place prefix names vs) 2 (after_size 4 place vs) prefix names vs
            (sized-has t r n 4 place prefix names vs up (omega (arith, last, room)) k name v at there is text_is (omega (arith, begins, offset, none)) (omega (arith, ends, offset, none, bytes))))
        by (inr (inl is)) =
            let last = places.last in
            let offset = offset-is 2 is in
            let before = longs-greater vs sizes in
            let bytes = bytes-of-size 2 v is in
            let first = sized-up n 4 place prefix names vs up (omega (arith, last, room)) in
            sized-keep t r (with_sized (with_sized n 4 place prefix names vs) 2 (after_size 4 place vs) prefix names vs) 1 (after_size 2 (after_size 4 place vs) vs) prefix names vs
            (subst (λ q. HasEntry (with_sized (with_sized n 4 place prefix names vs) 2 q prefix names vs) t r) (sym places.second)
            (sized-has t r (with_sized n 4 place prefix names vs) 2 a prefix names vs first (omega (arith, last, room)) k name v at there is text_is (omega (arith, begins, offset, before)) (omega (arith, ends, offset, before, bytes))))
        by (inl is) =
            let last = places.last in
            let offset = offset-is 1 is in
            let before = words-greater vs sizes in
            let bytes = bytes-of-size 1 v is in
            let first = sized-up n 4 place prefix names vs up (omega (arith, last, room)) in
            let second = sized-up (with_sized n 4 place prefix names vs) 2 a prefix names vs first (omega (arith, last, room)) in
            subst (λ q. HasEntry (one-size n prefix names (after_size 4 place vs) q) t r) (sym places.third)
            (subst (λ q. HasEntry (one-size n prefix names q b) t r) (sym places.second)
            (sized-has t r (with_sized (with_sized n 4 place prefix names vs) 2 a prefix names vs) 1 b prefix names vs second (omega (arith, last, room)) k name v at there is text_is (omega (arith, begins, offset, before)) (omega (arith, ends, offset, before, bytes))))

-- ---- instances, one after the other

abbrev pub span : Option ObjectPart → ℕ
span None = 0
span (Some object) = own_variables object

-- each after the variables of the one before it, from an address up to another one
abbrev pub Follow : List ObjectPart → (from to : ℕ) → List Instance → Type 0
Follow objects from to [] = from ≤ to
Follow objects from to (i ∷ instances) = (from ≤ i.place) × Follow objects (i.place + span (slice_get objects i.file)) to instances

follow-end : (objects : List ObjectPart) (from to : ℕ) (instances : List Instance) → Follow objects from to instances → from ≤ to
follow-end objects from to [] is = is
follow-end objects from to (i ∷ instances) is =
    let rest = follow-end objects (i.place + span (slice_get objects i.file)) to instances is.1 in
    let first = is.0 in
    omega (arith, rest, first)

follow-lower : (objects : List ObjectPart) (start from to : ℕ) (instances : List Instance) → start ≤ from → Follow objects from to instances → Follow objects start to instances
follow-lower objects start from to [] less is = omega (arith, less, is)
follow-lower objects start from to (i ∷ instances) less is = let first = is.0 in (omega (arith, less, first), is.1)

follow-both : (objects : List ObjectPart) (from mid to : ℕ) (xs ys : List Instance) → Follow objects from mid xs → Follow objects mid to ys → Follow objects from to (xs ++ ys)
follow-both objects from mid to [] ys x y = follow-lower objects from mid to ys x y
follow-both objects from mid to (i ∷ xs) ys x y = (x.0, follow-both objects (i.place + span (slice_get objects i.file)) mid to xs ys x.1 y)

follow-higher : (objects : List ObjectPart) (from mid to : ℕ) (instances : List Instance) → mid ≤ to → Follow objects from mid instances → Follow objects from to instances
follow-higher objects from mid to [] less is = omega (arith, less, is)
follow-higher objects from mid to (i ∷ instances) less is = (is.0, follow-higher objects (i.place + span (slice_get objects i.file)) mid to instances less is.1)

abbrev pub In : Instance → List Instance → Type 0
In x xs = (j : ℕ) × (slice_get xs j ≡ Some x)

in-front : (x : Instance) (xs ys : List Instance) → In x xs → In x (xs ++ ys)
in-front x xs ys h = (h.0, front xs ys h.0 x h.1)

in-back : (x : Instance) (xs ys : List Instance) → In x ys → In x (xs ++ ys)
in-back x xs ys h = (length xs + h.0, back xs ys h.0 x h.1)

module _ (files : List FileNames) (objects : List ObjectPart) (sized : (f : ℕ) (object : ObjectPart) → slice_get objects f ≡ Some object → AreOfSize object.variables) where
  instance-up : (n : Named) (i : Instance) → IsUpTo n i.place → i.place + span (slice_get objects i.file) < 65536
      → IsUpTo (with_instance n i (slice_get files i.file) (slice_get objects i.file)) (i.place + span (slice_get objects i.file))
  instance-up n i up room = by (slice_get files i.file) (slice_get objects i.file) refl room
    where
      by : (x : Option FileNames) (y : Option ObjectPart) → slice_get objects i.file ≡ y → i.place + span y < 65536 → IsUpTo (with_instance n i x y) (i.place + span y)
      by None y there fits = later n i.place (i.place + span y) (omega arith) up
      by (Some names) None there fits = later n i.place (i.place + 0) (omega arith) up
      by (Some names) (Some object) there fits = variables-up object (sized i.file object there) i.place fits n i.prefix names.variables up

  module _ (t : List ℕ) (r : Range) where
    instance-keep : (n : Named) (i : Instance) → i.place + span (slice_get objects i.file) < 65536 → HasEntry n t r → HasEntry (with_instance n i (slice_get files i.file) (slice_get objects i.file)) t r
    instance-keep n i room h = by (slice_get files i.file) (slice_get objects i.file) refl room
      where
        by : (x : Option FileNames) (y : Option ObjectPart) → slice_get objects i.file ≡ y → i.place + span y < 65536 → HasEntry (with_instance n i x y) t r
        by None y there fits = h
        by (Some names) None there fits = h
        by (Some names) (Some object) there fits = variables-keep object (sized i.file object there) i.place fits t r n i.prefix names.variables h

    pub instances-keep : (n : Named) (from to : ℕ) (instances : List Instance) → Follow objects from to instances → to < 65536 → HasEntry n t r → HasEntry (with_instances n files objects instances) t r
    instances-keep n from to [] follow room h = h
    instances-keep n from to (i ∷ instances) follow room h =
        let end = follow-end objects (i.place + span (slice_get objects i.file)) to instances follow.1 in
        instances-keep (with_instance n i (slice_get files i.file) (slice_get objects i.file)) (i.place + span (slice_get objects i.file)) to instances follow.1 room (instance-keep n i (omega (arith, end, room)) h)

    pub instances-has : (n : Named) (from to : ℕ) (instances : List Instance) → IsUpTo n from → Follow objects from to instances → to < 65536 → (x : Instance) → In x instances
        → ((so_far : Named) → IsUpTo so_far x.place → x.place + span (slice_get objects x.file) < 65536 → HasEntry (with_instance so_far x (slice_get files x.file) (slice_get objects x.file)) t r)
        → HasEntry (with_instances n files objects instances) t r
    instances-has n from to [] up follow room x (j, at) adds = absurd (none-some x at)
    instances-has n from to (i ∷ instances) up follow room x (zero, at) adds =
        let end = follow-end objects (i.place + span (slice_get objects i.file)) to instances follow.1 in
        let here : HasEntry (with_instance n i (slice_get files i.file) (slice_get objects i.file)) t r =
        subst (λ (z : Instance). IsUpTo n z.place → z.place + span (slice_get objects z.file) < 65536 → HasEntry (with_instance n z (slice_get files z.file) (slice_get objects z.file)) t r) (sym (same_Some i x at)) (adds n)
        (later n from i.place follow.0 up) (omega (arith, end, room)) in
        instances-keep (with_instance n i (slice_get files i.file) (slice_get objects i.file)) (i.place + span (slice_get objects i.file)) to instances follow.1 room here
    instances-has n from to (i ∷ instances) up follow room x (suc j, at) adds =
        let end = follow-end objects (i.place + span (slice_get objects i.file)) to instances follow.1 in
        instances-has (with_instance n i (slice_get files i.file) (slice_get objects i.file)) (i.place + span (slice_get objects i.file)) to instances
        (instance-up n i (later n from i.place follow.0 up) (omega (arith, end, room))) follow.1 room x (j, at) adds

-- ---- instances inside one

module _ (files : List FileNames) (objects : List ObjectPart)
    (whole : (f : ℕ) (object : ObjectPart) → slice_get objects f ≡ Some object → slice_index (variables_of objects) f ≡ own_variables object + total (slice_index (variables_of objects)) object.instances) where
  abbrev V : ℕ → ℕ
  V f = slice_index (variables_of objects) f

  abbrev sizes : List ℕ
  sizes = low (variables_of objects)

  size-is : (f : ℕ) → V f < 65536 → slice_index sizes f ≡ V f
  size-is f less = let h = low-at (variables_of objects) f in omega (arith, h, less)

  abbrev AllFollow : (List ℕ → ℕ → ℕ → List Instance) → Type 0
  AllFollow within = (prefix : List ℕ) (f place : ℕ) → place + V f < 65536 → Follow objects place (place + V f) (within prefix f place)

  one-follow : (within : List ℕ → ℕ → ℕ → List Instance) (size place : ℕ) (prefix name : List ℕ) (f : ℕ) → AllFollow within → place + V f < 65536 → Follow objects place (place + V f) (one_inside within size place prefix name f)
  one-follow within size place prefix name f each room = by (size == 0)
    where
      by : (b : Bool) → Follow objects place (place + V f) (if b then [] else within (prefix ++ name ++ codes ".") f place)
      by true = omega arith
      by false = each (prefix ++ name ++ codes ".") f place room

  inside-follow : (within : List ℕ → ℕ → ℕ → List Instance) (place : ℕ) (prefix : List ℕ) (names : List (List ℕ)) (instances : List ℕ) → AllFollow within → place + total V instances < 65536
      → Follow objects place (place + total V instances) (all_inside within sizes place prefix names instances)
  inside-follow within place prefix [] instances each room = omega arith
  inside-follow within place prefix (name ∷ names) [] each room = omega arith
  inside-follow within place prefix (name ∷ names) (f ∷ instances) each room =
      let size = size-is f (omega (arith, room)) in
      let next : address_after place (slice_index sizes f) ≡ place + V f = omega (arith, size, room) in
      let end : place + V f + total V instances ≡ place + (V f + total V instances) = omega arith in
      follow-both objects place (place + V f) (place + (V f + total V instances)) (one_inside within (slice_index sizes f) place prefix name f) (all_inside within sizes (address_after place (slice_index sizes f)) prefix names instances)
      (one-follow within (slice_index sizes f) place prefix name f each (omega (arith, room)))
      (subst (λ p. Follow objects (place + V f) (place + (V f + total V instances)) (all_inside within sizes p prefix names instances)) (sym next)
      (subst (λ e. Follow objects (place + V f) e (all_inside within sizes (place + V f) prefix names instances)) end
      (inside-follow within (place + V f) prefix names instances each (omega (arith, room)))))

  own-follow : (prefix : List ℕ) (f place : ℕ) (object : ObjectPart) → slice_get objects f ≡ Some object → Follow objects place (place + own_variables object) (own_instance prefix f place object.variables)
  own-follow prefix f place object there = by object.variables
    where
      by : (vs : List Variable) → Follow objects place (place + own_variables object) (own_instance prefix f place vs)
      by [] = omega arith
      by (v ∷ vs) = let same = ap span there in (omega arith, omega (arith, same))

  pub within-follow : (depth : ℕ) → AllFollow (instances_within files objects sizes depth)
  unfolding instances_within
  within-follow zero prefix f place room = omega arith
  within-follow (suc depth) prefix f place room = by (slice_get files f) (slice_get objects f) refl (within-follow depth)
    where
      by : (x : Option FileNames) (y : Option ObjectPart) → slice_get objects f ≡ y → AllFollow (instances_within files objects sizes depth)
          → Follow objects place (place + V f) (with_inside (instances_within files objects sizes depth) sizes prefix f place x y)
      by None y there each = omega arith
      by (Some names) None there each = omega arith
      by (Some names) (Some object) there each =
          let all = whole f object there in
          let next : address_after place (own_variables object) ≡ place + own_variables object = omega (arith, all, room) in
          let end : place + own_variables object + total V object.instances ≡ place + V f = omega (arith, all) in
          let within = instances_within files objects sizes depth in
          follow-both objects place (place + own_variables object) (place + V f) (own_instance prefix f place object.variables) (all_inside within sizes (address_after place (own_variables object)) prefix names.instances object.instances)
          (own-follow prefix f place object there)
          (subst (λ p. Follow objects (place + own_variables object) (place + V f) (all_inside within sizes p prefix names.instances object.instances)) (sym next)
          (subst (λ e. Follow objects (place + own_variables object) e (all_inside within sizes (place + own_variables object) prefix names.instances object.instances)) end
          (inside-follow within (place + own_variables object) prefix names.instances object.instances each (omega (arith, all, room)))))

  -- ---- each of them is there

  one-in : (within : List ℕ → ℕ → ℕ → List Instance) (size place : ℕ) (prefix name : List ℕ) (f : ℕ) → 0 < size → (x : Instance) → In x (within (prefix ++ name ++ codes ".") f place) → In x (one_inside within size place prefix name f)
  one-in within size place prefix name f some x h = by (size == 0) (grind (arith, nat_tests))
    where
      by : (b : Bool) → b ≡ false → In x (if b then [] else within (prefix ++ name ++ codes ".") f place)
      by true never = absurd (cc)
      by false is = h

  inside-in : (within : List ℕ → ℕ → ℕ → List Instance) (place : ℕ) (prefix : List ℕ) (names : List (List ℕ)) (instances : List ℕ) → place + total V instances < 65536
      → (k : ℕ) (name : List ℕ) (g : ℕ) → slice_get names k ≡ Some name → slice_get instances k ≡ Some g → 0 < V g
      → (x : Instance) → In x (within (prefix ++ name ++ codes ".") g (place + total V (take k instances))) → In x (all_inside within sizes place prefix names instances)
  inside-in within place prefix [] instances room k name g at there some x h = absurd (none-some name at)
  inside-in within place prefix (y ∷ names) [] room k name g at there some x h = absurd (none-some g there)
  inside-in within place prefix (y ∷ names) (f ∷ instances) room zero name g at there some x h =
      let size = size-is f (omega (arith, room)) in
      let one : y ≡ name = same_Some y name at in
      let other : f ≡ g = same_Some f g there in
      let big = ap V other in
      let none : place + 0 ≡ place = omega arith in
      let moved : In x (within (prefix ++ y ++ codes ".") f place) =
      subst (λ z. In x (within (prefix ++ z ++ codes ".") f place)) (sym one)
      (subst (λ e. In x (within (prefix ++ name ++ codes ".") e place)) (sym other)
      (subst (λ p. In x (within (prefix ++ name ++ codes ".") g p)) none h)) in
      in-front x (one_inside within (slice_index sizes f) place prefix y f) (all_inside within sizes (address_after place (slice_index sizes f)) prefix names instances)
      (one-in within (slice_index sizes f) place prefix y f (omega (arith, size, big, some)) x moved)
  inside-in within place prefix (y ∷ names) (f ∷ instances) room (suc k) name g at there some x h =
      let size = size-is f (omega (arith, room)) in
      let next : address_after place (slice_index sizes f) ≡ place + V f = omega (arith, size, room) in
      let here : place + (V f + total V (take k instances)) ≡ place + V f + total V (take k instances) = omega arith in
      in-back x (one_inside within (slice_index sizes f) place prefix y f) (all_inside within sizes (address_after place (slice_index sizes f)) prefix names instances)
      (subst (λ p. In x (all_inside within sizes p prefix names instances)) (sym next)
      (inside-in within (place + V f) prefix names instances (omega (arith, room)) k name g at there some x
      (subst (λ p. In x (within (prefix ++ name ++ codes ".") g p)) here h)))

  -- those inside an instance, and itself
  pub deeper-in : (depth : ℕ) (prefix : List ℕ) (f place : ℕ) (names : FileNames) (object : ObjectPart) → slice_get files f ≡ Some names → slice_get objects f ≡ Some object → place + V f < 65536
      → (k : ℕ) (name : List ℕ) (g : ℕ) → slice_get names.instances k ≡ Some name → slice_get object.instances k ≡ Some g → 0 < V g
      → (x : Instance) → In x (instances_within files objects sizes depth (prefix ++ name ++ codes ".") g (place + own_variables object + total V (take k object.instances)))
      → In x (instances_within files objects sizes (suc depth) prefix f place)
  unfolding instances_within
  deeper-in depth prefix f place names object at there room k name g at_name at_child some x h =
      let within = instances_within files objects sizes depth in
      let all = whole f object there in
      let next : address_after place (own_variables object) ≡ place + own_variables object = omega (arith, all, room) in
      let opened : with_inside within sizes prefix f place (slice_get files f) (slice_get objects f) ≡ with_inside within sizes prefix f place (Some names) (Some object) =
      ap₂ (λ (a : Option FileNames) (b : Option ObjectPart). with_inside within sizes prefix f place a b) at there in
      subst (In x) (sym opened)
      (in-back x (own_instance prefix f place object.variables) (all_inside within sizes (address_after place (own_variables object)) prefix names.instances object.instances)
      (subst (λ p. In x (all_inside within sizes p prefix names.instances object.instances)) (sym next)
      (inside-in within (place + own_variables object) prefix names.instances object.instances (omega (arith, all, room)) k name g at_name at_child some x h)))

  pub own-in : (depth : ℕ) (prefix : List ℕ) (f place : ℕ) (names : FileNames) (object : ObjectPart) (v : ℕ) (variable : Variable) → slice_get files f ≡ Some names → slice_get objects f ≡ Some object
      → slice_get object.variables v ≡ Some variable → In (record { prefix = prefix; file = f; place = place }) (instances_within files objects sizes (suc depth) prefix f place)
  unfolding instances_within
  own-in depth prefix f place names object v variable at there at_variable =
      let within = instances_within files objects sizes depth in
      let x : Instance = record { prefix = prefix; file = f; place = place } in
      let opened : with_inside within sizes prefix f place (slice_get files f) (slice_get objects f) ≡ with_inside within sizes prefix f place (Some names) (Some object) =
      ap₂ (λ (a : Option FileNames) (b : Option ObjectPart). with_inside within sizes prefix f place a b) at there in
      subst (In x) (sym opened)
      (in-front x (own_instance prefix f place object.variables) (all_inside within sizes (address_after place (own_variables object)) prefix names.instances object.instances) (by object.variables at_variable))
    where
      by : (more : List Variable) → slice_get more v ≡ Some variable → In (record { prefix = prefix; file = f; place = place }) (own_instance prefix f place more)
      by [] none = absurd (none-some variable none)
      by (y ∷ more) is = (0, refl)
