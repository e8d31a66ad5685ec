-- No name is left out of a legend whose image fits the hub.
use Rattle.std.proofs.Common.{◌≡◌, ◌⊎◌, sym, ap, ap₂, subst, inl, inr, ℕ, zero, suc, ◌+◌, ◌-◌, ◌%◌, ◌^◌, ◌<◌, ◌≤◌, List, [], ◌∷◌, ◌++◌, length, slice_get, slice_index, Some, arith}
use Rattle.std.specs.Prelude.{take, codes}
use Rattle.std.proofs.lemmas.Option.{none-some, same_Some}
use Rattle.p8_image.specs.declared.parts.Variable.{Variable}
use Rattle.p8_image.specs.declared.parts.ObjectPart.{ObjectPart}
use Rattle.p8_map.specs.declared.names.FileNames.{FileNames}
use Rattle.p8_legend.specs.declared.ranges.Range.{Range}
use Rattle.p8_map.specs.declared.instances.Instance.{Instance}
use Rattle.p8_meaning.specs.Programs.{Instance as Standing, Addresses}
use Rattle.p8_image.specs.Layout.{total, code_size, code_offset, size_of, variable_size, variable_offset, own_variables, variables_of, inner_offset}
use Rattle.p8_image.specs.Places.{base_of}
use Rattle.p8_map.specs.Map.{low, sized_bytes, instances_within, instances_from}
use Rattle.p8_legend.specs.ProjectLegends.{Named, path_of, with_object, with_objects, with_instance, names_in}
use Rattle.p8_legend.specs.Stands.{HasPath, top_path, inner_path, IsFileAt, NamedLabel, NamedMethod, NamedVariable, label_range, method_range, variable_range, IsNameOf, of_label, of_method, of_variable, IsListed, IsTold}
use Rattle.p8_legend.proofs.RightNames.{bases-at, IsOfSize, AreOfSize, greater, none-greater, longs-greater, words-greater, of-size, bytes-of-size}
use Rattle.p8_legend.proofs.AllNames.{IsUpTo, HasEntry, later, none-yet, LabelsRise, object-label, object-method, objects-up, objects-has}
use Rattle.p8_legend.proofs.AllVariables.{all-sizes, In, variables-has, instances-keep, instances-has, Follow, within-follow, deeper-in, own-in}

-- the path of an instance inside another has a name
not-empty : (path name : List ℕ) → path ++ name ++ codes "." ≡ [] → ⊥
not-empty [] [] never = let n : 1 ≡ 0 = ap length never in absurd (omega (arith, n))
not-empty [] (c ∷ name) never = let n : suc (length (name ++ codes ".")) ≡ 0 = ap length never in absurd (omega (arith, n))
not-empty (c ∷ path) name never = let n : suc (length (path ++ name ++ codes ".")) ≡ 0 = ap length never in absurd (omega (arith, n))

positive : (path name : List ℕ) (n : ℕ) → (path ++ name ++ codes "." ≡ []) ⊎ (0 < n) → 0 < n
positive path name n (inl never) = absurd (not-empty path name never)
positive path name n (inr some) = some

-- those before one, and it
up-to-one : {A : Type 0} (f : A → ℕ) (xs : List A) (i : ℕ) (x : A) → slice_get xs i ≡ Some x → total f (take i xs) + f x ≤ total f xs
up-to-one f [] i x at = absurd (none-some x at)
up-to-one f (y ∷ xs) zero x at = let same = ap f (same_Some y x at) in omega (arith, same)
up-to-one f (y ∷ xs) (suc i) x at = let rest = up-to-one f xs i x at in omega (arith, rest)

-- a variable lies among those of its object
variable-fits : (object : ObjectPart) → AreOfSize object.variables → (v : ℕ) (variable : Variable) → slice_get object.variables v ≡ Some variable
    → variable_offset object variable.size v + variable_size variable ≤ own_variables object
variable-fits object sizes v variable at = by (sizes v variable at)
  where
    of : (size : ℕ) → variable.size ≡ size → variable_offset object variable.size v + variable_size variable ≤ greater size object.variables + total (sized_bytes size) object.variables
    of size is =
        let same = ap (λ z. variable_offset object z v) is in
        let earlier = of-size size (take v object.variables) in
        let bytes = bytes-of-size size variable is in
        let one = up-to-one (sized_bytes size) object.variables v variable at in
        omega (arith, same, earlier, bytes, one)

    by : IsOfSize variable → variable_offset object variable.size v + variable_size variable ≤ own_variables object
    by (inl is) = let h = of 1 is in let whole = all-sizes object.variables sizes in let before = words-greater object.variables sizes in omega (arith, h, whole, before)
    by (inr (inl is)) = let h = of 2 is in let whole = all-sizes object.variables sizes in let before = longs-greater object.variables sizes in omega (arith, h, whole, before)
    by (inr (inr is)) = let h = of 4 is in let whole = all-sizes object.variables sizes in let before = none-greater object.variables sizes in omega (arith, h, whole, before)

module _ (files : List FileNames) (objects : List ObjectPart) (addresses : Addresses)
    (inner : (f i : ℕ) (object : ObjectPart) → slice_get objects f ≡ Some object → addresses.object_variables f (length object.methods + 1 + i) ≡ inner_offset objects object i % 65536)
    (code : (f k : ℕ) (object : ObjectPart) → slice_get objects f ≡ Some object → addresses.code f (k + 1) ≡ code_offset object k)
    (sized : (f : ℕ) (object : ObjectPart) → slice_get objects f ≡ Some object → AreOfSize object.variables)
    (whole : (f : ℕ) (object : ObjectPart) → slice_get objects f ≡ Some object → slice_index (variables_of objects) f ≡ own_variables object + total (slice_index (variables_of objects)) object.instances)
    (rise : (f : ℕ) (names : FileNames) (object : ObjectPart) → slice_get files f ≡ Some names → slice_get objects f ≡ Some object → LabelsRise names object)
    (IsWay : ℕ → ℕ → Type 0) (begin : IsWay 0 0)
    (step : (f j place steps : ℕ) (object : ObjectPart) → IsWay f steps → slice_get objects f ≡ Some object → slice_get object.instances place ≡ Some j → IsWay j (suc steps))
    (short : (f steps : ℕ) (object : ObjectPart) → IsWay f steps → slice_get objects f ≡ Some object → steps < length objects)
    (variables_at : ℕ) (top_at : addresses.top.variables ≡ variables_at) (top_file : addresses.top.file ≡ 0)
    (behind : 16 + total size_of objects ≤ variables_at) (room : variables_at + slice_index (variables_of objects) 0 < 65536) where
  abbrev W : ℕ → ℕ
  W f = slice_index (variables_of objects) f

  abbrev within : (depth : ℕ) → (prefix : List ℕ) → (f place : ℕ) → List Instance
  within depth prefix f place = instances_within files objects (low (variables_of objects)) depth prefix f place

  -- an instance on a way of so many steps, whose variables are among those of the top file; if it has some, or is that of the top file, the instances inside it are
  -- among all
  record IsReached (path : List ℕ) (s : Standing) : Type 0 where
    steps : ℕ
    way : IsWay s.file steps
    fits : s.variables + W s.file ≤ variables_at + W 0
    gives : (d : ℕ) → d + steps ≡ length objects → (path ≡ []) ⊎ (0 < W s.file) → (x : Instance) → In x (within d path s.file s.variables) → In x (instances_from variables_at files objects)

  reached : (path : List ℕ) (s : Standing) → HasPath files objects addresses path s → IsReached path s
  reached _ _ top_path = record {
    steps = 0;
    way = subst (λ f. IsWay f 0) (sym top_file) begin;
    fits = let same = ap W top_file in omega (arith, same, top_at);
    gives = λ d count listed x h.
        let depth : d ≡ length objects = omega (arith, count) in
        subst (λ n. In x (within n [] 0 variables_at)) depth (subst (λ p. In x (within d [] 0 p)) top_at (subst (λ f. In x (within d [] f addresses.top.variables)) top_file h));
  }
  reached _ _ (inner_path {path} {name} {outer} {names} {object} {child} i h there at_name at_child) =
      let r = reached path outer h in
      let all = whole outer.file object there.is_object in
      let one = up-to-one W object.instances i child at_child in
      let offset = inner outer.file i object there.is_object in
      let fits = r.fits in
      let exact : (outer.variables + addresses.object_variables outer.file (length object.methods + 1 + i)) % 2 ^ 16 ≡ outer.variables + own_variables object + total W (take i object.instances) =
      omega (arith, offset, all, one, fits, room) in
      record {
        steps = suc r.steps;
        way = step outer.file child i r.steps object r.way there.is_object at_child;
        fits = omega (arith, exact, all, one, fits);
        gives = λ d count listed x inside.
            let some = positive path name (W child) listed in
            r.gives (suc d) (omega (arith, count)) (inr (omega (arith, all, one, some))) x
            (deeper-in files objects whole d path outer.file outer.variables names object there.is_file there.is_object (omega (arith, fits, room)) i name child at_name at_child some x
            (subst (λ p. In x (within d (path ++ name ++ codes ".") child p)) exact inside));
      }

  -- ---- objects

  abbrev objects_named : Named
  objects_named = with_objects ([], []) files objects 0 16 files objects

  room-of-objects : 16 + total size_of objects < 65536
  room-of-objects = omega (arith, behind, room)

  first-up : IsUpTo ([], []) 16
  first-up = later ([], []) 0 16 (omega arith) none-yet

  all-follow : Follow objects variables_at (variables_at + W 0) (instances_from variables_at files objects)
  all-follow = within-follow files objects whole (length objects) [] 0 variables_at room

  module _ (t : List ℕ) (r : Range) where
    after-objects : HasEntry objects_named t r → HasEntry (names_in variables_at files objects) t r
    after-objects h = instances-keep files objects sized t r objects_named variables_at (variables_at + W 0) (instances_from variables_at files objects) all-follow room h

    of-object : (f : ℕ) (names : FileNames) (object : ObjectPart) → IsFileAt files objects f names object
        → ((so_far : Named) → IsUpTo so_far (base_of objects f) → base_of objects f + size_of object < 65536 → HasEntry (with_object so_far (path_of files objects (length objects) f) (base_of objects f) names object) t r)
        → HasEntry (names_in variables_at files objects) t r
    of-object f names object there adds =
        let base = bases-at 16 objects f object there.is_object in
        let number : f ≡ 0 + f = omega arith in
        after-objects
        (objects-has files objects t r ([], []) 0 16 files objects first-up room-of-objects rise f names object there.is_file there.is_object
        (λ so_far up less.
        subst (λ g. HasEntry (with_object so_far (path_of files objects (length objects) g) (16 + total size_of (take f objects)) names object) t r) number
        (subst (λ b. HasEntry (with_object so_far (path_of files objects (length objects) f) b names object) t r) base
        (adds so_far (subst (IsUpTo so_far) (sym base) up) (omega (arith, base, less))))))

    label-there : (x : NamedLabel files objects) → t ≡ path_of files objects (length objects) x.f ++ x.label.name → r ≡ label_range files objects addresses x → HasEntry (names_in variables_at files objects) t r
    label-there x text_is range_is =
        of-object x.f x.names x.object x.there (λ so_far up less.
        object-label t r so_far (path_of files objects (length objects) x.f) (base_of objects x.f) x.names x.object up less (rise x.f x.names x.object x.there.is_file x.there.is_object) x.k x.label x.is_label text_is range_is)

    method-there : (x : NamedMethod files objects) → t ≡ path_of files objects (length objects) x.f ++ x.m.name → r ≡ method_range files objects addresses x → HasEntry (names_in variables_at files objects) t r
    method-there x text_is range_is =
        of-object x.f x.names x.object x.there (λ so_far up less.
        let a = ap (λ (q : Range). q.address) range_is in
        let e = ap (λ (q : Range). q.end) range_is in
        let offset = code x.f x.k x.object x.there.is_object in
        let one = up-to-one code_size x.object.methods x.k x.method x.is_method in
        object-method t r so_far (path_of files objects (length objects) x.f) (base_of objects x.f) x.names x.object up less (rise x.f x.names x.object x.there.is_file x.there.is_object)
        x.k x.m x.method x.is_name x.is_method text_is (omega (arith, a, offset, one, less)) (omega (arith, e, offset, one, less)))

    variable-there : (x : NamedVariable files objects addresses) → t ≡ x.path ++ x.name → r ≡ variable_range files objects addresses x → IsListed files objects addresses x → HasEntry (names_in variables_at files objects) t r
    variable-there x text_is range_is listed =
        let s = x.instance in
        let a = ap (λ (q : Range). q.address) range_is in
        let e = ap (λ (q : Range). q.end) range_is in
        let way = reached x.path s x.has_path in
        let steps = short s.file way.steps x.object way.way x.there.is_object in
        let all = whole s.file x.object x.there.is_object in
        let inside = variable-fits x.object (sized s.file x.object x.there.is_object) x.v x.variable x.is_variable in
        let fits = way.fits in
        let i : Instance = record { prefix = x.path; file = s.file; place = s.variables } in
        let d : ℕ = length objects - (way.steps + 1) in
        let among : In i (instances_from variables_at files objects) =
        way.gives (suc d) (omega (arith, steps)) listed i
        (own-in files objects whole d x.path s.file s.variables x.names x.object x.v x.variable x.there.is_file x.there.is_object x.is_variable) in
        instances-has files objects sized t r objects_named variables_at (variables_at + W 0) (instances_from variables_at files objects)
        (later objects_named (16 + total size_of objects) variables_at behind (objects-up files objects ([], []) 0 16 files objects first-up room-of-objects rise)) all-follow room i among
        (λ so_far up less.
        let opened : with_instance so_far i (slice_get files s.file) (slice_get objects s.file) ≡ with_instance so_far i (Some x.names) (Some x.object) =
        ap₂ (λ f o. with_instance so_far i f o) x.there.is_file x.there.is_object in
        subst (λ n. HasEntry n t r) (sym opened)
        (variables-has x.object (sized s.file x.object x.there.is_object) s.variables (omega (arith, all, fits, room)) t r so_far x.path x.names.variables up x.v x.name x.variable x.is_name x.is_variable text_is
        (omega (arith, a, all, inside, fits, room)) (omega (arith, e, all, inside, fits, room))))

    -- whatever has this name
    pub names-complete : (named : IsNameOf files objects addresses t r) → IsTold files objects addresses t r named → HasEntry (names_in variables_at files objects) t r
    names-complete (of_label x text_is range_is) told = label-there x text_is range_is
    names-complete (of_method x text_is range_is) told = method-there x text_is range_is
    names-complete (of_variable x text_is range_is) told = variable-there x text_is range_is told
