-- What the search for a call knows of the names of a method is what they are there.
use Rattle.std.proofs.Common.{◌≡◌, ◌⊎◌, inl, inr, ℕ, suc, min, ◌+◌, Bool, true, false, List, [], ◌∷◌, ◌++◌, length, slice_get, Option, Some, None, refl, ap, sym, ◌∙◌, subst, arith, length-append, append-nil}
use Rattle.std.proofs.lemmas.Grind.{flat_map-append}
use Rattle.std.specs.Prelude.{IfSome, if◌then◌else◌}
use Rattle.std.specs.Map.{lookup}
use Rattle.std.specs.Option.{option_or}
use Rattle.std.specs.Str.{bytes_eq}
use Rattle.std.proofs.lemmas.Bool.{cases_lt}
use Rattle.p8_tree.specs.declared.places.Place.{Place}
use Rattle.p8_tree.specs.Names.{result_word}
use Rattle.p8_tree.specs.Sources.{Declared, MethodTree, Source}
use Rattle.p8_tree.specs.declared.faults.Fault.{Fault}
use Rattle.p8_tree.specs.Faults.{fault}
use Rattle.p8_tree.specs.declared.refusal.Refusal.TheVariants.{WrongArity}
use Rattle.p8_constants.specs.FileItems.{Item, constant, variable, object, method, line, items}
use Rattle.p8_constants.specs.Names.{label_name}
use Rattle.p8_constants.specs.Rules.{count_in}
use Rattle.p8_fold.specs.Meanings.{Setting}
use Rattle.p8_kinds.specs.declared.children.Child.{Child}
use Rattle.p8_kinds.specs.declared.children.ChildMethod.{ChildMethod}
use Rattle.p8_kinds.specs.declared.children.Children.{Children}
use Rattle.p8_kinds.specs.declared.name_kinds.NameKind.{NameKind}
use Rattle.p8_kinds.specs.declared.name_kinds.NameKind.TheVariants as kind
use Rattle.p8_kinds.specs.Environments.{kind_in}
use Rattle.p8_kinds.specs.Kinds.{or_else}
use Rattle.p8_kinds.specs.Misuses.{MisuseInStatements}
use Rattle.p8_kinds.specs.Publics.{method_among, method_in}
use Rattle.p8_names.specs.Settings.{has_name, predefined_value, with_children}
use Rattle.p8_names.specs.Kinds.{publics, privates, numbered, objects, object_in, number_in, position_in, own_kind, method_setting, file_kind, kind_among, kind_or, item_kind, param_kinds, result_kind, local_kinds, kind_in_method}
use Rattle.p8_names.specs.Faults.{in_method, InMethods}
use Rattle.p8_build.specs.declared.sizes.Size.{Size}
use Rattle.p8_build.specs.Arguments.{AreFew, params_of, params_among, params_seen, Search, in_statements, in_methods, arguments_at}
use Rattle.p8_build.proofs.Called.{no_children}
use Rattle.p8_build.proofs.Miscounted.{IsTold, told_left, told_right, Knows, found_statements}

-- ---- kinds with a property that locals and constants have

module _ (P : NameKind → Type 0) (local : (offset : ℕ) → P (kind.Local offset)) (const : (v : ℕ) → P (kind.Const v)) where
  holds_or : (a b : Option NameKind) → IfSome a P → IfSome b P → IfSome (or_else a b) P
  holds_or None b p q = q
  holds_or (Some k) b p q = p

  holds_where : (b : Bool) (x y : Option NameKind) → IfSome x P → IfSome y P → IfSome (if b then x else y) P
  holds_where true x y p q = p
  holds_where false x y p q = q

  holds_found : (n m : List ℕ) (offset : ℕ) (rest : List (List ℕ × NameKind)) → IfSome (lookup (bytes_eq n) rest) P → IfSome (lookup (bytes_eq n) ((m, kind.Local offset) ∷ rest)) P
  holds_found n m offset rest q = holds_where (bytes_eq n m) (Some (kind.Local offset)) (lookup (bytes_eq n) rest) (local offset) q

  holds_locals : (s : Setting) (longs : ℕ) (xs : List Declared) (n : List ℕ) → IfSome (lookup (bytes_eq n) (local_kinds s longs xs)) P
  holds_locals s longs [] n = tt
  holds_locals s longs (x ∷ xs) n = holds_found n x.name _ (local_kinds s (longs + count_in s x.count) xs) (holds_locals s (longs + count_in s x.count) xs n)

  holds_result : (o : Option (List ℕ)) (rest : List (List ℕ × NameKind)) (n : List ℕ) → IfSome (lookup (bytes_eq n) rest) P → IfSome (lookup (bytes_eq n) (result_kind o ++ rest)) P
  holds_result None rest n p = p
  holds_result (Some m) rest n p = holds_found n m _ rest p

  holds_params : (longs : ℕ) (ns : List (List ℕ)) (rest : List (List ℕ × NameKind)) (n : List ℕ) → IfSome (lookup (bytes_eq n) rest) P → IfSome (lookup (bytes_eq n) (param_kinds longs ns ++ rest)) P
  holds_params longs [] rest n p = p
  holds_params longs (m ∷ ns) rest n p = holds_found n m _ (param_kinds (longs + 1) ns ++ rest) (holds_params (longs + 1) ns rest n p)

  holds_own : (s : Setting) (m : MethodTree) (n : List ℕ) → IfSome (own_kind s (Some m) n) P
  holds_own s m n =
      let t = method_setting s m in
      holds_params 1 m.params (result_kind m.result_name ++ local_kinds t (length m.params + 1) m.locals) n
      (holds_result m.result_name (local_kinds t (length m.params + 1) m.locals) n (holds_locals t (length m.params + 1) m.locals n))

  holds_constant : (o : Option ℕ) (k : Option NameKind) → IfSome k P → IfSome (kind_or o k) P
  holds_constant None k p = p
  holds_constant (Some v) k p = const v

  -- where the items of a file have it, all names of a method do
  pub holds_in : (s : Setting) (xs : List Item) (children : Children) (m : MethodTree) (n : List ℕ) → IfSome (kind_among s xs [] xs n) P → IfSome (kind_in (in_method s xs children m) n) P
  holds_in s xs children m n p =
      holds_where (bytes_eq n result_word) (Some (kind.Local 0)) (kind_in_method s xs m n) (local 0)
      (holds_or (own_kind s (Some m) n) (file_kind s xs n) (holds_own s m n) (holds_constant (predefined_value n) (kind_among s xs [] xs n) p))

at_kind : (P : NameKind → Type 0) (k : Option NameKind) (x : NameKind) → IfSome k P → k ≡ Some x → P x
at_kind P k x h e = subst (λ (o : Option NameKind). IfSome o P) e h

-- ---- methods of the file

abbrev Says : Option ℕ → NameKind → Type 0
Says w (kind.Method number params) = w ≡ Some params
Says w k = Unit {0}

few_params : (m : MethodTree) (xs : List Item) → AreFew (method m ∷ xs) → length m.params ≡ min (length m.params) 255
few_params m xs few = elim (cases_lt 15 (length m.params)) [ inl more ↦ absurd (few (fault WrongArity m.place) (inl (more, refl))) | inr within ↦ omega (arith, within) ]

where_holds : (P : NameKind → Type 0) (b : Bool) (x y : Option NameKind) → IfSome x P → IfSome y P → IfSome (if b then x else y) P
where_holds P true x y p q = p
where_holds P false x y p q = q

method_says : (b : Bool) (number params : ℕ) (rest : Option NameKind) (w : Option ℕ) → params ≡ min params 255 → IfSome rest (Says w)
    → IfSome (if b then Some (kind.Method number (min params 255)) else rest) (Says (option_or (if b then Some params else None) w))
method_says true number params rest w e q = ap Some e
method_says false number params rest w e q = q

among_says : (s : Setting) (all before xs : List Item) (n : List ℕ) → AreFew xs → IfSome (kind_among s all before xs n) (Says (params_of xs n))
among_says s all before [] n few = tt
among_says s all before (constant x ∷ xs) n few =
    where_holds (Says (params_of xs n)) (has_name x.name n) (Some (item_kind s all before (constant x) xs)) (kind_among s all (before ++ constant x ∷ []) xs n) tt
    (among_says s all (before ++ constant x ∷ []) xs n (λ g h. few g (inr h)))
among_says s all before (variable x ∷ xs) n few =
    where_holds (Says (params_of xs n)) (bytes_eq n x.name) (Some (item_kind s all before (variable x) xs)) (kind_among s all (before ++ variable x ∷ []) xs n) tt
    (among_says s all (before ++ variable x ∷ []) xs n (λ g h. few g (inr h)))
among_says s all before (object x ∷ xs) n few =
    where_holds (Says (params_of xs n)) (bytes_eq n x.name) (Some (item_kind s all before (object x) xs)) (kind_among s all (before ++ object x ∷ []) xs n) tt
    (among_says s all (before ++ object x ∷ []) xs n (λ g h. few g (inr h)))
among_says s all before (method m ∷ xs) n few =
    method_says (bytes_eq n m.name) (min (number_in all before m.public) 255) (length m.params) (kind_among s all (before ++ method m ∷ []) xs n) (params_of xs n) (few_params m xs few)
    (among_says s all (before ++ method m ∷ []) xs n (λ g h. few g (inr h)))
among_says s all before (line x ∷ xs) n few =
    where_holds (Says (params_of xs n)) (has_name (label_name x.label) n) (Some (item_kind s all before (line x) xs)) (kind_among s all (before ++ line x ∷ []) xs n) tt
    (among_says s all (before ++ line x ∷ []) xs n (λ g h. few g (inr h)))

-- ---- objects, each with what is seen of its file

abbrev IsSeen : List Child → Option Child → NameKind → Type 0
IsSeen cs o (kind.Object item position many) = o ≡ slice_get cs item
IsSeen cs o k = Unit {0}

-- the children that are left behind some items
record AreLeft (cs : List Child) (before : List Item) (left : List Child) : Type 0 where
  each : (j : ℕ) → slice_get cs (length (objects before) + j) ≡ slice_get left j

count_more : (before : List Item) (x : Item) → length (objects (before ++ x ∷ [])) ≡ length (objects before) + length (object_in x)
count_more before x =
    ap length (flat_map-append object_in before (x ∷ []) ∙ ap (λ ys. objects before ++ ys) (append-nil (object_in x)))
    ∙ length-append (objects before) (object_in x)

left_same : (cs : List Child) (before : List Item) (x : Item) (left : List Child) → length (object_in x) ≡ 0 → AreLeft cs before left → AreLeft cs (before ++ x ∷ []) left
left_same cs before x left none h = record {
  each = λ j.
      let place : length (objects (before ++ x ∷ [])) + j ≡ length (objects before) + j = omega (arith, count_more before x, none) in
      ap (slice_get cs) place ∙ h.each j;
}

next_place : (before : List Item) (x : Item) (j : ℕ) → length (object_in x) ≡ 1 → length (objects (before ++ x ∷ [])) + j ≡ length (objects before) + suc j
next_place before x j one = omega (arith, count_more before x, one)

left_next : (cs : List Child) (before : List Item) (x : Item) (c : Child) (left : List Child) → length (object_in x) ≡ 1 → AreLeft cs before (c ∷ left) → AreLeft cs (before ++ x ∷ []) left
left_next cs before x c left one h = record { each = λ j. ap (slice_get cs) (next_place before x j one) ∙ h.each (suc j) }

left_none : (cs : List Child) (before : List Item) (x : Item) → length (object_in x) ≡ 1 → AreLeft cs before [] → AreLeft cs (before ++ x ∷ []) []
left_none cs before x one h = record { each = λ j. ap (slice_get cs) (next_place before x j one) ∙ h.each (suc j) }

here : (cs : List Child) (before : List Item) (left : List Child) → AreLeft cs before left → slice_get left 0 ≡ slice_get cs (length (objects before))
here cs before left h =
    let place : length (objects before) + 0 ≡ length (objects before) = omega arith in
    sym (h.each 0) ∙ ap (slice_get cs) place

object_sees : (b : Bool) (cs : List Child) (c : Child) (item position many : ℕ) (rest : Option NameKind) (o : Option Child) → Some c ≡ slice_get cs item → IfSome rest (IsSeen cs o)
    → IfSome (if b then Some (kind.Object item position many) else rest) (IsSeen cs (if b then Some c else o))
object_sees true cs c item position many rest o e q = e
object_sees false cs c item position many rest o e q = q

among_sees : (s : Setting) (all before xs : List Item) (n : List ℕ) (cs left : List Child) → AreLeft cs before left → IfSome (kind_among s all before xs n) (IsSeen cs (lookup (bytes_eq n) (with_children xs left)))
among_sees s all before [] n cs left h = tt
among_sees s all before (constant x ∷ xs) n cs left h =
    where_holds (IsSeen cs (lookup (bytes_eq n) (with_children xs left))) (has_name x.name n) (Some (item_kind s all before (constant x) xs)) (kind_among s all (before ++ constant x ∷ []) xs n) tt
    (among_sees s all (before ++ constant x ∷ []) xs n cs left (left_same cs before (constant x) left refl h))
among_sees s all before (variable x ∷ xs) n cs left h =
    where_holds (IsSeen cs (lookup (bytes_eq n) (with_children xs left))) (bytes_eq n x.name) (Some (item_kind s all before (variable x) xs)) (kind_among s all (before ++ variable x ∷ []) xs n) tt
    (among_sees s all (before ++ variable x ∷ []) xs n cs left (left_same cs before (variable x) left refl h))
among_sees s all before (object x ∷ xs) n cs [] h =
    where_holds (IsSeen cs (lookup (bytes_eq n) (with_children xs []))) (bytes_eq n x.name) (Some (item_kind s all before (object x) xs)) (kind_among s all (before ++ object x ∷ []) xs n)
    (ap (lookup (bytes_eq n)) (no_children xs) ∙ here cs before [] h)
    (among_sees s all (before ++ object x ∷ []) xs n cs [] (left_none cs before (object x) refl h))
among_sees s all before (object x ∷ xs) n cs (c ∷ left) h =
    object_sees (bytes_eq n x.name) cs c (length (objects before)) (min (position_in s all before) 255) (min (count_in s x.count) 255) (kind_among s all (before ++ object x ∷ []) xs n) (lookup (bytes_eq n) (with_children xs left))
    (here cs before (c ∷ left) h)
    (among_sees s all (before ++ object x ∷ []) xs n cs left (left_next cs before (object x) c left refl h))
among_sees s all before (method m ∷ xs) n cs left h =
    where_holds (IsSeen cs (lookup (bytes_eq n) (with_children xs left))) (bytes_eq n m.name) (Some (item_kind s all before (method m) xs)) (kind_among s all (before ++ method m ∷ []) xs n) tt
    (among_sees s all (before ++ method m ∷ []) xs n cs left (left_same cs before (method m) left refl h))
among_sees s all before (line x ∷ xs) n cs left h =
    where_holds (IsSeen cs (lookup (bytes_eq n) (with_children xs left))) (has_name (label_name x.label) n) (Some (item_kind s all before (line x) xs)) (kind_among s all (before ++ line x ∷ []) xs n) tt
    (among_sees s all (before ++ line x ∷ []) xs n cs left (left_same cs before (line x) left refl h))

-- ---- methods of objects

abbrev params_in_kind : Option NameKind → Option ℕ
params_in_kind (Some (kind.Method number params)) = Some params
params_in_kind k = None

one_or_rest : (b : Bool) (a c : ℕ) (rest : Option NameKind) (w : Option ℕ) (number params : ℕ) → (rest ≡ Some (kind.Method number params) → w ≡ Some params)
    → or_else (if b then Some (kind.Method a c) else None) rest ≡ Some (kind.Method number params) → (if b then Some c else w) ≡ Some params
one_or_rest true a c rest w number params further e = ap params_in_kind e
one_or_rest false a c rest w number params further e = further e

among_params : (from : ℕ) (ms : List ChildMethod) (name : List ℕ) (number params : ℕ) → method_among from ms name ≡ Some (kind.Method number params) → params_among ms name ≡ Some params
among_params from [] name number params e = absurd cc
among_params from (m ∷ ms) name number params e =
    one_or_rest (bytes_eq name m.name) (min from 255) m.params (method_among (suc from) ms name) (params_among ms name) number params (among_params (suc from) ms name number params) e

seen_params : (o : Option Child) (name : List ℕ) (number params : ℕ) → method_in o name ≡ Some (kind.Method number params) → params_seen o name ≡ Some params
seen_params None name number params e = absurd cc
seen_params (Some c) name number params e = among_params 1 c.methods name number params e

-- ---- a file

no_more : (j : ℕ) → 0 + j ≡ j
no_more j = omega arith

knows : (s : Setting) (xs : List Item) (children : Children) (m : MethodTree) (place : Place) → AreFew xs → Knows (record { items = xs; children = children.items; place = place }) (in_method s xs children m)
knows s xs children m place few = record {
  own = λ name number params e.
      at_kind (Says (params_of xs name)) (kind_in (in_method s xs children m) name) (kind.Method number params)
      (holds_in (Says (params_of xs name)) (λ offset. tt) (λ v. tt) s xs children m name (among_says s xs [] xs name few)) e;
  behind = λ object name item position many number params e p.
      ap (λ o. params_seen o name)
      (at_kind (IsSeen children.items (lookup (bytes_eq object) (with_children xs children.items))) (kind_in (in_method s xs children m) object) (kind.Object item position many)
      (holds_in (IsSeen children.items (lookup (bytes_eq object) (with_children xs children.items))) (λ offset. tt) (λ v. tt) s xs children m object
      (among_sees s xs [] xs object children.items children.items (record { each = λ j. ap (slice_get children.items) (no_more j) }))) e)
      ∙ seen_params (slice_get children.items item) name number params p;
}

in_either : (R : MethodTree → Fault → Type 0) (ms ns : List MethodTree) (f : Fault) → InMethods R (ms ++ ns) f → InMethods R ms f ⊎ InMethods R ns f
in_either R [] ns f h = inr h
in_either R (m ∷ ms) ns f (inl h) = inl (inl h)
in_either R (m ∷ ms) ns f (inr h) = elim (in_either R ms ns f h) [ inl p ↦ inl (inr p) | inr p ↦ inr p ]

module _ (R : MethodTree → Fault → Type 0) (q : Search) (f : Fault) (each : (m : MethodTree) → R m f → IsTold (in_statements q m.body)) where
  one_or_more : (b : Bool) (m : MethodTree) (ms : List MethodTree) (rest : Option Size) → (InMethods R ms f → IsTold rest) → InMethods R ((if b then m ∷ [] else []) ++ ms) f → IsTold (option_or (in_statements q m.body) rest)
  one_or_more true m ms rest further (inl p) = told_left (in_statements q m.body) rest (each m p)
  one_or_more true m ms rest further (inr p) = told_right (in_statements q m.body) rest (further p)
  one_or_more false m ms rest further p = told_right (in_statements q m.body) rest (further p)

  none_or_one : (b : Bool) (m : MethodTree) (ms : List MethodTree) (rest : Option Size) → (InMethods R ms f → IsTold rest) → InMethods R ((if b then [] else m ∷ []) ++ ms) f → IsTold (option_or (in_statements q m.body) rest)
  none_or_one true m ms rest further p = told_right (in_statements q m.body) rest (further p)
  none_or_one false m ms rest further (inl p) = told_left (in_statements q m.body) rest (each m p)
  none_or_one false m ms rest further (inr p) = told_right (in_statements q m.body) rest (further p)

  in_publics : (xs : List Item) → InMethods R (publics xs) f → IsTold (in_methods q xs)
  in_publics [] h = absurd h
  in_publics (constant x ∷ xs) h = in_publics xs h
  in_publics (variable x ∷ xs) h = in_publics xs h
  in_publics (object x ∷ xs) h = in_publics xs h
  in_publics (line x ∷ xs) h = in_publics xs h
  in_publics (method m ∷ xs) h = one_or_more m.public m (publics xs) (in_methods q xs) (in_publics xs) h

  in_privates : (xs : List Item) → InMethods R (privates xs) f → IsTold (in_methods q xs)
  in_privates [] h = absurd h
  in_privates (constant x ∷ xs) h = in_privates xs h
  in_privates (variable x ∷ xs) h = in_privates xs h
  in_privates (object x ∷ xs) h = in_privates xs h
  in_privates (line x ∷ xs) h = in_privates xs h
  in_privates (method m ∷ xs) h = none_or_one m.public m (privates xs) (in_methods q xs) (in_privates xs) h

abbrev Misused : Setting → List Item → Children → MethodTree → Fault → Type 0
Misused s xs children m f = MisuseInStatements (in_method s xs children m) m.body f

-- a call of a file that is refused for the number of its arguments
pub told_of_file : (s : Setting) (source : Source) (children : Children) (f : Fault) → AreFew (items source) → f.number ≡ 17
    → InMethods (Misused s (items source) children) (numbered (items source)) f → IsTold (arguments_at source children f.place)
told_of_file s source children f few count h =
    elim (in_either (Misused s (items source) children) (publics (items source)) (privates (items source)) f h) [
      | inl p ↦ in_publics (Misused s (items source) children) (record { items = items source; children = children.items; place = f.place }) f each (items source) p
      | inr p ↦ in_privates (Misused s (items source) children) (record { items = items source; children = children.items; place = f.place }) f each (items source) p
    ]
  where
    each : (m : MethodTree) → Misused s (items source) children m f → IsTold (in_statements (record { items = items source; children = children.items; place = f.place }) m.body)
    each m p =
        found_statements (record { items = items source; children = children.items; place = f.place }) (in_method s (items source) children m) (knows s (items source) children m f.place few) f refl count m.body p
