-- A method's own names are no names of its file.
use Rattle.std.proofs.Common.{◌≡◌, ◌⊎◌, inl, inr, ℕ, zero, suc, ◌+◌, Bool, true, false, ◌||◌, if◌then◌else◌, List, [], ◌∷◌, ◌++◌, length, map, slice_get, Option, Some, None, refl, sym, ap, subst, arith}
use Rattle.std.specs.Prelude.{Contains}
use Rattle.std.specs.Map.{lookup}
use Rattle.std.specs.Str.{bytes_eq}
use Rattle.std.proofs.lemmas.List.Elements.{Contains-append_left, Contains-append_right}
use Rattle.std.proofs.lemmas.Option.{same_Some, none-some}
use Rattle.p8_tree.specs.declared.places.Place.{Place}
use Rattle.p8_tree.specs.Sources.{Declared, MethodTree, Source}
use Rattle.p8_tree.specs.Proper.{IsProperMethod, is_nothing}
use Rattle.p8_tree.specs.declared.faults.Fault.{Fault}
use Rattle.p8_tree.specs.Faults.{fault}
use Rattle.p8_tree.specs.declared.refusal.Refusal.TheVariants.{Duplicate}
use Rattle.p8_fold.specs.Meanings.{Setting}
use Rattle.p8_constants.specs.FileItems.{Item, constant, variable, object, method, line, items}
use Rattle.p8_constants.specs.Names.{Defined, name_of, place_of, names_of, defined_before, spelled, file_names, predefined, predefined_names, params_of, result_of, local_of, own_names}
use Rattle.p8_constants.specs.Repeats.{RepeatIn, HasOwnRepeat}
use Rattle.p8_constants.specs.Rules.{InAny, count_in}
use Rattle.p8_kinds.specs.declared.children.Children.{Children}
use Rattle.p8_kinds.specs.declared.kinds.Kinds.{Kinds}
use Rattle.p8_kinds.specs.declared.name_kinds.NameKind.{NameKind}
use Rattle.p8_names.specs.Settings.{has_name, predefined_value, is_one_of}
use Rattle.p8_names.specs.Kinds.{publics, privates, numbered, item_kind, kind_among, kind_or, file_kind, param_kinds, result_kind, local_kinds, method_setting, own_kind}
use Rattle.p8_names.specs.Faults.{of_name, own_repeated}
use Rattle.p8_names.specs.Resolution.{IsNamed}
use Rattle.p8_names.proofs.Counts.{same-bytes}

head-of : (m n : List ℕ) (xs : List (List ℕ)) → bytes_eq n m ≡ true → Contains (m ∷ xs) n
head-of m n xs is = subst (λ k. Contains (m ∷ xs) k) (sym (same-bytes n m is)) (0, omega arith, refl)

tail-of : (m n : List ℕ) (xs : List (List ℕ)) → Contains xs n → Contains (m ∷ xs) n
tail-of m n xs has = Contains-append_right (m ∷ []) xs n has

-- ---- a name of the file is among its names

found-in : (b : Bool) (x : NameKind) (rest : Option NameKind) (k : NameKind) (P : Type 0) → (b ≡ true → P) → (rest ≡ Some k → P) → (if b then Some x else rest) ≡ Some k → P
found-in true x rest k P here others is = here refl
found-in false x rest k P here others is = others is

with-name : (o : Option (List ℕ)) (place : Place) (n : List ℕ) (rest : List Defined) → (has_name o n ≡ true) ⊎ Contains (spelled rest) n → Contains (spelled (defined_before o place rest)) n
with-name None place n rest (inl is) = absurd (let never : false ≡ true = is in cc)
with-name None place n rest (inr has) = has
with-name (Some m) place n rest (inl is) = head-of m n (spelled rest) is
with-name (Some m) place n rest (inr has) = tail-of m n (spelled rest) has

among-names : (s : Setting) (all before xs : List Item) (n : List ℕ) (k : NameKind) → kind_among s all before xs n ≡ Some k → Contains (spelled (names_of xs)) n
among-names s all before [] n k is = absurd (none-some k is)
among-names s all before (x ∷ xs) n k is =
    with-name (name_of x) (place_of x) n (names_of xs)
    (found-in (has_name (name_of x) n) (item_kind s all before x xs) (kind_among s all (before ++ x ∷ []) xs n) k ((has_name (name_of x) n ≡ true) ⊎ Contains (spelled (names_of xs)) n)
    (λ e. inl e) (λ e. inr (among-names s all (before ++ x ∷ []) xs n k e)) is)

value-in : (b : Bool) (m n : List ℕ) (v w : ℕ) (rest : Option ℕ) (xs : List (List ℕ)) → bytes_eq n m ≡ b → (if b then Some w else rest) ≡ Some v → (rest ≡ Some v → Contains xs n) → Contains (m ∷ xs) n
value-in true m n v w rest xs same is others = head-of m n xs same
value-in false m n v w rest xs same is others = tail-of m n xs (others is)

looked-up : (xs : List (List ℕ × ℕ)) (n : List ℕ) (v : ℕ) → lookup (bytes_eq n) xs ≡ Some v → Contains (map (λ x. x.0) xs) n
looked-up [] n v is = absurd (none-some v is)
looked-up (x ∷ xs) n v is = value-in (bytes_eq n x.0) x.0 n v x.1 (lookup (bytes_eq n) xs) (map (λ x. x.0) xs) refl is (looked-up xs n v)

file-named : (s : Setting) (xs : List Item) (n : List ℕ) (p : Option ℕ) (k : NameKind) → predefined_value n ≡ p → kind_or p (kind_among s xs [] xs n) ≡ Some k → Contains (file_names xs) n
file-named s xs n (Some v) k is found = Contains-append_left predefined_names (spelled (names_of xs)) n (looked-up predefined n v is)
file-named s xs n None k is found = Contains-append_right predefined_names (spelled (names_of xs)) n (among-names s xs [] xs n k found)

-- ---- a name of a method that is one of the file is refused

repeat-by : (b : Bool) (before : List (List ℕ)) (d : Defined) (ds : List Defined) (n : List ℕ) → bytes_eq n d.name ≡ b → Contains before n → (b || is_one_of (spelled ds) n) ≡ true
    → (is_one_of (spelled ds) n ≡ true → (f : Fault) × RepeatIn (before ++ d.name ∷ []) ds f) → (f : Fault) × RepeatIn before (d ∷ ds) f
repeat-by true before d ds n same has is others = (fault Duplicate d.place, inl (subst (Contains before) (same-bytes n d.name same) has, refl))
repeat-by false before d ds n same has is others = let r = others is in (r.0, inr r.1)

repeats : (before : List (List ℕ)) (ds : List Defined) (n : List ℕ) → Contains before n → is_one_of (spelled ds) n ≡ true → (f : Fault) × RepeatIn before ds f
repeats before [] n has is = absurd (let never : false ≡ true = is in cc)
repeats before (d ∷ ds) n has is =
    repeat-by (bytes_eq n d.name) before d ds n refl has is (λ rest. repeats (before ++ d.name ∷ []) ds n (Contains-append_left before (d.name ∷ []) n has) rest)

-- a fault of a method is one of the items
if-public : (Rule : Item → Fault → Type 0) (b : Bool) (y m : MethodTree) (ps : List MethodTree) (k : ℕ) (f : Fault) (rest : Type 0) → slice_get ((if b then y ∷ [] else []) ++ ps) k ≡ Some m → Rule (method m) f
    → ((j : ℕ) → slice_get ps j ≡ Some m → rest) → Rule (method y) f ⊎ rest
if-public Rule true y m ps zero f rest is r others = inl (subst (λ z. Rule (method z) f) (sym (same_Some y m is)) r)
if-public Rule true y m ps (suc k) f rest is r others = inr (others k is)
if-public Rule false y m ps k f rest is r others = inr (others k is)

if-private : (Rule : Item → Fault → Type 0) (b : Bool) (y m : MethodTree) (ps : List MethodTree) (k : ℕ) (f : Fault) (rest : Type 0) → slice_get ((if b then [] else y ∷ []) ++ ps) k ≡ Some m → Rule (method m) f
    → ((j : ℕ) → slice_get ps j ≡ Some m → rest) → Rule (method y) f ⊎ rest
if-private Rule false y m ps zero f rest is r others = inl (subst (λ z. Rule (method z) f) (sym (same_Some y m is)) r)
if-private Rule false y m ps (suc k) f rest is r others = inr (others k is)
if-private Rule true y m ps k f rest is r others = inr (others k is)

of-public : (Rule : Item → Fault → Type 0) (xs : List Item) (k : ℕ) (m : MethodTree) (f : Fault) → slice_get (publics xs) k ≡ Some m → Rule (method m) f → InAny Rule xs f
of-public Rule [] k m f is r = absurd (none-some m is)
of-public Rule (constant x ∷ xs) k m f is r = inr (of-public Rule xs k m f is r)
of-public Rule (variable x ∷ xs) k m f is r = inr (of-public Rule xs k m f is r)
of-public Rule (object x ∷ xs) k m f is r = inr (of-public Rule xs k m f is r)
of-public Rule (method y ∷ xs) k m f is r = if-public Rule y.public y m (publics xs) k f (InAny Rule xs f) is r (λ j e. of-public Rule xs j m f e r)
of-public Rule (line x ∷ xs) k m f is r = inr (of-public Rule xs k m f is r)

of-private : (Rule : Item → Fault → Type 0) (xs : List Item) (k : ℕ) (m : MethodTree) (f : Fault) → slice_get (privates xs) k ≡ Some m → Rule (method m) f → InAny Rule xs f
of-private Rule [] k m f is r = absurd (none-some m is)
of-private Rule (constant x ∷ xs) k m f is r = inr (of-private Rule xs k m f is r)
of-private Rule (variable x ∷ xs) k m f is r = inr (of-private Rule xs k m f is r)
of-private Rule (object x ∷ xs) k m f is r = inr (of-private Rule xs k m f is r)
of-private Rule (method y ∷ xs) k m f is r = if-private Rule y.public y m (privates xs) k f (InAny Rule xs f) is r (λ j e. of-private Rule xs j m f e r)
of-private Rule (line x ∷ xs) k m f is r = inr (of-private Rule xs k m f is r)

in-either : {X : Type 0} (xs ys : List X) (k : ℕ) (x : X) → slice_get (xs ++ ys) k ≡ Some x → ((j : ℕ) × (slice_get xs j ≡ Some x)) ⊎ ((j : ℕ) × (slice_get ys j ≡ Some x))
in-either [] ys k x is = inr (k, is)
in-either (y ∷ xs) ys zero x is = inl (0, is)
in-either (y ∷ xs) ys (suc k) x is = elim (in-either xs ys k x is) [ inl h ↦ inl (suc h.0, h.1) | inr h ↦ inr h ]

pub of-numbered : (Rule : Item → Fault → Type 0) (xs : List Item) (k : ℕ) (m : MethodTree) (f : Fault) → slice_get (numbered xs) k ≡ Some m → Rule (method m) f → InAny Rule xs f
of-numbered Rule xs k m f is r = elim (in-either (publics xs) (privates xs) k m is) [ inl h ↦ of-public Rule xs h.0 m f h.1 r | inr h ↦ of-private Rule xs h.0 m f h.1 r ]

none-of : (o : Option NameKind) → ((k : NameKind) → o ≡ Some k → ⊥) → o ≡ None
none-of None never = refl
none-of (Some k) never = absurd (never k refl)

-- an own name is none of the file
pub own-apart : (source : Source) (children : Children) (top : Bool) (found : Kinds) (named : IsNamed source children top found) (k : ℕ) (m : MethodTree) → slice_get (numbered (items source)) k ≡ Some m → (n : List ℕ)
    → is_one_of (spelled (own_names m)) n ≡ true → file_kind named.setting (items source) n ≡ None
own-apart source children top found named k m at n own =
    none-of (file_kind named.setting (items source) n) (λ kind is.
    let r = repeats (file_names (items source)) (own_names m) n (file-named named.setting (items source) n (predefined_value n) kind refl is) own in
    named.clean r.0 (of_name named.setting named.right (own_repeated (of-numbered (HasOwnRepeat (file_names (items source))) (items source) k m r.0 at r.1))))

-- ---- what has an own kind is an own name

one-more : (m n : List ℕ) (xs : List (List ℕ)) → is_one_of xs n ≡ true → is_one_of (m ∷ xs) n ≡ true
one-more m n xs is = or-right (bytes_eq n m) (is_one_of xs n) is
  where
    or-right : (a b : Bool) → b ≡ true → (a || b) ≡ true
    or-right true b e = refl
    or-right false b e = e

its-name : (m n : List ℕ) (xs : List (List ℕ)) → bytes_eq n m ≡ true → is_one_of (m ∷ xs) n ≡ true
its-name m n xs is = ap (λ b. b || is_one_of xs n) is

entry : (m n : List ℕ) (x : NameKind) (rest : Option NameKind) (k : NameKind) (xs : List (List ℕ)) → (if bytes_eq n m then Some x else rest) ≡ Some k → (rest ≡ Some k → is_one_of xs n ≡ true) → is_one_of (m ∷ xs) n ≡ true
entry m n x rest k xs is others = found-in (bytes_eq n m) x rest k (is_one_of (m ∷ xs) n ≡ true) (λ e. its-name m n xs e) (λ e. one-more m n xs (others e)) is

own-local : (s : Setting) (longs : ℕ) (xs : List Declared) (n : List ℕ) (k : NameKind) → lookup (bytes_eq n) (local_kinds s longs xs) ≡ Some k → is_one_of (spelled (map local_of xs)) n ≡ true
own-local s longs [] n k is = absurd (none-some k is)
own-local s longs (x ∷ xs) n k is = entry x.name n _ (lookup (bytes_eq n) (local_kinds s (longs + count_in s x.count) xs)) k (spelled (map local_of xs)) is (own-local s (longs + count_in s x.count) xs n k)

own-result : (o : Option (List ℕ)) (p : Option Place) (rest : List (List ℕ × NameKind)) (ds : List Defined) (n : List ℕ) (k : NameKind) → is_nothing p ≡ is_nothing o → lookup (bytes_eq n) (result_kind o ++ rest) ≡ Some k
    → (lookup (bytes_eq n) rest ≡ Some k → is_one_of (spelled ds) n ≡ true) → is_one_of (spelled (result_of o p ++ ds)) n ≡ true
own-result None None rest ds n k same is others = others is
own-result None (Some p) rest ds n k same is others = others is
own-result (Some m) None rest ds n k same is others = absurd (let never : true ≡ false = same in cc)
own-result (Some m) (Some p) rest ds n k same is others = entry m n _ (lookup (bytes_eq n) rest) k (spelled ds) is others

own-params : (longs : ℕ) (ns : List (List ℕ)) (ps : List Place) (rest : List (List ℕ × NameKind)) (ds : List Defined) (n : List ℕ) (k : NameKind) → length ps ≡ length ns → lookup (bytes_eq n) (param_kinds longs ns ++ rest) ≡ Some k
    → (lookup (bytes_eq n) rest ≡ Some k → is_one_of (spelled ds) n ≡ true) → is_one_of (spelled (params_of ns ps ++ ds)) n ≡ true
own-params longs [] [] rest ds n k same is others = others is
own-params longs [] (p ∷ ps) rest ds n k same is others = absurd (omega (arith, same))
own-params longs (m ∷ ns) [] rest ds n k same is others = absurd (omega (arith, same))
own-params longs (m ∷ ns) (p ∷ ps) rest ds n k same is others =
    entry m n _ (lookup (bytes_eq n) (param_kinds (longs + 1) ns ++ rest)) k (spelled (params_of ns ps ++ ds)) is (λ e. own-params (longs + 1) ns ps rest ds n k (omega (arith, same)) e others)

pub own-name : (s : Setting) (m : MethodTree) (n : List ℕ) (k : NameKind) → IsProperMethod m → own_kind s (Some m) n ≡ Some k → is_one_of (spelled (own_names m)) n ≡ true
own-name s m n k proper is =
    let t = method_setting s m in
    let locals = local_kinds t (length m.params + 1) m.locals in
    own-params 1 m.params m.param_places (result_kind m.result_name ++ locals) (result_of m.result_name m.result_place ++ map local_of m.locals) n k proper.param_places is
    (λ e. own-result m.result_name m.result_place locals (map local_of m.locals) n k proper.result_place e (own-local t (length m.params + 1) m.locals n k))
