-- The methods of a file in the order of their numbers.
use Rattle.std.proofs.Common.{◌≡◌, ◌⊎◌, inl, inr, ℕ, zero, suc, ◌+◌, ◌≤◌, Bool, true, false, if◌then◌else◌, List, [], ◌∷◌, ◌++◌, length, slice_get, Some, refl, sym, subst, arith, length-append}
use Rattle.std.specs.Prelude.{All, ◌||◌}
use Rattle.std.proofs.lemmas.Option.{slice_get_within, same_Some, none-some, get_or_from_slice_get}
use Rattle.std.proofs.lemmas.List.Elements.{All-nil, All-cons, All-append, All-head, All-tail, All-map}
use Rattle.p8_tree.specs.Sources as trees
use Rattle.p8_tree.specs.Sources.{MethodTree, BlockTree, Source}
use Rattle.p8_tree.specs.Proper.{IsProperMethod, IsProperBlock, IsProperFile}
use Rattle.p8_tree.specs.declared.faults.Fault.{Fault}
use Rattle.p8_constants.specs.FileItems.{Item, constant, variable, object, method, line, block_items, items}
use Rattle.p8_constants.specs.Rules.{has_public}
use Rattle.p8_names.specs.Kinds.{public_in, private_in, methods, publics, privates, numbered}
use Rattle.p8_names.specs.Faults.{InMethods}

-- ---- how many there are

one_more : (b : Bool) (m : MethodTree) (ps qs : List MethodTree) (n : ℕ) → length ps + length qs ≡ n → length ((if b then m ∷ [] else []) ++ ps) + length ((if b then [] else m ∷ []) ++ qs) ≡ suc n
one_more true m ps qs n e = omega arith
one_more false m ps qs n e = omega arith

split : (xs : List Item) → length (publics xs) + length (privates xs) ≡ length (methods xs)
split [] = refl
split (constant x ∷ xs) = split xs
split (variable x ∷ xs) = split xs
split (object x ∷ xs) = split xs
split (method m ∷ xs) = one_more m.public m (publics xs) (privates xs) (length (methods xs)) (split xs)
split (line x ∷ xs) = split xs

-- a method's number isn't greater than how many there are
pub count_of_numbered : (xs : List Item) (k : ℕ) (m : MethodTree) → slice_get (numbered xs) k ≡ Some m → k + 1 ≤ length (methods xs)
count_of_numbered xs k m at =
    let within = slice_get_within (numbered xs) k m at in
    omega (arith, length-append (publics xs) (privates xs), split xs)

-- ---- what is so of each

abbrev OfMethod : (MethodTree → Type 0) → Item → Type 0
OfMethod P (method m) = P m
OfMethod P x = Unit {0}

where_one : (P : MethodTree → Type 0) (b : Bool) (m : MethodTree) → P m → All P (if b then m ∷ [] else [])
where_one P true m p = All-cons P m [] p (All-nil P)
where_one P false m p = All-nil P

where_none : (P : MethodTree → Type 0) (b : Bool) (m : MethodTree) → P m → All P (if b then [] else m ∷ [])
where_none P true m p = All-nil P
where_none P false m p = All-cons P m [] p (All-nil P)

public_one : (P : MethodTree → Type 0) (x : Item) → OfMethod P x → All P (public_in x)
public_one P (method m) p = where_one P m.public m p
public_one P (constant x) p = All-nil P
public_one P (variable x) p = All-nil P
public_one P (object x) p = All-nil P
public_one P (line x) p = All-nil P

private_one : (P : MethodTree → Type 0) (x : Item) → OfMethod P x → All P (private_in x)
private_one P (method m) p = where_none P m.public m p
private_one P (constant x) p = All-nil P
private_one P (variable x) p = All-nil P
private_one P (object x) p = All-nil P
private_one P (line x) p = All-nil P

publics_all : (P : MethodTree → Type 0) (xs : List Item) → All (OfMethod P) xs → All P (publics xs)
publics_all P [] h = All-nil P
publics_all P (x ∷ xs) h = All-append P (public_in x) (publics xs) (public_one P x (All-head (OfMethod P) x xs h)) (publics_all P xs (All-tail (OfMethod P) x xs h))

privates_all : (P : MethodTree → Type 0) (xs : List Item) → All (OfMethod P) xs → All P (privates xs)
privates_all P [] h = All-nil P
privates_all P (x ∷ xs) h = All-append P (private_in x) (privates xs) (private_one P x (All-head (OfMethod P) x xs h)) (privates_all P xs (All-tail (OfMethod P) x xs h))

methods_in : (b : BlockTree) → IsProperBlock b → All (OfMethod IsProperMethod) (block_items b)
methods_in (trees.Con xs) proper = All-map (OfMethod IsProperMethod) constant xs (λ k d l. tt)
methods_in (trees.Var xs) proper = All-map (OfMethod IsProperMethod) variable xs (λ k d l. tt)
methods_in (trees.Obj xs) proper = All-map (OfMethod IsProperMethod) object xs (λ k d l. tt)
methods_in (trees.Method x) proper = All-cons (OfMethod IsProperMethod) (method x) [] proper (All-nil (OfMethod IsProperMethod))
methods_in (trees.Dat xs) proper = All-map (OfMethod IsProperMethod) line xs (λ k d l. tt)

all_methods : (file : Source) → IsProperFile file → All (OfMethod IsProperMethod) (items file)
all_methods [] proper = All-nil (OfMethod IsProperMethod)
all_methods (b ∷ bs) proper = All-append (OfMethod IsProperMethod) (block_items b) (items bs) (methods_in b (All-head IsProperBlock b bs proper)) (all_methods bs (All-tail IsProperBlock b bs proper))

-- each method of a file that was read is one that was read
pub proper_method : (file : Source) (k : ℕ) (m : MethodTree) → IsProperFile file → slice_get (numbered (items file)) k ≡ Some m → IsProperMethod m
proper_method file k m proper at =
    let ms = numbered (items file) in
    let all : All IsProperMethod ms = All-append IsProperMethod (publics (items file)) (privates (items file)) (publics_all IsProperMethod (items file) (all_methods file proper)) (privates_all IsProperMethod (items file) (all_methods file proper)) in
    subst IsProperMethod (get_or_from_slice_get ms k m m at) (all k m (slice_get_within ms k m at))

-- ---- faults

-- the fault of one is a fault of all
pub in_methods : (Rule : MethodTree → Fault → Type 0) (ms : List MethodTree) (k : ℕ) (m : MethodTree) (f : Fault) → slice_get ms k ≡ Some m → Rule m f → InMethods Rule ms f
in_methods Rule [] k m f at r = absurd (none-some m at)
in_methods Rule (x ∷ ms) zero m f at r = inl (subst (λ y. Rule y f) (sym (same_Some x m at)) r)
in_methods Rule (x ∷ ms) (suc k) m f at r = inr (in_methods Rule ms k m f at r)

-- ---- the first one

first_if : (b : Bool) (m : MethodTree) (ps : List MethodTree) → b ≡ true → (x : MethodTree) × (xs : List MethodTree) × ((if b then m ∷ [] else []) ++ ps ≡ x ∷ xs)
first_if true m ps e = (m, ps, refl)
first_if false m ps e = absurd cc

first_or : (b : Bool) (m : MethodTree) (ps : List MethodTree) → ((x : MethodTree) × (xs : List MethodTree) × (ps ≡ x ∷ xs)) → (x : MethodTree) × (xs : List MethodTree) × ((if b then m ∷ [] else []) ++ ps ≡ x ∷ xs)
first_or true m ps h = (m, ps, refl)
first_or false m ps h = h

first_method : (b : Bool) (m : MethodTree) (xs : List Item) → b ≡ true ⊎ (has_public xs ≡ true) → (has_public xs ≡ true → (x : MethodTree) × (ys : List MethodTree) × (publics xs ≡ x ∷ ys)) → (x : MethodTree) × (ys : List MethodTree) × ((if b then m ∷ [] else []) ++ publics xs ≡ x ∷ ys)
first_method b m xs (inl e) more = first_if b m (publics xs) e
first_method b m xs (inr e) more = first_or b m (publics xs) (more e)

either : (a b : Bool) → (a || b) ≡ true → (a ≡ true) ⊎ (b ≡ true)
either true b e = inl refl
either false b e = inr e

-- where there is a PUB, the first of the methods is one
pub first_public : (xs : List Item) → has_public xs ≡ true → (m : MethodTree) × (ms : List MethodTree) × (publics xs ≡ m ∷ ms)
first_public [] e = absurd cc
first_public (constant x ∷ xs) e = first_public xs e
first_public (variable x ∷ xs) e = first_public xs e
first_public (object x ∷ xs) e = first_public xs e
first_public (method m ∷ xs) e = first_method m.public m xs (either m.public (has_public xs) e) (first_public xs)
first_public (line x ∷ xs) e = first_public xs e
