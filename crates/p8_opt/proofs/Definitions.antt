-- What the names of a file mean, by its items and by their kinds.
use Rattle.std.proofs.Common.{◌≡◌, ◌⊎◌, inl, inr, ℕ, suc, ◌+◌, Bool, true, false, if◌then◌else◌, List, [], ◌∷◌, ◌++◌, length, map, slice_get, Option, Some, None, refl, sym, ap, ◌∙◌, arith, length-append}
use Rattle.std.specs.Prelude.{option_map}
use Rattle.std.specs.Option.{option_or}
use Rattle.std.specs.Map.{lookup}
use Rattle.std.specs.Str.{bytes_eq}
use Rattle.std.proofs.lemmas.Grind.{flat_map-append}
use Rattle.std.proofs.lemmas.Option.{same_Some, none-some}
use Rattle.p8_tree.specs.Sources as trees
use Rattle.p8_tree.specs.Sources.{Constant, Child as ChildItem, Source}
use Rattle.p8_fold.specs.declared.meanings.Meaning.{Meaning}
use Rattle.p8_fold.specs.declared.meanings.Meaning.TheVariants as meaning_case
use Rattle.p8_fold.specs.Meanings.{Setting}
use Rattle.p8_constants.specs.Items as con
use Rattle.p8_constants.specs.Items.{Sum, named_from, with_name, sum_of, after, definitions_from, zero_sum}
use Rattle.p8_constants.specs.FileItems.{Item, constant, variable, object, method, line, items}
use Rattle.p8_constants.specs.Names.{name_of}
use Rattle.p8_kinds.specs.declared.children.Child.{Child}
use Rattle.p8_kinds.specs.declared.children.ChildConst.{ChildConst}
use Rattle.p8_kinds.specs.declared.name_kinds.NameKind.{NameKind}
use Rattle.p8_kinds.specs.declared.name_kinds.NameKind.TheVariants as kind
use Rattle.p8_kinds.specs.FileSettings.{meaning_of_kind, constant_among, constant_in}
use Rattle.p8_names.specs.Settings.{has_name, definition, with_children, constant_of_child}
use Rattle.p8_names.specs.Kinds.{objects, object_in, item_kind, kind_among, value_in}

-- ---- kinds and items

abbrev pub item_meaning : Setting → Item → Meaning
item_meaning s (constant x) = meaning_case.Value (value_in s x.name)
item_meaning s (object x) = meaning_case.Object
item_meaning s x = meaning_case.Other

item-is : (s : Setting) (all before : List Item) (x : Item) (behind : List Item) → meaning_of_kind (item_kind s all before x behind) ≡ item_meaning s x
item-is s all before (constant x) behind = refl
item-is s all before (variable x) behind = refl
item-is s all before (object x) behind = refl
item-is s all before (method x) behind = refl
item-is s all before (line x) behind = refl

choice : (s : Setting) (b : Bool) (k : NameKind) (rest : Option NameKind) (x : Item) (more : Option Item) → meaning_of_kind k ≡ item_meaning s x → option_map meaning_of_kind rest ≡ option_map (item_meaning s) more
    → option_map meaning_of_kind (if b then Some k else rest) ≡ option_map (item_meaning s) (if b then Some x else more)
choice s true k rest x more is others = ap Some is
choice s false k rest x more is others = others

pub kind-meaning : (s : Setting) (all before xs : List Item) (n : List ℕ) → option_map meaning_of_kind (kind_among s all before xs n) ≡ option_map (item_meaning s) (definition xs n)
kind-meaning s all before [] n = refl
kind-meaning s all before (x ∷ xs) n =
    choice s (has_name (name_of x) n) (item_kind s all before x xs) (kind_among s all (before ++ x ∷ []) xs n) x (definition xs n)
    (item-is s all before x xs) (kind-meaning s all (before ++ x ∷ []) xs n)

-- ---- definitions of CON

first-none : {A : Type 0} (b : Bool) (x : A) (rest : Option A) → (if b then Some x else rest) ≡ None → (b ≡ false) × (rest ≡ None)
first-none true x rest is = absurd (none-some x (sym is))
first-none false x rest is = (refl, is)

first-some : {A : Type 0} (b : Bool) (x y : A) (rest : Option A) → (if b then Some x else rest) ≡ Some y → ((b ≡ true) × (x ≡ y)) ⊎ ((b ≡ false) × (rest ≡ Some y))
first-some true x y rest is = inl (refl, same_Some x y is)
first-some false x y rest is = inr (refl, is)

none-of-both : (xs ys : List Item) (n : List ℕ) → definition (xs ++ ys) n ≡ None → (definition xs n ≡ None) × (definition ys n ≡ None)
none-of-both [] ys n is = (refl, is)
none-of-both (x ∷ xs) ys n is =
    let both = first-none (has_name (name_of x) n) x (definition (xs ++ ys) n) is in
    let rest = none-of-both xs ys n both.1 in
    (ap (λ b. if b then Some x else definition xs n) both.0 ∙ rest.0, rest.1)

one-of-both : (xs ys : List Item) (n : List ℕ) (z : Item) → definition (xs ++ ys) n ≡ Some z → (definition xs n ≡ Some z) ⊎ (definition ys n ≡ Some z)
one-of-both [] ys n z is = inr is
one-of-both (x ∷ xs) ys n z is =
    elim (first-some (has_name (name_of x) n) x z (definition (xs ++ ys) n) is) [
      | inl h ↦ inl (ap (λ b. if b then Some x else definition xs n) h.0 ∙ ap Some h.1)
      | inr h ↦ elim (one-of-both xs ys n z h.1) [
        | inl f ↦ inl (ap (λ b. if b then Some x else definition xs n) h.0 ∙ f)
        | inr f ↦ inr f
      ]
    ]

none-behind : (xs ys : List (List ℕ × Sum)) (n : List ℕ) → con.definition xs n ≡ None → con.definition ys n ≡ None → con.definition (xs ++ ys) n ≡ None
none-behind [] ys n first second = second
none-behind (x ∷ xs) ys n first second =
    let both = first-none (bytes_eq n x.0) x.1 (con.definition xs n) first in
    ap (λ b. if b then Some x.1 else con.definition (xs ++ ys) n) both.0 ∙ none-behind xs ys n both.1 second

none-before : (xs ys : List (List ℕ × Sum)) (n : List ℕ) → con.definition (xs ++ ys) n ≡ None → (con.definition xs n ≡ None) × (con.definition ys n ≡ None)
none-before [] ys n is = (refl, is)
none-before (x ∷ xs) ys n is =
    let both = first-none (bytes_eq n x.0) x.1 (con.definition (xs ++ ys) n) is in
    let rest = none-before xs ys n both.1 in
    (ap (λ b. if b then Some x.1 else con.definition xs n) both.0 ∙ rest.0, rest.1)

with-none : (name : Option (List ℕ)) (n : List ℕ) (sum : Sum) (x : Item) (rest : List (List ℕ × Sum)) (more : Option Item) → (if has_name name n then Some x else more) ≡ None
    → (more ≡ None → con.definition rest n ≡ None) → con.definition (with_name name sum rest) n ≡ None
with-none None n sum x rest more is others = others is
with-none (Some m) n sum x rest more is others =
    let both = first-none (bytes_eq n m) x more is in
    ap (λ b. if b then Some sum else con.definition rest n) both.0 ∙ others both.1

none-in-block : (counter : Sum) (k : ℕ) (xs : List Constant) (n : List ℕ) → definition (map constant xs) n ≡ None → con.definition (named_from counter k xs) n ≡ None
none-in-block counter k [] n is = refl
none-in-block counter k (x ∷ xs) n is =
    with-none x.name n (sum_of counter k x.value) (constant x) (named_from (after counter k x) (k + 1) xs) (definition (map constant xs) n) is (none-in-block (after counter k x) (k + 1) xs n)

pub none-defined : (k : ℕ) (bs : Source) (n : List ℕ) → definition (items bs) n ≡ None → con.definition (definitions_from k bs) n ≡ None
none-defined k [] n is = refl
none-defined k (trees.Con xs ∷ bs) n is =
    let both = none-of-both (map constant xs) (items bs) n is in
    none-behind (named_from zero_sum k xs) (definitions_from (k + length xs) bs) n (none-in-block zero_sum k xs n both.0) (none-defined (k + length xs) bs n both.1)
none-defined k (trees.Var xs ∷ bs) n is = none-defined k bs n (none-of-both (map variable xs) (items bs) n is).1
none-defined k (trees.Obj xs ∷ bs) n is = none-defined k bs n (none-of-both (map object xs) (items bs) n is).1
none-defined k (trees.Method x ∷ bs) n is = none-defined k bs n (none-of-both (method x ∷ []) (items bs) n is).1
none-defined k (trees.Dat xs ∷ bs) n is = none-defined k bs n (none-of-both (map line xs) (items bs) n is).1

abbrev is_constant : Item → Bool
is_constant (constant x) = true
is_constant x = false

not-constant : {A : Type 0} (f : A → Item) → ((a : A) → is_constant (f a) ≡ false) → (xs : List A) (n : List ℕ) (x : Constant) → definition (map f xs) n ≡ Some (constant x) → ⊥
not-constant f never [] n x is = none-some (constant x) is
not-constant f never (a ∷ xs) n x is =
    elim (first-some (has_name (name_of (f a)) n) (f a) (constant x) (definition (map f xs) n) is) [
      | inl h ↦ absurd (let same : true ≡ false = sym (ap is_constant h.1) ∙ never a in cc)
      | inr h ↦ not-constant f never xs n x h.1
    ]

with-some : (name : Option (List ℕ)) (n : List ℕ) (sum : Sum) (x z : Item) (rest : List (List ℕ × Sum)) (more : Option Item) → (if has_name name n then Some x else more) ≡ Some z
    → (more ≡ Some z → con.definition rest n ≡ None → ⊥) → con.definition (with_name name sum rest) n ≡ None → ⊥
with-some None n sum x z rest more is others none = others is none
with-some (Some m) n sum x z rest more is others none =
    let both = first-none (bytes_eq n m) sum (con.definition rest n) none in
    elim (first-some (bytes_eq n m) x z more is) [
      | inl h ↦ absurd (let same : true ≡ false = sym h.0 ∙ both.0 in cc)
      | inr h ↦ others h.1 both.1
    ]

some-in-block : (counter : Sum) (k : ℕ) (xs : List Constant) (n : List ℕ) (x : Constant) → definition (map constant xs) n ≡ Some (constant x) → con.definition (named_from counter k xs) n ≡ None → ⊥
some-in-block counter k [] n x is none = none-some (constant x) is
some-in-block counter k (y ∷ xs) n x is none =
    with-some y.name n (sum_of counter k y.value) (constant y) (constant x) (named_from (after counter k y) (k + 1) xs) (definition (map constant xs) n) is (some-in-block (after counter k y) (k + 1) xs n x) none

pub some-defined : (k : ℕ) (bs : Source) (n : List ℕ) (x : Constant) → definition (items bs) n ≡ Some (constant x) → con.definition (definitions_from k bs) n ≡ None → ⊥
some-defined k [] n x is none = none-some (constant x) is
some-defined k (trees.Con xs ∷ bs) n x is none =
    let both = none-before (named_from zero_sum k xs) (definitions_from (k + length xs) bs) n none in
    elim (one-of-both (map constant xs) (items bs) n (constant x) is) [
      | inl h ↦ some-in-block zero_sum k xs n x h both.0
      | inr h ↦ some-defined (k + length xs) bs n x h both.1
    ]
some-defined k (trees.Var xs ∷ bs) n x is none =
    elim (one-of-both (map variable xs) (items bs) n (constant x) is) [ inl h ↦ not-constant variable (λ a. refl) xs n x h | inr h ↦ some-defined k bs n x h none ]
some-defined k (trees.Obj xs ∷ bs) n x is none =
    elim (one-of-both (map object xs) (items bs) n (constant x) is) [ inl h ↦ not-constant object (λ a. refl) xs n x h | inr h ↦ some-defined k bs n x h none ]
some-defined k (trees.Method y ∷ bs) n x is none =
    elim (one-of-both (map method (y ∷ [])) (items bs) n (constant x) is) [ inl h ↦ not-constant method (λ a. refl) (y ∷ []) n x h | inr h ↦ some-defined k bs n x h none ]
some-defined k (trees.Dat xs ∷ bs) n x is none =
    elim (one-of-both (map line xs) (items bs) n (constant x) is) [ inl h ↦ not-constant line (λ a. refl) xs n x h | inr h ↦ some-defined k bs n x h none ]

-- ---- what stands after an object's name

pub with-constant : (b : Bool) (v : ℕ) (x : Option Meaning) (y : Option ℕ) → x ≡ option_map meaning_case.Value y → option_or (if b then Some (meaning_case.Value v) else None) x ≡ option_map meaning_case.Value (if b then Some v else y)
with-constant true v x y is = refl
with-constant false v x y is = is

among-is : (cs : List ChildConst) (n : List ℕ) → constant_among cs n ≡ option_map meaning_case.Value (lookup (bytes_eq n) (map (λ (x : ChildConst). (x.name, x.value)) cs))
among-is [] n = refl
among-is (c ∷ cs) n = with-constant (bytes_eq n c.name) c.value (constant_among cs n) (lookup (bytes_eq n) (map (λ (x : ChildConst). (x.name, x.value)) cs)) (among-is cs n)

in-child : (c : Option Child) (n : List ℕ) → constant_in c n ≡ option_map meaning_case.Value (constant_of_child c n)
in-child None n = refl
in-child (Some c) n = among-is c.consts n

none-left : (xs : List Item) (o : List ℕ) → lookup (bytes_eq o) (with_children xs []) ≡ None
none-left [] o = refl
none-left (constant x ∷ xs) o = none-left xs o
none-left (variable x ∷ xs) o = none-left xs o
none-left (object x ∷ xs) o = none-left xs o
none-left (method x ∷ xs) o = none-left xs o
none-left (line x ∷ xs) o = none-left xs o

pub objects-more : (before : List Item) (x : Item) → length (objects (before ++ x ∷ [])) ≡ length (objects before) + length (object_in x)
objects-more before x =
    ap length (flat_map-append object_in before (x ∷ [])) ∙ length-append (objects before) (object_in x ++ [])
    ∙ ap (λ k. length (objects before) + k) (let l = length-append (object_in x) [] in omega (arith, l))

abbrev AreLeft : (before : List Item) (all rest : List Child) → Type 0
AreLeft before all rest = (j : ℕ) → slice_get rest j ≡ slice_get all (length (objects before) + j)

stay : (before : List Item) (x : Item) (all rest : List Child) → length (object_in x) ≡ 0 → AreLeft before all rest → AreLeft (before ++ x ∷ []) all rest
stay before x all rest none left j =
    let more = objects-more before x in
    let same : length (objects before) + j ≡ length (objects (before ++ x ∷ [])) + j = omega (arith, more, none) in
    left j ∙ ap (slice_get all) same

taken : (before : List Item) (x : ChildItem) (c : Child) (all rest : List Child) → AreLeft before all (c ∷ rest) → AreLeft (before ++ object x ∷ []) all rest
taken before x c all rest left j =
    let more = objects-more before (object x) in
    let same : length (objects before) + suc j ≡ length (objects (before ++ object x ∷ [])) + j = omega (arith, more) in
    left (suc j) ∙ ap (slice_get all) same

none-taken : (before : List Item) (x : ChildItem) (all : List Child) → AreLeft before all [] → AreLeft (before ++ object x ∷ []) all []
none-taken before x all left j =
    let more = objects-more before (object x) in
    let same : length (objects before) + suc j ≡ length (objects (before ++ object x ∷ [])) + j = omega (arith, more) in
    left (suc j) ∙ ap (slice_get all) same

abbrev is_object : NameKind → Bool
is_object (kind.Object item position count) = true
is_object k = false

pub other-item : (b : Bool) (k : NameKind) (rest : Option NameKind) (item position count : ℕ) → is_object k ≡ false → (if b then Some k else rest) ≡ Some (kind.Object item position count) → rest ≡ Some (kind.Object item position count)
other-item true k rest item position count never is = absurd (let same : true ≡ false = sym (ap is_object (same_Some k (kind.Object item position count) is)) ∙ never in cc)
other-item false k rest item position count never is = is

abbrev item_number : NameKind → ℕ
item_number (kind.Object item position count) = item
item_number k = 0

module _ (s : Setting) (all : List Item) (children : List Child) (o n : List ℕ) (item position count : ℕ) where
  abbrev Finds : List Item → List Child → Type 0
  Finds xs rest = constant_in (slice_get children item) n ≡ option_map meaning_case.Value (constant_of_child (lookup (bytes_eq o) (with_children xs rest)) n)

  at-object : (b : Bool) (before xs : List Item) (x : ChildItem) (c : Child) (rest : List Child) (k : NameKind) (more : Option NameKind) → item_number k ≡ length (objects before) → AreLeft before children (c ∷ rest)
      → (if b then Some k else more) ≡ Some (kind.Object item position count) → (more ≡ Some (kind.Object item position count) → Finds xs rest)
      → constant_in (slice_get children item) n ≡ option_map meaning_case.Value (constant_of_child (if b then Some c else lookup (bytes_eq o) (with_children xs rest)) n)
  at-object true before xs x c rest k more number left is others =
      let here : length (objects before) ≡ item = sym number ∙ ap item_number (same_Some k (kind.Object item position count) is) in
      let none : length (objects before) + 0 ≡ item = omega (arith, here) in
      let found : slice_get children item ≡ Some c = sym (left 0 ∙ ap (slice_get children) none) in
      ap (λ z. constant_in z n) found ∙ in-child (Some c) n
  at-object false before xs x c rest k more number left is others = others is

  at-last : (b : Bool) (before xs : List Item) (x : ChildItem) (k : NameKind) (more : Option NameKind) → item_number k ≡ length (objects before) → AreLeft before children []
      → (if b then Some k else more) ≡ Some (kind.Object item position count) → (more ≡ Some (kind.Object item position count) → Finds xs []) → Finds xs []
  at-last true before xs x k more number left is others =
      let here : length (objects before) ≡ item = sym number ∙ ap item_number (same_Some k (kind.Object item position count) is) in
      let none : length (objects before) + 0 ≡ item = omega (arith, here) in
      let found : slice_get children item ≡ None = sym (left 0 ∙ ap (slice_get children) none) in
      ap (λ z. constant_in z n) found ∙ ap (λ z. option_map meaning_case.Value (constant_of_child z n)) (sym (none-left xs o))
  at-last false before xs x k more number left is others = others is

  pub behind-is : (before xs : List Item) (rest : List Child) → AreLeft before children rest → kind_among s all before xs o ≡ Some (kind.Object item position count) → Finds xs rest
  behind-is before [] rest left is = absurd (none-some (kind.Object item position count) is)
  behind-is before (object x ∷ xs) [] left is =
      at-last (bytes_eq o x.name) before xs x (item_kind s all before (object x) xs) (kind_among s all (before ++ object x ∷ []) xs o) refl left is
      (behind-is (before ++ object x ∷ []) xs [] (none-taken before x children left))
  behind-is before (object x ∷ xs) (c ∷ rest) left is =
      at-object (bytes_eq o x.name) before xs x c rest (item_kind s all before (object x) xs) (kind_among s all (before ++ object x ∷ []) xs o) refl left is
      (behind-is (before ++ object x ∷ []) xs rest (taken before x c children rest left))
  behind-is before (constant x ∷ xs) rest left is =
      behind-is (before ++ constant x ∷ []) xs rest (stay before (constant x) children rest refl left)
      (other-item (has_name x.name o) (item_kind s all before (constant x) xs) (kind_among s all (before ++ constant x ∷ []) xs o) item position count refl is)
  behind-is before (variable x ∷ xs) rest left is =
      behind-is (before ++ variable x ∷ []) xs rest (stay before (variable x) children rest refl left)
      (other-item (bytes_eq o x.name) (item_kind s all before (variable x) xs) (kind_among s all (before ++ variable x ∷ []) xs o) item position count refl is)
  behind-is before (method x ∷ xs) rest left is =
      behind-is (before ++ method x ∷ []) xs rest (stay before (method x) children rest refl left)
      (other-item (bytes_eq o x.name) (item_kind s all before (method x) xs) (kind_among s all (before ++ method x ∷ []) xs o) item position count refl is)
  behind-is before (line x ∷ xs) rest left is =
      behind-is (before ++ line x ∷ []) xs rest (stay before (line x) children rest refl left)
      (other-item (has_name (name_of (line x)) o) (item_kind s all before (line x) xs) (kind_among s all (before ++ line x ∷ []) xs o) item position count refl is)
