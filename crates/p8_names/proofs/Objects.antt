-- One object more.
use Rattle.std.proofs.Common.{◌≡◌, inl, inr, ℕ, Bool, true, false, ◌<◌, ◌+◌, List, [], ◌∷◌, ◌++◌, map, drop, length, get_or, Option, Some, None, refl, ap, sym, ◌∙◌, subst, arith, append_assoc, append-nil, ◌≤◌}
use Rattle.std.proofs.lemmas.Bool.{cases_Bool}
use Rattle.std.proofs.lemmas.List.{map-append, drop_more, drop_all}
use Rattle.std.proofs.lemmas.List.Elements.{Contains-append_left, Contains-append_right, Contains-append_cases}
use Rattle.std.proofs.lemmas.Slice.Eq.{bytes_eq-Decides}
use Rattle.std.specs.Prelude.{if◌then◌else◌, Contains, option_map}
use Rattle.std.specs.Map.{lookup}
use Rattle.std.specs.Str.{bytes_eq}
use Rattle.p8_fold.specs.declared.meanings.Meaning.{Meaning}
use Rattle.p8_fold.specs.declared.meanings.Meaning.TheVariants as meaning_case
use Rattle.p8_fold.specs.Meanings.{Setting, outside_operands}
use Rattle.p8_constants.specs.declared.name_set.NameSet.{NameSet}
use Rattle.p8_constants.specs.Standing.{Holds, item_of, items_of}
use Rattle.p8_constants.specs.FileItems as items
use Rattle.p8_constants.specs.Names.{predefined}
use Rattle.p8_constants.specs.declared.items.Item as code
use Rattle.p8_kinds.specs.declared.children.Child.{Child}
use Rattle.p8_names.specs.Settings.{constant_of_child, constants_of, constant_behind, definition, meaning_outside, outside_of, with_children, children_behind, object_with}
use Rattle.p8_names.specs.Changes.{HasConstants, HasConstantsOf, HasObjects, HasNames, over, IsSameOutside, IsOutside}

one_name : (n m : List ℕ) → Contains (n ∷ []) m → m ≡ n
one_name n m (k, lt, is) = let first : k ≡ 0 = omega arith in sym (rw first at is)

itself : (n m : List ℕ) → m ≡ n → Contains (n ∷ []) m
itself n m e = (0, omega arith, sym e)

-- the first of both
abbrev pub first_of : {X : Type 0} → Option X → Option X → Option X
first_of None o = o
first_of (Some x) o = Some x

append_by : {X : Type 0} (b : Bool) (x : X) (whole first last : Option X) → whole ≡ first_of first last → (if b then Some x else whole) ≡ first_of (if b then Some x else first) last
append_by true x whole first last h = refl
append_by false x whole first last h = h

pub lookup-append : {X : Type 0} (test : List ℕ → Bool) (xs ys : List (List ℕ × X)) → lookup test (xs ++ ys) ≡ first_of (lookup test xs) (lookup test ys)
lookup-append test [] ys = refl
lookup-append test (d ∷ xs) ys = append_by (test d.0) d.1 (lookup test (xs ++ ys)) (lookup test xs) (lookup test ys) (lookup-append test xs ys)

none_by : {X : Type 0} (b : Bool) (x : X) (rest : Option X) → ¬ (b ≡ true) → (b ≡ false → rest ≡ None) → (if b then Some x else rest) ≡ None
none_by true x rest ne h = absurd (ne refl)
none_by false x rest ne h = h refl

-- a name that isn't among the keys has nothing
pub not_there : {X : Type 0} (xs : List (List ℕ × X)) (n : List ℕ) → ¬ Contains (map (λ d. d.0) xs) n → lookup (bytes_eq n) xs ≡ None
not_there [] n h = refl
not_there (d ∷ xs) n h =
    none_by (bytes_eq n d.0) d.1 (lookup (bytes_eq n) xs) (λ e. h (Contains-append_left (d.0 ∷ []) (map (λ d. d.0) xs) n (itself d.0 n ((bytes_eq-Decides n d.0).0 e))))
    (λ e. not_there xs n (λ c. h (Contains-append_right (d.0 ∷ []) (map (λ d. d.0) xs) n c)))

some_by : {X : Type 0} (b : Bool) (x : X) (rest : Option X) → (b ≡ false → rest ≡ None → ⊥) → (if b then Some x else rest) ≡ None → ⊥
some_by true x rest h e = absurd cc
some_by false x rest h e = h refl e

pub there : {X : Type 0} (xs : List (List ℕ × X)) (n : List ℕ) → Contains (map (λ d. d.0) xs) n → lookup (bytes_eq n) xs ≡ None → ⊥
there [] n c e = omega (arith, c.1)
there (d ∷ xs) n c e =
    some_by (bytes_eq n d.0) d.1 (lookup (bytes_eq n) xs)
    (λ apart none. elim (Contains-append_cases (d.0 ∷ []) (map (λ d. d.0) xs) n c) [
      | inl here ↦ (let so = (bytes_eq-Decides n d.0).1 (one_name d.0 n here) in absurd cc)
      | inr later ↦ there xs n later none
    ]) e

-- with a pair more at the end, where its name has something already
known_by : {X : Type 0} (o : Option X) (b : Bool) (x : X) → (b ≡ true → o ≡ None → ⊥) → first_of o (if b then Some x else None) ≡ o
known_by None true x h = absurd (h refl refl)
known_by None false x h = refl
known_by (Some y) b x h = refl

pub lookup_known : {X : Type 0} (xs : List (List ℕ × X)) (k : List ℕ) (x : X) → Contains (map (λ d. d.0) xs) k → (n : List ℕ) → lookup (bytes_eq n) (xs ++ (k, x) ∷ []) ≡ lookup (bytes_eq n) xs
lookup_known xs k x c n =
    lookup-append (bytes_eq n) xs ((k, x) ∷ [])
    ∙ known_by (lookup (bytes_eq n) xs) (bytes_eq n k) x (λ same none. there xs n (subst (Contains (map (λ d. d.0) xs)) (sym ((bytes_eq-Decides n k).0 same)) c) none)

-- or nothing yet
other_by : {X : Type 0} (o : Option X) (b : Bool) (x : X) → b ≡ false → first_of o (if b then Some x else None) ≡ o
other_by None true x e = absurd cc
other_by None false x e = refl
other_by (Some y) b x e = refl

new_by : {X : Type 0} (o : Option X) (b : Bool) (x : X) → o ≡ None → b ≡ true → first_of o (if b then Some x else None) ≡ Some x
new_by None true x e t = refl
new_by None false x e t = absurd cc
new_by (Some y) b x e t = absurd cc

pub lookup_other : {X : Type 0} (xs : List (List ℕ × X)) (k : List ℕ) (x : X) (n : List ℕ) → bytes_eq n k ≡ false → lookup (bytes_eq n) (xs ++ (k, x) ∷ []) ≡ lookup (bytes_eq n) xs
lookup_other xs k x n e = lookup-append (bytes_eq n) xs ((k, x) ∷ []) ∙ other_by (lookup (bytes_eq n) xs) (bytes_eq n k) x e

pub lookup_new : {X : Type 0} (xs : List (List ℕ × X)) (k : List ℕ) (x : X) (n : List ℕ) → lookup (bytes_eq n) xs ≡ None → bytes_eq n k ≡ true → lookup (bytes_eq n) (xs ++ (k, x) ∷ []) ≡ Some x
lookup_new xs k x n none e = lookup-append (bytes_eq n) xs ((k, x) ∷ []) ∙ new_by (lookup (bytes_eq n) xs) (bytes_eq n k) x none e

-- ---- objects

pub seen_before : (s : Setting) (seen : NameSet) (done : List (List ℕ × Child)) (owner : List ℕ) (child : Child) → HasObjects s seen done → Contains (map (λ d. d.0) done) owner → HasConstantsOf s (done ++ (owner, child) ∷ [])
seen_before s seen done owner child h c = λ o n. h.constants o n ∙ ap (λ x. option_map meaning_case.Value (constant_of_child x n)) (sym (lookup_known done owner child c o))

over_none : (v : Option ℕ) (m : Option Meaning) → m ≡ None → over v m ≡ option_map meaning_case.Value v
over_none None m e = e
over_none (Some v) m e = refl

pub seen_first : (s t : Setting) (seen : NameSet) (done : List (List ℕ × Child)) (owner : List ℕ) (child : Child) → HasObjects s seen done → ¬ Contains (map (λ d. d.0) done) owner → HasConstants s t owner (λ n. lookup (bytes_eq n) (constants_of child)) → HasConstantsOf t (done ++ (owner, child) ∷ [])
seen_first s t seen done owner child h c put = λ o n.
    elim (cases_Bool (bytes_eq o owner)) [
      | inl same ↦
          let is : o ≡ owner = (bytes_eq-Decides o owner).0 same in
          let none : lookup (bytes_eq o) done ≡ None = not_there done o (λ d. c (subst (Contains (map (λ d. d.0) done)) is d)) in
          let was : s.constant owner n ≡ None = ap (λ p. s.constant p n) (sym is) ∙ h.constants o n ∙ ap (λ x. option_map meaning_case.Value (constant_of_child x n)) none in
          ap (λ p. t.constant p n) is ∙ put.at n ∙ over_none (lookup (bytes_eq n) (constants_of child)) (s.constant owner n) was
          ∙ ap (λ x. option_map meaning_case.Value (constant_of_child x n)) (sym (lookup_new done owner child o none same))
      | inr apart ↦
          put.others o n (λ e. let so = (bytes_eq-Decides o owner).1 e in absurd cc) ∙ h.constants o n
          ∙ ap (λ x. option_map meaning_case.Value (constant_of_child x n)) (sym (lookup_other done owner child o apart))
    ]

pub one_object : (s t : Setting) (seen new : NameSet) (done : List (List ℕ × Child)) (owner : List ℕ) (child : Child) → HasObjects s seen done → HasConstantsOf t (done ++ (owner, child) ∷ []) → ((names : List (List ℕ)) → Holds seen names → Holds new (names ++ owner ∷ [])) → HasObjects t new (done ++ (owner, child) ∷ [])
one_object s t seen new done owner child h of put = record {
  constants = of;
  names = subst (Holds new) (sym (map-append (λ d. d.0) done ((owner, child) ∷ []))) (put (map (λ d. d.0) done) h.names);
}

-- the next item
pub next_children : (xs : List code.Item) (i : ℕ) (x : code.Item) (all done : List (List ℕ × Child)) (left rest : List Child) → i < length xs → x ≡ get_or xs i x → all ≡ done ++ with_children (items_of (drop i xs)) left → rest ≡ children_behind (item_of x) left → all ≡ (done ++ object_with (item_of x) left) ++ with_children (items_of (drop (i + 1) xs)) rest
next_children xs i x all done left rest l e was is =
    was ∙ ap (λ ys. done ++ with_children (items_of ys) left) (drop_more xs i x l ∙ ap (λ y. y ∷ drop (i + 1) xs) (sym e))
    ∙ sym (append_assoc done (object_with (item_of x) left) (with_children (items_of (drop (i + 1) xs)) (children_behind (item_of x) left)))
    ∙ ap (λ cs. (done ++ object_with (item_of x) left) ++ with_children (items_of (drop (i + 1) xs)) cs) (sym is)

pub last_children : (xs : List code.Item) (i : ℕ) (all done : List (List ℕ × Child)) (left : List Child) → length xs ≤ i → all ≡ done ++ with_children (items_of (drop i xs)) left → done ≡ all
last_children xs i all done left l was = sym (was ∙ ap (λ ys. done ++ with_children (items_of ys) left) (drop_all i xs l) ∙ append-nil done)

pub objects_begin : (s : Setting) (seen : NameSet) → ((owner n : List ℕ) → s.constant owner n ≡ None) → Holds seen [] → HasObjects s seen []
objects_begin s seen h k = record { constants = h; names = k }

pub same_begin : (s : Setting) → IsSameOutside s s
same_begin s = record { names = λ n. refl; here = refl }

pub same_then : {r s t : Setting} → IsSameOutside r s → IsSameOutside s t → IsSameOutside r t
same_then h k = record { names = λ n. k.names n ∙ h.names n; here = k.here ∙ h.here }

over_outside : (v : Option ℕ) (d : Option items.Item) → over v (meaning_outside None d) ≡ meaning_outside v d
over_outside None d = refl
over_outside (Some v) d = refl

pub outside_is : (r s t u : Setting) (xs : List items.Item) (children : List Child) (table : List (List ℕ × ℕ)) → r.here ≡ outside_operands None → HasNames r s (λ n. meaning_outside None (definition xs n)) → HasNames s t (λ n. over (lookup (bytes_eq n) table) (s.name n)) → IsSameOutside t u → ((owner n : List ℕ) → u.constant owner n ≡ option_map meaning_case.Value (constant_behind xs children owner n)) → table ≡ predefined → IsOutside u (outside_of xs children)
outside_is r s t u xs children table here items defined objects constants e = record {
  names = λ n. objects.names n ∙ defined.names n ∙ ap (λ m. over (lookup (bytes_eq n) table) m) (items.names n) ∙ over_outside (lookup (bytes_eq n) table) (definition xs n)
      ∙ ap (λ d. meaning_outside (lookup (bytes_eq n) d) (definition xs n)) e;
  constants = constants;
  here = objects.here ∙ defined.here ∙ items.here ∙ here;
}
