-- The names of a file mean what their kinds tell, and its items are of the sizes that there are.
use Rattle.std.proofs.Common.{◌≡◌, inl, inr, ℕ, Bool, true, false, ◌+◌, List, [], ◌∷◌, ◌++◌, length, map, Option, Some, None, refl, ap, sym, ◌∙◌, subst}
use Rattle.std.proofs.lemmas.Bool.{cases_Bool}
use Rattle.std.proofs.lemmas.List.Elements.{All-nil, All-append, All-map, All-head, All-tail}
use Rattle.std.proofs.lemmas.Slice.Eq.{bytes_eq-Decides}
use Rattle.std.specs.Prelude.{if◌then◌else◌, ◌||◌, is_some, All, option_map}
use Rattle.std.specs.Map.{lookup}
use Rattle.std.specs.Str.{bytes_eq}
use Rattle.p8_tree.specs.Names.{result_word, is_reserved, IsName}
use Rattle.p8_tree.specs.Proper.{IsProperConstant, setting, with_value, counted, IsProperBlock, IsProperFile}
use Rattle.p8_tree.specs.Sources as trees
use Rattle.p8_tree.specs.Sources.{Constant, BlockTree, Source}
use Rattle.p8_fold.specs.declared.meanings.Meaning.{Meaning}
use Rattle.p8_fold.specs.declared.meanings.Meaning.TheVariants as meaning_case
use Rattle.p8_fold.specs.Meanings.{Setting, given, value_of_meaning}
use Rattle.p8_constants.specs.Constants as constants
use Rattle.p8_constants.specs.Items as con
use Rattle.p8_constants.specs.FileItems.{Item, constant, variable, object, method, line, block_items, items}
use Rattle.p8_constants.specs.Names.{name_of}
use Rattle.p8_kinds.specs.declared.children.Child.{Child}
use Rattle.p8_kinds.specs.declared.kinds.Kinds.{Kinds}
use Rattle.p8_kinds.specs.declared.name_kinds.NameKind.{NameKind}
use Rattle.p8_kinds.specs.FileSettings.{meaning_of_kind}
use Rattle.p8_kinds.specs.Kinds.{own}
use Rattle.p8_names.specs.Settings.{has_name, definition, predefined_value, meaning_outside, outside, IsSetting}
use Rattle.p8_names.specs.Kinds.{value_in, item_kind, kind_among, kind_or, file_kind}
use Rattle.p8_names.specs.Changes.{over}
use Rattle.p8_names.specs.Counting.{HasSize}
use Rattle.p8_names.specs.Looking.{IsShown}

-- ---- what a proper file gives of its items

proper_items : (P : Item → Type 0) → ((b : BlockTree) → IsProperBlock b → All P (block_items b)) → (file : Source) → IsProperFile file → All P (items file)
proper_items P each [] proper = All-nil P
proper_items P each (b ∷ bs) proper = All-append P (block_items b) (items bs) (each b (All-head IsProperBlock b bs proper)) (proper_items P each bs (All-tail IsProperBlock b bs proper))

sizes_in : (b : BlockTree) → IsProperBlock b → All HasSize (block_items b)
sizes_in (trees.Con xs) proper = All-map HasSize constant xs (λ k d l. tt)
sizes_in (trees.Var xs) proper = All-map HasSize variable xs (λ k d l. (proper k d l).size)
sizes_in (trees.Obj xs) proper = All-map HasSize object xs (λ k d l. tt)
sizes_in (trees.Method x) proper = All-map HasSize method (x ∷ []) (λ k d l. tt)
sizes_in (trees.Dat xs) proper = All-map HasSize line xs (λ k d l. tt)

-- each variable has 1, 2 or 4 bytes
pub sizes_fit : (file : Source) → IsProperFile file → All HasSize (items file)
sizes_fit file proper = proper_items HasSize sizes_in file proper

abbrev IsConstantItem : Item → Type 0
IsConstantItem (constant x) = IsProperConstant x
IsConstantItem x = Unit {0}

constants_in : (b : BlockTree) → IsProperBlock b → All IsConstantItem (block_items b)
constants_in (trees.Con xs) proper = All-map IsConstantItem constant xs proper
constants_in (trees.Var xs) proper = All-map IsConstantItem variable xs (λ k d l. tt)
constants_in (trees.Obj xs) proper = All-map IsConstantItem object xs (λ k d l. tt)
constants_in (trees.Method x) proper = All-map IsConstantItem method (x ∷ []) (λ k d l. tt)
constants_in (trees.Dat xs) proper = All-map IsConstantItem line xs (λ k d l. tt)

-- what is so of all items is so of the first one with a name
defined_is : (P : Item → Type 0) (xs : List Item) (n : List ℕ) (x : Item) → All P xs → definition xs n ≡ Some x → P x
defined_is P [] n x all e = absurd cc
defined_is P (y ∷ ys) n x all e =
    elim (cases_Bool (has_name (name_of y) n)) [
      | inl same ↦ subst P (some_is (sym (ap (λ b. if b then Some y else definition ys n) same) ∙ e)) (All-head P y ys all)
      | inr apart ↦ defined_is P ys n x (All-tail P y ys all) (sym (ap (λ b. if b then Some y else definition ys n) apart) ∙ e)
    ]
  where
    some_is : {a b : Item} → Some a ≡ Some b → a ≡ b
    some_is q = cc

-- the first item with a name has that name
defined_has : (xs : List Item) (n : List ℕ) (x : Item) → definition xs n ≡ Some x → has_name (name_of x) n ≡ true
defined_has [] n x e = absurd cc
defined_has (y ∷ ys) n x e =
    elim (cases_Bool (has_name (name_of y) n)) [
      | inl same ↦ subst (λ z. has_name (name_of z) n ≡ true) (some_is (sym (ap (λ b. if b then Some y else definition ys n) same) ∙ e)) same
      | inr apart ↦ defined_has ys n x (sym (ap (λ b. if b then Some y else definition ys n) apart) ∙ e)
    ]
  where
    some_is : {a b : Item} → Some a ≡ Some b → a ≡ b
    some_is q = cc

name_is : (o : Option (List ℕ)) (n : List ℕ) → has_name o n ≡ true → o ≡ Some n
name_is None n e = absurd cc
name_is (Some m) n e = ap (λ (x : List ℕ). Some x) (sym ((bytes_eq-Decides n m).0 e))

name_proper : (x : Constant) (n : List ℕ) → IsProperConstant x → x.name ≡ Some n → IsName n
name_proper x n (setting e) is = absurd cc
name_proper x n (with_value {n = m} name e) is = subst IsName (same is) name
  where
    same : {a b : List ℕ} → Some a ≡ Some b → a ≡ b
    same q = cc
name_proper x n (counted {n = m} name e) is = subst IsName (same is) name
  where
    same : {a b : List ℕ} → Some a ≡ Some b → a ≡ b
    same q = cc

-- RESULT is no name
no_result : (n : List ℕ) → IsName n → bytes_eq n result_word ≡ false
no_result n name =
    elim (cases_Bool (bytes_eq n result_word)) [
      | inl same ↦ absurd (let reserved : is_reserved result_word ≡ false = subst (λ m. is_reserved m ≡ false) ((bytes_eq-Decides n result_word).0 same) name.free in result_reserved reserved)
      | inr apart ↦ apart
    ]
  where
    result_reserved : true ≡ false → ⊥
    result_reserved q = cc

-- ---- the constants of a file, by its items

abbrev has_constant : List Item → List ℕ → Bool
has_constant [] n = false
has_constant (constant x ∷ xs) n = has_name x.name n || has_constant xs n
has_constant (y ∷ xs) n = has_constant xs n

some_by : (t : Bool) (sum : con.Sum) (o : Option con.Sum) (b : Bool) → is_some o ≡ b → is_some (if t then Some sum else o) ≡ (t || b)
some_by true sum o b h = refl
some_by false sum o b h = h

with_more : (o : Option (List ℕ)) (sum : con.Sum) (rest ds : List (List ℕ × con.Sum)) (b : Bool) (n : List ℕ) → is_some (lookup (bytes_eq n) (rest ++ ds)) ≡ b → is_some (lookup (bytes_eq n) (con.with_name o sum rest ++ ds)) ≡ (has_name o n || b)
with_more None sum rest ds b n h = h
with_more (Some m) sum rest ds b n h = some_by (bytes_eq n m) sum (lookup (bytes_eq n) (rest ++ ds)) b h

block_has : (xs : List Constant) (counter : con.Sum) (k : ℕ) (ds : List (List ℕ × con.Sum)) (ys : List Item) (n : List ℕ) → is_some (lookup (bytes_eq n) ds) ≡ has_constant ys n → is_some (lookup (bytes_eq n) (con.named_from counter k xs ++ ds)) ≡ has_constant (map constant xs ++ ys) n
block_has [] counter k ds ys n h = h
block_has (x ∷ xs) counter k ds ys n h =
    with_more x.name (con.sum_of counter k x.value) (con.named_from (con.after counter k x) (k + 1) xs) ds (has_constant (map constant xs ++ ys) n) n
    (block_has xs (con.after counter k x) (k + 1) ds ys n h)

-- items that are no constants
none_among : {X : Type 0} (f : X → Item) → ((x : X) (ys : List Item) (n : List ℕ) → has_constant ys n ≡ has_constant (f x ∷ ys) n) → (xs : List X) (ys : List Item) (n : List ℕ) → has_constant ys n ≡ has_constant (map f xs ++ ys) n
none_among f same [] ys n = refl
none_among f same (x ∷ xs) ys n = none_among f same xs ys n ∙ same x (map f xs ++ ys) n

file_has : (file : Source) (k : ℕ) (n : List ℕ) → is_some (con.definition (con.definitions_from k file) n) ≡ has_constant (items file) n
file_has [] k n = refl
file_has (trees.Con xs ∷ bs) k n = block_has xs con.zero_sum k (con.definitions_from (k + length xs) bs) (items bs) n (file_has bs (k + length xs) n)
file_has (trees.Var xs ∷ bs) k n = file_has bs k n ∙ none_among variable (λ x ys m. refl) xs (items bs) n
file_has (trees.Obj xs ∷ bs) k n = file_has bs k n ∙ none_among object (λ x ys m. refl) xs (items bs) n
file_has (trees.Method x ∷ bs) k n = file_has bs k n
file_has (trees.Dat xs ∷ bs) k n = file_has bs k n ∙ none_among line (λ x ys m. refl) xs (items bs) n

left_true : (b c : Bool) → b ≡ true → (b || c) ≡ true
left_true true c e = refl
left_true false c e = absurd cc

right_true : (b c : Bool) → c ≡ true → (b || c) ≡ true
right_true true c e = refl
right_true false c e = e

found_in : (b : Bool) (y : Item) (d : Option Item) (x : Constant) (ys : List Item) (n : List ℕ) → b ≡ has_name (name_of y) n → (d ≡ Some (constant x) → has_constant ys n ≡ true) → (if b then Some y else d) ≡ Some (constant x) → has_constant (y ∷ ys) n ≡ true
found_in true (constant z) d x ys n t later e = left_true (has_name z.name n) (has_constant ys n) (sym t)
found_in true (variable z) d x ys n t later e = absurd cc
found_in true (object z) d x ys n t later e = absurd cc
found_in true (method z) d x ys n t later e = absurd cc
found_in true (line z) d x ys n t later e = absurd cc
found_in false (constant z) d x ys n t later e = right_true (has_name z.name n) (has_constant ys n) (later e)
found_in false (variable z) d x ys n t later e = later e
found_in false (object z) d x ys n t later e = later e
found_in false (method z) d x ys n t later e = later e
found_in false (line z) d x ys n t later e = later e

has_defined : (xs : List Item) (n : List ℕ) (x : Constant) → definition xs n ≡ Some (constant x) → has_constant xs n ≡ true
has_defined [] n x e = absurd cc
has_defined (y ∷ ys) n x e = found_in (has_name (name_of y) n) y (definition ys n) x ys n refl (has_defined ys n x) e

neither : (b c : Bool) → b ≡ false → c ≡ false → (b || c) ≡ false
neither true c p q = absurd cc
neither false c p q = q

not_in : (b : Bool) (y : Item) (d : Option Item) (ys : List Item) (n : List ℕ) → b ≡ has_name (name_of y) n → (d ≡ None → has_constant ys n ≡ false) → (if b then Some y else d) ≡ None → has_constant (y ∷ ys) n ≡ false
not_in true y d ys n t later e = absurd cc
not_in false (constant z) d ys n t later e = neither (has_name z.name n) (has_constant ys n) (sym t) (later e)
not_in false (variable z) d ys n t later e = later e
not_in false (object z) d ys n t later e = later e
not_in false (method z) d ys n t later e = later e
not_in false (line z) d ys n t later e = later e

has_none : (xs : List Item) (n : List ℕ) → definition xs n ≡ None → has_constant xs n ≡ false
has_none [] n e = refl
has_none (y ∷ ys) n e = not_in (has_name (name_of y) n) y (definition ys n) ys n refl (has_none ys n) e

none_of : {X : Type 0} (o : Option X) → is_some o ≡ false → o ≡ None
none_of None e = refl
none_of (Some x) e = absurd cc

-- ---- meanings by kinds

-- what an item makes of its name
abbrev meaning_by : Setting → Item → Meaning
meaning_by s (constant x) = meaning_case.Value (value_in s x.name)
meaning_by s (object x) = meaning_case.Object
meaning_by s x = meaning_case.Other

kind_means : (s : Setting) (all before : List Item) (x : Item) (behind : List Item) → meaning_of_kind (item_kind s all before x behind) ≡ meaning_by s x
kind_means s all before (constant x) behind = refl
kind_means s all before (variable x) behind = refl
kind_means s all before (object x) behind = refl
kind_means s all before (method x) behind = refl
kind_means s all before (line x) behind = refl

one_means : (b : Bool) (k : NameKind) (m : Item) (s : Setting) (ks : Option NameKind) (d : Option Item) → meaning_of_kind k ≡ meaning_by s m → option_map meaning_of_kind ks ≡ option_map (meaning_by s) d → option_map meaning_of_kind (if b then Some k else ks) ≡ option_map (meaning_by s) (if b then Some m else d)
one_means true k m s ks d h rest = ap (λ (x : Meaning). Some x) h
one_means false k m s ks d h rest = rest

among_means : (s : Setting) (all before xs : List Item) (n : List ℕ) → option_map meaning_of_kind (kind_among s all before xs n) ≡ option_map (meaning_by s) (definition xs n)
among_means s all before [] n = refl
among_means s all before (x ∷ xs) n = one_means (has_name (name_of x) n) (item_kind s all before x xs) x s (kind_among s all (before ++ x ∷ []) xs n) (definition xs n) (kind_means s all before x xs) (among_means s all (before ++ x ∷ []) xs n)

or_means : (v : Option ℕ) (k : Option NameKind) → option_map meaning_of_kind (kind_or v k) ≡ over v (option_map meaning_of_kind k)
or_means None k = refl
or_means (Some v) k = refl

file_means : (s : Setting) (xs : List Item) (n : List ℕ) → option_map meaning_of_kind (file_kind s xs n) ≡ over (predefined_value n) (option_map (meaning_by s) (definition xs n))
file_means s xs n = or_means (predefined_value n) (kind_among s xs [] xs n) ∙ ap (over (predefined_value n)) (among_means s xs [] xs n)

-- the value of a constant
value_is : (s : Setting) (n : List ℕ) (v : ℕ) → bytes_eq n result_word ≡ false → s.name n ≡ Some (meaning_case.Value v) → v ≡ value_in s (Some n)
value_is s n v apart is = sym (ap (λ m. constants.counted (given value_of_meaning m)) (ap (λ b. if b then Some meaning_case.Other else s.name n) apart ∙ is))

module _ (file : Source) (children : List Child) (s : Setting) (proper : IsProperFile file) (right : IsSetting file children s) (n : List ℕ) where
  outside_is : (v : Option ℕ) (d : Option Item) → predefined_value n ≡ v → definition (items file) n ≡ d → (outside file children).name n ≡ meaning_outside v d
  outside_is v d p q = ap (λ o. meaning_outside o (definition (items file) n)) p ∙ ap (meaning_outside v) q

  -- a name that is no constant of the file
  other : (m : Meaning) → (outside file children).name n ≡ Some m → s.name n ≡ Some m
  other m e = right.others n (ap is_some e) ∙ e

  -- a constant
  value : (x : Constant) → predefined_value n ≡ None → definition (items file) n ≡ Some (constant x) → s.name n ≡ Some (meaning_case.Value (value_in s x.name))
  value x p q =
      let name : x.name ≡ Some n = name_is x.name n (defined_has (items file) n (constant x) q) in
      let apart = no_result n (name_proper x n (defined_is IsConstantItem (items file) n (constant x) (proper_items IsConstantItem constants_in file proper) q) name) in
      let (v, is, held) = right.constants n (outside_is None (Some (constant x)) p q, file_has file 0 n ∙ has_defined (items file) n x q) in
      is ∙ ap (λ (w : ℕ). Some (meaning_case.Value w)) (value_is s n v apart is) ∙ ap (λ o. Some (meaning_case.Value (value_in s o))) (sym name)

  by_cases : (v : Option ℕ) (d : Option Item) → predefined_value n ≡ v → definition (items file) n ≡ d → s.name n ≡ over v (option_map (meaning_by s) d)
  by_cases (Some v) d p q = other (meaning_case.Value v) (outside_is (Some v) d p q)
  by_cases None None p q = right.nothing n (outside_is None None p q) (none_of (con.definition (con.definitions file) n) (file_has file 0 n ∙ has_none (items file) n q))
  by_cases None (Some (constant x)) p q = value x p q
  by_cases None (Some (variable x)) p q = other meaning_case.Other (outside_is None (Some (variable x)) p q)
  by_cases None (Some (object x)) p q = other meaning_case.Object (outside_is None (Some (object x)) p q)
  by_cases None (Some (method x)) p q = other meaning_case.Other (outside_is None (Some (method x)) p q)
  by_cases None (Some (line x)) p q = other meaning_case.Other (outside_is None (Some (line x)) p q)

  -- a name means what its kind tells
  pub shown_at : s.name n ≡ option_map meaning_of_kind (file_kind s (items file) n)
  shown_at = by_cases (predefined_value n) (definition (items file) n) refl refl ∙ sym (file_means s (items file) n)

pub shown : (file : Source) (children : List Child) (s : Setting) → IsProperFile file → IsSetting file children s → (n : List ℕ) → s.name n ≡ option_map meaning_of_kind (file_kind s (items file) n)
shown file children s proper right n = shown_at file children s proper right n

-- the kinds in hand show it
pub is_shown : (file : Source) (children : List Child) (s : Setting) (kinds : Kinds) → IsProperFile file → IsSetting file children s → ((n : List ℕ) → own kinds 0 n ≡ file_kind s (items file) n) → IsShown kinds s
is_shown file children s kinds proper right file_is n = shown file children s proper right n ∙ ap (option_map meaning_of_kind) (sym (file_is n))
