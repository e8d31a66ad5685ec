-- Kinds that are entered one after the other; the first one of a name counts.
use Rattle.std.proofs.Common.{◌≡◌, inl, inr, ℕ, Bool, true, false, ◌+◌, ◌<◌, ◌≤◌, List, [], ◌∷◌, ◌++◌, length, take, drop, get_or, Option, Some, None, refl, ap, sym, ◌∙◌, arith}
use Rattle.std.proofs.lemmas.Bool.{cases_Bool}
use Rattle.std.proofs.lemmas.List.{drop_more, drop_all, take_more, map-append}
use Rattle.std.proofs.lemmas.Slice.Eq.{bytes_eq-Decides}
use Rattle.std.specs.Prelude.{if◌then◌else◌}
use Rattle.std.specs.Map.{lookup}
use Rattle.std.specs.Str.{bytes_eq}
use Rattle.p8_fold.specs.Meanings.{Setting}
use Rattle.p8_constants.specs.declared.items.Item as code
use Rattle.p8_constants.specs.declared.language.NamedConstant.{NamedConstant}
use Rattle.p8_constants.specs.FileItems.{Item}
use Rattle.p8_constants.specs.Names.{name_of, predefined}
use Rattle.p8_constants.specs.Standing.{item_of, items_of, valued}
use Rattle.p8_kinds.specs.declared.kinds.Kinds.{Kinds}
use Rattle.p8_kinds.specs.declared.name_kinds.NameKind.{NameKind}
use Rattle.p8_kinds.specs.declared.name_kinds.NameKind.TheVariants as kind
use Rattle.p8_kinds.specs.Kinds.{own, or_else}
use Rattle.p8_names.specs.Settings.{has_name, predefined_value}
use Rattle.p8_names.specs.Kinds.{item_kind, kind_among, kind_or, file_kind}
use Rattle.p8_names.specs.Counting.{IsEntered, AreEntered}

pub or_none : (o : Option NameKind) → o ≡ or_else o None
or_none None = refl
or_none (Some k) = refl

kept_by : (o : Option NameKind) (x : NameKind) (other : Option NameKind) → o ≡ Some x → o ≡ or_else o other
kept_by None x other e = absurd cc
kept_by (Some k) x other e = refl

pub nothing_entered : (k : Kinds) (x : NameKind) → IsEntered k k None x
nothing_entered k x = record { file = λ n. or_none (own k 0 n); methods = λ m n p. refl }

-- a name that has a kind keeps it
pub has_already : (k : Kinds) (name : List ℕ) (x y : NameKind) → own k 0 name ≡ Some y → IsEntered k k (Some name) x
has_already k name x y e = record {
  file = λ n. elim (cases_Bool (bytes_eq n name)) [
    | inl same ↦ kept_by (own k 0 n) y _ (ap (own k 0) ((bytes_eq-Decides n name).0 same) ∙ e)
    | inr apart ↦ or_none (own k 0 n) ∙ ap (λ b. or_else (own k 0 n) (if b then Some x else None)) (sym apart)
  ];
  methods = λ m n p. refl;
}

first_by : (o : Option NameKind) (x : NameKind) → o ≡ None → Some x ≡ or_else o (Some x)
first_by None x e = refl
first_by (Some k) x e = absurd cc

pub is_entered : (old new : Kinds) (name : List ℕ) (x : NameKind) → own old 0 name ≡ None → own new 0 name ≡ Some x → ((m : ℕ) (n : List ℕ) → ¬ ((m ≡ 0) × (n ≡ name)) → own new m n ≡ own old m n) → IsEntered old new (Some name) x
is_entered old new name x none some others = record {
  file = λ n. elim (cases_Bool (bytes_eq n name)) [
    | inl same ↦
        let is : n ≡ name = (bytes_eq-Decides n name).0 same in
        ap (own new 0) is ∙ some ∙ first_by (own old 0 n) x (ap (own old 0) is ∙ none) ∙ ap (λ b. or_else (own old 0 n) (if b then Some x else None)) (sym same)
    | inr apart ↦
        others 0 n (λ e. let so = (bytes_eq-Decides n name).1 e.1 in absurd cc) ∙ or_none (own old 0 n) ∙ ap (λ b. or_else (own old 0 n) (if b then Some x else None)) (sym apart)
  ];
  methods = λ m n p. others m n (λ e. let z = e.0 in omega (arith, z));
}

-- entering a list of constants
pub entered_begin : (k : Kinds) (cs : List NamedConstant) → (n : List ℕ) → or_else (own k 0 n) (kind_or (lookup (bytes_eq n) (valued cs)) None) ≡ or_else (own k 0 n) (kind_or (lookup (bytes_eq n) (valued (drop 0 cs))) None)
entered_begin k cs n = refl

step_by : (o : Option NameKind) (b : Bool) (v : ℕ) (rest : Option ℕ) → or_else o (kind_or (if b then Some v else rest) None) ≡ or_else (or_else o (if b then Some (kind.Const v) else None)) (kind_or rest None)
step_by (Some k) b v rest = refl
step_by None true v rest = refl
step_by None false v rest = refl

-- what is told by all is told by what is entered and by what is left
pub constants_next : (initial old new : Kinds) (cs : List NamedConstant) (i : ℕ) (c : NamedConstant) → i < length cs → c ≡ get_or cs i c → ((n : List ℕ) → or_else (own initial 0 n) (kind_or (lookup (bytes_eq n) (valued cs)) None) ≡ or_else (own old 0 n) (kind_or (lookup (bytes_eq n) (valued (drop i cs))) None)) → IsEntered old new (Some c.name) (kind.Const c.value) → (n : List ℕ) → or_else (own initial 0 n) (kind_or (lookup (bytes_eq n) (valued cs)) None) ≡ or_else (own new 0 n) (kind_or (lookup (bytes_eq n) (valued (drop (i + 1) cs))) None)
constants_next initial old new cs i c l e was put n =
    was n ∙ ap (λ ys. or_else (own old 0 n) (kind_or (lookup (bytes_eq n) (valued ys)) None)) (drop_more cs i c l ∙ ap (λ y. y ∷ drop (i + 1) cs) (sym e))
    ∙ step_by (own old 0 n) (bytes_eq n c.name) c.value (lookup (bytes_eq n) (valued (drop (i + 1) cs)))
    ∙ ap (λ o. or_else o (kind_or (lookup (bytes_eq n) (valued (drop (i + 1) cs))) None)) (sym (put.file n))

pub constants_last : (initial now : Kinds) (cs : List NamedConstant) (i : ℕ) → length cs ≤ i → ((n : List ℕ) → or_else (own initial 0 n) (kind_or (lookup (bytes_eq n) (valued cs)) None) ≡ or_else (own now 0 n) (kind_or (lookup (bytes_eq n) (valued (drop i cs))) None)) → (n : List ℕ) → own now 0 n ≡ or_else (own initial 0 n) (kind_or (lookup (bytes_eq n) (valued cs)) None)
constants_last initial now cs i l was n =
    or_none (own now 0 n) ∙ sym (was n ∙ ap (λ ys. or_else (own now 0 n) (kind_or (lookup (bytes_eq n) (valued ys)) None)) (drop_all i cs l))

-- ---- items

pub item_by : (o : Option NameKind) (b : Bool) (x : NameKind) (rest : Option NameKind) → or_else o (if b then Some x else rest) ≡ or_else (or_else o (if b then Some x else None)) rest
item_by (Some k) b x rest = refl
item_by None true x rest = refl
item_by None false x rest = refl

-- the items before the next one
pub before_more : (xs : List code.Item) (i : ℕ) (x : code.Item) → i < length xs → x ≡ get_or xs i x → items_of (take i xs) ++ item_of x ∷ [] ≡ items_of (take (i + 1) xs)
before_more xs i x l e = sym (ap items_of (take_more xs i x l ∙ ap (λ y. take i xs ++ y ∷ []) (sym e)) ∙ map-append item_of (take i xs) (x ∷ []))

pub items_next : (s : Setting) (all : List Item) (whole : Option NameKind) (old new : Kinds) (xs : List code.Item) (i : ℕ) (x : code.Item) (k : NameKind) (n : List ℕ) → i < length xs → x ≡ get_or xs i x → k ≡ item_kind s all (items_of (take i xs)) (item_of x) (items_of (drop (i + 1) xs)) → whole ≡ or_else (own old 0 n) (kind_among s all (items_of (take i xs)) (items_of (drop i xs)) n) → IsEntered old new (name_of (item_of x)) k → whole ≡ or_else (own new 0 n) (kind_among s all (items_of (take (i + 1) xs)) (items_of (drop (i + 1) xs)) n)
items_next s all whole old new xs i x k n l e is was put =
    let before = items_of (take i xs) in
    let rest = items_of (drop (i + 1) xs) in
    was ∙ ap (λ ys. or_else (own old 0 n) (kind_among s all before (items_of ys) n)) (drop_more xs i x l ∙ ap (λ y. y ∷ drop (i + 1) xs) (sym e))
    ∙ ap (λ y. or_else (own old 0 n) (if has_name (name_of (item_of x)) n then Some y else kind_among s all (before ++ item_of x ∷ []) rest n)) (sym is)
    ∙ item_by (own old 0 n) (has_name (name_of (item_of x)) n) k (kind_among s all (before ++ item_of x ∷ []) rest n)
    ∙ ap (λ o. or_else o (kind_among s all (before ++ item_of x ∷ []) rest n)) (sym (put.file n))
    ∙ ap (λ b. or_else (own new 0 n) (kind_among s all b rest n)) (before_more xs i x l e)

pub items_last : (s : Setting) (all : List Item) (whole : Option NameKind) (now : Kinds) (xs : List code.Item) (i : ℕ) (n : List ℕ) → length xs ≤ i → whole ≡ or_else (own now 0 n) (kind_among s all (items_of (take i xs)) (items_of (drop i xs)) n) → own now 0 n ≡ whole
items_last s all whole now xs i n l was = or_none (own now 0 n) ∙ sym (was ∙ ap (λ ys. or_else (own now 0 n) (kind_among s all (items_of (take i xs)) (items_of ys) n)) (drop_all i xs l))

both_by : (v : Option ℕ) (k : Option NameKind) → kind_or v k ≡ or_else (or_else None (kind_or v None)) k
both_by None k = refl
both_by (Some v) k = refl

-- what the whole file tells, before the first item
pub items_first : (s : Setting) (xs : List Item) (empty now : Kinds) (table : List (List ℕ × ℕ)) (n : List ℕ) → table ≡ predefined → own empty 0 n ≡ None → AreEntered empty now table → file_kind s xs n ≡ or_else (own now 0 n) (kind_among s xs [] xs n)
items_first s xs empty now table n e none put =
    both_by (predefined_value n) (kind_among s xs [] xs n)
    ∙ ap (λ o. or_else o (kind_among s xs [] xs n)) (sym (put.file n ∙ ap (λ o. or_else o (kind_or (lookup (bytes_eq n) table) None)) none ∙ ap (λ t. or_else None (kind_or (lookup (bytes_eq n) t) None)) e))
