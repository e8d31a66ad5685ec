-- What the kinds of a method's names have room for: sizes, frames and counts of instances.
use Rattle.std.proofs.Common.{◌≡◌, ◌⊎◌, inl, inr, ℕ, zero, suc, ◌+◌, ◌*◌, ◌<◌, ◌≤◌, ◌==◌, Bool, true, false, ◌||◌, if◌then◌else◌, List, [], ◌∷◌, ◌++◌, length, get_or, slice_get, Option, Some, None, refl, sym, ap, ◌∙◌, subst, arith}
use Rattle.std.specs.Prelude.{All, IsTrue}
use Rattle.std.specs.Map.{lookup}
use Rattle.std.specs.Str.{bytes_eq}
use Rattle.std.proofs.lemmas.Bool.Decides.{nat_tests}
use Rattle.std.proofs.lemmas.List.Elements.{All-nil, All-cons, All-append, All-head, All-tail, All-map}
use Rattle.std.proofs.lemmas.Option.{same_Some, none-some}
use Rattle.p8_tree.specs.Expressions.{Tree}
use Rattle.p8_tree.specs.Sources as trees
use Rattle.p8_tree.specs.Sources.{Contents, Declared, MethodTree, BlockTree, Source}
use Rattle.p8_tree.specs.Proper.{is_size, IsSize, IfThere, IsProperFile, IsProperBlock, IsProperDatum, AreProperContents}
use Rattle.p8_tree.specs.declared.faults.Fault.{Fault}
use Rattle.p8_tree.specs.Faults.{fault}
use Rattle.p8_tree.specs.declared.refusal.Refusal.TheVariants.{TooManyObjects}
use Rattle.p8_words.specs.Operators.{or_zero}
use Rattle.p8_fold.specs.Meanings.{Setting}
use Rattle.p8_fold.specs.Values.{value, is_zero}
use Rattle.p8_fold.proofs.Judged.{one_outcome}
use Rattle.p8_constants.specs.Constants.{counted}
use Rattle.p8_constants.specs.FileItems.{Item, constant, variable, object, method, line, block_items, items}
use Rattle.p8_constants.specs.Names.{name_of}
use Rattle.p8_constants.specs.Rules.{InAny, count_in, FaultInCount, HasFaultInCount, has_no_instance, passes_limit, WrongInstancesIn}
use Rattle.p8_kinds.specs.declared.name_kinds.NameKind.{NameKind}
use Rattle.p8_kinds.specs.declared.name_kinds.NameKind.TheVariants as kind
use Rattle.p8_names.specs.Settings.{has_name}
use Rattle.p8_names.specs.Kinds.{objects, size_of_datum, element_size, element_in, or_size, label_size, item_kind, kind_among, behind_longs, param_kinds, result_kind, local_kinds}
use Rattle.p8_stmt.specs.Methods as stmt
use Rattle.p8_opt.proofs.Alike.{Alike, value-alike}

-- ---- sizes

abbrev SizesOf : Option NameKind → Type 0
SizesOf (Some (kind.Global size offset)) = IsTrue (is_size size)
SizesOf (Some (kind.Label size)) = IsTrue (is_size size)
SizesOf k = Unit {0}

-- a variable's size, and that of the first element of a line
abbrev IsSized : Item → Type 0
IsSized (variable x) = IsTrue (is_size x.size)
IsSized (line x) = IfThere IsSize (element_size x.contents)
IsSized x = Unit {0}

datum-sized : (size : ℕ) (o : Option ℕ) → IsSize size → IfThere IsSize o → IsSize (size_of_datum size o)
datum-sized size None is own = is
datum-sized size (Some n) is own = own

contents-sized : (c : Contents) → AreProperContents c → IfThere IsSize (element_size c)
contents-sized trees.Nothing is = tt
contents-sized (trees.Data size []) is = tt
contents-sized (trees.Data size (d ∷ ds)) is = datum-sized size d.size is.0 (All-head IsProperDatum d ds is.1).size
contents-sized (trees.Org e) is = tt
contents-sized (trees.Res e) is = refl
contents-sized (trees.Fit e) is = tt
contents-sized (trees.Instr x) is = refl

block-sized : (b : BlockTree) → IsProperBlock b → All IsSized (block_items b)
block-sized (trees.Con xs) proper = All-map IsSized constant xs (λ k d l. tt)
block-sized (trees.Var xs) proper = All-map IsSized variable xs (λ k d l. (proper k d l).size)
block-sized (trees.Obj xs) proper = All-map IsSized object xs (λ k d l. tt)
block-sized (trees.Method x) proper = All-cons IsSized (method x) [] tt (All-nil IsSized)
block-sized (trees.Dat xs) proper = All-map IsSized line xs (λ k d l. contents-sized (get_or xs k d).contents (proper k d l).contents)

all-sized : (file : Source) → IsProperFile file → All IsSized (items file)
all-sized [] proper = All-nil IsSized
all-sized (b ∷ bs) proper = All-append IsSized (block_items b) (items bs) (block-sized b (All-head IsProperBlock b bs proper)) (all-sized bs (All-tail IsProperBlock b bs proper))

or-sized : (o : Option ℕ) (size : ℕ) → IfThere IsSize o → IsSize size → IsSize (or_size o size)
or-sized None size own is = is
or-sized (Some n) size own is = own

element-sized : (x : Item) → IsSized x → IfThere IsSize (element_in x)
element-sized (constant x) is = tt
element-sized (variable x) is = tt
element-sized (object x) is = tt
element-sized (method x) is = tt
element-sized (line x) is = is

label-sized : (xs : List Item) → All IsSized xs → IsSize (label_size xs)
label-sized [] all = refl
label-sized (x ∷ xs) all = or-sized (element_in x) (label_size xs) (element-sized x (All-head IsSized x xs all)) (label-sized xs (All-tail IsSized x xs all))

sized-where : (b : Bool) (x y : Option NameKind) → SizesOf x → SizesOf y → SizesOf (if b then x else y)
sized-where true x y p q = p
sized-where false x y p q = q

item-sized : (s : Setting) (all before : List Item) (x : Item) (rest : List Item) → All IsSized (x ∷ rest) → SizesOf (Some (item_kind s all before x rest))
item-sized s all before (constant x) rest sized = tt
item-sized s all before (variable x) rest sized = All-head IsSized (variable x) rest sized
item-sized s all before (object x) rest sized = tt
item-sized s all before (method x) rest sized = tt
item-sized s all before (line x) rest sized = label-sized (line x ∷ rest) sized

among-sized : (s : Setting) (all before xs : List Item) (n : List ℕ) → All IsSized xs → SizesOf (kind_among s all before xs n)
among-sized s all before [] n sized = tt
among-sized s all before (x ∷ xs) n sized =
    sized-where (has_name (name_of x) n) (Some (item_kind s all before x xs)) (kind_among s all (before ++ x ∷ []) xs n) (item-sized s all before x xs sized) (among-sized s all (before ++ x ∷ []) xs n (All-tail IsSized x xs sized))

pub sizes : (s : Setting) (file : Source) (n : List ℕ) (k : NameKind) → IsProperFile file → kind_among s (items file) [] (items file) n ≡ Some k → SizesOf (Some k)
sizes s file n k proper is = subst SizesOf is (among-sized s (items file) [] (items file) n (all-sized file proper))

-- ---- instances

or-false : (a b : Bool) → (a || b) ≡ false → a ≡ false
or-false true b is = is
or-false false b is = refl

some-of : (v : ℕ) → (v == 0) ≡ false → 0 < v
some-of v is = grind (arith, nat_tests)

count-some : (s : Setting) (o : Option Tree) → ((f : Fault) → FaultInCount s o f → ⊥) → has_no_instance s o ≡ false → 0 < count_in s o
count-some s None clean none = omega arith
count-some s (Some e) clean none = elim (one_outcome s e) [
  | inl h ↦ (let zero_not : (h.number == 0) ≡ false = ap is_zero (sym h.is) ∙ none in let some = some-of h.number zero_not in let is : counted (value s e) ≡ h.number = ap counted h.is in omega (arith, some, is))
  | inr r ↦ absurd (clean r.first r.told.holds)
]

flag-false : (b : Bool) (place : trees.Child) (P : Fault → Type 0) → ((f : Fault) → (IsTrue b × (fault TooManyObjects place.place ≡ f)) ⊎ P f → ⊥) → b ≡ false
flag-false true place P clean = absurd (clean (fault TooManyObjects place.place) (inl (refl, refl)))
flag-false false place P clean = refl

pub instances-some : (s : Setting) (before : ℕ) (xs : List Item) → ((f : Fault) → InAny (HasFaultInCount s) xs f → ⊥) → ((f : Fault) → WrongInstancesIn s before xs f → ⊥) → (j : ℕ) (y : trees.Child) → slice_get (objects xs) j ≡ Some y → 0 < count_in s y.count
instances-some s before [] clean right j y is = absurd (none-some y is)
instances-some s before (object x ∷ xs) clean right zero y is =
    let none = flag-false (has_no_instance s x.count || passes_limit before (count_in s x.count)) x (WrongInstancesIn s (before + count_in s x.count) xs) right in
    subst (λ (z : trees.Child). 0 < count_in s z.count) (same_Some x y is) (count-some s x.count (λ f b. clean f (inl b)) (or-false (has_no_instance s x.count) (passes_limit before (count_in s x.count)) none))
instances-some s before (object x ∷ xs) clean right (suc j) y is = instances-some s (before + count_in s x.count) xs (λ f b. clean f (inr b)) (λ f b. right f (inr b)) j y is
instances-some s before (constant x ∷ xs) clean right j y is = instances-some s before xs (λ f b. clean f (inr b)) (λ f b. right f (inr b)) j y is
instances-some s before (variable x ∷ xs) clean right j y is = instances-some s before xs (λ f b. clean f (inr b)) (λ f b. right f (inr b)) j y is
instances-some s before (method x ∷ xs) clean right j y is = instances-some s before xs (λ f b. clean f (inr b)) (λ f b. right f (inr b)) j y is
instances-some s before (line x ∷ xs) clean right j y is = instances-some s before xs (λ f b. clean f (inr b)) (λ f b. right f (inr b)) j y is

-- ---- frames

-- a local stands below this offset
abbrev pub Within : ℕ → Option NameKind → Type 0
Within n (Some (kind.Local offset)) = offset ≤ n
Within n k = Unit {0}

pub within-where : (n : ℕ) (b : Bool) (x y : Option NameKind) → Within n x → Within n y → Within n (if b then x else y)
within-where n true x y p q = p
within-where n false x y p q = q

-- a name of a file is no local
item-within : (n : ℕ) (s : Setting) (all before : List Item) (x : Item) (rest : List Item) → Within n (Some (item_kind s all before x rest))
item-within n s all before (constant x) rest = tt
item-within n s all before (variable x) rest = tt
item-within n s all before (object x) rest = tt
item-within n s all before (method x) rest = tt
item-within n s all before (line x) rest = tt

pub among-within : (n : ℕ) (s : Setting) (all before xs : List Item) (name : List ℕ) → Within n (kind_among s all before xs name)
among-within n s all before [] name = tt
among-within n s all before (x ∷ xs) name =
    within-where n (has_name (name_of x) name) (Some (item_kind s all before x xs)) (kind_among s all (before ++ x ∷ []) xs name) (item-within n s all before x xs) (among-within n s all (before ++ x ∷ []) xs name)

-- all longs of locals
abbrev pub longs : Setting → List Declared → ℕ
longs s [] = 0
longs s (x ∷ xs) = count_in s x.count + longs s xs

within-locals : (n : ℕ) (s : Setting) (first : ℕ) (xs : List Declared) (name : List ℕ) → 4 * (first + longs s xs) ≤ n → Within n (lookup (bytes_eq name) (local_kinds s first xs))
within-locals n s first [] name fits = tt
within-locals n s first (x ∷ xs) name fits =
    within-where n (bytes_eq name x.name) (Some (behind_longs first)) (lookup (bytes_eq name) (local_kinds s (first + count_in s x.count) xs)) (omega (arith, fits)) (within-locals n s (first + count_in s x.count) xs name (omega (arith, fits)))

within-result : (n : ℕ) (o : Option (List ℕ)) (rest : List (List ℕ × NameKind)) (name : List ℕ) → Within n (lookup (bytes_eq name) rest) → Within n (lookup (bytes_eq name) (result_kind o ++ rest))
within-result n None rest name p = p
within-result n (Some m) rest name p = within-where n (bytes_eq name m) (Some (behind_longs 0)) (lookup (bytes_eq name) rest) (omega arith) p

within-params : (n first : ℕ) (ns : List (List ℕ)) (rest : List (List ℕ × NameKind)) (name : List ℕ) → 4 * (first + length ns) ≤ n → Within n (lookup (bytes_eq name) rest) → Within n (lookup (bytes_eq name) (param_kinds first ns ++ rest))
within-params n first [] rest name fits p = p
within-params n first (m ∷ ns) rest name fits p =
    within-where n (bytes_eq name m) (Some (behind_longs first)) (lookup (bytes_eq name) (param_kinds (first + 1) ns ++ rest)) (omega (arith, fits)) (within-params n (first + 1) ns rest name (omega (arith, fits)) p)

pub within-frame : (n : ℕ) (s : Setting) (m : MethodTree) (name : List ℕ) → 4 * (1 + length m.params + longs s m.locals) ≤ n
    → Within n (lookup (bytes_eq name) (param_kinds 1 m.params ++ (result_kind m.result_name ++ local_kinds s (length m.params + 1) m.locals)))
within-frame n s m name fits =
    within-params n 1 m.params (result_kind m.result_name ++ local_kinds s (length m.params + 1) m.locals) name (omega (arith, fits))
    (within-result n m.result_name (local_kinds s (length m.params + 1) m.locals) name (within-locals n s (length m.params + 1) m.locals name (omega (arith, fits))))

counts-same : (o : Option ℕ) → counted o ≡ or_zero o
counts-same None = refl
counts-same (Some v) = refl

one-same : (s t : Setting) → Alike s t → (o : Option Tree) → count_in t o ≡ stmt.count_in s o
one-same s t alike None = refl
one-same s t alike (Some e) = ap counted (sym (value-alike s t alike e)) ∙ counts-same (value s e)

-- the longs of a method's locals, by what names mean in the method
pub longs-same : (s t : Setting) → Alike s t → (xs : List Declared) → longs t xs ≡ stmt.longs_in s xs
longs-same s t alike [] = refl
longs-same s t alike (x ∷ xs) = let one = one-same s t alike x.count in let rest = longs-same s t alike xs in omega (arith, one, rest)
