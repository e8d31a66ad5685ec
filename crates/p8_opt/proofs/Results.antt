-- RESULT is a word, and no name of a file or of a method.
use Rattle.std.proofs.Common.{◌≡◌, ℕ, suc, ◌+◌, Bool, true, false, if◌then◌else◌, List, [], ◌∷◌, ◌++◌, length, get_or, slice_get, Option, Some, None, refl, sym, ap, ◌∙◌, arith}
use Rattle.std.specs.Prelude.{All}
use Rattle.std.specs.Map.{lookup}
use Rattle.std.specs.Str.{bytes_eq}
use Rattle.std.proofs.lemmas.List.Elements.{All-nil, All-cons, All-append, All-head, All-tail, All-map}
use Rattle.std.proofs.lemmas.Option.{slice_get_within}
use Rattle.p8_tree.specs.Names.{result_word, is_reserved, IsName, IsLabel, plain, behind_colon, is_local}
use Rattle.p8_tree.specs.Sources as trees
use Rattle.p8_tree.specs.Sources.{Constant, Declared, MethodTree, BlockTree, Source}
use Rattle.p8_tree.specs.Proper.{IsProperFile, IsProperBlock, IsProperConstant, setting, with_value, counted, IsProperLocal, IsProperMethod, IfThere}
use Rattle.p8_fold.specs.Meanings.{Setting}
use Rattle.p8_constants.specs.FileItems.{Item, constant, variable, object, method, line, block_items, items}
use Rattle.p8_constants.specs.Names.{name_of, label_name, predefined, truth_and_limits, internal_clocks, external_clocks, low_factors, high_factors}
use Rattle.p8_constants.specs.Rules.{count_in}
use Rattle.p8_kinds.specs.declared.children.Children.{Children}
use Rattle.p8_kinds.specs.declared.kinds.Kinds.{Kinds}
use Rattle.p8_kinds.specs.declared.name_kinds.NameKind.{NameKind}
use Rattle.p8_kinds.specs.Kinds.{own, or_else, kind_of}
use Rattle.p8_names.specs.Settings.{has_name, predefined_value}
use Rattle.p8_names.specs.Kinds.{numbered, item_kind, kind_among, kind_or, file_kind, param_kinds, result_kind, local_kinds, method_setting, own_kind}
use Rattle.p8_names.specs.Resolution.{IsNamed}
use Rattle.p8_build.proofs.Methods.{proper_method}
use Rattle.p8_opt.specs.Programs.{kind_by}
use Rattle.p8_names.proofs.Counts.{same-bytes}
use Rattle.p8_names.proofs.Counts.{count-is}
use Rattle.p8_opt.proofs.OwnKinds.{number-is}

word-reserved : is_reserved result_word ≡ true
word-reserved = refl

other-name : (n : List ℕ) (b : Bool) → bytes_eq result_word n ≡ b → is_reserved n ≡ false → b ≡ false
other-name n false is free = refl
other-name n true is free =
    let same : result_word ≡ n = same-bytes result_word n is in
    absurd (let never : true ≡ false = sym word-reserved ∙ ap is_reserved same ∙ free in cc)

not-result : (n : List ℕ) → IsName n → bytes_eq result_word n ≡ false
not-result n name = other-name n (bytes_eq result_word n) refl name.free

-- ---- items

abbrev IsFree : Item → Type 0
IsFree x = has_name (name_of x) result_word ≡ false

constant-free : (x : Constant) → IsProperConstant x → IsFree (constant x)
constant-free _ (setting e) = refl
constant-free _ (with_value {n = n} name e) = not-result n name
constant-free _ (counted {n = n} name step) = not-result n name

label-free : (b : Bool) (n : List ℕ) → bytes_eq result_word n ≡ false → has_name (if b then None else Some n) result_word ≡ false
label-free true n free = refl
label-free false n free = free

of-label : (n : List ℕ) → IsLabel n → has_name (if is_local n then None else Some n) result_word ≡ false
of-label n (plain name) = label-free (is_local n) n (not-result n name)
of-label _ (behind_colon name) = refl

line-free : (label : Option (List ℕ)) → IfThere IsLabel label → has_name (label_name label) result_word ≡ false
line-free None is = refl
line-free (Some n) is = of-label n is

block-free : (b : BlockTree) → IsProperBlock b → All IsFree (block_items b)
block-free (trees.Con xs) proper = All-map IsFree constant xs (λ k d l. constant-free (get_or xs k d) (proper k d l))
block-free (trees.Var xs) proper = All-map IsFree variable xs (λ k d l. not-result (get_or xs k d).name (proper k d l).name)
block-free (trees.Obj xs) proper = All-map IsFree object xs (λ k d l. not-result (get_or xs k d).name (proper k d l).name)
block-free (trees.Method x) proper = All-cons IsFree (method x) [] (not-result x.name proper.name) (All-nil IsFree)
block-free (trees.Dat xs) proper = All-map IsFree line xs (λ k d l. line-free (get_or xs k d).label (proper k d l).label)

all-free : (file : Source) → IsProperFile file → All IsFree (items file)
all-free [] proper = All-nil IsFree
all-free (b ∷ bs) proper = All-append IsFree (block_items b) (items bs) (block-free b (All-head IsProperBlock b bs proper)) (all-free bs (All-tail IsProperBlock b bs proper))

among-free : (s : Setting) (all before xs : List Item) → All IsFree xs → kind_among s all before xs result_word ≡ None
among-free s all before [] free = refl
among-free s all before (x ∷ xs) free =
    ap (λ b. if b then Some (item_kind s all before x xs) else kind_among s all (before ++ x ∷ []) xs result_word) (All-head IsFree x xs free)
    ∙ among-free s all (before ++ x ∷ []) xs (All-tail IsFree x xs free)

not-predefined : predefined_value result_word ≡ None
unfolding predefined truth_and_limits internal_clocks external_clocks low_factors high_factors
not-predefined = refl

file-free : (s : Setting) (file : Source) → IsProperFile file → file_kind s (items file) result_word ≡ None
file-free s file proper = ap (λ p. kind_or p (kind_among s (items file) [] (items file) result_word)) not-predefined ∙ among-free s (items file) [] (items file) (all-free file proper)

-- ---- a method's own names

skipped : (n : List ℕ) (k : NameKind) (rest : List (List ℕ × NameKind)) → IsName n → lookup (bytes_eq result_word) rest ≡ None → lookup (bytes_eq result_word) ((n, k) ∷ rest) ≡ None
skipped n k rest name none = ap (λ b. if b then Some k else lookup (bytes_eq result_word) rest) (not-result n name) ∙ none

locals-free : (s : Setting) (longs : ℕ) (xs : List Declared) → All IsProperLocal xs → lookup (bytes_eq result_word) (local_kinds s longs xs) ≡ None
locals-free s longs [] proper = refl
locals-free s longs (x ∷ xs) proper =
    skipped x.name _ (local_kinds s (longs + count_in s x.count) xs) (All-head IsProperLocal x xs proper).name (locals-free s (longs + count_in s x.count) xs (All-tail IsProperLocal x xs proper))

result-free : (o : Option (List ℕ)) (rest : List (List ℕ × NameKind)) → IfThere IsName o → lookup (bytes_eq result_word) rest ≡ None → lookup (bytes_eq result_word) (result_kind o ++ rest) ≡ None
result-free None rest name none = none
result-free (Some n) rest name none = skipped n _ rest name none

params-free : (longs : ℕ) (ns : List (List ℕ)) (rest : List (List ℕ × NameKind)) → All IsName ns → lookup (bytes_eq result_word) rest ≡ None → lookup (bytes_eq result_word) (param_kinds longs ns ++ rest) ≡ None
params-free longs [] rest names none = none
params-free longs (n ∷ ns) rest names none = skipped n _ (param_kinds (longs + 1) ns ++ rest) (All-head IsName n ns names) (params-free (longs + 1) ns rest (All-tail IsName n ns names) none)

own-free : (s : Setting) (m : MethodTree) → IsProperMethod m → own_kind s (Some m) result_word ≡ None
own-free s m proper =
    let t = method_setting s m in
    params-free 1 m.params (result_kind m.result_name ++ local_kinds t (length m.params + 1) m.locals) proper.params
    (result-free m.result_name (local_kinds t (length m.params + 1) m.locals) proper.result_name (locals-free t (length m.params + 1) m.locals proper.locals))

both-none : (a b : Option NameKind) → a ≡ None → b ≡ None → or_else a b ≡ None
both-none None b none is = is
both-none (Some k) b none is = absurd (cc)

-- in a method RESULT has no entry
pub no-result : (source : Source) (children : Children) (top : Bool) (found : Kinds) → IsNamed source children top found → IsProperFile source → (k : ℕ) (m : MethodTree) → slice_get (numbered (items source)) k ≡ Some m
    → kind_by found source (suc k) result_word ≡ None
no-result source children top found named proper k m at =
    let within = slice_get_within (numbered (items source)) k m at in
    let s = named.setting in
    let own_none : own found (suc k) result_word ≡ None =
    named.each (suc k) result_word (omega (arith, within, count-is (items source))) ∙ ap (λ o. own_kind s o result_word) at ∙ own-free s m (proper_method source k m proper at) in
    let file_none : own found 0 result_word ≡ None = named.each 0 result_word (omega arith) ∙ file-free s source proper in
    ap (λ j. kind_of found j result_word) (number-is source (suc k) (omega (arith, within))) ∙ both-none (own found (suc k) result_word) (own found 0 result_word) own_none file_none
