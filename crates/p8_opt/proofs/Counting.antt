-- How many methods and instances an object of an accepted file has, and which instance stands where.
use Rattle.std.proofs.Common.{◌≡◌, ◌⊎◌, inl, inr, ℕ, zero, suc, ◌+◌, ◌<◌, ◌≤◌, Bool, true, false, ◌&&◌, ◌||◌, nat_le, nat_lt, List, [], ◌∷◌, ◌++◌, length, replicate, slice_get, Option, Some, None, refl, ap, ◌∙◌, subst, arith, length-append}
use Rattle.std.specs.List.{flat_map}
use Rattle.std.proofs.lemmas.Bool.Decides.{nat_tests}
use Rattle.std.proofs.lemmas.Option.{same_Some, none-some, slice_get_within}
use Rattle.p8_opt.specs.Recoding.{HaveCodes, IsRecodedFile}
use Rattle.p8_stmt.specs.Methods.{rebodied}
use Rattle.p8_names.specs.Resolution.{IsNamed}
use Rattle.p8_tree.specs.Statements.{Statements}
use Rattle.p8_tree.specs.declared.places.Place.{Place}
use Rattle.p8_tree.specs.Expressions.{Tree}
use Rattle.p8_tree.specs.Sources.{Child, MethodTree, Source}
use Rattle.p8_tree.specs.Projects.{NamedSource}
use Rattle.p8_tree.specs.declared.faults.Fault.{Fault}
use Rattle.p8_tree.specs.Faults.{fault}
use Rattle.p8_tree.specs.declared.refusal.Refusal.TheVariants.{TooManyMethods, TooManyObjects}
use Rattle.p8_fold.specs.Meanings.{Setting}
use Rattle.p8_constants.specs.Constants.{counted}
use Rattle.p8_constants.specs.FileItems.{Item, constant, variable, object, method, line, items}
use Rattle.p8_constants.specs.Rules.{count_in, WrongInstancesIn, passes_limit, has_no_instance}
use Rattle.p8_kinds.specs.declared.children.Children.{Children}
use Rattle.p8_names.specs.Kinds.{numbered, objects, instances}
use Rattle.p8_names.specs.Faults.{of_name, instances as of_instances}
use Rattle.p8_stmt.specs.declared.code.MethodCode.{MethodCode}
use Rattle.p8_build.specs.Strings.{Texts}
use Rattle.p8_build.specs.Parts.{method_part, method_parts, number_of, instances_of}
use Rattle.p8_build.specs.Files.{CompiledFile, setting_of, are_too_many, IsCode, too_many}
use Rattle.p8_opt.proofs.Alike.{Alike, value-alike}
use Rattle.p8_opt.proofs.NamedSettings.{named-alike}

-- ---- counts

pub count-alike : (s t : Setting) → Alike s t → (o : Option Tree) → count_in s o ≡ count_in t o
count-alike s t alike None = refl
count-alike s t alike (Some e) = ap counted (value-alike s t alike e)

pub instances-alike : (s t : Setting) → Alike s t → (xs : List Child) → instances s xs ≡ instances t xs
instances-alike s t alike [] = refl
instances-alike s t alike (x ∷ xs) = let a = count-alike s t alike x.count in let b = instances-alike s t alike xs in omega (arith, a, b)

or-false : (a b : Bool) → (a || b) ≡ false → (a ≡ false) × (b ≡ false)
or-false true b is = absurd (cc)
or-false false b is = (refl, is)

and-true : (a b : Bool) → a ≡ true → (a && b) ≡ false → b ≡ false
and-true true b some is = is
and-true false b some is = absurd (cc)

below-of : (n m : ℕ) → nat_lt m n ≡ false → n ≤ m
below-of n m is = grind (arith, nat_tests)

true-of : (n m : ℕ) → n ≤ m → nat_le n m ≡ true
true-of n m less = grind (arith, nat_tests)

false-of : (n m : ℕ) → n ≤ m → nat_lt m n ≡ false
false-of n m less = grind (arith, nat_tests)

-- what would be a fault isn't so
unbroken : (b : Bool) (place : Place) (P : Fault → Type 0) → ((f : Fault) → ((b ≡ true) × (fault TooManyObjects place ≡ f)) ⊎ P f → ⊥) → b ≡ false
unbroken true place P clean = absurd (clean (fault TooManyObjects place) (inl (refl, refl)))
unbroken false place P clean = refl

few-instances : (s : Setting) (before : ℕ) (xs : List Item) → ((f : Fault) → WrongInstancesIn s before xs f → ⊥) → before ≤ 255 → before + instances s (objects xs) ≤ 255
few-instances s before [] clean few = omega (arith, few)
few-instances s before (object x ∷ xs) clean few =
    let none = unbroken (has_no_instance s x.count || passes_limit before (count_in s x.count)) x.place (WrongInstancesIn s (before + count_in s x.count) xs) clean in
    let within = (or-false (has_no_instance s x.count) (passes_limit before (count_in s x.count)) none).1 in
    let more = below-of (before + count_in s x.count) 255 (and-true (nat_le before 255) (nat_lt 255 (before + count_in s x.count)) (true-of before 255 few) within) in
    omega (arith, few-instances s (before + count_in s x.count) xs (λ f b. clean f (inr b)) more)
few-instances s before (constant x ∷ xs) clean few = few-instances s before xs (λ f b. clean f (inr b)) few
few-instances s before (variable x ∷ xs) clean few = few-instances s before xs (λ f b. clean f (inr b)) few
few-instances s before (method x ∷ xs) clean few = few-instances s before xs (λ f b. clean f (inr b)) few
few-instances s before (line x ∷ xs) clean few = few-instances s before xs (λ f b. clean f (inr b)) few

-- ---- methods

abbrev Crosses : (ℕ → Bool) → ℕ → Type 0
Crosses P n = (k : ℕ) × (k < n) × (P (k + 1) ≡ true) × (P k ≡ false)

cross-by : (P : ℕ → Bool) (n : ℕ) (b : Bool) → P n ≡ b → P (suc n) ≡ true → (b ≡ true → Crosses P n) → Crosses P (suc n)
cross-by P n true is some before = let r = before refl in (r.0, omega (arith, r.1), r.2, r.3)
cross-by P n false is some before = let next : suc n ≡ n + 1 = omega arith in (n, omega arith, subst (λ j. P j ≡ true) next some, is)

crossing : (P : ℕ → Bool) (n : ℕ) → P 0 ≡ false → P n ≡ true → Crosses P n
crossing P zero none some = absurd (cc)
crossing P (suc n) none some = cross-by P n (P n) refl some (λ is. crossing P n none is)

pub element : {X : Type 0} (xs : List X) (i : ℕ) → i < length xs → (x : X) × (slice_get xs i ≡ Some x)
element [] i less = absurd (omega (arith, less))
element (x ∷ xs) zero less = (x, refl)
element (x ∷ xs) (suc i) less = element xs i (omega (arith, less))

pub record Few (m n : ℕ) : Type 0 where
  pub methods : m ≤ 254
  pub entries : m + n ≤ 255

few-by : (n m : ℕ) → are_too_many n m ≡ false → Few m n
few-by n m is =
    let both = or-false (nat_lt 254 m) (nat_lt 255 (m + n)) is in
    record { methods = below-of m 254 both.0; entries = below-of (m + n) 255 both.1 }

none-too-many : (n : ℕ) (ms : List MethodTree) (b : Bool) → are_too_many n (length ms) ≡ b → n ≤ 255
    → ((k : ℕ) (m : MethodTree) → slice_get ms k ≡ Some m → are_too_many n (k + 1) ≡ true → are_too_many n k ≡ false → ⊥) → are_too_many n (length ms) ≡ false
none-too-many n ms false is few never = is
none-too-many n ms true is few never =
    let c = crossing (are_too_many n) (length ms) (false-of (0 + n) 255 (omega (arith, few))) is in
    let m = element ms c.0 c.1 in
    absurd (never c.0 m.0 m.1 c.2 c.3)

pub few-methods : (source : Source) (seen : Children) (x : CompiledFile) → IsCode source seen x → instances (setting_of seen x) (objects (items source)) ≤ 255
    → are_too_many (instances (setting_of seen x) (objects (items source))) (length (numbered (items source))) ≡ false
few-methods source seen x code few =
    let n = instances (setting_of seen x) (objects (items source)) in
    let ms = numbered (items source) in
    none-too-many n ms (are_too_many n (length ms)) refl few
    (λ k m is above below. code.clean (fault TooManyMethods m.place) (too_many k m is (record { too_many = above; first = below }) refl))

pub instances-few : (source : Source) (seen : Children) (top : Bool) (x : CompiledFile) → IsNamed source seen top x.kinds → instances (setting_of seen x) (objects (items source)) ≤ 255
instances-few source seen top x named =
    let s = named.setting in
    let t = setting_of seen x in
    let all = few-instances s 0 (items source) (λ f b. named.clean f (of_name s named.right (of_instances b))) (omega arith) in
    let same = instances-alike s t (named-alike source seen top x.kinds named) (objects (items source)) in
    omega (arith, all, same)

pub few : {changed : Source} (source : Source) (seen : Children) (top : Bool) (x : CompiledFile) → IsRecodedFile source changed seen top x → Few (length (numbered (items source))) (instances (setting_of seen x) (objects (items source)))
few source seen top x compiled = few-by (instances (setting_of seen x) (objects (items source))) (length (numbered (items source))) compiled.code.few

-- a method with the body that its code is made of
pub changed-method : (source changed : Source) (seen : Children) (x : CompiledFile) → HaveCodes source changed seen x → (k : ℕ) (m : MethodTree) → slice_get (numbered (items source)) k ≡ Some m
    → (body : Statements) × (slice_get (numbered (items changed)) k ≡ Some (rebodied m body))
changed-method source changed seen x is k m at =
    let inside = slice_get_within (numbered (items source)) k m at in
    let c = element x.codes k (omega (arith, inside, is.count)) in
    let n = element (numbered (items changed)) k (omega (arith, inside, is.methods)) in
    (n.0.body, n.1 ∙ ap Some (is.each k m n.0 c.0 at n.1 c.1).0)

-- ---- the parts of an object

pub parts-length : (strings : Texts) (ms : List MethodTree) (codes : List MethodCode) → length codes ≡ length ms → length (method_parts strings ms codes) ≡ length ms
parts-length strings [] codes is = refl
parts-length strings (m ∷ ms) [] is = absurd (omega (arith, is))
parts-length strings (m ∷ ms) (c ∷ codes) is = ap suc (parts-length strings ms codes (omega (arith, is)))

pub part-at : (strings : Texts) (ms : List MethodTree) (codes : List MethodCode) (k : ℕ) (m : MethodTree) (c : MethodCode) → slice_get ms k ≡ Some m → slice_get codes k ≡ Some c
    → slice_get (method_parts strings ms codes) k ≡ Some (method_part strings m c)
part-at strings [] codes k m c is code = absurd (none-some m is)
part-at strings (n ∷ ms) [] k m c is code = absurd (none-some c code)
part-at strings (n ∷ ms) (d ∷ codes) zero m c is code = ap (λ x. Some (method_part strings x d)) (same_Some n m is) ∙ ap (λ x. Some (method_part strings m x)) (same_Some d c code)
part-at strings (n ∷ ms) (d ∷ codes) (suc k) m c is code = part-at strings ms codes k m c is code

replicate-length : (n : ℕ) (v : ℕ) → length (replicate n v) ≡ n
replicate-length zero v = refl
replicate-length (suc n) v = ap suc (replicate-length n v)

pub instances-length : (files : List NamedSource) (s : Setting) (xs : List Child) → length (flat_map (instances_of files s) xs) ≡ instances s xs
instances-length files s [] = refl
instances-length files s (x ∷ xs) =
    length-append (replicate (count_in s x.count) (number_of files x.file)) (flat_map (instances_of files s) xs)
    ∙ ap (λ k. k + length (flat_map (instances_of files s) xs)) (replicate-length (count_in s x.count) (number_of files x.file))
    ∙ ap (λ k. count_in s x.count + k) (instances-length files s xs)

within-row : (n v i : ℕ) (rest : List ℕ) → i < n → slice_get (replicate n v ++ rest) i ≡ Some v
within-row zero v i rest less = absurd (omega (arith, less))
within-row (suc n) v zero rest less = refl
within-row (suc n) v (suc i) rest less = within-row n v i rest (omega (arith, less))

behind-row : (n v i : ℕ) (rest : List ℕ) → slice_get (replicate n v ++ rest) (n + i) ≡ slice_get rest i
behind-row zero v i rest = ap (slice_get rest) (omega arith)
behind-row (suc n) v i rest = let next : suc n + i ≡ suc (n + i) = omega arith in ap (slice_get (v ∷ replicate n v ++ rest)) next ∙ behind-row n v i rest

-- the instances of an item stand after those of the items before it
pub instance-at : (files : List NamedSource) (s : Setting) (first : List Child) (x : Child) (rest : List Child) (index : ℕ) → index < count_in s x.count
    → slice_get (flat_map (instances_of files s) (first ++ x ∷ rest)) (instances s first + index) ≡ Some (number_of files x.file)
instance-at files s [] x rest index less =
    let none : 0 + index ≡ index = omega arith in
    ap (slice_get (flat_map (instances_of files s) (x ∷ rest))) none ∙ within-row (count_in s x.count) (number_of files x.file) index (flat_map (instances_of files s) rest) less
instance-at files s (y ∷ first) x rest index less =
    let c = count_in s y.count in
    let place : c + instances s first + index ≡ c + (instances s first + index) = omega arith in
    let more = flat_map (instances_of files s) (first ++ x ∷ rest) in
    ap (slice_get (replicate c (number_of files y.file) ++ more)) place
    ∙ behind-row c (number_of files y.file) (instances s first + index) more ∙ instance-at files s first x rest index less
