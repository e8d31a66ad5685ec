-- The files of a project by their numbers, and the methods of a file by theirs.
use Rattle.std.proofs.Common.{◌≡◌, ℕ, zero, suc, Bool, true, false, if◌then◌else◌, List, [], ◌∷◌, ◌++◌, map, slice_get, Some, None, refl, sym, ap, ◌∙◌}
use Rattle.std.specs.Prelude.{filter_map, option_map, Option}
use Rattle.std.specs.List.{cons_option}
use Rattle.std.specs.List.{flat_map}
use Rattle.std.proofs.lemmas.Grind.{flat_map-append}
use Rattle.std.proofs.lemmas.Option.{same_Some, none-some}
use Rattle.p8_tree.specs.Sources as trees
use Rattle.p8_tree.specs.Sources.{MethodTree, Source}
use Rattle.p8_tree.specs.Projects.{NamedSource}
use Rattle.p8_constants.specs.FileItems.{Item, constant, variable, object, line, items}
use Rattle.p8_kinds.specs.declared.children.Children.{Children}
use Rattle.p8_names.specs.Kinds as names
use Rattle.p8_names.specs.Kinds.{public_in, private_in, publics, privates}
use Rattle.p8_meaning.specs.Programs.{File, Program, setting_of, object_constant, public_method, private_method, methods_of}
use Rattle.p8_fold.specs.Meanings.{outside_operands}
use Rattle.p8_fold.specs.declared.meanings.Meaning.TheVariants as meaning_case
use Rattle.p8_kinds.specs.declared.name_kinds.NameKind.{NameKind}
use Rattle.p8_kinds.specs.declared.name_kinds.NameKind.TheVariants as kind
use Rattle.p8_kinds.specs.FileSettings.{meaning_of_kind}
use Rattle.p8_meaning.specs.Calls.{method_of}
use Rattle.p8_build.specs.Files.{CompiledFile, object_of}
use Rattle.p8_build.specs.Builds.{objects_from}
use Rattle.p8_opt.specs.Programs.{file_of, program_from, program_of, with_sources, own_sources}

-- ---- files

-- file i: its tree, what it sees of its objects, and what it is compiled to
pub record IsThere (files : List NamedSource) (children : List Children) (xs : List CompiledFile) (i : ℕ) (file : NamedSource) (seen : Children) (x : CompiledFile) : Type 0 where
  pub stands : slice_get files i ≡ Some file
  pub beside : slice_get children i ≡ Some seen
  pub compiled : slice_get xs i ≡ Some x

pub program-at : (all files : List NamedSource) (cs : List Children) (xs : List CompiledFile) (i : ℕ) (file : NamedSource) (seen : Children) (x : CompiledFile) → IsThere files cs xs i file seen x
    → slice_get (program_from all files cs xs) i ≡ Some (file_of all file.tree seen x)
program-at all [] cs xs i file seen x h = absurd (none-some file h.stands)
program-at all (f ∷ files) [] xs i file seen x h = absurd (none-some seen h.beside)
program-at all (f ∷ files) (c ∷ cs) [] i file seen x h = absurd (none-some x h.compiled)
program-at all (f ∷ files) (c ∷ cs) (y ∷ xs) zero file seen x h =
    ap (λ (g : NamedSource). Some (file_of all g.tree c y)) (same_Some f file h.stands)
    ∙ ap (λ d. Some (file_of all file.tree d y)) (same_Some c seen h.beside)
    ∙ ap (λ z. Some (file_of all file.tree seen z)) (same_Some y x h.compiled)
program-at all (f ∷ files) (c ∷ cs) (y ∷ xs) (suc i) file seen x h =
    program-at all files cs xs i file seen x (record { stands = h.stands; beside = h.beside; compiled = h.compiled })

pub object-at : (all files : List NamedSource) (cs : List Children) (xs : List CompiledFile) (i : ℕ) (file : NamedSource) (seen : Children) (x : CompiledFile) → IsThere files cs xs i file seen x
    → slice_get (objects_from all files cs xs) i ≡ Some (object_of all file.tree seen x)
object-at all [] cs xs i file seen x h = absurd (none-some file h.stands)
object-at all (f ∷ files) [] xs i file seen x h = absurd (none-some seen h.beside)
object-at all (f ∷ files) (c ∷ cs) [] i file seen x h = absurd (none-some x h.compiled)
object-at all (f ∷ files) (c ∷ cs) (y ∷ xs) zero file seen x h =
    ap (λ (g : NamedSource). Some (object_of all g.tree c y)) (same_Some f file h.stands)
    ∙ ap (λ d. Some (object_of all file.tree d y)) (same_Some c seen h.beside)
    ∙ ap (λ z. Some (object_of all file.tree seen z)) (same_Some y x h.compiled)
object-at all (f ∷ files) (c ∷ cs) (y ∷ xs) (suc i) file seen x h =
    object-at all files cs xs i file seen x (record { stands = h.stands; beside = h.beside; compiled = h.compiled })

-- the same files with other sources
pub changed-at : (changed : ℕ → Source) (p : Program) (i : ℕ) (f : File) → slice_get p i ≡ Some f → slice_get (with_sources changed p) i ≡ Some (record f { source = changed i })
changed-at changed [] i f is = absurd (none-some f is)
changed-at changed (g ∷ p) zero f is = ap (λ (h : File). Some (record h { source = changed zero })) (same_Some g f is)
changed-at changed (g ∷ p) (suc i) f is = changed-at (λ j. changed (suc j)) p i f is

unchanged-at : (changed : ℕ → Source) (p : Program) (i : ℕ) (f : File) → slice_get (with_sources changed p) i ≡ Some f → (g : File) × (slice_get p i ≡ Some g) × (f ≡ record g { source = changed i })
unchanged-at changed [] i f is = absurd (none-some f is)
unchanged-at changed (g ∷ p) zero f is = (g, refl, sym (same_Some (record g { source = changed zero }) f is))
unchanged-at changed (g ∷ p) (suc i) f is = unchanged-at (λ j. changed (suc j)) p i f is

-- what names mean where a constant is needed is the same
constant-same : (f : File) (s : Source) (k : Option NameKind) (name : List ℕ) → object_constant (record f { source = s }) k name ≡ object_constant f k name
constant-same f s None name = refl
constant-same f s (Some (kind.Const v)) name = refl
constant-same f s (Some (kind.Global size offset)) name = refl
constant-same f s (Some (kind.Local offset)) name = refl
constant-same f s (Some (kind.Label size)) name = refl
constant-same f s (Some (kind.Method number params)) name = refl
constant-same f s (Some (kind.Object item position count)) name = refl

pub setting-same : (f : File) (s : Source) (method : ℕ) → setting_of (record f { source = s }) method ≡ setting_of f method
setting-same f s method = λ i. record {
  name = λ name. option_map meaning_of_kind (f.kind method name);
  constant = λ object name. option_map meaning_case.Value (constant-same f s (f.kind method object) name i);
  here = outside_operands None;
}

-- a program with its own sources
pub own-program : (all files : List NamedSource) (cs : List Children) (xs : List CompiledFile) → with_sources (own_sources files) (program_from all files cs xs) ≡ program_from all files cs xs
own-program all [] cs xs = refl
own-program all (f ∷ files) [] xs = refl
own-program all (f ∷ files) (c ∷ cs) [] = refl
own-program all (f ∷ files) (c ∷ cs) (x ∷ xs) = ap (λ p. file_of all f.tree c x ∷ p) (own-program all files cs xs)

pub own-source : (files : List NamedSource) (i : ℕ) (file : NamedSource) → slice_get files i ≡ Some file → own_sources files i ≡ file.tree
own-source [] i file is = absurd (none-some file is)
own-source (f ∷ files) zero file is = ap (λ (g : NamedSource). g.tree) (same_Some f file is)
own-source (f ∷ files) (suc i) file is = own-source files i file is

-- what stands at a place of a program is what a file is compiled to, with its changed source
pub record IsFileOf (changed : ℕ → Source) (files : List NamedSource) (children : List Children) (xs : List CompiledFile) (i : ℕ) (f : File) : Type 0 where
  pub file : NamedSource
  pub seen : Children
  pub x : CompiledFile
  pub there : IsThere files children xs i file seen x
  pub is : f ≡ record (file_of files file.tree seen x) { source = changed i }

found-from : (all files : List NamedSource) (cs : List Children) (xs : List CompiledFile) (i : ℕ) (f : File) → slice_get (program_from all files cs xs) i ≡ Some f
    → (file : NamedSource) × (seen : Children) × (x : CompiledFile) × IsThere files cs xs i file seen x × (f ≡ file_of all file.tree seen x)
found-from all [] cs xs i f is = absurd (none-some f is)
found-from all (g ∷ files) [] xs i f is = absurd (none-some f is)
found-from all (g ∷ files) (c ∷ cs) [] i f is = absurd (none-some f is)
found-from all (g ∷ files) (c ∷ cs) (y ∷ xs) zero f is = (g, c, y, record { stands = refl; beside = refl; compiled = refl }, sym (same_Some (file_of all g.tree c y) f is))
found-from all (g ∷ files) (c ∷ cs) (y ∷ xs) (suc i) f is =
    let h = found-from all files cs xs i f is in
    (h.0, h.1, h.2, record { stands = h.3.stands; beside = h.3.beside; compiled = h.3.compiled }, h.4)

pub file-of : (changed : ℕ → Source) (files : List NamedSource) (children : List Children) (xs : List CompiledFile) (i : ℕ) (f : File) → slice_get (with_sources changed (program_of files children xs)) i ≡ Some f → IsFileOf changed files children xs i f
file-of changed files children xs i f is =
    let g = unchanged-at changed (program_of files children xs) i f is in
    let h = found-from files files children xs i g.0 g.1 in
    record { file = h.0; seen = h.1; x = h.2; there = h.3; is = g.2 ∙ ap (λ (z : File). record z { source = changed i }) h.4 }

-- ---- methods

nothing-in : {A : Type 0} (f : A → Item) (g : Item → List MethodTree) → ((a : A) → g (f a) ≡ []) → (xs : List A) → flat_map g (map f xs) ≡ []
nothing-in f g none [] = refl
nothing-in f g none (x ∷ xs) = ap (λ ys. ys ++ flat_map g (map f xs)) (none x) ∙ nothing-in f g none xs

cons-if : (b : Bool) (m : MethodTree) (ys : List MethodTree) → (if b then m ∷ [] else []) ++ ys ≡ cons_option (if b then Some m else None) ys
cons-if true m ys = refl
cons-if false m ys = refl

cons-unless : (b : Bool) (m : MethodTree) (ys : List MethodTree) → (if b then [] else m ∷ []) ++ ys ≡ cons_option (if b then None else Some m) ys
cons-unless true m ys = refl
cons-unless false m ys = refl

-- items of another block
skipped : {A : Type 0} (f : A → Item) (g : Item → List MethodTree) → ((a : A) → g (f a) ≡ []) → (xs : List A) (ys : List Item) (ms : List MethodTree) → flat_map g ys ≡ ms → flat_map g (map f xs ++ ys) ≡ ms
skipped f g none xs ys ms is = flat_map-append g (map f xs) ys ∙ ap (λ zs. zs ++ flat_map g ys) (nothing-in f g none xs) ∙ is

publics-are : (bs : Source) → publics (items bs) ≡ filter_map public_method bs
publics-are [] = refl
publics-are (trees.Con xs ∷ bs) = skipped constant public_in (λ a. refl) xs (items bs) (filter_map public_method bs) (publics-are bs)
publics-are (trees.Var xs ∷ bs) = skipped variable public_in (λ a. refl) xs (items bs) (filter_map public_method bs) (publics-are bs)
publics-are (trees.Obj xs ∷ bs) = skipped object public_in (λ a. refl) xs (items bs) (filter_map public_method bs) (publics-are bs)
publics-are (trees.Method m ∷ bs) = cons-if m.public m (publics (items bs)) ∙ ap (cons_option (if m.public then Some m else None)) (publics-are bs)
publics-are (trees.Dat xs ∷ bs) = skipped line public_in (λ a. refl) xs (items bs) (filter_map public_method bs) (publics-are bs)

privates-are : (bs : Source) → privates (items bs) ≡ filter_map private_method bs
privates-are [] = refl
privates-are (trees.Con xs ∷ bs) = skipped constant private_in (λ a. refl) xs (items bs) (filter_map private_method bs) (privates-are bs)
privates-are (trees.Var xs ∷ bs) = skipped variable private_in (λ a. refl) xs (items bs) (filter_map private_method bs) (privates-are bs)
privates-are (trees.Obj xs ∷ bs) = skipped object private_in (λ a. refl) xs (items bs) (filter_map private_method bs) (privates-are bs)
privates-are (trees.Method m ∷ bs) = cons-unless m.public m (privates (items bs)) ∙ ap (cons_option (if m.public then None else Some m)) (privates-are bs)
privates-are (trees.Dat xs ∷ bs) = skipped line private_in (λ a. refl) xs (items bs) (filter_map private_method bs) (privates-are bs)

-- the methods in the order of their numbers
pub methods-are : (source : Source) → names.numbered (items source) ≡ methods_of source
methods-are source = ap (λ ms. ms ++ privates (items source)) (publics-are source) ∙ ap (λ ms. filter_map public_method source ++ ms) (privates-are source)

-- a method of a file, and its place among all
pub method-place : (f : File) (number : ℕ) (m : MethodTree) → method_of f number ≡ Some m → (k : ℕ) × (number ≡ suc k) × (slice_get (names.numbered (items f.source)) k ≡ Some m)
method-place f zero m is = absurd (none-some m is)
method-place f (suc k) m is = (k, refl, ap (λ ms. slice_get ms k) (methods-are f.source) ∙ is)

pub method-there : (f : File) (k : ℕ) (m : MethodTree) → slice_get (names.numbered (items f.source)) k ≡ Some m → method_of f (suc k) ≡ Some m
method-there f k m is = ap (λ ms. slice_get ms k) (sym (methods-are f.source)) ∙ is
