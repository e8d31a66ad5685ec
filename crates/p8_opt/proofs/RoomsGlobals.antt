-- Each variable that a method of an object in use may name stands in the lower half of the memory.
use Rattle.std.proofs.Common.{◌≡◌, ℕ, suc, ◌+◌, ◌*◌, ◌<◌, ◌≤◌, ◌^◌, ◌==◌, Bool, true, false, nat_lt, if◌then◌else◌, List, [], ◌∷◌, ◌++◌, slice_get, slice_index, Option, Some, None, refl, sym, ap, ◌∙◌, subst, arith}
use Rattle.std.specs.List.{flat_map}
use Rattle.std.specs.Str.{bytes_eq}
use Rattle.std.proofs.lemmas.Bool.Decides.{nat_tests}
use Rattle.std.proofs.lemmas.Option.{none-some, slice_get_within}
use Rattle.p8_tree.specs.Names.{result_word}
use Rattle.p8_tree.specs.Sources.{MethodTree, Source}
use Rattle.p8_tree.specs.Projects.{NamedSource}
use Rattle.p8_fold.specs.Meanings.{Setting}
use Rattle.p8_constants.specs.FileItems.{Item, constant, variable, object, method, line, items}
use Rattle.p8_constants.specs.Names.{name_of}
use Rattle.p8_constants.specs.Rules.{count_in}
use Rattle.p8_kinds.specs.declared.children.Children.{Children}
use Rattle.p8_kinds.specs.declared.kinds.Kinds.{Kinds}
use Rattle.p8_kinds.specs.declared.name_kinds.NameKind.{NameKind}
use Rattle.p8_kinds.specs.declared.name_kinds.NameKind.TheVariants as kind
use Rattle.p8_kinds.specs.Kinds.{own, or_else, kind_of}
use Rattle.p8_names.specs.Mentions.{HaveNoRing}
use Rattle.p8_names.specs.Settings.{has_name, predefined_value}
use Rattle.p8_names.specs.Kinds.{bytes_in, room, numbered, item_kind, kind_among, kind_or}
use Rattle.p8_names.specs.Resolution.{IsNamed}
use Rattle.p8_image.specs.declared.parts.ObjectPart.{ObjectPart}
use Rattle.p8_image.specs.Layout.{total, variable_size, variables_of, header_by}
use Rattle.p8_image.specs.Projects.{FitsHub}
use Rattle.p8_gen.specs.Names.{Names}
use Rattle.p8_meaning.specs.Programs.{Instance}
use Rattle.p8_meaning.specs.Lives.{IsInstance}
use Rattle.p8_build.specs.Parts.{variable_in}
use Rattle.p8_build.specs.Files.{CompiledFile, setting_of, object_of}
use Rattle.p8_build.specs.Builds.{objects_of}
use Rattle.p8_opt.specs.Programs.{program_of, with_sources, addresses_of}
use Rattle.p8_opt.specs.Agreements.{names_of, HasRoom, NamesHaveRoom}
use Rattle.p8_opt.proofs.Alike.{Alike}
use Rattle.p8_opt.proofs.NamedSettings.{named-alike, kind-is}
use Rattle.p8_opt.proofs.Files.{IsThere, object-at}
use Rattle.p8_opt.proofs.Counting.{count-alike}
use Rattle.p8_names.proofs.Counts.{count-is}
use Rattle.p8_names.proofs.Own.{IsOwn, own-of}
use Rattle.p8_opt.proofs.Instances.{IsProject, compiled-at}
use Rattle.p8_opt.proofs.RoomsWays.{own-fits}

-- ---- the room of variables

abbrev bytes : Setting → List Item → ℕ
bytes s xs = total variable_size (flat_map (variable_in s) xs)

bytes-alike : (s t : Setting) → Alike s t → (xs : List Item) → bytes s xs ≡ bytes t xs
bytes-alike s t alike [] = refl
bytes-alike s t alike (variable x ∷ xs) =
    let one = ap (λ n. x.size * n) (count-alike s t alike x.count) in
    let rest = bytes-alike s t alike xs in
    ap (λ n. n + bytes s xs) one ∙ ap (λ n. x.size * count_in t x.count + n) rest
bytes-alike s t alike (constant x ∷ xs) = bytes-alike s t alike xs
bytes-alike s t alike (object x ∷ xs) = bytes-alike s t alike xs
bytes-alike s t alike (method x ∷ xs) = bytes-alike s t alike xs
bytes-alike s t alike (line x ∷ xs) = bytes-alike s t alike xs

one-of-two : (a b : Bool) (n : ℕ) → (a ≡ true → b ≡ true → ⊥) → (if a then n else 0) + (if b then n else 0) ≤ n
one-of-two true true n never = absurd (never refl refl)
one-of-two true false n never = omega arith
one-of-two false true n never = omega arith
one-of-two false false n never = omega arith

not-both : (size n : ℕ) → nat_lt size n ≡ true → (n == size) ≡ true → ⊥
not-both size n a b = grind (arith, nat_tests)

-- variables of greater sizes and of this one are some of all
two-rooms : (s : Setting) (size : ℕ) (xs : List Item) → room s (nat_lt size) xs + room s (λ z. z == size) xs ≤ bytes s xs
two-rooms s size [] = omega arith
two-rooms s size (variable x ∷ xs) =
    let one = one-of-two (nat_lt size x.size) (x.size == size) (x.size * count_in s x.count) (not-both size x.size) in
    let rest = two-rooms s size xs in
    omega (arith, one, rest)
two-rooms s size (constant x ∷ xs) = let rest = two-rooms s size xs in omega (arith, rest)
two-rooms s size (object x ∷ xs) = let rest = two-rooms s size xs in omega (arith, rest)
two-rooms s size (method x ∷ xs) = let rest = two-rooms s size xs in omega (arith, rest)
two-rooms s size (line x ∷ xs) = let rest = two-rooms s size xs in omega (arith, rest)

room-more : (s : Setting) (fits : ℕ → Bool) (before : List Item) (x : Item) → room s fits (before ++ x ∷ []) ≡ room s fits before + bytes_in s fits x
room-more s fits [] x = omega arith
room-more s fits (y ∷ before) x = let more = room-more s fits before x in omega (arith, more)

-- ---- the offset of a variable

abbrev Ends : ℕ → Option NameKind → Type 0
Ends n (Some (kind.Global size offset)) = offset ≤ n
Ends n k = Unit {0}

ends-where : (n : ℕ) (b : Bool) (x y : Option NameKind) → Ends n x → Ends n y → Ends n (if b then x else y)
ends-where n true x y p q = p
ends-where n false x y p q = q

abbrev Before : Setting → List Item → List Item → List Item → Type 0
Before s all before xs = (fits : ℕ → Bool) → room s fits before + room s fits xs ≤ room s fits all

item-ends : (s : Setting) (all before : List Item) (x : Item) (rest : List Item) → Before s all before (x ∷ rest) → Ends (bytes s all) (Some (item_kind s all before x rest))
item-ends s all before (variable x) rest fits =
    let both = two-rooms s x.size all in
    let first = fits (λ z. z == x.size) in
    omega (arith, both, first)
item-ends s all before (constant x) rest fits = tt
item-ends s all before (object x) rest fits = tt
item-ends s all before (method x) rest fits = tt
item-ends s all before (line x) rest fits = tt

among-ends : (s : Setting) (all before xs : List Item) (name : List ℕ) → Before s all before xs → Ends (bytes s all) (kind_among s all before xs name)
among-ends s all before [] name fits = tt
among-ends s all before (x ∷ xs) name fits =
    ends-where (bytes s all) (has_name (name_of x) name) (Some (item_kind s all before x xs)) (kind_among s all (before ++ x ∷ []) xs name) (item-ends s all before x xs fits)
    (among-ends s all (before ++ x ∷ []) xs name (λ f. let more = room-more s f before x in let whole = fits f in omega (arith, more, whole)))

or-ends : (n : ℕ) (p : Option ℕ) (k : Option NameKind) → Ends n k → Ends n (kind_or p k)
or-ends n None k ends = ends
or-ends n (Some v) k ends = tt

-- ---- the names of a method

own-ends : (n : ℕ) (a b : Option NameKind) → IsOwn a → Ends n b → Ends n (or_else a b)
own-ends n None b p ends = ends
own-ends n (Some (kind.Local offset)) b p ends = tt
own-ends n (Some (kind.Const v)) b p ends = absurd p
own-ends n (Some (kind.Global size offset)) b p ends = absurd p
own-ends n (Some (kind.Label size)) b p ends = absurd p
own-ends n (Some (kind.Method number params)) b p ends = absurd p
own-ends n (Some (kind.Object item position count)) b p ends = absurd p

module _ (source : Source) (seen : Children) (top : Bool) (found : Kinds) (named : IsNamed source seen top found) where
  abbrev s : Setting
  s = named.setting

  abbrev all : List Item
  all = items source

  file-ends : (name : List ℕ) → Ends (bytes s all) (own found 0 name)
  file-ends name =
      subst (Ends (bytes s all)) (sym (kind-is source seen top found named name))
      (or-ends (bytes s all) (predefined_value name) (kind_among s all [] all name) (among-ends s all [] all name (λ f. omega arith)))

  method-ends : (k : ℕ) (m : MethodTree) → slice_get (numbered all) k ≡ Some m → (name : List ℕ) → Ends (bytes s all) (kind_of found (k + 1) name)
  method-ends k m is name =
      let inside = slice_get_within (numbered all) k m is in
      let next : suc k ≡ k + 1 = omega arith in
      let mine : IsOwn (own found (suc k) name) = subst IsOwn (sym (named.each (suc k) name (omega (arith, inside, count-is all)))) (own-of s (slice_get (numbered all) k) name) in
      subst (λ j. Ends (bytes s all) (kind_of found j name)) next (own-ends (bytes s all) (own found (suc k) name) (own found 0 name) mine (file-ends name))

-- ---- the hub

room-in-hub : (os : List ObjectPart) (part : ObjectPart) (i : ℕ) → slice_get os i ≡ Some part → FitsHub (header_by os) → slice_index (variables_of os) 0 < 32768
room-in-hub [] part i is fits = absurd (none-some part is)
room-in-hub (o ∷ os) part i is fits = omega (arith, fits)

pub globals-have-room : (files : List NamedSource) (children : List Children) (xs : List CompiledFile) (project : IsProject files children xs) → HaveNoRing files → FitsHub (header_by (objects_of files children xs))
    → (instance : Instance) → IsInstance (with_sources project.changed (program_of files children xs)) (addresses_of files xs (objects_of files children xs)) instance
    → (file : NamedSource) (seen : Children) (x : CompiledFile) → slice_get files instance.file ≡ Some file → slice_get children instance.file ≡ Some seen → slice_get xs instance.file ≡ Some x
    → (k : ℕ) (m : MethodTree) → slice_get (numbered (items file.tree)) k ≡ Some m
    → (name : List ℕ) (size offset : ℕ) → (names_of files file seen x k m).kind name ≡ Some (kind.Global size offset) → offset < 2 ^ 15
globals-have-room files children xs project no_ring fits instance used file seen x stands beside compiled k m at name size offset is =
    let there : IsThere files children xs instance.file file seen x = record { stands = stands; beside = beside; compiled = compiled } in
    let named = (compiled-at files children xs project instance.file file seen x there).names in
    let top = instance.file == 0 in
    let s = named.setting in
    let t = setting_of seen x in
    let part = object_of files file.tree seen x in
    let part_is = object-at files files children xs instance.file file seen x there in
    let n = bytes s (items file.tree) in
    let ends : Ends n (kind_of x.kinds (k + 1) name) = method-ends file.tree seen top x.kinds named k m at name in
    let here : Ends n (if bytes_eq name result_word then Some (kind.Local 0) else kind_of x.kinds (k + 1) name) =
    ends-where n (bytes_eq name result_word) (Some (kind.Local 0)) (kind_of x.kinds (k + 1) name) tt ends in
    let low : offset ≤ n = subst (Ends n) is here in
    let same = bytes-alike s t (named-alike file.tree seen top x.kinds named) (items file.tree) in
    let own_fits = own-fits files children xs project no_ring instance used part part_is in
    let hub = room-in-hub (objects_of files children xs) part instance.file part_is fits in
    omega (arith, low, same, own_fits, hub)

-- ---- all names

by-kind : (n : Names) (name : List ℕ) (k : NameKind) → ((size offset : ℕ) → k ≡ kind.Global size offset → offset < 2 ^ 15) → ((size : ℕ) → k ≡ kind.Label size → n.label name < 2 ^ 15) → HasRoom n name k
by-kind n name (kind.Global size offset) globals labels = globals size offset refl
by-kind n name (kind.Label size) globals labels = labels size refl
by-kind n name (kind.Const v) globals labels = tt
by-kind n name (kind.Local offset) globals labels = tt
by-kind n name (kind.Method number params) globals labels = tt
by-kind n name (kind.Object item position count) globals labels = tt

-- where labels have room, so have all names
pub names-have-room : (files : List NamedSource) (children : List Children) (xs : List CompiledFile) (project : IsProject files children xs) → HaveNoRing files → FitsHub (header_by (objects_of files children xs))
    → ((i : ℕ) (file : NamedSource) (seen : Children) (x : CompiledFile) → IsThere files children xs i file seen x → (k : ℕ) (m : MethodTree) → slice_get (numbered (items file.tree)) k ≡ Some m
    → (name : List ℕ) (size : ℕ) → (names_of files file seen x k m).kind name ≡ Some (kind.Label size) → (names_of files file seen x k m).label name < 2 ^ 15)
    → NamesHaveRoom project.changed files children xs
names-have-room files children xs project no_ring fits labels instance used file seen x stands beside compiled k m at name found is =
    by-kind (names_of files file seen x k m) name found
    (λ size offset same. globals-have-room files children xs project no_ring fits instance used file seen x stands beside compiled k m at name size offset (is ∙ ap Some same))
    (λ size same. labels instance.file file seen x (record { stands = stands; beside = beside; compiled = compiled }) k m at name size (is ∙ ap Some same))
