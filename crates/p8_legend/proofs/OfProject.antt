-- What is known of the objects of an accepted project, as the laws of its names need it.
use Rattle.std.proofs.Common.{◌≡◌, refl, sym, ap, ◌∙◌, subst, inl, inr, ◌⊎◌, ℕ, zero, suc, ◌+◌, ◌*◌, ◌/◌, ◌-◌, ◌%◌, ◌<◌, ◌≤◌, ◌==◌, nat_lt, Bool, true, false, ◌||◌, if◌then◌else◌, List, [], ◌∷◌, ◌++◌, length, map, replicate, slice_get, slice_index, Option, Some, arith}
use Rattle.std.specs.Prelude.{All, Contains, option_map, unwrap_or}
use Rattle.std.specs.List.{flat_map}
use Rattle.std.specs.Str.{bytes_eq}
use Rattle.std.proofs.lemmas.Bool.Decides.{nat_tests}
use Rattle.std.proofs.lemmas.Slice.Eq.{bytes_eq-Decides}
use Rattle.std.proofs.lemmas.List.Elements.{All-cons, All-head, All-nil, All-tail}
use Rattle.std.proofs.lemmas.Option.{none-some, same_Some, slice_get_within, get_or_from_slice_get}
use Rattle.p8_tree.specs.Sources.{Child, Declared, Source}
use Rattle.p8_tree.specs.Sources as trees
use Rattle.p8_tree.specs.Projects.{NamedSource}
use Rattle.p8_tree.specs.Proper.{IsSize, IsProperBlock, IsProperDeclared, IsProperFile}
use Rattle.p8_fold.specs.Meanings.{Setting}
use Rattle.p8_kinds.specs.declared.children.Children.{Children}
use Rattle.p8_constants.specs.FileItems.{Item, constant, variable, object, line, items}
use Rattle.p8_constants.specs.Rules.{count_in}
use Rattle.p8_names.specs.Kinds.{numbered, objects, instances}
use Rattle.p8_names.specs.Mentions.{mentions, IsNamed, Mentions, Leads, there, over, HaveMentioned, HaveNoRing}
use Rattle.p8_image.specs.declared.clocks.Clock.{Clock}
use Rattle.p8_image.specs.declared.parts.Variable.{Variable}
use Rattle.p8_image.specs.declared.parts.ObjectPart.{ObjectPart}
use Rattle.p8_image.specs.Headers.{word_at}
use Rattle.p8_image.specs.Layout.{dat_offset, codes_offset, total, own_variables, variables_within, variables_of, variables_base, inner_offset, code_offset, header_by, image_of}
use Rattle.p8_image.specs.Projects.{FitsHub}
use Rattle.p8_dat.specs.Blocks.{dat_bytes}
use Rattle.p8_dat.specs.Spots.{limit}
use Rattle.p8_lexer.specs.Spelling.{text_in}
use Rattle.p8_map.specs.declared.names.FileNames.{FileNames}
use Rattle.p8_map.specs.Names.{label_place, file_names}
use Rattle.p8_map.specs.Projects.{names_of}
use Rattle.p8_build.specs.Parts.{AreProper, variable_in, instances_of, number_of, strings_of, data_start}
use Rattle.p8_build.specs.Files.{CompiledFile, IsCompiled, setting_of, object_of}
use Rattle.p8_build.specs.Builds.{AreCompiled, objects_from, objects_of}
use Rattle.p8_opt.specs.Programs.{addresses_of, instance_number}
use Rattle.p8_opt.proofs.Counting.{instances-few, few-methods, parts-length, instances-length}
use Rattle.p8_legend.proofs.AllNames.{Rise, LabelsRise}
use Rattle.p8_legend.proofs.LabelsRise.{file-rise, spelled-rise, wider}
use Rattle.p8_legend.proofs.RightNames.{IsOfSize, AreOfSize}
use Rattle.p8_legend.proofs.Walks.{own-and-inner, Way, begin, step, short}

-- ---- the file of an object

pub record IsObjectOf (all : List NamedSource) (files : List NamedSource) (children : List Children) (xs : List CompiledFile) (i : ℕ) (part : ObjectPart) : Type 0 where
  pub file : NamedSource
  pub seen : Children
  pub x : CompiledFile
  pub stands : slice_get files i ≡ Some file
  pub beside : slice_get children i ≡ Some seen
  pub compiled : slice_get xs i ≡ Some x
  pub is : object_of all file.tree seen x ≡ part

pub object-from : (all files : List NamedSource) (cs : List Children) (xs : List CompiledFile) (i : ℕ) (part : ObjectPart) → slice_get (objects_from all files cs xs) i ≡ Some part → IsObjectOf all files cs xs i part
object-from all [] cs xs i part at = absurd (none-some part at)
object-from all (f ∷ files) [] xs i part at = absurd (none-some part at)
object-from all (f ∷ files) (c ∷ cs) [] i part at = absurd (none-some part at)
object-from all (f ∷ files) (c ∷ cs) (x ∷ xs) zero part at = record { file = f; seen = c; x = x; stands = refl; beside = refl; compiled = refl; is = same_Some (object_of all f.tree c x) part at }
object-from all (f ∷ files) (c ∷ cs) (x ∷ xs) (suc i) part at =
    let h = object-from all files cs xs i part at in
    record { file = h.file; seen = h.seen; x = h.x; stands = h.stands; beside = h.beside; compiled = h.compiled; is = h.is }

pub objects-many : (files : List NamedSource) (cs : List Children) (xs : List CompiledFile) → length cs ≡ length files → length xs ≡ length files → length (objects_of files cs xs) ≡ length files
objects-many files cs xs beside count = many files files cs xs beside count
  where
    many : (all fs : List NamedSource) (ds : List Children) (ys : List CompiledFile) → length ds ≡ length fs → length ys ≡ length fs → length (objects_from all fs ds ys) ≡ length fs
    many all [] ds ys a b = refl
    many all (f ∷ fs) [] ys a b = absurd (omega (arith, a))
    many all (f ∷ fs) (d ∷ ds) [] a b = absurd (omega (arith, b))
    many all (f ∷ fs) (d ∷ ds) (y ∷ ys) a b = let rest = many all fs ds ys (omega (arith, a)) (omega (arith, b)) in omega (arith, rest)

-- ---- sizes of variables

one-of-three : (z : ℕ) → IsSize z → (z ≡ 1) ⊎ ((z ≡ 2) ⊎ (z ≡ 4))
one-of-three z is = grind (arith, nat_tests)

abbrev AllSized : List Variable → Type 0
AllSized vs = All IsOfSize vs

declared-sized : (s : Setting) (xs : List Declared) (rest : List Item) → All IsProperDeclared xs → AllSized (flat_map (variable_in s) rest) → AllSized (flat_map (variable_in s) (map variable xs ++ rest))
declared-sized s [] rest proper sized = sized
declared-sized s (x ∷ xs) rest proper sized =
    All-cons IsOfSize (record { size = x.size; count = count_in s x.count }) (flat_map (variable_in s) (map variable xs ++ rest))
    (one-of-three x.size (All-head IsProperDeclared x xs proper).size) (declared-sized s xs rest (All-tail IsProperDeclared x xs proper) sized)

-- other items declare none
others-sized : {A : Type 0} (s : Setting) (f : A → Item) (none : (a : A) → variable_in s (f a) ≡ []) (xs : List A) (rest : List Item) → AllSized (flat_map (variable_in s) rest) → AllSized (flat_map (variable_in s) (map f xs ++ rest))
others-sized s f none [] rest sized = sized
others-sized s f none (x ∷ xs) rest sized =
    subst (λ (vs : List Variable). AllSized (vs ++ flat_map (variable_in s) (map f xs ++ rest))) (sym (none x)) (others-sized s f none xs rest sized)

source-sized : (s : Setting) (source : Source) → IsProperFile source → AllSized (flat_map (variable_in s) (items source))
source-sized s [] proper = All-nil IsOfSize
source-sized s (trees.Var xs ∷ bs) proper = declared-sized s xs (items bs) (All-head IsProperBlock (trees.Var xs) bs proper) (source-sized s bs (All-tail IsProperBlock (trees.Var xs) bs proper))
source-sized s (trees.Con xs ∷ bs) proper = others-sized s constant (λ a. refl) xs (items bs) (source-sized s bs (All-tail IsProperBlock (trees.Con xs) bs proper))
source-sized s (trees.Obj xs ∷ bs) proper = others-sized s object (λ a. refl) xs (items bs) (source-sized s bs (All-tail IsProperBlock (trees.Obj xs) bs proper))
source-sized s (trees.Method m ∷ bs) proper = source-sized s bs (All-tail IsProperBlock (trees.Method m) bs proper)
source-sized s (trees.Dat xs ∷ bs) proper = others-sized s line (λ a. refl) xs (items bs) (source-sized s bs (All-tail IsProperBlock (trees.Dat xs) bs proper))

each-sized : (vs : List Variable) → AllSized vs → AreOfSize vs
each-sized [] all k v at = absurd (none-some v at)
each-sized (x ∷ vs) all zero v at = subst IsOfSize (same_Some x v at) (All-head IsOfSize x vs all)
each-sized (x ∷ vs) all (suc k) v at = each-sized vs (All-tail IsOfSize x vs all) k v at

-- ---- files by their names

record IsFirstNamed (files : List NamedSource) (name : List ℕ) : Type 0 where
  below : number_of files name < length files
  named : IsNamed files (number_of files name) name

first-by : (b : Bool) (name : List ℕ) (f : NamedSource) (files : List NamedSource) → bytes_eq name f.name ≡ b → (b ≡ false → IsFirstNamed files name)
    → ((if b then 0 else 1 + number_of files name) < suc (length files)) × IsNamed (f ∷ files) (if b then 0 else 1 + number_of files name) name
first-by true name f files same others = (omega arith, record { file = f; stands = refl; named = sym ((bytes_eq-Decides name f.name).0 same) })
first-by false name f files same others =
    let h = others refl in
    let below = h.below in
    let next : suc (number_of files name) ≡ 1 + number_of files name = omega arith in
    (omega (arith, below), subst (λ j. IsNamed (f ∷ files) j name) next (record { file = h.named.file; stands = h.named.stands; named = h.named.named }))

first-named : (files : List NamedSource) (j : ℕ) (name : List ℕ) → IsNamed files j name → IsFirstNamed files name
first-named [] j name h = absurd (none-some h.file h.stands)
first-named (f ∷ files) zero name h =
    let same : name ≡ f.name = sym h.named ∙ ap (λ (g : NamedSource). g.name) (sym (same_Some f h.file h.stands)) in
    let found = first-by (bytes_eq name f.name) name f files refl (λ never. absurd (let both : true ≡ false = sym ((bytes_eq-Decides name f.name).1 same) ∙ never in cc)) in
    record { below = found.0; named = found.1 }
first-named (f ∷ files) (suc j) name h =
    let found = first-by (bytes_eq name f.name) name f files refl (λ b. first-named files j name (record { file = h.file; stands = h.stands; named = h.named })) in
    record { below = found.0; named = found.1 }

-- ---- the instances of an item of OBJ

record IsFromItem (files : List NamedSource) (ys : List Child) (g : ℕ) : Type 0 where
  j : ℕ
  y : Child
  at : slice_get ys j ≡ Some y
  number : number_of files y.file ≡ g

in-row : (n v : ℕ) (rest : List ℕ) (i g : ℕ) → slice_get (replicate n v ++ rest) i ≡ Some g → (v ≡ g) ⊎ ((k : ℕ) × (slice_get rest k ≡ Some g))
in-row zero v rest i g at = inr (i, at)
in-row (suc n) v rest zero g at = inl (same_Some v g at)
in-row (suc n) v rest (suc i) g at = in-row n v rest i g at

from-item : (files : List NamedSource) (s : Setting) (ys : List Child) (i g : ℕ) → slice_get (flat_map (instances_of files s) ys) i ≡ Some g → IsFromItem files ys g
from-item files s [] i g at = absurd (none-some g at)
from-item files s (y ∷ ys) i g at = elim (in-row (count_in s y.count) (number_of files y.file) (flat_map (instances_of files s) ys) i g at) [
  | inl is ↦ record { j = 0; y = y; at = refl; number = is }
  | inr more ↦ let h = from-item files s ys more.0 g more.1 in record { j = suc h.j; y = h.y; at = h.at; number = h.number }
]

pub leads-on : (files : List NamedSource) (i j k : ℕ) → Leads files i j → Mentions files j k → Leads files i k
leads-on files i _ k there m = over m there
leads-on files i j k (over {between = b} first more) m = over first (leads-on files b j k more m)

-- ---- a project

module _ (files : List NamedSource) (children : List Children) (xs : List CompiledFile) where
  abbrev all : List ObjectPart
  all = objects_of files children xs

  pub inner : (f i : ℕ) (part : ObjectPart) → slice_get all f ≡ Some part → (addresses_of files xs all).object_variables f (length part.methods + 1 + i) ≡ inner_offset all part i % 65536
  inner f i part at =
      let position : ℕ = length part.methods + 1 + i in
      ap (λ (o : Option ObjectPart). unwrap_or (option_map (λ (p : ObjectPart). inner_offset all p (instance_number p position) % 65536) o) 0) at
      ∙ ap (λ k. inner_offset all part k % 65536) (let e : position - (length part.methods + 1) ≡ i = omega arith in e)

  pub code : (f k : ℕ) (part : ObjectPart) → slice_get all f ≡ Some part → (addresses_of files xs all).code f (k + 1) ≡ code_offset part k
  code f k part at =
      ap (λ (o : Option ObjectPart). unwrap_or (option_map (λ (p : ObjectPart). code_offset p (k + 1 - 1)) o) 0) at
      ∙ ap (code_offset part) (let e : k + 1 - 1 ≡ k = omega arith in e)

  pub sized : AreProper files → (f : ℕ) (part : ObjectPart) → slice_get all f ≡ Some part → AreOfSize part.variables
  sized proper f part at =
      let h = object-from files files children xs f part at in
      subst (λ (p : ObjectPart). AreOfSize p.variables) h.is
      (each-sized (flat_map (variable_in (setting_of h.seen h.x)) (items h.file.tree)) (source-sized (setting_of h.seen h.x) h.file.tree (proper f h.file h.stands)))

  -- an object inside another is that of a file that the other's mentions
  module _ (mentioned : HaveMentioned files) (as_many : length all ≡ length files) where
    pub inside : (f i g : ℕ) (part : ObjectPart) → slice_get all f ≡ Some part → slice_get part.instances i ≡ Some g → Mentions files f g × (g < length all)
    inside f i g part at is =
        let h = object-from files files children xs f part at in
        let from = from-item files (setting_of h.seen h.x) (objects (items h.file.tree)) i g (ap (λ (p : ObjectPart). slice_get p.instances i) h.is ∙ is) in
        let among : Contains (mentions h.file.tree) from.y = (from.j, slice_get_within (objects (items h.file.tree)) from.j from.y from.at, get_or_from_slice_get (objects (items h.file.tree)) from.j from.y from.y from.at) in
        let m = mentioned f h.file from.y h.stands among in
        let first = first-named files m.0 from.y.file m.1 in
        let below = first.below in (
          record { file = h.file; stands = h.stands; item = from.y; among = among; named = subst (λ k. IsNamed files k from.y.file) from.number first.named },
          let same = from.number in omega (arith, below, same, as_many),
        )

    module _ (no_ring : HaveNoRing files) where
      -- so an object's variables are its own and those of the objects inside it
      pub whole : (f : ℕ) (part : ObjectPart) → slice_get all f ≡ Some part → slice_index (variables_of all) f ≡ own_variables part + total (slice_index (variables_of all)) part.instances
      whole f part at = own-and-inner all (Mentions files) (Leads files) (λ i. there) (leads-on files) no_ring inside f part at (slice_get_within all f part at)

      -- and no way to one is as long as the row of files
      abbrev pub IsWay : ℕ → ℕ → Type 0
      IsWay = Way all (Mentions files) (Leads files) (λ i. there) (leads-on files) no_ring inside

      pub begins : IsWay 0 0
      begins = begin all (Mentions files) (Leads files) (λ i. there) (leads-on files) no_ring inside 0

      pub goes-on : (f j place steps : ℕ) (part : ObjectPart) → IsWay f steps → slice_get all f ≡ Some part → slice_get part.instances place ≡ Some j → IsWay j (suc steps)
      goes-on f j place steps part way at is = step all (Mentions files) (Leads files) (λ i. there) (leads-on files) no_ring inside f j place steps part way (slice_get_within all f part at) at is

      pub is-short : (f steps : ℕ) (part : ObjectPart) → IsWay f steps → slice_get all f ≡ Some part → steps < length all
      is-short f steps part way at = short all (Mentions files) (Leads files) (λ i. there) (leads-on files) no_ring inside f steps way (slice_get_within all f part at)

-- ---- its labels

pub names-from : (sources : List (List ℕ)) (files : List NamedSource) (cs : List Children) (xs : List CompiledFile) (i : ℕ) (names : FileNames) (file : NamedSource) (seen : Children) (x : CompiledFile)
    → slice_get (names_of sources files cs xs) i ≡ Some names → slice_get files i ≡ Some file → slice_get cs i ≡ Some seen → slice_get xs i ≡ Some x
    → (bytes : List ℕ) × (slice_get sources i ≡ Some bytes) × (file_names (text_in bytes) file (setting_of seen x) x.labels ≡ names)
names-from [] files cs xs i names file seen x at a b c = absurd (none-some names at)
names-from (s ∷ sources) [] cs xs i names file seen x at a b c = absurd (none-some names at)
names-from (s ∷ sources) (f ∷ files) [] xs i names file seen x at a b c = absurd (none-some names at)
names-from (s ∷ sources) (f ∷ files) (d ∷ cs) [] i names file seen x at a b c = absurd (none-some names at)
names-from (s ∷ sources) (f ∷ files) (d ∷ cs) (y ∷ xs) zero names file seen x at a b c = (
  s,
  refl,
  ap (λ (g : NamedSource). file_names (text_in s) g (setting_of seen x) x.labels) (sym (same_Some f file a))
      ∙ ap (λ (e : Children). file_names (text_in s) f (setting_of e x) x.labels) (sym (same_Some d seen b))
      ∙ ap (λ (z : CompiledFile). file_names (text_in s) f (setting_of d z) z.labels) (sym (same_Some y x c))
      ∙ same_Some _ names at,
)
names-from (s ∷ sources) (f ∷ files) (d ∷ cs) (y ∷ xs) (suc i) names file seen x at a b c = names-from sources files cs xs i names file seen x at a b c

pub numbered-few : (source : Source) (seen : Children) (top : Bool) (x : CompiledFile) → IsCompiled source seen top x → data_start (setting_of seen x) source ≤ limit
numbered-few source seen top x is =
    let one = instances-few source seen top x is.names in
    let other = few-methods source seen x is.code one in
    let few = few-by (instances (setting_of seen x) (objects (items source))) (length (numbered (items source))) other in
    omega (arith, one, few)
  where
    few-by : (n m : ℕ) → (nat_lt 254 m || nat_lt 255 (m + n)) ≡ false → m ≤ 254
    few-by n m is = grind (arith, nat_tests)

pub labels-rise : (sources : List (List ℕ)) (files : List NamedSource) (children : List Children) (xs : List CompiledFile) → AreProper files → AreCompiled files children xs
    → (f : ℕ) (names : FileNames) (part : ObjectPart) → slice_get (names_of sources files children xs) f ≡ Some names → slice_get (objects_of files children xs) f ≡ Some part → LabelsRise names part
labels-rise sources files children xs proper each f names part at is =
    let h = object-from files files children xs f part is in
    let n = names-from sources files children xs f names h.file h.seen h.x at h.stands h.beside h.compiled in
    let c = each.each f h.file h.seen h.x (record { stands = h.stands; beside = h.beside }) h.compiled in
    let s = setting_of h.seen h.x in
    let start = data_start s h.file.tree in
    let codes = c.code.count in
    let methods = parts-length (strings_of h.file.tree) (numbered (items h.file.tree)) h.x.codes codes in
    let inside = instances-length files s (objects (items h.file.tree)) in
    let own : ObjectPart = object_of files h.file.tree h.seen h.x in
    let begins : start ≡ dat_offset own = omega (arith, methods, inside) in
    let bytes : length own.dat ≡ length (dat_bytes s start h.file.tree) = ap length c.dat.bytes in
    let low = numbered-few h.file.tree h.seen (f == 0) h.x c in
    let rise = subst (Rise start (start + length (dat_bytes s start h.file.tree))) (sym c.dat.labels) (file-rise h.x.kinds s start h.file.tree (proper f h.file h.stands) low) in
    subst (λ (m : FileNames). LabelsRise m part) n.2
    (subst (λ (p : ObjectPart). LabelsRise (file_names (text_in n.0) h.file s h.x.labels) p) h.is
    (spelled-rise (text_in n.0) (flat_map label_place (items h.file.tree)) h.x.labels 0 (codes_offset own)
    (wider 0 start (start + length (dat_bytes s start h.file.tree)) (codes_offset own) h.x.labels (omega arith) (omega (arith, begins, bytes)) rise)))

-- ---- the image

pub in-hub : (objects : List ObjectPart) → FitsHub (header_by objects) → variables_base objects + slice_index (variables_of objects) 0 < 65536
unfolding variables_within
in-hub [] fits = omega arith
in-hub (top ∷ objects) fits = omega (arith, fits)

two-bytes : (v : ℕ) → v < 65536 → v % 256 + 256 * (v / 256 % 256) ≡ v
two-bytes v less = omega (arith, less)

pub variables-told : (clock : Clock) (objects : List ObjectPart) → FitsHub (header_by objects) → word_at (image_of clock objects) 8 ≡ variables_base objects
variables-told clock [] fits = refl
variables-told clock (top ∷ objects) fits = two-bytes (variables_base (top ∷ objects)) (let room = in-hub (top ∷ objects) fits in omega (arith, room))
