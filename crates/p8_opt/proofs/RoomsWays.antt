-- The variables of an object in use are among those of the top object: no file stands inside itself, so the way to it from the top file
-- is shorter than the row of files.
use Rattle.std.proofs.Common.{◌≡◌, inl, inr, ℕ, zero, suc, ◌+◌, ◌<◌, ◌≤◌, Bool, true, false, List, [], ◌∷◌, length, map, get_or, set, replicate, slice_get, slice_index, Option, Some, None, refl, sym, ap, ◌∙◌, subst, arith}
use Rattle.std.specs.Prelude.{option_map, Contains}
use Rattle.std.proofs.lemmas.Bool.{cases_Bool, cases_eq, cases_lt}
use Rattle.std.proofs.lemmas.List.{length-set, length-replicate, get_or-replicate, get_or_past, get_or-set_other}
use Rattle.std.proofs.lemmas.Option.{same_Some, none-some, slice_get_within, slice_get-map, get_or_from_slice_get}
use Rattle.p8_tree.specs.Sources as trees
use Rattle.p8_tree.specs.Projects.{NamedSource}
use Rattle.p8_constants.specs.FileItems.{items}
use Rattle.p8_kinds.specs.declared.children.Children.{Children}
use Rattle.p8_names.specs.Kinds.{objects}
use Rattle.p8_names.specs.Mentions.{mentions, IsNamed, Mentions, Leads, there, over, HaveNoRing}
use Rattle.p8_image.specs.declared.parts.ObjectPart.{ObjectPart}
use Rattle.p8_image.specs.Layout.{total, own_variables, variables_within, variables_of}
use Rattle.p8_meaning.specs.Programs.{Program, Addresses, File, Instance}
use Rattle.p8_meaning.specs.Lives.{IsInstance, top_instance, inner_instance}
use Rattle.p8_build.specs.Parts.{number_of}
use Rattle.p8_build.specs.Files.{CompiledFile, object_of}
use Rattle.p8_build.specs.Builds.{objects_from, objects_of}
use Rattle.p8_opt.specs.Programs.{file_of, program_of, with_sources, addresses_of}
use Rattle.p8_opt.proofs.Files.{file-of, object-at}
use Rattle.p8_opt.proofs.Publics.{number-named}
use Rattle.p8_opt.proofs.Instances.{IsProject, inner-of}

-- ---- variables

at-map : {A : Type 0} (f : A → ℕ) (xs : List A) (i : ℕ) (x : A) → slice_get xs i ≡ Some x → slice_index (map f xs) i ≡ f x
at-map f [] i x is = absurd (none-some x is)
at-map f (y ∷ xs) zero x is = ap f (same_Some y x is)
at-map f (y ∷ xs) (suc i) x is = at-map f xs i x is

among-total : (f : ℕ → ℕ) (xs : List ℕ) (i v : ℕ) → slice_get xs i ≡ Some v → f v ≤ total f xs
among-total f [] i v is = absurd (none-some v is)
among-total f (x ∷ xs) zero v is = let same : f x ≡ f v = ap f (same_Some x v is) in omega (arith, same)
among-total f (x ∷ xs) (suc i) v is = let more = among-total f xs i v is in omega (arith, more)

-- an object's variables are its own and those of the objects inside it
deeper : (depth : ℕ) (all : List ObjectPart) (i : ℕ) (object : ObjectPart) → slice_get all i ≡ Some object
    → slice_index (variables_within (suc depth) all) i ≡ own_variables object + total (slice_index (variables_within depth all)) object.instances
unfolding variables_within
deeper depth all i object is = at-map (λ (o : ObjectPart). own_variables o + total (slice_index (variables_within depth all)) o.instances) all i object is

-- ---- marks at the numbers of files

abbrev mark : List Bool → ℕ → Bool
mark marks i = get_or marks i false

-- how many have none
abbrev left : List Bool → ℕ
left [] = 0
left (true ∷ marks) = left marks
left (false ∷ marks) = 1 + left marks

one-less : (marks : List Bool) (i : ℕ) → i < length marks → mark marks i ≡ false → left (set marks i true) + 1 ≡ left marks
one-less [] i lt free = absurd (omega arith)
one-less (true ∷ marks) zero lt free = absurd cc
one-less (false ∷ marks) zero lt free = omega arith
one-less (true ∷ marks) (suc i) lt free = one-less marks i (omega arith) free
one-less (false ∷ marks) (suc i) lt free = omega (arith, one-less marks i (omega arith) free)

all-left : (n : ℕ) → left (replicate n false) ≡ n
all-left zero = refl
all-left (suc n) = omega (arith, all-left n)

-- ---- mentions

leads-on : (files : List NamedSource) {i j k : ℕ} → Leads files i j → Mentions files j k → Leads files i k
leads-on files there m = over m there
leads-on files (over first more) m = over first (leads-on files more m)

-- one file leads to another, by one mention at least
record LeadsFrom (files : List NamedSource) (one other : ℕ) : Type 0 where
  between : ℕ
  first : Mentions files one between
  rest : Leads files between other

lengths : (all files : List NamedSource) (cs : List Children) (xs : List CompiledFile) → length cs ≡ length files → length xs ≡ length files → length (objects_from all files cs xs) ≡ length files
lengths all [] cs xs f g = refl
lengths all (x ∷ files) [] ys f g = absurd (omega (arith, f))
lengths all (x ∷ files) (c ∷ cs) [] f g = absurd (omega (arith, g))
lengths all (x ∷ files) (c ∷ cs) (y ∷ ys) f g = let rest = lengths all files cs ys (omega (arith, f)) (omega (arith, g)) in omega (arith, rest)

module _ (files : List NamedSource) (children : List Children) (xs : List CompiledFile) (project : IsProject files children xs) (no_ring : HaveNoRing files) where
  abbrev all : List ObjectPart
  all = objects_of files children xs

  abbrev program : Program
  program = with_sources project.changed (program_of files children xs)

  abbrev addresses : Addresses
  addresses = addresses_of files xs all

  pub as-many : length all ≡ length files
  as-many = lengths files files children xs project.seen project.compiled.count

  abbrev AllLead : List Bool → ℕ → Type 0
  AllLead marks i = (p : ℕ) → mark marks p ≡ true → LeadsFrom files p i

  -- a way to a file from the top file: those on it are marked and lead on to the file, and its variables are among those of the top file
  record Way (i : ℕ) : Type 0 where
    marks : List Bool
    count : ℕ
    size : length marks ≡ length files
    rest : left marks + count ≡ length files
    back : AllLead marks i
    grows : (depth : ℕ) → slice_index (variables_within depth all) i ≤ slice_index (variables_within (depth + count) all) 0

  is-free : (marks : List Bool) (i : ℕ) → AllLead marks i → mark marks i ≡ false
  is-free marks i back = elim (cases_Bool (mark marks i)) [
    | inl marked ↦ absurd (let way = back i marked in no_ring i way.between way.first way.rest)
    | inr free ↦ free
  ]

  back-to : (marks : List Bool) (i j : ℕ) → AllLead marks i → Mentions files i j → AllLead (set marks i true) j
  back-to marks i j back mention p marked = elim (cases_eq p i) [
    | inl same ↦ record { between = j; first = subst (λ k. Mentions files k j) (sym same) mention; rest = there }
    | inr differs ↦
        let way = back p (sym (get_or-set_other marks i p true false differs) ∙ marked) in
        record { between = way.between; first = way.first; rest = leads-on files way.rest mention }
  ]

  none-marked : (p : ℕ) → mark (replicate (length files) false) p ≡ false
  none-marked p = elim (cases_lt p (length files)) [
    | inl low ↦ get_or-replicate (length files) p false false low
    | inr past ↦ get_or_past (replicate (length files) false) p false (omega (arith, length-replicate (length files) false))
  ]

  begin : Way 0
  begin = record {
    marks = replicate (length files) false;
    count = 0;
    size = length-replicate (length files) false;
    rest = omega (arith, all-left (length files));
    back = λ p marked. absurd (let clear = none-marked p in cc);
    grows = λ depth.
        let same : slice_index (variables_within depth all) 0 ≡ slice_index (variables_within (depth + 0) all) 0 = ap (λ n. slice_index (variables_within n all) 0) (omega arith) in
        omega (arith, same);
  }

  step : (i j place : ℕ) (object : ObjectPart) → Way i → i < length files → Mentions files i j → slice_get all i ≡ Some object → slice_get object.instances place ≡ Some j → Way j
  step i j place object way low mention is inside =
      let less = one-less way.marks i (omega (arith, low, way.size)) (is-free way.marks i way.back) in
      record {
        marks = set way.marks i true;
        count = suc way.count;
        size = length-set way.marks i true ∙ way.size;
        rest = omega (arith, less, way.rest);
        back = back-to way.marks i j way.back mention;
        grows = λ depth.
            let more = way.grows (suc depth) in
            let here = deeper depth all i object is in
            let among = among-total (slice_index (variables_within depth all)) object.instances place j inside in
            let same : slice_index (variables_within (suc depth + way.count) all) 0 ≡ slice_index (variables_within (depth + suc way.count) all) 0 = ap (λ n. slice_index (variables_within n all) 0) (omega arith) in
            omega (arith, more, here, among, same);
      }

  -- an item of OBJ of a file, by what its number stands for
  mentioned-by : (i : ℕ) (file : NamedSource) → slice_get files i ≡ Some file → (item child : ℕ) (y : Option trees.Child) → slice_get (objects (items file.tree)) item ≡ y
      → option_map (λ (z : trees.Child). number_of files z.file) y ≡ Some child → Mentions files i child
  mentioned-by i file is item child None at leads = absurd (none-some child leads)
  mentioned-by i file is item child (Some y) at leads =
      let among : Contains (mentions file.tree) y = (item, slice_get_within (objects (items file.tree)) item y at, get_or_from_slice_get (objects (items file.tree)) item y y at) in
      let m = project.mentioned i file y is among in
      record {
        file = file;
        stands = is;
        item = y;
        among = among;
        named = subst (λ k. IsNamed files k y.file) (same_Some (number_of files y.file) child leads) (number-named files m.0 y.file m.1);
      }

  way : (o : Instance) → IsInstance program addresses o → Way o.file
  way _ top_instance = begin
  way _ (inner_instance {outer} {file} {name} {method} {item} {position} {count} {child} index outer_is file_is kind_is less leads) =
      let f = file-of project.changed files children xs outer.file file file_is in
      let g : File = file_of files f.file.tree f.seen f.x in
      let object = object_of files f.file.tree f.seen f.x in
      let leads_so : slice_get g.child_files item ≡ Some child = ap (λ (h : File). slice_get h.child_files item) (sym f.is) ∙ leads in
      let h = inner-of files children xs project outer.file f.file f.seen f.x f.there method name item position count index child (ap (λ (h : File). h.kind method name) (sym f.is) ∙ kind_is) less leads_so in
      let mention = mentioned-by outer.file f.file f.there.stands item child (slice_get (objects (items f.file.tree)) item) refl
      (sym (slice_get-map (λ (z : trees.Child). number_of files z.file) (objects (items f.file.tree)) item) ∙ leads_so) in
      step outer.file child h.place object (way outer outer_is) (slice_get_within files outer.file f.file f.there.stands) mention
      (object-at files files children xs outer.file f.file f.seen f.x f.there) h.is

  least : (i : ℕ) (object : ObjectPart) → Way i → i < length files → slice_get all i ≡ Some object → own_variables object ≤ slice_index (variables_of all) 0
  least i object w low is =
      let less = one-less w.marks i (omega (arith, low, w.size)) (is-free w.marks i w.back) in
      let depth = left (set w.marks i true) in
      let here = deeper depth all i object is in
      let more = w.grows (suc depth) in
      let same : slice_index (variables_within (suc depth + w.count) all) 0 ≡ slice_index (variables_of all) 0 = ap (λ n. slice_index (variables_within n all) 0) (omega (arith, less, w.rest, as-many)) in
      omega (arith, here, more, same)

  pub own-fits : (o : Instance) → IsInstance program addresses o → (object : ObjectPart) → slice_get all o.file ≡ Some object → own_variables object ≤ slice_index (variables_of all) 0
  own-fits o is object at = least o.file object (way o is) (let inside = slice_get_within all o.file object at in omega (arith, inside, as-many)) at
