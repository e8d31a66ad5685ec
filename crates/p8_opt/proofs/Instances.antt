-- The instances of a project's objects, and the entries that lead to them.
use Rattle.std.proofs.Common.{◌≡◌, ℕ, zero, suc, ◌+◌, ◌<◌, ◌≤◌, ◌==◌, Bool, true, false, if◌then◌else◌, List, [], ◌∷◌, ◌++◌, length, slice_get, Some, refl, sym, ap, ◌∙◌, subst, arith}
use Rattle.std.specs.Prelude.{option_map}
use Rattle.std.specs.List.{flat_map}
use Rattle.std.specs.Str.{bytes_eq}
use Rattle.std.proofs.lemmas.Slice.Eq.{bytes_eq-Decides}
use Rattle.std.proofs.lemmas.Option.{same_Some, none-some, slice_get_within, slice_get-map, get_or_from_slice_get}
use Rattle.p8_tree.specs.Sources.{Child, Source}
use Rattle.p8_tree.specs.Projects.{NamedSource}
use Rattle.p8_fold.specs.Meanings.{Setting}
use Rattle.p8_constants.specs.FileItems.{items}
use Rattle.p8_constants.specs.Rules.{count_in}
use Rattle.p8_kinds.specs.declared.children.Children.{Children}
use Rattle.p8_kinds.specs.declared.name_kinds.NameKind.TheVariants as kind
use Rattle.p8_names.specs.Children.{AreChildren}
use Rattle.p8_names.specs.Mentions.{IsNamed, AreDistinct, HaveMentioned}
use Rattle.p8_names.specs.Settings.{predefined_value}
use Rattle.p8_names.specs.Kinds.{numbered, objects, instances, kind_among}
use Rattle.p8_image.specs.declared.parts.ObjectPart.{ObjectPart}
use Rattle.p8_meaning.specs.Programs.{Program, Addresses}
use Rattle.p8_build.specs.Parts.{number_of, instances_of, strings_of}
use Rattle.p8_build.specs.Files.{CompiledFile, setting_of, object_of}
use Rattle.p8_build.specs.Builds.{objects_of}
use Rattle.p8_opt.specs.Programs.{file_of, program_of, with_sources, addresses_of}
use Rattle.p8_opt.specs.Recoding.{AreRecoded, IsRecodedFile}
use Rattle.p8_opt.proofs.NamedSettings.{named-alike, kind-is, among-object}
use Rattle.p8_opt.proofs.Files.{IsThere}
use Rattle.p8_opt.proofs.Counting.{count-alike, instances-alike, few, parts-length, instances-length, instance-at}
use Rattle.p8_opt.proofs.PlacedObjects.{item-of}
use Rattle.p8_names.proofs.Counts.{count-is}
use Rattle.p8_opt.proofs.OwnKinds.{object-of-file}

-- ---- numbers of files

below-by : (b : Bool) (name : List ℕ) (f : NamedSource) (n m : ℕ) → bytes_eq name f.name ≡ b → (b ≡ false → n < m) → (if b then 0 else 1 + n) < suc m
below-by true name f n m is less = omega arith
below-by false name f n m is less = let l = less refl in omega (arith, l)

pub number-below : (files : List NamedSource) (j : ℕ) (name : List ℕ) → IsNamed files j name → number_of files name < length files
number-below [] j name h = absurd (none-some h.file h.stands)
number-below (f ∷ files) zero name h =
    let same : name ≡ f.name = sym h.named ∙ ap (λ (g : NamedSource). g.name) (sym (same_Some f h.file h.stands)) in
    below-by (bytes_eq name f.name) name f (number_of files name) (length files) refl
    (λ never. absurd (let both : true ≡ false = sym ((bytes_eq-Decides name f.name).1 same) ∙ never in cc))
number-below (f ∷ files) (suc j) name h =
    below-by (bytes_eq name f.name) name f (number_of files name) (length files) refl
    (λ b. number-below files j name (record { file = h.file; stands = h.stands; named = h.named }))

pub at-length : {X : Type 0} (first rest : List X) (y : X) → slice_get (first ++ y ∷ rest) (length first) ≡ Some y
at-length [] rest y = refl
at-length (x ∷ first) rest y = at-length first rest y

instances-split : (s : Setting) (first rest : List Child) (y : Child) → instances s (first ++ y ∷ rest) ≡ instances s first + (count_in s y.count + instances s rest)
instances-split s [] rest y = omega arith
instances-split s (x ∷ first) rest y = let more = instances-split s first rest y in omega (arith, more)

-- ---- a project

-- what is known of a project
pub record IsProject (files : List NamedSource) (children : List Children) (xs : List CompiledFile) : Type 0 where
  -- the sources whose methods' codes its files have
  pub changed : ℕ → Source
  pub compiled : AreRecoded files changed children xs
  pub mentioned : HaveMentioned files
  pub seen : length children ≡ length files
  pub children_are : AreChildren files children
  pub distinct : AreDistinct files

-- where an instance of an object stands in the table of another
pub record IsInner (files : List NamedSource) (object : ObjectPart) (position child : ℕ) : Type 0 where
  pub place : ℕ
  pub position_is : position ≡ length object.methods + 1 + place
  pub is : slice_get object.instances place ≡ Some child
  pub known : child < length files
  pub near : length object.methods + 1 + length object.instances ≤ 256

module _ (files : List NamedSource) (children : List Children) (xs : List CompiledFile) (project : IsProject files children xs) where
  abbrev all : List ObjectPart
  all = objects_of files children xs

  abbrev program : Program
  program = with_sources project.changed (program_of files children xs)

  abbrev addresses : Addresses
  addresses = addresses_of files xs all

  pub compiled-at : (i : ℕ) (file : NamedSource) (seen : Children) (x : CompiledFile) → IsThere files children xs i file seen x → IsRecodedFile file.tree (project.changed i) seen (i == 0) x
  compiled-at i file seen x h = project.compiled.each i file seen x (record { stands = h.stands; beside = h.beside }) h.compiled

  -- how many methods and instances its object has
  pub counts-of : (i : ℕ) (file : NamedSource) (seen : Children) (x : CompiledFile) → IsThere files children xs i file seen x
      → (length (object_of files file.tree seen x).methods ≡ length (numbered (items file.tree)))
      × (length (object_of files file.tree seen x).instances ≡ instances (setting_of seen x) (objects (items file.tree)))
      × (length (object_of files file.tree seen x).methods ≤ 254) × (length (object_of files file.tree seen x).methods + length (object_of files file.tree seen x).instances ≤ 255)
  counts-of i file seen x h =
      let c = compiled-at i file seen x h in
      let f = few file.tree seen (i == 0) x c in
      let one = parts-length (strings_of file.tree) (numbered (items file.tree)) x.codes c.code.count in
      let two = instances-length files (setting_of seen x) (objects (items file.tree)) in
      (one, two, omega (arith, one, f.methods), omega (arith, one, two, f.entries))

  pub inner-of : (i : ℕ) (file : NamedSource) (seen : Children) (x : CompiledFile) → IsThere files children xs i file seen x
      → (method : ℕ) (name : List ℕ) (item position count index child : ℕ) → (file_of files file.tree seen x).kind method name ≡ Some (kind.Object item position count) → index < count
      → slice_get (file_of files file.tree seen x).child_files item ≡ Some child → IsInner files (object_of files file.tree seen x) (position + index) child
  inner-of i file seen x h method name item position count index child is less leads =
      let c = compiled-at i file seen x h in
      let s = c.names.setting in
      let t = setting_of seen x in
      let top = i == 0 in
      let whole = object-of-file file.tree seen top x.kinds c.names method name item position count is in
      let among : kind_among s (items file.tree) [] (items file.tree) name ≡ Some (kind.Object item position count) =
      among-object (predefined_value name) (kind_among s (items file.tree) [] (items file.tree) name) item position count (sym (kind-is file.tree seen top x.kinds c.names name) ∙ whole) in
      let h2 = item-of s (items file.tree) name item position count [] (items file.tree) among in
      let alike = named-alike file.tree seen top x.kinds c.names in
      let n = counts-of i file seen x h in
      let own = count-alike s t alike h2.y.count in
      let before = instances-alike s t alike h2.first in
      let sums : instances t (objects (items file.tree)) ≡ instances t h2.first + (count_in t h2.y.count + instances t h2.rest) = ap (instances t) h2.is ∙ instances-split t h2.first h2.rest h2.y in
      let numbers = count-is (items file.tree) in
      let fits : index < count_in t h2.y.count = omega (arith, less, h2.count_is, own) in
      let item_is : item ≡ length h2.first = omega (arith, h2.item_is) in
      let there : slice_get (objects (items file.tree)) item ≡ Some h2.y = ap (λ os. slice_get os item) h2.is ∙ ap (slice_get (h2.first ++ h2.y ∷ h2.rest)) item_is ∙ at-length h2.first h2.rest h2.y in
      let child_is : number_of files h2.y.file ≡ child =
      same_Some (number_of files h2.y.file) child (sym (ap (option_map (λ (z : Child). number_of files z.file)) there) ∙ sym (slice_get-map (λ (z : Child). number_of files z.file) (objects (items file.tree)) item) ∙ leads) in
      let m = project.mentioned i file h2.y h.stands (item, slice_get_within (objects (items file.tree)) item h2.y there, get_or_from_slice_get (objects (items file.tree)) item h2.y h2.y there) in
      record {
        place = instances t h2.first + index;
        position_is = omega (arith, h2.position_is, n.0, n.1, n.2, n.3, sums, numbers, fits, before);
        is = ap (λ os. slice_get (flat_map (instances_of files t) os) (instances t h2.first + index)) h2.is ∙ instance-at files t h2.first h2.y h2.rest index fits ∙ ap Some child_is;
        known = subst (λ k. k < length files) child_is (number-below files m.0 h2.y.file m.1);
        near = omega (arith, n.3);
      }
