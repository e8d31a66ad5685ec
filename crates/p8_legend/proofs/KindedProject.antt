-- What the names of a project's sources are by their kinds stands where legend and map have it.
use Rattle.std.proofs.Common.{◌≡◌, refl, sym, ap, ◌∙◌, subst, ℕ, zero, suc, ◌+◌, ◌%◌, ◌^◌, ◌==◌, List, [], ◌∷◌, ◌++◌, length, length-append, slice_get, Option, Some, None, true, arith}
use Rattle.std.specs.Prelude.{codes}
use Rattle.std.specs.List.{flat_map}
use Rattle.std.specs.Str.{str_eq_ignore_ascii_case}
use Rattle.std.proofs.lemmas.Option.{none-some, slice_get_within}
use Rattle.p8_tree.specs.Expressions.{Tree}
use Rattle.p8_tree.specs.Sources.{Child}
use Rattle.p8_tree.specs.Projects.{NamedSource}
use Rattle.p8_words.specs.Operators.{or_zero}
use Rattle.p8_fold.specs.Meanings.{Setting}
use Rattle.p8_kinds.specs.declared.children.Children.{Children}
use Rattle.p8_kinds.specs.declared.name_kinds.Label.{Label}
use Rattle.p8_kinds.specs.declared.name_kinds.NameKind.TheVariants as kind
use Rattle.p8_kinds.specs.Kinds.{own}
use Rattle.p8_constants.specs.FileItems.{items}
use Rattle.p8_constants.specs.Rules.{count_in}
use Rattle.p8_names.specs.Settings.{predefined_value}
use Rattle.p8_names.specs.Kinds.{objects, instances, kind_among}
use Rattle.p8_names.specs.Mentions.{HaveNoRing}
use Rattle.p8_dat.specs.Blocks.{first_spot, counts_setting}
use Rattle.p8_dat.specs.Labels.{size_of_kind}
use Rattle.p8_image.specs.declared.clocks.Clock.{Clock}
use Rattle.p8_image.specs.declared.parts.ObjectPart.{ObjectPart}
use Rattle.p8_image.specs.Layout.{variable_offset, header_by, image_of}
use Rattle.p8_image.specs.Places.{AllPartsStand, base_of}
use Rattle.p8_image.specs.Projects.{FitsHub}
use Rattle.p8_image.proofs.Memories.{Lies}
use Rattle.p8_gen.specs.Files.{first_offset}
use Rattle.p8_meaning.specs.Programs.{Program, Addresses, File, Instance, instance_at}
use Rattle.p8_meaning.specs.Lives.{IsInstance, top_instance, inner_instance}
use Rattle.p8_lexer.specs.Spelling.{text_in, spelled}
use Rattle.p8_build.specs.Parts.{data_start}
use Rattle.p8_build.specs.Files.{CompiledFile, setting_of, object_of}
use Rattle.p8_build.specs.Builds.{objects_of}
use Rattle.p8_map.specs.declared.names.FileNames.{FileNames}
use Rattle.p8_map.specs.Names.{element_names, names_by_count, instance_names, spelled_by, spelled_label, label_place, file_names}
use Rattle.p8_map.specs.Projects.{names_of}
use Rattle.p8_opt.specs.Programs.{file_of, program_of, with_sources, addresses_of}
use Rattle.p8_opt.proofs.NamedSettings.{named-alike, kind-is}
use Rattle.p8_opt.proofs.Counting.{element, instances-length}
use Rattle.p8_opt.proofs.Files.{IsThere, file-of, object-at}
use Rattle.p8_opt.proofs.Instances.{IsProject, compiled-at, inner-of}
use Rattle.p8_opt.proofs.Placing.{of-file, is-at}
use Rattle.p8_opt.proofs.RoomsWays.{own-fits}
use Rattle.p8_legend.specs.Stands.{IsFileAt, HasPath, top_path, inner_path}
use Rattle.p8_legend.specs.Kinded.{HasVariable, HasLabel}
use Rattle.p8_legend.proofs.Kinded.{spelled-so, spelled-by-so, of-whole-file, no-variable, no-label, variable-among, offset-within, label-there, spelled-at}
use Rattle.p8_legend.proofs.OfProject.{in-hub}

-- ---- the names of instances

elements-length : (name : List ℕ) (index count : ℕ) → length (element_names name index count) ≡ count
elements-length name index zero = refl
elements-length name index (suc count) = ap suc (elements-length name (index + 1) count)

counted-length : (s : Setting) (name : List ℕ) (count : Option Tree) → length (names_by_count s name count) ≡ count_in s count
counted-length s name None = refl
counted-length s name (Some e) = elements-length name 0 (count_in s (Some e))

names-length : (text : List ℕ) (s : Setting) (xs : List Child) → length (flat_map (instance_names text s) xs) ≡ instances s xs
names-length text s [] = refl
names-length text s (x ∷ xs) =
    let both = length-append (instance_names text s x) (flat_map (instance_names text s) xs) in
    let one = counted-length s (spelled text x.place x.name) x.count in
    let rest = names-length text s xs in
    omega (arith, both, one, rest)

-- ---- the names of a file that is there

record IsNames (sources : List (List ℕ)) (files : List NamedSource) (children : List Children) (xs : List CompiledFile) (i : ℕ) (file : NamedSource) (seen : Children) (x : CompiledFile) : Type 0 where
  bytes : List ℕ
  is : slice_get (names_of sources files children xs) i ≡ Some (file_names (text_in bytes) file (setting_of seen x) x.labels)

names-there : (sources : List (List ℕ)) (files : List NamedSource) (cs : List Children) (xs : List CompiledFile) (i : ℕ) (file : NamedSource) (seen : Children) (x : CompiledFile) → length sources ≡ length files → IsThere files cs xs i file seen x
    → IsNames sources files cs xs i file seen x
names-there sources [] cs xs i file seen x beside h = absurd (none-some file h.stands)
names-there [] (f ∷ files) cs xs i file seen x beside h = absurd (omega (arith, beside))
names-there (s ∷ sources) (f ∷ files) [] xs i file seen x beside h = absurd (none-some seen h.beside)
names-there (s ∷ sources) (f ∷ files) (d ∷ cs) [] i file seen x beside h = absurd (none-some x h.compiled)
names-there (s ∷ sources) (f ∷ files) (d ∷ cs) (y ∷ xs) zero file seen x beside h = record {
  bytes = s;
  is = ap (λ (g : Option NamedSource). named g (Some d) (Some y)) h.stands ∙ ap (λ (e : Option Children). named (Some file) e (Some y)) h.beside ∙ ap (λ (z : Option CompiledFile). named (Some file) (Some seen) z) h.compiled;
}
  where
    named : Option NamedSource → Option Children → Option CompiledFile → Option FileNames
    named (Some g) (Some e) (Some z) = Some (file_names (text_in s) g (setting_of e z) z.labels)
    named _ _ _ = None
names-there (s ∷ sources) (f ∷ files) (d ∷ cs) (y ∷ xs) (suc i) file seen x beside h =
    let rest = names-there sources files cs xs i file seen x (omega (arith, beside)) (record { stands = h.stands; beside = h.beside; compiled = h.compiled }) in
    record { bytes = rest.bytes; is = rest.is }

-- ---- a project

module _ (sources : List (List ℕ)) (files : List NamedSource) (children : List Children) (xs : List CompiledFile) (beside : length sources ≡ length files) (project : IsProject files children xs) where
  abbrev all : List ObjectPart
  all = objects_of files children xs

  abbrev shown : List FileNames
  shown = names_of sources files children xs

  abbrev program : Program
  program = with_sources project.changed (program_of files children xs)

  abbrev addresses : Addresses
  addresses = addresses_of files xs all

  file-at : (i : ℕ) (file : NamedSource) (seen : Children) (x : CompiledFile) → (h : IsThere files children xs i file seen x) (n : IsNames sources files children xs i file seen x)
      → IsFileAt shown all i (file_names (text_in n.bytes) file (setting_of seen x) x.labels) (object_of files file.tree seen x)
  file-at i file seen x h n = record { is_file = n.is; is_object = object-at files files children xs i file seen x h }

  -- each instance has a path
  pub has-path : (i : Instance) → IsInstance program addresses i → (path : List ℕ) × HasPath shown all addresses path i
  has-path _ top_instance = ([], top_path)
  has-path _ (inner_instance {outer} {file} {name} {method} {item} {position} {count} {child} index outer_is file_is kind_is less leads) =
      let path = has-path outer outer_is in
      let f = file-of project.changed files children xs outer.file file file_is in
      let object = object_of files f.file.tree f.seen f.x in
      let n = names-there sources files children xs outer.file f.file f.seen f.x beside f.there in
      let kind_so : (file_of files f.file.tree f.seen f.x).kind method name ≡ Some (kind.Object item position count) = ap (λ (g : File). g.kind method name) (sym f.is) ∙ kind_is in
      let leads_so : slice_get (file_of files f.file.tree f.seen f.x).child_files item ≡ Some child = ap (λ (g : File). slice_get g.child_files item) (sym f.is) ∙ leads in
      let h = inner-of files children xs project outer.file f.file f.seen f.x f.there method name item position count index child kind_so less leads_so in
      let inside = slice_get_within object.instances h.place child h.is in
      let one = instances-length files (setting_of f.seen f.x) (objects (items f.file.tree)) in
      let other = names-length (text_in n.bytes) (setting_of f.seen f.x) (objects (items f.file.tree)) in
      let called = element (flat_map (instance_names (text_in n.bytes) (setting_of f.seen f.x)) (objects (items f.file.tree))) h.place (omega (arith, inside, one, other)) in
      let place : length object.methods + 1 + h.place ≡ position + index = omega (arith, h.position_is) in (
        path.0 ++ called.0 ++ codes ".",
        subst (λ o. HasPath shown all addresses (path.0 ++ called.0 ++ codes ".") (instance_at addresses outer child o)) place
            (inner_path h.place path.1 (file-at outer.file f.file f.seen f.x f.there n) called.1 h.is),
      )

  -- a variable by its kind
  pub variable-stands : HaveNoRing files → FitsHub (header_by all) → (i : Instance) → IsInstance program addresses i → (file : File) → slice_get program i.file ≡ Some file
      → (method : ℕ) (name : List ℕ) (size offset : ℕ) → file.kind method name ≡ Some (kind.Global size offset) → HasVariable shown all addresses i name size offset
  variable-stands no_ring fits i used file file_is method name size offset kind_is =
      let path = has-path i used in
      let f = file-of project.changed files children xs i.file file file_is in
      let object = object_of files f.file.tree f.seen f.x in
      let n = names-there sources files children xs i.file f.file f.seen f.x beside f.there in
      let top = i.file == 0 in
      let named = (compiled-at files children xs project i.file f.file f.seen f.x f.there).names in
      let there = file-at i.file f.file f.seen f.x f.there n in
      let kind_so : (file_of files f.file.tree f.seen f.x).kind method name ≡ Some (kind.Global size offset) = ap (λ (g : File). g.kind method name) (sym f.is) ∙ kind_is in
      let whole = of-whole-file f.file.tree f.seen top f.x.kinds named method name (kind.Global size offset) (λ own. own) kind_so in
      let among = no-variable (predefined_value name) (kind_among named.setting (items f.file.tree) [] (items f.file.tree) name) size offset (sym (kind-is f.file.tree f.seen top f.x.kinds named name) ∙ whole) in
      let h = variable-among named.setting (setting_of f.seen f.x) (named-alike f.file.tree f.seen top f.x.kinds named) (text_in n.bytes) (items f.file.tree)
      (file_names (text_in n.bytes) f.file (setting_of f.seen f.x) f.x.labels).variables object refl refl name size offset [] (items f.file.tree) refl among in
      let own = own-fits files children xs project no_ring i used object there.is_object in
      let within = offset-within object size h.v in
      let room = in-hub all fits in
      let low : offset ≡ variable_offset object size h.v = omega (arith, h.offset_is, own, within, room) in
      record {
        variable = record {
          path = path.0;
          instance = i;
          has_path = path.1;
          names = file_names (text_in n.bytes) f.file (setting_of f.seen f.x) f.x.labels;
          object = object;
          there = there;
          v = h.v;
          name = spelled (text_in n.bytes) h.place name;
          is_name = h.is_name;
          variable = h.variable;
          is_variable = h.is_variable;
        };
        instance_is = refl;
        named = spelled-so (text_in n.bytes) h.place name;
        size_is = h.size_is;
        stands = ap (λ z. (i.variables + variable_offset object z h.v) % 2 ^ 16) h.size_is ∙ ap (λ o. (i.variables + o) % 2 ^ 16) (sym low);
      }

  module _ (clock : Clock) (parts : AllPartsStand clock all) (hub : Lies (image_of clock all)) (top : ObjectPart) (first : slice_get all 0 ≡ Some top) where
    -- an instance stands at the base of its file's object
    base-is : (i : Instance) → IsInstance program addresses i → i.base ≡ base_of all i.file
    base-is i used = (is-at files children xs project clock parts hub top first i used).base_is

    -- a label by its kind
    pub label-stands : (i : Instance) → IsInstance program addresses i → (file : File) → slice_get program i.file ≡ Some file
        → (method : ℕ) (name : List ℕ) (size : ℕ) → file.kind method name ≡ Some (kind.Label size) → HasLabel shown all addresses i name size
    label-stands i used file file_is method name size kind_is =
        let f = file-of project.changed files children xs i.file file file_is in
        let n = names-there sources files children xs i.file f.file f.seen f.x beside f.there in
        let is_top = i.file == 0 in
        let c = compiled-at files children xs project i.file f.file f.seen f.x f.there in
        let s = setting_of f.seen f.x in
        let kind_so : (file_of files f.file.tree f.seen f.x).kind method name ≡ Some (kind.Label size) = ap (λ (g : File). g.kind method name) (sym f.is) ∙ kind_is in
        let whole = of-whole-file f.file.tree f.seen is_top f.x.kinds c.names method name (kind.Label size) (λ own. own) kind_so in
        let among = no-label (predefined_value name) (kind_among c.names.setting (items f.file.tree) [] (items f.file.tree) name) size (sym (kind-is f.file.tree f.seen is_top f.x.kinds c.names name) ∙ whole) in
        let found = label-there f.x.kinds c.names.setting (counts_setting s f.file.tree) f.file.tree (first_spot (data_start s f.file.tree)) name size among in
        let stands : slice_get f.x.labels found.k ≡ Some found.label = ap (λ (ls : List Label). slice_get ls found.k) c.dat.labels ∙ found.is_label in
        let as_spelled = spelled-at (text_in n.bytes) (flat_map label_place (items f.file.tree)) f.x.labels found.k found.label stands in
        let address : addresses.label i.file name ≡ found.label.offset =
        of-file (λ (x : CompiledFile). or_zero (first_offset x.labels name)) xs i.file f.x f.there.compiled
        ∙ ap (λ (ls : List Label). or_zero (first_offset ls name)) c.dat.labels ∙ ap or_zero found.first in
        let base = base-is i used in
        record {
          label = record {
            f = i.file;
            names = file_names (text_in n.bytes) f.file s f.x.labels;
            object = object_of files f.file.tree f.seen f.x;
            there = file-at i.file f.file f.seen f.x f.there n;
            k = found.k;
            label = spelled_label (text_in n.bytes) as_spelled.0 found.label;
            is_label = as_spelled.1;
          };
          file_is = refl;
          named = subst (λ m. str_eq_ignore_ascii_case (spelled_by (text_in n.bytes) as_spelled.0 found.label.name) m ≡ true) found.name_is (spelled-by-so (text_in n.bytes) as_spelled.0 found.label.name);
          size_is = found.size_is ∙ ap size_of_kind whole;
          stands = ap (λ b. (b + found.label.offset) % 2 ^ 16) (sym base) ∙ ap (λ o. (i.base + o) % 2 ^ 16) (sym address);
        }
