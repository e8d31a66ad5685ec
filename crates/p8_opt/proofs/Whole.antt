-- The memory of the image of a project has the methods of its source.
use Rattle.std.proofs.Common.{◌≡◌, inl, inr, ℕ, suc, ◌+◌, ◌-◌, ◌*◌, ◌%◌, ◌^◌, ◌<◌, ◌≤◌, Bool, true, false, if◌then◌else◌, List, [], ◌∷◌, length, slice_get, Option, Some, None, refl, sym, ap, ◌∙◌, subst, arith}
use Rattle.std.specs.Str.{bytes_eq}
use Rattle.std.proofs.lemmas.Bool.{cases_lt}
use Rattle.std.proofs.lemmas.Option.{same_Some, none-some, slice_get_within}
use Rattle.p8_tree.specs.declared.places.Place.{Place}
use Rattle.p8_tree.specs.Names.{result_word}
use Rattle.p8_tree.specs.Sources.{MethodTree}
use Rattle.p8_tree.specs.Projects.{NamedSource}
use Rattle.p8_tree.specs.Faults.{fault}
use Rattle.p8_tree.specs.declared.refusal.Refusal.TheVariants.{FrameTooLarge}
use Rattle.p8_access.specs.declared.kinds.Origin.{Origin}
use Rattle.p8_access.specs.declared.kinds.Origin.TheVariants.{Spin}
use Rattle.p8_access.specs.Worlds.{World}
use Rattle.p8_constants.specs.FileItems.{items}
use Rattle.p8_kinds.specs.declared.children.Children.{Children}
use Rattle.p8_kinds.specs.declared.name_kinds.NameKind.{NameKind}
use Rattle.p8_kinds.specs.declared.name_kinds.NameKind.TheVariants as kind
use Rattle.p8_names.specs.Kinds.{numbered}
use Rattle.p8_bcog.specs.Code.{first_word, method_end}
use Rattle.p8_image.specs.declared.clocks.Clock.{Clock}
use Rattle.p8_image.specs.declared.header.Header.{Header}
use Rattle.p8_image.specs.declared.parts.MethodPart.{MethodPart}
use Rattle.p8_image.specs.declared.parts.ObjectPart.{ObjectPart}
use Rattle.p8_image.specs.Headers.{header_of}
use Rattle.p8_image.specs.Layout as layout
use Rattle.p8_image.specs.Layout.{variables_base, first_frame, codes_offset, code_offset, text_offsets, header_by, image_of}
use Rattle.p8_image.specs.Loading.{IsImage, memory_of, start_of}
use Rattle.p8_image.specs.Projects.{BeginsWithMain}
use Rattle.p8_image.specs.Places.{AllPartsStand, base_of, entry_of}
use Rattle.p8_gen.specs.Names.{Names, widened}
use Rattle.p8_gen.specs.Expressions as gen
use Rattle.p8_gen.specs.Depths.{held_in}
use Rattle.p8_meaning.specs.Programs.{Program, Addresses, File, Instance, Target, frame_size, instance_at}
use Rattle.p8_meaning.specs.Calls.{method_of}
use Rattle.p8_meaning.specs.Lives.{IsInstance, top_instance, IsMethodOrigin}
use Rattle.p8_compiled.specs.Standing.{Compiled, names_method, is_method_kind}
use Rattle.p8_compiled.specs.Bodies.{MethodAt}
use Rattle.p8_compiled.specs.Keeps.{Placed, MethodPlaced, ObjectPlaced, compiled}
use Rattle.p8_compiled.specs.Agreeing.{Agrees}
use Rattle.p8_compiled.proofs.TemplateMethods.{method-stands}
use Rattle.p8_compiled.specs.Told.{FramesFit, IsWorldOf}
use Rattle.p8_stmt.specs.Methods.{holds_too_much, rebodied}
use Rattle.p8_build.specs.Parts.{AreProper, strings_of, method_part}
use Rattle.p8_build.specs.Files.{CompiledFile, method_names, object_of}
use Rattle.p8_build.specs.Builds.{objects_of}
use Rattle.p8_opt.specs.Lines.{lines_of, IsWorldByLines}
use Rattle.p8_opt.specs.Programs.{file_of, program_of, with_sources, addresses_of}
use Rattle.p8_opt.specs.Agreements.{names_of, HaveRoom, NamesHaveRoom}
use Rattle.p8_opt.proofs.Holding.{within}
use Rattle.p8_opt.proofs.Tables.{stands-fits}
use Rattle.p8_names.proofs.Counts.{same-bytes}
use Rattle.p8_opt.proofs.Files.{IsThere, file-of, program-at, changed-at, object-at, method-place, method-there}
use Rattle.p8_opt.proofs.Counting.{element, part-at}
use Rattle.p8_image.proofs.Memories.{Lies}
use Rattle.p8_opt.proofs.Images.{frame-whole}
use Rattle.p8_opt.proofs.Codes.{has-code, has-lines}
use Rattle.p8_opt.proofs.LinesThere.{method-lines}
use Rattle.p8_opt.proofs.Instances.{IsProject, compiled-at, counts-of}
use Rattle.p8_opt.proofs.Placing.{of-file, between, base-high, IsAt, says, is-at, object-placed}
use Rattle.p8_opt.proofs.Agreeing.{agrees}
use Rattle.p8_opt.proofs.Frames.{IsCoded, coded}
use Rattle.p8_opt.proofs.FirstMethods.{first-method, begins-with}

-- ---- which names are those of methods

same-test : (k : Option NameKind) → is_method_kind k ≡ gen.is_method k
same-test None = refl
same-test (Some (kind.Const v)) = refl
same-test (Some (kind.Global size offset)) = refl
same-test (Some (kind.Local offset)) = refl
same-test (Some (kind.Label size)) = refl
same-test (Some (kind.Method number params)) = refl
same-test (Some (kind.Object item position count)) = refl

method-by : (n : Names) (t : Compiled) (name : List ℕ) (b : Bool) → bytes_eq name result_word ≡ b → Agrees n t → names_method t name ≡ gen.is_method (n.kind name)
method-by n t name true is a =
    let none : t.file.kind t.method name ≡ None = ap (t.file.kind t.method) (same-bytes name result_word is) ∙ a.no_result in
    ap is_method_kind none ∙ sym (ap gen.is_method (a.kinds name ∙ ap (λ b. if b then Some (kind.Local 0) else t.file.kind t.method name) is))
method-by n t name false is a =
    same-test (t.file.kind t.method name) ∙ sym (ap gen.is_method (a.kinds name ∙ ap (λ b. if b then Some (kind.Local 0) else t.file.kind t.method name) is))

-- names agree whatever jumps are wide
with-widths : (n : Names) (t : Compiled) (wide : ℕ → Bool) → Agrees n t → Agrees (widened n wide) t
with-widths n t wide a = record {
  kinds = a.kinds;
  no_result = a.no_result;
  sound = a.sound;
  publics = a.publics;
  constants = a.constants;
  words = a.words;
  texts = a.texts;
  near_texts = a.near_texts;
}

-- ---- the header

header-is : (os : List ObjectPart) (top : ObjectPart) → slice_get os 0 ≡ Some top
    → header_by os ≡ record { pbase = 16; vbase = variables_base os; dbase = first_frame os; pcurr = 16 + codes_offset top; dcurr = first_frame os + 4 + layout.frame_size top.methods }
header-is [] top is = absurd (none-some top is)
header-is (x ∷ os) top is = ap (λ (o : ObjectPart). record { pbase = 16; vbase = variables_base (x ∷ os); dbase = first_frame (x ∷ os); pcurr = 16 + codes_offset o; dcurr = first_frame (x ∷ os) + 4 + layout.frame_size o.methods }) (same_Some x top is)

frame-of : (ms : List MethodPart) (m : MethodPart) → slice_get ms 0 ≡ Some m → layout.frame_size ms ≡ m.parameters + m.locals
frame-of [] m is = absurd (none-some m is)
frame-of (x ∷ ms) m is = ap (λ (p : MethodPart). p.parameters + p.locals) (same_Some x m is)

-- the top object has a method that can be started
pub begins-main : (files : List NamedSource) (children : List Children) (xs : List CompiledFile) → IsProject files children xs → 0 < length files → BeginsWithMain (objects_of files children xs)
begins-main files children xs project some =
    let f = element files 0 some in
    let c = element children 0 (omega (arith, some, project.seen)) in
    let x = element xs 0 (omega (arith, some, project.compiled.count)) in
    let there : IsThere files children xs 0 f.0 c.0 x.0 = record { stands = f.1; beside = c.1; compiled = x.1 } in
    let whole = compiled-at files children xs project 0 f.0 c.0 x.0 there in
    let m = first-method f.0.tree c.0 x.0.kinds whole.names in
    let code = coded files f.0.tree (project.changed 0) c.0 x.0 0 m.0 whole.code m.1 in
    let object = object_of files f.0.tree c.0 x.0 in
    let part = part-at (strings_of f.0.tree) (numbered (items f.0.tree)) x.0.codes 0 m.0 code.code m.1 code.stands in
    begins-with (objects_of files children xs) object (method_part (strings_of f.0.tree) m.0 code.code) (object-at files files children xs 0 f.0 c.0 x.0 there) part
    (record { code = code.some; parameters = omega arith; locals = code.multiple })

module _ (files : List NamedSource) (children : List Children) (xs : List CompiledFile) (project : IsProject files children xs) (proper : AreProper files) (clock : Clock)
    (parts : AllPartsStand clock (objects_of files children xs)) (hub : Lies (image_of clock (objects_of files children xs))) where
  abbrev all : List ObjectPart
  all = objects_of files children xs

  abbrev program : Program
  program = with_sources project.changed (program_of files children xs)

  -- a file with its changed source
  abbrev changed_file : (i : ℕ) → NamedSource → Children → CompiledFile → File
  changed_file i file seen x = record (file_of files file.tree seen x) { source = project.changed i }

  abbrev addresses : Addresses
  addresses = addresses_of files xs all

  abbrev image : List ℕ
  image = image_of clock all

  abbrev memory : List ℕ
  memory = memory_of image

  abbrev table : List (ℕ × Place)
  table = lines_of all xs

  -- a method of a file, in its object
  record IsMethodOf (i : ℕ) (file : NamedSource) (seen : Children) (x : CompiledFile) (k : ℕ) (m : MethodTree) : Type 0 where
    coded : IsCoded files file.tree (project.changed i) seen x k m
    object_is : slice_get all i ≡ Some (object_of files file.tree seen x)
    part_is : slice_get (object_of files file.tree seen x).methods k ≡ Some (method_part (strings_of file.tree) m coded.code)
    entry : base_of all i + code_offset (object_of files file.tree seen x) k < 32768
    code_is : addresses.code i (suc k) ≡ code_offset (object_of files file.tree seen x) k

  method-in : (i : ℕ) (file : NamedSource) (seen : Children) (x : CompiledFile) → IsThere files children xs i file seen x → (k : ℕ) (m : MethodTree) → slice_get (numbered (items file.tree)) k ≡ Some m → IsMethodOf i file seen x k m
  method-in i file seen x there k m at =
      let c = compiled-at files children xs project i file seen x there in
      let code = coded files file.tree (project.changed i) seen x k m c.code at in
      let object = object_of files file.tree seen x in
      let is = object-at files files children xs i file seen x there in
      let part = part-at (strings_of file.tree) (numbered (items file.tree)) x.codes k m code.code at code.stands in
      let fits = stands-fits image (entry_of all i object k) _ ((parts i object is).codes k (method_part (strings_of file.tree) m code.code) part) in
      let number : suc k - 1 ≡ k = omega arith in
      record {
        coded = code;
        object_is = is;
        part_is = part;
        entry = omega (arith, fits, hub.below, hub.high);
        code_is = of-file (λ (o : ObjectPart). code_offset o (suc k - 1)) all i object is ∙ ap (code_offset object) number;
      }

  -- a method of a changed source has one of the source itself beside it
  own-method : (i : ℕ) (file : NamedSource) (seen : Children) (x : CompiledFile) → IsThere files children xs i file seen x → (k : ℕ) (n : MethodTree) → slice_get (numbered (items (project.changed i))) k ≡ Some n
      → (m : MethodTree) × (slice_get (numbered (items file.tree)) k ≡ Some m)
  own-method i file seen x there k n at =
      let inside = slice_get_within (numbered (items (project.changed i))) k n at in
      element (numbered (items file.tree)) k (omega (arith, inside, (compiled-at files children xs project i file seen x there).code.methods))

  placed-so : (cog : ℕ) (i : Instance) → IsAt files children xs project clock parts hub i → (file : NamedSource) (seen : Children) (x : CompiledFile) → IsThere files children xs i.file file seen x
      → (k : ℕ) (m : MethodTree) → slice_get (numbered (items file.tree)) k ≡ Some m → HaveRoom (names_of files file seen x k m) → (h : IsMethodOf i.file file seen x k m)
      → MethodPlaced memory cog program addresses table (record { instance = i; method = suc k }) (changed_file i.file file seen x) (rebodied m h.coded.body)
  placed-so cog i at file seen x there k m is right h =
      let object = object_of files file.tree seen x in
      let part = method_part (strings_of file.tree) m h.coded.code in
      let s = says files children xs project clock parts hub i object at h.object_is in
      let n = counts-of files children xs project i.file file seen x there in
      let inside = slice_get_within object.methods k part h.part_is in
      let words = s.methods k part h.part_is in
      let read = h.coded.recoded in
      let body = h.coded.body in
      let t : Compiled = compiled memory cog program addresses table (record { instance = i; method = suc k }) (changed_file i.file file seen x) m.place in
      let own = widened (method_names seen x k m) read.wide in
      let names = widened (names_of files file seen x k m) read.wide in
      let agree : Agrees names t = with-widths (names_of files file seen x k m) t read.wide (agrees files children xs project proper clock parts hub cog i file seen x there k m is right table m.place) in
      let base = base_of all i.file in
      let entry = base + code_offset object k in
      let entry_is : entry ≡ (i.base + first_word memory i.base (suc k)) % 2 ^ 16 = omega (arith, h.entry, words.0, at.base_is) in
      let high = base-high files children xs project clock parts hub i.file object h.object_is in
      let has = has-code (strings_of file.tree) (text_offsets object) own m.place (rebodied m body) h.coded.code image entry read.right read.fits hub (omega (arith, high))
      ((parts i.file object h.object_is).codes k part h.part_is) in
      let few = slice_get_within x.codes k h.coded.code h.coded.stands in
      let counted = slice_get_within (numbered (items file.tree)) k m is in
      let there_lines = method-lines all xs i.file object x h.object_is there.compiled (strings_of file.tree) (numbered (items file.tree)) refl k counted few h.coded.code h.coded.stands in
      let lines = has-lines (strings_of file.tree) (text_offsets object) own m.place (rebodied m body) h.coded.code table entry read.right there_lines in
      let stands : MethodAt t body entry = method-stands names t entry agree body read.proper read.loops read.clean has lines in
      let ends : method_end memory i.base ≡ length object.methods + 1 = s.method_count ∙ omega (arith, n.2) in
      let held : held_in own body ≤ 128 = elim (cases_lt 128 (held_in own body)) [
        | inl large ↦ absurd (read.fits (fault FrameTooLarge m.place) (holds_too_much large refl))
        | inr small ↦ small
      ] in
      record {
        is_method = between 1 (suc k) (method_end memory i.base) (omega arith) (omega (arith, ends, inside));
        entry = omega (arith, h.code_is, words.0);
        locals = words.1 ∙ omega (arith, h.coded.small) ∙ h.coded.locals;
        code = subst (MethodAt t body) entry_is stands;
        proper = read.proper;
        shallow = within own (names_method t) (λ name. method-by names t name (bytes_eq name result_word) refl agree) body read.proper read.shallow held;
      }

  module _ (right : NamesHaveRoom project.changed files children xs) (top : ObjectPart) (first : slice_get all 0 ≡ Some top) where
    placed-by : (cog : ℕ) (target : Target) → IsInstance program addresses target.instance → (file : File) → slice_get program target.instance.file ≡ Some file → (tree : MethodTree) → method_of file target.method ≡ Some tree
        → MethodPlaced memory cog program addresses table target file tree
    placed-by cog target instance file file_is tree tree_is =
        let f = file-of project.changed files children xs target.instance.file file file_is in
        let g : File = changed_file target.instance.file f.file f.seen f.x in
        let place = method-place g target.method tree (ap (λ (h : File). method_of h target.method) (sym f.is) ∙ tree_is) in
        let m = own-method target.instance.file f.file f.seen f.x f.there place.0 tree place.2 in
        let h = method-in target.instance.file f.file f.seen f.x f.there place.0 m.0 m.1 in
        let at = is-at files children xs project clock parts hub top first target.instance instance in
        let so = placed-so cog target.instance at f.file f.seen f.x f.there place.0 m.0 m.1
        (right target.instance instance f.file f.seen f.x f.there.stands f.there.beside f.there.compiled place.0 m.0 m.1) h in
        subst (λ (z : File). MethodPlaced memory cog program addresses table target z tree) (sym f.is)
        (subst (λ n. MethodPlaced memory cog program addresses table (record { instance = target.instance; method = n }) g tree) (sym place.1)
        (subst (λ (z : MethodTree). MethodPlaced memory cog program addresses table (record { instance = target.instance; method = suc place.0 }) g z) (same_Some (rebodied m.0 h.coded.body) tree (sym h.coded.tree_is ∙ place.2)) so))

  -- each method's frame is small
  frame-is : (i : ℕ) (file : NamedSource) (seen : Children) (x : CompiledFile) → IsThere files children xs i file seen x → (k : ℕ) (m : MethodTree) → slice_get (numbered (items file.tree)) k ≡ Some m
      → (h : IsMethodOf i file seen x k m) → frame_size (changed_file i file seen x) (rebodied m h.coded.body) ≡ 4 * length m.params + h.coded.code.locals
  frame-is i file seen x there k m at h = ap (λ n. 4 * length m.params + n) (sym h.coded.locals)

  pub frames-fit : FramesFit program
  frames-fit number file file_is method tree tree_is =
      let f = file-of project.changed files children xs number file file_is in
      let g : File = changed_file number f.file f.seen f.x in
      let place = method-place g method tree (ap (λ (h : File). method_of h method) (sym f.is) ∙ tree_is) in
      let m = own-method number f.file f.seen f.x f.there place.0 tree place.2 in
      let h = method-in number f.file f.seen f.x f.there place.0 m.0 m.1 in
      let same : frame_size file tree ≡ 4 * length m.0.params + h.coded.code.locals =
      ap (λ (z : File). frame_size z tree) f.is ∙ ap (frame_size g) (same_Some tree (rebodied m.0 h.coded.body) (sym place.2 ∙ h.coded.tree_is)) ∙ frame-is number f.file f.seen f.x f.there place.0 m.0 m.1 h in
      omega (arith, same, h.coded.small)

  -- what cog 0 starts with
  pub origin-of : (file : NamedSource) (seen : Children) (x : CompiledFile) → IsThere files children xs 0 file seen x → IsImage image → header_of image ≡ header_by all → (m : MethodTree) → slice_get (numbered (items file.tree)) 0 ≡ Some m
      → IsMethodOrigin program addresses (start_of (header_of image)) (record { instance = addresses.top; method = 1 }) (first_frame all)
  origin-of file seen x there whole header m at =
      let h = method-in 0 file seen x there 0 m at in
      let object = object_of files file.tree seen x in
      let part = method_part (strings_of file.tree) m h.coded.code in
      let shape = header-is all object h.object_is in
      let frame = frame-of object.methods part h.part_is in
      let size = frame-is 0 file seen x there 0 m at h in
      let g : File = changed_file 0 file seen x in
      let high = base-high files children xs project clock parts hub 0 object h.object_is in
      let dbase : (header_of image).dbase ≡ first_frame all = ap (λ (z : Header). z.dbase) (header ∙ shape) in
      let offset : code_offset object 0 ≡ codes_offset object = omega arith in
      let entry : 16 + codes_offset object ≡ (16 + addresses.code 0 1) % 2 ^ 16 = omega (arith, h.code_is, h.entry, high, offset) in
      let left : first_frame all + 4 + layout.frame_size object.methods - first_frame all - 4 ≡ frame_size g (rebodied m h.coded.body) = omega (arith, frame, size) in
      record {
        file = g;
        tree = rebodied m h.coded.body;
        is_instance = top_instance;
        is_file = changed-at project.changed (program_of files children xs) 0 (file_of files file.tree seen x) (program-at files files children xs 0 file seen x there);
        is_method = method-there g 0 (rebodied m h.coded.body) h.coded.tree_is;
        is_frame = (ap (λ n. n % 4) (sym dbase) ∙ frame-whole image whole, omega (arith, dbase, hub.high));
        is_origin =
            ap start_of (header ∙ shape)
            ∙ ap (λ e. Spin e 16 (variables_base all) (first_frame all) (first_frame all + 4 + layout.frame_size object.methods - first_frame all - 4)) entry
            ∙ ap (λ n. Spin ((16 + addresses.code 0 1) % 2 ^ 16) 16 (variables_base all) (first_frame all) n) left;
      }

-- the world of a project's image
pub world-of : (files : List NamedSource) (children : List Children) (xs : List CompiledFile) (project : IsProject files children xs) → AreProper files → 0 < length files → (clock : Clock) → AllPartsStand clock (objects_of files children xs)
    → IsImage (image_of clock (objects_of files children xs)) → header_of (image_of clock (objects_of files children xs)) ≡ header_by (objects_of files children xs) → Lies (image_of clock (objects_of files children xs))
    → NamesHaveRoom project.changed files children xs → (w : World) → w.memory ≡ memory_of (image_of clock (objects_of files children xs)) → w.first ≡ start_of (header_of (image_of clock (objects_of files children xs)))
    → IsWorldByLines (with_sources project.changed (program_of files children xs)) (addresses_of files xs (objects_of files children xs)) (lines_of (objects_of files children xs) xs) w
world-of files children xs project proper some clock parts whole header hub right w memory_is first_is =
    let all = objects_of files children xs in
    let program = with_sources project.changed (program_of files children xs) in
    let addresses = addresses_of files xs all in
    let f = element files 0 some in
    let c = element children 0 (omega (arith, some, project.seen)) in
    let x = element xs 0 (omega (arith, some, project.compiled.count)) in
    let there : IsThere files children xs 0 f.0 c.0 x.0 = record { stands = f.1; beside = c.1; compiled = x.1 } in
    let top = object-at files files children xs 0 f.0 c.0 x.0 there in
    let m = first-method f.0.tree c.0 x.0.kinds (compiled-at files children xs project 0 f.0 c.0 x.0 there).names in
    let table : List (ℕ × Place) = lines_of all xs in
    let here = placed-by files children xs project proper clock parts hub right (object_of files f.0.tree c.0 x.0) top in
    let each : (cog : ℕ) → Placed w.memory cog program addresses = λ cog. record {
      table = table;
      method = λ target instance file file_is tree tree_is. subst (λ (memory : List ℕ). MethodPlaced memory cog program addresses table target file tree) (sym memory_is) (here cog target instance file file_is tree tree_is);
      object = λ outer instance file file_is method name item position count kind_is index less child leads.
          subst (λ (memory : List ℕ). ObjectPlaced memory cog program addresses outer (position + index) (instance_at addresses outer child (position + index))) (sym memory_is)
          (object-placed files children xs project clock parts hub cog outer (is-at files children xs project clock parts hub (object_of files f.0.tree c.0 x.0) top outer instance) file file_is method name item position count kind_is index less child leads);
    } in
    let world : IsWorldOf program addresses w = record {
      placed = λ cog less. each cog;
      fits = frames-fit files children xs project proper clock parts hub;
      target = record { instance = addresses.top; method = 1 };
      frame = first_frame all;
      begins = subst (λ (o : Origin). IsMethodOrigin program addresses o (record { instance = addresses.top; method = 1 }) (first_frame all)) (sym first_is)
          (origin-of files children xs project proper clock parts hub f.0 c.0 x.0 there whole header m.0 m.1);
    } in
    record { world = world; placed = each; tables = λ cog. refl }
