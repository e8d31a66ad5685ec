-- An image with short code keeps the meaning of the source as it stands.
use Rattle.std.proofs.Common.{◌≡◌, ℕ, zero, suc, ◌+◌, ◌%◌, ◌^◌, Bool, ◌==◌, List, [], ◌∷◌, length, map, slice_get, Option, Some, None, refl, ap, sym, ◌∙◌, subst, arith}
use Rattle.std.specs.Prelude.{All, option_map}
use Rattle.std.proofs.lemmas.List.Elements.{All-nil, All-cons}
use Rattle.std.proofs.lemmas.Option.{same_Some, none-some}
use Rattle.p8_access.specs.declared.kinds.Answer.{Answer}
use Rattle.p8_access.specs.declared.kinds.Origin.{Origin}
use Rattle.p8_tree.specs.Projects.{NamedSource}
use Rattle.p8_tree.specs.Proper.{IsProperFile}
use Rattle.p8_tree.specs.Sources.{MethodTree}
use Rattle.p8_constants.specs.FileItems.{items}
use Rattle.p8_kinds.specs.declared.children.Children.{Children}
use Rattle.p8_kinds.specs.declared.name_kinds.NameKind.{NameKind}
use Rattle.p8_kinds.specs.declared.name_kinds.NameKind.TheVariants as kind
use Rattle.p8_kinds.specs.Kinds.{own}
use Rattle.p8_names.specs.Kinds.{numbered}
use Rattle.p8_image.specs.declared.clocks.Clock.{Clock}
use Rattle.p8_image.specs.declared.parts.ObjectPart.{ObjectPart}
use Rattle.p8_image.specs.Layout.{image_of}
use Rattle.p8_image.specs.Loading.{memory_of}
use Rattle.p8_meaning.specs.Programs.{Program, File, Addresses, Target, Instance, frame_size}
use Rattle.p8_meaning.specs.Calls.{method_of}
use Rattle.p8_meaning.specs.Lives.{says, IsInstance, top_instance, inner_instance, IsMethodOrigin}
use Rattle.p8_meaning.specs.Bounds.{made_of, IsBeginning}
use Rattle.p8_access.specs.Replays.{answer_of}
use Rattle.p8_access.specs.declared.order.Turn.{Turn}
use Rattle.p8_access.specs.declared.kinds.Origin.TheVariants.{Spin}
use Rattle.p8_access.specs.Worlds.{World}
use Rattle.p8_compiled.specs.Keeps.{bytes}
use Rattle.p8_compiled.specs.Told.{SpinIsTold}
use Rattle.p8_build.specs.Parts.{AreProper}
use Rattle.p8_build.specs.Files.{CompiledFile, IsCompiled, setting_of}
use Rattle.p8_build.specs.Builds.{AreCompiled, objects_of}
use Rattle.p8_build.proofs.Methods.{proper_method}
use Rattle.p8_opt.specs.Programs.{kind_by, file_of, program_from, program_of, with_sources, addresses_of}
use Rattle.p8_opt.specs.Meaning.{KeepsMeaning}
use Rattle.p8_opt.proofs.Frames.{setting-outside}
use Rattle.p8_names.specs.Own.{IsLocal}
use Rattle.p8_names.proofs.Own.{apart, local}
use Rattle.p8_opt.proofs.Hiding.{constants-same}
use Rattle.p8_meaning.specs.Constants.{Constants, constants_in}
use Rattle.p8_meaning.specs.Projects.{folded_method, folded_source, constants_of, IsFolded, AreFolded, folded_file, folded_program, HidesNone}
use Rattle.p8_opt.specs.Shorts.{IsShort, AreShort, IsShortBuilt}
use Rattle.p8_opt.proofs.Recoded.{folded_sources}

-- no method hides a constant or an object of its file
module _ (files : List NamedSource) (file : NamedSource) (seen : Children) (top : Bool) (x : CompiledFile) (is : IsCompiled file.tree seen top x) (proper : IsProperFile file.tree) where
  own-names : (k : ℕ) (m : MethodTree) → slice_get (numbered (items file.tree)) k ≡ Some m → (name : List ℕ) (kind : NameKind) → own x.kinds (k + 1) name ≡ Some kind → (own x.kinds 0 name ≡ None) × IsLocal kind
  own-names k m at name kind is_own =
      let next : k + 1 ≡ suc k = omega arith in
      let read = proper_method file.tree k m proper at in
      let here : own x.kinds (suc k) name ≡ Some kind = ap (λ j. own x.kinds j name) (sym next) ∙ is_own in
      (apart file.tree seen top x.kinds is.names k m at read name kind here, local file.tree seen top x.kinds is.names k m at read name kind here)

  constants-here : (number : ℕ) → constants_of (file_of files file.tree seen x) number ≡ constants_in (setting_of seen x)
  constants-here number = constants-same file.tree seen x.kinds (file_of files file.tree seen x) refl own-names (λ method name. refl) number

  pub hides-none : HidesNone (file_of files file.tree seen x)
  hides-none = record { same = λ number. constants-here number ∙ sym (constants-here 0) }

-- ---- the program

all-hide-none : (all fs : List NamedSource) (cs : List Children) (xs : List CompiledFile)
    → ((i : ℕ) (f : NamedSource) (c : Children) (x : CompiledFile) → slice_get fs i ≡ Some f → slice_get cs i ≡ Some c → slice_get xs i ≡ Some x → HidesNone (file_of all f.tree c x)) → All HidesNone (program_from all fs cs xs)
all-hide-none all [] cs xs each = All-nil HidesNone
all-hide-none all (f ∷ fs) [] xs each = All-nil HidesNone
all-hide-none all (f ∷ fs) (c ∷ cs) [] each = All-nil HidesNone
all-hide-none all (f ∷ fs) (c ∷ cs) (x ∷ xs) each =
    All-cons HidesNone (file_of all f.tree c x) (program_from all fs cs xs) (each 0 f c x refl refl refl) (all-hide-none all fs cs xs (λ i. each (suc i)))

pub hide-none : (files : List NamedSource) (children : List Children) (xs : List CompiledFile) → AreProper files → AreCompiled files children xs → All HidesNone (program_of files children xs)
hide-none files children xs proper are =
    all-hide-none files files children xs (λ i f c x at_f at_c at_x. hides-none files f c (i == 0) x (are.each i f c x (record { stands = at_f; beside = at_c }) at_x) (proper i f at_f))

pub same-program : (all fs : List NamedSource) (cs : List Children) (xs ys : List CompiledFile) → length ys ≡ length xs
    → ((i : ℕ) (f : NamedSource) (c : Children) (x y : CompiledFile) → slice_get fs i ≡ Some f → slice_get cs i ≡ Some c → slice_get xs i ≡ Some x → slice_get ys i ≡ Some y → IsShort f.tree c x y) → program_from all fs cs ys ≡ program_from all fs cs xs
same-program all [] cs xs ys long each = refl
same-program all (f ∷ fs) [] xs ys long each = refl
same-program all (f ∷ fs) (c ∷ cs) [] [] long each = refl
same-program all (f ∷ fs) (c ∷ cs) [] (y ∷ ys) long each = absurd (omega (arith, long))
same-program all (f ∷ fs) (c ∷ cs) (x ∷ xs) [] long each = absurd (omega (arith, long))
same-program all (f ∷ fs) (c ∷ cs) (x ∷ xs) (y ∷ ys) long each =
    ap (λ k. record { source = f.tree; kind = kind_by k f.tree; children = (file_of all f.tree c x).children; child_files = (file_of all f.tree c x).child_files } ∷ program_from all fs cs ys) (each 0 f c x y refl refl refl refl).kinds
    ∙ ap (λ p. file_of all f.tree c x ∷ p) (same-program all fs cs xs ys (omega (arith, long)) (λ i. each (suc i)))

-- with its folded sources it is the folded program
folded-is : (all fs : List NamedSource) (cs : List Children) (xs : List CompiledFile) → with_sources (folded_sources fs cs xs) (program_from all fs cs xs) ≡ folded_program (program_from all fs cs xs)
folded-is all [] cs xs = refl
folded-is all (f ∷ fs) [] xs = refl
folded-is all (f ∷ fs) (c ∷ cs) [] = refl
folded-is all (f ∷ fs) (c ∷ cs) (x ∷ xs) =
    ap (λ s. record (file_of all f.tree c x) { source = folded_source (constants_in s) f.tree } ∷ with_sources (folded_sources fs cs xs) (program_from all fs cs xs)) (setting-outside all f.tree c x)
    ∙ ap (λ p. folded_file (file_of all f.tree c x) ∷ p) (folded-is all fs cs xs)

pub with-folded : (files : List NamedSource) (children : List Children) (xs ys : List CompiledFile) → AreShort files children xs ys → with_sources (folded_sources files children xs) (program_of files children ys) ≡ folded_program (program_of files children xs)
with-folded files children xs ys short =
    ap (with_sources (folded_sources files children xs)) (same-program files files children xs ys short.count (λ i f c x y at_f at_c at_x at_y. short.each i f c x y (record { stands = at_f; beside = at_c }) at_x at_y))
    ∙ folded-is files files children xs

-- ---- what cogs begin with

module _ (program : Program) (addresses : Addresses) where
  folded-file-at : (p : Program) (i : ℕ) (f : File) → slice_get p i ≡ Some f → slice_get (folded_program p) i ≡ Some (folded_file f)
  folded-file-at [] i f at = absurd (none-some f at)
  folded-file-at (g ∷ p) zero f at = ap (λ (h : File). Some (folded_file h)) (same_Some g f at)
  folded-file-at (g ∷ p) (suc i) f at = folded-file-at p i f at

  folded-instance : (i : Instance) → IsInstance program addresses i → IsInstance (folded_program program) addresses i
  folded-instance _ top_instance = top_instance
  folded-instance _ (inner_instance {outer = outer} {file = file} index h is kind_is less leads) =
      inner_instance {file = folded_file file} index (folded-instance outer h) (folded-file-at program outer.file file is) kind_is less leads

  are-folded-at : (p q : Program) → AreFolded p q → (i : ℕ) (f g : File) → slice_get p i ≡ Some f → slice_get q i ≡ Some g → IsFolded f g
  are-folded-at [] [] are i f g a b = absurd (none-some f a)
  are-folded-at [] (h ∷ q) are i f g a b = absurd are
  are-folded-at (e ∷ p) [] are i f g a b = absurd are
  are-folded-at (e ∷ p) (h ∷ q) are zero f g a b = subst (λ (z : File). IsFolded z g) (same_Some e f a) (subst (IsFolded e) (same_Some h g b) are.0)
  are-folded-at (e ∷ p) (h ∷ q) are (suc i) f g a b = are-folded-at p q are.1 i f g a b

  folded-origin : AreFolded program (folded_program program) → (origin : Origin) (target : Target) (frame : ℕ) → IsMethodOrigin program addresses origin target frame → IsMethodOrigin (folded_program program) addresses origin target frame
  folded-origin are origin target frame o =
      let there = folded-file-at program target.instance.file o.file o.is_file in
      let folded = are-folded-at program (folded_program program) are target.instance.file o.file (folded_file o.file) o.is_file there in
      record {
        file = folded_file o.file;
        tree = folded_method (constants_of o.file target.method) o.tree;
        is_instance = folded-instance target.instance o.is_instance;
        is_file = there;
        is_method = folded.methods target.method ∙ ap (option_map (folded_method (constants_of o.file target.method))) o.is_method;
        is_frame = o.is_frame;
        is_origin = o.is_origin;
      }

  -- what keeps the meaning of the folded program keeps that of the program
  pub keeps : (memory : List ℕ) → AreFolded program (folded_program program)
      → ((target : Target) (frame cog : ℕ) (answers : List Answer) (f : ℕ) → says (folded_program program) addresses target frame cog answers f ≡ says program addresses target frame cog answers f)
      → KeepsMeaning memory (folded_program program) addresses → KeepsMeaning memory program addresses
  keeps memory are same k = record {
    source = λ cog lt origin target frame o answers f.
        let h = k.source cog lt origin target frame (folded-origin are origin target frame o) answers f in
        (h.0, h.1, h.2 ∙ same target frame cog answers f);
    bytecodes = λ cog lt origin target frame o answers g settled.
        sym (same target frame cog answers g) ∙ k.bytecodes cog lt origin target frame (folded-origin are origin target frame o) answers g settled;
    made = λ cog lt origin target frame o answers g.
        subst (λ t. IsBeginning (made_of (bytes memory origin cog answers g)) (made_of t)) (same target frame cog answers g) (k.made cog lt origin target frame (folded-origin are origin target frame o) answers g);
    clean = λ cog lt origin target frame o answers g. k.clean cog lt origin target frame (folded-origin are origin target frame o) answers g;
  }

-- ---- and back

module _ (program : Program) (addresses : Addresses) where
  unfolded-at : (p : Program) (i : ℕ) (f : File) → slice_get (folded_program p) i ≡ Some f → (g : File) × (slice_get p i ≡ Some g) × (f ≡ folded_file g)
  unfolded-at [] i f at = absurd (none-some f at)
  unfolded-at (g ∷ p) zero f at = (g, refl, sym (same_Some (folded_file g) f at))
  unfolded-at (g ∷ p) (suc i) f at = unfolded-at p i f at

  unfolded-instance : (i : Instance) → IsInstance (folded_program program) addresses i → IsInstance program addresses i
  unfolded-instance _ top_instance = top_instance
  unfolded-instance _ (inner_instance {outer = outer} {file = f} {name = n} {method = m} {item = item} {position = position} {count = count} {child = child} index h is kind_is less leads) =
      let g = unfolded-at program outer.file f is in
      inner_instance {file = g.0} index (unfolded-instance outer h) g.1 (subst (λ (z : File). z.kind m n ≡ Some (kind.Object item position count)) g.2 kind_is) less
      (subst (λ (z : File). slice_get z.child_files item ≡ Some child) g.2 leads)

  folded-from : (c : Constants) (o : Option MethodTree) (t : MethodTree) → option_map (folded_method c) o ≡ Some t → (m : MethodTree) × (o ≡ Some m) × (t ≡ folded_method c m)
  folded-from c None t is = absurd (none-some t is)
  folded-from c (Some m) t is = (m, refl, sym (same_Some (folded_method c m) t is))

  unfolded-origin : AreFolded program (folded_program program) → (origin : Origin) (target : Target) (frame : ℕ) → IsMethodOrigin (folded_program program) addresses origin target frame → IsMethodOrigin program addresses origin target frame
  unfolded-origin are origin target frame o =
      let g = unfolded-at program target.instance.file o.file o.is_file in
      let c = constants_of g.0 target.method in
      let folded = are-folded-at program addresses program (folded_program program) are target.instance.file g.0 (folded_file g.0) g.1 (o.is_file ∙ ap Some g.2) in
      let m = folded-from c (method_of g.0 target.method) o.tree (sym (folded.methods target.method) ∙ ap (λ (z : File). method_of z target.method) (sym g.2) ∙ o.is_method) in
      let size : frame_size o.file o.tree ≡ frame_size g.0 m.0 = ap (λ (z : File). frame_size z o.tree) g.2 ∙ ap (frame_size (folded_file g.0)) m.2 in
      record {
        file = g.0;
        tree = m.0;
        is_instance = unfolded-instance target.instance o.is_instance;
        is_file = g.1;
        is_method = m.1;
        is_frame = o.is_frame;
        is_origin = o.is_origin ∙ ap (λ n. Spin ((target.instance.base + addresses.code target.instance.file target.method) % 2 ^ 16) target.instance.base target.instance.variables frame n) size;
      }

  -- lives that the folded program tells the program tells
  pub tells : AreFolded program (folded_program program)
      → ((target : Target) (frame cog : ℕ) (answers : List Answer) (f : ℕ) → says (folded_program program) addresses target frame cog answers f ≡ says program addresses target frame cog answers f)
      → (w : World) (past : List Turn) → SpinIsTold (folded_program program) addresses w past → SpinIsTold program addresses w past
  tells are same w past told = λ cog origin turns life spin.
      let h = told cog origin turns life spin in
      record { target = h.target; frame = h.frame; is_method = unfolded-origin are origin h.target h.frame h.is_method; accesses = h.accesses ∙ ap made_of (same h.target h.frame cog (map answer_of turns) w.clocks) }

-- ---- a project with short code

-- the image of a project with short code
pub kept : (files : List NamedSource) (clock : Clock) (objects : List ObjectPart) (b : IsShortBuilt files clock objects)
    → AreFolded (program_of files b.children b.compiled) (folded_program (program_of files b.children b.compiled))
    → ((target : Target) (frame cog : ℕ) (answers : List Answer) (f : ℕ) → says (folded_program (program_of files b.children b.compiled)) (addresses_of files b.short objects) target frame cog answers f ≡ says (program_of files b.children b.compiled) (addresses_of files b.short objects) target frame cog answers f)
    → KeepsMeaning (memory_of (image_of clock (objects_of files b.children b.short))) (with_sources (folded_sources files b.children b.compiled) (program_of files b.children b.short)) (addresses_of files b.short (objects_of files b.children b.short))
    → KeepsMeaning (memory_of (image_of clock objects)) (program_of files b.children b.compiled) (addresses_of files b.short objects)
kept files clock objects b are same k =
    let program = program_of files b.children b.compiled in
    let placed : KeepsMeaning (memory_of (image_of clock (objects_of files b.children b.short))) (folded_program program) (addresses_of files b.short (objects_of files b.children b.short)) =
    subst (λ (p : Program). KeepsMeaning (memory_of (image_of clock (objects_of files b.children b.short))) p (addresses_of files b.short (objects_of files b.children b.short))) (with-folded files b.children b.compiled b.short b.shorter) k in
    keeps program (addresses_of files b.short objects) (memory_of (image_of clock objects)) are same
    (subst (λ (os : List ObjectPart). KeepsMeaning (memory_of (image_of clock os)) (folded_program program) (addresses_of files b.short os)) (sym b.objects_are) placed)

pub told : (files : List NamedSource) (clock : Clock) (objects : List ObjectPart) (b : IsShortBuilt files clock objects)
    → AreFolded (program_of files b.children b.compiled) (folded_program (program_of files b.children b.compiled))
    → ((target : Target) (frame cog : ℕ) (answers : List Answer) (f : ℕ) → says (folded_program (program_of files b.children b.compiled)) (addresses_of files b.short objects) target frame cog answers f ≡ says (program_of files b.children b.compiled) (addresses_of files b.short objects) target frame cog answers f)
    → (w : World) (past : List Turn) → SpinIsTold (with_sources (folded_sources files b.children b.compiled) (program_of files b.children b.short)) (addresses_of files b.short (objects_of files b.children b.short)) w past
    → SpinIsTold (program_of files b.children b.compiled) (addresses_of files b.short objects) w past
told files clock objects b are same w past is =
    let program = program_of files b.children b.compiled in
    let placed : SpinIsTold (folded_program program) (addresses_of files b.short (objects_of files b.children b.short)) w past =
    subst (λ (p : Program). SpinIsTold p (addresses_of files b.short (objects_of files b.children b.short)) w past) (with-folded files b.children b.compiled b.short b.shorter) is in
    tells program (addresses_of files b.short objects) are same w past
    (subst (λ (os : List ObjectPart). SpinIsTold (folded_program program) (addresses_of files b.short os) w past) (sym b.objects_are) placed)
