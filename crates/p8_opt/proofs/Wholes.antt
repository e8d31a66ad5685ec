-- A whole project with short code, from its files.
use Rattle.std.proofs.Common.{◌≡◌, ℕ, zero, suc, ◌<◌, ◌==◌, Bool, true, List, [], ◌∷◌, length, slice_get, Some, refl, ap, ap₂, sym, ◌∙◌, subst, arith}
use Rattle.std.specs.Prelude.{map, option_map}
use Rattle.std.specs.List.{flat_map}
use Rattle.std.proofs.lemmas.List.{length-map}
use Rattle.std.proofs.lemmas.Option.{slice_get_within, slice_get-map, same_Some, none-some}
use Rattle.p8_tree.specs.declared.places.Place.{Place}
use Rattle.p8_tree.specs.Expressions.{Form}
use Rattle.p8_tree.specs.Projects.{NamedSource}
use Rattle.p8_tree.specs.Proper.{IsProperFile}
use Rattle.p8_tree.specs.Sources.{MethodTree, Source}
use Rattle.p8_tree.specs.declared.faults.Fault.{Fault}
use Rattle.p8_tree.specs.Faults.{fault}
use Rattle.p8_tree.specs.declared.refusal.Refusal.TheVariants.{NoPub}
use Rattle.p8_constants.specs.FileItems.{Item, items}
use Rattle.p8_fold.specs.ConstantEntries.{setting_of as setting_in}
use Rattle.p8_fold.specs.Meanings.{Setting}
use Rattle.p8_constants.specs.Rules.{has_public}
use Rattle.p8_kinds.specs.declared.children.Children.{Children}
use Rattle.p8_kinds.specs.FileSettings.{file_setting}
use Rattle.p8_names.specs.Faults.{of_name, no_pub}
use Rattle.p8_names.specs.Kinds.{numbered, objects}
use Rattle.p8_gen.specs.Names.{widened, wide_in}
use Rattle.p8_stmt.specs.declared.code.MethodCode.{MethodCode}
use Rattle.p8_stmt.specs.Methods.{rebodied}
use Rattle.p8_image.specs.declared.parts.ObjectPart.{ObjectPart}
use Rattle.p8_image.specs.Layout.{header_by, image_of}
use Rattle.p8_image.specs.Loading.{image_in}
use Rattle.p8_image.specs.Projects.{HasMain, BeginsWithMain, FitsHub}
use Rattle.p8_build.specs.declared.accepting.AcceptedFile.{AcceptedFile}
use Rattle.p8_build.specs.declared.building.Accepted.{Accepted}
use Rattle.p8_build.specs.declared.building.Built.{Built}
use Rattle.p8_build.specs.Accepted.{HasTables, IsAccepted, IsFinished, compiled_file, compiled_files, methods_of, recoded_file}
use Rattle.p8_build.specs.Strings.{Texts}
use Rattle.p8_build.specs.Parts.{AreProper, strings_of, text_in, method_part, method_parts, variable_in, instances_of}
use Rattle.p8_build.specs.Files.{CompiledFile, IsCompiled, setting_of, method_names, object_of}
use Rattle.p8_build.specs.Builds.{IsFile, AreCompiled, objects_from, objects_of, clock_by, IsImageFault, too_large, no_clock}
use Rattle.p8_build.specs.Phases.{clock_in, object_by, object_in}
use Rattle.p8_build.proofs.Lists.{element, one_element}
use Rattle.p8_build.proofs.Wholes.{is_main, main_first, has_methods, not_lacking, clock_is}
use Rattle.p8_names.proofs.Seen.{has-words}
use Rattle.p8_opt.proofs.Resolved.{are-words}
use Rattle.p8_meaning.specs.Constants.{constants_in}
use Rattle.p8_meaning.specs.Folding.{folded_body}
use Rattle.p8_opt.specs.Shorts.{IsShort, AreShort, IsShortBuiltTo}
use Rattle.p8_opt.specs.Shortening.{IsShortened, recoded_files}
use Rattle.p8_opt.specs.Steps.{IsAcceptedFile, AreAcceptedFiles, AreAllShort, objects_in}
use Rattle.p8_opt.proofs.Ready.{no-longer}
use Rattle.p8_opt.proofs.Sizes.{IsNoLonger, AreNoLonger, IsNoGreater, AreNoGreater, no-later}

-- ---- the methods of files with short code

parts-no-longer : (strings : Texts) (ms : List MethodTree) (cs ds : List MethodCode) → length cs ≡ length ms → length ds ≡ length ms
    → ((k : ℕ) (m : MethodTree) (c d : MethodCode) → slice_get ms k ≡ Some m → slice_get cs k ≡ Some c → slice_get ds k ≡ Some d → IsNoLonger (method_part strings m c) (method_part strings m d))
    → AreNoLonger (method_parts strings ms cs) (method_parts strings ms ds)
parts-no-longer strings [] cs ds a b each = tt
parts-no-longer strings (m ∷ ms) [] ds a b each = absurd (omega (arith, a))
parts-no-longer strings (m ∷ ms) (c ∷ cs) [] a b each = absurd (omega (arith, b))
parts-no-longer strings (m ∷ ms) (c ∷ cs) (d ∷ ds) a b each = (each 0 m c d refl refl refl, parts-no-longer strings ms cs ds (omega (arith, a)) (omega (arith, b)) (λ k. each (suc k)))

-- the object of a file with short code is no greater
object-no-greater : (files : List NamedSource) (file : NamedSource) (seen : Children) (top : Bool) (x y : CompiledFile) → IsCompiled file.tree seen top x → IsProperFile file.tree → IsShort file.tree seen x y → IsNoGreater (object_of files file.tree seen x) (object_of files file.tree seen y)
object-no-greater files file seen top x y is proper s = record {
  variables = ap (λ k. flat_map (variable_in (file_setting k seen)) (items file.tree)) s.kinds;
  dat = s.dat;
  texts = ap (λ k. map (λ (x : Place × Form). text_in (file_setting k seen) x.1) (strings_of file.tree)) s.kinds;
  instances = ap (λ k. flat_map (instances_of files (file_setting k seen)) (objects (items file.tree))) s.kinds;
  methods = parts-no-longer (strings_of file.tree) (numbered (items file.tree)) x.codes y.codes is.code.count s.count (λ k m c d at at_c at_d.
      let short = s.each k m d at at_d in
      let plain = is.code.each k m c at at_c in
      record { code = no-longer file seen top x is proper k m at d c short plain; parameters = refl; locals = short.code_is.locals ∙ sym plain.locals });
}

none-greater : (all : List NamedSource) (fs : List NamedSource) (cs : List Children) (xs ys : List CompiledFile) → length cs ≡ length fs → length xs ≡ length fs → length ys ≡ length fs
    → ((i : ℕ) (f : NamedSource) (c : Children) (x y : CompiledFile) → slice_get fs i ≡ Some f → slice_get cs i ≡ Some c → slice_get xs i ≡ Some x → slice_get ys i ≡ Some y → IsNoGreater (object_of all f.tree c x) (object_of all f.tree c y))
    → AreNoGreater (objects_from all fs cs xs) (objects_from all fs cs ys)
none-greater all [] cs xs ys a b d each = tt
none-greater all (f ∷ fs) [] xs ys a b d each = absurd (omega (arith, a))
none-greater all (f ∷ fs) (c ∷ cs) [] ys a b d each = absurd (omega (arith, b))
none-greater all (f ∷ fs) (c ∷ cs) (x ∷ xs) [] a b d each = absurd (omega (arith, d))
none-greater all (f ∷ fs) (c ∷ cs) (x ∷ xs) (y ∷ ys) a b d each =
    (each 0 f c x y refl refl refl refl, none-greater all fs cs xs ys (omega (arith, a)) (omega (arith, b)) (omega (arith, d)) (λ i. each (suc i)))

-- a project that fits the hub fits it with short code
pub short-fits : (files : List NamedSource) (children : List Children) (xs ys : List CompiledFile) → AreProper files → length children ≡ length files → AreCompiled files children xs → AreShort files children xs ys
    → FitsHub (header_by (objects_of files children xs)) → FitsHub (header_by (objects_of files children ys))
short-fits files children xs ys proper beside are short fits =
    let less = no-later (objects_of files children xs) (objects_of files children ys)
    (none-greater files files children xs ys beside are.count (short.count ∙ are.count) (λ i f c x y at_f at_c at_x at_y.
    let there : IsFile files children i f c = record { stands = at_f; beside = at_c } in
    object-no-greater files f c (i == 0) x y (are.each i f c x there at_x) (proper i f at_f) (short.each i f c x y there at_x at_y))) in
    omega (arith, less, fits)

-- the top file has a method that can be started
pub short-main : (files : List NamedSource) (source : Source) (seen : Children) (x y : CompiledFile) → IsCompiled source seen true x → IsShort source seen x y → HasMain (object_of files source seen y).methods
short-main files source seen x y is s =
    let public : has_public (items source) ≡ true = not_lacking (has_public (items source)) (λ lacks. is.names.clean (fault NoPub (record { line = 1; column = 1 })) (of_name is.names.setting is.names.right (no_pub (lacks, refl)))) in
    main_first (strings_of source) (numbered (items source)) y.codes (has_methods source public) s.count (λ m c at there.
    let short = s.each 0 m c at there in
    is_main (strings_of source) (widened (method_names seen x 0 m) (wide_in short.widths)) (rebodied m (folded_body (constants_in (setting_of seen x)) m.body)) c short.code_is)

pub begins : (files all : List NamedSource) (children : List Children) (ys : List CompiledFile) → 0 < length files → length children ≡ length files → length ys ≡ length files
    → ((f : NamedSource) (c : Children) (y : CompiledFile) → slice_get files 0 ≡ Some f → slice_get children 0 ≡ Some c → slice_get ys 0 ≡ Some y → HasMain (object_of all f.tree c y).methods) → BeginsWithMain (objects_from all files children ys)
begins [] all children ys l a b each = absurd (omega (arith, l))
begins (f ∷ fs) all [] ys l a b each = absurd (omega (arith, a))
begins (f ∷ fs) all (c ∷ cs) [] l a b each = absurd (omega (arith, b))
begins (f ∷ fs) all (c ∷ cs) (y ∷ ys) l a b each = each f c y refl refl refl

-- ---- files with other codes

recoded-many : (fs : List AcceptedFile) (codes : List (List MethodCode)) → length codes ≡ length fs → length (recoded_files fs codes) ≡ length fs
recoded-many [] codes long = refl
recoded-many (f ∷ fs) [] long = absurd (omega (arith, long))
recoded-many (f ∷ fs) (own ∷ codes) long = ap suc (recoded-many fs codes (omega (arith, long)))

recoded-at : (fs : List AcceptedFile) (codes : List (List MethodCode)) (i : ℕ) (f : AcceptedFile) (own : List MethodCode) → slice_get fs i ≡ Some f → slice_get codes i ≡ Some own
    → slice_get (recoded_files fs codes) i ≡ Some (recoded_file f own)
recoded-at [] codes i f own a b = absurd (none-some f a)
recoded-at (g ∷ fs) [] i f own a b = absurd (none-some own b)
recoded-at (g ∷ fs) (c ∷ codes) zero f own a b = ap₂ (λ (h : AcceptedFile) (d : List MethodCode). Some (recoded_file h d)) (same_Some g f a) (same_Some c own b)
recoded-at (g ∷ fs) (c ∷ codes) (suc i) f own a b = recoded-at fs codes i f own a b

object-recoded : (files : List NamedSource) (source : Source) (children : Children) (f : AcceptedFile) (codes : List MethodCode) → HasTables source children f
    → object_in files f codes ≡ object_of files source children (recoded_file f codes)
object-recoded files source children f codes h =
    ap (λ (xs : List Item). object_by files (setting_in f.tables.consts) xs (methods_of f) f.dat.bytes codes) h.items_are
    ∙ ap (λ (ms : List MethodTree). object_by files (setting_in f.tables.consts) (items source) ms f.dat.bytes codes) h.methods_are
    ∙ ap (λ (s : Setting). object_by files s (items source) (numbered (items source)) f.dat.bytes codes) h.consts

objects-recoded : (all fs : List NamedSource) (cs : List Children) (xs : List AcceptedFile) (codes : List (List MethodCode)) → length cs ≡ length fs → length xs ≡ length fs → length codes ≡ length xs
    → ((i : ℕ) (f : NamedSource) (c : Children) (x : AcceptedFile) → slice_get fs i ≡ Some f → slice_get cs i ≡ Some c → slice_get xs i ≡ Some x → HasTables f.tree c x)
    → objects_in all xs codes ≡ objects_from all fs cs (recoded_files xs codes)
objects-recoded all [] cs [] codes a b d each = refl
objects-recoded all [] cs (x ∷ xs) codes a b d each = absurd (omega (arith, b))
objects-recoded all (f ∷ fs) [] xs codes a b d each = absurd (omega (arith, a))
objects-recoded all (f ∷ fs) (c ∷ cs) [] codes a b d each = absurd (omega (arith, b))
objects-recoded all (f ∷ fs) (c ∷ cs) (x ∷ xs) [] a b d each = absurd (omega (arith, d))
objects-recoded all (f ∷ fs) (c ∷ cs) (x ∷ xs) (own ∷ codes) a b d each =
    ap₂ (λ (o : ObjectPart) (os : List ObjectPart). o ∷ os) (object-recoded all f.tree c x own (each 0 f c x refl refl refl))
    (objects-recoded all fs cs xs codes (omega (arith, a)) (omega (arith, b)) (omega (arith, d)) (λ i. each (suc i)))

-- ---- the files of an accepted project

module _ (files : List NamedSource) (a : Accepted) (some : 0 < length files) (proper : AreProper files) (is : IsAccepted files a) where
  abbrev xs : List CompiledFile
  xs = compiled_files a

  pub accepted-many : length a.files ≡ length files
  accepted-many = sym (length-map a.files compiled_file) ∙ is.each.count

  compiled-at : (i : ℕ) (f : AcceptedFile) → slice_get a.files i ≡ Some f → slice_get xs i ≡ Some (compiled_file f)
  compiled-at i f at = slice_get-map compiled_file a.files i ∙ ap (option_map compiled_file) at

  -- file i, by its tree and what it sees
  abbrev accepted-at : (i : ℕ) (f : AcceptedFile) → slice_get a.files i ≡ Some f → (file : NamedSource) (seen : Children) → IsFile files a.children i file seen → IsAcceptedFile f
  accepted-at i f at file seen there =
      let comp = is.each.each i file seen (compiled_file f) there (compiled-at i f at) in
      record {
        source = file.tree;
        children = seen;
        top = i == 0;
        proper = proper i file there.stands;
        is = comp;
        words = are-words (setting_of seen (compiled_file f)) (has-words files a.children is.seen i file seen (i == 0) f.kinds there.stands there.beside comp.names);
        tables = is.tables i file seen f there at;
      }

  file-at : (i : ℕ) → i < length files → (file : NamedSource) × (seen : Children) × IsFile files a.children i file seen
  file-at i inside =
      let beside = is.seen.one_each in
      let file = element files i inside in
      let seen = element a.children i (omega (arith, inside, beside)) in
      (file.0, seen.0, record { stands = file.1; beside = seen.1 })

  pub accepted-files : AreAcceptedFiles a.files
  accepted-files = record {
    each = λ i f at.
        let inside = slice_get_within a.files i f at in
        let many = accepted-many in
        let there = file-at i (omega (arith, inside, many)) in
        accepted-at i f at there.0 there.1 there.2;
  }

  clock-of : (f : AcceptedFile) → slice_get a.files 0 ≡ Some f → clock_in f.kinds ≡ clock_by xs
  clock-of f at = clock_is a.files f at

  -- ---- their codes and objects with short code

  module _ (codes : List (List MethodCode)) (long : length codes ≡ length a.files) (short : AreAllShort a.files codes) where
    abbrev ys : List CompiledFile
    ys = recoded_files a.files codes

    pub are-short : AreShort files a.children xs ys
    are-short = record {
      count = recoded-many a.files codes long ∙ sym (length-map a.files compiled_file);
      each = λ i file seen x y there at_x at_y.
          let inside = slice_get_within ys i y at_y in
          let many = recoded-many a.files codes long in
          let f = element a.files i (omega (arith, inside, many)) in
          let own = element codes i (omega (arith, inside, many, long)) in
          let same_x : compiled_file f.0 ≡ x = one_element xs i (compiled-at i f.0 f.1) at_x in
          let same_y : recoded_file f.0 own.0 ≡ y = one_element ys i (recoded-at a.files codes i f.0 own.0 f.1 own.1) at_y in
          subst (λ (z : CompiledFile). IsShort file.tree seen z y) same_x (subst (IsShort file.tree seen (compiled_file f.0)) same_y
          (short.each i f.0 own.0 f.1 own.1 (accepted-at i f.0 f.1 file seen there)));
    }

    pub objects-are : objects_in files a.files codes ≡ objects_of files a.children ys
    objects-are = objects-recoded files files a.children a.files codes is.seen.one_each accepted-many long
        (λ i f c x at_f at_c at_x. is.tables i f c x (record { stands = at_f; beside = at_c }) at_x)

    module _ (objects : List ObjectPart) (made : objects ≡ objects_in files a.files codes) where
      short-objects : objects ≡ objects_of files a.children ys
      short-objects = made ∙ objects-are

      pub shortened : (b : Built) → b.objects ≡ objects → IsShortened files a (record { codes = codes; built = b })
      shortened b same = record { count = long; shorter = are-short; objects_are = same ∙ short-objects }

      -- ---- the image

      pub built-to : (f : AcceptedFile) (b : Built) → slice_get a.files 0 ≡ Some f → IsFinished (clock_in f.kinds) objects b → IsShortBuiltTo files b
      built-to f b at done = record {
        clock = done.clock;
        built = record {
          children = a.children;
          seen = is.seen;
          compiled = xs;
          each = is.each;
          clock_is = sym (clock-of f at) ∙ done.is;
          fits = is.finished.fits;
          short = ys;
          shorter = are-short;
          objects_are = done.objects_are ∙ short-objects;
        };
        image = done.image ∙ ap (λ os. image_in (image_of done.clock os)) (sym done.objects_are);
      }

      pub begins-with-main : BeginsWithMain objects
      begins-with-main =
          let shorter = are-short in
          let beside = is.seen.one_each in
          let counted = is.each.count in
          subst BeginsWithMain (sym short-objects) (begins files files a.children ys some beside (shorter.count ∙ counted) (λ f c y at_f at_c at_y.
          let there : IsFile files a.children 0 f c = record { stands = at_f; beside = at_c } in
          let inside = slice_get_within files 0 f at_f in
          let x = element xs 0 (omega (arith, inside, counted)) in
          short-main files f.tree c x.0 y (is.each.each 0 f c x.0 there x.1) (shorter.each 0 f c x.0 y there x.1 at_y)))

      -- the project isn't refused with short code
      pub never-refused : (f : AcceptedFile) → slice_get a.files 0 ≡ Some f → (fault : Fault) → ¬ IsImageFault objects (clock_in f.kinds) fault
      never-refused f at fault (too_large large told) =
          let fits = short-fits files a.children xs ys proper is.seen.one_each is.each are-short is.finished.fits in
          let over : 32768 < (header_by (objects_of files a.children ys)).dcurr = subst (λ (os : List ObjectPart). 32768 < (header_by os).dcurr) short-objects large in
          omega (arith, fits, over)
      never-refused f at fault (no_clock none told) = absurd (none-some is.finished.clock (sym none ∙ clock-of f at ∙ is.finished.is))
