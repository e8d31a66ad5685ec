-- Whole projects: their objects, their clock and their image.
use Rattle.std.proofs.Common.{◌≡◌, ℕ, suc, ◌*◌, ◌%◌, ◌<◌, ◌==◌, Bool, true, false, not, ◌&&◌, List, [], ◌∷◌, ◌++◌, length, map, slice_get, Option, Some, codes, refl, ap, sym, ◌∙◌, subst, arith, length-append}
use Rattle.std.specs.Prelude.{IsTrue}
use Rattle.std.specs.List.{flat_map}
use Rattle.std.proofs.lemmas.List.{length-map}
use Rattle.std.proofs.lemmas.Option.{same_Some, none-some}
use Rattle.p8_tree.specs.Sources.{MethodTree, Source}
use Rattle.p8_tree.specs.Projects.{NamedSource}
use Rattle.p8_bytecode.specs.declared.op.Op.{Op}
use Rattle.p8_bytecode.specs.Spelling.{spelled}
use Rattle.p8_tree.specs.declared.faults.Fault.{Fault}
use Rattle.p8_tree.specs.Faults.{fault, IsFirstFault, PhaseFault, IsFirstRefusal}
use Rattle.p8_tree.specs.declared.refusal.Refusal.TheVariants.{NoPub}
use Rattle.p8_constants.specs.FileItems.{items}
use Rattle.p8_constants.specs.Rules.{has_public}
use Rattle.p8_kinds.specs.declared.children.Children.{Children}
use Rattle.p8_kinds.specs.declared.kinds.Kinds.{Kinds}
use Rattle.p8_kinds.specs.Kinds.{own}
use Rattle.p8_names.specs.Children.{AreChildren}
use Rattle.p8_names.specs.Faults.{of_name, no_pub}
use Rattle.p8_names.specs.Kinds.{publics, privates, numbered}
use Rattle.p8_gen.specs.Names.{Names}
use Rattle.p8_image.specs.declared.clocks.Clock.{Clock}
use Rattle.p8_image.specs.declared.parts.ObjectPart.{ObjectPart}
use Rattle.p8_image.specs.Clocks.{clock_of}
use Rattle.p8_image.specs.Projects.{IsMain, HasMain, BeginsWithMain}
use Rattle.p8_stmt.specs.declared.code.MethodCode.{MethodCode}
use Rattle.p8_stmt.specs.Methods.{IsCodeOf}
use Rattle.p8_build.specs.declared.accepting.AcceptedFile.{AcceptedFile}
use Rattle.p8_build.specs.declared.building.Accepted.{Accepted}
use Rattle.p8_build.specs.declared.fault.PhaseRefusal.{PhaseRefusal}
use Rattle.p8_build.specs.Strings.{Texts}
use Rattle.p8_build.specs.Parts.{strings_of, method_part, method_parts}
use Rattle.p8_build.specs.Files.{CompiledFile, method_names, IsCompiled, object_of}
use Rattle.p8_build.specs.Builds.{IsFile, IsRefusal, of_image, IsImageFault, AreCompiled, objects_from, objects_of, constant_named, constant_value, clock_by}
use Rattle.p8_build.specs.Sizes.{IsSizeOf}
use Rattle.p8_build.specs.Accepted.{compiled_file, compiled_files, IsFinished, IsAccepted}
use Rattle.p8_build.specs.Phases.{AreAccepted, refusal_of, IsFirstAt, object_in, clock_in, IsImageRefusal}
use Rattle.p8_build.proofs.Lists.{element, one_element, of_map}
use Rattle.p8_build.proofs.Firsts.{refusal, first_of}
use Rattle.p8_build.proofs.Methods.{first_public}
use Rattle.p8_build.proofs.One.{alike, of_file, one_object}
use Rattle.p8_build.proofs.Making.{object_is}
use Rattle.p8_build.proofs.Sized.{image_sized}
use Rattle.p8_build.proofs.Refusals.{shown, in_names, in_data, in_code, in_image, none_compiled}

-- ---- the objects

pub objects_are : (all fs : List NamedSource) (cs : List Children) (xs : List CompiledFile) (os : List ObjectPart) → length cs ≡ length fs → length xs ≡ length fs → length os ≡ length fs
    → ((i : ℕ) (f : NamedSource) (c : Children) (x : CompiledFile) (o : ObjectPart) → slice_get fs i ≡ Some f → slice_get cs i ≡ Some c → slice_get xs i ≡ Some x → slice_get os i ≡ Some o → o ≡ object_of all f.tree c x) → os ≡ objects_from all fs cs xs
objects_are all [] cs xs [] a b d each = refl
objects_are all [] cs xs (o ∷ os) a b d each = absurd (omega arith)
objects_are all (f ∷ fs) [] xs os a b d each = absurd (omega arith)
objects_are all (f ∷ fs) (c ∷ cs) [] os a b d each = absurd (omega arith)
objects_are all (f ∷ fs) (c ∷ cs) (x ∷ xs) [] a b d each = absurd (omega arith)
objects_are all (f ∷ fs) (c ∷ cs) (x ∷ xs) (o ∷ os) a b d each =
    ap (λ y. y ∷ os) (each 0 f c x o refl refl refl refl) ∙ ap (λ ys. object_of all f.tree c x ∷ ys) (objects_are all fs cs xs os (omega arith) (omega arith) (omega arith) (λ i. each (suc i)))

pub objects_same : (all fs : List NamedSource) (cs : List Children) (xs ys : List CompiledFile) → length cs ≡ length fs → length xs ≡ length fs → length ys ≡ length fs
    → ((i : ℕ) (f : NamedSource) (c : Children) (x y : CompiledFile) → slice_get fs i ≡ Some f → slice_get cs i ≡ Some c → slice_get xs i ≡ Some x → slice_get ys i ≡ Some y → object_of all f.tree c x ≡ object_of all f.tree c y) → objects_from all fs cs xs ≡ objects_from all fs cs ys
objects_same all [] cs xs ys a b d each = refl
objects_same all (f ∷ fs) [] xs ys a b d each = absurd (omega arith)
objects_same all (f ∷ fs) (c ∷ cs) [] ys a b d each = absurd (omega arith)
objects_same all (f ∷ fs) (c ∷ cs) (x ∷ xs) [] a b d each = absurd (omega arith)
objects_same all (f ∷ fs) (c ∷ cs) (x ∷ xs) (y ∷ ys) a b d each =
    ap (λ o. o ∷ objects_from all fs cs xs) (each 0 f c x y refl refl refl refl) ∙ ap (λ os. object_of all f.tree c y ∷ os) (objects_same all fs cs xs ys (omega arith) (omega arith) (omega arith) (λ i. each (suc i)))

-- what accepted files are compiled to
pub compiled_all : (files : List NamedSource) (children : List Children) (fs : List AcceptedFile) → AreAccepted files children fs → AreCompiled files children (map compiled_file fs)
compiled_all files children fs h = record {
  count = length-map fs compiled_file ∙ h.count;
  each = λ i file seen x is at.
      let f = of_map compiled_file fs i x at in
      subst (IsCompiled file.tree seen (i == 0)) (sym f.2) (h.each i f.0 f.1 file seen is).compiled;
}

-- their objects
abbrev pub object_made : List NamedSource → AcceptedFile → ObjectPart
object_made files f = object_in files f f.codes

pub objects_all : (files : List NamedSource) (children : List Children) (fs : List AcceptedFile) → length children ≡ length files → AreAccepted files children fs → map (object_made files) fs ≡ objects_of files children (map compiled_file fs)
objects_all files children fs beside h =
    objects_are files files children (map compiled_file fs) (map (object_made files) fs) beside (length-map fs compiled_file ∙ h.count) (length-map fs (object_made files) ∙ h.count) (λ i file seen x o at_f at_c at_x at_o.
    let f = of_map compiled_file fs i x at_x in
    let g = of_map (object_made files) fs i o at_o in
    let tables = (h.each i f.0 f.1 file seen (record { stands = at_f; beside = at_c })).tables in
    g.2 ∙ ap (object_made files) (one_element fs i g.1 f.1) ∙ object_is files file.tree seen f.0 f.0.codes tables ∙ ap (object_of files file.tree seen) (sym f.2))

-- ---- one outcome

pub one_objects : (files : List NamedSource) (children : List Children) (xs ys : List CompiledFile) → length children ≡ length files → AreCompiled files children xs → AreCompiled files children ys → objects_of files children xs ≡ objects_of files children ys
one_objects files children xs ys beside a b =
    objects_same files files children xs ys beside a.count b.count (λ i f c x y at_f at_c at_x at_y.
    let is : IsFile files children i f c = record { stands = at_f; beside = at_c } in
    one_object files f.tree c (i == 0) x y (a.each i f c x is at_x) (b.each i f c y is at_y))

clock_same : (k l : Kinds) → ((n : List ℕ) → own k 0 n ≡ own l 0 n) → clock_in k ≡ clock_in l
clock_same k l h =
    let value : (n : List ℕ) → constant_named k n ≡ constant_named l n = λ n. ap constant_value (h n) in
    ap (λ m. clock_of m (constant_named k (codes "_CLKFREQ")) (constant_named k (codes "_XINFREQ"))) (value (codes "_CLKMODE"))
    ∙ ap (λ f. clock_of (constant_named l (codes "_CLKMODE")) f (constant_named k (codes "_XINFREQ"))) (value (codes "_CLKFREQ"))
    ∙ ap (λ i. clock_of (constant_named l (codes "_CLKMODE")) (constant_named l (codes "_CLKFREQ")) i) (value (codes "_XINFREQ"))

pub one_clock : (files : List NamedSource) (children : List Children) (xs ys : List CompiledFile) → length children ≡ length files → AreCompiled files children xs → AreCompiled files children ys → clock_by xs ≡ clock_by ys
one_clock [] children [] [] beside a b = refl
one_clock [] children (x ∷ xs) ys beside a b = absurd (omega (arith, a.count))
one_clock [] children [] (y ∷ ys) beside a b = absurd (omega (arith, b.count))
one_clock (f ∷ files) [] xs ys beside a b = absurd (omega arith)
one_clock (f ∷ files) (c ∷ children) [] ys beside a b = absurd (omega (arith, a.count))
one_clock (f ∷ files) (c ∷ children) (x ∷ xs) [] beside a b = absurd (omega (arith, b.count))
one_clock (f ∷ files) (c ∷ children) (x ∷ xs) (y ∷ ys) beside a b =
    let is : IsFile (f ∷ files) (c ∷ children) 0 f c = record { stands = refl; beside = refl } in
    clock_same x.kinds y.kinds (of_file f.tree x.kinds y.kinds (alike f.tree c true x.kinds y.kinds (a.each 0 f c x is refl).names (b.each 0 f c y is refl).names))

-- ---- the first method

code_before : (xs : List Op) (op : Op) → 0 < length (flat_map spelled (xs ++ op ∷ []))
code_before [] op = omega arith
code_before (x ∷ xs) op = omega (arith, length-append (spelled x) (flat_map spelled (xs ++ op ∷ [])), code_before xs op)

four_times : (n : ℕ) → 4 * n % 4 ≡ 0
four_times n = omega arith

-- a method that is compiled can be started
pub is_main : (strings : Texts) (names : Names) (m : MethodTree) (code : MethodCode) → IsCodeOf names m code → IsMain (method_part strings m code)
is_main strings names m code h = record {
  code = subst (λ (bytes : List ℕ). 0 < length bytes) (sym h.bytes) (code_before _ _);
  parameters = four_times (length m.params);
  locals = ap (λ n. n % 4) h.locals ∙ four_times _;
}

pub not_lacking : (b : Bool) → (IsTrue (true && not b) → ⊥) → b ≡ true
not_lacking true h = refl
not_lacking false h = absurd (h refl)

pub main_first : (strings : Texts) (ms : List MethodTree) (codes : List MethodCode) → 0 < length ms → length codes ≡ length ms → ((m : MethodTree) (c : MethodCode) → slice_get ms 0 ≡ Some m → slice_get codes 0 ≡ Some c → IsMain (method_part strings m c)) → HasMain (method_parts strings ms codes)
main_first strings [] codes l e is = absurd (omega arith)
main_first strings (m ∷ ms) [] l e is = absurd (omega arith)
main_first strings (m ∷ ms) (c ∷ cs) l e is = is m c refl refl

pub has_methods : (source : Source) → has_public (items source) ≡ true → 0 < length (numbered (items source))
has_methods source e =
    let first = first_public (items source) e in
    omega (arith, length-append (publics (items source)) (privates (items source)), ap length first.2)

top_begins : (files : List NamedSource) (source : Source) (children : Children) (x : CompiledFile) → IsCompiled source children true x → HasMain (object_of files source children x).methods
top_begins files source children x h =
    let public : has_public (items source) ≡ true = not_lacking (has_public (items source)) (λ lacks. h.names.clean (fault NoPub (record { line = 1; column = 1 })) (of_name h.names.setting h.names.right (no_pub (lacks, refl)))) in
    main_first (strings_of source) (numbered (items source)) x.codes (has_methods source public) h.code.count (λ m c at there. is_main (strings_of source) (method_names children x 0 m) m c (h.code.each 0 m c at there))

pub begins : (files all : List NamedSource) (children : List Children) (xs : List CompiledFile) → 0 < length files → length children ≡ length files → length xs ≡ length files → ((f : NamedSource) (c : Children) (x : CompiledFile) → slice_get files 0 ≡ Some f → slice_get children 0 ≡ Some c → slice_get xs 0 ≡ Some x → IsCompiled f.tree c true x) → BeginsWithMain (objects_from all files children xs)
begins [] all children xs l a b each = absurd (omega arith)
begins (f ∷ fs) all [] xs l a b each = absurd (omega arith)
begins (f ∷ fs) all (c ∷ cs) [] l a b each = absurd (omega arith)
begins (f ∷ fs) all (c ∷ cs) (x ∷ xs) l a b each = top_begins all f.tree c x (each f c x refl refl refl)

pub begins_with_main : (files : List NamedSource) (children : List Children) (xs : List CompiledFile) → 0 < length files → length children ≡ length files → AreCompiled files children xs → BeginsWithMain (objects_of files children xs)
begins_with_main files children xs l beside h =
    begins files files children xs l beside h.count (λ f c x at_f at_c at_x. h.each 0 f c x (record { stands = at_f; beside = at_c }) at_x)

-- ---- the image

-- the clock by the names in hand
pub clock_is : (fs : List AcceptedFile) (f : AcceptedFile) → slice_get fs 0 ≡ Some f → clock_in f.kinds ≡ clock_by (map compiled_file fs)
clock_is [] f at = absurd (none-some f at)
clock_is (g ∷ fs) f at = ap (λ (x : AcceptedFile). clock_in x.kinds) (sym (same_Some g f at))

pub accepted_by : (files : List NamedSource) (a : Accepted) (f : AcceptedFile) (objects : List ObjectPart) → AreChildren files a.children → AreAccepted files a.children a.files → slice_get a.files 0 ≡ Some f → objects ≡ map (object_made files) a.files → IsFinished (clock_in f.kinds) objects a.built → IsAccepted files a
accepted_by files a f objects seen h at are done = record {
  seen = seen;
  each = compiled_all files a.children a.files h;
  tables = λ i file c g is there. (h.each i g there file c is).tables;
  finished = subst (λ (o : Option Clock). IsFinished o (objects_of files a.children (compiled_files a)) a.built) (clock_is a.files f at)
      (subst (λ (os : List ObjectPart). IsFinished (clock_in f.kinds) os a.built) (are ∙ objects_all files a.children a.files seen.one_each h) done);
}

pub image_refused : (files : List NamedSource) (children : List Children) (xs : List CompiledFile) (objects : List ObjectPart) (clock : Option Clock) (r : PhaseRefusal) → 0 < length files → length children ≡ length files → AreCompiled files children xs
    → objects ≡ objects_of files children xs → clock ≡ clock_by xs → IsImageRefusal objects clock r → IsFirstAt files children r
image_refused files children xs objects clock r l beside each are clock_are h =
    let top = element files 0 l in
    record {
      file = top.0;
      stands = subst (λ (j : ℕ). slice_get files j ≡ Some top.0) (sym h.file) top.1;
      first = subst (IsFirstRefusal (IsRefusal files children)) standing first;
      size = subst (λ (q : PhaseFault). IsSizeOf files children q r.size) standing (image_sized files children xs objects r.fault r.size each are h.size);
    }
  where
    standing : refusal 3 0 r.fault ≡ refusal_of r
    standing = λ k. record { phase = sym h.phase k; file = sym h.file k; fault = r.fault }

    here : IsFirstFault (IsImageFault (objects_of files children xs) (clock_by xs)) r.fault
    here = subst (λ (o : Option Clock). IsFirstFault (IsImageFault (objects_of files children xs) o) r.fault) clock_are (subst (λ (os : List ObjectPart). IsFirstFault (IsImageFault os clock) r.fault) are h.first)

    image_fault : (g : Fault) → IsRefusal files children (refusal 3 0 g) → IsImageFault (objects_of files children xs) (clock_by xs) g
    image_fault g refused = elim (shown refused) [
      | in_names e b ↦ absurd (omega (arith, e))
      | in_data e b ↦ absurd (omega (arith, e))
      | in_code e b ↦ absurd (omega (arith, e))
      | in_image e z b ↦
          subst (λ (o : Option Clock). IsImageFault (objects_of files children xs) o g) (one_clock files children b.xs xs beside b.each each)
          (subst (λ (os : List ObjectPart). IsImageFault os (clock_by b.xs) g) (one_objects files children b.xs xs beside b.each each) b.fault)
    ]

    first : IsFirstRefusal (IsRefusal files children) (refusal 3 0 r.fault)
    first =
        first_of (IsRefusal files children) 3 0 r.fault (of_image xs r.fault each here.holds) (λ g refused before. here.first g (image_fault g refused) before)
        (λ p j g q. none_compiled files children xs each (refusal p j g) q) (λ j g q. absurd (omega arith))
