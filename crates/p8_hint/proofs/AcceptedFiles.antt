-- The texts that were made are those of the compiled files.
use Rattle.std.proofs.Common.{◌≡◌, ◌∙◌, ℕ, suc, List, [], ◌∷◌, length, slice_get, Some, refl, ap, sym, arith}
use Rattle.std.proofs.lemmas.List.{length-map}
use Rattle.std.proofs.lemmas.Option.{slice_get_within, slice_get-map}
use Rattle.std.specs.Prelude.{option_map}
use Rattle.p8_tree.specs.Projects.{NamedSource}
use Rattle.p8_tree.specs.Views.{method_of}
use Rattle.p8_kinds.specs.FileSettings.{file_setting}
use Rattle.p8_fold.specs.Meanings.{Setting}
use Rattle.p8_kinds.specs.declared.children.Children.{Children}
use Rattle.p8_constants.specs.FileItems.{Item, items}
use Rattle.p8_constants.specs.Standing.{items_of}
use Rattle.p8_names.specs.Kinds.{numbered}
use Rattle.p8_build.specs.declared.accepting.AcceptedFile.{AcceptedFile}
use Rattle.p8_build.specs.declared.building.Accepted.{Accepted}
use Rattle.p8_build.specs.Accepted.{IsAccepted, HasTables, compiled_file, compiled_files}
use Rattle.p8_build.specs.Files.{CompiledFile}
use Rattle.p8_build.specs.Builds.{IsFile}
use Rattle.p8_build.proofs.Lists.{element, one_element, of_map}
use Rattle.p8_hint.specs.Hints.{file_text, joined, or_nothing, text_with_facts, texts_of}
use Rattle.p8_hint.specs.Projects.{IsHintsOf}
use Rattle.p8_hint.specs.Accepting.{AreReady, text_by, IsTextAt, AreTextsBy}

-- the text of the file at a place
pub text-here : (sources : List (List ℕ)) (files : List NamedSource) (accepted : List AcceptedFile) (i : ℕ) (b : List ℕ) (f : NamedSource) (x : AcceptedFile) (text : List ℕ)
    → slice_get sources i ≡ Some b → slice_get files i ≡ Some f → slice_get accepted i ≡ Some x → text ≡ text_by b f x → IsTextAt sources files accepted i text
text-here sources files accepted i b f x text at_b at_f at_x is a g y at_a at_g at_y =
    is
    ∙ ap (λ (z : List ℕ). text_by z f x) (one_element sources i at_b at_a)
    ∙ ap (λ (z : NamedSource). text_by a z x) (one_element files i at_f at_g)
    ∙ ap (λ (z : AcceptedFile). text_by a g z) (one_element accepted i at_x at_y)

pub texts-are : (bs : List (List ℕ)) (fs : List NamedSource) (cs : List Children) (xs : List CompiledFile) (ts : List (List ℕ)) → length bs ≡ length fs → length cs ≡ length fs → length xs ≡ length fs → length ts ≡ length fs
    → ((i : ℕ) (b : List ℕ) (f : NamedSource) (c : Children) (x : CompiledFile) (t : List ℕ)
    → slice_get bs i ≡ Some b → slice_get fs i ≡ Some f → slice_get cs i ≡ Some c → slice_get xs i ≡ Some x → slice_get ts i ≡ Some t → t ≡ file_text b f c x)
    → ts ≡ texts_of bs fs cs xs
texts-are [] [] cs xs [] z a b d each = refl
texts-are bs [] cs xs (t ∷ ts) z a b d each = absurd (omega arith)
texts-are (b ∷ bs) [] cs xs ts z a d e each = absurd (omega arith)
texts-are [] (f ∷ fs) cs xs ts z a b d each = absurd (omega arith)
texts-are (b ∷ bs) (f ∷ fs) [] xs ts z a d e each = absurd (omega arith)
texts-are (b ∷ bs) (f ∷ fs) (c ∷ cs) [] ts z a d e each = absurd (omega arith)
texts-are (b ∷ bs) (f ∷ fs) (c ∷ cs) (x ∷ xs) [] z a d e each = absurd (omega arith)
texts-are (b ∷ bs) (f ∷ fs) (c ∷ cs) (x ∷ xs) (t ∷ ts) z a d e each =
    ap (λ y. y ∷ ts) (each 0 b f c x t refl refl refl refl refl)
    ∙ ap (λ ys. file_text b f c x ∷ ys) (texts-are bs fs cs xs ts (omega arith) (omega arith) (omega arith) (omega arith) (λ i. each (suc i)))

one-file : (b : List ℕ) (f : NamedSource) (c : Children) (x : AcceptedFile) → HasTables f.tree c x → text_by b f x ≡ file_text b f c (compiled_file x)
one-file b f c x t =
    ap (λ (s : Setting). text_with_facts f.name b x.codes s (items_of x.items)) t.consts
    ∙ ap (λ (xs : List Item). text_with_facts f.name b x.codes (file_setting x.kinds c) xs) t.items_are

-- the texts that were made
pub texts-told : (sources : List (List ℕ)) (files : List NamedSource) (a : Accepted) (h : IsAccepted files a) → length sources ≡ length files
    → (accepted : List AcceptedFile) → accepted ≡ a.files → (texts : List (List ℕ)) → AreTextsBy sources files accepted texts → texts ≡ texts_of sources files a.children (compiled_files a)
texts-told sources files a h told accepted accepted_are texts by =
    texts-are sources files a.children (compiled_files a) texts told h.seen.one_each h.each.count by.count (λ i b f c x t at_b at_f at_c at_x at_t.
    let found = of_map compiled_file a.files i x at_x in
    let is : IsFile files a.children i f c = record { stands = at_f; beside = at_c } in
    by.each i t at_t b f found.0 at_b at_f (ap (λ (xs : List AcceptedFile). slice_get xs i) accepted_are ∙ found.1)
    ∙ one-file b f c found.0 (h.tables i f c found.0 is found.1) ∙ ap (file_text b f c) (sym found.2))

-- each file is ready
pub ready : (files : List NamedSource) (a : Accepted) → IsAccepted files a → AreReady a.files
ready files a h i x at_x =
    let within = slice_get_within a.files i x at_x in
    let count : length a.files ≡ length files = sym (length-map a.files compiled_file) ∙ h.each.count in
    let f = element files i (omega (arith, within, count)) in
    let c = element a.children i (omega (arith, within, count, h.seen.one_each)) in
    let is : IsFile files a.children i f.0 c.0 = record { stands = f.1; beside = c.1 } in
    let t = h.tables i f.0 c.0 x is at_x in
    let compiled = h.each.each i f.0 c.0 (compiled_file x) is (slice_get-map compiled_file a.files i ∙ ap (option_map compiled_file) at_x) in
    record {
      codes = compiled.code.count ∙ ap length (sym t.methods_are) ∙ length-map x.methods (λ m. method_of m.now);
      methods = t.methods_are ∙ ap numbered (sym t.items_are);
    }

-- the hints of an accepted project
pub hints-told : (sources : List (List ℕ)) (files : List NamedSource) (a : Accepted) → IsAccepted files a → (texts shown : List (List ℕ)) → texts ≡ texts_of sources files a.children (compiled_files a) → shown ≡ texts
    → (text : List ℕ) → text ≡ or_nothing (joined shown) → IsHintsOf sources files text
hints-told sources files a h texts shown made shown_are text told = record {
  children = a.children;
  seen = h.seen;
  compiled = compiled_files a;
  each = h.each;
  clock = h.finished.clock;
  clock_is = h.finished.is;
  fits = h.finished.fits;
  is = told ∙ ap (λ (ts : List (List ℕ)). or_nothing (joined ts)) (shown_are ∙ made);
}
