-- The bytes of the files so far.
use Rattle.std.proofs.Common.{◌≡◌, ◌∙◌, ℕ, ◌<◌, zero, suc, List, [], ◌∷◌, ◌++◌, length, get_or, refl, ap, sym, subst}
use Rattle.std.proofs.lemmas.List.{length-map}
use Rattle.std.proofs.lemmas.Option.{slice_get_read}
use Rattle.p8_tree.specs.declared.projects.ProjectFile.{ProjectFile}
use Rattle.p8_tree.specs.Projects.{NamedSource}
use Rattle.p8_tree.specs.Views.{named_source_of, source_of}
use Rattle.p8_io.specs.Shelves.{Files}
use Rattle.p8_objects.specs.Lists.{IsAt}
use Rattle.p8_objects.specs.Mentioned.{sources_of}
use Rattle.p8_objects.specs.declared.fault.ReadFile.{ReadFile}
use Rattle.p8_objects.specs.Outcomes.{HasBytes, WasRead}
use Rattle.p8_objects.specs.Reading.{AreKept}
use Rattle.p8_objects.specs.Sources.{IsSource}
use Rattle.p8_objects.specs.Whole.{AreSources, HasText}
use Rattle.p8_objects.proofs.Calling.{sources_more}
use Rattle.p8_objects.proofs.Elements.{one_at, none_at, unskip}

pub no-sources : (shelf : Files) (fs : List ProjectFile) (sources : List (List ℕ)) → fs ≡ [] → sources ≡ [] → AreSources shelf (sources_of fs) sources
no-sources shelf fs sources none nothing =
    subst (λ (gs : List ProjectFile). AreSources shelf (sources_of gs) sources) (sym none) (subst (λ (bs : List (List ℕ)). AreSources shelf [] bs) (sym nothing) tt)

one-behind : (shelf : Files) (files : List NamedSource) (sources : List (List ℕ)) (f : NamedSource) (bytes : List ℕ) → AreSources shelf files sources → HasBytes shelf f.name bytes → IsSource bytes f.tree
    → AreSources shelf (files ++ f ∷ []) (sources ++ bytes ∷ [])
one-behind shelf [] [] f bytes are has is = (has, is, tt)
one-behind shelf [] (b ∷ sources) f bytes are has is = absurd are
one-behind shelf (g ∷ files) [] f bytes are has is = absurd are
one-behind shelf (g ∷ files) (b ∷ sources) f bytes are has is = (are.0, are.1, one-behind shelf files sources f bytes are.2 has is)

-- one more file
pub source-more : (shelf shelf' : Files) (name : List ℕ) (fs gs : List ProjectFile) (before now : List (List ℕ)) (file : ProjectFile) → AreSources shelf (sources_of fs) before → file.name ≡ name → shelf' ≡ shelf
    → AreKept shelf' name (source_of file.tree) before now → gs ≡ fs ++ file ∷ [] → AreSources shelf (sources_of gs) now
source-more shelf shelf' name fs gs before now file are named same kept grown =
    subst (λ (files : List NamedSource). AreSources shelf files now) (sym (sources_more fs gs file grown))
    (subst (λ (bs : List (List ℕ)). AreSources shelf (sources_of fs ++ named_source_of file ∷ []) bs) (sym kept.behind)
    (one-behind shelf (sources_of fs) before (named_source_of file) kept.bytes are
    (subst (λ (s : Files). HasBytes s file.name kept.bytes) same (subst (λ (n : List ℕ). HasBytes shelf' n kept.bytes) (sym named) kept.has)) kept.source))

-- there are as many as files
pub count-of : (shelf : Files) (files : List NamedSource) (sources : List (List ℕ)) → AreSources shelf files sources → length sources ≡ length files
count-of shelf [] [] are = refl
count-of shelf [] (b ∷ sources) are = absurd are
count-of shelf (f ∷ files) [] are = absurd are
count-of shelf (f ∷ files) (b ∷ sources) are = ap suc (count-of shelf files sources are.2)

pub beside-files : (shelf : Files) (fs : List ProjectFile) (sources : List (List ℕ)) → AreSources shelf (sources_of fs) sources → length sources ≡ length fs
beside-files shelf fs sources are = count-of shelf (sources_of fs) sources are ∙ length-map fs named_source_of

-- the file of a number has the bytes of that number
pub bytes-at : (shelf : Files) (files : List NamedSource) (sources : List (List ℕ)) (i : ℕ) (f : NamedSource) (bytes : List ℕ) → AreSources shelf files sources → IsAt files i f → IsAt sources i bytes → HasBytes shelf f.name bytes
bytes-at shelf [] sources i f bytes are at text = absurd (none_at at)
bytes-at shelf (g ∷ files) [] i f bytes are at text = absurd are
bytes-at shelf (g ∷ files) (b ∷ sources) zero f bytes are at text =
    let file : g ≡ f = one_at (record { is = refl }) at refl in
    let same : b ≡ bytes = one_at (record { is = refl }) text refl in
    subst (λ (h : NamedSource). HasBytes shelf h.name bytes) file (subst (λ (xs : List ℕ). HasBytes shelf g.name xs) same are.0)
bytes-at shelf (g ∷ files) (b ∷ sources) (suc i) f bytes are at text = bytes-at shelf files sources i f bytes are.2 (unskip at) (unskip text)

-- what is read of a list stands there
pub read-at : (sources : List (List ℕ)) (i : ℕ) (bytes : List ℕ) → i < length sources → bytes ≡ get_or sources i bytes → IsAt sources i bytes
read-at sources i bytes within is = record { is = slice_get_read sources (length sources) i bytes refl within is }

-- the file as it was read has the bytes of the shelf
pub text-read : (shelf : Files) (files : List NamedSource) (sources : List (List ℕ)) (file : ReadFile) → AreSources shelf files sources → HasText files sources file → WasRead shelf file
text-read shelf files sources file are has =
    subst (λ (name : List ℕ). HasBytes shelf name file.bytes) has.named (bytes-at shelf files sources has.number has.source file.bytes are has.stands has.text)
