-- internal: the hints of the files of an accepted project, by what was worked out of each.
use Rattle.std.specs.Prelude.{◌≡◌, ℕ, List, length, slice_get, Some}
use Rattle.p8_tree.specs.Projects.{NamedSource}
use Rattle.p8_fold.specs.ConstantEntries.{setting_of}
use Rattle.p8_constants.specs.Standing.{items_of}
use Rattle.p8_names.specs.Kinds.{numbered}
use Rattle.p8_build.specs.declared.accepting.AcceptedFile.{AcceptedFile}
use Rattle.p8_build.specs.Accepted.{methods_of}
use Rattle.p8_hint.specs.Hints.{text_with_facts}

-- a file has its methods in the order of their numbers, and a code of each
pub record IsReady (f : AcceptedFile) : Type 0 where
  pub codes : length f.codes ≡ length f.methods
  pub methods : methods_of f ≡ numbered (items_of f.items)

-- all files have
abbrev pub AreReady : List AcceptedFile → Type 0
AreReady files = (i : ℕ) (f : AcceptedFile) → slice_get files i ≡ Some f → IsReady f

-- the text of a file of these bytes
abbrev pub text_by : (bytes : List ℕ) → NamedSource → AcceptedFile → List ℕ
text_by bytes file f = text_with_facts file.name bytes f.codes (setting_of f.tables.consts) (items_of f.items)

abbrev pub IsTextAt : (sources : List (List ℕ)) → List NamedSource → List AcceptedFile → ℕ → List ℕ → Type 0
IsTextAt sources files accepted i text =
    (bytes : List ℕ) (file : NamedSource) (f : AcceptedFile)
    → slice_get sources i ≡ Some bytes → slice_get files i ≡ Some file → slice_get accepted i ≡ Some f → text ≡ text_by bytes file f

-- the text of each file
pub record AreTextsBy (sources : List (List ℕ)) (files : List NamedSource) (accepted : List AcceptedFile) (all : List (List ℕ)) : Type 0 where
  pub count : length all ≡ length files
  pub each : (i : ℕ) (text : List ℕ) → slice_get all i ≡ Some text → IsTextAt sources files accepted i text
