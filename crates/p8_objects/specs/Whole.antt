-- What is so of each project (this project's profile).
use Rattle.std.specs.Prelude.{◌≡◌, ℕ, List, [], ◌∷◌}
use Rattle.p8_tree.specs.Sources.{Child, Source}
use Rattle.p8_tree.specs.Projects.{NamedSource}
use Rattle.p8_io.specs.Shelves.{Files}
use Rattle.p8_objects.specs.declared.fault.ReadFile.{ReadFile}
use Rattle.p8_objects.specs.Lists.{IsAt}
use Rattle.p8_objects.specs.Sources.{mentions, IsSource}
use Rattle.p8_objects.specs.Projects.{IsIn, ClosesRing}
use Rattle.p8_objects.specs.Outcomes.{Outcome, project, refused, missing, failed, HasBytes}

-- the first file has this name
pub record IsFirstFile (top : List ℕ) (files : List NamedSource) : Type 0 where
  pub file : NamedSource
  pub stands : IsAt files 0 file
  pub named : file.name ≡ top

-- no two files have one name
abbrev pub AreDistinct : List NamedSource → Type 0
AreDistinct files = (i j : ℕ) (f g : NamedSource) → IsAt files i f → IsAt files j g → f.name ≡ g.name → i ≡ j

-- the file of each mention is among them
abbrev pub HaveMentioned : List NamedSource → Type 0
HaveMentioned files = (i k : ℕ) (f : NamedSource) (x : Child) → IsAt files i f → IsAt (mentions f.tree) k x → IsIn files x.file

-- no mention leads back to the file in which it stands
abbrev pub HaveNoRing : List NamedSource → Type 0
HaveNoRing files = (i k : ℕ) (f : NamedSource) (x : Child) → IsAt files i f → IsAt (mentions f.tree) k x → ¬ ClosesRing files f x

-- some bytes of the shelf are this file's, and a source with its tree
pub record IsReadFrom (shelf : Files) (f : NamedSource) : Type 0 where
  pub bytes : List ℕ
  pub has : HasBytes shelf f.name bytes
  pub source : IsSource bytes f.tree

abbrev pub AreReadFrom : Files → List NamedSource → Type 0
AreReadFrom shelf files = (i : ℕ) (f : NamedSource) → IsAt files i f → IsReadFrom shelf f

-- these are the bytes of these files, one after the other
abbrev pub AreSources : Files → List NamedSource → (sources : List (List ℕ)) → Type 0
AreSources shelf [] [] = Unit {0}
AreSources shelf (f ∷ files) (bytes ∷ sources) = HasBytes shelf f.name bytes × IsSource bytes f.tree × AreSources shelf files sources
AreSources shelf _ _ = ⊥

-- one of these files has this name and these bytes, by the texts that stand beside them
pub record HasText (files : List NamedSource) (sources : List (List ℕ)) (file : ReadFile) : Type 0 where
  pub number : ℕ
  pub source : NamedSource
  pub stands : IsAt files number source
  pub named : source.name ≡ file.name
  pub text : IsAt sources number file.bytes

-- each tree is so
abbrev pub EachTree : (Source → Type 0) → List NamedSource → Type 0
EachTree P files = (i : ℕ) (f : NamedSource) → IsAt files i f → P f.tree

-- an outcome that isn't a fault of the shelf
abbrev pub IsOfFiles : Outcome → Type 0
IsOfFiles (project files) = Unit {0}
IsOfFiles (refused file f) = Unit {0}
IsOfFiles (missing file mention) = Unit {0}
IsOfFiles (failed file) = ⊥
