-- internal: what is found at the mentions of a file.
use Rattle.std.specs.Prelude.{◌≡◌, ℕ, ◌≤◌, ◌⊎◌, List, length, map}
use Rattle.p8_tree.specs.declared.places.Place.{Place}
use Rattle.p8_tree.specs.declared.projects.ProjectFile.{ProjectFile}
use Rattle.p8_tree.specs.Sources.{Child, Source}
use Rattle.p8_tree.specs.Projects.{NamedSource, most_files}
use Rattle.p8_tree.specs.Views.{named_source_of}
use Rattle.p8_tree.specs.declared.refusal.Refusal.TheVariants.{Cycle, TooManyObjects}
use Rattle.p8_tree.specs.declared.faults.Fault.{Fault}
use Rattle.p8_tree.specs.Faults.{fault}
use Rattle.p8_objects.specs.declared.fault.GatherFault.{GatherFault}
use Rattle.p8_objects.specs.declared.fault.ReadFile.{ReadFile}
use Rattle.p8_objects.specs.declared.fault.GatherFault.TheVariants as gather_case
use Rattle.p8_objects.specs.Lists.{IsAt}
use Rattle.p8_objects.specs.Sources.{mentions, most_objects}
use Rattle.p8_objects.specs.Projects.{IsIn}

-- the files so far
abbrev pub sources_of : List ProjectFile → List NamedSource
sources_of files = map named_source_of files

-- the file of this number has this name
pub record HasName (files : List NamedSource) (i : ℕ) (name : List ℕ) : Type 0 where
  pub file : NamedSource
  pub stands : IsAt files i file
  pub named : file.name ≡ name

-- the first item of OBJ too many stands here
pub record HasTooMany (s : Source) (place : Place) : Type 0 where
  pub item : Child
  pub stands : IsAt (mentions s) most_objects item
  pub there : item.place ≡ place

-- the file is refused so
abbrev pub IsSourceFault : ReadFile → Fault → GatherFault → Type 0
IsSourceFault file f (gather_case.Source other g) = (other ≡ file) × (g ≡ f)
IsSourceFault file f gather_case.NoMemory = Unit {0}
IsSourceFault file f _ = ⊥

-- why a mention in the file is refused: its file is among these, or there are too many of them
abbrev pub IsMentionFault : List NamedSource → ReadFile → Child → GatherFault → Type 0
IsMentionFault files file x (gather_case.Source other f) =
    (other ≡ file) × (((f ≡ fault Cycle x.file_place) × IsIn files x.file) ⊎
    ((f ≡ fault TooManyObjects x.place) × (¬ IsIn files x.file) × (most_files ≤ length files)))
IsMentionFault files file x gather_case.NoMemory = Unit {0}
IsMentionFault files file x _ = ⊥
