-- Which files the project of a top file is, on a shelf (Propeller Manual v1.2, "OBJ"; the order and the limits are this project's profile).
use Rattle.std.specs.Prelude.{ℕ, ◌<◌, List, [], ◌∷◌, ◌++◌, length}
use Rattle.p8_tree.specs.Sources.{Child, Source}
use Rattle.p8_tree.specs.Projects.{NamedSource, most_files}
use Rattle.p8_io.specs.Shelves.{Files}
use Rattle.p8_objects.specs.Lists.{HasOne}
use Rattle.p8_objects.specs.Sources.{IsSource}
use Rattle.p8_objects.specs.Projects.{IsIn, HasOpen, IsNext}
use Rattle.p8_objects.specs.Outcomes.{HasBytes, named}

-- With these files so far, a project grows to all of these: by the top file, then by the file of the mention that comes next, until no mention is open.
pub data GrowsTo (shelf : Files) (top : List ℕ) : (files all : List NamedSource) → Type 0 where
  first_file : {all : List NamedSource} (bytes : List ℕ) (s : Source) → HasBytes shelf top bytes → IsSource bytes s
      → GrowsTo shelf top (named top s ∷ []) all → GrowsTo shelf top [] all
  new_file : {files all : List NamedSource} (f : NamedSource) (x : Child) (bytes : List ℕ) (s : Source)
      → IsNext files f x → ¬ IsIn files x.file → length files < most_files → HasBytes shelf x.file bytes → IsSource bytes s
      → GrowsTo shelf top (files ++ named x.file s ∷ []) all → GrowsTo shelf top files all
  whole : {files : List NamedSource} → 0 < length files → ¬ HasOne (HasOpen files) files → GrowsTo shelf top files files

-- these are the files of the project of a top file
abbrev pub IsProjectOf : Files → (top : List ℕ) → List NamedSource → Type 0
IsProjectOf shelf top files = GrowsTo shelf top [] files
