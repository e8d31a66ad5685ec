-- Which files gathering a project reads, in which order (this project's profile).
use Rattle.std.specs.Prelude.{ℕ, List, [], ◌∷◌, ◌++◌, map}
use Rattle.p8_tree.specs.Sources.{Source}
use Rattle.p8_tree.specs.Projects.{NamedSource}
use Rattle.p8_io.specs.Shelves.{Files, Log, WereRead}
use Rattle.p8_objects.specs.Sources.{IsSource}
use Rattle.p8_objects.specs.Projects.{Calls, read}
use Rattle.p8_objects.specs.Outcomes.{HasBytes, named}

-- With these files so far, gathering reads the files of these names next, one after the other, as far as it goes: each is the one that the files
-- before it call for, and all but the last one are sources.
pub data ReadsNext (shelf : Files) (top : List ℕ) : List NamedSource → (names : List (List ℕ)) → Type 0 where
  no_more : {files : List NamedSource} → ReadsNext shelf top files []
  last : {files : List NamedSource} (name : List ℕ) → Calls top files (read name) → ReadsNext shelf top files (name ∷ [])
  one_more : {files : List NamedSource} {names : List (List ℕ)} (name bytes : List ℕ) (s : Source) → Calls top files (read name) →
      HasBytes shelf name bytes → IsSource bytes s
      → ReadsNext shelf top (files ++ named name s ∷ []) names → ReadsNext shelf top files (name ∷ names)

-- what was read between two logs is a beginning of what gathering the project of a top file reads
abbrev pub ReadsInOrder : Files → (top : List ℕ) → (before now : Log) → Type 0
ReadsInOrder shelf top before now = (names : List (List ℕ)) × WereRead before now names × ReadsNext shelf top [] names

abbrev pub names_of : List NamedSource → List (List ℕ)
names_of files = map (λ file. file.name) files

-- what was read between two logs are the files of a project, each once, in their order
abbrev pub AreAllRead : List NamedSource → (before now : Log) → Type 0
AreAllRead files before now = WereRead before now (names_of files)
