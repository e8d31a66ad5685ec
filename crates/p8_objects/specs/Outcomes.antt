-- What gathering a project from a shelf comes to (this project's profile).
use Rattle.std.specs.Prelude.{ℕ, ◌≡◌, ◌⊎◌, List, [], ◌∷◌, ◌++◌, Option, Some, None, Result, Ok, Err}
use Rattle.std.specs.Str.{IsUtf8}
use Rattle.p8_tree.specs.declared.faults.Fault.{Fault}
use Rattle.p8_tree.specs.Sources.{Child, Source}
use Rattle.p8_tree.specs.Projects.{NamedSource}
use Rattle.p8_tree.specs.Views.{named_sources_of}
use Rattle.p8_io.specs.Counts.{Rose}
use Rattle.p8_io.specs.Shelves.{Files, IsRead, IsLacking}
use Rattle.p8_objects.specs.declared.fault.Mention.{Mention}
use Rattle.p8_objects.specs.declared.fault.ReadFile.{ReadFile}
use Rattle.p8_objects.specs.declared.gathered.Gathered.{Gathered}
use Rattle.p8_objects.specs.declared.fault.GatherFault.{GatherFault}
use Rattle.p8_objects.specs.declared.fault.GatherFault.TheVariants as gather_case
use Rattle.p8_objects.specs.Sources.{IsSource, IsRefused}
use Rattle.p8_objects.specs.Projects.{IsNext, Calls, read, refuse, nothing}

-- a shelf as a call sees it from outside: its files, and its count of faults before and now
pub record Shelved : Type 0 where
  pub files : Files
  pub before : ℕ
  pub now : ℕ

abbrev pub shelved : Files → ℕ → ℕ → Shelved
shelved files before now = record { files = files; before = before; now = now }

-- these are the bytes of the file of this name, as far as they are read; a name is UTF-8
abbrev pub HasBytes : Files → List ℕ → List ℕ → Type 0
HasBytes files name bytes = IsUtf8 name × IsRead files name bytes

-- a file of this name with these bytes
abbrev pub read_as : (name bytes : List ℕ) → ReadFile
read_as name bytes = record { name = name; bytes = bytes }

-- the file has these bytes, as far as they are read
abbrev pub WasRead : Files → ReadFile → Type 0
WasRead files file = HasBytes files file.name file.bytes

-- no file of this name is there
abbrev pub IsAbsent : Shelved → List ℕ → Type 0
IsAbsent shelf name = (¬ IsUtf8 name) ⊎ IsLacking shelf.before shelf.now shelf.files name

-- an item of OBJ in this file mentions its file here
abbrev pub mention_in : ReadFile → Child → Mention
mention_in file x = record { file = file; place = x.file_place }

-- Where the file of this name is mentioned that is read next: what comes next mentions it, in a file with these bytes. The top file is mentioned nowhere.
abbrev pub IsMentionedAt : Files → List NamedSource → (name : List ℕ) → Option Mention → Type 0
IsMentionedAt shelf files name None = files ≡ []
IsMentionedAt shelf files name (Some mention) =
    (f : NamedSource) × (x : Child) × (bytes : List ℕ) × IsNext files f x × (x.file ≡ name) × HasBytes shelf f.name bytes ×
    (mention ≡ mention_in (read_as f.name bytes) x)

pub data Outcome : Type 0 where
  project : List NamedSource → Outcome
  refused : ReadFile → Fault → Outcome
  missing : List ℕ → (mention : Option Mention) → Outcome
  failed : List ℕ → Outcome

abbrev pub named : List ℕ → Source → NamedSource
named name s = record { name = name; tree = s }

-- With these files so far, gathering comes to this.
pub data ComesTo (shelf : Shelved) (top : List ℕ) : List NamedSource → Outcome → Type 0 where
  -- the file that is read next is one more
  one_more : {files : List NamedSource} {o : Outcome} (name bytes : List ℕ) (s : Source) → Calls top files (read name) →
      HasBytes shelf.files name bytes → IsSource bytes s → ComesTo shelf top (files ++ named name s ∷ []) o → ComesTo shelf top files o
  -- or it is refused by itself, isn't there, which is told with its mention, or can't be read
  file_refused : {files : List NamedSource} (file : ReadFile) (f : Fault) → Calls top files (read file.name) → WasRead shelf.files file →
      IsRefused file.bytes f → ComesTo shelf top files (refused file f)
  absent : {files : List NamedSource} (name : List ℕ) (mention : Option Mention) → Calls top files (read name) →
      IsMentionedAt shelf.files files name mention → IsAbsent shelf name → ComesTo shelf top files (missing name mention)
  not_read : {files : List NamedSource} (name : List ℕ) → Calls top files (read name) → Rose shelf.before shelf.now → ComesTo shelf top files (failed name)
  -- a mention is refused, or there is nothing more to read
  mention_refused : {files : List NamedSource} (file : ReadFile) (f : Fault) → Calls top files (refuse file.name f) → WasRead shelf.files file →
      ComesTo shelf top files (refused file f)
  whole : {files : List NamedSource} → Calls top files nothing → ComesTo shelf top files (project files)

-- what gathering the project of a top file comes to
abbrev pub Gathers : Shelved → List ℕ → Outcome → Type 0
Gathers shelf top o = ComesTo shelf top [] o

-- each answer with its cause; want of memory is free
abbrev pub Answers : Shelved → List ℕ → Result Gathered GatherFault → Type 0
Answers shelf top (Ok g) = Gathers shelf top (project (named_sources_of g.project))
Answers shelf top (Err (gather_case.Source file f)) = Gathers shelf top (refused file f)
Answers shelf top (Err (gather_case.Missing file mention)) = Gathers shelf top (missing file mention)
Answers shelf top (Err (gather_case.ShelfFault file)) = Gathers shelf top (failed file)
Answers shelf top (Err gather_case.NoMemory) = Unit {0}
