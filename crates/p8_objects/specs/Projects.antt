-- Which files a project has (Propeller Manual v1.2, "OBJ"; the order and the limits are this project's profile).
--
-- A project grows by one file at a time; its top file is the first. Of the files so far, the last one that has an open
-- mention says what comes next: its first open mention. A mention is open where its file isn't among the files so far, or
-- where it closes a ring of mentions. So a mentioned file, with all that it mentions, comes before the next mention is
-- looked at, and no file comes twice.
use Rattle.std.specs.Prelude.{◌≡◌, ℕ, ◌<◌, ◌≤◌, ◌⊎◌, List, [], length}
use Rattle.p8_tree.specs.Sources.{Child}
use Rattle.p8_tree.specs.Projects.{NamedSource, most_files}
use Rattle.p8_tree.specs.declared.refusal.Refusal.TheVariants.{Cycle, TooManyObjects}
use Rattle.p8_tree.specs.declared.faults.Fault.{Fault}
use Rattle.p8_tree.specs.Faults.{fault}
use Rattle.p8_objects.specs.Lists.{HasOne, IsFirst, IsLast}
use Rattle.p8_objects.specs.Sources.{mentions}

-- a file of this name is among these
abbrev pub IsIn : List NamedSource → List ℕ → Type 0
IsIn files name = HasOne (λ f. f.name ≡ name) files

-- a file of one name is among these, and mentions the file of the other
abbrev pub Mentions : List NamedSource → List ℕ → List ℕ → Type 0
Mentions files one other = HasOne (λ f. (f.name ≡ one) × HasOne (λ x. x.file ≡ other) (mentions f.tree)) files

-- from the file of one name, mentions lead to that of the other
pub data Leads (files : List NamedSource) : List ℕ → List ℕ → Type 0 where
  there : {name : List ℕ} → Leads files name name
  over : {one between other : List ℕ} → Mentions files one between → Leads files between other → Leads files one other

-- the mention closes a ring: its file leads back to the one in which it stands
abbrev pub ClosesRing : List NamedSource → NamedSource → Child → Type 0
ClosesRing files f x = Leads files x.file f.name

-- a mention in a file is open
abbrev pub IsOpen : List NamedSource → NamedSource → Child → Type 0
IsOpen files f x = (¬ IsIn files x.file) ⊎ ClosesRing files f x

abbrev pub HasOpen : List NamedSource → NamedSource → Type 0
HasOpen files f = HasOne (IsOpen files f) (mentions f.tree)

-- what comes next is this mention in this file
pub record IsNext (files : List NamedSource) (f : NamedSource) (x : Child) : Type 0 where
  pub file : IsLast (HasOpen files) files f
  pub mention : IsFirst (IsOpen files f) (mentions f.tree) x

-- what files call for: that another one is read, that a file is refused, or nothing more
pub data Call : Type 0 where
  read : List ℕ → Call
  refuse : List ℕ → Fault → Call
  nothing : Call

-- The files so far call for this.
pub data Calls (top : List ℕ) (files : List NamedSource) : Call → Type 0 where
  first_file : files ≡ [] → Calls top files (read top)
  new_file : (f : NamedSource) (x : Child) → IsNext files f x → ¬ IsIn files x.file → length files < most_files → Calls top files (read x.file)
  file_too_many : (f : NamedSource) (x : Child) → IsNext files f x → ¬ IsIn files x.file → most_files ≤ length files →
      Calls top files (refuse f.name (fault TooManyObjects x.place))
  ring : (f : NamedSource) (x : Child) → IsNext files f x → ClosesRing files f x → Calls top files (refuse f.name (fault Cycle x.file_place))
  whole : 0 < length files → ¬ HasOne (HasOpen files) files → Calls top files nothing
