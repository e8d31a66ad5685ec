-- internal: what reading one file of a shelf answers.
use Rattle.std.specs.Prelude.{ℕ, ◌≡◌, ◌⊎◌, List, [], ◌∷◌, ◌++◌, Result, Ok, Err}
use Rattle.std.specs.declared.vec.Vec.{Vec}
use Rattle.std.specs.declared.alloc.Global.{Global}
use Rattle.p8_tree.specs.declared.projects.ProjectFile.{ProjectFile}
use Rattle.p8_tree.specs.Sources.{Source}
use Rattle.p8_tree.specs.Views.{source_of}
use Rattle.p8_tree.specs.Proper.{IsProperFile}
use Rattle.p8_io.specs.Counts.{Rose}
use Rattle.p8_io.specs.Shelves.{Files, Log, WereRead}
use Rattle.p8_io.specs.declared.shelf.ShelfError.{ShelfError}
use Rattle.p8_io.specs.declared.shelf.ShelfError.TheVariants.{Missing, Failed, NoMemory}
use Rattle.p8_objects.specs.declared.next.Wanted.{Wanted}
use Rattle.p8_objects.specs.declared.fault.GatherFault.{GatherFault}
use Rattle.p8_objects.specs.declared.fault.GatherFault.TheVariants as gather_case
use Rattle.p8_objects.specs.Sources.{IsSource, IsRefused}
use Rattle.p8_objects.specs.Outcomes.{Shelved, HasBytes, IsAbsent, WasRead}

-- the file of this name was read once between two logs, or nothing was
abbrev pub MayBeRead : List ℕ → (before now : Log) → Type 0
MayBeRead name before now = WereRead before now [] ⊎ WereRead before now (name ∷ [])

-- reading the bytes of the file of this name answers so
abbrev pub IsRead : Shelved → List ℕ → Result (Vec ℕ Global) ShelfError → Type 0
IsRead shelf name (Ok bytes) = HasBytes shelf.files name bytes.items
IsRead shelf name (Err Missing) = IsAbsent shelf name
IsRead shelf name (Err Failed) = Rose shelf.before shelf.now
IsRead shelf name (Err NoMemory) = Unit {0}

-- the file of this name with the tree of its bytes
pub record IsFileOf (shelf : Shelved) (name : List ℕ) (file : ProjectFile) : Type 0 where
  pub named : file.name ≡ name
  pub bytes : List ℕ
  pub has : HasBytes shelf.files name bytes
  pub source : IsSource bytes (source_of file.tree)
  pub proper : IsProperFile (source_of file.tree)

-- the bytes of the file of this name, whose tree this is, are put behind those of others
pub record AreKept (shelf : Files) (name : List ℕ) (tree : Source) (before now : List (List ℕ)) : Type 0 where
  pub bytes : List ℕ
  pub has : HasBytes shelf name bytes
  pub source : IsSource bytes tree
  pub behind : now ≡ before ++ bytes ∷ []

-- why the file that is asked for has no tree
abbrev pub IsFileFault : Shelved → Wanted → GatherFault → Type 0
IsFileFault shelf asked (gather_case.Source file f) = (file.name ≡ asked.name) × WasRead shelf.files file × IsRefused file.bytes f
IsFileFault shelf asked (gather_case.Missing file mention) = (file ≡ asked.name) × IsAbsent shelf asked.name × (mention ≡ asked.mention)
IsFileFault shelf asked (gather_case.ShelfFault file) = (file ≡ asked.name) × Rose shelf.before shelf.now
IsFileFault shelf asked gather_case.NoMemory = Unit {0}
