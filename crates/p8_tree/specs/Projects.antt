-- The files of a project.
use Rattle.std.specs.Prelude.{ℕ, List}
use Rattle.p8_tree.specs.Sources.{Source}

-- a file's name and its tree
pub record NamedSource : Type 0 where
  pub name : List ℕ
  pub tree : Source

-- how many files a project may have
abbrev pub most_files : ℕ
most_files = 255
