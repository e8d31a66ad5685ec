-- The codes that an accepted project has with short code.
use Rattle.std.specs.Prelude.{◌≡◌, List, [], ◌∷◌, length}
use Rattle.p8_tree.specs.Projects.{NamedSource}
use Rattle.p8_stmt.specs.declared.code.MethodCode.{MethodCode}
use Rattle.p8_build.specs.declared.accepting.AcceptedFile.{AcceptedFile}
use Rattle.p8_build.specs.declared.building.Accepted.{Accepted}
use Rattle.p8_build.specs.Accepted.{compiled_files, recoded_file}
use Rattle.p8_build.specs.Files.{CompiledFile}
use Rattle.p8_build.specs.Builds.{objects_of}
use Rattle.p8_opt.specs.declared.building.Shortened.{Shortened}
use Rattle.p8_opt.specs.Shorts.{AreShort}

-- what the files are compiled to, with these codes of each one's methods
abbrev pub recoded_files : List AcceptedFile → List (List MethodCode) → List CompiledFile
recoded_files (f ∷ fs) (codes ∷ others) = recoded_file f codes ∷ recoded_files fs others
recoded_files _ _ = []

-- these codes are the short ones of an accepted project, and it is built with them
pub record IsShortened (files : List NamedSource) (a : Accepted) (s : Shortened) : Type 0 where
  pub count : length s.codes ≡ length a.files
  pub shorter : AreShort files a.children (compiled_files a) (recoded_files a.files s.codes)
  pub objects_are : s.built.objects ≡ objects_of files a.children (recoded_files a.files s.codes)
