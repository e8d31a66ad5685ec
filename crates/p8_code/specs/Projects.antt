-- The code of a project for reading, by its sources (this project's profile).
use Rattle.std.specs.Prelude.{◌≡◌, ℕ, List, [], ◌∷◌, Some}
use Rattle.p8_tree.specs.Projects.{NamedSource}
use Rattle.p8_kinds.specs.declared.children.Children.{Children}
use Rattle.p8_names.specs.Children.{AreChildren}
use Rattle.p8_image.specs.declared.clocks.Clock.{Clock}
use Rattle.p8_image.specs.Layout.{header_by}
use Rattle.p8_image.specs.Projects.{FitsHub}
use Rattle.p8_build.specs.Files.{CompiledFile, setting_of, line_begins}
use Rattle.p8_build.specs.Builds.{AreCompiled, objects_of, clock_by}
use Rattle.p8_map.specs.Projects.{names_of}
use Rattle.p8_opt.specs.Shorts.{AreShort}
use Rattle.p8_code.specs.Sources.{lines_of}
use Rattle.p8_code.specs.Listing.{FileCode, code_of}

-- what is known of each file, of these bytes, beside its names
abbrev pub file_codes : (sources : List (List ℕ)) → List NamedSource → List Children → List CompiledFile → List FileCode
file_codes (bytes ∷ sources) (file ∷ files) (seen ∷ children) (x ∷ xs) =
    record { source = lines_of bytes; lines = line_begins (setting_of seen x) file.tree; methods = x.codes } ∷ file_codes sources files children xs
file_codes _ _ _ _ = []

-- the project is accepted, and this is its code, by the names and the lines of its files, whose bytes these are
pub record IsCodeOf (sources : List (List ℕ)) (files : List NamedSource) (text : List ℕ) : Type 0 where
  pub children : List Children
  pub seen : AreChildren files children
  pub compiled : List CompiledFile
  pub each : AreCompiled files children compiled
  pub clock : Clock
  pub clock_is : clock_by compiled ≡ Some clock
  pub fits : FitsHub (header_by (objects_of files children compiled))
  pub is : text ≡ code_of (names_of sources files children compiled) (objects_of files children compiled) (file_codes sources files children compiled)

-- the same of the project with short code: its names and lines are those of the files as they stand
pub record IsShortCodeOf (sources : List (List ℕ)) (files : List NamedSource) (text : List ℕ) : Type 0 where
  pub children : List Children
  pub seen : AreChildren files children
  pub compiled : List CompiledFile
  pub each : AreCompiled files children compiled
  pub clock : Clock
  pub clock_is : clock_by compiled ≡ Some clock
  pub fits : FitsHub (header_by (objects_of files children compiled))
  pub short : List CompiledFile
  pub shorter : AreShort files children compiled short
  pub is : text ≡ code_of (names_of sources files children compiled) (objects_of files children short) (file_codes sources files children short)
