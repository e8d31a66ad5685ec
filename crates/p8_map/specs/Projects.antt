-- The map of a project, by its sources (this project's profile).
use Rattle.std.specs.Prelude.{◌≡◌, ℕ, List, [], ◌∷◌, Some}
use Rattle.p8_tree.specs.Projects.{NamedSource}
use Rattle.p8_kinds.specs.declared.children.Children.{Children}
use Rattle.p8_names.specs.Children.{AreChildren}
use Rattle.p8_image.specs.declared.clocks.Clock.{Clock}
use Rattle.p8_image.specs.Layout.{header_by, image_of}
use Rattle.p8_image.specs.Projects.{FitsHub}
use Rattle.p8_map.specs.declared.names.FileNames.{FileNames}
use Rattle.p8_map.specs.Names.{file_names}
use Rattle.p8_lexer.specs.Spelling.{text_in}
use Rattle.p8_map.specs.Map.{map_of}
use Rattle.p8_build.specs.Files.{CompiledFile, setting_of}
use Rattle.p8_build.specs.Builds.{AreCompiled, objects_of, clock_by}

-- the names of each file, of these bytes, with the constants that it sees and the labels of its DAT
abbrev pub names_of : (sources : List (List ℕ)) → List NamedSource → List Children → List CompiledFile → List FileNames
names_of (bytes ∷ sources) (file ∷ files) (seen ∷ children) (x ∷ xs) = file_names (text_in bytes) file (setting_of seen x) x.labels ∷
    names_of sources files children xs
names_of _ _ _ _ = []

-- the project is accepted, and this is the map of its image, by the names of its files, whose bytes these are
pub record IsMapOf (sources : List (List ℕ)) (files : List NamedSource) (text : List ℕ) : Type 0 where
  pub children : List Children
  pub seen : AreChildren files children
  pub compiled : List CompiledFile
  pub each : AreCompiled files children compiled
  pub clock : Clock
  pub clock_is : clock_by compiled ≡ Some clock
  pub fits : FitsHub (header_by (objects_of files children compiled))
  pub is : text ≡ map_of (image_of clock (objects_of files children compiled)) (names_of sources files children compiled) (objects_of files children compiled)
