-- The hints of a project, by its sources (this project's profile).
use Rattle.std.specs.Prelude.{◌≡◌, ℕ, List, Some}
use Rattle.p8_tree.specs.Projects.{NamedSource}
use Rattle.p8_kinds.specs.declared.children.Children.{Children}
use Rattle.p8_names.specs.Children.{AreChildren}
use Rattle.p8_image.specs.declared.clocks.Clock.{Clock}
use Rattle.p8_image.specs.Layout.{header_by}
use Rattle.p8_image.specs.Projects.{FitsHub}
use Rattle.p8_build.specs.Files.{CompiledFile}
use Rattle.p8_build.specs.Builds.{AreCompiled, objects_of, clock_by}
use Rattle.p8_hint.specs.Hints.{hints_of}

-- the project is accepted, and this text has the hints of its files, whose bytes these are
pub record IsHintsOf (sources : List (List ℕ)) (files : List NamedSource) (text : List ℕ) : Type 0 where
  pub children : List Children
  pub seen : AreChildren files children
  pub compiled : List CompiledFile
  pub each : AreCompiled files children compiled
  pub clock : Clock
  pub clock_is : clock_by compiled ≡ Some clock
  pub fits : FitsHub (header_by (objects_of files children compiled))
  pub is : text ≡ hints_of sources files children compiled
