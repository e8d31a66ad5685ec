-- What a call that builds a project gives, and what it tells where it doesn't.
use Rattle.std.specs.Prelude.{◌≡◌, ℕ, List}
use Rattle.p8_tree.specs.Projects.{NamedSource}
use Rattle.p8_image.specs.declared.clocks.Clock.{Clock}
use Rattle.p8_image.specs.declared.parts.ObjectPart.{ObjectPart}
use Rattle.p8_image.specs.Layout.{image_of}
use Rattle.p8_image.specs.Loading.{ImageValue, image_in}
use Rattle.p8_build.specs.declared.building.Built.{Built}
use Rattle.p8_build.specs.declared.fault.BuildFault.{BuildFault}
use Rattle.p8_build.specs.declared.fault.BuildFault.TheVariants as build_case
use Rattle.p8_build.specs.Builds.{IsBuilt}
use Rattle.p8_build.specs.Sizes.{IsMeasured}

-- the project is built to these objects, and the image is theirs
pub record IsBuiltTo (files : List NamedSource) (b : Built) : Type 0 where
  pub clock : Clock
  pub built : IsBuilt files clock b.objects
  pub image : b.image ≡ image_in (image_of clock b.objects)

-- this is the image of the project, as a `.binary` file
pub record IsImageOf (files : List NamedSource) (image : List ℕ) : Type 0 where
  pub clock : Clock
  pub objects : List ObjectPart
  pub built : IsBuilt files clock objects
  pub is : image ≡ image_of clock objects

-- this image is that of the project
abbrev pub IsImageBuilt : List NamedSource → ImageValue → Type 0
IsImageBuilt files image = IsImageOf files image.file × (image ≡ image_in image.file)

-- the project's first refusal, and how large what it tells is; want of memory tells nothing
abbrev pub IsRefusal : List NamedSource → BuildFault → Type 0
IsRefusal files (build_case.Source file fault size) = IsMeasured files file fault size
IsRefusal files build_case.NoMemory = Unit {0}
