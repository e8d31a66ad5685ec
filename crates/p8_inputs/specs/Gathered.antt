-- internal
-- What is known of a project that was gathered from a shelf, and why there is none, or no image of it.
use Rattle.std.specs.Prelude.{ℕ, ◌≡◌, ◌<◌, ◌≤◌, Bool, List, length, map}
use Rattle.p8_tree.specs.Projects.{NamedSource, most_files}
use Rattle.p8_tree.specs.Proper.{IsProperFile}
use Rattle.p8_image.specs.declared.clocks.Clock.{Clock}
use Rattle.p8_image.specs.declared.parts.ObjectPart.{ObjectPart}
use Rattle.p8_io.specs.Shelves.{Files}
use Rattle.p8_objects.specs.Growing.{IsProjectOf}
use Rattle.p8_objects.specs.Whole.{AreDistinct, HaveMentioned, HaveNoRing, EachTree, HasText}
use Rattle.p8_image.specs.Layout.{image_of}
use Rattle.p8_image.specs.Loading.{ImageValue, image_in}
use Rattle.p8_build.specs.Sizes.{IsMeasured}
use Rattle.p8_image.specs.Listing.{listing_of}
use Rattle.p8_inputs.specs.Sources.{IsBuiltBy}
use Rattle.p8_inputs.specs.declared.stop.Stop.{Stop}
use Rattle.p8_inputs.specs.declared.stop.Stop.TheVariants as stop

-- what is so of each project
pub record IsWhole (sources : List NamedSource) : Type 0 where
  pub some : 0 < length sources
  pub few : length sources ≤ most_files
  pub distinct : AreDistinct sources
  pub mentioned : HaveMentioned sources
  pub no_ring : HaveNoRing sources
  pub proper : EachTree IsProperFile sources

-- these files are the project of a top file
pub record IsProject (files : Files) (top : List ℕ) (sources : List NamedSource) : Type 0 where
  pub gathered : IsProjectOf files top sources
  pub whole : IsWhole sources

-- this image is that of a project
abbrev pub IsImageBuiltBy : (short : Bool) → List NamedSource → ImageValue → Type 0
IsImageBuiltBy short sources image =
    ((clock : Clock) × (objects : List ObjectPart) × IsBuiltBy short sources clock objects × (image.file ≡ image_of clock objects)) ×
    (image ≡ image_in image.file)

-- a project is built to these objects
abbrev pub AreBuiltBy : (short : Bool) → List NamedSource → List ObjectPart → Type 0
AreBuiltBy short sources objects = (clock : Clock) × IsBuiltBy short sources clock objects

-- this text is the listing of a project
abbrev pub IsListingOf : (short : Bool) → List NamedSource → List ℕ → Type 0
IsListingOf short sources text =
    (clock : Clock) × (objects : List ObjectPart) × IsBuiltBy short sources clock objects × (text ≡ listing_of (map (λ source. source.name) sources) objects)

-- why a project isn't built whose files have these texts
abbrev pub StopsAtBuilding : List NamedSource → (texts : List (List ℕ)) → Stop → Type 0
StopsAtBuilding sources texts (stop.Refused file f size) = IsMeasured sources file.name f size × HasText sources texts file
StopsAtBuilding sources texts stop.NoMemory = Unit {0}
StopsAtBuilding sources texts _ = ⊥
