-- What building a gathered project comes to.
use Rattle.std.proofs.Common.{◌≡◌, ℕ, Bool, true, false, List, Option, ap, sym, refl, subst}
use Rattle.std.specs.Prelude.{[], ◌∷◌, map}
use Rattle.p8_tree.specs.declared.projects.ProjectFile.{ProjectFile}
use Rattle.p8_tree.specs.Views.{named_source_of}
use Rattle.p8_tree.specs.Projects.{NamedSource}
use Rattle.p8_io.specs.Shelves.{Files}
use Rattle.p8_objects.specs.Growing.{IsProjectOf}
use Rattle.p8_objects.specs.Projects.{IsIn}
use Rattle.p8_inputs.specs.declared.program.Format.TheVariants.{Source}
use Rattle.p8_inputs.specs.declared.stop.Stop.{Stop}
use Rattle.p8_inputs.specs.declared.stop.Stop.TheVariants.{Unread, Missing, NoMemory, Refused, BadProgram, BadScript, Unnamed}
use Rattle.p8_objects.specs.declared.fault.ReadFile.{ReadFile}
use Rattle.p8_objects.specs.Whole.{AreSources, EachTree, HasText}
use Rattle.p8_objects.proofs.Sourcing.{text-read}
use Rattle.p8_tree.specs.Proper.{IsProperFile}
use Rattle.p8_image.specs.Loading.{ImageValue}
use Rattle.p8_build.specs.declared.building.Built.{Built}
use Rattle.p8_tree.specs.declared.faults.Fault.{Fault}
use Rattle.p8_build.specs.declared.sizes.Size.{Size}
use Rattle.p8_build.specs.Builds.{IsRefusedWith}
use Rattle.p8_build.specs.Sizes.{IsMeasured}
use Rattle.p8_build.specs.Told.{IsImageBuilt, IsBuiltTo}
use Rattle.p8_legend.specs.declared.legend.Legend.{Legend}
use Rattle.p8_map.specs.Projects.{IsMapOf}
use Rattle.p8_hint.specs.Projects.{IsHintsOf}
use Rattle.p8_legend.specs.Projects.{IsLegendOf}
use Rattle.p8_opt.specs.Shorts.{IsShortImageBuilt, IsShortBuiltTo}
use Rattle.p8_inputs.specs.Gathered.{StopsAtBuilding, IsImageBuiltBy, AreBuiltBy, IsListingOf}
use Rattle.p8_inputs.specs.Runs.{HasProperTrees}
use Rattle.p8_page.specs.Page.{Block}
use Rattle.p8_inputs.specs.Sources.{IsImageFrom, IsListingFrom, IsCodeBy, IsCodeFrom, IsMapFrom, IsHintsFrom, IsProjectLegend, AreBlocksOf, AreProjectBlocks, when_built}
use Rattle.p8_inputs.specs.Asks.{StopsAtProgram}

-- what is built is built by the choice
pub long-image : (sources : List NamedSource) (image : ImageValue) → IsImageBuilt sources image → IsImageBuiltBy false sources image
long-image sources image is = ((is.0.clock, is.0.objects, is.0.built, is.0.is), is.1)

pub short-image : (sources : List NamedSource) (image : ImageValue) → IsShortImageBuilt sources image → IsImageBuiltBy true sources image
short-image sources image is = ((is.0.clock, is.0.objects, is.0.built, is.0.is), is.1)

pub long-parts : (sources : List NamedSource) (built : Built) → IsBuiltTo sources built → AreBuiltBy false sources built.objects
long-parts sources built is = (is.clock, is.built)

pub short-parts : (sources : List NamedSource) (built : Built) → IsShortBuiltTo sources built → AreBuiltBy true sources built.objects
short-parts sources built is = (is.clock, is.built)

module _ (files : Files) (short : Bool) (top : List ℕ) (sources : List NamedSource) (gathered : IsProjectOf files top sources) where
  pub image-from : EachTree IsProperFile sources → (image : ImageValue) → IsImageBuiltBy short sources image → HasProperTrees files (Source short) top image.file
  image-from proper image is =
      (sources, is.0.0, is.0.1, record { gathered = gathered; built = is.0.2 }, λ i f stands. proper i f (record { is = stands }), is.0.3)

  pub listing-from : (text : List ℕ) → IsListingOf short sources text → IsListingFrom files short top text
  listing-from text is = (sources, is.0, is.1, record { gathered = gathered; built = is.2 }, is.3)

  pub code-from : (texts : List (List ℕ)) → AreSources files sources texts → (text : List ℕ) → IsCodeBy short texts sources text → IsCodeFrom files short top text
  code-from texts are text is = (sources, gathered, texts, are, is)

  pub map-from : (texts : List (List ℕ)) → AreSources files sources texts → (text : List ℕ) → IsMapOf texts sources text → IsMapFrom files top text
  map-from texts are text is = (sources, gathered, texts, are, is)

  pub hints-from : (texts : List (List ℕ)) → AreSources files sources texts → (text : List ℕ) → IsHintsOf texts sources text → IsHintsFrom files top text
  hints-from texts are text is = (sources, gathered, texts, are, is)

  pub legend-from : (texts : List (List ℕ)) → AreSources files sources texts → (legend : Legend) → IsLegendOf texts sources legend → IsProjectLegend files top legend
  legend-from texts are legend is = (sources, gathered, texts, are, is)

  pub blocks-from : (texts : List (List ℕ)) → AreSources files sources texts → (blocks : List Block) → AreBlocksOf texts sources blocks → AreProjectBlocks files top blocks
  blocks-from texts are blocks is = (sources, gathered, texts, are, is)

  pub building-stops : (texts : List (List ℕ)) → AreSources files sources texts → (before now : ℕ) (stop : Stop) → StopsAtBuilding sources texts stop → StopsAtProgram files before now (Source short) top stop
  building-stops texts are before now (Refused file f size) (measured, has) = when_built sources gathered measured (text-read files sources texts file are has)
  building-stops texts are before now NoMemory stops = tt
  building-stops texts are before now (Unread name) stops = absurd stops
  building-stops texts are before now (Missing name mention) stops = absurd stops
  building-stops texts are before now (BadProgram name fault) stops = absurd stops
  building-stops texts are before now (BadScript name line) stops = absurd stops
  building-stops texts are before now (Unnamed file name) stops = absurd stops

-- the image of proper trees is an image of the project
pub image-of-project : (files : Files) (short : Bool) (top bytes : List ℕ) → HasProperTrees files (Source short) top bytes → IsImageFrom files short top bytes
image-of-project files short top bytes is = (is.0, is.1, is.2, is.3, is.5)

-- the names of a project's files
pub same-names : (files : List ProjectFile) → map (λ (source : NamedSource). source.name) (map named_source_of files) ≡ map (λ (file : ProjectFile). file.name) files
same-names [] = refl
same-names (file ∷ files) = ap (λ names. file.name ∷ names) (same-names files)

-- what is refused is a file of the project
pub refused-file : (sources : List NamedSource) (name : List ℕ) (f : Fault) → IsRefusedWith sources name f → IsIn sources name
refused-file sources name f refused = record { number = refused.refusal.file; element = refused.file; stands = record { is = refused.stands }; holds = sym refused.named }

-- a refusal with its size
pub measured-stop : (sources : List NamedSource) (texts : List (List ℕ)) (file : ReadFile) (name : List ℕ) (f : Fault) (size : Option Size) → IsMeasured sources name f size → file.name ≡ name
    → HasText sources texts file → StopsAtBuilding sources texts (Refused file f size)
measured-stop sources texts file name f size measured named has = (subst (λ (n : List ℕ). IsMeasured sources n f size) (sym named) measured, has)
