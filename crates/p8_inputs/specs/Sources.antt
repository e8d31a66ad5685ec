-- Sources on a shelf: what the project of a top file is built to, or why there is no image of it (this project's profile).
use Rattle.std.specs.Prelude.{ℕ, ◌≡◌, Bool, true, false, List, Option, Some, None, [], ◌∷◌, ◌++◌, map}
use Rattle.p8_tree.specs.Projects.{NamedSource}
use Rattle.p8_tree.specs.declared.faults.Fault.{Fault}
use Rattle.p8_image.specs.declared.clocks.Clock.{Clock}
use Rattle.p8_image.specs.declared.parts.ObjectPart.{ObjectPart}
use Rattle.p8_image.specs.Layout.{image_of}
use Rattle.p8_io.specs.Shelves.{Files}
use Rattle.p8_legend.specs.declared.legend.Legend.{Legend}
use Rattle.p8_objects.specs.declared.fault.Mention.{Mention}
use Rattle.p8_objects.specs.declared.fault.ReadFile.{ReadFile}
use Rattle.p8_objects.specs.Outcomes.{Outcome, refused, missing, shelved, Gathers, WasRead}
use Rattle.p8_objects.specs.Growing.{IsProjectOf}
use Rattle.p8_objects.specs.Whole.{AreSources}
use Rattle.p8_build.specs.Builds.{IsBuilt}
use Rattle.p8_build.specs.Sizes.{IsMeasured}
use Rattle.p8_build.specs.declared.sizes.Size.{Size}
use Rattle.p8_map.specs.Projects.{IsMapOf}
use Rattle.p8_hint.specs.Projects.{IsHintsOf}
use Rattle.p8_code.specs.Projects.{IsCodeOf, IsShortCodeOf}
use Rattle.p8_legend.specs.Projects.{IsLegendOf}
use Rattle.p8_page.specs.Page.{Block, map_block, source_blocks}
use Rattle.p8_opt.specs.Shorts.{IsShortBuilt}
use Rattle.p8_image.specs.Listing.{listing_of}

-- gathering the project of a top file comes to this, whatever faults the shelf counts
abbrev pub GathersTo : Files → (top : List ℕ) → Outcome → Type 0
GathersTo files top outcome = (before now : ℕ) → Gathers (shelved files before now) top outcome

-- a project is built to an image with this clock and these objects, whose methods have their short code where it is short
abbrev pub IsBuiltBy : (short : Bool) → List NamedSource → Clock → List ObjectPart → Type 0
IsBuiltBy false sources clock objects = IsBuilt sources clock objects
IsBuiltBy true sources clock objects = IsShortBuilt sources clock objects

-- the project of a top file has these files, and is built so
pub record IsBuiltFrom (files : Files) (short : Bool) (top : List ℕ) (sources : List NamedSource) (clock : Clock) (objects : List ObjectPart) : Type 0 where
  pub gathered : IsProjectOf files top sources
  pub built : IsBuiltBy short sources clock objects

-- these bytes are the image of the project of a top file
abbrev pub IsImageFrom : Files → (short : Bool) → (top bytes : List ℕ) → Type 0
IsImageFrom files short top bytes =
    (sources : List NamedSource) × (clock : Clock) × (objects : List ObjectPart)
    × IsBuiltFrom files short top sources clock objects × (bytes ≡ image_of clock objects)

-- this text is the listing of the project of a top file
abbrev pub IsListingFrom : Files → (short : Bool) → (top text : List ℕ) → Type 0
IsListingFrom files short top text =
    (sources : List NamedSource) × (clock : Clock) × (objects : List ObjectPart)
    × IsBuiltFrom files short top sources clock objects × (text ≡ listing_of (map (λ source. source.name) sources) objects)

-- this text is the code of a project whose files have these bytes, with its short code where it is short
abbrev pub IsCodeBy : (short : Bool) → (texts : List (List ℕ)) → List NamedSource → (text : List ℕ) → Type 0
IsCodeBy false texts sources text = IsCodeOf texts sources text
IsCodeBy true texts sources text = IsShortCodeOf texts sources text

-- this text is the code of the project of a top file, by the bytes of its files
abbrev pub IsCodeFrom : Files → (short : Bool) → (top text : List ℕ) → Type 0
IsCodeFrom files short top text =
    (sources : List NamedSource) × IsProjectOf files top sources × (texts : List (List ℕ)) × AreSources files sources texts × IsCodeBy short texts sources text

-- this text is the map of the project of a top file, by the bytes of its files
abbrev pub IsMapFrom : Files → (top text : List ℕ) → Type 0
IsMapFrom files top text =
    (sources : List NamedSource) × IsProjectOf files top sources × (texts : List (List ℕ)) × AreSources files sources texts × IsMapOf texts sources text

-- this text hints at what is most likely a slip in the project of a top file, by the bytes of its files
abbrev pub IsHintsFrom : Files → (top text : List ℕ) → Type 0
IsHintsFrom files top text =
    (sources : List NamedSource) × IsProjectOf files top sources × (texts : List (List ℕ)) × AreSources files sources texts × IsHintsOf texts sources text

-- this legend is that of the project of a top file, by the bytes of its files
abbrev pub IsProjectLegend : Files → (top : List ℕ) → Legend → Type 0
IsProjectLegend files top legend =
    (sources : List NamedSource) × IsProjectOf files top sources × (texts : List (List ℕ)) × AreSources files sources texts × IsLegendOf texts sources legend

-- the blocks that a page has of files with these bytes, in their order
abbrev pub file_blocks : List NamedSource → (texts : List (List ℕ)) → List Block
file_blocks (source ∷ sources) (text ∷ texts) = source_blocks source.name text ++ file_blocks sources texts
file_blocks _ _ = []

-- those of a project whose files have these bytes: of its map, and of its files
abbrev pub AreBlocksOf : (texts : List (List ℕ)) → List NamedSource → List Block → Type 0
AreBlocksOf texts sources blocks = (map : List ℕ) × IsMapOf texts sources map × (blocks ≡ map_block map ++ file_blocks sources texts)

-- those of the project of a top file
abbrev pub AreProjectBlocks : Files → (top : List ℕ) → List Block → Type 0
AreProjectBlocks files top blocks =
    (sources : List NamedSource) × IsProjectOf files top sources × (texts : List (List ℕ)) × AreSources files sources texts × AreBlocksOf texts sources blocks

-- The project of a top file is refused: this file of it, with the bytes that it was read with, for this; while it is gathered, or else when it is
-- built, and then what is too large has this size.
pub data IsRefusedFrom (files : Files) (top : List ℕ) (file : ReadFile) (f : Fault) (size : Option Size) : Type 0 where
  while_gathered : GathersTo files top (refused file f) → size ≡ None → IsRefusedFrom files top file f size
  when_built : (sources : List NamedSource) → IsProjectOf files top sources
      → IsMeasured sources file.name f size → WasRead files file → IsRefusedFrom files top file f size

-- Where a shelf tells its files, a source has one outcome.
pub record HasOneOutcome (files : List ℕ → Option (List ℕ)) : Type 0 where
  pub one_image : (short : Bool) (top : List ℕ) (some others : List NamedSource) (clock other : Clock) (objects parts : List ObjectPart)
      → IsBuiltFrom (Some files) short top some clock objects → IsBuiltFrom (Some files) short top others other parts
      → (some ≡ others) × (clock ≡ other) × (objects ≡ parts)
  pub one_code : (short : Bool) (top a b : List ℕ) → IsCodeFrom (Some files) short top a → IsCodeFrom (Some files) short top b → a ≡ b
  pub one_map : (top a b : List ℕ) → IsMapFrom (Some files) top a → IsMapFrom (Some files) top b → a ≡ b
  pub one_hints : (top a b : List ℕ) → IsHintsFrom (Some files) top a → IsHintsFrom (Some files) top b → a ≡ b
  pub one_legend : (top : List ℕ) (a b : Legend) → IsProjectLegend (Some files) top a → IsProjectLegend (Some files) top b → a ≡ b
  pub one_blocks : (top : List ℕ) (a b : List Block) → AreProjectBlocks (Some files) top a → AreProjectBlocks (Some files) top b → a ≡ b
  pub not_missing : (before now : ℕ) (short : Bool) (top name : List ℕ) (mention : Option Mention) (sources : List NamedSource) (clock : Clock)
      (objects : List ObjectPart)
      → IsBuiltFrom (Some files) short top sources clock objects → ¬ Gathers (shelved (Some files) before now) top (missing name mention)
  pub not_refused : (short : Bool) (top : List ℕ) (file : ReadFile) (f : Fault) (size : Option Size) (sources : List NamedSource) (clock : Clock)
      (objects : List ObjectPart)
      → IsBuiltFrom (Some files) short top sources clock objects → ¬ IsRefusedFrom (Some files) top file f size
  pub missing_or_refused : (before now : ℕ) (top name : List ℕ) (file : ReadFile) (mention : Option Mention) (f : Fault) (size : Option Size)
      → Gathers (shelved (Some files) before now) top (missing name mention) → ¬ IsRefusedFrom (Some files) top file f size
  pub one_missing : (before now : ℕ) (top a b : List ℕ) (m n : Option Mention)
      → Gathers (shelved (Some files) before now) top (missing a m) → Gathers (shelved (Some files) before now) top (missing b n) → (a ≡ b) × (m ≡ n)
  pub one_refusal : (top : List ℕ) (a b : ReadFile) (f g : Fault) (s t : Option Size)
      → IsRefusedFrom (Some files) top a f s → IsRefusedFrom (Some files) top b g t → (a ≡ b) × (f ≡ g) × (s ≡ t)
