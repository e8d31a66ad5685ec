-- What the headline says of images and of runs.
use Rattle.std.proofs.Common.{◌≡◌, ◌<◌, sym, ◌∙◌, ap, subst, ℕ, Bool, true, false, List, length}
use Rattle.p8_access.specs.declared.order.Turn.{Turn}
use Rattle.p8_access.specs.Worlds.{World}
use Rattle.p8_access.specs.Histories.{Ended}
use Rattle.p8_tree.specs.Projects.{NamedSource}
use Rattle.p8_kinds.specs.declared.children.Children.{Children}
use Rattle.p8_names.specs.Mentions as mentions
use Rattle.p8_names.specs.Children.{AreChildren}
use Rattle.p8_image.specs.declared.clocks.Clock.{Clock}
use Rattle.p8_image.specs.declared.parts.ObjectPart.{ObjectPart}
use Rattle.p8_image.specs.Headers.{header_of}
use Rattle.p8_image.specs.Layout.{header_by, image_of}
use Rattle.p8_image.specs.Loading.{memory_of, start_of}
use Rattle.p8_image.specs.Projects.{FitsHub}
use Rattle.p8_build.specs.Parts.{AreProper}
use Rattle.p8_build.specs.Files.{CompiledFile}
use Rattle.p8_build.specs.Builds.{AreCompiled, IsBuilt, objects_of}
use Rattle.p8_io.specs.Shelves.{Files}
use Rattle.p8_cog.specs.Lives.{asks}
use Rattle.p8_meaning.specs.Programs.{Program, Addresses}
use Rattle.p8_objects.proofs.Growing.{gathers}
use Rattle.p8_objects.proofs.Wholes.{whole_project}
use Rattle.p8_compiled.specs.Told.{IsWorldOf, SpinIsTold}
use Rattle.p8_opt.specs.Programs.{program_of, addresses_of}
use Rattle.p8_opt.specs.Meaning.{KeepsMeaning}
use Rattle.p8_inputs.specs.declared.program.Format.{Format}
use Rattle.p8_inputs.specs.declared.program.Format.TheVariants.{Memory, Image, Eeprom, Source}
use Rattle.p8_inputs.specs.Programs.{memory_by, first_by}
use Rattle.p8_inputs.specs.Runs.{HasProperTrees}
use Rattle.p8_inputs.specs.Sources.{IsBuiltFrom}
use Rattle.p8_opt.specs.Shorts.{IsShortBuilt}
use Rattle.p8_inputs.proofs.Gathering.{some, distinct, mentioned, no_ring}
use Rattle.p8_prop.specs.Headline.{program_by, addresses_by, IsToldBySource, IsBuild}

-- ---- what a source says of a run

-- the laws of images and of lives
abbrev pub HaveMethods : Type 0
HaveMethods = (files : List NamedSource) (children : List Children) (xs : List CompiledFile) (clock : Clock) → AreProper files → 0 < length files → mentions.AreDistinct files → mentions.HaveMentioned files → mentions.HaveNoRing files → AreChildren files children → AreCompiled files children xs → FitsHub (header_by (objects_of files children xs))
    → (w : World) → w.memory ≡ memory_of (image_of clock (objects_of files children xs)) → w.first ≡ start_of (header_of (image_of clock (objects_of files children xs))) → IsWorldOf (program_of files children xs) (addresses_of files xs (objects_of files children xs)) w

abbrev pub AreTold : Type 0
AreTold = (program : Program) (addresses : Addresses) (w : World) → IsWorldOf program addresses w → (past : List Turn) → Ended asks w past → SpinIsTold program addresses w past

abbrev pub ShortAreTold : Type 0
ShortAreTold = (files : List NamedSource) (clock : Clock) (objects : List ObjectPart) → AreProper files → 0 < length files → mentions.AreDistinct files → mentions.HaveMentioned files → mentions.HaveNoRing files → (b : IsShortBuilt files clock objects)
    → (w : World) → w.memory ≡ memory_of (image_of clock objects) → w.first ≡ start_of (header_of (image_of clock objects)) → (past : List Turn) → Ended asks w past → SpinIsTold (program_of files b.children b.compiled) (addresses_of files b.short objects) w past

abbrev pub RunsAreTold : Type 0
RunsAreTold = (files : Files) (format : Format) (file bytes : List ℕ) → HasProperTrees files format file bytes → (w : World) → w.memory ≡ memory_by format bytes → w.first ≡ first_by format bytes → (past : List Turn) → Ended asks w past → IsToldBySource files format file bytes w past

module _ (methods : HaveMethods) (lives : AreTold) (short_lives : ShortAreTold) where
  world-of_source : (files : Files) (file : List ℕ) (sources : List NamedSource) (clock : Clock) (objects : List ObjectPart) (is : IsBuiltFrom files false file sources clock objects) → AreProper sources → (w : World) → w.memory ≡ memory_of (image_of clock objects) → w.first ≡ start_of (header_of (image_of clock objects)) → IsWorldOf (program_of sources is.built.children is.built.compiled) (addresses_of sources is.built.compiled objects) w
  world-of_source files file sources clock objects is proper w memory first =
      let built = is.built in
      let whole = whole_project (gathers is.gathered 0 0) in
      let all = objects_of sources built.children built.compiled in
      let same : objects ≡ all = built.objects_are in
      let placed = methods sources built.children built.compiled clock proper (some sources file whole.first) (distinct sources whole.distinct) (mentioned sources whole.mentioned) (no_ring sources whole.no_ring) built.seen built.each
      (subst (λ (xs : List ObjectPart). FitsHub (header_by xs)) same built.fits) w
      (memory ∙ ap (λ (xs : List ObjectPart). memory_of (image_of clock xs)) same)
      (first ∙ ap (λ (xs : List ObjectPart). start_of (header_of (image_of clock xs))) same) in
      subst (λ (xs : List ObjectPart). IsWorldOf (program_of sources built.children built.compiled) (addresses_of sources built.compiled xs) w) (sym same) placed

  -- with short code or not
  spin-told : (short : Bool) (files : Files) (file : List ℕ) (sources : List NamedSource) (clock : Clock) (objects : List ObjectPart) (is : IsBuiltFrom files short file sources clock objects) → AreProper sources → (w : World) → w.memory ≡ memory_of (image_of clock objects) → w.first ≡ start_of (header_of (image_of clock objects))
      → (past : List Turn) → Ended asks w past → SpinIsTold (program_by sources clock objects short is.built) (addresses_by sources clock objects short is.built) w past
  spin-told false files file sources clock objects is proper w memory first past ended =
      lives (program_of sources is.built.children is.built.compiled) (addresses_of sources is.built.compiled objects) w (world-of_source files file sources clock objects is proper w memory first) past ended
  spin-told true files file sources clock objects is proper w memory first past ended =
      let whole = whole_project (gathers is.gathered 0 0) in
      short_lives sources clock objects proper (some sources file whole.first) (distinct sources whole.distinct) (mentioned sources whole.mentioned) (no_ring sources whole.no_ring) is.built w memory first past ended

  pub runs-are_told : RunsAreTold
  runs-are_told files Memory file bytes trees w memory first past ended = tt
  runs-are_told files Image file bytes trees w memory first past ended = tt
  runs-are_told files Eeprom file bytes trees w memory first past ended = tt
  runs-are_told files (Source short) file bytes trees w memory first past ended =
      let first_is = first ∙ ap (λ (bytes : List ℕ). start_of (header_of bytes)) trees.5 in
      (trees.0, trees.1, trees.2, trees.3, trees.5, spin-told short files file trees.0 trees.1 trees.2 trees.3 trees.4 w (memory ∙ ap memory_of trees.5) first_is past ended)

-- ---- the image of a source

-- the laws of images
abbrev pub KeepMeaning : Type 0
KeepMeaning = (files : List NamedSource) (children : List Children) (xs : List CompiledFile) (clock : Clock) → AreProper files → 0 < length files → mentions.AreDistinct files → mentions.HaveMentioned files → mentions.HaveNoRing files → AreChildren files children → AreCompiled files children xs → FitsHub (header_by (objects_of files children xs))
    → KeepsMeaning (memory_of (image_of clock (objects_of files children xs))) (program_of files children xs) (addresses_of files xs (objects_of files children xs))

abbrev pub ShortKeepMeaning : Type 0
ShortKeepMeaning = (files : List NamedSource) (clock : Clock) (objects : List ObjectPart) → AreProper files → 0 < length files → mentions.AreDistinct files → mentions.HaveMentioned files → mentions.HaveNoRing files → (b : IsShortBuilt files clock objects)
    → KeepsMeaning (memory_of (image_of clock objects)) (program_of files b.children b.compiled) (addresses_of files b.short objects)

module _ (keep : KeepMeaning) where
  -- a project as it stands
  pub built-keeps : (sources : List NamedSource) (clock : Clock) (objects : List ObjectPart) → AreProper sources → 0 < length sources → mentions.AreDistinct sources → mentions.HaveMentioned sources → mentions.HaveNoRing sources → (b : IsBuilt sources clock objects)
      → KeepsMeaning (memory_of (image_of clock objects)) (program_of sources b.children b.compiled) (addresses_of sources b.compiled objects)
  built-keeps sources clock objects proper some distinct mentioned no_ring b =
      let same : objects ≡ objects_of sources b.children b.compiled = b.objects_are in
      let kept = keep sources b.children b.compiled clock proper some distinct mentioned no_ring b.seen b.each (subst (λ (xs : List ObjectPart). FitsHub (header_by xs)) same b.fits) in
      subst (λ (xs : List ObjectPart). KeepsMeaning (memory_of (image_of clock xs)) (program_of sources b.children b.compiled) (addresses_of sources b.compiled xs)) (sym same) kept

module _ (keep : KeepMeaning) (short_keep : ShortKeepMeaning) where
  image-keeps : (short : Bool) (files : Files) (file : List ℕ) (sources : List NamedSource) (clock : Clock) (objects : List ObjectPart) (is : IsBuiltFrom files short file sources clock objects) → AreProper sources
      → KeepsMeaning (memory_of (image_of clock objects)) (program_by sources clock objects short is.built) (addresses_by sources clock objects short is.built)
  image-keeps false files file sources clock objects is proper =
      let whole = whole_project (gathers is.gathered 0 0) in
      built-keeps keep sources clock objects proper (some sources file whole.first) (distinct sources whole.distinct) (mentioned sources whole.mentioned) (no_ring sources whole.no_ring) is.built
  image-keeps true files file sources clock objects is proper =
      let whole = whole_project (gathers is.gathered 0 0) in
      short_keep sources clock objects proper (some sources file whole.first) (distinct sources whole.distinct) (mentioned sources whole.mentioned) (no_ring sources whole.no_ring) is.built

  pub builds-keep : (files : Files) (short : Bool) (file bytes : List ℕ) → HasProperTrees files (Source short) file bytes → IsBuild files short file bytes
  builds-keep files short file bytes trees = record {
    sources = trees.0;
    clock = trees.1;
    objects = trees.2;
    from = trees.3;
    written = trees.5;
    keeps = subst (λ (image : List ℕ). KeepsMeaning (memory_of image) (program_by trees.0 trees.1 trees.2 short trees.3.built) (addresses_by trees.0 trees.1 trees.2 short trees.3.built)) (sym trees.5)
        (image-keeps short files file trees.0 trees.1 trees.2 trees.3 trees.4);
  }
