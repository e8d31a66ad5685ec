-- The meaning of images that were built.
use Rattle.std.proofs.Common.{◌<◌, ℕ, sym, subst, List, length}
use Rattle.p8_tree.specs.Projects.{NamedSource}
use Rattle.p8_kinds.specs.declared.children.Children.{Children}
use Rattle.p8_names.specs.Children.{AreChildren}
use Rattle.p8_names.specs.Mentions.{AreDistinct, HaveMentioned, HaveNoRing}
use Rattle.p8_image.specs.declared.clocks.Clock.{Clock}
use Rattle.p8_image.specs.declared.parts.ObjectPart.{ObjectPart}
use Rattle.p8_image.specs.Layout.{header_by, image_of}
use Rattle.p8_image.specs.Loading.{ImageValue, memory_of}
use Rattle.p8_image.specs.Projects.{FitsHub}
use Rattle.p8_build.specs.Files.{CompiledFile}
use Rattle.p8_build.specs.Parts.{AreProper}
use Rattle.p8_build.specs.Builds.{AreCompiled, objects_of}
use Rattle.p8_build.specs.Told.{IsImageBuilt}
use Rattle.p8_opt.specs.Shorts.{IsShortBuilt, IsShortImageBuilt}
use Rattle.p8_opt.specs.Programs.{program_of, addresses_of}
use Rattle.p8_opt.specs.Meaning.{KeepsMeaning}

-- the law of images
abbrev pub KeepMeaning : Type 0
KeepMeaning = (files : List NamedSource) (children : List Children) (xs : List CompiledFile) (clock : Clock) → AreProper files → 0 < length files → AreDistinct files → HaveMentioned files → HaveNoRing files → AreChildren files children → AreCompiled files children xs → FitsHub (header_by (objects_of files children xs))
    → KeepsMeaning (memory_of (image_of clock (objects_of files children xs))) (program_of files children xs) (addresses_of files xs (objects_of files children xs))

-- that of images with short code
abbrev pub ShortKeepMeaning : Type 0
ShortKeepMeaning = (files : List NamedSource) (clock : Clock) (objects : List ObjectPart) → AreProper files → 0 < length files → AreDistinct files → HaveMentioned files → HaveNoRing files → (b : IsShortBuilt files clock objects)
    → KeepsMeaning (memory_of (image_of clock objects)) (program_of files b.children b.compiled) (addresses_of files b.short objects)

module _ (files : List NamedSource) (proper : AreProper files) (some : 0 < length files) (distinct : AreDistinct files) (mentioned : HaveMentioned files) (no_ring : HaveNoRing files) (image : ImageValue) where
  pub built-keeps : KeepMeaning → (is : IsImageBuilt files image) → KeepsMeaning (memory_of image.file) (program_of files is.0.built.children is.0.built.compiled) (addresses_of files is.0.built.compiled is.0.objects)
  built-keeps keep is =
      let b = is.0.built in
      let kept = keep files b.children b.compiled is.0.clock proper some distinct mentioned no_ring b.seen b.each (subst (λ (objects : List ObjectPart). FitsHub (header_by objects)) b.objects_are b.fits) in
      let at = subst (λ (objects : List ObjectPart). KeepsMeaning (memory_of (image_of is.0.clock objects)) (program_of files b.children b.compiled) (addresses_of files b.compiled objects)) (sym b.objects_are) kept in
      subst (λ (file : List ℕ). KeepsMeaning (memory_of file) (program_of files b.children b.compiled) (addresses_of files b.compiled is.0.objects)) (sym is.0.is) at

  pub short-keeps : ShortKeepMeaning → (is : IsShortImageBuilt files image) → KeepsMeaning (memory_of image.file) (program_of files is.0.built.children is.0.built.compiled) (addresses_of files is.0.built.short is.0.objects)
  short-keeps keep is =
      let b = is.0.built in
      subst (λ (file : List ℕ). KeepsMeaning (memory_of file) (program_of files b.children b.compiled) (addresses_of files b.short is.0.objects)) (sym is.0.is)
      (keep files is.0.clock is.0.objects proper some distinct mentioned no_ring b)
