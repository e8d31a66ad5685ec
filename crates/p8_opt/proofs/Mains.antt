-- Images that were built load.
use Rattle.std.proofs.Common.{◌≡◌, ◌∙◌, ◌<◌, ap, sym, subst, arith, List, length}
use Rattle.std.proofs.lemmas.Option.{slice_get_within}
use Rattle.p8_tree.specs.Projects.{NamedSource}
use Rattle.p8_image.specs.declared.clocks.Clock.{Clock}
use Rattle.p8_image.specs.declared.parts.ObjectPart.{ObjectPart}
use Rattle.p8_image.specs.Headers.{header_of}
use Rattle.p8_image.specs.Layout.{header_by, image_of}
use Rattle.p8_image.specs.Loading.{ImageValue, IsImage}
use Rattle.p8_image.specs.Projects.{BeginsWithMain, FitsHub}
use Rattle.p8_build.specs.Parts.{AreProper}
use Rattle.p8_build.specs.Builds.{IsFile, objects_of}
use Rattle.p8_build.specs.Told.{IsImageBuilt}
use Rattle.p8_build.proofs.Lists.{element}
use Rattle.p8_build.proofs.Wholes.{begins}
use Rattle.p8_opt.specs.Loads.{LoadsAs}
use Rattle.p8_opt.specs.Shorts.{IsShortBuilt, IsShortImageBuilt}
use Rattle.p8_opt.proofs.Wholes.{short-fits, short-main, begins as short-begins}

-- the laws of layouts
abbrev pub AreImages : Type 0
AreImages = (clock : Clock) (objects : List ObjectPart) → BeginsWithMain objects → FitsHub (header_by objects) → IsImage (image_of clock objects)

abbrev pub HaveHeaders : Type 0
HaveHeaders = (clock : Clock) (objects : List ObjectPart) → BeginsWithMain objects → FitsHub (header_by objects) → header_of (image_of clock objects) ≡ header_by objects

module _ (files : List NamedSource) (some : 0 < length files) where
  short-mains : (clock : Clock) (objects : List ObjectPart) (b : IsShortBuilt files clock objects) → BeginsWithMain (objects_of files b.children b.short)
  short-mains clock objects b =
      let beside = b.seen.one_each in
      let counted = b.each.count in
      short-begins files files b.children b.short some beside (b.shorter.count ∙ counted) (λ f c y at_f at_c at_y.
      let there : IsFile files b.children 0 f c = record { stands = at_f; beside = at_c } in
      let inside = slice_get_within files 0 f at_f in
      let x = element b.compiled 0 (omega (arith, inside, counted)) in
      short-main files f.tree c x.0 y (b.each.each 0 f c x.0 there x.1) (b.shorter.each 0 f c x.0 y there x.1 at_y))

  -- ---- the file of an image

  module _ (images : AreImages) (headers : HaveHeaders) (image : ImageValue) where
    pub built-loads : (is : IsImageBuilt files image) → LoadsAs image is.0.objects
    built-loads is =
        let b = is.0.built in
        let mains = subst BeginsWithMain (sym b.objects_are) (begins files files b.children b.compiled some b.seen.one_each b.each.count (λ f c x at_f at_c at_x. b.each.each 0 f c x (record { stands = at_f; beside = at_c }) at_x)) in
        record {
          taken = subst IsImage (sym is.0.is) (images is.0.clock is.0.objects mains b.fits);
          same = is.1;
          header = ap header_of is.0.is ∙ headers is.0.clock is.0.objects mains b.fits;
        }

    pub short-loads : AreProper files → (is : IsShortImageBuilt files image) → LoadsAs image is.0.objects
    short-loads proper is =
        let b = is.0.built in
        let mains = subst BeginsWithMain (sym b.objects_are) (short-mains is.0.clock is.0.objects b) in
        let fits = subst (λ (objects : List ObjectPart). FitsHub (header_by objects)) (sym b.objects_are) (short-fits files b.children b.compiled b.short proper b.seen.one_each b.each b.shorter b.fits) in
        record {
          taken = subst IsImage (sym is.0.is) (images is.0.clock is.0.objects mains fits);
          same = is.1;
          header = ap header_of is.0.is ∙ headers is.0.clock is.0.objects mains fits;
        }
