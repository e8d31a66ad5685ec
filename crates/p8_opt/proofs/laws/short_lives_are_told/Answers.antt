use Rattle.std.proofs.Common.{ap, ◌∙◌}
use Rattle.p8_image.specs.Headers.{header_of}
use Rattle.p8_image.specs.Layout.{image_of}
use Rattle.p8_image.specs.Loading.{memory_of, start_of}
use Rattle.p8_build.specs.Builds.{objects_of}
use Rattle.p8_opt.specs.Programs.{program_of, with_sources, addresses_of}
use Rattle.p8_meaning.specs.Projects.{folded_program}
use Rattle.p8_opt.proofs.Wholes.{short-fits}
use Rattle.p8_opt.proofs.Recoded.{folded_sources, recoded}
use Rattle.p8_opt.proofs.Kept.{hide-none, told}
use Rattle.p8_opt.proofs.laws.short_lives_are_told.Goals as goal

pub returns : goal.returns
returns c = λ files clock objects proper some distinct mentioned no_ring b w memory first past ended.
    let program = program_of files b.children b.compiled in
    let other = with_sources (folded_sources files b.children b.compiled) (program_of files b.children b.short) in
    let are = c.folded_sources_have_folded_methods.ensures program (hide-none files b.children b.compiled proper b.each) in
    let begins = c.recoded_images_have_their_methods.ensures files (folded_sources files b.children b.compiled) b.children b.short clock proper some distinct mentioned no_ring b.seen
    (recoded files b.children b.compiled b.short proper b.seen b.each b.shorter)
    (short-fits files b.children b.compiled b.short proper b.seen.one_each b.each b.shorter b.fits) w
    (memory ∙ ap (λ os. memory_of (image_of clock os)) b.objects_are) (first ∙ ap (λ os. start_of (header_of (image_of clock os))) b.objects_are) in
    told files clock objects b are (c.folds_keep_meaning.ensures program (folded_program program) are (addresses_of files b.short objects)) w past
    (c.lives_are_told.ensures.ended other (addresses_of files b.short (objects_of files b.children b.short)) w begins past ended)
