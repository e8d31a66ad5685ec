use Rattle.p8_opt.specs.Programs.{program_of, addresses_of}
use Rattle.p8_meaning.specs.Projects.{folded_program}
use Rattle.p8_opt.proofs.Wholes.{short-fits}
use Rattle.p8_opt.proofs.Recoded.{folded_sources, recoded}
use Rattle.p8_opt.proofs.Kept.{hide-none, kept}
use Rattle.p8_opt.proofs.laws.short_images_keep_meaning.Goals as goal

pub returns : goal.returns
returns c = λ files clock objects proper some distinct mentioned no_ring b.
    let program = program_of files b.children b.compiled in
    let are = c.folded_sources_have_folded_methods.ensures program (hide-none files b.children b.compiled proper b.each) in
    kept files clock objects b are (c.folds_keep_meaning.ensures program (folded_program program) are (addresses_of files b.short objects))
    (c.recoded_images_keep_meaning.ensures files (folded_sources files b.children b.compiled) b.children b.short clock proper some distinct mentioned no_ring b.seen
    (recoded files b.children b.compiled b.short proper b.seen b.each b.shorter)
    (short-fits files b.children b.compiled b.short proper b.seen.one_each b.each b.shorter b.fits))
