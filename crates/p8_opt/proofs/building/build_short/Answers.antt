use Rattle.p8_tree.specs.Views.{named_sources_of}
use Rattle.p8_opt.proofs.Shorter.{are-no-longer}
use Rattle.p8_opt.proofs.building.build_short.Goals as goal

pub returns-clause-no_longer : goal.returns-clause-no_longer
returns-clause-no_longer c = λ is.
    let b = is.0.built in
    are-no-longer (named_sources_of c.args.project.now) c.requires.proper b.children b.seen b.compiled b.short b.each b.shorter

pub returns-clause-keeps : goal.returns-clause-keeps
returns-clause-keeps c = λ distinct is.
    c.built_short_images_keep_meaning.ensures (named_sources_of c.args.project.now) c.requires.proper c.requires.first distinct c.requires.mentioned c.requires.no_ring _ is
