use Rattle.p8_opt.proofs.Keeping.{built-keeps}
use Rattle.p8_opt.proofs.built_laws.built_images_keep_meaning.Goals as goal

pub returns : goal.returns
returns c files proper some distinct mentioned no_ring image is = built-keeps files proper some distinct mentioned no_ring image c.images_keep_meaning.ensures is
