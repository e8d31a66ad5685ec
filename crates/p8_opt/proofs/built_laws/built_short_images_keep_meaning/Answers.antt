use Rattle.p8_opt.proofs.Keeping.{short-keeps}
use Rattle.p8_opt.proofs.built_laws.built_short_images_keep_meaning.Goals as goal

pub returns : goal.returns
returns c files proper some distinct mentioned no_ring image is = short-keeps files proper some distinct mentioned no_ring image c.short_images_keep_meaning.ensures is
