use Rattle.p8_opt.proofs.Mains.{built-loads}
use Rattle.p8_opt.proofs.built_laws.built_images_load.Goals as goal

pub returns : goal.returns
returns c files some image is = built-loads files some c.image_loads.ensures.image c.image_loads.ensures.header image is
