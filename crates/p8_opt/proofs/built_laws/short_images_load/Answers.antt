use Rattle.p8_opt.proofs.Mains.{short-loads}
use Rattle.p8_opt.proofs.built_laws.short_images_load.Goals as goal

pub returns : goal.returns
returns c files proper some image is = short-loads files some c.image_loads.ensures.image c.image_loads.ensures.header image proper is
