use Rattle.p8_prop.proofs.Asking.{builds-keep}
use Rattle.p8_prop.proofs.laws.builds_keep_meaning.Goals as goal

pub returns : goal.returns
returns c = builds-keep c.images_keep_meaning.ensures c.short_images_keep_meaning.ensures
