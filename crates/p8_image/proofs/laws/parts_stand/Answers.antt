use Rattle.p8_image.proofs.Standing.{all_parts_stand}
use Rattle.p8_image.proofs.laws.parts_stand.Goals as goal

pub returns : goal.returns
returns c = all_parts_stand
