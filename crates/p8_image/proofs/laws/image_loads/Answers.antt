use Rattle.p8_image.proofs.Imaging.{image_is_image, image_header}
use Rattle.p8_image.proofs.laws.image_loads.Goals as goal

pub returns : goal.returns
returns c = record {
  image = image_is_image;
  header = image_header;
}
