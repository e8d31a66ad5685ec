-- That an image loads.
use Rattle.std.specs.Prelude.{◌≡◌, List}
use Rattle.p8_image.specs.declared.parts.ObjectPart.{ObjectPart}
use Rattle.p8_image.specs.Headers.{header_of}
use Rattle.p8_image.specs.Layout.{header_by}
use Rattle.p8_image.specs.Loading.{ImageValue, IsImage, image_in}

-- an image's file has no fault, it loads as this image, and what cog 0 is started with is what the header of these objects says
pub record LoadsAs (image : ImageValue) (objects : List ObjectPart) : Type 0 where
  pub taken : IsImage image.file
  pub same : image ≡ image_in image.file
  pub header : header_of image.file ≡ header_by objects
