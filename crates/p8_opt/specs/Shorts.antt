-- What a project is built to with shorter code of the same meaning: each method is folded, and of its jumps the least
-- set has two bytes for the offset. Nothing else is another than without that (this project's profile).
use Rattle.std.specs.Prelude.{◌≡◌, ℕ, List, length, slice_get, Some}
use Rattle.p8_tree.specs.Projects.{NamedSource}
use Rattle.p8_tree.specs.Sources.{MethodTree, Source}
use Rattle.p8_constants.specs.FileItems.{items}
use Rattle.p8_kinds.specs.declared.children.Children.{Children}
use Rattle.p8_names.specs.Kinds.{numbered}
use Rattle.p8_names.specs.Children.{AreChildren}
use Rattle.p8_image.specs.declared.clocks.Clock.{Clock}
use Rattle.p8_image.specs.declared.parts.ObjectPart.{ObjectPart}
use Rattle.p8_image.specs.Layout.{header_by, image_of}
use Rattle.p8_image.specs.Loading.{ImageValue, image_in}
use Rattle.p8_image.specs.Projects.{FitsHub}
use Rattle.p8_stmt.specs.declared.code.MethodCode.{MethodCode}
use Rattle.p8_build.specs.declared.building.Built.{Built}
use Rattle.p8_build.specs.Files.{CompiledFile, setting_of, method_names}
use Rattle.p8_build.specs.Builds.{IsFile, AreCompiled, objects_of, clock_by}
use Rattle.p8_meaning.specs.Constants.{constants_in}
use Rattle.p8_meaning.specs.Folding.{folded_body}
use Rattle.p8_stmt.specs.Jumps.{IsShortCode}

-- a file that is compiled to x has these names and data, and the short codes of its folded methods
pub record IsShort (source : Source) (children : Children) (x y : CompiledFile) : Type 0 where
  pub kinds : y.kinds ≡ x.kinds
  pub dat : y.dat ≡ x.dat
  pub labels : y.labels ≡ x.labels
  pub count : length y.codes ≡ length (numbered (items source))
  pub each : (k : ℕ) (m : MethodTree) (code : MethodCode) → slice_get (numbered (items source)) k ≡ Some m → slice_get y.codes k ≡ Some code
      → IsShortCode (method_names children x k m) m (folded_body (constants_in (setting_of children x)) m.body) code

-- each file of a project has
pub record AreShort (files : List NamedSource) (children : List Children) (xs ys : List CompiledFile) : Type 0 where
  pub count : length ys ≡ length xs
  pub each : (i : ℕ) (file : NamedSource) (seen : Children) (x y : CompiledFile) → IsFile files children i file seen → slice_get xs i ≡ Some x →
      slice_get ys i ≡ Some y → IsShort file.tree seen x y

-- The project is accepted as it stands, and with short code its image has this clock and these objects.
pub record IsShortBuilt (files : List NamedSource) (clock : Clock) (objects : List ObjectPart) : Type 0 where
  pub children : List Children
  pub seen : AreChildren files children
  pub compiled : List CompiledFile
  pub each : AreCompiled files children compiled
  pub clock_is : clock_by compiled ≡ Some clock
  pub fits : FitsHub (header_by (objects_of files children compiled))
  pub short : List CompiledFile
  pub shorter : AreShort files children compiled short
  pub objects_are : objects ≡ objects_of files children short

-- the project is built to these objects with short code, and the image is theirs
pub record IsShortBuiltTo (files : List NamedSource) (b : Built) : Type 0 where
  pub clock : Clock
  pub built : IsShortBuilt files clock b.objects
  pub image : b.image ≡ image_in (image_of clock b.objects)

-- this is the image of the project with short code, as a `.binary` file
pub record IsShortImageOf (files : List NamedSource) (image : List ℕ) : Type 0 where
  pub clock : Clock
  pub objects : List ObjectPart
  pub built : IsShortBuilt files clock objects
  pub is : image ≡ image_of clock objects

-- this image is that of the project with short code
abbrev pub IsShortImageBuilt : List NamedSource → ImageValue → Type 0
IsShortImageBuilt files image = IsShortImageOf files image.file × (image ≡ image_in image.file)
