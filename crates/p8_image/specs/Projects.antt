-- What of a project's objects has an image.
use Rattle.std.specs.Prelude.{◌%◌, ◌≡◌, ◌<◌, ◌≤◌, List, [], ◌∷◌, length}
use Rattle.p8_words.specs.declared.failure.Fail.{Fail}
use Rattle.p8_words.specs.declared.failure.Fail.TheVariants.{Refused, NoMemory}
use Rattle.p8_image.specs.declared.parts.MethodPart.{MethodPart}
use Rattle.p8_image.specs.declared.parts.ObjectPart.{ObjectPart}
use Rattle.p8_image.specs.declared.faults.TooLarge.{TooLarge}
use Rattle.p8_image.specs.declared.header.Header.{Header}

-- a method that can be started has code, and parameters and locals in whole longs
pub record IsMain (method : MethodPart) : Type 0 where
  pub code : 0 < length method.code
  pub parameters : method.parameters % 4 ≡ 0
  pub locals : method.locals % 4 ≡ 0

abbrev pub HasMain : List MethodPart → Type 0
HasMain [] = ⊥
HasMain (method ∷ methods) = IsMain method

-- the top object has a first method, which is started
abbrev pub BeginsWithMain : List ObjectPart → Type 0
BeginsWithMain [] = ⊥
BeginsWithMain (top ∷ objects) = HasMain top.methods

-- the memory after the first frame belongs to the hub, which has 32,768 bytes
abbrev pub FitsHub : Header → Type 0
FitsHub h = h.dcurr ≤ 32768

-- a project with this header is refused because it is too large; want of memory tells nothing
abbrev pub IsTooLarge : Header → Fail TooLarge → Type 0
IsTooLarge h (Refused fault) = 32768 < h.dcurr
IsTooLarge h NoMemory = Unit {0}
