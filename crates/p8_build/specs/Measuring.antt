-- internal: what is known while the size of what is refused is looked for.
use Rattle.std.specs.Prelude.{◌≡◌, ℕ, List, slice_get, Option, Some, None}
use Rattle.p8_tree.specs.declared.places.Place.{Place}
use Rattle.p8_tree.specs.Sources.{MethodTree}
use Rattle.p8_tree.specs.declared.faults.Fault.{Fault}
use Rattle.p8_tree.specs.Faults.{fault}
use Rattle.p8_tree.specs.declared.refusal.Refusal.TheVariants.{FrameTooLarge}
use Rattle.p8_tree.specs.Refusals.{refusal_number}
use Rattle.p8_gen.specs.Names.{Names}
use Rattle.p8_stmt.specs.declared.frames.MethodSize.{MethodSize}
use Rattle.p8_stmt.specs.Methods.{IsMethodFault}
use Rattle.p8_build.specs.Sizes.{IsSizeAt}
use Rattle.p8_build.specs.declared.sizes.Size.{Size}
use Rattle.p8_build.specs.declared.sizes.Size.TheVariants as size_case

-- the size of the first of some methods whose frame is refused as too large at a place, or none is
abbrev pub IsFirstSize : (ℕ → MethodTree → Names) → List MethodTree → Place → Option MethodSize → Type 0
IsFirstSize names ms place None = (k : ℕ) (m : MethodTree) → slice_get ms k ≡ Some m → ¬ IsMethodFault (names k m) m (fault FrameTooLarge place)
IsFirstSize names ms place (Some size) = IsSizeAt names ms place size

-- the size of a method, as that of what is refused
abbrev pub of_method_size : Option MethodSize → Option Size
of_method_size None = None
of_method_size (Some size) = Some (size_case.Method size)

-- the size that a fault of the code of some methods tells
pub data IfSizeAt (names : ℕ → MethodTree → Names) (ms : List MethodTree) (f : Fault) (size : Option Size) : Type 0 where
  elsewhere : ¬ (f.number ≡ refusal_number FrameTooLarge) → size ≡ None → IfSizeAt names ms f size
  looked_for : (method : Option MethodSize) → f.number ≡ refusal_number FrameTooLarge → IsFirstSize names ms f.place method →
      size ≡ of_method_size method → IfSizeAt names ms f size
