-- How large what is refused as too large is, and how many arguments a call has that is refused for their number (this project's profile).
use Rattle.std.specs.Prelude.{◌≡◌, ℕ, ◌^◌, ◌<◌, ◌==◌, ◌&&◌, Bool, true, false, min, List, slice_get, Option, Some, None}
use Rattle.p8_tree.specs.declared.places.Place.{Place}
use Rattle.p8_tree.specs.Sources.{MethodTree}
use Rattle.p8_tree.specs.Projects.{NamedSource}
use Rattle.p8_tree.specs.declared.faults.Fault.{Fault}
use Rattle.p8_tree.specs.Faults.{fault, PhaseFault}
use Rattle.p8_tree.specs.declared.refusal.Refusal.{Refusal}
use Rattle.p8_tree.specs.declared.refusal.Refusal.TheVariants.{WrongArity, FrameTooLarge, ImageTooLarge}
use Rattle.p8_tree.specs.Refusals.{refusal_number}
use Rattle.p8_constants.specs.FileItems.{items}
use Rattle.p8_kinds.specs.declared.children.Children.{Children}
use Rattle.p8_names.specs.Kinds.{numbered}
use Rattle.p8_names.specs.Resolution.{IsNamed}
use Rattle.p8_gen.specs.Names.{Names}
use Rattle.p8_image.specs.Layout.{header_by}
use Rattle.p8_stmt.specs.declared.frames.MethodSize.{MethodSize}
use Rattle.p8_stmt.specs.Methods.{IsMethodFault, size_of}
use Rattle.p8_build.specs.Files.{CompiledFile, method_names, IsData}
use Rattle.p8_build.specs.Arguments.{arguments_at}
use Rattle.p8_build.specs.Builds.{IsFile, AreCompiled, objects_of, IsRefusedWith}
use Rattle.p8_build.specs.declared.sizes.Size.{Size}
use Rattle.p8_build.specs.declared.sizes.Size.TheVariants as size_case

-- the first of some methods, which are counted from 0, whose frame is refused as too large at a place has this size
pub record IsSizeAt (names : ℕ → MethodTree → Names) (ms : List MethodTree) (place : Place) (size : MethodSize) : Type 0 where
  pub k : ℕ
  pub m : MethodTree
  pub stands : slice_get ms k ≡ Some m
  pub refused : IsMethodFault (names k m) m (fault FrameTooLarge place)
  pub first : (j : ℕ) (other : MethodTree) → j < k → slice_get ms j ≡ Some other → ¬ IsMethodFault (names j other) other (fault FrameTooLarge place)
  pub size_is : size ≡ size_of (names k m) m

-- what is refused in this phase is refused so
abbrev pub tells : PhaseFault → (phase : ℕ) → Refusal → Bool
tells r phase refused = (r.phase == phase) && (r.fault.number == refusal_number refused)

-- How large what a refusal of a project tells is: the arguments of a call that has another number than is expected, the method whose frame is too
-- large, the image that is too large by where its first frame would end, and nothing of any other one.
pub data IsSizeOf (files : List NamedSource) (children : List Children) (r : PhaseFault) (size : Option Size) : Type 0 where
  of_arguments : (file : NamedSource) (seen : Children) → tells r 0 WrongArity ≡ true → IsFile files children r.file file seen
      → size ≡ arguments_at file.tree seen r.fault.place → IsSizeOf files children r size
  of_method : (file : NamedSource) (seen : Children) (x : CompiledFile) (method : MethodSize) → tells r 2 FrameTooLarge ≡ true →
      IsFile files children r.file file seen
      → IsNamed file.tree seen (r.file == 0) x.kinds → IsData file.tree seen x
      → IsSizeAt (method_names seen x) (numbered (items file.tree)) r.fault.place method → size ≡ Some (size_case.Method method) →
      IsSizeOf files children r size
  of_image : (xs : List CompiledFile) → tells r 3 ImageTooLarge ≡ true → AreCompiled files children xs
      → size ≡ Some (size_case.Image (min (header_by (objects_of files children xs)).dcurr (2 ^ 31))) → IsSizeOf files children r size
  of_none : tells r 0 WrongArity ≡ false → tells r 2 FrameTooLarge ≡ false → tells r 3 ImageTooLarge ≡ false → size ≡ None → IsSizeOf files children r size

-- the project is refused: its first refusal is this fault of the file of this name, and what it tells is so large
pub record IsMeasured (files : List NamedSource) (name : List ℕ) (f : Fault) (size : Option Size) : Type 0 where
  pub refused : IsRefusedWith files name f
  pub size_is : IsSizeOf files refused.children refused.refusal size
