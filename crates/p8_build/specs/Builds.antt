-- What a project whose files are gathered is built to, or refused with (this project's profile).
use Rattle.std.specs.Prelude.{◌≡◌, ℕ, ◌<◌, ◌==◌, List, [], ◌∷◌, length, slice_get, Option, Some, None, codes}
use Rattle.p8_tree.specs.declared.places.Place.{Place}
use Rattle.p8_tree.specs.Projects.{NamedSource}
use Rattle.p8_tree.specs.declared.faults.Fault.{Fault}
use Rattle.p8_tree.specs.Faults.{fault, PhaseFault, IsFirstRefusal}
use Rattle.p8_tree.specs.declared.refusal.Refusal.TheVariants.{ImageTooLarge, BadClock}
use Rattle.p8_kinds.specs.declared.children.Children.{Children}
use Rattle.p8_kinds.specs.declared.kinds.Kinds.{Kinds}
use Rattle.p8_kinds.specs.declared.name_kinds.NameKind.{NameKind}
use Rattle.p8_kinds.specs.declared.name_kinds.NameKind.TheVariants as kind_case
use Rattle.p8_kinds.specs.Kinds.{own}
use Rattle.p8_names.specs.Resolution.{IsNamed}
use Rattle.p8_names.specs.Faults.{IsNameFault}
use Rattle.p8_dat.specs.Blocks.{IsDatFault}
use Rattle.p8_names.specs.Children.{AreChildren}
use Rattle.p8_image.specs.declared.clocks.Clock.{Clock}
use Rattle.p8_image.specs.declared.parts.ObjectPart.{ObjectPart}
use Rattle.p8_image.specs.Clocks.{clock_of}
use Rattle.p8_image.specs.Layout.{header_by}
use Rattle.p8_image.specs.Projects.{FitsHub}
use Rattle.p8_build.specs.Parts.{data_start}
use Rattle.p8_build.specs.Files.{CompiledFile, setting_of, IsData, IsCodeFault, IsCompiled, object_of}

-- file i of a project: its tree, and what it sees of its objects
pub record IsFile (files : List NamedSource) (children : List Children) (i : ℕ) (file : NamedSource) (seen : Children) : Type 0 where
  pub stands : slice_get files i ≡ Some file
  pub beside : slice_get children i ≡ Some seen

-- ---- a project that is accepted by its files

-- each file is compiled; the first one is the top file
pub record AreCompiled (files : List NamedSource) (children : List Children) (xs : List CompiledFile) : Type 0 where
  pub count : length xs ≡ length files
  pub each : (i : ℕ) (file : NamedSource) (seen : Children) (x : CompiledFile) → IsFile files children i file seen → slice_get xs i ≡ Some x →
      IsCompiled file.tree seen (i == 0) x

-- the objects of all files, in their order
abbrev pub objects_from : (all files : List NamedSource) → List Children → List CompiledFile → List ObjectPart
objects_from all (file ∷ files) (seen ∷ children) (x ∷ xs) = object_of all file.tree seen x ∷ objects_from all files children xs
objects_from all _ _ _ = []

abbrev pub objects_of : List NamedSource → List Children → List CompiledFile → List ObjectPart
objects_of files children xs = objects_from files files children xs

-- ---- the clock, by the top file's constants

abbrev pub constant_value : Option NameKind → Option ℕ
constant_value (Some (kind_case.Const v)) = Some v
constant_value k = None

abbrev pub constant_named : Kinds → List ℕ → Option ℕ
constant_named kinds name = constant_value (own kinds 0 name)

abbrev pub clock_by : List CompiledFile → Option Clock
clock_by [] = None
clock_by (top ∷ xs) = clock_of (constant_named top.kinds (codes "_CLKMODE")) (constant_named top.kinds (codes "_CLKFREQ"))
    (constant_named top.kinds (codes "_XINFREQ"))

-- ---- refusals, by the phases names, data, code and image

abbrev pub start : Place
start = record { line = 1; column = 1 }

-- 28 where the first frame would end after the hub, 29 where the clock's constants tell none, at the beginning of the top file
pub data IsImageFault (objects : List ObjectPart) (clock : Option Clock) (f : Fault) : Type 0 where
  too_large : 32768 < (header_by objects).dcurr → fault ImageTooLarge start ≡ f → IsImageFault objects clock f
  no_clock : clock ≡ None → fault BadClock start ≡ f → IsImageFault objects clock f

pub data IsRefusal (files : List NamedSource) (children : List Children) : PhaseFault → Type 0 where
  of_names : (i : ℕ) (file : NamedSource) (seen : Children) (f : Fault) → IsFile files children i file seen
      → IsNameFault file.tree seen (i == 0) f → IsRefusal files children (record { phase = 0; file = i; fault = f })
  of_data : (i : ℕ) (file : NamedSource) (seen : Children) (x : CompiledFile) (f : Fault) → IsFile files children i file seen
      → IsNamed file.tree seen (i == 0) x.kinds
      → IsDatFault (setting_of seen x) (data_start (setting_of seen x) file.tree) file.tree f →
      IsRefusal files children (record { phase = 1; file = i; fault = f })
  of_code : (i : ℕ) (file : NamedSource) (seen : Children) (x : CompiledFile) (f : Fault) → IsFile files children i file seen
      → IsNamed file.tree seen (i == 0) x.kinds → IsData file.tree seen x
      → IsCodeFault file.tree seen x f → IsRefusal files children (record { phase = 2; file = i; fault = f })
  of_image : (xs : List CompiledFile) (f : Fault) → AreCompiled files children xs
      → IsImageFault (objects_of files children xs) (clock_by xs) f → IsRefusal files children (record { phase = 3; file = 0; fault = f })

-- ---- what building comes to

-- the project is refused: its first refusal is this fault of the file of this name
pub record IsRefusedWith (files : List NamedSource) (name : List ℕ) (f : Fault) : Type 0 where
  pub children : List Children
  pub seen : AreChildren files children
  pub refusal : PhaseFault
  pub first : IsFirstRefusal (IsRefusal files children) refusal
  pub file : NamedSource
  pub stands : slice_get files refusal.file ≡ Some file
  pub named : name ≡ file.name
  pub told : f ≡ refusal.fault

-- the project is accepted: its image has this clock and these objects
pub record IsBuilt (files : List NamedSource) (clock : Clock) (objects : List ObjectPart) : Type 0 where
  pub children : List Children
  pub seen : AreChildren files children
  pub compiled : List CompiledFile
  pub each : AreCompiled files children compiled
  pub objects_are : objects ≡ objects_of files children compiled
  pub clock_is : clock_by compiled ≡ Some clock
  pub fits : FitsHub (header_by objects)
