-- internal: what is known of the files of a project while they are looked at, one by one, and their first refusal.
use Rattle.std.specs.Prelude.{◌≡◌, ℕ, ◌<◌, ◌==◌, ◌^◌, min, if◌then◌else◌, Bool, codes, List, length, slice_get, Option, Some, None, map}
use Rattle.std.specs.List.{flat_map}
use Rattle.p8_tree.specs.Sources.{MethodTree, Source}
use Rattle.p8_tree.specs.Projects.{NamedSource}
use Rattle.p8_words.specs.declared.failure.Fail.{Fail}
use Rattle.p8_words.specs.declared.failure.Fail.TheVariants as fail_case
use Rattle.p8_tree.specs.declared.faults.Fault.{Fault}
use Rattle.p8_tree.specs.Faults.{IsFirstFault, IfRefused, PhaseFault, RefusalBefore, IsFirstRefusal}
use Rattle.p8_tree.specs.declared.refusal.Refusal.TheVariants.{WrongArity, ImageTooLarge}
use Rattle.p8_tree.specs.Refusals.{refusal_number}
use Rattle.p8_kinds.specs.declared.children.Children.{Children}
use Rattle.p8_kinds.specs.declared.kinds.Kinds.{Kinds}
use Rattle.p8_fold.specs.ConstantEntries.{setting_of as setting_in}
use Rattle.p8_kinds.specs.FileSettings.{file_setting}
use Rattle.p8_fold.specs.Meanings.{Setting}
use Rattle.p8_constants.specs.FileItems.{Item, items}
use Rattle.p8_constants.specs.Standing.{items_of}
use Rattle.p8_names.specs.Kinds.{numbered, objects}
use Rattle.p8_names.specs.Faults.{IsNameFault}
use Rattle.p8_names.specs.Resolution.{IsNamed}
use Rattle.p8_dat.specs.Blocks.{IsDatFault}
use Rattle.p8_image.specs.declared.clocks.Clock.{Clock}
use Rattle.p8_image.specs.declared.parts.ObjectPart.{ObjectPart}
use Rattle.p8_image.specs.Clocks.{clock_of}
use Rattle.p8_image.specs.Layout.{header_by, image_of}
use Rattle.p8_image.specs.Loading.{ImageValue, image_in}
use Rattle.p8_image.specs.Projects.{FitsHub}
use Rattle.p8_stmt.specs.declared.code.MethodCode.{MethodCode}
use Rattle.p8_build.specs.declared.accepting.AcceptedFile.{AcceptedFile}
use Rattle.p8_build.specs.declared.fault.PhaseRefusal.{PhaseRefusal}
use Rattle.p8_build.specs.declared.sizes.Size.{Size}
use Rattle.p8_build.specs.declared.sizes.Size.TheVariants as size_case
use Rattle.p8_build.specs.Parts.{data_start, strings_in_method, text_in, method_parts, variable_in, instances_of}
use Rattle.p8_build.specs.Files.{CompiledFile, IsData, IsCodeFault, IsCompiled, method_names}
use Rattle.p8_build.specs.Builds.{IsFile, IsRefusal, IsImageFault, constant_named}
use Rattle.p8_build.specs.Arguments.{arguments_at}
use Rattle.p8_build.specs.Sizes.{IsSizeOf}
use Rattle.p8_build.specs.Accepted.{compiled_file, methods_of, HasTables}
use Rattle.p8_build.specs.Measuring.{IfSizeAt}

-- ---- a file

-- what the file of this number comes to
pub record IsAcceptedFile (source : Source) (children : Children) (top : Bool) (f : AcceptedFile) : Type 0 where
  pub compiled : IsCompiled source children top (compiled_file f)
  pub tables : HasTables source children f

abbrev pub IsAcceptedAt : List NamedSource → List Children → ℕ → AcceptedFile → Type 0
IsAcceptedAt files children i f = (file : NamedSource) (seen : Children) → IsFile files children i file seen → IsAcceptedFile file.tree seen (i == 0) f

-- what all files come to
pub record AreAccepted (files : List NamedSource) (children : List Children) (fs : List AcceptedFile) : Type 0 where
  pub count : length fs ≡ length files
  pub each : (i : ℕ) (f : AcceptedFile) → slice_get fs i ≡ Some f → IsAcceptedAt files children i f

-- the numbers of arguments that a fault of the names of a file tells
abbrev pub names_size : Source → Children → Fault → Option Size
names_size source children f = if f.number == refusal_number WrongArity then arguments_at source children f.place else None

-- the first refusal of a file, phase by phase, and its size
pub data IsFirstByPhase (source : Source) (children : Children) (top : Bool) (r : PhaseRefusal) : Type 0 where
  by_names : r.phase ≡ 0 → IsFirstFault (IsNameFault source children top) r.fault → r.size ≡ names_size source children r.fault →
      IsFirstByPhase source children top r
  by_data : (kinds : Kinds) → IsNamed source children top kinds → r.phase ≡ 1
      → IsFirstFault (IsDatFault (file_setting kinds children) (data_start (file_setting kinds children) source) source) r.fault → r.size ≡ None →
      IsFirstByPhase source children top r
  by_code : (x : CompiledFile) → IsNamed source children top x.kinds → IsData source children x → r.phase ≡ 2 →
      IsFirstFault (IsCodeFault source children x) r.fault
      → IfSizeAt (method_names children x) (numbered (items source)) r.fault r.size → IsFirstByPhase source children top r

-- of the file of this number
pub record IsFirstOfFile (source : Source) (children : Children) (i : ℕ) (r : PhaseRefusal) : Type 0 where
  pub file : r.file ≡ i
  pub first : IsFirstByPhase source children (i == 0) r

-- ---- the refusals of a project

-- a fact of a refusal, which says nothing of want of memory
abbrev pub IfPhaseRefused : (PhaseRefusal → Type 0) → Fail PhaseRefusal → Type 0
IfPhaseRefused P (fail_case.Refused r) = P r
IfPhaseRefused P fail_case.NoMemory = Unit {0}

abbrev pub refusal_of : PhaseRefusal → PhaseFault
refusal_of r = record { phase = r.phase; file = r.file; fault = r.fault }

-- the first refusal of some files, before the phase of the image, and its size
pub record IsFirstAmong (files : List NamedSource) (children : List Children) (Among : ℕ → Type 0) (r : PhaseRefusal) : Type 0 where
  pub phase : r.phase < 3
  pub file : Among r.file
  pub holds : IsRefusal files children (refusal_of r)
  pub first : (b : PhaseFault) → b.phase < 3 → Among b.file → IsRefusal files children b → ¬ RefusalBefore b (refusal_of r)
  pub size : IsSizeOf files children (refusal_of r) r.size

-- of the file of this number, and of those below it
abbrev pub IsFirstIn : List NamedSource → List Children → ℕ → PhaseRefusal → Type 0
IsFirstIn files children i r = IsFirstAmong files children (λ j. j ≡ i) r

abbrev pub IsFirstBelow : List NamedSource → List Children → ℕ → PhaseRefusal → Type 0
IsFirstBelow files children n r = IsFirstAmong files children (λ j. j < n) r

-- the first refusal of all, and its size
pub record IsFirstAt (files : List NamedSource) (children : List Children) (r : PhaseRefusal) : Type 0 where
  pub file : NamedSource
  pub stands : slice_get files r.file ≡ Some file
  pub first : IsFirstRefusal (IsRefusal files children) (refusal_of r)
  pub size : IsSizeOf files children (refusal_of r) r.size

-- ---- objects

-- an object of these items and methods, with the bytes of its DAT and the codes of its methods
abbrev pub object_by : List NamedSource → Setting → List Item → List MethodTree → (dat : List ℕ) → List MethodCode → ObjectPart
object_by files s xs ms dat codes = record {
  variables = flat_map (variable_in s) xs;
  dat = dat;
  methods = method_parts (flat_map strings_in_method ms) ms codes;
  texts = map (λ x. text_in s x.1) (flat_map strings_in_method ms);
  instances = flat_map (instances_of files s) (objects xs);
}

abbrev pub object_in : List NamedSource → AcceptedFile → List MethodCode → ObjectPart
object_in files f codes = object_by files (setting_in f.tables.consts) (items_of f.items) (methods_of f) f.dat.bytes codes

-- ---- the image

-- the clock by the names of the top file
abbrev pub clock_in : Kinds → Option Clock
clock_in kinds = clock_of (constant_named kinds (codes "_CLKMODE")) (constant_named kinds (codes "_CLKFREQ")) (constant_named kinds (codes "_XINFREQ"))

-- the image of objects with such a clock
pub record IsImageWith (told : Option Clock) (objects : List ObjectPart) (image : ImageValue) : Type 0 where
  pub clock : Clock
  pub is : told ≡ Some clock
  pub fits : FitsHub (header_by objects)
  pub image_is : image ≡ image_in (image_of clock objects)

abbrev pub IfFirstImageFault : List ObjectPart → Option Clock → Fail Fault → Type 0
IfFirstImageFault objects clock fail = IfRefused (IsFirstFault (IsImageFault objects clock)) fail

-- the size that a fault of the image tells
abbrev pub image_size : List ObjectPart → Fault → Option Size
image_size objects f = if f.number == refusal_number ImageTooLarge then Some (size_case.Image (min (header_by objects).dcurr (2 ^ 31))) else None

-- the image is refused
pub record IsImageRefusal (objects : List ObjectPart) (clock : Option Clock) (r : PhaseRefusal) : Type 0 where
  pub phase : r.phase ≡ 3
  pub file : r.file ≡ 0
  pub first : IsFirstFault (IsImageFault objects clock) r.fault
  pub size : r.size ≡ image_size objects r.fault
