-- What the files of a project are compiled to, and what of a file can't be (this project's profile).
use Rattle.std.specs.Prelude.{◌≡◌, ℕ, ◌+◌, Bool, true, false, nat_lt, ◌||◌, List, length, map, slice_get, Some}
use Rattle.p8_tree.specs.Sources.{MethodTree, Source}
use Rattle.p8_tree.specs.Projects.{NamedSource}
use Rattle.p8_tree.specs.declared.faults.Fault.{Fault}
use Rattle.p8_tree.specs.Faults.{fault}
use Rattle.p8_tree.specs.declared.refusal.Refusal.TheVariants.{TooManyMethods}
use Rattle.p8_fold.specs.Meanings.{Setting}
use Rattle.p8_constants.specs.FileItems.{items}
use Rattle.p8_kinds.specs.declared.children.Children.{Children}
use Rattle.p8_kinds.specs.declared.kinds.Kinds.{Kinds}
use Rattle.p8_kinds.specs.declared.name_kinds.Label.{Label}
use Rattle.p8_kinds.specs.FileSettings.{file_setting}
use Rattle.p8_names.specs.Kinds.{numbered, objects, instances}
use Rattle.p8_names.specs.Resolution.{IsNamed}
use Rattle.p8_dat.specs.Blocks.{placed_lines, dat_bytes, IsDatFault}
use Rattle.p8_dat.specs.Labels.{labels_of}
use Rattle.p8_dat.specs.Lines.{begin_of}
use Rattle.p8_dat.specs.declared.assembling.LineBegin.{LineBegin}
use Rattle.p8_gen.specs.Names.{Names}
use Rattle.p8_gen.specs.Files.{names_in}
use Rattle.p8_gen.specs.Scopes.{names_from}
use Rattle.p8_gen.specs.declared.coder.Tables.{Tables}
use Rattle.p8_stmt.specs.declared.code.MethodCode.{MethodCode}
use Rattle.p8_stmt.specs.Methods.{IsCodeOf, IsMethodFault}
use Rattle.p8_image.specs.declared.parts.ObjectPart.{ObjectPart}
use Rattle.p8_build.specs.Parts.{data_start, object_part}

-- what a file is compiled to: the kinds of its names, the bytes and labels of its DAT, and the codes of its methods
pub record CompiledFile : Type 0 where
  pub kinds : Kinds
  pub dat : List ℕ
  pub labels : List Label
  pub codes : List MethodCode

-- ---- its data

abbrev pub setting_of : Children → CompiledFile → Setting
setting_of children x = file_setting x.kinds children

pub record IsData (source : Source) (children : Children) (x : CompiledFile) : Type 0 where
  pub clean : (f : Fault) → ¬ IsDatFault (setting_of children x) (data_start (setting_of children x) source) source f
  pub bytes : x.dat ≡ dat_bytes (setting_of children x) (data_start (setting_of children x) source) source
  pub labels : x.labels ≡ labels_of x.kinds (placed_lines (setting_of children x) (data_start (setting_of children x) source) source)

-- where the lines of its DAT begin
abbrev pub line_begins : Setting → Source → List LineBegin
line_begins s source = map begin_of (placed_lines s (data_start s source) source)

-- ---- its code

-- the names of a method, which is counted from 0
abbrev pub method_names : Children → CompiledFile → ℕ → MethodTree → Names
method_names children x k m = names_in x.kinds children x.labels (k + 1) m.place

-- the same by the tables of the file
abbrev pub names_with : Kinds → Tables → ℕ → MethodTree → Names
names_with kinds tables k m = names_from kinds (k + 1) tables m.place

-- how many methods a file may have, and how many together with its instances of objects
abbrev pub most_methods : ℕ
most_methods = 254

abbrev pub most_entries : ℕ
most_entries = 255

-- a file with so many instances has no room for so many methods
abbrev pub are_too_many : (instances methods : ℕ) → Bool
are_too_many instances methods = nat_lt most_methods methods || nat_lt most_entries (methods + instances)

-- 27 at the name of the first method too many, by the methods' numbers
pub record IsFirstTooMany (s : Setting) (source : Source) (k : ℕ) : Type 0 where
  pub too_many : are_too_many (instances s (objects (items source))) (k + 1) ≡ true
  pub first : are_too_many (instances s (objects (items source))) k ≡ false

pub data IsCodeFault (source : Source) (children : Children) (x : CompiledFile) (f : Fault) : Type 0 where
  of_method : (k : ℕ) (m : MethodTree) → slice_get (numbered (items source)) k ≡ Some m → IsMethodFault (method_names children x k m) m f →
      IsCodeFault source children x f
  too_many : (k : ℕ) (m : MethodTree) → slice_get (numbered (items source)) k ≡ Some m → IsFirstTooMany (setting_of children x) source k →
      fault TooManyMethods m.place ≡ f → IsCodeFault source children x f

pub record IsCode (source : Source) (children : Children) (x : CompiledFile) : Type 0 where
  pub clean : (f : Fault) → ¬ IsCodeFault source children x f
  pub count : length x.codes ≡ length (numbered (items source))
  pub each : (k : ℕ) (m : MethodTree) (code : MethodCode) → slice_get (numbered (items source)) k ≡ Some m → slice_get x.codes k ≡ Some code →
      IsCodeOf (method_names children x k m) m code

-- ---- all of it

-- a file, which is the top file or none, is compiled to this
pub record IsCompiled (source : Source) (children : Children) (top : Bool) (x : CompiledFile) : Type 0 where
  pub names : IsNamed source children top x.kinds
  pub dat : IsData source children x
  pub code : IsCode source children x

-- its object in the image
abbrev pub object_of : List NamedSource → Source → Children → CompiledFile → ObjectPart
object_of files source children x = object_part files (setting_of children x) source x.dat x.codes
