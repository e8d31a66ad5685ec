-- What the image of a project is, by what codes its methods have: the kind of each name, the bytes of each DAT, the code of each method, and the objects
-- of which it is laid out. Why a source is refused is no part of it: what is accepted has such an image (this project's profile).
use Rattle.std.specs.Prelude.{◌≡◌, ℕ, ◌*◌, ◌≤◌, List, length, map, slice_get, Some}
use Rattle.p8_tree.specs.Sources.{MethodTree, Source}
use Rattle.p8_tree.specs.Projects.{NamedSource}
use Rattle.p8_tree.specs.Statements.{Statements}
use Rattle.p8_kinds.specs.declared.children.Children.{Children}
use Rattle.p8_kinds.specs.declared.kinds.Kinds.{Kinds}
use Rattle.p8_fold.specs.Meanings.{Setting}
use Rattle.p8_kinds.specs.Kinds.{own}
use Rattle.p8_constants.specs.FileItems.{items}
use Rattle.p8_names.specs.Kinds.{kinds, methods, numbered}
use Rattle.p8_dat.specs.Blocks.{dat_bytes, placed_lines}
use Rattle.p8_dat.specs.Labels.{labels_of}
use Rattle.p8_gen.specs.Methods.{bytes_of, method_code}
use Rattle.p8_gen.specs.Names.{Names}
use Rattle.p8_gen.specs.Uses.{use_of}
use Rattle.p8_stmt.specs.declared.code.MethodCode.{MethodCode}
use Rattle.p8_stmt.specs.Methods.{longs_in, use_in}
use Rattle.p8_image.specs.declared.clocks.Clock.{Clock}
use Rattle.p8_image.specs.declared.parts.ObjectPart.{ObjectPart}
use Rattle.p8_image.specs.Layout.{image_of}
use Rattle.p8_build.specs.Parts.{data_start}
use Rattle.p8_build.specs.Files.{CompiledFile, setting_of, method_names}
use Rattle.p8_build.specs.Builds.{IsFile, objects_of, clock_by}
use Rattle.p8_prop.specs.Names.{IsSetting, AreChildren}

-- ---- a file: what it sees of its objects is at hand

-- its names mean this where a constant is needed, and have these kinds: those of the file at 0, those of each method at its number
pub record HasKinds (source : Source) (children : Children) (found : Kinds) : Type 0 where
  pub setting : Setting
  pub right : IsSetting source children.items setting
  pub each : (method : ℕ) (n : List ℕ) → method ≤ length (methods (items source)) → own found method n ≡ kinds setting (items source) method n

-- the bytes and the labels of its DAT
pub record HasData (source : Source) (children : Children) (x : CompiledFile) : Type 0 where
  pub bytes : x.dat ≡ dat_bytes (setting_of children x) (data_start (setting_of children x) source) source
  pub labels : x.labels ≡ labels_of x.kinds (placed_lines (setting_of children x) (data_start (setting_of children x) source) source)

-- the code of a method with this body: its bytes, the bytes of its locals, and its uses of texts
pub record HasCode (names : Names) (m : MethodTree) (body : Statements) (code : MethodCode) : Type 0 where
  pub bytes : code.bytes ≡ bytes_of (method_code names body)
  pub locals : code.locals ≡ 4 * longs_in names.constants m.locals
  pub strings : map use_of code.strings ≡ map (use_in (method_code names body)) (method_code names body).texts

-- what codes a method may have, by what names mean where a constant is needed and by what they mean in its code
abbrev pub Coding : Type 1
Coding = Setting → Names → MethodTree → MethodCode → Type 0

-- the code of its body
abbrev pub Plain : Coding
Plain setting names m code = HasCode names m m.body code

-- the codes of its methods, in the order of their numbers
pub record HasCodes (Coded : Coding) (source : Source) (children : Children) (x : CompiledFile) : Type 0 where
  pub count : length x.codes ≡ length (numbered (items source))
  pub each : (k : ℕ) (m : MethodTree) (code : MethodCode) → slice_get (numbered (items source)) k ≡ Some m → slice_get x.codes k ≡ Some code
      → Coded (setting_of children x) (method_names children x k m) m code

pub record IsCompilation (Coded : Coding) (source : Source) (children : Children) (x : CompiledFile) : Type 0 where
  pub names : HasKinds source children x.kinds
  pub dat : HasData source children x
  pub codes : HasCodes Coded source children x

-- ---- a project

pub record AreCompilations (Coded : Coding) (files : List NamedSource) (children : List Children) (xs : List CompiledFile) : Type 0 where
  pub count : length xs ≡ length files
  pub each : (i : ℕ) (file : NamedSource) (seen : Children) (x : CompiledFile) → IsFile files children i file seen → slice_get xs i ≡ Some x
      → IsCompilation Coded file.tree seen x

-- this is the image of its files, which are compiled so and have these objects
pub record IsImageOf (Coded : Coding) (files : List NamedSource) (children : List Children) (xs : List CompiledFile) (objects : List ObjectPart)
    (image : List ℕ) : Type 0 where
  pub seen : AreChildren files children
  pub compiled : AreCompilations Coded files children xs
  pub laid_out : objects ≡ objects_of files children xs
  pub clock : Clock
  pub clock_is : clock_by xs ≡ Some clock
  pub is : image ≡ image_of clock objects
