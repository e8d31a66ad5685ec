-- What is known of a project that is accepted: what each file is compiled to, and the image.
use Rattle.std.specs.Prelude.{◌≡◌, ℕ, List, map, slice_get, Option, Some}
use Rattle.p8_tree.specs.Sources.{MethodTree, Source}
use Rattle.p8_tree.specs.Projects.{NamedSource}
use Rattle.p8_tree.specs.Views.{source_of, method_of}
use Rattle.p8_constants.specs.FileItems.{items}
use Rattle.p8_constants.specs.Standing.{items_of}
use Rattle.p8_fold.specs.ConstantEntries.{setting_of}
use Rattle.p8_kinds.specs.FileSettings.{file_setting}
use Rattle.p8_kinds.specs.Kinds.{own}
use Rattle.p8_kinds.specs.Publics.{public_of}
use Rattle.p8_kinds.specs.declared.children.Children.{Children}
use Rattle.p8_names.specs.Kinds.{numbered}
use Rattle.p8_names.specs.Children.{AreChildren}
use Rattle.p8_gen.specs.Files.{first_offset}
use Rattle.p8_gen.specs.Labels.{offset_in}
use Rattle.p8_image.specs.declared.clocks.Clock.{Clock}
use Rattle.p8_image.specs.declared.parts.ObjectPart.{ObjectPart}
use Rattle.p8_image.specs.Layout.{header_by, image_of}
use Rattle.p8_image.specs.Loading.{image_in}
use Rattle.p8_image.specs.Projects.{FitsHub}
use Rattle.p8_stmt.specs.declared.code.MethodCode.{MethodCode}
use Rattle.p8_build.specs.declared.accepting.AcceptedFile.{AcceptedFile}
use Rattle.p8_build.specs.declared.building.Accepted.{Accepted}
use Rattle.p8_build.specs.declared.building.Built.{Built}
use Rattle.p8_build.specs.Files.{CompiledFile, line_begins}
use Rattle.p8_build.specs.Builds.{IsFile, AreCompiled, objects_of, clock_by}

-- ---- a file

-- what a file is compiled to, with these codes of its methods
abbrev pub recoded_file : AcceptedFile → List MethodCode → CompiledFile
recoded_file f codes = record { kinds = f.kinds; dat = f.dat.bytes; labels = f.dat.labels; codes = codes }

abbrev pub compiled_file : AcceptedFile → CompiledFile
compiled_file f = recoded_file f f.codes

-- the methods of a file, as the code has them
abbrev pub methods_of : AcceptedFile → List MethodTree
methods_of f = map (λ m. method_of m.now) f.methods

-- a file has its tree, its items, its methods in the order of their numbers, the tables of its names, and where the lines of its DAT begin
pub record HasTables (source : Source) (children : Children) (f : AcceptedFile) : Type 0 where
  pub tree : source_of f.file.now ≡ source
  pub items_are : items_of f.items ≡ items source
  pub methods_are : methods_of f ≡ numbered (items source)
  pub publics : (item : ℕ) (name : List ℕ) → own f.tables.publics item name ≡ public_of children item name
  pub consts : setting_of f.tables.consts ≡ file_setting f.kinds children
  pub labels : (name : List ℕ) → offset_in f.tables.labels name ≡ first_offset f.dat.labels name
  pub lines : f.dat.lines ≡ line_begins (file_setting f.kinds children) source

-- ---- a project

-- what objects with such a clock are built to
pub record IsFinished (told : Option Clock) (objects : List ObjectPart) (b : Built) : Type 0 where
  pub objects_are : b.objects ≡ objects
  pub clock : Clock
  pub is : told ≡ Some clock
  pub fits : FitsHub (header_by objects)
  pub image : b.image ≡ image_in (image_of clock objects)

abbrev pub compiled_files : Accepted → List CompiledFile
compiled_files a = map compiled_file a.files

-- the project is accepted
pub record IsAccepted (files : List NamedSource) (a : Accepted) : Type 0 where
  pub seen : AreChildren files a.children
  pub each : AreCompiled files a.children (compiled_files a)
  pub tables : (i : ℕ) (file : NamedSource) (seen : Children) (f : AcceptedFile) → IsFile files a.children i file seen →
      slice_get a.files i ≡ Some f → HasTables file.tree seen f
  pub finished : IsFinished (clock_by (compiled_files a)) (objects_of files a.children (compiled_files a)) a.built
