-- internal
-- The names of a project's methods, as their code was made, and what of them has room in code.
use Rattle.std.specs.Prelude.{◌≡◌, ◌<◌, ◌^◌, ℕ, List, slice_get, slice_index, Some}
use Rattle.p8_tree.specs.Sources.{MethodTree, Source}
use Rattle.p8_tree.specs.Projects.{NamedSource}
use Rattle.p8_constants.specs.FileItems.{items}
use Rattle.p8_kinds.specs.declared.children.Children.{Children}
use Rattle.p8_kinds.specs.declared.name_kinds.NameKind.{NameKind}
use Rattle.p8_kinds.specs.declared.name_kinds.NameKind.TheVariants.{Global, Label}
use Rattle.p8_names.specs.Kinds.{numbered}
use Rattle.p8_image.specs.Layout.{text_offsets}
use Rattle.p8_gen.specs.Names.{Names, moved}
use Rattle.p8_meaning.specs.Programs.{Instance}
use Rattle.p8_meaning.specs.Lives.{IsInstance}
use Rattle.p8_build.specs.Parts.{strings_of, text_number}
use Rattle.p8_build.specs.Files.{CompiledFile, method_names, object_of}
use Rattle.p8_build.specs.Builds.{objects_of}
use Rattle.p8_opt.specs.Programs.{program_of, with_sources, addresses_of}

-- the names of a method of a file, counted from 0, with the offsets of the file's texts in its object
abbrev pub names_of : List NamedSource → NamedSource → Children → CompiledFile → (k : ℕ) → MethodTree → Names
names_of files file seen x k m =
    moved (method_names seen x k m) (λ p. slice_index (text_offsets (object_of files file.tree seen x)) (text_number (strings_of file.tree) p)) m.place

-- A variable of an object, or a label of DAT, has room in code: it stands below 2^15, from the begin of the object's variables or of the object.
abbrev pub HasRoom : Names → List ℕ → NameKind → Type 0
HasRoom n name (Global size offset) = offset < 2 ^ 15
HasRoom n name (Label size) = n.label name < 2 ^ 15
HasRoom n name kind = Unit {0}

abbrev pub HaveRoom : Names → Type 0
HaveRoom n = (name : List ℕ) (kind : NameKind) → n.kind name ≡ Some kind → HasRoom n name kind

-- the names of each method of each object that is in use
abbrev pub NamesHaveRoom : (changed : ℕ → Source) → List NamedSource → List Children → List CompiledFile → Type 0
NamesHaveRoom changed files children xs =
    (instance : Instance) → IsInstance (with_sources changed (program_of files children xs)) (addresses_of files xs (objects_of files children xs)) instance
    → (file : NamedSource) (seen : Children) (x : CompiledFile) → slice_get files instance.file ≡ Some file →
    slice_get children instance.file ≡ Some seen → slice_get xs instance.file ≡ Some x
    → (k : ℕ) (m : MethodTree) → slice_get (numbered (items file.tree)) k ≡ Some m → HaveRoom (names_of files file seen x k m)
