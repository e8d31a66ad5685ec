-- What building with short code promises of its image, beside what the image is.
use Rattle.std.specs.Prelude.{◌≡◌, ◌≤◌, ℕ, List, length, slice_get, Some}
use Rattle.p8_tree.specs.Projects.{NamedSource}
use Rattle.p8_image.specs.Loading.{ImageValue, memory_of}
use Rattle.p8_stmt.specs.declared.code.MethodCode.{MethodCode}
use Rattle.p8_build.specs.Files.{CompiledFile}
use Rattle.p8_opt.specs.Meaning.{KeepsMeaning}
use Rattle.p8_opt.specs.Programs.{program_of, addresses_of}
use Rattle.p8_opt.specs.Shorts.{IsShortImageBuilt}

-- file by file and method by method, the second codes have no more bytes than the first ones
pub record AreNoLonger (xs ys : List CompiledFile) : Type 0 where
  pub files : length ys ≡ length xs
  pub methods : (i : ℕ) (x y : CompiledFile) → slice_get xs i ≡ Some x → slice_get ys i ≡ Some y → length y.codes ≡ length x.codes
  pub code : (i k : ℕ) (x y : CompiledFile) (a b : MethodCode) → slice_get xs i ≡ Some x → slice_get ys i ≡ Some y
      → slice_get x.codes k ≡ Some a → slice_get y.codes k ≡ Some b → length b.bytes ≤ length a.bytes

-- of the methods of a project none is longer in this image than in the one that is built without short code
abbrev pub HasNoLongerMethods : List NamedSource → ImageValue → Type 0
HasNoLongerMethods files image = (is : IsShortImageBuilt files image) → AreNoLonger is.0.built.compiled is.0.built.short

-- this image keeps the meaning of the project's source as it stands, at the addresses of the short code
abbrev pub KeepsSource : List NamedSource → ImageValue → Type 0
KeepsSource files image =
    (is : IsShortImageBuilt files image)
    → KeepsMeaning (memory_of image.file) (program_of files is.0.built.children is.0.built.compiled) (addresses_of files is.0.built.short is.0.objects)
