-- A project with folded methods. Nothing but the bodies of methods changes.
use Rattle.std.specs.Prelude.{◌≡◌, ℕ, [], ◌∷◌, map, option_map}
use Rattle.p8_tree.specs.Sources.{MethodTree, BlockTree, Method, Source}
use Rattle.p8_meaning.specs.Programs.{Program, File, setting_of}
use Rattle.p8_meaning.specs.Calls.{method_of}
use Rattle.p8_meaning.specs.Constants.{Constants, constants_in}
use Rattle.p8_meaning.specs.Folding.{folded_body}

abbrev pub folded_method : Constants → MethodTree → MethodTree
folded_method c m = record m { body = folded_body c m.body }

abbrev pub folded_block : Constants → BlockTree → BlockTree
folded_block c (Method m) = Method (folded_method c m)
folded_block c block = block

abbrev pub folded_source : Constants → Source → Source
folded_source c source = map (folded_block c) source

-- ---- as the meaning reads it

-- a file's constants, in a method of this number, or outside all methods at 0
abbrev pub constants_of : File → (method : ℕ) → Constants
constants_of file method = constants_in (setting_of file method)

-- a file whose methods are those of another one, folded
pub record IsFolded (file other : File) : Type 0 where
  pub same : other ≡ record file { source = other.source }
  pub methods : (number : ℕ) → method_of other number ≡ option_map (folded_method (constants_of file number)) (method_of file number)

abbrev pub AreFolded : (program other : Program) → Type 0
AreFolded [] [] = Unit {0}
AreFolded (file ∷ program) (other ∷ others) = IsFolded file other × AreFolded program others
AreFolded program other = ⊥

-- a file with its source folded by the constants of the whole file
abbrev pub folded_file : File → File
folded_file file = record file { source = folded_source (constants_of file 0) file.source }

abbrev pub folded_program : Program → Program
folded_program program = map folded_file program

-- no method has a name of its own that hides one of the file's constants or objects
pub record HidesNone (file : File) : Type 0 where
  pub same : (method : ℕ) → constants_of file method ≡ constants_of file 0
