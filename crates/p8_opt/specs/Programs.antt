-- A project as its source's meaning reads it, and the addresses that its image has.
use Rattle.std.specs.Prelude.{ℕ, zero, suc, ◌+◌, ◌-◌, ◌%◌, List, [], ◌∷◌, length, map, slice_get, slice_index, Option, option_map, unwrap_or, nat_le}
use Rattle.std.specs.Prelude.{if◌then◌else◌}
use Rattle.p8_tree.specs.Sources.{Child, Source}
use Rattle.p8_tree.specs.Projects.{NamedSource}
use Rattle.p8_words.specs.Operators.{or_zero}
use Rattle.p8_constants.specs.FileItems.{items}
use Rattle.p8_kinds.specs.declared.children.Children.{Children}
use Rattle.p8_kinds.specs.declared.kinds.Kinds.{Kinds}
use Rattle.p8_kinds.specs.declared.name_kinds.NameKind.{NameKind}
use Rattle.p8_kinds.specs.Kinds.{kind_of}
use Rattle.p8_names.specs.Kinds.{numbered, objects}
use Rattle.p8_gen.specs.Files.{first_offset}
use Rattle.p8_image.specs.declared.parts.ObjectPart.{ObjectPart}
use Rattle.p8_image.specs.Layout.{bases_of, variables_base, code_offset, text_offsets, inner_offset}
use Rattle.p8_meaning.specs.Programs.{Program, File, Addresses}
use Rattle.p8_build.specs.Parts.{number_of, strings_of, text_number}
use Rattle.p8_build.specs.Files.{CompiledFile}

-- ---- the program

-- what a name is in a method of this number; a number that no method has counts as 0
abbrev pub kind_by : Kinds → Source → (method : ℕ) → List ℕ → Option NameKind
kind_by kinds source method name = kind_of kinds (if nat_le method (length (numbered (items source))) then method else 0) name

abbrev pub file_of : List NamedSource → Source → Children → CompiledFile → File
file_of files source seen x = record {
  source = source;
  kind = kind_by x.kinds source;
  children = seen.items;
  child_files = map (λ (c : Child). number_of files c.file) (objects (items source));
}

abbrev pub program_from : (all files : List NamedSource) → List Children → List CompiledFile → Program
program_from all (file ∷ files) (seen ∷ children) (x ∷ xs) = file_of all file.tree seen x ∷ program_from all files children xs
program_from all _ _ _ = []

abbrev pub program_of : List NamedSource → List Children → List CompiledFile → Program
program_of files children xs = program_from files files children xs

-- a program in which each file has this source in place of its own, by the file's number
abbrev pub with_sources : (ℕ → Source) → Program → Program
with_sources sources [] = []
with_sources sources (file ∷ files) = record file { source = sources 0 } ∷ with_sources (λ i. sources (suc i)) files

-- the sources of a project's files, by their numbers
abbrev pub own_sources : List NamedSource → ℕ → Source
own_sources [] i = []
own_sources (file ∷ files) zero = file.tree
own_sources (file ∷ files) (suc i) = own_sources files i

-- ---- its addresses

-- what f gives of element i, or 0 where there is none
abbrev pub of_file : {A : Type 0} → (A → ℕ) → List A → ℕ → ℕ
of_file f xs i = unwrap_or (option_map f (slice_get xs i)) 0

-- which instance of an object stands at a place of its table, counted from 0: the methods come first, which are counted from 1
abbrev pub instance_number : ObjectPart → (position : ℕ) → ℕ
instance_number object position = position - (length object.methods + 1)

-- the base of the instance at a place of the table of the object of a file, from that object's base, mod 2^16
abbrev pub inner_base : List ObjectPart → (file : ℕ) → (position : ℕ) → ObjectPart → ℕ
inner_base all file position object =
    (slice_index (bases_of all) (slice_index object.instances (instance_number object position)) + 65536 - slice_index (bases_of all) file % 65536) % 65536

abbrev pub addresses_of : List NamedSource → List CompiledFile → List ObjectPart → Addresses
addresses_of files xs all = record {
  label = λ file name. of_file (λ (x : CompiledFile). or_zero (first_offset x.labels name)) xs file;
  text = λ file place. of_file (λ (object : ObjectPart). slice_index (text_offsets object)
      (of_file (λ (f : NamedSource). text_number (strings_of f.tree) place) files file)) all file;
  code = λ file method. of_file (λ (object : ObjectPart). code_offset object (method - 1)) all file;
  object_base = λ file position. of_file (inner_base all file position) all file;
  object_variables = λ file position. of_file (λ (object : ObjectPart). inner_offset all object (instance_number object position) % 65536) all file;
  top = record { file = 0; base = 16; variables = variables_base all };
}
