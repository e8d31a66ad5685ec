-- The parts of an object's image, by what its file is compiled to.
-- Sources: the Propeller Manual v1.2, "VAR", "PUB", "OBJ" and "DAT" of the Spin chapter; the layout is the public form of Spin
-- images, its limits are this project's profile.
use Rattle.std.specs.Prelude.{◌≡◌, ℕ, ◌+◌, ◌*◌, List, [], ◌∷◌, length, map, replicate, slice_get, Some, if◌then◌else◌}
use Rattle.std.specs.List.{flat_map}
use Rattle.std.specs.Str.{bytes_eq}
use Rattle.p8_tree.specs.declared.places.Place.{Place}
use Rattle.p8_tree.specs.Proper.{IsProperFile}
use Rattle.p8_tree.specs.Sources as trees
use Rattle.p8_tree.specs.Sources.{MethodTree, Source}
use Rattle.p8_tree.specs.Projects.{NamedSource}
use Rattle.p8_tree.specs.Faults.{is_same_place}
use Rattle.p8_tree.specs.Expressions.{Form, Str, Strings}
use Rattle.p8_fold.specs.Meanings.{Setting}
use Rattle.p8_fold.specs.Values.{text_of_items}
use Rattle.p8_constants.specs.FileItems.{Item, variable, items}
use Rattle.p8_constants.specs.Rules.{count_in}
use Rattle.p8_names.specs.Kinds.{numbered, objects, instances}
use Rattle.p8_build.specs.Strings.{Texts, strings_in}
use Rattle.p8_image.specs.declared.parts.Variable.{Variable}
use Rattle.p8_image.specs.declared.parts.TextUse.{TextUse}
use Rattle.p8_image.specs.declared.parts.MethodPart.{MethodPart}
use Rattle.p8_image.specs.declared.parts.ObjectPart.{ObjectPart}
use Rattle.p8_gen.specs.declared.code.StringUse.{StringUse}
use Rattle.p8_stmt.specs.declared.code.MethodCode.{MethodCode}

-- ---- files

-- each tree is one that was read
abbrev pub AreProper : List NamedSource → Type 0
AreProper files = (i : ℕ) (f : NamedSource) → slice_get files i ≡ Some f → IsProperFile f.tree

-- ---- texts: those of all STRINGs of a file, in the order of its methods and of their places in the source

abbrev pub strings_in_method : MethodTree → Texts
strings_in_method m = strings_in m.body

abbrev pub strings_of : Source → Texts
strings_of source = flat_map strings_in_method (numbered (items source))

-- which of some texts stands at a place, counted from 0
abbrev pub text_number : Texts → Place → ℕ
text_number [] p = 0
text_number (x ∷ xs) p = if is_same_place x.0 p then 0 else 1 + text_number xs p

-- the text of a STRING by what names mean in its file, without the 0 behind it
abbrev pub text_in : Setting → Form → List ℕ
text_in s (Str text) = text
text_in s (Strings es) = text_of_items s es
text_in s form = []

-- ---- methods

abbrev pub use_of_text : Texts → StringUse → TextUse
use_of_text strings u = record { at = u.at; text = text_number strings u.place }

abbrev pub method_part : Texts → MethodTree → MethodCode → MethodPart
method_part strings m code = record {
  parameters = 4 * length m.params;
  locals = code.locals;
  code = code.bytes;
  uses = map (use_of_text strings) code.strings;
}

-- methods with their codes, one by one
abbrev pub method_parts : Texts → List MethodTree → List MethodCode → List MethodPart
method_parts strings (m ∷ ms) (code ∷ codes) = method_part strings m code ∷ method_parts strings ms codes
method_parts strings _ _ = []

-- ---- variables and objects inside

abbrev pub variable_in : Setting → Item → List Variable
variable_in s (variable x) = record { size = x.size; count = count_in s x.count } ∷ []
variable_in s x = []

-- the number of the file with a name, counted from 0 in the order of the project's files
abbrev pub number_of : List NamedSource → List ℕ → ℕ
number_of [] name = 0
number_of (f ∷ fs) name = if bytes_eq name f.name then 0 else 1 + number_of fs name

-- each item of OBJ stands for so many instances of one file
abbrev pub instances_of : List NamedSource → Setting → trees.Child → List ℕ
instances_of files s x = replicate (count_in s x.count) (number_of files x.file)

-- ---- an object

-- where its DAT begins: after its size, two counts, and four bytes for each method and each instance inside
abbrev pub data_start : Setting → Source → ℕ
data_start s source = 4 + 4 * length (numbered (items source)) + 4 * instances s (objects (items source))

-- an object of a file, with the bytes of its DAT and the codes of its methods
abbrev pub object_part : List NamedSource → Setting → Source → (dat : List ℕ) → List MethodCode → ObjectPart
object_part files s source dat codes = record {
  variables = flat_map (variable_in s) (items source);
  dat = dat;
  methods = method_parts (strings_of source) (numbered (items source)) codes;
  texts = map (λ x. text_in s x.1) (strings_of source);
  instances = flat_map (instances_of files s) (objects (items source));
}
