-- The lines of a map, each at the address of what it tells.
use Rattle.std.specs.Prelude.{ℕ, ◌+◌, ◌*◌, ◌%◌, ◌^◌, ◌≡◌, List, [], ◌++◌, length, slice_get, Some}
use Rattle.p8_image.specs.declared.parts.ObjectPart.{ObjectPart}
use Rattle.p8_map.specs.declared.names.FileNames.{FileNames}
use Rattle.p8_meaning.specs.Programs.{Instance as Standing, Addresses}
use Rattle.p8_image.specs.Places.{base_of, text_place}
use Rattle.p8_image.specs.Headers.{word_at}
use Rattle.p8_map.specs.Map.{header_lines, memory_lines, object_line, file_name, child_line, label_line, method_line, frame_lines, text_line}
use Rattle.p8_map.specs.Map.{instance_line, variable_line}
use Rattle.p8_legend.specs.Stands.{IsFileAt, HasPath, NamedLabel, NamedMethod, NamedVariable, method_range, variable_range}

-- a text made of lines, one after the other, each of which is so
pub data IsMadeOf (IsLine : List ℕ → Type 0) : List ℕ → Type 0 where
  no_line : IsMadeOf IsLine []
  one_more : {line text : List ℕ} → IsLine line → IsMadeOf IsLine text → IsMadeOf IsLine (line ++ text)

-- what tells an object, one inside it, a text, an instance; a label, a method with the names of its frame, and a variable
pub data IsMapLine (files : List FileNames) (objects : List ObjectPart) (addresses : Addresses) : List ℕ → Type 0 where
  of_object : {f : ℕ} {names : FileNames} {object : ObjectPart} → IsFileAt files objects f names object →
      IsMapLine files objects addresses (object_line (base_of objects f % 2 ^ 16) names.file)
  of_child : {f : ℕ} {names : FileNames} {object : ObjectPart} {name : List ℕ} {child : ℕ} (i : ℕ) → IsFileAt files objects f names object →
      slice_get names.instances i ≡ Some name → slice_get object.instances i ≡ Some child
      → IsMapLine files objects addresses (child_line ((base_of objects f + 4 * (length object.methods + 1 + i)) % 2 ^ 16) name (file_name files child))
  of_text : {f : ℕ} {names : FileNames} {object : ObjectPart} {text : List ℕ} (k : ℕ) → IsFileAt files objects f names object →
      slice_get object.texts k ≡ Some text
      → IsMapLine files objects addresses (text_line (text_place objects f object k % 2 ^ 16) text)
  of_instance : {path : List ℕ} {instance : Standing} {names : FileNames} {object : ObjectPart} → HasPath files objects addresses path instance →
      IsFileAt files objects instance.file names object
      → IsMapLine files objects addresses (instance_line instance.variables path names.file (base_of objects instance.file % 2 ^ 16))
  of_label : (x : NamedLabel files objects) → IsMapLine files objects addresses (label_line (base_of objects x.f) x.label)
  of_method : (x : NamedMethod files objects) → IsMapLine files objects addresses
      (method_line (method_range files objects addresses x).address (x.k + 1) x.m.name ++ frame_lines x.m)
  of_variable : (x : NamedVariable files objects addresses) →
      IsMapLine files objects addresses (variable_line (variable_range files objects addresses x).address x.path x.name x.variable)

-- A map is that of the header, of such lines, and of the memory behind them.
pub record IsMadeMap (image : List ℕ) (files : List FileNames) (objects : List ObjectPart) (addresses : Addresses) (text : List ℕ) : Type 0 where
  pub lines : List ℕ
  pub made : IsMadeOf (IsMapLine files objects addresses) lines
  pub is : text ≡ header_lines image ++ lines ++ memory_lines (word_at image 10) (word_at image 14)
