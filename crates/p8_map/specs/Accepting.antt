-- internal: the names of the files of an accepted project, by what is worked out of each.
use Rattle.std.specs.Prelude.{◌≡◌, ℕ, List, length, map, slice_get, Some}
use Rattle.std.specs.List.{flat_map}
use Rattle.p8_tree.specs.Sources.{MethodTree}
use Rattle.p8_tree.specs.Projects.{NamedSource}
use Rattle.p8_fold.specs.ConstantEntries.{setting_of}
use Rattle.p8_fold.specs.Meanings.{Setting}
use Rattle.p8_kinds.specs.declared.name_kinds.Label.{Label}
use Rattle.p8_constants.specs.FileItems.{Item}
use Rattle.p8_constants.specs.Standing.{items_of}
use Rattle.p8_names.specs.Kinds.{objects}
use Rattle.p8_lexer.specs.Spelling.{text_in}
use Rattle.p8_build.specs.declared.accepting.AcceptedFile.{AcceptedFile}
use Rattle.p8_build.specs.Accepted.{methods_of}
use Rattle.p8_map.specs.declared.names.FileNames.{FileNames}
use Rattle.p8_map.specs.Names.{variable_name, label_place, spelled_labels, method_names, instance_names}

-- the names of a file of this text and name, with these items and methods
abbrev pub names_with : (text name : List ℕ) → Setting → List Item → List MethodTree → List Label → FileNames
names_with text name s items methods labels = record {
  file = name;
  variables = flat_map (variable_name text) items;
  labels = spelled_labels text (flat_map label_place items) labels;
  methods = map (method_names text s) methods;
  instances = flat_map (instance_names text s) (objects items);
}

-- those of a file, by what it comes to
abbrev pub names_by : (text name : List ℕ) → AcceptedFile → FileNames
names_by text name f = names_with text name (setting_of f.tables.consts) (items_of f.items) (methods_of f) f.dat.labels

-- the names of each file, of which these are the bytes
abbrev pub AreNamesAt : (sources : List (List ℕ)) → List NamedSource → List AcceptedFile → ℕ → FileNames → Type 0
AreNamesAt sources files accepted i names =
    (bytes : List ℕ) (file : NamedSource) (f : AcceptedFile) → slice_get sources i ≡ Some bytes → slice_get files i ≡ Some file →
    slice_get accepted i ≡ Some f → names ≡ names_by (text_in bytes) file.name f

pub record AreNamesBy (sources : List (List ℕ)) (files : List NamedSource) (accepted : List AcceptedFile) (all : List FileNames) : Type 0 where
  pub count : length all ≡ length files
  pub each : (i : ℕ) (names : FileNames) → slice_get all i ≡ Some names → AreNamesAt sources files accepted i names
