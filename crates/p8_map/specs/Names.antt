-- The names of a file, in the order in which its object has what they name (Propeller Manual v1.2, "VAR", "OBJ", "PUB" and "PRI" of
-- the Spin chapter): each as the file's text spells it where it is defined.
use Rattle.std.specs.Prelude.{ℕ, zero, suc, ◌+◌, List, [], ◌∷◌, ◌++◌, map, drop, slice_get, Option, Some, None, option_map, codes}
use Rattle.std.specs.Fmt.{decimal}
use Rattle.std.specs.List.{flat_map}
use Rattle.p8_tree.specs.declared.places.Place.{Place}
use Rattle.p8_tree.specs.Expressions.{Tree}
use Rattle.p8_tree.specs.Sources.{Child, Declared, MethodTree}
use Rattle.p8_tree.specs.Projects.{NamedSource}
use Rattle.p8_fold.specs.Meanings.{Setting}
use Rattle.p8_constants.specs.FileItems.{Item, variable, line, items}
use Rattle.p8_constants.specs.Names.{label_name}
use Rattle.p8_constants.specs.Rules.{count_in}
use Rattle.p8_lexer.specs.Spelling.{spelled}
use Rattle.p8_names.specs.Kinds.{numbered, objects}
use Rattle.p8_kinds.specs.declared.name_kinds.Label.{Label}
use Rattle.p8_map.specs.declared.names.LocalName.{LocalName}
use Rattle.p8_map.specs.declared.names.MethodNames.{MethodNames}
use Rattle.p8_map.specs.declared.names.FileNames.{FileNames}

-- a name as a text spells it at a place, where one is known
abbrev pub spelled_by : (text : List ℕ) → Option Place → (name : List ℕ) → List ℕ
spelled_by text None name = name
spelled_by text (Some place) name = spelled text place name

-- names that stand at these places, one after the other
abbrev pub spelled_all : (text : List ℕ) → List Place → (names : List (List ℕ)) → List (List ℕ)
spelled_all text places [] = []
spelled_all text places (name ∷ names) = spelled_by text (slice_get places 0) name ∷ spelled_all text (drop 1 places) names

-- a variable of VAR
abbrev pub variable_name : (text : List ℕ) → Item → List (List ℕ)
variable_name text (variable x) = spelled text x.place x.name ∷ []
variable_name text x = []

-- where a line of DAT has a label that is a name of the file
abbrev pub own_place : Option (List ℕ) → Place → List Place
own_place None place = []
own_place (Some name) place = place ∷ []

abbrev pub label_place : Item → List Place
label_place (line x) = own_place (label_name x.label) x.place
label_place x = []

-- labels that stand at these places, one after the other
abbrev pub spelled_label : (text : List ℕ) → Option Place → Label → Label
spelled_label text place label = record { name = spelled_by text place label.name; offset = label.offset; cog = label.cog; size = label.size }

abbrev pub spelled_labels : (text : List ℕ) → List Place → List Label → List Label
spelled_labels text places [] = []
spelled_labels text places (label ∷ labels) = spelled_label text (slice_get places 0) label ∷ spelled_labels text (drop 1 places) labels

-- a local: its name, and how many longs it has
abbrev pub local_name : (text : List ℕ) → Setting → Declared → LocalName
local_name text s x = record { name = spelled text x.place x.name; longs = count_in s x.count }

-- a method: its name, that of its result where it has one, and those of its parameters and locals
abbrev pub method_names : (text : List ℕ) → Setting → MethodTree → MethodNames
method_names text s m = record {
  name = spelled text m.place m.name;
  result = option_map (spelled_by text m.result_place) m.result_name;
  parameters = spelled_all text m.param_places m.params;
  locals = map (local_name text s) m.locals;
}

-- an element of an array of objects
abbrev pub element_name : List ℕ → ℕ → List ℕ
element_name name index = name ++ codes "[" ++ decimal index ++ codes "]"

-- so many elements, from this one on
abbrev pub element_names : List ℕ → (index count : ℕ) → List (List ℕ)
element_names name index zero = []
element_names name index (suc count) = element_name name index ∷ element_names name (index + 1) count

-- the instances of objects that an item of OBJ stands for
abbrev pub names_by_count : Setting → List ℕ → Option Tree → List (List ℕ)
names_by_count s name None = name ∷ []
names_by_count s name (Some e) = element_names name 0 (count_in s (Some e))

abbrev pub instance_names : (text : List ℕ) → Setting → Child → List (List ℕ)
instance_names text s x = names_by_count s (spelled text x.place x.name) x.count

-- all of a file with this text, in which constants have these values, with the labels of its DAT
abbrev pub file_names : (text : List ℕ) → NamedSource → Setting → List Label → FileNames
file_names text file s labels = record {
  file = file.name;
  variables = flat_map (variable_name text) (items file.tree);
  labels = spelled_labels text (flat_map label_place (items file.tree)) labels;
  methods = map (method_names text s) (numbered (items file.tree));
  instances = flat_map (instance_names text s) (objects (items file.tree));
}
