-- Where the rows of a table come from.
use Rattle.std.specs.Prelude.{◌≡◌, ℕ, ◌+◌, List, [], ◌∷◌, ◌++◌, slice_get, Some, Contains}
use Rattle.p8_tree.specs.declared.places.Place.{Place}
use Rattle.p8_tree.specs.Projects.{NamedSource}
use Rattle.p8_tree.specs.Sources.{MethodTree}
use Rattle.p8_constants.specs.FileItems.{items}
use Rattle.p8_names.specs.Kinds.{numbered}
use Rattle.p8_legend.specs.declared.table.LineRow.{LineRow}
use Rattle.p8_legend.specs.Lines.{places_of_body}

-- In the file and the method of these numbers, files counted from 0 and methods from 1, this is the place of a statement, or that of the method's name.
pub record IsPlaceIn (files : List NamedSource) (file_number method_number : ℕ) (place : Place) : Type 0 where
  pub file : NamedSource
  pub is_file : slice_get files file_number ≡ Some file
  pub method : MethodTree
  pub number : ℕ
  pub counted : method_number ≡ number + 1
  pub is_method : slice_get (numbered (items file.tree)) number ≡ Some method
  pub stands : Contains (places_of_body method.body ++ method.place ∷ []) place

abbrev pub IsRowOf : List NamedSource → LineRow → Type 0
IsRowOf files row = IsPlaceIn files row.file row.method row.place
