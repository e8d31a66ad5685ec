-- The lines of OBJ (Propeller Manual v1.2, "OBJ"): `name : "file"` or `name[e] : "file"`.
use Rattle.std.specs.Prelude.{ℕ, ◌==◌, List, [], ◌∷◌, ◌++◌, Option, Some, None, if◌then◌else◌, codes}
use Rattle.std.specs.List.{list_any}
use Rattle.p8_tree.specs.declared.places.Place.{Place}
use Rattle.p8_tree.specs.Expressions.{Tree}
use Rattle.p8_tree.specs.Sources.{Child}
use Rattle.p8_lexer.specs.Pieces.{Piece}
use Rattle.p8_declarations.specs.Parts.{Part, line_end, colon, left_bracket, right_bracket, name, text, tree, parts, is_line_end}

-- a file's name as the string has it, with `.spin` where it has no dot, which is the character 46
unfoldable pub file_of : List ℕ → List ℕ
file_of t = if list_any (λ c. c == 46) t then t else t ++ codes ".spin"

-- an object of this file, with its count where it has one
abbrev pub child : List ℕ → Place → Option Tree → List ℕ → Place → Child
child n p count t q = record { place = p; name = n; count = count; file = file_of t; file_place = q }

-- the file and the end of the line
abbrev pub in_file : List ℕ → Place → Option Tree → List Part → Option Child
in_file n p count (text t q ∷ line_end ∷ []) = Some (child n p count t q)
in_file n p count _ = None

-- what stands after the name
abbrev pub object_named : List ℕ → Place → List Part → Option Child
object_named n p (colon ∷ rest) = in_file n p None rest
object_named n p (left_bracket ∷ tree e ∷ right_bracket ∷ colon ∷ rest) = in_file n p (Some e) rest
object_named n p _ = None

-- a name and its file
abbrev pub object : List Part → Option Child
object (name n p ∷ rest) = object_named n p rest
object _ = None

-- one item
abbrev pub alone : Option Child → Option (List Child)
alone None = None
alone (Some x) = Some (x ∷ [])

-- what a row of pieces declares, unless it is no row of OBJ
abbrev pub objects_of_row : List Piece → Option (List Child)
objects_of_row row = if is_line_end (parts row) then Some [] else alone (object (parts row))
