-- internal: what the code's values stand for.
use Rattle.std.specs.Prelude.{Bool, true, false, List, [], ◌∷◌, ◌++◌, Option, Some, None, option_map}
use Rattle.std.specs.Vec.Iter.{into_iter_items}
use Rattle.p8_tree.specs.Sources.{Constant, Declared, Child}
use Rattle.p8_tree.specs.Views.{tree_of, constant_of, declared_of}
use Rattle.p8_tree.specs.declared.sources.ConItem.{ConItem}
use Rattle.p8_tree.specs.declared.sources.VarItem.{VarItem}
use Rattle.p8_tree.specs.declared.sources.ObjItem.{ObjItem}
use Rattle.p8_declarations.specs.Objects.{child}
use Rattle.p8_lexer.specs.Pieces.{pieces_of}
use Rattle.p8_declarations.specs.Parts.{Part, line_end, comma, equals, hash, colon, bar, left_parenthesis, right_parenthesis, left_bracket}
use Rattle.p8_declarations.specs.Parts.{right_bracket, size, name, text, tree, other, parts, is_line_end, with_first}
use Rattle.p8_declarations.specs.declared.part.Part as code
use Rattle.p8_declarations.specs.declared.part.Part.TheVariants as code_case
use Rattle.p8_declarations.specs.declared.declaration_pieces.DeclarationPieces.{DeclarationPieces}
use Rattle.p8_declarations.specs.declared.declaration_pieces.Behind.{Behind}
use Rattle.p8_declarations.specs.declared.declaration_pieces.Behind.TheVariants as behind_case

abbrev pub part_of : code.Part → Part
part_of code_case.LineEnd = line_end
part_of code_case.Comma = comma
part_of code_case.Equals = equals
part_of (code_case.Hash p) = hash p
part_of code_case.Colon = colon
part_of code_case.Bar = bar
part_of code_case.LeftParenthesis = left_parenthesis
part_of code_case.RightParenthesis = right_parenthesis
part_of code_case.LeftBracket = left_bracket
part_of code_case.RightBracket = right_bracket
part_of (code_case.Size s) = size s
part_of (code_case.Name n p) = name n p
part_of (code_case.Text t p) = text t p
part_of (code_case.Tree e) = tree (tree_of e)
part_of code_case.Other = other

-- the parts that are still to come
abbrev pub parts_in : DeclarationPieces → List Part
parts_in row = parts (pieces_of (into_iter_items row.pieces))

abbrev pub is_end : Behind → Bool
is_end behind_case.Comma = false
is_end behind_case.End = true

-- what stands after an item, and what the row is from there on
abbrev pub continued : {A : Type 0} → Option Behind → Option (List A) → Option (List A)
continued None rest = None
continued (Some behind_case.Comma) rest = rest
continued (Some behind_case.End) rest = Some []

-- an item that was read with what stands after it, and what the row is from there on
abbrev pub with_constant : Option (ConItem × Behind) → Option (List Constant) → Option (List Constant)
with_constant None rest = None
with_constant (Some x) rest = with_first (constant_of x.0) (continued (Some x.1) rest)

abbrev pub with_variable : Option (VarItem × Behind) → Option (List Declared) → Option (List Declared)
with_variable None rest = None
with_variable (Some x) rest = with_first (declared_of x.0) (continued (Some x.1) rest)

-- an item whose file is still the string
abbrev pub child_in : ObjItem → Child
child_in x = child x.name x.place (option_map tree_of x.count) x.file x.file_place

-- items, and those after them
abbrev pub with_all : {A : Type 0} → List A → Option (List A) → Option (List A)
with_all xs rest = option_map (λ ys. xs ++ ys) rest

-- Whether a row begins with an expression, with `]`, with both, with a size, with a name, with `:` or with a string, and whether it
-- is a string and the end of the line.
abbrev pub has_value : List Part → Bool
has_value (tree e ∷ rest) = true
has_value _ = false

abbrev pub has_right_bracket : List Part → Bool
has_right_bracket (right_bracket ∷ rest) = true
has_right_bracket _ = false

abbrev pub has_count : List Part → Bool
has_count (tree e ∷ rest) = has_right_bracket rest
has_count _ = false

abbrev pub has_size : List Part → Bool
has_size (size s ∷ rest) = true
has_size _ = false

abbrev pub has_name : List Part → Bool
has_name (name n p ∷ rest) = true
has_name _ = false

abbrev pub has_colon : List Part → Bool
has_colon (colon ∷ rest) = true
has_colon _ = false

abbrev pub has_text : List Part → Bool
has_text (text t q ∷ rest) = true
has_text _ = false

abbrev pub has_file : List Part → Bool
has_file (text t q ∷ rest) = is_line_end rest
has_file _ = false

-- what may stand after an item, where the row is over after it or isn't
abbrev pub behind_of : Part → List Part → Option Behind
behind_of comma rest = Some behind_case.Comma
behind_of line_end [] = Some behind_case.End
behind_of _ rest = None
