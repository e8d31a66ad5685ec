-- Rows whose names, strings and expressions are proper.
use Rattle.std.specs.Prelude.{ℕ, ◌≤◌, Bool, List, [], ◌∷◌}
use Rattle.p8_tree.specs.Expressions.{Tree}
use Rattle.p8_tree.specs.Heights.{height}
use Rattle.p8_tree.specs.Names.{IsName, IsWord, IsString}
use Rattle.p8_tree.specs.Proper.{IsProperTree}
use Rattle.p8_lexer.specs.Pieces.{Piece, word, name, label, text, tree}

-- a proper expression of at most this height, in DAT or elsewhere
abbrev pub IsProperUpTo : Bool → ℕ → Tree → Type 0
IsProperUpTo dat h e = IsProperTree dat e × (height e ≤ h)

abbrev pub AreProper : Bool → ℕ → List Piece → Type 0
AreProper dat h [] = Unit {0}
AreProper dat h (word w p ∷ row) = AreProper dat h row
AreProper dat h (name n p ∷ row) = IsName n × AreProper dat h row
AreProper dat h (label n p ∷ row) = IsWord n × AreProper dat h row
AreProper dat h (text t p ∷ row) = IsString t × AreProper dat h row
AreProper dat h (tree e p ∷ row) = IsProperUpTo dat h e × AreProper dat h row
