-- internal: the lines of methods, of whose codes there are the bytes alone.
use Rattle.std.specs.Prelude.{ℕ, ◌+◌, List, [], ◌∷◌, ◌++◌, length, take, drop}
use Rattle.p8_stmt.specs.declared.code.MethodCode.{MethodCode}
use Rattle.p8_image.specs.declared.parts.MethodPart.{MethodPart}
use Rattle.p8_image.specs.Listing.{address_after}
use Rattle.p8_map.specs.declared.names.MethodNames.{MethodNames}
use Rattle.p8_code.specs.Operations.{Scope}
use Rattle.p8_code.specs.Listing.{method_lines}

abbrev pub cut_lines : (MethodNames → MethodPart → Scope) → (number place : ℕ) → (bytes : List ℕ) → List MethodNames → List MethodPart →
    List MethodCode → List ℕ
cut_lines scope number place bytes (m ∷ names) (part ∷ parts) (code ∷ others) =
    method_lines (λ text. text) (scope m part) number place code (take (length part.code) bytes)
    ++ cut_lines scope (number + 1) (address_after place (length part.code)) (drop (length part.code) bytes) names parts others
cut_lines scope number place bytes _ _ _ = []
