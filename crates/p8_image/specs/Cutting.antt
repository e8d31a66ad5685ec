-- internal
-- The lines of methods, of whose codes there are the bytes alone.
use Rattle.std.specs.Prelude.{ℕ, ◌+◌, min, List, [], ◌∷◌, ◌++◌, length, take, drop}
use Rattle.p8_image.specs.declared.parts.MethodPart.{MethodPart}
use Rattle.p8_image.specs.Listing.{code_lines, address_after, method_line}

-- the bytes of a method's code at the begin of these
abbrev pub own_bytes : MethodPart → List ℕ → ℕ
own_bytes method bytes = min (length method.code) (length bytes)

abbrev pub cut_lines : (number place : ℕ) → (bytes : List ℕ) → List MethodPart → List ℕ
cut_lines number place bytes [] = []
cut_lines number place bytes (method ∷ methods) =
    method_line number place ++ code_lines place (take (own_bytes method bytes) bytes)
    ++ cut_lines (number + 1) (address_after place (length method.code)) (drop (own_bytes method bytes) bytes) methods
