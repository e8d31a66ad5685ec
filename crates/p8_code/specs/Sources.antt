-- The lines of a source. A line ends at LF, CR LF or CR.
use Rattle.std.specs.Prelude.{ℕ, ◌-◌, ◌==◌, ◌&&◌, ◌||◌, not, nat_lt, if◌then◌else◌, List, [], ◌∷◌, ◌++◌, map, slice_get, unwrap_or, codes}
use Rattle.std.specs.Fmt.{decimal}
use Rattle.p8_lexer.specs.Spelling.{text_in}

-- the lines of a text that stands after a character, where so much of the first one stands before it: LF (10) ends a line unless it stands after CR
-- (13), which has ended it
abbrev pub lines_from : (line : List ℕ) → (before : ℕ) → List ℕ → List (List ℕ)
lines_from line before [] = line ∷ []
lines_from line before (c ∷ text) =
    if (c == 10) && (before == 13) then lines_from line c text
    else if (c == 10) || (c == 13) then line ∷ lines_from [] c text
    else lines_from (line ++ c ∷ []) c text

-- the lines of a file, of what it may have at most
unfoldable pub lines_of : (bytes : List ℕ) → List (List ℕ)
lines_of bytes = lines_from [] 0 (text_in bytes)

-- a control character but a tab shows as `?`
abbrev pub shown : ℕ → ℕ
shown c = if (nat_lt c 32 && not (c == 9)) || (c == 127) then 63 else c

-- the line of this number, counted from 1, as the text shows it
abbrev pub source_line : (lines : List (List ℕ)) → (number : ℕ) → List ℕ
source_line lines number = codes "  " ++ decimal number ++ codes ": " ++ map shown (unwrap_or (slice_get lines (number - 1)) []) ++ 10 ∷ []
