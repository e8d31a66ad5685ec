-- What a refusal or a missing file says to a person: where it is, the line with a mark under the place, what stands there, by how much it is too
-- large, what is wrong and what often mends it. Places are those of refusals: a line ends at LF, CR LF or CR, and a tab goes to the next column of
-- the form 8k + 1.
use Rattle.std.specs.Prelude.{ℕ, ◌-◌, ◌==◌, ◌&&◌, ◌||◌, not, nat_le, Bool, true, false, List, [], ◌∷◌, ◌++◌, length, take, drop, replicate, codes}
use Rattle.std.specs.Prelude.{Option, Some, None, if◌then◌else◌}
use Rattle.std.specs.Fmt.{decimal}
use Rattle.p8_tree.specs.declared.places.Place.{Place}
use Rattle.p8_tree.specs.declared.refusal.Refusal.{Refusal}
use Rattle.p8_tree.specs.declared.refusal.Refusal.TheVariants as refusal
use Rattle.p8_lexer.specs.Lexing.{is_between, is_line_end}
use Rattle.p8_lexer.specs.Places.{start, behind, next_tab}
use Rattle.p8_lexer.specs.Spelling.{text_in}
use Rattle.p8_tree.specs.declared.faults.Fault.{Fault}
use Rattle.p8_tree.specs.Refusals.{numbered, name_numbered}
use Rattle.p8_build.specs.declared.sizes.Size.{Size}
use Rattle.p8_explain.specs.Entries.{says, example, mends}
use Rattle.p8_explain.specs.Causes.{seen, token_at, token_before, token_behind}
use Rattle.p8_explain.specs.Slips.{is_word, mended}
use Rattle.p8_explain.specs.Standing.{of_byte, of_name}
use Rattle.p8_explain.specs.Sizes.{of_size}

-- ---- a refusal

abbrev pub advice : Option Refusal → List ℕ
advice None = codes "No refusal has this number.\n"
advice (Some r) = says r ++ codes "\n" ++ mends r ++ codes "\n"

-- a line that is refused so, where one line can be
abbrev pub line_or_none : List ℕ → List ℕ
line_or_none [] = []
line_or_none (c ∷ cs) = codes "Example: " ++ (c ∷ cs) ++ codes "\n"

abbrev pub sample : Option Refusal → List ℕ
sample None = []
sample (Some r) = line_or_none (example r)

-- ---- a line

-- a character that a terminal can't print shows as `?`
abbrev pub shown : ℕ → ℕ
shown c = if is_between 32 126 c then c else 63

-- what a character shows: an end of a line nothing, and a tab spaces up to the next column
abbrev pub cell : Place → ℕ → List ℕ
cell p c = if is_line_end c then [] else (if c == 9 then replicate ((next_tab p).column - p.column) 32 else shown c ∷ [])

-- what the characters of one line show, of a text that stands at a place after another character
abbrev pub line_from : (line before : ℕ) → Place → List ℕ → List ℕ
line_from line before p [] = []
line_from line before p (c ∷ cs) = (if p.line == line then cell p c else []) ++ line_from line c (behind before p c) cs

-- the line of this number, of what a file may have at most
unfoldable pub line_of : List ℕ → (line : ℕ) → List ℕ
line_of bytes line = line_from line 0 start (text_in bytes)

-- the columns left of what is shown
abbrev pub left_of : (column : ℕ) → ℕ
left_of column = if nat_le column 80 then 0 else column - 50

-- at most 100 columns of a line, and a mark under one of them
abbrev pub marked : (line : List ℕ) → (column : ℕ) → List ℕ
marked line column = take 100 (drop (left_of column) line) ++ codes "\n" ++ replicate (column - 1 - left_of column) 32 ++ codes "^\n"

-- ---- whole texts

abbrev pub title : (number : ℕ) → List ℕ
title number = decimal number ++ codes " " ++ name_numbered number ++ codes "\n"

abbrev pub position : Place → List ℕ
position place = decimal place.line ++ codes ":" ++ decimal place.column ++ codes ": "

abbrev pub place_text : (file : List ℕ) → Place → List ℕ
place_text file place = file ++ codes ":" ++ position place

-- what stands at a place of a file that is refused so, where more can be said of it: of a character that begins no token, of a token that can't
-- stand there behind another one, and of a name that is defined again
abbrev pub found : Option Refusal → (bytes before here : List ℕ) → Place → List ℕ
found (Some refusal.BadByte) bytes before here place = of_byte bytes place
found (Some refusal.Unexpected) bytes before here place = seen before here
found (Some refusal.Duplicate) bytes before here place = of_name bytes here place
found _ bytes before here place = []

-- what is said of a place between two parts of its line: how the slip is mended, or else what stands there
abbrev pub told : (number : ℕ) → (bytes front rest : List ℕ) → Place → List ℕ
told number bytes front rest place = by_tokens (token_before front) (token_at rest)
  where
    by_tokens : (before here : List ℕ) → List ℕ
    by_tokens before here = mended number before here (token_behind rest) (found (numbered number) bytes before here place)

-- by how much what is refused is too large, what is wrong and what often mends it
abbrev pub said : Option Refusal → Option Size → List ℕ
said refused size = of_size size ++ advice refused

-- whether a text begins with a decimal digit, but for spaces (32), ends of lines (10, 13), and lines from a `#` (35) on, in one of which it may begin
abbrev pub begins_with_clock : (in_comment : Bool) → (text : List ℕ) → Bool
begins_with_clock in_comment [] = false
begins_with_clock true (c ∷ cs) = begins_with_clock (not (c == 10)) cs
begins_with_clock false (c ∷ cs) =
    if (c == 32) || ((c == 10) || (c == 13)) then begins_with_clock false cs else
    (if c == 35 then begins_with_clock true cs else is_between 48 57 c)

-- whether a file of this name and these bytes is most likely a pin script
abbrev pub is_script : (file bytes : List ℕ) → Bool
is_script file bytes = not (is_word (codes ".spin") (drop (length file - 5) file)) && begins_with_clock false bytes

-- what is said of a pin script, which is no source
abbrev pub of_script : (is_one : Bool) → List ℕ
of_script false = []
of_script true = codes "A pin script is told by prop help run: it has a line for each change, as 9000 00000001, a clock and 8 hexadecimal digits for the pins.\n"

-- what an explanation ends with
unfoldable pub closing : (file bytes : List ℕ) → Option Refusal → Option Size → List ℕ
closing file bytes refused size = said refused size ++ of_script (is_script file bytes)

abbrev pub explanation_of : (file bytes : List ℕ) → Fault → Option Size → List ℕ
explanation_of file bytes f size =
    place_text file f.place ++ title f.number ++ shown_with (line_of bytes f.place.line) ++ closing file bytes (numbered f.number) size
  where
    shown_with : (line : List ℕ) → List ℕ
    shown_with line = marked line f.place.column ++ told f.number bytes (take (f.place.column - 1) line) (drop (f.place.column - 1) line) f.place

-- a name that doesn't end in `.spin` had a dot, and is taken as it was written first
abbrev pub of_dot : (missing : List ℕ) → List ℕ
of_dot missing = if is_word (codes ".spin") (drop (length missing - 5) missing) then [] else codes "Its name has a dot, so .spin is added to it only where no file has the name itself.\n"

-- what is told of a file that is missing, which a file with these bytes mentions at a place
abbrev pub absence_of : (file bytes : List ℕ) → Place → (missing : List ℕ) → List ℕ
absence_of file bytes place missing =
    place_text file place ++ missing ++ codes " is missing\n" ++ marked (line_of bytes place.line) place.column
    ++ codes "There is no file of this name. Capitals and small letters differ, and a name without a dot gets .spin.\n" ++ of_dot missing

abbrev pub entry_of : (number : ℕ) → List ℕ
entry_of number = title number ++ advice (numbered number) ++ sample (numbered number)
