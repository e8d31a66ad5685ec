-- What stands at a refused place of a text (this project's profile). Places are those of refusals.
use Rattle.std.specs.Prelude.{ℕ, Bool, true, false, ◌==◌, ◌&&◌, not, List, [], ◌∷◌, ◌++◌, drop, slice_index, codes, Option, Some, None, if◌then◌else◌}
use Rattle.std.specs.Fmt.{decimal}
use Rattle.p8_tree.specs.declared.places.Place.{Place}
use Rattle.p8_tree.specs.Faults.{is_same_place}
use Rattle.p8_lexer.specs.Characters.{is_marked}
use Rattle.p8_lexer.specs.Places.{start, behind}
use Rattle.p8_lexer.specs.Spelling.{text_in}
use Rattle.p8_lexer.specs.Words.{capital}
use Rattle.p8_explain.specs.Causes.{is_of_word, quoted}

-- ---- a character

-- whether a character stands at a sought place; LF (10) after CR (13) has no place of its own
abbrev pub stands_at : (sought : Place) → (before : ℕ) → Place → ℕ → Bool
stands_at sought before p c = is_same_place p sought && not ((before == 13) && (c == 10))

-- the first character at a place, of characters that stand at a place after another one
abbrev pub character_from : (sought : Place) → (before : ℕ) → Place → List ℕ → Option ℕ
character_from sought before p [] = None
character_from sought before p (c ∷ cs) = if stands_at sought before p c then Some c else character_from sought c (behind before p c) cs

-- whether a file begins with the mark of UTF-8, EF BB BF, and a second one stands right behind it
abbrev pub is_marked_twice : (bytes : List ℕ) → Bool
is_marked_twice bytes = is_marked bytes && is_marked (drop 3 bytes)

abbrev pub between : (before : List ℕ) → (number : ℕ) → (after : List ℕ) → List ℕ
between before number after = before ++ decimal number ++ after

abbrev pub of_number : (c : ℕ) → List ℕ
of_number c = between (codes "This is character ") c (codes ".\n")

-- what is said of a character that begins no token
abbrev pub of_character : Option ℕ → List ℕ
of_character None = codes "Half a unit of UTF-16 stands here, at the end of the file.\n"
of_character (Some c) =
    if c == 26 then codes "This is Ctrl-Z, character 26, which some editors put at the end of a file.\n" else
    of_number c

abbrev pub of_byte : (bytes : List ℕ) → Place → List ℕ
of_byte bytes place =
    if is_marked_twice bytes && is_same_place place start then codes "The file begins with two marks of UTF-8, the bytes EF BB BF twice: store it with one mark, or with none.\n" else
    of_character (character_from place 0 start (text_in bytes))

-- ---- a name

-- whether a text begins with a name, in letters of any case, and with no more of a word
abbrev pub begins_with : (name text : List ℕ) → Bool
begins_with [] [] = true
begins_with [] (c ∷ cs) = not (is_of_word c)
begins_with (n ∷ ns) [] = false
begins_with (n ∷ ns) (c ∷ cs) = (capital n == capital c) && begins_with ns cs

-- the first place of a whole word that is this name, of characters that stand at a place after another one
abbrev pub first_from : (name : List ℕ) → (before : ℕ) → Place → List ℕ → Option Place
first_from name before p [] = None
first_from name before p (c ∷ cs) =
    if not (is_of_word before) && begins_with name (c ∷ cs) then Some p else first_from name c (behind before p c) cs

abbrev pub place_between : (before : List ℕ) → Place → (after : List ℕ) → List ℕ
place_between before p after = before ++ decimal p.line ++ codes ":" ++ decimal p.column ++ after

abbrev pub of_place : Place → List ℕ
of_place p = place_between (codes " stands first at ") p (codes ", where comments and strings count.\n")

-- what is said of where a name stands first that is defined again at a place
abbrev pub of_place_or_none : (place first : Place) → List ℕ
of_place_or_none place first =
    if is_same_place first place then codes " stands nowhere before this: it is a constant of the language, or this file defines it further down.\n" else
    of_place first

abbrev pub of_first : (name : List ℕ) → Place → Option Place → List ℕ
of_first name place None = []
of_first name place (Some first) = quoted name ++ of_place_or_none place first

-- of a local label, which begins with `:`, nothing is said
abbrev pub of_name : (bytes : List ℕ) → (name : List ℕ) → Place → List ℕ
of_name bytes name place =
    if is_of_word (slice_index name 0) then of_first name place (first_from name 0 start (text_in bytes)) else []
