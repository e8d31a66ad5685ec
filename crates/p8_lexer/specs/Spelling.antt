-- How a source spells a name. Its tree has the name in capitals, and the place where it stands in the source (Propeller Manual v1.2, "Rules for
-- symbols": letters in either case are the same; the rest is this project's profile).
use Rattle.std.specs.Prelude.{ℕ, ◌==◌, ◌&&◌, Bool, if◌then◌else◌, List, [], ◌∷◌, length, take}
use Rattle.std.specs.Str.{str_eq_ignore_ascii_case}
use Rattle.p8_tree.specs.declared.places.Place.{Place}
use Rattle.p8_lexer.specs.Characters.{text_of}
use Rattle.p8_lexer.specs.Lexing.{is_letter, longest_file}
use Rattle.p8_lexer.specs.Places.{start, behind}

-- the characters of a file, of what a file may have at most
abbrev pub text_in : (bytes : List ℕ) → List ℕ
text_in bytes = take longest_file (text_of bytes)

-- whether a character at one place is a letter or `_` at another
abbrev pub begins_at : (place at : Place) → (c : ℕ) → Bool
begins_at place at c = (at.line == place.line) && ((at.column == place.column) && is_letter c)

-- the characters from the word on that begins at a place, of those that stand at another place after another character; none where no word begins there
abbrev pub word_at : (place : Place) → (before : ℕ) → (at : Place) → List ℕ → List ℕ
word_at place before at [] = []
word_at place before at (c ∷ cs) = if begins_at place at c then c ∷ cs else word_at place c (behind before at c) cs

-- a text in place of a name, where they differ in nothing but the case of letters
abbrev pub spelling_or : (text name : List ℕ) → List ℕ
spelling_or text name = if str_eq_ignore_ascii_case text name then text else name

-- A name as a text spells it at a place. Where something else stands there it is the name itself.
unfoldable pub spelled : (text : List ℕ) → Place → (name : List ℕ) → List ℕ
spelled text place name = spelling_or (take (length name) (word_at place 0 start text)) name
