-- What stands at the place where a line is refused by 6, in words (this project's profile). A line is what it shows, without the characters of its
-- end, so nothing stands at the place of its end. Each sentence says what can be seen there, and is true of every source.
use Rattle.std.specs.Prelude.{ℕ, suc, Bool, true, false, ◌==◌, ◌&&◌, ◌||◌, not, List, [], ◌∷◌, ◌++◌, length, take, drop, slice_index, codes, Option}
use Rattle.std.specs.Prelude.{Some, None, if◌then◌else◌}
use Rattle.p8_lexer.specs.declared.word.Word.{Word}
use Rattle.p8_lexer.specs.Lexing.{is_between, is_letter}
use Rattle.p8_lexer.specs.Words.{word_spelled}
use Rattle.p8_explain.specs.declared.causes.Cause.{Cause}
use Rattle.p8_explain.specs.declared.causes.Cause.TheVariants as cause

-- characters: 32 is space, 34 `"`, 36 `$`, 37 `%`, 40 `(`, 41 `)`, 48 to 57 the digits, 93 `]`

-- ---- what a text begins with

-- a letter, a digit or `_`
abbrev pub is_of_word : ℕ → Bool
is_of_word c = is_letter c || is_between 48 57 c

-- how many of these a text begins with
abbrev pub word_length : List ℕ → ℕ
word_length [] = 0
word_length (c ∷ cs) = if is_of_word c then suc (word_length cs) else 0

-- whether a text is a symbol or a reserved word
abbrev pub is_some_word : Option Word → Bool
is_some_word None = false
is_some_word (Some _) = true

abbrev pub is_spelled_so : List ℕ → Bool
is_spelled_so text = is_some_word (word_spelled text)

-- the longest symbol that a text begins with; no symbol has more than three characters
abbrev pub symbol_at : List ℕ → List ℕ
symbol_at text = if is_spelled_so (take 3 text) then take 3 text else (if is_spelled_so (take 2 text) then take 2 text else take 1 text)

-- the name, the number or the symbol that a text begins with; of a string or a number in another base its mark
abbrev pub token_at : List ℕ → List ℕ
token_at text = if is_of_word (slice_index text 0) then take (word_length text) text else symbol_at text

-- ---- what stands around it

-- whether a token begins with a character that stands after another one; 0 is none
abbrev pub begins_token : (before c : ℕ) → Bool
begins_token before c = not (c == 32) && not (is_of_word before && is_of_word c)

-- where the last token begins of characters that stand at a place after another one; each character of a symbol counts as one
abbrev pub last_begin : (found at before : ℕ) → List ℕ → ℕ
last_begin found at before [] = found
last_begin found at before (c ∷ cs) = last_begin (if begins_token before c then at else found) (suc at) c cs

-- the name, the number or the character that a text ends with, but for spaces; of spaces alone nothing
abbrev pub token_before : List ℕ → List ℕ
token_before front = token_at (drop (last_begin (length front) 0 0 front) front)

abbrev pub spaces : List ℕ → ℕ
spaces [] = 0
spaces (c ∷ cs) = if c == 32 then suc (spaces cs) else 0

-- what a text goes on with, spaces aside, behind the token with which it begins
abbrev pub behind_token : List ℕ → List ℕ
behind_token text = drop (length (token_at text)) text

abbrev pub token_behind : List ℕ → List ℕ
token_behind text = token_at (drop (spaces (behind_token text)) (behind_token text))

-- whether a word or a value can end with a character, and begin with one
abbrev pub ends_value : ℕ → Bool
ends_value c = is_of_word c || ((c == 41) || ((c == 93) || (c == 34)))

abbrev pub begins_value : ℕ → Bool
begins_value c = is_of_word c || ((c == 34) || ((c == 36) || (c == 37)))

-- ---- causes

abbrev pub is_reserved : (token : List ℕ) → (next : ℕ) → Bool
is_reserved token next = is_spelled_so token && is_of_word next

abbrev pub is_empty_pair : (last next : ℕ) → Bool
is_empty_pair last next = (last == 40) && (next == 41)

abbrev pub are_beside : (last next : ℕ) → Bool
are_beside last next = ends_value last && begins_value next

-- what a token tells that begins with a character and stands after another one
abbrev pub cause_of : (token : List ℕ) → (last next : ℕ) → Cause
cause_of token last next =
    if is_reserved token next then cause.Reserved else
    (if is_empty_pair last next then cause.EmptyPair else
    (if are_beside last next then cause.Beside else
    (if last == 0 then cause.First else cause.Other)))

-- what a token tells that stands after another one
abbrev pub cause_at : (before token : List ℕ) → Cause
cause_at before [] = cause.LineEnds
cause_at before (c ∷ cs) = cause_of (c ∷ cs) (slice_index before 0) c

abbrev pub quoted : List ℕ → List ℕ
quoted token = codes "`" ++ token ++ codes "`"

abbrev pub sentence : Cause → (token : List ℕ) → List ℕ
sentence cause.LineEnds token = codes "The line ends here, where more must follow, as a name, a value, a closing bracket or the : of a CASE item.\n"
sentence cause.Reserved token = quoted token ++ codes " is a reserved word, and can't be a name.\n"
sentence cause.EmptyPair token = codes "Nothing stands in these parentheses: leave them out, or write what belongs in them.\n"
sentence cause.Beside token = quoted token ++ codes " follows another word or value, with no operator, comma, bracket or colon between them.\n"
sentence cause.First token = codes "The line begins with " ++ quoted token ++ codes ".\n"
sentence cause.Other token = codes "The line can be read up to " ++ quoted token ++ codes ".\n"

-- what can be seen of a token that stands after another one
abbrev pub seen : (before token : List ℕ) → List ℕ
seen before token = sentence (cause_at before token) token
