-- What a text is cut into (Propeller Manual v1.2, "Elements of the Spin language"; the limits are this project's
-- profile). A text is pieces, one after the other, each as long as a piece can be there. Its tokens are its pieces
-- but for blanks and comments, and a text that can't be cut so is refused where the cutting ends.
use Rattle.std.specs.Prelude.{◌≡◌, ◌≢◌, ℕ, ◌+◌, ◌-◌, ◌*◌, ◌^◌, ◌<◌, ◌≤◌, ◌⊎◌, Bool, false, IsTrue, ◌==◌, nat_le, not, ◌||◌, ◌&&◌, List, [], ◌∷◌}
use Rattle.std.specs.Prelude.{◌++◌, length, take, drop, slice_index, slice_get, if◌then◌else◌, Option, Some, None, codes, filter_map}
use Rattle.p8_lexer.specs.declared.piece.PieceKind.{PieceKind}
use Rattle.p8_lexer.specs.declared.piece.PieceKind.TheVariants.{Blank, LineComment, Comment, DocComment, Token as TokenOf}
use Rattle.p8_lexer.specs.declared.piece.Radix.{Radix}
use Rattle.p8_lexer.specs.declared.piece.Radix.TheVariants as radix
use Rattle.p8_lexer.specs.declared.piece.Class.{Class}
use Rattle.p8_lexer.specs.declared.piece.Class.TheVariants as class
use Rattle.p8_lexer.specs.declared.token.Token.{Token}
use Rattle.p8_lexer.specs.declared.token.TokenKind.TheVariants.{Name, Number, Float, Str, Symbol, LineEnd}
use Rattle.p8_tree.specs.declared.faults.Fault.{Fault}
use Rattle.p8_tree.specs.declared.refusal.Refusal.{Refusal}
use Rattle.p8_tree.specs.declared.refusal.Refusal.TheVariants.{BadByte, BadNumber, OpenComment, OpenString, NameTooLong, FileTooLong}
use Rattle.p8_tree.specs.declared.places.Place.{Place}
use Rattle.p8_lexer.specs.declared.word.Word.{Word}
use Rattle.p8_lexer.specs.Characters.{text_of, ends_in_half, offset_of}
use Rattle.p8_lexer.specs.Places.{start, place_of}
use Rattle.p8_tree.specs.Refusals.{refusal_number}
use Rattle.p8_lexer.specs.Words.{spelling, symbols}

-- characters: 9 is tab, 10 LF, 13 CR, 32 space, 34 `"`, 37 `%`, 39 `'`, 43 `+`, 45 `-`, 46 `.`, 48 to 57 the digits,
-- 65 to 90 and 97 to 122 the letters, 95 `_`, 123 `{`, 125 `}`

abbrev pub is_between : ℕ → ℕ → ℕ → Bool
is_between low high c = nat_le low c && nat_le c high

-- a letter or `_`
abbrev pub is_letter : ℕ → Bool
is_letter c = is_between 65 90 c || (is_between 97 122 c || (c == 95))

abbrev pub is_line_end : ℕ → Bool
is_line_end c = (c == 10) || (c == 13)

abbrev pub is_digit : Radix → ℕ → Bool
is_digit radix.Binary c = is_between 48 49 c
is_digit radix.Quaternary c = is_between 48 51 c
is_digit radix.Decimal c = is_between 48 57 c
is_digit radix.Hexadecimal c = is_between 48 57 c || (is_between 65 70 c || is_between 97 102 c)

abbrev pub is_in : Class → ℕ → Bool
is_in class.Blank c = (c == 32) || (c == 9)
is_in class.Name c = is_letter c || is_digit radix.Decimal c
is_in class.Quoted c = not ((c == 34) || is_line_end c)
is_in class.Line c = not (is_line_end c)
is_in (class.Digits r) c = is_digit r c || (c == 95)

-- each character from one place up to another is of a class
abbrev pub AllIn : Class → List ℕ → ℕ → ℕ → Type 0
AllIn k text from to = (i : ℕ) → from ≤ i → i < to → IsTrue (is_in k (slice_index text i))

-- numbers

-- what a number begins with
abbrev pub mark : Radix → List ℕ
mark radix.Binary = codes "%"
mark radix.Quaternary = codes "%%"
mark radix.Decimal = []
mark radix.Hexadecimal = codes "$"

abbrev pub base : Radix → ℕ
base radix.Binary = 2
base radix.Quaternary = 4
base radix.Decimal = 10
base radix.Hexadecimal = 16

abbrev pub digit_value : ℕ → ℕ
digit_value c = if nat_le c 57 then c - 48 else (if nat_le c 70 then c - 55 else c - 87)

-- what digits stand for after others that stand for v; `_` between them stands for nothing
abbrev pub value_behind : ℕ → ℕ → List ℕ → ℕ
value_behind b v [] = v
value_behind b v (c ∷ cs) = value_behind b (if c == 95 then v else b * v + digit_value c) cs

-- from one place up to another there are digits, with `_` anywhere but in front
abbrev pub AreDigits : Radix → List ℕ → ℕ → ℕ → Type 0
AreDigits r text from to = (from < to) × IsTrue (is_digit r (slice_index text from)) × AllIn (class.Digits r) text (from + 1) to

-- the first n characters are a number of this value
abbrev pub IsNumber : Radix → ℕ → List ℕ → ℕ → Type 0
IsNumber r v text n =
    (take (length (mark r)) text ≡ mark r) × AreDigits r text (length (mark r)) n × (v ≡ value_behind (base r) 0 (drop (length (mark r)) (take n text)))

-- `.` and digits
abbrev pub IsFraction : List ℕ → ℕ → ℕ → Type 0
IsFraction text from to = (slice_index text from ≡ 46) × AreDigits radix.Decimal text (from + 1) to

-- `e`, perhaps a sign, and digits
abbrev pub IsExponent : List ℕ → ℕ → ℕ → Type 0
IsExponent text from to =
    ((slice_index text from ≡ 69) ⊎ (slice_index text from ≡ 101))
    × (AreDigits radix.Decimal text (from + 1) to
    ⊎ (((slice_index text (from + 1) ≡ 43) ⊎ (slice_index text (from + 1) ≡ 45)) × AreDigits radix.Decimal text (from + 2) to))

-- a fraction, an exponent, or the one and then the other
abbrev pub IsFloatTail : List ℕ → ℕ → ℕ → Type 0
IsFloatTail text from to =
    IsFraction text from to ⊎ (IsExponent text from to ⊎ ((m : ℕ) × IsFraction text from m × IsExponent text m to))

-- comments

-- the inside of a comment: characters that are no braces, and comments
pub data Inside : List ℕ → Type 0 where
  empty : Inside []
  character : {c : ℕ} {cs : List ℕ} → c ≢ 123 → c ≢ 125 → Inside cs → Inside (c ∷ cs)
  nested : {cs ds : List ℕ} → Inside cs → Inside ds → Inside (123 ∷ (cs ++ 125 ∷ ds))

-- whether `}}` stands at a place
abbrev pub ends_doc : List ℕ → ℕ → Bool
ends_doc text i = (slice_index text i == 125) && (slice_index text (i + 1) == 125)

-- pieces

-- the first n characters of a text are one piece of this kind
abbrev pub Is : PieceKind → List ℕ → ℕ → Type 0
Is Blank text n = (0 < n) × AllIn class.Blank text 0 n
Is LineComment text n = (0 < n) × (slice_index text 0 ≡ 39) × AllIn class.Line text 1 n
Is Comment text n = (slice_index text 1 ≢ 123) × ((inside : List ℕ) × Inside inside × (take n text ≡ 123 ∷ (inside ++ 125 ∷ [])))
Is DocComment text n =
    (4 ≤ n) × (slice_index text 0 ≡ 123) × (slice_index text 1 ≡ 123) × IsTrue (ends_doc text (n - 2))
    × ((i : ℕ) → 2 ≤ i → i < n - 2 → ends_doc text i ≡ false)
Is (TokenOf LineEnd) text n = (take n text ≡ 10 ∷ []) ⊎ ((take n text ≡ 13 ∷ []) ⊎ (take n text ≡ 13 ∷ 10 ∷ []))
Is (TokenOf Name) text n = (0 < n) × IsTrue (is_letter (slice_index text 0)) × AllIn class.Name text 1 n
Is (TokenOf (Number v)) text n = (r : Radix) × IsNumber r v text n
Is (TokenOf Float) text n = (m : ℕ) × AreDigits radix.Decimal text 0 m × IsFloatTail text m n
Is (TokenOf Str) text n = (1 < n) × (slice_index text 0 ≡ 34) × AllIn class.Quoted text 1 (n - 1) × (slice_index text (n - 1) ≡ 34)
Is (TokenOf (Symbol s)) text n = (w : Word) × (slice_get symbols s ≡ Some w) × (take n text ≡ spelling w)

-- and more of its characters are no piece of any kind
pub record Cuts (k : PieceKind) (text : List ℕ) (n : ℕ) : Type 0 where
  pub within : n ≤ length text
  pub is : Is k text n
  pub longest : (j : PieceKind) (m : ℕ) → n < m → m ≤ length text → ¬ Is j text m

-- what a piece has to keep, beside its form: a name has at most 30 characters, and a number is below 2 ^ 32 and has
-- neither a letter nor a digit after it
abbrev pub IsGood : PieceKind → List ℕ → ℕ → Type 0
IsGood (TokenOf Name) text n = n ≤ 30
IsGood (TokenOf (Number v)) text n = (v < 2 ^ 32) × (is_in class.Name (slice_index text n) ≡ false)
IsGood _ text n = Unit {0}

-- a piece of a text: the characters from one place up to another
pub record Piece : Type 0 where
  pub kind : PieceKind
  pub begin : ℕ
  pub end : ℕ

-- from one place up to another a text is these pieces, one after the other
abbrev pub CutsUpTo : List ℕ → ℕ → List Piece → ℕ → Type 0
CutsUpTo text at [] end = at ≡ end
CutsUpTo text at (p ∷ ps) end =
    (p.begin ≡ at) × (at ≤ p.end) × Cuts p.kind (drop at text) (p.end - at) × IsGood p.kind (drop at text) (p.end - at) × CutsUpTo text p.end ps end

-- no piece of this kind begins a text
abbrev pub NoneIs : PieceKind → List ℕ → Type 0
NoneIs k text = (n : ℕ) → n ≤ length text → ¬ Is k text n

-- why nothing can be cut off a text, which may have half a unit after it
abbrev pub IsStuck : Refusal → Bool → List ℕ → Type 0
IsStuck BadByte half text =
    ((0 < length text) × ((k : PieceKind) → NoneIs k text) × (slice_index text 0 ≢ 123) × (slice_index text 0 ≢ 34) × (slice_index text 0 ≢ 37))
    ⊎ ((text ≡ []) × IsTrue half)
IsStuck BadNumber half text =
    ((slice_index text 0 ≡ 37) × ((v : ℕ) → NoneIs (TokenOf (Number v)) text))
    ⊎ ((v : ℕ) × (n : ℕ) × Cuts (TokenOf (Number v)) text n × ¬ IsGood (TokenOf (Number v)) text n)
IsStuck OpenComment half text = (slice_index text 0 ≡ 123) × NoneIs Comment text × NoneIs DocComment text
IsStuck OpenString half text = (slice_index text 0 ≡ 34) × NoneIs (TokenOf Str) text
IsStuck NameTooLong half text = (n : ℕ) × Cuts (TokenOf Name) text n × (30 < n)
IsStuck _ half text = ⊥

-- files

-- the bytes that a source may have
abbrev pub longest_file : ℕ
longest_file = 1048576

-- the token that a piece is, unless it's a blank or a comment
abbrev pub token_of : List ℕ → Piece → Option Token
token_of bytes p = token_of_kind p.kind
  where
    token_of_kind : PieceKind → Option Token
    token_of_kind (TokenOf k) = Some (record {
      place = place_of (text_of bytes) p.begin;
      kind = k;
      begin = offset_of bytes p.begin;
      end = offset_of bytes p.end;
    })
    token_of_kind _ = None

-- a file of any length is cut into pieces, and these are its tokens
abbrev pub AreTokens : List ℕ → List Token → Type 0
AreTokens bytes tokens =
    (ends_in_half bytes ≡ false)
    × ((ps : List Piece) × CutsUpTo (text_of bytes) 0 ps (length (text_of bytes)) × (tokens ≡ filter_map (token_of bytes) ps))

-- after some pieces nothing more can be cut off a file of any length, for this reason and at this place
abbrev pub IsRefused : List ℕ → Refusal → Place → Type 0
IsRefused bytes refusal place =
    (ps : List Piece) × (at : ℕ) × CutsUpTo (text_of bytes) 0 ps at × IsStuck refusal (ends_in_half bytes) (drop at (text_of bytes)) ×
    (place ≡ place_of (text_of bytes) at)

-- What a lexer tells of a file that is refused: it's too long, which comes first, or it has no tokens.
pub data IsFault (bytes : List ℕ) (fault : Fault) : Type 0 where
  too_long : longest_file < length bytes → fault.number ≡ refusal_number FileTooLong → fault.place ≡ start → IsFault bytes fault
  no_tokens : length bytes ≤ longest_file → (refusal : Refusal) → fault.number ≡ refusal_number refusal → IsRefused bytes refusal fault.place →
      IsFault bytes fault
