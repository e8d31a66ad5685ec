-- The characters of a file, each below 256.
-- A file is bytes, or UTF-16 with the low byte first after the mark FF FE (Propeller Manual v1.2, "Spin Language",
-- for the two encodings of the Propeller Tool; what stands for a wide unit is this project's profile). In front of bytes
-- the mark EF BB BF of UTF-8 may stand.
use Rattle.std.specs.Prelude.{ℕ, ◌+◌, ◌-◌, ◌*◌, ◌%◌, Bool, ◌==◌, ◌&&◌, if◌then◌else◌, List, [], ◌∷◌, length, take, drop, slice_index}
use Rattle.p8_lexer.specs.declared.token.Token.{Token}

-- whether a file begins with the mark of UTF-16
abbrev pub is_utf16 : List ℕ → Bool
is_utf16 bytes = (slice_index bytes 0 == 255) && (slice_index bytes 1 == 254)

-- whether a file begins with the mark of UTF-8
abbrev pub is_marked : List ℕ → Bool
is_marked bytes = (slice_index bytes 0 == 239) && ((slice_index bytes 1 == 187) && (slice_index bytes 2 == 191))

-- how many bytes stand in front of the text of a file
abbrev pub mark_length : List ℕ → ℕ
mark_length bytes = if is_utf16 bytes then 2 else if is_marked bytes then 3 else 0

-- the characters of units, each of which is a low byte and a high byte: a unit above 255 counts as `?`
abbrev pub units : List ℕ → List ℕ
units [] = []
units (low ∷ []) = []
units (low ∷ high ∷ bytes) = (if high == 0 then low else 63) ∷ units bytes

-- the characters of bytes that are in the one encoding or the other
abbrev pub decoded : Bool → List ℕ → List ℕ
decoded utf16 bytes = if utf16 then units bytes else bytes

-- the text of a file
abbrev pub text_of : List ℕ → List ℕ
text_of bytes = decoded (is_utf16 bytes) (drop (mark_length bytes) bytes)

-- whether half a unit is left at the end of a file
abbrev pub ends_in_half : List ℕ → Bool
ends_in_half bytes = is_utf16 bytes && (length bytes % 2 == 1)

-- where in a file the character of this number begins
abbrev pub offset_of : List ℕ → ℕ → ℕ
offset_of bytes n = mark_length bytes + (if is_utf16 bytes then 2 * n else n)

-- the characters of a token of a file
abbrev pub characters : List ℕ → Token → List ℕ
characters bytes token = decoded (is_utf16 bytes) (take (token.end - token.begin) (drop token.begin bytes))
