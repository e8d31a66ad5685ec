-- What a source is cut into (Propeller Manual v1.2, "Elements of the Spin language"). A text is pieces, one after the other, each as long as a piece can
-- be there. Its tokens are its pieces but for blanks and comments. How long a name may be, how great a number, and what may stand behind one is no part
-- of it: what is run was accepted.
use Rattle.std.specs.Prelude.{◌≡◌, ◌≢◌, ℕ, ◌+◌, ◌-◌, ◌*◌, ◌/◌, ◌<◌, ◌≤◌, ◌==◌, ◌⊎◌, Bool, false, not, ◌&&◌, ◌||◌, if◌then◌else◌, IsTrue, List, [], ◌∷◌, ◌++◌}
use Rattle.std.specs.Prelude.{length, take, drop, slice_index, slice_get, Option, Some, None, codes}
use Rattle.std.specs.Char.{is_digit}
use Rattle.p8_tree.specs.declared.places.Place.{Place}
use Rattle.p8_lexer.specs.declared.token.TokenKind.{TokenKind}
use Rattle.p8_lexer.specs.declared.token.TokenKind.TheVariants.{Name, Number, Float, Str, Symbol, LineEnd}
use Rattle.p8_lexer.specs.Characters.{text_of}
use Rattle.p8_lexer.specs.Words.{first_of}
use Rattle.p8_lexer.specs.Lexing.{is_letter, is_line_end, value_behind, Inside, ends_doc}
use Rattle.p8_lines.specs.Tokens.{LineToken}
use Rattle.p8_prop.specs.Words.{Entry, symbols}

-- Characters: 9 is tab, 10 LF, 13 CR, 32 space, 34 `"`, 39 `'`, 43 `+`, 45 `-`, 46 `.`, 69 `E`, 95 `_`, 101 `e`, 123 `{`, 125 `}`.

-- ---- pieces

-- each character from one place up to another is so
abbrev pub AllAre : (ℕ → Bool) → List ℕ → ℕ → ℕ → Type 0
AllAre are text from to = (i : ℕ) → from ≤ i → i < to → IsTrue (are (slice_index text i))

-- from one place up to another there are digits in a base, with `_` anywhere but in front
abbrev pub AreDigits : (base : ℕ) → List ℕ → ℕ → ℕ → Type 0
AreDigits base text from to =
    (from < to) × IsTrue (is_digit (slice_index text from) base) × AllAre (λ c. is_digit c base || (c == 95)) text (from + 1) to

-- the first n characters are a number in a base, with this value, behind what such numbers begin with
abbrev pub IsNumber : (mark : List ℕ) → (base : ℕ) → ℕ → List ℕ → ℕ → Type 0
IsNumber mark base v text n =
    (take (length mark) text ≡ mark) × AreDigits base text (length mark) n × (v ≡ value_behind base 0 (drop (length mark) (take n text)))

-- `.` and digits; and `e`, perhaps a sign, and digits
abbrev pub IsFraction : List ℕ → ℕ → ℕ → Type 0
IsFraction text from to = (slice_index text from ≡ 46) × AreDigits 10 text (from + 1) to

abbrev pub IsExponent : List ℕ → ℕ → ℕ → Type 0
IsExponent text from to =
    ((slice_index text from ≡ 69) ⊎ (slice_index text from ≡ 101))
    × (AreDigits 10 text (from + 1) to
    ⊎ (((slice_index text (from + 1) ≡ 43) ⊎ (slice_index text (from + 1) ≡ 45)) × AreDigits 10 text (from + 2) to))

-- the one, the other, or both
abbrev pub IsFloatTail : List ℕ → ℕ → ℕ → Type 0
IsFloatTail text from to =
    IsFraction text from to ⊎ (IsExponent text from to ⊎ ((m : ℕ) × IsFraction text from m × IsExponent text m to))

-- The first n characters of a text are a token of this kind; or else they are spaces and tabs, a comment up to the end of its line, one in braces, in
-- which others may stand, or one from `{{` to the first `}}`.
abbrev pub Is : Option TokenKind → List ℕ → ℕ → Type 0
Is (Some LineEnd) text n = (take n text ≡ 10 ∷ []) ⊎ ((take n text ≡ 13 ∷ []) ⊎ (take n text ≡ 13 ∷ 10 ∷ []))
Is (Some Name) text n = (0 < n) × IsTrue (is_letter (slice_index text 0)) × AllAre (λ c. is_letter c || is_digit c 10) text 1 n
Is (Some (Number v)) text n =
    IsNumber (codes "%") 2 v text n ⊎ (IsNumber (codes "%%") 4 v text n ⊎ (IsNumber [] 10 v text n ⊎ IsNumber (codes "$") 16 v text n))
Is (Some Float) text n = (m : ℕ) × AreDigits 10 text 0 m × IsFloatTail text m n
Is (Some Str) text n =
    (1 < n) × (slice_index text 0 ≡ 34) × AllAre (λ c. not ((c == 34) || is_line_end c)) text 1 (n - 1) × (slice_index text (n - 1) ≡ 34)
Is (Some (Symbol s)) text n = (e : Entry) × (slice_get symbols s ≡ Some e) × (take n text ≡ first_of e.spellings)
Is None text n =
    ((0 < n) × AllAre (λ c. (c == 32) || (c == 9)) text 0 n)
    ⊎ (((0 < n) × (slice_index text 0 ≡ 39) × AllAre (λ c. not (is_line_end c)) text 1 n)
    ⊎ (((slice_index text 1 ≢ 123) × ((inside : List ℕ) × Inside inside × (take n text ≡ 123 ∷ (inside ++ 125 ∷ []))))
    ⊎ ((4 ≤ n) × (slice_index text 0 ≡ 123) × (slice_index text 1 ≡ 123) × IsTrue (ends_doc text (n - 2))
    × ((i : ℕ) → 2 ≤ i → i < n - 2 → ends_doc text i ≡ false))))

-- and more of its characters are no piece of any kind
pub record Cuts (k : Option TokenKind) (text : List ℕ) (n : ℕ) : Type 0 where
  pub within : n ≤ length text
  pub is : Is k text n
  pub longest : (j : Option TokenKind) (m : ℕ) → n < m → m ≤ length text → ¬ Is j text m

-- ---- places

-- the place behind a character, by the one before it: LF, CR and CR LF end a line, and a tab goes to the next column of the form 8k + 1
abbrev pub behind : (before : ℕ) → Place → ℕ → Place
behind before p c =
    if (c == 10) && (before == 13) then p
    else if (c == 10) || (c == 13) then record { line = p.line + 1; column = 1 }
    else record { line = p.line; column = if c == 9 then 8 * ((p.column - 1) / 8) + 9 else p.column + 1 }

-- the place behind characters, before which this one stands
abbrev pub place_behind : (before : ℕ) → Place → List ℕ → Place
place_behind before p [] = p
place_behind before p (c ∷ cs) = place_behind c (behind before p c) cs

-- the place of the character of this number, from 0
abbrev pub place_at : List ℕ → ℕ → Place
place_at text n = place_behind 0 (record { line = 1; column = 1 }) (take n text)

-- ---- tokens

-- from the character of this number on a text is cut into these tokens
pub data AreCut (text : List ℕ) : ℕ → List LineToken → Type 0 where
  at_end : {at : ℕ} → at ≡ length text → AreCut text at []
  a_gap : {at : ℕ} {ts : List LineToken} (n : ℕ) → Cuts None (drop at text) n → AreCut text (at + n) ts → AreCut text at ts
  a_token : {at : ℕ} {ts : List LineToken} (k : TokenKind) (n : ℕ) → Cuts (Some k) (drop at text) n → AreCut text (at + n) ts
      → AreCut text at (record { place = place_at text at; text = take n (drop at text); kind = k } ∷ ts)

-- bytes have these tokens
abbrev pub AreTokens : List ℕ → List LineToken → Type 0
AreTokens bytes ts = AreCut (text_of bytes) 0 ts
