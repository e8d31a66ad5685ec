-- A line ends with the end of a line of the text; an item of a CASE, and OTHER, with a colon.
use Rattle.std.proofs.Common.{◌≡◌, ℕ, List, [], ◌∷◌, ◌++◌, Option, Some, None, Bool, true, false, refl, ap, subst}
use Rattle.std.specs.Prelude.{IsTrue, if◌then◌else◌}
use Rattle.p8_lexer.specs.declared.word.Word.{Word}
use Rattle.p8_lexer.specs.declared.word.Word.TheVariants as word_case
use Rattle.p8_lexer.specs.Pieces.{Piece}
use Rattle.p8_lines.specs.Signs.{Matches}
use Rattle.p8_lines.specs.declared.sign.Sign.{Sign}
use Rattle.p8_lines.specs.declared.sign.Sign.TheVariants as sign
use Rattle.p8_lines.specs.declared.arrow.Arrow.{Arrow}
use Rattle.p8_lines.specs.declared.state.LineState.{LineState}
use Rattle.p8_lines.specs.declared.state.LineState.TheVariants as state
use Rattle.p8_lines.specs.Diagram.{Phrase, choices}
use Rattle.p8_lines.specs.Tokens.{LineToken, word, string_length}
use Rattle.p8_lines.specs.Lines.{Row, over, token, phrase, Follows}
use Rattle.p8_lines.proofs.Arrows.{all_good, taken, all_good_behind, taken_behind}

abbrev pub is_over : LineState → Bool
is_over state.End = true
is_over q = false

-- the states of an item, and of OTHER
abbrev pub in_item : LineState → Bool
in_item state.CaseItem = true
in_item state.CaseTest = true
in_item state.CaseRange = true
in_item state.OtherColon = true
in_item q = false

abbrev is_colon : Sign → Bool
is_colon (sign.Word word_case.Colon) = true
is_colon x = false

abbrev is_line_end : Sign → Bool
is_line_end (sign.Word word_case.LineEnd) = true
is_line_end x = false

-- a line's last token is such a word
abbrev pub last_word : Bool → Word
last_word true = word_case.Colon
last_word false = word_case.LineEnd

abbrev is_last : Bool → Sign → Bool
is_last true x = is_colon x
is_last false x = is_line_end x

abbrev same : Bool → Bool → Bool
same true b = b
same false b = if b then false else true

abbrev stays : Bool → Arrow → Bool
stays i a = if is_over a.to then is_last i a.sign else same i (in_item a.to)

arrows_stay : (q : LineState) → IsTrue (all_good (stays (in_item q)) (choices q).arrows)
arrows_stay state.End = refl
arrows_stay q = refl

abbrev phrase_stays : Bool → Option Phrase → Bool
phrase_stays i None = true
phrase_stays i (Some h) = all_good_behind (stays i) h

phrases_stay : (q : LineState) → IsTrue (phrase_stays (in_item q) (choices q).phrase)
phrases_stay state.End = refl
phrases_stay q = refl

colon_is : (x : Sign) (v : Word) (n : ℕ) → Matches x v n → IsTrue (is_colon x) → v ≡ word_case.Colon
colon_is (sign.Word word_case.Colon) v n m h = m
colon_is (sign.Word w) v n m h = absurd cc
colon_is x v n m h = absurd cc

line_end_is : (x : Sign) (v : Word) (n : ℕ) → Matches x v n → IsTrue (is_line_end x) → v ≡ word_case.LineEnd
line_end_is (sign.Word word_case.LineEnd) v n m h = m
line_end_is (sign.Word w) v n m h = absurd cc
line_end_is x v n m h = absurd cc

last_is : (i : Bool) (x : Sign) (v : Word) (n : ℕ) → Matches x v n → IsTrue (is_last i x) → v ≡ last_word i
last_is true x v n m h = colon_is x v n m h
last_is false x v n m h = line_end_is x v n m h

same_is : (a b : Bool) → IsTrue (same a b) → b ≡ a
same_is true true h = refl
same_is true false h = absurd cc
same_is false false h = refl
same_is false true h = absurd cc

-- the last of some tokens
pub record Last (ts : List LineToken) (w : Word) : Type 0 where
  pub before : List LineToken
  pub token : LineToken
  pub split : ts ≡ before ++ token ∷ []
  pub is : word token ≡ w

behind : {ts : List LineToken} {w : Word} (t : LineToken) → Last ts w → Last (t ∷ ts) w
behind t l = record { before = t ∷ l.before; token = l.token; split = ap (λ ts. t ∷ ts) l.split; is = l.is }

pub behind_all : {ts : List LineToken} {w : Word} (us : List LineToken) → Last ts w → Last (us ++ ts) w
behind_all [] l = l
behind_all (u ∷ us) l = behind u (behind_all us l)

pub none_left : {q : LineState} {row : List Piece} {ts : List LineToken} → Row q row ts → IsTrue (is_over q) → ts ≡ []
none_left over h = refl
none_left (token {q = state.End} f x) h = absurd (nothing f)
  where
    nothing : {t : LineToken} {r : LineState} → Follows [] t r → ⊥
    nothing f = elim f [ ]
none_left (token f x) h = absurd cc
none_left (phrase {q = state.End} others p e f x) h = absurd cc
none_left (phrase others p e f x) h = absurd cc

-- a step from a state with a token that takes such an arrow
step : {r : LineState} {row : List Piece} {ts : List LineToken} (i : Bool) (t : LineToken) (a : Arrow) → Matches a.sign (word t) (string_length t) → a.to ≡ r → IsTrue (stays i a) → Row r row ts → ((j : Bool) → is_over r ≡ false → in_item r ≡ j → Last ts (last_word j)) → Last (t ∷ ts) (last_word i)
step {r} {row} {ts} i t a m e h x later = go (is_over r) refl (subst (λ r. IsTrue (if is_over r then is_last i a.sign else same i (in_item r))) e h)
  where
    go : (b : Bool) → is_over r ≡ b → IsTrue (if b then is_last i a.sign else same i (in_item r)) → Last (t ∷ ts) (last_word i)
    go true o h = record { before = []; token = t; split = ap (λ ts. t ∷ ts) (none_left x o); is = last_is i a.sign (word t) (string_length t) m h }
    go false o h = behind t (subst (λ j. Last ts (last_word j)) (same_is i (in_item r) h) (later (in_item r) o refl))

pub row_ends : {q : LineState} {row : List Piece} {ts : List LineToken} → Row q row ts → is_over q ≡ false → Last ts (last_word (in_item q))
row_ends over n = absurd cc
row_ends (token {q = q} {t = t} {ts = ts} f x) n =
    let y = taken (stays (in_item q)) f (arrows_stay q) in
    step (in_item q) t y.arrow y.is y.goes y.good x (λ j o e. subst (λ j. Last ts (last_word j)) e (row_ends x o))
row_ends (phrase {q = q} {h = h} {first = first} {t = t} others {ts = ts} p e f x) n =
    let y = taken_behind (stays (in_item q)) h (first ∷ others) f (subst (λ o. IsTrue (phrase_stays (in_item q) o)) p (phrases_stay q)) in
    behind_all (first ∷ others) (step (in_item q) t y.arrow y.is y.goes y.good x (λ j o e. subst (λ j. Last ts (last_word j)) e (row_ends x o)))
