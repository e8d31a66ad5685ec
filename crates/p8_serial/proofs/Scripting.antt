-- The script that sends bytes is a good one.
use Rattle.std.proofs.Common.{◌≡◌, ◌∙◌, ap, sym, refl, subst, ℕ, zero, suc, ◌+◌, ◌-◌, ◌*◌, ◌/◌, ◌%◌, ◌^◌, ◌==◌, ◌<◌, ◌≤◌, inl, inr, Bool, true, false, not, cond, if◌then◌else◌, List, [], ◌∷◌, ◌++◌, codes, length, length-append, take, filter, map, flat_map, append_assoc, arith}
use Rattle.std.specs.Prelude.{slice_index}
use Rattle.std.specs.List.{AllZip, slice_split, onto_first}
use Rattle.std.specs.List.Sorted.{IsStrictlyIncreasing}
use Rattle.std.specs.Str.Lines.{lines, lines_of_parts, strip_carriage_return}
use Rattle.std.specs.Str.Parse.{AllDigits, digits_value, digits_value_after}
use Rattle.std.specs.Char.{digit_value}
use Rattle.std.specs.Fmt.{decimal}
use Rattle.std.proofs.lemmas.Fmt.{decimal_is_IsNumeral, length-decimal-le}
use Rattle.std.proofs.lemmas.Nat.{pow-add, pow_below}
use Rattle.std.proofs.lemmas.Bool.{cases_lt}
use Rattle.std.proofs.lemmas.Bool.Decides.{nat_tests}
use Rattle.std.proofs.lemmas.List.{length-map}
use Rattle.p8_access.specs.Worlds.{Line}
use Rattle.p8_pins.specs.Scripts.{is_skipped, Carries, clocks_of, IsScript, IsReadAs}
use Rattle.p8_instr.specs.Numerals.{glyph, hex}
use Rattle.p8_pins.specs.LevelChanges.{RiseFrom}
use Rattle.p8_pins.proofs.Passing.{rise-from}
use Rattle.p8_serial.specs.Typed.{frame_of, line_at, line_text, lines_from, sent, typed_text}
use Rattle.p8_serial.specs.Laws.{CanBeSent}
use Rattle.p8_serial.proofs.Rows.{row-rise}

-- digits
digits-both : (radix : ℕ) (one two : List ℕ) → AllDigits radix one → AllDigits radix two → AllDigits radix (one ++ two)
digits-both radix [] two a b = b
digits-both radix (c ∷ one) two a b = (a.0, digits-both radix one two a.1 b)

value-both : (radix n : ℕ) (one two : List ℕ) → digits_value_after radix n (one ++ two) ≡ digits_value_after radix (digits_value_after radix n one) two
value-both radix n [] two = refl
value-both radix n (c ∷ one) two = value-both radix (n * radix + digit_value c) one two

glyph-value : (d : ℕ) → d < 16 → digit_value (glyph d) ≡ d
glyph-value d h = grind (arith, nat_tests)

pow-more : (w : ℕ) → 16 ^ suc w ≡ 16 ^ w * 16
pow-more w = ap (λ (k : ℕ). 16 ^ k) (omega arith) ∙ pow-add 16 w 1

hex-digits : (w n : ℕ) → AllDigits 16 (hex w n)
unfolding hex
hex-digits zero n = tt
hex-digits (suc w) n = digits-both 16 (hex w (n / 16)) (glyph (n % 16) ∷ []) (hex-digits w (n / 16)) (omega (arith, glyph-value (n % 16) (omega arith)), tt)

hex-length : (w n : ℕ) → length (hex w n) ≡ w
unfolding hex
hex-length zero n = refl
hex-length (suc w) n = length-append (hex w (n / 16)) (glyph (n % 16) ∷ []) ∙ omega (arith, hex-length w (n / 16))

hex-value : (w n : ℕ) → n < 16 ^ w → digits_value 16 (hex w n) ≡ n
unfolding hex
hex-value zero n h = omega (arith, h)
hex-value (suc w) n h =
    value-both 16 0 (hex w (n / 16)) (glyph (n % 16) ∷ [])
    ∙ ap (λ (v : ℕ). v * 16 + digit_value (glyph (n % 16))) (hex-value w (n / 16) (omega (arith, h, pow-more w)))
    ∙ omega (arith, glyph-value (n % 16) (omega arith))

-- a digit is no line feed, no carriage return and no `#`
AreHigh : List ℕ → Type 0
AreHigh [] = Unit {0}
AreHigh (c ∷ cs) = (48 ≤ c) × AreHigh cs

low-none : (c : ℕ) → c < 48 → digit_value c ≡ 36
low-none c low = grind (arith, nat_tests)

digit-high : (c : ℕ) → digit_value c < 36 → 48 ≤ c
digit-high c h = elim (cases_lt c 48) [
  | inl low ↦ absurd (omega (arith, h, low-none c low))
  | inr high ↦ high
]

are-high : (radix : ℕ) (cs : List ℕ) → radix ≤ 36 → AllDigits radix cs → AreHigh cs
unfolding AreHigh
are-high radix [] le digits = tt
are-high radix (c ∷ cs) le digits = (digit-high c (omega (arith, digits.0, le)), are-high radix cs le digits.1)

other : (c d : ℕ) → 48 ≤ c → d < 48 → (c == d) ≡ false
other c d high low = grind (arith, nat_tests)

abbrev is_feed : ℕ → Bool
is_feed byte = byte == 10

-- no byte of a line is a line feed
NoFeed : List ℕ → Type 0
NoFeed [] = Unit {0}
NoFeed (c ∷ cs) = (is_feed c ≡ false) × NoFeed cs

no-feed : (cs : List ℕ) → AreHigh cs → NoFeed cs
unfolding AreHigh NoFeed
no-feed [] high = tt
no-feed (c ∷ cs) high = (other c 10 high.0 (omega arith), no-feed cs high.1)

no-feed-both : (one two : List ℕ) → NoFeed one → NoFeed two → NoFeed (one ++ two)
unfolding NoFeed
no-feed-both [] two a b = b
no-feed-both (c ∷ one) two a b = (a.0, no-feed-both one two a.1 b)

split-line : (line rest : List ℕ) → NoFeed line → slice_split is_feed (line ++ 10 ∷ rest) ≡ line ∷ slice_split is_feed rest
unfolding NoFeed
split-line [] rest none = refl
split-line (c ∷ line) rest none =
    ap (λ (b : Bool). cond b ([] ∷ slice_split is_feed (line ++ 10 ∷ rest)) (onto_first c (slice_split is_feed (line ++ 10 ∷ rest)))) none.0
    ∙ ap (onto_first c) (split-line line rest none.1)

-- a text that begins with a digit isn't skipped
first : (one two : List ℕ) → 0 < length one → AreHigh one → is_skipped (one ++ two) ≡ false
unfolding AreHigh
first [] two some high = absurd (omega (arith, some))
first (c ∷ one) two some high = other c 35 high.0 (omega arith)

-- the last byte of a text
index-at : (cs : List ℕ) (d k : ℕ) → k ≡ length cs → slice_index (cs ++ d ∷ []) k ≡ d
index-at [] d zero at = refl
index-at [] d (suc k) at = absurd (omega (arith, at))
index-at (c ∷ cs) d zero at = absurd (omega (arith, at))
index-at (c ∷ cs) d (suc k) at = index-at cs d k (omega (arith, at))

strips-none : (cs : List ℕ) (d : ℕ) → 48 ≤ d → strip_carriage_return (cs ++ d ∷ []) ≡ cs ++ d ∷ []
strips-none cs d high =
    let last : slice_index (cs ++ d ∷ []) (length (cs ++ d ∷ []) - 1) ≡ d = index-at cs d (length (cs ++ d ∷ []) - 1) (omega (arith, length-append cs (d ∷ []))) in
    ap (λ (b : Bool). if b then take (length (cs ++ d ∷ []) - 1) (cs ++ d ∷ []) else (cs ++ d ∷ [])) (ap (λ (c : ℕ). c == 13) last ∙ other d 13 high (omega arith))

-- a line without its line feed
body : Line → List ℕ
body line = decimal line.clock ++ codes " " ++ hex 8 line.levels

-- a line whose numbers have room
IsPlain : Line → Type 0
IsPlain line = (line.clock < 10 ^ 10) × (line.levels < 16 ^ 8)

ArePlain : List Line → Type 0
ArePlain [] = Unit {0}
ArePlain (line ∷ lines) = IsPlain line × ArePlain lines

module _ (line : Line) (plain : IsPlain line) where
  numeral : (0 < length (decimal line.clock)) × AllDigits 10 (decimal line.clock) × (digits_value 10 (decimal line.clock) ≡ line.clock)
  unfolding IsPlain
  numeral = let n = decimal_is_IsNumeral line.clock (omega (arith, plain.0)) in (n.0.0, n.0.1, n.1)

  short : length (decimal line.clock) ≤ 10
  unfolding IsPlain
  short = length-decimal-le 10 line.clock (omega arith) plain.0 (omega (arith, plain.0))

  body-feed : NoFeed (body line)
  unfolding body NoFeed
  body-feed =
      no-feed-both (decimal line.clock ++ codes " ") (hex 8 line.levels)
      (no-feed-both (decimal line.clock) (codes " ") (no-feed (decimal line.clock) (are-high 10 (decimal line.clock) (omega arith) numeral.1)) (refl, tt))
      (no-feed (hex 8 line.levels) (are-high 16 (hex 8 line.levels) (omega arith) (hex-digits 8 line.levels)))

  carried : Carries (body line) line
  unfolding body IsPlain
  carried = record {
    decimal = decimal line.clock;
    hexadecimal = hex 8 line.levels;
    parts = append_assoc (decimal line.clock) (codes " ") (hex 8 line.levels);
    decimal_digits = numeral.1;
    decimal_length = (omega (arith, numeral.0), short);
    clock = sym numeral.2;
    hexadecimal_digits = hex-digits 8 line.levels;
    hexadecimal_length = hex-length 8 line.levels;
    levels = sym (hex-value 8 line.levels plain.1);
  }

  kept : is_skipped (body line) ≡ false
  unfolding body
  kept = ap is_skipped (append_assoc (decimal line.clock) (codes " ") (hex 8 line.levels)) ∙ first (decimal line.clock) (codes " " ++ hex 8 line.levels) numeral.0 (are-high 10 (decimal line.clock) (omega arith) numeral.1)

  text-length : length (line_text line) ≤ 20
  text-length =
      omega (arith, length-append (decimal line.clock ++ codes " " ++ hex 8 line.levels) (10 ∷ []), length-append (decimal line.clock ++ codes " ") (hex 8 line.levels), length-append (decimal line.clock) (codes " "), short, hex-length 8 line.levels)

body-stripped : (line : Line) → strip_carriage_return (body line) ≡ body line
unfolding body hex
body-stripped line =
    let front = decimal line.clock ++ codes " " in let digits = hex 7 (line.levels / 16) in let last = glyph (line.levels % 16) in
    let parts : front ++ (digits ++ last ∷ []) ≡ (front ++ digits) ++ last ∷ [] = sym (append_assoc front digits (last ∷ [])) in
    ap strip_carriage_return parts ∙ strips-none (front ++ digits) last (digit-high last (omega (arith, glyph-value (line.levels % 16) (omega arith)))) ∙ sym parts

-- the lines of the text
split-all : (script : List Line) → ArePlain script → slice_split is_feed (flat_map line_text script) ≡ map body script ++ [] ∷ []
unfolding ArePlain body
split-all [] plain = refl
split-all (line ∷ script) plain =
    ap (slice_split is_feed) (append_assoc (decimal line.clock ++ codes " " ++ hex 8 line.levels) (10 ∷ []) (flat_map line_text script))
    ∙ split-line (decimal line.clock ++ codes " " ++ hex 8 line.levels) (flat_map line_text script) (body-feed line plain.0)
    ∙ ap (λ (parts : List (List ℕ)). body line ∷ parts) (split-all script plain.1)

join-all : (script : List Line) → lines_of_parts (map body script ++ [] ∷ []) ≡ map body script
join-all [] = refl
join-all (line ∷ []) = ap (λ (l : List ℕ). l ∷ []) (body-stripped line)
join-all (line ∷ next ∷ script) =
    ap (λ (l : List ℕ). l ∷ lines_of_parts (map body (next ∷ script) ++ [] ∷ [])) (body-stripped line) ∙ ap (λ (ls : List (List ℕ)). body line ∷ ls) (join-all (next ∷ script))

all-lines : (script : List Line) → ArePlain script → lines (flat_map line_text script) ≡ map body script
all-lines script plain = ap lines_of_parts (split-all script plain) ∙ join-all script

all-kept : (script : List Line) → ArePlain script → filter (λ text. not (is_skipped text)) (map body script) ≡ map body script
unfolding ArePlain
all-kept [] plain = refl
all-kept (line ∷ script) plain =
    ap (λ (b : Bool). cond (not b) (body line ∷ filter (λ text. not (is_skipped text)) (map body script)) (filter (λ text. not (is_skipped text)) (map body script))) (kept line plain.0)
    ∙ ap (λ (ls : List (List ℕ)). body line ∷ ls) (all-kept script plain.1)

all-carried : (script : List Line) → ArePlain script → AllZip Carries (map body script) script
unfolding ArePlain
all-carried [] plain = tt
all-carried (line ∷ script) plain = (carried line plain.0, all-carried script plain.1)

all-short : (script : List Line) → ArePlain script → length (flat_map line_text script) ≤ 20 * length script
unfolding ArePlain
all-short [] plain = omega arith
all-short (line ∷ script) plain = omega (arith, length-append (line_text line) (flat_map line_text script), text-length line plain.0, all-short script plain.1)

rises-at : (script : List Line) (from k : ℕ) → RiseFrom from script → suc k < length script → slice_index (clocks_of script) k < slice_index (clocks_of script) (suc k)
rises-at [] from k rise h = absurd (omega (arith, h))
rises-at (a ∷ []) from k rise h = absurd (omega (arith, h))
rises-at (a ∷ b ∷ script) from zero rise h = omega (arith, rise.1.0)
rises-at (a ∷ b ∷ script) from (suc k) rise h = rises-at (b ∷ script) (a.clock + 1) k rise.1 (omega (arith, h))

all-rise : (script : List Line) (from : ℕ) → RiseFrom from script → IsStrictlyIncreasing (clocks_of script)
all-rise script from rise k h =
    let step : suc k ≡ k + 1 = omega arith in
    subst (λ (n : ℕ). slice_index (clocks_of script) k < slice_index (clocks_of script) n) step (rises-at script from k rise (omega (arith, h, length-map script (λ (line : Line). line.clock))))

-- plain lines whose clocks rise are read as they are
is-read : (script : List Line) → ArePlain script → RiseFrom 0 script → length script ≤ 50001 → IsReadAs (flat_map line_text script) script
is-read script plain rise count = record {
  size = omega (arith, all-short script plain, count);
  reads = subst (λ (texts : List (List ℕ)). IsScript texts script) (sym (all-lines script plain)) (record {
    carried = subst (λ (texts : List (List ℕ)). AllZip Carries texts script) (sym (all-kept script plain)) (all-carried script plain);
    rising = all-rise script 0 rise;
    count = omega (arith, count);
  });
}

-- the rows that send bytes
row-length : (pin bits clock : ℕ) (before : Bool) (row : List Bool) → length (lines_from pin bits clock before row) ≤ length row
row-length pin bits clock before [] = omega arith
row-length pin bits clock true (true ∷ row) = omega (arith, row-length pin bits (clock + bits) true row)
row-length pin bits clock false (false ∷ row) = omega (arith, row-length pin bits (clock + bits) false row)
row-length pin bits clock true (false ∷ row) = omega (arith, row-length pin bits (clock + bits) false row)
row-length pin bits clock false (true ∷ row) = omega (arith, row-length pin bits (clock + bits) true row)

plain-line : (pin clock : ℕ) (high : Bool) → pin < 32 → clock < 10 ^ 10 → IsPlain (line_at pin clock high)
unfolding IsPlain
plain-line pin clock true one low = (low, omega (arith, pow_below pin 32 one))
plain-line pin clock false one low = (low, omega arith)

row-plain : (pin bits clock : ℕ) (before : Bool) (row : List Bool) → pin < 32 → bits ≤ 10000 → clock + 10000 * length row < 10 ^ 10 → ArePlain (lines_from pin bits clock before row)
unfolding ArePlain
row-plain pin bits clock before [] one rate low = tt
row-plain pin bits clock true (true ∷ row) one rate low = row-plain pin bits (clock + bits) true row one rate (omega (arith, low, rate))
row-plain pin bits clock false (false ∷ row) one rate low = row-plain pin bits (clock + bits) false row one rate (omega (arith, low, rate))
row-plain pin bits clock true (false ∷ row) one rate low = (plain-line pin clock false one (omega (arith, low)), row-plain pin bits (clock + bits) false row one rate (omega (arith, low, rate)))
row-plain pin bits clock false (true ∷ row) one rate low = (plain-line pin clock true one (omega (arith, low)), row-plain pin bits (clock + bits) true row one rate (omega (arith, low, rate)))

frame-length : (byte : ℕ) → length (frame_of byte) ≡ 10
unfolding frame_of
frame-length byte = refl

frames-length : (bytes : List ℕ) → length (flat_map frame_of bytes) ≡ 10 * length bytes
frames-length [] = refl
frames-length (byte ∷ bytes) = length-append (frame_of byte) (flat_map frame_of bytes) ∙ omega (arith, frame-length byte, frames-length bytes)

pub sent-is-read : (bytes : List ℕ) (pin bits start : ℕ) → CanBeSent bytes pin bits start → IsReadAs (typed_text bytes pin bits start) (sent bytes pin bits start)
unfolding typed_text sent ArePlain
sent-is-read bytes pin bits start can =
    let row = flat_map frame_of bytes in
    is-read (line_at pin 0 true ∷ lines_from pin bits start true row)
    (plain-line pin 0 true can.wired (omega arith), row-plain pin bits start true row can.wired can.rate.most (omega (arith, frames-length bytes, can.count, can.begins.1)))
    (omega arith, rise-from 1 start (lines_from pin bits start true row) can.begins.0 (row-rise pin bits start true row (omega (arith, can.rate.least))))
    (omega (arith, row-length pin bits start true row, frames-length bytes, can.count))
