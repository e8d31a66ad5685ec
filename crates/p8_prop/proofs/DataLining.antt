-- What the diagram reads as a line of DAT is a line of the sentence, and each of its words is one of DAT or that of an instruction.
use Rattle.std.proofs.Common.{◌≡◌, ◌⊎◌, inl, inr, ◌∙◌, sym, ap, ap₂, subst, refl, ℕ, Bool, true, false, List, [], ◌∷◌, map, Option, Some, arith}
use Rattle.std.specs.Prelude.{IsTrue, if◌then◌else◌, ◌&&◌, ◌||◌, not, ◌<◌, nat_lt}
use Rattle.std.specs.List.{list_any, list_all}
use Rattle.std.proofs.lemmas.Bool.Decides.{nat_tests}
use Rattle.p8_tree.specs.declared.places.Place.{Place}
use Rattle.p8_instr.specs.Mnemonics.{mnemonics}
use Rattle.p8_lexer.specs.declared.word.Word.{Word}
use Rattle.p8_lexer.specs.declared.word.Word.TheVariants as word
use Rattle.p8_lexer.specs.Pieces.{Piece}
use Rattle.p8_grammar.specs.Lexemes.{Setting, in_dat, in_data_item}
use Rattle.p8_lines.specs.declared.sign.Sign.{Sign}
use Rattle.p8_lines.specs.declared.sign.Sign.TheVariants as sign
use Rattle.p8_lines.specs.declared.arrow.Arrow.{Arrow}
use Rattle.p8_lines.specs.declared.state.LineState.{LineState}
use Rattle.p8_lines.specs.declared.state.LineState.TheVariants as state
use Rattle.p8_lines.specs.Signs.{Matches, is_size, is_condition, takes_two, is_on_memory, takes_one, is_flag, is_write}
use Rattle.p8_lines.specs.Diagram.{Phrase, choices}
use Rattle.p8_lines.specs.Tokens as tokens
use Rattle.p8_lines.specs.Tokens.{LineToken, string_length, piece}
use Rattle.p8_lines.specs.Lines as lines
use Rattle.p8_lines.specs.Lines.{Follows, behind, piece_in}
use Rattle.p8_lines.proofs.Arrows.{all_good, all_good_behind, taken, taken_behind}
use Rattle.p8_lines.proofs.Lexemes.{is_plain}
use Rattle.p8_declarations.specs.DataParts.{part_of_word, part_of_piece}
use Rattle.p8_blocks.proofs.Pieces.{word_piece, name_piece, text_piece, is_labelled, plain_piece}
use Rattle.p8_prop.proofs.Reading.{Row, is_open, in_data, is_known}
use Rattle.p8_prop.proofs.Lining.{is_end, all_behind, open-arrows, open-phrase, labelled, word_at, plain-word, label-word, setting_in, when-own, goes-on}
use Rattle.p8_prop.proofs.Lining.{not-so, join, chosen, both}

-- ---- lines of DAT

abbrev dat : LineState → Bool
dat state.LineEnd = true
dat state.DatHead = true
dat state.DatLine = true
dat state.DatLabel = true
dat state.DatBody = true
dat state.DatValue = true
dat state.FirstData = true
dat state.Data = true
dat state.DataValue = true
dat state.DataCount = true
dat state.MoreData = true
dat state.Conditioned = true
dat state.Destination = true
dat state.Source = true
dat state.SourceValue = true
dat state.MemoryDestination = true
dat state.MemorySource = true
dat state.MemorySourceValue = true
dat state.OnlyDestination = true
dat state.CallHash = true
dat state.CallLabel = true
dat state.CallLocal = true
dat state.Effects = true
dat state.MoreEffects = true
dat state.Effect = true
dat state.MoreFlags = true
dat state.FlagEffect = true
dat q = false

-- behind a size, and behind the bracket of a count
abbrev datum : LineState → Bool
datum state.FirstData = true
datum state.Data = true
datum state.DataValue = true
datum state.DataCount = true
datum state.MoreData = true
datum q = false

abbrev count : LineState → Bool
count state.DataCount = true
count q = false

abbrev sizes : Sign → Bool
sizes (sign.Word w) = is_size w
sizes sign.Size = true
sizes s = false

abbrev opens : Sign → Bool
opens (sign.Word w) = is_open (w ∷ [])
opens s = false

abbrev is_label_sign : Sign → Bool
is_label_sign sign.Label = true
is_label_sign s = false

abbrev same : Bool → Bool → Bool
same true b = b
same false b = not b

same-so : (a b : Bool) → IsTrue (same a b) → a ≡ b
same-so true b h = sym h
same-so false true h = absurd cc
same-so false false h = refl

-- to a state of DAT that knows of the sizes and brackets before it, or to the end
abbrev stays : LineState → Arrow → Bool
stays q a = is_end a.to || (dat a.to && (same (datum a.to) (sizes a.sign || datum q) && same (count a.to) (opens a.sign)))

abbrev names : LineState → Arrow → Bool
names q a = same (is_labelled q) (is_label_sign a.sign)

abbrev suits : LineState → Arrow → Bool
suits q a = names q a && stays q a

data-suits : (q : LineState) → IsTrue (if dat q then all_good (suits q) (choices q).arrows && all_behind (suits q) (choices q).phrase else true)
data-suits state.End = refl
data-suits q = refl

abbrev wanted : LineState → Setting
wanted q = if datum q && not (count q) then in_data_item else in_dat

data-same : (q : LineState) → (if dat q then setting_in (wanted q) (choices q).phrase else wanted q) ≡ wanted q
data-same state.End = refl
data-same q = refl

open-so : (w : Word) (before : List Word) → is_open (w ∷ before) ≡ is_open (w ∷ [])
open-so word.LeftBracket before = refl
open-so w before = refl

neither : (a b : Bool) → IsTrue (not (a || b)) → (a ≡ false) × (b ≡ false)
neither true b h = absurd cc
neither false true h = absurd cc
neither false false h = (refl, refl)

abbrev apart : Word → Bool
apart w = not (is_size w || is_open (w ∷ []))

not-open : (w : Word) → IsTrue (if is_size w then not (is_open (w ∷ [])) else true)
not-open word.ByteSize = refl
not-open w = refl

conditions-apart : (w : Word) → IsTrue (if is_condition w then apart w else true)
conditions-apart word.IfE = refl
conditions-apart w = refl

two-apart : (w : Word) → IsTrue (if takes_two w then apart w else true)
two-apart word.Add = refl
two-apart w = refl

memory-apart : (w : Word) → IsTrue (if is_on_memory w then apart w else true)
memory-apart word.Rdbyte = refl
memory-apart w = refl

one-apart : (w : Word) → IsTrue (if takes_one w then apart w else true)
one-apart word.Clkset = refl
one-apart w = refl

flags-apart : (w : Word) → IsTrue (if is_flag w then apart w else true)
flags-apart word.Wz = refl
flags-apart w = refl

writes-apart : (w : Word) → IsTrue (if is_write w then apart w else true)
writes-apart word.Wr = refl
writes-apart w = refl

-- a word of a class that is apart is neither a size nor a bracket
class-is : (class : Word → Bool) → ((w : Word) → IsTrue (if class w then apart w else true)) → (v : Word) (before : List Word) → IsTrue (class v)
    → (is_size v ≡ false) × (is_open (v ∷ before) ≡ false)
class-is class law v before m =
    let it = neither (is_size v) (is_open (v ∷ [])) (chosen (class v) (apart v) true m (law v)) in
    (it.0, open-so v before ∙ it.1)

word-is : (s : Sign) (v : Word) (n : ℕ) (before : List Word) → IsTrue (not (is_label_sign s)) → Matches s v n
    → (is_size v ≡ sizes s) × (is_open (v ∷ before) ≡ opens s)
word-is (sign.Word w) v n before h m = (ap is_size m, ap (λ (v : Word). is_open (v ∷ before)) m ∙ open-so w before)
word-is sign.Size v n before h m = (m, open-so v before ∙ not-so (is_open (v ∷ [])) (chosen (is_size v) (not (is_open (v ∷ []))) true m (not-open v)))
word-is sign.Text v n before h m = (ap is_size m.0, ap (λ (v : Word). is_open (v ∷ before)) m.0)
word-is sign.LongText v n before h m = (ap is_size m.0, ap (λ (v : Word). is_open (v ∷ before)) m.0)
word-is sign.Condition v n before h m = class-is is_condition conditions-apart v before m
word-is sign.TwoOperands v n before h m = class-is takes_two two-apart v before m
word-is sign.Memory v n before h m = class-is is_on_memory memory-apart v before m
word-is sign.OneOperand v n before h m = class-is takes_one one-apart v before m
word-is sign.Flag v n before h m = class-is is_flag flags-apart v before m
word-is sign.Write v n before h m = class-is is_write writes-apart v before m
word-is sign.Label v n before h m = absurd cc

-- what is known of the words before at a state of DAT
abbrev InData : LineState → List Word → Type 0
InData q before = IsTrue (is_end q) ⊎ (IsTrue (dat q) × (list_any is_size before ≡ datum q) × (is_open before ≡ count q))

next-data : (q r : LineState) (before : List Word) (v : Word) (a : Arrow) → list_any is_size before ≡ datum q → IsTrue (stays q a) → a.to ≡ r
    → is_size v ≡ sizes a.sign → is_open (v ∷ before) ≡ opens a.sign → InData r (v ∷ before)
next-data q r before v a known good goes size ahead = subst (λ (r : LineState). InData r (v ∷ before)) goes (go (is_end a.to) refl good)
  where
    go : (b : Bool) → is_end a.to ≡ b
        → IsTrue (b || (dat a.to && (same (datum a.to) (sizes a.sign || datum q) && same (count a.to) (opens a.sign)))) → InData a.to (v ∷ before)
    go true e h = inl e
    go false e h =
        let it = both (dat a.to) (same (datum a.to) (sizes a.sign || datum q) && same (count a.to) (opens a.sign)) h in
        let more = both (same (datum a.to) (sizes a.sign || datum q)) (same (count a.to) (opens a.sign)) it.1 in
        inr (
          it.0,
          ap₂ (λ (x : Bool) (y : Bool). x || y) size known ∙ sym (same-so (datum a.to) (sizes a.sign || datum q) more.0),
          ahead ∙ sym (same-so (count a.to) (opens a.sign) more.1),
        )

ended-no-arrow : (q : LineState) {t : LineToken} {r : LineState} → IsTrue (is_end q) → Follows (choices q).arrows t r → ⊥
ended-no-arrow q e f = let ahead = open-arrows q f in let never : true ≡ false = sym e ∙ ahead in cc

data-good : (q : LineState) → IsTrue (dat q) → IsTrue (all_good (suits q) (choices q).arrows) × IsTrue (all_behind (suits q) (choices q).phrase)
data-good q d =
    both (all_good (suits q) (choices q).arrows) (all_behind (suits q) (choices q).phrase) (chosen (dat q) _ true d (data-suits q))

-- the word of a token at a state of DAT
token-word : (q : LineState) (t : LineToken) (before : List Word) (a : Arrow) → IsTrue (names q a) → Matches a.sign (tokens.word t) (string_length t)
    → (is_size (word_at q t) ≡ sizes a.sign) × (is_open (word_at q t ∷ before) ≡ opens a.sign)
token-word q t before a named m = go (is_labelled q) refl named
  where
    of-label : (s : Sign) → IsTrue (is_label_sign s) → (is_size word.Name ≡ sizes s) × (is_open (word.Name ∷ before) ≡ opens s)
    of-label sign.Label h = (refl, refl)
    of-label s h = absurd cc

    go : (b : Bool) → is_labelled q ≡ b → IsTrue (same b (is_label_sign a.sign)) → (is_size (word_at q t) ≡ sizes a.sign) × (is_open (word_at q t ∷ before) ≡ opens a.sign)
    go true e h =
        subst (λ (w : Word). (is_size w ≡ sizes a.sign) × (is_open (w ∷ before) ≡ opens a.sign)) (sym (label-word q t e)) (of-label a.sign h)
    go false e h =
        subst (λ (w : Word). (is_size w ≡ sizes a.sign) × (is_open (w ∷ before) ≡ opens a.sign)) (sym (plain-word q t e))
        (word-is a.sign (tokens.word t) (string_length t) before h m)

data-token : (q r : LineState) (before : List Word) (t : LineToken) → InData q before → Follows (choices q).arrows t r → InData r (word_at q t ∷ before)
data-token q r before t (inl e) f = absurd (ended-no-arrow q e f)
data-token q r before t (inr known) f =
    let it = taken (suits q) f (data-good q known.0).0 in
    let good = both (names q it.arrow) (stays q it.arrow) it.good in
    let w = token-word q t before it.arrow good.0 it.is in
    next-data q r before (word_at q t) it.arrow known.1 good.1 it.goes w.0 w.1

no-label-phrase : (q : LineState) (h : Phrase) → (choices q).phrase ≡ Some h → is_labelled q ≡ false
no-label-phrase state.DatLabel h some = absurd cc
no-label-phrase state.CallLocal h some = absurd cc
no-label-phrase q h some = refl

data-value : (q r : LineState) (before : List Word) (h : Phrase) (us : List LineToken) (t : LineToken) → InData q before → (choices q).phrase ≡ Some h
    → Follows (behind h us) t r → (in_data before (tokens.word t) ≡ h.setting) × InData r (tokens.word t ∷ before)
data-value q r before h us t (inl e) some f = let ahead = open-phrase q h some in let never : true ≡ false = sym e ∙ ahead in absurd cc
data-value q r before h us t (inr known) some f =
    let all : IsTrue (all_good_behind (suits q) h) = subst (λ (o : Option Phrase). IsTrue (all_behind (suits q) o)) some (data-good q known.0).1 in
    let it = taken_behind (suits q) h us f all in
    let good = both (names q it.arrow) (stays q it.arrow) it.good in
    let plain = no-label-phrase q h some in
    let w = subst (λ (v : Word). (is_size v ≡ sizes it.arrow.sign) × (is_open (v ∷ before) ≡ opens it.arrow.sign)) (plain-word q t plain)
    (token-word q t before it.arrow good.0 it.is) in (
      ap₂ (λ (x : Bool) (y : Bool). if x && not y then in_data_item else in_dat) known.1 known.2
          ∙ sym (ap (setting_in (wanted q)) (sym some) ∙ when-own (dat q) (setting_in (wanted q) (choices q).phrase) (wanted q) (data-same q) known.0),
      next-data q r before (tokens.word t) it.arrow known.1 good.1 it.goes w.0 w.1,
    )

pub data-head-line : {row : List Piece} {ts : List LineToken} → lines.Row state.DatHead row ts → Row in_data [] row ts
data-head-line x = goes-on in_data InData data-token data-value x (inr (refl, refl, refl)) refl

pub data-line : {row : List Piece} {ts : List LineToken} → lines.Row state.DatLine row ts → Row in_data [] row ts
data-line x = goes-on in_data InData data-token data-value x (inr (refl, refl, refl)) refl

-- ---- each word of such a line is one of DAT, or that of an instruction

longer-so : (n : ℕ) → 1 < n → IsTrue (nat_lt 1 n)
longer-so n h = grind (arith, nat_tests)

nowhere : Place
nowhere = record { line = 0; column = 0 }

abbrev word_known : Word → Bool
word_known w = is_plain w && is_known (part_of_word w nowhere)

known-anywhere : (w : Word) (p : Place) → is_known (part_of_word w p) ≡ is_known (part_of_word w nowhere)
unfolding part_of_word mnemonics nowhere
known-anywhere word.Add p = refl
known-anywhere w p = refl

abbrev good_word : Word → Bool
good_word word.Name = true
good_word w = word_known w

abbrev good_sign : Sign → Bool
good_sign (sign.Word w) = good_word w
good_sign sign.Text = false
good_sign s = true

sizes-known : (w : Word) → IsTrue (if is_size w then word_known w else true)
unfolding part_of_word mnemonics nowhere
sizes-known word.ByteSize = refl
sizes-known w = refl

conditions-known : (w : Word) → IsTrue (if is_condition w then word_known w else true)
unfolding part_of_word mnemonics nowhere
conditions-known word.IfE = refl
conditions-known w = refl

two-known : (w : Word) → IsTrue (if takes_two w then word_known w else true)
unfolding part_of_word mnemonics nowhere
two-known word.Add = refl
two-known w = refl

memory-known : (w : Word) → IsTrue (if is_on_memory w then word_known w else true)
unfolding part_of_word mnemonics nowhere
memory-known word.Rdbyte = refl
memory-known w = refl

one-known : (w : Word) → IsTrue (if takes_one w then word_known w else true)
unfolding part_of_word mnemonics nowhere
one-known word.Clkset = refl
one-known w = refl

flags-known : (w : Word) → IsTrue (if is_flag w then word_known w else true)
unfolding part_of_word mnemonics nowhere
flags-known word.Wz = refl
flags-known w = refl

writes-known : (w : Word) → IsTrue (if is_write w then word_known w else true)
unfolding part_of_word mnemonics nowhere
writes-known word.Wr = refl
writes-known w = refl

plain-known : (t : LineToken) (w : Word) → IsTrue (word_known w) → tokens.word t ≡ w → IsTrue (is_known (part_of_piece (piece t)))
plain-known t w h m =
    let it = both (is_plain w) (is_known (part_of_word w nowhere)) h in
    subst (λ (x : Piece). IsTrue (is_known (part_of_piece x))) (sym (word_piece t w it.0 m)) (known-anywhere w t.place ∙ it.1)

class-known : (class : Word → Bool) → ((w : Word) → IsTrue (if class w then word_known w else true)) → (t : LineToken) → IsTrue (class (tokens.word t))
    → IsTrue (is_known (part_of_piece (piece t)))
class-known class law t m = plain-known t (tokens.word t) (chosen (class (tokens.word t)) (word_known (tokens.word t)) true m (law (tokens.word t))) refl

by-word : (t : LineToken) (w : Word) → IsTrue (good_word w) → tokens.word t ≡ w → IsTrue (is_known (part_of_piece (piece t)))
by-word t word.Name h m = subst (λ (x : Piece). IsTrue (is_known (part_of_piece x))) (sym (name_piece t m)) refl
by-word t w h m = plain-known t w h m

by-sign : (s : Sign) (t : LineToken) → IsTrue (good_sign s) → IsTrue (not (is_label_sign s)) → Matches s (tokens.word t) (string_length t)
    → IsTrue (is_known (part_of_piece (piece t)))
by-sign (sign.Word w) t g h m = by-word t w g m
by-sign sign.Size t g h m = class-known is_size sizes-known t m
by-sign sign.Text t g h m = absurd cc
by-sign sign.LongText t g h m = subst (λ (x : Piece). IsTrue (is_known (part_of_piece x))) (sym (text_piece t m.0)) (longer-so (string_length t) m.1)
by-sign sign.Condition t g h m = class-known is_condition conditions-known t m
by-sign sign.TwoOperands t g h m = class-known takes_two two-known t m
by-sign sign.Memory t g h m = class-known is_on_memory memory-known t m
by-sign sign.OneOperand t g h m = class-known takes_one one-known t m
by-sign sign.Flag t g h m = class-known is_flag flags-known t m
by-sign sign.Write t g h m = class-known is_write writes-known t m
by-sign sign.Label t g h m = absurd cc

abbrev tells : LineState → Arrow → Bool
tells q a = good_sign a.sign && (names q a && (is_end a.to || dat a.to))

data-tells : (q : LineState) → IsTrue (if dat q then all_good (tells q) (choices q).arrows && all_behind (tells q) (choices q).phrase else true)
unfolding part_of_word mnemonics nowhere
data-tells state.End = refl
data-tells q = refl

told : (q : LineState) → IsTrue (dat q) → IsTrue (all_good (tells q) (choices q).arrows) × IsTrue (all_behind (tells q) (choices q).phrase)
told q d = both (all_good (tells q) (choices q).arrows) (all_behind (tells q) (choices q).phrase) (chosen (dat q) _ true d (data-tells q))

-- what a token that takes such an arrow is, and where it leads
piece-known : (q : LineState) (t : LineToken) (a : Arrow) → IsTrue (tells q a) → Matches a.sign (tokens.word t) (string_length t)
    → IsTrue (is_known (part_of_piece (piece_in q t)))
piece-known q t a h m = elim (labelled q) [
  | inl e ↦
      let plain : IsTrue (not (is_label_sign a.sign)) = subst (λ (b : Bool). IsTrue (same b (is_label_sign a.sign))) e named in
      subst (λ (x : Piece). IsTrue (is_known (part_of_piece x))) (sym (plain_piece q t e)) (by-sign a.sign t it.0 plain m)
  | inr label ↦ subst (λ (x : Piece). IsTrue (is_known (part_of_piece x))) (sym (label.1 t)) refl
]
  where
    it : IsTrue (good_sign a.sign) × IsTrue (names q a && (is_end a.to || dat a.to))
    it = both (good_sign a.sign) (names q a && (is_end a.to || dat a.to)) h

    named : IsTrue (names q a)
    named = (both (names q a) (is_end a.to || dat a.to) it.1).0

leads-on : (q r : LineState) (a : Arrow) → IsTrue (tells q a) → a.to ≡ r → IsTrue (is_end r || dat r)
leads-on q r a h goes =
    let it = both (good_sign a.sign) (names q a && (is_end a.to || dat a.to)) h in
    subst (λ (r : LineState). IsTrue (is_end r || dat r)) goes (both (names q a) (is_end a.to || dat a.to) it.1).1

all-known : {q : LineState} {row : List Piece} {ts : List LineToken} → lines.Row q row ts → IsTrue (is_end q || dat q)
    → IsTrue (list_all is_known (map part_of_piece row))
all-known lines.over d = refl
all-known (lines.token {q = q} {r = r} {row = row} {t = t} f rest) d =
    let in_dat : IsTrue (dat q) = subst (λ (b : Bool). IsTrue (b || dat q)) (open-arrows q f) d in
    let it = taken (tells q) f (told q in_dat).0 in
    join (is_known (part_of_piece (piece_in q t))) (list_all is_known (map part_of_piece row)) (piece-known q t it.arrow it.good it.is)
    (all-known rest (leads-on q r it.arrow it.good it.goes))
all-known (lines.phrase {q = q} {r = r} {h = h} {row = row} {first = first} {t = t} others some is f rest) d =
    let in_dat : IsTrue (dat q) = subst (λ (b : Bool). IsTrue (b || dat q)) (open-phrase q h some) d in
    let all : IsTrue (all_good_behind (tells q) h) = subst (λ (o : Option Phrase). IsTrue (all_behind (tells q) o)) some (told q in_dat).1 in
    let it = taken_behind (tells q) h (first ∷ others) f all in
    let here = subst (λ (x : Piece). IsTrue (is_known (part_of_piece x))) (plain_piece q t (no-label-phrase q h some)) (piece-known q t it.arrow it.good it.is) in
    join (is_known (part_of_piece (piece t))) (list_all is_known (map part_of_piece row)) here (all-known rest (leads-on q r it.arrow it.good it.goes))

pub head-known : {row : List Piece} {ts : List LineToken} → lines.Row state.DatHead row ts → list_all is_known (map part_of_piece row) ≡ true
head-known x = all-known x refl

pub line-known : {row : List Piece} {ts : List LineToken} → lines.Row state.DatLine row ts → list_all is_known (map part_of_piece row) ≡ true
line-known x = all-known x refl
