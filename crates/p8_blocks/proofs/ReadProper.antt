-- The pieces of a line that was read are proper, where its tokens are.
use Rattle.std.proofs.Common.{arith, ◌≡◌, ◌≢◌, ℕ, ◌<◌, ◌≤◌, List, [], ◌∷◌, ◌++◌, length, Option, Some, None, Bool, true, false, All, refl, sym, ◌∙◌, ap, subst}
use Rattle.std.specs.Prelude.{IsTrue, if◌then◌else◌, ◌&&◌, not, unwrap_or}
use Rattle.std.proofs.lemmas.List.Elements.{All-nil, All-cons, All-head, All-tail}
use Rattle.p8_tree.specs.declared.places.Place.{Place}
use Rattle.p8_tree.specs.Expressions.{Tree, node}
use Rattle.p8_tree.specs.Heights.{height}
use Rattle.p8_tree.specs.Names.{IsName, IsWord, IsString}
use Rattle.p8_tree.specs.Proper.{IsProperTree, IsDone}
use Rattle.p8_lexer.specs.declared.word.Word.{Word}
use Rattle.p8_lexer.specs.declared.word.Word.TheVariants as word
use Rattle.p8_grammar.specs.Lexemes as lexemes
use Rattle.p8_grammar.specs.Lexemes.{Setting, in_method, in_declaration, in_dat, in_data_item, in_action, Lexeme, Token, is_dat, is_value}
use Rattle.p8_grammar.specs.Proper as grammar
use Rattle.p8_grammar.specs.Proper.{IsProperLexeme, lexeme_in, IsProperAction}
use Rattle.p8_grammar.specs.Grammar.{IsExpression}
use Rattle.p8_expr.specs.Words.{between_quotes, reserved_as, lexeme_of_word}
use Rattle.p8_lexer.specs.Pieces as pieces
use Rattle.p8_lexer.specs.Pieces.{Piece}
use Rattle.p8_lexer.specs.Proper.{AreProper}
use Rattle.p8_lines.specs.declared.sign.Sign.{Sign}
use Rattle.p8_lines.specs.declared.sign.Sign.TheVariants as sign
use Rattle.p8_lines.specs.declared.arrow.Arrow.{Arrow}
use Rattle.p8_lines.specs.declared.state.LineState.{LineState}
use Rattle.p8_lines.specs.declared.state.LineState.TheVariants as state
use Rattle.p8_lines.specs.Signs.{Matches, is_size, is_condition, takes_two, is_on_memory, takes_one, is_flag, is_write, is_label}
use Rattle.p8_lines.specs.Diagram.{Phrase, choices, setting_at}
use Rattle.p8_lines.specs.Tokens as tokens
use Rattle.p8_lines.specs.Tokens.{LineToken, lexeme, term, terms, string_length, piece_from, piece}
use Rattle.p8_lines.specs.Lines.{Follows, behind, piece_in, Leads, nowhere, by_token, by_phrase}
use Rattle.p8_lines.proofs.Arrows.{all_good, all_good_behind, taken, taken_behind}
use Rattle.p8_lines.proofs.Lexemes.{is_plain, by_kind, name_lexeme, string_lexeme, named_label}
use Rattle.p8_lines.proofs.Ways.{terms_append}
use Rattle.p8_statements.specs.Roles.{role_of, is_line_end}
use Rattle.p8_statements.specs.Statements.{is_item}
use Rattle.p8_statements.specs.Proper.{IsProperBy, IsProperRow}
use Rattle.p8_blocks.specs.Proper.{is_in_dat, RowsAreProper, MethodRowsAreProper}
use Rattle.p8_blocks.specs.Values.{begins_line}
use Rattle.p8_grammar.proofs.Proper.{name_word}
use Rattle.p8_blocks.proofs.Pieces.{word_piece, is_labelled, plain_piece}
use Rattle.p8_blocks.proofs.Closed.{is_closed, own_next, own_behind}

-- which words the signs stand for

plain_class : (class : Word → Bool) → ((w : Word) → IsTrue (if class w then is_plain w else true)) → (w : Word) → IsTrue (class w) → IsTrue (is_plain w)
plain_class class all w h = subst (λ b. IsTrue (if b then is_plain w else true)) h (all w)

sizes : (w : Word) → IsTrue (if is_size w then is_plain w else true)
sizes word.ByteSize = refl
sizes w = refl

conditions : (w : Word) → IsTrue (if is_condition w then is_plain w else true)
conditions word.IfE = refl
conditions w = refl

with_two : (w : Word) → IsTrue (if takes_two w then is_plain w else true)
with_two word.Add = refl
with_two w = refl

with_memory : (w : Word) → IsTrue (if is_on_memory w then is_plain w else true)
with_memory word.Rdbyte = refl
with_memory w = refl

with_one : (w : Word) → IsTrue (if takes_one w then is_plain w else true)
with_one word.Clkset = refl
with_one w = refl

flags : (w : Word) → IsTrue (if is_flag w then is_plain w else true)
flags word.Wz = refl
flags w = refl

writes : (w : Word) → IsTrue (if is_write w then is_plain w else true)
writes word.Wr = refl
writes w = refl

-- a string stands where one may that isn't empty

abbrev is_string : Lexeme → Bool
is_string (lexemes.string s) = true
is_string x = false

no_string : (w : Word) → is_string (lexeme_of_word w) ≡ false
unfolding lexeme_of_word
no_string word.Add = refl
no_string w = refl

abbrev IsSome : LineToken → Type 0
IsSome t = (s : List ℕ) → lexeme t ≡ lexemes.string s → 0 < length s

no_reserved_string : (w : Word) (n : List ℕ) → is_string (reserved_as n (lexeme_of_word w)) ≡ false
unfolding lexeme_of_word
no_reserved_string word.Add n = refl
no_reserved_string w n = refl

plain_some : (t : LineToken) → IsTrue (is_plain (tokens.word t)) → IsSome t
plain_some t h s e =
    let isnt : is_string (lexeme t) ≡ false = by_kind (λ x. is_string x ≡ false) t (tokens.word t) (lexeme_of_word (tokens.word t)) h refl (no_string (tokens.word t)) (no_reserved_string (tokens.word t)) refl in
    let wrong : true ≡ false = sym (ap is_string e) ∙ isnt in
    absurd cc

label_some : (t : LineToken) → IsTrue (is_label (tokens.word t)) → IsSome t
label_some t h s e = let z = sym (ap lexemes.name_in e) ∙ (named_label t h).1 in absurd cc

name_some : (t : LineToken) → tokens.word t ≡ word.Name → IsSome t
name_some t h s e = let wrong : is_string (lexeme t) ≡ false = ap is_string (name_lexeme t h) in let is : is_string (lexeme t) ≡ true = ap is_string e in let both : true ≡ false = sym is ∙ wrong in absurd cc

string_some : (t : LineToken) → tokens.word t ≡ word.Str → 0 < string_length t → IsSome t
string_some t h l s e =
    let same : between_quotes t.text ≡ s = (let z = sym (string_lexeme t h) ∙ e in cc) in
    subst (λ s. 0 < length s) same l

abbrev good_word : Word → Bool
good_word word.Name = true
good_word w = is_plain w

abbrev good_sign : Sign → Bool
good_sign (sign.Word w) = good_word w
good_sign s = true

word_some : (t : LineToken) (w : Word) → tokens.word t ≡ w → IsTrue (good_word w) → IsSome t
word_some t word.Name m h = name_some t m
word_some t w m h = plain_some t (subst (λ w. IsTrue (is_plain w)) (sym m) h)

sign_some : (t : LineToken) (s : Sign) → Matches s (tokens.word t) (string_length t) → IsTrue (good_sign s) → IsSome t
sign_some t (sign.Word w) m h = word_some t w m h
sign_some t sign.Size m h = plain_some t (plain_class is_size sizes (tokens.word t) m)
sign_some t sign.Text m h = string_some t m.0 m.1
sign_some t sign.LongText m h = let l = m.1 in string_some t m.0 (omega (arith, l))
sign_some t sign.Condition m h = plain_some t (plain_class is_condition conditions (tokens.word t) m)
sign_some t sign.TwoOperands m h = plain_some t (plain_class takes_two with_two (tokens.word t) m)
sign_some t sign.Memory m h = plain_some t (plain_class is_on_memory with_memory (tokens.word t) m)
sign_some t sign.OneOperand m h = plain_some t (plain_class takes_one with_one (tokens.word t) m)
sign_some t sign.Flag m h = plain_some t (plain_class is_flag flags (tokens.word t) m)
sign_some t sign.Write m h = plain_some t (plain_class is_write writes (tokens.word t) m)
sign_some t sign.Label m h = label_some t m

-- the piece of a token

abbrev IsTokenPiece : Piece → Type 0
IsTokenPiece (pieces.word w p) = Unit {0}
IsTokenPiece (pieces.name n p) = IsName n
IsTokenPiece (pieces.label n p) = IsWord n
IsTokenPiece (pieces.text t p) = IsString t
IsTokenPiece (pieces.tree e p) = ⊥

joined : (dat : Bool) (x : Piece) (row : List Piece) → IsTokenPiece x → AreProper dat 64 row → AreProper dat 64 (x ∷ row)
joined dat (pieces.word w p) row is are = are
joined dat (pieces.name n p) row is are = (is, are)
joined dat (pieces.label n p) row is are = (is, are)
joined dat (pieces.text t p) row is are = (is, are)
joined dat (pieces.tree e p) row is are = absurd is

from_lexeme : (x : Lexeme) (w : Word) (p : Place) → IsProperLexeme x → ((s : List ℕ) → x ≡ lexemes.string s → 0 < length s) → IsTokenPiece (piece_from x w p)
from_lexeme (lexemes.name n) w p h some = h
from_lexeme (lexemes.string s) w p h some = (some s refl, h)
from_lexeme x w p h some = tt

arrows_good : (q : LineState) → IsTrue (all_good (λ a. good_sign a.sign) (choices q).arrows)
arrows_good state.End = refl
arrows_good q = refl

abbrev phrase_good : Option Phrase → Bool
phrase_good None = true
phrase_good (Some h) = all_good_behind (λ a. good_sign a.sign) h

phrases_good : (q : LineState) → IsTrue (phrase_good (choices q).phrase)
phrases_good state.End = refl
phrases_good q = refl

-- a local label's name
abbrev label_sign : Sign → Bool
label_sign sign.Label = true
label_sign s = false

label_arrows : (q : LineState) → is_labelled q ≡ true → IsTrue (all_good (λ a. label_sign a.sign) (choices q).arrows)
label_arrows state.DatLabel h = refl
label_arrows state.CallLocal h = refl
label_arrows q h = absurd cc

on_label : (s : Sign) (v : Word) (n : ℕ) → Matches s v n → IsTrue (label_sign s) → IsTrue (is_label v)
on_label sign.Label v n m h = m
on_label s v n m h = absurd cc

label_proper : (q : LineState) (t : LineToken) → is_labelled q ≡ true → IsTrue (is_label (tokens.word t)) → IsProperLexeme (lexeme t) → IsTokenPiece (piece_in q t)
label_proper state.DatLabel t h l is = let x = named_label t l in subst (λ o. IsWord (unwrap_or o [])) (sym x.1) (name_word (lexeme t) x.0 x.1 is)
label_proper state.CallLocal t h l is = let x = named_label t l in subst (λ o. IsWord (unwrap_or o [])) (sym x.1) (name_word (lexeme t) x.0 x.1 is)
label_proper q t h l is = absurd cc

token_proper : (q r : LineState) (t : LineToken) → Follows (choices q).arrows t r → IsProperLexeme (lexeme t) → IsTokenPiece (piece_in q t)
token_proper q r t f h = go (is_labelled q) refl
  where
    go : (b : Bool) → is_labelled q ≡ b → IsTokenPiece (piece_in q t)
    go true e =
        let x = taken (λ a. label_sign a.sign) f (label_arrows q e) in
        label_proper q t e (on_label x.arrow.sign (tokens.word t) (string_length t) x.is x.good) h
    go false e =
        let x = taken (λ a. good_sign a.sign) f (arrows_good q) in
        subst IsTokenPiece (sym (plain_piece q t e)) (from_lexeme (lexeme t) (tokens.word t) t.place h (sign_some t x.arrow.sign x.is x.good))

token_behind_proper : (q r : LineState) (p : Phrase) (us : List LineToken) (t : LineToken) → (choices q).phrase ≡ Some p → Follows (behind p us) t r → IsProperLexeme (lexeme t) → IsTokenPiece (piece t)
token_behind_proper q r p us t e f h =
    let x = taken_behind (λ a. good_sign a.sign) p us f (subst (λ o. IsTrue (phrase_good o)) e (phrases_good q)) in
    from_lexeme (lexeme t) (tokens.word t) t.place h (sign_some t x.arrow.sign x.is x.good)

-- tokens one after the other

abbrev IsToken : lexemes.Token → Type 0
IsToken t = IsProperLexeme (lexeme_in t)

all_left : {X : Type 0} (P : X → Type 0) (xs ys : List X) → All P (xs ++ ys) → All P xs
all_left P [] ys h = All-nil P
all_left P (x ∷ xs) ys h = All-cons P x xs (All-head P x (xs ++ ys) h) (all_left P xs ys (All-tail P x (xs ++ ys) h))

all_right : {X : Type 0} (P : X → Type 0) (xs ys : List X) → All P (xs ++ ys) → All P ys
all_right P [] ys h = h
all_right P (x ∷ xs) ys h = all_right P xs ys (All-tail P x (xs ++ ys) h)

left : (us vs : List LineToken) → grammar.AreProper (terms (us ++ vs)) → grammar.AreProper (terms us)
left us vs h = all_left IsToken (terms us) (terms vs) (subst (All IsToken) (terms_append us vs) h)

right : (us vs : List LineToken) → grammar.AreProper (terms (us ++ vs)) → grammar.AreProper (terms vs)
right us vs h = all_right IsToken (terms us) (terms vs) (subst (All IsToken) (terms_append us vs) h)

-- Lines from some states, to which no others lead, whose expressions stand in DAT or elsewhere: no action stands there.

abbrev is_same : Bool → Bool → Bool
is_same true b = b
is_same false b = not b

same_if : (a b : Bool) → IsTrue (is_same a b) → a ≡ b
same_if true true h = refl
same_if true false h = absurd cc
same_if false true h = absurd cc
same_if false false h = refl

abbrev fits : Bool → Option Phrase → Bool
fits dat None = true
fits dat (Some h) = is_value h.setting && is_same (is_dat h.setting) dat

abbrev fits_at : (LineState → Bool) → Bool → LineState → Bool
fits_at own dat q = if own q then fits dat (choices q).phrase else true

both : (a b : Bool) → IsTrue (a && b) → IsTrue a × IsTrue b
both true b h = (refl, h)
both false b h = absurd cc

-- what proper tokens spell is a proper tree, or a proper action: laws of the grammar, which come from its call
abbrev pub SpelledAreProper : Type 0
SpelledAreProper = (s : Setting) (ts : List Token) (e : Tree) → IsTrue (is_value s) → IsExpression s e ts → grammar.AreProper ts → IsProperTree (is_dat s) e

abbrev pub ActionsAreProper : Type 0
ActionsAreProper = (ts : List Token) (e : Tree) → IsExpression in_action e ts → grammar.AreProper ts → IsProperAction e

module _ (spelled : SpelledAreProper) (own : LineState → Bool) (dat : Bool) (closed : (q : LineState) → IsTrue (is_closed own q)) (fitting : (q : LineState) → IsTrue (fits_at own dat q)) where
  tree_proper : (q : LineState) (p : Phrase) (us : List LineToken) (e : Tree) → (choices q).phrase ≡ Some p → IsTrue (own q) → IsExpression p.setting e (terms us) → grammar.AreProper (terms us) → IsProperTree dat e
  tree_proper q p us e some o is a =
      let fit : IsTrue (fits dat (Some p)) = subst (λ o. IsTrue (fits dat o)) some (subst (λ b. IsTrue (if b then fits dat (choices q).phrase else true)) o (fitting q)) in
      let x = both (is_value p.setting) (is_same (is_dat p.setting) dat) fit in
      subst (λ d. IsProperTree d e) (same_if (is_dat p.setting) dat x.1) (spelled p.setting (terms us) e x.0 is a)

  pub rows : {q s : LineState} {us : List LineToken} {row : List Piece} → Leads q us row s → grammar.AreProper (terms us) → IsTrue (own q) → AreProper dat 64 row
  rows nowhere a o = tt
  rows (by_token {q = q} {r = r} {row = row} {t = t} {ts = ts} f y) a o =
      joined dat (piece_in q t) row (token_proper q r t f (All-head IsToken (term t) (terms ts) a)) (rows y (All-tail IsToken (term t) (terms ts) a) (own_next own closed q r t f o))
  rows (by_phrase {q = q} {r = r} {h = p} {e = e} {row = row} {first = first} {t = t} others {ts = ts} some is low f y) a o =
      let rest = right (first ∷ others) (t ∷ ts) a in (
        (tree_proper q p (first ∷ others) e some o is (left (first ∷ others) (t ∷ ts) a), low),
        joined dat (piece t) row (token_behind_proper q r p (first ∷ others) t some f (All-head IsToken (term t) (terms ts) rest)) (rows y (All-tail IsToken (term t) (terms ts) rest) (own_behind own closed q r p (first ∷ others) t some f o)),
      )

-- DAT, and all else but the beginning of a statement

abbrev within_dat : LineState → Bool
within_dat state.End = true
within_dat state.LineEnd = true
within_dat q = is_dat (setting_at q)

abbrev elsewhere : LineState → Bool
elsewhere state.End = true
elsewhere state.LineEnd = true
elsewhere state.Statement = false
elsewhere q = not (is_dat (setting_at q))

dat_closed : (q : LineState) → IsTrue (is_closed within_dat q)
dat_closed state.End = refl
dat_closed q = refl

dat_fits : (q : LineState) → IsTrue (fits_at within_dat true q)
dat_fits state.End = refl
dat_fits q = refl

others_closed : (q : LineState) → IsTrue (is_closed elsewhere q)
others_closed state.End = refl
others_closed q = refl

others_fit : (q : LineState) → IsTrue (fits_at elsewhere false q)
others_fit state.End = refl
others_fit q = refl

pub rows_proper : SpelledAreProper → (q : LineState) (dat : Bool) → is_in_dat q ≡ dat → q ≢ state.Statement → RowsAreProper q dat
rows_proper spelled q true e n us row l a = rows spelled within_dat true dat_closed dat_fits l a (own_dat q e)
  where
    own_dat : (q : LineState) → is_dat (setting_at q) ≡ true → IsTrue (within_dat q)
    own_dat state.End h = refl
    own_dat state.LineEnd h = refl
    own_dat q h = h
rows_proper spelled q false e n us row l a = rows spelled elsewhere false others_closed others_fit l a (own_other q e n)
  where
    own_other : (q : LineState) → is_dat (setting_at q) ≡ false → q ≢ state.Statement → IsTrue (elsewhere q)
    own_other state.End h n = refl
    own_other state.LineEnd h n = refl
    own_other state.Statement h n = absurd (n refl)
    own_other q h n = ap not h

-- lines of a method

-- from their beginnings no line leads to a beginning, and after an action alone the line ends at once

abbrev ends_so : Bool → Sign → Bool
ends_so b (sign.Word w) = is_plain w && is_same (is_line_end (role_of w)) b
ends_so b s = false

abbrev opened : Option Phrase → Bool
opened None = true
opened (Some h) = not (is_dat h.setting) && all_good_behind (λ a. elsewhere a.to && ends_so (not (is_value h.setting)) a.sign) h

arrows_open : (q : LineState) → IsTrue (if begins_line q then all_good (λ a. elsewhere a.to) (choices q).arrows else true)
arrows_open state.Statement = refl
arrows_open q = refl

phrases_open : (q : LineState) → IsTrue (if begins_line q then opened (choices q).phrase else true)
unfolding role_of
phrases_open state.Statement = refl
phrases_open q = refl

begun : (b : Bool) {c : Bool} → IsTrue (if b then c else true) → IsTrue b → IsTrue c
begun true h is = h
begun false h is = absurd cc

item_by : (t : LineToken) (b : Bool) (s : Sign) (e : Tree) (p : Place) (row : List Piece) → Matches s (tokens.word t) (string_length t) → IsTrue (ends_so (not b) s) → is_item (pieces.tree e p ∷ piece t ∷ row) ≡ b
item_by t b (sign.Word w) e p row m h =
    let x = both (is_plain w) (is_same (is_line_end (role_of w)) (not b)) h in
    subst (λ x. is_item (pieces.tree e p ∷ x ∷ row) ≡ b) (sym (word_piece t w x.0 m)) (ap not (same_if (is_line_end (role_of w)) (not b) x.1) ∙ twice b)
  where
    twice : (b : Bool) → not (not b) ≡ b
    twice true = refl
    twice false = refl
item_by t b s e p row m h = absurd cc

token_row : (x : Piece) (row : List Piece) → IsTokenPiece x → AreProper false 64 row → IsProperRow (x ∷ row)
token_row (pieces.word w p) row is are = are
token_row (pieces.name n p) row is are = (is, are)
token_row (pieces.label n p) row is are = (is, are)
token_row (pieces.text t p) row is are = (is, are)
token_row (pieces.tree e p) row is are = absurd is

module _ (spelled : SpelledAreProper) (actions : ActionsAreProper) where
  action_done : (e : Tree) (ts : List Token) → IsExpression in_action e ts → grammar.AreProper ts → height e ≤ 64 → IsDone e
  action_done (node p form) ts is a low = (actions ts (node p form) is a, low)

  by_setting : (s : Setting) (e : Tree) (p : Place) (ts : List Token) (row : List Piece) → IsTrue (not (is_dat s)) → IsExpression s e ts → grammar.AreProper ts → height e ≤ 64 → AreProper false 64 row → IsProperBy (is_value s) e (pieces.tree e p ∷ row)
  by_setting in_method e p ts row n is a low are = ((spelled in_method ts e refl is a, low), are)
  by_setting in_declaration e p ts row n is a low are = ((spelled in_declaration ts e refl is a, low), are)
  by_setting in_dat e p ts row n is a low are = absurd cc
  by_setting in_data_item e p ts row n is a low are = absurd cc
  by_setting in_action e p ts row n is a low are = action_done e ts is a low

  from_elsewhere : {q s : LineState} {us : List LineToken} {row : List Piece} → Leads q us row s → grammar.AreProper (terms us) → IsTrue (elsewhere q) → AreProper false 64 row
  from_elsewhere l a o = rows spelled elsewhere false others_closed others_fit l a o

  method_row : {q s : LineState} {us : List LineToken} {row : List Piece} → Leads q us row s → IsTrue (begins_line q) → grammar.AreProper (terms us) → IsProperRow row
  method_row nowhere b a = tt
  method_row (by_token {q = q} {r = r} {row = row} {t = t} {ts = ts} f y) b a =
      let x = taken (λ a. elsewhere a.to) f (begun (begins_line q) (arrows_open q) b) in
      token_row (piece_in q t) row (token_proper q r t f (All-head IsToken (term t) (terms ts) a)) (from_elsewhere y (All-tail IsToken (term t) (terms ts) a) (subst (λ r. IsTrue (elsewhere r)) x.goes x.good))
  method_row (by_phrase {q = q} {r = r} {h = h} {e = e} {row = row} {first = first} {t = t} others {ts = ts} some is low f y) b a =
      let own : Arrow → Bool = λ a. elsewhere a.to && ends_so (not (is_value h.setting)) a.sign in
      let good = both (not (is_dat h.setting)) (all_good_behind own h) (subst (λ o. IsTrue (opened o)) some (begun (begins_line q) (phrases_open q) b)) in
      let x = taken_behind own h (first ∷ others) f good.1 in
      let so = both (elsewhere x.arrow.to) (ends_so (not (is_value h.setting)) x.arrow.sign) x.good in
      let rest = right (first ∷ others) (t ∷ ts) a in
      let are = joined false (piece t) row (token_behind_proper q r h (first ∷ others) t some f (All-head IsToken (term t) (terms ts) rest)) (from_elsewhere y (All-tail IsToken (term t) (terms ts) rest) (subst (λ r. IsTrue (elsewhere r)) x.goes so.0)) in
      subst (λ b. IsProperBy b e (pieces.tree e first.place ∷ piece t ∷ row)) (sym (item_by t (is_value h.setting) x.arrow.sign e first.place row x.is so.1)) (by_setting h.setting e first.place (terms (first ∷ others)) (piece t ∷ row) good.0 is (left (first ∷ others) (t ∷ ts) a) low are)

  pub method_rows_proper : (q : LineState) → IsTrue (begins_line q) → MethodRowsAreProper q
  method_rows_proper q b us row l a = method_row l b a
