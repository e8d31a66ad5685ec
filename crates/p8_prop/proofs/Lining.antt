-- What the diagram reads as a line of declarations or of a method is a line of the sentence: its expressions are spelled as they stand, and it ends once.
use Rattle.std.proofs.Common.{◌≡◌, ◌⊎◌, inl, inr, ◌∙◌, sym, ap, subst, refl, ℕ, Bool, true, false, List, [], ◌∷◌, Option, Some, None}
use Rattle.std.specs.Prelude.{IsTrue, if◌then◌else◌, ◌&&◌, ◌||◌, not, unwrap_or}
use Rattle.p8_lexer.specs.declared.word.Word.{Word}
use Rattle.p8_lexer.specs.declared.word.Word.TheVariants as word
use Rattle.p8_lexer.specs.Pieces as pieces
use Rattle.p8_lexer.specs.Pieces.{Piece}
use Rattle.p8_grammar.specs.Lexemes.{Setting, in_method, in_declaration, name_in}
use Rattle.p8_grammar.specs.Grammar.{IsExpression}
use Rattle.p8_lines.specs.declared.sign.Sign.{Sign}
use Rattle.p8_lines.specs.declared.sign.Sign.TheVariants as sign
use Rattle.p8_lines.specs.declared.arrow.Arrow.{Arrow}
use Rattle.p8_lines.specs.declared.state.LineState.{LineState}
use Rattle.p8_lines.specs.declared.state.LineState.TheVariants as state
use Rattle.p8_lines.specs.Signs.{Matches, is_size, is_condition, takes_two, is_on_memory, takes_one, is_flag, is_write, is_label}
use Rattle.p8_lines.specs.Diagram.{Phrase, choices}
use Rattle.p8_lines.specs.Tokens as tokens
use Rattle.p8_lines.specs.Tokens.{LineToken, string_length, lexeme, terms, piece, label_piece}
use Rattle.p8_lines.specs.Lines as lines
use Rattle.p8_lines.specs.Lines.{Follows, here, further, behind, piece_in}
use Rattle.p8_lines.proofs.Arrows.{Takes, all_good, all_good_behind, taken, taken_behind}
use Rattle.p8_lines.proofs.Lexemes.{named_label}
use Rattle.p8_blocks.proofs.Pieces.{is_labelled, plain_piece}
use Rattle.p8_blocks.proofs.Closed.{is_closed, own_next, own_behind}
use Rattle.p8_prop.proofs.Reading.{Spelling, Row, last, a_token, a_label, an_expression, declared, headed, in_text}

-- ---- a line ends with the end of a line, or with a colon, and nowhere else

abbrev pub is_end : LineState → Bool
is_end state.End = true
is_end q = false

abbrev ends : Sign → Bool
ends (sign.Word word.LineEnd) = true
ends (sign.Word word.Colon) = true
ends s = false

abbrev is_line_end : Sign → Bool
is_line_end (sign.Word word.LineEnd) = true
is_line_end s = false

abbrev fits : Arrow → Bool
fits a = if is_end a.to then ends a.sign else not (is_line_end a.sign)

-- what is true of all arrows at hand, after a token or after an expression
abbrev pub all_behind : (Arrow → Bool) → Option Phrase → Bool
all_behind p None = true
all_behind p (Some h) = all_good_behind p h

ends-so : (s : Sign) (v : Word) (n : ℕ) → IsTrue (ends s) → Matches s v n → (v ≡ word.LineEnd) ⊎ (v ≡ word.Colon)
ends-so (sign.Word word.LineEnd) v n h m = inl m
ends-so (sign.Word word.Colon) v n h m = inr m
ends-so s v n h m = absurd cc

no-line-end : (s : Sign) (v : Word) (n : ℕ) → IsTrue (not (is_line_end s)) → Matches s v n → v ≡ word.LineEnd → ⊥
no-line-end (sign.Word w) v n h m e =
    let never : IsTrue (not (is_line_end (sign.Word word.LineEnd))) = subst (λ (w : Word). IsTrue (not (is_line_end (sign.Word w)))) (sym m ∙ e) h in cc
no-line-end sign.Size v n h m e = let never : IsTrue (is_size word.LineEnd) = subst (λ (v : Word). IsTrue (is_size v)) e m in cc
no-line-end sign.Text v n h m e = let never : word.Str ≡ word.LineEnd = sym m.0 ∙ e in cc
no-line-end sign.LongText v n h m e = let never : word.Str ≡ word.LineEnd = sym m.0 ∙ e in cc
no-line-end sign.Condition v n h m e = let never : IsTrue (is_condition word.LineEnd) = subst (λ (v : Word). IsTrue (is_condition v)) e m in cc
no-line-end sign.TwoOperands v n h m e = let never : IsTrue (takes_two word.LineEnd) = subst (λ (v : Word). IsTrue (takes_two v)) e m in cc
no-line-end sign.Memory v n h m e = let never : IsTrue (is_on_memory word.LineEnd) = subst (λ (v : Word). IsTrue (is_on_memory v)) e m in cc
no-line-end sign.OneOperand v n h m e = let never : IsTrue (takes_one word.LineEnd) = subst (λ (v : Word). IsTrue (takes_one v)) e m in cc
no-line-end sign.Flag v n h m e = let never : IsTrue (is_flag word.LineEnd) = subst (λ (v : Word). IsTrue (is_flag v)) e m in cc
no-line-end sign.Write v n h m e = let never : IsTrue (is_write word.LineEnd) = subst (λ (v : Word). IsTrue (is_write v)) e m in cc
no-line-end sign.Label v n h m e = let never : IsTrue (is_label word.LineEnd) = subst (λ (v : Word). IsTrue (is_label v)) e m in cc

arrows-fit : (q : LineState) → IsTrue (all_good fits (choices q).arrows)
arrows-fit state.End = refl
arrows-fit q = refl

phrases-fit : (q : LineState) → IsTrue (all_behind fits (choices q).phrase)
phrases-fit state.End = refl
phrases-fit q = refl

-- which of its choices a token at a state takes
by-arrow : (q : LineState) {r : LineState} {t : LineToken} → Follows (choices q).arrows t r → Takes fits t r
by-arrow q f = taken fits f (arrows-fit q)

by-phrase : (q : LineState) {r : LineState} {t : LineToken} (h : Phrase) (us : List LineToken) → (choices q).phrase ≡ Some h → Follows (behind h us) t r → Takes fits t r
by-phrase q h us some f = taken_behind fits h us f (subst (λ (o : Option Phrase). IsTrue (all_behind fits o)) some (phrases-fit q))

pub not-so : (b : Bool) → IsTrue (not b) → b ≡ false
not-so true h = absurd cc
not-so false h = refl

pub join : (a b : Bool) → IsTrue a → IsTrue b → IsTrue (a && b)
join true b h k = k
join false b h k = absurd cc

pub chosen : (b : Bool) (x y : Bool) → b ≡ true → IsTrue (if b then x else y) → IsTrue x
chosen true x y e h = h
chosen false x y e h = absurd cc

unchosen : (b : Bool) (x y : Bool) → b ≡ false → IsTrue (if b then x else y) → IsTrue y
unchosen true x y e h = absurd cc
unchosen false x y e h = h

at-end : {t : LineToken} {r : LineState} → Takes fits t r → is_end r ≡ true → (tokens.word t ≡ word.LineEnd) ⊎ (tokens.word t ≡ word.Colon)
at-end {t = t} takes e =
    ends-so takes.arrow.sign (tokens.word t) (string_length t)
    (chosen (is_end takes.arrow.to) (ends takes.arrow.sign) (not (is_line_end takes.arrow.sign)) (ap is_end takes.goes ∙ e) takes.good) takes.is

inside : {t : LineToken} {r : LineState} → Takes fits t r → is_end r ≡ false → tokens.word t ≡ word.LineEnd → ⊥
inside {t = t} takes e =
    no-line-end takes.arrow.sign (tokens.word t) (string_length t)
    (unchosen (is_end takes.arrow.to) (ends takes.arrow.sign) (not (is_line_end takes.arrow.sign)) (ap is_end takes.goes ∙ e) takes.good) takes.is

nothing-follows : {t : LineToken} {r : LineState} → Follows [] t r → ⊥
nothing-follows f = elim f [ ]

pub open-arrows : (q : LineState) {t : LineToken} {r : LineState} → Follows (choices q).arrows t r → is_end q ≡ false
open-arrows state.End f = absurd (nothing-follows f)
open-arrows q f = refl

pub open-phrase : (q : LineState) (h : Phrase) → (choices q).phrase ≡ Some h → is_end q ≡ false
open-phrase state.End h some = absurd cc
open-phrase q h some = refl

-- a token behind the colon of a local label, or any other
pub labelled : (q : LineState) → (is_labelled q ≡ false) ⊎ ((is_labelled q ≡ true) × ((t : LineToken) → piece_in q t ≡ label_piece t))
labelled state.DatLabel = inr (refl, λ t. refl)
labelled state.CallLocal = inr (refl, λ t. refl)
labelled q = inl refl

-- such a token is named
named-there : (q : LineState) {t : LineToken} {r : LineState} → is_labelled q ≡ true → Follows (choices q).arrows t r → (n : List ℕ) × (name_in (lexeme t) ≡ Some n)
named-there state.DatLabel {t = t} e (here m) = named_label t m
named-there state.CallLocal {t = t} e (here m) = named_label t m
named-there state.DatLabel e (further n f) = absurd (nothing-follows f)
named-there state.CallLocal e (further n f) = absurd (nothing-follows f)
named-there q e f = absurd cc

label-is : (t : LineToken) (n : List ℕ) → name_in (lexeme t) ≡ Some n → label_piece t ≡ pieces.label n t.place
label-is t n is = ap (λ (o : Option (List ℕ)). pieces.label (unwrap_or o []) t.place) is

open-label : (q : LineState) {t : LineToken} {r : LineState} → is_labelled q ≡ true → Follows (choices q).arrows t r → is_end r ≡ false
open-label state.DatLabel e f = let it = taken (λ (a : Arrow). not (is_end a.to)) f refl in not-so (is_end _) (subst (λ (r : LineState). IsTrue (not (is_end r))) it.goes it.good)
open-label state.CallLocal e f = let it = taken (λ (a : Arrow). not (is_end a.to)) f refl in not-so (is_end _) (subst (λ (r : LineState). IsTrue (not (is_end r))) it.goes it.good)
open-label q e f = absurd cc

-- the word that a token is to those behind it
abbrev pub word_at : LineState → LineToken → Word
word_at q t = if is_labelled q then word.Name else tokens.word t

pub plain-word : (q : LineState) (t : LineToken) → is_labelled q ≡ false → word_at q t ≡ tokens.word t
plain-word q t e = ap (λ (b : Bool). if b then word.Name else tokens.word t) e

pub label-word : (q : LineState) (t : LineToken) → is_labelled q ≡ true → word_at q t ≡ word.Name
label-word q t e = ap (λ (b : Bool). if b then word.Name else tokens.word t) e

module _ (spelled : Spelling) (Known : LineState → List Word → Type 0)
    (by-token : (q r : LineState) (before : List Word) (t : LineToken) → Known q before → Follows (choices q).arrows t r → Known r (word_at q t ∷ before))
    (by-value : (q r : LineState) (before : List Word) (h : Phrase) (us : List LineToken) (t : LineToken) → Known q before → (choices q).phrase ≡ Some h
    → Follows (behind h us) t r → (spelled before (tokens.word t) ≡ h.setting) × Known r (tokens.word t ∷ before)) where
  token-step : {before : List Word} {row : List Piece} {ts : List LineToken} (q : LineState) {r : LineState} (t : LineToken) → Follows (choices q).arrows t r
      → (is_labelled q ≡ false → Row spelled before (piece t ∷ row) (t ∷ ts)) → (is_labelled q ≡ true → Row spelled (word.Name ∷ before) row ts)
      → Row spelled before (piece_in q t ∷ row) (t ∷ ts)
  token-step {before = before} {row = row} {ts = ts} q t f plain label = elim (labelled q) [
    | inl e ↦ subst (λ (x : Piece). Row spelled before (x ∷ row) (t ∷ ts)) (sym (plain_piece q t e)) (plain e)
    | inr it ↦
        let n = named-there q it.0 f in
        subst (λ (x : Piece). Row spelled before (x ∷ row) (t ∷ ts)) (sym (it.1 t ∙ label-is t n.0 n.1)) (a_label t n.1 (label it.0))
  ]

  known-plain : (q r : LineState) (before : List Word) (t : LineToken) → Known q before → Follows (choices q).arrows t r → is_labelled q ≡ false
      → Known r (tokens.word t ∷ before)
  known-plain q r before t known f e = subst (λ (w : Word). Known r (w ∷ before)) (plain-word q t e) (by-token q r before t known f)

  known-label : (q r : LineState) (before : List Word) (t : LineToken) → Known q before → Follows (choices q).arrows t r → is_labelled q ≡ true
      → Known r (word.Name ∷ before)
  known-label q r before t known f e = subst (λ (w : Word). Known r (w ∷ before)) (label-word q t e) (by-token q r before t known f)

  mutual
    -- from a state on
    pub goes-on : {q : LineState} {before : List Word} {row : List Piece} {ts : List LineToken} → lines.Row q row ts → Known q before → is_end q ≡ false
        → Row spelled before row ts
    goes-on lines.over known ahead = absurd cc
    goes-on {before = before} (lines.token {q = q} {r = r} {t = t} f rest) known ahead =
        token-step q t f (λ e. after t (by-arrow q f) rest (known-plain q r before t known f e))
        (λ e. goes-on rest (known-label q r before t known f e) (open-label q e f))
    goes-on {before = before} (lines.phrase {q = q} {r = r} {h = h} {e = e} {first = first} {t = t} others some is f rest) known ahead =
        let it = by-value q r before h (first ∷ others) t known some f in
        an_expression first others t (subst (λ (s : Setting). IsExpression s e (terms (first ∷ others))) (sym it.0) is)
        (after t (by-phrase q h (first ∷ others) some f) rest it.1)

    -- after a token that isn't a label
    after : {q : LineState} {before : List Word} {row : List Piece} {ts : List LineToken} (t : LineToken) → Takes fits t q → lines.Row q row ts
        → Known q (tokens.word t ∷ before) → Row spelled before (piece t ∷ row) (t ∷ ts)
    after t takes lines.over known = last t (at-end takes refl)
    after {before = before} t takes (lines.token {q = q} {r = r} {t = u} f rest) known =
        a_token t (inside takes (open-arrows q f))
        (token-step q u f (λ e. after u (by-arrow q f) rest (known-plain q r (tokens.word t ∷ before) u known f e))
        (λ e. goes-on rest (known-label q r (tokens.word t ∷ before) u known f e) (open-label q e f)))
    after {before = before} t takes (lines.phrase {q = q} {r = r} {h = h} {e = e} {first = first} {t = u} others some is f rest) known =
        let it = by-value q r (tokens.word t ∷ before) h (first ∷ others) u known some f in
        a_token t (inside takes (open-phrase q h some))
        (an_expression first others u (subst (λ (s : Setting). IsExpression s e (terms (first ∷ others))) (sym it.0) is)
        (after u (by-phrase q h (first ∷ others) some f) rest it.1))

-- ---- lines whose expressions are all spelled alike

-- the setting of an expression, where there is one
abbrev pub setting_in : Setting → Option Phrase → Setting
setting_in k None = k
setting_in k (Some h) = h.setting

pub when-own : (b : Bool) (x k : Setting) → (if b then x else k) ≡ k → IsTrue b → x ≡ k
when-own true x k e h = e
when-own false x k e h = absurd cc

module _ (own : LineState → Bool) (closed : (q : LineState) → IsTrue (is_closed own q)) (k : Setting)
    (same : (q : LineState) → (if own q then setting_in k (choices q).phrase else k) ≡ k) where
  setting-is : (q : LineState) (h : Phrase) → IsTrue (own q) → (choices q).phrase ≡ Some h → k ≡ h.setting
  setting-is q h o some = sym (ap (setting_in k) (sym some) ∙ when-own (own q) (setting_in k (choices q).phrase) k (same q) o)

  alike : {q : LineState} {row : List Piece} {ts : List LineToken} → lines.Row q row ts → IsTrue (own q) → is_end q ≡ false → Row (λ before w. k) [] row ts
  alike x o ahead =
      goes-on (λ before w. k) (λ q before. IsTrue (own q)) (λ q r before t h f. own_next own closed q r t f h)
      (λ q r before h us t known some f. (setting-is q h known some, own_behind own closed q r h us t some f known)) x o ahead

abbrev pub outer : LineState → Bool
outer state.End = true
outer state.LineEnd = true
outer state.ConHead = true
outer state.ConItem = true
outer state.ConName = true
outer state.ConValue = true
outer state.ConStep = true
outer state.ConMore = true
outer state.VarHead = true
outer state.VarLine = true
outer state.VarName = true
outer state.VarNamed = true
outer state.VarCount = true
outer state.VarMore = true
outer state.ObjHead = true
outer state.ObjLine = true
outer state.ObjNamed = true
outer state.ObjCount = true
outer state.ObjColon = true
outer state.ObjFile = true
outer q = false

outer-closed : (q : LineState) → IsTrue (is_closed outer q)
outer-closed state.End = refl
outer-closed q = refl

outer-same : (q : LineState) → (if outer q then setting_in in_declaration (choices q).phrase else in_declaration) ≡ in_declaration
outer-same state.End = refl
outer-same q = refl

pub declared-line : {q : LineState} {row : List Piece} {ts : List LineToken} → lines.Row q row ts → IsTrue (outer q) → is_end q ≡ false → Row declared [] row ts
declared-line x o ahead = alike outer outer-closed in_declaration outer-same x o ahead

abbrev heading : LineState → Bool
heading state.End = true
heading state.MethodName = true
heading state.MethodNamed = true
heading state.Parameter = true
heading state.MoreParameters = true
heading state.Parameters = true
heading state.ResultName = true
heading state.ResultNamed = true
heading state.Local = true
heading state.LocalNamed = true
heading state.LocalCount = true
heading state.MoreLocals = true
heading q = false

heading-closed : (q : LineState) → IsTrue (is_closed heading q)
heading-closed state.End = refl
heading-closed q = refl

heading-same : (q : LineState) → (if heading q then setting_in in_method (choices q).phrase else in_method) ≡ in_method
heading-same state.End = refl
heading-same q = refl

pub head-line : {row : List Piece} {ts : List LineToken} → lines.Row state.MethodName row ts → Row headed [] row ts
head-line x = alike heading heading-closed in_method heading-same x refl refl

-- ---- lines of methods

abbrev pub starts : LineState → Bool
starts state.Statement = true
starts state.ChainLine = true
starts state.LoopEndLine = true
starts state.CaseItem = true
starts q = false

abbrev inner : LineState → Bool
inner state.End = true
inner state.LineEnd = true
inner state.LastValue = true
inner state.Repeat = true
inner state.From = true
inner state.To = true
inner state.MaybeValue = true
inner state.CaseTest = true
inner state.CaseRange = true
inner state.OtherColon = true
inner q = false

abbrev leads : LineState → Bool
leads q = if starts q || inner q then all_good (λ (a : Arrow). inner a.to) (choices q).arrows && all_behind (λ (a : Arrow). inner a.to) (choices q).phrase else true

text-leads : (q : LineState) → IsTrue (leads q)
text-leads state.End = refl
text-leads q = refl

inner-same : (q : LineState) → (if inner q then setting_in in_method (choices q).phrase else in_method) ≡ in_method
inner-same state.End = refl
inner-same q = refl

pub both : (a b : Bool) → IsTrue (a && b) → IsTrue a × IsTrue b
both true b h = (refl, h)
both false b h = absurd cc

either-left : (a b : Bool) → IsTrue a → IsTrue (a || b)
either-left true b h = refl
either-left false b h = absurd cc

either-right : (a b : Bool) → IsTrue b → IsTrue (a || b)
either-right true b h = refl
either-right false b h = h

line-end-so : (s : Sign) (v : Word) (n : ℕ) → IsTrue (is_line_end s) → Matches s v n → v ≡ word.LineEnd
line-end-so (sign.Word word.LineEnd) v n h m = m
line-end-so s v n h m = absurd cc

method-so : (w : Word) → (w ≡ word.LineEnd → ⊥) → in_text [] w ≡ in_method
method-so word.LineEnd n = absurd (n refl)
method-so w n = refl

-- the first expression of a line is no value where the line ends with it, and else one
first-setting : (q : LineState) (h : Phrase) (us : List LineToken) (t : LineToken) (r : LineState) → IsTrue (starts q) → (choices q).phrase ≡ Some h
    → Follows (behind h us) t r → in_text [] (tokens.word t) ≡ h.setting
first-setting state.Statement h us t r s some f =
    let all : IsTrue (all_good_behind (λ (a : Arrow). is_line_end a.sign) h) =
    subst (λ (o : Option Phrase). IsTrue (all_behind (λ (a : Arrow). is_line_end a.sign) o)) some refl in
    let it = taken_behind (λ (a : Arrow). is_line_end a.sign) h us f all in
    ap (in_text []) (line-end-so it.arrow.sign (tokens.word t) (string_length t) it.good it.is) ∙ ap (setting_in in_method) some
first-setting state.CaseItem h us t r s some f =
    let all : IsTrue (all_good_behind (λ (a : Arrow). not (is_line_end a.sign)) h) =
    subst (λ (o : Option Phrase). IsTrue (all_behind (λ (a : Arrow). not (is_line_end a.sign)) o)) some refl in
    let it = taken_behind (λ (a : Arrow). not (is_line_end a.sign)) h us f all in
    method-so (tokens.word t) (no-line-end it.arrow.sign (tokens.word t) (string_length t) it.good it.is) ∙ ap (setting_in in_method) some
first-setting state.ChainLine h us t r s some f = absurd cc
first-setting state.LoopEndLine h us t r s some f = absurd cc
first-setting q h us t r s some f = absurd cc

-- a line begins, or one of its words has been read
abbrev InText : LineState → List Word → Type 0
InText q before = (IsTrue (starts q) × (before ≡ [])) ⊎ (IsTrue (inner q) × ((w : Word) → in_text before w ≡ in_method))

in-text : (q : LineState) (before : List Word) → InText q before → IsTrue (starts q || inner q)
in-text q before (inl it) = either-left (starts q) (inner q) it.0
in-text q before (inr it) = either-right (starts q) (inner q) it.0

all-inner : (q : LineState) (before : List Word) → InText q before
    → IsTrue (all_good (λ (a : Arrow). inner a.to) (choices q).arrows) × IsTrue (all_behind (λ (a : Arrow). inner a.to) (choices q).phrase)
all-inner q before known =
    both (all_good (λ (a : Arrow). inner a.to) (choices q).arrows) (all_behind (λ (a : Arrow). inner a.to) (choices q).phrase)
    (chosen (starts q || inner q) _ true (in-text q before known) (text-leads q))

text-token : (q r : LineState) (before : List Word) (t : LineToken) → InText q before → Follows (choices q).arrows t r → InText r (word_at q t ∷ before)
text-token q r before t known f =
    let it = taken (λ (a : Arrow). inner a.to) f (all-inner q before known).0 in
    inr (subst (λ (r : LineState). IsTrue (inner r)) it.goes it.good, λ v. refl)

text-setting : (q r : LineState) (before : List Word) (h : Phrase) (us : List LineToken) (t : LineToken) → InText q before → (choices q).phrase ≡ Some h
    → Follows (behind h us) t r → in_text before (tokens.word t) ≡ h.setting
text-setting q r before h us t (inl it) some f =
    ap (λ (b : List Word). in_text b (tokens.word t)) it.1 ∙ first-setting q h us t r it.0 some f
text-setting q r before h us t (inr it) some f =
    it.1 (tokens.word t)
    ∙ sym (ap (setting_in in_method) (sym some) ∙ when-own (inner q) (setting_in in_method (choices q).phrase) in_method (inner-same q) it.0)

text-value : (q r : LineState) (before : List Word) (h : Phrase) (us : List LineToken) (t : LineToken) → InText q before → (choices q).phrase ≡ Some h
    → Follows (behind h us) t r → (in_text before (tokens.word t) ≡ h.setting) × InText r (tokens.word t ∷ before)
text-value q r before h us t known some f =
    let good : IsTrue (all_good_behind (λ (a : Arrow). inner a.to) h) =
    subst (λ (o : Option Phrase). IsTrue (all_behind (λ (a : Arrow). inner a.to) o)) some (all-inner q before known).1 in
    let it = taken_behind (λ (a : Arrow). inner a.to) h us f good in
    (text-setting q r before h us t known some f, inr (subst (λ (r : LineState). IsTrue (inner r)) it.goes it.good, λ v. refl))

open-start : (q : LineState) → IsTrue (starts q) → is_end q ≡ false
open-start state.End s = absurd cc
open-start q s = refl

pub text-line : {q : LineState} {row : List Piece} {ts : List LineToken} → lines.Row q row ts → IsTrue (starts q) → Row in_text [] row ts
text-line {q = q} x s = goes-on in_text InText text-token text-value x (inl (s, refl)) (open-start q s)
