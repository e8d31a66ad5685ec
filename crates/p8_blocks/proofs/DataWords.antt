-- What a token of each arrow is to the lines of DAT, and what holds of each line from a state on, where it holds at the
-- line's end and each arrow keeps it.
use Rattle.std.proofs.Common.{◌≡◌, ℕ, List, [], ◌∷◌, map, Option, Some, None, Bool, true, false, refl, sym, ap, ◌∙◌, subst}
use Rattle.std.specs.Prelude.{IsTrue, if◌then◌else◌, option_map, unwrap_or}
use Rattle.p8_tree.specs.declared.places.Place.{Place}
use Rattle.p8_tree.specs.Expressions.{Tree}
use Rattle.p8_lexer.specs.declared.word.Word.{Word}
use Rattle.p8_lexer.specs.declared.word.Word.TheVariants as word
use Rattle.p8_lexer.specs.Words.{capital}
use Rattle.p8_grammar.specs.Lexemes.{Setting, name_in}
use Rattle.p8_expr.specs.Words.{between_quotes}
use Rattle.p8_lexer.specs.Pieces as pieces
use Rattle.p8_lexer.specs.Pieces.{Piece}
use Rattle.p8_lines.specs.declared.sign.Sign.{Sign}
use Rattle.p8_lines.specs.declared.sign.Sign.TheVariants as sign
use Rattle.p8_lines.specs.declared.arrow.Arrow.{Arrow}
use Rattle.p8_lines.specs.declared.state.LineState.{LineState}
use Rattle.p8_lines.specs.declared.state.LineState.TheVariants as state
use Rattle.p8_lines.specs.Signs.{Matches, is_size, is_condition, takes_two, is_on_memory, takes_one, is_flag, is_write}
use Rattle.p8_lines.specs.Diagram.{Phrase, choices}
use Rattle.p8_lines.specs.Tokens as tokens
use Rattle.p8_lines.specs.Tokens.{LineToken, lexeme, string_length, piece}
use Rattle.p8_lines.specs.Lines.{Follows, here, further, is_name, behind, piece_in, Row, over, token, phrase}
use Rattle.p8_lines.proofs.Lexemes.{is_plain}
use Rattle.p8_lines.proofs.Arrows.{all_good, all_good_behind}
use Rattle.p8_declarations.specs.DataParts.{Part, line_end, colon, comma, hash, left_bracket, right_bracket, size, org, res, fit, condition, effect, jump, other, name, behind_colon, text, tree, part_of_word, part_of_piece}
use Rattle.p8_blocks.proofs.Closed.{is_closed, halves, own_next, own_behind}
use Rattle.p8_blocks.proofs.Pieces.{word_piece, name_piece, text_piece, is_labelled, plain_piece}
use Rattle.p8_blocks.proofs.DataMade.{Facts, IsSize, byte_size, word_size, long_size, condition_number}

-- a row has a value of which this holds
pub record Has {V : Type 0} (P : V → Type 0) (o : Option V) : Type 0 where
  pub value : V
  pub is : o ≡ Some value
  pub good : P value

pub found : {V : Type 0} {P : V → Type 0} (v : V) → P v → Has P (Some v)
found v h = record { value = v; is = refl; good = h }

pub mapped : {A B : Type 0} {P : A → Type 0} {Q : B → Type 0} (f : A → B) → ((x : A) → P x → Q (f x)) → {o : Option A} → Has P o → Has Q (option_map f o)
mapped {Q = Q} f g h = subst (λ o. Has Q (option_map f o)) (sym h.is) (found (f h.value) (g h.value h.good))

pub got : {V : Type 0} {P : V → Type 0} {o : Option V} {v : V} → Has P o → o ≡ Some v → P v
got {P = P} {v = v} h e = let same : h.value ≡ v = (let z = sym h.is ∙ e in cc) in subst P same h.good

-- what is known of a piece, and of the pieces of a row; expressions stand where the diagram says
abbrev pub IsKnown : Facts → Piece → Type 0
IsKnown F (pieces.word w p) = Unit {0}
IsKnown F (pieces.name n p) = F.IsName n
IsKnown F (pieces.label n p) = F.IsWord n
IsKnown F (pieces.text t p) = F.IsText t
IsKnown F (pieces.tree e p) = (s : Setting) → F.IsValue s e

abbrev pub AreKnown : Facts → List Piece → Type 0
AreKnown F [] = Unit {0}
AreKnown F (x ∷ row) = IsKnown F x × AreKnown F row

-- this holds of each part that a token of a sign is
abbrev pub Each : Facts → Sign → (Part → Type 0) → Type 0
Each F (sign.Word word.LineEnd) R = R line_end
Each F (sign.Word word.Colon) R = (p : Place) → R (colon p)
Each F (sign.Word word.Comma) R = R comma
Each F (sign.Word word.Hash) R = R hash
Each F (sign.Word word.LeftBracket) R = R left_bracket
Each F (sign.Word word.RightBracket) R = R right_bracket
Each F (sign.Word word.Org) R = (p : Place) → R (org p)
Each F (sign.Word word.Res) R = (p : Place) → R (res p)
Each F (sign.Word word.Fit) R = (p : Place) → R (fit p)
Each F (sign.Word word.Jmp) R = (p : Place) → R (jump p)
Each F (sign.Word word.Call) R = (p : Place) → R (other word.Call p)
Each F (sign.Word word.Ret) R = (p : Place) → R (other word.Ret p)
Each F (sign.Word word.Nop) R = (p : Place) → R (other word.Nop p)
Each F (sign.Word word.Name) R = (n : List ℕ) (p : Place) → F.IsName n → R (name n p)
Each F sign.Label R = (n : List ℕ) (p : Place) → F.IsWord n → R (behind_colon n p)
Each F sign.Size R = (n : ℕ) (p : Place) → IsSize n → R (size n p)
Each F sign.LongText R = (t : List ℕ) (p : Place) → F.IsText t → R (text t p)
Each F sign.Condition R = (w : Word) → IsTrue (is_condition w) → R (condition (condition_number w))
Each F sign.TwoOperands R = (w : Word) (p : Place) → IsTrue (takes_two w) → R (other w p)
Each F sign.Memory R = (w : Word) (p : Place) → IsTrue (is_on_memory w) → R (other w p)
Each F sign.OneOperand R = (w : Word) (p : Place) → IsTrue (takes_one w) → R (other w p)
Each F sign.Flag R = R (effect 1) × R (effect 2)
Each F sign.Write R = R (effect 4) × R (effect 8)
Each F s R = (x : Part) → R x

pub plain_part : (t : LineToken) (w : Word) → IsTrue (is_plain w) → tokens.word t ≡ w → part_of_piece (piece t) ≡ part_of_word w t.place
plain_part t w plain h = ap part_of_piece (word_piece t w plain h)

pub name_part : (t : LineToken) → tokens.word t ≡ word.Name → part_of_piece (piece t) ≡ name (map capital t.text) t.place
name_part t h = ap part_of_piece (name_piece t h)

pub text_part : (t : LineToken) → tokens.word t ≡ word.Str → part_of_piece (piece t) ≡ text (between_quotes t.text) t.place
text_part t h = ap part_of_piece (text_piece t h)

named : (F : Facts) (t : LineToken) → tokens.word t ≡ word.Name → IsKnown F (piece t) → F.IsName (map capital t.text)
named F t h s = subst (IsKnown F) (name_piece t h) s

plain_each : (F : Facts) (w : Word) (R : Part → Type 0) (t : LineToken) → tokens.word t ≡ w → IsKnown F (piece t) → Each F (sign.Word w) R → R (part_of_piece (piece t))
unfolding part_of_word
plain_each F word.LineEnd R t m s y = subst R (sym (plain_part t word.LineEnd refl m)) y
plain_each F word.Colon R t m s y = subst R (sym (plain_part t word.Colon refl m)) (y t.place)
plain_each F word.Comma R t m s y = subst R (sym (plain_part t word.Comma refl m)) y
plain_each F word.Hash R t m s y = subst R (sym (plain_part t word.Hash refl m)) y
plain_each F word.LeftBracket R t m s y = subst R (sym (plain_part t word.LeftBracket refl m)) y
plain_each F word.RightBracket R t m s y = subst R (sym (plain_part t word.RightBracket refl m)) y
plain_each F word.Org R t m s y = subst R (sym (plain_part t word.Org refl m)) (y t.place)
plain_each F word.Res R t m s y = subst R (sym (plain_part t word.Res refl m)) (y t.place)
plain_each F word.Fit R t m s y = subst R (sym (plain_part t word.Fit refl m)) (y t.place)
plain_each F word.Jmp R t m s y = subst R (sym (plain_part t word.Jmp refl m)) (y t.place)
plain_each F word.Call R t m s y = subst R (sym (plain_part t word.Call refl m)) (y t.place)
plain_each F word.Ret R t m s y = subst R (sym (plain_part t word.Ret refl m)) (y t.place)
plain_each F word.Nop R t m s y = subst R (sym (plain_part t word.Nop refl m)) (y t.place)
plain_each F word.Name R t m s y = subst R (sym (name_part t m)) (y (map capital t.text) t.place (named F t m s))
plain_each F w R t m s y = y (part_of_piece (piece t))

-- The words of a class are known by themselves, and are parts of one kind.

abbrev pub is_other : Part → Bool
is_other (other w p) = true
is_other x = false

abbrev is_conditional : Part → Bool
is_conditional (condition c) = true
is_conditional x = false

abbrev are : (Word → Bool) → (Part → Bool) → Place → Word → Bool
are class kind p w = if class w then (if is_plain w then kind (part_of_word w p) else false) else true

conditions : (p : Place) (w : Word) → IsTrue (are is_condition is_conditional p w)
unfolding part_of_word
conditions p word.IfE = refl
conditions p w = refl

two : (p : Place) (w : Word) → IsTrue (are takes_two is_other p w)
unfolding part_of_word
two p word.Add = refl
two p w = refl

memory : (p : Place) (w : Word) → IsTrue (are is_on_memory is_other p w)
unfolding part_of_word
memory p word.Rdbyte = refl
memory p w = refl

one : (p : Place) (w : Word) → IsTrue (are takes_one is_other p w)
unfolding part_of_word
one p word.Clkset = refl
one p w = refl

class_kind : (class : Word → Bool) (kind : Part → Bool) → ((p : Place) (w : Word) → IsTrue (are class kind p w)) → (p : Place) (w : Word) → IsTrue (class w) → IsTrue (is_plain w) × IsTrue (kind (part_of_word w p))
class_kind class kind all p w m =
    halves (is_plain w) (kind (part_of_word w p)) (subst (λ b. IsTrue (if b then (if is_plain w then kind (part_of_word w p) else false) else true)) m (all p w))

-- the word of such a part
as_other : (p : Place) (w : Word) → IsTrue (is_other (part_of_word w p)) → part_of_word w p ≡ other w p
unfolding part_of_word
as_other p word.LineEnd h = absurd cc
as_other p word.Colon h = absurd cc
as_other p word.Comma h = absurd cc
as_other p word.Hash h = absurd cc
as_other p word.LeftBracket h = absurd cc
as_other p word.RightBracket h = absurd cc
as_other p word.ByteSize h = absurd cc
as_other p word.WordSize h = absurd cc
as_other p word.LongSize h = absurd cc
as_other p word.Org h = absurd cc
as_other p word.Res h = absurd cc
as_other p word.Fit h = absurd cc
as_other p word.IfAlways h = absurd cc
as_other p word.IfNever h = absurd cc
as_other p word.IfE h = absurd cc
as_other p word.IfNe h = absurd cc
as_other p word.IfA h = absurd cc
as_other p word.IfB h = absurd cc
as_other p word.IfAe h = absurd cc
as_other p word.IfBe h = absurd cc
as_other p word.IfNcAndZ h = absurd cc
as_other p word.IfCAndNz h = absurd cc
as_other p word.IfCAndZ h = absurd cc
as_other p word.IfCEqZ h = absurd cc
as_other p word.IfCNeZ h = absurd cc
as_other p word.IfCOrNz h = absurd cc
as_other p word.IfNcOrZ h = absurd cc
as_other p word.IfNcOrNz h = absurd cc
as_other p word.Wz h = absurd cc
as_other p word.Wc h = absurd cc
as_other p word.Wr h = absurd cc
as_other p word.Nr h = absurd cc
as_other p word.Jmp h = absurd cc
as_other p w h = refl

-- the number of a condition is that of its word
as_condition : (p : Place) (w : Word) → IsTrue (is_conditional (part_of_word w p)) → part_of_word w p ≡ condition (condition_number w)
unfolding part_of_word condition_number
as_condition p word.IfAlways h = refl
as_condition p word.IfNever h = refl
as_condition p word.IfE h = refl
as_condition p word.IfNe h = refl
as_condition p word.IfA h = refl
as_condition p word.IfB h = refl
as_condition p word.IfAe h = refl
as_condition p word.IfBe h = refl
as_condition p word.IfNcAndZ h = refl
as_condition p word.IfCAndNz h = refl
as_condition p word.IfCAndZ h = refl
as_condition p word.IfCEqZ h = refl
as_condition p word.IfCNeZ h = refl
as_condition p word.IfCOrNz h = refl
as_condition p word.IfNcOrZ h = refl
as_condition p word.IfNcOrNz h = refl
as_condition p w h = absurd cc

pub two_part : (t : LineToken) (w : Word) → tokens.word t ≡ w → IsTrue (takes_two w) → part_of_piece (piece t) ≡ other w t.place
two_part t w m h = let y = class_kind takes_two is_other two t.place w h in plain_part t w y.0 m ∙ as_other t.place w y.1

pub memory_part : (t : LineToken) (w : Word) → tokens.word t ≡ w → IsTrue (is_on_memory w) → part_of_piece (piece t) ≡ other w t.place
memory_part t w m h = let y = class_kind is_on_memory is_other memory t.place w h in plain_part t w y.0 m ∙ as_other t.place w y.1

pub one_part : (t : LineToken) (w : Word) → tokens.word t ≡ w → IsTrue (takes_one w) → part_of_piece (piece t) ≡ other w t.place
one_part t w m h = let y = class_kind takes_one is_other one t.place w h in plain_part t w y.0 m ∙ as_other t.place w y.1

pub condition_part : (t : LineToken) (w : Word) → tokens.word t ≡ w → IsTrue (is_condition w) → part_of_piece (piece t) ≡ condition (condition_number w)
condition_part t w m h = let y = class_kind is_condition is_conditional conditions t.place w h in plain_part t w y.0 m ∙ as_condition t.place w y.1

sized : (F : Facts) (R : Part → Type 0) (t : LineToken) (w : Word) → tokens.word t ≡ w → IsTrue (is_size w) → Each F sign.Size R → R (part_of_piece (piece t))
unfolding part_of_word
sized F R t word.ByteSize m h y = subst R (sym (plain_part t word.ByteSize refl m)) (y 1 t.place byte_size)
sized F R t word.WordSize m h y = subst R (sym (plain_part t word.WordSize refl m)) (y 2 t.place word_size)
sized F R t word.LongSize m h y = subst R (sym (plain_part t word.LongSize refl m)) (y 4 t.place long_size)
sized F R t w m h y = absurd cc

flagged : (F : Facts) (R : Part → Type 0) (t : LineToken) (w : Word) → tokens.word t ≡ w → IsTrue (is_flag w) → Each F sign.Flag R → R (part_of_piece (piece t))
unfolding part_of_word
flagged F R t word.Wz m h y = subst R (sym (plain_part t word.Wz refl m)) y.0
flagged F R t word.Wc m h y = subst R (sym (plain_part t word.Wc refl m)) y.1
flagged F R t w m h y = absurd cc

write_set : (F : Facts) (R : Part → Type 0) (t : LineToken) (w : Word) → tokens.word t ≡ w → IsTrue (is_write w) → Each F sign.Write R → R (part_of_piece (piece t))
unfolding part_of_word
write_set F R t word.Wr m h y = subst R (sym (plain_part t word.Wr refl m)) y.0
write_set F R t word.Nr m h y = subst R (sym (plain_part t word.Nr refl m)) y.1
write_set F R t w m h y = absurd cc

-- only at two states a local label's name stands
abbrev is_unlabelled : Sign → Bool
is_unlabelled sign.Label = false
is_unlabelled s = true

each : (F : Facts) (s : Sign) (R : Part → Type 0) (t : LineToken) → IsTrue (is_unlabelled s) → Matches s (tokens.word t) (string_length t) → IsKnown F (piece t) → Each F s R → R (part_of_piece (piece t))
each F sign.Label R t u m s y = absurd cc
each F (sign.Word w) R t u m s y = plain_each F w R t m s y
each F sign.Size R t u m s y = sized F R t (tokens.word t) refl m y
each F sign.LongText R t u m s y = subst R (sym (text_part t m.0)) (y (between_quotes t.text) t.place (subst (IsKnown F) (text_piece t m.0) s))
each F sign.Condition R t u m s y = subst R (sym (condition_part t (tokens.word t) refl m)) (y (tokens.word t) m)
each F sign.TwoOperands R t u m s y = subst R (sym (two_part t (tokens.word t) refl m)) (y (tokens.word t) t.place m)
each F sign.Memory R t u m s y = subst R (sym (memory_part t (tokens.word t) refl m)) (y (tokens.word t) t.place m)
each F sign.OneOperand R t u m s y = subst R (sym (one_part t (tokens.word t) refl m)) (y (tokens.word t) t.place m)
each F sign.Flag R t u m s y = flagged F R t (tokens.word t) refl m y
each F sign.Write R t u m s y = write_set F R t (tokens.word t) refl m y
each F x R t u m s y = y (part_of_piece (piece t))

-- what arrows owe, and what a state does

abbrev pub Owes : Facts → (LineState → List Part → Type 0) → List Part → (Part → Type 0) → List Arrow → Type 0
Owes F Goal ps R [] = Unit {0}
Owes F Goal ps R (a ∷ others) = (Goal a.to ps → Each F a.sign R) × Owes F Goal ps R others

abbrev pub OwesBehind : Facts → (LineState → List Part → Type 0) → LineState → List Part → Option Phrase → Type 0
OwesBehind F Goal q ps None = Unit {0}
OwesBehind F Goal q ps (Some h) =
    Owes F Goal ps (λ x. (e : Tree) (p : Place) → F.IsValue h.setting e → Goal q (tree e p ∷ x ∷ ps)) h.behind_name
    × Owes F Goal ps (λ x. (e : Tree) (p : Place) → F.IsValue h.setting e → Goal q (tree e p ∷ x ∷ ps)) h.behind_other

pub record Keeps (F : Facts) (Goal : LineState → List Part → Type 0) (q : LineState) (ps : List Part) : Type 0 where
  pub arrows : Owes F Goal ps (λ x. Goal q (x ∷ ps)) (choices q).arrows
  pub phrase : OwesBehind F Goal q ps (choices q).phrase

by_arrow : (F : Facts) (Goal : LineState → List Part → Type 0) (ps : List Part) (R : Part → Type 0) {l : List Arrow} {t : LineToken} {r : LineState} → Follows l t r → IsTrue (all_good (λ a. is_unlabelled a.sign) l) → IsKnown F (piece t) → Owes F Goal ps R l → Goal r ps → R (part_of_piece (piece t))
by_arrow F Goal ps R (here {a = a} {others = others} {t = t} is) g s owes y = each F a.sign R t (halves (is_unlabelled a.sign) (all_good (λ a. is_unlabelled a.sign) others) g).0 is s (owes.0 y)
by_arrow F Goal ps R (further {a = a} {others = others} n f) g s owes y = by_arrow F Goal ps R f (halves (is_unlabelled a.sign) (all_good (λ a. is_unlabelled a.sign) others) g).1 s owes.1 y

pick : (F : Facts) (Goal : LineState → List Part → Type 0) (ps : List Part) (R : Part → Type 0) (h : Phrase) (b : Bool) → Owes F Goal ps R h.behind_name → Owes F Goal ps R h.behind_other → Owes F Goal ps R (if b then h.behind_name else h.behind_other)
pick F Goal ps R h true x y = x
pick F Goal ps R h false x y = y

behind_phrase : (F : Facts) (Goal : LineState → List Part → Type 0) (q : LineState) (ps : List Part) (h : Phrase) (us : List LineToken) {t : LineToken} {r : LineState} → Follows (behind h us) t r → IsTrue (all_good_behind (λ a. is_unlabelled a.sign) h) → IsKnown F (piece t) → OwesBehind F Goal q ps (Some h) → Goal r ps → (e : Tree) (p : Place) → F.IsValue h.setting e → Goal q (tree e p ∷ part_of_piece (piece t) ∷ ps)
behind_phrase F Goal q ps h us f g s owes y = by_arrow F Goal ps (λ x. (e : Tree) (p : Place) → F.IsValue h.setting e → Goal q (tree e p ∷ x ∷ ps)) f (either (is_name us) (halves (all_good (λ a. is_unlabelled a.sign) h.behind_name) (all_good (λ a. is_unlabelled a.sign) h.behind_other) g)) s (pick F Goal ps (λ x. (e : Tree) (p : Place) → F.IsValue h.setting e → Goal q (tree e p ∷ x ∷ ps)) h (is_name us) owes.0 owes.1) y
  where
    either : (b : Bool) → (all_good (λ a. is_unlabelled a.sign) h.behind_name ≡ true) × (all_good (λ a. is_unlabelled a.sign) h.behind_other ≡ true) → IsTrue (all_good (λ a. is_unlabelled a.sign) (if b then h.behind_name else h.behind_other))
    either true x = x.0
    either false x = x.1

-- where a local label's name stands, and where none does

unlabelled_arrows : (q : LineState) → is_labelled q ≡ false → IsTrue (all_good (λ a. is_unlabelled a.sign) (choices q).arrows)
unlabelled_arrows state.DatLabel h = absurd cc
unlabelled_arrows state.CallLocal h = absurd cc
unlabelled_arrows q h = refl

abbrev unlabelled_behind : Option Phrase → Bool
unlabelled_behind None = true
unlabelled_behind (Some h) = all_good_behind (λ a. is_unlabelled a.sign) h

unlabelled_phrases : (q : LineState) → IsTrue (unlabelled_behind (choices q).phrase)
unlabelled_phrases state.End = refl
unlabelled_phrases q = refl

no_more : {l : List Arrow} {t : LineToken} {r : LineState} → Follows l t r → l ≡ [] → ⊥
no_more (here x) e = absurd cc
no_more (further x f) e = absurd cc

by_label : (F : Facts) (Goal : LineState → List Part → Type 0) (ps : List Part) (R : Part → Type 0) (n : List ℕ) {a : Arrow} {t : LineToken} {r : LineState} → Follows (a ∷ []) t r → F.IsWord n → (Goal a.to ps → (n : List ℕ) (p : Place) → F.IsWord n → R (behind_colon n p)) → Goal r ps → R (behind_colon n t.place)
by_label F Goal ps R n (here {t = t} is) s owes y = owes y n t.place s
by_label F Goal ps R n (further x f) s owes y = absurd (no_more f refl)

label_row : (F : Facts) (Goal : LineState → List Part → Type 0) (ps : List Part) (q r : LineState) (t : LineToken) → is_labelled q ≡ true → Follows (choices q).arrows t r → IsKnown F (piece_in q t) → Owes F Goal ps (λ x. Goal q (x ∷ ps)) (choices q).arrows → Goal r ps → Goal q (part_of_piece (piece_in q t) ∷ ps)
label_row F Goal ps state.DatLabel r t h f s owes y = by_label F Goal ps (λ x. Goal state.DatLabel (x ∷ ps)) (unwrap_or (name_in (lexeme t)) []) f s owes.0 y
label_row F Goal ps state.CallLocal r t h f s owes y = by_label F Goal ps (λ x. Goal state.CallLocal (x ∷ ps)) (unwrap_or (name_in (lexeme t)) []) f s owes.0 y
label_row F Goal ps q r t h f s owes y = absurd cc

token_row : (F : Facts) (Goal : LineState → List Part → Type 0) (ps : List Part) (q r : LineState) (t : LineToken) → Follows (choices q).arrows t r → IsKnown F (piece_in q t) → Owes F Goal ps (λ x. Goal q (x ∷ ps)) (choices q).arrows → Goal r ps → Goal q (part_of_piece (piece_in q t) ∷ ps)
token_row F Goal ps q r t f s owes y = go (is_labelled q) refl
  where
    go : (b : Bool) → is_labelled q ≡ b → Goal q (part_of_piece (piece_in q t) ∷ ps)
    go true e = label_row F Goal ps q r t e f s owes y
    go false e =
        let same = plain_piece q t e in
        subst (λ x. Goal q (part_of_piece x ∷ ps)) (sym same) (by_arrow F Goal ps (λ x. Goal q (x ∷ ps)) f (unlabelled_arrows q e) (subst (IsKnown F) same s) owes y)

module _ (F : Facts) (own : LineState → Bool) (closed : (q : LineState) → IsTrue (is_closed own q)) (Goal : LineState → List Part → Type 0) (at_end : Goal state.End []) (keeps : (q : LineState) (ps : List Part) → IsTrue (own q) → Keeps F Goal q ps) where
  pub holds : {q : LineState} {row : List Piece} {ts : List LineToken} → Row q row ts → AreKnown F row → IsTrue (own q) → Goal q (map part_of_piece row)
  holds over a h = at_end
  holds (token {q = q} {r = r} {row = row} {t = t} f y) a h =
      token_row F Goal (map part_of_piece row) q r t f a.0 ((keeps q (map part_of_piece row) h).arrows) (holds y a.1 (own_next own closed q r t f h))
  holds (phrase {q = q} {r = r} {h = p} {e = e} {row = row} {first = first} {t = t} others some is f y) a h =
      behind_phrase F Goal q (map part_of_piece row) p (first ∷ others) f (subst (λ o. IsTrue (unlabelled_behind o)) some (unlabelled_phrases q)) a.1.0 (subst (λ o. OwesBehind F Goal q (map part_of_piece row) o) some ((keeps q (map part_of_piece row) h).phrase)) (holds y a.1.1 (own_behind own closed q r p (first ∷ others) t some f h)) e first.place (a.0 p.setting)
