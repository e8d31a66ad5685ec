-- Which part of a line of DAT may stand next, as a table of stages: what a stage knows of the words before it, and that the table is clear.
use Rattle.std.proofs.Common.{◌≡◌, ◌⊎◌, inl, inr, ◌∙◌, sym, ap, ap₂, subst, refl, ℕ, Bool, true, false, List, [], ◌∷◌, length, Option, Some, None}
use Rattle.std.specs.Prelude.{IsTrue, if◌then◌else◌, ◌&&◌, ◌||◌, not, nat_lt, option_and_then}
use Rattle.std.specs.List.{list_any}
use Rattle.p8_tree.specs.declared.places.Place.{Place}
use Rattle.p8_tree.specs.Expressions.{Tree}
use Rattle.p8_lexer.specs.declared.word.Word.{Word}
use Rattle.p8_lexer.specs.declared.word.Word.TheVariants as words
use Rattle.p8_lexer.specs.Pieces.{Piece}
use Rattle.p8_grammar.specs.Lexemes.{Setting, in_dat, in_data_item, Lexeme, mark, left_bracket as open_bracket_mark}
use Rattle.p8_grammar.specs.Lexemes.{string as quoted, size as size_lexeme_of, token, name as name_lexeme}
use Rattle.p8_grammar.specs.Grammar.{IsExpression}
use Rattle.p8_grammar.specs.Machine.{start, step as machine_step, walk}
use Rattle.p8_grammar.proofs.Live.{dead}
use Rattle.p8_lines.specs.Signs.{is_size}
use Rattle.p8_lines.specs.Tokens.{LineToken, word, lexeme, term, terms, piece}
use Rattle.p8_lines.proofs.Lexemes.{IsLike, the_word, the_reserved, left_bracket_lexeme, hash_lexeme, size_lexeme, other_word}
use Rattle.p8_expr.specs.Words.{lexeme_of_word}
use Rattle.p8_declarations.specs.DataParts.{Part, line_end, colon, comma, hash, left_bracket, right_bracket, size, org, res, fit, condition, effect}
use Rattle.p8_declarations.specs.DataParts.{jump, other, name, behind_colon, text, tree, part_of_word, part_of_piece}
use Rattle.p8_prop.proofs.Reading.{is_open, in_data, is_known}
use Rattle.p8_prop.proofs.Barred.{Bars, begins-none}
use Rattle.p8_prop.proofs.Marks.{Sort, a_name, a_text, a_word, sort, other-bars, closes, closes-bars}
use Rattle.p8_prop.proofs.OneRow.{Table, IsClear, some-one}

-- ---- which part may stand next

pub data Stage : Type 0 where
  -- up to an instruction's word; a local label's name
  front : Stage
  named_next : Stage
  -- a value or the line's end; an operand or effects, and what stands behind an operand; behind `#`
  maybe : Stage
  operand_next : Stage
  operand_read : Stage
  hashed : Stage
  -- an item of data, what stands behind its value, its count and the bracket behind that, and what stands behind a whole item
  item : Stage
  item_read : Stage
  count_next : Stage
  count_read : Stage
  item_over : Stage
  line_over : Stage

abbrev pub step : Stage → Part → Option Stage
step front line_end = Some line_over
step front (colon p) = Some named_next
step front (size n p) = Some item
step front (org p) = Some maybe
step front (res p) = Some maybe
step front (fit p) = Some maybe
step front (condition c) = Some front
step front (jump p) = Some operand_next
step front (other w p) = Some operand_next
step front (name n p) = Some front
step named_next (behind_colon n p) = Some front
step maybe (tree e p) = Some operand_read
step maybe line_end = Some line_over
step operand_next (tree e p) = Some operand_read
step operand_next (hash) = Some hashed
step operand_next comma = Some operand_next
step operand_next (effect b) = Some operand_next
step operand_next line_end = Some line_over
step operand_read comma = Some operand_next
step operand_read (effect b) = Some operand_next
step operand_read line_end = Some line_over
step hashed (tree e p) = Some operand_read
step item (size n p) = Some item
step item (tree e p) = Some item_read
step item (text t p) = Some item_over
step item line_end = Some line_over
step item_read comma = Some item
step item_read left_bracket = Some count_next
step item_read line_end = Some line_over
step count_next (tree e p) = Some count_read
step count_read right_bracket = Some item_over
step item_over comma = Some item
step item_over line_end = Some line_over
step q x = None

abbrev pub go : Stage → Part → Option Stage
go q x = if is_known x then step q x else None

abbrev is_over : Stage → Bool
is_over line_over = true
is_over q = false

-- behind a size, and behind the bracket of a count
abbrev sized : Stage → Bool
sized item = true
sized item_read = true
sized count_next = true
sized count_read = true
sized item_over = true
sized q = false

abbrev opened : Stage → Bool
opened count_next = true
opened count_read = true
opened q = false

abbrev setting : Stage → Setting
setting q = if sized q && not (opened q) then in_data_item else in_dat

abbrev pub table : Table Part Stage
table = record { part = part_of_piece; setting = λ q w. setting q; go = go; ended = is_over }

pub known-step : (q : Stage) (x : Part) {r : Stage} → go q x ≡ Some r → (step q x ≡ Some r) × IsTrue (is_known x)
known-step q x {r = r} h = by (is_known x) refl h
  where
    by : (b : Bool) → is_known x ≡ b → (if b then step q x else None) ≡ Some r → (step q x ≡ Some r) × IsTrue (is_known x)
    by true e h = (h, e)
    by false e h = absurd cc

pub step-known : (q : Stage) (x : Part) {r : Stage} → IsTrue (is_known x) → step q x ≡ Some r → go q x ≡ Some r
step-known q x k h = ap (λ (b : Bool). if b then step q x else None) k ∙ h

-- ---- which part a token is

abbrev pub is_size_part : Part → Bool
is_size_part (size n p) = true
is_size_part x = false

abbrev pub is_bracket : Part → Bool
is_bracket left_bracket = true
is_bracket x = false

abbrev pub is_tree : Part → Bool
is_tree (tree e p) = true
is_tree x = false

abbrev pub is_label : Part → Bool
is_label (behind_colon n p) = true
is_label x = false

abbrev pub is_end : Part → Bool
is_end line_end = true
is_end x = false

abbrev pub is_hash : Part → Bool
is_hash hash = true
is_hash x = false

abbrev pub is_colon : Part → Bool
is_colon (colon p) = true
is_colon x = false

-- what stands outside brackets in no expression
abbrev is_bar : Part → Bool
is_bar line_end = true
is_bar comma = true
is_bar right_bracket = true
is_bar (effect b) = true
is_bar x = false

abbrev bars_word : Word → Bool
bars_word words.Wz = true
bars_word words.Wc = true
bars_word words.Wr = true
bars_word words.Nr = true
bars_word w = closes w

word-size : (w : Word) (p : Place) → is_size w ≡ is_size_part (part_of_word w p)
unfolding part_of_word
word-size words.ByteSize p = refl
word-size w p = refl

word-open : (w : Word) (p : Place) (ws : List Word) → is_open (w ∷ ws) ≡ is_bracket (part_of_word w p)
unfolding part_of_word
word-open words.LeftBracket p ws = refl
word-open w p ws = refl

word-plain : (w : Word) (p : Place) → is_tree (part_of_word w p) || is_label (part_of_word w p) ≡ false
unfolding part_of_word
word-plain words.Comma p = refl
word-plain w p = refl

word-bars : (w : Word) (p : Place) → IsTrue (if is_bar (part_of_word w p) then bars_word w else true)
unfolding part_of_word
word-bars words.Comma p = refl
word-bars w p = refl

pub end-word : (w : Word) (p : Place) → IsTrue (is_end (part_of_word w p)) → w ≡ words.LineEnd
unfolding part_of_word
end-word words.LineEnd p h = refl
end-word w p h = absurd cc

hash-word : (w : Word) (p : Place) → IsTrue (is_hash (part_of_word w p)) → w ≡ words.Hash
unfolding part_of_word
hash-word words.Hash p h = refl
hash-word w p h = absurd cc

pub colon-word : (w : Word) (p : Place) → IsTrue (is_colon (part_of_word w p)) → w ≡ words.Colon
unfolding part_of_word
colon-word words.Colon p h = refl
colon-word w p h = absurd cc

bracket-word : (w : Word) (p : Place) → IsTrue (is_bracket (part_of_word w p)) → w ≡ words.LeftBracket
unfolding part_of_word
bracket-word words.LeftBracket p h = refl
bracket-word w p h = absurd cc

pub end-part : (p : Place) → part_of_word words.LineEnd p ≡ line_end
unfolding part_of_word
end-part p = refl

pub colon-part : (p : Place) → part_of_word words.Colon p ≡ colon p
unfolding part_of_word
colon-part p = refl

-- what holds of a token's part, holds of that of its word, where it doesn't hold of names and strings
abbrev pub of_token : LineToken → Part
of_token t = part_of_piece (piece t)

pub by-word : (P : Part → Bool) (t : LineToken) → ((n : List ℕ) (p : Place) → P (name n p) ≡ false) → ((x : List ℕ) (p : Place) → P (text x p) ≡ false)
    → IsTrue (P (of_token t))
    → IsTrue (P (part_of_word (word t) t.place))
by-word P t names texts h = of (sort t)
  where
    of : Sort t → IsTrue (P (part_of_word (word t) t.place))
    of (a_name n is e) = let never : false ≡ true = sym (names n t.place) ∙ ap (λ (x : Piece). P (part_of_piece x)) (sym e) ∙ h in absurd cc
    of (a_text x is e) = let never : false ≡ true = sym (texts x t.place) ∙ ap (λ (x : Piece). P (part_of_piece x)) (sym e) ∙ h in absurd cc
    of (a_word e) = subst (λ (x : Piece). IsTrue (P (part_of_piece x))) e h

-- what is never so of a word, a name or a string isn't so of a token
never-token : (P : Part → Bool) (t : LineToken) → ((n : List ℕ) (p : Place) → P (name n p) ≡ false) → ((x : List ℕ) (p : Place) → P (text x p) ≡ false)
    → ((w : Word) (p : Place) → P (part_of_word w p) ≡ false) → P (of_token t) ≡ false
never-token P t names texts ws = of (sort t)
  where
    of : Sort t → P (of_token t) ≡ false
    of (a_name n is e) = ap (λ (x : Piece). P (part_of_piece x)) e ∙ names n t.place
    of (a_text x is e) = ap (λ (x : Piece). P (part_of_piece x)) e ∙ texts x t.place
    of (a_word e) = ap (λ (x : Piece). P (part_of_piece x)) e ∙ ws (word t) t.place

pub plain-token : (t : LineToken) → is_tree (of_token t) || is_label (of_token t) ≡ false
plain-token t = never-token (λ x. is_tree x || is_label x) t (λ n p. refl) (λ x p. refl) word-plain

when-true : (b x : Bool) → IsTrue b → IsTrue (if b then x else true) → IsTrue x
when-true true x e h = h
when-true false x e h = absurd cc

word-barred : (s : Setting) (t : LineToken) (w : Word) → word t ≡ w → IsTrue (bars_word w) → Bars s (lexeme t)
unfolding lexeme_of_word
word-barred s t words.Wz e h = other-bars s (other_word t words.Wz refl refl e)
word-barred s t words.Wc e h = other-bars s (other_word t words.Wc refl refl e)
word-barred s t words.Wr e h = other-bars s (other_word t words.Wr refl refl e)
word-barred s t words.Nr e h = other-bars s (other_word t words.Nr refl refl e)
word-barred s t w e h = closes-bars s t w e h

barred : (s : Setting) (t : LineToken) → IsTrue (is_bar (of_token t)) → Bars s (lexeme t)
barred s t h =
    word-barred s t (word t) refl
    (when-true (is_bar (part_of_word (word t) t.place)) (bars_word (word t)) (by-word is_bar t (λ n p. refl) (λ x p. refl) h) (word-bars (word t) t.place))

like-name : {z : ℕ} {n : List ℕ} {x : Lexeme} → IsLike (size_lexeme_of z) x → x ≡ name_lexeme n → ⊥
like-name the_word h = cc
like-name (the_reserved m) h = cc

like-text : {z : ℕ} {n : List ℕ} {x : Lexeme} → IsLike (size_lexeme_of z) x → x ≡ quoted n → ⊥
like-text the_word h = cc
like-text (the_reserved m) h = cc

-- the words before, with one more
pub size-token : (t : LineToken) → is_size (word t) ≡ is_size_part (of_token t)
size-token t = of (sort t)
  where
    -- neither a name nor a string is a size
    none : (b : Bool) → is_size (word t) ≡ b → ((z : ℕ) → IsLike (size_lexeme_of z) (lexeme t) → ⊥) → is_size (word t) ≡ false
    none false e never = e
    none true e never = let z = size_lexeme t e in absurd (never z.0 z.1)

    of : Sort t → is_size (word t) ≡ is_size_part (of_token t)
    of (a_name n is e) = none (is_size (word t)) refl (λ z l. like-name l is) ∙ sym (ap (λ (x : Piece). is_size_part (part_of_piece x)) e)
    of (a_text x is e) = none (is_size (word t)) refl (λ z l. like-text l is) ∙ sym (ap (λ (x : Piece). is_size_part (part_of_piece x)) e)
    of (a_word e) = word-size (word t) t.place ∙ sym (ap (λ (x : Piece). is_size_part (part_of_piece x)) e)

pub open-token : (t : LineToken) (ws : List Word) → is_open (word t ∷ ws) ≡ is_bracket (of_token t)
open-token t ws = word-open (word t) t.place ws ∙ of (sort t)
  where
    none : (b : Bool) (n : Lexeme) → is_bracket (part_of_word (word t) t.place) ≡ b → lexeme t ≡ n → (mark open_bracket_mark ≡ n → ⊥)
        → is_bracket (part_of_word (word t) t.place) ≡ false
    none false n e is never = e
    none true n e is never = absurd (never (sym (left_bracket_lexeme t (bracket-word (word t) t.place e)) ∙ is))

    of : Sort t → is_bracket (part_of_word (word t) t.place) ≡ is_bracket (of_token t)
    of (a_name n is e) =
        none (is_bracket (part_of_word (word t) t.place)) (name_lexeme n) refl is (λ h. cc) ∙ sym (ap (λ (x : Piece). is_bracket (part_of_piece x)) e)
    of (a_text x is e) =
        none (is_bracket (part_of_word (word t) t.place)) (quoted x) refl is (λ h. cc) ∙ sym (ap (λ (x : Piece). is_bracket (part_of_piece x)) e)
    of (a_word e) = sym (ap (λ (x : Piece). is_bracket (part_of_piece x)) e)

-- ---- what is known of the words before

abbrev pub Known : Stage → List Word → Type 0
Known line_over ws = Unit {0}
Known q ws = (list_any is_size ws ≡ sized q) × (is_open ws ≡ opened q)

abbrev pub same : Bool → Bool → Bool
same true b = b
same false b = not b

pub same-so : (a b : Bool) → IsTrue (same a b) → a ≡ b
same-so true b h = sym h
same-so false true h = absurd cc
same-so false false h = refl

pub both : (a b : Bool) → IsTrue (a && b) → IsTrue a × IsTrue b
both true b h = (refl, h)
both false b h = absurd cc

-- a state knows of the words before it
abbrev keeps : Stage → Part → Stage → Bool
keeps q x r = is_over r || (is_tree x || (same (sized r) (is_size_part x || sized q) && same (opened r) (is_bracket x)))

abbrev pub if_some : (Stage → Bool) → Option Stage → Bool
if_some f None = true
if_some f (Some r) = f r

all-keep : (q : Stage) (x : Part) → IsTrue (if_some (keeps q x) (step q x))
all-keep front line_end = refl
all-keep named_next line_end = refl
all-keep maybe line_end = refl
all-keep operand_next line_end = refl
all-keep operand_read line_end = refl
all-keep hashed line_end = refl
all-keep item line_end = refl
all-keep item_read line_end = refl
all-keep count_next line_end = refl
all-keep count_read line_end = refl
all-keep item_over line_end = refl
all-keep q x = refl

abbrev keeps_tree : Stage → Stage → Bool
keeps_tree q r = not (is_over r) && (same (sized r) (sized q) && same (opened r) (opened q))

tree-keeps : (q : Stage) (e : Tree) (p : Place) → IsTrue (if_some (keeps_tree q) (step q (tree e p)))
tree-keeps maybe e p = refl
tree-keeps q e p = refl

pub kept-so : (f : Stage → Bool) (o : Option Stage) {r : Stage} → IsTrue (if_some f o) → o ≡ Some r → IsTrue (f r)
kept-so f None h e = absurd cc
kept-so f (Some r) h e = subst (λ (r : Stage). IsTrue (f r)) (some-one e) h

-- of a state that isn't the last one, by cases
known-as : (r : Stage) (ws : List Word) → (IsTrue (not (is_over r)) → (list_any is_size ws ≡ sized r) × (is_open ws ≡ opened r)) → Known r ws
known-as line_over ws k = tt
known-as r ws k = k refl

known-is : (q : Stage) (ws : List Word) → is_over q ≡ false → Known q ws → (list_any is_size ws ≡ sized q) × (is_open ws ≡ opened q)
known-is line_over ws o k = absurd cc
known-is q ws o k = k

pub ahead : (q : Stage) (x : Part) {r : Stage} → step q x ≡ Some r → is_over q ≡ false
ahead line_over x h = absurd cc
ahead q x h = refl

or-right : (a b : Bool) → a ≡ false → IsTrue (a || b) → IsTrue b
or-right true b e h = absurd cc
or-right false b e h = h

left-false : (a b : Bool) → a || b ≡ false → a ≡ false
left-false true b h = absurd cc
left-false false b h = refl

pub right-false : (a b : Bool) → a || b ≡ false → b ≡ false
right-false true b h = absurd cc
right-false false b h = h

isnt : (b : Bool) → IsTrue (not b) → b ≡ false
isnt true h = absurd cc
isnt false h = refl

pub token-known : (q r : Stage) (ws : List Word) (t : LineToken) → Known q ws → step q (of_token t) ≡ Some r → Known r (word t ∷ ws)
token-known q r ws t known g = known-as r (word t ∷ ws) (λ o. by o (known-is q ws (ahead q (of_token t) g) known))
  where
    by : IsTrue (not (is_over r)) → (list_any is_size ws ≡ sized q) × (is_open ws ≡ opened q)
        → (is_size (word t) || list_any is_size ws ≡ sized r) × (is_open (word t ∷ ws) ≡ opened r)
    by o k =
        let x = of_token t in
        let h = or-right (is_over r) _ (isnt (is_over r) o) (kept-so (keeps q x) (step q x) (all-keep q x) g) in
        let it = both (same (sized r) (is_size_part x || sized q)) (same (opened r) (is_bracket x))
        (or-right (is_tree x) _ (left-false (is_tree x) (is_label x) (plain-token t)) h) in (
          ap₂ (λ (a : Bool) (b : Bool). a || b) (size-token t) k.0 ∙ sym (same-so (sized r) (is_size_part x || sized q) it.0),
          open-token t ws ∙ sym (same-so (opened r) (is_bracket x) it.1),
        )

pub label-known : (q r : Stage) (ws : List Word) (n : List ℕ) (p : Place) → Known q ws → step q (behind_colon n p) ≡ Some r → Known r (words.Name ∷ ws)
label-known named_next front ws n p known g = (known.0, refl)
label-known named_next r ws n p known g = absurd cc
label-known q r ws n p known g = absurd cc

pub tree-known : (q r : Stage) (ws : List Word) (e : Tree) (p : Place) → Known q ws → step q (tree e p) ≡ Some r → Known r ws
tree-known q r ws e p known g =
    let k = known-is q ws (ahead q (tree e p) g) known in
    let h = both (not (is_over r)) _ (kept-so (keeps_tree q) (step q (tree e p)) (tree-keeps q e p) g) in
    let it = both (same (sized r) (sized q)) (same (opened r) (opened q)) h.1 in
    known-as r ws (λ o. (k.0 ∙ sym (same-so (sized r) (sized q) it.0), k.1 ∙ sym (same-so (opened r) (opened q) it.1)))

pub fits : (q : Stage) (ws : List Word) (w : Word) → is_over q ≡ false → Known q ws → in_data ws w ≡ setting q
fits q ws w o known =
    let k = known-is q ws o known in ap₂ (λ (x : Bool) (y : Bool). if x && not y then in_data_item else in_dat) k.0 k.1

-- ---- its laws

-- where an expression may stand, another part
data Clash (q : Stage) (x : Part) : Type 0 where
  a_size : q ≡ item → IsTrue (is_size_part x) → Clash q x
  a_string : q ≡ item → (t : List ℕ) (p : Place) → x ≡ text t p → Clash q x
  a_hash : q ≡ operand_next → IsTrue (is_hash x) → Clash q x
  a_bar : IsTrue (is_bar x) → Clash q x

tree-there : (q : Stage) (x : Part) {r : Stage} → step q x ≡ Some r → (e : Tree) (p : Place) {r' : Stage} → step q (tree e p) ≡ Some r' → is_tree x ≡ false
    → Clash q x
tree-there maybe line_end g e p g' n = a_bar refl
tree-there maybe x g e p g' n = absurd cc
tree-there operand_next hash g e p g' n = a_hash refl refl
tree-there operand_next comma g e p g' n = a_bar refl
tree-there operand_next (effect b) g e p g' n = a_bar refl
tree-there operand_next line_end g e p g' n = a_bar refl
tree-there operand_next x g e p g' n = absurd cc
tree-there hashed (tree d o) g e p g' n = absurd cc
tree-there hashed x g e p g' n = absurd cc
tree-there item (size m o) g e p g' n = a_size refl refl
tree-there item (text t o) g e p g' n = a_string refl t o refl
tree-there item line_end g e p g' n = a_bar refl
tree-there item x g e p g' n = absurd cc
tree-there count_next (tree d o) g e p g' n = absurd cc
tree-there count_next x g e p g' n = absurd cc
tree-there q x g e p g' n = absurd cc

fails-first : (s : Setting) (t : LineToken) (us : List LineToken) (e : Tree) → machine_step (start s) (term t) ≡ None → IsExpression s e (terms (t ∷ us)) → ⊥
fails-first s t us e none is = dead s (term t ∷ []) (ap (λ o. option_and_then (λ st. walk st []) o) none) (terms us, e, is)

size-fails : (t : LineToken) {z : ℕ} {x : Lexeme} → IsLike (size_lexeme_of z) x → machine_step (start in_data_item) (token t.place x) ≡ None
size-fails t the_word = refl
size-fails t (the_reserved n) = refl

text-fails : (p : Place) (x : List ℕ) → IsTrue (nat_lt 1 (length x)) → machine_step (start in_data_item) (token p (quoted x)) ≡ None
text-fails p [] h = refl
text-fails p (c ∷ []) h = absurd cc
text-fails p (c ∷ d ∷ x) h = refl

word-text : (w : Word) (p : Place) (x : List ℕ) (o : Place) → part_of_word w p ≡ text x o → ⊥
unfolding part_of_word
word-text words.Comma p x o h = cc
word-text w p x o h = cc

of-text : (t : LineToken) (x : List ℕ) (o : Place) → of_token t ≡ text x o → lexeme t ≡ quoted x
of-text t x o e = of (sort t)
  where
    of : Sort t → lexeme t ≡ quoted x
    of (a_name n is h) = let never : name n t.place ≡ text x o = ap part_of_piece (sym h) ∙ e in absurd cc
    of (a_text y is h) = let here : text y t.place ≡ text x o = ap part_of_piece (sym h) ∙ e in is ∙ (let same : y ≡ x = cc in ap quoted same)
    of (a_word h) = absurd (word-text (word t) t.place x o (ap part_of_piece (sym h) ∙ e))

no-tree : (q r r' : Stage) (t : LineToken) (e : Tree) (p : Place) → go q (of_token t) ≡ Some r → go q (tree e p) ≡ Some r'
    → (w : Word) (e' : Tree) (us : List LineToken) → IsExpression (setting q) e' (terms (t ∷ us)) → ⊥
no-tree q r r' t e p g g' w e' us is =
    by (tree-there q (of_token t) k.0 e p (known-step q (tree e p) g').0 (left-false (is_tree (of_token t)) (is_label (of_token t)) (plain-token t)))
  where
    k : (step q (of_token t) ≡ Some r) × IsTrue (is_known (of_token t))
    k = known-step q (of_token t) g

    at : (q' : Stage) → q ≡ q' → IsExpression (setting q') e' (terms (t ∷ us))
    at q' h = subst (λ (q : Stage). IsExpression (setting q) e' (terms (t ∷ us))) h is

    long : {x : List ℕ} {o : Place} → of_token t ≡ text x o → IsTrue (nat_lt 1 (length x))
    long h = subst (λ (x : Part). IsTrue (is_known x)) h k.1

    by : Clash q (of_token t) → ⊥
    by (a_size h s) = let z = size_lexeme t (size-token t ∙ s) in fails-first in_data_item t us e' (size-fails t z.1) (at item h)
    by (a_string h x o s) =
        fails-first in_data_item t us e'
        (ap (λ (x : Lexeme). machine_step (start in_data_item) (token t.place x)) (of-text t x o s) ∙ text-fails t.place x (long s)) (at item h)
    by (a_hash h s) =
        let v = hash-word (word t) t.place (by-word is_hash t (λ n p. refl) (λ x p. refl) s) in
        fails-first in_dat t us e' (ap (λ (x : Lexeme). machine_step (start in_dat) (token t.place x)) (hash_lexeme t v)) (at operand_next h)
    by (a_bar s) = begins-none (setting q) (terms us) t.place (lexeme t) (barred (setting q) t s) is

label-there : (q : Stage) (n : List ℕ) (p : Place) {r : Stage} → step q (behind_colon n p) ≡ Some r → q ≡ named_next
label-there named_next n p h = refl
label-there q n p h = absurd cc

no-more : (x : Part) {r : Stage} → step named_next x ≡ Some r → IsTrue (is_label x)
no-more (behind_colon n p) h = refl
no-more x h = absurd cc

token-label : (q r r' : Stage) (t : LineToken) (n : List ℕ) (p : Place) → go q (of_token t) ≡ Some r → go q (behind_colon n p) ≡ Some r' → ⊥
token-label q r r' t n p g g' =
    let l = label-there q n p (known-step q (behind_colon n p) g').0 in
    let h = no-more (of_token t) (ap (λ (q : Stage). step q (of_token t)) (sym l) ∙ (known-step q (of_token t) g).0) in
    let never : IsTrue (is_tree (of_token t) || is_label (of_token t)) = or-so (is_tree (of_token t)) (is_label (of_token t)) h in
    let refused : false ≡ true = sym (plain-token t) ∙ never in cc
  where
    or-so : (a b : Bool) → IsTrue b → IsTrue (a || b)
    or-so true b h = refl
    or-so false b h = h

label-tree : (q r r' : Stage) (n : List ℕ) (p : Place) (e : Tree) (p' : Place) → go q (behind_colon n p) ≡ Some r → go q (tree e p') ≡ Some r' → ⊥
label-tree q r r' n p e p' g g' =
    let l = label-there q n p (known-step q (behind_colon n p) g).0 in
    let h : None ≡ Some r' = ap (λ (q : Stage). step q (tree e p')) (sym l) ∙ (known-step q (tree e p') g').0 in cc

-- what stands behind a tree: a bar, or the bracket of a count
behind-so : (q r r' : Stage) (e : Tree) (p : Place) (x : Part) → step q (tree e p) ≡ Some r → step r x ≡ Some r'
    → IsTrue (is_bar x) ⊎ (IsTrue (is_bracket x) × (q ≡ item))
behind-so maybe operand_read r' e p comma g h = inl refl
behind-so maybe operand_read r' e p (effect b) g h = inl refl
behind-so maybe operand_read r' e p line_end g h = inl refl
behind-so maybe operand_read r' e p x g h = absurd cc
behind-so maybe r r' e p x g h = absurd cc
behind-so operand_next operand_read r' e p comma g h = inl refl
behind-so operand_next operand_read r' e p (effect b) g h = inl refl
behind-so operand_next operand_read r' e p line_end g h = inl refl
behind-so operand_next operand_read r' e p x g h = absurd cc
behind-so operand_next r r' e p x g h = absurd cc
behind-so hashed operand_read r' e p comma g h = inl refl
behind-so hashed operand_read r' e p (effect b) g h = inl refl
behind-so hashed operand_read r' e p line_end g h = inl refl
behind-so hashed operand_read r' e p x g h = absurd cc
behind-so hashed r r' e p x g h = absurd cc
behind-so item item_read r' e p comma g h = inl refl
behind-so item item_read r' e p left_bracket g h = inr (refl, refl)
behind-so item item_read r' e p line_end g h = inl refl
behind-so item item_read r' e p x g h = absurd cc
behind-so item r r' e p x g h = absurd cc
behind-so count_next count_read r' e p right_bracket g h = inl refl
behind-so count_next count_read r' e p x g h = absurd cc
behind-so count_next r r' e p x g h = absurd cc
behind-so q r r' e p x g h = absurd cc

behind-token : (q r r' : Stage) (e : Tree) (p : Place) (t : LineToken) → go q (tree e p) ≡ Some r → go r (of_token t) ≡ Some r' → (w : Word)
    → Bars (setting q) (lexeme t)
behind-token q r r' e p t g h w =
    by (behind-so q r r' e p (of_token t) (known-step q (tree e p) g).0 (known-step r (of_token t) h).0)
  where
    by : IsTrue (is_bar (of_token t)) ⊎ (IsTrue (is_bracket (of_token t)) × (q ≡ item)) → Bars (setting q) (lexeme t)
    by (inl b) = barred (setting q) t b
    by (inr b) =
        let v = bracket-word (word t) t.place (by-word is_bracket t (λ n p. refl) (λ x p. refl) b.0) in
        subst (λ (q : Stage). Bars (setting q) (lexeme t)) (sym b.1) (subst (λ (x : Lexeme). Bars in_data_item x) (sym (left_bracket_lexeme t v)) refl)

behind-other : (q r r' : Stage) (e : Tree) (p : Place) (x : Part) → go q (tree e p) ≡ Some r → go r x ≡ Some r' → is_bar x || is_bracket x ≡ false → ⊥
behind-other q r r' e p x g h n =
    by (behind-so q r r' e p x (known-step q (tree e p) g).0 (known-step r x h).0)
  where
    by : IsTrue (is_bar x) ⊎ (IsTrue (is_bracket x) × (q ≡ item)) → ⊥
    by (inl b) = let never : false ≡ true = sym (left-false (is_bar x) (is_bracket x) n) ∙ b in cc
    by (inr b) = let never : false ≡ true = sym (right-false (is_bar x) (is_bracket x) n) ∙ b.0 in cc

nothing-over : (r r' : Stage) (y : Part) → IsTrue (is_over r) → step r y ≡ Some r' → ⊥
nothing-over line_over r' y h g = cc
nothing-over r r' y h g = cc

pub clear : IsClear table
clear = record {
  token-tree = no-tree;
  token-label = token-label;
  label-tree = label-tree;
  behind-token = behind-token;
  behind-label = λ q r r' e p n p' g g'. behind-other q r r' e p (behind_colon n p') g g' refl;
  behind-tree = λ q r r' e p e' p' g g'. behind-other q r r' e p (tree e' p') g g' refl;
  ends = λ q r r' t y e g h g'. nothing-over r r' y h (known-step r y g').0;
  alike = λ q v w. (refl, refl);
}
