-- Reading words back from a state on, a word at a time, and what holds of the row of pieces.
use Rattle.std.proofs.Common.{◌≡◌, ℕ, ◌≤◌, List, [], ◌∷◌, ◌++◌, map, Some, Bool, true, false, refl, sym, ap, ap₂, ◌∙◌, subst, subst₂, append_assoc}
use Rattle.std.specs.Prelude.{All, if◌then◌else◌, slice_index}
use Rattle.std.proofs.lemmas.List.Elements.{All-nil, All-cons, All-append, All-head, All-tail}
use Rattle.p8_tree.specs.declared.places.Place.{Place}
use Rattle.p8_tree.specs.Expressions.{Tree}
use Rattle.p8_tree.specs.Forgetting.{IsSameTree}
use Rattle.p8_lexer.specs.declared.word.Word.{Word}
use Rattle.p8_lexer.specs.declared.word.Word.TheVariants as word_case
use Rattle.p8_lexer.specs.Lexing.{is_letter}
use Rattle.p8_lexer.specs.Words.{spelling, capital}
use Rattle.p8_grammar.specs.Lexemes.{Setting}
use Rattle.p8_grammar.specs.Grammar.{IsExpression}
use Rattle.p8_grammar.specs.Heights.{height}
use Rattle.p8_expr.specs.Words.{lexeme_of_word, reserved_as}
use Rattle.p8_lexer.specs.Pieces.{Piece, word, name, text, tree}
use Rattle.p8_lines.specs.declared.arrow.Arrow.{Arrow}
use Rattle.p8_lines.specs.declared.state.LineState.{LineState}
use Rattle.p8_lines.specs.declared.state.LineState.TheVariants as state
use Rattle.p8_lines.specs.Diagram.{Phrase, choices}
use Rattle.p8_lines.specs.Tokens as tokens
use Rattle.p8_lines.specs.Tokens.{LineToken, string_length, lexeme, terms, piece_from, piece}
use Rattle.p8_lines.specs.Lines.{Follows, Leads, nowhere, by_token, by_phrase}
use Rattle.p8_lines.proofs.Matching.{target, follows}
use Rattle.p8_blocks.proofs.Pieces.{is_word, word_piece, is_labelled, plain_piece}
use Rattle.p8_print.specs.Spelled as spelled
use Rattle.p8_print.specs.Spelled.{Spelled, IsReadable, is_free}
use Rattle.p8_print.specs.Wording.{wrapped}
use Rattle.p8_printed.specs.Reading.{word_read}
use Rattle.p8_printed.specs.Lexemes.{lexeme_of_reserved, lexeme_of_label, lexeme_of_spelled, AreWords, IsInCapitals}
use Rattle.p8_printed.specs.Rereading.{IsSpelled, AreSpelled, with_line_end}
use Rattle.p8_printed.proofs.ReadWords.{lexeme_is}
use Rattle.p8_printed.proofs.Printed.{wrapped_printed, wrapped_back}
use Rattle.p8_printed.proofs.Readings.{IsRead}

-- These words can be read back, and where they are read from a state on, this holds of the row. The line's end stands
-- after them, unless the line ends with a word of its own.
pub record RowBack (ended : Bool) (q : LineState) (ws : List Spelled) (P : List Piece → Type 0) : Type 0 where
  pub readable : All IsReadable ws
  pub capitals : All IsInCapitals ws
  pub read : (ts : List LineToken) (t : LineToken) → AreSpelled ws ts → tokens.word t ≡ word_case.LineEnd → (row : List Piece) × Leads q (with_line_end ended ts t) row state.End × P row

pub weaker : {ended : Bool} {q : LineState} {ws : List Spelled} {P Q : List Piece → Type 0} → ((row : List Piece) → P row → Q row) → RowBack ended q ws P → RowBack ended q ws Q
weaker f b = record { readable = b.readable; capitals = b.capitals; read = λ ts t h e. let x = b.read ts t h e in (x.0, x.1, f x.0 x.2) }

pub same_words : {ended : Bool} {q : LineState} {ws vs : List Spelled} {P : List Piece → Type 0} → ws ≡ vs → RowBack ended q vs P → RowBack ended q ws P
same_words {ended = ended} {q = q} {P = P} e b = subst (λ ws. RowBack ended q ws P) (sym e) b

-- what a word is as a piece

abbrev pub piece_at : Spelled → Place → Piece
piece_at (spelled.reserved w) p = word w p
piece_at (spelled.name n) p = name n p
piece_at (spelled.label n) p = piece_from (lexeme_of_label n) (word_read (spelled.label n)) p
piece_at (spelled.number v) p = word word_case.Number p
piece_at (spelled.string s) p = text s p

with_characters : (w : Word) (n : List ℕ) (p : Place) → piece_from (reserved_as n (lexeme_of_word w)) w p ≡ word w p
unfolding lexeme_of_word
with_characters word_case.PlusPlus n p = refl
with_characters w n p = refl

reserved_piece : (w : Word) (p : Place) → piece_from (lexeme_of_reserved w) w p ≡ word w p
unfolding lexeme_of_reserved
reserved_piece w p = go (is_letter (slice_index (spelling w) 0))
  where
    go : (b : Bool) → piece_from (if b then reserved_as (map capital (spelling w)) (lexeme_of_word w) else lexeme_of_word w) w p ≡ word w p
    go true = with_characters w (map capital (spelling w)) p
    go false = is_word w p

spelled_piece : (w : Spelled) (p : Place) → piece_from (lexeme_of_spelled w) (word_read w) p ≡ piece_at w p
spelled_piece (spelled.reserved w) p = reserved_piece w p
spelled_piece (spelled.name n) p = refl
spelled_piece (spelled.label n) p = refl
spelled_piece (spelled.number v) p = refl
spelled_piece (spelled.string s) p = refl

pub token_lexeme : (w : Spelled) (t : LineToken) → IsReadable w → IsInCapitals w → IsSpelled w t → lexeme t ≡ lexeme_of_spelled w
token_lexeme w t readable capitals h = lexeme_is w t.text t.kind readable capitals h.kind h.word h.text

pub token_piece : (w : Spelled) (t : LineToken) → IsReadable w → IsInCapitals w → IsSpelled w t → piece t ≡ piece_at w t.place
token_piece w t readable capitals h = ap₂ (λ x v. piece_from x v t.place) (token_lexeme w t readable capitals h) h.word ∙ spelled_piece w t.place

-- arrows

-- a token with this word, other than a string, takes the arrow to this state
abbrev pub LeadsTo : List Arrow → Word → LineState → Type 0
LeadsTo l w r = (n : ℕ) → target l w n ≡ Some r

pub takes : (l : List Arrow) (w : Word) (r : LineState) (t : LineToken) → LeadsTo l w r → tokens.word t ≡ w → Follows l t r
takes l w r t h e = follows l t r (ap (λ v. target l v (string_length t)) e ∙ h (string_length t))

-- a line doesn't end where a local label's name stands
pub unlabelled_end : (q : LineState) → LeadsTo (choices q).arrows word_case.LineEnd state.End → is_labelled q ≡ false
unlabelled_end state.DatLabel h = absurd (let z = h 0 in cc)
unlabelled_end state.CallLocal h = absurd (let z = h 0 in cc)
unlabelled_end q h = refl

-- the line's end
pub ends : (q : LineState) {P : List Piece → Type 0} → LeadsTo (choices q).arrows word_case.LineEnd state.End → ((p : Place) → P (word word_case.LineEnd p ∷ [])) → RowBack true q [] P
ends q {P = P} h p = record { readable = All-nil IsReadable; capitals = All-nil IsInCapitals; read = go }
  where
    go : (ts : List LineToken) (t : LineToken) → AreSpelled [] ts → tokens.word t ≡ word_case.LineEnd → (row : List Piece) × Leads q (ts ++ t ∷ []) row state.End × P row
    go [] t h' e = (
      piece t ∷ [],
      subst (λ x. Leads q (t ∷ []) (x ∷ []) state.End) (plain_piece q t (unlabelled_end q h)) (by_token (takes (choices q).arrows word_case.LineEnd state.End t h e) nowhere),
      subst (λ x. P (x ∷ [])) (sym (word_piece t word_case.LineEnd refl e)) (p t.place),
    )
    go (u ∷ ts) t h' e = absurd h'

-- the end of a line that ends with a word of its own
pub over : {P : List Piece → Type 0} → P [] → RowBack false state.End [] P
over {P = P} p = record { readable = All-nil IsReadable; capitals = All-nil IsInCapitals; read = go }
  where
    go : (ts : List LineToken) (t : LineToken) → AreSpelled [] ts → tokens.word t ≡ word_case.LineEnd → (row : List Piece) × Leads state.End ts row state.End × P row
    go [] t h e = ([], nowhere, p)
    go (u ∷ ts) t h e = absurd h

in_front : (ended : Bool) (us ts : List LineToken) (t : LineToken) → with_line_end ended (us ++ ts) t ≡ us ++ with_line_end ended ts t
in_front true us ts t = append_assoc us ts (t ∷ [])
in_front false us ts t = refl

-- one word and those after it
pub one : {ended : Bool} (q r : LineState) → is_labelled q ≡ false → (w : Spelled) {ws : List Spelled} {P : List Piece → Type 0} → IsReadable w → IsInCapitals w → ((t : LineToken) → IsSpelled w t → Follows (choices q).arrows t r) → RowBack ended r ws (λ row. (p : Place) → P (piece_at w p ∷ row)) → RowBack ended q (w ∷ ws) P
one {ended} q r unlabelled w {ws = ws} {P = P} readable capitals f b = record {
  readable = All-cons IsReadable w ws readable b.readable;
  capitals = All-cons IsInCapitals w ws capitals b.capitals;
  read = go;
}
  where
    go : (ts : List LineToken) (t : LineToken) → AreSpelled (w ∷ ws) ts → tokens.word t ≡ word_case.LineEnd → (row : List Piece) × Leads q (with_line_end ended ts t) row state.End × P row
    go [] t h e = absurd h
    go (u ∷ ts) t h e =
        let x = b.read ts t h.1 e in
        let row : List Piece = piece u ∷ x.0 in (
          row,
          subst₂ (λ l y. Leads q l (y ∷ x.0) state.End) (sym (in_front ended (u ∷ []) ts t)) (plain_piece q u unlabelled) (by_token (f u h.0) x.1),
          subst (λ y. P (y ∷ x.0)) (sym (token_piece w u readable capitals h.0)) (x.2 u.place),
        )

pub a_word : {ended : Bool} (q r : LineState) → is_labelled q ≡ false → (w : Word) {ws : List Spelled} {P : List Piece → Type 0} → is_free w ≡ false → LeadsTo (choices q).arrows w r → RowBack ended r ws (λ row. (p : Place) → P (word w p ∷ row)) → RowBack ended q (spelled.reserved w ∷ ws) P
a_word q r unlabelled w free h b = one q r unlabelled (spelled.reserved w) free tt (λ t is. takes (choices q).arrows w r t h is.word) b

-- expressions

pub split_spelled : (xs ys : List Spelled) (ts : List LineToken) → AreSpelled (xs ++ ys) ts → (us : List LineToken) × (vs : List LineToken) × (ts ≡ us ++ vs) × AreSpelled xs us × AreSpelled ys vs
split_spelled [] ys ts h = ([], ts, refl, tt, h)
split_spelled (x ∷ xs) ys [] h = absurd h
split_spelled (x ∷ xs) ys (t ∷ ts) h =
    let r = split_spelled xs ys ts h.1 in
    (t ∷ r.0, r.1, ap (λ l. t ∷ l) r.2, (h.0, r.3), r.4)

pub spelled_words : (ws : List Spelled) (ts : List LineToken) → All IsReadable ws → All IsInCapitals ws → AreSpelled ws ts → AreWords (terms ts) ws
spelled_words [] [] readable capitals h = refl
spelled_words [] (t ∷ ts) readable capitals h = absurd h
spelled_words (w ∷ ws) [] readable capitals h = absurd h
spelled_words (w ∷ ws) (t ∷ ts) readable capitals h =
    ap₂ (λ x xs. x ∷ xs) (token_lexeme w t (All-head IsReadable w ws readable) (All-head IsInCapitals w ws capitals) h.0)
    (spelled_words ws ts (All-tail IsReadable w ws readable) (All-tail IsInCapitals w ws capitals) h.1)

wrapped_readable : (s : Setting) (e : Tree) → IsRead s e → All IsReadable (wrapped e)
wrapped_readable s e r k d lt = (wrapped_printed r.is r.good k d lt).0

wrapped_capitals : (s : Setting) (e : Tree) → IsRead s e → All IsInCapitals (wrapped e)
wrapped_capitals s e r k d lt = (wrapped_printed r.is r.good k d lt).1

-- an expression that is read back from tokens, which are more than one name
record Reread (s : Setting) (e : Tree) (us : List LineToken) : Type 0 where
  first : LineToken
  second : LineToken
  others : List LineToken
  tokens : us ≡ first ∷ second ∷ others
  other : Tree
  is : IsExpression s other (terms (first ∷ second ∷ others))
  same : IsSameTree other e
  low : height other ≤ 64

no_words : (ws : List Spelled) (w : Spelled) → AreSpelled (ws ++ w ∷ []) [] → ⊥
no_words [] w h = h
no_words (v ∷ ws) w h = h

reread : (s : Setting) (e : Tree) (us : List LineToken) → IsRead s e → AreSpelled (wrapped e) us → Reread s e us
reread s e [] r h = absurd h
reread s e (u ∷ []) r h = absurd (no_words _ (spelled.reserved word_case.RightParenthesis) h.1)
reread s e (u ∷ v ∷ us) r h =
    let words = spelled_words (wrapped e) (u ∷ v ∷ us) (wrapped_readable s e r) (wrapped_capitals s e r) h in
    let x = wrapped_back {us = terms (u ∷ v ∷ us)} r.value r.is r.good words in
    let y = r.low in
    let z = x.3 in
    record { first = u; second = v; others = us; tokens = refl; other = x.0; is = x.1; same = x.2; low = subst (λ n. n ≤ 64) (sym z) y }

-- an expression at the line's end
pub last : (q : LineState) (h : Phrase) (e : Tree) {P : List Piece → Type 0} → (choices q).phrase ≡ Some h → IsRead h.setting e → LeadsTo h.behind_other word_case.LineEnd state.End
    → ((e' : Tree) → IsSameTree e' e → (p p' : Place) → P (tree e' p ∷ word word_case.LineEnd p' ∷ [])) → RowBack true q (wrapped e) P
last q h e {P = P} some r f p = record {
  readable = wrapped_readable h.setting e r;
  capitals = wrapped_capitals h.setting e r;
  read = go;
}
  where
    go : (ts : List LineToken) (t : LineToken) → AreSpelled (wrapped e) ts → tokens.word t ≡ word_case.LineEnd → (row : List Piece) × Leads q (ts ++ t ∷ []) row state.End × P row
    go ts t h' end =
        let x = reread h.setting e ts r h' in
        let row : List Piece = tree x.other x.first.place ∷ piece t ∷ [] in (
          row,
          subst (λ ts. Leads q (ts ++ t ∷ []) row state.End) (sym x.tokens)
              (by_phrase {first = x.first} (x.second ∷ x.others) some x.is x.low (takes h.behind_other word_case.LineEnd state.End t f end) nowhere),
          subst (λ y. P (tree x.other x.first.place ∷ y ∷ [])) (sym (word_piece t word_case.LineEnd refl end)) (p x.other x.same x.first.place t.place),
        )

-- an expression, a word and those after it
pub before : {ended : Bool} (q r : LineState) (h : Phrase) (e : Tree) (w : Word) {ws : List Spelled} {P : List Piece → Type 0} → (choices q).phrase ≡ Some h → IsRead h.setting e → is_free w ≡ false → LeadsTo h.behind_other w r
    → RowBack ended r ws (λ row. (p' : Place) (e' : Tree) → IsSameTree e' e → (p : Place) → P (tree e' p ∷ word w p' ∷ row)) → RowBack ended q (wrapped e ++ spelled.reserved w ∷ ws) P
before {ended} q r h e w {ws = ws} {P = P} some y free f b = record {
  readable =
      All-append IsReadable (wrapped e) (spelled.reserved w ∷ ws) (wrapped_readable h.setting e y)
      (All-cons IsReadable (spelled.reserved w) ws free b.readable);
  capitals =
      All-append IsInCapitals (wrapped e) (spelled.reserved w ∷ ws) (wrapped_capitals h.setting e y)
      (All-cons IsInCapitals (spelled.reserved w) ws tt b.capitals);
  read = λ ts t h' end. let z = split_spelled (wrapped e) (spelled.reserved w ∷ ws) ts h' in go ts z.0 z.1 t z.2 z.3 z.4 end;
}
  where
    go : (ts us vs : List LineToken) (t : LineToken) → ts ≡ us ++ vs → AreSpelled (wrapped e) us → AreSpelled (spelled.reserved w ∷ ws) vs → tokens.word t ≡ word_case.LineEnd → (row : List Piece) × Leads q (with_line_end ended ts t) row state.End × P row
    go ts us [] t split hu hv end = absurd hv
    go ts us (v ∷ vs) t split hu hv end =
        let x = reread h.setting e us y hu in
        let z = b.read vs t hv.1 end in
        let row : List Piece = tree x.other x.first.place ∷ piece v ∷ z.0 in
        let front : List LineToken = x.first ∷ x.second ∷ x.others in
        let is : with_line_end ended ts t ≡ front ++ v ∷ with_line_end ended vs t =
        ap (λ l. with_line_end ended l t) (split ∙ ap (λ us. us ++ v ∷ vs) x.tokens)
        ∙ in_front ended front (v ∷ vs) t
        ∙ ap (λ l. front ++ l) (in_front ended (v ∷ []) vs t)
        in (
          row,
          subst (λ l. Leads q l row state.End) (sym is)
              (by_phrase {first = x.first} (x.second ∷ x.others) some x.is x.low (takes h.behind_other w r v f hv.0.word) z.1),
          subst (λ p. P (tree x.other x.first.place ∷ p ∷ z.0)) (sym (token_piece (spelled.reserved w) v free tt hv.0))
              (z.2 v.place x.other x.same x.first.place),
        )
