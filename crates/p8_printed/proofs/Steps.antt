-- Reading the words of a declaration back from a state on, a word at a time, and what holds of its parts.
use Rattle.std.proofs.Common.{◌≡◌, ℕ, List, [], ◌∷◌, ◌++◌, Option, Some, true, false, sym, ◌∙◌, subst}
use Rattle.p8_tree.specs.declared.places.Place.{Place}
use Rattle.p8_tree.specs.Expressions.{Tree}
use Rattle.p8_tree.specs.Forgetting.{IsSameTree}
use Rattle.p8_lexer.specs.declared.word.Word.{Word}
use Rattle.p8_lexer.specs.declared.word.Word.TheVariants as word_case
use Rattle.p8_grammar.specs.Lexemes.{Setting}
use Rattle.p8_lexer.specs.Pieces.{Piece}
use Rattle.p8_lines.specs.declared.arrow.Arrow.{Arrow}
use Rattle.p8_lines.specs.declared.state.LineState.{LineState}
use Rattle.p8_lines.specs.declared.state.LineState.TheVariants as state
use Rattle.p8_lines.specs.Diagram.{choices, outer}
use Rattle.p8_lines.specs.Tokens.{LineToken}
use Rattle.p8_lines.specs.Lines.{Follows}
use Rattle.p8_declarations.specs.Parts.{Part, line_end, name, tree, part_of_word, part_of_piece, parts}
use Rattle.p8_blocks.proofs.Pieces.{is_labelled}
use Rattle.p8_print.specs.Spelled as spelled
use Rattle.p8_print.specs.Spelled.{Spelled, IsReadable, is_free}
use Rattle.p8_print.specs.Wording.{wrapped}
use Rattle.p8_printed.specs.Lexemes.{IsInCapitals}
use Rattle.p8_printed.specs.Rereading.{IsSpelled, ReadsBack}
use Rattle.p8_printed.proofs.Readings.{IsRead, IsName}
use Rattle.p8_printed.proofs.RowSteps as rows
use Rattle.p8_printed.proofs.RowSteps.{RowBack, piece_at, LeadsTo, takes}

-- These words can be read back, and where they are read from a state on, with a line's end after them, this holds of
-- the parts.
pub record Back (q : LineState) (ws : List Spelled) (P : List Part → Type 0) : Type 0 where
  pub row : RowBack true q ws (λ row. P (parts row))

pub weaker : {q : LineState} {ws : List Spelled} {P Q : List Part → Type 0} → ((ps : List Part) → P ps → Q ps) → Back q ws P → Back q ws Q
weaker f b = record { row = rows.weaker (λ row. f (parts row)) b.row }

pub same_words : {q : LineState} {ws vs : List Spelled} {P : List Part → Type 0} → ws ≡ vs → Back q vs P → Back q ws P
same_words {q = q} {P = P} e b = subst (λ ws. Back q ws P) (sym e) b

-- the line's end
pub ends : (q : LineState) {P : List Part → Type 0} → LeadsTo (choices q).arrows word_case.LineEnd state.End → P (line_end ∷ []) → Back q [] P
unfolding part_of_word
ends q {P = P} h p = record { row = rows.ends q {P = λ row. P (parts row)} h (λ o. p) }

-- one word and those after it
pub one : (q r : LineState) → is_labelled q ≡ false → (w : Spelled) {ws : List Spelled} {P : List Part → Type 0} → IsReadable w → IsInCapitals w → ((t : LineToken) → IsSpelled w t → Follows (choices q).arrows t r) → Back r ws (λ ps. (p : Place) → P (part_of_piece (piece_at w p) ∷ ps)) → Back q (w ∷ ws) P
one q r unlabelled w {P = P} readable capitals f b = record { row = rows.one q r unlabelled w {P = λ row. P (parts row)} readable capitals f b.row }

pub a_word : (q r : LineState) → is_labelled q ≡ false → (w : Word) {ws : List Spelled} {P : List Part → Type 0} → is_free w ≡ false → LeadsTo (choices q).arrows w r → Back r ws (λ ps. (p : Place) → P (part_of_word w p ∷ ps)) → Back q (spelled.reserved w ∷ ws) P
a_word q r unlabelled w {P = P} free h b = record { row = rows.a_word q r unlabelled w {P = λ row. P (parts row)} free h b.row }

pub a_name : (q r : LineState) → is_labelled q ≡ false → (n : List ℕ) {ws : List Spelled} {P : List Part → Type 0} → IsName n → LeadsTo (choices q).arrows word_case.Name r → Back r ws (λ ps. (p : Place) → P (name n p ∷ ps)) → Back q (spelled.name n ∷ ws) P
a_name q r unlabelled n {P = P} good h b = one q r unlabelled (spelled.name n) {P = P} good.0 good.1 (λ t is. takes (choices q).arrows word_case.Name r t h is.word) b

-- where such an expression stands, and the arrows after it
abbrev pub Expects : LineState → Setting → List Arrow → Type 0
Expects q s l = (choices q).phrase ≡ Some (outer s l)

-- an expression at the line's end
pub last : (q : LineState) (s : Setting) (e : Tree) {l : List Arrow} {P : List Part → Type 0} → Expects q s l → IsRead s e → LeadsTo l word_case.LineEnd state.End → ((e' : Tree) → IsSameTree e' e → P (tree e' ∷ line_end ∷ [])) → Back q (wrapped e) P
unfolding part_of_word
last q s e {l = l} {P = P} some r h p = record { row = rows.last q (outer s l) e {P = λ row. P (parts row)} some r h (λ e' same o o'. p e' same) }

-- an expression, a word and those after it
pub before : (q r : LineState) (s : Setting) (e : Tree) (w : Word) {l : List Arrow} {ws : List Spelled} {P : List Part → Type 0} → Expects q s l → IsRead s e → is_free w ≡ false → LeadsTo l w r
    → Back r ws (λ ps. (p : Place) (e' : Tree) → IsSameTree e' e → P (tree e' ∷ part_of_word w p ∷ ps)) → Back q (wrapped e ++ spelled.reserved w ∷ ws) P
before q r s e w {l = l} {ws = ws} {P = P} some y free h b = record {
  row = rows.before q r (outer s l) e w {ws = ws} {P = λ row. P (parts row)} some y free h (rows.weaker (λ row k p e' same o. k p e' same) b.row);
}

-- a line whose words are read back, with its value
pub reads_back : {V : Type 0} (value : List Piece → Option V) (of_parts : List Part → Option V) (anywhere : V → V) (q : LineState) (words : List Spelled) (v : V) → ((row : List Piece) → value row ≡ of_parts (parts row)) → Back q words (λ ps. (v' : V) × (of_parts ps ≡ Some v') × (anywhere v' ≡ anywhere v)) → ReadsBack value anywhere q words v
reads_back value of_parts anywhere q words v is b = record {
  readable = b.row.readable;
  capitals = b.row.capitals;
  read = λ ts t h e. let x = b.row.read ts t h e in let y = x.2 in (x.0, y.0, x.1, is x.0 ∙ y.1, y.2);
}
