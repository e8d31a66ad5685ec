-- What is read of a line of words.
use Rattle.std.specs.Prelude.{◌≡◌, Bool, true, false, not, List, [], ◌∷◌, ◌++◌, Option, Some, All}
use Rattle.p8_lexer.specs.declared.word.Word.TheVariants as word_case
use Rattle.p8_columns.specs.Lines.{Kind}
use Rattle.p8_lexer.specs.Pieces.{Piece}
use Rattle.p8_lines.specs.declared.state.LineState.{LineState}
use Rattle.p8_lines.specs.declared.state.LineState.TheVariants as state
use Rattle.p8_lines.specs.Tokens.{LineToken, word, terms}
use Rattle.p8_lines.specs.Lines.{Leads}
use Rattle.p8_statements.specs.Statements.{kind_of_row}
use Rattle.p8_blocks.specs.Files.{is_item}
use Rattle.p8_print.specs.Spelled.{Spelled, IsReadable, spell}
use Rattle.p8_print.specs.StatementWords.{words_of_kind}
use Rattle.p8_printed.specs.Reading.{IsKind, word_read}
use Rattle.p8_expr.specs.Sources.{AreLexemes}
use Rattle.p8_printed.specs.Lexemes.{IsInCapitals}
use Rattle.p8_printed.specs.Kinds.{kind_anywhere, begin_of}

-- a token is this word
pub record IsSpelled (w : Spelled) (t : LineToken) : Type 0 where
  pub kind : IsKind w t.kind
  pub word : word t ≡ word_read w
  pub text : t.text ≡ spell w

-- tokens are these words
abbrev pub AreSpelled : List Spelled → List LineToken → Type 0
AreSpelled [] [] = Unit {0}
AreSpelled (w ∷ ws) (t ∷ ts) = IsSpelled w t × AreSpelled ws ts
AreSpelled _ _ = ⊥

-- tokens that a source can have
abbrev pub AreOfSource : List LineToken → Type 0
AreOfSource ts = AreLexemes (terms ts)

-- the tokens of a line's words, with the token of its line's end, if it has one
abbrev pub with_line_end : Bool → List LineToken → LineToken → List LineToken
with_line_end true ts t = ts ++ t ∷ []
with_line_end false ts t = ts

-- Words are read back from a state on, as a line with this value; `anywhere` forgets the places of values.
pub record ReadsBack {V : Type 0} (value : List Piece → Option V) (anywhere : V → V) (q : LineState) (words : List Spelled) (v : V) : Type 0 where
  pub readable : All IsReadable words
  pub capitals : All IsInCapitals words
  pub read : (ts : List LineToken) (t : LineToken) → AreSpelled words ts → word t ≡ word_case.LineEnd →
      (row : List Piece) × (v' : V) × Leads q (ts ++ t ∷ []) row state.End × (value row ≡ Some v') × (anywhere v' ≡ anywhere v)

-- The words of a line of a method are read back as a line of the same kind, from the state from which such lines are read.
-- An item of a CASE ends with its colon, so no end of a line is read with it.
pub record LineReadsBack (k : Kind) : Type 0 where
  pub readable : All IsReadable (words_of_kind k)
  pub capitals : All IsInCapitals (words_of_kind k)
  pub read : (ts : List LineToken) (t : LineToken) → AreSpelled (words_of_kind k) ts → word t ≡ word_case.LineEnd →
      (row : List Piece) × (k' : Kind) × Leads (begin_of k) (with_line_end (not (is_item k)) ts t) row state.End × (kind_of_row row ≡ Some k') ×
      (kind_anywhere k' ≡ kind_anywhere k)
