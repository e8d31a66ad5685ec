-- What reading a line answers. A line is a way through the diagram to its end.
use Rattle.std.specs.Prelude.{◌≡◌, ℕ, ◌≤◌, Bool, true, false, if◌then◌else◌, List, [], ◌∷◌, ◌++◌, Some, unwrap_or}
use Rattle.p8_tree.specs.declared.places.Place.{Place}
use Rattle.p8_tree.specs.Expressions.{Tree}
use Rattle.p8_lexer.specs.declared.word.Word.{Word}
use Rattle.p8_tree.specs.declared.refusal.Refusal.TheVariants.{Unexpected, TooNested}
use Rattle.p8_tree.specs.Refusals.{refusal_number}
use Rattle.p8_grammar.specs.Lexemes.{Setting, name, method_result, plain, Lexeme}
use Rattle.p8_grammar.specs.Grammar.{IsExpression, IsFront}
use Rattle.p8_grammar.specs.Heights as heights
use Rattle.p8_grammar.specs.Heights.{height}
use Rattle.p8_expr.specs.Refusals.{refusal_of}
pub use Rattle.p8_expr.specs.Parsing.{greatest_height}
use Rattle.p8_lexer.specs.Pieces.{Piece, tree}
use Rattle.p8_lines.specs.Signs.{Matches}
use Rattle.p8_lines.specs.declared.arrow.Arrow.{Arrow}
use Rattle.p8_lines.specs.declared.state.LineState.{LineState}
use Rattle.p8_lines.specs.declared.state.LineState.TheVariants as state
use Rattle.p8_lines.specs.Diagram.{Phrase, choices, setting_at}
use Rattle.p8_lines.specs.Tokens.{LineToken, word, lexeme, terms, string_length, piece, label_piece}

abbrev pub IsOn : Arrow → LineToken → Type 0
IsOn a t = Matches a.sign (word t) (string_length t)

-- the first of the arrows that has the token leads to this state
pub data Follows : List Arrow → LineToken → LineState → Type 0 where
  here : {a : Arrow} {others : List Arrow} {t : LineToken} → IsOn a t → Follows (a ∷ others) t a.to
  further : {a : Arrow} {others : List Arrow} {t : LineToken} {q : LineState} → ¬ IsOn a t → Follows others t q → Follows (a ∷ others) t q

-- a name alone, or RESULT
abbrev pub is_name_word : Lexeme → Bool
is_name_word x = may_count (plain x)
  where
    may_count : Lexeme → Bool
    may_count (name n) = true
    may_count method_result = true
    may_count _ = false

abbrev pub is_name : List LineToken → Bool
is_name [] = false
is_name (t ∷ []) = is_name_word (lexeme t)
is_name (t ∷ u ∷ ts) = false

-- what may stand after the expression of these tokens
abbrev pub behind : Phrase → List LineToken → List Arrow
behind h us = if is_name us then h.behind_name else h.behind_other

-- the piece of a token that may stand at a state
abbrev pub piece_in : LineState → LineToken → Piece
piece_in state.DatLabel t = label_piece t
piece_in state.CallLocal t = label_piece t
piece_in q t = piece t

-- From a state on, these tokens are a line, or what is left of one, and these are its pieces.
pub data Row : LineState → List Piece → List LineToken → Type 0 where
  over : Row state.End [] []
  token : {q r : LineState} {row : List Piece} {t : LineToken} {ts : List LineToken} → Follows (choices q).arrows t r → Row r row ts →
      Row q (piece_in q t ∷ row) (t ∷ ts)
  phrase : {q r : LineState} {h : Phrase} {e : Tree} {row : List Piece} {first t : LineToken} (others : List LineToken) {ts : List LineToken} →
      (choices q).phrase ≡ Some h → IsExpression h.setting e (terms (first ∷ others)) → Follows (behind h (first ∷ others)) t r → Row r row ts →
      Row q (tree e first.place ∷ piece t ∷ row) ((first ∷ others) ++ t ∷ ts)

-- some line, or what is left of one, begins with these tokens
abbrev pub Begins : LineState → List LineToken → Type 0
Begins q ts = (rest : List LineToken) × (row : List Piece) × Row q row (ts ++ rest)

-- These tokens lead from one state to another, as these pieces; no expression among them is too high.
pub data Leads : LineState → List LineToken → List Piece → LineState → Type 0 where
  nowhere : {q : LineState} → Leads q [] [] q
  by_token : {q r s : LineState} {row : List Piece} {t : LineToken} {ts : List LineToken} → Follows (choices q).arrows t r → Leads r ts row s →
      Leads q (t ∷ ts) (piece_in q t ∷ row) s
  by_phrase : {q r s : LineState} {h : Phrase} {e : Tree} {row : List Piece} {first t : LineToken} (others : List LineToken) {ts : List LineToken} →
      (choices q).phrase ≡ Some h → IsExpression h.setting e (terms (first ∷ others)) → height e ≤ greatest_height →
      Follows (behind h (first ∷ others)) t r → Leads r ts row s → Leads q ((first ∷ others) ++ t ∷ ts) (tree e first.place ∷ piece t ∷ row) s

-- some of these tokens, from the first one, begin an expression, and each that begins so is too high
pub record IsTooHigh (h : Phrase) (ts : List LineToken) : Type 0 where
  pub front : List LineToken
  pub rest : List LineToken
  pub split : ts ≡ front ++ rest
  pub begins : IsFront h.setting (terms front)
  pub high : heights.IsTooHigh h.setting greatest_height (terms front)

-- among these tokens an expression begins that is too high
pub record HasTooHigh (q : LineState) (ts : List LineToken) : Type 0 where
  pub before : List LineToken
  pub after : List LineToken
  pub split : ts ≡ before ++ after
  pub row : List Piece
  pub at : LineState
  pub leads : Leads q before row at
  pub phrase : Phrase
  pub expects : (choices at).phrase ≡ Some phrase
  pub high : IsTooHigh phrase after

-- the number of the refusal of a token that can't stand where it does: floating point and what the
-- machine doesn't carry out have their own
abbrev pub number_of : Setting → Word → ℕ
number_of s w = refusal_number (unwrap_or (refusal_of s w) Unexpected)

pub data Outcome : Type 0 where
  -- a line's pieces, and the tokens after it
  read : List Piece → List LineToken → Outcome
  -- the number of a refusal and its place
  refused : ℕ → Place → Outcome

-- Reading these tokens as a line from a state on answers so.
pub data Reads (q : LineState) (ts : List LineToken) : Outcome → Type 0 where
  line : {row : List Piece} {us rest : List LineToken} → ts ≡ us ++ rest → Leads q us row state.End → Reads q ts (read row rest)
  -- the first expression, or action, that is too high is refused at its first token
  too_high : {row : List Piece} {us vs : List LineToken} {t : LineToken} {r : LineState} {h : Phrase} → ts ≡ us ++ t ∷ vs → Leads q us row r →
      (choices r).phrase ≡ Some h → IsTooHigh h (t ∷ vs) → Reads q ts (refused (refusal_number TooNested) t.place)
  -- the first token with which the tokens up to it begin no line, where those before it are no line
  stopped : {us : List LineToken} (t : LineToken) (vs : List LineToken) → ts ≡ us ++ t ∷ vs → Begins q us → ((row : List Piece) → ¬ Row q row us) →
      ¬ Begins q (us ++ t ∷ []) → ¬ HasTooHigh q us → Reads q ts (refused (number_of (setting_at q) (word t)) t.place)

-- tokens are read in one way
abbrev pub OneReading : Type 0
OneReading = (q : LineState) (ts : List LineToken) (o o' : Outcome) → Reads q ts o → Reads q ts o' → o ≡ o'
