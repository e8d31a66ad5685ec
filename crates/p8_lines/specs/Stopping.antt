-- internal: where reading a line stops, from a state in its midst.
use Rattle.std.specs.Prelude.{◌≡◌, ℕ, ◌+◌, ◌<◌, ◌≤◌, length, take, List, [], ◌∷◌, ◌++◌, Some, option_map, unwrap_or, slice_get, map}
use Rattle.p8_tree.specs.declared.places.Place.{Place}
use Rattle.p8_lexer.specs.declared.token.Token as lexer_token
use Rattle.p8_lexer.specs.declared.word.Word.{Word}
use Rattle.p8_tree.specs.declared.refusal.Refusal.TheVariants.{TooNested}
use Rattle.p8_tree.specs.Refusals.{refusal_number}
use Rattle.p8_grammar.specs.Lexemes.{Setting}
use Rattle.p8_expr.specs.Refusals.{refusal_of}
use Rattle.p8_expr.specs.Cursors.{Spot, moved}
use Rattle.p8_lexer.specs.Pieces.{Piece}
use Rattle.p8_lines.specs.declared.state.LineState.{LineState}
use Rattle.p8_lines.specs.declared.state.LineState.TheVariants as state
use Rattle.p8_lines.specs.Diagram.{Phrase, choices}
use Rattle.p8_lines.specs.Tokens.{LineToken, word, line_token, text_end, tokens_from}
use Rattle.p8_lines.specs.Lines.{Row, Begins, Leads, IsTooHigh, HasTooHigh, number_of}

-- the token of this number, or the text's end
abbrev pub token_at : List ℕ → List lexer_token.Token → ℕ → LineToken
token_at bytes tokens at = unwrap_or (option_map (line_token bytes) (slice_get tokens at)) (text_end (map (line_token bytes) tokens))

abbrev pub next : Spot → LineToken
next s = token_at s.bytes s.tokens s.at

-- so many tokens from one on
abbrev pub run : List ℕ → List lexer_token.Token → ℕ → ℕ → List LineToken
run bytes tokens at n = take n (tokens_from bytes tokens at)

-- The words that are refused by themselves are the same in the setting of a state's expression as in that of the line.
abbrev pub FitsSetting : Setting → LineState → Type 0
FitsSetting s q = (h : Phrase) → (choices q).phrase ≡ Some h → (w : Word) → refusal_of h.setting w ≡ refusal_of s w

-- Reading stops so at a state, in a line of this setting.
pub data Stops (s : Setting) (q : LineState) (ts : List LineToken) : ℕ → Place → Type 0 where
  too_high : {h : Phrase} {t : LineToken} {vs : List LineToken} → ts ≡ t ∷ vs → (choices q).phrase ≡ Some h → IsTooHigh h (t ∷ vs) →
      Stops s q ts (refusal_number TooNested) t.place
  stopped : {us : List LineToken} (t : LineToken) (vs : List LineToken) → ts ≡ us ++ t ∷ vs → Begins q us → ((row : List Piece) → ¬ Row q row us) →
      ¬ Begins q (us ++ t ∷ []) → ¬ HasTooHigh q us → Stops s q ts (number_of s (word t)) t.place

-- the tokens of these numbers lead from one state to another
pub record Goes (bytes : List ℕ) (tokens : List lexer_token.Token) (at end : ℕ) (q : LineState) (row : List Piece) (r : LineState) : Type 0 where
  pub taken : List LineToken
  pub split : tokens_from bytes tokens at ≡ taken ++ tokens_from bytes tokens end
  pub leads : Leads q taken row r

-- From a spot to another one they are read: their pieces stand after the others, and nothing but a line's end ends a text.
pub record Advances (s t : Spot) (q : LineState) (old new : List Piece) (r : LineState) : Type 0 where
  pub row : List Piece
  pub kept : new ≡ old ++ row
  pub goes : Goes s.bytes s.tokens s.at t.at q row r
  pub same : t ≡ moved s t.at
  pub onward : s.at < t.at
  pub within : t.at ≤ length s.tokens + 1
  pub ended : length s.tokens < t.at → r ≡ state.End
