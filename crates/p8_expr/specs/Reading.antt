-- internal: what the reader has come to. What comes of reading on from where it is, is what comes of reading from the beginning.
use Rattle.std.specs.Prelude.{◌≡◌, ℕ, ◌+◌, ◌<◌, ◌≤◌, min, Bool, true, false, Option, Some, None, List, length}
use Rattle.p8_tree.specs.Expressions.{Tree}
use Rattle.p8_tree.specs.Views.{tree_of}
use Rattle.p8_lexer.specs.declared.token.Token as lexer_token
use Rattle.p8_grammar.specs.Lexemes.{Setting, Lexeme, mark, Token, token}
use Rattle.p8_grammar.specs.Growing.{ended_by}
use Rattle.p8_grammar.specs.Machine.{Shape, using, reading, coloned, string_opened, tree, target, is_plain, grow, step, Frame, State, state, tree_in, fill_hole, start}
use Rattle.p8_grammar.specs.Outcomes.{Outcome, outcome, run}
use Rattle.p8_grammar.specs.Views.{setting_of}
use Rattle.p8_expr.specs.declared.lookahead.Lookahead.{Lookahead}
use Rattle.p8_expr.specs.declared.value.Value.{Value}
use Rattle.p8_expr.specs.declared.reading.Ended.{Ended}
use Rattle.p8_expr.specs.declared.reading.Ended.TheVariants as ended
use Rattle.p8_expr.specs.declared.reading.Reader.{Reader}
use Rattle.p8_expr.specs.Parsing.{tokens_from}
use Rattle.p8_expr.specs.Lookaheads.{left, next_place, next_word, next_lexeme, next_token, Fits, Follows}
use Rattle.p8_expr.specs.Views.{shape_of, left_of, target_in, is_alone, IsHigh, IsTall, frames_in}

-- a form is this operand, whose height is told with it, and the next token doesn't belong to the form
pub record Shows (v : Value) (sh : Shape) (ahead : Lookahead) : Type 0 where
  pub tree_is : tree sh ≡ Some (tree_in (left_of v))
  pub target_is : target sh ≡ target_in v
  pub plain_is : is_plain sh ≡ is_alone v
  pub high_is : IsHigh v
  pub ends : grow (setting_of ahead.setting) sh (next_place ahead) (next_lexeme ahead) ≡ None

abbrev pub state_of : Reader → State
state_of r = state (setting_of r.ahead.setting) (shape_of r.form) (frames_in r.stack)

-- what comes of reading from the token `at` on: the tokens from `end` on are left
pub record Read (s : Setting) (bytes : List ℕ) (tokens : List lexer_token.Token) (at : ℕ) (o : Option Tree) (l end : ℕ) : Type 0 where
  pub ordered : at ≤ end
  pub within : end ≤ length tokens
  pub comes : run (start s) (tokens_from bytes tokens at) ≡ outcome o l (tokens_from bytes tokens end)

-- so it ends, where an expression may be as high as the limit
abbrev pub IsEnded : Setting → ℕ → List ℕ → List lexer_token.Token → ℕ → Ended → Type 0
IsEnded s limit bytes tokens at (ended.Whole e end) = (n : ℕ) × (n ≤ limit) × Read s bytes tokens at (Some (tree_of e)) n end
IsEnded s limit bytes tokens at (ended.Broken end least) = (n : ℕ) × (least ≡ min 65 n) × Read s bytes tokens at None n end
IsEnded s limit bytes tokens at ended.TooHigh =
    (o : Option Tree) × (n : ℕ) × (us : List Token) × (limit < n) × (run (start s) (tokens_from bytes tokens at) ≡ outcome o n us)

-- the form of a reader at a place is this operand, and it has come to this state
abbrev pub Has : Lookahead → List Frame → Value → State → Type 0
Has ahead k v st = (sh : Shape) × Shows v sh ahead × (st ≡ state (setting_of ahead.setting) sh k)

-- how reading ends is this outcome, where the least height was so before the last word was looked at
abbrev pub Tells : List ℕ → List lexer_token.Token → ℕ → Ended → Outcome → Type 0
Tells bytes tokens l (ended.Whole e end) o = (end ≤ length tokens) × (o ≡ outcome (Some (tree_of e)) l (tokens_from bytes tokens end))
Tells bytes tokens l (ended.Broken end h) o = (n : ℕ) × (h ≡ min 65 n) × (end ≤ length tokens) × (o ≡ outcome None n (tokens_from bytes tokens end))
Tells bytes tokens l ended.TooHigh o = ⊥

-- behind the next token
pub record IsPast (ahead last : Lookahead) : Type 0 where
  pub at_is : last.here.at ≡ min (ahead.here.at + 1) (length ahead.here.tokens)
  pub bytes_are : last.here.bytes ≡ ahead.here.bytes
  pub tokens_are : last.here.tokens ≡ ahead.here.tokens
  pub fits : Fits last

-- whether the next word goes on with a state, and the reader is behind it then
abbrev pub Takes : State → Lookahead → Bool → Reader → Type 0
Takes st ahead true new = (step st (next_token ahead) ≡ Some (state_of new)) × (ahead.here.at < length ahead.here.tokens) × IsPast ahead new.ahead × IsTall new.form
Takes st ahead false new = step st (next_token ahead) ≡ None

-- reading from a state on goes on where the reader is then, or ends so, with one outcome
abbrev pub Turns : ℕ → State → Lookahead → Option Ended → Reader → Type 0
Turns l st ahead None new = Follows ahead new.ahead × (ahead.here.at < new.ahead.here.at) × (run st (left ahead) ≡ run (state_of new) (left new.ahead)) × IsTall new.form
Turns l st ahead (Some e) new = Tells ahead.here.bytes ahead.here.tokens l e (run st (left ahead))

-- more than a form's first words are read, and neither a label's name nor the first item of STRING comes
abbrev pub is_inner : Shape → Bool
is_inner (using reading) = false
is_inner (coloned u p) = false
is_inner (string_opened p) = false
is_inner sh = true

-- a mark that ends the expression in the innermost form
abbrev pub ended_in : Lexeme → Tree → List Frame → Option State
ended_in (mark m) e k = fill_hole m e k
ended_in x e k = None

-- no operator and no `:=` goes on with an operand: at most a mark ends the expression
abbrev pub EndsHere : Value → List Frame → Lookahead → Type 0
EndsHere v k ahead = (sh : Shape) → Shows v sh ahead →
    step (state (setting_of ahead.setting) sh k) (token (next_place ahead) (next_word ahead)) ≡ ended_by (next_lexeme ahead) (tree_in (left_of v)) k
