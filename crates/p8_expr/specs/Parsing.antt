-- What reading an expression answers. From one token on, T is the longest run of tokens that begins an expression. It
-- is read where it is an expression no higher than a limit, and no token after it is refused by itself.
use Rattle.std.specs.Prelude.{◌≡◌, ℕ, ◌+◌, ◌-◌, ◌≤◌, nat_lt, if◌then◌else◌, List, map, drop, take, length, slice_get, Option, Some, None, option_and_then}
use Rattle.p8_tree.specs.Expressions.{Tree}
use Rattle.p8_lexer.specs.declared.token.Token as lexer_token
use Rattle.p8_tree.specs.declared.refusal.Refusal.{Refusal}
use Rattle.p8_tree.specs.declared.refusal.Refusal.TheVariants.{TooNested, Unexpected}
use Rattle.p8_tree.specs.Refusals.{refusal_number}
use Rattle.p8_lexer.specs.Words.{word_of}
use Rattle.p8_grammar.specs.Lexemes.{Setting, Token}
use Rattle.p8_grammar.specs.Grammar.{IsExpression, IsLongestFront}
use Rattle.p8_grammar.specs.Heights.{height, IsTooHigh}
use Rattle.p8_expr.specs.Words.{token_of}
use Rattle.p8_expr.specs.Refusals.{refusal_of}
use Rattle.p8_tree.specs.declared.faults.Fault.{Fault}

-- how high any expression may be
abbrev pub greatest_height : ℕ
greatest_height = 64

-- the tokens of a file from one on, as the grammar has them
abbrev pub tokens_from : List ℕ → List lexer_token.Token → ℕ → List Token
tokens_from bytes tokens at = map (token_of bytes) (drop at tokens)

-- the refusal of the token of this number, where it is refused by itself
unfoldable pub refusal_at : Setting → List ℕ → List lexer_token.Token → ℕ → Option Refusal
refusal_at s bytes tokens i = option_and_then (λ t. refusal_of s (word_of bytes t)) (slice_get tokens i)

-- how reading ends: with a tree and the number of the token after it, or with a refusal and the number of the token
-- where it stands
pub data Outcome : Type 0 where
  tree : Tree → ℕ → Outcome
  refused : Refusal → ℕ → Outcome

-- how reading from the token `at` on ends where T are these tokens, and `end` is the number of the token after them
pub data Ends (s : Setting) (limit : ℕ) (bytes : List ℕ) (tokens : List lexer_token.Token) (at end : ℕ) (ts : List Token) : Outcome → Type 0 where
  -- T is an expression
  whole : {e : Tree} → IsExpression s e ts → height e ≤ limit → refusal_at s bytes tokens end ≡ None → Ends s limit bytes tokens at end ts (tree e end)
  -- every expression that begins with T is too high: this comes before all else
  too_high : IsTooHigh s limit ts → Ends s limit bytes tokens at end ts (refused TooNested at)
  -- the token after T is refused by itself
  unfit : {r : Refusal} → ¬ IsTooHigh s limit ts → refusal_at s bytes tokens end ≡ Some r → Ends s limit bytes tokens at end ts (refused r end)
  -- T is no expression, and the token after it is unexpected; T's last one where none follows
  broken_off : ¬ IsTooHigh s limit ts → refusal_at s bytes tokens end ≡ None → ((e : Tree) → ¬ IsExpression s e ts) →
      Ends s limit bytes tokens at end ts (refused Unexpected (if nat_lt end (length tokens) then end else end - 1))

-- reading from the token `at` on ends so, where an expression may be as high as the limit
abbrev pub Parses : Setting → ℕ → List ℕ → List lexer_token.Token → ℕ → Outcome → Type 0
Parses s limit bytes tokens at o =
    (n : ℕ) × IsLongestFront s (tokens_from bytes tokens at) n × Ends s limit bytes tokens at (at + n) (take n (tokens_from bytes tokens at)) o

-- a fault tells this refusal at the token of this number
abbrev pub IsFaultAt : Refusal → List lexer_token.Token → ℕ → Fault → Type 0
IsFaultAt r tokens i fault =
    (t : lexer_token.Token) × (slice_get tokens i ≡ Some t) × (fault.number ≡ refusal_number r) × (fault.place ≡ t.place)

-- reading from the token `at` on is refused so
abbrev pub IsFault : Setting → ℕ → List ℕ → List lexer_token.Token → ℕ → Fault → Type 0
IsFault s limit bytes tokens at fault = (r : Refusal) × (i : ℕ) × Parses s limit bytes tokens at (refused r i) × IsFaultAt r tokens i fault
