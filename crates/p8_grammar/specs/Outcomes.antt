-- internal: what comes of reading on, as far as words go on with what has been read.
use Rattle.std.specs.Prelude.{◌≡◌, ℕ, ◌<◌, ◌≤◌, ◌-◌, ◌↔◌, Option, Some, None, List, [], ◌∷◌, length, take, drop}
use Rattle.p8_tree.specs.Expressions.{Tree}
use Rattle.p8_grammar.specs.Lexemes.{Setting, Token}
use Rattle.p8_grammar.specs.Grammar.{IsExpression, IsLongestFront}
use Rattle.p8_grammar.specs.Heights.{IsTooHigh}
use Rattle.p8_grammar.specs.Machine.{State, step, accept}
use Rattle.p8_grammar.specs.Least.{least}

-- the tree of what was read, where it is an expression, the least height of one that begins so, and the tokens that are left
pub data Outcome : Type 0 where
  outcome : Option Tree → ℕ → List Token → Outcome

abbrev pub stopped : State → List Token → Outcome
stopped st ts = outcome (accept st) (least st) ts

abbrev pub or_else : Option State → (State → Outcome) → Outcome → Outcome
or_else (Some st) f o = f st
or_else None f o = o

abbrev pub run : State → List Token → Outcome
run st [] = stopped st []
run st (t ∷ ts) = or_else (step st t) (λ st'. run st' ts) (stopped st (t ∷ ts))

-- what an outcome means for the tokens
pub record Means (s : Setting) (ts : List Token) (o : Option Tree) (l : ℕ) (left : List Token) : Type 0 where
  pub fewer : length left ≤ length ts
  pub rest : left ≡ drop (length ts - length left) ts
  pub longest : IsLongestFront s ts (length ts - length left)
  pub tree : (e : Tree) → (o ≡ Some e) ↔ IsExpression s e (take (length ts - length left) ts)
  pub high : (h : ℕ) → IsTooHigh s h (take (length ts - length left) ts) ↔ (h < l)
