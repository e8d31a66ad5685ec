-- When each expression that begins with some tokens is higher than a limit.
use Rattle.std.specs.Prelude.{ℕ, ◌<◌, List, ◌++◌}
use Rattle.p8_tree.specs.Expressions.{Tree}
pub use Rattle.p8_tree.specs.Heights.{height, height_in, height_in_variable, height_in_index, height_in_bits, height_of_item, height_of_trees, height_of_items}
use Rattle.p8_grammar.specs.Lexemes.{Setting, Token}
use Rattle.p8_grammar.specs.Grammar.{IsExpression}

-- each expression that begins with these tokens is higher than n
abbrev pub IsTooHigh : Setting → ℕ → List Token → Type 0
IsTooHigh s n ts = (rest : List Token) (e : Tree) → IsExpression s e (ts ++ rest) → n < height e
