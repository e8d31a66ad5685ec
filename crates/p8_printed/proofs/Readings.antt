-- What a source can have: names, sizes, and expressions that were read.
use Rattle.std.proofs.Common.{ℕ, ◌≤◌, List}
use Rattle.std.specs.Prelude.{IsTrue}
use Rattle.p8_tree.specs.Expressions.{Tree}
use Rattle.p8_grammar.specs.Lexemes as lexemes
use Rattle.p8_grammar.specs.Lexemes.{Setting, in_action, is_value, Token}
use Rattle.p8_grammar.specs.Grammar.{IsExpression}
use Rattle.p8_grammar.specs.Heights.{height}
use Rattle.p8_expr.specs.Sources.{IsLexeme, AreLexemes}
pub use Rattle.p8_printed.proofs.LabelWords.{IsWord}
pub use Rattle.p8_blocks.proofs.DataMade.{IsSize, byte_size, word_size, long_size}

-- an expression that was read from tokens of a source
pub record IsRead (s : Setting) (e : Tree) : Type 0 where
  pub tokens : List Token
  pub is : IsExpression s e tokens
  pub good : AreLexemes tokens
  pub low : height e ≤ 64
  pub value : IsTrue (is_value s)

-- an action that was read from tokens of a source
pub record IsReadAction (e : Tree) : Type 0 where
  pub tokens : List Token
  pub is : IsExpression in_action e tokens
  pub good : AreLexemes tokens
  pub low : height e ≤ 64

-- a name that isn't reserved, in capitals
abbrev pub IsName : List ℕ → Type 0
IsName n = IsLexeme (lexemes.name n)

abbrev pub IsText : List ℕ → Type 0
IsText t = IsLexeme (lexemes.string t)
