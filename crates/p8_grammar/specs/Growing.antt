-- internal: how a form goes on where no word of its own comes next.
use Rattle.std.specs.Prelude.{List, Option, None}
use Rattle.p8_tree.specs.Expressions.{Tree}
use Rattle.p8_grammar.specs.Lexemes.{Lexeme, mark}
use Rattle.p8_grammar.specs.Machine.{Frame, reduce, State, fill_hole}

-- a mark that ends the expression, where no operator and no `:=` goes on with it
abbrev pub ended_by : Lexeme → Tree → List Frame → Option State
ended_by (mark m) e k = (let x = reduce 22 e k in fill_hole m x.0 x.1)
ended_by x e k = None
