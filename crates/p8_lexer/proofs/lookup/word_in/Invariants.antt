use Rattle.std.proofs.Common.{◌≡◌, map, drop}
use Rattle.p8_lexer.specs.Words.{capital}
use Rattle.p8_lexer.specs.Table.{row_of, word_in}
use Rattle.p8_lexer.proofs.lookup.word_in.Given as goal

abbrev pub invariant-loop-number : goal.invariant-loop-number
invariant-loop-number l =
    word_in (map row_of l.rows) l.numbers (map capital l.text) ≡ word_in (map row_of l.rows) (drop l.number-index l.numbers) (map capital l.text)
