use Rattle.std.proofs.Common.{◌≡◌, map, drop}
use Rattle.p8_lexer.specs.Meanings.{first_by}
use Rattle.p8_lexer.proofs.word.first_by.Given as goal

abbrev pub invariant-loop-word : goal.invariant-loop-word
invariant-loop-word l = first_by l.sought (map (λ r. r.1) l.rows) ≡ first_by l.sought (map (λ r. r.1) (drop l.word-index l.rows))
